-- `lines::first_line`: the line feed that was found is where the document cuts, and what follows starts behind it. Assumes nothing.
use Rattle.std.proofs.Common.{◌+◌, refl, sym, ◌∙◌, ap, eqb, take_all, length-drop, arith}
use Rattle.std.proofs.Math.Seq.{drop-length, take-nil}
use Rattle.lines.specs.Labels.{place_ptr}
use Rattle.lines.proofs.Cuts.{cut_by}
use Rattle.lines.proofs.Places.{next_found, next_missing}
use Rattle.lines.proofs.first_line.Goals as goal

pub returns-in-Some-clause-bytes : goal.returns-in-Some-clause-bytes
returns-in-Some-clause-bytes c = sym (cut_by (λ b. eqb b 10) c.args.input.now _ (sym c.in-Some.is ∙ c.position_of.ensures)).0

pub returns-in-Some-clause-rest : goal.returns-in-Some-clause-rest
returns-in-Some-clause-rest c =
    take_all _ _ (omega (arith, length-drop (c.in-Some.end + 1) c.args.input.now))
    ∙ sym (cut_by (λ b. eqb b 10) c.args.input.now _ (sym c.in-Some.is ∙ c.position_of.ensures)).1

pub returns-in-None-clause-bytes : goal.returns-in-None-clause-bytes
returns-in-None-clause-bytes c = sym (cut_by (λ b. eqb b 10) c.args.input.now _ (sym c.in-None.is ∙ c.position_of.ensures)).0

pub returns-in-None-clause-rest : goal.returns-in-None-clause-rest
returns-in-None-clause-rest c =
    let e = (cut_by (λ b. eqb b 10) c.args.input.now _ (sym c.in-None.is ∙ c.position_of.ensures)).1 in
    grind (arith, drop-length, take-nil)

pub returns-in-Some-clause-own : goal.returns-in-Some-clause-own
returns-in-Some-clause-own c =
    (refl, ap (place_ptr c.args.input.ref_ptr) (sym (next_found c.args.input.now _ (sym c.in-Some.is ∙ c.position_of.ensures))))

pub returns-in-None-clause-own : goal.returns-in-None-clause-own
returns-in-None-clause-own c =
    (refl, ap (place_ptr c.args.input.ref_ptr) (sym (next_missing c.args.input.now (sym c.in-None.is ∙ c.position_of.ensures))))
