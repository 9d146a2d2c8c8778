-- `survey::survey_run`: the loop keeps `Underway`; an entry that is taken, one that is refused and the end are a law of Surveying each. Assumes nothing.
use Prim.Native.Nat.{◌+◌}
use native.Mathlib.Omega.{arith}
use native.Mathlib.Nat.{add-zero}
use Rattle.std.proofs.Common.{◌≡◌, ◌∷◌, [], sym, ◌∙◌, ap, subst, rules, Result, Ok, Err}
use Rattle.label.specs.declared.Refusal.{Refusal}
use Rattle.entry.specs.Results.{results_left, item_said, result_said}
use Rattle.entry.specs.declared.entries.ReadEntry.{ReadEntry}
use Rattle.entry.specs.declared.entries.ReadEntry.TheVariants.{Index, Full}
use Rattle.text.specs.Moves.{units}
use Rattle.survey.specs.Steps.{Turns}
use Rattle.survey.proofs.Endings.{nothing_is, run_nothing}
use Rattle.survey.proofs.Surveying.{Underway, begins, rounding_few, entry_few, goes_on, stops, unread, ends, rounded_all}
use Rattle.survey.proofs.survey_run.Goals.{In-Some, In-None, In_ok-walk-in-Index, In_ok-walk-in-Full}
use Rattle.survey.proofs.survey_run.Goals as goal

pub returns-then-has_nothing-clause-result_value : goal.returns-then-has_nothing-clause-result_value
returns-then-has_nothing-clause-result_value c =
    let us = units c.args.run.passage in
    rw c.at.ensures (run_nothing us c.args.indices.now
    (sym (nothing_is us c.args.indices.now _ _ c.has_nothing.ensures c.args.run.counted) ∙ c.if-has_nothing.true))

pub loop-entry-init : goal.loop-entry-init
loop-entry-init c =
    let us = units c.args.run.passage in
    let w = c.new-walk.ensures in
    begins us c.args.indices.now _ _ w.at (ap units w.ahead.0) (w.ahead.1 ∙ c.args.run.counted)
    (ap results_left c.into_iter-entry-iterator.ensures.into_iter_gives ∙ c.new-entry-items.ensures)
    (omega (arith, c.args.run.counted, c.args.run.few)) c.requires
    (sym (nothing_is us c.args.indices.now _ _ c.has_nothing.ensures c.args.run.counted) ∙ c.if-has_nothing.false)

-- what is left in a turn, and at the end
left : (c : In-Some) → Underway (units c.args.run.passage) c.args.indices.now c.loop-entry.walk c.loop-entry.rounded
    (result_said c.in-Some.entry ∷ results_left c.next.new.self)
left c = subst (Underway _ _ _ _) c.in-Some.ensures.steps c.loop-entry.invariant

none_left : (c : In-None) → Underway (units c.args.run.passage) c.args.indices.now c.loop-entry.walk c.loop-entry.rounded []
none_left c = subst (Underway _ _ _ _) c.in-None.ensures.steps.0 c.loop-entry.invariant

-- what the entry that was read says
said : (r : Result ReadEntry Refusal) (e : ReadEntry) (f : ReadEntry) → r ≡ Ok e → e ≡ f → result_said r ≡ Ok (item_said f)
said r e f p q = ap result_said p ∙ ap (λ y. Ok (item_said y)) q

-- the pass behind an entry that was taken
took_index : (c : In_ok-walk-in-Index) → Underway (units c.args.run.passage) c.args.indices.now c.in_ok-walk-in-Index.walk c.loop-entry.rounded
    (results_left c.next.new.self)
took_index c =
    let e = Index c.in-Index.index c.in-Index.used in
    let took : c.take_index.result ≡ Ok c.in_ok-walk-in-Index.walk = search rules in
    let u = subst (Underway _ _ _ _) c.in-Some.ensures.steps c.loop-entry.invariant in
    subst (λ n. Underway (units c.args.run.passage) c.args.indices.now c.in_ok-walk-in-Index.walk n (results_left c.next.new.self))
    (add-zero c.loop-entry.rounded)
    (goes_on _ _ u (item_said e) c.in_ok-walk-in-Index.walk (said _ _ e c.in_ok-entry.was c.in-Index.is)
    (subst (Turns _ (item_said e)) took (c.take_index.ensures c.in-Index.index c.in-Index.used)))

took_full : (c : In_ok-walk-in-Full) → Underway (units c.args.run.passage) c.args.indices.now c.in_ok-walk-in-Full.walk
    (c.loop-entry.rounded + c.in-Full.x.rounded) (results_left c.next.new.self)
took_full c =
    let x = c.in-Full.x in
    let took : c.take_entry.result ≡ Ok c.in_ok-walk-in-Full.walk = search rules in
    let u = subst (Underway _ _ _ _) c.in-Some.ensures.steps c.loop-entry.invariant in
    goes_on _ _ u x c.in_ok-walk-in-Full.walk (said _ _ (Full x) c.in_ok-entry.was c.in-Full.is) (subst (Turns _ x) took c.take_entry.ensures)

pub returns-in_err-entry-clause-result_value : goal.returns-in_err-entry-clause-result_value
returns-in_err-entry-clause-result_value c =
    let e = c.in_err-entry.field-0.0 in
    let r : c.from_residual.result ≡ Err e = search rules in
    rw r (unread _ _ (left (goal.at.returns-in_err-entry-clause-result_value c).In-Some) e (ap result_said c.in_err-entry.was))

pub take_index-requires : goal.take_index-requires
take_index-requires c = entry_few _ _ (left (goal.at.take_index-requires c).In-Some)

pub take_entry-requires : goal.take_entry-requires
take_entry-requires c = entry_few _ _ (left (goal.at.take_entry-requires c).In-Some)

pub returns-in_err-walk-in-Index-clause-result_value : goal.returns-in_err-walk-in-Index-clause-result_value
returns-in_err-walk-in-Index-clause-result_value c =
    let i = Index c.in-Index.index c.in-Index.used in
    let e = c.in_err-walk-in-Index.field-0.0 in
    let no : c.take_index.result ≡ Err e = search rules in
    let r : c.from_residual-in_err-walk-in-Index.result ≡ Err e = search rules in
    rw r (stops _ _ (left (goal.at.returns-in_err-walk-in-Index-clause-result_value c).In-Some) (item_said i) e (said _ _ i c.in_ok-entry.was c.in-Index.is)
    (subst (Turns _ (item_said i)) no (c.take_index.ensures c.in-Index.index c.in-Index.used)))

pub loop-entry-preserved-in-Index : goal.loop-entry-preserved-in-Index
loop-entry-preserved-in-Index c = took_index (goal.at.loop-entry-preserved-in-Index c).In_ok-walk-in-Index

pub returns-in_err-walk-in-Full-clause-result_value : goal.returns-in_err-walk-in-Full-clause-result_value
returns-in_err-walk-in-Full-clause-result_value c =
    let x = c.in-Full.x in
    let e = c.in_err-walk-in-Full.field-0.0 in
    let no : c.take_entry.result ≡ Err e = search rules in
    let r : c.from_residual-in_err-walk-in-Full.result ≡ Err e = search rules in
    rw r (stops _ _ (left (goal.at.returns-in_err-walk-in-Full-clause-result_value c).In-Some) x e (said _ _ (Full x) c.in_ok-entry.was c.in-Full.is)
    (subst (Turns _ x) no c.take_entry.ensures))

pub overflow_add-rounded : goal.overflow_add-rounded
overflow_add-rounded c =
    let u = took_full (goal.at.overflow_add-rounded c).In_ok-walk-in-Full in
    record { fits = omega (arith, rounding_few u) }

pub loop-entry-preserved : goal.loop-entry-preserved
loop-entry-preserved c = took_full (goal.at.loop-entry-preserved c).In_ok-walk-in-Full

pub returns-in_err-close-clause-result_value : goal.returns-in_err-close-clause-result_value
returns-in_err-close-clause-result_value c =
    let e = c.in_err-close.field-0.0 in
    let r : c.from_residual-in_err-close.result ≡ Err e = search rules in
    rw r (c.in_err-close.ensures ∙ ends (none_left (goal.at.returns-in_err-close-clause-result_value c).In-None))

pub returns-clause-result_value : goal.returns-clause-result_value
returns-clause-result_value c = c.in_ok-close.ensures ∙ ends (none_left (goal.at.returns-clause-result_value c).In-None)

pub returns-clause-rounded : goal.returns-clause-rounded
returns-clause-rounded c = rounded_all (none_left (goal.at.returns-clause-rounded c).In-None)
