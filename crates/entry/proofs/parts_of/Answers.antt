-- `entry::parts_of`: each return is one law of EntryLaws over the parts found so far. Assumes nothing.
use Rattle.std.proofs.Common.{◌≡◌, true, false, ◌∙◌, rules}
use Rattle.std.proofs.lemmas.List.{take_rest}
use Rattle.entry.specs.Parts.{is_minus}
use Rattle.entry.proofs.EntryLaws.{no_front, no_first, minus_first, ill_offsets, code_parts}
use Rattle.entry.proofs.parts_of.Goals as goal

pub returns-in_err-front-clause-value : goal.returns-in_err-front-clause-value
returns-in_err-front-clause-value c = c.from_residual.ensures ∙ no_front c.args.e.bytes.now c.in_err-front.ensures.value

pub returns-in_err-x-clause-value : goal.returns-in_err-x-clause-value
returns-in_err-x-clause-value c = c.from_residual-in_err-x.ensures
    ∙ no_first c.args.e.bytes.now _ c.in_ok-front.ensures.value (rw take_rest at c.in_err-x.ensures.value)

pub returns-then-is_some_and-clause-value : goal.returns-then-is_some_and-clause-value
returns-then-is_some_and-clause-value c =
    let n : is_minus c.in_ok-x.x.number ≡ true = search rules in
    minus_first c.args.e.bytes.now _ c.in_ok-front.ensures.value _ (rw take_rest at c.in_ok-x.ensures.value) n

pub returns-in_err-offsets-clause-value : goal.returns-in_err-offsets-clause-value
returns-in_err-offsets-clause-value c =
    let n : is_minus c.in_ok-x.x.number ≡ false = search rules in
    c.from_residual-in_err-offsets.ensures
    ∙ ill_offsets c.args.e.bytes.now _ c.in_ok-front.ensures.value _ (rw take_rest at c.in_ok-x.ensures.value) n
    (rw (take_rest, take_rest) at c.in_err-offsets.ensures.value)

pub returns-clause-value : goal.returns-clause-value
returns-clause-value c =
    let n : is_minus c.in_ok-x.x.number ≡ false = search rules in
    c.then_some.ensures
    ∙ code_parts c.args.e.bytes.now _ c.in_ok-front.ensures.value _ (rw take_rest at c.in_ok-x.ensures.value) n _
    (rw (take_rest, take_rest) at c.in_ok-offsets.ensures.value) _ (rw (take_rest, take_rest, take_rest) at c.ends_entry.ensures)
