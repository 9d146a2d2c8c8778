-- `entry::field_of`: each return is one law of EntryLaws over what the calls ensure: no comma is `code_absent`, a comma with nothing behind it `code_empty`,
-- an ill-formed number `code_ill`, a number `code_given`. Assumes nothing.
use Rattle.std.proofs.Common.{◌∙◌, ap, rules, sym}
use Rattle.std.proofs.lemmas.List.{take_rest}
use Rattle.std.specs.Result.{result_ok}
use Rattle.number.specs.declared.Number.{Number}
use Rattle.entry.proofs.EntryLaws.{code_absent, code_empty, code_ill, code_given}
use Rattle.entry.proofs.field_of.Goals as goal

pub returns-then-ne-clause-value : goal.returns-then-ne-clause-value
returns-then-ne-clause-value c = code_absent c.args.s.now (search rules)

pub returns-then-ends_field-clause-value : goal.returns-then-ends_field-clause-value
returns-then-ends_field-clause-value c = code_empty c.args.s.now (search rules) (rw take_rest at (sym c.ends_field.ensures ∙ c.if-ends_field.true))

pub returns-in_err-n-clause-value : goal.returns-in_err-n-clause-value
returns-in_err-n-clause-value c = c.from_residual.ensures
    ∙ code_ill c.args.s.now (search rules) (rw take_rest at (sym c.ends_field.ensures ∙ c.if-ends_field.false)) _
    (rw take_rest at c.sign_length-sign.ensures.value)
    (c.in_err-n.ensures.value ∙ ap (result_ok {T = Number} {E = Number}) (rw (take_rest, take_rest) at c.number_of.ensures.value))

pub returns-clause-value : goal.returns-clause-value
returns-clause-value c = code_given c.args.s.now (search rules) (rw take_rest at (sym c.ends_field.ensures ∙ c.if-ends_field.false)) _
    (rw take_rest at c.sign_length-sign.ensures.value) _
    (c.in_ok-n.ensures.value ∙ ap (result_ok {T = Number} {E = Number}) (rw (take_rest, take_rest) at c.number_of.ensures.value))
    _ (rw (← take_rest c.args.s.now 1) (search rules))
