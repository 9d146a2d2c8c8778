-- `entry::map_of`: each of six returns is one law of EntryLaws, chosen by the bytes met: `code_none`, `code_odd`, `code_open`, `code_one` or `code_two`.
-- Assumes nothing.
use Rattle.std.proofs.Common.{◌∙◌, rules}
use Rattle.std.proofs.lemmas.List.{take_rest}
use Rattle.entry.proofs.EntryLaws.{code_none, code_one, code_two, code_odd, code_open}
use Rattle.entry.proofs.map_of.Goals as goal

pub returns-then-ne-clause-value : goal.returns-then-ne-clause-value
returns-then-ne-clause-value c = code_none c.args.s.now (search rules)

pub returns-in_err-get-clause-value : goal.returns-in_err-get-clause-value
returns-in_err-get-clause-value c = c.from_residual.ensures
    ∙ code_odd c.args.s.now (search rules) c.digits_of-x.result (rw take_rest at c.digits_of-x.ensures.value) (search rules) (search rules)

pub returns-then-ne-2-clause-value : goal.returns-then-ne-2-clause-value
returns-then-ne-2-clause-value c =
    code_open c.args.s.now (search rules) c.digits_of-x.result (rw take_rest at c.digits_of-x.ensures.value) (search rules) c.digits_of-y.result
    (rw take_rest at c.digits_of-y.ensures.value)
    (search rules)

pub returns-in-41-clause-value : goal.returns-in-41-clause-value
returns-in-41-clause-value c = c.then_some.ensures
    ∙ code_one c.args.s.now (search rules) c.digits_of-x.result (rw take_rest at c.digits_of-x.ensures.value) (search rules)

pub returns-after-x-gt0-clause-value : goal.returns-after-x-gt0-clause-value
returns-after-x-gt0-clause-value c = c.then_some-in-58.ensures
    ∙ code_two c.args.s.now (search rules) c.digits_of-x.result (rw take_rest at c.digits_of-x.ensures.value) (search rules) c.digits_of-y.result
    (rw take_rest at c.digits_of-y.ensures.value) (search rules) c.if-x-gt0.then_some (search rules)

pub returns-in_default-clause-value : goal.returns-in_default-clause-value
returns-in_default-clause-value c =
    code_odd c.args.s.now (search rules) c.digits_of-x.result (rw take_rest at c.digits_of-x.ensures.value) (search rules) (search rules)
