-- `entry::offsets_of`: each return is one law of EntryLaws over the two fields: `no_offsets`, `ill_u`, `ill_v` or `code_offsets`. Assumes nothing.
use Rattle.std.proofs.Common.{◌∙◌, rules}
use Rattle.std.proofs.lemmas.List.{take_rest}
use Rattle.entry.proofs.EntryLaws.{no_offsets, ill_u, ill_v, code_offsets}
use Rattle.entry.proofs.offsets_of.Goals as goal

pub returns-then-ne-clause-value : goal.returns-then-ne-clause-value
returns-then-ne-clause-value c = no_offsets c.args.s.now (search rules)

pub returns-in_err-y-clause-value : goal.returns-in_err-y-clause-value
returns-in_err-y-clause-value c = c.from_residual.ensures ∙ ill_u c.args.s.now c.in_err-y.ensures.value

pub returns-in_err-z-clause-value : goal.returns-in_err-z-clause-value
returns-in_err-z-clause-value c = c.from_residual-in_err-z.ensures ∙ ill_v c.args.s.now _ c.in_ok-y.ensures.value (rw take_rest at c.in_err-z.ensures.value)

pub returns-clause-value : goal.returns-clause-value
returns-clause-value c = code_offsets c.args.s.now _ c.in_ok-y.ensures.value _ (rw take_rest at c.in_ok-z.ensures.value) _ _ (search rules) (search rules) _
    (search rules)
