-- `number::mantissa_of`: two cases by the byte behind the first digits: a point gives `code_pointed`, any other byte or the end `code_plain`, both of
-- NumberLaws. Assumes nothing.
use Rattle.std.proofs.Common.{rules}
use Rattle.std.proofs.lemmas.List.{take_rest}
use Rattle.number.proofs.NumberLaws.{code_pointed, code_plain}
use Rattle.number.proofs.mantissa_of.Goals as goal

pub returns-then-eq-clause-value : goal.returns-then-eq-clause-value
returns-then-eq-clause-value c =
    code_pointed c.args.s.now _ c.digits_of-whole.ensures.value (search rules) _ (rw take_rest at c.digits_of-part.ensures.value)

pub returns-else-eq-clause-value : goal.returns-else-eq-clause-value
returns-else-eq-clause-value c = code_plain c.args.s.now _ c.digits_of-whole.ensures.value (search rules)
