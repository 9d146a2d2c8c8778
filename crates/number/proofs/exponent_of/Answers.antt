-- `number::exponent_of`: two cases by the letter: `code_raised` or `code_unraised` of NumberLaws over what the calls ensure. Assumes nothing.
use Rattle.std.proofs.Common.{rules}
use Rattle.std.proofs.lemmas.List.{take_rest}
use Rattle.number.proofs.NumberLaws.{code_raised, code_unraised}
use Rattle.number.proofs.exponent_of.Goals as goal

pub returns-then-not-matches-clause-value : goal.returns-then-not-matches-clause-value
returns-then-not-matches-clause-value c = code_unraised c.args.s.now (search rules)

pub returns-clause-value : goal.returns-clause-value
returns-clause-value c =
    code_raised c.args.s.now (search rules) _ (rw take_rest at c.sign_length-sign.ensures.value) _
    (rw (take_rest, take_rest) at c.digits_of-digits.ensures.value) _ (rw (← take_rest c.args.s.now 1) (search rules))
