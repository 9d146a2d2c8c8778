-- `number::number_of`: both returns are laws of NumberLaws, `code_over` and `code_sized`; `mant_asked` and `expo_asked` give what `to_thousandths` requires
-- from the two counts of digits. Assumes nothing.
use Rattle.std.proofs.Common.{◌≡◌, false, ◌&&◌, leb, ◌∙◌, arith, rules}
use Rattle.std.proofs.lemmas.List.{take_rest}
use Rattle.number.proofs.NumberLaws.{code_sized, code_over, mant_asked, expo_asked}
use Rattle.number.proofs.number_of.Goals as goal

pub returns-then-m-gt-DIGITS-clause-value : goal.returns-then-m-gt-DIGITS-clause-value
returns-then-m-gt-DIGITS-clause-value c =
    let h : (leb c.mantissa_of-m.result.count 18 && leb c.exponent_of-x.result.count 2) ≡ false = search rules in
    c.formed.ensures ∙ code_over _ _ c.mantissa_of-m.ensures.value _ (rw take_rest at c.exponent_of-x.ensures.value) _ (search rules) h

pub to_thousandths-size-requires : goal.to_thousandths-size-requires
to_thousandths-size-requires c =
    let m = mant_asked _ _ c.mantissa_of-m.ensures.value (omega arith) in
    (m, expo_asked _ _ (rw take_rest at c.exponent_of-x.ensures.value) (omega arith))

pub returns-clause-value : goal.returns-clause-value
returns-clause-value c = c.formed-2.ensures
    ∙ code_sized _ _ c.mantissa_of-m.ensures.value _ (rw take_rest at c.exponent_of-x.ensures.value) _ (search rules) (omega arith) (omega arith) _
    c.to_thousandths-size.ensures
