-- `number::digits_of`: what the digits left come to, read behind `value`, is what all come to behind `start` (`Scanned` of DigitLaws). Assumes nothing.
use Rattle.number.proofs.DigitLaws.{Scanned}
use Rattle.number.proofs.digits_of.Given as goal

abbrev pub invariant-loop-count : goal.invariant-loop-count
invariant-loop-count l = Scanned l.fn.s l.start l.count l.value
