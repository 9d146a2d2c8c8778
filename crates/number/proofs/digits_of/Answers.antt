-- `number::digits_of`: `scan_step` and `scan_stop` of DigitLaws. Assumes nothing.
use Rattle.std.proofs.Common.{sym, ◌∙◌, arith}
use Rattle.number.proofs.DigitLaws.{scan_step, scan_stop, scan_end}
use Rattle.number.proofs.digits_of.Goals as goal

pub returns-then-not-is_ascii_digit-clause-value : goal.returns-then-not-is_ascii_digit-clause-value
returns-then-not-is_ascii_digit-clause-value c =
    scan_stop c.loop-count.invariant c.loop-count-test.true (sym c.is_ascii_digit.ensures.value ∙ c.if-not-is_ascii_digit.true)

pub loop-count-preserved : goal.loop-count-preserved
loop-count-preserved c = rw c.push_digit-value.ensures (scan_step c.loop-count.invariant c.loop-count-test.true
    (sym c.is_ascii_digit.ensures.value ∙ c.if-not-is_ascii_digit.false))

pub returns-clause-value : goal.returns-clause-value
returns-clause-value c = scan_end c.loop-count.invariant (omega arith)
