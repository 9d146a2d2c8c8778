-- `attribute::numbered`: each return is a law of Digits.
use Rattle.std.proofs.Common.{arith}
use Rattle.attribute.proofs.Digits.{digit, no_digit, at_char, at_none, at_other, at_large, further, at_end}
use Rattle.attribute.proofs.numbered.Goals as goal

pub returns-in_err-character_of : goal.returns-in_err-character_of
returns-in_err-character_of c = rw c.from_residual.ensures (at_none c.requires.1 c.loop-count.invariant c.loop-count-test.true c.if-b-eq59.true
    c.if-count-gt0.true c.in_err-character_of.ensures)

pub returns-then-count-gt0 : goal.returns-then-count-gt0
returns-then-count-gt0 c = at_char c.requires.1 c.loop-count.invariant c.loop-count-test.true c.if-b-eq59.true c.if-count-gt0.true
    c.in_ok-character_of.ensures

pub returns-in_err-digit : goal.returns-in_err-digit
returns-in_err-digit c = rw c.from_residual-in_err-digit.ensures (at_other c.requires.1 c.loop-count.invariant c.loop-count-test.true (λ e. omega arith)
    (no_digit c.requires.1 c.from.ensures c.in_err-digit.ensures.value))

pub returns-in_err-n : goal.returns-in_err-n
returns-in_err-n c = rw c.from_residual-in_err-n.ensures (at_large c.requires.1 c.loop-count.invariant c.loop-count-test.true (omega arith)
    (omega (arith, c.in_err-n.ensures)))

pub loop-count-preserved : goal.loop-count-preserved
loop-count-preserved c =
    let d = digit c.requires.1 c.from.ensures c.in_ok-digit.ensures.value in
    further c.requires.1 c.loop-count.invariant c.loop-count-test.true (omega arith) (omega (arith, c.in_ok-n.ensures))

pub returns : goal.returns
returns c = at_end c.loop-count.invariant c.loop-count-test.false
