-- `units::single_count`: a turn is one law of Decoded. Assumes nothing.
use Rattle.std.proofs.Common.{◌≤◌, ◌<◌, length, sym, ◌∙◌, arith}
use Rattle.label.specs.Fetched.{halves}
use Rattle.units.proofs.Decoded.{single_unit}
use Rattle.units.proofs.single_count.Goals as goal

pub loop-i-preserved : goal.loop-i-preserved
loop-i-preserved c =
    let us = halves c.args.us.now in
    let l : c.loop-i.i < length us = omega (arith, c.unit_count-i-end.ensures.value, c.loop-i-test.true) in
    let k : c.unit_at.result ≤ 65535 = omega (arith, c.unit_at.type_inv) in
    c.loop-i.invariant ∙ single_unit us c.loop-i.i l c.unit_at.ensures k (sym c.is_single.ensures ∙ c.if-not-is_single.false)
