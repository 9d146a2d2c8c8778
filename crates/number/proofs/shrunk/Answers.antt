-- `number::shrunk`: past 19 places `shrink_none` and `none_whole` give 0; else the test on quotient and remainder decides `round_up` or `round_down`, all
-- of ValueLaws. Assumes nothing.
use Rattle.std.proofs.Common.{◌<◌, arith, mod-lt}
use Rattle.number.proofs.ValueLaws.{shrink_none, none_whole, round_up, round_down, ten_pos}
use Rattle.number.proofs.shrunk.Goals as goal

pub returns-then-k-gt19 : goal.returns-then-k-gt19
returns-then-k-gt19 c =
    let m : c.args.m < 18446744073709551616 = omega arith in
    rw (shrink_none _ _ m c.if-k-gt19.true, none_whole _ _ m c.if-k-gt19.true) c.limited.ensures

pub nonzero_div-q : goal.nonzero_div-q
nonzero_div-q c = rw c.pow-d.ensures (ten_pos _)

pub nonzero_rem-r : goal.nonzero_rem-r
nonzero_rem-r c = rw c.pow-d.ensures (ten_pos _)

pub overflow_sub-d : goal.overflow_sub-d
overflow_sub-d c = omega (arith, mod-lt c.args.m (nonzero_rem-r c))

pub returns-then-d-r : goal.returns-then-d-r
returns-then-d-r c = rw (← c.pow-d.ensures, round_up c.args.m c.pow-d.result (omega (arith, c.if-d-r.true))) c.limited-then-d-r.ensures

pub returns-else-d-r : goal.returns-else-d-r
returns-else-d-r c = rw (← c.pow-d.ensures, round_down c.args.m c.pow-d.result (omega (arith, c.if-d-r.false))) c.limited-else-d-r.ensures
