-- `text_bytes::put_units`: a turn stores one unit's bytes (`asked_here`), a character of one byte as it is asked for (`asked_one`) and any other as it is
-- (`asked_plain`), and at the end there are none left (`asked_end`).
-- Assumes nothing.
use Rattle.std.proofs.Common.{◌+◌, get_or, refl, arith}
use Rattle.label.specs.Fetched.{halves}
use Rattle.octets.proofs.Outputs.{gains_as, lacks_all, lacks_next, lacks_none}
use Rattle.text_bytes.proofs.Utf8.{asked_one, asked_plain, unit_below, asked_here, asked_end}
use Rattle.text_bytes.proofs.put_units.Goals as goal
use Rattle.text_bytes.proofs.put_units.Goals.{then-u-le127, else-u-le127+then-u-lt55296, else-u-le127+else-u-lt55296}

pub loop-i-init : goal.loop-i-init
loop-i-init c = lacks_all

pub loop-i-preserved : goal.loop-i-preserved
loop-i-preserved c =
    let e = c.args.escape in
    let us = halves c.args.us.now in
    let i = c.loop-i.i in
    let u = c.unit_at-u.result in
    let v = get_or us (i + 1) 0 in
    let n = c.loop-i.invariant in
    let h = asked_here e us i {v = v} (omega arith) c.unit_at-u.ensures refl in
    elim c.if-u-le127.branch [
      | then-u-le127 w ↦ rw w.out-is (lacks_next n h (gains_as (asked_one e u v w.if-u-le127.true) w.put_asked.ensures))
      | else-u-le127+then-u-lt55296 w ↦
          let k = unit_below u v w.if-u-lt55296.true in
          rw w.out-is (lacks_next n h (gains_as (asked_plain e u v (λ _. w.if-u-le127.false)) (gains_as k (rw w.from.ensures at w.put_char.ensures.gains))))
      | else-u-le127+else-u-lt55296 w ↦
          rw w.out-is (lacks_next n h (gains_as (asked_plain e u v (λ _. w.if-u-le127.false)) (rw w.unit_at.ensures at w.put_unit.ensures)))
    ]

pub returns : goal.returns
returns c = lacks_none c.loop-i.invariant (asked_end c.args.escape (halves c.args.us.now) c.loop-i.i (omega arith))
