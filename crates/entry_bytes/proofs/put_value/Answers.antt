-- `entry_bytes::put_value`: whole thousands are one decimal (`value_whole`), any other value has a point (`value_point`).
-- Assumes nothing.
use Rattle.octets.proofs.Outputs.{then, gains_as}
use Rattle.entry_bytes.proofs.WriteLaws.{value_whole, value_point}
use Rattle.entry_bytes.proofs.put_value.Goals as goal

pub returns-then-n-eq0 : goal.returns-then-n-eq0
returns-then-n-eq0 c = gains_as (value_whole c.args.n c.if-n-eq0.true) c.put_decimal.ensures

pub returns : goal.returns
returns c =
    gains_as (value_point c.args.n c.if-n-eq0.false)
    (then c.put_whole.ensures (then c.put_byte.ensures c.put_fraction.ensures))
