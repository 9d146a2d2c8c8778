-- `entry_bytes::put_map`: from bracket to bracket (`map_some`).
-- Assumes nothing.
use Rattle.std.proofs.Common.{rules}
use Rattle.octets.proofs.Outputs.{then, gains_as}
use Rattle.entry_bytes.proofs.WriteLaws.{map_some}
use Rattle.entry_bytes.proofs.put_map.Goals as goal

pub returns : goal.returns
returns c =
    gains_as (map_some c.args.cluster.units c.args.cluster.glyphs (search rules))
    (then c.put_byte.ensures (then (then c.put_decimal.ensures c.put_colon.ensures) c.put_byte-2.ensures))
