-- `entry_bytes::put_index`: the map, then the digits (`index_some`).
-- Assumes nothing.
use Rattle.std.proofs.Common.{rules}
use Rattle.octets.proofs.Outputs.{then, gains_as}
use Rattle.entry_bytes.proofs.WriteLaws.{index_some}
use Rattle.entry_bytes.proofs.put_index.Goals as goal

pub returns-then-n-ge0 : goal.returns-then-n-ge0
returns-then-n-ge0 c = gains_as (index_some c.args.cluster.units c.args.cluster.glyphs c.args.n (search rules) (search rules))
    (then c.put_map.ensures c.put_decimal.ensures)
