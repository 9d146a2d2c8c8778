-- `entry_bytes::put_offset`: by the sign, `offset_minus` or `offset_plus`.
-- Assumes nothing.
use Rattle.std.proofs.Common.{rules}
use Rattle.octets.proofs.Outputs.{then, gains_as}
use Rattle.entry_bytes.proofs.WriteLaws.{offset_plus, offset_minus}
use Rattle.entry_bytes.proofs.put_offset.Goals as goal
use Rattle.entry_bytes.proofs.put_offset.Goals.{then-n-lt0, else-n-lt0}

pub returns : goal.returns
returns c =
    elim c.if-n-lt0.branch [
      | then-n-lt0 w ↦ gains_as (offset_minus c.args.n (search rules) (search rules)) (then w.put_byte.ensures (rw w.out-is at c.put_value.ensures))
      | else-n-lt0 w ↦ gains_as (offset_plus c.args.n (search rules) (search rules) (search rules)) (rw w.out-is at c.put_value.ensures)
    ]
