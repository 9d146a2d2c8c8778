-- `wire::put_number`: four bytes are copied, those of the number's 32 bits (laws `stored` and `four_are`).
use Rattle.std.proofs.Common.{arith, ◌∙◌}
use Rattle.wire.proofs.Stored.{stored, four_are}
use Rattle.wire.proofs.put_number.Goals as goal

pub returns : goal.returns
returns c =
    stored _ _ _ _ _ (c.copy_from_slice.ensures.after ∙ c.to_le_bytes.ensures ∙ four_are c.args.v c.ranges.v) (omega arith) (omega arith)
