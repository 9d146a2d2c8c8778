-- `entry_bytes::put_colon`: the colon, then the digits.
-- Assumes nothing.
use Rattle.std.proofs.Common.{rules}
use borrow.Author.Tests.{ne_eqb}
use Rattle.octets.proofs.Outputs.{then}
use Rattle.entry_bytes.proofs.put_colon.Goals as goal

pub returns : goal.returns
returns c = rw (ne_eqb c.args.b 1 (search rules)) (then c.put_byte.ensures c.put_decimal.ensures)
