-- `text_bytes::put_asked`: an escaped text of one byte is that byte escaped (`asked_byte`).
-- Assumes nothing.
use Rattle.octets.proofs.Outputs.{gains_as}
use Rattle.text_bytes.proofs.Utf8.{asked_byte}
use Rattle.text_bytes.proofs.put_asked.Goals as goal

pub returns-then-escape : goal.returns-then-escape
returns-then-escape c = rw c.if-escape.true (gains_as (asked_byte c.args.b) c.put_escaped.ensures)
