-- `text_bytes::text_length`: an output without bytes counts the text, which is far below 2 ^ 64 (`text_most`).
-- Assumes nothing.
use Rattle.std.proofs.Common.{arith}
use Rattle.label.specs.Fetched.{halves}
use Rattle.text_bytes.proofs.Utf8.{text_most}
use Rattle.text_bytes.proofs.text_length.Goals as goal

pub returns : goal.returns
returns c =
    let m = text_most c.args.escape (halves c.args.us.now) in
    omega (arith, (c.put_text.ensures.put (omega arith)).behind)
