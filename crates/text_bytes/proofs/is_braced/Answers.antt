-- `text_bytes::is_braced`: the first unit is `{` where its two bytes are (`starts_braced`).
-- Assumes nothing.
use Rattle.std.proofs.Common.{◌∙◌, arith}
use Rattle.text_bytes.proofs.Utf8.{starts_braced}
use Rattle.text_bytes.proofs.is_braced.Goals as goal

pub returns : goal.returns
returns c = c.starts_with.ensures.value ∙ starts_braced c.args.us.now (omega (arith, c.type_inv.us 0))
