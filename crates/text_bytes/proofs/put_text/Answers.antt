-- `text_bytes::put_text`: the units' bytes, behind `{}` where they begin with `{` (`text_braced`, `text_plain`).
-- Assumes nothing.
use Rattle.label.specs.Fetched.{halves}
use Rattle.octets.proofs.Outputs.{then, gains_as}
use Rattle.text_bytes.proofs.Utf8.{text_braced, text_plain}
use Rattle.text_bytes.proofs.put_text.Goals as goal
use Rattle.text_bytes.proofs.put_text.Goals.{then-is_braced, else-is_braced}

pub returns : goal.returns
returns c =
    let us = halves c.args.us.now in
    elim c.if-is_braced.branch [
      | then-is_braced w ↦
          gains_as (text_braced us c.is_braced.ensures c.args.escape w.if-is_braced.true) (then w.put_bytes.ensures (rw w.out-is at c.put_units.ensures))
      | else-is_braced w ↦ gains_as (text_plain us c.is_braced.ensures c.args.escape w.if-is_braced.false) (rw w.out-is at c.put_units.ensures)
    ]
