-- `text_bytes::put_char`: as many bytes as its number needs, one behind the other (`then`), which are the character's (`utf8_one` to `utf8_four`), at most four
-- (`utf8_size`).
-- Assumes nothing.
use Rattle.std.proofs.Common.{sym}
use Rattle.label.proofs.Utf8.{utf8_one, utf8_two, utf8_three, utf8_four, utf8_size}
use Rattle.octets.proofs.Outputs.{then, gains_as}
use Rattle.text_bytes.proofs.put_char.Goals as goal

pub returns-then-c-le127-clause-gains : goal.returns-then-c-le127-clause-gains
returns-then-c-le127-clause-gains c = gains_as (sym (utf8_one c.args.c c.if-c-le127.true)) c.put_byte.ensures

pub returns-then-c-le2047-clause-gains : goal.returns-then-c-le2047-clause-gains
returns-then-c-le2047-clause-gains c =
    gains_as (sym (utf8_two c.args.c c.if-c-le127.false c.if-c-le2047.true)) (then c.put_byte-then-c-le2047.ensures c.put_tail.ensures)

pub returns-then-c-le65535-clause-gains : goal.returns-then-c-le65535-clause-gains
returns-then-c-le65535-clause-gains c =
    gains_as (sym (utf8_three c.args.c c.if-c-le2047.false c.if-c-le65535.true))
    (then c.put_byte-then-c-le65535.ensures (then c.put_tail-then-c-le65535.ensures c.put_tail-then-c-le65535-2.ensures))

pub returns-else-c-le65535-clause-gains : goal.returns-else-c-le65535-clause-gains
returns-else-c-le65535-clause-gains c =
    gains_as (sym (utf8_four c.args.c c.if-c-le65535.false))
    (then c.put_byte-else-c-le65535.ensures
    (then c.put_tail-else-c-le65535.ensures (then c.put_tail-else-c-le65535-2.ensures c.put_tail-else-c-le65535-3.ensures)))

pub returns-then-c-le127-clause-bounds : goal.returns-then-c-le127-clause-bounds
returns-then-c-le127-clause-bounds c = (utf8_size c.args.c).1

pub returns-then-c-le2047-clause-bounds : goal.returns-then-c-le2047-clause-bounds
returns-then-c-le2047-clause-bounds c = (utf8_size c.args.c).1

pub returns-then-c-le65535-clause-bounds : goal.returns-then-c-le65535-clause-bounds
returns-then-c-le65535-clause-bounds c = (utf8_size c.args.c).1

pub returns-else-c-le65535-clause-bounds : goal.returns-else-c-le65535-clause-bounds
returns-else-c-le65535-clause-bounds c = (utf8_size c.args.c).1
