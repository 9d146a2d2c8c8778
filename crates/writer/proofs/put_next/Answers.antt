-- `writer::put_next`: an entry has no bytes exactly where its glyph is wholly the font's (laws `led_`, `owing_` of Stores).
-- Assumes nothing.
use Rattle.std.proofs.Common.{rules}
use Rattle.octets.specs.Outputs.{Gains}
use Rattle.octets.proofs.Outputs.{nothing, then, gains_as}
use Rattle.writer.specs.Entries.{bytes_of}
use Rattle.writer.proofs.Stores.{led_none, led_some, owing_more, owing_one}
use Rattle.writer.proofs.put_next.Goals as goal

pub returns-then-is_font-clause-bytes : goal.returns-then-is_font-clause-bytes
returns-then-is_font-clause-bytes c = gains_as (led_none c.args.owed c.args.entry (search rules)) nothing

pub returns-then-is_font-clause-owed : goal.returns-then-is_font-clause-owed
returns-then-is_font-clause-owed c = owing_more c.args.owed c.args.entry (search rules)

pub returns-clause-bytes : goal.returns-clause-bytes
returns-clause-bytes c =
    let p : Gains c.put_semis.new.out (bytes_of c.args.entry) c.put_entry.new.out = search rules in
    gains_as (led_some c.args.owed c.args.entry (search rules)) (then c.put_semis.ensures p)

pub returns-clause-owed : goal.returns-clause-owed
returns-clause-owed c = owing_one c.args.owed c.args.entry (search rules)
