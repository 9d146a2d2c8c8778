-- `reader::add_glyph`: the glyph's numbers are its places, by `from`'s contract. Assumes nothing.
use Rattle.octets.specs.Puts.{puts}
use Rattle.reader.proofs.add_glyph.Goals as goal

pub returns-clause-glyphs : goal.returns-clause-glyphs
unfolding puts
returns-clause-glyphs c = rw (← c.from.ensures) c.put_at.ensures
