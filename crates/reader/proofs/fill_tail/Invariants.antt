-- `reader::fill_tail`: the loop keeps `TailLeft`: what is left, stored from here on, gives the whole tail stored where it begins. Assumes nothing.
use Rattle.std.proofs.Common.{◌-◌, ◌*◌, drop}
use Rattle.std.proofs.lemmas.List.Edits.{sets}
use Rattle.label.specs.Run.{tail}
use Rattle.label.specs.Fetched.{halves}
use Rattle.reader.specs.Stores.{cluster_bytes, glyph_bytes}
use Rattle.reader.proofs.Tails.{TailLeft}
use Rattle.reader.proofs.fill_tail.Given as goal

abbrev pub invariant-loop-at : goal.invariant-loop-at
invariant-loop-at l = TailLeft (sets l.initial.clusters (8 * l.initial.at.clusters) (cluster_bytes (tail (drop l.initial.at.units (halves l.units))).clusters))
    (sets l.initial.glyphs (16 * l.initial.at.glyphs) (glyph_bytes (tail (drop l.initial.at.units (halves l.units))).glyphs))
    (halves l.units) l.clusters l.glyphs l.at

abbrev pub decreases-loop-at : goal.decreases-loop-at
decreases-loop-at l = l.count - l.at.units
