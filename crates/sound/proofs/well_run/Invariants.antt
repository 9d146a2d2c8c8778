-- `sound::well_run`: the loop keeps "the whole test is what is left of it" (`walked`), and there are no more entries than glyphs.
use Rattle.std.proofs.Common.{◌≡◌, ◌+◌, ◌*◌, ◌≤◌, length}
use Rattle.label.specs.Limits.{max_glyphs}
use Rattle.label.specs.Fetched.{halves, words}
use Rattle.label.specs.Sound.{clusters_of, glyphs_of}
use Rattle.wire.specs.Walks.{entries_left}
use Rattle.sound.specs.Sounds.{walked, well_run}
use Rattle.sound.proofs.well_run.Given as goal

abbrev pub invariant-loop-entry : goal.invariant-loop-entry
invariant-loop-entry l =
    let us = halves l.run.units.now in
    let cs = words l.run.clusters.now in
    let gs = words l.run.glyphs.now in
    (l.walk.units ≤ length us) × (l.walk.glyphs ≤ l.walk.clusters * 0x8000_0000)
    × (l.walk.clusters + length (entries_left l.entry-iterator) ≤ max_glyphs)
    × (well_run us cs gs ≡ walked us (length (clusters_of cs)) (length (glyphs_of gs)) l.walk (entries_left l.entry-iterator))
