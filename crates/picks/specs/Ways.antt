-- Both picks as one, with its way as a choice.
-- Assumes nothing.
use Rattle.std.specs.Prelude.{ℕ, List, length}
use Rattle.label.specs.Outcome.{Outcome}
use Rattle.label.specs.Places.{Places}
use Rattle.label.specs.Pick.{turned, pick_units, pick_glyphs}
use Rattle.label.specs.Run.{cluster}
use Rattle.label.specs.Sound.{run_of}
use Rattle.label.specs.declared.Cluster.{Cluster}
use Rattle.label.specs.declared.Stretch.{Stretch}
use Rattle.picks.specs.declared.Way.{Way}
use Rattle.picks.specs.declared.Way.TheVariants.{ToUnits, ToGlyphs}

-- the clusters as a pick from glyphs to units takes them; turned, as one from units to glyphs does
unfoldable pub along : Way → List Cluster → List Cluster
along ToUnits cs = cs
along ToGlyphs cs = turned cs

-- and one of them
abbrev pub turn : Way → Cluster → Cluster
turn ToUnits c = c
turn ToGlyphs c = cluster c.glyphs c.units

-- how many a run has of what is picked from
abbrev pub total : Way → Places → ℕ
total ToUnits p = length (run_of p).glyphs
total ToGlyphs p = length (run_of p).units

-- the pick from glyphs to units, or the one from units to glyphs
abbrev pub pick_along : Way → Places → ℕ → ℕ → Outcome Stretch
pick_along ToUnits p first end = pick_units p first end
pick_along ToGlyphs p first end = pick_glyphs p first end
