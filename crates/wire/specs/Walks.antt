-- The walks over a run: its units, its clusters, its glyphs, and the glyphs with the clusters that they open.
-- Assumes nothing.
use Rattle.std.specs.Prelude.{ℕ, zero, suc, ◌-◌, List, [], ◌∷◌, ℤ, Some, None}
use Rattle.label.specs.Fetched.{halves, words}
use Rattle.label.specs.Sound.{nat}
use Rattle.wire.specs.declared.ClusterNumbers.{ClusterNumbers}
use Rattle.wire.specs.declared.Clusters.{Clusters}
use Rattle.wire.specs.declared.Entries.{Entries}
use Rattle.wire.specs.declared.EntryNumbers.{EntryNumbers}
use Rattle.wire.specs.declared.GlyphNumbers.{GlyphNumbers}
use Rattle.wire.specs.declared.Glyphs.{Glyphs}
use Rattle.wire.specs.declared.Units.{Units}

-- the clusters of these numbers, two each; `clusters_of` are what they stand for (law `clusters_are`)
unfoldable pub clusters_in : List ℤ → List ClusterNumbers
clusters_in [] = []
clusters_in (a ∷ []) = []
clusters_in (a ∷ b ∷ zs) = record { units = a; glyphs = b } ∷ clusters_in zs

-- the glyphs, four each; `glyphs_of` are what they stand for (law `glyphs_are`)
unfoldable pub glyphs_in : List ℤ → List GlyphNumbers
glyphs_in [] = []
glyphs_in (i ∷ []) = []
glyphs_in (i ∷ a ∷ []) = []
glyphs_in (i ∷ a ∷ u ∷ []) = []
glyphs_in (i ∷ a ∷ u ∷ v ∷ zs) = record { index = i; advance = a; u = u; v = v } ∷ glyphs_in zs

-- the glyphs with the clusters that they open, up to one that has no cluster to open; the open cluster lacks so many glyphs
unfoldable pub entries_in : ℕ → List ClusterNumbers → List GlyphNumbers → List EntryNumbers
entries_in lack cs [] = []
entries_in (suc n) cs (g ∷ gs) = record { cluster = None; glyph = g } ∷ entries_in n cs gs
entries_in zero [] (g ∷ gs) = []
entries_in zero (c ∷ cs) (g ∷ gs) = record { cluster = Some c; glyph = g } ∷ entries_in (nat c.glyphs - 1) cs gs

-- those that a walk has left
abbrev pub units_left : Units → List ℕ
units_left w = halves w.rest.now

abbrev pub clusters_left : Clusters → List ClusterNumbers
clusters_left w = clusters_in (words w.rest.now)

abbrev pub glyphs_left : Glyphs → List GlyphNumbers
glyphs_left w = glyphs_in (words w.rest.now)

abbrev pub entries_left : Entries → List EntryNumbers
entries_left w = entries_in w.lack (clusters_left w.clusters) (glyphs_left w.glyphs)
