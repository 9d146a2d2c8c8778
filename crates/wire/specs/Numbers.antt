-- The numbers of a run: one of them, a cluster's two, a glyph's four; and what those of a cluster, a glyph and a run stand for.
-- Assumes nothing.
use Rattle.std.specs.Prelude.{ℕ, List, ℤ, pos, get_or}
use Rattle.label.specs.Places.{Places, places}
use Rattle.label.specs.Run.{cluster}
use Rattle.label.specs.Sound.{nat, number_index, number_advance}
use Rattle.label.specs.declared.Glyph.{Glyph}
use Rattle.label.specs.declared.Cluster.{Cluster}
use Rattle.wire.specs.declared.ClusterNumbers.{ClusterNumbers}
use Rattle.wire.specs.declared.GlyphNumbers.{GlyphNumbers}
use Rattle.wire.specs.declared.Run.{Run}

-- number k of these; past the end 0
abbrev pub place : List ℤ → ℕ → ℤ
place s k = get_or s k (pos 0)

-- the numbers of the cluster that stands first, and of the glyph
unfoldable pub cluster_numbers : List ℤ → ClusterNumbers
cluster_numbers s = record { units = place s 0; glyphs = place s 1 }

unfoldable pub glyph_numbers : List ℤ → GlyphNumbers
glyph_numbers s = record { index = place s 0; advance = place s 1; u = place s 2; v = place s 3 }

-- the cluster and the glyph that have these numbers
abbrev pub as_cluster : ClusterNumbers → Cluster
as_cluster n = cluster (nat n.units) (nat n.glyphs)

abbrev pub as_glyph : GlyphNumbers → Glyph
as_glyph n = record { index = number_index n.index; advance = number_advance n.advance; u = n.u; v = n.v }

-- the places that a run's buffers hold
abbrev pub as_places : Run → Places
as_places r = places r.units.now r.clusters.now r.glyphs.now
