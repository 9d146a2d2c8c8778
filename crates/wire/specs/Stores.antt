-- The bytes that a cluster's and a glyph's numbers are stored as.
-- Assumes nothing.
use Rattle.std.specs.Prelude.{ℕ, List, ◌++◌}
use Rattle.label.specs.Places.{index_number, advance_number}
use Rattle.label.specs.Wire.{bits_of, four_bytes}
use Rattle.label.specs.declared.Glyph.{Glyph}
use Rattle.wire.specs.declared.ClusterNumbers.{ClusterNumbers}
use Rattle.wire.specs.declared.GlyphNumbers.{GlyphNumbers}

-- the 8 bytes of a cluster's numbers, and the 16 of a glyph's
unfoldable pub cluster_stored : ClusterNumbers → List ℕ
cluster_stored c = four_bytes (bits_of c.units) ++ four_bytes (bits_of c.glyphs)

unfoldable pub glyph_stored : GlyphNumbers → List ℕ
glyph_stored g =
    four_bytes (bits_of g.index) ++ (four_bytes (bits_of g.advance) ++ (four_bytes (bits_of g.u) ++ four_bytes (bits_of g.v)))

-- the 16 bytes of a glyph record
unfoldable pub glyph_places : Glyph → List ℕ
glyph_places g =
    four_bytes (bits_of (index_number g.index))
    ++ (four_bytes (bits_of (advance_number g.advance)) ++ (four_bytes (bits_of g.u) ++ four_bytes (bits_of g.v)))
