-- The rules of a sound run as the code tests them: how many, a glyph, a cluster.
-- Assumes nothing.
use Rattle.std.specs.Prelude.{ℕ, ◌%◌, Bool, not, ◌&&◌, ◌||◌, List, [], leb, eqb, drop}
use Rattle.label.specs.Bytes.{empty}
use Rattle.label.specs.Limits.{max_units, max_glyphs}
use Rattle.label.specs.Run.{named}
use Rattle.label.specs.Sound.{natural, choice, glyph_fits, may_open}
use Rattle.label.specs.declared.Cluster.{Cluster}
use Rattle.label.specs.declared.Glyph.{Glyph}
use Rattle.wire.specs.Numbers.{as_cluster, as_glyph}
use Rattle.wire.specs.declared.ClusterNumbers.{ClusterNumbers}
use Rattle.wire.specs.declared.GlyphNumbers.{GlyphNumbers}

-- so many bytes are whole numbers
abbrev pub whole_bytes : ℕ → ℕ → ℕ → Bool
whole_bytes u c g = eqb (u % 2) 0 && eqb (c % 4) 0 && eqb (g % 4) 0

-- so many bytes are whole units, clusters and glyphs
abbrev pub whole_run : ℕ → ℕ → ℕ → Bool
whole_run u c g = eqb (u % 2) 0 && eqb (c % 8) 0 && eqb (g % 16) 0

-- so many units and glyphs are within the limits, and not none
abbrev pub limited : ℕ → ℕ → Bool
limited u g = leb u max_units && leb g max_glyphs && not (eqb u 0 && eqb g 0)

-- a glyph's four numbers may stand
abbrev pub glyph_ok : GlyphNumbers → Bool
glyph_ok n = choice n.index && choice n.advance && glyph_fits (as_glyph n)

-- a cluster with this first glyph may stand from unit `at` on, if nothing is behind the glyph; its counts are not below 0
unfoldable pub opens_at : List ℕ → ℕ → ClusterNumbers → GlyphNumbers → Bool
opens_at us at c g = natural c.units && natural c.glyphs && may_open (empty us) (drop at us) (as_cluster c) (as_glyph g) []

-- all glyphs behind the first of such a cluster have to be wholly the font's
abbrev pub owes : Cluster → Glyph → Bool
owes c g = not (named g.index || (eqb c.units 1 && eqb c.glyphs 1))
