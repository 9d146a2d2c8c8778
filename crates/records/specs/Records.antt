-- What the listing needs of a run's glyphs. Assumes nothing.
use Rattle.std.specs.Prelude.{Bool, true, ◌&&◌, List, [], ◌∷◌}
use Rattle.label.specs.Sound.{glyph_fits}
use Rattle.wire.specs.Numbers.{as_glyph}
use Rattle.wire.specs.declared.GlyphNumbers.{GlyphNumbers}

-- each of these glyphs is within its limits
unfoldable pub all_fit : List GlyphNumbers → Bool
all_fit [] = true
all_fit (g ∷ gs) = glyph_fits (as_glyph g) && all_fit gs
