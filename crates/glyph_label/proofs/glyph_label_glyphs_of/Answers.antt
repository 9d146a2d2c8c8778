-- `glyph_label::glyph_label_glyphs_of`: that the pick's outcome fits 32 bits is a law of Bounds. Assumes nothing.
use mathlib.Core.Path.{sym, subst}
use Rattle.glyph_label.specs.Fits.{StretchFits}
use Rattle.glyph_label.proofs.Bounds.{glyphs_fits}
use Rattle.glyph_label.proofs.glyph_label_glyphs_of.Goals as goal

pub stretch_answer-requires : goal.stretch_answer-requires
stretch_answer-requires c = let a = c.args in
    subst StretchFits (sym c.glyphs_of.ensures) (glyphs_fits a.units.now a.clusters.now a.glyphs.now a.first a.end)
