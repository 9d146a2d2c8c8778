-- `glyph_label::glyph_label_read`: what `reader::read` promises, as an answer and the three buffers; that all fits 32 bits are laws of Bounds. Assumes
-- nothing.
use mathlib.Core.Path.{sym, subst}
use Rattle.glyph_label.specs.Fits.{Small32, ReadingFits}
use Rattle.glyph_label.proofs.Bounds.{reading_fits, rounded_fits}
use Rattle.glyph_label.proofs.glyph_label_read.Goals as goal

pub reading_answer-requires : goal.reading_answer-requires
reading_answer-requires c = let a = c.args in
    (subst ReadingFits (sym c.read.ensures.result) (reading_fits _ _ _), subst Small32 (sym c.read.ensures.rounded) (rounded_fits _ a.text.now a.indices.now))
