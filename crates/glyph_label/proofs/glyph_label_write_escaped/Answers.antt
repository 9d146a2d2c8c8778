-- `glyph_label::glyph_label_write_escaped`: what `writer::write_as` promises, asked to escape, as an answer and the two outputs; that all fits is a law of
-- Bounds. Assumes nothing.
use Rattle.glyph_label.proofs.Bounds.{writing_fits}
use Rattle.glyph_label.specs.Fits.{WritingFits}
use mathlib.Core.Path.{sym, subst}
use Rattle.glyph_label.proofs.glyph_label_write_escaped.Goals as goal

pub writing_answer-requires : goal.writing_answer-requires
writing_answer-requires c = subst WritingFits (sym c.write_as.ensures.result) (writing_fits _ _ _)
