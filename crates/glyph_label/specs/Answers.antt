-- The answers for C: number 0 and the values, or a refusal's number and place with the other fields 0.
-- Assumes nothing.
use Rattle.std.specs.Prelude.{ℕ}
use Rattle.label.specs.Fault.{of_source}
use Rattle.label.specs.Outcome.{Outcome, ok, no}
use Rattle.label.specs.declared.Counts.{Counts}
use Rattle.label.specs.declared.Lengths.{Lengths}
use Rattle.label.specs.declared.Stretch.{Stretch}
use Rattle.label.specs.declared.Part.{Part}
use Rattle.glyph_label.specs.declared.GlyphLabelReading.{GlyphLabelReading}
use Rattle.glyph_label.specs.declared.GlyphLabelWriting.{GlyphLabelWriting}
use Rattle.glyph_label.specs.declared.GlyphLabelFilled.{GlyphLabelFilled}
use Rattle.glyph_label.specs.declared.GlyphLabelStretch.{GlyphLabelStretch}
use Rattle.glyph_label.specs.declared.GlyphLabelPart.{GlyphLabelPart}

-- raised by every landing that changes a call, a struct or an answer
abbrev pub version : ℕ
version = 1

-- how many units, clusters and glyphs were read, and beside them how many fields were rounded
abbrev pub reading_answer : Outcome Counts → ℕ → GlyphLabelReading
reading_answer (ok n) k = record { number = 0; place = 0; units = n.units; clusters = n.clusters; glyphs = n.glyphs; rounded = k }
reading_answer (no n p) k = record { number = n; place = p; units = 0; clusters = 0; glyphs = 0; rounded = 0 }

-- how many bytes were written
abbrev pub writing_answer : Outcome Lengths → GlyphLabelWriting
writing_answer (ok n) = record { number = 0; place = 0; text = n.text; indices = n.indices }
writing_answer (no n p) = record { number = n; place = p; text = 0; indices = 0 }

-- how many places of a lent buffer were filled
abbrev pub filled_answer : Outcome ℕ → GlyphLabelFilled
filled_answer (ok n) = record { number = 0; place = 0; filled = n }
filled_answer (no n p) = record { number = n; place = p; filled = 0 }

-- the stretch picked
abbrev pub stretch_answer : Outcome Stretch → GlyphLabelStretch
stretch_answer (ok s) = record { number = 0; place = 0; first = s.first; end = s.end }
stretch_answer (no n p) = record { number = n; place = p; first = 0; end = 0 }

-- a part of the text (0) or of the indices (1)
abbrev pub part_answer : Part → GlyphLabelPart
part_answer x = record { in_indices = of_source 0 1 x.source; start = x.start; length = x.length }
