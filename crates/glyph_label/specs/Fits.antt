-- Answers of 32 bits.
-- Assumes nothing.
use Rattle.std.specs.Prelude.{ℕ, ◌<◌}
use Rattle.label.specs.Outcome.{Outcome, ok, no}
use Rattle.label.specs.declared.Counts.{Counts}
use Rattle.label.specs.declared.Lengths.{Lengths}
use Rattle.label.specs.declared.Stretch.{Stretch}

-- a number of 32 bits
abbrev pub Small32 : ℕ → Type 0
Small32 n = n < 4294967296

-- the fields of an answer but `rounded` are below 2^32: the values, or a refusal's number and place
abbrev pub ReadingFits : Outcome Counts → Type 0
ReadingFits (ok n) = Small32 n.units × Small32 n.clusters × Small32 n.glyphs
ReadingFits (no n p) = Small32 n × Small32 p

abbrev pub WritingFits : Outcome Lengths → Type 0
WritingFits (ok n) = Small32 n.text × Small32 n.indices
WritingFits (no n p) = Small32 n × Small32 p

abbrev pub StretchFits : Outcome Stretch → Type 0
StretchFits (ok s) = Small32 s.first × Small32 s.end
StretchFits (no n p) = Small32 n × Small32 p
