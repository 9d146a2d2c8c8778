-- Document 02, CR 1: what every answer of a reading says of rounded fields. proofs/Promises/RoundedCount.antt has a value of the record.
-- Assumes nothing.
use Rattle.std.specs.Prelude.{ℕ, ◌≡◌, List}
use Rattle.label.specs.Requests.RoundedCount.{rounded}
use Rattle.glyph_label.specs.declared.GlyphLabelReading.{GlyphLabelReading}
use Rattle.glyph_label.specs.CallContracts.{ReadCall}

-- CR 1 of the call, sentence by sentence
pub record RoundedPromises : Type 0 where
  -- "An accepted label returns the count of given fields that were not, beside the run; [...] a refusal as 0"
  pub accepted : (t i us cs gs : List ℕ) (a : GlyphLabelReading) (us' cs' gs' : List ℕ) → ReadCall t i us cs gs a us' cs' gs'
      → a.number ≡ 0 → a.rounded ≡ rounded i
  pub refused : (t i us cs gs : List ℕ) (a : GlyphLabelReading) (us' cs' gs' : List ℕ) → ReadCall t i us cs gs a us' cs' gs'
      → (a.number ≡ 0 → ⊥) → a.rounded ≡ 0
