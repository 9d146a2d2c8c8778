-- Document 01, "Showing a fault": what `glyph_label_fault` says of the caller's own bytes. proofs/Promises/Fault.antt has a value of the record.
-- Assumes nothing.
use Rattle.std.specs.Prelude.{ℕ, ◌+◌, ◌<◌, ◌≤◌, ◌≡◌, true, List, [], length, get_or, take, drop}
use Rattle.label.specs.Entry.{entries}
use Rattle.label.specs.Fault.{of_text, of_entry, entry_start, fault_part}
use Rattle.glyph_label.specs.declared.GlyphLabelPart.{GlyphLabelPart}
use Rattle.glyph_label.specs.Answers.{part_answer}

-- the answer is a part of the text (0) or of the indices (1), whose bytes are `own`: it ends in them, and there stand these bytes
pub record Shown (a : GlyphLabelPart) (which : ℕ) (own bytes : List ℕ) : Type 0 where
  pub slice : a.in_indices ≡ which
  pub inside : a.start + a.length ≤ length own
  pub is : take a.length (drop a.start own) ≡ bytes

-- the call, sentence by sentence
pub record FaultPromises : Type 0 where
  -- "for 2 to 4 the text from that place on"
  pub of_text_holds : (t i : List ℕ) (n p : ℕ) (a : GlyphLabelPart) → a ≡ part_answer (fault_part t i n p) → of_text n ≡ true → p < length t
      → (a.start ≡ p) × Shown a 0 t (drop p t)
  -- "for 7 to 12 and 14 the entry"
  pub of_entry_holds : (t i : List ℕ) (n p : ℕ) (a : GlyphLabelPart) → a ≡ part_answer (fault_part t i n p) → of_entry n ≡ true → p < length (entries i)
      → (a.start ≡ entry_start (entries i) p) × Shown a 1 i (get_or (entries i) p [])
  -- "else, or where no such place exists [...], the empty start of the text"
  pub of_none : (t i : List ℕ) (n p : ℕ) (a : GlyphLabelPart) → a ≡ part_answer (fault_part t i n p)
      → (of_text n ≡ true → p < length t → ⊥) → (of_entry n ≡ true → p < length (entries i) → ⊥) → (a.start ≡ 0) × Shown a 0 t []
