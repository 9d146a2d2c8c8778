-- The count of rounded fields in an answer: by cases on the outcome of the reading.
-- Assumes nothing.
use Prim.Native.Nat.{ℕ}
use mathlib.Core.Path.{◌≡◌, refl, sym, ap, ◌∙◌}
use mathlib.Core.List.{List}
use Rattle.label.specs.Outcome.{Outcome, ok, no}
use Rattle.label.specs.Run.{Run}
use Rattle.label.specs.Calls.{room_of, read_into, counted}
use Rattle.label.specs.Requests.RoundedCount.{rounded}
use Rattle.glyph_label.specs.declared.GlyphLabelReading.{GlyphLabelReading}
use Rattle.glyph_label.specs.Answers.{reading_answer}
use Rattle.glyph_label.specs.CallContracts.{ReadCall}
use Rattle.glyph_label.specs.Promises.RoundedCount.{RoundedPromises}
use Rattle.glyph_label.proofs.Bounds.{reading_placed}
use Rattle.glyph_label.proofs.Promises.Memory.{numbered, accepted}
use Rattle.glyph_label.proofs.Promises.Demands.{read_said, holds_run}

module _ (t i us cs gs : List ℕ) (a : GlyphLabelReading) (us' cs' gs' : List ℕ) (c : ReadCall t i us cs gs a us' cs' gs') where
  abbrev o : Outcome Run
  o = read_into (room_of us cs gs) t i

  rounded_of : (v : Outcome Run) → o ≡ v → a.rounded ≡ (reading_answer (counted v) (rounded i)).rounded
  rounded_of v e = ap (λ (x : GlyphLabelReading). x.rounded) (c.answer ∙ ap (λ (x : Outcome Run). reading_answer (counted x) (rounded i)) e)

  taken : a.number ≡ 0 → a.rounded ≡ rounded i
  taken z =
      let (r, e) = accepted o (numbered (reading_placed (room_of us cs gs) t i)) (sym (read_said t i us cs gs a us' cs' gs' c).0 ∙ z) in
      rounded_of (ok r) e

  refused : (a.number ≡ 0 → ⊥) → a.rounded ≡ 0
  refused z = go o refl
    where
      go : (v : Outcome Run) → o ≡ v → a.rounded ≡ 0
      go (ok r) e = absurd (z (holds_run t i us cs gs a us' cs' gs' c r e).number)
      go (no n p) e = rounded_of (no n p) e

pub rounded_promises : RoundedPromises
rounded_promises = record { accepted = taken; refused = refused }
