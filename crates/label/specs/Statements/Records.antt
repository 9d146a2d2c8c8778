-- "glyphs also come as a lent list of glyph records, filled by one thin call from a sound run": what that call promises, stated on the definition that its
-- contract cites. proofs/Statements/Records.antt has a value of the record.
-- Assumes nothing.
use Rattle.std.specs.Prelude.{ℕ, ◌≤◌, ◌≡◌, ◌↔◌, List, [], ◌∷◌, length}
use Rattle.label.specs.Outcome.{ok, no}
use Rattle.label.specs.Statements.Memory.{GivenBy}
use Rattle.label.specs.Places.{Places, Readable}
use Rattle.label.specs.Sound.{run_of}
use Rattle.label.specs.Calls.{filled_after, list_checks, list_into}
use Rattle.label.specs.Statements.Memory.{Kept}
use Rattle.label.specs.declared.Glyph.{Glyph}

-- the call, sentence by sentence
pub record Records : Type 0 where
  -- the records are those of the run that some label reads as, where the list has room for them
  pub lists : (room : ℕ) (z : Places) (w : Readable z) → length w.run.glyphs ≤ room → list_into room z ≡ ok w.run.glyphs
  -- "(else 19; 18 where the list is too short [...])": given exactly when its cause holds and no earlier one does
  pub fixed : (room : ℕ) (z : Places) (n p : ℕ) → (list_into room z ≡ no n p) ↔ GivenBy (list_checks room z) n p
  -- "records behind stay", and a refusal changes none
  pub memory : (z : Places) (old : List Glyph)
      → Kept (list_checks (length old) z) (run_of z).glyphs (λ gs. gs ∷ []) (list_into (length old) z) (old ∷ [])
      (filled_after (list_into (length old) z) old ∷ [])
