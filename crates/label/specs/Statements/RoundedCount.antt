-- Document 02, CR 1: what the count of rounded fields promises. proofs/Statements/RoundedCount.antt has a value of the record.
-- Assumes nothing.
use Rattle.std.specs.Prelude.{ℕ, ◌+◌, ◌*◌, ◌^◌, ◌≤◌, ◌≡◌, ◌↔◌, Bool, true, cond, List}
use Rattle.label.specs.Limits.{max_glyphs}
use Rattle.label.specs.Outcome.{ok, no}
use Rattle.label.specs.Entry.{scaled}
use Rattle.label.specs.Run.{Run}
use Rattle.label.specs.Checks.{read}
use Rattle.label.specs.Write.{normal}
use Rattle.label.specs.Calls.{read_into}
use Rattle.label.specs.Requests.RoundedCount.{is_whole, rounded, beside}
use Rattle.label.specs.declared.Counts.{Counts}

-- CR 1, sentence by sentence
pub record RoundedCount : Type 0 where
  -- "whether its exact value was a whole count of thousandths": m × 10^(e − f) × 1000 is the value that the number reads as
  pub exact : (m f : ℕ) (down : Bool) (e : ℕ) → (is_whole m f down e ≡ true)
      ↔ (scaled m f down e * cond down (10 ^ (f + e)) (10 ^ f) ≡ cond down (m * 10 ^ 3) (m * 10 ^ (e + 3)))
  -- "An accepted label returns the count [...], a refusal as 0", 16 to 18 too
  pub accepted : (room : Counts) (t i : List ℕ) (r : Run) → read_into room t i ≡ ok r → beside (rounded i) (read_into room t i) ≡ rounded i
  pub refused : (room : Counts) (t i : List ℕ) (n p : ℕ) → read_into room t i ≡ no n p → beside (rounded i) (read_into room t i) ≡ 0
  -- an accepted label has at most three for each of 4,096 glyphs
  pub most : (t i : List ℕ) (r : Run) → read t i ≡ ok r → rounded i ≤ 3 * max_glyphs
  -- the normal writing is read without rounding
  pub written : (t i : List ℕ) (r : Run) → read t i ≡ ok r → rounded (normal r).indices ≡ 0
