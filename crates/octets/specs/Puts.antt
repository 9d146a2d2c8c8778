-- Bytes stored from a place on, as far as there is room.
-- Assumes nothing.
use Rattle.std.specs.Prelude.{ℕ, ◌+◌, ◌≡◌, List, length}
use Rattle.std.proofs.lemmas.List.Edits.{sets}

-- past the end nothing is stored
unfoldable pub puts : List ℕ → ℕ → List ℕ → List ℕ
puts l i w = sets l i w

-- w is stored in old from `at` on, which gives new, and r is the place behind it
pub record Put (old : List ℕ) (at : ℕ) (w : List ℕ) (r : ℕ) (new : List ℕ) : Type 0 where
  pub behind : r ≡ at + length w
  pub is : new ≡ puts old at w
