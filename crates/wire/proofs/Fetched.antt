-- How many numbers bytes hold, and the units from a place on: inductions that take two or four bytes at a time, with arithmetic for the places.
-- Assumes nothing.
use mathlib.Core.Path.{◌≡◌, refl}
use mathlib.Core.List.{List, [], ◌∷◌}
use Prim.Native.Nat.{ℕ, zero, suc, ◌*◌, ◌/◌}
use native.Mathlib.Omega.{arith}
use lib.ListN.{length, drop, take}
use Rattle.label.specs.Fetched.{halves, words}

pub halves_length : (s : List ℕ) → length (halves s) ≡ length s / 2
unfolding halves
halves_length [] = refl
halves_length (a ∷ []) = refl
halves_length (a ∷ b ∷ s) = let h = halves_length s in omega arith

pub words_length : (s : List ℕ) → length (words s) ≡ length s / 4
unfolding words
words_length [] = refl
words_length (a ∷ []) = refl
words_length (a ∷ b ∷ []) = refl
words_length (a ∷ b ∷ c ∷ []) = refl
words_length (a ∷ b ∷ c ∷ d ∷ s) = let h = words_length s in omega arith

-- the units from a place on are those of the bytes from there on
pub halves_drop : (j : ℕ) (s : List ℕ) → drop j (halves s) ≡ halves (drop (2 * j) s)
unfolding halves
halves_drop zero s = refl
halves_drop (suc j) [] = let e : 2 * suc j ≡ suc (suc (2 * j)) = omega arith in rw e
halves_drop (suc j) (a ∷ []) = let e : 2 * suc j ≡ suc (suc (2 * j)) = omega arith in rw e
halves_drop (suc j) (a ∷ b ∷ s) = let e : 2 * suc j ≡ suc (suc (2 * j)) = omega arith in rw e (halves_drop j s)

-- the numbers from one on, and those before it
pub words_drop : (k : ℕ) (s : List ℕ) → drop k (words s) ≡ words (drop (4 * k) s)
unfolding words
words_drop zero s = refl
words_drop (suc k) [] = let e : 4 * suc k ≡ suc (suc (suc (suc (4 * k)))) = omega arith in rw e
words_drop (suc k) (a ∷ []) = let e : 4 * suc k ≡ suc (suc (suc (suc (4 * k)))) = omega arith in rw e
words_drop (suc k) (a ∷ b ∷ []) = let e : 4 * suc k ≡ suc (suc (suc (suc (4 * k)))) = omega arith in rw e
words_drop (suc k) (a ∷ b ∷ c ∷ []) = let e : 4 * suc k ≡ suc (suc (suc (suc (4 * k)))) = omega arith in rw e
words_drop (suc k) (a ∷ b ∷ c ∷ d ∷ s) = let e : 4 * suc k ≡ suc (suc (suc (suc (4 * k)))) = omega arith in rw e (words_drop k s)

pub words_take : (k : ℕ) (s : List ℕ) → take k (words s) ≡ words (take (4 * k) s)
unfolding words
words_take zero s = refl
words_take (suc k) [] = let e : 4 * suc k ≡ suc (suc (suc (suc (4 * k)))) = omega arith in rw e
words_take (suc k) (a ∷ []) = let e : 4 * suc k ≡ suc (suc (suc (suc (4 * k)))) = omega arith in rw e
words_take (suc k) (a ∷ b ∷ []) = let e : 4 * suc k ≡ suc (suc (suc (suc (4 * k)))) = omega arith in rw e
words_take (suc k) (a ∷ b ∷ c ∷ []) = let e : 4 * suc k ≡ suc (suc (suc (suc (4 * k)))) = omega arith in rw e
words_take (suc k) (a ∷ b ∷ c ∷ d ∷ s) = let e : 4 * suc k ≡ suc (suc (suc (suc (4 * k)))) = omega arith in rw e (rw (words_take k s))
