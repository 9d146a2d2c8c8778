-- Where the first byte b from a cursor on stands: here, further on, or the end; each opens the list by `drop-cons` and rewrites by the byte's test. What
-- `position_of` finds is that place.
-- Assumes nothing.
use Prim.Native.Nat.{ℕ, suc, ◌+◌, ◌≤◌, ◌<◌}
use native.Mathlib.Omega.{arith}
use native.Mathlib.Nat.{add-zero}
use native.Mathlib.Numerals.{add-one}
use mathlib.Core.Path.{◌≡◌, refl}
use mathlib.Core.Bool.{Bool}
use mathlib.Core.List.{List, [], ◌∷◌}
use borrow.Author.Tests.{eq-eqb, ne_eqb}
use lib.Dec.{eqb}
use lib.ListN.{length, get_or, drop, drop_of_length-le}
use lib.Seq.{drop-cons}
use Rattle.std.specs.Prelude.{◌==◌}
use Rattle.std.specs.List.{position_or_len}
use Rattle.label.specs.Bytes.{cut}
use Rattle.label.proofs.Basics.{cases}

-- where the first byte b from place i on stands, or the end
abbrev pub found : List ℕ → ℕ → ℕ → ℕ
found s b i = i + length (cut (λ x. eqb x b) (drop i s)).before

pub found_here : (s : List ℕ) (b i : ℕ) → i < length s → get_or s i 0 ≡ b → i ≡ found s b i
unfolding cut
found_here s b i h e = rw (drop-cons s i 0 h, eq-eqb (get_or s i 0) b e, add-zero i)

pub found_next : (s : List ℕ) (b i : ℕ) → i < length s → (get_or s i 0 ≡ b → ⊥) → found s b (i + 1) ≡ found s b i
unfolding cut
found_next s b i h e = rw (drop-cons s i 0 h, ne_eqb (get_or s i 0) b e, add-one i) (shift (length (cut (λ x. eqb x b) (drop (suc i) s)).before))
  where
    shift : (n : ℕ) → suc i + n ≡ i + suc n
    shift n = omega arith

pub found_end : (s : List ℕ) (b i : ℕ) → length s ≤ i → i ≡ found s b i
unfolding cut
found_end s b i h = rw (drop_of_length-le s h, add-zero i)

before_length : (t : ℕ → Bool) (l : List ℕ) → length (cut t l).before ≡ position_or_len t l
unfolding cut
before_length t [] = refl
before_length t (x ∷ l) = cases (t x) (λ h. rw h) (λ h. rw (h, before_length t l) (omega arith))

-- what `position_of` finds in the bytes from place i on is this place
pub found_place : (s : List ℕ) (b i : ℕ) → found s b i ≡ i + position_or_len (λ x. x == b) (drop i s)
found_place s b i = rw (before_length (λ x. eqb x b) (drop i s))
