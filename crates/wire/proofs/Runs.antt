-- A run's numbers by the bytes that hold them, and how many clusters and glyphs there are: inductions that take four bytes, two or four numbers at a time.
-- Assumes nothing.
use Rattle.std.proofs.Common.{◌≡◌, ℕ, zero, suc, ◌+◌, ◌*◌, ◌/◌, ◌<◌, List, [], ◌∷◌, ℤ, pos, length, get_or, refl, ◌∙◌, ap, arith, to_z, w16, w32}
use Rattle.std.specs.Int.{from_le_bytes}
use Rattle.std.specs.Simd.{first_chunks}
use Rattle.label.specs.Fetched.{halves, signed, words}
use Rattle.label.specs.Sound.{clusters_of, glyphs_of}
use Rattle.wire.proofs.Fetched.{words_length}
use Rattle.wire.proofs.Signed.{signed_is}

-- number k is that of its four bytes
pub number_in : (s : List ℕ) (k : ℕ) → k < length (words s)
    → to_z w32 (from_le_bytes w32 (get_or (first_chunks 4 (length s / 4) s) k [])) ≡ get_or (words s) k (pos 0)
unfolding words
number_in [] k h = absurd (omega arith)
number_in (a ∷ []) k h = absurd (omega arith)
number_in (a ∷ b ∷ []) k h = absurd (omega arith)
number_in (a ∷ b ∷ c ∷ []) k h = absurd (omega arith)
number_in (a ∷ b ∷ c ∷ d ∷ s) zero h =
    let more : suc (suc (suc (suc (length s)))) / 4 ≡ suc (length s / 4) = omega arith in
    let sum : a + b * 256 + c * 65536 + d * 16777216 ≡ a + 256 * b + 65536 * c + 16777216 * d = omega arith in
    rw more (signed_is _ ∙ ap signed sum)
number_in (a ∷ b ∷ c ∷ d ∷ s) (suc k) h =
    let more : suc (suc (suc (suc (length s)))) / 4 ≡ suc (length s / 4) = omega arith in
    rw more (number_in s k (omega arith))

-- and unit j that of its two; past the end there is none
pub unit_in : (s : List ℕ) (j : ℕ) → j < length s / 2 → from_le_bytes w16 (get_or (first_chunks 2 (length s / 2) s) j []) ≡ get_or (halves s) j 0
unfolding halves
unit_in [] j h = absurd (omega arith)
unit_in (a ∷ []) j h = absurd (omega arith)
unit_in (a ∷ b ∷ s) zero h =
    let more : suc (suc (length s)) / 2 ≡ suc (length s / 2) = omega arith in
    rw more (omega arith)
unit_in (a ∷ b ∷ s) (suc j) h =
    let more : suc (suc (length s)) / 2 ≡ suc (length s / 2) = omega arith in
    rw more (unit_in s j (omega arith))

cluster_count : (l : List ℤ) → length (clusters_of l) ≡ length l / 2
unfolding clusters_of
cluster_count [] = refl
cluster_count (a ∷ []) = refl
cluster_count (a ∷ b ∷ l) = let h = cluster_count l in omega arith

glyph_count : (l : List ℤ) → length (glyphs_of l) ≡ length l / 4
unfolding glyphs_of
glyph_count [] = refl
glyph_count (i ∷ []) = refl
glyph_count (i ∷ a ∷ []) = refl
glyph_count (i ∷ a ∷ u ∷ []) = refl
glyph_count (i ∷ a ∷ u ∷ v ∷ l) = let h = glyph_count l in omega arith

-- a cluster is 8 bytes, and a glyph 16
pub clusters_length : (s : List ℕ) → length (clusters_of (words s)) ≡ length s / 8
clusters_length s = omega (arith, cluster_count (words s), words_length s)

pub glyphs_length : (s : List ℕ) → length (glyphs_of (words s)) ≡ length s / 16
glyphs_length s = omega (arith, glyph_count (words s), words_length s)
