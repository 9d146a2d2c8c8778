-- Document 02, CR 6: what the rounding comes to, stated on the definitions by which a number is read: a record whose fields say the request's sentences and
-- what follows from them.
-- proofs/Statements/Rounding.antt has a value of it. `Rounds` says what a rounded ratio is by distances, without quotient and remainder.
-- Assumes nothing.
use Rattle.std.specs.Prelude.{ℕ, ◌%◌, ◌*◌, ◌+◌, ◌-◌, ◌/◌, ◌<◌, ◌^◌, ◌≤◌, ◌≡◌, ◌↔◌, false, true, List, ◌∷◌, neg_ℤ}
use Rattle.label.specs.Limits.{max_thousandths}
use Rattle.label.specs.Entry.{minus, plus, nearest, scaled, offset_of}

-- how far the whole number n is from a / b, counted in parts of 1 / b; one of the two differences is 0
abbrev pub apart : ℕ → ℕ → ℕ → ℕ
apart a b n = (a - n * b) + (n * b - a)

-- n is a / b, rounded
pub record Rounds (a b n : ℕ) : Type 0 where
  -- "the nearest whole number": no other is nearer
  pub least : (k : ℕ) → apart a b n ≤ apart a b k
  -- "Halves go to the even neighbour.": of two as near, it is the even one
  pub even : (k : ℕ) → (k ≡ n → ⊥) → apart a b k ≡ apart a b n → n % 2 ≡ 0

-- CR 6, sentence by sentence
pub record Rounding : Type 0 where
  -- a ratio has one rounded value, and `nearest` gives it
  pub rounds : (a b : ℕ) → 0 < b → Rounds a b (nearest a b)
  pub only : (a b i j : ℕ) → 0 < b → Rounds a b i → Rounds a b j → i ≡ j
  -- so "the value is m × 10^(e − f) × 1000, rounded", without a minus before e and with one
  pub up : (m f e : ℕ) → Rounds (m * 10 ^ e * 1000) (10 ^ f) (scaled m f false e)
  pub down : (m f e : ℕ) → Rounds (m * 1000) (10 ^ f * 10 ^ e) (scaled m f true e)
  -- a whole value is itself
  pub exact : (n b : ℕ) → 0 < b → nearest (n * b) b ≡ n
  -- all but the halves are as document 01 has them: a / b and a half more, rounded down, is the nearest, "a half going away from zero"
  pub others : (a b : ℕ) → 0 < b → (2 * (a % b) ≡ b → ⊥) → nearest a b ≡ (2 * a + b) / (2 * b)
  -- "`1000000.0005` is accepted as 1,000,000,000": `number_fits` (Entry) judges the rounded size, and as the limit is even, that is within it exactly up to
  -- half a thousandth above it, the half included
  pub limit : (a b : ℕ) → 0 < b → (nearest a b ≤ max_thousandths) ↔ (2 * a ≤ (2 * max_thousandths + 1) * b)
  -- "an offset may have either" sign: with a plus it is that without
  pub plus_sign : (s : List ℕ) → minus s ≡ false → plus s ≡ false → offset_of (43 ∷ s) ≡ offset_of s
  -- "then the sign": an offset with a minus is the negative of that without
  pub sign : (s : List ℕ) → minus s ≡ false → plus s ≡ false → offset_of (45 ∷ s) ≡ neg_ℤ (offset_of s)
