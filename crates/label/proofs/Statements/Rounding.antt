-- The record of specs/Statements/Rounding.antt: by quotient and remainder, then by distances: between two as near and even lies a nearer one.
-- Assumes nothing.
use Prim.Native.Nat.{ℕ, ◌+◌, ◌*◌, ◌/◌, ◌%◌, ◌^◌, ◌≤◌, ◌<◌}
use native.Mathlib.Omega.{arith}
use native.Mathlib.Nat.{add-zero, le_antisymm, div-eq_of_lt-le, div-add-mod', mod-lt, mul_assoc, mul-le-mul_right, one-le-pow}
use mathlib.Core.Path.{◌≡◌, refl, sym, ◌∙◌}
use mathlib.Core.Logic.{◌↔◌}
use mathlib.Core.Bool.{true, false}
use mathlib.Core.List.{List, [], ◌∷◌}
use lib.Dec.{ltb, eqb, lit<}
use lib.IntN.{neg_ℤ}
use lib.Pow.{pow-add}
use borrow.Author.Tests.{ltb-true, ltb-false, lt-ltb, le-ltb, eqb-true, eqb-false}
use Rattle.label.specs.Limits.{max_thousandths}
use Rattle.label.specs.Bytes.{cut, value_from}
use Rattle.label.specs.Entry.{minus, plus, unsigned, mantissa_digits, fraction_digits, exponent_digits, even_neighbour, nearest, scaled, thousandths, offset_of}
use Rattle.label.specs.Statements.Rounding.{apart, Rounds, Rounding}
use Rattle.label.proofs.Basics.{cases}
use Rattle.label.proofs.Values.{nearest_exact}

-- ── by quotient and remainder ──

pub nearest_below : (a b : ℕ) → 2 * (a % b) < b → nearest a b ≡ a / b
unfolding nearest
nearest_below a b h = rw (lt-ltb (2 * (a % b)) b h)

pub nearest_above : (a b : ℕ) → b < 2 * (a % b) → nearest a b ≡ a / b + 1
unfolding nearest
nearest_above a b h = rw (le-ltb (2 * (a % b)) b (omega arith), lt-ltb b (2 * (a % b)) h)

pub nearest_half : (a b : ℕ) → 2 * (a % b) ≡ b → nearest a b ≡ even_neighbour (a / b)
unfolding nearest
nearest_half a b h = rw (le-ltb (2 * (a % b)) b (omega arith), le-ltb b (2 * (a % b)) (omega arith))

-- x is below y, above it, or equal
pub three : {P : Type 0} (x y : ℕ) → (x < y → P) → (y < x → P) → (x ≡ y → P) → P
three x y l g e =
    cases (ltb x y)
    (λ t. l (ltb-true x y t))
    (λ t. cases (ltb y x) (λ u. g (ltb-true y x u)) (λ u. e (le_antisymm (ltb-false y x u) (ltb-false x y t))))

-- ── by distances ──

-- k is n, or k × b lies at least b below n × b or above it
sides : {P : Type 0} (b n k : ℕ) → (k ≡ n → P) → (k * b + b ≤ n * b → P) → (n * b + b ≤ k * b → P) → P
sides b n k e l g = three k n (λ h. l (omega (arith, mul-le-mul_right b h))) (λ h. g (omega (arith, mul-le-mul_right b h))) e

-- the whole number below a / b is the rounded one where it is nearer, or as near and even
lower : (a b q r : ℕ) → q * b + r ≡ a → r < b → 2 * r ≤ b → (2 * r ≡ b → q % 2 ≡ 0) → Rounds a b q
lower a b q r e h l p =
    record {
      least = λ k. sides b q k (λ t. rw t (omega arith)) (λ t. omega arith) (λ t. omega arith);
      even = λ k n t. sides b q k (λ x. absurd (n x)) (λ x. absurd (omega arith)) (λ x. p (omega arith));
    }

-- and the one above it likewise
upper : (a b q r : ℕ) → q * b + r ≡ a → r < b → b ≤ 2 * r → (2 * r ≡ b → q % 2 ≡ 1) → Rounds a b (q + 1)
upper a b q r e h l p =
    record {
      least = λ k. sides b (q + 1) k (λ t. rw t (omega arith)) (λ t. omega arith) (λ t. omega arith);
      even = λ k n t. sides b (q + 1) k (λ x. absurd (n x)) (λ x. let o : q % 2 ≡ 1 = p (omega arith) in omega arith) (λ x. absurd (omega arith));
    }

rounds : (a b : ℕ) → 0 < b → Rounds a b (nearest a b)
rounds a b h =
    let e : a / b * b + a % b ≡ a = div-add-mod' a b in
    let l : a % b < b = mod-lt a h in
    three (2 * (a % b)) b
    (λ t. rw (nearest_below a b t) (lower a b (a / b) (a % b) e l (omega arith) (λ x. absurd (omega arith))))
    (λ t. rw (nearest_above a b t) (upper a b (a / b) (a % b) e l (omega arith) (λ x. absurd (omega arith))))
    (λ t. rw (nearest_half a b t) (
    cases (eqb (a / b % 2) 0)
    (λ x. let z : a / b % 2 ≡ 0 = eqb-true (a / b % 2) 0 x in rw (z, add-zero (a / b)) (lower a b (a / b) (a % b) e l (omega arith) (λ _. z)))
    (λ x. let z : a / b % 2 ≡ 1 = omega (arith, eqb-false (a / b % 2) 0 x) in rw z (upper a b (a / b) (a % b) e l (omega arith) (λ _. z)))
    ))

-- of two that are as near and both even, one between them would be nearer
apart_even : (a b i j : ℕ) → 0 < b → Rounds a b i → Rounds a b j → i < j → ⊥
apart_even a b i j h x y l =
    let t : apart a b j ≡ apart a b i = omega (arith, x.least j, y.least i) in
    let p : i % 2 ≡ 0 = x.even j (λ e. omega arith) t in
    let q : j % 2 ≡ 0 = y.even i (λ e. omega arith) (sym t) in
    omega (arith, x.least (i + 1), mul-le-mul_right {m = i + 2} {n = j} b (omega arith))

only : (a b i j : ℕ) → 0 < b → Rounds a b i → Rounds a b j → i ≡ j
only a b i j h x y = three i j (λ l. absurd (apart_even a b i j h x y l)) (λ l. absurd (apart_even a b j i h y x l)) (λ e. e)

up : (m f e : ℕ) → Rounds (m * 10 ^ e * 1000) (10 ^ f) (scaled m f false e)
unfolding scaled
up m f e = rw (mul_assoc m (10 ^ e) 1000, ← pow-add 10 e 3) (rounds (m * 10 ^ (e + 3)) (10 ^ f) (one-le-pow f 10 (lit< tt)))

down : (m f e : ℕ) → Rounds (m * 1000) (10 ^ f * 10 ^ e) (scaled m f true e)
unfolding scaled
down m f e = rw (← pow-add 10 f e) (rounds (m * 1000) (10 ^ (f + e)) (one-le-pow (f + e) 10 (lit< tt)))

-- ── the halves alone, the limit, the sign ──

others : (a b : ℕ) → 0 < b → (2 * (a % b) ≡ b → ⊥) → nearest a b ≡ (2 * a + b) / (2 * b)
others a b h n =
    let e : a / b * b + a % b ≡ a = div-add-mod' a b in
    let l : a % b < b = mod-lt a h in
    three (2 * (a % b)) b
    (λ t. nearest_below a b t ∙ sym (div-eq_of_lt-le (2 * b) (omega arith) (omega arith)))
    (λ t. nearest_above a b t ∙ sym (div-eq_of_lt-le (2 * b) (omega arith) (omega arith)))
    (λ t. absurd (n t))

limit : (a b : ℕ) → 0 < b → (nearest a b ≤ max_thousandths) ↔ (2 * a ≤ (2 * max_thousandths + 1) * b)
limit a b h =
    let x : Rounds a b (nearest a b) = rounds a b h in (
      λ l. omega (arith, x.least (nearest a b + 1), mul-le-mul_right b l),
      λ l. three (nearest a b) max_thousandths
          (λ t. omega arith)
          (λ t.
          let e : apart a b max_thousandths ≡ apart a b (nearest a b) = omega (arith, x.least max_thousandths, mul-le-mul_right b t) in
          let p : nearest a b % 2 ≡ 0 = x.even max_thousandths (λ u. omega arith) e in
          absurd (omega (arith, mul-le-mul_right {m = max_thousandths + 2} {n = nearest a b} b (omega arith))))
          (λ t. omega arith),
    )

sign : (s : List ℕ) → minus s ≡ false → plus s ≡ false → offset_of (45 ∷ s) ≡ neg_ℤ (offset_of s)
unfolding offset_of unsigned thousandths scaled nearest mantissa_digits fraction_digits exponent_digits cut value_from
sign [] h k = refl
sign (b ∷ bs) h k = rw (h, k)

plus_sign : (s : List ℕ) → minus s ≡ false → plus s ≡ false → offset_of (43 ∷ s) ≡ offset_of s
unfolding offset_of unsigned thousandths scaled nearest mantissa_digits fraction_digits exponent_digits cut value_from
plus_sign [] h k = refl
plus_sign (b ∷ bs) h k = rw (h, k)

pub rounding : Rounding
rounding =
    record {
      rounds = rounds;
      only = only;
      up = up;
      down = down;
      exact = λ n b h. nearest_exact (n * b) b n h refl;
      others = others;
      limit = limit;
      plus_sign = plus_sign;
      sign = sign;
    }
