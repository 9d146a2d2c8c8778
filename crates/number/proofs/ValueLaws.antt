-- Laws of rounding, exactness, powers of ten and the limit; carried by `ten_split` and `nearest_cancel`, a common factor cancels, and by three cases: the
-- doubled remainder against the divisor.
-- Assumes nothing.
use mathlib.Core.Path.{◌≡◌, refl, sym, ap, ◌∙◌}
use mathlib.Core.Bool.{Bool, true}
use Prim.Native.Nat.{ℕ, suc, zero, ◌+◌, ◌-◌, ◌*◌, ◌/◌, ◌%◌, ◌^◌, ◌≤◌, ◌<◌}
use native.Mathlib.Omega.{arith}
use native.Mathlib.Nat.{add-zero, zero-mul, mul-div-mul_right, mul-div_cancel, mul-mod_left, div-eq_of_lt, mul_assoc, one-le-pow, mod-lt, mod-eq_of_lt, pow-le-pow_right, mul-le-mul_right, mul-lt-mul_of_pos_right}
use lib.Arith.{mod-mul}
use lib.Pow.{pow-add}
use lib.Dec.{ltb, eqb, lit<}
use borrow.Author.Tests.{lt-leb, lt-ltb, le-ltb, ltb-true, ltb-false, ne_eqb}
use Rattle.label.specs.Limits.{max_thousandths}
use Rattle.label.specs.Entry.{nearest}
use Rattle.label.proofs.Basics.{cases}
use Rattle.label.proofs.Values.{nearest_exact}
use Rattle.label.proofs.Statements.Rounding.{nearest_below, nearest_above, nearest_half, three}
use Rattle.std.proofs.Common.{None}
use Rattle.number.specs.Digits.{cap}
use Rattle.number.specs.Numbers.{sized}

-- ── powers of ten ──

pub ten_pos : (k : ℕ) → 0 < 10 ^ k
ten_pos k = one-le-pow k 10 (lit< tt)

pub ten_mono : (i j : ℕ) → i ≤ j → 10 ^ i ≤ 10 ^ j
ten_mono i j h = pow-le-pow_right (lit< tt) h

ten_split : (a b : ℕ) → b ≤ a → 10 ^ a ≡ 10 ^ (a - b) * 10 ^ b
ten_split a b h =
    let p : a ≡ (a - b) + b = omega arith in
    ap (λ (n : ℕ). 10 ^ n) p ∙ pow-add 10 (a - b) b

-- ── rounding ──

-- a factor of both
mod_cancel : (m d c : ℕ) → 0 < d → 0 < c → m * c % (d * c) ≡ m % d * c
mod_cancel m d c h k = rw (mod-mul (m * c) h k, mul-div_cancel m k, mul-mod_left m c) (add-zero (m % d * c))

ltb_cancel : (x y c : ℕ) → 0 < c → ltb (x * c) (y * c) ≡ ltb x y
ltb_cancel x y c h =
    cases (ltb x y)
    (λ t. lt-ltb (x * c) (y * c) (mul-lt-mul_of_pos_right (ltb-true x y t) h) ∙ sym t)
    (λ t. le-ltb (x * c) (y * c) (mul-le-mul_right c (ltb-false x y t)) ∙ sym t)

nearest_cancel : (m d c : ℕ) → 0 < d → 0 < c → nearest (m * c) (d * c) ≡ nearest m d
unfolding nearest
nearest_cancel m d c h k =
    rw (mod_cancel m d c h k, mul-div-mul_right m d k, ← mul_assoc 2 (m % d) c, ltb_cancel (2 * (m % d)) d c k, ltb_cancel d (2 * (m % d)) c k)

nearest_none : (m d : ℕ) → 2 * m < d → nearest m d ≡ 0
nearest_none m d h =
    let l : m < d = omega arith in nearest_below m d (rw (mod-eq_of_lt l) h) ∙ div-eq_of_lt l

-- more than a half goes up, and a half where the quotient is odd
pub round_up : (m d : ℕ) → d < 2 * (m % d) + m / d % 2 → nearest m d ≡ m / d + 1
round_up m d h = three (2 * (m % d)) d (λ t. absurd (omega arith)) (nearest_above m d) (λ t. nearest_half m d t ∙ omega arith)

pub round_down : (m d : ℕ) → 2 * (m % d) + m / d % 2 ≤ d → nearest m d ≡ m / d
round_down m d h = three (2 * (m % d)) d (nearest_below m d) (λ t. absurd (omega arith)) (λ t. nearest_half m d t ∙ omega arith)

-- a remainder's double, and one more, has room
pub twice_small : (m k : ℕ) → k ≤ 18 → 2 * (m % 10 ^ k) + 1 < 2 * cap
twice_small m k h = omega (arith, mod-lt m (ten_pos k), ten_mono k 18 h)

-- ── one shift ──

pub scale_grow : (m up down : ℕ) → down ≤ up → nearest (m * 10 ^ up) (10 ^ down) ≡ m * 10 ^ (up - down)
scale_grow m up down h = rw (ten_split up down h, ← mul_assoc m (10 ^ (up - down)) (10 ^ down))
    (nearest_exact (m * 10 ^ (up - down) * 10 ^ down) (10 ^ down) (m * 10 ^ (up - down)) (ten_pos down) refl)

pub scale_shrink : (m up down : ℕ) → up ≤ down → nearest (m * 10 ^ up) (10 ^ down) ≡ nearest m (10 ^ (down - up))
scale_shrink m up down h = rw (ten_split down up h) (nearest_cancel m (10 ^ (down - up)) (10 ^ up) (ten_pos (down - up)) (ten_pos up))

pub shrink_none : (m k : ℕ) → m < 18446744073709551616 → 19 < k → nearest m (10 ^ k) ≡ 0
shrink_none m k h b = nearest_none m (10 ^ k) (omega (arith, ten_mono 20 k b))

-- ── exactness ──

product_zero : (a c : ℕ) → 0 < c → eqb (a * c) 0 ≡ eqb a 0
product_zero zero c h = rw (zero-mul c)
product_zero (suc a) c h = rw (ne_eqb (suc a * c) 0 (λ e. omega (arith, e)), ne_eqb (suc a) 0 (λ e. omega (arith, e)))

pub grow_whole : (m up down : ℕ) → down ≤ up → eqb (m * 10 ^ up % 10 ^ down) 0 ≡ true
grow_whole m up down h = rw (ten_split up down h, ← mul_assoc m (10 ^ (up - down)) (10 ^ down), mul-mod_left (m * 10 ^ (up - down)) (10 ^ down))

pub shrink_whole : (m up down : ℕ) → up ≤ down → eqb (m * 10 ^ up % 10 ^ down) 0 ≡ eqb (m % 10 ^ (down - up)) 0
shrink_whole m up down h =
    rw (ten_split down up h, mod_cancel m (10 ^ (down - up)) (10 ^ up) (ten_pos (down - up)) (ten_pos up))
    (product_zero (m % 10 ^ (down - up)) (10 ^ up) (ten_pos up))

pub none_whole : (m k : ℕ) → m < 18446744073709551616 → 19 < k → eqb (m % 10 ^ k) 0 ≡ eqb m 0
none_whole m k h b =
    let l : m < 10 ^ k = omega (arith, ten_mono 20 k b) in rw (mod-eq_of_lt l)

-- ── the limit ──

pub sized_over : (v : ℕ) (x : Bool) → max_thousandths < v → sized v x ≡ None
sized_over v x h = rw (lt-leb v max_thousandths h)

pub grow_over : (m k : ℕ) → 0 < m → 9 < k → max_thousandths < m * 10 ^ k
grow_over m k h b = omega (arith, ten_mono 10 k b, mul-le-mul_right (10 ^ k) h)

pub grow_large : (m k : ℕ) → max_thousandths < m → max_thousandths < m * 10 ^ k
grow_large m k h = omega (arith, mul-le-mul_right (10 ^ k) h, ten_pos k)
