-- Laws that mantissa, exponent and number as the code builds them are the definitions'; carried by `value_small`, n digits stay below 10^n, so within the
-- limits no cut happens.
-- Assumes nothing.
use mathlib.Core.Path.{◌≡◌, refl, ap, sym}
use mathlib.Core.Bool.{Bool, true, false, cond, ◌&&◌}
use mathlib.Core.List.{List, [], ◌∷◌, ◌++◌}
use Prim.Native.Nat.{ℕ, ◌+◌, ◌-◌, ◌*◌, ◌^◌, ◌≤◌, ◌<◌, min}
use native.Mathlib.Omega.{arith}
use Rattle.std.proofs.lemmas.Option.{same_Some, none-some}
use native.Mathlib.Nat.{mul-le-mul_right, pow-suc, lt_of_lt_of_le}
use lib.Pow.{pow-add}
use lib.Dec.{leb, ltb, eqb}
use lib.ListN.{length, drop, get_or, length-append}
use borrow.Author.Tests.{le-leb, leb-true, eq-eqb, ne_eqb}
use lib.Seq.{drop-drop}
use Rattle.label.specs.Bytes.{is_digit, value_from, value}
use Rattle.label.specs.Entry.{is_e, scaled}
use Rattle.label.specs.Requests.RoundedCount.{is_whole}
use Rattle.label.proofs.Basics.{and_l, and_r}
use Rattle.label.proofs.Decimals.{value_append}
use Rattle.std.specs.Bool.{then_some}
use Rattle.std.specs.Result.{result_ok}
use Rattle.std.proofs.Common.{Option, Some, None}
use Rattle.number.specs.declared.Thousandths.{Thousandths}
use Rattle.number.specs.declared.Digits.{Digits}
use Rattle.number.specs.declared.Mantissa.{Mantissa}
use Rattle.number.specs.declared.Exponent.{Exponent}
use Rattle.number.specs.declared.Number.{Number}
use Rattle.number.specs.Digits.{cap, head_of, lead, digits_from}
use Rattle.number.specs.Numbers.{sized, Mant, Expo, Numeral, pointed, plain, unraised, mantissa_of, exponent_of, sign_length, size_of, number_of, cut_mantissa, cut_exponent, by_form, formed, raised_by}
use Rattle.number.proofs.DigitLaws.{head_drop, lead_yes, lead_no, digit_high, cut_from}
use Rattle.number.proofs.ValueLaws.{ten_mono}

step_small : (v d p w : ℕ) → d ≤ 9 → w < (v * 10 + d + 1) * p → w < (v + 1) * (p * 10)
step_small v d p w h k = omega (arith, mul-le-mul_right p h)

value_small : (t : List ℕ) (v : ℕ) → value_from v (lead t) < (v + 1) * 10 ^ length (lead t)
unfolding value_from
value_small [] v = omega arith
value_small (b ∷ t) v = go (is_digit b) refl (value_small t (v * 10 + (b - 48)))
  where
    go : (d : Bool) → is_digit b ≡ d → value_from (v * 10 + (b - 48)) (lead t) < (v * 10 + (b - 48) + 1) * 10 ^ length (lead t)
        → value_from v (lead (b ∷ t)) < (v + 1) * 10 ^ length (lead (b ∷ t))
    go true e ih = rw (lead_yes b t e, pow-suc 10 (length (lead t)))
        (step_small v (b - 48) (10 ^ length (lead t)) (value_from (v * 10 + (b - 48)) (lead t)) (omega (arith, digit_high b e)) ih)
    go false e ih = rw (lead_no b t e) (omega arith)

lead_small : (t : List ℕ) → value (lead t) < 10 ^ length (lead t)
lead_small t = omega (arith, value_small t 0)

-- two runs of digits as one number
leads_small : (t u : List ℕ) → value (lead t ++ lead u) < 10 ^ length (lead t ++ lead u)
leads_small t u =
    rw (value_append 0 (lead t) (lead u), length-append (lead t) (lead u), pow-add 10 (length (lead t)) (length (lead u)))
    (lt_of_lt_of_le (value_small u (value (lead t))) (mul-le-mul_right (10 ^ length (lead u)) (omega (arith, lead_small t))))

within : (n k v : ℕ) → n ≤ k → v < 10 ^ n → v < 10 ^ k
within n k v h p = lt_of_lt_of_le p (ten_mono n k h)

mant_small : (t : List ℕ) → value (mantissa_of t).digits < 10 ^ length (mantissa_of t).digits
unfolding mantissa_of
mant_small t = go (eqb (get_or t (length (lead t)) 0) 46)
  where
    go : (p : Bool) → let m : Mant = cond p (pointed (lead t) (lead (drop (length (lead t) + 1) t))) (plain (lead t)) in value m.digits < 10 ^ length
        m.digits
    go true = leads_small t (drop (length (lead t) + 1) t)
    go false = lead_small t

mant_behind : (t : List ℕ) → (mantissa_of t).behind ≤ length (mantissa_of t).digits
unfolding mantissa_of
mant_behind t = go (eqb (get_or t (length (lead t)) 0) 46)
  where
    go : (p : Bool) → let m : Mant = cond p (pointed (lead t) (lead (drop (length (lead t) + 1) t))) (plain (lead t)) in m.behind ≤ length m.digits
    go true = omega (arith, length-append (lead t) (lead (drop (length (lead t) + 1) t)))
    go false = omega arith

expo_small : (t : List ℕ) → value (exponent_of t).digits < 10 ^ length (exponent_of t).digits
unfolding exponent_of
expo_small t = go (is_e (head_of t))
  where
    go : (p : Bool) → let x : Expo = cond p (raised_by (get_or t 1 0) t) unraised in value x.digits < 10 ^ length x.digits
    go true = lead_small (drop (1 + sign_length (get_or t 1 0)) t)
    go false = lead_small []

mant_pointed : (t : List ℕ) → get_or t (length (lead t)) 0 ≡ 46 → mantissa_of t ≡ pointed (lead t) (lead (drop (length (lead t) + 1) t))
unfolding mantissa_of
mant_pointed t h = rw (eq-eqb _ _ h)

mant_plain : (t : List ℕ) → (get_or t (length (lead t)) 0 ≡ 46 → ⊥) → mantissa_of t ≡ plain (lead t)
unfolding mantissa_of
mant_plain t h = rw (ne_eqb _ _ h)

cut_append : (a b : List ℕ) → min (value_from (min (value a) cap) b) cap ≡ min (value (a ++ b)) cap
cut_append a b = rw (value_append 0 a b) (cut_from b (min (value a) cap) (value a) (omega arith))

-- what the code makes of two runs of digits
module _ (t : List ℕ) (r : Digits) (e : r ≡ digits_from 0 t) where
  pub code_pointed : get_or t r.count 0 ≡ 46 → (q : Digits) → q ≡ digits_from r.value (drop (r.count + 1) t)
      → ◌≡◌ {A = Mantissa}
      (record { ok = ltb 0 q.count; used = r.count + 1 + q.count; count = r.count + q.count; value = q.value; behind = q.count })
      (cut_mantissa (mantissa_of t))
  code_pointed h q f = rw (mant_pointed t (rw (← ap (λ (d : Digits). d.count) e) h), f, e, length-append, ← cut_append)

  pub code_plain : (get_or t r.count 0 ≡ 46 → ⊥)
      → ◌≡◌ {A = Mantissa} (record { ok = ltb 0 r.count; used = r.count; count = r.count; value = r.value; behind = 0 }) (cut_mantissa (mantissa_of t))
  code_plain h = rw (mant_plain t (λ k. h (rw (ap (λ (d : Digits). d.count) e) k)), e)

-- the exponent by its letter, and what the code makes of it
pub expo_none : (t : List ℕ) → is_e (head_of t) ≡ false → exponent_of t ≡ unraised
unfolding exponent_of
expo_none t h = rw h

pub expo_some : (t : List ℕ) → is_e (head_of t) ≡ true → exponent_of t ≡ raised_by (get_or t 1 0) t
unfolding exponent_of
expo_some t h = rw h

pub code_unraised : (t : List ℕ) → is_e (head_of t) ≡ false
    → ◌≡◌ {A = Exponent} (record { ok = true; used = 0; negative = false; count = 0; value = 0 }) (cut_exponent (exponent_of t))
unfolding value_from
code_unraised t h = rw (expo_none t h)

pub code_raised : (t : List ℕ) → is_e (head_of t) ≡ true → (k : ℕ) → k ≡ sign_length (head_of (drop 1 t)) → (r : Digits)
    → r ≡ digits_from 0 (drop k (drop 1 t)) → (m : Bool) → m ≡ eqb (head_of (drop 1 t)) 45
    → ◌≡◌ {A = Exponent} (record { ok = ltb 0 r.count; used = 1 + k + r.count; negative = m; count = r.count; value = r.value })
    (cut_exponent (exponent_of t))
code_raised t h k ek r er m em = rw (expo_some t h, ← head_drop t 1, ← ek, ← em, er, drop-drop)

-- a test and the value told where it holds
pub told_some : {A : Type 0} (b : Bool) (x y : A) → Some y ≡ then_some b x → (b ≡ true) × (x ≡ y)
told_some true x y e = (refl, sym (same_Some y x e))
told_some false x y e = absurd (none-some y (sym e))

pub told_none : {A : Type 0} (b : Bool) (x : A) → None ≡ then_some b x → b ≡ false
told_none true x e = absurd (none-some x e)
told_none false x e = refl

-- the number, where it is well formed
pub formed_ok : (n : Numeral) → result_ok (formed n) ≡ then_some n.ok (record { used = n.used; size = n.size })
formed_ok n = go n.ok (record { used = n.used; size = n.size })
  where
    go : (b : Bool) (x : Number) → result_ok (by_form b x) ≡ then_some b x
    go true x = refl
    go false x = refl

-- a mantissa within the digits' limit is exact, and within what the code asks of it
module _ (t : List ℕ) (m : Mantissa) (e : m ≡ cut_mantissa (mantissa_of t)) (h : m.count ≤ 18) where
  mant_count : length (mantissa_of t).digits ≤ 18
  mant_count = rw e at h

  mant_below : value (mantissa_of t).digits < cap
  mant_below = within (length (mantissa_of t).digits) 18 (value (mantissa_of t).digits) mant_count (mant_small t)

  mant_exact : value (mantissa_of t).digits ≡ m.value
  mant_exact = rw e (omega (arith, mant_below))

  pub mant_asked : m.behind ≤ 18
  mant_asked = rw e (omega (arith, mant_behind t, mant_count))

-- and an exponent
module _ (t : List ℕ) (x : Exponent) (e : x ≡ cut_exponent (exponent_of t)) (h : x.count ≤ 2) where
  expo_count : length (exponent_of t).digits ≤ 2
  expo_count = rw e at h

  expo_below : value (exponent_of t).digits < 10 ^ 2
  expo_below = within (length (exponent_of t).digits) 2 (value (exponent_of t).digits) expo_count (expo_small t)

  expo_exact : value (exponent_of t).digits ≡ x.value
  expo_exact = rw e (omega (arith, expo_below))

  pub expo_asked : x.value ≤ 99
  expo_asked = omega (arith, expo_exact, expo_below)

within_few : {A : Type 0} (b : Bool) (y z o : A) → (b ≡ true → y ≡ z) → cond b y o ≡ cond b z o
within_few true y z o e = e refl
within_few false y z o e = refl

-- what the code makes of both
module _ (t : List ℕ) (m : Mantissa) (em : m ≡ cut_mantissa (mantissa_of t)) (x : Exponent) (ex : x ≡ cut_exponent (exponent_of (drop m.used t))) where
  size_is : size_of (mantissa_of t) (exponent_of (drop m.used t))
      ≡ cond (leb m.count 18 && leb x.count 2) (sized (scaled m.value m.behind x.negative x.value) (is_whole m.value m.behind x.negative x.value)) None
  size_is =
      let y : List ℕ = drop m.used t in
      rw (← ap (λ (r : Mantissa). r.count) em, ← ap (λ (r : Exponent). r.count) ex)
      (within_few (leb m.count 18 && leb x.count 2) _ _ None
      (λ h. rw (
        mant_exact t m em (leb-true m.count 18 (and_l (leb m.count 18) (leb x.count 2) h)),
        expo_exact y x ex (leb-true x.count 2 (and_r (leb m.count 18) (leb x.count 2) h)),
        ap (λ (r : Mantissa). r.behind) em,
        ap (λ (r : Exponent). r.negative) ex,
      )))

  module _ (ok : Bool) (eo : ok ≡ (m.ok && x.ok)) where
    number_told : (z : Option Thousandths) → z ≡ size_of (mantissa_of t) (exponent_of (drop m.used t))
        → by_form ok (record { used = m.used + x.used; size = z }) ≡ formed (number_of t)
    unfolding number_of
    number_told z ez = rw (ez, eo, ex, em)

    pub code_over : (leb m.count 18 && leb x.count 2) ≡ false → by_form ok (record { used = m.used + x.used; size = None }) ≡ formed (number_of t)
    code_over h = number_told None (rw (size_is, h))

    pub code_sized : m.count ≤ 18 → x.count ≤ 2 → (z : Option Thousandths)
        → z ≡ sized (scaled m.value m.behind x.negative x.value) (is_whole m.value m.behind x.negative x.value)
        → by_form ok (record { used = m.used + x.used; size = z }) ≡ formed (number_of t)
    code_sized h k z e = number_told z (rw (size_is, le-leb m.count 18 h, le-leb x.count 2 k) e)
