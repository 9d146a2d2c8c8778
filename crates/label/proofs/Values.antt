-- What the way back asks of a form of values (`Writer`), and that the normal form meets it: its bytes are a number, moderate, exact, and read back as the
-- value.
-- Assumes nothing.
use Prim.Native.Nat.{ℕ, zero, suc, ◌+◌, ◌*◌, ◌-◌, ◌/◌, ◌%◌, ◌^◌, ◌≤◌, ◌<◌}
use native.Mathlib.Omega.{arith}
use native.Mathlib.Nat.{mul-mod_left, mul-div_cancel}
use mathlib.Core.Path.{◌≡◌, refl, sym, ◌∙◌}
use mathlib.Core.Bool.{true, false, cond, not, false≢true}
use mathlib.Core.List.{List, [], ◌∷◌, ◌++◌, append-nil}
use borrow.Author.Tests.{lt-ltb, le-leb, eq-eqb, eqb-true}
use lib.Dec.{eqb}
use lib.ListN.{length, get_or, length-append}
use Rattle.label.specs.Bytes.{empty, cut, is_digit, all_digits, digits, value_from, value, decimal}
use Rattle.label.specs.Entry.{minus, plus, unsigned, is_e, is_point, at_exponent, is_decimals, is_number, mantissa_digits, fraction_digits, exponent_digits, nearest, scaled, thousandths, number_fits}
use Rattle.label.specs.Write.{fraction, value_bytes}
use Rattle.label.specs.Requests.RoundedCount.{is_whole, is_exact}
use Rattle.label.proofs.Basics.{and_l, and_r, clash, cases}
use Rattle.label.proofs.Splits.{free, none_append, empty_behind}
use Rattle.label.proofs.Decimals.{value_append, digits_append, digits_one, value_decimal, all_decimal, empty_decimal, length_decimal, digits_decimal, digits_none, cut_none, cut_found}

-- a digit is none of the other bytes
pub digit_not : (c : ℕ) → is_digit c ≡ false → (b : ℕ) → is_digit b ≡ true → eqb b c ≡ false
digit_not c k b h = cases (eqb b c) (λ t. clash (is_digit c) (rw (eqb-true b c t) at h) k) (λ t. t)

pub digit_not_e : (b : ℕ) → is_digit b ≡ true → is_e b ≡ false
digit_not_e b h = rw (digit_not 101 refl b h, digit_not 69 refl b h)

pub head_digit : (s : List ℕ) → digits s ≡ true → is_digit (get_or s 0 0) ≡ true
unfolding all_digits
head_digit [] h = absurd (false≢true h)
head_digit (b ∷ bs) h = and_l (is_digit b) (all_digits bs) h

-- bytes that are a number without sign and exponent: digits, a point or none, digits
pub record Plain (v figs frac : List ℕ) : Type 0 where
  pub is : is_number v ≡ true
  pub figs_are : mantissa_digits v ≡ figs
  pub frac_are : fraction_digits v ≡ frac
  pub exp_are : exponent_digits v ≡ []
  pub up : minus (at_exponent v).after ≡ false

plain_whole : (w : List ℕ) → digits w ≡ true → Plain w w []
unfolding is_number is_decimals mantissa_digits fraction_digits exponent_digits unsigned
plain_whole w h =
    let a : all_digits w ≡ true = and_r (not (empty w)) (all_digits w) h in
    let e : cut is_e w ≡ record { before = w; found = false; after = [] } = cut_none is_e w (digits_none is_e digit_not_e w a) in
    let p : cut is_point w ≡ record { before = w; found = false; after = [] } = cut_none is_point w (digits_none is_point (digit_not 46 refl) w a) in
    record {
      is = rw (e, p, h);
      figs_are = rw (e, p) (append-nil w);
      frac_are = rw (e, p, fraction_digits);
      exp_are = rw e;
      up = rw e;
    }

plain_point : (w f : List ℕ) → all_digits w ≡ true → digits f ≡ true → Plain (w ++ (46 ∷ f)) (w ++ f) f
unfolding is_number is_decimals mantissa_digits fraction_digits exponent_digits unsigned
plain_point w f h k =
    let b : all_digits f ≡ true = and_r (not (empty f)) (all_digits f) k in
    let e : cut is_e (w ++ (46 ∷ f)) ≡ record { before = w ++ (46 ∷ f); found = false; after = [] } =
    cut_none is_e (w ++ (46 ∷ f)) (none_append is_e w (46 ∷ f) (digits_none is_e digit_not_e w h) (digits_none is_e digit_not_e f b)) in
    let p : cut is_point (w ++ (46 ∷ f)) ≡ record { before = w; found = true; after = f } =
    cut_found is_point w 46 f (digits_none is_point (digit_not 46 refl) w h) refl in
    record {
      is = rw (e, p, h, k);
      figs_are = rw (e, p);
      frac_are = rw (e, p, fraction_digits);
      exp_are = rw e;
      up = rw e;
    }

-- what a plain number with these figures comes to
plain_value : (v figs frac : List ℕ) → Plain v figs frac → thousandths v ≡ nearest (value figs * 1000) (10 ^ length frac)
unfolding thousandths scaled value_from
plain_value v figs frac p = rw (p.figs_are, p.frac_are, p.exp_are, p.up)

plain_moderate : (v figs frac : List ℕ) → Plain v figs frac → length figs ≤ 18 → thousandths v ≤ 1000000000 → number_fits v ≡ true
unfolding number_fits
plain_moderate v figs frac p h k =
    rw (p.figs_are, p.exp_are, le-leb (length figs) 18 h, le-leb (thousandths v) 1000000000 k)

-- with at most three digits behind the point it is a whole count of thousandths
thousand_whole : (m k : ℕ) → k ≤ 3 → eqb (m * 1000 % 10 ^ k) 0 ≡ true
thousand_whole m zero h = eq-eqb (m * 1000 % 1) 0 (omega arith)
thousand_whole m (suc zero) h = eq-eqb (m * 1000 % 10) 0 (omega arith)
thousand_whole m (suc (suc zero)) h = eq-eqb (m * 1000 % 100) 0 (omega arith)
thousand_whole m (suc (suc (suc zero))) h = eq-eqb (m * 1000 % 1000) 0 (omega arith)
thousand_whole m (suc (suc (suc (suc k)))) h = absurd (omega arith)

plain_exact : (v figs frac : List ℕ) → Plain v figs frac → length frac ≤ 3 → is_exact v ≡ true
unfolding is_exact is_whole value_from
plain_exact v figs frac p h = rw (p.figs_are, p.frac_are, p.exp_are, p.up) (thousand_whole (value figs) (length frac) h)

-- the only law of the rounding that the way back needs: a whole number is itself
pub nearest_exact : (a b v : ℕ) → 0 < b → a ≡ v * b → nearest a b ≡ v
unfolding nearest
nearest_exact a b v h e = rw (e, mul-mod_left v b, lt-ltb 0 b h) (mul-div_cancel v h)

-- what the reader has to know of the bytes of the value n
pub record Writes (n : ℕ) (v : List ℕ) : Type 0 where
  pub full : empty v ≡ false
  pub no_minus : minus v ≡ false
  pub no_plus : plus v ≡ false
  pub is : is_number v ≡ true
  pub small : number_fits v ≡ true
  pub val : thousandths v ≡ n
  pub exact : is_exact v ≡ true
  pub short : length v ≤ 11
  pub comma : free 44 v ≡ true
  pub semi : free 59 v ≡ true

whole_writes : (n q : ℕ) → n ≤ 1000000000 → n ≡ q * 1000 → Writes n (decimal q)
whole_writes n q h e =
    let p : Plain (decimal q) (decimal q) [] = plain_whole (decimal q) (digits_decimal q) in
    let l : length (decimal q) ≤ 7 = length_decimal q 6 (omega arith) in
    let t : thousandths (decimal q) ≡ n = plain_value (decimal q) (decimal q) [] p
    ∙ rw value_decimal (nearest_exact (q * 1000) 1 n (omega arith) (omega arith)) in
    let d : is_digit (get_or (decimal q) 0 0) ≡ true = head_digit (decimal q) (digits_decimal q) in
    record {
      full = empty_decimal q;
      no_minus = digit_not 45 refl (get_or (decimal q) 0 0) d;
      no_plus = digit_not 43 refl (get_or (decimal q) 0 0) d;
      is = p.is;
      small = plain_moderate (decimal q) (decimal q) [] p (omega arith) (omega arith);
      val = t;
      exact = plain_exact (decimal q) (decimal q) [] p (omega arith);
      short = omega arith;
      comma = digits_none (λ b. eqb b 44) (digit_not 44 refl) (decimal q) (all_decimal q);
      semi = digits_none (λ b. eqb b 59) (digit_not 59 refl) (decimal q) (all_decimal q);
    }

-- digits f behind the point after the whole number q, for r thousandths
record Frac (q r : ℕ) (f : List ℕ) : Type 0 where
  is : digits f ≡ true
  short : length f ≤ 3
  val : nearest (value_from q f * 1000) (10 ^ length f) ≡ q * 1000 + r

frac_one : (q r : ℕ) → r < 1000 → r % 100 ≡ 0 → Frac q r ((48 + r / 100) ∷ [])
unfolding value_from
frac_one q r h e =
    record {
      is = digits_one (r / 100) (omega arith);
      short = omega arith;
      val = nearest_exact ((q * 10 + (48 + r / 100 - 48)) * 1000) 10 (q * 1000 + r) (omega arith) (omega arith);
    }

frac_two : (q r : ℕ) → r < 1000 → r % 10 ≡ 0 → Frac q r ((48 + r / 100) ∷ (48 + r / 10 % 10) ∷ [])
unfolding value_from
frac_two q r h e =
    record {
      is = digits_append ((48 + r / 100) ∷ []) ((48 + r / 10 % 10) ∷ []) (digits_one (r / 100) (omega arith)) (digits_one (r / 10 % 10) (omega arith));
      short = omega arith;
      val = nearest_exact (((q * 10 + (48 + r / 100 - 48)) * 10 + (48 + r / 10 % 10 - 48)) * 1000) 100 (q * 1000 + r) (omega arith) (omega arith);
    }

frac_three : (q r : ℕ) → r < 1000 → Frac q r ((48 + r / 100) ∷ (48 + r / 10 % 10) ∷ (48 + r % 10) ∷ [])
unfolding value_from
frac_three q r h =
    record {
      is =
          digits_append ((48 + r / 100) ∷ []) ((48 + r / 10 % 10) ∷ (48 + r % 10) ∷ []) (digits_one (r / 100) (omega arith))
          (digits_append ((48 + r / 10 % 10) ∷ []) ((48 + r % 10) ∷ []) (digits_one (r / 10 % 10) (omega arith)) (digits_one (r % 10) (omega arith)));
      short = omega arith;
      val = nearest_exact ((((q * 10 + (48 + r / 100 - 48)) * 10 + (48 + r / 10 % 10 - 48)) * 10 + (48 + r % 10 - 48)) * 1000) 1000 (q * 1000 + r)
          (omega arith) (omega arith);
    }

frac_is : (q r : ℕ) → r < 1000 → Frac q r (fraction r)
unfolding fraction
frac_is q r h =
    cases (eqb (r % 100) 0)
    (λ t. rw t (frac_one q r h (eqb-true (r % 100) 0 t)))
    (λ t. rw t (cases (eqb (r % 10) 0) (λ s. rw s (frac_two q r h (eqb-true (r % 10) 0 s))) (λ s. rw s (frac_three q r h))))

point_writes : (n q r : ℕ) (w f : List ℕ) → n ≤ 1000000000 → n ≡ q * 1000 + r → all_digits w ≡ true → value w ≡ q → length w ≤ 7 → Frac q r f
    → Writes n (w ++ (46 ∷ f))
point_writes n q r w f h e a b l x =
    let p : Plain (w ++ (46 ∷ f)) (w ++ f) f = plain_point w f a x.is in
    let k : all_digits f ≡ true = and_r (not (empty f)) (all_digits f) x.is in
    let t : thousandths (w ++ (46 ∷ f)) ≡ n = plain_value (w ++ (46 ∷ f)) (w ++ f) f p ∙ rw (value_append 0 w f, b, x.val) (sym e) in
    record {
      full = nonempty w f;
      no_minus = head 45 w f refl refl a;
      no_plus = head 43 w f refl refl a;
      is = p.is;
      small = plain_moderate (w ++ (46 ∷ f)) (w ++ f) f p (rw length-append (omega (arith, x.short))) (omega arith);
      val = t;
      exact = plain_exact (w ++ (46 ∷ f)) (w ++ f) f p x.short;
      short = rw length-append (omega (arith, x.short));
      comma = none_append (λ b. eqb b 44) w (46 ∷ f) (digits_none (λ b. eqb b 44) (digit_not 44 refl) w a)
          (digits_none (λ b. eqb b 44) (digit_not 44 refl) f k);
      semi = none_append (λ b. eqb b 59) w (46 ∷ f) (digits_none (λ b. eqb b 59) (digit_not 59 refl) w a) (digits_none (λ b. eqb b 59) (digit_not 59 refl) f k);
    }
  where
    nonempty : (w f : List ℕ) → empty (w ++ (46 ∷ f)) ≡ false
    nonempty [] f = refl
    nonempty (b ∷ w) f = refl

    head : (c : ℕ) (w f : List ℕ) → is_digit c ≡ false → eqb 46 c ≡ false → all_digits w ≡ true → eqb (get_or (w ++ (46 ∷ f)) 0 0) c ≡ false
    head c [] f d g a = g
    head c (b ∷ w) f d g a = digit_not c d b (head_digit (b ∷ w) a)

value_writes : (n : ℕ) → n ≤ 1000000000 → Writes n (value_bytes n)
unfolding value_bytes
value_writes n h =
    let d : n ≡ n / 1000 * 1000 + n % 1000 = omega arith in
    cases (eqb (n % 1000) 0)
    (λ t. rw t (whole_writes n (n / 1000) h (omega (arith, eqb-true (n % 1000) 0 t))))
    (λ t. rw t (cases (eqb (n / 1000) 0)
    (λ s. rw s (point_writes n (n / 1000) (n % 1000) [] (fraction (n % 1000)) h d (all_nil) (value_nil (n / 1000) (eqb-true (n / 1000) 0 s)) (omega arith)
    (frac_is (n / 1000) (n % 1000) (omega arith))))
    (λ s. rw s (point_writes n (n / 1000) (n % 1000) (decimal (n / 1000)) (fraction (n % 1000)) h d (all_decimal (n / 1000)) (value_decimal (n / 1000))
    (length_decimal (n / 1000) 6 (omega arith)) (frac_is (n / 1000) (n % 1000) (omega arith))))))
  where
    all_nil : all_digits [] ≡ true
    all_nil = unfold all_digits in refl

    value_nil : (q : ℕ) → q ≡ 0 → value [] ≡ q
    value_nil q e = unfold value_from in (sym e)

value_full : (n : ℕ) → empty (value_bytes n) ≡ false
unfolding value_bytes
value_full n =
    cases (eqb (n % 1000) 0)
    (λ e. rw e (empty_decimal (n / 1000)))
    (λ e. rw e (empty_behind (cond (eqb (n / 1000) 0) [] (decimal (n / 1000))) (46 ∷ fraction (n % 1000)) refl))

-- a form of values that the way back is proved for: every value has bytes, and those of one within the limits are as the reader has to know
pub record Writer (w : ℕ → List ℕ) : Type 0 where
  pub full : (n : ℕ) → empty (w n) ≡ false
  pub writes : (n : ℕ) → n ≤ 1000000000 → Writes n (w n)

pub normal_writer : Writer value_bytes
normal_writer = record { full = value_full; writes = value_writes }
