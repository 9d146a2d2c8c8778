-- Law `number_is`: the number scanned from a list is the definitions'; it cuts the part at the exponent's letter, then at the point, and meets each run of
-- digits by `front` of Scan.
-- Assumes nothing.
use mathlib.Core.Path.{◌≡◌, refl, ap, sym, ◌∙◌, subst}
use mathlib.Core.Bool.{Bool, true, false, not, cond, ◌&&◌, ◌||◌, and-false}
use mathlib.Core.List.{List, [], ◌∷◌, ◌++◌, append-nil, append_assoc}
use Prim.Native.Nat.{ℕ, ◌+◌}
use native.Mathlib.Nat.{add-zero}
use lib.ListN.{length, drop}
use lib.Seq.{drop-append_seam, drop-drop}
use lib.Dec.{leb, ltb, eqb}
use borrow.Author.Tests.{eqb-true}
use Rattle.label.specs.Limits.{max_digits, max_exponent_digits, max_thousandths}
use Rattle.label.specs.Bytes.{cut, is_digit, all_digits, value}
use Rattle.label.specs.Entry.{minus, plus, unsigned, is_e, is_point, at_exponent, is_decimals, is_number, mantissa_digits, fraction_digits, exponent_digits, scaled, thousandths, number_fits}
use Rattle.label.specs.Requests.RoundedCount.{is_exact}
use Rattle.label.proofs.Basics.{and_r, clash, cases}
use Rattle.label.proofs.Splits.{none}
use Rattle.number.specs.declared.Thousandths.{Thousandths}
use Rattle.std.proofs.Common.{Option, Some, None}
use Rattle.number.specs.Digits.{head_of, ends, is_break, lead}
use Rattle.number.specs.Numbers.{Mant, Expo, mantissa_of, exponent_of, number_of, pointed, plain, raised, unraised, sign_length, size_of}
use Rattle.number.proofs.DigitLaws.{head_drop}
use Rattle.number.proofs.NumberLaws.{expo_none, expo_some}
use Rattle.number.proofs.Scan.{after, Front, full, odd, front, Cutting, whole, parted, cutting, none_left, none_right, none_or, some_is, at_break}

-- the part before an exponent ends at a comma, at an `e`, and at the end
abbrev is_tail : ℕ → Bool
is_tail b = is_break b || is_e b

tail_head : (s : List ℕ) → ends is_tail s ≡ true → (t : ℕ → Bool) → t 44 ≡ false → t 59 ≡ false → t 101 ≡ false → t 69 ≡ false → t 0 ≡ false
    → t (head_of s) ≡ false
tail_head [] h t p k q r z = z
tail_head (b ∷ s) h t p k q r z =
    cases (eqb b 44) (λ e. rw (eqb-true b 44 e) p)
    (λ e. cases (eqb b 59) (λ d. rw (eqb-true b 59 d) k)
    (λ d. cases (eqb b 101) (λ f. rw (eqb-true b 101 f) q)
    (λ f. cases (eqb b 69) (λ g. rw (eqb-true b 69 g) r)
    (λ g. clash (is_tail b) h (rw (e, d, f, g))))))

-- ── before the exponent ──

-- what k scanned bytes of the part u come to
abbrev cut_mant : List ℕ → ℕ → Mant
cut_mant u k = record { ok = true; used = k; digits = (cut is_point u).before ++ (cut is_point u).after; behind = length (cut is_point u).after }

data Manted (u s t : List ℕ) : Type 0 where
  good : is_decimals u ≡ true → (k : ℕ)
      → mantissa_of t ≡ cut_mant u k
      → drop k t ≡ s → Manted u s t
  wrong : is_decimals u ≡ false → ((mantissa_of t).ok && ends is_tail (drop (mantissa_of t).used t)) ≡ false → Manted u s t

-- whether the first byte behind the digits is a point
mant_is : (t : List ℕ) → mantissa_of t ≡ cond (is_point (head_of (after t))) (pointed (lead t) (lead (drop (length (lead t) + 1) t))) (plain (lead t))
unfolding mantissa_of
mant_is t = rw head_drop

mant_whole : (u s : List ℕ) → none is_point u ≡ true → none is_tail u ≡ true → ends is_tail s ≡ true
    → cut is_point u ≡ record { before = u; found = false; after = [] } → Manted u s (u ++ s)
unfolding is_decimals
mant_whole u s p n h c = go u refl (front u s (tail_head s h is_digit refl refl refl refl refl))
  where
    go : (v : List ℕ) → u ≡ v → Front u s → Manted u s (u ++ s)
    go [] e (full a l f) = wrong (rw (c, e)) (rw (mant_is, f, tail_head s h is_point refl refl refl refl refl, l, e))
    go (b ∷ v) e (full a l f) =
        good (rw (c, a, e)) (length u)
        (rw (mant_is, f, tail_head s h is_point refl refl refl refl refl, l, c, append-nil u, ap (λ (w : List ℕ). ltb 0 (length w)) e ∙ some_is (b ∷ v)))
        (drop-append_seam u s)
    go v e (odd a b y f g) = wrong (rw (c, a, and-false)) (rw (mant_is, f, g is_point p, f, g is_tail n, and-false))

mant_pointed_part : (d f s : List ℕ) → none is_point d ≡ true → none is_tail d ≡ true → none is_tail f ≡ true → ends is_tail s ≡ true
    → (u : List ℕ) → cut is_point u ≡ record { before = d; found = true; after = f } → Manted u s (d ++ (46 ∷ (f ++ s)))
unfolding is_decimals
mant_pointed_part d f s p nd nf h u c = outer (front d (46 ∷ (f ++ s)) refl)
  where
    t : List ℕ
    t = d ++ (46 ∷ (f ++ s))

    seam : drop (length d + 1) (d ++ (46 ∷ (f ++ s))) ≡ f ++ s
    seam = sym (drop-drop 1 (length d) (d ++ (46 ∷ (f ++ s)))) ∙ ap (λ (y : List ℕ). drop 1 y) (drop-append_seam d (46 ∷ (f ++ s)))

    rest : drop (length d + 1 + length (lead (f ++ s))) (d ++ (46 ∷ (f ++ s))) ≡ after (f ++ s)
    rest = sym (drop-drop (length (lead (f ++ s))) (length d + 1) (d ++ (46 ∷ (f ++ s)))) ∙ ap (λ (y : List ℕ). drop (length (lead (f ++ s))) y) seam

    inner : mantissa_of (d ++ (46 ∷ (f ++ s))) ≡ pointed d (lead (f ++ s)) → all_digits d ≡ true → (v : List ℕ) → f ≡ v → Front f s
        → Manted u s (d ++ (46 ∷ (f ++ s)))
    inner m a [] e (full b l g) = wrong (rw (c, e, and-false)) (rw (m, l, e))
    inner m a (b ∷ v) e (full b' l g) =
        good (rw (c, a, b', e)) (length d + 1 + length f)
        (m ∙ rw (l, c, ap (λ (w : List ℕ). ltb 0 (length w)) e ∙ some_is (b ∷ v)))
        (rw l at rest ∙ rw l at g)
    inner m a v e (odd b' b y g k) = wrong (rw (c, b', and-false, and-false)) (rw (m, rest, g, k is_tail nf, and-false))

    outer : Front d (46 ∷ (f ++ s)) → Manted u s (d ++ (46 ∷ (f ++ s)))
    outer (full a l g) = inner (rw (mant_is, g, l, seam)) a f refl (front f s (tail_head s h is_digit refl refl refl refl refl))
    outer (odd a b y g k) = wrong (rw (c, a)) (rw (mant_is, g, k is_point p, g, k is_tail nd, and-false))

mant : (u s : List ℕ) → none is_tail u ≡ true → ends is_tail s ≡ true → Manted u s (u ++ s)
mant u s n h = go (cutting is_point u)
  where
    go : Cutting is_point u → Manted u s (u ++ s)
    go (whole p c) = mant_whole u s p n h c
    go (parted d x f q p k c) =
        let q' : u ≡ d ++ (46 ∷ f) = q ∙ rw (eqb-true x 46 k) in
        let n' : none is_tail (d ++ (46 ∷ f)) ≡ true = rw q' at n in
        let e : u ++ s ≡ d ++ (46 ∷ (f ++ s)) = ap (λ (y : List ℕ). y ++ s) q' ∙ append_assoc d (46 ∷ f) s in
        subst (λ (t : List ℕ). Manted u s t) (sym e)
        (mant_pointed_part d f s p (none_left is_tail d (46 ∷ f) n') (and_r (not (is_tail 46)) (none is_tail f) (none_right is_tail d (46 ∷ f) n')) h u c)

-- ── signs ──

pub record Signed (w r : List ℕ) : Type 0 where
  pub rest : drop (sign_length (head_of (w ++ r))) (w ++ r) ≡ unsigned w ++ r
  pub minus_is : eqb (head_of (w ++ r)) 45 ≡ minus w

pub signed : (w r : List ℕ) → ends is_break r ≡ true → Signed w r
unfolding unsigned
signed [] r h =
    record {
      rest = ap (λ (k : ℕ). drop k r) (at_break r h (λ b. sign_length b ≡ 0) refl refl refl);
      minus_is = at_break r h (λ b. eqb b 45 ≡ false) refl refl refl;
    }
signed (b ∷ w) r h =
    cases (eqb b 45)
    (λ e. record { rest = rw (eqb-true b 45 e); minus_is = refl })
    (λ e. cases (eqb b 43)
    (λ f. record { rest = rw (eqb-true b 43 f); minus_is = refl })
    (λ f. record { rest = rw (e, f); minus_is = refl }))

pub none_unsigned : (w : List ℕ) → none is_break w ≡ true → none is_break (unsigned w) ≡ true
unfolding unsigned
none_unsigned [] h = refl
none_unsigned (b ∷ w) h = cases (minus (b ∷ w) || plus (b ∷ w)) (λ e. rw e (and_r (not (is_break b)) (none is_break w) h)) (λ e. rw e h)

-- ── the value ──

-- the size of a part that is a number, and whether it is exact
abbrev pub sized_as : List ℕ → Option Thousandths
sized_as x = cond (number_fits x) (Some (record { count = thousandths x; exact = is_exact x })) None

cond_three : {A : Type 0} (a b c : Bool) (z o : A) → cond (a && b) (cond c z o) o ≡ cond (a && b && c) z o
cond_three true true c z o = refl
cond_three true false c z o = refl
cond_three false b c z o = refl

size_same : (x : List ℕ) (m : Mant) (e : Expo) → m.digits ≡ mantissa_digits x → m.behind ≡ length (fraction_digits x)
    → e.negative ≡ minus (at_exponent x).after → e.digits ≡ exponent_digits x
    → size_of m e ≡ sized_as x
unfolding number_fits thousandths is_exact
size_same x m e d b n p =
    rw (d, b, n, p)
    (cond_three (leb (length (mantissa_digits x)) max_digits) (leb (length (exponent_digits x)) max_exponent_digits)
    (leb (scaled (value (mantissa_digits x)) (length (fraction_digits x)) (minus (at_exponent x).after) (value (exponent_digits x))) max_thousandths)
    (Some (record { count = thousandths x; exact = is_exact x })) None)

-- ── numbers ──

pub data Numbered (x r t : List ℕ) : Type 0 where
  good : is_number x ≡ true → (number_of t).ok ≡ true → drop (number_of t).used t ≡ r → (number_of t).size ≡ sized_as x → Numbered x r t
  wrong : is_number x ≡ false → ((number_of t).ok && ends is_break (drop (number_of t).used t)) ≡ false → Numbered x r t

e_tail : (b : ℕ) → is_e b ≡ true → is_tail b ≡ true
e_tail b h = cases (is_break b) (λ e. rw e) (λ e. rw (e, h))

comma_tail : (r : List ℕ) → ends is_break r ≡ true → ends is_tail r ≡ true
comma_tail [] h = refl
comma_tail (b ∷ r) h = rw h

-- an ill-formed part before the exponent makes an ill-formed number
mant_wrong : (t : List ℕ) → ((mantissa_of t).ok && ends is_tail (drop (mantissa_of t).used t)) ≡ false
    → ((number_of t).ok && ends is_break (drop (number_of t).used t)) ≡ false
unfolding number_of
mant_wrong t h = go (mantissa_of t).ok refl (drop (mantissa_of t).used t) refl
  where
    go : (o : Bool) → (mantissa_of t).ok ≡ o → (y : List ℕ) → drop (mantissa_of t).used t ≡ y
        → (((mantissa_of t).ok && (exponent_of (drop (mantissa_of t).used t)).ok) && ends is_break
        (drop ((mantissa_of t).used + (exponent_of (drop (mantissa_of t).used t)).used) t)) ≡ false
    go false e y f = rw e
    go true e [] f = clash true refl (rw (e, f) at h)
    go true e (b ∷ y) f =
        let k : is_tail b ≡ false = rw (e, f) at h in
        cases (is_break b) (λ c. clash (is_tail b) (rw c) k)
        (λ c. cases (is_e b) (λ g. clash (is_tail b) (e_tail b g) k)
        (λ g. rw (f, expo_none (b ∷ y) g, add-zero (mantissa_of t).used, f, c, and-false)))

number_whole : (x r : List ℕ) → none is_break x ≡ true → ends is_break r ≡ true → none is_e x ≡ true
    → cut is_e x ≡ record { before = x; found = false; after = [] }
    → Numbered x r (x ++ r)
unfolding is_number number_of mantissa_digits exponent_digits unsigned fraction_digits
number_whole x r n h e c = go (mant x r (none_or is_break is_e x n e) (comma_tail r h))
  where
    go : Manted x r (x ++ r) → Numbered x r (x ++ r)
    go (wrong d w) = wrong (rw (c, d)) (mant_wrong (x ++ r) w)
    go (good d k m f) =
        let o : exponent_of r ≡ unraised = expo_none r (at_break r h (λ b. is_e b ≡ false) refl refl refl) in
        good (rw (c, d)) (rw (m, f, o)) (rw (m, f, o, add-zero k) f) (rw (m, f, o)
        (size_same x (cut_mant x k) unraised (rw c) (rw (fraction_digits, c)) (rw c) (rw c)))

number_parted : (u w : List ℕ) (e : ℕ) (r : List ℕ) → none is_break u ≡ true → none is_break w ≡ true → ends is_break r ≡ true → none is_e u ≡ true
    → is_e e ≡ true
    → (x : List ℕ) → cut is_e x ≡ record { before = u; found = true; after = w } → Numbered x r (u ++ (e ∷ (w ++ r)))
unfolding is_number number_of mantissa_digits exponent_digits fraction_digits
number_parted u w e r nu nw h ne k x c = go (mant u (e ∷ (w ++ r)) (none_or is_break is_e u nu ne) (e_tail e k))
  where
    sg : Signed w r
    sg = signed w r h

    skip : drop (1 + sign_length (head_of (w ++ r))) (e ∷ (w ++ r)) ≡ unsigned w ++ r
    skip = sym (drop-drop (sign_length (head_of (w ++ r))) 1 (e ∷ (w ++ r))) ∙ sg.rest

    power_is : exponent_of (e ∷ (w ++ r)) ≡ raised (head_of (w ++ r)) (1 + sign_length (head_of (w ++ r))) (lead (unsigned w ++ r))
    power_is = expo_some (e ∷ (w ++ r)) k ∙ rw skip

    gone : (n : ℕ) → drop n (u ++ (e ∷ (w ++ r))) ≡ e ∷ (w ++ r)
        → drop (n + (1 + sign_length (head_of (w ++ r)) + length (lead (unsigned w ++ r)))) (u ++ (e ∷ (w ++ r))) ≡ after (unsigned w ++ r)
    gone n f =
        sym (drop-drop (1 + sign_length (head_of (w ++ r)) + length (lead (unsigned w ++ r))) n (u ++ (e ∷ (w ++ r))))
        ∙ ap (λ (y : List ℕ). drop (1 + sign_length (head_of (w ++ r)) + length (lead (unsigned w ++ r))) y) f
        ∙ sym (drop-drop (length (lead (unsigned w ++ r))) (1 + sign_length (head_of (w ++ r))) (e ∷ (w ++ r)))
        ∙ ap (λ (y : List ℕ). drop (length (lead (unsigned w ++ r))) y) skip

    go : Manted u (e ∷ (w ++ r)) (u ++ (e ∷ (w ++ r))) → Numbered x r (u ++ (e ∷ (w ++ r)))
    go (wrong d q) = wrong (rw (c, d)) (mant_wrong (u ++ (e ∷ (w ++ r))) q)
    go (good d n m f) = inner (unsigned w) refl (front (unsigned w) r (at_break r h (λ b. is_digit b ≡ false) refl refl refl))
      where
        inner : (v : List ℕ) → unsigned w ≡ v → Front (unsigned w) r → Numbered x r (u ++ (e ∷ (w ++ r)))
        inner [] q (full a l g) = wrong (rw (c, d, q)) (rw (m, f, power_is, l, q))
        inner (b ∷ v) q (full a l g) =
            let o : ltb 0 (length (unsigned w)) ≡ true = ap (λ (y : List ℕ). ltb 0 (length y)) q ∙ some_is (b ∷ v) in
            good (rw (c, d, a, q)) (rw (m, f, power_is, l, o)) (rw (m, f, power_is, gone n f) g)
            (rw (m, f, power_is) (size_same x (cut_mant u n) (raised (head_of (w ++ r)) (1 + sign_length (head_of (w ++ r))) (lead (unsigned w ++ r))) (rw c)
            (rw (fraction_digits, c)) (rw c sg.minus_is) (rw c l)))
        inner v q (odd a b y g i) = wrong (rw (c, d, a, and-false)) (rw (m, f, power_is, gone n f, g, i is_break (none_unsigned w nw), and-false))

-- a part x without a comma or a semicolon, and what follows it
pub number_is : (x r : List ℕ) → none is_break x ≡ true → ends is_break r ≡ true → Numbered x r (x ++ r)
number_is x r n h = go (cutting is_e x)
  where
    go : Cutting is_e x → Numbered x r (x ++ r)
    go (whole e c) = number_whole x r n h e c
    go (parted u e w q ne k c) =
        let n' : none is_break (u ++ (e ∷ w)) ≡ true = rw q at n in
        subst (λ (t : List ℕ). Numbered x r t) (sym (ap (λ (y : List ℕ). y ++ r) q ∙ append_assoc u (e ∷ w) r))
        (number_parted u w e r (none_left is_break u (e ∷ w) n') (and_r (not (is_break e)) (none is_break w) (none_right is_break u (e ∷ w) n')) h ne k x c)
