-- What a scan meets: `front` splits a part by whether all of it is digits, `cutting` by whether it has a byte of a kind; both are inductions on the list.
-- Assumes nothing.
use mathlib.Core.Path.{◌≡◌, refl, ap, sym, ◌∙◌, subst}
use mathlib.Core.Bool.{Bool, true, false, not, ◌||◌}
use mathlib.Core.List.{List, [], ◌∷◌, ◌++◌}
use Prim.Native.Nat.{ℕ, suc}
use native.Mathlib.Omega.{arith}
use lib.ListN.{length, drop}
use lib.Dec.{ltb, eqb}
use borrow.Author.Tests.{eqb-true, not-true, lt-ltb}
use Rattle.label.specs.Bytes.{empty, cut, is_digit, all_digits}
use Rattle.label.proofs.Basics.{and_l, and_r, and_i, cases}
use Rattle.label.proofs.Splits.{none}
use Rattle.label.proofs.Decimals.{cut_none, cut_found}
use Rattle.number.specs.Digits.{head_of, ends, is_break, lead}
use Rattle.number.proofs.DigitLaws.{lead_yes, lead_no}

-- what stands behind the digits in front
abbrev pub after : List ℕ → List ℕ
after t = drop (length (lead t)) t

lead_none : (r : List ℕ) → is_digit (head_of r) ≡ false → lead r ≡ []
lead_none [] h = refl
lead_none (b ∷ r) h = lead_no b r h

-- a part w in front of r: all of it is digits, or its digits end at a byte of its own
pub data Front (w r : List ℕ) : Type 0 where
  full : all_digits w ≡ true → lead (w ++ r) ≡ w → after (w ++ r) ≡ r → Front w r
  odd : all_digits w ≡ false → (b : ℕ) (y : List ℕ) → after (w ++ r) ≡ b ∷ y → ((t : ℕ → Bool) → none t w ≡ true → t b ≡ false) → Front w r

pub front : (w r : List ℕ) → is_digit (head_of r) ≡ false → Front w r
unfolding all_digits
front [] r h = full refl (lead_none r h) (rw (lead_none r h))
front (b ∷ w) r h = go (is_digit b) refl (front w r h)
  where
    more : is_digit b ≡ true → Front w r → Front (b ∷ w) r
    more e (full a l f) = full (rw (e, a)) (lead_yes b (w ++ r) e ∙ rw l) (rw (lead_yes b (w ++ r) e) f)
    more e (odd a c y f g) = odd (rw (e, a)) c y (rw (lead_yes b (w ++ r) e) f) (λ t k. g t (and_r (not (t b)) (none t w) k))

    go : (d : Bool) → is_digit b ≡ d → Front w r → Front (b ∷ w) r
    go true e v = more e v
    go false e v = odd (rw e) b (w ++ r) (rw (lead_no b (w ++ r) e)) (λ t k. not-true (t b) (and_l (not (t b)) (none t w) k))

-- a part, whole or cut at the first byte of a kind
pub data Cutting (t : ℕ → Bool) (x : List ℕ) : Type 0 where
  whole : none t x ≡ true → cut t x ≡ record { before = x; found = false; after = [] } → Cutting t x
  parted : (u : List ℕ) (c : ℕ) (w : List ℕ) → x ≡ u ++ (c ∷ w) → none t u ≡ true → t c ≡ true → cut t x ≡ record { before = u; found = true; after = w }
      → Cutting t x

pub cutting : (t : ℕ → Bool) (x : List ℕ) → Cutting t x
cutting t [] = whole refl (cut_none t [] refl)
cutting t (b ∷ x) = go (t b) refl (cutting t x)
  where
    more : t b ≡ false → Cutting t x → Cutting t (b ∷ x)
    more e (whole n f) = whole (rw (e, n)) (cut_none t (b ∷ x) (rw (e, n)))
    more e (parted u c w q n k f) =
        parted (b ∷ u) c w (ap (λ (y : List ℕ). b ∷ y) q) (rw (e, n)) k (ap (λ (y : List ℕ). cut t (b ∷ y)) q ∙ cut_found t (b ∷ u) c w (rw (e, n)) k)

    go : (d : Bool) → t b ≡ d → Cutting t x → Cutting t (b ∷ x)
    go true e v = parted [] b x refl refl e (cut_found t [] b x refl e)
    go false e v = more e v

-- what has no byte of a kind, its parts have none
pub none_left : (t : ℕ → Bool) (u v : List ℕ) → none t (u ++ v) ≡ true → none t u ≡ true
none_left t [] v h = refl
none_left t (b ∷ u) v h = and_i (not (t b)) (none t u) (and_l (not (t b)) (none t (u ++ v)) h) (none_left t u v (and_r (not (t b)) (none t (u ++ v)) h))

pub none_right : (t : ℕ → Bool) (u v : List ℕ) → none t (u ++ v) ≡ true → none t v ≡ true
none_right t [] v h = h
none_right t (b ∷ u) v h = none_right t u v (and_r (not (t b)) (none t (u ++ v)) h)

-- a list has elements where it is not empty
pub some_is : (w : List ℕ) → ltb 0 (length w) ≡ not (empty w)
some_is [] = refl
some_is (b ∷ w) = lt-ltb 0 (suc (length w)) (omega arith)

-- no byte of either kind
pub none_or : (t q : ℕ → Bool) (x : List ℕ) → none t x ≡ true → none q x ≡ true → none (λ b. t b || q b) x ≡ true
none_or t q [] h k = refl
none_or t q (b ∷ x) h k =
    rw (not-true (t b) (and_l (not (t b)) (none t x) h), not-true (q b) (and_l (not (q b)) (none q x) k))
    (none_or t q x (and_r (not (t b)) (none t x) h) (and_r (not (q b)) (none q x) k))

-- the head of what is at the end or before a byte c
pub at_break : (r : List ℕ) → ends is_break r ≡ true → (P : ℕ → Type 0) → P 44 → P 59 → P 0 → P (head_of r)
at_break [] h P p s q = q
at_break (b ∷ r) h P p s q = cases (eqb b 44) (λ e. subst P (sym (eqb-true b 44 e)) p) (λ e. subst P (sym (eqb-true b 59 (rw e at h))) s)
