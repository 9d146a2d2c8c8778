-- Laws of the five names: each is told by the bytes at their places (`by_places`), as the code's `match` tells it, and stands before the first `;` (`name_is`).
-- Assumes nothing.
use Rattle.std.proofs.Common.{◌≡◌, ℕ, suc, ◌<◌, Bool, true, false, not, cond, ◌&&◌, eqb, leb, List, [], ◌∷◌, ◌++◌, length, get_or, Some, None, refl, sym, ap, ◌∙◌, arith}
use mathlib.Core.Bool.{and-false}
use Rattle.std.proofs.lemmas.Bool.Decides.{nat_tests}
use Rattle.label.specs.Bytes.{ascii, begins}
use Rattle.label.specs.Text.{xml_char}
use Rattle.label.specs.Requests.Attribute.{same_bytes, predefined, body, is_closed}
use Rattle.label.proofs.Basics.{cases, and_r}
use Rattle.label.proofs.Requests.Attribute.{closed_none, closed_here, body_here, closed_further, body_further}
use Rattle.attribute.specs.Pieces.{IsChar, GivesChar, named}

-- ── at their places ──

-- the bytes w stand from place i on
abbrev pub at_places : List ℕ → ℕ → List ℕ → Bool
at_places s i [] = true
at_places s i (b ∷ w) = eqb (get_or s i 0) b && at_places s (suc i) w

deeper : (x : ℕ) (s : List ℕ) (i : ℕ) (w : List ℕ) → at_places s i w ≡ at_places (x ∷ s) (suc i) w
deeper x s i [] = refl
deeper x s i (b ∷ w) = ap (λ (t : Bool). eqb (get_or s i 0) b && t) (deeper x s (suc i) w)

front : (e p q : Bool) → (e && (p && q)) ≡ (p && (e && q))
front true p q = refl
front false p q = rw (and-false p)

begins_is : (w s : List ℕ) → begins w s ≡ (leb (length w) (length s) && at_places s 0 w)
unfolding begins
begins_is [] s = grind (arith, nat_tests)
begins_is (b ∷ w) [] = grind (arith, nat_tests)
begins_is (b ∷ w) (x ∷ s) =
    let e : leb (suc (length w)) (suc (length s)) ≡ leb (length w) (length s) = grind (arith, nat_tests) in
    rw (begins_is w s, deeper x s 0 w, e) (front (eqb x b) (leb (length w) (length s)) (at_places (x ∷ s) 1 w))

pub by_places : (s : List ℕ) → named s
    ≡ cond (leb 4 (length s) && at_places s 0 (97 ∷ 109 ∷ 112 ∷ 59 ∷ [])) (Some (38, 4))
    (cond (leb 3 (length s) && at_places s 0 (108 ∷ 116 ∷ 59 ∷ [])) (Some (60, 3))
    (cond (leb 3 (length s) && at_places s 0 (103 ∷ 116 ∷ 59 ∷ [])) (Some (62, 3))
    (cond (leb 5 (length s) && at_places s 0 (113 ∷ 117 ∷ 111 ∷ 116 ∷ 59 ∷ [])) (Some (34, 5))
    (cond (leb 5 (length s) && at_places s 0 (97 ∷ 112 ∷ 111 ∷ 115 ∷ 59 ∷ [])) (Some (39, 5)) None))))
unfolding named ascii
by_places s = simp begins_is

-- what the check tries at each return
pub ruleset names = (by_places, nat_tests)

-- ── before the first `;` ──

-- no byte of w is `;`
abbrev apart : List ℕ → Bool
apart [] = true
apart (b ∷ w) = not (eqb b 59) && apart w

front_is : (w s : List ℕ) → apart w ≡ true → begins (w ++ (59 ∷ [])) s ≡ (is_closed s && same_bytes (body s) w)
unfolding begins same_bytes
front_is [] [] h = rw closed_none
front_is [] (x ∷ s) h =
    cases (eqb x 59) (λ e. rw (e, closed_here x s e, body_here x s e)) (λ e. rw (e, body_further x s e, and-false (is_closed (x ∷ s))))
front_is (b ∷ w) [] h = rw closed_none
front_is (b ∷ w) (x ∷ s) h =
    cases (eqb x 59)
    (λ e. let n : eqb x b ≡ false = grind (arith, nat_tests) in rw (n, body_here x s e, and-false (is_closed (x ∷ s))))
    (λ e. rw (closed_further x s e, body_further x s e, front_is w s (and_r (not (eqb b 59)) (apart w) h))
    (front (eqb x b) (is_closed s) (same_bytes (body s) w)))

same_length : (s w : List ℕ) → same_bytes s w ≡ true → length w ≡ length s
unfolding same_bytes
same_length [] [] h = refl
same_length [] (b ∷ w) h = absurd (grind (arith, nat_tests))
same_length (x ∷ s) [] h = absurd (grind (arith, nat_tests))
same_length (x ∷ s) (b ∷ w) h = ap (λ (n : ℕ). suc n) (same_length s w (and_r (eqb x b) (same_bytes s w) h))

short : (s : List ℕ) → is_closed s ≡ true → length (body s) < length s
short [] h = absurd (grind (arith, closed_none))
short (b ∷ s) h =
    cases (eqb b 59) (λ e. rw (body_here b s e) (omega arith))
    (λ e. let k = short s (sym (closed_further b s e) ∙ h) in rw (body_further b s e) (omega arith))

-- the five names, without `;`
abbrev amp : List ℕ
amp = 97 ∷ 109 ∷ 112 ∷ []

abbrev lt : List ℕ
lt = 108 ∷ 116 ∷ []

abbrev gt : List ℕ
gt = 103 ∷ 116 ∷ []

abbrev quot : List ℕ
quot = 113 ∷ 117 ∷ 111 ∷ 116 ∷ []

abbrev apos : List ℕ
apos = 97 ∷ 112 ∷ 111 ∷ 115 ∷ []

module _ (s : List ℕ) where
  -- the bytes before the first `;` are w
  abbrev has : List ℕ → Bool
  has w = same_bytes (body s) w

  code_is : predefined (body s) ≡ cond (has amp) 38 (cond (has lt) 60 (cond (has gt) 62 (cond (has quot) 34 (cond (has apos) 39 0))))
  unfolding predefined ascii
  code_is = refl

  parts : named s
      ≡ cond (is_closed s && has amp) (Some (38, 4))
      (cond (is_closed s && has lt) (Some (60, 3))
      (cond (is_closed s && has gt) (Some (62, 3))
      (cond (is_closed s && has quot) (Some (34, 5)) (cond (is_closed s && has apos) (Some (39, 5)) None))))
  unfolding named ascii
  parts = rw (front_is amp s refl, front_is lt s refl, front_is gt s refl, front_is quot s refl, front_is apos s refl)

  -- where there is a `;`
  module _ (h : is_closed s ≡ true) where
    found : (w : List ℕ) {c n : ℕ} → has w ≡ true → c ≡ predefined (body s) → xml_char c ≡ true → n ≡ suc (length w) → IsChar predefined s c n
    found w e f x g =
        let k = short s h in
        let l = same_length (body s) w e in
        record { closed = h; character = f; xml = x; length_is = omega arith; within = omega arith }

    chosen : GivesChar predefined s
        (cond (has amp) (Some (38, 4))
        (cond (has lt) (Some (60, 3)) (cond (has gt) (Some (62, 3)) (cond (has quot) (Some (34, 5)) (cond (has apos) (Some (39, 5)) None)))))
    unfolding xml_char
    chosen =
        cases (has amp) (λ a. rw a (found amp a (rw (code_is, a)) refl (omega arith)))
        (λ a. cases (has lt) (λ l. rw (a, l) (found lt l (rw (code_is, a, l)) refl (omega arith)))
        (λ l. cases (has gt) (λ g. rw (a, l, g) (found gt g (rw (code_is, a, l, g)) refl (omega arith)))
        (λ g. cases (has quot) (λ q. rw (a, l, g, q) (found quot q (rw (code_is, a, l, g, q)) refl (omega arith)))
        (λ q. cases (has apos) (λ p. rw (a, l, g, q, p) (found apos p (rw (code_is, a, l, g, q, p)) refl (omega arith)))
        (λ p. let z : predefined (body s) ≡ 0 = rw (code_is, a, l, g, q, p) in rw (a, l, g, q, p, z) (and-false (is_closed s)))))))

    named_is : named s
        ≡ cond (has amp) (Some (38, 4))
        (cond (has lt) (Some (60, 3)) (cond (has gt) (Some (62, 3)) (cond (has quot) (Some (34, 5)) (cond (has apos) (Some (39, 5)) None))))
    named_is = rw (parts, h)

  -- the name at the front is what stands before the first `;`
  pub name_is : GivesChar predefined s (named s)
  name_is = cases (is_closed s) (λ h. rw (named_is h) (chosen h)) (λ h. rw (parts, h))
