-- Laws of the character at a place: each way to find it, what is read there and that it may stand; by rewriting and by Rows.
-- Assumes nothing.
use Prim.Native.Nat.{ℕ, zero, suc, ◌+◌, ◌≤◌, ◌<◌}
use native.Mathlib.Omega.{arith}
use native.Mathlib.Nat.{add-zero}
use native.Mathlib.Numerals.{add-one}
use mathlib.Core.Path.{◌≡◌, refl, sym, ◌∙◌, ap, subst}
use mathlib.Core.Bool.{true, false}
use mathlib.Core.List.{List, [], ◌∷◌}
use Rattle.std.proofs.lemmas.Grind.{common_steps}
use lib.ListN.{length, get_or, take, drop, length-take, length-drop}
use lib.Seq.{drop-cons, drop-drop}
use Rattle.std.specs.Prelude.{Some, None, Result, Ok, Err, IfOk}
use Rattle.label.specs.Outcome.{Outcome, no}
use Rattle.label.specs.Steps.{decode}
use Rattle.label.specs.Text.{starts_char, following, scalar, code_point, xml_char, units_of}
use Rattle.label.proofs.Basics.{cases}
use Rattle.label.proofs.Steps.{decode_char}
use Rattle.label.proofs.Cursors.{part_rest, onto, decode_skip}
use Rattle.utf8.specs.Rows.{lead, trail}
use Rattle.utf8.specs.Chars.{read_char, standing, char_at}
use Rattle.utf8.specs.declared.Trailing.{Trailing}
use Rattle.utf8.specs.declared.Char.{Char}
use Rattle.utf8.specs.declared.CharFault.{CharFault}
use Rattle.utf8.specs.declared.CharFault.TheVariants.{IllFormed, Barred}
use Rattle.utf8.proofs.Rows.{trail_inside, starts_is, following_is, following_inside, starts_one}

-- ── the character at a place ──

-- one of one byte
pub char_one : (s : List ℕ) (i : ℕ) → get_or s i 0 < 128 → char_at s i ≡ standing (get_or s i 0) (i + 1)
unfolding char_at scalar
char_one s i h = let (t, n) = starts_one (get_or s i 0) (drop (i + 1) s) (omega arith) in rw (t, n, add-zero (i + 1))

xml_plain : (c : ℕ) → 32 ≤ c → c ≤ 127 → xml_char c ≡ true
unfolding xml_char
xml_plain c l k = grind (arith, common_steps)

-- a byte from space to 127 is a character
pub char_plain : (s : List ℕ) (i : ℕ) → 32 ≤ get_or s i 0 → get_or s i 0 ≤ 127 → char_at s i ≡ read_char (get_or s i 0) (i + 1)
char_plain s i h k = char_one s i (omega arith) ∙ rw (xml_plain (get_or s i 0) h k)

-- the first m bytes, which are x, are enough for its number
scalar_part : (m b : ℕ) (s x : List ℕ) → x ≡ take m s → m ≤ length s → (length x ≡ m) × (scalar m b x ≡ scalar m b s)
unfolding scalar
scalar_part zero b s x e p = rw e (refl, refl)
scalar_part (suc m) b [] x e p = absurd (omega arith)
scalar_part (suc zero) b (c ∷ s) x e p = rw e (refl, refl)
scalar_part (suc (suc m)) b (c ∷ []) x e p = absurd (omega arith)
scalar_part (suc (suc zero)) b (c ∷ d ∷ s) x e p = rw e (refl, refl)
scalar_part (suc (suc (suc m))) b (c ∷ d ∷ []) x e p = absurd (omega arith)
scalar_part (suc (suc (suc m))) b (c ∷ d ∷ f ∷ s) x e p = rw e (omega (arith, length-take m s), refl)

-- by the row of its first byte
pub char_no_row : (s : List ℕ) (i : ℕ) → lead (get_or s i 0) ≡ None → char_at s i ≡ Err IllFormed
unfolding char_at
char_no_row s i e = let t : starts_char (get_or s i 0) (drop (i + 1) s) ≡ false = starts_is _ _ ∙ rw e in rw t

module _ (s : List ℕ) (i : ℕ) (r : Trailing) (e : lead (get_or s i 0) ≡ Some r) where
  starts : starts_char (get_or s i 0) (drop (i + 1) s) ≡ trail r.more r.lo r.hi (drop (i + 1) s)
  starts = starts_is (get_or s i 0) (drop (i + 1) s) ∙ rw e

  -- the bytes behind it are not the row's
  pub char_cut : trail r.more r.lo r.hi (drop (i + 1) s) ≡ false → char_at s i ≡ Err IllFormed
  unfolding char_at
  char_cut h = rw (starts ∙ h)

  -- they are, and x are these
  pub char_whole : (x : List ℕ) → x ≡ take r.more (drop (i + 1) s) → trail r.more r.lo r.hi (drop (i + 1) s) ≡ true
      → char_at s i ≡ standing (scalar (length x) (get_or s i 0) x) (i + 1 + length x)
  unfolding char_at
  char_whole x d h =
      let t : starts_char (get_or s i 0) (drop (i + 1) s) ≡ true = starts ∙ h in
      let n : following (get_or s i 0) (drop (i + 1) s) ≡ r.more = following_is _ _ t ∙ rw e in
      let (k, c) = scalar_part r.more (get_or s i 0) (drop (i + 1) s) x d (trail_inside r.more r.lo r.hi (drop (i + 1) s) h) in
      rw (t, n, k) (ap (λ (m : ℕ). standing m (i + 1 + r.more)) (sym c))

-- ── what is read there, and what may stand ──

-- what is read from place i on, where x is the character there
abbrev pub reading : List ℕ → ℕ → Result Char CharFault → Outcome (List ℕ)
reading s i (Ok c) = onto (units_of c.code) (decode 0 c.next (drop c.next s))
reading s i (Err IllFormed) = no 2 i
reading s i (Err Barred) = no 3 i

-- a character that may stand is one of XML's, and its bytes are there
abbrev pub Standing : List ℕ → ℕ → Result Char CharFault → Type 0
Standing s i r = IfOk r (λ c. (xml_char c.code ≡ true) × (i < c.next) × (c.next ≤ length s))

module _ (s : List ℕ) (i : ℕ) (l : i < length s) where
  reads_here : decode 0 i (drop i s) ≡ reading s i (char_at s i)
  unfolding char_at
  reads_here =
      let b : ℕ = get_or s i 0 in
      let bs : List ℕ = drop (suc i) s in
      let n : ℕ = following b bs in
      cases (starts_char b bs)
      (λ t. cases (xml_char (code_point b bs))
      (λ x. rw (drop-cons s i 0 l, decode_char i b bs, add-one i, t, x, decode_skip n (suc i) bs, drop-drop n (suc i) s))
      (λ x. rw (drop-cons s i 0 l, decode_char i b bs, add-one i, t, x)))
      (λ t. rw (drop-cons s i 0 l, decode_char i b bs, add-one i, t))

  stands_here : Standing s i (char_at s i)
  unfolding char_at
  stands_here =
      let b : ℕ = get_or s i 0 in
      let bs : List ℕ = drop (i + 1) s in
      cases (starts_char b bs)
      (λ t. cases (xml_char (code_point b bs))
      (λ x. rw (t, x) (x, omega arith, omega (arith, following_inside b bs t, length-drop (i + 1) s)))
      (λ x. rw (t, x) tt))
      (λ t. rw t tt)

  module _ {r : Result Char CharFault} (h : char_at s i ≡ r) where
    -- what the code found there decides what is read
    pub char_reads : decode 0 i (drop i s) ≡ reading s i r
    char_reads = reads_here ∙ ap (λ (y : Result Char CharFault). reading s i y) h

    -- and whether it may stand
    pub char_stands : Standing s i r
    char_stands = subst (λ (y : Result Char CharFault). Standing s i y) h stands_here

-- and the place behind it is within the text
pub char_inside : (s : List ℕ) (i c j : ℕ) → i < length s → char_at s i ≡ read_char c j → (i < j) × (j ≤ length s)
char_inside s i c j l h = let x = char_stands s i l h in (x.1, x.2)

-- what `char_at` is proved by
pub ruleset found = (char_plain, char_one, char_no_row, char_cut, char_whole, part_rest)
