-- Laws of the characters of a text: the first and what is behind it, by the character at a place; what their units are, and that they may stand.
-- Assumes nothing.
use Prim.Native.Nat.{ℕ, zero, suc, ◌+◌, ◌≤◌, ◌<◌}
use native.Mathlib.Omega.{arith}
use native.Mathlib.Nat.{add-zero, add-suc, suc-add}
use native.Mathlib.Numerals.{add-one}
use mathlib.Core.Path.{◌≡◌, refl, sym, ◌∙◌, ap}
use mathlib.Core.Bool.{true}
use mathlib.Core.List.{List, [], ◌∷◌}
use lib.ListN.{length, get_or, drop, drop_of_length-le}
use lib.Seq.{drop-cons, drop-drop}
use Rattle.std.specs.Prelude.{Result, Ok, Err}
use Rattle.label.specs.Outcome.{Outcome, ok, no}
use Rattle.label.specs.Text.{starts_char, following, code_point, xml_char, units_of}
use Rattle.label.specs.Steps.{decode}
use Rattle.label.specs.Cause.{cause_number}
use Rattle.label.specs.declared.Refusal.{Refusal}
use Rattle.label.proofs.Basics.{cases}
use Rattle.label.proofs.Steps.{decode_none, decode_inside, decode_char}
use Rattle.label.proofs.Cursors.{onto}
use Rattle.utf8.specs.Chars.{char_of, char_at}
use Rattle.utf8.specs.declared.Char.{Char}
use Rattle.utf8.specs.declared.CharFault.{CharFault}
use Rattle.text.specs.Walk.{fault_refusal, then_on, characters, characters_from}

-- ── the first, and those behind it ──

skipped : (k at : ℕ) (s : List ℕ) → characters k at s ≡ characters 0 (at + k) (drop k s)
unfolding characters
skipped zero at s = rw (add-zero at)
skipped (suc k) at [] = refl
skipped (suc k) at (b ∷ s) = skipped k (suc at) s ∙ rw (add-suc at k, suc-add at k)

-- the characters from place i on, where x is what is found there
abbrev found : List ℕ → ℕ → Result Char CharFault → List (Result Char Refusal)
found s i (Ok c) = Ok c ∷ characters_from s c.next
found s i (Err f) = Err (fault_refusal f i) ∷ []

module _ (s : List ℕ) (i : ℕ) where
  pub none_left : length s ≤ i → characters_from s i ≡ []
  unfolding characters
  none_left l = rw (drop_of_length-le s l)

  first_is : i < length s → characters_from s i ≡ found s i (char_at s i)
  unfolding characters char_at
  first_is l =
      let b = get_or s i 0 in
      let bs = drop (suc i) s in
      let n = following b bs in
      cases (starts_char b bs)
      (λ t. cases (xml_char (code_point b bs))
      (λ x. rw (drop-cons s i 0 l, add-one i, t, x, skipped n (suc i) bs, drop-drop n (suc i) s))
      (λ x. rw (drop-cons s i 0 l, add-one i, t, x)))
      (λ t. rw (drop-cons s i 0 l, add-one i, t))

  pub good_first : (c : Char) → i < length s → char_at s i ≡ Ok c → characters_from s i ≡ Ok c ∷ characters_from s c.next
  good_first c l e = first_is l ∙ ap (found s i) e

  pub fault_first : (f : CharFault) → i < length s → char_at s i ≡ Err f → characters_from s i ≡ Err (fault_refusal f i) ∷ []
  fault_first f l e = first_is l ∙ ap (found s i) e

-- what `next` is proved by
pub ruleset steps = (none_left, good_first, fault_first)

-- there are no more than bytes
pub no_more : (k at : ℕ) (s : List ℕ) → length (characters k at s) ≤ length s
unfolding characters
no_more k at [] = omega arith
no_more (suc k) at (b ∷ s) = omega (arith, no_more k (suc at) s)
no_more zero at (b ∷ s) = go (char_of at b s) (no_more (following b s) (suc at) s)
  where
    go : (x : Result Char CharFault) → length (characters (following b s) (suc at) s) ≤ length s
        → length (then_on x at (characters (following b s) (suc at) s)) ≤ suc (length s)
    go (Ok c) h = omega arith
    go (Err f) h = omega arith

-- ── their units ──

-- what is read: the units of all, or the refusal of the one that is refused
abbrev pub units_read : List (Result Char Refusal) → Outcome (List ℕ)
units_read [] = ok []
units_read (Ok c ∷ cs) = onto (units_of c.code) (units_read cs)
units_read (Err r ∷ cs) = no (cause_number r.cause) r.place

pub reads : (k at : ℕ) (s : List ℕ) → decode k at s ≡ units_read (characters k at s)
unfolding characters
reads k at [] = decode_none k at
reads (suc k) at (b ∷ s) = decode_inside k at b s ∙ reads k (suc at) s
reads zero at (b ∷ s) =
    decode_char at b s
    ∙ cases (starts_char b s)
    (λ t. cases (xml_char (code_point b s)) (λ x. rw (t, x, reads (following b s) (suc at) s)) (λ x. rw (t, x)))
    (λ t. rw t)

-- each that is not refused may stand
pub may_stand : (k at : ℕ) (s : List ℕ) (c : Char) (cs : List (Result Char Refusal)) → characters k at s ≡ Ok c ∷ cs → xml_char c.code ≡ true
unfolding characters
may_stand k at [] c cs e = absurd (cc)
may_stand (suc k) at (b ∷ s) c cs e = may_stand k (suc at) s c cs e
may_stand zero at (b ∷ s) c cs e =
    cases (starts_char b s)
    (λ t. cases (xml_char (code_point b s))
    (λ x. let h = rw (t, x) at e in
    let is : code_point b s ≡ c.code = cc in
    sym (ap xml_char is) ∙ x)
    (λ x. let h = rw (t, x) at e in
    absurd (cc)))
    (λ t. let h = rw t at e in
    absurd (cc))
