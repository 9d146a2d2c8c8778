-- A move over a text's characters is one over its units: behind the first k of them the others are left, and one character takes its own from those.
-- Assumes nothing.
use Prim.Native.Nat.{ℕ, zero, suc, ◌+◌, ◌-◌, ◌%◌, ◌≤◌, ◌<◌}
use native.Mathlib.Omega.{arith}
use native.Mathlib.Nat.{add-zero}
use mathlib.Core.Path.{◌≡◌, refl, sym, ◌∙◌, ap}
use mathlib.Core.Bool.{true, false}
use mathlib.Core.List.{List, [], ◌∷◌, ◌++◌}
use borrow.Author.Tests.{le-leb}
use lib.Dec.{leb}
use lib.ListN.{length, get_or, drop, length-append, length-drop}
use lib.Seq.{get_or-drop, drop-drop, drop-append_seam}
use Rattle.std.specs.Prelude.{Result, Ok}
use Rattle.label.specs.Outcome.{Outcome, ok, no}
use Rattle.label.specs.Run.{keeps_pair}
use Rattle.label.specs.Text.{within, is_low, units_of}
use Rattle.label.specs.Steps.{decode}
use Rattle.label.specs.declared.Refusal.{Refusal}
use Rattle.label.proofs.Cursors.{onto}
use Rattle.label.proofs.Basics.{no_ok, cases, within_is, within_lo, within_hi}
use Rattle.label.proofs.Run.{ok_path}
use Rattle.label.proofs.Text.{proper_first}
use Rattle.label.proofs.Sound.{decode_proper}
use Rattle.utf8.specs.declared.Char.{Char}
use Rattle.text.specs.Units.{units_from, well_formed}
use Rattle.text.specs.Texts.{IsPlain}
use Rattle.text.specs.Walk.{characters_from}
use Rattle.text.proofs.Units.{well_read, is_formed, units_are}
use Rattle.utf8.specs.Chars.{char_at}
use Rattle.utf8.proofs.Chars.{char_plain}
use Rattle.text.proofs.Walk.{good_first, units_read, reads}

-- units us, and of these characters the units behind the first k
abbrev pub Left : List ℕ → ℕ → List (Result Char Refusal) → Type 0
Left us k cs = units_read cs ≡ ok (drop k us)

-- in a passage all are
pub left_all : (s : List ℕ) (i : ℕ) → well_formed s i ≡ true → Left (units_from s i) 0 (characters_from s i)
left_all s i h = sym (reads 0 i (drop i s)) ∙ well_read s i h

-- as a number that is 0
pub left_at_none : (s : List ℕ) (i k : ℕ) → well_formed s i ≡ true → k ≡ 0 → Left (units_from s i) k (characters_from s i)
left_at_none s i k h e = rw e (left_all s i h)

-- where no character is left, no unit is
pub left_none : (us : List ℕ) (k : ℕ) → Left us k [] → length us ≤ k
left_none us k h = omega (arith, length-drop k us, ap length (ok_path [] (drop k us) h))

pub taken : (x : List ℕ) (o : Outcome (List ℕ)) (d : List ℕ) → onto x o ≡ ok d → (d ≡ x ++ drop (length x) d) × (o ≡ ok (drop (length x) d))
taken x (ok q) d h = let e = ok_path (x ++ q) d h in rw (← e, drop-append_seam x q) (refl, refl)
taken x (no n p) d h = no_ok n p d h

-- the first character has the first of the units that are left, and the others behind it have the others
module _ (us : List ℕ) (k : ℕ) (c : Char) (cs : List (Result Char Refusal)) (h : Left us k (Ok c ∷ cs)) where
  pub left_is : (drop k us ≡ units_of c.code ++ drop (k + length (units_of c.code)) us) × Left us (k + length (units_of c.code)) cs
  left_is = rw (drop-drop (length (units_of c.code)) k us) at (taken (units_of c.code) (units_read cs) (drop k us) h)

  pub left_next : (j : ℕ) → j ≡ k + length (units_of c.code) → Left us j cs
  left_next j e = rw e left_is.1

  pub left_fits : k ≤ length us → k + length (units_of c.code) ≤ length us
  left_fits l =
      let n = length (units_of c.code) in
      omega (arith, length-drop k us, length-drop (k + n) us, length-append (units_of c.code) (drop (k + n) us), ap length left_is.0)

  -- m units end inside it, between the halves of a pair
  pub left_inside : (m : ℕ) → k ≤ length us → k < m → m < k + length (units_of c.code) → (leb m (length us) ≡ true) × (keeps_pair m us ≡ false)
  unfolding units_of
  left_inside m l i j =
      cases (leb c.code 0xffff)
      (λ t. absurd (let z : ⊥ = omega (arith, rw t at j) in z))
      (λ t. let v = c.code - 0x10000 in
      let low : is_low (0xdc00 + v % 1024) ≡ true = within_is 0xdc00 0xdfff (0xdc00 + v % 1024) (omega arith) (omega arith) in
      let e : m ≡ k + 1 = omega (arith, rw t at j) in
      (le-leb m (length us) (omega (arith, left_fits l)), rw (e, ← get_or-drop k us 1 0, left_is.0, t, low)))

-- those left from a place on make a passage
module _ (s us : List ℕ) (b k : ℕ) (h : Left us k (characters_from s b)) where
  left_read : decode 0 b (drop b s) ≡ ok (drop k us)
  left_read = reads 0 b (drop b s) ∙ h

  pub left_formed : well_formed s b ≡ true
  left_formed = is_formed s (drop k us) b left_read

  -- all m units are passed
  pub done_pair : (m : ℕ) → m ≡ k → keeps_pair m us ≡ true
  done_pair m e =
      rw (e, ← add-zero k, ← get_or-drop k us 0 0) (proper_first (drop k us) (decode_proper (drop b s) 0 b (drop k us) left_read))

  pub done_units : (m : ℕ) → m ≡ k → units_from s b ≡ drop m us
  done_units m e = rw e (units_are s (drop k us) b left_read)

-- past one of U+0020 to U+007F
module _ (s : List ℕ) (i : ℕ) (f : well_formed s i ≡ true) (l : i < length s) (w : within 32 127 (get_or s i 0) ≡ true) where
  plain_left : Left (units_from s i) 1 (characters_from s (i + 1)) × (1 ≤ length (units_from s i))
  unfolding units_of
  plain_left =
      let b = get_or s i 0 in
      let c : Char = record { code = b; next = i + 1 } in
      let e : characters_from s i ≡ Ok c ∷ characters_from s (i + 1) = good_first s i c l (char_plain s i (within_lo 32 127 b w) (within_hi 32 127 b w)) in
      let h : Left (units_from s i) 0 (Ok c ∷ characters_from s (i + 1)) = rw e at (left_all s i f) in
      let k : b ≤ 127 = within_hi 32 127 b w in
      let n : 1 ≡ 0 + length (units_of b) = rw (le-leb b 0xffff (omega arith)) in (
        left_next (units_from s i) 0 c (characters_from s (i + 1)) h 1 n,
        omega (arith, left_fits (units_from s i) 0 c (characters_from s (i + 1)) h),
      )

  pub plain_formed : well_formed s (i + 1) ≡ true
  plain_formed = left_formed s (units_from s i) (i + 1) 1 plain_left.0

  pub plain_enough : leb 1 (length (units_from s i)) ≡ true
  plain_enough = le-leb 1 (length (units_from s i)) plain_left.1

  pub plain_pair : keeps_pair 1 (units_from s i) ≡ true
  plain_pair = done_pair s (units_from s i) (i + 1) 1 plain_left.0 1 refl

  pub plain_units : units_from s (i + 1) ≡ drop 1 (units_from s i)
  plain_units = done_units s (units_from s i) (i + 1) 1 plain_left.0 1 refl

-- past p of these
module _ (s : List ℕ) (i : ℕ) (f : well_formed s i ≡ true) where
  pub plain_run : (p : ℕ) → IsPlain (drop i s) p → Left (units_from s i) p (characters_from s (i + p)) × (p ≤ length (units_from s i))
  unfolding units_of
  plain_run zero h = (rw add-zero (left_all s i f), omega arith)
  plain_run (suc p) h =
      let us = units_from s i in
      let b = get_or s (i + p) 0 in
      let j = i + p + 1 in
      let c : Char = record { code = b; next = j } in
      let less : IsPlain (drop i s) p = record { inside = omega (arith, h.inside); plain = λ k e. h.plain k (omega (arith, e)) } in
      let w : within 32 127 b ≡ true = rw get_or-drop at (h.plain p (omega arith)) in
      let l : i + p < length s = omega (arith, h.inside, length-drop i s) in
      let x : char_at s (i + p) ≡ Ok c = char_plain s (i + p) (within_lo 32 127 b w) (within_hi 32 127 b w) in
      let e : characters_from s (i + p) ≡ Ok c ∷ characters_from s j = good_first s (i + p) c l x in
      let r = plain_run p less in
      let a : Left us p (Ok c ∷ characters_from s j) = rw e at r.0 in
      let k : b ≤ 127 = within_hi 32 127 b w in
      let one : length (units_of b) ≡ 1 = rw (le-leb b 0xffff (omega arith)) in
      let n : suc p ≡ p + length (units_of b) = omega (arith, one) in
      let g : i + suc p ≡ j = omega arith in
      (rw g (left_next us p c (characters_from s j) a (suc p) n), omega (arith, one, left_fits us p c (characters_from s j) a r.1))

-- each is a character
module _ (s : List ℕ) (i : ℕ) where
  pub plain_count : (p : ℕ) → IsPlain (drop i s) p → length (characters_from s i) ≡ p + length (characters_from s (i + p))
  plain_count zero h = rw add-zero (omega arith)
  plain_count (suc p) h =
      let b = get_or s (i + p) 0 in
      let j = i + p + 1 in
      let c : Char = record { code = b; next = j } in
      let less : IsPlain (drop i s) p = record { inside = omega (arith, h.inside); plain = λ k e. h.plain k (omega (arith, e)) } in
      let w : within 32 127 b ≡ true = rw get_or-drop at (h.plain p (omega arith)) in
      let l : i + p < length s = omega (arith, h.inside, length-drop i s) in
      let x : char_at s (i + p) ≡ Ok c = char_plain s (i + p) (within_lo 32 127 b w) (within_hi 32 127 b w) in
      let e : characters_from s (i + p) ≡ Ok c ∷ characters_from s j = good_first s (i + p) c l x in
      let g : i + suc p ≡ j = omega arith in
      let n : length (characters_from s (i + p)) ≡ 1 + length (characters_from s j) = ap length e ∙ omega arith in
      rw g (omega (arith, plain_count p less, n))

-- what `move_past` and `past_plain` are proved by
pub ruleset moves = (left_at_none, left_none, left_next, left_fits, left_formed, done_pair, done_units)

pub ruleset steps = (plain_formed, plain_enough, plain_pair, plain_units)
