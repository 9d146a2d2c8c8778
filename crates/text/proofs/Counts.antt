-- Laws of counting a text's units: what is counted and the units of what is left make the whole.
-- Assumes nothing.
use Prim.Native.Nat.{ℕ, zero, suc, ◌+◌, ◌*◌, ◌≤◌, ◌<◌}
use native.Mathlib.Omega.{arith}
use native.Mathlib.Numerals.{add-one}
use borrow.Author.Tests.{le-leb}
use mathlib.Core.Bool.{true}
use native.Mathlib.Nat.{add-zero, zero-add}
use mathlib.Core.Path.{◌≡◌, refl, sym, ◌∙◌, ap}
use mathlib.Core.List.{List, [], ◌∷◌}
use lib.ListN.{length, get_or, drop, length-append, length-drop}
use Rattle.std.specs.Prelude.{Result, Ok, Err}
use Rattle.std.proofs.Math.Nat.{add_assoc}
use Rattle.label.specs.Outcome.{Outcome, ok, no}
use Rattle.label.specs.Text.{within, units_of}
use Rattle.label.proofs.Basics.{within_lo, within_hi}
use Rattle.utf8.proofs.Chars.{char_plain}
use Rattle.label.specs.Steps.{decode}
use Rattle.label.specs.Cause.{cause_number}
use Rattle.label.specs.declared.Refusal.{Refusal}
use Rattle.label.proofs.Cursors.{onto}
use Rattle.utf8.specs.declared.Char.{Char}
use Rattle.text.specs.Texts.{IsPlain, text_count}
use Rattle.text.specs.Walk.{characters_from}
use Rattle.text.proofs.Walk.{good_first, no_more, units_read, reads}

-- n units and those of these characters, or the refusal of one
abbrev pub counted : ℕ → List (Result Char Refusal) → Outcome ℕ
counted n [] = ok n
counted n (Ok c ∷ cs) = counted (n + length (units_of c.code)) cs
counted n (Err r ∷ cs) = no (cause_number r.cause) r.place

abbrev more : ℕ → Outcome ℕ → Outcome ℕ
more n (ok m) = ok (n + m)
more n (no i p) = no i p

counted_more : (n : ℕ) (cs : List (Result Char Refusal)) → counted n cs ≡ more n (text_count (units_read cs))
counted_more n [] = rw add-zero
counted_more n (Ok c ∷ cs) = counted_more (n + length (units_of c.code)) cs ∙ go (units_read cs)
  where
    go : (o : Outcome (List ℕ)) → more (n + length (units_of c.code)) (text_count o) ≡ more n (text_count (onto (units_of c.code) o))
    go (ok us) = rw (length-append (units_of c.code) us, add_assoc n (length (units_of c.code)) (length us))
    go (no m p) = refl
counted_more n (Err r ∷ cs) = refl

pub counted_all : (s : List ℕ) → counted 0 (characters_from s 0) ≡ text_count (decode 0 0 s)
counted_all s = counted_more 0 (characters_from s 0) ∙ go (units_read (characters_from s 0)) ∙ ap text_count (sym (reads 0 0 s))
  where
    go : (o : Outcome (List ℕ)) → more 0 (text_count o) ≡ text_count o
    go (ok us) = rw zero-add
    go (no n p) = refl

-- plain bytes in front are as many units
one_unit : (b : ℕ) → b ≤ 127 → length (units_of b) ≡ 1
unfolding units_of
one_unit b h = rw (le-leb b 0xffff (omega arith))

plain_next : (s : List ℕ) (p : ℕ) → p < length s → within 32 127 (get_or s p 0) ≡ true
    → counted (p + 1) (characters_from s (p + 1)) ≡ counted p (characters_from s p)
plain_next s p l w =
    let b = get_or s p 0 in
    let c : Char = record { code = b; next = p + 1 } in
    let e : characters_from s p ≡ Ok c ∷ characters_from s (p + 1) =
    good_first s p c l (char_plain s p (within_lo 32 127 b w) (within_hi 32 127 b w)) in
    rw e (ap (λ (k : ℕ). counted (p + k) (characters_from s (p + 1))) (sym (one_unit b (within_hi 32 127 b w))))

plain_front : (s : List ℕ) (p : ℕ) → IsPlain s p → counted p (characters_from s p) ≡ counted 0 (characters_from s 0)
plain_front s zero f = refl
plain_front s (suc p) f =
    let less : IsPlain s p = record { inside = omega (arith, f.inside); plain = λ i h. f.plain i (omega (arith, h)) } in
    rw (← add-one p) (plain_next s p (omega (arith, f.inside)) (f.plain p (omega arith))) ∙ plain_front s p less

pub plain_counted : (s : List ℕ) (p : ℕ) → IsPlain s p
    → (p + 2 * length (characters_from s p) ≤ 2 * length s) × (counted p (characters_from s p) ≡ counted 0 (characters_from s 0))
plain_counted s p f = (omega (arith, f.inside, no_more 0 p (drop p s), length-drop p s), plain_front s p f)
