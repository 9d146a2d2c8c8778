-- Laws of a walk over the characters that units spell: what a step takes of the units that are left, and what that says of them.
-- Assumes nothing.
use Rattle.std.proofs.Common.{◌≡◌, ℕ, ◌+◌, ◌-◌, ◌/◌, ◌%◌, ◌<◌, ◌≤◌, true, false, ◌&&◌, nat_lt, leb, ◌⊎◌, List, [], ◌∷◌, ◌++◌, length, get_or, drop, Option, Some, None, Result, Ok, Err, MatchOption, IsSomeAnd, IfSome, refl, ap, subst, ⊎_elim, ◌∙◌, arith}
use mathlib.Core.Bool.{and-false}
use lib.Seq.{drop-cons}
use native.Mathlib.Numerals.{add-one}
use Rattle.std.proofs.lemmas.Bool.Decides.{nat_tests}
use Rattle.std.proofs.lemmas.Option.{same_Some}
use Rattle.std.specs.Iterator.{YieldsFirst}
use Rattle.std.specs.Char.{InScalarRange}
use Rattle.std.specs.Char.Escape.{encode_utf16}
use Rattle.std.specs.Char.Utf16.{decode_utf16_units, decode_utf16_steps, is_low_surrogate}
use Rattle.std.specs.Iterator.Adapters.{peekable_steps, peekable_peeked, peekable_source, PeeksNext}
use Rattle.std.specs.declared.char.DecodeUtf16.{DecodeUtf16}
use Rattle.std.specs.declared.char.DecodeUtf16Error.{DecodeUtf16Error}
use Rattle.label.specs.Text.{is_high, is_low, xml_char}
use Rattle.label.specs.Sound.{proper_units}
use Rattle.label.proofs.Basics.{cases}
use Rattle.wire.specs.Walks.{units_left}
use Rattle.wire.specs.declared.Units.{Units}

-- the unit that was looked at, if any, and those behind it
abbrev pub ahead : Option (Option ℕ) → List ℕ → List ℕ
ahead None us = us
ahead (Some None) us = []
ahead (Some (Some u)) us = u ∷ us

abbrev pub left : DecodeUtf16 Units → List ℕ
left s = ahead (peekable_peeked (decode_utf16_units s)) (units_left (peekable_source (decode_utf16_units s)))

-- a unit is taken
taken : (i j : Units) (p q : Option (Option ℕ)) (r : Option ℕ)
    → peekable_steps (YieldsFirst units_left) (record { iter = i; peeked = p }) r (record { iter = j; peeked = q })
    → MatchOption r (ahead p (units_left i) ≡ []) (λ u. ahead p (units_left i) ≡ u ∷ ahead q (units_left j))
taken i j None q None h = h.1.0
taken i j None q (Some u) h = rw h.0 h.1
taken i j (Some None) q None h = refl
taken i j (Some None) q (Some u) h = let e : ◌≡◌ {A = Option ℕ} (Some u) None = h.1.0 in cc
taken i j (Some (Some x)) q None h = let e : ◌≡◌ {A = Option ℕ} None (Some x) = h.1.0 in cc
taken i j (Some (Some x)) q (Some u) h =
    let e : u ≡ x = same_Some u x h.1.0 in
    rw (e, h.0, h.1.1)

-- the next unit is looked at, and no low half
looked : (i j : Units) (p q : Option (Option ℕ)) → PeeksNext (YieldsFirst units_left) (record { iter = i; peeked = p }) (record { iter = j; peeked = q })
    → ahead q (units_left j) ≡ ahead p (units_left i)
looked i j None q (None, h, k) = rw (k, h.0)
looked i j None q (Some v, h, k) = rw (k, h)
looked i j (Some None) q (o, h, k) = rw (k, h.0)
looked i j (Some (Some x)) q (o, h, k) = rw (k, h.0, h.1)

not_low : (q : Option (Option ℕ)) (us : List ℕ) → IsSomeAnd q (λ o. IfSome o (λ v. is_low_surrogate v ≡ false)) → is_low (get_or (ahead q us) 0 0) ≡ false
not_low None us h = absurd h
not_low (Some None) us h = refl
not_low (Some (Some v)) us h = grind (arith, nat_tests)

-- ── what a step says of the units ──

one_unit : (c : ℕ) (us : List ℕ) → c < 55296 ⊎ ((57344 ≤ c) × (c ≤ 65535)) → proper_units false (c ∷ us) ≡ (xml_char c && proper_units false us)
unfolding proper_units
one_unit c us h =
    let e : is_high c ≡ false = grind (arith, nat_tests) in
    let l : leb c 65535 ≡ true = grind (arith, nat_tests) in
    rw (e, l)

-- a unit that XML allows by itself
pub single_unit : (us : List ℕ) (i : ℕ) {u : ℕ} → i < length us → u ≡ get_or us i 0 → u ≤ 65535 → xml_char u ≡ true
    → proper_units false (drop i us) ≡ proper_units false (drop (i + 1) us)
single_unit us i {u} l e k x =
    let r : u < 55296 ⊎ ((57344 ≤ u) × (u ≤ 65535)) = unfold xml_char in grind (arith, nat_tests) in
    let d : drop i us ≡ u ∷ drop (i + 1) us = rw (e, add-one) (drop-cons us i 0 l) in
    ap (proper_units false) d ∙ one_unit u (drop (i + 1) us) r ∙ rw x

two_units : (u v : ℕ) (us : List ℕ) → is_high u ≡ true → is_low v ≡ true → proper_units false (u ∷ v ∷ us) ≡ proper_units false us
unfolding proper_units
two_units u v us h k = rw (h, k)

proper_char : (c : ℕ) (us : List ℕ) → InScalarRange c → proper_units false (encode_utf16 c ++ us) ≡ (xml_char c && proper_units false us)
proper_char c us h =
    cases (nat_lt c 65536)
    (λ t. let e : encode_utf16 c ≡ c ∷ [] = grind (arith, nat_tests) in
    let r : c < 55296 ⊎ ((57344 ≤ c) × (c ≤ 65535)) = grind (arith, nat_tests) in
    ap (λ l. proper_units false (l ++ us)) e ∙ one_unit c us r)
    (λ t. let e : encode_utf16 c ≡ (55296 + (c - 65536) / 1024) ∷ (56320 + (c - 65536) % 1024) ∷ [] = grind (arith, nat_tests) in
    let x : xml_char c ≡ true = unfold xml_char in grind (arith, nat_tests) in
    let a : is_high (55296 + (c - 65536) / 1024) ≡ true = grind (arith, nat_tests) in
    let b : is_low (56320 + (c - 65536) % 1024) ≡ true = grind (arith, nat_tests) in
    ap (λ l. proper_units false (l ++ us)) e ∙ two_units _ _ us a b ∙ rw x)

open_high : (us : List ℕ) → is_low (get_or us 0 0) ≡ false → proper_units true us ≡ false
unfolding proper_units
open_high [] h = refl
open_high (v ∷ us) h = rw h

no_xml : (u : ℕ) → 55296 ≤ u → u < 57344 → xml_char u ≡ false
unfolding xml_char
no_xml u h k = grind (arith, nat_tests)

-- a half of no pair
lone : (u : ℕ) (us : List ℕ) → 55296 ≤ u → u < 57344 → (u < 56320 → is_low (get_or us 0 0) ≡ false) → proper_units false (u ∷ us) ≡ false
unfolding proper_units
lone u us h k n =
    cases (is_high u) (λ t. rw t (open_high us (n (grind (arith, nat_tests)))))
    (λ t. rw (t, no_xml u h k, and-false (leb u 65535)))

-- ── a step ──

-- nothing is looked at before the first
pub at_start : (s : DecodeUtf16 Units) {w : Units} → peekable_source (decode_utf16_units s) ≡ w → peekable_peeked (decode_utf16_units s) ≡ None
    → units_left w ≡ left s
at_start s e h = rw (h, e)

module _ (s t : DecodeUtf16 Units) where
  spelt : (c : ℕ) → decode_utf16_steps (YieldsFirst units_left) s (Some (Ok c)) t → left s ≡ encode_utf16 c ++ left t
  spelt c (u, m, h, k) =
      let a : left s ≡ u ∷ ahead m.peeked (units_left m.iter) = taken s.units.iter m.iter s.units.peeked m.peeked (Some u) h in
      ⊎_elim
      (λ (e, f). a ∙ rw (e, f))
      (λ (v, l, e). a ∙ ap (λ us. u ∷ us) (taken m.iter t.units.iter m.peeked t.units.peeked (Some v) l) ∙ rw e)
      k

  -- a character comes, and the units are its own before those that are left
  pub at_char : {q : Result ℕ DecodeUtf16Error} {c : ℕ} → decode_utf16_steps (YieldsFirst units_left) s (Some q) t → q ≡ Ok c → InScalarRange c
      → proper_units false (left s) ≡ (xml_char c && proper_units false (left t))
  at_char {q} {c} h e r = ap (proper_units false) (spelt c (of h e)) ∙ proper_char c (left t) r
    where
      of : decode_utf16_steps (YieldsFirst units_left) s (Some q) t → q ≡ Ok c → decode_utf16_steps (YieldsFirst units_left) s (Some (Ok c)) t
      of h e = subst (λ (x : Result ℕ DecodeUtf16Error). decode_utf16_steps (YieldsFirst units_left) s (Some x) t) e h

  alone : (x : DecodeUtf16Error) → decode_utf16_steps (YieldsFirst units_left) s (Some (Err x)) t → proper_units false (left s) ≡ false
  alone x (u, m, h, (k, o)) =
      let a : left s ≡ u ∷ ahead m.peeked (units_left m.iter) = taken s.units.iter m.iter s.units.peeked m.peeked (Some u) h in
      ap (proper_units false) a ∙ lone u (ahead m.peeked (units_left m.iter)) o.0 o.1
      (λ l. let p = o.3 l in
      rw (← looked m.iter t.units.iter m.peeked t.units.peeked p.0) (not_low t.units.peeked (units_left t.units.iter) p.1))

  -- a half of no pair comes
  pub at_half : {q : Result ℕ DecodeUtf16Error} {x : DecodeUtf16Error} → decode_utf16_steps (YieldsFirst units_left) s (Some q) t → q ≡ Err x
      → proper_units false (left s) ≡ false
  at_half {q} {x} h e = alone x (subst (λ (y : Result ℕ DecodeUtf16Error). decode_utf16_steps (YieldsFirst units_left) s (Some y) t) e h)

  -- none comes
  pub at_end : decode_utf16_steps (YieldsFirst units_left) s None t → proper_units false (left s) ≡ true
  unfolding proper_units
  at_end h = ap (proper_units false) (taken s.units.iter t.units.iter s.units.peeked t.units.peeked None h)
