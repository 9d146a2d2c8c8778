-- Laws of a run's text: a unit's bytes as they are asked for, the units from a place on, which `drop-cons` splits into one unit and the rest, and how many
-- bytes there are at most.
-- Assumes nothing.
use Prim.Native.Nat.{ℕ, ◌+◌, ◌*◌, ◌<◌, ◌≤◌}
use native.Mathlib.Nat.{add-zero}
use native.Mathlib.Numerals.{add-one}
use native.Mathlib.Omega.{arith}
use mathlib.Core.Path.{◌≡◌, refl, sym, ap, ◌∙◌}
use mathlib.Core.Bool.{Bool, true, false}
use mathlib.Core.List.{List, [], ◌∷◌, ◌++◌, append-nil}
use borrow.Author.Tests.{le-leb, lt-leb, leb-true, leb-false}
use lib.Dec.{leb}
use lib.ListN.{length, get_or, drop, length-append, drop_of_length-le}
use lib.Seq.{drop-cons, get_or-drop}
use Rattle.std.proofs.lemmas.Bool.Decides.{nat_tests}
use Rattle.std.specs.Prelude.{nat_eq}
use Rattle.std.specs.List.{starts_with}
use Rattle.std.proofs.lemmas.Grind.{common_steps}
use Rattle.label.specs.Fetched.{halves}
use Rattle.label.specs.Bytes.{ascii}
use Rattle.label.specs.Text.{braced}
use Rattle.label.specs.Write.{utf8, unit_bytes, units_bytes, text_of}
use Rattle.label.specs.Requests.Attribute.{escape_byte, escape, as_asked}
use Rattle.label.proofs.Basics.{cases}
use Rattle.label.proofs.Text.{unit_short}
use Rattle.label.proofs.Requests.Escaping.{asked_append, asked_nil, asked_stays, unit_none, unit_ascii}

-- ── a unit as it is asked for ──

pub asked_byte : (b : ℕ) → escape_byte b ≡ as_asked true (b ∷ [])
unfolding escape
asked_byte b = sym (append-nil (escape_byte b))

-- a character of one byte is that byte
pub asked_one : (e : Bool) (u v : ℕ) → u ≤ 127 → as_asked e (u ∷ []) ≡ as_asked e (unit_bytes u v)
unfolding unit_bytes utf8
asked_one e u v h = rw (lt-leb 56320 u (omega arith), lt-leb 55296 u (omega arith), le-leb u 127 h)

-- a character of one byte is escaped as that byte; no other has one of the six
pub asked_ascii : (u v : ℕ) → u ≤ 127 → escape_byte u ≡ as_asked true (unit_bytes u v)
asked_ascii u v h = sym (unit_ascii u v h)

-- a unit below the halves is its character
pub unit_below : (u v : ℕ) → u < 55296 → utf8 u ≡ unit_bytes u v
unfolding unit_bytes
unit_below u v h = rw (lt-leb 56320 u (omega arith), lt-leb 55296 u h)

pub asked_plain : (e : Bool) (u v : ℕ) → (e ≡ true → 127 < u) → unit_bytes u v ≡ as_asked e (unit_bytes u v)
asked_plain true u v h = sym (asked_stays true (unit_bytes u v) (unit_none u v (h refl)))
asked_plain false u v h = refl

-- ── the units from a place on ──

-- the units from place i on: one, and those behind it
pub asked_here : (e : Bool) (us : List ℕ) (i : ℕ) {u v : ℕ} → i < length us → u ≡ get_or us i 0 → v ≡ get_or us (i + 1) 0
    → as_asked e (units_bytes (drop i us)) ≡ as_asked e (unit_bytes u v) ++ as_asked e (units_bytes (drop (i + 1) us))
unfolding units_bytes
asked_here e us i {u} {v} h eu ev =
    rw (eu, ev) (ap (as_asked e) (rw (drop-cons us i 0 h, units_bytes, get_or-drop, add-zero, add-one))
    ∙ asked_append e (unit_bytes (get_or us i 0) (get_or us (i + 1) 0)) (units_bytes (drop (i + 1) us)))

pub asked_end : (e : Bool) (us : List ℕ) (i : ℕ) → length us ≤ i → as_asked e (units_bytes (drop i us)) ≡ []
unfolding units_bytes
asked_end e us i h = rw (drop_of_length-le us h) (asked_nil e)

-- ── the text ──

-- the code's test of the first two bytes
pub starts_braced : (s : List ℕ) → get_or s 0 0 < 256 → starts_with nat_eq s (123 ∷ 0 ∷ []) ≡ braced (halves s)
unfolding halves
starts_braced [] h = refl
starts_braced (a ∷ []) h = grind (arith, common_steps)
starts_braced (a ∷ b ∷ s) h = grind (arith, common_steps)

marked : (e : Bool) (s : List ℕ) → 123 ∷ 125 ∷ as_asked e s ≡ as_asked e (123 ∷ 125 ∷ s)
unfolding escape escape_byte
marked true s = refl
marked false s = refl

module _ (us : List ℕ) {b : Bool} (e : b ≡ braced us) where
  pub text_braced : (a : Bool) → b ≡ true → (123 ∷ 125 ∷ []) ++ as_asked a (units_bytes us) ≡ as_asked a (text_of us)
  unfolding text_of
  text_braced a h = rw (sym e ∙ h) (marked a (units_bytes us))

  pub text_plain : (a : Bool) → b ≡ false → as_asked a (units_bytes us) ≡ as_asked a (text_of us)
  unfolding text_of
  text_plain a h = rw (sym e ∙ h)

-- ── at most six bytes a unit ──

byte_most : (b : ℕ) → length (escape_byte b) ≤ 6
unfolding escape_byte ascii
byte_most b = grind (arith, nat_tests)

unit_most : (e : Bool) (u v : ℕ) → length (as_asked e (unit_bytes u v)) ≤ 6
unit_most false u v = omega (arith, unit_short u v)
unit_most true u v =
    cases (leb u 127) (λ a. rw (← asked_ascii u v (leb-true u 127 a)) (byte_most u))
    (λ a. rw (← asked_plain true u v (λ _. leb-false u 127 a)) (omega (arith, unit_short u v)))

units_most : (e : Bool) (us : List ℕ) → length (as_asked e (units_bytes us)) ≤ 6 * length us
unfolding units_bytes
units_most e [] = rw (asked_nil e) (omega arith)
units_most e (u ∷ us) =
    rw (asked_append e (unit_bytes u (get_or us 0 0)) (units_bytes us), length-append)
    (omega (arith, unit_most e u (get_or us 0 0), units_most e us))

pub text_most : (e : Bool) (us : List ℕ) → length (as_asked e (text_of us)) ≤ 2 + 6 * length us
unfolding text_of
text_most e us =
    cases (braced us) (λ t. rw (t, ← marked e (units_bytes us)) (omega (arith, units_most e us))) (λ t. rw t (omega (arith, units_most e us)))
