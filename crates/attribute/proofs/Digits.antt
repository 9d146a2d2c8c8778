-- Laws of a reference's digits: std's value of a digit is document 02's, and the loop over the digits, up to the first `;`, with its invariant `Behind`.
-- Assumes nothing.
use Rattle.std.proofs.Common.{◌≡◌, ℕ, zero, suc, ◌+◌, ◌*◌, ◌<◌, ◌≤◌, true, false, not, ◌&&◌, List, [], ◌∷◌, length, get_or, drop, eqb, drop-cons, drop_of_length-le, refl, sym, ◌∙◌, ⊎_elim, Option, Some, None, arith}
use Rattle.std.proofs.lemmas.Bool.Decides.{nat_tests}
use Rattle.std.specs.Char as char
use Rattle.std.specs.Option.{SomeIff, MatchOption}
use mathlib.Core.Bool.{and-false}
use native.Mathlib.Nat.{mul-suc}
use borrow.Author.Tests.{lt-ltb, le-ltb, eq-eqb, eqb-true}
use native.Mathlib.Numerals.{add-one}
use Rattle.label.specs.Bytes.{empty}
use Rattle.label.specs.Text.{xml_char}
use Rattle.label.specs.Requests.Attribute.{digit_value, all_of, value_behind, numbered, body, is_closed}
use Rattle.label.proofs.Requests.Attribute.{closed_none, closed_here, body_here, closed_further, body_further}
use Rattle.label.proofs.Basics.{cases}
use Rattle.label.proofs.Text.{xml_range}
use Rattle.attribute.specs.Pieces.{IsChar}

-- a base is at most sixteen, and the code took the byte b for the character w
module _ {base w b : ℕ} (o : base ≤ 16) (e : w ≡ b) where
  pub digit : {d : ℕ} → (char.digit_value w < base) × (d ≡ char.digit_value w) → (d ≡ digit_value b) × (d < base)
  unfolding digit_value
  digit k = grind (arith, nat_tests)

  pub no_digit : (char.digit_value w < base → ⊥) → base ≤ digit_value b
  unfolding digit_value
  no_digit k = grind (arith, nat_tests)

-- what stands before the first `;` of s from place i on are digits of the base where all of it is, and read behind n they have the value of all
pub record Behind (base : ℕ) (s : List ℕ) (i n : ℕ) : Type 0 where
  pub closed : is_closed (drop i s) ≡ is_closed s
  pub counts : i + length (body (drop i s)) ≡ length (body s)
  pub digits : all_of base (body (drop i s)) ≡ all_of base (body s)
  pub value : value_behind base n (body (drop i s)) ≡ value_behind base 0 (body s)

-- no digits at all, other bytes and a number behind every character are no character
pub none_empty : (base : ℕ) (s : List ℕ) → length s ≡ 0 → xml_char (numbered base s) ≡ false
unfolding numbered xml_char
none_empty base [] h = refl
none_empty base (b ∷ s) h = absurd (omega arith)

none_other : (base : ℕ) (s : List ℕ) → all_of base s ≡ false → xml_char (numbered base s) ≡ false
unfolding numbered xml_char
none_other base s h = rw (h, and-false (not (empty s)))

beyond_none : (v : ℕ) → 0x110000 ≤ v → xml_char v ≡ false
beyond_none v h = cases (xml_char v) (λ x. absurd (⊎_elim (λ k. omega arith) (λ k. omega (arith, k.1)) (xml_range v x))) (λ x. x)

none_large : (base : ℕ) (s : List ℕ) → 0x110000 ≤ value_behind base 0 s → xml_char (numbered base s) ≡ false
unfolding numbered
none_large base s h = cases (not (empty s) && all_of base s) (λ k. rw k (beyond_none (value_behind base 0 s) h)) (λ k. rw k (unfold xml_char in refl))

-- a digit more makes no number less
grows : (base n : ℕ) (s : List ℕ) → 1 ≤ base → n ≤ value_behind base n s
unfolding value_behind
grows base n [] o = omega arith
grows base n (b ∷ s) o = let t = times base n o in omega (arith, grows base (n * base + digit_value b) s o)
  where
    times : (base n : ℕ) → 1 ≤ base → n ≤ n * base
    times zero n o = absurd (omega arith)
    times (suc k) n o = omega (arith, mul-suc n k)

-- there is no reference by number
abbrev pub NoChar : ℕ → List ℕ → Type 0
NoChar base s = (is_closed s && xml_char (numbered base (body s))) ≡ false

none : (base : ℕ) (s : List ℕ) → xml_char (numbered base (body s)) ≡ false → NoChar base s
none base s e = rw (e, and-false (is_closed s))

module _ {base : ℕ} {s : List ℕ} {i n : ℕ} (o : base ≤ 16) (g : Behind base s i n) (h : i < length s) where
  -- the byte at the place, and those behind it
  abbrev here : ℕ
  here = get_or s i 0

  abbrev rest : List ℕ
  rest = drop (suc i) s

  -- `;` is no digit
  inner : digit_value here < base → eqb here 59 ≡ false
  unfolding digit_value
  inner k = grind (arith, nat_tests)

  pub at_other : (here ≡ 59 → i ≡ 0) → base ≤ digit_value here → NoChar base s
  unfolding all_of
  at_other z k =
      none base s (cases (eqb here 59)
      (λ e. none_empty base (body s) (omega (arith, z (eqb-true here 59 e), rw (drop-cons s i 0 h, body_here here rest e) at g.counts)))
      (λ e. none_other base (body s) (sym g.digits ∙ rw (drop-cons s i 0 h, body_further here rest e, le-ltb (digit_value here) base k))))

  value_next : digit_value here < base → value_behind base (n * base + digit_value here) (body rest) ≡ value_behind base 0 (body s)
  unfolding value_behind
  value_next k = rw (drop-cons s i 0 h, body_further here rest (inner k)) at g.value

  pub at_large : 1 ≤ base → 0x110000 ≤ n → NoChar base s
  at_large p l = none base s (none_large base (body s) (omega (arith, g.value, grows base n (body (drop i s)) p)))

  pub further : digit_value here < base → {m : ℕ} → m ≡ n * base + digit_value here → Behind base s (i + 1) m
  unfolding all_of
  further k {m} e =
      rw add-one (record {
        closed = rw (drop-cons s i 0 h, closed_further here rest (inner k)) at g.closed;
        counts = omega (arith, rw (drop-cons s i 0 h, body_further here rest (inner k)) at g.counts);
        digits = rw (drop-cons s i 0 h, body_further here rest (inner k), lt-ltb (digit_value here) base k) at g.digits;
        value = rw e (value_next k);
      })

  module _ (e : here ≡ 59) (k : 0 < i) where
    ends : (is_closed s ≡ true) × (i ≡ length (body s)) × (n ≡ numbered base (body s))
    unfolding numbered all_of value_behind
    ends =
        let q : eqb here 59 ≡ true = eq-eqb here 59 e in
        let c : i ≡ length (body s) = omega (arith, rw (drop-cons s i 0 h, body_here here rest q) at g.counts) in
        let a : all_of base (body s) ≡ true = sym (rw (drop-cons s i 0 h, body_here here rest q) at g.digits) in
        let v : n ≡ value_behind base 0 (body s) = rw (drop-cons s i 0 h, body_here here rest q) at g.value in (
          sym g.closed ∙ rw (drop-cons s i 0 h) (closed_here here rest q),
          c,
          v ∙ rw (some (body s) (omega (arith, c)), a),
        )
      where
        some : (w : List ℕ) → 0 < length w → empty w ≡ false
        some [] k = absurd (omega arith)
        some (b ∷ w) k = refl

    pub at_char : {c : ℕ} → (xml_char n ≡ true) × (c ≡ n) → IsChar (numbered base) s c (i + 1)
    at_char x =
        let (c, l, v) = ends in
        record { closed = c; character = x.1 ∙ v; xml = rw x.1 x.0; length_is = omega arith; within = omega arith }

    pub at_none : (xml_char n ≡ true → ⊥) → NoChar base s
    at_none x = let (c, l, v) = ends in none base s (rw (← v) (cases (xml_char n) (λ k. absurd (x k)) (λ k. k)))

pub at_end : {base n : ℕ} {s : List ℕ} {i : ℕ} → Behind base s i n → length s ≤ i → NoChar base s
at_end {base} {n} {s} {i} g l = let c : is_closed s ≡ false = sym g.closed ∙ rw (drop_of_length-le s l) closed_none in rw c

-- an XML character is a scalar value
pub as_char : (n : ℕ) (r : Option ℕ) → xml_char n ≡ true → SomeIff r (char.IsScalar n) n
    → MatchOption r (char.OutOfScalarRange n) (λ (_ : ℕ). char.InScalarRange n) → SomeIff r (xml_char n ≡ true) n
as_char n (Some c) x e h = (x, e.1)
as_char n None x e h = λ k. absurd (⊎_elim (λ l. omega (arith, h)) (λ l. omega (arith, h, l.0, l.1)) (xml_range n x))
