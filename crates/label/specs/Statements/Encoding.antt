-- Document 02, CR 5: what the rows of Unicode's Table 3-7 come to, stated on the definitions by which a text is read: a record whose fields say the
-- request's sentences, of the reading and of the writing. proofs/Statements/Encoding.antt has a value of it.
-- Scalar values and their shortest UTF-8 are defined without the rows: by ranges of values, and by the bits of Table 3-6 (`layout` in Text.antt).
-- Assumes nothing.
use Rattle.std.specs.Prelude.{suc, zero, ℕ, ◌+◌, ◌<◌, ◌≤◌, ◌≡◌, ◌↔◌, Bool, true, ◌||◌, List, [], ◌++◌, ◌∷◌, drop, length}
use Rattle.label.specs.Outcome.{ok, no, ◌>>=◌, ◌>>◌, need}
use Rattle.label.specs.Text.{within, Row, table, row_fits, layout, xml_char, units_of}
use Rattle.label.specs.Steps.{decode}
use Rattle.label.specs.Write.{utf8}

-- Unicode's D76, a scalar value: "any Unicode code point except high-surrogate and low-surrogate code points", so 0 to D7FF and E000 to 10FFFF
abbrev pub is_scalar : ℕ → Bool
is_scalar c = within 0x0 0xd7ff c || within 0xe000 0x10ffff c

-- the numbers for which a form of n bytes has room are those below this: Table 3-6 gives it 7, 11, 16 or 21 bits, and has no other forms
unfoldable pub form_room : ℕ → ℕ
form_room zero = 0
form_room (suc zero) = 0x80
form_room (suc (suc zero)) = 0x800
form_room (suc (suc (suc zero))) = 0x10000
form_room (suc (suc (suc (suc zero)))) = 0x200000
form_room (suc (suc (suc (suc (suc n))))) = 0

-- s is the shortest UTF-8 of c: a form of Table 3-6 with room for c, and no form of fewer bytes has it
pub record Shortest (c : ℕ) (s : List ℕ) : Type 0 where
  pub count : ℕ
  pub held : c < form_room count
  pub is : s ≡ layout count c
  pub least : (n : ℕ) → c < form_room n → count ≤ n

-- the shortest UTF-8 of c starts here
pub record Starts (c : ℕ) (s : List ℕ) : Type 0 where
  pub bytes : List ℕ
  pub behind : List ℕ
  pub shortest : Shortest c bytes
  pub is : s ≡ bytes ++ behind

-- the shortest UTF-8 of a Unicode scalar value starts here
abbrev pub StartsScalar : List ℕ → Type 0
StartsScalar s = (c : ℕ) × (is_scalar c ≡ true) × Starts c s

-- row i of some rows fits here; they are numbered from 0
abbrev pub FitsAt : List Row → ℕ → List ℕ → Type 0
FitsAt [] i s = ⊥
FitsAt (r ∷ rs) zero s = row_fits r.bytes s ≡ true
FitsAt (r ∷ rs) (suc i) s = FitsAt rs i s

-- a row fits exactly where the shortest UTF-8 of one of its code points starts
abbrev pub OfItsCodes : Row → Type 0
OfItsCodes r = (s : List ℕ) → (row_fits r.bytes s ≡ true) ↔ ((c : ℕ) × (within r.codes.lo r.codes.hi c ≡ true) × Starts c s)

-- P holds of each of some rows
abbrev pub Each : (Row → Type 0) → List Row → Type 0
Each P [] = Unit {0}
Each P (r ∷ rs) = P r × Each P rs

-- CR 5, sentence by sentence
pub record Encoding : Type 0 where
  -- "the nine rows of Unicode's Table 3-7"
  pub nine : length table ≡ 9
  -- "at any place of any bytes at most one row fits"
  pub one : (s : List ℕ) (place i j : ℕ) → FitsAt table i (drop place s) → FitsAt table j (drop place s) → i ≡ j
  -- "and that one does exactly when the shortest UTF-8 of a Unicode scalar value starts there"
  pub exactly : (s : List ℕ) (place : ℕ) → ((i : ℕ) × FitsAt table i (drop place s)) ↔ StartsScalar (drop place s)
  -- each row fits exactly where the shortest UTF-8 starts of a code point that the table prints beside it
  pub codes : Each OfItsCodes table
  -- "The outside sees the identical result", told without the rows: where a character should start and a byte stands, 2 is given there exactly when the
  -- UTF-8 of no scalar value starts; where it does start, the character is that scalar value, judged by XML's Char, and the reading goes on behind its bytes
  pub two : (at b : ℕ) (bs : List ℕ) → (decode 0 at (b ∷ bs) ≡ no 2 at) ↔ (StartsScalar (b ∷ bs) → ⊥)
  pub reads : (at : ℕ) (s : List ℕ) (c : ℕ) (x : Starts c s) → is_scalar c ≡ true
      → decode 0 at s ≡ (need (xml_char c) 3 at >> (decode 0 (at + length x.bytes) x.behind >>= (λ us. ok (units_of c ++ us))))
  -- the writer gives a scalar value in its shortest UTF-8
  pub writes : (c : ℕ) → is_scalar c ≡ true → Shortest c (utf8 c)
