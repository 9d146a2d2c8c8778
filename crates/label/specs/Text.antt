-- "The text": UTF-8 by the rows of Unicode's Table 3-7, XML 1.0's Char, `{}`, and UTF-16 code units.
-- Assumes nothing.
use Rattle.std.specs.Prelude.{ℕ, zero, suc, ◌+◌, ◌*◌, ◌-◌, ◌/◌, ◌%◌, Bool, true, false, cond, not, ◌&&◌, ◌||◌, List, [], ◌∷◌, leb, eqb, length, get_or, drop}
use Rattle.label.specs.Bytes.{empty, each, Piece, pieces}

-- lo ≤ b ≤ hi
abbrev pub within : ℕ → ℕ → ℕ → Bool
within lo hi b = leb lo b && leb b hi

-- a cell of the table: from lo to hi
pub record Range : Type 0 where
  pub lo : ℕ
  pub hi : ℕ

-- as the table prints it: lo..hi
infixl 80 ◌‥◌
abbrev pub ◌‥◌ : ℕ → ℕ → Range
l ‥ h = record { lo = l; hi = h }

-- or one byte alone
abbrev pub one_byte : ℕ → Range
one_byte b = b ‥ b

-- a row of the table: its code points, and each of its bytes
pub record Row : Type 0 where
  pub codes : Range
  pub bytes : List Range

-- the row of these code points with these bytes
abbrev pub table_row : Range → List Range → Row
table_row c bs = record { codes = c; bytes = bs }

-- "Unicode's Table 3-7 decides UTF-8": its nine rows as they are printed, the code points, then the first byte, the second, the third, the fourth
unfoldable pub table : List Row
table =
    table_row (0x0000 ‥ 0x007f) (0x00 ‥ 0x7f ∷ [])
    ∷ table_row (0x0080 ‥ 0x07ff) (0xc2 ‥ 0xdf ∷ 0x80 ‥ 0xbf ∷ [])
    ∷ table_row (0x0800 ‥ 0x0fff) (one_byte 0xe0 ∷ 0xa0 ‥ 0xbf ∷ 0x80 ‥ 0xbf ∷ [])
    ∷ table_row (0x1000 ‥ 0xcfff) (0xe1 ‥ 0xec ∷ 0x80 ‥ 0xbf ∷ 0x80 ‥ 0xbf ∷ [])
    ∷ table_row (0xd000 ‥ 0xd7ff) (one_byte 0xed ∷ 0x80 ‥ 0x9f ∷ 0x80 ‥ 0xbf ∷ [])
    ∷ table_row (0xe000 ‥ 0xffff) (0xee ‥ 0xef ∷ 0x80 ‥ 0xbf ∷ 0x80 ‥ 0xbf ∷ [])
    ∷ table_row (0x10000 ‥ 0x3ffff) (one_byte 0xf0 ∷ 0x90 ‥ 0xbf ∷ 0x80 ‥ 0xbf ∷ 0x80 ‥ 0xbf ∷ [])
    ∷ table_row (0x40000 ‥ 0xfffff) (0xf1 ‥ 0xf3 ∷ 0x80 ‥ 0xbf ∷ 0x80 ‥ 0xbf ∷ 0x80 ‥ 0xbf ∷ [])
    ∷ table_row (0x100000 ‥ 0x10ffff) (one_byte 0xf4 ∷ 0x80 ‥ 0x8f ∷ 0x80 ‥ 0xbf ∷ 0x80 ‥ 0xbf ∷ [])
    ∷ []

-- a row fits here: each of its bytes is there and in its range
unfoldable pub row_fits : List Range → List ℕ → Bool
row_fits [] s = true
row_fits (r ∷ rs) [] = false
row_fits (r ∷ rs) (b ∷ s) = within r.lo r.hi b && row_fits rs s

-- the rows that fit here, all of them; of the table's at most one does (Statements/Encoding.antt)
unfoldable pub fitting : List Row → List ℕ → List Row
fitting [] s = []
fitting (r ∷ rs) s = let others = fitting rs s in cond (row_fits r.bytes s) (r ∷ others) others

-- a well-formed character starts at byte b, with bs behind it: a row fits
unfoldable pub starts_char : ℕ → List ℕ → Bool
starts_char b bs = not (empty (fitting table (b ∷ bs)))

-- how many bytes the first of some rows has behind its first byte; 0 where there is no row
unfoldable pub more_bytes : List Row → ℕ
more_bytes [] = 0
more_bytes (r ∷ rs) = length r.bytes - 1

-- how many bytes of the character stand behind its first; 0 where none starts
unfoldable pub following : ℕ → List ℕ → ℕ
following b bs = more_bytes (fitting table (b ∷ bs))

-- the character's number, "taken from the UTF-8 bits" of its first byte and of the bytes after it
unfoldable pub scalar : ℕ → ℕ → List ℕ → ℕ
scalar zero b bs = b
scalar (suc zero) b bs = b % 32 * 64 + get_or bs 0 0 % 64
scalar (suc (suc zero)) b bs = b % 16 * 4096 + get_or bs 0 0 % 64 * 64 + get_or bs 1 0 % 64
scalar (suc (suc (suc n))) b bs = b % 8 * 262144 + get_or bs 0 0 % 64 * 4096 + get_or bs 1 0 % 64 * 64 + get_or bs 2 0 % 64

-- the number of the character that starts at byte b, with bs behind it; b where none starts
abbrev pub code_point : ℕ → List ℕ → ℕ
code_point b bs = scalar (following b bs) b bs

-- Unicode's Table 3-6: a number's bytes in the form of n bytes, where that has room for it; there is no form of no bytes and none of more than four
abbrev pub layout : ℕ → ℕ → List ℕ
layout zero c = []
-- 00000000 0xxxxxxx: 0xxxxxxx
layout (suc zero) c = c ∷ []
-- 00000yyy yyxxxxxx: 110yyyyy 10xxxxxx
layout (suc (suc zero)) c = (0xc0 + c / 64) ∷ (0x80 + c % 64) ∷ []
-- zzzzyyyy yyxxxxxx: 1110zzzz 10yyyyyy 10xxxxxx
layout (suc (suc (suc zero))) c = (0xe0 + c / 4096) ∷ (0x80 + c / 64 % 64) ∷ (0x80 + c % 64) ∷ []
-- 000uuuuu zzzzyyyy yyxxxxxx: 11110uuu 10uuzzzz 10yyyyyy 10xxxxxx
layout (suc (suc (suc (suc zero)))) c = (0xf0 + c / 262144) ∷ (0x80 + c / 4096 % 64) ∷ (0x80 + c / 64 % 64) ∷ (0x80 + c % 64) ∷ []
layout (suc (suc (suc (suc (suc n))))) c = []

-- "XML 1.0's Char decides which characters may stand": #x9 | #xA | #xD | [#x20-#xD7FF] | [#xE000-#xFFFD] | [#x10000-#x10FFFF]
unfoldable pub xml_char : ℕ → Bool
xml_char c =
    eqb c 0x9 || eqb c 0xa || eqb c 0xd || within 0x20 0xd7ff c || within 0xe000 0xfffd c || within 0x10000 0x10ffff c

-- the high halves, U+D800 to U+DBFF
abbrev pub is_high : ℕ → Bool
is_high u = within 0xd800 0xdbff u

-- the low halves, U+DC00 to U+DFFF
abbrev pub is_low : ℕ → Bool
is_low u = within 0xdc00 0xdfff u

-- the first two units are the halves of one pair, "high then low"
abbrev pub is_pair : List ℕ → Bool
is_pair us = is_high (get_or us 0 0) && is_low (get_or us 1 0)

-- "a character above U+FFFF gives a pair, high then low"
unfoldable pub units_of : ℕ → List ℕ
units_of c = cond (leb c 0xffff) (c ∷ []) ((0xd800 + (c - 0x10000) / 1024) ∷ (0xdc00 + (c - 0x10000) % 1024) ∷ [])

-- the text begins with `{`
abbrev pub braced : List ℕ → Bool
braced us = eqb (get_or us 0 0) 123

-- the text begins with `{}`
abbrev pub marked : List ℕ → Bool
marked us = braced us && eqb (get_or us 1 0) 125

-- "If it begins with the two bytes `{}`, they are dropped, once": `{` and `}` are one byte and one unit each
abbrev pub unmarked : List ℕ → List ℕ
unmarked us = cond (marked us) (drop 2 us) us

-- where the characters of a text start, one behind the other
abbrev pub characters : List ℕ → List Piece
characters text = pieces following 0 0 text

-- a character's units, "taken from the UTF-8 bits"
abbrev pub char_units : Piece → List ℕ
char_units c = units_of (code_point c.byte c.behind)

-- the units of a text as lent
abbrev pub lent_units : List ℕ → List ℕ
lent_units text = each char_units (characters text)

-- and without `{}`: "What remains becomes UTF-16 code units"
abbrev pub said_units : List ℕ → List ℕ
said_units text = unmarked (lent_units text)
