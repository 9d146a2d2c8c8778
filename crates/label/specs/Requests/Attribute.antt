-- Document 02, CR 2: raw attribute values. Their references are resolved as XML 1.0 says; on request the writer's bytes are escaped.
-- Assumes nothing.
use Rattle.std.specs.Prelude.{suc, ℕ, ◌*◌, ◌+◌, ◌-◌, Bool, cond, false, not, true, ◌&&◌, ◌||◌, List, [], ◌++◌, ◌∷◌, eqb, ltb, drop, get_or, length}
use Rattle.label.specs.Outcome.{Outcome, ok, ◌>>◌, Check, check, above, verdict}
use Rattle.label.specs.Bytes.{ascii, empty, cut, each, Piece, pieces}
use Rattle.label.specs.Text.{within, xml_char}
use Rattle.label.specs.Write.{utf8}

-- ── references ──

-- two byte strings are the same
unfoldable pub same_bytes : List ℕ → List ℕ → Bool
same_bytes [] [] = true
same_bytes [] (y ∷ ys) = false
same_bytes (x ∷ xs) [] = false
same_bytes (x ∷ xs) (y ∷ ys) = eqb x y && same_bytes xs ys

-- "resolves `&amp;` `&lt;` `&gt;` `&quot;` `&apos;`": the character of a name (XML 1.0, 4.6); 0, which is no Char, for any other
unfoldable pub predefined : List ℕ → ℕ
predefined s =
    cond (same_bytes s (ascii "amp")) 38
    (cond (same_bytes s (ascii "lt")) 60
    (cond (same_bytes s (ascii "gt")) 62
    (cond (same_bytes s (ascii "quot")) 34
    (cond (same_bytes s (ascii "apos")) 39 0))))

-- `0` to `9`, `a` to `f` and `A` to `F` as a number; 16, which is no digit of any base here, for any other byte
unfoldable pub digit_value : ℕ → ℕ
digit_value b = cond (within 48 57 b) (b - 48) (cond (within 97 102 b) (b - 87) (cond (within 65 70 b) (b - 55) 16))

-- zero or more digits of the base, XML 1.0's [0-9] or [0-9a-fA-F]
unfoldable pub all_of : ℕ → List ℕ → Bool
all_of base [] = true
all_of base (b ∷ bs) = ltb (digit_value b) base && all_of base bs

-- n with these digits of the base written behind it
unfoldable pub value_behind : ℕ → ℕ → List ℕ → ℕ
value_behind base n [] = n
value_behind base n (b ∷ bs) = value_behind base (n * base + digit_value b) bs

-- one or more digits of the base as a number of any size; 0, which is no Char, for anything else
unfoldable pub numbered : ℕ → List ℕ → ℕ
numbered base s = cond (not (empty s) && all_of base s) (value_behind base 0 s) 0

-- "and decimal and hexadecimal character references as XML 1.0 says" (4.1): the character of `#` digits, of `#x` hexadecimal digits, or of a name
unfoldable pub referred : List ℕ → ℕ
referred s =
    cond (eqb (get_or s 0 0) 35)
    (cond (eqb (get_or s 1 0) 120) (numbered 16 (drop 2 s)) (numbered 10 (drop 1 s)))
    (predefined s)

-- what stands behind a `&`, up to the first `;`
unfoldable pub body : List ℕ → List ℕ
body bs = (cut (λ b. eqb b 59) bs).before

-- there is such a `;`
unfoldable pub is_closed : List ℕ → Bool
is_closed bs = (cut (λ b. eqb b 59) bs).found

-- a reference stands behind a `&`: it ends with `;`, and its character is a Char (XML 1.0, 4.1, "Legal Character")
unfoldable pub is_reference : List ℕ → Bool
is_reference bs = is_closed bs && xml_char (referred (body bs))

-- ── resolving ──

-- "bad reference or raw `<`" (23) does not stand at byte b with bs behind it
unfoldable pub is_good : ℕ → List ℕ → Bool
is_good b bs = not (eqb b 60) && (not (eqb b 38) || is_reference bs)

-- "raw tab, line feed and carriage return become a space each"
unfoldable pub spaced : ℕ → ℕ
spaced b = cond (eqb b 9 || eqb b 10 || eqb b 13) 32 b

-- the bytes that come out for what stands at b: a reference's character in UTF-8, "a referenced one stays"; else the byte, or its space
unfoldable pub gives : ℕ → List ℕ → List ℕ
gives b bs = cond (eqb b 38) (utf8 (referred (body bs))) (spaced b ∷ [])

-- how many bytes behind b belong to it: those of a reference; "a carriage return with its line feed one"
unfoldable pub further : ℕ → List ℕ → ℕ
further b bs = cond (eqb b 38) (suc (length (body bs))) (cond (eqb b 13 && eqb (get_or bs 0 0) 10) 1 0)

-- "bad reference or raw `<`, place the first byte of the first" (23)
abbrev pub raw_check : Piece → List Check
raw_check r = check (not (is_good r.byte r.behind)) 23 r.place ∷ []

-- what comes out of a piece
abbrev pub raw_bytes : Piece → List ℕ
raw_bytes r = gives r.byte r.behind

-- a raw value's checks, from its left
abbrev pub raw_checks : List ℕ → List Check
raw_checks raw = each raw_check (pieces further 0 0 raw)

-- the bytes that come out, which are not looked at again
abbrev pub raw_gives : List ℕ → List ℕ
raw_gives raw = each raw_bytes (pieces further 0 0 raw)

-- ── escaping ──

-- "`&`, `<`, `"`, tab, line feed, carriage return become `&amp;` `&lt;` `&quot;` `&#9;` `&#10;` `&#13;`"
unfoldable pub escape_byte : ℕ → List ℕ
escape_byte b =
    cond (eqb b 38) (ascii "&amp;")
    (cond (eqb b 60) (ascii "&lt;")
    (cond (eqb b 34) (ascii "&quot;")
    (cond (eqb b 9) (ascii "&#9;")
    (cond (eqb b 10) (ascii "&#10;")
    (cond (eqb b 13) (ascii "&#13;") (b ∷ []))))))

-- "to escape": bytes with each of the six replaced
unfoldable pub escape : List ℕ → List ℕ
escape [] = []
escape (b ∷ bs) = escape_byte b ++ escape bs

-- "A caller may ask the writer to escape": bytes as the caller asks for them
abbrev pub as_asked : Bool → List ℕ → List ℕ
as_asked true s = escape s
as_asked false s = s

-- ── the calls ──

-- 23, then "24: lent buffer too short, place the bytes needed": a buffer of `room` bytes
unfoldable pub resolve_checks : ℕ → List ℕ → List Check
resolve_checks room raw = raw_checks raw ++ (check (above (length (raw_gives raw)) room) 24 (length (raw_gives raw)) ∷ [])

-- "It works on one attribute a call [...], into a lent buffer"
unfoldable pub resolve_into : ℕ → List ℕ → Outcome (List ℕ)
resolve_into room raw = verdict (resolve_checks room raw) >> ok (raw_gives raw)
