-- Document 02, CR 2, computed: raw attribute values, escaped bytes and escaped writings.
-- Assumes nothing.
use Rattle.std.specs.Prelude.{refl, ◌≡◌, false, true, List, map, [], ◌++◌, ◌∷◌, pos, length, replicate}
use Rattle.label.specs.Outcome.{ok, no, verdict}
use Rattle.label.specs.Bytes.{ascii, split, cut, all_digits, value_from, join_rest, join, trim, decimal_from, decimal, each, pieces}
use Rattle.label.specs.Text.{table, row_fits, fitting, starts_char, more_bytes, following, scalar, xml_char, units_of}
use Rattle.label.specs.Entry.{unsigned, is_decimals, is_number, mantissa_digits, fraction_digits, exponent_digits, nearest, scaled, thousandths, number_fits, is_index_part, index_digits, map_units, map_glyphs, is_advance, is_offset, well_formed, field_fits, index_of, advance_of, offset_of, entry_of, entries}
use Rattle.label.specs.Run.{tail, walk_parts, said_run}
use Rattle.label.specs.Checks.{text_checks, entry_checks, place_checks, walk_checks, run_checks, label_checks, read}
use Rattle.label.specs.Wire.{from_halves, from_words}
use Rattle.label.specs.Fetched.{halves, signed, words, even_bytes, word_bytes}
use Rattle.label.specs.Places.{Places, places}
use Rattle.label.specs.Sound.{whole_clusters, whole_glyphs, clusters_of, glyphs_of, proper_units, fits, sound_run, sound}
use Rattle.label.specs.Write.{utf8, unit_bytes, units_bytes, text_of, fraction, value_bytes, advance_by, offset_by, map_bytes, index_bytes, entry_by, entries_by, indices_by}
use Rattle.label.specs.Calls.{filled_count, filled_after, write_checks, write_asked, lengths}
use Rattle.label.specs.Requests.Attribute.{same_bytes, predefined, digit_value, all_of, value_behind, numbered, referred, body, is_closed, is_reference, is_good, spaced, gives, further, escape_byte, escape, resolve_checks, resolve_into}
use Rattle.label.specs.Statements.Attribute.{raw_label_checks, read_raw}
use Rattle.label.specs.Rows.Types.{RawRow, raw_row, EscapeRow, escape_row, handed, sizes, plain, font, label, glyph_bytes, cluster_bytes}
use Rattle.label.specs.Steps.{resolve_from, resolve}

-- a row for each way to resolve
unfoldable pub raw_rows : List RawRow
raw_rows =
    -- "`&amp;` `&lt;` `&gt;` `&quot;` `&apos;`"; raw `>`, `"` and `'` stay
    raw_row (ascii "&amp;&lt;&gt;&quot;&apos;>\"'") (ok (38 ∷ 60 ∷ 62 ∷ 34 ∷ 39 ∷ 62 ∷ 34 ∷ 39 ∷ [])) ∷
    -- "decimal and hexadecimal character references as XML 1.0 says": digits in either case, any count of leading zeros, one to four bytes of UTF-8
    raw_row (ascii "&#65;&#x4a;&#x4A;&#0000000065;&#x00041;") (ok (ascii "AJJAA")) ∷
    raw_row (ascii "&#xE9;&#8364;&#x1F600;") (ok (0xc3 ∷ 0xa9 ∷ 0xe2 ∷ 0x82 ∷ 0xac ∷ 0xf0 ∷ 0x9f ∷ 0x98 ∷ 0x80 ∷ [])) ∷
    -- the characters at the borders of Char
    raw_row (ascii "&#xD7FF;&#xE000;&#xFFFD;&#x10FFFF;")
    (ok (0xed ∷ 0x9f ∷ 0xbf ∷ 0xee ∷ 0x80 ∷ 0x80 ∷ 0xef ∷ 0xbf ∷ 0xbd ∷ 0xf4 ∷ 0x8f ∷ 0xbf ∷ 0xbf ∷ [])) ∷
    -- what comes out is not looked at again
    raw_row (ascii "&amp;lt;&#38;lt;&#60;") (ok (ascii "&lt;&lt;<")) ∷
    -- "raw tab, line feed and carriage return become a space each, a carriage return with its line feed one"
    raw_row (97 ∷ 9 ∷ 98 ∷ 10 ∷ 99 ∷ 13 ∷ 100 ∷ 13 ∷ 10 ∷ 101 ∷ []) (ok (ascii "a b c d e")) ∷
    raw_row (10 ∷ 13 ∷ 97 ∷ 13 ∷ 13 ∷ 10 ∷ []) (ok (ascii "  a  ")) ∷
    raw_row (97 ∷ 13 ∷ []) (ok (ascii "a ")) ∷
    -- "a referenced one stays", and takes no part in a raw carriage return with its line feed
    raw_row (ascii "&#9;&#10;&#xD;") (ok (9 ∷ 10 ∷ 13 ∷ [])) ∷
    raw_row (13 ∷ ascii "&#10;") (ok (32 ∷ 10 ∷ [])) ∷
    raw_row (ascii "&#13;" ++ (10 ∷ [])) (ok (13 ∷ 32 ∷ [])) ∷
    -- every other byte stays, whatever it is; nothing gives nothing
    raw_row (0 ∷ 0xff ∷ 0xed ∷ 0xa0 ∷ 0x80 ∷ []) (ok (0 ∷ 0xff ∷ 0xed ∷ 0xa0 ∷ 0x80 ∷ [])) ∷
    raw_row [] (ok []) ∷
    -- "A raw `<` is bad", "place the first byte of the first"
    raw_row (ascii "aaa<b&") (no 23 3) ∷
    raw_row (ascii "ab&x;<") (no 23 2) ∷
    -- a bad reference: another name, another case, no `;`, nothing, a space, `X`, a hexadecimal digit without `x`
    raw_row (ascii "&nbsp;") (no 23 0) ∷
    raw_row (ascii "&AMP;") (no 23 0) ∷
    raw_row (ascii "a&") (no 23 1) ∷
    raw_row (ascii "&amp") (no 23 0) ∷
    raw_row (ascii "&#x41") (no 23 0) ∷
    raw_row (ascii "&lt&gt;") (no 23 0) ∷
    raw_row (ascii "&;") (no 23 0) ∷
    raw_row (ascii "&#;") (no 23 0) ∷
    raw_row (ascii "&#x;") (no 23 0) ∷
    raw_row (ascii "&# 65;") (no 23 0) ∷
    raw_row (ascii "&#X41;") (no 23 0) ∷
    raw_row (ascii "&#4A;") (no 23 0) ∷
    -- or of no Char: U+0000 and U+000B, a surrogate, U+FFFE, beyond U+10FFFF, and numbers that would wrap at 32 and 64 bits to that of `A`
    raw_row (ascii "&#0;") (no 23 0) ∷
    raw_row (ascii "&#xB;") (no 23 0) ∷
    raw_row (ascii "&#xD800;") (no 23 0) ∷
    raw_row (ascii "&#xFFFE;") (no 23 0) ∷
    raw_row (ascii "&#x110000;") (no 23 0) ∷
    raw_row (ascii "&#4294967361;") (no 23 0) ∷
    raw_row (ascii "&#18446744073709551681;") (no 23 0) ∷
    []

-- a row for each byte that is escaped, one for all of them, and one for bytes that stay
unfoldable pub escape_rows : List EscapeRow
escape_rows =
    escape_row (ascii "&") (ascii "&amp;") ∷
    escape_row (ascii "<") (ascii "&lt;") ∷
    escape_row (34 ∷ []) (ascii "&quot;") ∷
    escape_row (9 ∷ []) (ascii "&#9;") ∷
    escape_row (10 ∷ []) (ascii "&#10;") ∷
    escape_row (13 ∷ []) (ascii "&#13;") ∷
    escape_row (38 ∷ 60 ∷ 34 ∷ 9 ∷ 10 ∷ 13 ∷ []) (ascii "&amp;&lt;&quot;&#9;&#10;&#13;") ∷
    escape_row (ascii "{}a>'; " ++ (0xc3 ∷ 0xa9 ∷ [])) (ascii "{}a>'; " ++ (0xc3 ∷ 0xa9 ∷ [])) ∷
    []

-- each row's raw value resolves to what the row says
pub raw_values : map (λ (r : RawRow). resolve r.raw) raw_rows ≡ map (λ (r : RawRow). r.answer) raw_rows
unfolding raw_rows ascii cut same_bytes predefined digit_value all_of value_behind numbered referred body is_closed is_reference is_good spaced gives further
    resolve_from xml_char utf8 each pieces verdict
raw_values = refl

-- each row's bytes are escaped as the row says
pub escaped_values : map (λ (r : EscapeRow). escape r.bytes) escape_rows ≡ map (λ (r : EscapeRow). r.escaped) escape_rows
unfolding escape_rows ascii escape_byte escape
escaped_values = refl

-- "the reading is of what comes out": `{` and `}` may be referenced, and a space stays; "text before indices": its 23 and its 24 come first; "both before 1"
pub raw_readings : (read_raw (record { text = 9; indices = 9 }) (ascii "&#123;a") [] ≡ no 4 0)
    × (read_raw (record { text = 9; indices = 9 }) (ascii "&#123;&#125;a") (ascii "&#53;") ≡ read (ascii "a") (ascii "5"))
    × (read_raw (record { text = 9; indices = 9 }) (ascii "a") (ascii " 5") ≡ no 7 0)
    × (read_raw (record { text = 9; indices = 9 }) (ascii "a<") (ascii "<") ≡ no 23 1)
    × (read_raw (record { text = 1; indices = 9 }) (ascii "ab") (ascii "<") ≡ no 24 2)
    × (read_raw (record { text = 9; indices = 0 }) (0xff ∷ []) (ascii "5") ≡ no 24 1)
unfolding read_raw resolve_into ascii split cut all_digits value_from same_bytes predefined digit_value all_of value_behind numbered referred body is_closed
    is_reference is_good spaced gives further resolve_from utf8 table row_fits fitting starts_char more_bytes following scalar xml_char units_of each pieces
    text_checks verdict unsigned is_decimals is_number mantissa_digits fraction_digits exponent_digits nearest scaled thousandths number_fits is_index_part
    index_digits map_units map_glyphs is_advance is_offset well_formed field_fits index_of advance_of offset_of entry_of entries tail entry_checks place_checks
    walk_checks walk_parts said_run run_checks label_checks read resolve_checks raw_label_checks
raw_readings = (refl, refl, refl, refl, refl, refl)

-- resolving into a buffer: exact room, a byte too few, 23 before 24; bytes behind stay, and a refusal changes nothing
pub resolvings : (filled_count (resolve_into 2 (ascii "&lt;a")) ≡ ok 2) × (filled_count (resolve_into 1 (ascii "&lt;a")) ≡ no 24 2)
    × (filled_count (resolve_into 0 (ascii "aaa<")) ≡ no 23 3) × (filled_after (resolve_into 3 (ascii "&lt;a")) (7 ∷ 8 ∷ 9 ∷ []) ≡ 60 ∷ 97 ∷ 9 ∷ [])
    × (filled_after (resolve_into 1 (ascii "&lt;a")) (7 ∷ []) ≡ 7 ∷ [])
unfolding ascii cut same_bytes predefined digit_value all_of value_behind numbered referred body is_closed is_reference is_good spaced gives further
    resolve_from resolve_into xml_char utf8 resolve_checks each pieces verdict
resolvings = (refl, refl, refl, refl, refl)

-- the units `{`, `"` and tab in clusters 1:1, the first with the index 5, written escaped: "counted in 20 and 21"; 19 comes first
abbrev quoted : Places
quoted = handed (123 ∷ 34 ∷ 9 ∷ []) (pos 1 ∷ pos 1 ∷ pos 1 ∷ pos 1 ∷ pos 1 ∷ pos 1 ∷ []) (plain 5 (font (font [])))

-- its writing escaped, and 20 and 21 of it
pub escapings : (write_asked true (sizes 13 1) quoted ≡ label (ascii "{}{&quot;&#9;") (ascii "5"))
    × (lengths (write_asked true (sizes 12 1) quoted) ≡ no 20 13)
    × (lengths (write_asked true (sizes 13 0) quoted) ≡ no 21 1)
    × (lengths (write_asked true (sizes 0 0) (places quoted.units [] quoted.glyphs)) ≡ no 19 0)
    × (write_asked false (sizes 5 1) quoted ≡ label (123 ∷ 125 ∷ 123 ∷ 34 ∷ 9 ∷ []) (ascii "5"))
unfolding ascii whole_clusters whole_glyphs clusters_of glyphs_of proper_units fits sound_run sound xml_char join join_rest trim decimal_from decimal utf8
    unit_bytes units_bytes text_of fraction value_bytes advance_by offset_by map_bytes index_bytes entry_by entries_by indices_by write_asked escape_byte escape
    from_halves from_words halves words signed even_bytes word_bytes write_checks verdict
escapings = (refl, refl, refl, refl, refl)

-- the same of bytes: `"` with the index 5 and the u offset −1; a byte left over is 19
pub byte_escapings : (lengths (write_asked true (sizes 6 5) (places (34 ∷ 0 ∷ []) cluster_bytes glyph_bytes)) ≡ ok (record { text = 6; indices = 5 }))
    × (lengths (write_asked true (sizes 5 5) (places (34 ∷ 0 ∷ []) cluster_bytes glyph_bytes)) ≡ no 20 6)
    × (lengths (write_asked true (sizes 9 9) (places (34 ∷ 0 ∷ 0 ∷ []) cluster_bytes glyph_bytes)) ≡ no 19 0)
unfolding ascii whole_clusters whole_glyphs clusters_of glyphs_of proper_units fits sound_run sound xml_char join join_rest trim decimal_from decimal utf8
    unit_bytes units_bytes text_of fraction value_bytes advance_by offset_by map_bytes index_bytes entry_by entries_by indices_by write_asked escape_byte escape
    even_bytes word_bytes halves words signed from_halves from_words write_checks verdict
byte_escapings = (refl, refl, refl)

-- 4,096 times `"` make the longest escaped text
pub longest_escaped : length (escape (text_of (replicate 4096 34))) ≡ 24576
unfolding utf8 unit_bytes units_bytes text_of ascii escape_byte escape
longest_escaped = refl
