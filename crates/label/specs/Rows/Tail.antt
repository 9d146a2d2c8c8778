-- Document 02, CR 4, computed: labels whose pairs are left to the font, their bytes in the buffers, the limit of glyphs, `relabel`.
-- Assumes nothing.
use Rattle.std.specs.Prelude.{refl, ◌≡◌, List, [], ◌++◌, ◌∷◌, pos, replicate}
use Rattle.label.specs.Outcome.{ok, no, verdict}
use Rattle.label.specs.Bytes.{ascii, split, cut, all_digits, value_from, join_rest, join, trim, decimal_from, decimal, each, pieces}
use Rattle.label.specs.Text.{table, row_fits, fitting, starts_char, more_bytes, following, scalar, xml_char, units_of}
use Rattle.label.specs.Entry.{unsigned, is_decimals, is_number, mantissa_digits, fraction_digits, exponent_digits, nearest, scaled, thousandths, number_fits, is_index_part, index_digits, map_units, map_glyphs, is_advance, is_offset, well_formed, field_fits, index_of, advance_of, offset_of, entry_of, entries}
use Rattle.label.specs.Run.{font_glyph, cluster, tail, walk_parts, said_run}
use Rattle.label.specs.Checks.{text_checks, entry_checks, place_checks, walk_checks, run_checks, label_checks, read}
use Rattle.label.specs.Wire.{from_halves, from_words}
use Rattle.label.specs.Places.{flat_clusters, flat_glyphs}
use Rattle.label.specs.Write.{utf8, unit_bytes, units_bytes, text_of, fraction, value_bytes, advance_by, offset_by, map_bytes, index_bytes, entry_by, entries_by, indices_by}
use Rattle.label.specs.Calls.{read_checks, read_into, counted, clusters_after, glyphs_after}
use Rattle.label.specs.Relabel.{relabel_read, relabel}
use Rattle.label.specs.Rows.Types.{refused, LabelRow, label_row, reads, glyph, one, grin, grins, buffers}
use Rattle.label.specs.declared.Advance.TheVariants.{Given}
use Rattle.label.specs.declared.Index.TheVariants.{Font}

-- a row for each way that a pair is left to the font, and for each that it is not
unfoldable pub tail_rows : List LabelRow
tail_rows =
    -- "a pair in the tail is one cluster of 2 units and 1 glyph, wholly the font's": among other units, behind a named pair, behind an
    -- entry, behind a cluster's further glyph
    label_row (ascii "A" ++ (grin ++ ascii "B")) []
    (reads (65 ∷ grins (66 ∷ [])) (one ∷ cluster 2 1 ∷ one ∷ []) (font_glyph ∷ font_glyph ∷ font_glyph ∷ []) (ascii "A" ++ (grin ++ ascii "B")) []) ∷
    label_row (grin ++ grin) (ascii "(2)09")
    (reads (grins (grins [])) (cluster 2 1 ∷ cluster 2 1 ∷ []) (glyph 9 ∷ font_glyph ∷ []) (grin ++ grin) (ascii "(2)9")) ∷
    label_row (ascii "A" ++ grin) (ascii ",7") (reads (65 ∷ grins []) (one ∷ cluster 2 1 ∷ [])
    (record { index = Font; advance = Given 7_000; u = pos 0; v = pos 0 } ∷ font_glyph ∷ []) (ascii "A" ++ grin) (ascii ",7")) ∷
    label_row (ascii "A" ++ grin) (ascii "(1:2)5;6")
    (reads (65 ∷ grins []) (cluster 1 2 ∷ cluster 2 1 ∷ []) (glyph 5 ∷ glyph 6 ∷ font_glyph ∷ []) (ascii "A" ++ grin) (ascii "(1:2)5;6")) ∷
    -- at the ends of the halves' ranges, one behind the other: U+D7FF U+10000 U+10FFFF U+E000
    label_row (0xed ∷ 0x9f ∷ 0xbf ∷ 0xf0 ∷ 0x90 ∷ 0x80 ∷ 0x80 ∷ 0xf4 ∷ 0x8f ∷ 0xbf ∷ 0xbf ∷ 0xee ∷ 0x80 ∷ 0x80 ∷ []) []
    (reads (0xd7ff ∷ 0xd800 ∷ 0xdc00 ∷ 0xdbff ∷ 0xdfff ∷ 0xe000 ∷ []) (one ∷ cluster 2 1 ∷ cluster 2 1 ∷ one ∷ [])
    (font_glyph ∷ font_glyph ∷ font_glyph ∷ font_glyph ∷ [])
    (0xed ∷ 0x9f ∷ 0xbf ∷ 0xf0 ∷ 0x90 ∷ 0x80 ∷ 0x80 ∷ 0xf4 ∷ 0x8f ∷ 0xbf ∷ 0xbf ∷ 0xee ∷ 0x80 ∷ 0x80 ∷ []) []) ∷
    -- "the normal writing drops it like them. [...] Equal runs and equal bytes go together for these labels as well": these three are one run
    label_row (ascii "AB" ++ grin) []
    (reads (65 ∷ 66 ∷ grins []) (one ∷ one ∷ cluster 2 1 ∷ []) (font_glyph ∷ font_glyph ∷ font_glyph ∷ []) (ascii "AB" ++ grin) []) ∷
    label_row (ascii "AB" ++ grin) (ascii ";")
    (reads (65 ∷ 66 ∷ grins []) (one ∷ one ∷ cluster 2 1 ∷ []) (font_glyph ∷ font_glyph ∷ font_glyph ∷ []) (ascii "AB" ++ grin) []) ∷
    label_row (ascii "AB" ++ grin) (ascii ",,;,,,0")
    (reads (65 ∷ 66 ∷ grins []) (one ∷ one ∷ cluster 2 1 ∷ []) (font_glyph ∷ font_glyph ∷ font_glyph ∷ []) (ascii "AB" ++ grin) []) ∷
    -- a pair that is named is another run, with other bytes
    label_row (ascii "AB" ++ grin) (ascii ";;(2)9")
    (reads (65 ∷ 66 ∷ grins []) (one ∷ one ∷ cluster 2 1 ∷ []) (font_glyph ∷ font_glyph ∷ glyph 9 ∷ []) (ascii "AB" ++ grin) (ascii ";;(2)9")) ∷
    -- "An entry without a map at a pair is still refused with 13": an empty one, at the first unit, with an index, behind a pair
    label_row (ascii "A" ++ grin) (ascii ";") (refused 13 2) ∷
    label_row grin (ascii ";") (refused 13 1) ∷
    label_row grin (ascii "9") (refused 13 1) ∷
    label_row (grin ++ grin) (ascii "(2)9;") (refused 13 3) ∷
    -- a cluster that ends inside a pair is too
    label_row (ascii "A" ++ grin) (ascii "(2)9") (refused 13 2) ∷
    -- an open cluster takes nothing from the tail
    label_row (ascii "A" ++ grin) (ascii "(1:2)5") (refused 14 0) ∷
    []

-- U+1F600 left to the font, into bytes: 2 units, 1 cluster, 1 glyph
pub byte_tails : (counted (read_into (buffers 4 8 16) grin []) ≡ ok (record { units = 2; clusters = 1; glyphs = 1 }))
    × (counted (read_into (buffers 3 8 16) grin []) ≡ no 16 2)
    × (counted (read_into (buffers 4 7 16) grin []) ≡ no 17 1) × (counted (read_into (buffers 4 8 15) grin []) ≡ no 18 1)
    × (clusters_after (read_into (buffers 4 9 17) grin []) (replicate 9 7) ≡ 2 ∷ 0 ∷ 0 ∷ 0 ∷ 1 ∷ 0 ∷ 0 ∷ 0 ∷ 7 ∷ [])
    × (glyphs_after (read_into (buffers 4 9 17) grin []) (replicate 17 7) ≡ replicate 8 255 ++ (replicate 8 0 ++ (7 ∷ [])))
unfolding table row_fits fitting starts_char more_bytes following scalar xml_char units_of each pieces text_checks verdict entries tail entry_checks
    place_checks walk_checks walk_parts said_run run_checks label_checks read read_into flat_clusters flat_glyphs from_halves from_words read_checks
byte_tails = (refl, refl, refl, refl, refl, refl)

-- 15 counts a pair of the tail once
pub tail_limit : (counted (read_into (buffers 8192 32768 65536) (replicate 4094 65 ++ grin) (ascii "(1:2)5;6"))
    ≡ ok (record { units = 4096; clusters = 4095; glyphs = 4096 }))
    × (counted (read_into (buffers 8192 32768 65536) (replicate 4094 65 ++ grin) (ascii "(1:3)5;6;7")) ≡ no 15 0)
unfolding ascii split cut all_digits value_from table row_fits fitting starts_char more_bytes following scalar xml_char units_of each pieces text_checks verdict
    unsigned is_decimals is_number mantissa_digits fraction_digits exponent_digits nearest scaled thousandths number_fits is_index_part index_digits map_units
    map_glyphs is_advance is_offset well_formed field_fits index_of advance_of offset_of entry_of entries tail entry_checks place_checks walk_checks walk_parts
    said_run run_checks label_checks read read_into read_checks
tail_limit = (refl, refl)

-- a pair that is left to the font: 2 units, 1 cluster, 1 glyph, no indices
pub relabelled_pair : relabel (grin ++ (10 ∷ [])) ≡ ascii "ok 2 1 1\n" ++ (grin ++ ascii "\n\n")
unfolding relabel relabel_read ascii split cut all_digits value_from join_rest join trim decimal_from decimal table row_fits fitting starts_char more_bytes
    following scalar xml_char units_of each pieces text_checks verdict unsigned is_decimals is_number mantissa_digits fraction_digits exponent_digits nearest
    scaled thousandths number_fits is_index_part index_digits map_units map_glyphs is_advance is_offset well_formed field_fits index_of advance_of offset_of
    entry_of entries tail entry_checks place_checks walk_checks walk_parts said_run run_checks label_checks read utf8 unit_bytes units_bytes text_of fraction
    value_bytes advance_by offset_by map_bytes index_bytes entry_by entries_by indices_by
relabelled_pair = refl
