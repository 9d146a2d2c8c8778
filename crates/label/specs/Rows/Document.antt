-- "Labels to prove and to run": labels 1 to 11 of document 01 in a single theorem over a list of rows, with the worked examples of ECMA-388, the labels with
-- pairs in the tail and those with halves; and the example of `relabel`. Each is computed from the definitions.
-- Assumes nothing.
use Rattle.std.specs.Prelude.{refl, ◌≡◌, List, map, [], ◌++◌, ◌∷◌, pos}
use Rattle.label.specs.Outcome.{verdict}
use Rattle.label.specs.Bytes.{ascii, split, cut, all_digits, value_from, join_rest, join, trim, decimal_from, decimal, each, pieces}
use Rattle.label.specs.Text.{table, row_fits, fitting, starts_char, more_bytes, following, scalar, xml_char, units_of}
use Rattle.label.specs.Entry.{unsigned, is_decimals, is_number, mantissa_digits, fraction_digits, exponent_digits, nearest, scaled, thousandths, number_fits, is_index_part, index_digits, map_units, map_glyphs, is_advance, is_offset, well_formed, field_fits, index_of, advance_of, offset_of, entry_of, entries}
use Rattle.label.specs.Run.{font_glyph, cluster, tail, walk_parts, said_run}
use Rattle.label.specs.Checks.{text_checks, entry_checks, place_checks, walk_checks, run_checks, label_checks, read}
use Rattle.label.specs.Write.{utf8, unit_bytes, units_bytes, text_of, fraction, value_bytes, advance_by, offset_by, map_bytes, index_bytes, entry_by, entries_by, indices_by}
use Rattle.label.specs.Relabel.{relabel_read, relabel}
use Rattle.label.specs.Rows.Types.{refused, said, LabelRow, label_row, reads, glyph, advanced, one, grin, grins}
use Rattle.label.specs.Rows.Tail.{tail_rows}
use Rattle.label.specs.Rows.Rounding.{half_rows}
use Rattle.label.specs.declared.Advance.TheVariants.{Given, Own}
use Rattle.label.specs.declared.Index.TheVariants.{Font, Named}

-- ── document 01, labels 1 to 11 ──

-- a row for each answer that the list names
unfoldable pub document_rows : List LabelRow
document_rows =
    -- 1. U+0066 U+006C, `(2:1)192`: one cluster 2:1; normal `(2)192`
    label_row (ascii "fl") (ascii "(2:1)192") (reads (0x66 ∷ 0x6c ∷ []) (cluster 2 1 ∷ []) (glyph 192 ∷ []) (ascii "fl") (ascii "(2)192")) ∷
    -- 2. U+0E33, `(1:2)124;181`: one cluster 1:2
    label_row (0xe0 ∷ 0xb8 ∷ 0xb3 ∷ []) (ascii "(1:2)124;181")
    (reads (0x0e33 ∷ []) (cluster 1 2 ∷ []) (glyph 124 ∷ glyph 181 ∷ []) (0xe0 ∷ 0xb8 ∷ 0xb3 ∷ []) (ascii "(1:2)124;181")) ∷
    -- 3. U+0BAA U+0BCB, `(2:3)34;76;88`: one cluster 2:3
    label_row (0xe0 ∷ 0xae ∷ 0xaa ∷ 0xe0 ∷ 0xaf ∷ 0x8b ∷ []) (ascii "(2:3)34;76;88")
    (reads (0x0baa ∷ 0x0bcb ∷ []) (cluster 2 3 ∷ []) (glyph 34 ∷ glyph 76 ∷ glyph 88 ∷ []) (0xe0 ∷ 0xae ∷ 0xaa ∷ 0xe0 ∷ 0xaf ∷ 0x8b ∷ [])
    (ascii "(2:3)34;76;88")) ∷
    -- 4. `A`, `;`: 12, place 1. `AB`, `;`: accepted, normal indices of zero bytes
    label_row (ascii "A") (ascii ";") (refused 12 1) ∷
    label_row (ascii "AB") (ascii ";") (reads (ascii "AB") (one ∷ one ∷ []) (font_glyph ∷ font_glyph ∷ []) (ascii "AB") []) ∷
    -- 5. `{}`, nothing: 6. `{a`: 4. `{}{a`: text `{a`, normal `{}{a`
    label_row (ascii "{}") [] (refused 6 0) ∷
    label_row (ascii "{a") [] (refused 4 0) ∷
    label_row (ascii "{}{a") [] (reads (ascii "{a") (one ∷ one ∷ []) (font_glyph ∷ font_glyph ∷ []) (ascii "{}{a") []) ∷
    -- 6. `A`, `5,-1`: 7. `A`, `5,.0005`: document 02, CR 6, makes it advance 0, normal `5,0`; `5,.0004`: the same
    label_row (ascii "A") (ascii "5,-1") (refused 7 0) ∷
    label_row (ascii "A") (ascii "5,.0005") (reads (ascii "A") (one ∷ []) (advanced 5 0 ∷ []) (ascii "A") (ascii "5,0")) ∷
    label_row (ascii "A") (ascii "5,.0004") (reads (ascii "A") (one ∷ []) (advanced 5 0 ∷ []) (ascii "A") (ascii "5,0")) ∷
    -- 7. `A`, `5,1e6`: 1,000,000,000. `5,1000000.0004`: the same. `5,1000000.0005`: document 02, CR 6, makes it the same; `5,1000000.0006`: 9
    label_row (ascii "A") (ascii "5,1e6") (reads (ascii "A") (one ∷ []) (advanced 5 1_000_000_000 ∷ []) (ascii "A") (ascii "5,1000000")) ∷
    label_row (ascii "A") (ascii "5,1000000.0004") (reads (ascii "A") (one ∷ []) (advanced 5 1_000_000_000 ∷ []) (ascii "A") (ascii "5,1000000")) ∷
    label_row (ascii "A") (ascii "5,1000000.0005") (reads (ascii "A") (one ∷ []) (advanced 5 1_000_000_000 ∷ []) (ascii "A") (ascii "5,1000000")) ∷
    label_row (ascii "A") (ascii "5,1000000.0006") (refused 9 0) ∷
    -- 8. `A`, `065535`: normal `65535`. `65536`: 8
    label_row (ascii "A") (ascii "065535") (reads (ascii "A") (one ∷ []) (glyph 65535 ∷ []) (ascii "A") (ascii "65535")) ∷
    label_row (ascii "A") (ascii "65536") (refused 8 0) ∷
    -- 9. `AB`, `(2:2)5`: 14, place 0. `(2:2)5;`: 11, place 1. `(0)5`: 10
    label_row (ascii "AB") (ascii "(2:2)5") (refused 14 0) ∷
    label_row (ascii "AB") (ascii "(2:2)5;") (refused 11 1) ∷
    label_row (ascii "AB") (ascii "(0)5") (refused 10 0) ∷
    -- 10. U+1F600, nothing: document 02, CR 4, accepts it. With `(2)9`: accepted
    label_row grin [] (reads (grins []) (cluster 2 1 ∷ []) (font_glyph ∷ []) grin []) ∷
    label_row grin (ascii "(2)9") (reads (grins []) (cluster 2 1 ∷ []) (glyph 9 ∷ []) grin (ascii "(2)9")) ∷
    -- 11. No text, `5;6`: two clusters 0:1
    label_row [] (ascii "5;6") (reads [] (cluster 0 1 ∷ cluster 0 1 ∷ []) (glyph 5 ∷ glyph 6 ∷ []) [] (ascii "5;6")) ∷
    []

-- ── ECMA-388, Examples 12-3 to 12-6 ──

-- a row for each example that shows markup
unfoldable pub standard_rows : List LabelRow
standard_rows =
    -- 12-3, one to many: U+0E20 U+0E31 U+0E33 U+0021
    label_row (0xe0 ∷ 0xb8 ∷ 0xa0 ∷ 0xe0 ∷ 0xb8 ∷ 0xb1 ∷ 0xe0 ∷ 0xb8 ∷ 0xb3 ∷ 0x21 ∷ []) (ascii "153;106,,,16;(1:2)124;198;4")
    (reads (0x0e20 ∷ 0x0e31 ∷ 0x0e33 ∷ 0x21 ∷ []) (one ∷ one ∷ cluster 1 2 ∷ one ∷ [])
    (glyph 153 ∷ record { index = Named 106; advance = Own; u = pos 0; v = pos 16_000 } ∷ glyph 124 ∷ glyph 198 ∷ glyph 4 ∷ [])
    (0xe0 ∷ 0xb8 ∷ 0xa0 ∷ 0xe0 ∷ 0xb8 ∷ 0xb1 ∷ 0xe0 ∷ 0xb8 ∷ 0xb3 ∷ 0x21 ∷ []) (ascii "153;106,,,16;(1:2)124;198;4")) ∷
    -- 12-4, many to many: U+0BAA U+0BCB U+0BA4 U+0BC1
    label_row (0xe0 ∷ 0xae ∷ 0xaa ∷ 0xe0 ∷ 0xaf ∷ 0x8b ∷ 0xe0 ∷ 0xae ∷ 0xa4 ∷ 0xe0 ∷ 0xaf ∷ 0x81 ∷ []) (ascii "(2:3)94;76;88;(2:1)162")
    (reads (0x0baa ∷ 0x0bcb ∷ 0x0ba4 ∷ 0x0bc1 ∷ []) (cluster 2 3 ∷ cluster 2 1 ∷ []) (glyph 94 ∷ glyph 76 ∷ glyph 88 ∷ glyph 162 ∷ [])
    (0xe0 ∷ 0xae ∷ 0xaa ∷ 0xe0 ∷ 0xaf ∷ 0x8b ∷ 0xe0 ∷ 0xae ∷ 0xa4 ∷ 0xe0 ∷ 0xaf ∷ 0x81 ∷ []) (ascii "(2:3)94;76;88;(2)162")) ∷
    -- (12-1 and 12-2 have no markup; 12-5 and 12-6 name no text, so one of seven units stands here)
    -- 12-5, "the seventh glyph in the Unicode string has an advance width of 40"
    label_row (ascii "fathoms") (ascii ";;;;;;,40")
    (reads (ascii "fathoms") (one ∷ one ∷ one ∷ one ∷ one ∷ one ∷ one ∷ [])
    (font_glyph ∷ font_glyph ∷ font_glyph ∷ font_glyph ∷ font_glyph ∷ font_glyph ∷ record { index = Font; advance = Given 40_000; u = pos 0; v = pos 0 } ∷ [])
    (ascii "fathoms") (ascii ";;;;;;,40")) ∷
    -- 12-6, "the sixth and seventh UTF-16 code units in the Unicode string should be replaced by a single glyph having an index of 191"
    label_row (ascii "fathoms") (ascii ";;;;;(2:1)191")
    (reads (ascii "fathoms") (one ∷ one ∷ one ∷ one ∷ one ∷ cluster 2 1 ∷ []) (font_glyph ∷ font_glyph ∷ font_glyph ∷ font_glyph ∷ font_glyph ∷ glyph 191 ∷ [])
    (ascii "fathoms") (ascii ";;;;;(2)191")) ∷
    []

-- each row's label is answered as the row says
pub labels : map (λ (r : LabelRow). said (read r.text r.indices)) (document_rows ++ (standard_rows ++ (tail_rows ++ half_rows)))
    ≡ map (λ (r : LabelRow). r.answer) (document_rows ++ (standard_rows ++ (tail_rows ++ half_rows)))
unfolding document_rows standard_rows tail_rows half_rows ascii split cut all_digits value_from join_rest join trim decimal_from decimal table row_fits fitting
    starts_char more_bytes following scalar xml_char units_of each pieces text_checks verdict unsigned is_decimals is_number mantissa_digits fraction_digits
    exponent_digits nearest scaled thousandths number_fits is_index_part index_digits map_units map_glyphs is_advance is_offset well_formed field_fits index_of
    advance_of offset_of entry_of entries tail entry_checks place_checks walk_checks walk_parts said_run run_checks label_checks read utf8 unit_bytes
    units_bytes text_of fraction value_bytes advance_by offset_by map_bytes index_bytes entry_by entries_by indices_by
labels = refl

-- "From `{}flow` and `(2:1)192;07,+55.50,,0` it prints:"
pub relabelled : relabel (ascii "{}flow\n(2:1)192;07,+55.50,,0\n") ≡ ascii "ok 4 3 3\nflow\n(2)192;7,55.5\n"
unfolding relabel relabel_read ascii split cut all_digits value_from join_rest join trim decimal_from decimal table row_fits fitting starts_char more_bytes
    following scalar xml_char units_of each pieces text_checks verdict unsigned is_decimals is_number mantissa_digits fraction_digits exponent_digits nearest
    scaled thousandths number_fits is_index_part index_digits map_units map_glyphs is_advance is_offset well_formed field_fits index_of advance_of offset_of
    entry_of entries tail entry_checks place_checks walk_checks walk_parts said_run run_checks label_checks read utf8 unit_bytes units_bytes text_of fraction
    value_bytes advance_by offset_by map_bytes index_bytes entry_by entries_by indices_by
relabelled = refl
