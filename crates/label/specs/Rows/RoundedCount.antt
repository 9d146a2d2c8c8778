-- Document 02, CR 1, computed: the counts of rounded fields.
-- Assumes nothing.
use Rattle.std.specs.Prelude.{ℕ, refl, ◌≡◌, List, map, [], ◌∷◌}
use Rattle.label.specs.Outcome.{verdict}
use Rattle.label.specs.Bytes.{ascii, split, cut, all_digits, value_from, each, pieces}
use Rattle.label.specs.Text.{table, row_fits, fitting, starts_char, more_bytes, following, scalar, xml_char, units_of}
use Rattle.label.specs.Entry.{unsigned, is_decimals, is_number, mantissa_digits, fraction_digits, exponent_digits, nearest, scaled, thousandths, number_fits, is_index_part, index_digits, map_units, map_glyphs, is_advance, is_offset, well_formed, field_fits, index_of, advance_of, offset_of, entry_of, entries}
use Rattle.label.specs.Run.{tail, walk_parts, said_run}
use Rattle.label.specs.Checks.{text_checks, entry_checks, place_checks, walk_checks, run_checks, label_checks, read}
use Rattle.label.specs.Calls.{read_checks, read_into}
use Rattle.label.specs.Requests.RoundedCount.{is_whole, is_exact, rounded_field, rounded_entry, rounded_entries, rounded, beside}
use Rattle.label.specs.Rows.Types.{RoundedRow, count_row, buffers}

-- a row for each way to count
unfoldable pub rounded_rows : List RoundedRow
rounded_rows =
    -- "whether its exact value was a whole count of thousandths": `.0005` is not, though it reads as 0 and the offset as if it were not given;
    -- `.0006` is not, `.001`, `1.0000` and `0e-99` are, `1e-4` is not; `12345e-5` is not, `12345e-2` is
    count_row (ascii "A") (ascii "5,.0005") 1 ∷
    count_row (ascii "A") (ascii "5,,.0005") 1 ∷
    count_row (ascii "A") (ascii "5,.0006") 1 ∷
    count_row (ascii "A") (ascii "5,.001") 0 ∷
    count_row (ascii "A") (ascii "5,1.0000") 0 ∷
    count_row (ascii "A") (ascii "5,0e-99") 0 ∷
    count_row (ascii "A") (ascii "5,1e-4") 1 ∷
    count_row (ascii "A") (ascii "5,,12345e-5,-12345e-2") 1 ∷
    -- "the count of given fields that were not": three given fields of which two are rounded; the same in a cluster's further glyph
    count_row (ascii "A") (ascii "5,.0005,1.5,-1e-4") 2 ∷
    count_row (ascii "A") (ascii "(1:2)5,1.5;6,.0005,,-1e-4") 2 ∷
    -- "an offset not given counts as exact": nothing is given; an empty field among given ones; the tail
    count_row (ascii "A") (ascii "5") 0 ∷
    count_row (ascii "A") (ascii "5,,,.0004") 1 ∷
    count_row (ascii "ABC") (ascii ",+.0004,") 1 ∷
    -- "a refusal as 0": 9 in the same entry, 12 in a later one
    count_row (ascii "A") (ascii "5,.0005,1e7") 0 ∷
    count_row (ascii "A") (ascii "5,.0005;6") 0 ∷
    []

-- each row's label has the count that the row says
pub rounded_labels : map (λ (r : RoundedRow). beside (rounded r.indices) (read r.text r.indices)) rounded_rows
    ≡ map (λ (r : RoundedRow). r.count) rounded_rows
unfolding rounded_rows is_whole is_exact rounded_field rounded_entry rounded_entries rounded ascii split cut all_digits value_from table row_fits fitting
    starts_char more_bytes following scalar xml_char units_of each pieces text_checks verdict unsigned is_decimals is_number mantissa_digits fraction_digits
    exponent_digits nearest scaled thousandths number_fits is_index_part index_digits map_units map_glyphs is_advance is_offset well_formed field_fits index_of
    advance_of offset_of entry_of entries tail entry_checks place_checks walk_checks walk_parts said_run run_checks label_checks read
rounded_labels = refl

-- "no part of the run, so two clients' runs compare as before": these two, with the counts 1 and 0, are one run
pub same_run : read (ascii "A") (ascii "5,.0006") ≡ read (ascii "A") (ascii "5,.001")
unfolding ascii split cut all_digits value_from table row_fits fitting starts_char more_bytes following scalar xml_char units_of each pieces text_checks verdict
    unsigned is_decimals is_number mantissa_digits fraction_digits exponent_digits nearest scaled thousandths number_fits is_index_part index_digits map_units
    map_glyphs is_advance is_offset well_formed field_fits index_of advance_of offset_of entry_of entries tail entry_checks place_checks walk_checks walk_parts
    said_run run_checks label_checks read
same_run = refl

-- the count of rounded fields beside `A` with `5,.0005`, "a refusal as 0" for 16, 17 and 18 too
abbrev finer : List ℕ
finer = ascii "5,.0005"

-- the count beside a refusal of each buffer, and beside an accepted label
pub byte_counts : (beside (rounded finer) (read_into (buffers 1 8 16) (ascii "A") finer) ≡ 0)
    × (beside (rounded finer) (read_into (buffers 2 7 16) (ascii "A") finer) ≡ 0)
    × (beside (rounded finer) (read_into (buffers 2 8 15) (ascii "A") finer) ≡ 0) × (beside (rounded finer) (read_into (buffers 2 8 16) (ascii "A") finer) ≡ 1)
unfolding ascii split cut all_digits value_from table row_fits fitting starts_char more_bytes following scalar xml_char units_of each pieces text_checks verdict
    unsigned is_decimals is_number mantissa_digits fraction_digits exponent_digits nearest scaled thousandths number_fits is_index_part index_digits map_units
    map_glyphs is_advance is_offset well_formed field_fits index_of advance_of offset_of entry_of entries is_whole is_exact rounded_field rounded_entry
    rounded_entries rounded tail entry_checks place_checks walk_checks walk_parts said_run run_checks label_checks read read_into read_checks
byte_counts = (refl, refl, refl, refl)
