-- Document 02, CR 3, computed: sheets.
-- Assumes nothing.
use Rattle.std.specs.Prelude.{ℕ, ◌/◌, refl, ◌≡◌, List, map, [], ◌++◌, ◌∷◌, pos, replicate, take}
use Rattle.label.specs.Outcome.{ok, no, verdict}
use Rattle.label.specs.Bytes.{ascii, begins, split, cut, all_digits, value_from, each, pieces, each_numbered}
use Rattle.label.specs.Text.{table, row_fits, fitting, starts_char, more_bytes, following, scalar, xml_char, units_of}
use Rattle.label.specs.Entry.{unsigned, is_decimals, is_number, mantissa_digits, fraction_digits, exponent_digits, nearest, scaled, thousandths, number_fits, is_index_part, index_digits, map_units, map_glyphs, is_advance, is_offset, well_formed, field_fits, index_of, advance_of, offset_of, entry_of, entries}
use Rattle.label.specs.Run.{tail, walk_parts, said_run}
use Rattle.label.specs.Checks.{text_checks, entry_checks, place_checks, walk_checks, run_checks, label_checks, read}
use Rattle.label.specs.Wire.{from_halves, from_words}
use Rattle.label.specs.Calls.{filled_count, numbers_after}
use Rattle.label.specs.Requests.Sheet.{header, text_length, indices_length, record_length, is_record, record_label, labels_of, answers, sheet_checks, sheet_into}
use Rattle.label.specs.Statements.Sheet.{record_bytes, records_bytes, sheet_file}
use Rattle.label.specs.Rows.Types.{SheetRow, sheet_row}

-- `SLB` and the version 1 before these records
abbrev sheet_of : List ℕ → List ℕ
sheet_of s = 83 ∷ 76 ∷ 66 ∷ 1 ∷ 0 ∷ s

-- `A` with `5`, which is accepted; `A` with `70000`, "index above 65,535" in entry 0; `AB` and a byte that starts no character, at place 2; no bytes at all
abbrev good_record : List ℕ → List ℕ
good_record s = 1 ∷ 0 ∷ 1 ∷ 0 ∷ 0 ∷ 0 ∷ 65 ∷ 53 ∷ s

abbrev above_record : List ℕ → List ℕ
above_record s = 1 ∷ 0 ∷ 5 ∷ 0 ∷ 0 ∷ 0 ∷ 65 ∷ 55 ∷ 48 ∷ 48 ∷ 48 ∷ 48 ∷ s

abbrev broken_record : List ℕ → List ℕ
broken_record s = 3 ∷ 0 ∷ 0 ∷ 0 ∷ 0 ∷ 0 ∷ 65 ∷ 66 ∷ 255 ∷ s

abbrev empty_record : List ℕ → List ℕ
empty_record s = 0 ∷ 0 ∷ 0 ∷ 0 ∷ 0 ∷ 0 ∷ s

-- a row for each way to answer a file
unfoldable pub sheet_rows : List SheetRow
sheet_rows =
    -- a header alone is a file of no labels
    sheet_row (sheet_of []) 0 (ok []) ∷
    -- "number and place, 0 and 0 when accepted"; a record may end at the very end
    sheet_row (sheet_of (good_record [])) 2 (ok (pos 0 ∷ pos 0 ∷ [])) ∷
    sheet_row (sheet_of (above_record [])) 2 (ok (pos 8 ∷ pos 0 ∷ [])) ∷
    sheet_row (sheet_of (broken_record [])) 3 (ok (pos 2 ∷ pos 2 ∷ [])) ∷
    sheet_row (sheet_of (empty_record [])) 9 (ok (pos 6 ∷ pos 0 ∷ [])) ∷
    -- "A refused label changes no other's answer", at every position
    sheet_row (sheet_of (above_record (good_record (broken_record [])))) 6 (ok (pos 8 ∷ pos 0 ∷ pos 0 ∷ pos 0 ∷ pos 2 ∷ pos 2 ∷ [])) ∷
    sheet_row (sheet_of (good_record (empty_record (above_record (good_record []))))) 8
    (ok (pos 0 ∷ pos 0 ∷ pos 6 ∷ pos 0 ∷ pos 8 ∷ pos 0 ∷ pos 0 ∷ pos 0 ∷ [])) ∷
    -- "low byte first": a text of 256 bytes, indices of 256
    sheet_row (sheet_of (0 ∷ 1 ∷ 0 ∷ 0 ∷ 0 ∷ 0 ∷ replicate 256 65)) 2 (ok (pos 0 ∷ pos 0 ∷ [])) ∷
    sheet_row (sheet_of (1 ∷ 0 ∷ 0 ∷ 1 ∷ 0 ∷ 0 ∷ 65 ∷ replicate 256 48)) 2 (ok (pos 0 ∷ pos 0 ∷ [])) ∷
    -- "references already resolved": `<&` is a text as it stands; no text, `5`
    sheet_row (sheet_of (2 ∷ 0 ∷ 0 ∷ 0 ∷ 0 ∷ 0 ∷ 60 ∷ 38 ∷ [])) 2 (ok (pos 0 ∷ pos 0 ∷ [])) ∷
    sheet_row (sheet_of (0 ∷ 0 ∷ 1 ∷ 0 ∷ 0 ∷ 0 ∷ 53 ∷ [])) 2 (ok (pos 0 ∷ pos 0 ∷ [])) ∷
    -- "text above 16,384 bytes or indices above 262,144" (1), all in the file: a text of 16,385 bytes, and a record behind it
    sheet_row (sheet_of (1 ∷ 64 ∷ 0 ∷ 0 ∷ 0 ∷ 0 ∷ replicate 16_385 65 ++ good_record [])) 4 (ok (pos 1 ∷ pos 0 ∷ pos 0 ∷ pos 0 ∷ [])) ∷
    -- "25: mark or version wrong or cut off": a file of fewer than 5 bytes, another mark or case, versions 0, 2, 257 and 1 with its high byte first
    sheet_row [] 9 (no 25 0) ∷
    sheet_row (83 ∷ 76 ∷ 66 ∷ 1 ∷ []) 9 (no 25 0) ∷
    sheet_row (83 ∷ 76 ∷ 67 ∷ 1 ∷ 0 ∷ []) 9 (no 25 0) ∷
    sheet_row (115 ∷ 108 ∷ 98 ∷ 1 ∷ 0 ∷ []) 9 (no 25 0) ∷
    sheet_row (83 ∷ 76 ∷ 66 ∷ 0 ∷ 0 ∷ []) 9 (no 25 0) ∷
    sheet_row (83 ∷ 76 ∷ 66 ∷ 2 ∷ 0 ∷ []) 9 (no 25 0) ∷
    sheet_row (83 ∷ 76 ∷ 66 ∷ 1 ∷ 1 ∷ []) 9 (no 25 0) ∷
    sheet_row (83 ∷ 76 ∷ 66 ∷ 0 ∷ 1 ∷ []) 9 (no 25 0) ∷
    -- "26: file ends inside a record, place the record": in the lengths, in the text, in the indices; indices lengths of 65,536 and 16,777,216; lengths of
    -- 65,535 and 4,294,967,295
    sheet_row (sheet_of (0 ∷ [])) 9 (no 26 0) ∷
    sheet_row (sheet_of (0 ∷ 0 ∷ 0 ∷ 0 ∷ 0 ∷ [])) 9 (no 26 0) ∷
    sheet_row (sheet_of (1 ∷ 0 ∷ 0 ∷ 0 ∷ 0 ∷ 0 ∷ [])) 9 (no 26 0) ∷
    sheet_row (sheet_of (1 ∷ 0 ∷ 2 ∷ 0 ∷ 0 ∷ 0 ∷ 65 ∷ 53 ∷ [])) 9 (no 26 0) ∷
    sheet_row (sheet_of (1 ∷ 0 ∷ 0 ∷ 0 ∷ 1 ∷ 0 ∷ 65 ∷ [])) 9 (no 26 0) ∷
    sheet_row (sheet_of (1 ∷ 0 ∷ 0 ∷ 0 ∷ 0 ∷ 1 ∷ 65 ∷ [])) 9 (no 26 0) ∷
    sheet_row (sheet_of (good_record (empty_record (0 ∷ 1 ∷ 0 ∷ 0 ∷ 0 ∷ 0 ∷ 65 ∷ [])))) 9 (no 26 2) ∷
    sheet_row (sheet_of (good_record (255 ∷ 255 ∷ 255 ∷ 255 ∷ 255 ∷ 255 ∷ []))) 9 (no 26 1) ∷
    -- "27: answer list too short, place the labels in the file"
    sheet_row (sheet_of (good_record [])) 1 (no 27 1) ∷
    sheet_row (sheet_of (above_record (good_record (broken_record [])))) 5 (no 27 3) ∷
    -- "in this order"
    sheet_row (83 ∷ 76 ∷ 66 ∷ 2 ∷ 0 ∷ 0 ∷ []) 0 (no 25 0) ∷
    sheet_row (sheet_of (good_record (0 ∷ []))) 0 (no 26 1) ∷
    []

-- each row's file is answered as the row says
pub sheets : map (λ (r : SheetRow). sheet_into r.room r.file) sheet_rows ≡ map (λ (r : SheetRow). r.answer) sheet_rows
unfolding sheet_rows header from_halves text_length indices_length record_length is_record record_label labels_of answers sheet_into begins ascii split cut
    all_digits value_from table row_fits fitting starts_char more_bytes following scalar xml_char units_of each pieces text_checks verdict unsigned is_decimals
    is_number mantissa_digits fraction_digits exponent_digits nearest scaled thousandths number_fits is_index_part index_digits map_units map_glyphs is_advance
    is_offset well_formed field_fits index_of advance_of offset_of entry_of entries tail entry_checks place_checks walk_checks walk_parts said_run run_checks
    label_checks read each_numbered sheet_checks
sheets = refl

-- a list of labels to bytes, "low byte first": `A` with `5` and a label without bytes; the lengths 258 and 515
pub sheet_files : (sheet_file (record { text = ascii "A"; indices = ascii "5" } ∷ record { text = []; indices = [] } ∷ [])
    ≡ sheet_of (good_record (empty_record [])))
    × (take 6 (record_bytes (record { text = replicate 258 65; indices = replicate 515 53 })) ≡ 2 ∷ 1 ∷ 3 ∷ 2 ∷ 0 ∷ 0 ∷ [])
unfolding header record_bytes records_bytes sheet_file from_halves ascii
sheet_files = (refl, refl)

-- a sheet of a label without bytes, refused with 6, and one of 300 times `A` and a byte that starts no character, refused with 2 at place 300. A list of 16
-- bytes holds the four numbers, low byte first; one of 15 is too short; a number behind and a byte left over stay, and a refusal changes nothing.
abbrev far : List ℕ
far = 83 ∷ 76 ∷ 66 ∷ 1 ∷ 0 ∷ 0 ∷ 0 ∷ 0 ∷ 0 ∷ 0 ∷ 0 ∷ 45 ∷ 1 ∷ 0 ∷ 0 ∷ 0 ∷ 0 ∷ replicate 300 65 ++ (255 ∷ [])

-- its answers in lists that are long enough, and too short by a byte
pub sheet_bytes : (filled_count (sheet_into 4 far) ≡ ok 4) × (filled_count (sheet_into 3 far) ≡ no 27 2)
    × (numbers_after (sheet_into (21 / 4) far) (replicate 21 7) ≡ 6 ∷ 0 ∷ 0 ∷ 0 ∷ 0 ∷ 0 ∷ 0 ∷ 0 ∷ 2 ∷ 0 ∷ 0 ∷ 0 ∷ 44 ∷ 1 ∷ 0 ∷ 0 ∷ replicate 5 7)
    × (numbers_after (sheet_into (15 / 4) far) (replicate 15 7) ≡ replicate 15 7)
unfolding header from_halves from_words text_length indices_length record_length is_record record_label labels_of answers sheet_into begins ascii split cut
    all_digits value_from table row_fits fitting starts_char more_bytes following scalar xml_char units_of each pieces text_checks verdict unsigned is_decimals
    is_number mantissa_digits fraction_digits exponent_digits nearest scaled thousandths number_fits is_index_part index_digits map_units map_glyphs is_advance
    is_offset well_formed field_fits index_of advance_of offset_of entry_of entries tail entry_checks place_checks walk_checks walk_parts said_run run_checks
    label_checks read sheet_checks each_numbered
sheet_bytes = (refl, refl, refl, refl)
