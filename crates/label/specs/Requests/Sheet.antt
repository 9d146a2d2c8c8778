-- Document 02, CR 3: a sheet's labels in one file, and the answers to them. The numbers and the places of the labels themselves are those of `read`.
-- Assumes nothing.
use Rattle.std.specs.Prelude.{ℕ, ◌*◌, ◌+◌, ◌-◌, ◌/◌, Bool, not, List, [], ◌++◌, ◌∷◌, leb, pos, ℤ, drop, get_or, length, take}
use Rattle.label.specs.Outcome.{Outcome, ok, no, ◌>>◌, Check, check, above, verdict}
use Rattle.label.specs.Bytes.{ascii, begins, each, Piece, pieces, each_numbered, from_piece}
use Rattle.label.specs.Checks.{read}
use Rattle.label.specs.Wire.{from_halves}
use Rattle.label.specs.Write.{Label}

-- ── the file ──

-- "the mark `SLB`, a 16-bit version, 1"; "low byte first"
unfoldable pub header : List ℕ
header = ascii "SLB" ++ from_halves (1 ∷ [])

-- "a 16-bit text length [...]"; "low byte first": of the record that starts here; a byte that is not there counts as 0, and then the record does not end in
-- the file
unfoldable pub text_length : List ℕ → ℕ
text_length s = get_or s 0 0 + 256 * get_or s 1 0

-- "a 32-bit indices length"
unfoldable pub indices_length : List ℕ → ℕ
indices_length s = get_or s 2 0 + 256 * get_or s 3 0 + 65536 * get_or s 4 0 + 16777216 * get_or s 5 0

-- how many bytes the record has: up to 2^32 + 65,540
unfoldable pub record_length : List ℕ → ℕ
record_length s = 6 + text_length s + indices_length s

-- the record ends in the file
unfoldable pub is_record : List ℕ → Bool
is_record s = leb (record_length s) (length s)

-- the text and the indices of the record
unfoldable pub record_label : List ℕ → Label
record_label s = record { text = take (text_length s) (drop 6 s); indices = take (indices_length s) (drop (6 + text_length s) s) }

-- how many bytes of a record stand behind its first
abbrev pub record_more : ℕ → List ℕ → ℕ
record_more b bs = record_length (b ∷ bs) - 1

-- "26: file ends inside a record, place the record"; "records [...] are numbered from 0"
abbrev pub record_check : ℕ → Piece → List Check
record_check k r = check (not (is_record (from_piece r))) 26 k ∷ []

-- the label of a piece that is a record, as a list of one
abbrev pub record_labels : Piece → List Label
record_labels r = record_label (from_piece r) ∷ []

-- the records of a file, behind its header
abbrev pub sheet_records : List ℕ → List Piece
sheet_records file = pieces record_more 0 0 (drop 5 file)

-- their labels
abbrev pub file_labels : List ℕ → List Label
file_labels file = each record_labels (sheet_records file)

-- "25: mark or version wrong or cut off", then 26 of each record
abbrev pub file_checks : List ℕ → List Check
file_checks file = check (not (begins header file)) 25 0 ∷ each_numbered record_check 0 (sheet_records file)

-- the labels of a file
unfoldable pub labels_of : List ℕ → Outcome (List Label)
labels_of file = verdict (file_checks file) >> ok (file_labels file)

-- ── the answers ──

-- "two numbers a label, number and place, 0 and 0 when accepted"
abbrev pub answer_of : {A : Type 0} → Outcome A → List ℤ
answer_of (ok a) = pos 0 ∷ pos 0 ∷ []
answer_of (no n p) = pos n ∷ pos p ∷ []

-- "They equal those of single readings with large buffers": 16 to 18, the only checks that look at the buffers, don't hold of such a reading.
-- "references already resolved": text and indices are read as they stand
abbrev pub answer : Label → List ℤ
answer l = answer_of (read l.text l.indices)

-- "two numbers a label", in the order of the records
unfoldable pub answers : List Label → List ℤ
answers [] = []
answers (l ∷ ls) = answer l ++ answers ls

-- "From C, numbers in this and later lists are a run's 4 bytes [...], and left-over bytes at a list's end hold none": how many numbers a list of bytes holds
abbrev pub list_room : List ℕ → ℕ
list_room list = length list / 4

-- 25, 26, then "27: answer list too short, place the labels in the file": a list with room for so many numbers
unfoldable pub sheet_checks : ℕ → List ℕ → List Check
sheet_checks room file = file_checks file ++ (check (above (2 * length (file_labels file)) room) 27 (length (file_labels file)) ∷ [])

-- "The lent answer list gets two numbers a label": the call
unfoldable pub sheet_into : ℕ → List ℕ → Outcome (List ℤ)
sheet_into room file = verdict (sheet_checks room file) >> ok (answers (file_labels file))
