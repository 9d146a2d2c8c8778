-- Document 02, CR 3: what a sheet's answers promise, stated on the definitions that the contracts of the calls cite: a record whose fields are its
-- sentences. proofs/Statements/Sheet.antt has a value of it.
-- Assumes nothing.
use Rattle.std.specs.Prelude.{suc, ℕ, ◌*◌, ◌+◌, ◌≤◌, ◌≡◌, ◌↔◌, Bool, true, ◌&&◌, List, [], ◌++◌, ◌∷◌, ltb, pos, ℤ, drop, length, take}
use Rattle.label.specs.Limits.{max_units, max_glyphs}
use Rattle.label.specs.Outcome.{ok, no}
use Rattle.label.specs.Run.{Run}
use Rattle.label.specs.Checks.{read}
use Rattle.label.specs.Wire.{from_halves, four_bytes, from_words}
use Rattle.label.specs.Fetched.{words}
use Rattle.label.specs.Write.{Label}
use Rattle.label.specs.Statements.Memory.{GivenBy, Kept}
use Rattle.label.specs.Calls.{filled_count, numbers_after, read_into}
use Rattle.label.specs.Requests.Sheet.{header, list_room, file_labels, labels_of, answer_of, answer, answers, sheet_checks, sheet_into}
use Rattle.label.specs.Statements.Demands.{Roomy, all_bytes}
use Rattle.label.specs.declared.Counts.{Counts}

-- ── a list of labels to bytes ──

-- a record: "a 16-bit text length, a 32-bit indices length, the text, the indices"; "low byte first"
unfoldable pub record_bytes : Label → List ℕ
record_bytes l = from_halves (length l.text ∷ []) ++ (four_bytes (length l.indices) ++ (l.text ++ l.indices))

-- "then records", one a label
unfoldable pub records_bytes : List Label → List ℕ
records_bytes [] = []
records_bytes (l ∷ ls) = record_bytes l ++ records_bytes ls

-- the file of these labels
unfoldable pub sheet_file : List Label → List ℕ
sheet_file ls = header ++ records_bytes ls

-- a file can hold these labels: a text length has 16 bits, an indices length 32
unfoldable pub fits_file : List Label → Bool
fits_file [] = true
fits_file (l ∷ ls) = ltb (length l.text) 65536 && ltb (length l.indices) 4294967296 && fits_file ls

-- ── the answers ──

-- texts and indices are bytes, as those of C are
unfoldable pub of_bytes : List Label → Bool
of_bytes [] = true
of_bytes (l ∷ ls) = all_bytes l.text && all_bytes l.indices && of_bytes ls

-- a file can hold these labels, and an answer list that held `old` their answers, two numbers each; a number is 4 bytes
abbrev pub Held : List Label → List ℕ → Type 0
Held ls old = (fits_file ls ≡ true) × (2 * length ls ≤ list_room old)

-- the file is that of these labels, which fit it, and of no others: the bytes of exactly one list of labels
pub record OneList (file : List ℕ) (ls : List Label) : Type 0 where
  pub fits : fits_file ls ≡ true
  pub is : sheet_file ls ≡ file
  pub only : (ms : List Label) → sheet_file ms ≡ file → ms ≡ ls

-- the answer list that held `old`, after the call on the file of these labels
abbrev pub answered : List Label → List ℕ → List ℕ
answered ls old = numbers_after (sheet_into (list_room old) (sheet_file ls)) old

-- the two numbers of label k in an answer list
abbrev pub answer_at : ℕ → List ℕ → List ℤ
answer_at k list = words (take 8 (drop (8 * k) list))

-- "large buffers" for a single reading of a label: 16 to 18 don't hold
abbrev pub Large : Label → Counts → Type 0
Large l room = (r : Run) → read l.text l.indices ≡ ok r → Roomy r room

-- CR 3, sentence by sentence
pub record Answering : Type 0 where
  -- the file of every list of labels that fits the format is read as that list
  pub back : (ls : List Label) → fits_file ls ≡ true → labels_of (sheet_file ls) ≡ ok ls
  -- it is bytes: each length has the bytes that the format gives it
  pub made : (ls : List Label) → fits_file ls ≡ true → of_bytes ls ≡ true → all_bytes (sheet_file ls) ≡ true
  -- every file that is read as a list of labels is the file of that list, and of no other; so is every file that the call accepts
  pub one_list : (file : List ℕ) (ls : List Label) → all_bytes file ≡ true → labels_of file ≡ ok ls → OneList file ls
  pub accepts : (room : ℕ) (file : List ℕ) (list : List ℤ) → all_bytes file ≡ true
      → (sheet_into room file ≡ ok list) ↔ ((ls : List Label) × OneList file ls × (2 * length ls ≤ room) × (list ≡ answers ls))
  -- "They equal those of single readings with large buffers, for every list of labels in such a file, at every position", whatever the list held before
  pub single : (xs ys : List Label) (l : Label) (old : List ℕ) (room : Counts) → Held (xs ++ (l ∷ ys)) old → Large l room
      → answer_at (length xs) (answered (xs ++ (l ∷ ys)) old) ≡ answer_of (read_into room l.text l.indices)
  -- "A refused label changes no other's answer": one label in place of another, or two that change places, refused or not, leave all other answers
  pub replaced : (xs ys : List Label) (l m : Label) (old : List ℕ) (k : ℕ) → Held (xs ++ (l ∷ ys)) old → Held (xs ++ (m ∷ ys)) old → (k ≡ length xs → ⊥)
      → answer_at k (answered (xs ++ (l ∷ ys)) old) ≡ answer_at k (answered (xs ++ (m ∷ ys)) old)
  pub swapped : (xs ys zs : List Label) (l m : Label) (old : List ℕ) (k : ℕ) → Held (xs ++ (l ∷ (ys ++ (m ∷ zs)))) old
      → (k ≡ length xs → ⊥) → (k ≡ length xs + suc (length ys) → ⊥)
      → answer_at k (answered (xs ++ (l ∷ (ys ++ (m ∷ zs)))) old) ≡ answer_at k (answered (xs ++ (m ∷ (ys ++ (l ∷ zs)))) old)
  -- buffers of 4,096 units, 4,096 clusters and 4,096 glyphs are large for every label
  pub large : (l : Label) → Large l (record { units = max_units; clusters = max_glyphs; glyphs = max_glyphs })
  -- "0 and 0 when accepted", and only then; else "number and place" of the refusal, which is one of 1 to 15
  pub accepted : (l : Label) → (answer l ≡ (pos 0 ∷ pos 0 ∷ [])) ↔ ((r : Run) × (read l.text l.indices ≡ ok r))
  pub refused : (l : Label) (n p : ℕ) → read l.text l.indices ≡ no n p → (answer l ≡ (pos n ∷ pos p ∷ [])) × (1 ≤ n) × (n ≤ 15)
  -- "25: mark or version wrong or cut off; 26: file ends inside a record, place the record; 27: answer list too short, place the labels in the file; in this
  -- order": given exactly when its cause holds and no earlier one does
  pub fixed : (room : ℕ) (file : List ℕ) (n p : ℕ) → (sheet_into room file ≡ no n p) ↔ GivenBy (sheet_checks room file) n p
  -- "a call that fills a lent list or buffer returns how many places it filled": two for each label
  pub count : (room : ℕ) (file : List ℕ) (list : List ℤ) → sheet_into room file ≡ ok list
      → (ls : List Label) × (labels_of file ≡ ok ls) × (filled_count (sheet_into room file) ≡ ok (2 * length ls))
  -- "and places behind them stay"; every refusal changes no lent place
  pub memory : (file old : List ℕ)
      → Kept (sheet_checks (list_room old) file) (answers (file_labels file)) (λ zs. from_words zs ∷ []) (sheet_into (list_room old) file) (old ∷ [])
      (numbers_after (sheet_into (list_room old) file) old ∷ [])
