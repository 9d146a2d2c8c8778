-- Document 02, CR 3: what holds of every answer and of every answer list that the contract of `glyph_label_sheet` allows. proofs/Promises/Sheet.antt has a
-- value of the record.
-- Assumes nothing.
use Rattle.std.specs.Prelude.{suc, ℕ, ◌*◌, ◌+◌, ◌<◌, ◌≤◌, ◌≡◌, ◌↔◌, ◌⊎◌, true, List, [], ◌++◌, ◌∷◌, pos, length}
use Rattle.label.specs.Outcome.{ok}
use Rattle.label.specs.Run.{Run}
use Rattle.label.specs.Checks.{read}
use Rattle.label.specs.Wire.{from_words}
use Rattle.label.specs.Write.{Label}
use Rattle.label.specs.Calls.{filled, room_of}
use Rattle.label.specs.Requests.Sheet.{sheet_records, file_labels, answers, list_room, sheet_checks}
use Rattle.label.specs.Statements.Demands.{all_bytes}
use Rattle.label.specs.Statements.Sheet.{sheet_file, Held, OneList, answer_at, Large}
use Rattle.glyph_label.specs.declared.GlyphLabelReading.{GlyphLabelReading}
use Rattle.glyph_label.specs.declared.GlyphLabelFilled.{GlyphLabelFilled}
use Rattle.glyph_label.specs.Promises.Memory.{Fills}
use Rattle.glyph_label.specs.CallContracts.{ReadCall, SheetCall}

-- CR 3 of the call, sentence by sentence
pub record SheetPromises : Type 0 where
  -- "The lent answer list gets two numbers a label": none of 25, 26 and 27 holds and it begins with them, counted, or it is what it was
  pub fills : (file old : List ℕ) (a : GlyphLabelFilled) (new : List ℕ) → SheetCall file old a new
      → Fills (sheet_checks (list_room old) file) (2 * length (file_labels file)) (from_words (answers (file_labels file))) old a new
  -- "(25: mark or version wrong or cut off; 26: file ends inside a record, place the record; 27: answer list too short, place the labels in the file; in this
  -- order.)": no other refusal
  pub numbers : (file old : List ℕ) (a : GlyphLabelFilled) (new : List ℕ) → SheetCall file old a new → (a.number ≡ 0 → ⊥)
      → ((a.number ≡ 25) × (a.place ≡ 0))
      ⊎ ((a.number ≡ 26) × (a.place < length (sheet_records file)))
      ⊎ ((a.number ≡ 27) × (a.place ≡ length (file_labels file)) × (list_room old < 2 * a.place))
  -- "for every list of labels in such a file": number 0 exactly when the file is that of one list of labels and the answer list has two places a label; then
  -- it begins with their answers
  pub accepts : (file old : List ℕ) (a : GlyphLabelFilled) (new : List ℕ) → all_bytes file ≡ true → SheetCall file old a new
      → (a.number ≡ 0) ↔ ((ls : List Label) × OneList file ls × (2 * length ls ≤ list_room old))
  pub lists : (ls : List Label) (old : List ℕ) (a : GlyphLabelFilled) (new : List ℕ) → Held ls old → SheetCall (sheet_file ls) old a new
      → (a.number ≡ 0) × (a.filled ≡ 2 * length ls) × (new ≡ filled (from_words (answers ls)) old)
  -- "They equal those of single readings with large buffers, [...] at every position": number and place of every answer that `glyph_label_read` gives
  pub single : (xs ys : List Label) (l : Label) (old : List ℕ) (a : GlyphLabelFilled) (new us cs gs : List ℕ) (b : GlyphLabelReading) (us' cs' gs' : List ℕ)
      → Held (xs ++ (l ∷ ys)) old → Large l (room_of us cs gs) → SheetCall (sheet_file (xs ++ (l ∷ ys))) old a new
      → ReadCall l.text l.indices us cs gs b us' cs' gs'
      → answer_at (length xs) new ≡ (pos b.number ∷ pos b.place ∷ [])
  -- buffers of the largest sizes are large for every label: 4,096 units of 2 bytes, 4,096 clusters of 8 and 4,096 glyphs of 16
  pub large : (l : Label) (us cs gs : List ℕ) → 8192 ≤ length us → 32768 ≤ length cs → 65536 ≤ length gs → Large l (room_of us cs gs)
  -- "number and place, 0 and 0 when accepted", and only then
  pub accepted : (xs ys : List Label) (l : Label) (old : List ℕ) (a : GlyphLabelFilled) (new : List ℕ)
      → Held (xs ++ (l ∷ ys)) old → SheetCall (sheet_file (xs ++ (l ∷ ys))) old a new
      → (answer_at (length xs) new ≡ (pos 0 ∷ pos 0 ∷ [])) ↔ ((r : Run) × (read l.text l.indices ≡ ok r))
  -- "A refused label changes no other's answer": one label in place of another, or two that change places, refused or not, leave all other answers
  pub replaced : (xs ys : List Label) (l m : Label) (old : List ℕ) (a b : GlyphLabelFilled) (new new' : List ℕ) (k : ℕ)
      → Held (xs ++ (l ∷ ys)) old → Held (xs ++ (m ∷ ys)) old → SheetCall (sheet_file (xs ++ (l ∷ ys))) old a new
      → SheetCall (sheet_file (xs ++ (m ∷ ys))) old b new' → (k ≡ length xs → ⊥)
      → answer_at k new ≡ answer_at k new'
  pub swapped : (xs ys zs : List Label) (l m : Label) (old : List ℕ) (a b : GlyphLabelFilled) (new new' : List ℕ) (k : ℕ)
      → Held (xs ++ (l ∷ (ys ++ (m ∷ zs)))) old → SheetCall (sheet_file (xs ++ (l ∷ (ys ++ (m ∷ zs))))) old a new
      → SheetCall (sheet_file (xs ++ (m ∷ (ys ++ (l ∷ zs))))) old b new' → (k ≡ length xs → ⊥) → (k ≡ length xs + suc (length ys) → ⊥)
      → answer_at k new ≡ answer_at k new'
