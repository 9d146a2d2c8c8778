-- The records of a sheet's file as the code meets them, from the front of what is left.
-- Assumes nothing.
use Rattle.std.specs.Prelude.{ℕ, ◌+◌, ◌*◌, ◌≡◌, ◌≤◌, ◌<◌, true, false, List, ℤ, length, drop, Option, Some, None, Result, Ok, Err}
use Rattle.label.specs.Outcome.{Outcome, ok, ◌>>=◌}
use Rattle.label.specs.Bytes.{begins}
use Rattle.label.specs.Calls.{refusal}
use Rattle.label.specs.Write as write
use Rattle.label.specs.Requests.Sheet.{header, record_length, is_record, record_label, answers}
use Rattle.label.specs.Steps.{labels_from}
use Rattle.label.specs.declared.Cause.TheVariants.{BadSheetMark}
use Rattle.label.specs.declared.Refusal.{Refusal}
use Rattle.label.specs.declared.Label.{Label}
use Rattle.sheet.specs.declared.Records.{Records}

-- a label where it stands in the file, as one by itself
abbrev pub label_of : Label → write.Label
label_of l = record { text = l.text.now; indices = l.indices.now }

-- bytes begin with a record: its label, and the bytes behind it
pub record IsRecord (s : List ℕ) (l : Label) (rest : List ℕ) : Type 0 where
  pub whole : is_record s ≡ true
  pub label : record_label s ≡ label_of l
  pub behind : rest ≡ drop (record_length s) s
  pub shorter : length rest + 6 ≤ length s

-- a step of the walk from s, which leaves t
abbrev pub GivesRecord : Records → Option (Option Label) → Records → Type 0
GivesRecord s None t = length s.rest.now ≡ 0
GivesRecord s (Some None) t = (0 < length s.rest.now) × (is_record s.rest.now ≡ false)
GivesRecord s (Some (Some l)) t = (0 < length s.rest.now) × IsRecord s.rest.now l t.rest.now

-- what is said of a file's front: its records stand behind the mark and the version; or they are not there
abbrev pub Opens : List ℕ → Result Records Refusal → Type 0
Opens file (Ok r) = (begins header file ≡ true) × (r.rest.now ≡ drop 5 file)
Opens file (Err x) = (begins header file ≡ false) × (x ≡ refusal BadSheetMark 0)

-- records are those of labels, whose answers have room
pub record Accepted (s : List ℕ) (room : ℕ) : Type 0 where
  pub labels : List write.Label
  pub are : labels_from 0 0 s ≡ ok labels
  pub room_for : 2 * length labels ≤ room

-- the answers to them
abbrev pub answers_of : List ℕ → Outcome (List ℤ)
answers_of s = labels_from 0 0 s >>= (λ ls. ok (answers ls))
