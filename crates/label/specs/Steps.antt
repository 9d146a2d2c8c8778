-- Stretches of the checks, named for inner functions: each is the checks of its stretch and what they say, or two such stretches in order (`step`). That
-- the calls are made of them is stated in Statements/Steps.antt; how each goes by steps are laws (proofs/Steps.antt).
-- Assumes nothing.
use Rattle.std.specs.Prelude.{ℕ, Bool, List}
use Rattle.label.specs.Outcome.{Outcome, ok, ◌>>=◌, ◌>>◌, verdict}
use Rattle.label.specs.Bytes.{each, pieces, each_numbered}
use Rattle.label.specs.Text.{following, char_units, said_units}
use Rattle.label.specs.Entry.{Entry, entry_of}
use Rattle.label.specs.Run.{Run, Parts, State, walk_parts, said_parts, run_with}
use Rattle.label.specs.Write.{Label}
use Rattle.label.specs.Requests.Attribute.{further, raw_check, raw_bytes}
use Rattle.label.specs.Requests.Sheet.{record_more, record_check, record_labels}
use Rattle.label.specs.Checks.{char_checks, text_checks, entry_checks, place_checks, walk_checks, run_checks}

-- 2 and 3 of the characters from byte `at` on, the first `skip` bytes being of one before; and their units
unfoldable pub decode : ℕ → ℕ → List ℕ → Outcome (List ℕ)
decode skip at s = verdict (each char_checks (pieces following skip at s)) >> ok (each char_units (pieces following skip at s))

-- 2 to 5 of a text; and its units
unfoldable pub text_units : List ℕ → Outcome (List ℕ)
text_units text = verdict (text_checks text) >> ok (said_units text)

-- 7, 8, 9 of entry number k; and what it says
unfoldable pub entry : ℕ → List ℕ → Outcome Entry
entry k s = verdict (entry_checks k s) >> ok (entry_of s)

-- 10 to 13 of what an entry says
unfoldable pub placed : Bool → State → Entry → Outcome Entry
placed bare st e = verdict (place_checks bare st e) >> ok e

-- 7 to 13 of an entry
unfoldable pub step : Bool → State → List ℕ → Outcome Entry
step bare st s = entry st.k s >>= (λ e. placed bare st e)

-- 7 to 14 of the entries; and their clusters and glyphs
unfoldable pub walk : Bool → State → List (List ℕ) → Outcome Parts
walk bare st ss = verdict (walk_checks bare st ss) >> ok (walk_parts bare st ss)

-- 6 to 15 of indices, with these units; and the run
unfoldable pub run_from : List ℕ → List ℕ → Outcome Run
run_from us indices = verdict (run_checks us indices) >> ok (run_with us (said_parts us indices))

-- document 02, CR 2: 23 of a raw value from byte `at` on, the first `skip` bytes being of what stands before; and what comes out
unfoldable pub resolve_from : ℕ → ℕ → List ℕ → Outcome (List ℕ)
resolve_from skip at raw = verdict (each raw_check (pieces further skip at raw)) >> ok (each raw_bytes (pieces further skip at raw))

-- a whole raw value, without 24
abbrev pub resolve : List ℕ → Outcome (List ℕ)
resolve raw = resolve_from 0 0 raw

-- document 02, CR 3: 26 of records, the first with number k, the first `skip` bytes being of a record before; and their labels
unfoldable pub labels_from : ℕ → ℕ → List ℕ → Outcome (List Label)
labels_from skip k s = verdict (each_numbered record_check k (pieces record_more skip 0 s)) >> ok (each record_labels (pieces record_more skip 0 s))
