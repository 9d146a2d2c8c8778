-- The calls with their lent buffers: 16 to 18, 20 and 21, the list of records; what each buffer holds afterwards; and for the answers of a
-- call the papers' number, place and values of each of their cases.
-- Assumes nothing.
use Rattle.std.specs.Prelude.{ℕ, ◌/◌, Bool, false, List, [], ◌++◌, ◌∷◌, ℤ, drop, length, Result, Ok, Err}
use Rattle.label.specs.Cause.{cause_number}
use Rattle.label.specs.Outcome.{Outcome, ok, no, ◌>>◌, Check, check, above, verdict}
use Rattle.label.specs.Run.{Run, said_run}
use Rattle.label.specs.Checks.{label_checks}
use Rattle.label.specs.Wire.{from_words}
use Rattle.label.specs.Places.{Places, places_of}
use Rattle.label.specs.Sound.{run_of}
use Rattle.label.specs.Pick.{sound_checks}
use Rattle.label.specs.Write.{Label, normal}
use Rattle.label.specs.Requests.Attribute.{as_asked}
use Rattle.label.specs.declared.Cause.{Cause}
use Rattle.label.specs.declared.Counts.{Counts}
use Rattle.label.specs.declared.Glyph.{Glyph}
use Rattle.label.specs.declared.Lengths.{Lengths}
use Rattle.label.specs.declared.Reading.{Reading}
use Rattle.label.specs.declared.Refusal.{Refusal}

-- ── answers ──

-- a refusal: a cause of the tables and its "Returned place"
abbrev pub refusal : Cause → ℕ → Refusal
refusal c p = record { cause = c; place = p }

-- "If an answer is an enum, a definition gives this paper's number and values for every case of the enum": of every call that gives a value or a refusal
abbrev pub outcome_of : {A : Type 0} → Result A Refusal → Outcome A
outcome_of (Ok a) = ok a
outcome_of (Err x) = no (cause_number x.cause) x.place

-- of a reading
abbrev pub reading_outcome : Result Reading Refusal → Outcome Counts
reading_outcome (Ok r) = ok r.counts
reading_outcome (Err x) = no (cause_number x.cause) x.place

-- document 02, CR 1: the count of rounded fields for every case of the answer, "a refusal as 0"
abbrev pub reading_rounded : Result Reading Refusal → ℕ
reading_rounded (Ok r) = r.rounded
reading_rounded (Err x) = 0

-- ── buffers ──

-- a buffer that was filled from its start: "Places behind the run stay"
abbrev pub filled : {A : Type 0} → List A → List A → List A
filled vs old = vs ++ drop (length vs) old

-- a buffer after a call that fills it with what the value gives; "every refusal, later numbers included, changes no lent place"
abbrev pub buffer_after : {A B : Type 0} → (A → List B) → Outcome A → List B → List B
buffer_after f (ok a) old = filled (f a) old
buffer_after f (no n p) old = old

-- document 02: "a call that fills a lent list or buffer returns how many places it filled"
abbrev pub filled_count : {A : Type 0} → Outcome (List A) → Outcome ℕ
filled_count (ok vs) = ok (length vs)
filled_count (no n p) = no n p

-- "and places behind them stay": such a list or buffer afterwards
abbrev pub filled_after : {A : Type 0} → Outcome (List A) → List A → List A
filled_after {A} o old = buffer_after (λ (vs : List A). vs) o old

-- document 02: "From C, numbers in this and later lists are a run's 4 bytes": the bytes of a list of numbers after a call that fills it; bytes left over
-- stay
abbrev pub numbers_after : Outcome (List ℤ) → List ℕ → List ℕ
numbers_after o old = buffer_after from_words o old

-- ── the reader ──

-- the room of three buffers: a unit is 2 bytes, a cluster 8 and a glyph 16; "left-over bytes of an output hold no place"
abbrev pub room_of : List ℕ → List ℕ → List ℕ → Counts
room_of us cs gs = record { units = length us / 2; clusters = length cs / 8; glyphs = length gs / 16 }

-- "unit, cluster, glyph buffer too short" (16, 17, 18): buffers of this room
abbrev pub buffer_checks : Counts → Run → List Check
buffer_checks room r =
    check (above (length r.units) room.units) 16 (length r.units) ∷
    check (above (length r.clusters) room.clusters) 17 (length r.clusters) ∷
    check (above (length r.glyphs) room.glyphs) 18 (length r.glyphs) ∷
    []

-- 1 to 18
unfoldable pub read_checks : Counts → List ℕ → List ℕ → List Check
read_checks room text indices = label_checks text indices ++ buffer_checks room (said_run text indices)

-- the reading into buffers of this room
unfoldable pub read_into : Counts → List ℕ → List ℕ → Outcome Run
read_into room text indices = verdict (read_checks room text indices) >> ok (said_run text indices)

-- what the reader returns of a run: how many units, clusters and glyphs it has
abbrev pub counts : Run → Counts
counts r = record { units = length r.units; clusters = length r.clusters; glyphs = length r.glyphs }

-- the answer of a reading: the counts, or the refusal
abbrev pub counted : Outcome Run → Outcome Counts
counted (ok r) = ok (counts r)
counted (no n p) = no n p

-- the unit buffer after a reading: "Places behind the run stay", and bytes left over do too
abbrev pub units_after : Outcome Run → List ℕ → List ℕ
units_after o old = buffer_after (λ (r : Run). (places_of r).units) o old

-- the cluster buffer
abbrev pub clusters_after : Outcome Run → List ℕ → List ℕ
clusters_after o old = buffer_after (λ (r : Run). (places_of r).clusters) o old

-- the glyph buffer
abbrev pub glyphs_after : Outcome Run → List ℕ → List ℕ
glyphs_after o old = buffer_after (λ (r : Run). (places_of r).glyphs) o old

-- ── the writer ──

-- a label as the caller asks for it: document 02, CR 2, "A caller may ask the writer to escape"
abbrev pub asked_for : Bool → Label → Label
asked_for asked l = record { text = as_asked asked l.text; indices = as_asked asked l.indices }

-- what the writer gives of a sound run
abbrev pub said_label : Bool → Places → Label
said_label asked p = asked_for asked (normal (run_of p))

-- "text, indices output too short" (20, 21): outputs of so many bytes; what is escaped is "counted in 20 and 21"
abbrev pub output_checks : Lengths → Label → List Check
output_checks room l =
    check (above (length l.text) room.text) 20 (length l.text) ∷
    check (above (length l.indices) room.indices) 21 (length l.indices) ∷
    []

-- "The writer tests 19, 20, 21."
unfoldable pub write_checks : Bool → Lengths → Places → List Check
write_checks asked room p = sound_checks p ++ output_checks room (said_label asked p)

-- the writer, asked to escape or not
unfoldable pub write_asked : Bool → Lengths → Places → Outcome Label
write_asked asked room p = verdict (write_checks asked room p) >> ok (said_label asked p)

-- the writer of document 01 is not asked
abbrev pub write_into : Lengths → Places → Outcome Label
write_into room p = write_asked false room p

-- the room of two outputs, in bytes
abbrev pub outputs : List ℕ → List ℕ → Lengths
outputs tx ix = record { text = length tx; indices = length ix }

-- what the writer returns of a label: how many bytes each output got
abbrev pub lengths_of : Label → Lengths
lengths_of l = record { text = length l.text; indices = length l.indices }

-- the answer of a writing: the lengths, or the refusal
abbrev pub lengths : Outcome Label → Outcome Lengths
lengths (ok l) = ok (lengths_of l)
lengths (no n p) = no n p

-- the text output after a writing: "Bytes behind either output stay."
abbrev pub text_after : Outcome Label → List ℕ → List ℕ
text_after o old = buffer_after (λ (l : Label). l.text) o old

-- the indices output
abbrev pub indices_after : Outcome Label → List ℕ → List ℕ
indices_after o old = buffer_after (λ (l : Label). l.indices) o old

-- ── the list of glyph records ──

-- "from a sound run (else 19; 18 where the list is too short; records behind stay)": a list of `room` records
unfoldable pub list_checks : ℕ → Places → List Check
list_checks room p = sound_checks p ++ (check (above (length (run_of p).glyphs) room) 18 (length (run_of p).glyphs) ∷ [])

-- "filled by one thin call"
unfoldable pub list_into : ℕ → Places → Outcome (List Glyph)
list_into room p = verdict (list_checks room p) >> ok (run_of p).glyphs
