-- Document 02, CR 2: what resolving and escaping promise, stated on the definitions that the contracts of the calls cite: a record whose fields are its
-- sentences. proofs/Statements/Attribute.antt has a value of it. Demand 3, in Demands.antt, "is of the writing unasked, read without resolving": it speaks of
-- `write_into`, the writer that is not asked, and of `read`.
-- Assumes nothing.
use Rattle.std.specs.Prelude.{ℕ, ◌*◌, ◌≤◌, ◌≡◌, ◌↔◌, Bool, cond, false, true, ◌||◌, List, [], ◌++◌, ◌∷◌, eqb, length, take}
use Rattle.label.specs.Limits.{max_indices_bytes, max_units}
use Rattle.label.specs.Outcome.{Outcome, ok, no, ◌>>=◌, ◌>>◌, Check, verdict}
use Rattle.label.specs.Statements.Memory.{GivenBy}
use Rattle.label.specs.Bytes.{cut, digits, value}
use Rattle.label.specs.Run.{Run, said_run}
use Rattle.label.specs.Checks.{label_checks, read}
use Rattle.label.specs.Steps.{resolve}
use Rattle.label.specs.Places.{Places, places_of, Readable}
use Rattle.label.specs.Write.{indices_of, Label, normal}
use Rattle.label.specs.Statements.Memory.{Kept}
use Rattle.label.specs.Calls.{said_label, filled_count, filled_after, room_of, read_into, asked_for, write_checks, write_asked, outputs, text_after, indices_after}
use Rattle.label.specs.Requests.Attribute.{raw_gives, numbered, escape, resolve_checks, resolve_into}
use Rattle.label.specs.Statements.Demands.{stored_label, outputs_after, Roomy, RoomyFor, in_bytes, Wrote}
use Rattle.label.specs.declared.Cluster.{Cluster}
use Rattle.label.specs.declared.Glyph.{Glyph}
use Rattle.label.specs.declared.Lengths.{Lengths}

-- a raw text and raw indices, each resolved into a buffer of so many bytes, "text before indices [...], and the reading is of what comes out"; 23 and 24 of
-- each, "both before 1"
unfoldable pub raw_label_checks : Lengths → List ℕ → List ℕ → List Check
raw_label_checks room text indices = resolve_checks room.text text ++ (resolve_checks room.indices indices ++ label_checks (raw_gives text) (raw_gives indices))

-- what such a reading comes to
unfoldable pub read_raw : Lengths → List ℕ → List ℕ → Outcome Run
read_raw room text indices = verdict (raw_label_checks room text indices) >> ok (said_run (raw_gives text) (raw_gives indices))

-- the bytes that came out of s, n of them, in a buffer that held `old`
abbrev pub came_out : ℕ → List ℕ → List ℕ → List ℕ
came_out n s old = take n (filled_after (resolve_into (length old) s) old)

-- the escaped text of the run r, with outcome w of its writing, in the outputs
abbrev pub escaped_text : Run → Outcome Label → List ℕ → List ℕ
escaped_text r w tx = take (length (escape (normal r).text)) (text_after w tx)

-- and its escaped indices
abbrev pub escaped_indices : Run → Outcome Label → List ℕ → List ℕ
escaped_indices r w ix = take (length (escape (normal r).indices)) (indices_after w ix)

-- the run r was written escaped into the outputs, with outcome w, both were resolved into buffers, and what came out was read
pub record Restored (r : Run) (w : Outcome Label) (reads : List ℕ → List ℕ → Outcome Run) (tx ix bt bi : List ℕ) : Type 0 where
  pub wrote : Wrote (asked_for true (normal r)) w tx ix
  pub text : filled_count (resolve_into (length bt) (escaped_text r w tx)) ≡ ok (length (normal r).text)
  pub indices : filled_count (resolve_into (length bi) (escaped_indices r w ix)) ≡ ok (length (normal r).indices)
  pub back : reads (came_out (length (normal r).text) (escaped_text r w tx) bt) (came_out (length (normal r).indices) (escaped_indices r w ix) bi) ≡ ok r

-- the bytes that an attribute between double quotes holds only as references, but for `&`
abbrev pub is_markup : ℕ → Bool
is_markup b = eqb b 60 || eqb b 34 || eqb b 9 || eqb b 10 || eqb b 13

-- CR 2, sentence by sentence
pub record Restoring : Type 0 where
  -- "resolving restores the bytes": of every list of bytes, not only of a writing; into any buffer with room for them
  pub restores : (s : List ℕ) → resolve (escape s) ≡ ok s
  pub restores_into : (s : List ℕ) (room : ℕ) → length s ≤ room → resolve_into room (escape s) ≡ ok s
  -- "the escaped one is resolved first": then it is read as the run from which it was written
  pub back : (t i : List ℕ) (r : Run) (room : Lengths) → read t i ≡ ok r → RoomyFor (normal r) room
      → read_raw room (escape (normal r).text) (escape (normal r).indices) ≡ ok r
  -- the same over the calls, whatever the buffers held, all large enough
  pub passed : (t i : List ℕ) (r : Run) (tx ix bt bi us cs gs : List ℕ) → read t i ≡ ok r → RoomyFor (asked_for true (normal r)) (outputs tx ix)
      → RoomyFor (normal r) (outputs bt bi) → Roomy r (room_of us cs gs)
      → Restored r (write_asked true (outputs tx ix) (places_of r)) (λ x y. read_into (room_of us cs gs) x y) tx ix bt bi
  -- what is escaped can stand between double quotes: no such byte is found in it
  pub no_markup : (s : List ℕ) → (cut is_markup (escape s)).found ≡ false
  -- "A caller may ask the writer to escape": asked or not, a run handed in is written exactly when some label reads as it and the outputs have room, and
  -- then in its normal writing, escaped where that is asked
  pub written : (asked : Bool) (z : Places) (room : Lengths) → in_bytes z ≡ true
      → ((l : Label) × (write_asked asked room z ≡ ok l)) ↔ ((w : Readable z) × RoomyFor (asked_for asked (normal w.run)) room)
  pub written_as : (asked : Bool) (z : Places) (l : Label) (room : Lengths) (w : Readable z) → write_asked asked room z ≡ ok l
      → l ≡ asked_for asked (normal w.run)
  -- "23: bad reference or raw `<`, place the first byte of the first; 24: lent buffer too short, place the bytes needed": given exactly when its cause holds
  -- and no earlier one does
  pub fixed : (room : ℕ) (raw : List ℕ) (n p : ℕ) → (resolve_into room raw ≡ no n p) ↔ GivenBy (resolve_checks room raw) n p
  -- "text before indices [...], and the reading is of what comes out"
  pub raw_is : (room : Lengths) (text indices : List ℕ)
      → read_raw room text indices ≡ (resolve_into room.text text >>= (λ t. resolve_into room.indices indices >>= (λ i. read t i)))
  pub raw_fixed : (room : Lengths) (text indices : List ℕ) (n p : ℕ) → (read_raw room text indices ≡ no n p) ↔ GivenBy (raw_label_checks room text indices) n p
  -- so are 19, 20 and 21 of the writer, asked or not
  pub writer_fixed : (asked : Bool) (room : Lengths) (z : Places) (n p : ℕ) → (write_asked asked room z ≡ no n p) ↔ GivenBy (write_checks asked room z) n p
  -- "a call that fills a lent list or buffer returns how many places it filled"
  pub count : (room : ℕ) (raw s : List ℕ) → resolve_into room raw ≡ ok s → filled_count (resolve_into room raw) ≡ ok (length s)
  -- "and places behind them stay"; every refusal changes no lent place
  pub memory : (raw old : List ℕ)
      → Kept (resolve_checks (length old) raw) (raw_gives raw) (λ s. s ∷ [])
      (resolve_into (length old) raw) (old ∷ []) (filled_after (resolve_into (length old) raw) old ∷ [])
  pub writer_memory : (asked : Bool) (z : Places) (tx ix : List ℕ)
      → Kept (write_checks asked (outputs tx ix) z) (said_label asked z) stored_label (write_asked asked (outputs tx ix) z) (tx ∷ ix ∷ [])
      (outputs_after (write_asked asked (outputs tx ix) z) tx ix)
  -- a buffer as long as the raw value is large enough, and so are outputs of these sizes for every run escaped: `&quot;` is six bytes
  pub short : (raw s : List ℕ) → resolve raw ≡ ok s → length s ≤ length raw
  pub largest : (t i : List ℕ) (r : Run) → read t i ≡ ok r → RoomyFor (asked_for true (normal r)) (record { text = 6 * max_units; indices = max_indices_bytes })
  -- indices have none of the six bytes
  pub indices_stay : (cs : List Cluster) (gs : List Glyph) → escape (indices_of cs gs) ≡ indices_of cs gs
  -- the digits of a decimal reference are those of document 01, "read as one whole number"
  pub decimal : (s : List ℕ) → numbered 10 s ≡ cond (digits s) (value s) 0
