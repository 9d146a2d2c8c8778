-- The three demands of the calls for C: what holds of every answer and of all buffers that the contracts of reading, writing and picking allow.
-- proofs/Promises/Demands.antt has a value of the record.
-- Assumes nothing.
use Rattle.std.specs.Prelude.{ℕ, ◌*◌, ◌<◌, ◌≤◌, ◌≡◌, ◌↔◌, ◌⊎◌, Bool, true, false, List, length, take}
use Rattle.label.specs.Outcome.{ok}
use Rattle.label.specs.Run.{Run}
use Rattle.label.specs.Checks.{read}
use Rattle.label.specs.Places.{Places, places, places_of, Readable}
use Rattle.label.specs.Sound.{run_of}
use Rattle.label.specs.Write.{Label, normal}
use Rattle.label.specs.Pick.{stretch, pick_checks, pick_units, pick_glyphs}
use Rattle.label.specs.Calls.{filled, room_of, read_checks, asked_for, outputs, write_checks}
use Rattle.label.specs.Statements.Demands.{Roomy, RoomyFor, in_bytes, unit_counts, glyph_counts, ClustersTouched}
use Rattle.label.specs.declared.Cluster.{Cluster}
use Rattle.glyph_label.specs.declared.GlyphLabelReading.{GlyphLabelReading}
use Rattle.glyph_label.specs.declared.GlyphLabelWriting.{GlyphLabelWriting}
use Rattle.glyph_label.specs.declared.GlyphLabelStretch.{GlyphLabelStretch}
use Rattle.glyph_label.specs.Answers.{stretch_answer}
use Rattle.glyph_label.specs.CallContracts.{ReadCall, WriteCall}
use Rattle.glyph_label.specs.Promises.Memory.{Fixed}

-- ── demand 1 ──

-- the reading was accepted with the run r: its counts are the answer, and the buffers hold it, complete
pub record HoldsRun (r : Run) (us cs gs : List ℕ) (a : GlyphLabelReading) (us' cs' gs' : List ℕ) : Type 0 where
  pub number : a.number ≡ 0
  pub unit_count : a.units ≡ length r.units
  pub cluster_count : a.clusters ≡ length r.clusters
  pub glyph_count : a.glyphs ≡ length r.glyphs
  pub units : us' ≡ filled (places_of r).units us
  pub clusters : cs' ≡ filled (places_of r).clusters cs
  pub glyphs : gs' ≡ filled (places_of r).glyphs gs

-- the writing was accepted and gave the label l: its lengths are the answer, and the outputs hold it, complete
pub record HoldsLabel (l : Label) (tx ix : List ℕ) (a : GlyphLabelWriting) (tx' ix' : List ℕ) : Type 0 where
  pub number : a.number ≡ 0
  pub text_length_holds : a.text ≡ length l.text
  pub indices_length_holds : a.indices ≡ length l.indices
  pub text : tx' ≡ filled l.text tx
  pub indices : ix' ≡ filled l.indices ix

-- ── demand 2 ──

-- a pick of the stretch from `first` to `end`: the clusters of a run have the counts `ns` on the side that is picked from, which has `size` places, and `to`
-- on the other
pub record Picks (ns to : List Cluster → List ℕ) (size : Run → ℕ) (z : Places) (first end : ℕ) (a : GlyphLabelStretch) : Type 0 where
  -- "Soundness (19) is tested before 22."
  pub fixed : Fixed (pick_checks z first end (size (run_of z))) a.number a.place
  -- number 0 exactly of a stretch inside a run that some label reads as
  pub accepts : in_bytes z ≡ true → (a.number ≡ 0) ↔ ((v : Readable z) × (first < end) × (end ≤ size v.run))
  -- and then the stretch of whole clusters that it touches
  pub whole : (v : Readable z) → a.number ≡ 0 → ClustersTouched (ns v.run.clusters) (to v.run.clusters) first end (stretch a.first a.end)

-- ── demand 3 ──

-- a label passed through the calls: it is read into the buffers us, cs, gs, and the bytes that the reading filled, cut at the counts that it returned, are
-- written into the outputs tx, ix
pub record Passing (t i us cs gs tx ix : List ℕ) (a : GlyphLabelReading) (us' cs' gs' : List ℕ) (w : GlyphLabelWriting) (tx' ix' : List ℕ) : Type 0 where
  pub reads : ReadCall t i us cs gs a us' cs' gs'
  pub writes : WriteCall false (places (take (2 * a.units) us') (take (8 * a.clusters) cs') (take (16 * a.glyphs) gs')) tx ix w tx' ix'

-- the label is accepted by document 01 with the run r, and all buffers are large enough
pub record Accepted (t i us cs gs tx ix : List ℕ) (r : Run) : Type 0 where
  pub is : read t i ≡ ok r
  pub buffers : Roomy r (room_of us cs gs)
  pub out : RoomyFor (normal r) (outputs tx ix)

-- a client who sends a label that is accepted with the run r, and passes it through the calls: what all buffers held before, all large enough, the two answers,
-- and what the buffers hold afterwards
pub record Client (r : Run) : Type 0 where
  pub text : List ℕ
  pub indices : List ℕ
  pub us : List ℕ
  pub cs : List ℕ
  pub gs : List ℕ
  pub tx : List ℕ
  pub ix : List ℕ
  pub reading : GlyphLabelReading
  pub us' : List ℕ
  pub cs' : List ℕ
  pub gs' : List ℕ
  pub writing : GlyphLabelWriting
  pub tx' : List ℕ
  pub ix' : List ℕ
  pub accepted : Accepted text indices us cs gs tx ix r
  pub passing : Passing text indices us cs gs tx ix reading us' cs' gs' writing tx' ix'

-- the text bytes that the writer gives a client: what the output holds, cut at the length that was returned
abbrev pub text_given : {r : Run} → Client r → List ℕ
text_given c = take c.writing.text c.tx'

-- and the indices bytes
abbrev pub indices_given : {r : Run} → Client r → List ℕ
indices_given c = take c.writing.indices c.ix'

-- both calls accept, the buffers hold the run, complete, and the outputs begin with its normal writing
pub record WroteNormal (r : Run) (c : Client r) : Type 0 where
  pub run : HoldsRun r c.us c.cs c.gs c.reading c.us' c.cs' c.gs'
  pub number : c.writing.number ≡ 0
  pub text : text_given c ≡ (normal r).text
  pub indices : indices_given c ≡ (normal r).indices

-- the three demands, sentence by sentence
pub record DemandPromises : Type 0 where
  -- "The lent memory holds, after a reading, either the complete run of the label or exactly what it held before"
  pub read_memory : (t i us cs gs : List ℕ) (a : GlyphLabelReading) (us' cs' gs' : List ℕ) → ReadCall t i us cs gs a us' cs' gs'
      → ((r : Run) × (read t i ≡ ok r) × Roomy r (room_of us cs gs) × HoldsRun r us cs gs a us' cs' gs')
      ⊎ ((a.number ≡ 0 → ⊥) × (us' ≡ us) × (cs' ≡ cs) × (gs' ≡ gs))
  -- "A refusal is a number and a place fixed by document 01"
  pub read_fixed : (t i us cs gs : List ℕ) (a : GlyphLabelReading) (us' cs' gs' : List ℕ) → ReadCall t i us cs gs a us' cs' gs'
      → Fixed (read_checks (room_of us cs gs) t i) a.number a.place
  -- "The same holds for the writer's buffers, and for any run handed to it, sound or not"; asked to escape or not
  pub write_memory : (asked : Bool) (z : Places) (tx ix : List ℕ) (a : GlyphLabelWriting) (tx' ix' : List ℕ) → in_bytes z ≡ true
      → WriteCall asked z tx ix a tx' ix'
      → ((v : Readable z) × RoomyFor (asked_for asked (normal v.run)) (outputs tx ix) × HoldsLabel (asked_for asked (normal v.run)) tx ix a tx' ix')
      ⊎ ((a.number ≡ 0 → ⊥) × (tx' ≡ tx) × (ix' ≡ ix))
  pub write_fixed : (asked : Bool) (z : Places) (tx ix : List ℕ) (a : GlyphLabelWriting) (tx' ix' : List ℕ) → WriteCall asked z tx ix a tx' ix'
      → Fixed (write_checks asked (outputs tx ix) z) a.number a.place
  -- "what conforms is accepted with that run, all else is refused": number 0 exactly when document 01 accepts the label and the buffers are large enough; so
  -- "it accepts no label that document 01 doesn't"
  pub read_accepts : (t i us cs gs : List ℕ) (a : GlyphLabelReading) (us' cs' gs' : List ℕ) → ReadCall t i us cs gs a us' cs' gs'
      → (a.number ≡ 0) ↔ ((r : Run) × (read t i ≡ ok r) × Roomy r (room_of us cs gs))
  -- "whatever run comes to the writer from any other hand is written exactly when some label that document 01 accepts reads as it", the outputs being large
  -- enough
  pub write_accepts : (asked : Bool) (z : Places) (tx ix : List ℕ) (a : GlyphLabelWriting) (tx' ix' : List ℕ) → in_bytes z ≡ true
      → WriteCall asked z tx ix a tx' ix' → (a.number ≡ 0) ↔ ((v : Readable z) × RoomyFor (asked_for asked (normal v.run)) (outputs tx ix))
  -- "a pick from glyphs to code units, or back, gives whole clusters"
  pub units_of_holds : (z : Places) (first end : ℕ) (a : GlyphLabelStretch) → a ≡ stretch_answer (pick_units z first end)
      → Picks glyph_counts unit_counts (λ (r : Run). length r.glyphs) z first end a
  pub glyphs_of_holds : (z : Places) (first end : ℕ) (a : GlyphLabelStretch) → a ≡ stretch_answer (pick_glyphs z first end)
      → Picks unit_counts glyph_counts (λ (r : Run). length r.units) z first end a
  -- "For every two labels that document 01 accepts, whatever the lent buffers, all large enough, held before, the reader accepts both, with the runs defined
  -- there"; "For each of the two runs, equal or not, these bytes are the normal writing of document 01."
  pub passed : (r : Run) (c : Client r) → WroteNormal r c
  -- "The runs are equal exactly when the writer gives both the same text bytes and the same indices bytes."
  pub same : (A B : Run) (x : Client A) (y : Client B) → (A ≡ B) ↔ ((text_given x ≡ text_given y) × (indices_given x ≡ indices_given y))
  -- "They are accepted, read back to the run they were written from"
  pub back : (r : Run) (c : Client r) → read (text_given c) (indices_given c) ≡ ok r
  -- "and are written back unchanged": to every client who sends what the writer gave
  pub again : (r : Run) (c d : Client r) → d.text ≡ text_given c → d.indices ≡ indices_given c
      → (text_given d ≡ text_given c) × (indices_given d ≡ indices_given c)
