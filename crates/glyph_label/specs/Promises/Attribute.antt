-- Document 02, CR 2: what holds of every answer and of all buffers that the contracts of `glyph_label_resolve` and `glyph_label_write_escaped` allow.
-- proofs/Promises/Attribute.antt has a value of the record. What the writer, asked to escape, stores and refuses is in Demands.antt.
-- Assumes nothing.
use Rattle.std.specs.Prelude.{ℕ, ◌<◌, ◌≤◌, ◌≡◌, ◌⊎◌, true, List, length, take}
use Rattle.label.specs.Places.{Places, Readable}
use Rattle.label.specs.Write.{normal}
use Rattle.label.specs.Calls.{filled, room_of, asked_for, outputs}
use Rattle.label.specs.Requests.Attribute.{raw_gives, escape, resolve_checks}
use Rattle.label.specs.Statements.Demands.{Roomy, RoomyFor}
use Rattle.glyph_label.specs.declared.GlyphLabelReading.{GlyphLabelReading}
use Rattle.glyph_label.specs.declared.GlyphLabelWriting.{GlyphLabelWriting}
use Rattle.glyph_label.specs.declared.GlyphLabelFilled.{GlyphLabelFilled}
use Rattle.glyph_label.specs.Promises.Memory.{Fills}
use Rattle.glyph_label.specs.Promises.Demands.{HoldsRun}
use Rattle.glyph_label.specs.CallContracts.{ReadCall, WriteCall, ResolveCall}

-- a raw text t and raw indices i through the calls, with all answers and what the buffers hold afterwards: each is resolved, into bt and bi, and the bytes
-- that came out, cut at the counts that were returned, are read into us, cs, gs
pub record RawReading (t i bt bi us cs gs : List ℕ) : Type 0 where
  pub of_text_holds : GlyphLabelFilled
  pub of_indices : GlyphLabelFilled
  pub text : List ℕ
  pub indices : List ℕ
  pub answer : GlyphLabelReading
  pub units : List ℕ
  pub clusters : List ℕ
  pub glyphs : List ℕ
  pub resolves_text : ResolveCall t bt of_text_holds text
  pub resolves_indices : ResolveCall i bi of_indices indices
  pub reads : ReadCall (take of_text_holds.filled text) (take of_indices.filled indices) us cs gs answer units clusters glyphs

-- a run handed in, written escaped into tx and ix; what was written, cut at the lengths that were returned, is then a raw text and raw indices
pub record EscapedReading (z : Places) (tx ix bt bi us cs gs : List ℕ) : Type 0 where
  pub written : GlyphLabelWriting
  pub text : List ℕ
  pub indices : List ℕ
  pub writes : WriteCall true z tx ix written text indices
  pub raw : RawReading (take written.text text) (take written.indices indices) bt bi us cs gs

-- CR 2 of the calls, sentence by sentence
pub record AttributePromises : Type 0 where
  -- "resolves [...] into a lent buffer": neither 23 nor 24 holds and the buffer begins with all that comes out, its bytes counted, or it is what it was
  pub resolves : (raw old : List ℕ) (a : GlyphLabelFilled) (new : List ℕ) → ResolveCall raw old a new
      → Fills (resolve_checks (length old) raw) (length (raw_gives raw)) (raw_gives raw) old a new
  -- "(23: bad reference or raw `<`, place the first byte of the first; 24: lent buffer too short, place the bytes needed [...])": no other refusal, 23 at a
  -- byte of the raw value
  pub numbers : (raw old : List ℕ) (a : GlyphLabelFilled) (new : List ℕ) → ResolveCall raw old a new → (a.number ≡ 0 → ⊥)
      → ((a.number ≡ 23) × (a.place < length raw)) ⊎ ((a.number ≡ 24) × (a.place ≡ length (raw_gives raw)) × (length old < a.place))
  -- "and the reading is of what comes out"
  pub reads : (t i bt bi us cs gs : List ℕ) (c : RawReading t i bt bi us cs gs) → c.of_text_holds.number ≡ 0 → c.of_indices.number ≡ 0
      → ReadCall (raw_gives t) (raw_gives i) us cs gs c.answer c.units c.clusters c.glyphs
  -- "resolving restores the bytes": of all bytes that were escaped, into every buffer with room for them
  pub restores : (s old : List ℕ) (a : GlyphLabelFilled) (new : List ℕ) → length s ≤ length old → ResolveCall (escape s) old a new
      → (a.number ≡ 0) × (a.filled ≡ length s) × (new ≡ filled s old)
  -- "the escaped one is resolved first": of every run that some label reads as, whatever the outputs and buffers held, all large enough: every call accepts,
  -- and the buffers hold the run that was handed in
  pub restored : (z : Places) (v : Readable z) (tx ix bt bi us cs gs : List ℕ) (c : EscapedReading z tx ix bt bi us cs gs)
      → RoomyFor (asked_for true (normal v.run)) (outputs tx ix) → RoomyFor (normal v.run) (outputs bt bi) → Roomy v.run (room_of us cs gs)
      → (c.written.number ≡ 0) × (c.raw.of_text_holds.number ≡ 0) × (c.raw.of_indices.number ≡ 0)
      × HoldsRun v.run us cs gs c.raw.answer c.raw.units c.raw.clusters c.raw.glyphs
