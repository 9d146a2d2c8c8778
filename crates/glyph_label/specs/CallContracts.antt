-- What the contracts of the calls for C say: the answer, and what every lent buffer holds afterwards, each by an equation. The picks, showing a fault and the
-- version fill nothing; their one equation stands at the function.
-- Assumes nothing.
use Rattle.std.specs.Prelude.{ℕ, ◌≡◌, Bool, List, length}
use Rattle.label.specs.Outcome.{Outcome}
use Rattle.label.specs.Wire.{from_words}
use Rattle.label.specs.Places.{Places}
use Rattle.label.specs.Calls.{buffer_after, filled_count, room_of, read_into, counted, units_after, clusters_after, glyphs_after, outputs, write_asked, lengths, text_after, indices_after}
use Rattle.label.specs.Requests.RoundedCount.{rounded}
use Rattle.label.specs.Requests.Attribute.{resolve_into}
use Rattle.label.specs.Requests.Sheet.{list_room, sheet_into}
use Rattle.glyph_label.specs.declared.GlyphLabelReading.{GlyphLabelReading}
use Rattle.glyph_label.specs.declared.GlyphLabelWriting.{GlyphLabelWriting}
use Rattle.glyph_label.specs.declared.GlyphLabelFilled.{GlyphLabelFilled}
use Rattle.glyph_label.specs.Answers.{reading_answer, writing_answer, filled_answer}

-- what `glyph_label_read` promises of the label t, i and the buffers us, cs, gs: its answer a, and what the buffers hold afterwards
pub record ReadCall (t i us cs gs : List ℕ) (a : GlyphLabelReading) (us' cs' gs' : List ℕ) : Type 0 where
  pub answer : a ≡ reading_answer (counted (read_into (room_of us cs gs) t i)) (rounded i)
  pub units : us' ≡ units_after (read_into (room_of us cs gs) t i) us
  pub clusters : cs' ≡ clusters_after (read_into (room_of us cs gs) t i) cs
  pub glyphs : gs' ≡ glyphs_after (read_into (room_of us cs gs) t i) gs

-- what `glyph_label_write` and, asked to escape, `glyph_label_write_escaped` promise of a run handed in and the outputs tx, ix
pub record WriteCall (asked : Bool) (z : Places) (tx ix : List ℕ) (a : GlyphLabelWriting) (tx' ix' : List ℕ) : Type 0 where
  pub answer : a ≡ writing_answer (lengths (write_asked asked (outputs tx ix) z))
  pub text : tx' ≡ text_after (write_asked asked (outputs tx ix) z) tx
  pub indices : ix' ≡ indices_after (write_asked asked (outputs tx ix) z) ix

-- the contract of a call that comes to o and stores the places of o in one lent buffer, as bytes: its answer a, and what the buffer, which held `old`, holds
-- afterwards
pub record FillCall {A : Type 0} (stored : List A → List ℕ) (o : Outcome (List A)) (old : List ℕ) (a : GlyphLabelFilled) (new : List ℕ) : Type 0 where
  pub answer : a ≡ filled_answer (filled_count o)
  pub buffer : new ≡ buffer_after stored o old

-- what `glyph_label_resolve` promises of a raw value and a buffer: its answer, and what the buffer holds afterwards
abbrev pub ResolveCall : List ℕ → List ℕ → GlyphLabelFilled → List ℕ → Type 0
ResolveCall raw old a new = FillCall (λ (s : List ℕ). s) (resolve_into (length old) raw) old a new

-- what `glyph_label_sheet` promises of a file and an answer list: its answer, and what the list holds afterwards
abbrev pub SheetCall : List ℕ → List ℕ → GlyphLabelFilled → List ℕ → Type 0
SheetCall file old a new = FillCall from_words (sheet_into (list_room old) file) old a new
