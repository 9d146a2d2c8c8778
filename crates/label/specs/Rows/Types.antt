-- How the computed rows are written: what a row holds, and short names for what stands in many rows. Nothing here is a definition of the papers.
-- Assumes nothing.
use Rattle.std.specs.Prelude.{ℕ, List, [], ◌∷◌, negsuc, pos, ℤ, replicate}
use Rattle.label.specs.Outcome.{Outcome, ok, no}
use Rattle.label.specs.Run.{Run, cluster}
use Rattle.label.specs.Wire.{from_halves, from_words}
use Rattle.label.specs.Places.{Places, places}
use Rattle.label.specs.Write.{Label, normal}
use Rattle.label.specs.Calls.{room_of}
use Rattle.label.specs.declared.Advance.TheVariants.{Given, Own}
use Rattle.label.specs.declared.Cluster.{Cluster}
use Rattle.label.specs.declared.Counts.{Counts}
use Rattle.label.specs.declared.Glyph.{Glyph}
use Rattle.label.specs.declared.Index.TheVariants.{Named}
use Rattle.label.specs.declared.Lengths.{Lengths}
use Rattle.label.specs.declared.Part.{Part}
use Rattle.label.specs.declared.Stretch.{Stretch}

-- ── labels ──

-- what a label comes to: the run and its normal writing, or the number and the place
pub data Said : Type 0 where
  accepted : Run → Label → Said
  refused : ℕ → ℕ → Said

-- what a reading says, with the normal writing of its run
abbrev pub said : Outcome Run → Said
said (ok r) = accepted r (normal r)
said (no n p) = refused n p

-- a label and what it comes to
pub record LabelRow : Type 0 where
  pub text : List ℕ
  pub indices : List ℕ
  pub answer : Said

-- the row of a text, indices and an answer
abbrev pub label_row : List ℕ → List ℕ → Said → LabelRow
label_row t i a = record { text = t; indices = i; answer = a }

-- accepted: units, clusters, glyphs; normal text, normal indices
abbrev pub reads : List ℕ → List Cluster → List Glyph → List ℕ → List ℕ → Said
reads us cs gs t i = accepted (record { units = us; clusters = cs; glyphs = gs }) (record { text = t; indices = i })

-- a glyph with this index and nothing else given; with an advance too
abbrev pub glyph : ℕ → Glyph
glyph n = record { index = Named n; advance = Own; u = pos 0; v = pos 0 }

-- a glyph with index n and advance a
abbrev pub advanced : ℕ → ℕ → Glyph
advanced n a = record { index = Named n; advance = Given a; u = pos 0; v = pos 0 }

-- a cluster 1:1
abbrev pub one : Cluster
one = cluster 1 1

-- U+1F600: its bytes, and its units before others
abbrev pub grin : List ℕ
grin = 0xf0 ∷ 0x9f ∷ 0x98 ∷ 0x80 ∷ []

-- the units of U+1F600 before others
abbrev pub grins : List ℕ → List ℕ
grins us = 0xd83d ∷ 0xde00 ∷ us

-- ── requests ──

-- a label and the count that is returned for it
pub record RoundedRow : Type 0 where
  pub text : List ℕ
  pub indices : List ℕ
  pub count : ℕ

-- the row of a text, indices and a count
abbrev pub count_row : List ℕ → List ℕ → ℕ → RoundedRow
count_row t i n = record { text = t; indices = i; count = n }

-- a raw value and what it resolves to
pub record RawRow : Type 0 where
  pub raw : List ℕ
  pub answer : Outcome (List ℕ)

-- the row of a raw value and an outcome
abbrev pub raw_row : List ℕ → Outcome (List ℕ) → RawRow
raw_row s a = record { raw = s; answer = a }

-- bytes, and what escaping makes of them
pub record EscapeRow : Type 0 where
  pub bytes : List ℕ
  pub escaped : List ℕ

-- such a row
abbrev pub escape_row : List ℕ → List ℕ → EscapeRow
escape_row s e = record { bytes = s; escaped = e }

-- a file, how many numbers the answer list has room for, and the answers
pub record SheetRow : Type 0 where
  pub file : List ℕ
  pub room : ℕ
  pub answer : Outcome (List ℤ)

-- the row of a file, a room and an outcome
abbrev pub sheet_row : List ℕ → ℕ → Outcome (List ℤ) → SheetRow
sheet_row f n a = record { file = f; room = n; answer = a }

-- ── runs and calls ──

-- the run of these numbers, handed in as bytes
abbrev pub handed : List ℕ → List ℤ → List ℤ → Places
handed us cs gs = places (from_halves us) (from_words cs) (from_words gs)

-- outputs of so many bytes
abbrev pub sizes : ℕ → ℕ → Lengths
sizes t i = record { text = t; indices = i }

-- a glyph's four numbers with only the index named, and wholly the font's
abbrev pub plain : ℕ → List ℤ → List ℤ
plain n zs = pos n ∷ negsuc 0 ∷ pos 0 ∷ pos 0 ∷ zs

-- the numbers of a glyph wholly the font's before others
abbrev pub font : List ℤ → List ℤ
font zs = negsuc 0 ∷ negsuc 0 ∷ pos 0 ∷ pos 0 ∷ zs

-- the units of U+1F600
abbrev pub pair : List ℕ
pair = 0xd83d ∷ 0xde00 ∷ []

-- the writer gives this text and these indices
abbrev pub label : List ℕ → List ℕ → Outcome Label
label t i = ok (record { text = t; indices = i })

-- what the writer makes of a run, sound or not
pub record Writes : Type 0 where
  pub run : Places
  pub answer : Outcome Label

-- the row of a run and an answer
abbrev pub writes : Places → Outcome Label → Writes
writes r a = record { run = r; answer = a }

-- a stretch; the units picked where it is of glyphs, the glyphs picked where it is of units
pub record Picked : Type 0 where
  pub first : ℕ
  pub end : ℕ
  pub units : Outcome Stretch
  pub glyphs : Outcome Stretch

-- the row of a stretch and its two answers
abbrev pub picked : ℕ → ℕ → Outcome Stretch → Outcome Stretch → Picked
picked a b u g = record { first = a; end = b; units = u; glyphs = g }

-- "a number and a place", and "the offending part"
pub record Shown : Type 0 where
  pub number : ℕ
  pub place : ℕ
  pub shows : Part

-- the row of a number, a place and a part
abbrev pub shown : ℕ → ℕ → Part → Shown
shown n p x = record { number = n; place = p; shows = x }

-- the room of buffers of so many bytes
abbrev pub buffers : ℕ → ℕ → ℕ → Counts
buffers u c g = room_of (replicate u 0) (replicate c 0) (replicate g 0)

-- the bytes of one glyph, low byte first: 5, the font's own advance, −1,000 and 0
abbrev pub glyph_bytes : List ℕ
glyph_bytes = 5 ∷ 0 ∷ 0 ∷ 0 ∷ 255 ∷ 255 ∷ 255 ∷ 255 ∷ 24 ∷ 252 ∷ 255 ∷ 255 ∷ 0 ∷ 0 ∷ 0 ∷ 0 ∷ []

-- the bytes of a cluster 1:1
abbrev pub cluster_bytes : List ℕ
cluster_bytes = 1 ∷ 0 ∷ 0 ∷ 0 ∷ 1 ∷ 0 ∷ 0 ∷ 0 ∷ []
