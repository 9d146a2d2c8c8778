-- What the programs print of a label: its counts and the lengths of its two normal lines, or the refusal.
-- Assumes nothing.
use Rattle.label.specs.Places.{places}
use Rattle.std.specs.Prelude.{ℕ, ◌*◌, List, length, take}
use Rattle.label.specs.Outcome.{Outcome, ok, no}
use Rattle.label.specs.Run.{Run}
use Rattle.label.specs.Write.{Label, normal}
use Rattle.label.specs.Calls.{counts, buffer_after, write_into}
use Rattle.label.specs.declared.Counts.{Counts}
use Rattle.label.specs.declared.Lengths.{Lengths}
use Rattle.lines.specs.declared.Relabelled.{Relabelled}

-- "`ok`, units, clusters, glyphs, then both normal lines"
abbrev pub shown : Run → Relabelled
shown r = record { read = counts r; written = record { text = length (normal r).text; indices = length (normal r).indices } }

abbrev pub relabelled : Outcome Run → Outcome Relabelled
relabelled (ok r) = ok (shown r)
relabelled (no n p) = no n p

-- the counts read with what became of the writing
abbrev pub answered : Counts → Outcome Lengths → Outcome Relabelled
answered c (ok l) = ok (record { read = c; written = l })
answered c (no n p) = no n p

-- the writing of the run whose counts these are, from the bytes at the front of three buffers: 2 a unit, 8 a cluster and 16 a glyph
abbrev pub places_written : Counts → List ℕ → List ℕ → List ℕ → Lengths → Outcome Label
places_written c us cs gs room = write_into room (places (take (2 * c.units) us) (take (8 * c.clusters) cs) (take (16 * c.glyphs) gs))

-- the two outputs afterwards
abbrev pub text_line : Outcome Run → List ℕ → List ℕ
text_line o old = buffer_after (λ (r : Run). (normal r).text) o old

abbrev pub indices_line : Outcome Run → List ℕ → List ℕ
indices_line o old = buffer_after (λ (r : Run). (normal r).indices) o old
