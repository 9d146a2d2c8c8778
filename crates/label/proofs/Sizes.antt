-- How large a sound run and its writing can be: a cluster has a glyph, and text and indices have the bounds of the way back.
-- Assumes nothing.
use Prim.Native.Nat.{ℕ, zero, suc, ◌-◌, ◌≤◌}
use native.Mathlib.Omega.{arith}
use mathlib.Core.Path.{◌≡◌}
use mathlib.Core.Bool.{Bool, true}
use mathlib.Core.List.{List, [], ◌∷◌}
use lib.ListN.{length, drop}
use Rattle.label.specs.Limits.{max_text_bytes, max_indices_bytes, max_units, max_glyphs}
use Rattle.label.specs.Outcome.{ok}
use Rattle.label.specs.Bytes.{empty}
use Rattle.label.specs.Run.{Run}
use Rattle.label.specs.Checks.{read}
use Rattle.label.specs.Sound.{fits, sound_run}
use Rattle.label.specs.Write.{written_label}
use Rattle.label.specs.Calls.{read_into}
use Rattle.label.specs.Statements.Demands.{Roomy, RoomyFor}
use Rattle.label.specs.declared.Counts.{Counts}
use Rattle.label.specs.declared.Lengths.{Lengths}
use Rattle.label.specs.declared.Glyph.{Glyph}
use Rattle.label.specs.declared.Cluster.{Cluster}
use Rattle.label.proofs.Values.{Writer}
use Rattle.label.proofs.Run.{fits_nil, fits_further, fits_opening, Indices, indices_back}
use Rattle.label.proofs.Text.{text_back, proper_first}
use Rattle.label.proofs.Sound.{SoundRun, sound_parts, read_sound}
use Rattle.label.proofs.Statements.Demands.{demand_3}

-- a cluster has a glyph
pub fits_few : (gs : List Glyph) (bare : Bool) (cs : List Cluster) (us : List ℕ) (lack : ℕ) → fits bare lack us cs gs ≡ true → length cs ≤ length gs
fits_few [] bare cs us lack h = let (a, b, c) = fits_nil bare lack us cs h in rw b (omega arith)
fits_few (g ∷ gs) bare cs us (suc n) h = omega (arith, fits_few gs bare cs us n (fits_further bare n us cs g gs h).rest)
fits_few (g ∷ gs) bare [] us zero h = omega arith
fits_few (g ∷ gs) bare (c ∷ cs) us zero h =
    omega (arith, fits_few gs bare cs (drop c.units us) (c.glyphs - 1) (fits_opening bare us c cs g gs h).rest)

-- the buffers that hold every run, and the outputs that hold every writing
abbrev pub largest : Counts
largest = record { units = max_units; clusters = max_glyphs; glyphs = max_glyphs }

abbrev pub longest : Lengths
longest = record { text = max_text_bytes; indices = max_indices_bytes }

pub sound_roomy : (r : Run) → sound_run r ≡ true → Roomy r largest
sound_roomy r h =
    let s : SoundRun r = sound_parts r h in
    let f : length r.clusters ≤ length r.glyphs = fits_few r.glyphs (empty r.units) r.clusters r.units 0 s.fit in
    record { for_units = s.few_units; for_clusters = omega (arith, s.few_glyphs); for_glyphs = omega (arith, s.few_glyphs) }

pub sound_short : {w : ℕ → List ℕ} (y : Writer w) (r : Run) → sound_run r ≡ true → RoomyFor (written_label w r) longest
sound_short {w} y r h =
    let s : SoundRun r = sound_parts r h in
    let i : Indices w (empty r.units) r.units r.clusters r.glyphs =
    indices_back y (empty r.units) r.units r.clusters r.glyphs (proper_first r.units s.proper) s.few_units s.few_glyphs s.fit in
    record { for_text = (text_back r.units s.proper).short s.few_units; for_indices = i.short }

-- the reading into such buffers
pub read_largest : (t i : List ℕ) (r : Run) → read t i ≡ ok r → read_into largest t i ≡ ok r
read_largest t i r h = demand_3.reads t i r largest h (sound_roomy r (read_sound t i r h))
