-- 19, and "Picks": between a stretch of glyphs and the stretch of units of all clusters touched.
-- Assumes nothing.
use Rattle.std.specs.Prelude.{ℕ, ◌+◌, ◌-◌, Bool, cond, not, ◌&&◌, List, [], ◌∷◌, ◌++◌, leb, ltb, length}
use Rattle.label.specs.Outcome.{Outcome, ok, ◌>>◌, Check, check, verdict}
use Rattle.label.specs.Run.{cluster}
use Rattle.label.specs.Places.{Places}
use Rattle.label.specs.Sound.{run_of, sound}
use Rattle.label.specs.declared.Cluster.{Cluster}
use Rattle.label.specs.declared.Stretch.{Stretch}

-- "run handed in is not sound" (19)
abbrev pub sound_checks : Places → List Check
sound_checks p = check (not (sound p)) 19 0 ∷ []

-- "from first to one past the last"
abbrev pub stretch : ℕ → ℕ → Stretch
stretch a b = record { first = a; end = b }

-- the units of the cluster that holds glyph n; `u` units stand before these clusters
unfoldable pub holding : ℕ → ℕ → List Cluster → Stretch
holding n u [] = stretch u u
holding n u (c ∷ cs) =
    let r = holding (n - c.glyphs) (u + c.units) cs in
    cond (ltb n c.glyphs) (stretch u (u + c.units)) r

-- "the stretch of units of all clusters touched": from the first one's first unit to one past the last one's last (over `turned` clusters: glyphs)
unfoldable pub touched : ℕ → ℕ → List Cluster → Stretch
touched first end cs = stretch (holding first 0 cs).first (holding (end - 1) 0 cs).end

-- units for glyphs, glyphs for units
unfoldable pub turned : List Cluster → List Cluster
turned [] = []
turned (c ∷ cs) = cluster c.glyphs c.units ∷ turned cs

-- "pick empty, reversed or past the end" (22) does not hold
abbrev pub inside : ℕ → ℕ → ℕ → Bool
inside first end count = ltb first end && leb end count

-- "Soundness (19) is tested before 22": a pick among `count` glyphs or units
unfoldable pub pick_checks : Places → ℕ → ℕ → ℕ → List Check
pick_checks p first end count = sound_checks p ++ (check (not (inside first end count)) 22 0 ∷ [])

-- "A pick takes a sound run and a stretch of glyphs"
-- "In a run without units the first gives 0 to 0": every cluster there has 0 units
unfoldable pub pick_units : Places → ℕ → ℕ → Outcome Stretch
pick_units p first end = verdict (pick_checks p first end (length (run_of p).glyphs)) >> ok (touched first end (run_of p).clusters)

-- "another goes from units to glyphs"
unfoldable pub pick_glyphs : Places → ℕ → ℕ → Outcome Stretch
pick_glyphs p first end = verdict (pick_checks p first end (length (run_of p).units)) >> ok (touched first end (turned (run_of p).clusters))
