-- What soundness says of a run's three lists: the limits, and that the clusters' counts add up; by label's laws of `fits`.
-- Assumes nothing.
use Rattle.std.proofs.Common.{◌≡◌, ℕ, ◌≤◌, true, List, [], ◌∷◌, length, refl, sym, ◌∙◌, ap, zero-add}
use Rattle.label.specs.Limits.{max_units, max_glyphs}
use Rattle.label.specs.Fetched.{halves, words}
use Rattle.label.specs.Places.{places}
use Rattle.label.specs.Sound.{clusters_of, glyphs_of, run_of, sound}
use Rattle.label.specs.Pick.{turned}
use Rattle.label.specs.Statements.Demands.{unit_counts, glyph_counts}
use Rattle.label.specs.declared.Cluster.{Cluster}
use Rattle.label.proofs.Places.{sound_places}
use Rattle.label.proofs.Parts.{sum, fits_units, fits_glyphs, turned_units}
use Rattle.label.proofs.Sound.{SoundRun, sound_parts}
use Rattle.sound.specs.Sounds.{unit_sum}

unit_sum_holds : (cs : List Cluster) → unit_sum cs ≡ sum (unit_counts cs)
unfolding unit_sum
unit_sum_holds [] = refl
unit_sum_holds (c ∷ cs) = rw (unit_sum_holds cs)

-- ── a sound run ──

module _ (us cs gs : List ℕ) (h : sound (places us cs gs) ≡ true) where
  parts : SoundRun (run_of (places us cs gs))
  parts = sound_parts (run_of (places us cs gs)) (sound_places (places us cs gs) h).run_is

  pub few_units : length (halves us) ≤ max_units
  few_units = parts.few_units

  pub few_glyphs : length (glyphs_of (words gs)) ≤ max_glyphs
  few_glyphs = parts.few_glyphs

  pub units_add_up : unit_sum (clusters_of (words cs)) ≡ length (halves us)
  units_add_up = unit_sum_holds (clusters_of (words cs)) ∙ fits_units (glyphs_of (words gs)) _ (clusters_of (words cs)) (halves us) 0 parts.fit

  pub glyphs_add_up : unit_sum (turned (clusters_of (words cs))) ≡ length (glyphs_of (words gs))
  glyphs_add_up =
      unit_sum_holds (turned (clusters_of (words cs))) ∙ ap sum (turned_units (clusters_of (words cs)))
      ∙ sym (zero-add (sum (glyph_counts (clusters_of (words cs)))))
      ∙ fits_glyphs (glyphs_of (words gs)) _ (clusters_of (words cs)) (halves us) 0 parts.fit
