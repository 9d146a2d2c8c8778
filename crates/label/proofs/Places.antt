-- Places that are handed in: those of a run name the run, as numbers go to bytes and back, and the soundness test says exactly that some accepted label
-- reads as them (`read_sound`, `read_back`).
-- Assumes nothing.
use Prim.Native.Nat.{◌+◌}
use native.Mathlib.Omega.{arith}
use mathlib.Core.Path.{◌≡◌}
use mathlib.Core.Bool.{true, ◌&&◌}
use lib.ListN.{length}
use Rattle.label.specs.Bytes.{empty}
use Rattle.label.specs.Run.{Run}
use Rattle.label.specs.Fetched.{words, even_bytes, word_bytes}
use Rattle.label.specs.Places.{flat_clusters, flat_glyphs, Places, places_of, Readable}
use Rattle.label.specs.Sound.{whole_clusters, whole_glyphs, sound_run, run_of, sound}
use Rattle.label.specs.Write.{normal}
use Rattle.label.specs.Statements.Demands.{unit_counts, glyph_counts, all_bytes, in_bytes}
use Rattle.label.proofs.Basics.{and_l, and_r}
use Rattle.label.proofs.Values.{normal_writer}
use Rattle.label.proofs.Sound.{read_sound, read_back, SoundRun, sound_parts}
use Rattle.label.proofs.Parts.{sum, fits_units, fits_glyphs, clusters_flat, clusters_of_holds, clusters_whole, glyphs_flat, glyphs_of_holds, glyphs_whole}
use Rattle.label.proofs.Wire.{halves_back, halves_even, halves_forth, words_back, words_forth, words_whole, glyphs_32, clusters_32}

-- ── the places of a sound run ──

module _ (r : Run) (h : sound_run r ≡ true) where
  parts : SoundRun r
  parts = sound_parts r h

  pub clusters_back : words (places_of r).clusters ≡ flat_clusters r.clusters
  clusters_back =
      let u : sum (unit_counts r.clusters) ≡ length r.units = fits_units r.glyphs (empty r.units) r.clusters r.units 0 parts.fit in
      let g : 0 + sum (glyph_counts r.clusters) ≡ length r.glyphs = fits_glyphs r.glyphs (empty r.units) r.clusters r.units 0 parts.fit in
      words_back (flat_clusters r.clusters) (clusters_32 r.clusters (omega (arith, u, parts.few_units)) (omega (arith, g, parts.few_glyphs)))

  pub glyphs_back : words (places_of r).glyphs ≡ flat_glyphs r.glyphs
  glyphs_back = words_back (flat_glyphs r.glyphs) (glyphs_32 r.glyphs (empty r.units) 0 r.units r.clusters parts.fit)

  pub run_of_holds : run_of (places_of r) ≡ r
  run_of_holds = rw (halves_back r.units, clusters_back, glyphs_back, clusters_of_holds r.clusters, glyphs_of_holds r.glyphs)

  pub run_sound : sound (places_of r) ≡ true
  unfolding sound
  run_sound =
      rw (
        halves_even r.units,
        words_whole (flat_clusters r.clusters),
        words_whole (flat_glyphs r.glyphs),
        halves_back r.units,
        clusters_back,
        glyphs_back,
      )
      (rw (clusters_whole r.clusters, glyphs_whole r.glyphs, clusters_of_holds r.clusters, glyphs_of_holds r.glyphs) h)

-- ── sound places ──

-- what the test says of places
pub record SoundPlaces (z : Places) : Type 0 where
  pub units_even : even_bytes z.units ≡ true
  pub clusters_words : word_bytes z.clusters ≡ true
  pub glyphs_words : word_bytes z.glyphs ≡ true
  pub clusters_are : whole_clusters (words z.clusters) ≡ true
  pub glyphs_are : whole_glyphs (words z.glyphs) ≡ true
  pub run_is : sound_run (run_of z) ≡ true

pub sound_places : (z : Places) → sound z ≡ true → SoundPlaces z
unfolding sound
sound_places z h =
    let eu = even_bytes z.units in
    let wc = word_bytes z.clusters in
    let wg = word_bytes z.glyphs in
    let cs = whole_clusters (words z.clusters) in
    let gs = whole_glyphs (words z.glyphs) in
    let r = sound_run (run_of z) in
    let n = and_l (eu && wc && wg) (cs && gs && r) h in
    let m = and_r (eu && wc && wg) (cs && gs && r) h in
    record {
      units_even = and_l eu wc (and_l (eu && wc) wg n);
      clusters_words = and_r eu wc (and_l (eu && wc) wg n);
      glyphs_words = and_r (eu && wc) wg n;
      clusters_are = and_l cs gs (and_l (cs && gs) r m);
      glyphs_are = and_r cs gs (and_l (cs && gs) r m);
      run_is = and_r (cs && gs) r m;
    }

-- sound places are those of the run that they name
places_of_holds : (z : Places) → in_bytes z ≡ true → SoundPlaces z → places_of (run_of z) ≡ z
places_of_holds z h s =
    let bu = all_bytes z.units in
    let bc = all_bytes z.clusters in
    let bg = all_bytes z.glyphs in
    rw (
      clusters_flat (words z.clusters) s.clusters_are,
      glyphs_flat (words z.glyphs) s.glyphs_are,
      halves_forth z.units (and_l bu bc (and_l (bu && bc) bg h)) s.units_even,
      words_forth z.clusters (and_r bu bc (and_l (bu && bc) bg h)) s.clusters_words,
      words_forth z.glyphs (and_r (bu && bc) bg h) s.glyphs_words,
    )

-- ── the test holds exactly of what some accepted label reads as ──

pub sound_readable : (z : Places) → in_bytes z ≡ true → sound z ≡ true → Readable z
sound_readable z b h =
    let s : SoundPlaces z = sound_places z h in
    record {
      run = run_of z;
      text = (normal (run_of z)).text;
      indices = (normal (run_of z)).indices;
      reads = read_back normal_writer (run_of z) s.run_is;
      places_are = places_of_holds z b s;
    }

pub readable_sound : (z : Places) → Readable z → sound z ≡ true
readable_sound z w = rw (← w.places_are) (run_sound w.run (read_sound w.text w.indices w.run w.reads))

-- the run that readable places name is the one that was read
pub readable_run : (z : Places) (w : Readable z) → run_of z ≡ w.run
readable_run z w = rw (← w.places_are) (run_of_holds w.run (read_sound w.text w.indices w.run w.reads))
