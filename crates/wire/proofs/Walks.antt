-- A step of a walk over a run's units, its clusters, its glyphs or its entries, and what the definitions make of those that a walk gives.
-- Assumes nothing.
use Rattle.std.proofs.Common.{◌≡◌, ℕ, ◌+◌, ◌*◌, ◌<◌, ◌≤◌, List, [], ◌∷◌, ℤ, length, get_or, drop, take, map, refl, sym, ap, ◌∙◌, arith}
use Rattle.std.proofs.lemmas.List.{length-map}
use Rattle.label.specs.Fetched.{halves, words}
use Rattle.label.specs.Sound.{clusters_of, glyphs_of}
use Rattle.wire.specs.Numbers.{as_cluster, as_glyph, cluster_numbers, glyph_numbers}
use Rattle.wire.specs.Walks.{clusters_in, glyphs_in, entries_in}
use Rattle.wire.specs.declared.GlyphNumbers.{GlyphNumbers}
use Rattle.wire.proofs.Fetched.{words_length, words_drop, words_take}

-- ── bytes ──

-- fewer than 2 bytes are no unit
pub no_unit : (s : List ℕ) → length s < 2 → halves s ≡ []
unfolding halves
no_unit [] h = refl
no_unit (a ∷ []) h = refl
no_unit (a ∷ b ∷ s) h = absurd (omega arith)

-- 2 bytes are the first
pub first_unit : (s : List ℕ) → 2 ≤ length s → halves s ≡ (get_or s 0 0 + 256 * get_or s 1 0) ∷ halves (drop 2 s)
unfolding halves
first_unit [] h = absurd (omega arith)
first_unit (a ∷ []) h = absurd (omega arith)
first_unit (a ∷ b ∷ s) h = refl

few_clusters : (z : List ℤ) → length z < 2 → clusters_in z ≡ []
unfolding clusters_in
few_clusters [] h = refl
few_clusters (a ∷ []) h = refl
few_clusters (a ∷ b ∷ z) h = absurd (omega arith)

-- fewer than 8 bytes are no cluster
pub no_cluster : (s : List ℕ) → length s < 8 → clusters_in (words s) ≡ []
no_cluster s h = few_clusters (words s) (omega (arith, words_length s))

two : (z : List ℤ) → 2 ≤ length z → clusters_in z ≡ cluster_numbers (take 2 z) ∷ clusters_in (drop 2 z)
unfolding clusters_in cluster_numbers
two [] h = absurd (omega arith)
two (a ∷ []) h = absurd (omega arith)
two (a ∷ b ∷ z) h = refl

-- 8 bytes are the first
pub first_cluster : (s : List ℕ) → 8 ≤ length s → clusters_in (words s) ≡ cluster_numbers (words (take 8 s)) ∷ clusters_in (words (drop 8 s))
first_cluster s h = rw (← words_take 2 s, ← words_drop 2 s) (two (words s) (omega (arith, words_length s)))

few_glyphs : (z : List ℤ) → length z < 4 → glyphs_in z ≡ []
unfolding glyphs_in
few_glyphs [] h = refl
few_glyphs (i ∷ []) h = refl
few_glyphs (i ∷ a ∷ []) h = refl
few_glyphs (i ∷ a ∷ u ∷ []) h = refl
few_glyphs (i ∷ a ∷ u ∷ v ∷ z) h = absurd (omega arith)

-- fewer than 16 bytes are no glyph
pub no_glyph : (s : List ℕ) → length s < 16 → glyphs_in (words s) ≡ []
no_glyph s h = few_glyphs (words s) (omega (arith, words_length s))

four : (z : List ℤ) → 4 ≤ length z → glyphs_in z ≡ glyph_numbers (take 4 z) ∷ glyphs_in (drop 4 z)
unfolding glyphs_in glyph_numbers
four [] h = absurd (omega arith)
four (i ∷ []) h = absurd (omega arith)
four (i ∷ a ∷ []) h = absurd (omega arith)
four (i ∷ a ∷ u ∷ []) h = absurd (omega arith)
four (i ∷ a ∷ u ∷ v ∷ z) h = refl

-- 16 bytes are the first
pub first_glyph : (s : List ℕ) → 16 ≤ length s → glyphs_in (words s) ≡ glyph_numbers (words (take 16 s)) ∷ glyphs_in (words (drop 16 s))
first_glyph s h = rw (← words_take 4 s, ← words_drop 4 s) (four (words s) (omega (arith, words_length s)))

-- no cluster is left to open
pub no_entry : (gs : List GlyphNumbers) → entries_in 0 [] gs ≡ []
unfolding entries_in
no_entry [] = refl
no_entry (g ∷ gs) = refl

-- for `grind`, at a step
pub ruleset steps = (no_unit, first_unit, no_cluster, first_cluster, no_glyph, first_glyph)

-- ── what they stand for ──

pub clusters_are : (z : List ℤ) → map as_cluster (clusters_in z) ≡ clusters_of z
unfolding clusters_in clusters_of
clusters_are [] = refl
clusters_are (a ∷ []) = refl
clusters_are (a ∷ b ∷ z) = rw (clusters_are z)

pub glyphs_are : (z : List ℤ) → map as_glyph (glyphs_in z) ≡ glyphs_of z
unfolding glyphs_in glyphs_of
glyphs_are [] = refl
glyphs_are (i ∷ []) = refl
glyphs_are (i ∷ a ∷ []) = refl
glyphs_are (i ∷ a ∷ u ∷ []) = refl
glyphs_are (i ∷ a ∷ u ∷ v ∷ z) = rw (glyphs_are z)

-- as many
pub clusters_in_length : (z : List ℤ) → length (clusters_in z) ≡ length (clusters_of z)
clusters_in_length z = sym (length-map (clusters_in z) as_cluster) ∙ ap length (clusters_are z)

pub glyphs_in_length : (z : List ℤ) → length (glyphs_in z) ≡ length (glyphs_of z)
glyphs_in_length z = sym (length-map (glyphs_in z) as_glyph) ∙ ap length (glyphs_are z)
