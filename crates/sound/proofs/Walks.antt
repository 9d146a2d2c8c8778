-- A step of the walk: what is left of the test is the next entry's part and what is left behind it; at the end, that all is used up.
-- Assumes nothing.
use Rattle.std.proofs.Common.{◌≡◌, ℕ, zero, suc, ◌+◌, ◌-◌, ◌≤◌, Bool, true, false, not, ◌&&◌, ◌||◌, List, [], ◌∷◌, ℤ, length, drop, map, refl, sym, ◌∙◌, arith, length-drop, ◌%◌, IsTrue, Some, None}
use Rattle.label.specs.Bytes.{empty}
use Rattle.label.specs.Fetched.{halves, words}
use Rattle.label.specs.Sound.{nat, natural, choice, whole_clusters, whole_glyphs, clusters_of, glyphs_of, all_font, may_open, fits}
use Rattle.label.specs.declared.Cluster.{Cluster}
use Rattle.label.specs.declared.Glyph.{Glyph}
use Rattle.rules.specs.Rules.{whole_run, opens_at, owes}
use Rattle.wire.specs.Numbers.{as_cluster, as_glyph}
use Rattle.wire.specs.Walks.{clusters_in, glyphs_in, entries_in}
use Rattle.wire.proofs.Fetched.{halves_length, words_length}
use Rattle.wire.proofs.Runs.{clusters_length, glyphs_length}
use Rattle.wire.proofs.Walks.{clusters_are, glyphs_are, clusters_in_length, glyphs_in_length}
use Rattle.label.proofs.Basics.{cases}
use Rattle.label.proofs.Lists.{empty_is}
use Rattle.std.proofs.lemmas.Bool.Decides.{nat_tests}
use lib.Dec.{eqb}
use lib.Seq.{drop-drop}
use Rattle.wire.specs.declared.ClusterNumbers.{ClusterNumbers}
use Rattle.wire.specs.declared.EntryNumbers.{EntryNumbers}
use Rattle.wire.specs.declared.GlyphNumbers.{GlyphNumbers}
use Rattle.sound.specs.declared.Walk.{Walk}
use Rattle.sound.specs.Sounds.{may_stand, behind, walked, well_run}

-- ── the numbers of all clusters and of all glyphs ──

naturals : List ClusterNumbers → Bool
naturals [] = true
naturals (c ∷ cs) = natural c.units && natural c.glyphs && naturals cs

choices : List GlyphNumbers → Bool
choices [] = true
choices (g ∷ gs) = choice g.index && choice g.advance && choices gs

whole_clusters_is : (z : List ℤ) → length z % 2 ≡ 0 → whole_clusters z ≡ naturals (clusters_in z)
unfolding whole_clusters clusters_in naturals
whole_clusters_is [] h = refl
whole_clusters_is (a ∷ []) h = absurd (omega arith)
whole_clusters_is (a ∷ b ∷ z) h = rw (whole_clusters_is z (omega arith))

whole_glyphs_is : (z : List ℤ) → length z % 4 ≡ 0 → whole_glyphs z ≡ choices (glyphs_in z)
unfolding whole_glyphs glyphs_in choices
whole_glyphs_is [] h = refl
whole_glyphs_is (i ∷ []) h = absurd (omega arith)
whole_glyphs_is (i ∷ a ∷ []) h = absurd (omega arith)
whole_glyphs_is (i ∷ a ∷ u ∷ []) h = absurd (omega arith)
whole_glyphs_is (i ∷ a ∷ u ∷ v ∷ z) h = rw (whole_glyphs_is z (omega arith))

-- ── what is left of the test, by the clusters and the glyphs that are left ──

-- tests joined in another order: z of the cluster's numbers, w of those behind; c of the glyph's, g of those behind
opening : (z w c g t f a l m o r : Bool)
    → ((z && w) && ((c && g) && ((not t || (f && a)) && (l && (m && (not o || a)) && r))))
    ≡ ((c && l && (not t || f) && (z && m)) && (w && (g && ((not (t || o) || a) && r))))
opening z w c g t f a l m o r = grind arith

-- what a cluster asks of its first glyph, and of the glyphs behind it
may_open_is : (b : Bool) (us : List ℕ) (c : Cluster) (g : Glyph) (gs : List Glyph)
    → may_open b us c g gs ≡ (may_open b us c g [] && (not (owes c g) || all_font gs))
unfolding all_font
may_open_is true us c g gs = grind arith
may_open_is false us c g gs = grind arith

-- a cluster that opens takes no more units than there are
opens_within : (us : List ℕ) (at : ℕ) (c : ClusterNumbers) (n : GlyphNumbers) → at ≤ length us → opens_at us at c n ≡ true → at + nat c.units ≤ length us
unfolding opens_at
opens_within us at c n h e = cases (empty us) (λ t. let f = rw t at e in grind (arith, nat_tests))
    (λ t. let f = rw (t, length-drop) at e in grind (arith, nat_tests))

-- and has a glyph
open_glyph : (b : Bool) (us : List ℕ) (c : Cluster) (g : Glyph) (gs : List Glyph) → may_open b us c g gs ≡ true → 1 ≤ c.glyphs
open_glyph true us c g gs h = grind (arith, nat_tests)
open_glyph false us c g gs h = grind (arith, nat_tests)

opens_glyph : (us : List ℕ) (at : ℕ) (c : ClusterNumbers) (n : GlyphNumbers) → opens_at us at c n ≡ true → 1 ≤ nat c.glyphs
unfolding opens_at
opens_glyph us at c n e =
    let m : may_open (empty us) (drop at us) (as_cluster c) (as_glyph n) [] ≡ true = grind arith in
    open_glyph (empty us) (drop at us) (as_cluster c) (as_glyph n) [] m

stood : (us : List ℕ) (w : Walk) (c : ClusterNumbers) (g : GlyphNumbers) → may_stand us w (record { cluster = Some c; glyph = g }) ≡ true
    → opens_at us w.units c g ≡ true
unfolding may_stand
stood us w c g h = grind arith

pub stood_within : (us : List ℕ) (w : Walk) (c : ClusterNumbers) (g : GlyphNumbers) → w.units ≤ length us
    → may_stand us w (record { cluster = Some c; glyph = g }) ≡ true → w.units + nat c.units ≤ length us
stood_within us w c g h e = opens_within us w.units c g h (stood us w c g e)

empty_drop : {A : Type 0} (l : List A) (i : ℕ) → i ≤ length l → empty (drop i l) ≡ eqb i (length l)
empty_drop l i h = empty_is (drop i l) ∙ rw length-drop (grind (arith, nat_tests))

module _ (us : List ℕ) where
  -- the test, with `lack` glyphs of the open cluster still to come
  abbrev left : ℕ → Walk → List ClusterNumbers → List GlyphNumbers → Bool
  left lack w cs gs =
      naturals cs && (choices gs && ((not w.tail || all_font (map as_glyph gs))
      && fits (empty us) lack (drop w.units us) (map as_cluster cs) (map as_glyph gs)))

  further : (k : ℕ) (w : Walk) (cs : List ClusterNumbers) (g : GlyphNumbers) (gs : List GlyphNumbers)
      → left (suc k) w cs (g ∷ gs) ≡ (may_stand us w (record { cluster = None; glyph = g }) && left k w cs gs)
  unfolding naturals choices fits all_font may_stand
  further k w cs g gs = grind arith

  opens : (w : Walk) (c : ClusterNumbers) (cs : List ClusterNumbers) (g : GlyphNumbers) (gs : List GlyphNumbers)
      → left 0 w (c ∷ cs) (g ∷ gs)
      ≡ (may_stand us w (record { cluster = Some c; glyph = g }) && left (nat c.glyphs - 1) (behind w (record { cluster = Some c; glyph = g })) cs gs)
  unfolding naturals choices fits all_font may_stand opens_at
  opens w c cs g gs = rw (may_open_is (empty us) (drop w.units us) (as_cluster c) (as_glyph g) (map as_glyph gs), drop-drop) (search opening)

  left_is : (m n lack : ℕ) (w : Walk) (cs : List ClusterNumbers) (gs : List GlyphNumbers)
      → w.units ≤ length us → w.clusters + length cs ≡ m → w.glyphs + length gs ≡ n + lack
      → walked us m n w (entries_in lack cs gs) ≡ left lack w cs gs
  unfolding walked entries_in fits all_font naturals choices
  left_is m n lack w [] [] h e f = rw (empty_drop us w.units h) (grind (arith, nat_tests))
  left_is m n lack w (c ∷ cs) [] h e f = grind (arith, nat_tests)
  left_is m n (suc k) w cs (g ∷ gs) h e f = rw (left_is m n k w cs gs h e (omega arith)) (sym (further k w cs g gs))
  left_is m n zero w [] (g ∷ gs) h e f = grind (arith, nat_tests)
  left_is m n zero w (c ∷ cs) (g ∷ gs) h e f =
      let x : EntryNumbers = record { cluster = Some c; glyph = g } in
      rw (opens w c cs g gs)
      (cases (may_stand us w x)
      (λ t. let o = stood us w c g t in
      let u : w.units + nat c.units ≤ length us = opens_within us w.units c g h o in
      let p : 1 ≤ nat c.glyphs = opens_glyph us w.units c g o in
      rw (left_is m n (nat c.glyphs - 1) (behind w x) cs gs u (omega arith) (omega arith)))
      (λ t. rw t))

-- ── the start ──

abbrev pub start : Walk
start = record { units = 0; clusters = 0; glyphs = 0; tail = false }

pub starts : (us cs gs : List ℕ) → IsTrue (whole_run (length us) (length cs) (length gs))
    → well_run (halves us) (words cs) (words gs)
    ≡ walked (halves us) (length (clusters_of (words cs))) (length (glyphs_of (words gs))) start (entries_in 0 (clusters_in (words cs)) (glyphs_in (words gs)))
unfolding well_run
starts us cs gs t =
    let c : length (words cs) % 2 ≡ 0 = grind (arith, nat_tests, words_length) in
    let g : length (words gs) % 4 ≡ 0 = grind (arith, nat_tests, words_length) in
    rw (
      whole_clusters_is (words cs) c,
      whole_glyphs_is (words gs) g,
      left_is (halves us) (length (clusters_of (words cs))) (length (glyphs_of (words gs))) 0 start (clusters_in (words cs)) (glyphs_in (words gs))
          (omega arith)
          (omega (arith, clusters_in_length (words cs))) (omega (arith, glyphs_in_length (words gs))),
      clusters_are,
      glyphs_are,
    )

-- no more entries than glyphs
pub few_entries : (lack : ℕ) (cs : List ClusterNumbers) (gs : List GlyphNumbers) → length (entries_in lack cs gs) ≤ length gs
unfolding entries_in
few_entries lack cs [] = omega arith
few_entries (suc n) cs (g ∷ gs) = omega (arith, few_entries n cs gs)
few_entries zero [] (g ∷ gs) = omega arith
few_entries zero (c ∷ cs) (g ∷ gs) = omega (arith, few_entries (nat c.glyphs - 1) cs gs)

-- for `grind`, at a step of the walk, and at its start and its end
pub ruleset steps = (halves_length)

pub ruleset whole = (starts, stood_within, few_entries, glyphs_in_length, halves_length, clusters_length, glyphs_length, nat_tests)
