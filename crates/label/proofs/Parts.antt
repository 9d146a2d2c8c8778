-- Parts by their counts: every place in exactly one; a run's counts add up; a run's numbers and back; the stretch that a pick gives; the cluster map. By
-- induction over the counts, the glyphs or the clusters.
-- Assumes nothing.
use Prim.Native.Nat.{ℕ, zero, suc, ◌+◌, ◌*◌, ◌-◌, ◌≤◌, ◌<◌}
use native.Mathlib.Omega.{arith}
use native.Mathlib.Nat.{not-suc-le-zero, zero-add}
use mathlib.Core.Path.{◌≡◌, refl, ◌∙◌}
use mathlib.Core.Bool.{Bool, true, false, ◌&&◌, false≢true}
use mathlib.Core.List.{List, [], ◌∷◌, ◌++◌}
use borrow.Author.Tests.{ltb-true, ltb-false, eqb-true}
use lib.Dec.{ltb}
use lib.IntN.{ℤ, pos, negsuc}
use lib.ListN.{length, get_or, drop, length-drop, length-append, replicate, length-replicate}
use Rattle.label.specs.Places.{index_number, advance_number, flat_clusters, flat_glyphs}
use Rattle.label.specs.Sound.{choice, whole_clusters, whole_glyphs, number_index, number_advance, clusters_of, glyphs_of, fits}
use Rattle.label.specs.Pick.{stretch, touched, turned}
use Rattle.label.specs.Statements.Demands.{part_start, In, Divided, unit_counts, glyph_counts, Touches, ClustersTouched, cluster_map}
use Rattle.label.specs.declared.Index.{Index}
use Rattle.label.specs.declared.Index.TheVariants.{Named, Font}
use Rattle.label.specs.declared.Advance.{Advance}
use Rattle.label.specs.declared.Advance.TheVariants.{Given, Own}
use Rattle.label.specs.declared.Glyph.{Glyph}
use Rattle.label.specs.declared.Cluster.{Cluster}
use Rattle.label.proofs.Basics.{and_l, and_r, clash, cases}
use Rattle.label.proofs.Run.{fits_further, Opening, fits_opening, Bare, may_bare, Opens, may_opens, fits_nil}
use Rattle.label.proofs.Picks.{holding_is}

-- ── parts by their counts ──

abbrev pub sum : List ℕ → ℕ
sum [] = 0
sum (n ∷ ns) = n + sum ns

-- every place is in a part
pub find : (ns : List ℕ) (i : ℕ) → i < sum ns → (j : ℕ) × In ns j i
find [] i h = absurd (not-suc-le-zero h)
find (n ∷ ns) i h =
    cases (ltb i n)
    (λ t. (0, record { exists = omega arith; from = omega arith; below = omega (arith, ltb-true i n t) }))
    (λ t. let g : n ≤ i = ltb-false i n t in
    let (j, x) = find ns (i - n) (omega arith) in
    (suc j, record { exists = omega (arith, x.exists); from = omega (arith, x.from); below = omega (arith, x.below) }))

-- and places in order are in parts in order
pub order : (ns : List ℕ) (i i' j k : ℕ) → i ≤ i' → In ns j i → In ns k i' → j ≤ k
order [] i i' j k h x y = absurd (not-suc-le-zero x.exists)
order (n ∷ ns) i i' zero k h x y = omega arith
order (n ∷ ns) i i' (suc j) zero h x y = omega (arith, x.from, y.below)
order (n ∷ ns) i i' (suc j) (suc k) h x y =
    let r : j ≤ k =
    order ns (i - n) (i' - n) j k (omega arith)
    (record { exists = omega (arith, x.exists); from = omega (arith, x.from); below = omega (arith, x.below, x.from) })
    (record { exists = omega (arith, y.exists); from = omega (arith, y.from); below = omega (arith, y.below, y.from) }) in
    omega arith

starts_sum : (ns : List ℕ) (j : ℕ) → part_start ns j ≤ sum ns
starts_sum ns zero = omega arith
starts_sum [] (suc j) = omega arith
starts_sum (n ∷ ns) (suc j) = omega (arith, starts_sum ns j)

pub divided : (n : ℕ) (ns : List ℕ) → sum ns ≡ n → Divided n ns
divided n ns e =
    record {
      every = λ i h. find ns i (omega arith);
      once = λ i j k x y. omega (arith, order ns i i j k (omega arith) x y, order ns i i k j (omega arith) y x);
      ordered = λ i i' j k h x y. order ns i i' j k h x y;
      no_more = λ i j x. omega (arith, x.below, starts_sum ns (suc j));
    }

-- ── the counts add up ──

pub fits_units : (gs : List Glyph) (bare : Bool) (cs : List Cluster) (us : List ℕ) (lack : ℕ) → fits bare lack us cs gs ≡ true
    → sum (unit_counts cs) ≡ length us
fits_units [] bare cs us lack h = let (a, b, c) = fits_nil bare lack us cs h in rw (b, c)
fits_units (g ∷ gs) bare cs us (suc n) h = fits_units gs bare cs us n (fits_further bare n us cs g gs h).rest
fits_units (g ∷ gs) bare [] us zero h = clash (fits bare zero us [] (g ∷ gs)) h (unfold fits in refl)
fits_units (g ∷ gs) true (c ∷ cs) us zero h =
    let f : Opening true us c cs g gs = fits_opening true us c cs g gs h in
    let o : Bare c g = may_bare us c g gs f.may in
    let r : sum (unit_counts cs) ≡ length (drop c.units us) = fits_units gs true cs (drop c.units us) (c.glyphs - 1) f.rest in
    omega (arith, o.none, rw length-drop at r)
fits_units (g ∷ gs) false (c ∷ cs) us zero h =
    let f : Opening false us c cs g gs = fits_opening false us c cs g gs h in
    let o : Opens us c g gs = may_opens us c g gs f.may in
    let r : sum (unit_counts cs) ≡ length (drop c.units us) = fits_units gs false cs (drop c.units us) (c.glyphs - 1) f.rest in
    omega (arith, o.inside, rw length-drop at r)

pub fits_glyphs : (gs : List Glyph) (bare : Bool) (cs : List Cluster) (us : List ℕ) (lack : ℕ) → fits bare lack us cs gs ≡ true
    → lack + sum (glyph_counts cs) ≡ length gs
fits_glyphs [] bare cs us lack h = let (a, b, c) = fits_nil bare lack us cs h in rw (a, b)
fits_glyphs (g ∷ gs) bare cs us (suc n) h =
    let r : n + sum (glyph_counts cs) ≡ length gs = fits_glyphs gs bare cs us n (fits_further bare n us cs g gs h).rest in
    omega arith
fits_glyphs (g ∷ gs) bare [] us zero h = clash (fits bare zero us [] (g ∷ gs)) h (unfold fits in refl)
fits_glyphs (g ∷ gs) true (c ∷ cs) us zero h =
    let f : Opening true us c cs g gs = fits_opening true us c cs g gs h in
    let o : Bare c g = may_bare us c g gs f.may in
    omega (arith, o.one, fits_glyphs gs true cs (drop c.units us) (c.glyphs - 1) f.rest)
fits_glyphs (g ∷ gs) false (c ∷ cs) us zero h =
    let f : Opening false us c cs g gs = fits_opening false us c cs g gs h in
    let o : Opens us c g gs = may_opens us c g gs f.may in
    omega (arith, o.some_glyphs, fits_glyphs gs false cs (drop c.units us) (c.glyphs - 1) f.rest)

-- ── a run's numbers and back ──

pub clusters_flat : (zs : List ℤ) → whole_clusters zs ≡ true → flat_clusters (clusters_of zs) ≡ zs
unfolding whole_clusters clusters_of flat_clusters
clusters_flat [] h = refl
clusters_flat (a ∷ []) h = absurd (false≢true h)
clusters_flat (pos a ∷ pos b ∷ zs) h = rw (clusters_flat zs h)
clusters_flat (pos a ∷ negsuc b ∷ zs) h = absurd (false≢true h)
clusters_flat (negsuc a ∷ b ∷ zs) h = absurd (false≢true h)

pub clusters_of_holds : (cs : List Cluster) → clusters_of (flat_clusters cs) ≡ cs
unfolding clusters_of flat_clusters
clusters_of_holds [] = refl
clusters_of_holds (c ∷ cs) = rw (clusters_of_holds cs)

pub clusters_whole : (cs : List Cluster) → whole_clusters (flat_clusters cs) ≡ true
unfolding whole_clusters flat_clusters
clusters_whole [] = refl
clusters_whole (c ∷ cs) = clusters_whole cs

pub length_clusters : (cs : List Cluster) → length (flat_clusters cs) ≡ 2 * length cs
unfolding flat_clusters
length_clusters [] = refl
length_clusters (c ∷ cs) = omega (arith, length_clusters cs)

pub length_glyphs : (gs : List Glyph) → length (flat_glyphs gs) ≡ 4 * length gs
unfolding flat_glyphs
length_glyphs [] = refl
length_glyphs (g ∷ gs) = omega (arith, length_glyphs gs)

index_number_holds : (z : ℤ) → choice z ≡ true → index_number (number_index z) ≡ z
index_number_holds (pos n) h = refl
index_number_holds (negsuc n) h = rw (eqb-true n 0 h)

advance_number_holds : (z : ℤ) → choice z ≡ true → advance_number (number_advance z) ≡ z
advance_number_holds (pos n) h = refl
advance_number_holds (negsuc n) h = rw (eqb-true n 0 h)

number_index_holds : (i : Index) → number_index (index_number i) ≡ i
number_index_holds (Named n) = refl
number_index_holds Font = refl

number_advance_holds : (a : Advance) → number_advance (advance_number a) ≡ a
number_advance_holds (Given n) = refl
number_advance_holds Own = refl

choice_index : (i : Index) → choice (index_number i) ≡ true
choice_index (Named n) = refl
choice_index Font = refl

choice_advance : (a : Advance) → choice (advance_number a) ≡ true
choice_advance (Given n) = refl
choice_advance Own = refl

pub glyphs_flat : (zs : List ℤ) → whole_glyphs zs ≡ true → flat_glyphs (glyphs_of zs) ≡ zs
unfolding whole_glyphs glyphs_of flat_glyphs
glyphs_flat [] h = refl
glyphs_flat (i ∷ []) h = absurd (false≢true h)
glyphs_flat (i ∷ a ∷ []) h = absurd (false≢true h)
glyphs_flat (i ∷ a ∷ u ∷ []) h = absurd (false≢true h)
glyphs_flat (i ∷ a ∷ u ∷ v ∷ zs) h =
    let p : (choice i && choice a) ≡ true = and_l (choice i && choice a) (whole_glyphs zs) h in
    rw (
      index_number_holds i (and_l (choice i) (choice a) p),
      advance_number_holds a (and_r (choice i) (choice a) p),
      glyphs_flat zs (and_r (choice i && choice a) (whole_glyphs zs) h),
    )

pub glyphs_of_holds : (gs : List Glyph) → glyphs_of (flat_glyphs gs) ≡ gs
unfolding glyphs_of flat_glyphs
glyphs_of_holds [] = refl
glyphs_of_holds (g ∷ gs) = rw (number_index_holds g.index, number_advance_holds g.advance, glyphs_of_holds gs)

pub glyphs_whole : (gs : List Glyph) → whole_glyphs (flat_glyphs gs) ≡ true
unfolding whole_glyphs flat_glyphs
glyphs_whole [] = refl
glyphs_whole (g ∷ gs) = rw (choice_index g.index, choice_advance g.advance) (glyphs_whole gs)

-- ── picks ──

-- the stretch between the clusters that hold the first and the last place
holding_whole : (ns to : List ℕ) (first end j k : ℕ) → first < end → In ns j first → In ns k (end - 1)
    → ClustersTouched ns to first end (stretch (part_start to j) (part_start to (suc k)))
holding_whole ns to first end j k h x y =
    let tj : Touches ns first end j = record { at = first; from = omega arith; below = h; is = x } in
    let tk : Touches ns first end k = record { at = end - 1; from = omega arith; below = omega arith; is = y } in
    record {
      low = j;
      high = k;
      low_touched = tj;
      high_touched = tk;
      starts = refl;
      ends = refl;
      holds = λ m t. (order ns first t.at j m t.from x t.is, order ns t.at (end - 1) m k (omega (arith, t.below)) t.is y);
      least = λ a b f. ((f j tj).0, (f k tk).1);
    }

-- a pick gives whole clusters
pub touched_whole : (cs : List Cluster) (first end : ℕ) → first < end → end ≤ sum (glyph_counts cs)
    → ClustersTouched (glyph_counts cs) (unit_counts cs) first end (touched first end cs)
unfolding touched
touched_whole cs first end h l =
    let (j, x) = find (glyph_counts cs) first (omega arith) in
    let (k, y) = find (glyph_counts cs) (end - 1) (omega arith) in
    rw (holding_is cs first 0 j x, holding_is cs (end - 1) 0 k y, zero-add (part_start (unit_counts cs) j), zero-add (part_start (unit_counts cs) (suc k)))
    (holding_whole (glyph_counts cs) (unit_counts cs) first end j k h x y)

pub turned_glyphs : (cs : List Cluster) → glyph_counts (turned cs) ≡ unit_counts cs
unfolding turned
turned_glyphs [] = refl
turned_glyphs (c ∷ cs) = rw (turned_glyphs cs)

pub turned_units : (cs : List Cluster) → unit_counts (turned cs) ≡ glyph_counts cs
unfolding turned
turned_units [] = refl
turned_units (c ∷ cs) = rw (turned_units cs)

-- ── the cluster map ──

pub map_sum : (g : ℕ) (cs : List Cluster) → length (cluster_map g cs) ≡ sum (unit_counts cs)
unfolding cluster_map
map_sum g [] = refl
map_sum g (c ∷ cs) = length-append (replicate c.units g) (cluster_map (g + c.glyphs) cs) ∙ rw (length-replicate c.units g, map_sum (g + c.glyphs) cs)

in_front : (n g k : ℕ) (r : List ℕ) → k < n → get_or (replicate n g ++ r) k 0 ≡ g
in_front zero g k r h = absurd (not-suc-le-zero h)
in_front (suc n) g zero r h = refl
in_front (suc n) g (suc k) r h = in_front n g k r (omega arith)

behind_it : (n g k : ℕ) (r : List ℕ) → n ≤ k → get_or (replicate n g ++ r) k 0 ≡ get_or r (k - n) 0
behind_it zero g k r h = let e : k - 0 ≡ k = omega arith in rw e
behind_it (suc n) g zero r h = absurd (not-suc-le-zero h)
behind_it (suc n) g (suc k) r h = let e : suc k - suc n ≡ k - n = omega arith in rw e (behind_it n g k r (omega arith))

-- the entry of a unit is the first glyph of its cluster
pub map_at : (cs : List Cluster) (g j k : ℕ) → In (unit_counts cs) j k → get_or (cluster_map g cs) k 0 ≡ g + part_start (glyph_counts cs) j
unfolding cluster_map
map_at [] g j k x = absurd (not-suc-le-zero x.exists)
map_at (c ∷ cs) g zero k x =
    let l : k < c.units = omega (arith, x.below) in
    in_front c.units g k (cluster_map (g + c.glyphs) cs) l ∙ omega arith
map_at (c ∷ cs) g (suc j) k x =
    let l : c.units ≤ k = omega (arith, x.from) in
    let y : In (unit_counts cs) j (k - c.units) = record {
      exists = omega (arith, x.exists);
      from = omega (arith, x.from);
      below = omega (arith, x.below, x.from);
    } in
    behind_it c.units g k (cluster_map (g + c.glyphs) cs) l ∙ map_at cs (g + c.glyphs) j (k - c.units) y ∙ omega arith
