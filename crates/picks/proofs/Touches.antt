-- The walk over the clusters, for both ways of a pick: what is touched from a cluster on, and what the clusters from it on add up to.
-- Assumes nothing.
use Rattle.std.proofs.Common.{◌≡◌, ℕ, ◌+◌, ◌-◌, ◌<◌, ◌≤◌, cond, List, [], ◌∷◌, ℤ, map, refl, arith}
use native.Mathlib.Nat.{sub-zero, sub-add-eq}
use borrow.Author.Tests.{le-leb, lt-leb, lt-ltb, le-ltb, leb-true, leb-false, ltb-true, ltb-false}
use lib.Dec.{leb, ltb}
use Rattle.label.specs.Sound.{clusters_of}
use Rattle.label.specs.Pick.{stretch, holding, touched, turned}
use Rattle.label.specs.declared.Cluster.{Cluster}
use Rattle.label.specs.declared.Stretch.{Stretch}
use Rattle.label.proofs.Basics.{cases}
use Rattle.picks.specs.declared.Way.{Way}
use Rattle.picks.specs.declared.Way.TheVariants.{ToUnits, ToGlyphs}
use Rattle.picks.specs.Ways.{along, turn}
use Rattle.sound.specs.Sounds.{unit_sum}
use Rattle.wire.specs.Numbers.{as_cluster}
use Rattle.wire.specs.Walks.{clusters_in}
use Rattle.wire.specs.declared.ClusterNumbers.{ClusterNumbers}
use Rattle.wire.proofs.Walks.{clusters_are}
use Rattle.std.proofs.lemmas.Bool.Decides.{nat_tests}

-- ── the clusters from one on, either way ──

along_first : (w : Way) (c : Cluster) (cs : List Cluster) → along w (c ∷ cs) ≡ turn w c ∷ along w cs
unfolding along turned
along_first ToUnits c cs = refl
along_first ToGlyphs c cs = refl

-- those that a walk has left
unfoldable pub rest : Way → List ClusterNumbers → List Cluster
rest w l = along w (map as_cluster l)

-- ── the walk ──

-- what is touched, from the clusters l on; before them stand n counted and u added, and `s` is where the stretch starts if that was before them
unfoldable pub touched_from : ℕ → ℕ → List Cluster → ℕ → ℕ → ℕ → Stretch
touched_from first end l n u s = stretch (cond (leb n first) (holding (first - n) u l).first s) (holding (end - 1 - n) u l).end

module _ (first end : ℕ) where
  touched_start : (l : List Cluster) (s : ℕ) → touched first end l ≡ touched_from first end l 0 0 s
  unfolding touched touched_from
  touched_start l s = rw (le-leb 0 first (omega arith), sub-zero first, sub-zero (end - 1))

  module _ (c : Cluster) (l : List Cluster) (n u s : ℕ) where
    -- the cluster holds the last one picked
    touched_stop : first < end → n < end → end ≤ n + c.glyphs → touched_from first end (c ∷ l) n u s ≡ stretch (cond (leb n first) u s) (u + c.units)
    unfolding touched_from holding
    touched_stop f h e =
        rw (lt-ltb (end - 1 - n) c.glyphs (omega arith))
        (cases (leb n first)
        (λ t. let g = leb-true n first t in rw (t, lt-ltb (first - n) c.glyphs (omega arith)))
        (λ t. rw t))

    -- it stands before that one
    touched_on : n + c.glyphs < end → touched_from first end (c ∷ l) n u s ≡ touched_from first end l (n + c.glyphs) (u + c.units) (cond (leb n first) u s)
    unfolding touched_from holding
    touched_on e =
        rw (le-ltb (end - 1 - n) c.glyphs (omega arith), ← sub-add-eq (end - 1) n c.glyphs, ← sub-add-eq first n c.glyphs)
        (cases (leb n first)
        (λ t. let g = leb-true n first t in
        cases (ltb (first - n) c.glyphs)
        (λ d. let k = ltb-true (first - n) c.glyphs d in rw (t, d, lt-leb (n + c.glyphs) first (omega arith)))
        (λ d. let k = ltb-false (first - n) c.glyphs d in rw (t, d, le-leb (n + c.glyphs) first (omega arith))))
        (λ t. let g = leb-false n first t in rw (t, lt-leb (n + c.glyphs) first (omega arith))))

-- ── from a cluster on ──

module _ (w : Way) where
  pub all_left : (z : List ℤ) → rest w (clusters_in z) ≡ along w (clusters_of z)
  unfolding rest
  all_left z = rw (clusters_are z)

  pub starts : (z : List ℤ) (first end : ℕ) → touched first end (along w (clusters_of z)) ≡ touched_from first end (rest w (clusters_in z)) 0 0 0
  starts z first end = rw (all_left z) (touched_start first end (along w (clusters_of z)) 0)

  module _ (c : ClusterNumbers) (l : List ClusterNumbers) where
    -- the next cluster, as the way takes it
    abbrev next : Cluster
    next = turn w (as_cluster c)

    rest_is : rest w (c ∷ l) ≡ next ∷ rest w l
    unfolding rest
    rest_is = along_first w (as_cluster c) (map as_cluster l)

    pub added : unit_sum (rest w (c ∷ l)) ≡ next.units + unit_sum (rest w l)
    unfolding unit_sum
    added = rw rest_is

    pub counted : unit_sum (turned (rest w (c ∷ l))) ≡ next.glyphs + unit_sum (turned (rest w l))
    unfolding unit_sum turned
    counted = rw rest_is

    module _ (first end passed at s : ℕ) where
      pub stops : first < end → passed < end → end ≤ passed + next.glyphs
          → touched_from first end (rest w (c ∷ l)) passed at s ≡ stretch (cond (leb passed first) at s) (at + next.units)
      stops f p e = rw rest_is (touched_stop first end next (rest w l) passed at s f p e)

      pub goes : passed + next.glyphs < end
          → touched_from first end (rest w (c ∷ l)) passed at s
          ≡ touched_from first end (rest w l) (passed + next.glyphs) (at + next.units) (cond (leb passed first) at s)
      goes e = rw rest_is (touched_on first end next (rest w l) passed at s e)

-- behind the last cluster nothing is left
pub none_left : (w : Way) → unit_sum (turned (rest w [])) ≡ 0
unfolding unit_sum turned along rest
none_left ToUnits = refl
none_left ToGlyphs = refl

pub ruleset walk = (starts, all_left, added, counted, stops, goes, none_left, nat_tests)
