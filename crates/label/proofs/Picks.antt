-- What `holding` finds is the stretch of the cluster that holds the glyph: by induction over the clusters.
-- Assumes nothing.
use Prim.Native.Nat.{ℕ, zero, suc, ◌+◌, ◌-◌, ◌≤◌, ◌<◌}
use native.Mathlib.Omega.{arith}
use native.Mathlib.Nat.{not-suc-le-zero}
use mathlib.Core.Path.{◌≡◌, ◌∙◌}
use mathlib.Core.List.{List, [], ◌∷◌}
use borrow.Author.Tests.{lt-ltb, le-ltb}
use Rattle.label.specs.Pick.{stretch, holding}
use Rattle.label.specs.Statements.Demands.{part_start, In, unit_counts, glyph_counts}
use Rattle.label.specs.declared.Cluster.{Cluster}

pub holding_is : (cs : List Cluster) (n u j : ℕ) → In (glyph_counts cs) j n
    → holding n u cs ≡ stretch (u + part_start (unit_counts cs) j) (u + part_start (unit_counts cs) (suc j))
unfolding holding
holding_is [] n u j x = absurd (not-suc-le-zero x.exists)
holding_is (c ∷ cs) n u zero x =
    let l : n < c.glyphs = omega (arith, x.below) in
    let a : u + 0 ≡ u = omega arith in
    let b : u + (c.units + 0) ≡ u + c.units = omega arith in
    rw (lt-ltb n c.glyphs l, a, b)
holding_is (c ∷ cs) n u (suc j) x =
    let l : c.glyphs ≤ n = omega (arith, x.from) in
    let y : In (glyph_counts cs) j (n - c.glyphs) = record {
      exists = omega (arith, x.exists);
      from = omega (arith, x.from);
      below = omega (arith, x.below, x.from);
    } in
    let a : u + c.units + part_start (unit_counts cs) j ≡ u + (c.units + part_start (unit_counts cs) j) = omega arith in
    let b : u + c.units + part_start (unit_counts cs) (suc j) ≡ u + (c.units + part_start (unit_counts cs) (suc j)) = omega arith in
    rw (le-ltb n c.glyphs l) (holding_is cs (n - c.glyphs) (u + c.units) j y ∙ rw (a, b))
