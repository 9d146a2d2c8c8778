-- The soundness test as the code takes it: one walk over clusters and glyphs, the tail's glyphs tested as they come.
-- Assumes nothing.
use Rattle.std.specs.Prelude.{ℕ, ◌+◌, Bool, not, ◌&&◌, ◌||◌, List, [], ◌∷◌, ℤ, length, eqb, Option, Some, None}
use Rattle.label.specs.Bytes.{empty}
use Rattle.label.specs.Run.{named}
use Rattle.label.specs.Sound.{nat, whole_clusters, whole_glyphs, clusters_of, glyphs_of, is_font, fits}
use Rattle.label.specs.declared.Cluster.{Cluster}
use Rattle.rules.specs.Rules.{glyph_ok, opens_at, owes}
use Rattle.wire.specs.Numbers.{as_cluster, as_glyph}
use Rattle.wire.specs.declared.ClusterNumbers.{ClusterNumbers}
use Rattle.wire.specs.declared.EntryNumbers.{EntryNumbers}
use Rattle.wire.specs.declared.GlyphNumbers.{GlyphNumbers}
use Rattle.sound.specs.declared.Walk.{Walk}

-- what the walk over clusters and glyphs tests
unfoldable pub well_run : List ℕ → List ℤ → List ℤ → Bool
well_run us cs gs = whole_clusters cs && (whole_glyphs gs && fits (empty us) 0 us (clusters_of cs) (glyphs_of gs))

-- the cluster that a glyph opens may stand where the walk stands; where it opens none, it names its index
abbrev pub stands : List ℕ → Walk → GlyphNumbers → Option ClusterNumbers → Bool
stands us w g None = named (as_glyph g).index
stands us w g (Some c) = opens_at us w.units c g

-- an entry may stand where the walk stands
unfoldable pub may_stand : List ℕ → Walk → EntryNumbers → Bool
may_stand us w x = glyph_ok x.glyph && (not w.tail || is_font (as_glyph x.glyph)) && stands us w x.glyph x.cluster

-- the walk behind a glyph and the cluster that it opens, if any
abbrev pub opened : Walk → GlyphNumbers → Option ClusterNumbers → Walk
opened w g None = w
opened w g (Some c) =
    record {
      units = w.units + nat c.units;
      clusters = w.clusters + 1;
      glyphs = w.glyphs + nat c.glyphs;
      tail = w.tail || owes (as_cluster c) (as_glyph g);
    }

-- the walk behind an entry
abbrev pub behind : Walk → EntryNumbers → Walk
behind w x = opened w x.glyph x.cluster

-- what is left of the test where the walk stands before these entries, in a run of m clusters and n glyphs: each may stand where it comes, and behind the
-- last all is used up
unfoldable pub walked : List ℕ → ℕ → ℕ → Walk → List EntryNumbers → Bool
walked us m n w [] = eqb w.units (length us) && eqb w.clusters m && eqb w.glyphs n
walked us m n w (x ∷ l) = may_stand us w x && walked us m n (behind w x) l

-- the units of all these clusters
unfoldable pub unit_sum : List Cluster → ℕ
unit_sum [] = 0
unit_sum (c ∷ cs) = c.units + unit_sum cs
