-- What the second pass stores: the places of an entry's cluster and of its glyph.
-- Assumes nothing.
use Rattle.std.specs.Prelude.{ℕ, ◌+◌, ◌-◌, ◌*◌, ◌/◌, ◌≤◌, ◌<◌, ◌≡◌, cond, List, [], ◌++◌, eqb}
use Rattle.label.specs.Limits.{max_units}
use Rattle.label.specs.Outcome.{ok}
use Rattle.label.specs.Run.{cluster}
use Rattle.label.specs.Steps.{run_from}
use Rattle.label.specs.Wire.{four_bytes, from_words}
use Rattle.label.specs.Places.{flat_clusters, flat_glyphs}
use Rattle.label.specs.Calls.{counted}
use Rattle.label.specs.declared.Counts.{Counts}
use Rattle.label.specs.declared.Cluster.{Cluster}
use Rattle.label.specs.declared.Glyph.{Glyph}
use Rattle.entry.specs.declared.Item.{Item}
use Rattle.reader.specs.declared.Stored.{Stored}

-- the bytes of clusters and of glyphs
unfoldable pub cluster_bytes : List Cluster → List ℕ
cluster_bytes cs = from_words (flat_clusters cs)

unfoldable pub glyph_bytes : List Glyph → List ℕ
glyph_bytes gs = from_words (flat_glyphs gs)

-- a cluster's 8 bytes
unfoldable pub cluster_places : Cluster → List ℕ
cluster_places c = four_bytes c.units ++ four_bytes c.glyphs

-- what is stored behind a cluster of a units and b glyphs and the first of these
abbrev pub opened : Stored → ℕ → ℕ → Stored
opened at a b = record { clusters = at.clusters + 1; glyphs = at.glyphs + 1; units = at.units + a; lack = b - 1 }

-- and behind a further glyph
abbrev pub added : Stored → Stored
added at = record { clusters = at.clusters; glyphs = at.glyphs + 1; units = at.units; lack = at.lack - 1 }

-- the units of the cluster that entry x opens in a text of `count` units: its own, where there are any
abbrev pub taken : ℕ → Item → ℕ
taken count x = cond (eqb count 0) 0 x.units

-- what is stored behind entry x, which opens a cluster where none is open
abbrev pub behind : ℕ → Stored → Item → Stored
behind count at x = cond (eqb at.lack 0) (opened at (taken count x) x.glyphs) (added at)

-- the bytes of its cluster, if it opens one
abbrev pub cluster_opened : ℕ → Stored → Item → List ℕ
cluster_opened count at x = cond (eqb at.lack 0) (cluster_places (cluster (taken count x) x.glyphs)) []

-- there is room for what entry x stores in m bytes of clusters and n of glyphs, and its counts can be stored
pub record Opens (count : ℕ) (at : Stored) (x : Item) (m : ℕ) : Type 0 where
  pub units : taken count x < 2147483648
  pub glyphs : x.glyphs < 2147483648
  pub inside : at.units + taken count x ≤ max_units
  pub room : at.clusters < m / 8

pub record Storable (count : ℕ) (at : Stored) (x : Item) (m n : ℕ) : Type 0 where
  pub cluster : at.lack ≡ 0 → Opens count at x m
  pub glyph : at.glyphs < n / 16

-- a text of these units with these indices is accepted, and its run fits into u bytes of units, c of clusters and g of glyphs
pub record Fillable (us indices : List ℕ) (u c g : ℕ) : Type 0 where
  pub counts : Counts
  pub are : counted (run_from us indices) ≡ ok counts
  pub units_room : 2 * counts.units ≤ u
  pub clusters_room : 8 * counts.clusters ≤ c
  pub glyphs_room : 16 * counts.glyphs ≤ g
