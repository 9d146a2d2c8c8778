-- A run's places, as they are handed in and stored; and when places from any hand are those of a run that a label reads as.
-- Assumes nothing.
use Rattle.std.specs.Prelude.{ℕ, ◌≡◌, List, [], ◌∷◌, negsuc, pos, ℤ}
use Rattle.label.specs.Outcome.{ok}
use Rattle.label.specs.Run.{Run}
use Rattle.label.specs.Checks.{read}
use Rattle.label.specs.Wire.{from_halves, from_words}
use Rattle.label.specs.declared.Advance.{Advance}
use Rattle.label.specs.declared.Advance.TheVariants.{Given, Own}
use Rattle.label.specs.declared.Cluster.{Cluster}
use Rattle.label.specs.declared.Glyph.{Glyph}
use Rattle.label.specs.declared.Index.{Index}
use Rattle.label.specs.declared.Index.TheVariants.{Font, Named}

-- "index or −1 for the font"
abbrev pub index_number : Index → ℤ
index_number (Named n) = pos n
index_number Font = negsuc 0

-- "advance or −1"
abbrev pub advance_number : Advance → ℤ
advance_number (Given n) = pos n
advance_number Own = negsuc 0

-- "two a cluster (units, glyphs)"
unfoldable pub flat_clusters : List Cluster → List ℤ
flat_clusters [] = []
flat_clusters (c ∷ cs) = pos c.units ∷ pos c.glyphs ∷ flat_clusters cs

-- "four a glyph (index or −1 for the font, advance or −1, u, v)"
unfoldable pub flat_glyphs : List Glyph → List ℤ
flat_glyphs [] = []
flat_glyphs (g ∷ gs) = index_number g.index ∷ advance_number g.advance ∷ g.u ∷ g.v ∷ flat_glyphs gs

-- "A run is handed in as exactly its places": the bytes of its three buffers
pub record Places : Type 0 where
  pub units : List ℕ
  pub clusters : List ℕ
  pub glyphs : List ℕ

-- the places in these buffers
abbrev pub places : List ℕ → List ℕ → List ℕ → Places
places us cs gs = record { units = us; clusters = cs; glyphs = gs }

-- the places of a run: "one place a unit; two a cluster (units, glyphs); four a glyph"
abbrev pub places_of : Run → Places
places_of r = places (from_halves r.units) (from_words (flat_clusters r.clusters)) (from_words (flat_glyphs r.glyphs))

-- "some label that this paper accepts reads as it"
pub record Readable (p : Places) : Type 0 where
  pub run : Run
  pub text : List ℕ
  pub indices : List ℕ
  pub reads : read text indices ≡ ok run
  pub places_are : places_of run ≡ p
