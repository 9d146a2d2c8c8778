-- "Clusters": the run that a label says.
-- Assumes nothing.
use Rattle.std.specs.Prelude.{ℕ, suc, ◌+◌, ◌-◌, Bool, true, false, cond, not, ◌&&◌, ◌||◌, List, [], ◌∷◌, eqb, pos, get_or, drop}
use Rattle.label.specs.Bytes.{empty}
use Rattle.label.specs.Text.{is_low, is_pair, said_units}
use Rattle.label.specs.Entry.{Entry, entry_of, entries}
use Rattle.label.specs.declared.Index.{Index}
use Rattle.label.specs.declared.Index.TheVariants.{Named, Font}
use Rattle.label.specs.declared.Advance.{Advance}
use Rattle.label.specs.declared.Advance.TheVariants.{Given, Own}
use Rattle.label.specs.declared.Glyph.{Glyph}
use Rattle.label.specs.declared.Cluster.{Cluster}

-- "A run is the units, clusters and glyph records, in order." Two runs are equal when they are ≡: same units, clusters and records in the same order.
pub record Run : Type 0 where
  pub units : List ℕ
  pub clusters : List Cluster
  pub glyphs : List Glyph

-- the clusters and the glyphs of a stretch of entries
pub record Parts : Type 0 where
  pub clusters : List Cluster
  pub glyphs : List Glyph

-- "The index is either named by the label or chosen by the font": it is named
abbrev pub named : Index → Bool
named (Named n) = true
named Font = false

-- "the advance is either given or the font's own": it is given
abbrev pub given : Advance → Bool
given (Given n) = true
given Own = false

-- wholly the font's
abbrev pub font_glyph : Glyph
font_glyph = record { index = Font; advance = Own; u = pos 0; v = pos 0 }

-- "A cluster has a count of units and a count of glyphs."
abbrev pub cluster : ℕ → ℕ → Cluster
cluster a b = record { units = a; glyphs = b }

-- a glyph before the others, and before it a cluster where it opens one
abbrev pub add_glyph : Bool → Cluster → Glyph → Parts → Parts
add_glyph true c g p = record { clusters = c ∷ p.clusters; glyphs = g ∷ p.glyphs }
add_glyph false c g p = record { clusters = p.clusters; glyphs = g ∷ p.glyphs }

-- "A cluster may not end between the halves of a pair": the unit behind its a units is no low half
abbrev pub keeps_pair : ℕ → List ℕ → Bool
keeps_pair a us = not (is_low (get_or us a 0))

-- "When entries end before the text, each unit left is a 1:1 cluster, all chosen by the font: this is the unwritten tail." But of a pair, which document 01
-- refuses there, document 02, CR 4, has: "Now a pair in the tail is one cluster of 2 units and 1 glyph, wholly the font's."
unfoldable pub tail : List ℕ → Parts
tail [] = record { clusters = []; glyphs = [] }
tail (u ∷ []) = add_glyph true (cluster 1 1) font_glyph (tail [])
tail (u ∷ v ∷ us) = cond (is_pair (u ∷ v ∷ us)) (add_glyph true (cluster 2 1) font_glyph (tail us)) (add_glyph true (cluster 1 1) font_glyph (tail (v ∷ us)))

-- Where the walk over the entries stands: the number of the next entry, the units used and those not used yet, the glyphs that the open cluster
-- still lacks, and the entry that opened it. Beside it goes `bare`: the text has no units.
pub record State : Type 0 where
  pub k : ℕ
  pub at : ℕ
  pub rest : List ℕ
  pub lack : ℕ
  pub opener : ℕ

-- before the first entry: "bytes, units, entries and glyphs are numbered from 0"
abbrev pub start_state : List ℕ → State
start_state us = record { k = 0; at = 0; rest = us; lack = 0; opener = 0 }

-- no cluster is open, so the entry opens one: "An entry with map `(a:b)` opens a cluster of a units and b glyphs"; "An entry without a map, outside such
-- a cluster, is a cluster 1:1"
abbrev pub opens : State → Bool
opens st = eqb st.lack 0

-- the entry opens a cluster of a text that has units; `bare`: the text has none
abbrev pub opens_units : Bool → State → Bool
opens_units bare st = opens st && not bare

-- how many units the entry takes: those of the cluster that it opens; "In a text of no units (house) [...] it is a cluster of 0
-- units and 1 glyph"
abbrev pub takes : Bool → State → Entry → ℕ
takes bare st e = cond (opens_units bare st) e.units 0

-- "the next b − 1 entries are its further glyphs and must each name an index and carry no map"; "In a text of no units (house) each entry must
-- name an index and carry no map"
abbrev pub allowed : Bool → State → Entry → Bool
allowed bare st e = opens_units bare st || (not e.mapped && named e.glyph.index)

-- "Each cluster holds the units and the glyphs next after those of the clusters before it, as many as its two counts say."
abbrev pub next : Bool → State → Entry → State
next bare st e =
    record {
      k = suc st.k;
      at = st.at + takes bare st e;
      rest = drop (takes bare st e) st.rest;
      lack = cond (opens st) (e.glyphs - 1) (st.lack - 1);
      opener = cond (opens st) st.k st.opener;
    }

-- ── what a label says ──

-- the clusters and glyphs that the entries say, the tail included
unfoldable pub walk_parts : Bool → State → List (List ℕ) → Parts
walk_parts bare st [] = tail st.rest
walk_parts bare st (s ∷ ss) =
    add_glyph (opens st) (cluster (takes bare st (entry_of s)) (entry_of s).glyphs) (entry_of s).glyph (walk_parts bare (next bare st (entry_of s)) ss)

-- the clusters and the glyphs that these units and indices say
abbrev pub said_parts : List ℕ → List ℕ → Parts
said_parts us indices = walk_parts (empty us) (start_state us) (entries indices)

-- units with such parts make a run
abbrev pub run_with : List ℕ → Parts → Run
run_with us p = record { units = us; clusters = p.clusters; glyphs = p.glyphs }

-- the run that a label says
unfoldable pub said_run : List ℕ → List ℕ → Run
said_run text indices = run_with (said_units text) (said_parts (said_units text) indices)
