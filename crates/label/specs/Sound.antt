-- The soundness test, computed: it holds exactly of the places that are `Readable` (`Demand2.sound_is`), and `run_of` is then the run that was read
-- (`Demand2.run_is`). The byte limits of 1 never bite: the normal writing of such a run is within them.
-- Assumes nothing.
use Rattle.std.specs.Prelude.{suc, zero, ℕ, ◌-◌, Bool, false, not, true, ◌&&◌, ◌||◌, List, [], ◌∷◌, eqb, leb, negsuc, pos, ℤ, drop, length}
use Rattle.label.specs.Limits.{max_units, max_glyphs, max_index, max_thousandths}
use Rattle.label.specs.Bytes.{empty}
use Rattle.label.specs.Text.{xml_char, is_high, is_low, is_pair}
use Rattle.label.specs.Run.{Run, named, given, cluster, keeps_pair}
use Rattle.label.specs.Fetched.{halves, words, even_bytes, word_bytes}
use Rattle.label.specs.Places.{Places}
use Rattle.label.specs.declared.Advance.{Advance}
use Rattle.label.specs.declared.Advance.TheVariants.{Given, Own}
use Rattle.label.specs.declared.Cluster.{Cluster}
use Rattle.label.specs.declared.Glyph.{Glyph}
use Rattle.label.specs.declared.Index.{Index}
use Rattle.label.specs.declared.Index.TheVariants.{Font, Named}

-- a number that is not below 0
abbrev pub natural : ℤ → Bool
natural (pos n) = true
natural (negsuc n) = false

-- the same, with −1 allowed
abbrev pub choice : ℤ → Bool
choice (pos n) = true
choice (negsuc n) = eqb n 0

-- "the lengths are whole clusters [...]"; counts are not below 0
unfoldable pub whole_clusters : List ℤ → Bool
whole_clusters [] = true
whole_clusters (a ∷ []) = false
whole_clusters (a ∷ b ∷ zs) = natural a && natural b && whole_clusters zs

-- "[...] and glyphs"; an index and an advance are not below −1
unfoldable pub whole_glyphs : List ℤ → Bool
whole_glyphs [] = true
whole_glyphs (i ∷ []) = false
whole_glyphs (i ∷ a ∷ []) = false
whole_glyphs (i ∷ a ∷ u ∷ []) = false
whole_glyphs (i ∷ a ∷ u ∷ v ∷ zs) = choice i && choice a && whole_glyphs zs

-- a count from its number
abbrev pub nat : ℤ → ℕ
nat (pos n) = n
nat (negsuc n) = 0

-- an index from its number, −1 for the font
abbrev pub number_index : ℤ → Index
number_index (pos n) = Named n
number_index (negsuc n) = Font

-- an advance likewise
abbrev pub number_advance : ℤ → Advance
number_advance (pos n) = Given n
number_advance (negsuc n) = Own

-- the clusters whose numbers these are
unfoldable pub clusters_of : List ℤ → List Cluster
clusters_of [] = []
clusters_of (a ∷ []) = []
clusters_of (a ∷ b ∷ zs) = cluster (nat a) (nat b) ∷ clusters_of zs

-- the glyphs whose numbers these are
unfoldable pub glyphs_of : List ℤ → List Glyph
glyphs_of [] = []
glyphs_of (i ∷ []) = []
glyphs_of (i ∷ a ∷ []) = []
glyphs_of (i ∷ a ∷ u ∷ []) = []
glyphs_of (i ∷ a ∷ u ∷ v ∷ zs) = record { index = number_index i; advance = number_advance a; u = u; v = v } ∷ glyphs_of zs

-- "units are well-formed XML characters": low halves exactly behind high ones; `half`: the unit before is a high half
unfoldable pub proper_units : Bool → List ℕ → Bool
proper_units half [] = not half
proper_units true (u ∷ us) = is_low u && proper_units false us
proper_units false (u ∷ us) = (is_high u || (leb u 65535 && xml_char u)) && proper_units (is_high u) us

-- a number without its sign
abbrev pub size : ℤ → ℕ
size (pos n) = n
size (negsuc n) = suc n

-- "limits hold": 8 does not hold of an index
abbrev pub index_fits : Index → Bool
index_fits (Named n) = leb n max_index
index_fits Font = true

-- 9 does not hold of an advance
abbrev pub advance_fits : Advance → Bool
advance_fits (Given n) = leb n max_thousandths
advance_fits Own = true

-- neither holds of a glyph's numbers
abbrev pub glyph_fits : Glyph → Bool
glyph_fits g = index_fits g.index && advance_fits g.advance && leb (size g.u) max_thousandths && leb (size g.v) max_thousandths

-- a glyph is "wholly the font's": so are its index and its advance, and both offsets are 0; it is `font_glyph` (law `font_is`)
abbrev pub is_font : Glyph → Bool
is_font g = not (named g.index) && not (given g.advance) && eqb (size g.u) 0 && eqb (size g.v) 0

-- "nothing but" such glyphs
unfoldable pub all_font : List Glyph → Bool
all_font [] = true
all_font (g ∷ gs) = is_font g && all_font gs

-- document 02, CR 4: "a pair in the tail is one cluster of 2 units and 1 glyph, wholly the font's. Such a cluster is sound only where nothing but clusters
-- wholly the font's follows"; the glyphs are its own and those behind it
abbrev pub tail_pair : List ℕ → Cluster → List Glyph → Bool
tail_pair us c gs = eqb c.units 2 && eqb c.glyphs 1 && is_pair us && all_font gs

-- a cluster with its first glyph, and the glyphs behind it, may stand before these units: 10, 12 and 13 do not hold of it, and its index is named, or it is
-- 1:1, or it is a pair of the tail; `bare`: the run has no units
abbrev pub may_open : Bool → List ℕ → Cluster → Glyph → List Glyph → Bool
may_open true us c g gs = eqb c.units 0 && eqb c.glyphs 1 && named g.index
may_open false us c g gs =
    leb 1 c.units && leb 1 c.glyphs && leb c.units (length us) && keeps_pair c.units us
    && (named g.index || (eqb c.units 1 && eqb c.glyphs 1) || tail_pair us c (g ∷ gs))

-- "counts add up": the clusters use up the units and the glyphs, each glyph is within its limits, each cluster may stand where it does and its further glyphs
-- name their indices; `lack` glyphs of the open cluster are still to come
unfoldable pub fits : Bool → ℕ → List ℕ → List Cluster → List Glyph → Bool
fits bare lack us cs [] = eqb lack 0 && empty cs && empty us
fits bare (suc n) us cs (g ∷ gs) = glyph_fits g && named g.index && fits bare n us cs gs
fits bare zero us [] (g ∷ gs) = false
fits bare zero us (c ∷ cs) (g ∷ gs) = glyph_fits g && may_open bare us c g gs && fits bare (c.glyphs - 1) (drop c.units us) cs gs

-- "units are well-formed XML characters, counts add up, limits hold, it is not empty"
unfoldable pub sound_run : Run → Bool
sound_run r =
    proper_units false r.units && leb (length r.units) max_units && leb (length r.glyphs) max_glyphs
    && not (empty r.units && empty r.glyphs) && fits (empty r.units) 0 r.units r.clusters r.glyphs

-- the run that these places name
abbrev pub run_of : Places → Run
run_of p = record { units = halves p.units; clusters = clusters_of (words p.clusters); glyphs = glyphs_of (words p.glyphs) }

-- "left-over bytes of an output hold no place, and a run handed in with some is one that no label reads as, so not sound"
abbrev pub no_left_over : Places → Bool
no_left_over p = even_bytes p.units && word_bytes p.clusters && word_bytes p.glyphs

-- "It is sound when it obeys every rule above"
unfoldable pub sound : Places → Bool
sound p = no_left_over p && (whole_clusters (words p.clusters) && whole_glyphs (words p.glyphs) && sound_run (run_of p))
