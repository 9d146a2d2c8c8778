-- Document 02, CR 4: what pairs in the unwritten tail promise. The three demands speak of these labels as of all others; what is of the tail alone stands here.
-- proofs/Statements/Tail.antt has a value of the record.
-- Assumes nothing.
use Rattle.std.specs.Prelude.{ℕ, ◌+◌, ◌≡◌, Bool, true, false, List, [], ◌∷◌, ◌++◌, length}
use Rattle.label.specs.Outcome.{ok, no, verdict}
use Rattle.label.specs.Bytes.{empty}
use Rattle.label.specs.Text.{is_pair, said_units}
use Rattle.label.specs.Entry.{entry_part, has_map, entry_of, entries}
use Rattle.label.specs.Run.{font_glyph, cluster, add_glyph, keeps_pair, tail, State, start_state, opens, opens_units, next}
use Rattle.label.specs.Checks.{entry_checks, walk_checks, read}
use Rattle.label.specs.Places.{Places}
use Rattle.label.specs.Sound.{all_font, run_of, sound}
use Rattle.label.specs.Write.{indices_of}
use Rattle.label.specs.Statements.Demands.{part_start, glyph_counts}
use Rattle.label.specs.declared.Glyph.{Glyph}
use Rattle.label.specs.declared.Cluster.{Cluster}

-- where the walk stands behind these entries
unfoldable pub state_behind : Bool → State → List (List ℕ) → State
state_behind bare st [] = st
state_behind bare st (s ∷ ss) = state_behind bare (next bare st (entry_of s)) ss

-- one of these entries opens a cluster in a text that has units, and the cluster ends inside the pair whose low half is unit p; `bare`: the text has none
pub record SplitByEntry (bare : Bool) (st : State) (ss : List (List ℕ)) (p : ℕ) : Type 0 where
  pub earlier : List (List ℕ)
  pub it : List ℕ
  pub later : List (List ℕ)
  pub in_order : ss ≡ earlier ++ (it ∷ later)
  pub opens_there : opens_units bare (state_behind bare st earlier) ≡ true
  pub splits : keeps_pair (entry_of it).units (state_behind bare st earlier).rest ≡ false
  pub place : (state_behind bare st earlier).at + (entry_of it).units ≡ p

-- these glyphs are as many as the clusters' counts of glyphs say
abbrev pub OwnGlyphs : List Cluster → List Glyph → Type 0
OwnGlyphs cs gs = part_start (glyph_counts cs) (length cs) ≡ length gs

-- CR 4, sentence by sentence
pub record Tail : Type 0 where
  -- "a pair in the tail is one cluster of 2 units and 1 glyph, wholly the font's"; every other unit left is one of 1 and 1
  pub pair : (u v : ℕ) (us : List ℕ) → is_pair (u ∷ v ∷ us) ≡ true → tail (u ∷ v ∷ us) ≡ add_glyph true (cluster 2 1) font_glyph (tail us)
  pub other : (u : ℕ) (us : List ℕ) → is_pair (u ∷ us) ≡ false → tail (u ∷ us) ≡ add_glyph true (cluster 1 1) font_glyph (tail us)
  -- "Such a cluster is sound only where nothing but clusters wholly the font's follows": wherever one stands in a sound run, all glyphs behind its own are
  pub last : (z : Places) (cs ds : List Cluster) (gs hs : List Glyph) → sound z ≡ true → (run_of z).clusters ≡ cs ++ (cluster 2 1 ∷ ds)
      → (run_of z).glyphs ≡ gs ++ (font_glyph ∷ hs) → OwnGlyphs cs gs → all_font hs ≡ true
  -- "and the normal writing drops it like them": clusters wholly the font's at the end change no byte of the indices
  pub drops : (cs ds : List Cluster) (gs hs : List Glyph) → OwnGlyphs cs gs → all_font hs ≡ true → indices_of (cs ++ ds) (gs ++ hs) ≡ indices_of cs gs
  -- "An entry without a map at a pair is still refused with 13", at the pair's low half: where the walk stands before a pair and no cluster is open
  pub unmapped : (st : State) (s : List ℕ) (ss : List (List ℕ)) → opens st ≡ true → is_pair st.rest ≡ true → verdict (entry_checks st.k s) ≡ ok tt
      → has_map (entry_part 0 s) ≡ false → verdict (walk_checks false st (s ∷ ss)) ≡ no 13 (st.at + 1)
  -- "which the tail no longer gives": every 13 is of a cluster that an entry opens
  pub thirteen : (t i : List ℕ) (p : ℕ) → read t i ≡ no 13 p → SplitByEntry (empty (said_units t)) (start_state (said_units t)) (entries i) p
