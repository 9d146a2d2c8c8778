-- The three demands, stated on the definitions that the contracts of the calls cite: a record for each, whose fields are its sentences.
-- proofs/Statements/Demands.antt has a value of each record.
-- Assumes nothing.
use Rattle.std.specs.Prelude.{suc, zero, ℕ, ◌*◌, ◌+◌, ◌<◌, ◌≤◌, ◌≡◌, ◌↔◌, Bool, false, true, ◌&&◌, List, [], ◌++◌, ◌∷◌, ltb, get_or, length, replicate, take}
use Rattle.label.specs.Outcome.{Outcome, ok, no}
use Rattle.label.specs.Statements.Memory.{refuses, GivenBy}
use Rattle.label.specs.Run.{Run, said_run}
use Rattle.label.specs.Checks.{label_checks, read}
use Rattle.label.specs.Places.{Places, places, places_of, Readable}
use Rattle.label.specs.Sound.{run_of, sound}
use Rattle.label.specs.Write.{Label, normal}
use Rattle.label.specs.Pick.{pick_checks, pick_units, pick_glyphs}
use Rattle.label.specs.Calls.{filled, room_of, buffer_checks, read_checks, read_into, counts, counted, units_after, clusters_after, glyphs_after, said_label, output_checks, write_checks, write_into, outputs, lengths_of, lengths, text_after, indices_after}
use Rattle.label.specs.Statements.Memory.{Kept}
use Rattle.label.specs.declared.Cluster.{Cluster}
use Rattle.label.specs.declared.Counts.{Counts}
use Rattle.label.specs.declared.Lengths.{Lengths}
use Rattle.label.specs.declared.Stretch.{Stretch}

-- ── parts by their counts ──

-- the first place of part j, where the parts have these counts
abbrev pub part_start : List ℕ → ℕ → ℕ
part_start ns zero = 0
part_start [] (suc j) = 0
part_start (n ∷ ns) (suc j) = n + part_start ns j

-- place i is in part j
pub record In (ns : List ℕ) (j i : ℕ) : Type 0 where
  pub exists : j < length ns
  pub from : part_start ns j ≤ i
  pub below : i < part_start ns (suc j)

-- each of the first n places is in exactly one part, in order, and no other place is in any
pub record Divided (n : ℕ) (ns : List ℕ) : Type 0 where
  pub every : (i : ℕ) → i < n → (j : ℕ) × In ns j i
  pub once : (i j k : ℕ) → In ns j i → In ns k i → j ≡ k
  pub ordered : (i i' j k : ℕ) → i ≤ i' → In ns j i → In ns k i' → j ≤ k
  pub no_more : (i j : ℕ) → In ns j i → i < n

-- the clusters' counts of units
abbrev pub unit_counts : List Cluster → List ℕ
unit_counts [] = []
unit_counts (c ∷ cs) = c.units ∷ unit_counts cs

-- and of glyphs
abbrev pub glyph_counts : List Cluster → List ℕ
glyph_counts [] = []
glyph_counts (c ∷ cs) = c.glyphs ∷ glyph_counts cs

-- cluster m is touched by the stretch of places from `first` to `end`, by these counts
pub record Touches (ns : List ℕ) (first end m : ℕ) : Type 0 where
  pub at : ℕ
  pub from : first ≤ at
  pub below : at < end
  pub is : In ns m at

-- s is the stretch of whole clusters, counted by `to`, that the stretch from `first` to `end`, counted by `ns`, touches
pub record ClustersTouched (ns to : List ℕ) (first end : ℕ) (s : Stretch) : Type 0 where
  -- it goes from the start of a touched cluster to the end of a touched cluster
  pub low : ℕ
  pub high : ℕ
  pub low_touched : Touches ns first end low
  pub high_touched : Touches ns first end high
  pub starts : s.first ≡ part_start to low
  pub ends : s.end ≡ part_start to (suc high)
  -- it holds every touched cluster
  pub holds : (m : ℕ) → Touches ns first end m → (low ≤ m) × (m ≤ high)
  -- and every stretch that does holds it
  pub least : (a b : ℕ) → ((m : ℕ) → Touches ns first end m → (a ≤ part_start to m) × (part_start to (suc m) ≤ b)) → (a ≤ s.first) × (s.end ≤ b)

-- ── large enough ──

-- "Buffers are large enough when 16 to 18 [...] don't hold" (`Demand3.large`)
pub record Roomy (r : Run) (room : Counts) : Type 0 where
  pub for_units : length r.units ≤ room.units
  pub for_clusters : length r.clusters ≤ room.clusters
  pub for_glyphs : length r.glyphs ≤ room.glyphs

-- "for the writer 20 and 21" (`Demand3.large_outputs`)
pub record RoomyFor (l : Label) (room : Lengths) : Type 0 where
  pub for_text : length l.text ≤ room.text
  pub for_indices : length l.indices ≤ room.indices

-- ── bytes ──

-- numbers of 8 bits
unfoldable pub all_bytes : List ℕ → Bool
all_bytes [] = true
all_bytes (b ∷ bs) = ltb b 256 && all_bytes bs

-- a run handed in is bytes: true of every slice of u8, so that it takes no case away from a call
abbrev pub in_bytes : Places → Bool
in_bytes p = all_bytes p.units && all_bytes p.clusters && all_bytes p.glyphs

-- ── demand 1 ──

-- what a reading stores of a run in the three buffers
abbrev pub stored_run : Run → List (List ℕ)
stored_run r = (places_of r).units ∷ (places_of r).clusters ∷ (places_of r).glyphs ∷ []

-- the three buffers after a reading
abbrev pub buffers_after : Outcome Run → List ℕ → List ℕ → List ℕ → List (List ℕ)
buffers_after o us cs gs = units_after o us ∷ clusters_after o cs ∷ glyphs_after o gs ∷ []

-- what a writing stores of a label in the two outputs
abbrev pub stored_label : Label → List (List ℕ)
stored_label l = l.text ∷ l.indices ∷ []

-- the outputs after a writing
abbrev pub outputs_after : Outcome Label → List ℕ → List ℕ → List (List ℕ)
outputs_after o tx ix = text_after o tx ∷ indices_after o ix ∷ []

-- demand 1, sentence by sentence
pub record Demand1 : Type 0 where
  -- "The lent memory holds, after a reading, either the complete run of the label or exactly what it held before, for every text and every indices bytes,
  -- of any length."
  pub memory : (t i us cs gs : List ℕ)
      → Kept (read_checks (room_of us cs gs) t i) (said_run t i) stored_run (read_into (room_of us cs gs) t i) (us ∷ cs ∷ gs ∷ [])
      (buffers_after (read_into (room_of us cs gs) t i) us cs gs)
  -- "A refusal is a number and a place fixed by document 01": it is given exactly when its cause holds and no earlier one of the table does.
  pub fixed : (room : Counts) (t i : List ℕ) (n p : ℕ) → (read_into room t i ≡ no n p) ↔ GivenBy (read_checks room t i) n p
  -- "The same holds for the writer's buffers, and for any run handed to it, sound or not."
  pub writer_memory : (z : Places) (tx ix : List ℕ)
      → Kept (write_checks false (outputs tx ix) z) (said_label false z) stored_label (write_into (outputs tx ix) z) (tx ∷ ix ∷ [])
      (outputs_after (write_into (outputs tx ix) z) tx ix)
  pub writer_fixed : (room : Lengths) (z : Places) (n p : ℕ) → (write_into room z ≡ no n p) ↔ GivenBy (write_checks false room z) n p

-- ── demand 2 ──

-- ECMA-388, 12.1.2: "The cluster map contains one entry for each UTF-16 code unit [...]. Each entry specifies the offset of the first glyph that represents
-- the cluster of UTF-16 code units." g glyphs stand before these clusters.
unfoldable pub cluster_map : ℕ → List Cluster → List ℕ
cluster_map g [] = []
cluster_map g (c ∷ cs) = replicate c.units g ++ cluster_map (g + c.glyphs) cs

-- the outcome o of a pick is the stretch of whole clusters that the stretch from `first` to `end` touches
abbrev pub PicksWhole : List ℕ → List ℕ → ℕ → ℕ → Outcome Stretch → Type 0
PicksWhole ns to first end o = (s : Stretch) × (o ≡ ok s) × ClustersTouched ns to first end s

-- demand 2, sentence by sentence
pub record Demand2 : Type 0 where
  -- "The reading is the one that ECMA-388 [...] defines within the limits and house choices of document 01": the run is the one that text and entries say,
  -- character by character and entry by entry, and its clusters make up the cluster map of the standard
  pub reads : (t i : List ℕ) (r : Run) → (read t i ≡ ok r) ↔ ((refuses (label_checks t i) ≡ false) × (r ≡ said_run t i))
  pub map_length : (t i : List ℕ) (r : Run) → read t i ≡ ok r → length (cluster_map 0 r.clusters) ≡ length r.units
  pub map_entry : (t i : List ℕ) (r : Run) (j k : ℕ) → read t i ≡ ok r → In (unit_counts r.clusters) j k
      → get_or (cluster_map 0 r.clusters) k 0 ≡ part_start (glyph_counts r.clusters) j
  -- "what conforms is accepted with that run": exactly when no cause of 1 to 18 holds. What is then returned and stored is `Demand1.memory`.
  pub accepts : (room : Counts) (t i : List ℕ) (r : Run) → (read_into room t i ≡ ok r) ↔ ((refuses (read_checks room t i) ≡ false) × (r ≡ said_run t i))
  -- "all else is refused"
  pub refused : (room : Counts) (t i : List ℕ) → refuses (read_checks room t i) ≡ true
      → (n : ℕ) × (p : ℕ) × (read_into room t i ≡ no n p) × GivenBy (read_checks room t i) n p
  -- "The writer gives the normal writing that document 01 defines"
  pub normally : (z : Places) (room : Lengths) (w : Readable z) → RoomyFor (normal w.run) room → write_into room z ≡ ok (normal w.run)
  -- the computed test says "some label that this paper accepts reads as it"
  pub sound_is : (z : Places) → in_bytes z ≡ true → (sound z ≡ true) ↔ Readable z
  -- and the run that is then written, listed and picked from is the one that the label reads as
  pub run_is : (z : Places) (w : Readable z) → run_of z ≡ w.run
  -- "a pick from glyphs to code units, or back, gives whole clusters": of every run that some label reads as, for every stretch inside it
  pub to_units : (z : Places) (first end : ℕ) (w : Readable z) → first < end → end ≤ length w.run.glyphs
      → PicksWhole (glyph_counts w.run.clusters) (unit_counts w.run.clusters) first end (pick_units z first end)
  pub to_glyphs : (z : Places) (first end : ℕ) (w : Readable z) → first < end → end ≤ length w.run.units
      → PicksWhole (unit_counts w.run.clusters) (glyph_counts w.run.clusters) first end (pick_glyphs z first end)
  -- "Soundness (19) is tested before 22."
  pub units_fixed : (z : Places) (first end n p : ℕ) → (pick_units z first end ≡ no n p) ↔ GivenBy (pick_checks z first end (length (run_of z).glyphs)) n p
  pub glyphs_fixed : (z : Places) (first end n p : ℕ) → (pick_glyphs z first end ≡ no n p) ↔ GivenBy (pick_checks z first end (length (run_of z).units)) n p

-- ── demand 3 ──

-- the places that a reading of the run r filled: the buffers themselves, cut at the counts of r, which are those that the reader returns (`Passed.counts_are`)
abbrev pub handed_on : Run → Outcome Run → List ℕ → List ℕ → List ℕ → Places
handed_on r o us cs gs =
    places (take (2 * length r.units) (units_after o us)) (take (8 * length r.clusters) (clusters_after o cs))
    (take (16 * length r.glyphs) (glyphs_after o gs))

-- the label t, i is read into three buffers, and the writer handed the places that the reading filled
abbrev pub passed_on : Run → List ℕ → List ℕ → List ℕ → List ℕ → List ℕ → Lengths → Outcome Label
passed_on r t i us cs gs room = write_into room (handed_on r (read_into (room_of us cs gs) t i) us cs gs)

-- the text bytes that a writing of the run r with outcome w leaves in its output, cut at the length that the writer returns (`Wrote.lengths_are`)
abbrev pub text_written : Run → Outcome Label → List ℕ → List ℕ
text_written r w tx = take (length (normal r).text) (text_after w tx)

-- and the indices bytes
abbrev pub indices_written : Run → Outcome Label → List ℕ → List ℕ
indices_written r w ix = take (length (normal r).indices) (indices_after w ix)

-- a writing with outcome o gave the label l, which has room in the two outputs, with its lengths
pub record Wrote (l : Label) (o : Outcome Label) (tx ix : List ℕ) : Type 0 where
  pub room : RoomyFor l (outputs tx ix)
  pub lengths_are : lengths o ≡ ok (lengths_of l)
  pub text : text_after o tx ≡ filled l.text tx
  pub indices : indices_after o ix ≡ filled l.indices ix

-- a label was read, with outcome o, and the places filled were written, with outcome w
pub record Passed (r : Run) (o : Outcome Run) (w : Outcome Label) (tx ix : List ℕ) : Type 0 where
  -- the reader accepts, with the run's counts
  pub counts_are : counted o ≡ ok (counts r)
  -- the writer fills both outputs with the normal writing
  pub wrote : Wrote (normal r) w tx ix
  -- the bytes written are accepted and read back to the run
  pub back : read (text_written r w tx) (indices_written r w ix) ≡ ok r

-- demand 3, sentence by sentence
pub record Demand3 : Type 0 where
  -- "Buffers are large enough when 16 to 18, for the writer 20 and 21, don't hold."
  pub large : (r : Run) (room : Counts) → Roomy r room ↔ (refuses (buffer_checks room r) ≡ false)
  pub large_outputs : (l : Label) (room : Lengths) → RoomyFor l room ↔ (refuses (output_checks room l) ≡ false)
  -- "For every two labels that document 01 accepts, whatever the lent buffers, all large enough, held before, the reader accepts both, with the runs
  -- defined there" (of each of the two labels)
  pub reads : (t i : List ℕ) (r : Run) (room : Counts) → read t i ≡ ok r → Roomy r room → read_into room t i ≡ ok r
  -- "it accepts no label that document 01 doesn't"
  pub no_other : (t i : List ℕ) (r : Run) (room : Counts) → read_into room t i ≡ ok r → read t i ≡ ok r
  -- "The runs are equal exactly when the writer gives both the same text bytes and the same indices bytes."
  pub same : (tA iA tB iB : List ℕ) (A B : Run) (lA lB : Label) (x y : Lengths) → read tA iA ≡ ok A → read tB iB ≡ ok B
      → write_into x (places_of A) ≡ ok lA → write_into y (places_of B) ≡ ok lB
      → (A ≡ B) ↔ ((lA.text ≡ lB.text) × (lA.indices ≡ lB.indices))
  -- "For each of the two runs, equal or not, these bytes are the normal writing of document 01."
  pub normally : (t i : List ℕ) (r : Run) (room : Lengths) → read t i ≡ ok r → RoomyFor (normal r) room → write_into room (places_of r) ≡ ok (normal r)
  -- "They are accepted, read back to the run they were written from, and are written back unchanged."
  pub back : (t i : List ℕ) (r : Run) → read t i ≡ ok r → read (normal r).text (normal r).indices ≡ ok r
  pub again : (t i : List ℕ) (r s : Run) (room : Lengths) → read t i ≡ ok r → read (normal r).text (normal r).indices ≡ ok s → RoomyFor (normal r) room
      → write_into room (places_of s) ≡ ok (normal r)
  -- "In each run every code unit and every glyph, the unwritten tail included, is in exactly one cluster, in order."
  pub units : (t i : List ℕ) (r : Run) → read t i ≡ ok r → Divided (length r.units) (unit_counts r.clusters)
  pub glyphs : (t i : List ℕ) (r : Run) → read t i ≡ ok r → Divided (length r.glyphs) (glyph_counts r.clusters)
  -- "Given large enough output buffers, whatever run comes to the writer from any other hand is written exactly when some label that document 01 accepts
  -- reads as it"
  pub written : (z : Places) (room : Lengths) → in_bytes z ≡ true
      → ((l : Label) × (write_into room z ≡ ok l)) ↔ ((w : Readable z) × RoomyFor (normal w.run) room)
  -- "and then in its normal writing"
  pub written_normally : (z : Places) (l : Label) (room : Lengths) (w : Readable z) → write_into room z ≡ ok l → l ≡ normal w.run
  -- The same over the calls: a label is read into any large enough buffers, and the places filled are written into any large enough outputs.
  pub passed : (t i : List ℕ) (r : Run) (us cs gs tx ix : List ℕ) → read t i ≡ ok r → Roomy r (room_of us cs gs) → RoomyFor (normal r) (outputs tx ix)
      → Passed r (read_into (room_of us cs gs) t i) (passed_on r t i us cs gs (outputs tx ix)) tx ix
  -- Of two labels passed so, the runs are equal exactly when the outputs hold the same text bytes and the same indices bytes.
  pub same_passed : (A B : Run) (oA oB : Outcome Run) (wA wB : Outcome Label) (txA ixA txB ixB : List ℕ) → Passed A oA wA txA ixA → Passed B oB wB txB ixB
      → (A ≡ B) ↔ ((text_written A wA txA ≡ text_written B wB txB) × (indices_written A wA ixA ≡ indices_written B wB ixB))
  -- The bytes written, passed again, are written back unchanged.
  pub unchanged : (r : Run) (o : Outcome Run) (w : Outcome Label) (tx ix us cs gs : List ℕ) (room : Lengths) → Passed r o w tx ix
      → Roomy r (room_of us cs gs) → RoomyFor (normal r) room
      → (l : Label) × (passed_on r (text_written r w tx) (indices_written r w ix) us cs gs room ≡ ok l)
      × (l.text ≡ text_written r w tx) × (l.indices ≡ indices_written r w ix)
