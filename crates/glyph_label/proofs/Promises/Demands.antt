-- The three demands of the calls for C: each answer is an outcome's, and by the outcome the buffers are filled or kept; the places that a reading fills are
-- its run's, so that the writer, handed them, writes the run.
-- Assumes nothing.
use Prim.Native.Nat.{ℕ, ◌*◌, ◌<◌, ◌≤◌}
use mathlib.Core.Path.{◌≡◌, refl, sym, ap, ◌∙◌}
use mathlib.Core.Logic.{◌↔◌, ◌⊎◌, inl, inr}
use mathlib.Core.Bool.{Bool, true, false}
use mathlib.Core.List.{List}
use native.Mathlib.Omega.{arith}
use lib.ListN.{length, take}
use lib.Dec.{leb, ltb}
use borrow.Author.Tests.{leb-true, ltb-true}
use Rattle.label.specs.Outcome.{Outcome, ok, no, ◌>>◌, need, verdict}
use Rattle.label.specs.Run.{Run, said_run}
use Rattle.label.specs.Checks.{read}
use Rattle.label.specs.Places.{Places, places, Readable}
use Rattle.label.specs.Sound.{run_of, sound}
use Rattle.label.specs.Write.{Label, normal}
use Rattle.label.specs.Pick.{stretch, touched, turned, inside, pick_checks, pick_units, pick_glyphs}
use Rattle.label.specs.Calls.{room_of, read_checks, read_into, counted, units_after, clusters_after, glyphs_after, asked_for, outputs, said_label, write_checks, write_asked, lengths, text_after, indices_after}
use Rattle.label.specs.Requests.RoundedCount.{rounded}
use Rattle.label.specs.Statements.Demands.{Roomy, RoomyFor, in_bytes, unit_counts, glyph_counts, ClustersTouched, PicksWhole}
use Rattle.label.proofs.Basics.{and_l, and_r, need_ok}
use Rattle.label.proofs.Steps.{units_steps, glyphs_steps}
use Rattle.label.proofs.Refusals.{fine, need_placed}
use Rattle.label.proofs.Statements.Demands.{read_into_holds, into_read, written_to, written_from, passed_is, held, demand_2, demand_3}
use Rattle.label.specs.declared.Cluster.{Cluster}
use Rattle.label.specs.declared.Counts.{Counts}
use Rattle.label.specs.declared.Lengths.{Lengths}
use Rattle.label.specs.declared.Stretch.{Stretch}
use Rattle.glyph_label.specs.declared.GlyphLabelReading.{GlyphLabelReading}
use Rattle.glyph_label.specs.declared.GlyphLabelWriting.{GlyphLabelWriting}
use Rattle.glyph_label.specs.declared.GlyphLabelStretch.{GlyphLabelStretch}
use Rattle.glyph_label.specs.Answers.{reading_answer, writing_answer, stretch_answer}
use Rattle.glyph_label.specs.Promises.Memory.{Fixed}
use Rattle.glyph_label.specs.CallContracts.{ReadCall, WriteCall}
use Rattle.glyph_label.specs.Promises.Demands.{HoldsRun, HoldsLabel, Picks, Client, text_given, indices_given, WroteNormal, DemandPromises}
use Rattle.glyph_label.proofs.Bounds.{reading_placed, writing_placed}
use Rattle.glyph_label.proofs.Promises.Memory.{number_in, place_in, Numbered, numbered, accepted, fixed}

-- ── a reading ──

reading_said : (o : Outcome Run) (k : ℕ) → ((reading_answer (counted o) k).number ≡ number_in o) × ((reading_answer (counted o) k).place ≡ place_in o)
reading_said (ok r) k = (refl, refl)
reading_said (no n p) k = (refl, refl)

module _ (t i us cs gs : List ℕ) (a : GlyphLabelReading) (us' cs' gs' : List ℕ) (c : ReadCall t i us cs gs a us' cs' gs') where
  abbrev room : Counts
  room = room_of us cs gs

  abbrev o : Outcome Run
  o = read_into room t i

  pub read_said : (a.number ≡ number_in o) × (a.place ≡ place_in o)
  read_said = rw c.answer (reading_said o (rounded i))

  pub holds_run : (r : Run) → o ≡ ok r → HoldsRun r us cs gs a us' cs' gs'
  holds_run r e =
      let q : a ≡ reading_answer (counted (ok r)) (rounded i) = c.answer ∙ ap (λ (x : Outcome Run). reading_answer (counted x) (rounded i)) e in
      record {
        number = ap (λ (x : GlyphLabelReading). x.number) q;
        unit_count = ap (λ (x : GlyphLabelReading). x.units) q;
        cluster_count = ap (λ (x : GlyphLabelReading). x.clusters) q;
        glyph_count = ap (λ (x : GlyphLabelReading). x.glyphs) q;
        units = c.units ∙ ap (λ (x : Outcome Run). units_after x us) e;
        clusters = c.clusters ∙ ap (λ (x : Outcome Run). clusters_after x cs) e;
        glyphs = c.glyphs ∙ ap (λ (x : Outcome Run). glyphs_after x gs) e;
      }

  read_numbered : Numbered o
  read_numbered = numbered (reading_placed room t i)

  read_fixed : Fixed (read_checks room t i) a.number a.place
  read_fixed = fixed (read_checks room t i) (said_run t i) o (unfold read_into in refl) read_numbered a.number a.place read_said

  read_memory : ((r : Run) × (read t i ≡ ok r) × Roomy r room × HoldsRun r us cs gs a us' cs' gs')
      ⊎ ((a.number ≡ 0 → ⊥) × (us' ≡ us) × (cs' ≡ cs) × (gs' ≡ gs))
  read_memory = go o refl
    where
      go : (v : Outcome Run) → o ≡ v
          → ((r : Run) × (read t i ≡ ok r) × Roomy r room × HoldsRun r us cs gs a us' cs' gs')
          ⊎ ((a.number ≡ 0 → ⊥) × (us' ≡ us) × (cs' ≡ cs) × (gs' ≡ gs))
      go (ok r) e = let (h, m) = into_read t i r room e in inl (r, h, m, holds_run r e)
      go (no n p) e =
          let l : 1 ≤ n = read_numbered n p e in
          let q : a.number ≡ n = read_said.0 ∙ ap number_in e in
          inr (
            λ z. omega arith,
            c.units ∙ ap (λ (x : Outcome Run). units_after x us) e,
            c.clusters ∙ ap (λ (x : Outcome Run). clusters_after x cs) e,
            c.glyphs ∙ ap (λ (x : Outcome Run). glyphs_after x gs) e,
          )

  read_accepts : (a.number ≡ 0) ↔ ((r : Run) × (read t i ≡ ok r) × Roomy r room)
  read_accepts = (
    λ z. let (r, e) = accepted o read_numbered (sym read_said.0 ∙ z) in
        let (h, m) = into_read t i r room e in (r, h, m),
    λ r. (holds_run r.0 (read_into_holds t i r.0 room r.1 r.2)).number,
  )

-- ── a writing ──

writing_said : (o : Outcome Label) → ((writing_answer (lengths o)).number ≡ number_in o) × ((writing_answer (lengths o)).place ≡ place_in o)
writing_said (ok l) = (refl, refl)
writing_said (no n p) = (refl, refl)

module _ (asked : Bool) (z : Places) (tx ix : List ℕ) (a : GlyphLabelWriting) (tx' ix' : List ℕ) (c : WriteCall asked z tx ix a tx' ix') where
  abbrev wo : Outcome Label
  wo = write_asked asked (outputs tx ix) z

  -- the normal writing of the run that was handed in, as it is asked for
  abbrev given : Readable z → Label
  given v = asked_for asked (normal v.run)

  write_said : (a.number ≡ number_in wo) × (a.place ≡ place_in wo)
  write_said = rw c.answer (writing_said wo)

  pub holds_label : (l : Label) → wo ≡ ok l → HoldsLabel l tx ix a tx' ix'
  holds_label l e =
      let q : a ≡ writing_answer (lengths (ok l)) = c.answer ∙ ap (λ (x : Outcome Label). writing_answer (lengths x)) e in
      record {
        number = ap (λ (x : GlyphLabelWriting). x.number) q;
        text_length_holds = ap (λ (x : GlyphLabelWriting). x.text) q;
        indices_length_holds = ap (λ (x : GlyphLabelWriting). x.indices) q;
        text = c.text ∙ ap (λ (x : Outcome Label). text_after x tx) e;
        indices = c.indices ∙ ap (λ (x : Outcome Label). indices_after x ix) e;
      }

  write_numbered : Numbered wo
  write_numbered = numbered (writing_placed asked (outputs tx ix) z)

  write_fixed : Fixed (write_checks asked (outputs tx ix) z) a.number a.place
  write_fixed =
      fixed (write_checks asked (outputs tx ix) z) (said_label asked z) wo (unfold write_asked in refl) write_numbered a.number a.place write_said

  write_memory : in_bytes z ≡ true → ((v : Readable z) × RoomyFor (given v) (outputs tx ix) × HoldsLabel (given v) tx ix a tx' ix')
      ⊎ ((a.number ≡ 0 → ⊥) × (tx' ≡ tx) × (ix' ≡ ix))
  write_memory b = go wo refl
    where
      go : (w : Outcome Label) → wo ≡ w → ((v : Readable z) × RoomyFor (given v) (outputs tx ix) × HoldsLabel (given v) tx ix a tx' ix')
          ⊎ ((a.number ≡ 0 → ⊥) × (tx' ≡ tx) × (ix' ≡ ix))
      go (ok l) e = let (v, q, m) = written_to asked z (outputs tx ix) l b e in inl (v, m, holds_label (given v) (e ∙ ap ok q))
      go (no n p) e =
          let l : 1 ≤ n = write_numbered n p e in
          let q : a.number ≡ n = write_said.0 ∙ ap number_in e in
          inr (λ k. omega arith, c.text ∙ ap (λ (x : Outcome Label). text_after x tx) e, c.indices ∙ ap (λ (x : Outcome Label). indices_after x ix) e)

  write_accepts : in_bytes z ≡ true → (a.number ≡ 0) ↔ ((v : Readable z) × RoomyFor (given v) (outputs tx ix))
  write_accepts b = (
    λ k. let (l, e) = accepted wo write_numbered (sym write_said.0 ∙ k) in
        let (v, q, m) = written_to asked z (outputs tx ix) l b e in (v, m),
    λ v. (holds_label (given v.0) (written_from asked z (outputs tx ix) v.0 v.1)).number,
  )

-- ── a pick ──

stretch_said : (o : Outcome Stretch) → ((stretch_answer o).number ≡ number_in o) × ((stretch_answer o).place ≡ place_in o)
stretch_said (ok s) = (refl, refl)
stretch_said (no n p) = (refl, refl)

-- a stretch inside is from `first` to `end`, and not past the end
inside_is : (first end n m : ℕ) → inside first end n ≡ true → n ≡ m → (first < end) × (end ≤ m)
inside_is first end n m q e = (
  ltb-true first end (and_l (ltb first end) (leb end n) q),
  omega (arith, leb-true end n (and_r (ltb first end) (leb end n) q)),
)

-- one law for both picks: o is the outcome of a pick of x, from a side with counts `ns` and `size` places to one with counts `to`
module _ (ns to : List Cluster → List ℕ) (size : Run → ℕ) (z : Places) (first end : ℕ) (x : Stretch) (o : Outcome Stretch)
    (is : o ≡ (verdict (pick_checks z first end (size (run_of z))) >> ok x))
    (steps : o ≡ (need (sound z) 19 0 >> (need (inside first end (size (run_of z))) 22 0 >> ok x)))
    (whole : (v : Readable z) → first < end → end ≤ size v.run → PicksWhole (ns v.run.clusters) (to v.run.clusters) first end o)
    (a : GlyphLabelStretch) (h : a ≡ stretch_answer o) where
  pick_said : (a.number ≡ number_in o) × (a.place ≡ place_in o)
  pick_said = rw h (stretch_said o)

  pick_numbered : Numbered o
  pick_numbered =
      numbered {m = 22} {k = 0}
      (rw steps (need_placed 22 0 (sound z) 19 0 _ (omega arith, omega arith) (omega arith)
      (λ _. need_placed 22 0 (inside first end (size (run_of z))) 22 0 _ (omega arith, omega arith) (omega arith) (λ _. fine))))

  -- number 0 is that of a pick of which neither 19 nor 22 holds
  picked : a.number ≡ 0 → (sound z ≡ true) × (inside first end (size (run_of z)) ≡ true)
  picked k =
      let (s, e) = accepted o pick_numbered (sym pick_said.0 ∙ k) in
      let (y, q) = need_ok (sound z) 19 0 _ s (sym steps ∙ e) in (y, (need_ok (inside first end (size (run_of z))) 22 0 _ s q).0)

  pick_inside : (v : Readable z) → a.number ≡ 0 → (first < end) × (end ≤ size v.run)
  pick_inside v k = inside_is first end (size (run_of z)) (size v.run) (picked k).1 (ap size (demand_2.run_is z v))

  -- the stretch of the answer is the one picked
  pick_whole : (v : Readable z) → first < end → end ≤ size v.run
      → (a.number ≡ 0) × ClustersTouched (ns v.run.clusters) (to v.run.clusters) first end (stretch a.first a.end)
  pick_whole v l m =
      let (s, e, w) = whole v l m in
      let q : a ≡ stretch_answer (ok s) = h ∙ ap stretch_answer e in (
        ap (λ (y : GlyphLabelStretch). y.number) q,
        rw (ap (λ (y : GlyphLabelStretch). y.first) q, ap (λ (y : GlyphLabelStretch). y.end) q) w,
      )

  picks : Picks ns to size z first end a
  picks =
      record {
        fixed = fixed (pick_checks z first end (size (run_of z))) x o is pick_numbered a.number a.place pick_said;
        accepts = λ b. (
          λ k. let v : Readable z = (demand_2.sound_is z b).0 (picked k).0 in
              let (l, m) = pick_inside v k in (v, l, m),
          λ v. (pick_whole v.0 v.1 v.2).0,
        );
        whole = λ v k. let (l, m) = pick_inside v k in (pick_whole v l m).1;
      }

units_of_holds : (z : Places) (first end : ℕ) (a : GlyphLabelStretch) → a ≡ stretch_answer (pick_units z first end)
    → Picks glyph_counts unit_counts (λ (r : Run). length r.glyphs) z first end a
units_of_holds z first end a h =
    picks glyph_counts unit_counts (λ (r : Run). length r.glyphs) z first end (touched first end (run_of z).clusters) (pick_units z first end)
    (unfold pick_units in refl) (units_steps z first end) (demand_2.to_units z first end) a h

glyphs_of_holds : (z : Places) (first end : ℕ) (a : GlyphLabelStretch) → a ≡ stretch_answer (pick_glyphs z first end)
    → Picks unit_counts glyph_counts (λ (r : Run). length r.units) z first end a
glyphs_of_holds z first end a h =
    picks unit_counts glyph_counts (λ (r : Run). length r.units) z first end (touched first end (turned (run_of z).clusters)) (pick_glyphs z first end)
    (unfold pick_glyphs in refl) (glyphs_steps z first end) (demand_2.to_glyphs z first end) a h

-- ── a label passed through both ──

-- the bytes written, cut at the lengths returned, are the label's
module _ (l : Label) (tx ix : List ℕ) (w : GlyphLabelWriting) (tx' ix' : List ℕ) (h : HoldsLabel l tx ix w tx' ix') where
  pub text_cut : take w.text tx' ≡ l.text
  text_cut = rw (h.text, h.text_length_holds) (held l.text tx (length l.text) refl)

  pub indices_cut : take w.indices ix' ≡ l.indices
  indices_cut = rw (h.indices, h.indices_length_holds) (held l.indices ix (length l.indices) refl)

passed : (r : Run) (c : Client r) → WroteNormal r c
passed r c =
    let e = read_into_holds c.text c.indices r (room_of c.us c.cs c.gs) c.accepted.is c.accepted.buffers in
    let p = c.passing in
    let a = c.reading in
    let x = holds_run c.text c.indices c.us c.cs c.gs a c.us' c.cs' c.gs' p.reads r e in
    let z : Places = places (take (2 * a.units) c.us') (take (8 * a.clusters) c.cs') (take (16 * a.glyphs) c.gs') in
    let k : write_asked false (outputs c.tx c.ix) z ≡ ok (normal r) =
    rw (x.unit_count, x.cluster_count, x.glyph_count, p.reads.units, p.reads.clusters, p.reads.glyphs)
    (passed_is c.text c.indices r c.us c.cs c.gs (outputs c.tx c.ix) c.accepted.is c.accepted.buffers c.accepted.out) in
    let y = holds_label false z c.tx c.ix c.writing c.tx' c.ix' p.writes (normal r) k in
    record {
      run = x;
      number = y.number;
      text = text_cut (normal r) c.tx c.ix c.writing c.tx' c.ix' y;
      indices = indices_cut (normal r) c.tx c.ix c.writing c.tx' c.ix' y;
    }

same : (A B : Run) (x : Client A) (y : Client B) → (A ≡ B) ↔ ((text_given x ≡ text_given y) × (indices_given x ≡ indices_given y))
same A B x y =
    let m = passed A x in
    let n = passed B y in
    let a = x.accepted.is in
    let b = y.accepted.is in
    rw (m.text, m.indices, n.text, n.indices)
    (demand_3.same x.text x.indices y.text y.indices A B (normal A) (normal B) (just A) (just B) a b
    (demand_3.normally x.text x.indices A (just A) a (has_room A)) (demand_3.normally y.text y.indices B (just B) b (has_room B)))
  where
    just : Run → Lengths
    just r = record { text = length (normal r).text; indices = length (normal r).indices }

    has_room : (r : Run) → RoomyFor (normal r) (just r)
    has_room r = record { for_text = omega arith; for_indices = omega arith }

back : (r : Run) (c : Client r) → read (text_given c) (indices_given c) ≡ ok r
back r c = let m = passed r c in rw (m.text, m.indices) (demand_3.back c.text c.indices r c.accepted.is)

pub demand_promises : DemandPromises
demand_promises =
    record {
      read_memory = read_memory;
      read_fixed = read_fixed;
      write_memory = λ asked z tx ix a tx' ix' b c. write_memory asked z tx ix a tx' ix' c b;
      write_fixed = write_fixed;
      read_accepts = read_accepts;
      write_accepts = λ asked z tx ix a tx' ix' b c. write_accepts asked z tx ix a tx' ix' c b;
      units_of_holds = units_of_holds;
      glyphs_of_holds = glyphs_of_holds;
      passed = passed;
      same = same;
      back = back;
      again = λ r c d s t. ((passed r d).text ∙ sym (passed r c).text, (passed r d).indices ∙ sym (passed r c).indices);
    }
