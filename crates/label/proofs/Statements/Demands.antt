-- The three demands, proved: from `read_sound`, `read_back` and the laws of checks. The writer is taken as it is asked for, to escape or not: the demands
-- speak of the one that is not asked.
-- Assumes nothing.
use Prim.Native.Nat.{ℕ, ◌+◌, ◌*◌, ◌≤◌, ◌<◌}
use native.Mathlib.Omega.{arith}
use mathlib.Core.Path.{◌≡◌, refl, sym, ◌∙◌, ap, subst}
use mathlib.Core.Logic.{◌↔◌}
use mathlib.Core.Bool.{Bool, true, false, not, ◌||◌}
use mathlib.Core.List.{List, [], ◌∷◌}
use borrow.Author.Tests.{leb-true, le-leb, lt-ltb, not-false}
use lib.Dec.{ltb, leb}
use lib.ListN.{length, take, drop}
use lib.Seq.{take_at}
use Rattle.label.specs.Outcome.{Outcome, ok, no, ◌>>◌, Check, verdict}
use Rattle.label.specs.Statements.Memory.{refuses, GivenBy}
use Rattle.label.specs.Bytes.{empty}
use Rattle.label.specs.Run.{Run, said_run}
use Rattle.label.specs.Checks.{label_checks, read}
use Rattle.label.specs.Wire.{from_halves, from_words}
use Rattle.label.specs.Places.{flat_clusters, flat_glyphs, Places, places_of, Readable}
use Rattle.label.specs.Sound.{sound_run, run_of, sound}
use Rattle.label.specs.Write.{Label, normal}
use Rattle.label.specs.Pick.{touched, turned, inside, pick_checks, pick_units, pick_glyphs}
use Rattle.label.specs.Calls.{filled, room_of, buffer_checks, read_checks, read_into, asked_for, said_label, output_checks, write_checks, write_asked, write_into, outputs}
use Rattle.label.specs.Statements.Memory.{filled_all, Kept}
use Rattle.label.specs.Statements.Demands.{unit_counts, glyph_counts, Roomy, RoomyFor, in_bytes, stored_run, buffers_after, stored_label, outputs_after, Demand1, PicksWhole, Demand2, passed_on, text_written, indices_written, Wrote, Passed, Demand3}
use Rattle.label.specs.declared.Counts.{Counts}
use Rattle.label.specs.declared.Lengths.{Lengths}
use Rattle.label.proofs.Basics.{and_i, or_l, or_r, cases, bind_ok, need_ok, no_ok}
use Rattle.label.proofs.Values.{normal_writer}
use Rattle.label.proofs.Run.{ok_path}
use Rattle.label.proofs.Sound.{read_sound, read_back, SoundRun, sound_parts}
use Rattle.label.proofs.Steps.{into_steps, write_steps, units_steps, glyphs_steps}
use Rattle.label.proofs.Checks.{given_is, passes, stops, kept}
use Rattle.label.proofs.Parts.{sum, length_clusters, length_glyphs, divided, fits_units, fits_glyphs, touched_whole, turned_glyphs, turned_units, map_sum, map_at}
use Rattle.label.proofs.Wire.{length_halves, length_words}
use Rattle.label.proofs.Places.{sound_places, sound_readable, readable_sound, readable_run}

-- ── the reader and the writer, with room ──

pub read_into_holds : (t i : List ℕ) (r : Run) (room : Counts) → read t i ≡ ok r → Roomy r room → read_into room t i ≡ ok r
read_into_holds t i r room h m =
    into_steps room t i
    ∙ rw (
      h,
      le-leb (length r.units) room.units m.for_units,
      le-leb (length r.clusters) room.clusters m.for_clusters,
      le-leb (length r.glyphs) room.glyphs m.for_glyphs,
    )

pub into_read : (t i : List ℕ) (r : Run) (room : Counts) → read_into room t i ≡ ok r → (read t i ≡ ok r) × Roomy r room
into_read t i r room h =
    let (s, a, b) = bind_ok (read t i) _ r (sym (into_steps room t i) ∙ h) in
    let (x, b16) = need_ok (leb (length s.units) room.units) 16 _ _ r b in
    let (y, b17) = need_ok (leb (length s.clusters) room.clusters) 17 _ _ r b16 in
    let (z, b18) = need_ok (leb (length s.glyphs) room.glyphs) 18 _ _ r b17 in
    let m : Roomy s room =
    record {
      for_units = leb-true (length s.units) room.units x;
      for_clusters = leb-true (length s.clusters) room.clusters y;
      for_glyphs = leb-true (length s.glyphs) room.glyphs z;
    } in
    (a ∙ b18, subst (λ (q : Run). Roomy q room) (ok_path s r b18) m)

-- large enough: none of 16 to 18, or of 20 and 21, holds
large : (r : Run) (room : Counts) → Roomy r room ↔ (refuses (buffer_checks room r) ≡ false)
unfolding refuses
large r room =
    let u = leb (length r.units) room.units in
    let c = leb (length r.clusters) room.clusters in
    let g = leb (length r.glyphs) room.glyphs in (
      λ m. rw (le-leb _ room.units m.for_units, le-leb _ room.clusters m.for_clusters, le-leb _ room.glyphs m.for_glyphs),
      λ h. record {
        for_units = leb-true _ _ (not-false u (or_l (not u) _ h));
        for_clusters = leb-true _ _ (not-false c (or_l (not c) (not g || false) (or_r (not u) _ h)));
        for_glyphs = leb-true _ _ (not-false g (or_l (not g) false (or_r (not c) (not g || false) (or_r (not u) _ h))));
      },
    )

large_outputs : (l : Label) (room : Lengths) → RoomyFor l room ↔ (refuses (output_checks room l) ≡ false)
unfolding refuses
large_outputs l room =
    let t = leb (length l.text) room.text in
    let i = leb (length l.indices) room.indices in (
      λ m. rw (le-leb _ room.text m.for_text, le-leb _ room.indices m.for_indices),
      λ h. record {
        for_text = leb-true _ _ (not-false t (or_l (not t) (not i || false) h));
        for_indices = leb-true _ _ (not-false i (or_l (not i) false (or_r (not t) (not i || false) h)));
      },
    )

-- a sound run is written where there is room, asked or not
write_into_holds : (asked : Bool) (z : Places) (room : Lengths) → sound z ≡ true → RoomyFor (said_label asked z) room
    → write_asked asked room z ≡ ok (said_label asked z)
write_into_holds asked z room h m =
    write_steps asked room z
    ∙ rw (
      h,
      le-leb (length (said_label asked z).text) room.text m.for_text,
      le-leb (length (said_label asked z).indices) room.indices m.for_indices,
    )

-- what is known of a writing
record WasWritten (asked : Bool) (z : Places) (l : Label) (room : Lengths) : Type 0 where
  sound_is : sound z ≡ true
  is : l ≡ said_label asked z
  has_room : RoomyFor l room

into_write : (asked : Bool) (z : Places) (l : Label) (room : Lengths) → write_asked asked room z ≡ ok l → WasWritten asked z l room
into_write asked z l room h =
    let k : Label = said_label asked z in
    let (s, b) = need_ok (sound z) 19 0 _ l (sym (write_steps asked room z) ∙ h) in
    let (f, b20) = need_ok (leb (length k.text) room.text) 20 _ _ l b in
    let (g, b21) = need_ok (leb (length k.indices) room.indices) 21 _ _ l b20 in
    let q : k ≡ l = ok_path k l b21 in
    let m : RoomyFor k room = record {
      for_text = leb-true (length k.text) room.text f;
      for_indices = leb-true (length k.indices) room.indices g;
    } in
    record { sound_is = s; is = sym q; has_room = subst (λ (j : Label). RoomyFor j room) q m }

-- a run handed in is written exactly when it is readable, and then in the normal writing of the run that was read, as it is asked for
pub written_to : (asked : Bool) (z : Places) (room : Lengths) (l : Label) → in_bytes z ≡ true → write_asked asked room z ≡ ok l
    → (w : Readable z) × (l ≡ asked_for asked (normal w.run)) × RoomyFor (asked_for asked (normal w.run)) room
written_to asked z room l b h =
    let v : WasWritten asked z l room = into_write asked z l room h in
    let w : Readable z = sound_readable z b v.sound_is in
    let e : l ≡ asked_for asked (normal w.run) = v.is ∙ ap (λ (r : Run). asked_for asked (normal r)) (readable_run z w) in
    (w, e, subst (λ (q : Label). RoomyFor q room) e v.has_room)

pub written_from : (asked : Bool) (z : Places) (room : Lengths) (w : Readable z) → RoomyFor (asked_for asked (normal w.run)) room
    → write_asked asked room z ≡ ok (asked_for asked (normal w.run))
written_from asked z room w m =
    let q : run_of z ≡ w.run = readable_run z w in
    write_into_holds asked z room (readable_sound z w) (subst (λ (r : Run). RoomyFor (asked_for asked (normal r)) room) (sym q) m)
    ∙ ap (λ (r : Run). ok (asked_for asked (normal r))) q

pub written_as : (asked : Bool) (z : Places) (l : Label) (room : Lengths) (w : Readable z) → write_asked asked room z ≡ ok l
    → l ≡ asked_for asked (normal w.run)
written_as asked z l room w h = (into_write asked z l room h).is ∙ ap (λ (r : Run). asked_for asked (normal r)) (readable_run z w)

-- a run that was read, handed in as its places
abbrev pub own : (t i : List ℕ) (r : Run) → read t i ≡ ok r → Readable (places_of r)
own t i r h = record { run = r; text = t; indices = i; reads = h; places_are = refl }

-- ── demand 1 ──

fixed : (room : Counts) (t i : List ℕ) (n p : ℕ) → (read_into room t i ≡ no n p) ↔ GivenBy (read_checks room t i) n p
unfolding read_into
fixed room t i n p = given_is (read_checks room t i) n p (said_run t i)

pub writer_fixed : (asked : Bool) (room : Lengths) (z : Places) (n p : ℕ) → (write_asked asked room z ≡ no n p) ↔ GivenBy (write_checks asked room z) n p
unfolding write_asked
writer_fixed asked room z n p = given_is (write_checks asked room z) n p (said_label asked z)

pub wrote : (k l : Label) (tx ix : List ℕ) → l ≡ k → RoomyFor k (outputs tx ix) → Wrote k (ok l) tx ix
wrote k l tx ix e m = record { room = m; lengths_are = rw e; text = rw e; indices = rw e }

pub writer_memory : (asked : Bool) (z : Places) (tx ix : List ℕ)
    → Kept (write_checks asked (outputs tx ix) z) (said_label asked z) stored_label (write_asked asked (outputs tx ix) z) (tx ∷ ix ∷ [])
    (outputs_after (write_asked asked (outputs tx ix) z) tx ix)
unfolding write_asked filled_all
writer_memory asked z tx ix =
    kept (write_checks asked (outputs tx ix) z) (said_label asked z) stored_label (tx ∷ ix ∷ []) (λ o. outputs_after o tx ix) refl (λ n p. refl)

memory : (t i us cs gs : List ℕ)
    → Kept (read_checks (room_of us cs gs) t i) (said_run t i) stored_run (read_into (room_of us cs gs) t i) (us ∷ cs ∷ gs ∷ [])
    (buffers_after (read_into (room_of us cs gs) t i) us cs gs)
unfolding read_into filled_all
memory t i us cs gs = kept (read_checks (room_of us cs gs) t i) (said_run t i) stored_run (us ∷ cs ∷ gs ∷ []) (λ o. buffers_after o us cs gs) refl (λ n p. refl)

pub demand_1 : Demand1
demand_1 =
    record {
      memory = memory;
      fixed = fixed;
      writer_memory = λ z tx ix. writer_memory false z tx ix;
      writer_fixed = λ room z n p. writer_fixed false room z n p;
    }

-- ── demand 2 ──

inside_is : (first end count : ℕ) → first < end → end ≤ count → inside first end count ≡ true
inside_is first end count h k = and_i (ltb first end) (leb end count) (lt-ltb first end h) (le-leb end count k)

module _ (z : Places) (first end : ℕ) (w : Readable z) (h : first < end) where
  q : run_of z ≡ w.run
  q = readable_run z w

  s : SoundRun (run_of z)
  s = sound_parts (run_of z) (sound_places z (readable_sound z w)).run_is

  units_ok : end ≤ length (run_of z).glyphs → pick_units z first end ≡ ok (touched first end (run_of z).clusters)
  units_ok k = units_steps z first end ∙ rw (readable_sound z w, inside_is first end (length (run_of z).glyphs) h k)

  glyphs_ok : end ≤ length (run_of z).units → pick_glyphs z first end ≡ ok (touched first end (turned (run_of z).clusters))
  glyphs_ok k = glyphs_steps z first end ∙ rw (readable_sound z w, inside_is first end (length (run_of z).units) h k)

  to_units : end ≤ length w.run.glyphs → PicksWhole (glyph_counts w.run.clusters) (unit_counts w.run.clusters) first end (pick_units z first end)
  to_units k =
      let c = (run_of z).clusters in
      let k' : end ≤ length (run_of z).glyphs = subst (λ (r : Run). end ≤ length r.glyphs) (sym q) k in
      let e : 0 + sum (glyph_counts c) ≡ length (run_of z).glyphs = fits_glyphs (run_of z).glyphs (empty (run_of z).units) c (run_of z).units 0 s.fit in
      subst (λ (r : Run). PicksWhole (glyph_counts r.clusters) (unit_counts r.clusters) first end (pick_units z first end)) q
      (touched first end c, units_ok k', touched_whole c first end h (omega arith))

  to_glyphs : end ≤ length w.run.units → PicksWhole (unit_counts w.run.clusters) (glyph_counts w.run.clusters) first end (pick_glyphs z first end)
  to_glyphs k =
      let c = (run_of z).clusters in
      let k' : end ≤ length (run_of z).units = subst (λ (r : Run). end ≤ length r.units) (sym q) k in
      let e : sum (unit_counts c) ≡ length (run_of z).units = fits_units (run_of z).glyphs (empty (run_of z).units) c (run_of z).units 0 s.fit in
      let t : sum (glyph_counts (turned c)) ≡ length (run_of z).units = rw (turned_glyphs c) e in
      subst (λ (r : Run). PicksWhole (unit_counts r.clusters) (glyph_counts r.clusters) first end (pick_glyphs z first end)) q (
        touched first end (turned c),
        glyphs_ok k',
        rw (turned_glyphs c, turned_units c) at (touched_whole (turned c) first end h (omega arith)),
      )

-- what checks decide: a value where no cause holds, else the number of the first that does
module _ {A : Type 0} (cs : List Check) (a : A) (o : Outcome A) (e : o ≡ (verdict cs >> ok a)) where
  decided_ok : refuses cs ≡ false → o ≡ ok a
  decided_ok h = e ∙ passes cs (ok a) h

  decided_no : refuses cs ≡ true → (n : ℕ) × (p : ℕ) × (o ≡ no n p) × GivenBy cs n p
  decided_no h =
      let (n, p, v) = stops cs h in
      let r : o ≡ no n p = e ∙ rw v in
      (n, p, r, (given_is cs n p a).0 (sym e ∙ r))

  decided : (b : A) → (o ≡ ok b) ↔ ((refuses cs ≡ false) × (b ≡ a))
  decided b = (
    λ h. cases (refuses cs) (λ t. let (n, p, r, g) = decided_no t in no_ok n p b (sym r ∙ h)) (λ t. (t, sym (ok_path a b (sym (decided_ok t) ∙ h)))),
    λ h. decided_ok h.0 ∙ ap ok (sym h.1),
  )

pub demand_2 : Demand2
demand_2 =
    record {
      reads = λ t i r. decided (label_checks t i) (said_run t i) (read t i) (unfold read in refl) r;
      map_length = λ t i r h. map_sum 0 r.clusters
          ∙ fits_units r.glyphs (empty r.units) r.clusters r.units 0 (sound_parts r (read_sound t i r h)).fit;
      map_entry = λ t i r j k h x. map_at r.clusters 0 j k x ∙ omega arith;
      accepts = λ room t i r. decided (read_checks room t i) (said_run t i) (read_into room t i) (unfold read_into in refl) r;
      refused = λ room t i h. decided_no (read_checks room t i) (said_run t i) (read_into room t i) (unfold read_into in refl) h;
      normally = λ z room w m. written_from false z room w m;
      sound_is = λ z b. (sound_readable z b, readable_sound z);
      run_is = readable_run;
      to_units = to_units;
      to_glyphs = to_glyphs;
      units_fixed = λ z first end n p. unfold pick_units in
          (given_is (pick_checks z first end (length (run_of z).glyphs)) n p (touched first end (run_of z).clusters));
      glyphs_fixed = λ z first end n p. unfold pick_glyphs in
          (given_is (pick_checks z first end (length (run_of z).units)) n p (touched first end (turned (run_of z).clusters)));
    }

-- ── demand 3 ──

same_back : (A B : Run) → sound_run A ≡ true → sound_run B ≡ true → (normal A).text ≡ (normal B).text → (normal A).indices ≡ (normal B).indices → A ≡ B
same_back A B a b p q = ok_path A B (sym (read_back normal_writer A a) ∙ rw (p, q) (read_back normal_writer B b))

same : (A B : Run) (lA lB : Label) → sound_run A ≡ true → sound_run B ≡ true → lA ≡ normal A → lB ≡ normal B
    → (A ≡ B) ↔ ((lA.text ≡ lB.text) × (lA.indices ≡ lB.indices))
same A B lA lB a b p q = (
  λ e. let k : lA ≡ lB = p ∙ ap normal e ∙ sym q in (ap (λ (l : Label). l.text) k, ap (λ (l : Label). l.indices) k),
  λ e. same_back A B a b (sym (ap (λ (l : Label). l.text) p) ∙ e.0 ∙ ap (λ (l : Label). l.text) q)
      (sym (ap (λ (l : Label). l.indices) p) ∙ e.1 ∙ ap (λ (l : Label). l.indices) q),
)

pub held : {A : Type 0} (xs old : List A) (n : ℕ) → length xs ≡ n → take n (filled xs old) ≡ xs
held xs old n e = take_at xs (drop (length xs) old) n e

-- the places that a reading filled are the run's, so the writer handed them writes the run
pub passed_is : (t i : List ℕ) (r : Run) (us cs gs : List ℕ) (room : Lengths) → read t i ≡ ok r → Roomy r (room_of us cs gs) → RoomyFor (normal r) room
    → passed_on r t i us cs gs room ≡ ok (normal r)
passed_is t i r us cs gs room h m n =
    rw (
      read_into_holds t i r (room_of us cs gs) h m,
      held (from_halves r.units) us (2 * length r.units) (length_halves r.units),
      held (from_words (flat_clusters r.clusters)) cs (8 * length r.clusters)
          (length_words (flat_clusters r.clusters) ∙ omega (arith, length_clusters r.clusters)),
      held (from_words (flat_glyphs r.glyphs)) gs (16 * length r.glyphs) (length_words (flat_glyphs r.glyphs) ∙ omega (arith, length_glyphs r.glyphs)),
    )
    (written_from false (places_of r) room (own t i r h) n)

-- what is in the outputs when the normal writing was given
passed : (r : Run) (o : Outcome Run) (w : Outcome Label) (tx ix : List ℕ) → sound_run r ≡ true → o ≡ ok r → w ≡ ok (normal r)
    → RoomyFor (normal r) (outputs tx ix) → Passed r o w tx ix
passed r o w tx ix s eo ew n =
    record {
      counts_are = rw eo;
      wrote = rw ew (wrote (normal r) (normal r) tx ix refl n);
      back = rw (ew, held (normal r).text tx (length (normal r).text) refl, held (normal r).indices ix (length (normal r).indices) refl)
          (read_back normal_writer r s);
    }

module _ (r : Run) (o : Outcome Run) (w : Outcome Label) (tx ix : List ℕ) (p : Passed r o w tx ix) where
  text_written_holds : text_written r w tx ≡ (normal r).text
  text_written_holds = ap (take (length (normal r).text)) p.wrote.text ∙ held (normal r).text tx (length (normal r).text) refl

  indices_written_holds : indices_written r w ix ≡ (normal r).indices
  indices_written_holds = ap (take (length (normal r).indices)) p.wrote.indices ∙ held (normal r).indices ix (length (normal r).indices) refl

  passed_sound : sound_run r ≡ true
  passed_sound = read_sound (text_written r w tx) (indices_written r w ix) r p.back

  written_again : (v : Outcome Label) → v ≡ ok (normal r) → (l : Label) × (v ≡ ok l) × (l.text ≡ text_written r w tx) × (l.indices ≡ indices_written r w ix)
  written_again v e = (normal r, e, sym text_written_holds, sym indices_written_holds)

same_passed : (A B : Run) (oA oB : Outcome Run) (wA wB : Outcome Label) (txA ixA txB ixB : List ℕ) → Passed A oA wA txA ixA → Passed B oB wB txB ixB
    → (A ≡ B) ↔ ((text_written A wA txA ≡ text_written B wB txB) × (indices_written A wA ixA ≡ indices_written B wB ixB))
same_passed A B oA oB wA wB txA ixA txB ixB p q =
    rw (
      text_written_holds A oA wA txA ixA p,
      indices_written_holds A oA wA txA ixA p,
      text_written_holds B oB wB txB ixB q,
      indices_written_holds B oB wB txB ixB q,
    )
    (same A B (normal A) (normal B) (passed_sound A oA wA txA ixA p) (passed_sound B oB wB txB ixB q) refl refl)

pub demand_3 : Demand3
demand_3 =
    record {
      large = large;
      large_outputs = large_outputs;
      reads = read_into_holds;
      no_other = λ t i r room h. (into_read t i r room h).0;
      same = λ tA iA tB iB A B lA lB x y a b p q. same A B lA lB (read_sound tA iA A a) (read_sound tB iB B b)
          (written_as false (places_of A) lA x (own tA iA A a) p) (written_as false (places_of B) lB y (own tB iB B b) q);
      normally = λ t i r room h m. written_from false (places_of r) room (own t i r h) m;
      back = λ t i r h. read_back normal_writer r (read_sound t i r h);
      again = λ t i r s room h k m. let e : s ≡ r = ok_path s r (sym k ∙ read_back normal_writer r (read_sound t i r h)) in
          subst (λ (q : Run). write_into room (places_of q) ≡ ok (normal r)) (sym e) (written_from false (places_of r) room (own t i r h) m);
      units = λ t i r h. let s : SoundRun r = sound_parts r (read_sound t i r h) in
          divided (length r.units) (unit_counts r.clusters) (fits_units r.glyphs (empty r.units) r.clusters r.units 0 s.fit);
      glyphs = λ t i r h. let s : SoundRun r = sound_parts r (read_sound t i r h) in
          divided (length r.glyphs) (glyph_counts r.clusters)
          (omega (arith, fits_glyphs r.glyphs (empty r.units) r.clusters r.units 0 s.fit));
      written = λ z room b. (
        λ l. let (w, e, m) = written_to false z room l.0 b l.1 in (w, m),
        λ w. (normal w.0.run, written_from false z room w.0 w.1),
      );
      written_normally = λ z l room w h. written_as false z l room w h;
      passed = λ t i r us cs gs tx ix h m n.
          passed r _ _ tx ix (read_sound t i r h) (read_into_holds t i r (room_of us cs gs) h m) (passed_is t i r us cs gs (outputs tx ix) h m n) n;
      same_passed = same_passed;
      unchanged = λ r o w tx ix us cs gs room p m n.
          written_again r o w tx ix p _ (passed_is (text_written r w tx) (indices_written r w ix) r us cs gs room p.back m n);
    }
