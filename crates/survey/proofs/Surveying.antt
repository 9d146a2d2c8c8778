-- The first pass: where it stands (`Underway`), and how many fields were rounded so far and in all; and 1 to 15 in order, at each return of the code.
-- Assumes nothing.
use Rattle.label.proofs.Steps.{read_steps}
use Prim.Native.Nat.{ℕ, ◌+◌, ◌≤◌}
use native.Mathlib.Omega.{arith}
use native.Mathlib.Nat.{zero-add, add-zero, add_assoc}
use mathlib.Core.Path.{◌≡◌, refl, sym, ◌∙◌, ap, subst}
use mathlib.Core.Bool.{Bool, true, false, ◌&&◌}
use mathlib.Core.List.{List, [], ◌∷◌}
use lib.Dec.{eqb, leb}
use lib.ListN.{length, drop, length-drop}
use lib.Seq.{drop-drop}
use Rattle.std.specs.Prelude.{Result, Ok, Err, IfOk}
use Rattle.label.specs.Limits.{max_text_bytes, max_indices_bytes}
use Rattle.label.specs.Outcome.{Outcome, ok, no, ◌>>=◌}
use Rattle.label.specs.Bytes.{empty}
use Rattle.label.specs.Entry.{Entry, entries}
use Rattle.label.specs.Run.{Run, Parts, State, start_state, takes}
use Rattle.label.specs.Checks.{read}
use Rattle.label.specs.Steps.{text_units, placed, step, walk, run_from}
use Rattle.label.specs.Calls.{reading_outcome, reading_rounded, counted}
use Rattle.label.specs.Cause.{cause_number}
use Rattle.label.specs.Requests.RoundedCount.{rounded_entry, rounded_entries, rounded, beside}
use Rattle.label.specs.declared.Label.{Label}
use Rattle.label.specs.declared.Refusal.{Refusal}
use Rattle.label.proofs.Basics.{clash}
use Rattle.label.proofs.Lists.{empty_is, counted_no}
use Rattle.label.proofs.Cursors.{joined, added}
use Rattle.label.proofs.Requests.RoundedCount.{rounded_few}
use Rattle.text.specs.Moves.{units}
use Rattle.entry.specs.Items.{cut_item, entry_result}
use Rattle.entry.specs.Results.{entry_results}
use Rattle.entry.specs.declared.Item.{Item}
use Rattle.entry.proofs.Results.{result_ok, result_no, NextEntry, next_entry, no_entry}
use Rattle.survey.specs.declared.walk.Walk.{Walk}
use Rattle.survey.specs.declared.Surveyed.{Surveyed}
use Rattle.survey.specs.Steps.{bare, state_at, item_entry, advanced, said_no, Turns, counted_from, Starts, reading_of}
use Rattle.survey.proofs.Walking.{nothing, fresh, state_of, Stands, Ready, stands_start, ready_start, step_lack, Turned, same, refusing, takes_cut, turned, step_is, step_no, ends_as}
use Rattle.survey.proofs.Placing.{over, placed_cut}
use Rattle.survey.proofs.Endings.{counted_after, run_counted, run_stop}

-- ── one entry more ──

-- a walk that took an entry is in front of the next, of the same run
took : (w v : Walk) (x : Item) → Turns w x (Ok v) → (v.at.entry ≡ w.at.entry + 1) × (v.count ≡ w.count)
unfolding Turns advanced
took w v x t = (ap (λ y. y.entry) t.1.0, t.1.2)

module _ (us s : List ℕ) (pre : Parts) (lack : ℕ) (w : Walk) (head : List ℕ) (rest : List (List ℕ)) (st : Stands us s pre lack w.at (head ∷ rest))
    (rd : Ready us s w.at (head ∷ rest)) (here : units w.ahead ≡ drop w.at.unit us) (count : w.count ≡ length us) where
  bare_is : bare w ≡ empty us
  bare_is = ap (λ (n : ℕ). eqb n 0) count ∙ sym (empty_is us)

  state_is : state_at w ≡ state_of us w.at w.at.lack
  state_is = ap (λ (r : List ℕ). record { k = w.at.entry; at = w.at.unit; rest = r; lack = w.at.lack; opener = w.at.opener }) here

  -- an entry that was read, and what 10 to 13 say of it
  step_read : (x : Item) → entry_result w.at.entry head ≡ Ok x → (o : Outcome Entry) → placed (bare w) (state_at w) (item_entry x) ≡ o
      → (e : Entry) × (cut_item (length head) (rounded_entry head) e ≡ x) × (step (empty us) (state_of us w.at lack) head ≡ over e o)
  step_read x h o q =
      let (e, is, ex) = result_ok w.at.entry head x h in
      let few : length (drop w.at.unit us) ≤ 4096 = rw length-drop (omega (arith, rd.few_units)) in
      let q' : placed (empty us) (state_of us w.at w.at.lack) (item_entry (cut_item (length head) (rounded_entry head) e)) ≡ o =
      ap (λ (y : Item). placed (empty us) (state_of us w.at w.at.lack) (item_entry y)) ex
      ∙ sym (ap (λ (z : State). placed (empty us) z (item_entry x)) state_is)
      ∙ sym (ap (λ (b : Bool). placed b (state_at w) (item_entry x)) bare_is)
      ∙ q in (
        e,
        ex,
        step_lack (empty us) us head w.at lack w.at.lack (same us s pre lack w.at head rest st rd)
            ∙ step_is (empty us) (state_of us w.at w.at.lack) head e is
            ∙ placed_cut (empty us) (state_of us w.at w.at.lack) (length head) (rounded_entry head) e few
            ∙ ap (over e) q',
      )

  turn_took : (x : Item) (v : Walk) → entry_result w.at.entry head ≡ Ok x → Turns w x (Ok v)
      → Turned us s pre lack w.at v.at rest (takes (bare w) (state_at w) (item_entry x)) x × (units v.ahead ≡ drop v.at.unit us)
  unfolding Turns
  turn_took x v h t =
      let (e, ex, q) = step_read x h (ok (item_entry x)) t.0 in
      let n = takes (bare w) (state_at w) (item_entry x) in
      let u : takes (empty us) (state_of us w.at lack) e ≡ n =
      sym (takes_cut us s pre lack w.at head rest st rd e q (length head) (rounded_entry head))
      ∙ ap (λ (y : Item). takes (empty us) (state_of us w.at w.at.lack) (item_entry y)) ex
      ∙ sym (ap (λ (z : State). takes (empty us) z (item_entry x)) state_is)
      ∙ sym (ap (λ (b : Bool). takes b (state_at w) (item_entry x)) bare_is) in
      let m : v.at.unit ≡ w.at.unit + n = ap (λ y. y.unit) t.1.0 ∙ unfold advanced in refl in (
        turned us s pre lack w.at head rest st rd e q v.at x n ex u t.1.0,
        t.1.1 ∙ ap (drop n) here ∙ drop-drop n w.at.unit us ∙ ap (λ (k : ℕ). drop k us) (sym m),
      )

  turn_stopped : (x : Item) (r : Refusal) → entry_result w.at.entry head ≡ Ok x → Turns w x (Err r)
      → walk (empty us) (start_state us) (entries s) ≡ said_no r
  unfolding Turns
  turn_stopped x r h t = let (e, ex, q) = step_read x h (said_no r) t in refusing us s pre lack w.at head rest st rd (cause_number r.cause) r.place q

  turn_unread : (r : Refusal) → entry_result w.at.entry head ≡ Err r → walk (empty us) (start_state us) (entries s) ≡ said_no r
  turn_unread r h =
      refusing us s pre lack w.at head rest st rd (cause_number r.cause) r.place
      (step_no (empty us) (state_of us w.at lack) head (cause_number r.cause) r.place (result_no w.at.entry head r h))

-- ── where the pass stands ──

-- the walk stands at w, n fields were rounded before it, and `left` are the results of the entries left; the label is not empty
pub record Underway (us s : List ℕ) (w : Walk) (n : ℕ) (left : List (Result Item Refusal)) : Type 0 where
  pub rest : List (List ℕ)
  pub results : left ≡ entry_results w.at.entry rest
  pub pre : Parts
  pub lack : ℕ
  pub stands : Stands us s pre lack w.at rest
  pub ready : Ready us s w.at rest
  pub here : units w.ahead ≡ drop w.at.unit us
  pub count : w.count ≡ length us
  pub some : (empty us && empty s) ≡ false
  pub rounds : n + rounded_entries rest ≡ rounded s

pub begins : (us s : List ℕ) (w : Walk) (left : List (Result Item Refusal)) → w.at ≡ fresh → units w.ahead ≡ us → w.count ≡ length us
    → left ≡ entry_results 0 (entries s) → length us ≤ 4096 → length s ≤ 262144 → (empty us && empty s) ≡ false → Underway us s w 0 left
unfolding rounded
begins us s w left a h c e f b z =
    record {
      rest = entries s;
      results = e ∙ ap (λ (k : ℕ). entry_results k (entries s)) (sym (ap (λ y. y.entry) a));
      pre = nothing;
      lack = 0;
      stands = stands_start us s w.at a;
      ready = ready_start us s w.at a f b;
      here = h ∙ ap (λ y. drop y.unit us) (sym a);
      count = c;
      some = z;
      rounds = zero-add (rounded_entries (entries s));
    }

rounded_more : (e : List ℕ) (es : List (List ℕ)) → rounded_entries (e ∷ es) ≡ rounded_entry e + rounded_entries es
unfolding rounded_entries
rounded_more e es = refl

-- the sum stays small: at most three an entry, and no more entries than bytes and one
pub rounding_few : {us s : List ℕ} {w : Walk} {n : ℕ} {left : List (Result Item Refusal)} → Underway us s w n left → n ≤ 786435
rounding_few {s = s} u = omega (arith, u.rounds, rounded_few s, u.ready.few_bytes)

module _ {us s : List ℕ} {w : Walk} {n : ℕ} (r : Result Item Refusal) (left : List (Result Item Refusal)) (u : Underway us s w n (r ∷ left)) where
  found : NextEntry w.at.entry u.rest r left
  found = next_entry w.at.entry u.rest r left (sym u.results)

  standing : Stands us s u.pre u.lack w.at (found.first ∷ found.behind)
  standing = subst (Stands us s u.pre u.lack w.at) found.are u.stands

  reading : Ready us s w.at (found.first ∷ found.behind)
  reading = subst (Ready us s w.at) found.are u.ready

  -- there is an entry, so not all were taken
  pub entry_few : w.at.entry ≤ 262144
  entry_few = omega (arith, reading.number, reading.few_bytes)

  -- it is taken
  pub goes_on : (x : Item) (v : Walk) → r ≡ Ok x → Turns w x (Ok v) → Underway us s v (n + x.rounded) left
  goes_on x v e t =
      let f = found in
      let (y, a) = turn_took us s u.pre u.lack w f.first f.behind standing reading u.here u.count x v (f.is ∙ e) t in
      let k : x.rounded ≡ rounded_entry f.first = let (z, is, ex) = result_ok w.at.entry f.first x (f.is ∙ e) in sym (ap (λ (i : Item). i.rounded) ex) in
      record {
        rest = f.behind;
        results = f.others x e ∙ ap (λ (j : ℕ). entry_results j f.behind) (sym (took w v x t).0);
        pre = joined u.pre (added (empty us) (state_of us w.at u.lack) y.e);
        lack = y.lack';
        stands = y.stands;
        ready = y.ready;
        here = a;
        count = (took w v x t).1 ∙ u.count;
        some = u.some;
        rounds = rw k (add_assoc n (rounded_entry f.first) (rounded_entries f.behind)
            ∙ ap (λ (m : ℕ). n + m) (sym (rounded_more f.first f.behind)) ∙ ap (λ (es : List (List ℕ)). n + rounded_entries es) (sym f.are) ∙ u.rounds);
      }

  -- it is refused by 10 to 13, or by 7 to 9
  pub stops : (x : Item) (q : Refusal) → r ≡ Ok x → Turns w x (Err q) → said_no q ≡ counted (run_from us s)
  stops x q e t =
      let f = found in
      run_stop us s (cause_number q.cause) q.place u.some
      (turn_stopped us s u.pre u.lack w f.first f.behind standing reading u.here u.count x q (f.is ∙ e) t)

  pub unread : (q : Refusal) → r ≡ Err q → said_no q ≡ counted (run_from us s)
  unread q e =
      let f = found in
      run_stop us s (cause_number q.cause) q.place u.some
      (turn_unread us s u.pre u.lack w f.first f.behind standing reading u.here u.count q (f.is ∙ e))

-- all were taken
module _ {us s : List ℕ} {w : Walk} {n : ℕ} (u : Underway us s w n []) where
  none_left : u.rest ≡ []
  none_left = no_entry w.at.entry u.rest (sym u.results)

  pub ends : counted_from w.count w.at.clusters w.at.entry (walk (bare w) (state_at w) []) ≡ counted (run_from us s)
  ends =
      let st = subst (Stands us s u.pre u.lack w.at) none_left u.stands in
      let rd = subst (Ready us s w.at) none_left u.ready in
      let b : bare w ≡ empty us = ap (λ (m : ℕ). eqb m 0) u.count ∙ sym (empty_is us) in
      let z : state_at w ≡ state_of us w.at w.at.lack =
      ap (λ (r : List ℕ). record { k = w.at.entry; at = w.at.unit; rest = r; lack = w.at.lack; opener = w.at.opener }) u.here in
      let o = walk (empty us) (state_of us w.at w.at.lack) [] in
      rw (b, z, u.count)
      (ap (λ (m : ℕ). counted_from (length us) m w.at.entry o) (sym u.stands.clusters_are)
      ∙ ap (λ (m : ℕ). counted_from (length us) (length u.pre.clusters) m o) (sym u.stands.glyphs_are)
      ∙ counted_after (length us) u.pre o
      ∙ ap (counted_from (length us) 0 0) (sym (ends_as us s u.pre u.lack w.at st rd))
      ∙ sym (run_counted us s u.some))

  pub rounded_all : n ≡ rounded s
  unfolding rounded_entries
  rounded_all = sym (add-zero n) ∙ ap (λ (es : List (List ℕ)). n + rounded_entries es) (sym none_left) ∙ u.rounds

-- ── 1 to 15 ──

module _ (t s : List ℕ) where
  abbrev pub in_size : Bool
  in_size = leb (length t) max_text_bytes && leb (length s) max_indices_bytes

  -- 1
  pub read_long : in_size ≡ false → no 1 0 ≡ counted (read t s)
  read_long h = rw (read_steps t s, h)

  read_text : in_size ≡ true → read t s ≡ (text_units t >>= (λ us. run_from us s))
  read_text h = read_steps t s ∙ rw h

  -- behind the text: the run of its units, or its refusal
  pub read_run : in_size ≡ true → (us : List ℕ) → text_units t ≡ ok us → counted (run_from us s) ≡ counted (read t s)
  read_run h us e = let q : read t s ≡ run_from us s = read_text h ∙ ap (λ (o : Outcome (List ℕ)). o >>= (λ us. run_from us s)) e in sym (ap counted q)

  pub read_refused : in_size ≡ true → (r : Refusal) → text_units t ≡ said_no r → said_no r ≡ counted (read t s)
  read_refused h r e = let q : read t s ≡ said_no r = read_text h ∙ ap (λ (o : Outcome (List ℕ)). o >>= (λ us. run_from us s)) e in sym (ap counted q)

-- ── the answer ──

-- the clauses of a survey: its answer, how many fields were rounded, and the units, in the caller's text
abbrev pub Surveys : Label → Result Surveyed Refusal → Type 0
Surveys l r =
    record {
      reading_value : reading_outcome (reading_of r) ≡ counted (read l.text.now l.indices.now);
      rounded : reading_rounded (reading_of r) ≡ beside (rounded l.indices.now) (read l.text.now l.indices.now);
      units : Starts l.text.now r;
      same_text : IfOk r (λ x. x.units.passage.text ≡ l.text);
    }

module _ (l : Label) where
  abbrev label_read : Outcome Run
  label_read = read l.text.now l.indices.now

  -- a refusal
  pub refuses : (x : Refusal) → said_no x ≡ counted label_read → Surveys l (Err x)
  refuses x h = record { reading_value = h; rounded = rw (counted_no label_read (cause_number x.cause) x.place (sym h)); units = tt; same_text = tt }

  -- an answer that is handed on
  pub judges : (x : Surveyed) → ok x.reading.counts ≡ counted label_read → x.reading.rounded ≡ rounded l.indices.now → Starts l.text.now (Ok x)
      → x.units.passage.text ≡ l.text → Surveys l (Ok x)
  judges x e h a b = record { reading_value = e; rounded = h ∙ go label_read (sym e); units = a; same_text = b }
    where
      go : (o : Outcome Run) → counted o ≡ ok x.reading.counts → rounded l.indices.now ≡ beside (rounded l.indices.now) o
      go (ok r) k = refl
      go (no i p) k = let z : true ≡ false = cc in clash true refl z
