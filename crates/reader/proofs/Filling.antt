-- The second pass over an accepted label: what a turn stores, and what is left behind the last entry. The walk is accepted, so no entry is refused, and there
-- is room for what each adds.
-- Assumes nothing.
use Rattle.std.proofs.Common.{◌≡◌, refl, sym, ap, ◌∙◌, subst, Bool, true, false, List, [], ◌∷◌, ℕ, suc, ◌+◌, ◌-◌, ◌*◌, ◌≤◌, min, arith, eqb, leb, length, drop, Result, Ok, Err, add-one}
use borrow.Author.Tests.{eq-eqb, ne_eqb, eqb-true, eqb-false, leb-true}
use native.Mathlib.Nat.{add-zero}
use lib.ListN.{length-drop}
use lib.Seq.{sets, drop-drop}
use Rattle.label.specs.Outcome.{ok}
use Rattle.label.specs.Bytes.{empty}
use Rattle.label.specs.Entry.{Entry}
use Rattle.label.specs.Cause.{cause_number}
use Rattle.label.specs.Run.{Parts, cluster, add_glyph, tail, State, opens, takes, next}
use Rattle.label.specs.Steps.{walk}
use Rattle.label.specs.Requests.RoundedCount.{rounded_entry}
use Rattle.label.specs.declared.Cluster.{Cluster}
use Rattle.label.specs.declared.Glyph.{Glyph}
use Rattle.label.specs.declared.Refusal.{Refusal}
use Rattle.label.proofs.Basics.{cases, need_ok, no_ok}
use Rattle.label.proofs.Lists.{empty_is}
use Rattle.label.proofs.Run.{ok_path, Walked, walk_ok, Stepped, step_ok}
use Rattle.label.proofs.Steps.{walk_end}
use Rattle.number.specs.Digits.{cap}
use Rattle.entry.specs.Items.{cut_item}
use Rattle.entry.specs.Results.{entry_results}
use Rattle.entry.specs.declared.Item.{Item}
use Rattle.entry.proofs.Results.{NextEntry, next_entry, no_entry, result_ok, result_no}
use Rattle.wire.specs.Stores.{glyph_places}
use Rattle.reader.specs.declared.Stored.{Stored}
use Rattle.reader.specs.Stores.{opened, added, taken, behind, cluster_opened, Opens, Storable}
use Rattle.reader.proofs.Storing.{Storing, storing_opened, storing_added, opened_room, added_room}

-- ── an open cluster's glyphs are there ──

one_glyph : (o : Bool) (c : Cluster) (g : Glyph) (p : Parts) → length (add_glyph o c g p).glyphs ≡ suc (length p.glyphs)
one_glyph true c g p = refl
one_glyph false c g p = refl

more_glyphs : {bare : Bool} {st : State} {s : List ℕ} {ss : List (List ℕ)} {p : Parts} (x : Walked bare st s ss p)
    → length p.glyphs ≡ suc (length x.others.glyphs)
more_glyphs {bare} {st} x =
    ap (λ (q : Parts). length q.glyphs) (sym x.is) ∙ one_glyph (opens st) (cluster (takes bare st x.first) x.first.glyphs) x.first.glyph x.others

walk_lack : (ss : List (List ℕ)) (bare : Bool) (st : State) (p : Parts) → walk bare st ss ≡ ok p → st.lack ≤ length p.glyphs
walk_lack [] bare st p h =
    let (t, b) = need_ok (opens st) 14 st.opener (ok (tail st.rest)) p (sym (walk_end bare st) ∙ h) in
    let z : st.lack ≡ 0 = eqb-true st.lack 0 t in
    omega arith
walk_lack (s ∷ ss) bare st p h =
    let x : Walked bare st s ss p = walk_ok bare st s ss p h in
    let r : (next bare st x.first).lack ≤ length x.others.glyphs = walk_lack ss bare (next bare st x.first) x.others x.walked in
    cases (eqb st.lack 0)
    (λ t. let z : st.lack ≡ 0 = eqb-true st.lack 0 t in omega arith)
    (λ t. let r' : st.lack - 1 ≤ length x.others.glyphs = rw t at r in omega (arith, more_glyphs x))

-- ── an accepted walk ──

-- label's state, where so much is stored
abbrev state_at : List ℕ → Stored → ℕ → State
state_at us at o = record { k = at.glyphs; at = at.units; rest = drop at.units us; lack = at.lack; opener = o }

-- of entries whose results are rs, and which are accepted, the parts are still to store
pub record Filled (cw gw us : List ℕ) (rs : List (Result Item Refusal)) (cs gs : List ℕ) (at : Stored) : Type 0 where
  pub entries : List (List ℕ)
  pub results : rs ≡ entry_results at.glyphs entries
  pub opener : ℕ
  pub parts : Parts
  pub walked : walk (empty us) (state_at us at opener) entries ≡ ok parts
  pub storing : Storing cw gw parts cs gs at.clusters at.glyphs
  pub inside : at.units ≤ length us
  pub few : at.glyphs + length parts.glyphs ≤ 4096

-- entry x can be stored, in a text of n units, and then the others are still to store
pub record Turn (cw gw us : List ℕ) (rs : List (Result Item Refusal)) (cs gs : List ℕ) (at : Stored) (n : ℕ) (x : Item) : Type 0 where
  pub fits : Storable n at x (length cs) (length gs)
  pub then : {d : Stored} {cs' gs' : List ℕ} → d ≡ behind n at x → cs' ≡ sets cs (8 * at.clusters) (cluster_opened n at x)
      → gs' ≡ sets gs (16 * at.glyphs) (glyph_places x.glyph) → Filled cw gw us rs cs' gs' d

module _ {cw gw us : List ℕ} {rs : List (Result Item Refusal)} {cs gs : List ℕ} {at : Stored} (f : Filled cw gw us rs cs gs at) where
  abbrev st : State
  st = state_at us at f.opener

  module _ (y : Result Item Refusal) (qs : List (Result Item Refusal)) (h : rs ≡ y ∷ qs) where
    entry_is : NextEntry at.glyphs f.entries y qs
    entry_is = next_entry at.glyphs f.entries y qs (sym f.results ∙ h)

    abbrev head : List ℕ
    head = entry_is.first

    walks : Walked (empty us) st head entry_is.behind f.parts
    walks = walk_ok (empty us) st head entry_is.behind f.parts (subst (λ (ss : List (List ℕ)). walk (empty us) st ss ≡ ok f.parts) entry_is.are f.walked)

    steps : Stepped (empty us) st head walks.first
    steps = step_ok (empty us) st head walks.first walks.stepped

  -- an accepted label has no entry that is refused
  pub fill_never : {A : Type 0} (r : Refusal) (qs : List (Result Item Refusal)) → rs ≡ Err r ∷ qs → A
  fill_never r qs h =
      no_ok (cause_number r.cause) r.place (walks (Err r) qs h).first
      (sym (result_no at.glyphs (head (Err r) qs h) r (entry_is (Err r) qs h).is) ∙ (steps (Err r) qs h).is)

  -- ── one turn ──

  module _ (n : ℕ) (en : n ≡ length us) (short : length us ≤ 4096) (x : Item) (qs : List (Result Item Refusal)) (h : rs ≡ Ok x ∷ qs) where
    abbrev w : Walked (empty us) st (head (Ok x) qs h) (entry_is (Ok x) qs h).behind f.parts
    w = walks (Ok x) qs h

    abbrev e : Entry
    e = w.first

    said : cut_item (length (head (Ok x) qs h)) (rounded_entry (head (Ok x) qs h)) e ≡ x
    said =
        let (y, k, i) = result_ok at.glyphs (head (Ok x) qs h) x (entry_is (Ok x) qs h).is in
        subst (λ (z : Entry). cut_item (length (head (Ok x) qs h)) (rounded_entry (head (Ok x) qs h)) z ≡ x)
        (ok_path y e (sym k ∙ (steps (Ok x) qs h).is)) i

    units_said : min e.units cap ≡ x.units
    units_said = ap (λ (i : Item). i.units) said

    glyphs_said : min e.glyphs cap ≡ x.glyphs
    glyphs_said = ap (λ (i : Item). i.glyphs) said

    glyph_said : e.glyph ≡ x.glyph
    glyph_said = ap (λ (i : Item). i.glyph) said

    bare_is : empty us ≡ eqb n 0
    bare_is = empty_is us ∙ ap (λ (m : ℕ). eqb m 0) (sym en)

    few_others : at.glyphs + 1 + length w.others.glyphs ≤ 4096
    few_others = omega (arith, f.few, more_glyphs w)

    lacks : (next (empty us) st e).lack ≤ length w.others.glyphs
    lacks = walk_lack (entry_is (Ok x) qs h).behind (empty us) (next (empty us) st e) w.others w.walked

    -- it opens a cluster
    module _ (o : at.lack ≡ 0) where
      open_is : eqb at.lack 0 ≡ true
      open_is = eq-eqb at.lack 0 o

      glyphs_are : e.glyphs ≡ x.glyphs
      glyphs_are = let l : e.glyphs - 1 ≤ length w.others.glyphs = rw open_is at lacks in omega (arith, glyphs_said, few_others)

      units_are : takes (empty us) st e ≡ taken n x
      units_are =
          rw (open_is, bare_is)
          (cases (eqb n 0)
          (λ t. rw t)
          (λ t. let l : leb e.units (length (drop at.units us)) ≡ true = rw (open_is, bare_is, t) at (steps (Ok x) qs h).twelve in
          rw t (omega (arith, units_said, leb-true e.units (length (drop at.units us)) l, length-drop at.units us))))

      inside_on : at.units + taken n x ≤ length us
      inside_on =
          let l : leb (taken n x) (length (drop at.units us)) ≡ true = rw units_are at (steps (Ok x) qs h).twelve in
          omega (arith, leb-true (taken n x) (length (drop at.units us)) l, length-drop at.units us, f.inside)

      parts_are : add_glyph true (cluster (taken n x) x.glyphs) x.glyph w.others ≡ f.parts
      parts_are = rw (units_are, open_is, glyphs_are, glyph_said) at w.is

      state_is : next (empty us) st e ≡ state_at us (opened at (taken n x) x.glyphs) at.glyphs
      state_is = rw (units_are, open_is, glyphs_are, drop-drop, add-one)

      left : Storing cw gw (add_glyph true (cluster (taken n x) x.glyphs) x.glyph w.others) cs gs at.clusters at.glyphs
      left = subst (λ (p : Parts). Storing cw gw p cs gs at.clusters at.glyphs) (sym parts_are) f.storing

      opens_fit : Opens n at x (length cs)
      opens_fit =
          record {
            units = omega (arith, inside_on, short);
            glyphs = omega (arith, few_others, glyphs_are, glyphs_said, rw open_is at lacks);
            inside = omega (arith, inside_on, short);
            room = (opened_room left).0;
          }

      opened_on : {d : Stored} {cs' gs' : List ℕ} → d ≡ behind n at x → cs' ≡ sets cs (8 * at.clusters) (cluster_opened n at x)
          → gs' ≡ sets gs (16 * at.glyphs) (glyph_places x.glyph) → Filled cw gw us qs cs' gs' d
      opened_on {d} {cs'} {gs'} ed ec eg =
          subst (λ (z : Stored). Filled cw gw us qs cs' gs' z) (sym (rw open_is at ed)) (record {
            entries = (entry_is (Ok x) qs h).behind;
            results = (entry_is (Ok x) qs h).others x refl;
            opener = at.glyphs;
            parts = w.others;
            walked = rw state_is at w.walked;
            storing = storing_opened left (rw open_is at ec) eg;
            inside = inside_on;
            few = few_others;
          })

    -- it is a further glyph
    module _ (o : at.lack ≡ 0 → ⊥) where
      shut_is : eqb at.lack 0 ≡ false
      shut_is = ne_eqb at.lack 0 o

      parts_on : ◌≡◌ {A = Parts} (record { clusters = w.others.clusters; glyphs = x.glyph ∷ w.others.glyphs }) f.parts
      parts_on = rw (shut_is, glyph_said) at w.is

      state_on : next (empty us) st e ≡ state_at us (added at) f.opener
      state_on = rw (shut_is, add-one, add-zero)

      left_on : Storing cw gw (record { clusters = w.others.clusters; glyphs = x.glyph ∷ w.others.glyphs }) cs gs at.clusters at.glyphs
      left_on = subst (λ (p : Parts). Storing cw gw p cs gs at.clusters at.glyphs) (sym parts_on) f.storing

      added_on : {d : Stored} {cs' gs' : List ℕ} → d ≡ behind n at x → cs' ≡ sets cs (8 * at.clusters) (cluster_opened n at x)
          → gs' ≡ sets gs (16 * at.glyphs) (glyph_places x.glyph) → Filled cw gw us qs cs' gs' d
      added_on {d} {cs'} {gs'} ed ec eg =
          let same : cs' ≡ cs = rw shut_is at ec in
          subst (λ (z : Stored). Filled cw gw us qs cs' gs' z) (sym (rw shut_is at ed)) (record {
            entries = (entry_is (Ok x) qs h).behind;
            results = (entry_is (Ok x) qs h).others x refl;
            opener = f.opener;
            parts = w.others;
            walked = rw state_on at w.walked;
            storing = rw same (storing_added left_on eg);
            inside = f.inside;
            few = few_others;
          })

    pub fill_turn : Turn cw gw us qs cs gs at n x
    fill_turn =
        record {
          fits = record {
            cluster = λ o. opens_fit o;
            glyph = cases (eqb at.lack 0) (λ t. (opened_room (left (eqb-true at.lack 0 t))).1) (λ t. added_room (left_on (eqb-false at.lack 0 t)));
          };
          then = λ ed ec eg. cases (eqb at.lack 0) (λ t. opened_on (eqb-true at.lack 0 t) ed ec eg) (λ t. added_on (eqb-false at.lack 0 t) ed ec eg);
        }

  -- ── the end ──

  -- the tail is still to store
  pub fill_end : rs ≡ [] → Storing cw gw (tail (drop at.units us)) cs gs at.clusters at.glyphs
  fill_end h =
      let none : f.entries ≡ [] = no_entry at.glyphs f.entries (sym f.results ∙ h) in
      let done : walk (empty us) st [] ≡ ok f.parts = subst (λ (ss : List (List ℕ)). walk (empty us) st ss ≡ ok f.parts) none f.walked in
      let (t, b) = need_ok (opens st) 14 f.opener (ok (tail (drop at.units us))) f.parts (sym (walk_end (empty us) st) ∙ done) in
      subst (λ (p : Parts). Storing cw gw p cs gs at.clusters at.glyphs) (sym (ok_path (tail (drop at.units us)) f.parts b)) f.storing
