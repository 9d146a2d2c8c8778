-- The walk over the entries: where it stands, one entry more, its end. What was read, put before the walk over what is left, is the whole walk (`Stands`).
-- Assumes nothing.
use Rattle.label.proofs.Steps.{walk_end}
use Rattle.label.specs.Outcome.{Outcome, ok, no}
use Rattle.label.specs.Bytes.{empty}
use Rattle.label.specs.Entry.{Entry, entries}
use Rattle.label.specs.Run.{Parts, State, start_state, opens, takes, next}
use Rattle.label.specs.Steps.{entry, placed, step, walk}
use Rattle.label.specs.Checks.{place_checks}
use Rattle.label.specs.Sound.{glyph_fits}
use Rattle.label.specs.Requests.RoundedCount.{rounded_entry}
use Prim.Native.Nat.{ℕ, ◌+◌, ◌-◌, ◌≤◌, ◌<◌, min}
use native.Mathlib.Omega.{arith}
use native.Mathlib.Nat.{min-eq_left}
use native.Mathlib.Numerals.{add-one}
use mathlib.Core.Path.{◌≡◌, refl, sym, ◌∙◌, ap, subst}
use mathlib.Core.Bool.{Bool, true, cond, not, ◌&&◌}
use mathlib.Core.List.{List, [], ◌∷◌, append_assoc}
use borrow.Author.Tests.{eq-eqb, ne_eqb, leb-true, eqb-true, eqb-false}
use lib.Dec.{eqb, leb}
use lib.ListN.{length, drop, length-append, length-drop}
use lib.Seq.{drop-drop}
use Rattle.label.specs.declared.Cursor.{Cursor}
use Rattle.label.proofs.Basics.{cases, and_r}
use Rattle.label.proofs.Run.{Stepped, step_ok}
use Rattle.label.proofs.Sound.{entry_facts}
use Rattle.label.proofs.Cursors.{joined, after, added, walk_good, walk_bad}
use Rattle.number.specs.Digits.{cap}
use Rattle.entry.specs.Items.{cut_item}
use Rattle.entry.specs.declared.Item.{Item}
use Rattle.entry.proofs.Results.{entries_few}
use Rattle.survey.specs.Steps.{item_entry, advanced}

-- ── parts before an outcome's ──

abbrev pub nothing : Parts
nothing = record { clusters = []; glyphs = [] }

pub after_none : (o : Outcome Parts) → o ≡ after nothing o
after_none (ok p) = refl
after_none (no n p) = refl

pub after_after : (p q : Parts) (o : Outcome Parts) → after p (after q o) ≡ after (joined p q) o
after_after p q (ok r) = rw (append_assoc p.clusters q.clusters r.clusters, append_assoc p.glyphs q.glyphs r.glyphs)
after_after p q (no n m) = refl

-- ── where the walk stands ──

-- the cursor in the place of label's state, in a text of the units us, where the open cluster lacks `lack` glyphs
abbrev pub state_of : List ℕ → Cursor → ℕ → State
state_of us c lack = record { k = c.entry; at = c.unit; rest = drop c.unit us; lack = lack; opener = c.opener }

-- the cursor before the first entry
abbrev pub fresh : Cursor
fresh = record { entry = 0; unit = 0; lack = 0; opener = 0; clusters = 0 }

-- `pre` was read and `rest` are the entries left. What the open cluster lacks is label's count, which the code holds cut: both lead to the same entry, or to
-- one past every label's last.
pub record Stands (us s : List ℕ) (pre : Parts) (lack : ℕ) (c : Cursor) (rest : List (List ℕ)) : Type 0 where
  pub near : min (c.entry + lack) cap ≡ min (c.entry + c.lack) cap
  pub so_far : walk (empty us) (start_state us) (entries s) ≡ after pre (walk (empty us) (state_of us c lack) rest)
  pub clusters_are : length pre.clusters ≡ c.clusters
  pub glyphs_are : length pre.glyphs ≡ c.entry

-- the numbers are within their limits
pub record Ready (us s : List ℕ) (c : Cursor) (rest : List (List ℕ)) : Type 0 where
  pub few_units : length us ≤ 4096
  pub few_bytes : length s ≤ 262144
  pub number : c.entry + length rest ≤ length s + 1
  pub some : c.clusters ≤ c.entry
  pub inside : c.unit ≤ length us

module _ (us s : List ℕ) (c : Cursor) (ec : c ≡ fresh) where
  pub stands_start : Stands us s nothing 0 c (entries s)
  stands_start =
      subst (λ (d : Cursor). Stands us s nothing 0 d (entries s)) (sym ec)
      (record {
        near = refl;
        so_far = after_none (walk (empty us) (start_state us) (entries s));
        clusters_are = refl;
        glyphs_are = refl;
      })

  pub ready_start : length us ≤ 4096 → length s ≤ 262144 → Ready us s c (entries s)
  ready_start f h =
      subst (λ (d : Cursor). Ready us s d (entries s)) (sym ec)
      (record { few_units = f; few_bytes = h; number = omega (arith, entries_few s); some = omega arith; inside = omega arith })

-- the two counts of what is lacking agree on whether a cluster is open
same_open : (k lack lack' : ℕ) → k < cap → min (k + lack) cap ≡ min (k + lack') cap → eqb lack 0 ≡ eqb lack' 0
same_open k lack lack' h e =
    cases (eqb lack' 0)
    (λ t. let z : lack' ≡ 0 = eqb-true lack' 0 t in rw t (eq-eqb lack 0 (omega arith)))
    (λ t. let z : lack' ≡ 0 → ⊥ = eqb-false lack' 0 t in rw t (ne_eqb lack 0 (λ y. z (omega arith))))

near_less : (k l m : ℕ) → (l ≡ 0 → ⊥) → (m ≡ 0 → ⊥) → min (k + l) cap ≡ min (k + m) cap → min (k + 1 + (l - 1)) cap ≡ min (k + 1 + (m - 1)) cap
near_less k l m p q e =
    let a : k + 1 + (l - 1) ≡ k + l = omega arith in
    let b : k + 1 + (m - 1) ≡ k + m = omega arith in
    rw (a, b) e

pub step_lack : (bare : Bool) (us s : List ℕ) (c : Cursor) (lack lack' : ℕ) → eqb lack 0 ≡ eqb lack' 0
    → step bare (state_of us c lack) s ≡ step bare (state_of us c lack') s
unfolding step placed place_checks
step_lack bare us s c lack lack' h = rw h

-- ── one entry more ──

-- what the entry at c, read as x, does: it takes t units, and the walk stands at d, with `rest` left
pub record Turned (us s : List ℕ) (pre : Parts) (lack : ℕ) (c d : Cursor) (rest : List (List ℕ)) (t : ℕ) (x : Item) : Type 0 where
  pub e : Entry
  pub lack' : ℕ
  pub stands : Stands us s (joined pre (added (empty us) (state_of us c lack) e)) lack' d rest
  pub ready : Ready us s d rest
  pub opened : opens (state_of us c lack) ≡ eqb c.lack 0
  pub units_are : takes (empty us) (state_of us c lack) e ≡ t
  pub lacks : lack' ≡ cond (eqb lack 0) (e.glyphs - 1) (lack - 1)
  pub units_few : c.unit + t ≤ length us
  pub small : glyph_fits e.glyph ≡ true

module _ (us s : List ℕ) (pre : Parts) (lack : ℕ) (c : Cursor) (head : List ℕ) (rest : List (List ℕ)) (st : Stands us s pre lack c (head ∷ rest))
    (rd : Ready us s c (head ∷ rest)) where
  -- whether a cluster is open, by either count
  pub same : eqb lack 0 ≡ eqb c.lack 0
  same = same_open c.entry lack c.lack (omega (arith, rd.number, rd.few_bytes)) st.near

  -- an entry that is refused refuses the walk
  pub refusing : (n p : ℕ) → step (empty us) (state_of us c lack) head ≡ no n p → walk (empty us) (start_state us) (entries s) ≡ no n p
  refusing n p q = st.so_far ∙ ap (after pre) (walk_bad (empty us) (state_of us c lack) head rest n p q)

  module _ (e : Entry) (h : step (empty us) (state_of us c lack) head ≡ ok e) where
    done : Stepped (empty us) (state_of us c lack) head e
    done = step_ok (empty us) (state_of us c lack) head e h

    some_glyphs : 1 ≤ e.glyphs
    some_glyphs = leb-true 1 e.glyphs (and_r (leb 1 e.units) (leb 1 e.glyphs) done.ten)

    abbrev taking : ℕ
    taking = takes (empty us) (state_of us c lack) e

    inside_takes : c.unit + taking ≤ length us
    inside_takes =
        let l : taking ≤ length us - c.unit = rw length-drop at (leb-true taking (length (drop c.unit us)) done.twelve) in
        omega (arith, rd.inside)

    -- the cut number of units that the entry takes is that number
    pub takes_cut : (n r : ℕ) → takes (empty us) (state_of us c c.lack) (item_entry (cut_item n r e)) ≡ taking
    takes_cut n r =
        rw (← same)
        (cases (eqb lack 0 && not (empty us))
        (λ t. let l : c.unit + e.units ≤ length us = rw t at inside_takes in
        rw t (min-eq_left (omega (arith, rd.few_units))))
        (λ t. rw t))

    abbrev after_it : Cursor
    after_it = advanced c taking (min e.glyphs cap)

    abbrev lacking : ℕ
    lacking = cond (eqb lack 0) (e.glyphs - 1) (lack - 1)

    next_is : next (empty us) (state_of us c lack) e ≡ state_of us after_it lacking
    unfolding advanced
    next_is = rw (drop-drop taking c.unit us, add-one c.entry, ← same)

    next_near : min (after_it.entry + lacking) cap ≡ min (after_it.entry + after_it.lack) cap
    unfolding advanced
    next_near =
        rw (← same)
        (cases (eqb lack 0)
        (λ t. let z : lack ≡ 0 = eqb-true lack 0 t in rw t (omega (arith, some_glyphs)))
        (λ t. let z : lack ≡ 0 → ⊥ = eqb-false lack 0 t in
        let z' : c.lack ≡ 0 → ⊥ = eqb-false c.lack 0 (sym same ∙ t) in
        rw t (near_less c.entry lack c.lack z z' st.near)))

    added_glyphs : length (added (empty us) (state_of us c lack) e).glyphs ≡ 1
    added_glyphs = cases (eqb lack 0) (λ t. rw t) (λ t. rw t)

    added_clusters : length (added (empty us) (state_of us c lack) e).clusters + c.clusters ≡ after_it.clusters
    unfolding advanced
    added_clusters = rw (← same) (cases (eqb lack 0) (λ t. rw t (omega arith)) (λ t. rw t (omega arith)))

    next_stands : Stands us s (joined pre (added (empty us) (state_of us c lack) e)) lacking after_it rest
    next_stands =
        record {
          near = next_near;
          so_far =
              st.so_far
              ∙ ap (after pre) (walk_good (empty us) (state_of us c lack) head rest e h)
              ∙ after_after pre (added (empty us) (state_of us c lack) e) (walk (empty us) (next (empty us) (state_of us c lack) e) rest)
              ∙ ap (λ (x : State). after (joined pre (added (empty us) (state_of us c lack) e)) (walk (empty us) x rest)) next_is
              ∙ unfold advanced in refl;
          clusters_are = rw length-append (omega (arith, added_clusters, st.clusters_are));
          glyphs_are = rw (length-append, added_glyphs, st.glyphs_are) (unfold advanced in refl);
        }

    next_ready : Ready us s after_it rest
    unfolding advanced
    next_ready =
        record {
          few_units = rd.few_units;
          few_bytes = rd.few_bytes;
          number = omega (arith, rd.number);
          some = rw (← same) (cases (eqb lack 0) (λ t. rw t (omega (arith, rd.some))) (λ t. rw t (omega (arith, rd.some))));
          inside = inside_takes;
        }

    -- the walk stands behind the entry
    pub turned : (d : Cursor) (x : Item) (t : ℕ) → cut_item (length head) (rounded_entry head) e ≡ x → taking ≡ t → d ≡ advanced c t x.glyphs
        → Turned us s pre lack c d rest t x
    turned d x t ex et ed =
        let is : d ≡ after_it = ed ∙ ap (λ (y : Item). advanced c t y.glyphs) (sym ex) ∙ ap (λ (m : ℕ). advanced c m (min e.glyphs cap)) (sym et) in
        record {
          e = e;
          lack' = lacking;
          stands = subst (λ (y : Cursor). Stands us s (joined pre (added (empty us) (state_of us c lack) e)) lacking y rest) (sym is) next_stands;
          ready = subst (λ (y : Cursor). Ready us s y rest) (sym is) next_ready;
          opened = same;
          units_are = et;
          lacks = refl;
          units_few = rw (← et) inside_takes;
          small = (entry_facts c.entry head e done.is).small;
        }

-- ── an entry that was read ──

pub step_is : (bare : Bool) (st : State) (s : List ℕ) (e : Entry) → entry st.k s ≡ ok e → step bare st s ≡ placed bare st e
unfolding step
step_is bare st s e h = rw h

pub step_no : (bare : Bool) (st : State) (s : List ℕ) (n p : ℕ) → entry st.k s ≡ no n p → step bare st s ≡ no n p
unfolding step
step_no bare st s n p h = rw h

-- ── the end of the entries ──

module _ (us s : List ℕ) (pre : Parts) (lack : ℕ) (c : Cursor) (st : Stands us s pre lack c []) (rd : Ready us s c []) where
  pub open_end : eqb lack 0 ≡ eqb c.lack 0
  open_end = same_open c.entry lack c.lack (omega (arith, rd.number, rd.few_bytes)) st.near

  -- what is left, by the count that the code holds
  pub ends_as : walk (empty us) (start_state us) (entries s) ≡ after pre (walk (empty us) (state_of us c c.lack) [])
  ends_as = st.so_far ∙ rw (walk_end (empty us) (state_of us c lack), walk_end (empty us) (state_of us c c.lack), open_end)
