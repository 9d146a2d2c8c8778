-- The walk over the entries that a writer makes gives back the clusters and the glyphs: one induction over the glyphs, in which reader, writer and test go
-- together (`walk_back`). What an accepted step and walk are made of.
-- Assumes nothing.
use Prim.Native.Nat.{ℕ, zero, suc, ◌+◌, ◌*◌, ◌-◌, ◌≤◌, ◌<◌}
use native.Mathlib.Omega.{arith}
use native.Mathlib.Nat.{add-zero}
use mathlib.Core.Path.{◌≡◌, refl, sym, ◌∙◌, ap, subst}
use mathlib.Core.Logic.{◌⊎◌, inl, inr, ⊎_elim}
use mathlib.Core.Bool.{Bool, true, false, ◌&&◌, ◌||◌, not, cond}
use mathlib.Core.List.{List, [], ◌∷◌}
use borrow.Author.Tests.{not-false, le-leb, leb-true, eqb-true}
use lib.Dec.{eqb, leb, eqb-suc-zero, leb-zero}
use lib.ListN.{length, drop, length-drop}
use lib.Seq.{get_or-drop}
use Rattle.label.specs.Outcome.{ok, verdict}
use Rattle.label.specs.Bytes.{empty, join, trim}
use Rattle.label.specs.Text.{is_pair}
use Rattle.label.specs.Entry.{Entry, entries}
use Rattle.label.specs.Run.{Parts, named, cluster, add_glyph, keeps_pair, tail, State, start_state, opens, opens_units, takes, allowed, next}
use Rattle.label.specs.Checks.{place_checks}
use Rattle.label.specs.Steps.{entry, placed, step, walk}
use Rattle.label.specs.Sound.{glyph_fits, is_font, all_font, tail_pair, may_open, fits}
use Rattle.label.specs.Write.{entry_by, entries_by, indices_by}
use Rattle.label.specs.declared.Glyph.{Glyph}
use Rattle.label.specs.declared.Cluster.{Cluster}
use Rattle.label.proofs.Basics.{and_l, and_r, or_cases, clash, cases, bind_ok, need_ok}
use Rattle.label.proofs.Steps.{placed_steps, walk_end, walk_first}
use Rattle.label.proofs.Splits.{free, all_free, empty_nil, trim_nil, trim_gone, trim_kept, free_trim, joined_full, join_nil, join_cons, split_join, total, join_total, total_trim, joined_first}
use Rattle.label.proofs.Values.{Writer}
use Rattle.label.proofs.Outputs.{empty_is_font, font_is}
use Rattle.label.proofs.Entry.{maps, mapped, back, entry_read_holds, entry_semi, entry_short, entry_full}
use Rattle.label.proofs.Tails.{wide, tail_nil, tail_first, plain_wide, font_cons, font_written}

abbrev pub parts : List Cluster → List Glyph → Parts
parts cs gs = record { clusters = cs; glyphs = gs }

abbrev pub state : ℕ → ℕ → List ℕ → ℕ → ℕ → State
state k at rest lack opener = record { k = k; at = at; rest = rest; lack = lack; opener = opener }

pub walk_step : (bare : Bool) (st : State) (s : List ℕ) (ss : List (List ℕ)) (e : Entry) (p : Parts) → step bare st s ≡ ok e
    → walk bare (next bare st e) ss ≡ ok p → walk bare st (s ∷ ss) ≡ ok (add_glyph (opens st) (cluster (takes bare st e) e.glyphs) e.glyph p)
walk_step bare st s ss e p h k = walk_first bare st s ss ∙ rw (h, k)

pub ok_path : {A : Type 0} (a b : A) → ok a ≡ ok b → a ≡ b
ok_path a b h = cc

-- ── one entry, forward ──

-- a further glyph of an open cluster
step_further : {w : ℕ → List ℕ} (y : Writer w) (bare : Bool) (k at : ℕ) (rest : List ℕ) (n opener : ℕ) (g : Glyph) → glyph_fits g ≡ true
    → named g.index ≡ true → step bare (state k at rest (suc n) opener) (entry_by w 1 1 g) ≡ ok (back 1 1 g)
unfolding step placed place_checks verdict
step_further y bare k at rest n opener g m i =
    rw (entry_read_holds y 1 1 g m k, eqb-suc-zero n, i)

-- a cluster in a text of no units
step_bare : {w : ℕ → List ℕ} (y : Writer w) (k at : ℕ) (rest : List ℕ) (opener : ℕ) (g : Glyph) → glyph_fits g ≡ true → named g.index ≡ true
    → step true (state k at rest 0 opener) (entry_by w 0 1 g) ≡ ok (back 0 1 g)
unfolding step placed place_checks verdict
step_bare y k at rest opener g m i =
    rw (entry_read_holds y 0 1 g m k, i)

abbrev opened : ℕ → ℕ → Glyph → Entry
opened a b g = record { mapped = mapped a b g.index; units = a; glyphs = b; glyph = g }

-- without a map it is 1:1
unmapped_one : (a b : ℕ) → 1 ≤ a → maps a b ≡ false → (a ≡ 1) × (b ≡ 1)
unmapped_one a b h t =
    let q : (leb a 1 && eqb b 1) ≡ true = not-false (leb a 1 && eqb b 1) t in
    let l : a ≤ 1 = leb-true a 1 (and_l (leb a 1) (eqb b 1) q) in
    (omega arith, eqb-true b 1 (and_r (leb a 1) (eqb b 1) q))

back_open : (a b : ℕ) (g : Glyph) → 1 ≤ a → (maps a b ≡ true → named g.index ≡ true) → back a b g ≡ opened a b g
back_open a b g h f = cases (maps a b) (λ t. rw (t, f t)) (λ t. let (u, v) = unmapped_one a b h t in rw (u, v))

step_open : {w : ℕ → List ℕ} (y : Writer w) (k at : ℕ) (rest : List ℕ) (opener a b : ℕ) (g : Glyph) → glyph_fits g ≡ true
    → (maps a b ≡ true → named g.index ≡ true) → 1 ≤ a → 1 ≤ b → a ≤ length rest → keeps_pair a rest ≡ true
    → step false (state k at rest 0 opener) (entry_by w a b g) ≡ ok (opened a b g)
unfolding step
step_open y k at rest opener a b g m f ha hb hl p =
    rw (
      entry_read_holds y a b g m k ∙ ap ok (back_open a b g ha f),
      placed_steps false (state k at rest 0 opener) (opened a b g),
      le-leb 1 a ha,
      le-leb 1 b hb,
      le-leb a (length rest) hl,
      p,
    )

-- ── what `fits` says ──

written_nil : (w : ℕ → List ℕ) (lack : ℕ) (cs : List Cluster) → entries_by w lack cs [] ≡ []
unfolding entries_by
written_nil w zero [] = refl
written_nil w zero (c ∷ cs) = refl
written_nil w (suc n) cs = refl

pub fits_nil : (bare : Bool) (lack : ℕ) (us : List ℕ) (cs : List Cluster) → fits bare lack us cs [] ≡ true → (lack ≡ 0) × (cs ≡ []) × (us ≡ [])
unfolding fits
fits_nil bare lack us cs h =
    let p : (eqb lack 0 && empty cs) ≡ true = and_l (eqb lack 0 && empty cs) (empty us) h in (
      eqb-true lack 0 (and_l (eqb lack 0) (empty cs) p),
      empty_nil cs (and_r (eqb lack 0) (empty cs) p),
      empty_nil us (and_r (eqb lack 0 && empty cs) (empty us) h),
    )

-- what `fits` says of a further glyph, and of one that opens a cluster
pub record Further (bare : Bool) (n : ℕ) (us : List ℕ) (cs : List Cluster) (g : Glyph) (gs : List Glyph) : Type 0 where
  pub small : glyph_fits g ≡ true
  pub name : named g.index ≡ true
  pub rest : fits bare n us cs gs ≡ true

pub fits_further : (bare : Bool) (n : ℕ) (us : List ℕ) (cs : List Cluster) (g : Glyph) (gs : List Glyph) → fits bare (suc n) us cs (g ∷ gs) ≡ true
    → Further bare n us cs g gs
unfolding fits
fits_further bare n us cs g gs h =
    let p : (glyph_fits g && named g.index) ≡ true = and_l (glyph_fits g && named g.index) (fits bare n us cs gs) h in
    record {
      small = and_l (glyph_fits g) (named g.index) p;
      name = and_r (glyph_fits g) (named g.index) p;
      rest = and_r (glyph_fits g && named g.index) (fits bare n us cs gs) h;
    }

pub record Opening (bare : Bool) (us : List ℕ) (c : Cluster) (cs : List Cluster) (g : Glyph) (gs : List Glyph) : Type 0 where
  pub small : glyph_fits g ≡ true
  pub may : may_open bare us c g gs ≡ true
  pub rest : fits bare (c.glyphs - 1) (drop c.units us) cs gs ≡ true

pub fits_opening : (bare : Bool) (us : List ℕ) (c : Cluster) (cs : List Cluster) (g : Glyph) (gs : List Glyph) → fits bare zero us (c ∷ cs) (g ∷ gs) ≡ true
    → Opening bare us c cs g gs
unfolding fits
fits_opening bare us c cs g gs h =
    let p : (glyph_fits g && may_open bare us c g gs) ≡ true = and_l (glyph_fits g && may_open bare us c g gs)
    (fits bare (c.glyphs - 1) (drop c.units us) cs gs) h in
    record {
      small = and_l (glyph_fits g) (may_open bare us c g gs) p;
      may = and_r (glyph_fits g) (may_open bare us c g gs) p;
      rest = and_r (glyph_fits g && may_open bare us c g gs) (fits bare (c.glyphs - 1) (drop c.units us) cs gs) h;
    }

pub record Bare (c : Cluster) (g : Glyph) : Type 0 where
  pub none : c.units ≡ 0
  pub one : c.glyphs ≡ 1
  pub name : named g.index ≡ true

pub may_bare : (us : List ℕ) (c : Cluster) (g : Glyph) (gs : List Glyph) → may_open true us c g gs ≡ true → Bare c g
may_bare us c g gs h =
    let p : (eqb c.units 0 && eqb c.glyphs 1) ≡ true = and_l (eqb c.units 0 && eqb c.glyphs 1) (named g.index) h in
    record {
      none = eqb-true c.units 0 (and_l (eqb c.units 0) (eqb c.glyphs 1) p);
      one = eqb-true c.glyphs 1 (and_r (eqb c.units 0) (eqb c.glyphs 1) p);
      name = and_r (eqb c.units 0 && eqb c.glyphs 1) (named g.index) h;
    }

-- a pair of the tail, with the glyphs from its own on
record TailPair (us : List ℕ) (c : Cluster) (gs : List Glyph) : Type 0 where
  two : c.units ≡ 2
  one : c.glyphs ≡ 1
  pair : is_pair us ≡ true
  font : all_font gs ≡ true

tail_pair_holds : (us : List ℕ) (c : Cluster) (gs : List Glyph) → tail_pair us c gs ≡ true → TailPair us c gs
tail_pair_holds us c gs h =
    let p : (eqb c.units 2 && eqb c.glyphs 1 && is_pair us) ≡ true = and_l (eqb c.units 2 && eqb c.glyphs 1 && is_pair us) (all_font gs) h in
    let q : (eqb c.units 2 && eqb c.glyphs 1) ≡ true = and_l (eqb c.units 2 && eqb c.glyphs 1) (is_pair us) p in
    record {
      two = eqb-true c.units 2 (and_l (eqb c.units 2) (eqb c.glyphs 1) q);
      one = eqb-true c.glyphs 1 (and_r (eqb c.units 2) (eqb c.glyphs 1) q);
      pair = and_r (eqb c.units 2 && eqb c.glyphs 1) (is_pair us) p;
      font = and_r (eqb c.units 2 && eqb c.glyphs 1 && is_pair us) (all_font gs) h;
    }

pub record Opens (us : List ℕ) (c : Cluster) (g : Glyph) (gs : List Glyph) : Type 0 where
  pub some_units : 1 ≤ c.units
  pub some_glyphs : 1 ≤ c.glyphs
  pub inside : c.units ≤ length us
  pub whole_pairs : keeps_pair c.units us ≡ true
  -- its index is named where it has a map, or it is a pair of the tail
  kind : (maps c.units c.glyphs ≡ true → named g.index ≡ true) ⊎ TailPair us c (g ∷ gs)

pub may_opens : (us : List ℕ) (c : Cluster) (g : Glyph) (gs : List Glyph) → may_open false us c g gs ≡ true → Opens us c g gs
may_opens us c g gs h =
    let a = leb 1 c.units in
    let b = leb 1 c.glyphs in
    let l = leb c.units (length us) in
    let w = keeps_pair c.units us in
    let i = named g.index || (eqb c.units 1 && eqb c.glyphs 1) in
    let n = i || tail_pair us c (g ∷ gs) in
    let h1 : (a && b && l && w) ≡ true = and_l (a && b && l && w) n h in
    let h2 : (a && b && l) ≡ true = and_l (a && b && l) w h1 in
    let h3 : (a && b) ≡ true = and_l (a && b) l h2 in
    record {
      some_units = leb-true 1 c.units (and_l a b h3);
      some_glyphs = leb-true 1 c.glyphs (and_r a b h3);
      inside = leb-true c.units (length us) (and_r (a && b) l h2);
      whole_pairs = and_r (a && b && l) w h1;
      kind =
          ⊎_elim (λ k. inl (or_name (named g.index) c.units c.glyphs k)) (λ k. inr (tail_pair_holds us c (g ∷ gs) k))
          (or_cases i (tail_pair us c (g ∷ gs)) (and_r (a && b && l && w) n h));
    }
  where
    or_name : (t : Bool) (a b : ℕ) → (t || (eqb a 1 && eqb b 1)) ≡ true → maps a b ≡ true → t ≡ true
    or_name true a b h k = refl
    or_name false a b h k =
        let u : a ≡ 1 = eqb-true a 1 (and_l (eqb a 1) (eqb b 1) h) in
        let v : b ≡ 1 = eqb-true b 1 (and_r (eqb a 1) (eqb b 1) h) in
        clash (maps a b) k (rw (u, v))

-- where pairs stay whole, none is split behind the units taken
pub whole_drop : (a : ℕ) (us : List ℕ) → keeps_pair a us ≡ true → keeps_pair 0 (drop a us) ≡ true
whole_drop a us h = rw (get_or-drop a us 0 0, add-zero a) h

-- ── the tail, forward ──

walk_nil : (bare : Bool) (k at : ℕ) (us : List ℕ) (opener : ℕ) → walk bare (state k at us 0 opener) [] ≡ ok (tail us)
walk_nil bare k at us opener = walk_end bare (state k at us 0 opener)

-- where the glyph is wholly the font's, the cluster is the tail's first
font_wide : (us : List ℕ) (c : Cluster) (g : Glyph) (gs : List Glyph) → Opens us c g gs → is_font g ≡ true → (wide us ≡ c.units) × (c.glyphs ≡ 1)
font_wide us c g gs o h = ⊎_elim plain (λ p. (rw (p.pair, p.two), p.one)) o.kind
  where
    plain : (maps c.units c.glyphs ≡ true → named g.index ≡ true) → (wide us ≡ c.units) × (c.glyphs ≡ 1)
    plain f =
        let n : named g.index ≡ false = ap (λ (x : Glyph). named x.index) (font_is g h) in
        let m : maps c.units c.glyphs ≡ false = cases (maps c.units c.glyphs) (λ t. clash (named g.index) (f t) n) (λ t. t) in
        let (u, v) = unmapped_one c.units c.glyphs o.some_units m in
        (plain_wide us (rw u at o.whole_pairs) ∙ sym u, v)

-- the tail begins with a cluster that is wholly the font's, and goes on behind it
font_more : (us : List ℕ) (c : Cluster) (cs : List Cluster) (g : Glyph) (gs : List Glyph) → Opens us c g gs → is_font g ≡ true
    → tail (drop c.units us) ≡ parts cs gs
    → tail us ≡ parts (c ∷ cs) (g ∷ gs)
font_more us c cs g gs o h t =
    let (w, one) = font_wide us c g gs o h in
    tail_first us c.units (omega (arith, o.some_units, o.inside)) w ∙ rw (t, ← one, font_is g h)

font_tail : (gs : List Glyph) (cs : List Cluster) (us : List ℕ) → fits false 0 us cs gs ≡ true → all_font gs ≡ true → tail us ≡ parts cs gs
font_tail [] cs us h k = let (l, e, u) = fits_nil false 0 us cs h in rw (e, u) tail_nil
font_tail (g ∷ gs) [] us h k = clash (fits false zero us [] (g ∷ gs)) h (unfold fits in refl)
font_tail (g ∷ gs) (c ∷ cs) us h k =
    let f : Opening false us c cs g gs = fits_opening false us c cs g gs h in
    let o : Opens us c g gs = may_opens us c g gs f.may in
    let (i, j) = font_cons g gs k in
    font_more us c cs g gs o i (font_tail gs cs (drop c.units us) (rw (font_wide us c g gs o i).1 at f.rest) j)

-- ── a writer's entries, forward ──

module _ {w : ℕ → List ℕ} (y : Writer w) where
  -- a cluster that an entry opens, and that entry dropped where it and all behind it have no bytes
  walk_opens : (k at : ℕ) (us : List ℕ) (opener : ℕ) (c : Cluster) (cs : List Cluster) (g : Glyph) (gs : List Glyph) → glyph_fits g ≡ true → Opens us c g gs
      → (maps c.units c.glyphs ≡ true → named g.index ≡ true)
      → walk false (state (suc k) (at + c.units) (drop c.units us) (c.glyphs - 1) k) (trim (entries_by w (c.glyphs - 1) cs gs)) ≡ ok (parts cs gs)
      → walk false (state k at us 0 opener) (trim (entry_by w c.units c.glyphs g ∷ entries_by w (c.glyphs - 1) cs gs)) ≡ ok (parts (c ∷ cs) (g ∷ gs))
  walk_opens k at us opener c cs g gs m o f r =
      let e = entry_by w c.units c.glyphs g in
      let ss = entries_by w (c.glyphs - 1) cs gs in
      cases (empty e && empty (trim ss))
      (λ t. let i : is_font g ≡ true = sym (empty_is_font y c.units c.glyphs g) ∙ and_l (empty e) (empty (trim ss)) t in
      let n : trim ss ≡ [] = empty_nil (trim ss) (and_r (empty e) (empty (trim ss)) t) in
      let b : tail (drop c.units us) ≡ parts cs gs = ok_path _ _
      (sym (walk_nil false (suc k) (at + c.units) (drop c.units us) k) ∙ rw (n, (font_wide us c g gs o i).1) at r) in
      rw (trim_gone e ss t) (walk_nil false k at us opener ∙ ap ok (font_more us c cs g gs o i b)))
      (λ t. rw (trim_kept e ss t)
      (walk_step false (state k at us 0 opener) e (trim ss) (opened c.units c.glyphs g) (parts cs gs)
      (step_open y k at us opener c.units c.glyphs g m f o.some_units o.some_glyphs o.inside o.whole_pairs) r))

  -- an entry with an index is kept
  trim_named : (a b : ℕ) (g : Glyph) (ss : List (List ℕ)) → named g.index ≡ true → trim (entry_by w a b g ∷ ss) ≡ entry_by w a b g ∷ trim ss
  trim_named a b g ss h = trim_kept (entry_by w a b g) ss (rw (entry_full y a b g h))

  -- the walk over the entries that are left gives the clusters and the glyphs
  walk_back : (gs : List Glyph) (bare : Bool) (cs : List Cluster) (k at : ℕ) (us : List ℕ) (lack opener : ℕ) → keeps_pair 0 us ≡ true
      → fits bare lack us cs gs ≡ true
      → walk bare (state k at us lack opener) (trim (entries_by w lack cs gs)) ≡ ok (parts cs gs)
  unfolding entries_by
  walk_back [] bare cs k at us lack opener q h =
      let f : (lack ≡ 0) × (cs ≡ []) × (us ≡ []) = fits_nil bare lack us cs h in
      rw (written_nil w lack cs, trim_nil, f.0, f.1, f.2) (walk_nil bare k at [] opener ∙ ap ok (unfold tail in refl))
  walk_back (g ∷ gs) bare cs k at us (suc n) opener q h =
      let f : Further bare n us cs g gs = fits_further bare n us cs g gs h in
      let s : step bare (state k at us (suc n) opener) (entry_by w 1 1 g) ≡ ok (back 1 1 g) = step_further y bare k at us n opener g f.small f.name in
      let d : suc n - 1 ≡ n = omega arith in
      let r : walk bare (next bare (state k at us (suc n) opener) (back 1 1 g)) (trim (entries_by w n cs gs)) ≡ ok (parts cs gs) =
      rw (eqb-suc-zero n, d) (walk_back gs bare cs (suc k) (at + 0) us n opener q f.rest) in
      rw (trim_named 1 1 g (entries_by w n cs gs) f.name)
      (walk_step bare (state k at us (suc n) opener) (entry_by w 1 1 g) (trim (entries_by w n cs gs)) (back 1 1 g) (parts cs gs) s r ∙ rw (eqb-suc-zero n))
  walk_back (g ∷ gs) bare [] k at us zero opener q h = clash (fits bare zero us [] (g ∷ gs)) h (unfold fits in refl)
  walk_back (g ∷ gs) true (c ∷ cs) k at us zero opener q h =
      let f : Opening true us c cs g gs = fits_opening true us c cs g gs h in
      let o : Bare c g = may_bare us c g gs f.may in
      let r : walk true (next true (state k at us 0 opener) (back 0 1 g)) (trim (entries_by w (1 - 1) cs gs)) ≡ ok (parts cs gs) =
      walk_back gs true cs (suc k) (at + 0) us 0 k q (rw (o.none, o.one) at f.rest) in
      rw (o.none, o.one, trim_named 0 1 g (entries_by w (1 - 1) cs gs) o.name)
      (walk_step true (state k at us 0 opener) (entry_by w 0 1 g) (trim (entries_by w (1 - 1) cs gs)) (back 0 1 g) (parts cs gs)
      (step_bare y k at us opener g f.small o.name) r)
  walk_back (g ∷ gs) false (c ∷ cs) k at us zero opener q h =
      let f : Opening false us c cs g gs = fits_opening false us c cs g gs h in
      let o : Opens us c g gs = may_opens us c g gs f.may in
      ⊎_elim
      (λ n. walk_opens k at us opener c cs g gs f.small o n
      (walk_back gs false cs (suc k) (at + c.units) (drop c.units us) (c.glyphs - 1) k (whole_drop c.units us o.whole_pairs) f.rest))
      (λ p. rw (font_written w (g ∷ gs) zero (c ∷ cs) p.font) (walk_nil false k at us opener ∙ ap ok (font_tail (g ∷ gs) (c ∷ cs) us h p.font)))
      o.kind

-- ── an entry that passed ──

-- what is known of an entry that passed
pub record Stepped (bare : Bool) (st : State) (s : List ℕ) (e : Entry) : Type 0 where
  pub is : entry st.k s ≡ ok e
  pub ten : (leb 1 e.units && leb 1 e.glyphs) ≡ true
  pub eleven : allowed bare st e ≡ true
  pub twelve : leb (takes bare st e) (length st.rest) ≡ true
  pub thirteen : (not (opens_units bare st) || keeps_pair e.units st.rest) ≡ true

-- what is taken is there
within_rest : (x : Bool) (a n : ℕ) → (not x || leb a n) ≡ true → leb (cond x a 0) n ≡ true
within_rest true a n h = h
within_rest false a n h = leb-zero n

pub step_ok : (bare : Bool) (st : State) (s : List ℕ) (e : Entry) → step bare st s ≡ ok e → Stepped bare st s e
unfolding step
step_ok bare st s e h =
    let (x, a, b) = bind_ok (entry st.k s) (placed bare st) e h in
    let (t10, b10) = need_ok (leb 1 x.units && leb 1 x.glyphs) 10 st.k _ e (sym (placed_steps bare st x) ∙ b) in
    let (t11, b11) = need_ok (allowed bare st x) 11 st.k _ e b10 in
    let (t12, b12) = need_ok (not (opens_units bare st) || leb x.units (length st.rest)) 12 st.k _ e b11 in
    let (t13, b13) = need_ok (not (opens_units bare st) || keeps_pair x.units st.rest) 13 (st.at + x.units) _ e b12 in
    let q : x ≡ e = ok_path x e b13 in
    subst (λ (y : Entry). Stepped bare st s y) q (record {
      is = a;
      ten = t10;
      eleven = t11;
      twelve = within_rest (opens_units bare st) x.units (length st.rest) t12;
      thirteen = t13;
    })

pub record Walked (bare : Bool) (st : State) (s : List ℕ) (ss : List (List ℕ)) (p : Parts) : Type 0 where
  pub first : Entry
  pub others : Parts
  pub stepped : step bare st s ≡ ok first
  pub walked : walk bare (next bare st first) ss ≡ ok others
  pub is : add_glyph (opens st) (cluster (takes bare st first) first.glyphs) first.glyph others ≡ p

pub walk_ok : (bare : Bool) (st : State) (s : List ℕ) (ss : List (List ℕ)) (p : Parts) → walk bare st (s ∷ ss) ≡ ok p → Walked bare st s ss p
walk_ok bare st s ss p h =
    let (e, a, b) = bind_ok (step bare st s) _ p (sym (walk_first bare st s ss) ∙ h) in
    let (q, c, d) = bind_ok (walk bare (next bare st e) ss) _ p b in
    record { first = e; others = q; stepped = a; walked = c; is = ok_path _ p d }

-- ── split into entries again ──

pub entries_joined : (l : List (List ℕ)) → all_free 59 l ≡ true → entries (join 59 (trim l)) ≡ trim l
unfolding entries
entries_joined l h = go (trim l) refl
  where
    go : (t : List (List ℕ)) → trim l ≡ t → entries (join 59 (trim l)) ≡ trim l
    go [] e = rw (e, join_nil 59)
    go (x ∷ xs) e =
        let f : all_free 59 (x ∷ xs) ≡ true = rw e at (free_trim 59 l h) in
        rw (e, joined_full 59 l x xs e, join_cons 59 x xs, split_join 59 xs x (and_l (free 59 x) (all_free 59 xs) f) (and_r (free 59 x) (all_free 59 xs) f))

-- ── the written entries: what holds of each, no `;` in them, and few bytes ──

-- each of some entries is as asked
abbrev pub Each : (List ℕ → Type 0) → List (List ℕ) → Type 0
Each P [] = Unit {0}
Each P (x ∷ xs) = P x × Each P xs

pub written_each : (w : ℕ → List ℕ) (P : List ℕ → Type 0) → ((a b : ℕ) (g : Glyph) → glyph_fits g ≡ true → P (entry_by w a b g))
    → (gs : List Glyph) (bare : Bool) (cs : List Cluster) (us : List ℕ) (lack : ℕ) → fits bare lack us cs gs ≡ true → Each P (entries_by w lack cs gs)
unfolding entries_by
written_each w P p [] bare cs us lack h = tt
written_each w P p (g ∷ gs) bare cs us (suc n) h =
    let f : Further bare n us cs g gs = fits_further bare n us cs g gs h in
    (p 1 1 g f.small, written_each w P p gs bare cs us n f.rest)
written_each w P p (g ∷ gs) bare [] us zero h = tt
written_each w P p (g ∷ gs) bare (c ∷ cs) us zero h =
    let f : Opening bare us c cs g gs = fits_opening bare us c cs g gs h in
    (p c.units c.glyphs g f.small, written_each w P p gs bare cs (drop c.units us) (c.glyphs - 1) f.rest)

-- an open cluster's glyphs are there
pub fits_lack : (gs : List Glyph) (bare : Bool) (cs : List Cluster) (us : List ℕ) (lack : ℕ) → fits bare lack us cs gs ≡ true → lack ≤ length gs
fits_lack [] bare cs us lack h = let z : lack ≡ 0 = (fits_nil bare lack us cs h).0 in omega arith
fits_lack (g ∷ gs) bare cs us zero h = omega arith
fits_lack (g ∷ gs) bare cs us (suc n) h = let r : n ≤ length gs = fits_lack gs bare cs us n (fits_further bare n us cs g gs h).rest in omega arith

-- the indices of a run that fits
pub record Indices (w : ℕ → List ℕ) (bare : Bool) (us : List ℕ) (cs : List Cluster) (gs : List Glyph) : Type 0 where
  pub back_again : walk bare (start_state us) (entries (indices_by w cs gs)) ≡ ok (parts cs gs)
  pub short : length (indices_by w cs gs) ≤ 262144

module _ {w : ℕ → List ℕ} (y : Writer w) where
  pub written_semi : (gs : List Glyph) (bare : Bool) (cs : List Cluster) (us : List ℕ) (lack : ℕ) → fits bare lack us cs gs ≡ true
      → all_free 59 (entries_by w lack cs gs) ≡ true
  written_semi gs bare cs us lack h = go (entries_by w lack cs gs) (written_each w (λ x. free 59 x ≡ true) (entry_semi y) gs bare cs us lack h)
    where
      go : (l : List (List ℕ)) → Each (λ x. free 59 x ≡ true) l → all_free 59 l ≡ true
      go [] e = refl
      go (x ∷ xs) e = rw e.0 (go xs e.1)

  pub written_total : (gs : List Glyph) (bare : Bool) (cs : List Cluster) (us : List ℕ) (lack : ℕ) → length us < 100000 → length gs < 100000
      → fits bare lack us cs gs ≡ true
      → total (entries_by w lack cs gs) ≤ 58 * length gs
  unfolding entries_by
  written_total [] bare cs us lack hu hg h = omega arith
  written_total (g ∷ gs) bare cs us (suc n) hu hg h =
      let f : Further bare n us cs g gs = fits_further bare n us cs g gs h in
      let r : total (entries_by w n cs gs) ≤ 58 * length gs = written_total gs bare cs us n hu (omega arith) f.rest in
      let e : length (entry_by w 1 1 g) ≤ 57 = entry_short y 1 1 g f.small (omega arith) (omega arith) in
      omega arith
  written_total (g ∷ gs) bare [] us zero hu hg h = omega arith
  written_total (g ∷ gs) true (c ∷ cs) us zero hu hg h =
      let f : Opening true us c cs g gs = fits_opening true us c cs g gs h in
      let o : Bare c g = may_bare us c g gs f.may in
      let r : total (entries_by w (c.glyphs - 1) cs gs) ≤ 58 * length gs =
      written_total gs true cs (drop c.units us) (c.glyphs - 1) (rw length-drop (omega arith)) (omega arith) f.rest in
      let e : length (entry_by w c.units c.glyphs g) ≤ 57 =
      entry_short y c.units c.glyphs g f.small (omega (arith, o.none)) (omega (arith, o.one)) in
      omega arith
  written_total (g ∷ gs) false (c ∷ cs) us zero hu hg h =
      let f : Opening false us c cs g gs = fits_opening false us c cs g gs h in
      let o : Opens us c g gs = may_opens us c g gs f.may in
      let l : c.glyphs - 1 ≤ length gs = fits_lack gs false cs (drop c.units us) (c.glyphs - 1) f.rest in
      let r : total (entries_by w (c.glyphs - 1) cs gs) ≤ 58 * length gs =
      written_total gs false cs (drop c.units us) (c.glyphs - 1) (rw length-drop (omega arith)) (omega arith) f.rest in
      let e : length (entry_by w c.units c.glyphs g) ≤ 57 =
      entry_short y c.units c.glyphs g f.small (omega (arith, o.inside)) (omega (arith, o.some_glyphs)) in
      omega arith

  pub indices_back : (bare : Bool) (us : List ℕ) (cs : List Cluster) (gs : List Glyph) → keeps_pair 0 us ≡ true → length us ≤ 4096 → length gs ≤ 4096
      → fits bare 0 us cs gs ≡ true
      → Indices w bare us cs gs
  unfolding indices_by
  indices_back bare us cs gs q hu hg h =
      record {
        back_again =
            rw (entries_joined (entries_by w 0 cs gs) (written_semi gs bare cs us 0 h))
            (walk_back y gs bare cs 0 0 us 0 0 q h);
        short =
            let t : total (entries_by w 0 cs gs) ≤ 58 * length gs = written_total gs bare cs us 0 (omega arith) (omega arith) h in
            let j : length (join 59 (trim (entries_by w 0 cs gs))) ≤ total (trim (entries_by w 0 cs gs)) = join_total 59 (trim (entries_by w 0 cs gs)) in
            let s : total (trim (entries_by w 0 cs gs)) ≤ total (entries_by w 0 cs gs) = total_trim (entries_by w 0 cs gs) in
            omega arith;
      }

  -- in a text of no units the indices are some bytes
  pub indices_full : (us : List ℕ) (cs : List Cluster) (gs : List Glyph) → empty gs ≡ false → fits true 0 us cs gs ≡ true → empty (indices_by w cs gs) ≡ false
  unfolding indices_by entries_by
  indices_full us cs [] e h = clash true refl e
  indices_full us [] (g ∷ gs) e h = clash (fits true zero us [] (g ∷ gs)) h (unfold fits in refl)
  indices_full us (c ∷ cs) (g ∷ gs) e h =
      let f : Opening true us c cs g gs = fits_opening true us c cs g gs h in
      let o : Bare c g = may_bare us c g gs f.may in
      joined_first 59 (entry_by w c.units c.glyphs g) (entries_by w (c.glyphs - 1) cs gs) (entry_full y c.units c.glyphs g o.name)
