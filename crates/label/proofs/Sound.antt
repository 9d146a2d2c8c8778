-- What is read is sound, by what each accepted step says (`read_sound`), and what a writer makes of a sound run reads as it, by the ways back of text and
-- indices (`read_back`).
-- Assumes nothing.
use Prim.Native.Nat.{ℕ, zero, suc, ◌+◌, ◌-◌, ◌/◌, ◌%◌, ◌≤◌}
use native.Mathlib.Omega.{arith}
use mathlib.Core.Path.{◌≡◌, refl, sym, ◌∙◌, subst}
use mathlib.Core.Bool.{Bool, true, false, cond, not, ◌&&◌, ◌||◌, or-true}
use mathlib.Core.List.{List, [], ◌∷◌, ◌++◌}
use borrow.Author.Tests.{eq-eqb, not-true, le-leb, leb-true, leb-false, eqb-true}
use lib.Dec.{eqb, leb, eqb-suc-zero}
use lib.IntN.{pos, neg_ℤ}
use lib.ListN.{length, drop}
use Rattle.label.specs.Limits.{max_text_bytes, max_indices_bytes, max_units, max_glyphs}
use Rattle.label.specs.Outcome.{ok}
use Rattle.label.specs.Bytes.{empty, on_first, split, all_digits, digits, value}
use Rattle.label.specs.Text.{starts_char, following, code_point, xml_char, is_high, is_low, is_pair, units_of, braced, marked, unmarked}
use Rattle.label.specs.Entry.{minus, unsigned, mantissa_digits, exponent_digits, thousandths, number_fits, entry_part, has_map, at_parenthesis, at_colon, is_index_part, index_digits, map_units, map_glyphs, is_advance, is_offset, well_formed, field_fits, index_of, advance_of, offset_of, Entry, entry_of, entries}
use Rattle.label.specs.Run.{Run, Parts, named, font_glyph, cluster, add_glyph, keeps_pair, tail, State, start_state, opens, takes, allowed, next}
use Rattle.label.specs.Checks.{read}
use Rattle.label.specs.Steps.{decode, text_units, entry, walk}
use Rattle.label.specs.Sound.{proper_units, size, index_fits, advance_fits, glyph_fits, all_font, may_open, fits, sound_run}
use Rattle.label.specs.Write.{text_of, indices_by, written_label}
use Rattle.label.specs.declared.Glyph.{Glyph}
use Rattle.label.specs.declared.Cluster.{Cluster}
use Rattle.label.proofs.Basics.{and_l, and_r, clash, cases, bind_ok, need_ok}
use Rattle.label.proofs.Steps.{decode_none, decode_inside, decode_char, text_steps, entry_steps, walk_end, run_steps, read_steps}
use Rattle.label.proofs.Splits.{empty_nil}
use Rattle.label.proofs.Values.{Writer}
use Rattle.label.proofs.Run.{parts, state, ok_path, Stepped, step_ok, Walked, walk_ok, indices_back, Indices, indices_full}
use Rattle.label.proofs.Text.{xml_not_high, xml_halves, TextBack, text_back, proper_first, proper_behind, pair_whole, plain_whole}
use Rattle.label.proofs.Tails.{tail_nil, tail_font}

-- ── an entry that was read ──

index_fits_holds : (p : List ℕ) → leb (value (index_digits p)) 65535 ≡ true → index_fits (index_of p) ≡ true
unfolding index_of
index_fits_holds p h = cases (empty (index_digits p)) (λ t. rw t) (λ t. rw t h)

moderate_size : (s : List ℕ) → number_fits s ≡ true → leb (thousandths s) 1000000000 ≡ true
unfolding number_fits
moderate_size s h = and_r (leb (length (mantissa_digits s)) 18 && leb (length (exponent_digits s)) 2) (leb (thousandths s) 1000000000) h

field_size_holds : (s : List ℕ) → field_fits s ≡ true → empty s ≡ false → leb (thousandths (unsigned s)) 1000000000 ≡ true
unfolding field_fits
field_size_holds s h k = moderate_size (unsigned s) (rw k at h)

advance_fits_holds : (s : List ℕ) → field_fits s ≡ true → advance_fits (advance_of s) ≡ true
unfolding advance_of
advance_fits_holds s h = cases (empty s) (λ t. rw t) (λ t. rw t (field_size_holds s h t))

size_neg : (n : ℕ) → size (neg_ℤ (pos n)) ≡ n
size_neg zero = refl
size_neg (suc n) = refl

offset_fits : (s : List ℕ) → field_fits s ≡ true → leb (size (offset_of s)) 1000000000 ≡ true
unfolding offset_of
offset_fits s h =
    cases (empty s)
    (λ t. rw t)
    (λ t. cases (minus s) (λ m. rw (t, m, size_neg) (field_size_holds s h t)) (λ m. rw (t, m) (field_size_holds s h t)))

pub record EntryFacts (e : Entry) : Type 0 where
  pub small : glyph_fits e.glyph ≡ true
  pub map_named : e.mapped ≡ true → named e.glyph.index ≡ true
  pub no_map_holds : e.mapped ≡ false → (e.units ≡ 1) × (e.glyphs ≡ 1)

map_names : (p : List ℕ) → is_index_part p ≡ true → has_map p ≡ true → named (index_of p) ≡ true
unfolding is_index_part index_of index_digits
map_names p h m =
    let i = at_colon p in
    let q : ((at_parenthesis p).found && digits (at_parenthesis p).after && digits i.before && cond i.found (digits i.after) true) ≡ true = rw m at h in
    let q1 : ((at_parenthesis p).found && digits (at_parenthesis p).after && digits i.before) ≡ true =
    and_l ((at_parenthesis p).found && digits (at_parenthesis p).after && digits i.before) (cond i.found (digits i.after) true) q in
    let q2 : ((at_parenthesis p).found && digits (at_parenthesis p).after) ≡ true = and_l ((at_parenthesis p).found && digits (at_parenthesis p).after)
    (digits i.before) q1 in
    let q3 : digits (at_parenthesis p).after ≡ true = and_r (at_parenthesis p).found (digits (at_parenthesis p).after) q2 in
    let n : empty (at_parenthesis p).after ≡ false = not-true (empty (at_parenthesis p).after)
    (and_l (not (empty (at_parenthesis p).after)) (all_digits (at_parenthesis p).after) q3) in
    rw (m, n)

formed_index : (s : List ℕ) → well_formed s ≡ true → is_index_part (entry_part 0 s) ≡ true
unfolding well_formed
formed_index s h =
    let l = leb (length (split 44 s)) 4 in
    let i = is_index_part (entry_part 0 s) in
    let a = is_advance (entry_part 1 s) in
    let u = is_offset (entry_part 2 s) in
    let v = is_offset (entry_part 3 s) in
    and_r l i (and_l (l && i) a (and_l (l && i && a) u (and_l (l && i && a && u) v h)))

facts_of : (s : List ℕ) → well_formed s ≡ true → leb (value (index_digits (entry_part 0 s))) 65535 ≡ true
    → (field_fits (entry_part 1 s) && field_fits (entry_part 2 s) && field_fits (entry_part 3 s)) ≡ true → EntryFacts (entry_of s)
unfolding entry_of map_units map_glyphs
facts_of s t7 t8 t9 =
    let m1 = field_fits (entry_part 1 s) in
    let m2 = field_fits (entry_part 2 s) in
    let m3 = field_fits (entry_part 3 s) in
    let m12 : (m1 && m2) ≡ true = and_l (m1 && m2) m3 t9 in
    record {
      small =
          rw (
            index_fits_holds (entry_part 0 s) t8,
            advance_fits_holds (entry_part 1 s) (and_l m1 m2 m12),
            offset_fits (entry_part 2 s) (and_r m1 m2 m12),
            offset_fits (entry_part 3 s) (and_r (m1 && m2) m3 t9),
          );
      map_named = λ m. map_names (entry_part 0 s) (formed_index s t7) m;
      no_map_holds = λ m. (rw m, rw m);
    }

pub entry_facts : (k : ℕ) (s : List ℕ) (e : Entry) → entry k s ≡ ok e → EntryFacts e
entry_facts k s e h =
    let (t7, b7) = need_ok (well_formed s) 7 k _ e (sym (entry_steps k s) ∙ h) in
    let (t8, b8) = need_ok (leb (value (index_digits (entry_part 0 s))) 65535) 8 k _ e b7 in
    let (t9, b9) = need_ok (field_fits (entry_part 1 s) && field_fits (entry_part 2 s) && field_fits (entry_part 3 s)) 9 k _ e b8 in
    subst EntryFacts (ok_path (entry_of s) e b9) (facts_of s t7 t8 t9)

-- ── the tail ──

fits_end : (bare : Bool) → fits bare 0 [] [] [] ≡ true
unfolding fits
fits_end bare = refl

fits_further_is : (bare : Bool) (n : ℕ) (us : List ℕ) (cs : List Cluster) (g : Glyph) (gs : List Glyph) → glyph_fits g ≡ true → named g.index ≡ true
    → fits bare n us cs gs ≡ true → fits bare (suc n) us cs (g ∷ gs) ≡ true
unfolding fits
fits_further_is bare n us cs g gs a b c = rw (a, b, c)

fits_open_is : (bare : Bool) (us : List ℕ) (c : Cluster) (cs : List Cluster) (g : Glyph) (gs : List Glyph) → glyph_fits g ≡ true
    → may_open bare us c g gs ≡ true
    → fits bare (c.glyphs - 1) (drop c.units us) cs gs ≡ true → fits bare 0 us (c ∷ cs) (g ∷ gs) ≡ true
unfolding fits
fits_open_is bare us c cs g gs a b d = rw (a, b, d)

tail_fits : (us : List ℕ) → proper_units false us ≡ true → fits false 0 us (tail us).clusters (tail us).glyphs ≡ true
unfolding tail all_font
tail_fits [] h = fits_end false
tail_fits (u ∷ []) h = fits_open_is false (u ∷ []) (cluster 1 1) [] font_glyph [] refl refl (fits_end false)
tail_fits (u ∷ v ∷ us) h =
    cases (is_pair (u ∷ v ∷ us))
    (λ p. let w : keeps_pair 2 (u ∷ v ∷ us) ≡ true = pair_whole (u ∷ v ∷ us) h p in
    let o : may_open false (u ∷ v ∷ us) (cluster 2 1) font_glyph (tail us).glyphs ≡ true = rw (
      le-leb 2 (suc (suc (length us))) (omega arith),
      w,
      p,
      tail_font us,
    ) in
    rw p (fits_open_is false (u ∷ v ∷ us) (cluster 2 1) (tail us).clusters font_glyph (tail us).glyphs refl o
    (tail_fits us (proper_behind (u ∷ v ∷ us) 2 h w))))
    (λ p. let w : keeps_pair 1 (u ∷ v ∷ us) ≡ true = plain_whole (u ∷ v ∷ us) h p in
    let o : may_open false (u ∷ v ∷ us) (cluster 1 1) font_glyph (tail (v ∷ us)).glyphs ≡ true = rw (le-leb 1 (suc (suc (length us))) (omega arith), w) in
    rw p (fits_open_is false (u ∷ v ∷ us) (cluster 1 1) (tail (v ∷ us)).clusters font_glyph (tail (v ∷ us)).glyphs refl o
    (tail_fits (v ∷ us) (proper_behind (u ∷ v ∷ us) 1 h w))))

-- ── the walk ──

walk_over : (bare : Bool) (k at : ℕ) (us : List ℕ) (lack opener : ℕ) (p : Parts) → walk bare (state k at us lack opener) [] ≡ ok p → (lack ≡ 0) × (tail us ≡ p)
walk_over bare k at us lack opener p h =
    let (t, b) = need_ok (eqb lack 0) 14 opener _ p (sym (walk_end bare (state k at us lack opener)) ∙ h) in
    (eqb-true lack 0 t, ok_path (tail us) p b)

next_further : (bare : Bool) (k at : ℕ) (us : List ℕ) (n opener : ℕ) (e : Entry)
    → next bare (state k at us (suc n) opener) e ≡ state (suc k) (at + 0) us n opener
next_further bare k at us n opener e = let d : suc n - 1 ≡ n = omega arith in rw (eqb-suc-zero n, d)

or_false : (b : Bool) → (false || b) ≡ true → b ≡ true
or_false b h = h

-- a cluster that was opened may open
may_bare_is : (us : List ℕ) (e : Entry) (gs : List Glyph) → EntryFacts e → (not e.mapped && named e.glyph.index) ≡ true
    → may_open true us (cluster 0 e.glyphs) e.glyph gs ≡ true
may_bare_is us e gs f h =
    let m : e.mapped ≡ false = not-true e.mapped (and_l (not e.mapped) (named e.glyph.index) h) in
    let n : named e.glyph.index ≡ true = and_r (not e.mapped) (named e.glyph.index) h in
    rw (eq-eqb e.glyphs 1 (f.no_map_holds m).1, n)

may_open_is : (us : List ℕ) (e : Entry) (gs : List Glyph) → EntryFacts e → (leb 1 e.units && leb 1 e.glyphs) ≡ true → leb e.units (length us) ≡ true
    → keeps_pair e.units us ≡ true → may_open false us (cluster e.units e.glyphs) e.glyph gs ≡ true
may_open_is us e gs f h10 h12 h13 =
    let n : (named e.glyph.index || (eqb e.units 1 && eqb e.glyphs 1)) ≡ true =
    cases e.mapped
    (λ m. rw (f.map_named m))
    (λ m. rw (eq-eqb e.units 1 (f.no_map_holds m).0, eq-eqb e.glyphs 1 (f.no_map_holds m).1) (or-true (named e.glyph.index))) in
    rw (and_l (leb 1 e.units) (leb 1 e.glyphs) h10, and_r (leb 1 e.units) (leb 1 e.glyphs) h10, h12, h13, n)

-- what an accepted walk gives fits
pub walk_fits : (ss : List (List ℕ)) (bare : Bool) (k at : ℕ) (us : List ℕ) (lack opener : ℕ) (p : Parts) → (bare ≡ true → us ≡ [])
    → proper_units false us ≡ true
    → walk bare (state k at us lack opener) ss ≡ ok p → fits bare lack us p.clusters p.glyphs ≡ true
walk_fits [] true k at us lack opener p b q h =
    let (l, t) = walk_over true k at us lack opener p h in
    rw (l, b refl, ← t, b refl, tail_nil) (fits_end true)
walk_fits [] false k at us lack opener p b q h =
    let (l, t) = walk_over false k at us lack opener p h in
    rw (l, ← t) (tail_fits us q)
walk_fits (s ∷ ss) bare k at us (suc n) opener p b q h =
    let x : Walked bare (state k at us (suc n) opener) s ss p = walk_ok bare (state k at us (suc n) opener) s ss p h in
    let y : Stepped bare (state k at us (suc n) opener) s x.first = step_ok bare (state k at us (suc n) opener) s x.first x.stepped in
    let f : EntryFacts x.first = entry_facts k s x.first y.is in
    let w : walk bare (state (suc k) (at + 0) us n opener) ss ≡ ok x.others =
    subst (λ (st : State). walk bare st ss ≡ ok x.others) (next_further bare k at us n opener x.first) x.walked in
    let r : fits bare n us x.others.clusters x.others.glyphs ≡ true = walk_fits ss bare (suc k) (at + 0) us n opener x.others b q w in
    let a : (not x.first.mapped && named x.first.glyph.index) ≡ true = or_false (not x.first.mapped && named x.first.glyph.index)
    (further_allowed bare k at us n opener x.first y.eleven) in
    subst (λ (r : Parts). fits bare (suc n) us r.clusters r.glyphs ≡ true)
    (further_is n (cluster (takes bare (state k at us (suc n) opener) x.first) x.first.glyphs) x.first.glyph x.others ∙ x.is)
    (fits_further_is bare n us x.others.clusters x.first.glyph x.others.glyphs f.small
    (and_r (not x.first.mapped) (named x.first.glyph.index) a) r)
  where
    further_allowed : (bare : Bool) (k at : ℕ) (us : List ℕ) (n opener : ℕ) (e : Entry) → allowed bare (state k at us (suc n) opener) e ≡ true
        → (false || (not e.mapped && named e.glyph.index)) ≡ true
    further_allowed bare k at us n opener e h = rw (eqb-suc-zero n) at h

    further_is : (n : ℕ) (c : Cluster) (g : Glyph) (q : Parts) → parts q.clusters (g ∷ q.glyphs) ≡ add_glyph (eqb (suc n) 0) c g q
    further_is n c g q = rw (eqb-suc-zero n)
walk_fits (s ∷ ss) true k at us zero opener p b q h =
    let st = state k at us 0 opener in
    let x : Walked true st s ss p = walk_ok true st s ss p h in
    let y : Stepped true st s x.first = step_ok true st s x.first x.stepped in
    let f : EntryFacts x.first = entry_facts k s x.first y.is in
    let r : fits true (x.first.glyphs - 1) us x.others.clusters x.others.glyphs ≡ true =
    walk_fits ss true (suc k) (at + 0) us (x.first.glyphs - 1) k x.others b q x.walked in
    subst (λ (r : Parts). fits true 0 us r.clusters r.glyphs ≡ true) x.is
    (fits_open_is true us (cluster 0 x.first.glyphs) x.others.clusters x.first.glyph x.others.glyphs f.small
    (may_bare_is us x.first x.others.glyphs f y.eleven) r)
walk_fits (s ∷ ss) false k at us zero opener p b q h =
    let st = state k at us 0 opener in
    let x : Walked false st s ss p = walk_ok false st s ss p h in
    let y : Stepped false st s x.first = step_ok false st s x.first x.stepped in
    let f : EntryFacts x.first = entry_facts k s x.first y.is in
    let r : fits false (x.first.glyphs - 1) (drop x.first.units us) x.others.clusters x.others.glyphs ≡ true =
    walk_fits ss false (suc k) (at + x.first.units) (drop x.first.units us) (x.first.glyphs - 1) k x.others (λ z. clash false z refl)
    (proper_behind us x.first.units q y.thirteen) x.walked in
    subst (λ (r : Parts). fits false 0 us r.clusters r.glyphs ≡ true) x.is
    (fits_open_is false us (cluster x.first.units x.first.glyphs) x.others.clusters x.first.glyph x.others.glyphs f.small
    (may_open_is us x.first x.others.glyphs f y.ten y.twelve y.thirteen) r)

-- ── the text ──

proper_one : (c : ℕ) (us : List ℕ) → c ≤ 65535 → xml_char c ≡ true → proper_units false us ≡ true → proper_units false (c ∷ us) ≡ true
unfolding proper_units
proper_one c us l x h = rw (xml_not_high c x, le-leb c 65535 l, x) h

proper_pair : (u v : ℕ) (us : List ℕ) → is_high u ≡ true → is_low v ≡ true → proper_units false us ≡ true → proper_units false (u ∷ v ∷ us) ≡ true
unfolding proper_units
proper_pair u v us h l k = rw (h, l) k

proper_char : (c : ℕ) (us : List ℕ) → xml_char c ≡ true → proper_units false us ≡ true → proper_units false (units_of c ++ us) ≡ true
unfolding units_of
proper_char c us x h =
    cases (leb c 65535)
    (λ t. rw t (proper_one c us (leb-true c 65535 t) x h))
    (λ t. let (i, j) = xml_halves c x (leb-false c 65535 t) in
    rw t (proper_pair (55296 + (c - 65536) / 1024) (56320 + (c - 65536) % 1024) us i j h))

-- what is decoded is proper
pub decode_proper : (s : List ℕ) (skip at : ℕ) (us : List ℕ) → decode skip at s ≡ ok us → proper_units false us ≡ true
decode_proper [] skip at us h = rw (← ok_path [] us (sym (decode_none skip at) ∙ h)) (unfold proper_units in refl)
decode_proper (b ∷ bs) (suc skip) at us h = decode_proper bs skip (suc at) us (sym (decode_inside skip at b bs) ∙ h)
decode_proper (b ∷ bs) zero at us h =
    let c = code_point b bs in
    let (t2, b2) = need_ok (starts_char b bs) 2 at _ us (sym (decode_char at b bs) ∙ h) in
    let (t3, b3) = need_ok (xml_char c) 3 at _ us b2 in
    let (vs, d, e) = bind_ok (decode (following b bs) (suc at) bs) _ us b3 in
    rw (← ok_path (units_of c ++ vs) us e) (proper_char c vs t3 (decode_proper bs (following b bs) (suc at) vs d))

proper_drop : (us : List ℕ) → marked us ≡ true → proper_units false us ≡ true → proper_units false (drop 2 us) ≡ true
unfolding proper_units xml_char
proper_drop [] m h = h
proper_drop (u ∷ []) m h = unfold proper_units in refl
proper_drop (u ∷ v ∷ us) m h =
    let a : u ≡ 123 = eqb-true u 123 (and_l (eqb u 123) (eqb v 125) m) in
    let b : v ≡ 125 = eqb-true v 125 (and_r (eqb u 123) (eqb v 125) m) in
    rw (a, b) at h

proper_unmarked : (us : List ℕ) → proper_units false us ≡ true → proper_units false (unmarked us) ≡ true
proper_unmarked us h = cases (marked us) (λ t. rw t (proper_drop us t h)) (λ t. rw t h)

-- ── the reading ──

-- what is known of the units of a text
pub record TextIs (text us : List ℕ) : Type 0 where
  pub all : List ℕ
  pub decoded : decode 0 0 text ≡ ok all
  pub fourth : (not (braced all) || marked all) ≡ true
  pub fifth : leb (length us) max_units ≡ true
  pub is : unmarked all ≡ us

pub text_ok : (text us : List ℕ) → text_units text ≡ ok us → TextIs text us
text_ok text us h =
    let (all, d, b) = bind_ok (decode 0 0 text) _ us (sym (text_steps text) ∙ h) in
    let (t4, b4) = need_ok (not (braced all) || marked all) 4 0 _ us b in
    let (t5, b5) = need_ok (leb (length (unmarked all)) max_units) 5 0 _ us b4 in
    let e : unmarked all ≡ us = ok_path (unmarked all) us b5 in
    record { all = all; decoded = d; fourth = t4; fifth = rw e at t5; is = e }

pub text_proper : (text us : List ℕ) → text_units text ≡ ok us → proper_units false us ≡ true
text_proper text us h =
    let x : TextIs text us = text_ok text us h in
    subst (λ (vs : List ℕ). proper_units false vs ≡ true) x.is (proper_unmarked x.all (decode_proper text 0 0 x.all x.decoded))

-- what is known of an accepted label
pub record WasRead (text indices : List ℕ) (r : Run) : Type 0 where
  pub us : List ℕ
  pub text_is : text_units text ≡ ok us
  pub sixth : not (empty us && empty indices) ≡ true
  pub made : Parts
  pub walked : walk (empty us) (start_state us) (entries indices) ≡ ok made
  pub fifteenth : leb (length made.glyphs) max_glyphs ≡ true
  pub is : ◌≡◌ {A = Run} (record { units = us; clusters = made.clusters; glyphs = made.glyphs }) r

pub read_ok : (text indices : List ℕ) (r : Run) → read text indices ≡ ok r → WasRead text indices r
read_ok text indices r h =
    let (t1, b1) = need_ok (leb (length text) max_text_bytes && leb (length indices) max_indices_bytes) 1 0 _ r (sym (read_steps text indices) ∙ h) in
    let (us, d, b2) = bind_ok (text_units text) _ r b1 in
    let (t6, b6) = need_ok (not (empty us && empty indices)) 6 0 _ r (sym (run_steps us indices) ∙ b2) in
    let (p, w, b7) = bind_ok (walk (empty us) (start_state us) (entries indices)) _ r b6 in
    let (t15, b15) = need_ok (leb (length p.glyphs) max_glyphs) 15 0 _ r b7 in
    record { us = us; text_is = d; sixth = t6; made = p; walked = w; fifteenth = t15; is = ok_path _ r b15 }

-- a text of no units has glyphs
walk_some : (bare : Bool) (st : State) (ss : List (List ℕ)) (p : Parts) → empty ss ≡ false → walk bare st ss ≡ ok p → empty p.glyphs ≡ false
walk_some bare st [] p e h = clash true refl e
walk_some bare st (s ∷ ss) p e h =
    let x : Walked bare st s ss p = walk_ok bare st s ss p h in
    subst (λ (q : Parts). empty q.glyphs ≡ false) x.is (some (opens st) (cluster (takes bare st x.first) x.first.glyphs) x.first.glyph
    x.others)
  where
    some : (b : Bool) (c : Cluster) (g : Glyph) (q : Parts) → empty (add_glyph b c g q).glyphs ≡ false
    some true c g q = refl
    some false c g q = refl

split_some : (c : ℕ) (s : List ℕ) → empty (split c s) ≡ false
unfolding split
split_some c [] = refl
split_some c (b ∷ bs) = cases (eqb b c) (λ t. rw t) (λ t. rw t (first b (split c bs)))
  where
    first : (b : ℕ) (l : List (List ℕ)) → empty (on_first b l) ≡ false
    first b [] = refl
    first b (x ∷ xs) = refl

entries_some : (s : List ℕ) → empty s ≡ false → empty (entries s) ≡ false
unfolding entries
entries_some s h = rw h (split_some 59 s)

nand : (a b : Bool) → not (a && b) ≡ true → a ≡ true → b ≡ false
nand true b h k = not-true b h
nand false b h k = clash false k refl

pub read_sound : (text indices : List ℕ) (r : Run) → read text indices ≡ ok r → sound_run r ≡ true
read_sound text indices r h =
    let x : WasRead text indices r = read_ok text indices r h in
    let us = x.us in
    let p : proper_units false us ≡ true = text_proper text us x.text_is in
    let f : fits (empty us) 0 us x.made.clusters x.made.glyphs ≡ true =
    walk_fits (entries indices) (empty us) 0 0 us 0 0 x.made (λ e. empty_nil us e) p x.walked in
    let n : not (empty us && empty x.made.glyphs) ≡ true =
    cases (empty us)
    (λ e. let i : empty indices ≡ false = nand (empty us) (empty indices) x.sixth e in
    rw (walk_some (empty us) (start_state us) (entries indices) x.made (entries_some indices i) x.walked) (and_not (empty us)))
    (λ e. rw e) in
    subst (λ (q : Run). sound_run q ≡ true) x.is (all_sound us x.made.clusters x.made.glyphs p (text_ok text us x.text_is).fifth x.fifteenth n
    f)
  where
    and_not : (a : Bool) → not (a && false) ≡ true
    and_not true = refl
    and_not false = refl

    all_sound : (us : List ℕ) (cs : List Cluster) (gs : List Glyph) → proper_units false us ≡ true → leb (length us) 4096 ≡ true → leb (length gs) 4096 ≡ true
        → not (empty us && empty gs) ≡ true → fits (empty us) 0 us cs gs ≡ true → sound_run (record { units = us; clusters = cs; glyphs = gs }) ≡ true
    all_sound us cs gs a b c d e = unfold sound_run in (rw (a, b, c, d, e))

-- ── the way back ──

pub record SoundRun (r : Run) : Type 0 where
  pub proper : proper_units false r.units ≡ true
  pub few_units : length r.units ≤ 4096
  pub few_glyphs : length r.glyphs ≤ 4096
  pub some : not (empty r.units && empty r.glyphs) ≡ true
  pub fit : fits (empty r.units) 0 r.units r.clusters r.glyphs ≡ true

pub sound_parts : (r : Run) → sound_run r ≡ true → SoundRun r
unfolding sound_run
sound_parts r h =
    let p = proper_units false r.units in
    let a = leb (length r.units) 4096 in
    let b = leb (length r.glyphs) 4096 in
    let n = not (empty r.units && empty r.glyphs) in
    let f = fits (empty r.units) 0 r.units r.clusters r.glyphs in
    let h1 : (p && a && b && n) ≡ true = and_l (p && a && b && n) f h in
    let h2 : (p && a && b) ≡ true = and_l (p && a && b) n h1 in
    let h3 : (p && a) ≡ true = and_l (p && a) b h2 in
    record {
      proper = and_l p a h3;
      few_units = leb-true (length r.units) 4096 (and_r p a h3);
      few_glyphs = leb-true (length r.glyphs) 4096 (and_r (p && a) b h2);
      some = and_r (p && a && b) n h1;
      fit = and_r (p && a && b && n) f h;
    }

-- what a writer makes of a sound run reads as it
pub read_back : {w : ℕ → List ℕ} (y : Writer w) (r : Run) → sound_run r ≡ true → read (written_label w r).text (written_label w r).indices ≡ ok r
read_back {w} y r h =
    let s : SoundRun r = sound_parts r h in
    let t : TextBack r.units = text_back r.units s.proper in
    let i : Indices w (empty r.units) r.units r.clusters r.glyphs =
    indices_back y (empty r.units) r.units r.clusters r.glyphs (proper_first r.units s.proper) s.few_units s.few_glyphs s.fit in
    let n : not (empty r.units && empty (indices_by w r.clusters r.glyphs)) ≡ true =
    cases (empty r.units)
    (λ e. rw (indices_full y r.units r.clusters r.glyphs (nand (empty r.units) (empty r.glyphs) s.some e) (rw e at s.fit))
    (and_not (empty r.units)))
    (λ e. rw e) in
    read_steps (text_of r.units) (indices_by w r.clusters r.glyphs) ∙ rw (
      le-leb (length (text_of r.units)) 16384 (t.short s.few_units),
      le-leb (length (indices_by w r.clusters r.glyphs)) 262144 i.short,
      text_steps (text_of r.units),
      t.decoded,
      t.fine,
      t.units,
      le-leb (length r.units) 4096 s.few_units,
      run_steps r.units (indices_by w r.clusters r.glyphs),
      n,
      i.back_again,
      le-leb (length r.glyphs) 4096 s.few_glyphs,
    )
  where
    and_not : (a : Bool) → not (a && false) ≡ true
    and_not true = refl
    and_not false = refl
