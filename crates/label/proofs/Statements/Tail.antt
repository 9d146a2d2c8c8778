-- What document 02 asks of pairs in the unwritten tail: by induction over the glyphs for what follows such a pair and for what is dropped, by going through the
-- checks for 13.
-- Assumes nothing.
use Prim.Native.Nat.{ℕ, zero, suc, ◌+◌, ◌-◌, ◌≤◌}
use native.Mathlib.Omega.{arith}
use mathlib.Core.Path.{◌≡◌, refl, sym, ◌∙◌, ap}
use mathlib.Core.Bool.{Bool, true, false, cond, not, ◌&&◌, false≢true}
use mathlib.Core.List.{List, [], ◌∷◌, ◌++◌}
use lib.Dec.{eqb, leb}
use borrow.Author.Tests.{eqb-false, not-true, le-leb}
use lib.ListN.{length, get_or, drop, take}
use Rattle.label.specs.Limits.{max_glyphs}
use Rattle.label.specs.Outcome.{Outcome, ok, no, ◌>>◌, Check, check, above, verdict}
use Rattle.label.specs.Bytes.{empty, join, trim, each, Piece}
use Rattle.label.specs.Text.{is_high, is_low, is_pair, characters, said_units}
use Rattle.label.specs.Entry.{entry_part, has_map, map_units, map_glyphs, entry_of, entries}
use Rattle.label.specs.Run.{Run, keeps_pair, add_glyph, cluster, font_glyph, tail, State, start_state, opens, opens_units, next, said_parts, said_run}
use Rattle.label.specs.Checks.{char_checks, text_checks, entry_checks, place_checks, walk_checks, run_checks, label_checks, read}
use Rattle.label.specs.Places.{Places}
use Rattle.label.specs.Sound.{all_font, may_open, fits, run_of, sound}
use Rattle.label.specs.Write.{value_bytes, entry_by, entries_by, indices_by, indices_of}
use Rattle.label.specs.Statements.Demands.{part_start, glyph_counts}
use Rattle.label.specs.Statements.Tail.{state_behind, SplitByEntry, OwnGlyphs, Tail}
use Rattle.label.specs.declared.Glyph.{Glyph}
use Rattle.label.specs.declared.Cluster.{Cluster}
use Rattle.label.proofs.Basics.{and_l, and_r, and_i, no_ok}
use Rattle.label.proofs.Tails.{font_written}
use Rattle.label.proofs.Run.{fits_further, fits_opening, may_bare, may_opens}
use Rattle.label.proofs.Sound.{sound_parts}
use Rattle.label.proofs.Places.{sound_places}

-- ── which clusters ──

pair : (u v : ℕ) (us : List ℕ) → is_pair (u ∷ v ∷ us) ≡ true → tail (u ∷ v ∷ us) ≡ add_glyph true (cluster 2 1) font_glyph (tail us)
unfolding tail
pair u v us h = rw h

other : (u : ℕ) (us : List ℕ) → is_pair (u ∷ us) ≡ false → tail (u ∷ us) ≡ add_glyph true (cluster 1 1) font_glyph (tail us)
unfolding tail
other u [] h = refl
other u (v ∷ us) h = rw h

-- ── behind other clusters ──

-- a cluster that may open has a glyph
may_glyphs : (bare : Bool) (us : List ℕ) (c : Cluster) (g : Glyph) (gs : List Glyph) → may_open bare us c g gs ≡ true → 1 ≤ c.glyphs
may_glyphs true us c g gs m = let e = (may_bare us c g gs m).one in omega (arith, e)
may_glyphs false us c g gs m = (may_opens us c g gs m).some_glyphs

-- the rules hold behind the clusters whose glyphs come first, over the units that are left
fits_behind : (gs : List Glyph) (bare : Bool) (lack : ℕ) (us : List ℕ) (cs ds : List Cluster) (h : Glyph) (hs : List Glyph)
    → lack + part_start (glyph_counts cs) (length cs) ≡ length gs → fits bare lack us (cs ++ ds) (gs ++ (h ∷ hs)) ≡ true
    → (vs : List ℕ) × (fits bare 0 vs ds (h ∷ hs) ≡ true)
fits_behind [] bare zero us [] ds h hs e f = (us, f)
fits_behind [] bare zero us (c ∷ cs) ds h hs e f =
    let m = may_glyphs bare us c h hs (fits_opening bare us c (cs ++ ds) h hs f).may in
    let z : ⊥ = omega (arith, e, m) in absurd z
fits_behind [] bare (suc n) us cs ds h hs e f = let z : ⊥ = omega (arith, e) in absurd z
fits_behind (g ∷ gs) bare (suc n) us cs ds h hs e f =
    fits_behind gs bare n us cs ds h hs (omega (arith, e)) (fits_further bare n us (cs ++ ds) g (gs ++ (h ∷ hs)) f).rest
fits_behind (g ∷ gs) bare zero us [] ds h hs e f = let z : ⊥ = omega (arith, e) in absurd z
fits_behind (g ∷ gs) bare zero us (c ∷ cs) ds h hs e f =
    let o = fits_opening bare us c (cs ++ ds) g (gs ++ (h ∷ hs)) f in
    let m = may_glyphs bare us c g (gs ++ (h ∷ hs)) o.may in
    fits_behind gs bare (c.glyphs - 1) (drop c.units us) cs ds h hs (omega (arith, e, m)) o.rest

-- nothing of such a glyph is named, and 2:1 is no cluster 1:1: so it is a pair of the tail
pair_last : (bare : Bool) (us : List ℕ) (ds : List Cluster) (hs : List Glyph) → fits bare 0 us (cluster 2 1 ∷ ds) (font_glyph ∷ hs) ≡ true → all_font hs ≡ true
unfolding all_font
pair_last true us ds hs h =
    let e : ◌≡◌ {A = ℕ} 2 0 = (may_bare us (cluster 2 1) font_glyph hs (fits_opening true us (cluster 2 1) ds font_glyph hs h).may).none in
    let z : ⊥ = omega (arith, e) in
    absurd z
pair_last false us ds hs h =
    let m = (fits_opening false us (cluster 2 1) ds font_glyph hs h).may in
    and_r (is_pair us) (all_font hs) (and_r (leb 2 (length us) && keeps_pair 2 us) (is_pair us && all_font hs) m)

last : (z : Places) (cs ds : List Cluster) (gs hs : List Glyph) → sound z ≡ true → (run_of z).clusters ≡ cs ++ (cluster 2 1 ∷ ds)
    → (run_of z).glyphs ≡ gs ++ (font_glyph ∷ hs) → OwnGlyphs cs gs → all_font hs ≡ true
last z cs ds gs hs s c g e =
    let f = (sound_parts (run_of z) (sound_places z s).run_is).fit in
    let (vs, k) = fits_behind gs (empty (run_of z).units) 0 (run_of z).units cs (cluster 2 1 ∷ ds) font_glyph hs (omega (arith, e)) (rw (c, g) at f) in
    pair_last (empty (run_of z).units) vs ds hs k

-- ── what is not written ──

-- entries that are trimmed alike behind an entry
trim_alike : (x : List ℕ) (xs ys : List (List ℕ)) → trim xs ≡ trim ys → trim (x ∷ xs) ≡ trim (x ∷ ys)
unfolding trim
trim_alike x xs ys e = rw e

-- glyphs wholly the font's at the end leave the entries before them
font_behind : (gs : List Glyph) (lack : ℕ) (cs ds : List Cluster) (hs : List Glyph) → length gs ≤ lack + part_start (glyph_counts cs) (length cs)
    → all_font hs ≡ true → trim (entries_by value_bytes lack (cs ++ ds) (gs ++ hs)) ≡ trim (entries_by value_bytes lack cs gs)
unfolding entries_by all_font
font_behind [] lack cs ds hs l h = font_written value_bytes hs lack (cs ++ ds) h ∙ sym (font_written value_bytes [] lack cs refl)
font_behind (g ∷ gs) (suc n) cs ds hs l h =
    trim_alike (entry_by value_bytes 1 1 g) (entries_by value_bytes n (cs ++ ds) (gs ++ hs)) (entries_by value_bytes n cs gs)
    (font_behind gs n cs ds hs (omega (arith, l)) h)
font_behind (g ∷ gs) zero [] ds hs l h = let z : ⊥ = omega (arith, l) in absurd z
font_behind (g ∷ gs) zero (c ∷ cs) ds hs l h =
    trim_alike (entry_by value_bytes c.units c.glyphs g) (entries_by value_bytes (c.glyphs - 1) (cs ++ ds) (gs ++ hs))
    (entries_by value_bytes (c.glyphs - 1) cs gs)
    (font_behind gs (c.glyphs - 1) cs ds hs (omega (arith, l)) h)

drops : (cs ds : List Cluster) (gs hs : List Glyph) → OwnGlyphs cs gs → all_font hs ≡ true → indices_of (cs ++ ds) (gs ++ hs) ≡ indices_of cs gs
unfolding indices_by
drops cs ds gs hs e h = ap (λ l. join 59 l) (font_behind gs 0 cs ds hs (omega (arith, e)) h)

-- ── which numbers ──

-- none of these checks has number n
abbrev lacks : ℕ → List Check → Bool
lacks n [] = true
lacks n (c ∷ cs) = not (eqb c.number n) && lacks n cs

lacks_append : (n : ℕ) (xs ys : List Check) → lacks n xs ≡ true → lacks n ys ≡ true → lacks n (xs ++ ys) ≡ true
lacks_append n [] ys h k = k
lacks_append n (c ∷ xs) ys h k =
    and_i (not (eqb c.number n)) (lacks n (xs ++ ys)) (and_l (not (eqb c.number n)) (lacks n xs) h)
    (lacks_append n xs ys (and_r (not (eqb c.number n)) (lacks n xs) h) k)

never : (n p : ℕ) (cs : List Check) → lacks n cs ≡ true → verdict cs ≡ no n p → ⊥
unfolding verdict
never n p [] h e = no_ok n p tt (sym e)
never n p (c ∷ cs) h e = go c.holds e (λ k. never n p cs (and_r (not (eqb c.number n)) (lacks n cs) h) k)
  where
    go : (b : Bool) → cond b (no c.number c.place) (verdict cs) ≡ no n p → (verdict cs ≡ no n p → ⊥) → ⊥
    go true q f =
        let z : c.number ≡ n = cc in
        eqb-false c.number n (not-true (eqb c.number n) (and_l (not (eqb c.number n)) (lacks n cs) h)) z
    go false q f = f q

chars_lack : (ps : List Piece) → lacks 13 (each char_checks ps) ≡ true
unfolding each
chars_lack [] = refl
chars_lack (p ∷ ps) = chars_lack ps

-- checks that lack a number are passed, before others and behind them
pass : (n p : ℕ) (xs ys : List Check) → lacks n xs ≡ true → verdict (xs ++ ys) ≡ no n p → verdict ys ≡ no n p
unfolding verdict
pass n p [] ys h e = e
pass n p (c ∷ xs) ys h e = go c.holds e (pass n p xs ys (and_r (not (eqb c.number n)) (lacks n xs) h))
  where
    go : (b : Bool) → cond b (no c.number c.place) (verdict (xs ++ ys)) ≡ no n p → (verdict (xs ++ ys) ≡ no n p → verdict ys ≡ no n p)
        → verdict ys ≡ no n p
    go true q f =
        let z : c.number ≡ n = cc in
        absurd (eqb-false c.number n (not-true (eqb c.number n) (and_l (not (eqb c.number n)) (lacks n xs) h)) z)
    go false q f = f q

without : (n p : ℕ) (xs ys : List Check) → lacks n ys ≡ true → verdict (xs ++ ys) ≡ no n p → verdict xs ≡ no n p
unfolding verdict
without n p [] ys h e = absurd (never n p ys h e)
without n p (c ∷ xs) ys h e = go c.holds e (without n p xs ys h)
  where
    go : (b : Bool) → cond b (no c.number c.place) (verdict (xs ++ ys)) ≡ no n p → (verdict (xs ++ ys) ≡ no n p → verdict xs ≡ no n p)
        → cond b (no c.number c.place) (verdict xs) ≡ no n p
    go true q f = q
    go false q f = f q

-- ── 13 is of an entry ──

behind_entry : (bare : Bool) (st : State) (s : List ℕ) (ss : List (List ℕ)) (p : ℕ) → SplitByEntry bare (next bare st (entry_of s)) ss p
    → SplitByEntry bare st (s ∷ ss) p
unfolding state_behind
behind_entry bare st s ss p x =
    record {
      earlier = s ∷ x.earlier;
      it = x.it;
      later = x.later;
      in_order = ap (λ l. s ∷ l) x.in_order;
      opens_there = x.opens_there;
      splits = x.splits;
      place = x.place;
    }

at_entry : (bare : Bool) (st : State) (s : List ℕ) (ss : List (List ℕ)) (p : ℕ) → (opens_units bare st && not (keeps_pair (entry_of s).units st.rest)) ≡ true
    → st.at + (entry_of s).units ≡ p → SplitByEntry bare st (s ∷ ss) p
unfolding state_behind
at_entry bare st s ss p h e =
    record {
      earlier = [];
      it = s;
      later = ss;
      in_order = refl;
      opens_there = and_l (opens_units bare st) (not (keeps_pair (entry_of s).units st.rest)) h;
      splits = not-true (keeps_pair (entry_of s).units st.rest) (and_r (opens_units bare st) (not (keeps_pair (entry_of s).units st.rest)) h);
      place = e;
    }

walk_thirteen : (ss : List (List ℕ)) (bare : Bool) (st : State) (p : ℕ) → verdict (walk_checks bare st ss) ≡ no 13 p → SplitByEntry bare st ss p
unfolding walk_checks entry_checks place_checks verdict
walk_thirteen [] bare st p e = absurd (never 13 p (walk_checks bare st []) refl e)
walk_thirteen (s ∷ ss) bare st p e =
    split (opens_units bare st && not (keeps_pair (entry_of s).units st.rest)) refl
    (pass 13 p (take 3 (place_checks bare st (entry_of s))) (drop 3 (place_checks bare st (entry_of s)) ++ walk_checks bare (next bare st (entry_of s)) ss) refl
    (pass 13 p (entry_checks st.k s) (place_checks bare st (entry_of s) ++ walk_checks bare (next bare st (entry_of s)) ss) refl e))
    (walk_thirteen ss bare (next bare st (entry_of s)) p)
  where
    split : (b : Bool) → (opens_units bare st && not (keeps_pair (entry_of s).units st.rest)) ≡ b
        → cond b (no 13 (st.at + (entry_of s).units)) (verdict (walk_checks bare (next bare st (entry_of s)) ss)) ≡ no 13 p
        → (verdict (walk_checks bare (next bare st (entry_of s)) ss) ≡ no 13 p → SplitByEntry bare (next bare st (entry_of s)) ss p)
        → SplitByEntry bare st (s ∷ ss) p
    split true h q f = let z : st.at + (entry_of s).units ≡ p = cc in at_entry bare st s ss p h z
    split false h q f = behind_entry bare st s ss p (f q)

thirteen : (t i : List ℕ) (p : ℕ) → read t i ≡ no 13 p → SplitByEntry (empty (said_units t)) (start_state (said_units t)) (entries i) p
unfolding read label_checks text_checks run_checks
thirteen t i p h =
    let us = said_units t in
    walk_thirteen (entries i) (empty us) (start_state us) p
    (without 13 p (walk_checks (empty us) (start_state us) (entries i)) (check (above (length (said_parts us i).glyphs) max_glyphs) 15 0 ∷ []) refl
    (pass 13 p (take 1 (run_checks us i)) (drop 1 (run_checks us i)) refl
    (pass 13 p (take 1 (label_checks t i) ++ text_checks t) (run_checks us i) text_lacks (only (verdict (label_checks t i)) h))))
  where
    text_lacks : lacks 13 (text_checks t) ≡ true
    text_lacks = lacks_append 13 (each char_checks (characters t)) _ (chars_lack (characters t)) refl

    only : (v : Outcome (Unit {0})) → ◌≡◌ {A = Outcome Run} (v >> ok (said_run t i)) (no 13 p) → v ≡ no 13 p
    only (ok x) e = no_ok 13 p (said_run t i) (sym e)
    only (no m q) e = cc

-- checks that pass before others
passed : (xs ys : List Check) → verdict xs ≡ ok tt → verdict (xs ++ ys) ≡ verdict ys
unfolding verdict
passed [] ys h = refl
passed (c ∷ xs) ys h = go c.holds h (passed xs ys)
  where
    go : (b : Bool) → cond b (no c.number c.place) (verdict xs) ≡ ok tt → (verdict xs ≡ ok tt → verdict (xs ++ ys) ≡ verdict ys)
        → cond b (no c.number c.place) (verdict (xs ++ ys)) ≡ verdict ys
    go true q f = no_ok c.number c.place tt q
    go false q f = f q

-- a text with a low half has units
some_units : (us : List ℕ) → is_low (get_or us 1 0) ≡ true → leb 1 (length us) ≡ true
some_units [] h = absurd (false≢true h)
some_units (u ∷ us) h = le-leb 1 (length (u ∷ us)) (omega arith)

unmapped : (st : State) (s : List ℕ) (ss : List (List ℕ)) → opens st ≡ true → is_pair st.rest ≡ true → verdict (entry_checks st.k s) ≡ ok tt
    → has_map (entry_part 0 s) ≡ false → verdict (walk_checks false st (s ∷ ss)) ≡ no 13 (st.at + 1)
unfolding walk_checks
unmapped st s ss o p h m = passed (entry_checks st.k s) _ h ∙ placed_thirteen
  where
    low : is_low (get_or st.rest 1 0) ≡ true
    low = and_r (is_high (get_or st.rest 0 0)) (is_low (get_or st.rest 1 0)) p

    placed_thirteen : verdict (place_checks false st (entry_of s) ++ walk_checks false (next false st (entry_of s)) ss) ≡ no 13 (st.at + 1)
    placed_thirteen = unfold place_checks verdict entry_of map_units map_glyphs in rw (m, o, low, some_units st.rest low)

pub leaving : Tail
leaving = record { pair = pair; other = other; last = last; drops = drops; unmapped = unmapped; thirteen = thirteen }
