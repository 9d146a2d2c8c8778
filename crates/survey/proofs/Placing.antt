-- One entry's checks 10 to 13 where a walk stands, a law for each return of the code; and that cutting its map's counts changes none of them (`placed_cut`).
-- Assumes nothing.
use Rattle.label.proofs.Steps.{placed_steps}
use Prim.Native.Nat.{ℕ, ◌+◌, ◌≤◌, ◌<◌, min}
use native.Mathlib.Omega.{arith}
use mathlib.Core.Path.{◌≡◌, refl, ◌∙◌, ap, subst}
use mathlib.Core.Bool.{Bool, true, false, not, ◌&&◌, ◌||◌}
use borrow.Author.Tests.{le-leb, lt-leb, leb-true, leb-false}
use lib.Dec.{eqb, leb}
use lib.ListN.{length}
use Rattle.label.specs.Outcome.{Outcome, ok, no, ◌>>◌, need}
use Rattle.label.specs.Entry.{Entry}
use Rattle.label.specs.Run.{named, keeps_pair, State}
use Rattle.label.specs.Steps.{placed}
use Rattle.label.specs.Calls.{refusal}
use Rattle.label.specs.declared.Cause.TheVariants as C
use Rattle.label.specs.declared.Refusal.{Refusal}
use Rattle.label.proofs.Basics.{cases, clash}
use Rattle.text.specs.Moves.{units, Moves}
use Rattle.text.specs.declared.passage.Passage.{Passage}
use Rattle.text.specs.declared.MoveFault.{MoveFault}
use Rattle.text.specs.declared.MoveFault.TheVariants.{PastEnd, InsidePair}
use Rattle.std.specs.Prelude.{Result, Ok, Err}
use Rattle.number.specs.Digits.{cap}
use Rattle.entry.specs.Items.{cut_item}
use Rattle.entry.specs.declared.Item.{Item}
use Rattle.survey.specs.declared.walk.Walk.{Walk}
use Rattle.survey.specs.Steps.{bare, state_at, item_entry, advanced, said_no, Opens, Turns}

-- ── 12 and 13, by a move over the text ──

-- a walk with this passage ahead, behind an entry that takes a units and has b glyphs in its map
abbrev pub Stepped : Walk → ℕ → ℕ → Passage → Walk → Type 0
Stepped w a b p v = (v.at ≡ advanced w.at a b) × (v.ahead ≡ p) × (v.count ≡ w.count)

module _ (w : Walk) (a b : ℕ) where
  pub opens_to : (m : Result Passage MoveFault) (p : Passage) (v : Walk) → Moves w.ahead a m → m ≡ Ok p → Stepped w a b p v → Opens w a b (Ok v)
  unfolding Opens
  opens_to m p v h e q = let r = subst (Moves w.ahead a) e h in (r.0, r.1, (q.0, ap units q.1 ∙ r.2, q.2))

  pub opens_past : (m : Result Passage MoveFault) (r : Refusal) → Moves w.ahead a m → m ≡ Err PastEnd → r ≡ refusal C.PastTextEnd w.at.entry
      → Opens w a b (Err r)
  unfolding Opens
  opens_past m r h e q =
      let x : leb a (length (units w.ahead)) ≡ false = subst (Moves w.ahead a) e h in
      rw (q, x)

  pub opens_half : (m : Result Passage MoveFault) (r : Refusal) → Moves w.ahead a m → m ≡ Err InsidePair → r ≡ refusal C.SplitPair (w.at.unit + a)
      → Opens w a b (Err r)
  unfolding Opens
  opens_half m r h e q =
      let x = subst (Moves w.ahead a) e h in
      rw (q, x.0, x.1)

-- ── 10 and 11 ──

module _ (w : Walk) (x : Item) where
  abbrev enough : Bool
  enough = leb 1 x.units && leb 1 x.glyphs

  abbrev free : Bool
  free = eqb w.at.lack 0 && not (bare w)

  abbrev plain : Bool
  plain = not x.mapped && named x.glyph.index

  pub turn_ten : (r : Refusal) → r ≡ refusal C.ZeroCount w.at.entry → enough ≡ false → Turns w x (Err r)
  unfolding Turns
  turn_ten r q h = rw (q, placed_steps (bare w) (state_at w) (item_entry x), h)

  pub turn_eleven : (r : Refusal) → r ≡ refusal C.MisplacedEntry w.at.entry → enough ≡ true → (free || plain) ≡ false → Turns w x (Err r)
  unfolding Turns
  turn_eleven r q h f = rw (q, placed_steps (bare w) (state_at w) (item_entry x), h, f)

  -- an entry that opens a cluster
  pub turn_opens : (r : Result Walk Refusal) → Opens w x.units x.glyphs r → enough ≡ true → free ≡ true → Turns w x r
  unfolding Turns Opens
  turn_opens (Ok v) o h f = rw (placed_steps (bare w) (state_at w) (item_entry x), h, f) (rw (o.0, o.1), o.2)
  turn_opens (Err r) o h f = rw (placed_steps (bare w) (state_at w) (item_entry x), h, f)
      (go (leb x.units (length (units w.ahead))) (keeps_pair x.units (units w.ahead)) o)
    where
      go : (p q : Bool) → (need p 12 w.at.entry >> need q 13 (w.at.unit + x.units)) ≡ said_no r
          → (need p 12 w.at.entry >> (need q 13 (w.at.unit + x.units) >> ok (item_entry x))) ≡ said_no r
      go true true o = let z : true ≡ false = cc in clash true refl z
      go true false o = cc
      go false q o = cc

  -- a further glyph, or an entry of a text without units
  pub turn_further : (v : Walk) → Stepped w 0 x.glyphs w.ahead v → enough ≡ true → free ≡ false → plain ≡ true → Turns w x (Ok v)
  unfolding Turns
  turn_further v q h f p = rw (placed_steps (bare w) (state_at w) (item_entry x), h, f, p) (refl, (q.0, ap units q.1, q.2))

-- ── the cut ──

one_cut : (a : ℕ) → leb 1 (min a cap) ≡ leb 1 a
one_cut a =
    cases (leb 1 a)
    (λ t. rw t (le-leb 1 (min a cap) (omega (arith, leb-true 1 a t))))
    (λ t. rw t (lt-leb 1 (min a cap) (omega (arith, leb-false 1 a t))))

-- the same refusal, or this entry
abbrev pub over : Entry → Outcome Entry → Outcome Entry
over e (ok y) = ok e
over e (no n p) = no n p

-- cut counts change no check
pub placed_cut : (bare : Bool) (st : State) (n r : ℕ) (e : Entry) → length st.rest ≤ 4096
    → placed bare st e ≡ over e (placed bare st (item_entry (cut_item n r e)))
placed_cut bare st n r e few =
    rw (placed_steps bare st e, placed_steps bare st (item_entry (cut_item n r e)), one_cut e.units, one_cut e.glyphs)
    (cases (eqb st.lack 0 && not bare)
    (λ t. rw t (cases (leb e.units (length st.rest))
    (λ u.
    let l : e.units ≤ length st.rest = leb-true e.units (length st.rest) u in
    let m : min e.units cap ≡ e.units = omega arith in
    rw m (asked (leb e.units (length st.rest)) (keeps_pair e.units st.rest) (st.at + e.units)
    (record { mapped = e.mapped; units = e.units; glyphs = min e.glyphs cap; glyph = e.glyph })))
    (λ u.
    let l : length st.rest < e.units = leb-false e.units (length st.rest) u in
    let m : leb (min e.units cap) (length st.rest) ≡ false = lt-leb (min e.units cap) (length st.rest) (omega arith) in
    rw (m, u) (past enough true (ok e) (ok e)))))
    (λ t. rw t (unasked enough (not e.mapped && named e.glyph.index) 0 0 (item_entry (cut_item n r e)))))
  where
    enough : Bool
    enough = leb 1 e.units && leb 1 e.glyphs

    -- the counts are as they were
    asked : (t12 t13 : Bool) (p : ℕ) (y : Entry)
        → (need enough 10 st.k >> (need true 11 st.k >> (need t12 12 st.k >> (need t13 13 p >> ok e))))
        ≡ over e (need enough 10 st.k >> (need true 11 st.k >> (need t12 12 st.k >> (need t13 13 p >> ok y))))
    asked t12 t13 p y = go enough t12 t13
      where
        go : (t10 a b : Bool) → (need t10 10 st.k >> (need true 11 st.k >> (need a 12 st.k >> (need b 13 p >> ok e))))
            ≡ over e (need t10 10 st.k >> (need true 11 st.k >> (need a 12 st.k >> (need b 13 p >> ok y))))
        go true true true = refl
        go true true false = refl
        go true false b = refl
        go false a b = refl

    -- both pass the end
    past : (t10 t11 : Bool) (x y : Outcome Entry)
        → (need t10 10 st.k >> (need t11 11 st.k >> (need false 12 st.k >> x)))
        ≡ over e (need t10 10 st.k >> (need t11 11 st.k >> (need false 12 st.k >> y)))
    past true true x y = refl
    past true false x y = refl
    past false t11 x y = refl

    -- 12 and 13 are not asked
    unasked : (t10 t11 : Bool) (p q : ℕ) (y : Entry)
        → (need t10 10 st.k >> (need t11 11 st.k >> (need true 12 st.k >> (need true 13 p >> ok e))))
        ≡ over e (need t10 10 st.k >> (need t11 11 st.k >> (need true 12 st.k >> (need true 13 q >> ok y))))
    unasked true true p q y = refl
    unasked true false p q y = refl
    unasked false t11 p q y = refl
