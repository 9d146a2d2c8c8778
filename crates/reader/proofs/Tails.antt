-- The tail of some units, stored cluster by cluster (`TailLeft`); and the bytes of a run's units as units again.
-- Assumes nothing.
use Rattle.std.proofs.Common.{◌≡◌, refl, sym, ap, ◌∙◌, subst, true, false, ◌/◌, List, [], ◌∷◌, ℕ, ◌+◌, ◌*◌, ◌≤◌, ◌<◌, arith, length, take, drop}
use lib.ListN.{length-drop, drop_of_length-le}
use lib.Seq.{sets, drop-drop, take_at}
use Rattle.std.specs.List.{between}
use Rattle.std.proofs.lemmas.Slice.{between_to_end}
use Rattle.label.specs.Text.{is_high, is_pair}
use Rattle.label.specs.Run.{Parts, font_glyph, cluster, add_glyph, tail}
use Rattle.label.specs.Wire.{from_halves}
use Rattle.label.specs.Fetched.{halves}
use Rattle.label.specs.Calls.{filled}
use Rattle.label.proofs.Wire.{length_halves, halves_back}
use Rattle.label.proofs.Basics.{and_r, cases, clash}
use Rattle.label.proofs.Tails.{wide, tail_nil, tail_first}
use Rattle.wire.specs.Stores.{glyph_places}
use Rattle.wire.proofs.Fetched.{halves_drop}
use Rattle.reader.specs.declared.Stored.{Stored}
use Rattle.reader.specs.Stores.{cluster_places, opened}
use Rattle.reader.proofs.Storing.{Storing, storing_opened, opened_room, storing_end}

-- a cluster of the tail is inside the units
wide_inside : (us : List ℕ) → 1 ≤ length us → wide us ≤ length us
wide_inside [] h = absurd (omega arith)
wide_inside (u ∷ []) h = cases (is_pair (u ∷ [])) (λ p. clash false (and_r (is_high u) false p) refl) (λ p. rw p (omega arith))
wide_inside (u ∷ v ∷ us) h = cases (is_pair (u ∷ v ∷ us)) (λ p. rw p (omega arith)) (λ p. rw p (omega arith))

-- whether the units from one on, in their bytes, begin with a pair
pub pair_at : (s : List ℕ) (j : ℕ) → is_pair (halves (between (2 * j) (length s) s)) ≡ is_pair (drop j (halves s))
pair_at s j = ap (λ (t : List ℕ). is_pair (halves t)) (between_to_end s (2 * j) (length s) (omega arith)) ∙ ap is_pair (sym (halves_drop j s))

-- the tail behind the units that have clusters is still to store
pub record TailLeft (cw gw us cs gs : List ℕ) (at : Stored) : Type 0 where
  pub inside : at.units ≤ length us
  pub storing : Storing cw gw (tail (drop at.units us)) cs gs at.clusters at.glyphs

-- its next cluster has a units, and there is room for it
pub record TailTurn (us cs gs : List ℕ) (at : Stored) (a : ℕ) : Type 0 where
  pub some : 1 ≤ a
  pub few : a ≤ 2
  pub inside : at.units + a ≤ length us
  pub room : (at.clusters < length cs / 8) × (at.glyphs < length gs / 16)

module _ {cw gw us cs gs : List ℕ} {at : Stored} (l : TailLeft cw gw us cs gs at) where
  module _ (h : at.units < length us) {a : ℕ} (e : a ≡ wide (drop at.units us)) where
    some : 1 ≤ length (drop at.units us)
    some = omega (arith, length-drop at.units us)

    left : Storing cw gw (add_glyph true (cluster a 1) font_glyph (tail (drop (at.units + a) us))) cs gs at.clusters at.glyphs
    left =
        subst (λ (p : Parts). Storing cw gw p cs gs at.clusters at.glyphs)
        (tail_first (drop at.units us) a some (sym e)
        ∙ ap (λ (r : List ℕ). add_glyph true (cluster a 1) font_glyph (tail r)) (drop-drop a at.units us)) l.storing

    pub tail_turn : TailTurn us cs gs at a
    tail_turn =
        let w : wide (drop at.units us) ≤ length (drop at.units us) = wide_inside (drop at.units us) some in
        let b : (1 ≤ wide (drop at.units us)) × (wide (drop at.units us) ≤ 2) =
        cases (is_pair (drop at.units us)) (λ p. rw p (omega arith)) (λ p. rw p (omega arith)) in
        record {
          some = omega (arith, b.0);
          few = omega (arith, b.1);
          inside = omega (arith, w, length-drop at.units us);
          room = opened_room left;
        }

    pub tail_next : {d : Stored} {cs' gs' : List ℕ} → d ≡ opened at a 1 → cs' ≡ sets cs (8 * at.clusters) (cluster_places (cluster a 1))
        → gs' ≡ sets gs (16 * at.glyphs) (glyph_places font_glyph) → TailLeft cw gw us cs' gs' d
    tail_next {d} {cs'} {gs'} ed ec eg =
        subst (λ (x : Stored). TailLeft cw gw us cs' gs' x) (sym ed) (record { inside = tail_turn.inside; storing = storing_opened left ec eg })

  pub tail_stored : length us ≤ at.units → (cs ≡ cw) × (gs ≡ gw)
  tail_stored h =
      let e : tail (drop at.units us) ≡ record { clusters = []; glyphs = [] } = rw (drop_of_length-le us h) tail_nil in
      storing_end (subst (λ (p : Parts). Storing cw gw p cs gs at.clusters at.glyphs) e l.storing)

-- the units in the bytes of n of them, where these were filled
pub units_stored : (us old : List ℕ) {out : List ℕ} {n : ℕ} → n ≡ length us → out ≡ filled (from_halves us) old → halves (take (2 * n) out) ≡ us
units_stored us old {out} {n} e f =
    let l : length (from_halves us) ≡ 2 * n = length_halves us ∙ omega arith in
    rw (f, take_at (from_halves us) (drop (length (from_halves us)) old) (2 * n) l) (halves_back us)
