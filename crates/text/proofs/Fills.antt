-- Laws of storing a text's units: storing those that are left, behind the ones that are stored, gives the whole; one character takes its own from them.
-- Assumes nothing.
use Prim.Native.Nat.{ℕ, ◌+◌, ◌*◌, ◌≤◌}
use native.Mathlib.Omega.{arith}
use native.Mathlib.Nat.{zero-add}
use mathlib.Core.Path.{◌≡◌, refl, sym, ◌∙◌, ap}
use mathlib.Core.Logic.{⊎_elim}
use mathlib.Core.List.{List, [], ◌∷◌, ◌++◌}
use lib.ListN.{length, drop, drop_of_length-le}
use lib.Seq.{sets, sets-eq}
use Rattle.std.specs.Prelude.{Result, Ok}
use Rattle.label.specs.Text.{units_of}
use Rattle.label.specs.Wire.{from_halves}
use Rattle.label.specs.Calls.{filled}
use Rattle.label.specs.declared.Refusal.{Refusal}
use Rattle.label.proofs.Text.{xml_range}
use Rattle.label.proofs.Wire.{length_halves}
use Rattle.octets.proofs.Puts.{sets_append}
use Rattle.utf8.specs.declared.Char.{Char}
use Rattle.text.specs.Walk.{characters_from}
use Rattle.text.proofs.Walk.{may_stand}
use Rattle.text.proofs.Moves.{Left, left_all, left_none, left_is, left_next, left_fits}

halves_append : (x y : List ℕ) → from_halves (x ++ y) ≡ from_halves x ++ from_halves y
unfolding from_halves
halves_append [] y = refl
halves_append (u ∷ x) y = rw (halves_append x y)

-- a character's number has a UTF-16 form
pub code_most : (s : List ℕ) (i : ℕ) (c : Char) (cs : List (Result Char Refusal)) → characters_from s i ≡ Ok c ∷ cs → c.code ≤ 0x10ffff
code_most s i c cs e = ⊎_elim (λ w. omega arith) (λ w. w.1) (xml_range c.code (may_stand 0 i (drop i s) c cs e))

-- at n units stored in `out`, and the others of us left, storing those gives what storing all in `old` gives
abbrev pub Fill : List ℕ → List ℕ → List ℕ → ℕ → Type 0
Fill us old out n = sets out (2 * n) (from_halves (drop n us)) ≡ sets old 0 (from_halves us)

pub fill_next : (us old out : List ℕ) (n m : ℕ) (c : Char) (cs : List (Result Char Refusal)) (new : List ℕ) → Left us n (Ok c ∷ cs)
    → m ≡ n + length (units_of c.code) → new ≡ sets out (2 * n) (from_halves (units_of c.code)) → Fill us old out n → Fill us old new m
fill_next us old out n m c cs new h e p f =
    let x = from_halves (units_of c.code) in
    let y = from_halves (drop m us) in
    let at : 2 * m ≡ 2 * n + length x = omega (arith, length_halves (units_of c.code)) in
    let both : x ++ y ≡ from_halves (drop n us) = rw e (sym (halves_append _ _) ∙ ap from_halves (sym (left_is us n c cs h).0)) in
    rw (p, at, sets_append x y out (2 * n), both) f

pub fill_end : (us old out : List ℕ) (n : ℕ) → length us ≤ n → 2 * length us ≤ length old → Fill us old out n → out ≡ filled (from_halves us) old
unfolding from_halves
fill_end us old out n l h f =
    let w = from_halves us in
    rw (drop_of_length-le us l) at f ∙ sets-eq w old 0 (omega (arith, length_halves us)) ∙ ap (λ (k : ℕ). w ++ drop k old) (zero-add (length w))

-- what `fill_units` is proved by
pub ruleset fills = (left_all, left_none, left_next, left_fits, code_most, fill_next, fill_end)
