-- One law for each return of the code that writes an entry: the digits of a value, a field by the sign of its number, and the fields behind the index, of
-- which the empty ones at the end drop.
-- Assumes nothing.
use mathlib.Core.Path.{◌≡◌, refl, sym, ap, ◌∙◌}
use mathlib.Core.Bool.{Bool, true, false, cond, ◌&&◌, and-false}
use mathlib.Core.List.{List, [], ◌∷◌, ◌++◌, append-nil}
use Prim.Native.Nat.{ℕ, ◌+◌, ◌/◌, ◌%◌, ◌≤◌}
use native.Mathlib.Omega.{arith}
use borrow.Author.Tests.{eq-eqb, ne_eqb}
use lib.Dec.{leb, eqb}
use Rattle.std.proofs.Common.{ℤ, pos, negsuc, ◌<ℤ◌, ◌≤ℤ◌, nat_abs}
use Rattle.label.specs.Bytes.{empty, join_rest, join, trim, decimal}
use Rattle.label.specs.Sound.{number_index, number_advance}
use Rattle.label.specs.Write.{fraction, value_bytes, advance_by, offset_by, map_bytes, index_bytes, entry_by}
use Rattle.std.proofs.lemmas.Int.{ints}
use Rattle.std.proofs.lemmas.Bool.Decides.{nat_tests}
use Rattle.label.proofs.Splits.{trim_empty}
use Rattle.label.proofs.Values.{normal_writer}
use Rattle.wire.specs.declared.GlyphNumbers.{GlyphNumbers}
use Rattle.wire.specs.Numbers.{as_glyph}
use Rattle.entry_bytes.specs.Fields.{fields}

-- ── values ──

module _ (f : ℕ) where
  pub frac_one : f % 100 ≡ 0 → (48 + f / 100) ∷ [] ≡ fraction f
  unfolding fraction
  frac_one h = rw (eq-eqb (f % 100) 0 h)

  pub frac_two : (f % 100 ≡ 0 → ⊥) → f % 10 ≡ 0 → ((48 + f / 100) ∷ []) ++ ((48 + f / 10 % 10) ∷ []) ≡ fraction f
  unfolding fraction
  frac_two n h = rw (ne_eqb (f % 100) 0 n, eq-eqb (f % 10) 0 h)

  pub frac_three : (f % 100 ≡ 0 → ⊥) → (f % 10 ≡ 0 → ⊥) → (((48 + f / 100) ∷ []) ++ ((48 + f / 10 % 10) ∷ [])) ++ ((48 + f % 10) ∷ []) ≡ fraction f
  unfolding fraction
  frac_three n h = rw (ne_eqb (f % 100) 0 n, ne_eqb (f % 10) 0 h)

-- what a test chooses
pub choose_true : {A : Type 0} (t : Bool) (a b : A) → t ≡ true → a ≡ cond t a b
choose_true t a b e = rw e

pub choose_false : {A : Type 0} (t : Bool) (a b : A) → t ≡ false → b ≡ cond t a b
choose_false t a b e = rw e

module _ (n : ℕ) where
  pub value_whole : n % 1000 ≡ 0 → decimal (n / 1000) ≡ value_bytes n
  unfolding value_bytes
  value_whole h = rw (eq-eqb (n % 1000) 0 h)

  pub value_point : (n % 1000 ≡ 0 → ⊥) → cond (eqb (n / 1000) 0) [] (decimal (n / 1000)) ++ ((46 ∷ []) ++ fraction (n % 1000)) ≡ value_bytes n
  unfolding value_bytes
  value_point h = rw (ne_eqb (n % 1000) 0 h)

-- ── a field by the sign of its number ──

pub offset_plus : (z : ℤ) {n : ℕ} → n ≡ nat_abs z → (z ≡ pos 0 → ⊥) → pos 0 ≤ℤ z → value_bytes n ≡ offset_by value_bytes z
unfolding offset_by
offset_plus (pos m) e h s = rw (e, ne_eqb m 0 (λ z. h (ap pos z)))
offset_plus (negsuc m) e h s = absurd (omega (arith, ints))

pub offset_minus : (z : ℤ) {n : ℕ} → n ≡ nat_abs z → z <ℤ pos 0 → (45 ∷ []) ++ value_bytes n ≡ offset_by value_bytes z
unfolding offset_by
offset_minus (pos m) e s = absurd (omega (arith, ints))
offset_minus (negsuc m) e s = rw e

pub index_some : (a b : ℕ) (z : ℤ) {n : ℕ} → n ≡ nat_abs z → pos 0 ≤ℤ z → map_bytes a b ++ decimal n ≡ index_bytes a b (number_index z)
unfolding index_bytes
index_some a b (pos m) e s = rw e
index_some a b (negsuc m) e s = absurd (omega (arith, ints))

pub map_some : (a b : ℕ) → (a ≤ 1 → b ≡ 1 → ⊥)
    → (40 ∷ []) ++ ((decimal a ++ cond (eqb b 1) [] (58 ∷ decimal b)) ++ (41 ∷ [])) ≡ map_bytes a b
unfolding map_bytes
map_some a b h = rw (both_false a b h)
  where
    both_false : (a b : ℕ) → (a ≤ 1 → b ≡ 1 → ⊥) → (leb a 1 && eqb b 1) ≡ false
    both_false a b h = grind (arith, nat_tests)

-- ── the fields behind the index ──

advance_none : (z : ℤ) → z <ℤ pos 0 → advance_by value_bytes (number_advance z) ≡ []
unfolding advance_by
advance_none (pos m) h = absurd (omega (arith, ints))
advance_none (negsuc m) h = refl

advance_full : (z : ℤ) → pos 0 ≤ℤ z → empty (advance_by value_bytes (number_advance z)) ≡ false
unfolding advance_by
advance_full (pos m) h = normal_writer.full m
advance_full (negsuc m) h = absurd (omega (arith, ints))

offset_full : (z : ℤ) → (z ≡ pos 0 → ⊥) → empty (offset_by value_bytes z) ≡ false
unfolding offset_by
offset_full (pos m) h = rw (ne_eqb m 0 (λ e. h (ap pos e))) (normal_writer.full m)
offset_full (negsuc m) h = refl

-- the fields of a list, without the empty ones at its end, each behind a comma
abbrev behind : List (List ℕ) → List ℕ
behind l = join_rest 44 (trim l)

-- a field, where it or one after it is not empty
behind_more : (x : List ℕ) (l : List (List ℕ)) → (empty x && empty (trim l)) ≡ false → behind (x ∷ l) ≡ 44 ∷ (x ++ behind l)
unfolding trim join_rest
behind_more x l h = rw h

module _ (a u v : ℤ) where
  abbrev A : List ℕ
  A = advance_by value_bytes (number_advance a)

  abbrev U : List ℕ
  U = offset_by value_bytes u

  abbrev V : List ℕ
  V = offset_by value_bytes v

  pub fields_none : a <ℤ pos 0 → u ≡ pos 0 → v ≡ pos 0 → [] ≡ fields a u v
  unfolding fields trim join_rest offset_by
  fields_none h e f = rw (e, f, advance_none a h)

  pub fields_one : pos 0 ≤ℤ a → u ≡ pos 0 → v ≡ pos 0 → (44 ∷ []) ++ A ≡ fields a u v
  unfolding fields trim join_rest offset_by
  fields_one h e f = rw (e, f) (sym (behind_more A ([] ∷ [] ∷ []) (rw (advance_full a h)) ∙ ap (λ l. 44 ∷ l) (append-nil A)))

  pub fields_two : (u ≡ pos 0 → ⊥) → v ≡ pos 0 → (44 ∷ []) ++ (A ++ ((44 ∷ []) ++ U)) ≡ fields a u v
  unfolding fields trim join_rest offset_by
  fields_two h f =
      rw f
      (sym (behind_more A (U ∷ [] ∷ []) (rw (trim_empty U ([] ∷ []), offset_full u h) (and-false (empty A)))
      ∙ ap (λ l. 44 ∷ (A ++ l)) (behind_more U ([] ∷ []) (rw (offset_full u h)) ∙ ap (λ l. 44 ∷ l) (append-nil U))))

  pub fields_three : (v ≡ pos 0 → ⊥) → (44 ∷ []) ++ (A ++ ((44 ∷ []) ++ (U ++ ((44 ∷ []) ++ V)))) ≡ fields a u v
  unfolding fields trim join_rest
  fields_three h =
      let t : empty (trim (V ∷ [])) ≡ false = trim_empty V [] ∙ rw (offset_full v h) in
      let s : empty (trim (U ∷ V ∷ [])) ≡ false = trim_empty U (V ∷ []) ∙ rw t (and-false (empty U)) in
      sym (behind_more A (U ∷ V ∷ []) (rw s (and-false (empty A)))
      ∙ ap (λ l. 44 ∷ (A ++ l)) (behind_more U (V ∷ []) (rw t (and-false (empty U)))
      ∙ ap (λ l. 44 ∷ (U ++ l)) (behind_more V [] (rw (offset_full v h)) ∙ ap (λ l. 44 ∷ l) (append-nil V))))

-- the index, then the fields
joined_first : (x : List ℕ) (l : List (List ℕ)) → x ++ join_rest 44 l ≡ join 44 (cond (empty x && empty l) [] (x ∷ l))
unfolding join join_rest
joined_first [] [] = refl
joined_first [] (y ∷ l) = refl
joined_first (b ∷ x) l = refl

pub entry_is : (a b : ℕ) (g : GlyphNumbers) → index_bytes a b (number_index g.index) ++ fields g.advance g.u g.v ≡ entry_by value_bytes a b (as_glyph g)
unfolding entry_by fields trim
entry_is a b g =
    joined_first (index_bytes a b (number_index g.index))
    (trim (advance_by value_bytes (number_advance g.advance) ∷ offset_by value_bytes g.u ∷ offset_by value_bytes g.v ∷ []))
