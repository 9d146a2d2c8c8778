-- How many bytes an entry has at most, whatever its numbers of 32 bits: those of its four fields and the three commas.
-- Assumes nothing.
use mathlib.Core.Bool.{◌&&◌}
use mathlib.Core.List.{List, [], ◌∷◌, ◌++◌}
use Prim.Native.Nat.{ℕ, suc, ◌/◌, ◌%◌, ◌<◌, ◌≤◌}
use native.Mathlib.Omega.{arith}
use lib.Dec.{leb, eqb}
use lib.ListN.{length, length-append}
use Rattle.std.proofs.Common.{ℤ, pos, negsuc, nat_abs}
use Rattle.label.specs.Bytes.{join, trim, decimal}
use Rattle.label.specs.Sound.{number_index, number_advance}
use Rattle.label.specs.Write.{fraction, value_bytes, advance_by, offset_by, map_bytes, index_bytes, entry_by}
use Rattle.label.proofs.Basics.{cases}
use Rattle.label.proofs.Decimals.{length_decimal}
use Rattle.label.proofs.Splits.{total, join_total, total_trim}
use Rattle.wire.specs.declared.GlyphNumbers.{GlyphNumbers}
use Rattle.wire.specs.Numbers.{as_glyph}

fraction_most : (f : ℕ) → length (fraction f) ≤ 3
unfolding fraction
fraction_most f =
    cases (eqb (f % 100) 0) (λ t. rw t (omega arith)) (λ t. rw t (cases (eqb (f % 10) 0) (λ s. rw s (omega arith)) (λ s. rw s (omega arith))))

value_most : (n : ℕ) → n < 4294967296 → length (value_bytes n) ≤ 11
unfolding value_bytes
value_most n h =
    let d : length (decimal (n / 1000)) ≤ 7 = length_decimal (n / 1000) 6 (omega arith) in
    let f : length (fraction (n % 1000)) ≤ 3 = fraction_most (n % 1000) in
    cases (eqb (n % 1000) 0)
    (λ t. rw t (omega arith))
    (λ t. rw t (cases (eqb (n / 1000) 0)
    (λ s. rw s (omega arith))
    (λ s. rw (s, length-append (decimal (n / 1000)) (46 ∷ fraction (n % 1000))) (omega arith))))

advance_most : (z : ℤ) → nat_abs z < 4294967296 → length (advance_by value_bytes (number_advance z)) ≤ 11
unfolding advance_by
advance_most (pos n) h = value_most n h
advance_most (negsuc n) h = omega arith

offset_most : (z : ℤ) → nat_abs z < 4294967296 → length (offset_by value_bytes z) ≤ 12
unfolding offset_by
offset_most (pos n) h =
    let v : length (value_bytes n) ≤ 11 = value_most n h in
    cases (eqb n 0) (λ t. rw t (omega arith)) (λ t. rw t (omega arith))
offset_most (negsuc n) h = let v : length (value_bytes (suc n)) ≤ 11 = value_most (suc n) h in omega arith

map_most : (a b : ℕ) → a < 4294967296 → b < 4294967296 → length (map_bytes a b) ≤ 23
unfolding map_bytes
map_most a b ha hb =
    let la : length (decimal a) ≤ 10 = length_decimal a 9 (omega arith) in
    let lb : length (decimal b) ≤ 10 = length_decimal b 9 (omega arith) in
    cases (leb a 1 && eqb b 1)
    (λ t. rw t (omega arith))
    (λ t. rw t (cases (eqb b 1)
    (λ s. rw (s, length-append (decimal a ++ []) (41 ∷ []), length-append (decimal a) []) (omega arith))
    (λ s. rw (s, length-append (decimal a ++ (58 ∷ decimal b)) (41 ∷ []), length-append (decimal a) (58 ∷ decimal b)) (omega arith))))

index_most : (a b : ℕ) (z : ℤ) → a < 4294967296 → b < 4294967296 → nat_abs z < 4294967296 → length (index_bytes a b (number_index z)) ≤ 33
unfolding index_bytes
index_most a b (pos n) ha hb h = rw length-append (omega (arith, map_most a b ha hb, length_decimal n 9 (omega arith)))
index_most a b (negsuc n) ha hb h = omega arith

module _ (a b : ℕ) (g : GlyphNumbers) where
  abbrev field_list : List (List ℕ)
  field_list =
      index_bytes a b (number_index g.index) ∷ advance_by value_bytes (number_advance g.advance) ∷ offset_by value_bytes g.u ∷ offset_by value_bytes g.v ∷ []

  pub entry_most : a < 4294967296 → b < 4294967296
      → nat_abs g.index < 4294967296 → nat_abs g.advance < 4294967296 → nat_abs g.u < 4294967296 → nat_abs g.v < 4294967296
      → length (entry_by value_bytes a b (as_glyph g)) ≤ 80
  unfolding entry_by
  entry_most ha hb hi hd hu hv =
      let i : length (index_bytes a b (number_index g.index)) ≤ 33 = index_most a b g.index ha hb hi in
      let d : length (advance_by value_bytes (number_advance g.advance)) ≤ 11 = advance_most g.advance hd in
      let u : length (offset_by value_bytes g.u) ≤ 12 = offset_most g.u hu in
      let v : length (offset_by value_bytes g.v) ≤ 12 = offset_most g.v hv in
      let j : length (join 44 (trim field_list)) ≤ total (trim field_list) = join_total 44 (trim field_list) in
      let t : total (trim field_list) ≤ total field_list = total_trim field_list in
      omega arith
