-- An entry that a writer makes is read back: its map and its glyph. Each of the four parts reads back by itself, and the split gives the parts that were
-- joined.
-- Assumes nothing.
use Prim.Native.Nat.{ℕ, suc, ◌≤◌, ◌<◌}
use native.Mathlib.Omega.{arith}
use mathlib.Core.Path.{◌≡◌, refl, sym, ap, ◌∙◌}
use mathlib.Core.Bool.{Bool, true, false, cond, not, ◌&&◌, and-false}
use mathlib.Core.List.{List, [], ◌∷◌, ◌++◌, append-nil, append_assoc}
use borrow.Author.Tests.{eq-eqb, not-true, not-false, le-leb, leb-true, eqb-true}
use lib.Dec.{eqb, leb}
use lib.IntN.{ℤ, pos, negsuc}
use lib.ListN.{length, get_or, length-append}
use Rattle.label.specs.Outcome.{ok}
use Rattle.label.specs.Bytes.{empty, split, Cut, cut, is_digit, all_digits, digits, value_from, value, join, trim, decimal}
use Rattle.label.specs.Entry.{unsigned, entry_part, has_map, is_index_part, index_digits, map_units, map_glyphs, is_advance, is_offset, well_formed, field_fits, index_of, advance_of, offset_of, Entry, entry_of}
use Rattle.label.specs.Run.{named}
use Rattle.label.specs.Steps.{entry}
use Rattle.label.specs.Sound.{size, index_fits, advance_fits, glyph_fits}
use Rattle.label.specs.Write.{advance_by, offset_by, map_bytes, index_bytes, entry_by}
use Rattle.label.specs.Requests.RoundedCount.{rounded_field, rounded_entry}
use Rattle.label.specs.declared.Index.{Index}
use Rattle.label.specs.declared.Index.TheVariants.{Named, Font}
use Rattle.label.specs.declared.Advance.{Advance}
use Rattle.label.specs.declared.Advance.TheVariants.{Given, Own}
use Rattle.label.specs.declared.Glyph.{Glyph}
use Rattle.label.proofs.Basics.{and_l, and_r, cases}
use Rattle.label.proofs.Steps.{entry_steps}
use Rattle.label.proofs.Splits.{none, free, all_free, none_append, parts_joined, length_joined, join_free, free_trim, total, join_total, total_trim}
use Rattle.label.proofs.Outputs.{empty_is_font}
use Rattle.label.proofs.Decimals.{value_decimal, all_decimal, empty_decimal, length_decimal, digits_decimal, digits_none, cut_none, cut_found}
use Rattle.label.proofs.Values.{digit_not, head_digit, Writes, Writer}

-- ── the fields ──

-- the bytes of a field as the reader takes them: they pass the test, 9 does not hold, they say what is asked and no finer, they are at most so many, and no
-- `,` or `;` is among them
record FieldRead (test : List ℕ → Bool) (says : Type 0) (most : ℕ) (v : List ℕ) : Type 0 where
  is : test v ≡ true
  small : field_fits v ≡ true
  val : says
  exact : rounded_field v ≡ 0
  short : length v ≤ most
  comma : free 44 v ≡ true
  semi : free 59 v ≡ true

abbrev AdvanceRead : Advance → List ℕ → Type 0
AdvanceRead a v = FieldRead is_advance (advance_of v ≡ a) 11 v

abbrev OffsetRead : ℤ → List ℕ → Type 0
OffsetRead z v = FieldRead is_offset (offset_of v ≡ z) 12 v

-- a value without a sign
value_read : (test : List ℕ → Bool) (says : Type 0) (most n : ℕ) (v : List ℕ) → Writes n v → test v ≡ true → says → 11 ≤ most → FieldRead test says most v
unfolding field_fits rounded_field unsigned
value_read test says most n v w i s l =
    let f : field_fits v ≡ true = rw (w.full, w.no_minus, w.no_plus, w.small) in
    let x : rounded_field v ≡ 0 = rw (w.full, w.no_minus, w.no_plus, w.exact) in
    record { is = i; small = f; val = s; exact = x; short = omega (arith, w.short, l); comma = w.comma; semi = w.semi }

given_read : (n : ℕ) (v : List ℕ) → Writes n v → AdvanceRead (Given n) v
unfolding is_advance advance_of unsigned
given_read n v w =
    value_read is_advance (advance_of v ≡ Given n) 11 n v w (rw (w.full, w.no_minus, w.no_plus, w.is)) (rw (w.full, w.no_minus, w.no_plus, w.val))
    (omega arith)

pos_read : (n : ℕ) (v : List ℕ) → Writes n v → OffsetRead (pos n) v
unfolding is_offset offset_of unsigned
pos_read n v w =
    value_read is_offset (offset_of v ≡ pos n) 12 n v w (rw (w.full, w.no_minus, w.no_plus, w.is)) (rw (w.full, w.no_minus, w.no_plus, w.val))
    (omega arith)

neg_read : (n : ℕ) (v : List ℕ) → Writes (suc n) v → OffsetRead (negsuc n) (45 ∷ v)
unfolding is_offset field_fits rounded_field offset_of unsigned
neg_read n v w = record {
  is = w.is;
  small = w.small;
  val = rw w.val;
  exact = rw w.exact;
  short = omega (arith, w.short);
  comma = w.comma;
  semi = w.semi;
}

module _ {w : ℕ → List ℕ} (y : Writer w) where
  advance_read : (a : Advance) → advance_fits a ≡ true → AdvanceRead a (advance_by w a)
  unfolding advance_by is_advance field_fits rounded_field advance_of
  advance_read Own h = record { is = refl; small = refl; val = refl; exact = refl; short = omega arith; comma = refl; semi = refl }
  advance_read (Given n) h = given_read n (w n) (y.writes n (leb-true n 1000000000 h))

  offset_read : (z : ℤ) → leb (size z) 1000000000 ≡ true → OffsetRead z (offset_by w z)
  unfolding offset_by is_offset field_fits rounded_field offset_of
  offset_read (pos n) h =
      cases (eqb n 0)
      (λ t. rw t (record { is = refl; small = refl; val = ap pos (sym (eqb-true n 0 t)); exact = refl; short = omega arith; comma = refl; semi = refl }))
      (λ t. rw t (pos_read n (w n) (y.writes n (leb-true n 1000000000 h))))
  offset_read (negsuc n) h = neg_read n (w (suc n)) (y.writes (suc n) (leb-true (suc n) 1000000000 h))

-- ── the index part ──

-- the digits of an index
abbrev figures : Index → List ℕ
figures Font = []
figures (Named n) = decimal n

record IndexRead (m : Bool) (a b : ℕ) (i : Index) (p : List ℕ) : Type 0 where
  is : is_index_part p ≡ true
  mapped : has_map p ≡ m
  figs : index_digits p ≡ figures i
  units : map_units p ≡ cond m a 1
  glyphs : map_glyphs p ≡ cond m b 1
  comma : free 44 p ≡ true
  semi : free 59 p ≡ true

bare_read : (a b : ℕ) (i : Index) → IndexRead false a b i (figures i)
unfolding is_index_part index_digits map_units map_glyphs all_digits
bare_read a b Font = record { is = refl; mapped = refl; figs = refl; units = refl; glyphs = refl; comma = refl; semi = refl }
bare_read a b (Named n) =
    let h : has_map (decimal n) ≡ false = digit_not 40 refl (get_or (decimal n) 0 0) (head_digit (decimal n) (digits_decimal n)) in
    record {
      is = rw (h, all_decimal n);
      mapped = h;
      figs = rw h;
      units = rw h;
      glyphs = rw h;
      comma = digits_none (λ b. eqb b 44) (digit_not 44 refl) (decimal n) (all_decimal n);
      semi = digits_none (λ b. eqb b 59) (digit_not 59 refl) (decimal n) (all_decimal n);
    }

-- `(x)n`, x without parenthesis
map_read : (a b n : ℕ) (x : List ℕ) (c : Cut) → none (λ b. eqb b 41) x ≡ true → cut (λ b. eqb b 58) x ≡ c → digits c.before ≡ true
    → cond c.found (digits c.after) true ≡ true → value c.before ≡ a → cond c.found (value c.after) 1 ≡ b → free 44 x ≡ true → free 59 x ≡ true
    → IndexRead true a b (Named n) (40 ∷ (x ++ (41 ∷ decimal n)))
unfolding is_index_part index_digits map_units map_glyphs
map_read a b n x c h e d f va vb c4 c5 =
    let o : cut (λ b. eqb b 41) (x ++ (41 ∷ decimal n)) ≡ record { before = x; found = true; after = decimal n } = cut_found (λ b. eqb b 41) x 41 (decimal n) h
    refl in
    record {
      is = rw (o, e, digits_decimal n, d, f);
      mapped = refl;
      figs = rw (o, index_digits);
      units = rw (o, e, va);
      glyphs = rw (o, e, vb);
      comma = none_append (λ b. eqb b 44) x (41 ∷ decimal n) c4 (digits_none (λ b. eqb b 44) (digit_not 44 refl) (decimal n) (all_decimal n));
      semi = none_append (λ b. eqb b 59) x (41 ∷ decimal n) c5 (digits_none (λ b. eqb b 59) (digit_not 59 refl) (decimal n) (all_decimal n));
    }

-- a cluster a:b has a map, and it is written before an index
abbrev pub maps : ℕ → ℕ → Bool
maps a b = not (leb a 1 && eqb b 1)

abbrev pub mapped : ℕ → ℕ → Index → Bool
mapped a b i = maps a b && named i

unmapped : (a b : ℕ) → maps a b ≡ false → map_bytes a b ≡ []
unfolding map_bytes
unmapped a b h = rw (not-false (leb a 1 && eqb b 1) h)

map_one : (a b n : ℕ) → maps a b ≡ true → b ≡ 1 → map_bytes a b ++ decimal n ≡ 40 ∷ (decimal a ++ (41 ∷ decimal n))
unfolding map_bytes
map_one a b n h e = rw (not-true (leb a 1 && eqb b 1) h, eq-eqb b 1 e, append-nil (decimal a), append_assoc (decimal a) (41 ∷ []) (decimal n))

map_two : (a b n : ℕ) → maps a b ≡ true → eqb b 1 ≡ false → map_bytes a b ++ decimal n ≡ 40 ∷ ((decimal a ++ (58 ∷ decimal b)) ++ (41 ∷ decimal n))
unfolding map_bytes
map_two a b n h e = rw (not-true (leb a 1 && eqb b 1) h, e, append_assoc (decimal a ++ (58 ∷ decimal b)) (41 ∷ []) (decimal n))

digits_free : (c : ℕ) → is_digit c ≡ false → (n : ℕ) → free c (decimal n) ≡ true
digits_free c h n = digits_none (λ b. eqb b c) (digit_not c h) (decimal n) (all_decimal n)

mapped_read : (a b n : ℕ) → maps a b ≡ true → IndexRead true a b (Named n) (map_bytes a b ++ decimal n)
mapped_read a b n h =
    cases (eqb b 1)
    (λ t. rw (map_one a b n h (eqb-true b 1 t))
    (map_read a b n (decimal a) (record { before = decimal a; found = false; after = [] }) (digits_free 41 refl a)
    (cut_none (λ b. eqb b 58) (decimal a) (digits_free 58 refl a)) (digits_decimal a) refl (value_decimal a) (sym (eqb-true b 1 t))
    (digits_free 44 refl a) (digits_free 59 refl a)))
    (λ t. rw (map_two a b n h t)
    (map_read a b n (decimal a ++ (58 ∷ decimal b)) (record { before = decimal a; found = true; after = decimal b })
    (none_append (λ b. eqb b 41) (decimal a) (58 ∷ decimal b) (digits_free 41 refl a) (digits_free 41 refl b))
    (cut_found (λ b. eqb b 58) (decimal a) 58 (decimal b) (digits_free 58 refl a) refl) (digits_decimal a) (digits_decimal b) (value_decimal a)
    (value_decimal b)
    (none_append (λ b. eqb b 44) (decimal a) (58 ∷ decimal b) (digits_free 44 refl a) (digits_free 44 refl b))
    (none_append (λ b. eqb b 59) (decimal a) (58 ∷ decimal b) (digits_free 59 refl a) (digits_free 59 refl b))))

index_read : (a b : ℕ) (i : Index) → IndexRead (mapped a b i) a b i (index_bytes a b i)
unfolding index_bytes
index_read a b Font = rw (and-false (maps a b)) (bare_read a b Font)
index_read a b (Named n) =
    cases (maps a b)
    (λ h. rw h (mapped_read a b n h))
    (λ h. rw (h, unmapped a b h) (bare_read a b (Named n)))

-- the index that its digits name
index_of_holds : (i : Index) (p : List ℕ) → index_digits p ≡ figures i → index_of p ≡ i
unfolding index_of
index_of_holds Font p e = rw e
index_of_holds (Named n) p e = rw (e, empty_decimal n, value_decimal n)

index_small : (i : Index) (p : List ℕ) → index_fits i ≡ true → index_digits p ≡ figures i → leb (value (index_digits p)) 65535 ≡ true
unfolding value_from
index_small Font p h e = rw e
index_small (Named n) p h e = rw (e, value_decimal n) h

-- ── the entry ──

abbrev entry_parts : (ℕ → List ℕ) → ℕ → ℕ → Glyph → List (List ℕ)
entry_parts w a b g = index_bytes a b g.index ∷ advance_by w g.advance ∷ offset_by w g.u ∷ offset_by w g.v ∷ []

-- what the reader makes of the entry written for a glyph that opens a cluster a:b
abbrev pub back : ℕ → ℕ → Glyph → Entry
back a b g =
    record { mapped = mapped a b g.index; units = cond (mapped a b g.index) a 1; glyphs = cond (mapped a b g.index) b 1; glyph = g }

map_short : (a b : ℕ) → a < 100000 → b < 100000 → length (map_bytes a b) ≤ 13
unfolding map_bytes
map_short a b ha hb =
    let la : length (decimal a) ≤ 5 = length_decimal a 4 ha in
    let lb : length (decimal b) ≤ 5 = length_decimal b 4 hb in
    cases (leb a 1 && eqb b 1)
    (λ t. rw t (omega arith))
    (λ t. rw t (cases (eqb b 1)
    (λ s. rw (s, length-append (decimal a ++ []) (41 ∷ []), length-append (decimal a) []) (omega arith))
    (λ s. rw (s, length-append (decimal a ++ (58 ∷ decimal b)) (41 ∷ []), length-append (decimal a) (58 ∷ decimal b)) (omega arith))))

index_short : (a b : ℕ) (i : Index) → index_fits i ≡ true → a < 100000 → b < 100000 → length (index_bytes a b i) ≤ 18
unfolding index_bytes
index_short a b Font h ha hb = omega arith
index_short a b (Named n) h ha hb = rw length-append (omega (arith, map_short a b ha hb, length_decimal n 4 (omega (arith, leb-true n 65535 h))))

module _ {w : ℕ → List ℕ} (y : Writer w) (a b : ℕ) (g : Glyph) (m : glyph_fits g ≡ true) where
  fits_v : leb (size g.v) 1000000000 ≡ true
  fits_v = and_r (index_fits g.index && advance_fits g.advance && leb (size g.u) 1000000000) (leb (size g.v) 1000000000) m

  fits_iau : (index_fits g.index && advance_fits g.advance && leb (size g.u) 1000000000) ≡ true
  fits_iau = and_l (index_fits g.index && advance_fits g.advance && leb (size g.u) 1000000000) (leb (size g.v) 1000000000) m

  fits_u : leb (size g.u) 1000000000 ≡ true
  fits_u = and_r (index_fits g.index && advance_fits g.advance) (leb (size g.u) 1000000000) fits_iau

  fits_ia : (index_fits g.index && advance_fits g.advance) ≡ true
  fits_ia = and_l (index_fits g.index && advance_fits g.advance) (leb (size g.u) 1000000000) fits_iau

  fits_a : advance_fits g.advance ≡ true
  fits_a = and_r (index_fits g.index) (advance_fits g.advance) fits_ia

  fits_i : index_fits g.index ≡ true
  fits_i = and_l (index_fits g.index) (advance_fits g.advance) fits_ia

  ri : IndexRead (mapped a b g.index) a b g.index (index_bytes a b g.index)
  ri = index_read a b g.index

  ra : AdvanceRead g.advance (advance_by w g.advance)
  ra = advance_read y g.advance fits_a

  ru : OffsetRead g.u (offset_by w g.u)
  ru = offset_read y g.u fits_u

  rv : OffsetRead g.v (offset_by w g.v)
  rv = offset_read y g.v fits_v

  parts_comma : all_free 44 (entry_parts w a b g) ≡ true
  parts_comma = rw (ri.comma, ra.comma, ru.comma, rv.comma)

  parts_semi : all_free 59 (entry_parts w a b g) ≡ true
  parts_semi = rw (ri.semi, ra.semi, ru.semi, rv.semi)

  the_part : (k : ℕ) → entry_part k (entry_by w a b g) ≡ get_or (entry_parts w a b g) k []
  unfolding entry_by
  the_part k = parts_joined 44 (entry_parts w a b g) k parts_comma

  entry_formed : well_formed (entry_by w a b g) ≡ true
  unfolding well_formed
  entry_formed =
      rw (
        the_part 0,
        the_part 1,
        the_part 2,
        the_part 3,
        ri.is,
        ra.is,
        ru.is,
        rv.is,
        le-leb (length (split 44 (entry_by w a b g))) 4 (unfold entry_by in (length_joined 44 (entry_parts w a b g) parts_comma (omega arith))),
      )

  entry_index : leb (value (index_digits (entry_part 0 (entry_by w a b g)))) 65535 ≡ true
  entry_index = rw (the_part 0) (index_small g.index (index_bytes a b g.index) fits_i ri.figs)

  entry_numbers : (field_fits (entry_part 1 (entry_by w a b g)) && field_fits (entry_part 2 (entry_by w a b g)) && field_fits
      (entry_part 3 (entry_by w a b g))) ≡ true
  entry_numbers = rw (the_part 1, the_part 2, the_part 3, ra.small, ru.small, rv.small)

  entry_is : entry_of (entry_by w a b g) ≡ back a b g
  unfolding entry_of
  entry_is =
      rw (
        the_part 0,
        the_part 1,
        the_part 2,
        the_part 3,
        ri.mapped,
        ri.units,
        ri.glyphs,
        ra.val,
        ru.val,
        rv.val,
        index_of_holds g.index (index_bytes a b g.index) ri.figs,
      )

  pub entry_read_holds : (k : ℕ) → entry k (entry_by w a b g) ≡ ok (back a b g)
  entry_read_holds k = entry_steps k (entry_by w a b g) ∙ rw (entry_formed, entry_index, entry_numbers, entry_is)

  pub entry_exact : rounded_entry (entry_by w a b g) ≡ 0
  unfolding rounded_entry
  entry_exact = rw (the_part 1, the_part 2, the_part 3, ra.exact, ru.exact, rv.exact)

  pub entry_semi : free 59 (entry_by w a b g) ≡ true
  unfolding entry_by
  entry_semi = join_free (λ x. eqb x 59) 44 (trim (entry_parts w a b g)) refl (free_trim 59 (entry_parts w a b g) parts_semi)

  pub entry_short : a < 100000 → b < 100000 → length (entry_by w a b g) ≤ 57
  unfolding entry_by
  entry_short ha hb =
      let i : length (index_bytes a b g.index) ≤ 18 = index_short a b g.index fits_i ha hb in
      let j : length (join 44 (trim (entry_parts w a b g))) ≤ total (trim (entry_parts w a b g)) = join_total 44 (trim (entry_parts w a b g)) in
      let t : total (trim (entry_parts w a b g)) ≤ total (entry_parts w a b g) = total_trim (entry_parts w a b g) in
      omega (arith, ra.short, ru.short, rv.short)

-- an entry that names its index has bytes
pub entry_full : {w : ℕ → List ℕ} (y : Writer w) (a b : ℕ) (g : Glyph) → named g.index ≡ true → empty (entry_by w a b g) ≡ false
entry_full y a b g h = empty_is_font y a b g ∙ rw h
