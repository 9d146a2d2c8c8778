-- "The entries": when an entry is well formed (7), its index (8), its numbers (9), and what it says.
-- Assumes nothing.
use Rattle.std.specs.Prelude.{ℕ, ◌+◌, ◌*◌, ◌/◌, ◌%◌, ◌^◌, Bool, true, cond, not, ◌&&◌, ◌||◌, List, [], ◌++◌, leb, ltb, eqb, ℤ, pos, neg_ℤ, length, get_or, drop}
use Rattle.label.specs.Limits.{max_digits, max_exponent_digits, max_thousandths}
use Rattle.label.specs.Bytes.{empty, split, Cut, cut, all_digits, digits, value}
use Rattle.label.specs.declared.Index.{Index}
use Rattle.label.specs.declared.Index.TheVariants.{Named, Font}
use Rattle.label.specs.declared.Advance.{Advance}
use Rattle.label.specs.declared.Advance.TheVariants.{Given, Own}
use Rattle.label.specs.declared.Glyph.{Glyph}

-- ── numbers ──

-- the sign at the front: `-`
abbrev pub minus : List ℕ → Bool
minus s = eqb (get_or s 0 0) 45

-- or `+`
abbrev pub plus : List ℕ → Bool
plus s = eqb (get_or s 0 0) 43

-- "an optional sign": without one at the front
unfoldable pub unsigned : List ℕ → List ℕ
unsigned s = cond (minus s || plus s) (drop 1 s) s

-- "`e` or `E`"
abbrev pub is_e : ℕ → Bool
is_e b = eqb b 101 || eqb b 69

-- the point
abbrev pub is_point : ℕ → Bool
is_point b = eqb b 46

-- before and behind the `e`
abbrev pub at_exponent : List ℕ → Cut
at_exponent s = cut is_e s

-- before and behind the point
abbrev pub at_point : List ℕ → Cut
at_point s = cut is_point (at_exponent s).before

-- "digits, or digits `.` digits, or `.` digits"
unfoldable pub is_decimals : List ℕ → Bool
is_decimals s = cond (cut is_point s).found (all_digits (cut is_point s).before && digits (cut is_point s).after) (digits s)

-- "A number is [such digits]; then optionally `e` or `E`, an optional sign, digits"
unfoldable pub is_number : List ℕ → Bool
is_number s = is_decimals (at_exponent s).before && cond (at_exponent s).found (digits (unsigned (at_exponent s).after)) true

-- "the digits before any exponent" (m)
unfoldable pub mantissa_digits : List ℕ → List ℕ
mantissa_digits s = (at_point s).before ++ (at_point s).after

-- "those behind the point" (f counts them)
unfoldable pub fraction_digits : List ℕ → List ℕ
fraction_digits s = (at_point s).after

-- the exponent's digits (e, with the sign before them)
unfoldable pub exponent_digits : List ℕ → List ℕ
exponent_digits s = unsigned (at_exponent s).after

-- the "even neighbour" of n and a half: the even one of n and n + 1
abbrev pub even_neighbour : ℕ → ℕ
even_neighbour n = n + n % 2

-- "rounded to the nearest whole number"; in place of "a half going away from zero" document 02, CR 6: "Halves go to the even neighbour."
-- Of a / b, before the sign, which plays no part: what a / b has above the whole number below it is less than a half, more, or a half.
unfoldable pub nearest : ℕ → ℕ → ℕ
nearest a b = cond (ltb (2 * (a % b)) b) (a / b) (cond (ltb b (2 * (a % b))) (a / b + 1) (even_neighbour (a / b)))

-- "the value is m × 10^(e − f) × 1000, rounded": `down` where e is negative
unfoldable pub scaled : ℕ → ℕ → Bool → ℕ → ℕ
scaled m f down e = cond down (nearest (m * 10 ^ 3) (10 ^ (f + e))) (nearest (m * 10 ^ (e + 3)) (10 ^ f))

-- "Values are whole thousandths of the standard's unit": the value of an unsigned number
unfoldable pub thousandths : List ℕ → ℕ
thousandths s = scaled (value (mantissa_digits s)) (length (fraction_digits s)) (minus (at_exponent s).after) (value (exponent_digits s))

-- 9 does not hold: not "above 18 digits before the exponent, above 2 in it, or size above 1,000,000,000 thousandths". "Leading zeros count as digits."
unfoldable pub number_fits : List ℕ → Bool
number_fits s = leb (length (mantissa_digits s)) max_digits && leb (length (exponent_digits s)) max_exponent_digits && leb (thousandths s) max_thousandths

-- ── the parts of an entry ──

-- index part (0), advance (1), u offset (2), v offset (3), "each behind a comma"; a part that is not there is empty
abbrev pub entry_part : ℕ → List ℕ → List ℕ
entry_part n s = get_or (split 44 s) n []

-- "an optional map": the part begins with `(`
abbrev pub has_map : List ℕ → Bool
has_map p = eqb (get_or p 0 0) 40

-- inside and behind the parentheses
abbrev pub at_parenthesis : List ℕ → Cut
at_parenthesis p = cut (λ b. eqb b 41) (drop 1 p)

-- a and b, before and behind the colon
abbrev pub at_colon : List ℕ → Cut
at_colon p = cut (λ b. eqb b 58) (at_parenthesis p).before

-- "an optional map, then one or more digits"; "A map is `(a)` or `(a:b)`, a and b one or more digits"; "A map without an index isn't well formed."
-- The part is optional, so nothing is well formed too.
unfoldable pub is_index_part : List ℕ → Bool
is_index_part p =
    cond (has_map p)
    ((at_parenthesis p).found && digits (at_parenthesis p).after && digits (at_colon p).before && cond (at_colon p).found (digits (at_colon p).after) true)
    (all_digits p)

-- the digits of the index, behind the map if there is one
unfoldable pub index_digits : List ℕ → List ℕ
index_digits p = cond (has_map p) (at_parenthesis p).after p

-- a; 1 without a map
unfoldable pub map_units : List ℕ → ℕ
map_units p = cond (has_map p) (value (at_colon p).before) 1

-- b; "`(a)` means b = 1"; 1 without a map
unfoldable pub map_glyphs : List ℕ → ℕ
map_glyphs p = cond (has_map p && (at_colon p).found) (value (at_colon p).after) 1

-- "Each may be empty"; "An advance may have `+` before it and never `-`"
unfoldable pub is_advance : List ℕ → Bool
is_advance s = empty s || (not (minus s) && is_number (unsigned s))

-- "an offset may have either"
unfoldable pub is_offset : List ℕ → Bool
is_offset s = empty s || is_number (unsigned s)

-- 7 does not hold: "an optional index part, then up to three fields, each behind a comma"
unfoldable pub well_formed : List ℕ → Bool
well_formed s = leb (length (split 44 s)) 4 && is_index_part (entry_part 0 s) && is_advance (entry_part 1 s) && is_offset (entry_part 2 s) &&
    is_offset (entry_part 3 s)

-- 9 does not hold of a field
unfoldable pub field_fits : List ℕ → Bool
field_fits s = empty s || number_fits (unsigned s)

-- "The index is either named by the label or chosen by the font". "A named index equal to the font's choice is still another run.": no definition knows a font.
unfoldable pub index_of : List ℕ → Index
index_of p = cond (empty (index_digits p)) Font (Named (value (index_digits p)))

-- "the advance is either given or the font's own"
unfoldable pub advance_of : List ℕ → Advance
advance_of s = cond (empty s) Own (Given (thousandths (unsigned s)))

-- "an offset not given is 0"; "then the sign"
unfoldable pub offset_of : List ℕ → ℤ
offset_of s = cond (empty s) (pos 0) (cond (minus s) (neg_ℤ (pos (thousandths (unsigned s)))) (pos (thousandths (unsigned s))))

-- what an entry says: its map's two counts, and "its index choice, its advance choice and both offsets"
pub record Entry : Type 0 where
  pub mapped : Bool
  pub units : ℕ
  pub glyphs : ℕ
  pub glyph : Glyph

-- "Fields in order: advance, u offset, v offset": what these bytes say
unfoldable pub entry_of : List ℕ → Entry
entry_of s =
    record {
      mapped = has_map (entry_part 0 s);
      units = map_units (entry_part 0 s);
      glyphs = map_glyphs (entry_part 0 s);
      glyph = record {
        index = index_of (entry_part 0 s);
        advance = advance_of (entry_part 1 s);
        u = offset_of (entry_part 2 s);
        v = offset_of (entry_part 3 s);
      };
    }

-- "Zero bytes of indices are no entries. Otherwise entries are split at each `;`, so n semicolons make n + 1 entries, numbered from 0."
unfoldable pub entries : List ℕ → List (List ℕ)
entries s = cond (empty s) [] (split 59 s)
