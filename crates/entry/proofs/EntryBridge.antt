-- Law `bridge`: the entry scanned in one pass is the definitions'; it cuts at semicolon and commas, takes each part from FrontBridge and FieldBridge, and a
-- scan stuck within a part fails.
-- Assumes nothing.
use Rattle.label.proofs.Steps.{entry_steps}
use mathlib.Core.Path.{◌≡◌, refl, ap, sym, ◌∙◌, subst}
use mathlib.Core.Bool.{Bool, true, false, not, cond, ◌&&◌, and-false, and-true}
use mathlib.Core.List.{List, [], ◌∷◌, ◌++◌, append-nil, append_assoc}
use Prim.Native.Nat.{ℕ, suc, ◌+◌, ◌≤◌}
use native.Mathlib.Omega.{arith}
use lib.ListN.{length, drop, get_or, length-drop, length-append}
use lib.Seq.{drop-drop}
use lib.Dec.{leb, ltb, eqb}
use borrow.Author.Tests.{eqb-true, leb-true, leb-false, le-leb, lt-leb, lt-ltb}
use Rattle.label.specs.Limits.{max_index}
use Rattle.label.specs.Outcome.{Outcome, ok, ◌>>◌, need}
use Rattle.label.specs.Bytes.{empty, split, Cut, value}
use Rattle.label.specs.Entry.{minus, unsigned, number_fits, entry_part, has_map, is_index_part, index_digits, map_units, map_glyphs, is_advance, is_offset, well_formed, field_fits, index_of, advance_of, offset_of, Entry, entry_of}
use Rattle.label.specs.Steps.{entry}
use Rattle.label.specs.Requests.RoundedCount.{rounded_field, rounded_entry}
use Rattle.label.specs.declared.Index.TheVariants.{Named, Font}
use Rattle.label.proofs.Basics.{and_l, and_r, clash, cases}
use Rattle.label.proofs.Splits.{none, empty_nil}
use Rattle.label.proofs.Cursors.{split_rest, split_all}
use Rattle.number.specs.Digits.{ends, is_break}
use Rattle.std.proofs.Common.{is_some}
use Rattle.number.proofs.Scan.{Cutting, whole, parted, cutting, none_or, none_left, none_right}
use Rattle.entry.specs.Items.{is_semi, entry_read, entry_here}
use Rattle.entry.specs.Parts.{Parts, parts_of, map_of, index_at, front_ok, field_of, well_parted, index_choice, advance_choice, offset_by, rounded_by, rounded_parts, scanned}
use Rattle.entry.proofs.FieldBridge.{field_size, Fielded, field_is, field_stuck, advance_field, or_right}
use Rattle.entry.proofs.FrontBridge.{Headed, head_is}
use Rattle.entry.proofs.FieldBridge as fb
use Rattle.entry.proofs.FrontBridge as mb

-- ── the parts between commas ──

abbrev is_comma : ℕ → Bool
is_comma b = eqb b 44

-- the parts behind a rest that is nothing or begins with a comma
abbrev tails : List ℕ → List (List ℕ)
tails [] = []
tails (b ∷ w) = split 44 w

record Comma (t : List ℕ) : Type 0 where
  p : List ℕ
  r : List ℕ
  is : t ≡ p ++ r
  free : none is_break p ≡ true
  semi : none is_semi r ≡ true
  end : ends is_comma r ≡ true
  parts : split 44 t ≡ p ∷ tails r

comma : (t : List ℕ) → none is_semi t ≡ true → Comma t
comma t s = go (cutting is_comma t)
  where
    go : Cutting is_comma t → Comma t
    go (whole n c) = record { p = t; r = []; is = sym (append-nil t); free = none_or is_comma is_semi t n s; semi = refl; end = refl; parts = split_all 44 t n }
    go (parted u b w q n e c) =
        let k : b ≡ 44 = eqb-true b 44 e in
        let s' : none is_semi (u ++ (b ∷ w)) ≡ true = rw q at s in
        record {
          p = u;
          r = b ∷ w;
          is = q;
          free = none_or is_comma is_semi u n (none_left is_semi u (b ∷ w) s');
          semi = none_right is_semi u (b ∷ w) s';
          end = e;
          parts = ap (λ (y : List ℕ). split 44 y) (q ∙ rw k) ∙ split_rest 44 u w n;
        }

leb_suc : (a n : ℕ) → leb (suc a) (suc n) ≡ leb a n
leb_suc a n =
    cases (leb a n)
    (λ e. le-leb (suc a) (suc n) (omega (arith, leb-true a n e)) ∙ sym e)
    (λ e. lt-leb (suc a) (suc n) (omega (arith, leb-false a n e)) ∙ sym e)

-- what follows a part: the other parts of its entry and then r0
ends_both : (r r0 : List ℕ) → ends is_comma r ≡ true → ends is_semi r0 ≡ true → ends is_break (r ++ r0) ≡ true
ends_both [] [] h k = refl
ends_both [] (b ∷ r0) h k = cases (eqb b 44) (λ e. rw e) (λ e. rw (e, k))
ends_both (b ∷ r) r0 h k = rw h

-- one part more, and the field scanned there; r0 is what follows the entry
record Next (r r0 : List ℕ) : Type 0 where
  p : List ℕ
  r' : List ℕ
  fld : Fielded p (r' ++ r0) (r ++ r0)
  end : ends is_comma r' ≡ true
  semi : none is_semi r' ≡ true
  first : get_or (tails r) 0 [] ≡ p
  others : (n : ℕ) → get_or (tails r) (suc n) [] ≡ get_or (tails r') n []
  count : (n : ℕ) → leb (length (tails r)) (suc n) ≡ leb (length (tails r')) n

none_left_over : (r0 : List ℕ) → ends is_semi r0 ≡ true → Fielded [] r0 r0
unfolding field_of is_offset
none_left_over [] h = fb.good refl refl refl refl refl refl
none_left_over (b ∷ r0) h =
    let q : b ≡ 59 = eqb-true b 59 h in
    fb.good refl (rw q) (rw q) (rw q) (rw q) (rw q)

next : (r r0 : List ℕ) → ends is_comma r ≡ true → none is_semi r ≡ true → ends is_semi r0 ≡ true → Next r r0
next [] r0 h s k =
    record {
      p = [];
      r' = [];
      fld = none_left_over r0 k;
      end = refl;
      semi = refl;
      first = refl;
      others = λ n. refl;
      count = λ n. le-leb 0 (suc n) (omega arith) ∙ sym (le-leb 0 n (omega arith));
    }
next (b ∷ w) r0 h s k = go (comma w (and_r (not (is_semi b)) (none is_semi w) s))
  where
    go : Comma w → Next (b ∷ w) r0
    go c =
        let q : (b ∷ w) ++ r0 ≡ 44 ∷ (c.p ++ (c.r ++ r0)) = rw (eqb-true b 44 h, c.is) (ap (λ (y : List ℕ). 44 ∷ y) (append_assoc c.p c.r r0)) in
        record {
          p = c.p;
          r' = c.r;
          fld = subst (λ (y : List ℕ). Fielded c.p (c.r ++ r0) y) (sym q) (field_is c.p (c.r ++ r0) c.free (ends_both c.r r0 c.end k));
          end = c.end;
          semi = c.semi;
          first = rw c.parts;
          others = λ n. rw c.parts;
          count = λ n. rw c.parts (leb_suc (length (tails c.r)) n);
        }

-- ── 7 ──

-- a test of a rest that fails where the scan stopped within a part
abbrev Stuck : (List ℕ → Bool) → Type 0
Stuck g = (y : List ℕ) → ends is_break y ≡ false → g y ≡ false

stuck_both : (g : List ℕ → Bool) → Stuck g → (o : Bool) (y : List ℕ) → (o && ends is_break y) ≡ false → (o && g y) ≡ false
stuck_both g s true y h = s y h
stuck_both g s false y h = refl

-- one field, and then the test g of the rest
abbrev one : (List ℕ → Bool) → List ℕ → Bool
one g y = (field_of y).ok && g (drop (field_of y).used y)

-- the advance, and then the test g of the rest
abbrev first : (List ℕ → Bool) → List ℕ → Bool
first g y = ((field_of y).ok && not (field_of y).negative) && g (drop (field_of y).used y)

stuck_end : Stuck (ends is_semi)
stuck_end [] h = clash true refl h
stuck_end (b ∷ y) h = or_right (eqb b 44) (eqb b 59) h

stuck_one : (g : List ℕ → Bool) → Stuck g → Stuck (one g)
stuck_one g s y h = rw (field_stuck y h) (s y h)

stuck_first : (g : List ℕ → Bool) → Stuck g → Stuck (first g)
stuck_first g s y h = rw (field_stuck y h) (s y h)

one_is : (g : List ℕ → Bool) → Stuck g → (p r' r : List ℕ) → Fielded p r' r → one g r ≡ (is_offset p && g r')
one_is g s p r' r (fb.good o k d v m z) = rw (k, d, o)
one_is g s p r' r (fb.wrong o w) = rw o (stuck_both g s (field_of r).ok (drop (field_of r).used r) w)

first_is : (g : List ℕ → Bool) → Stuck g → (p r' r : List ℕ) → Fielded p r' r → first g r ≡ (is_advance p && g r')
first_is g s p r' r (fb.good o k d v m z) = rw (advance_field p, k, d, o, m)
first_is g s p r' r (fb.wrong o w) = rw (
  advance_field p,
  o,
) (drops (field_of r).ok (not (field_of r).negative) (g (drop (field_of r).used r)) (stuck_both g s (field_of r).ok (drop (field_of r).used r) w))
  where
    drops : (a b c : Bool) → (a && c) ≡ false → ((a && b) && c) ≡ false
    drops true true c h = h
    drops true false c h = refl
    drops false b c h = refl

head_test : (g : List ℕ → Bool) → Stuck g → (p r t : List ℕ) → Headed p r t
    → (front_ok (map_of t) (index_at t) && g (drop ((map_of t).used + length (index_at t)) t)) ≡ (is_index_part p && g r)
head_test g s p r t (mb.good i o d m a b x) = rw (i, o, d)
head_test g s p r t (mb.wrong i w) = rw i (stuck_both g s (front_ok (map_of t) (index_at t)) (drop ((map_of t).used + length (index_at t)) t) w)

regroup : (a x y z e : Bool) → ((a && (x && (y && z))) && e) ≡ (a && (x && (y && (z && e))))
regroup true true true z e = refl
regroup true true false z e = refl
regroup true false y z e = refl
regroup false x y z e = refl

reorder : (e a b c d : Bool) → (e && a && b && c && d) ≡ (a && (b && (c && (d && e))))
reorder true true true true d = sym (and-true d)
reorder true true true false d = refl
reorder true true false c d = refl
reorder true false b c d = refl
reorder false true true true d = sym (and-false d)
reorder false true true false d = refl
reorder false true false c d = refl
reorder false false b c d = refl

-- the scan's test 7, told by rests
scan_test : (t : List ℕ)
    → well_parted (parts_of t) t ≡ (front_ok (map_of t) (index_at t) && first (one (one (ends is_semi))) (drop ((map_of t).used + length (index_at t)) t))
unfolding parts_of
scan_test t =
    let P : Parts = parts_of t in
    rw (drop-drop, drop-drop, drop-drop)
    (regroup (front_ok (map_of t) (index_at t)) (P.x.ok && not P.x.negative) P.y.ok P.z.ok (ends is_semi (drop P.used t)))

-- the four parts of an entry en with r0 behind it, and what is left behind them
module _ (t en r0 : List ℕ) (te : t ≡ en ++ r0) (k0 : ends is_semi r0 ≡ true) (c : Comma en) (x : Next c.r r0) (y : Next x.r' r0) (z : Next y.r' r0)
  where
    headed : Headed c.p (c.r ++ r0) t
    headed =
        subst (λ (s : List ℕ). Headed c.p (c.r ++ r0) s) (sym (te ∙ ap (λ (v : List ℕ). v ++ r0) c.is ∙ append_assoc c.p c.r r0))
        (head_is c.p (c.r ++ r0) c.free (ends_both c.r r0 c.end k0))

    part_0 : entry_part 0 en ≡ c.p
    part_0 = rw c.parts

    part_1 : entry_part 1 en ≡ x.p
    part_1 = rw c.parts x.first

    part_2 : entry_part 2 en ≡ y.p
    part_2 = rw c.parts (x.others 0 ∙ y.first)

    part_3 : entry_part 3 en ≡ z.p
    part_3 = rw c.parts (x.others 1 ∙ y.others 0 ∙ z.first)

    no_more : leb (length (split 44 en)) 4 ≡ empty z.r'
    no_more = rw c.parts (leb_suc (length (tails c.r)) 3 ∙ x.count 2 ∙ y.count 1 ∙ z.count 0 ∙ at_end z.r' z.semi)
      where
        at_end : (r : List ℕ) → none is_semi r ≡ true → leb (length (tails r)) 0 ≡ empty r
        at_end [] h = refl
        at_end (b ∷ w) h =
            let v : Comma w = comma w (and_r (not (is_semi b)) (none is_semi w) h) in
            rw v.parts (lt-leb (suc (length (tails v.r))) 0 (omega arith))

    no_rest : ends is_semi (z.r' ++ r0) ≡ empty z.r'
    no_rest = go z.r' z.end
      where
        go : (r : List ℕ) → ends is_comma r ≡ true → ends is_semi (r ++ r0) ≡ empty r
        go [] h = k0
        go (b ∷ r) h = rw (eqb-true b 44 h)

    well_same : well_parted (parts_of t) t ≡ well_formed en
    unfolding well_formed
    well_same =
        let s1 = stuck_one (ends is_semi) stuck_end in
        let s2 = stuck_one (one (ends is_semi)) s1 in
        scan_test t
        ∙ head_test (first (one (one (ends is_semi)))) (stuck_first (one (one (ends is_semi))) s2) c.p (c.r ++ r0) t headed
        ∙ rw (
          first_is (one (one (ends is_semi))) s2 x.p (x.r' ++ r0) (c.r ++ r0) x.fld,
          one_is (one (ends is_semi)) s1 y.p (y.r' ++ r0) (x.r' ++ r0) y.fld,
          one_is (ends is_semi) stuck_end z.p (z.r' ++ r0) (y.r' ++ r0) z.fld,
          part_0,
          part_1,
          part_2,
          part_3,
          no_more,
          no_rest,
        )
        (sym (reorder (empty z.r') (is_index_part c.p) (is_advance x.p) (is_offset y.p) (is_offset z.p)))

-- ── what a well-formed entry says ──

record HeadSays (x r t : List ℕ) : Type 0 where
  rest : drop ((map_of t).used + length (index_at t)) t ≡ r
  mapped : (map_of t).mapped ≡ has_map x
  units : (map_of t).units ≡ map_units x
  glyphs : (map_of t).glyphs ≡ map_glyphs x
  digits : index_at t ≡ index_digits x

head_says : (x r t : List ℕ) → is_index_part x ≡ true → Headed x r t → HeadSays x r t
head_says x r t h (mb.good i o d m a b s) = record { rest = d; mapped = m; units = a; glyphs = b; digits = s }
head_says x r t h (mb.wrong i w) = clash (is_index_part x) h i

record FieldSays (x r t : List ℕ) : Type 0 where
  rest : drop (field_of t).used t ≡ r
  given : (field_of t).given ≡ not (empty x)
  negative : (field_of t).negative ≡ minus x
  size : (field_of t).size ≡ field_size x

field_says : (x r t : List ℕ) → is_offset x ≡ true → Fielded x r t → FieldSays x r t
field_says x r t h (fb.good o k d v m z) = record { rest = d; given = v; negative = m; size = z }
field_says x r t h (fb.wrong o w) = clash (is_offset x) h o

within_is : (x : List ℕ) → is_some (field_size x) ≡ field_fits x
unfolding field_fits
within_is [] = refl
within_is (b ∷ x) = cases (number_fits (unsigned (b ∷ x))) (λ e. rw e) (λ e. rw e)

index_is : (d : List ℕ) → index_choice (ltb 0 (length d)) (value d) ≡ cond (empty d) Font (Named (value d))
index_is [] = refl
index_is (b ∷ d) = rw (lt-ltb 0 (suc (length d)) (omega arith))

advance_is : (x : List ℕ) → field_fits x ≡ true → advance_choice (not (empty x)) (field_size x) ≡ advance_of x
unfolding field_fits advance_of
advance_is [] h = refl
advance_is (b ∷ x) h = rw h

offset_is : (x : List ℕ) → field_fits x ≡ true → offset_by (minus x) (field_size x) ≡ offset_of x
unfolding field_fits offset_of
offset_is [] h = refl
offset_is (b ∷ x) h = rw h (cases (minus (b ∷ x)) (λ e. rw e) (λ e. rw e))

rounded_is : (x : List ℕ) → field_fits x ≡ true → rounded_by (field_size x) ≡ rounded_field x
unfolding field_fits rounded_field
rounded_is [] h = refl
rounded_is (b ∷ x) h = rw h

-- 8 and 9, and what the entry then says
abbrev checked : ℕ → Bool → Bool → Entry → Outcome Entry
checked k a b e = need a 8 k >> (need b 9 k >> ok e)

-- what four parts say, by the scan and by the definitions
abbrev scanned_by : List ℕ → List ℕ → List ℕ → List ℕ → Entry
scanned_by p0 p1 p2 p3 =
    record {
      mapped = has_map p0;
      units = map_units p0;
      glyphs = map_glyphs p0;
      glyph = record {
        index = index_choice (ltb 0 (length (index_digits p0))) (value (index_digits p0));
        advance = advance_choice (not (empty p1)) (field_size p1);
        u = offset_by (minus p2) (field_size p2);
        v = offset_by (minus p3) (field_size p3);
      };
    }

abbrev defined_by : List ℕ → List ℕ → List ℕ → List ℕ → Entry
defined_by p0 p1 p2 p3 =
    record {
      mapped = has_map p0;
      units = map_units p0;
      glyphs = map_glyphs p0;
      glyph = record { index = index_of p0; advance = advance_of p1; u = offset_of p2; v = offset_of p3 };
    }

answer : (n k : ℕ) (p0 p1 p2 p3 : List ℕ)
    → entry_read n (rounded_by (field_size p1) + rounded_by (field_size p2) + rounded_by (field_size p3))
    (checked k (leb (value (index_digits p0)) max_index) (is_some (field_size p1) && is_some (field_size p2) && is_some (field_size p3))
    (scanned_by p0 p1 p2 p3))
    ≡ entry_read n (rounded_field p1 + rounded_field p2 + rounded_field p3)
    (checked k (leb (value (index_digits p0)) max_index) (field_fits p1 && field_fits p2 && field_fits p3) (defined_by p0 p1 p2 p3))
unfolding index_of
answer n k p0 p1 p2 p3 =
    rw (index_is (index_digits p0), within_is p1, within_is p2, within_is p3)
    (cases (field_fits p1 && field_fits p2 && field_fits p3)
    (λ m. let a : field_fits p1 ≡ true = and_l (field_fits p1) (field_fits p2) (and_l (field_fits p1 && field_fits p2) (field_fits p3) m) in
    let b : field_fits p2 ≡ true = and_r (field_fits p1) (field_fits p2) (and_l (field_fits p1 && field_fits p2) (field_fits p3) m) in
    let d : field_fits p3 ≡ true = and_r (field_fits p1 && field_fits p2) (field_fits p3) m in
    rw (advance_is p1 a, offset_is p2 b, offset_is p3 d, rounded_is p1 a, rounded_is p2 b, rounded_is p3 d))
    (λ m. cases (leb (value (index_digits p0)) max_index) (λ l. rw (l, m)) (λ l. rw l)))

module _ (k : ℕ) (t en r0 : List ℕ) (te : t ≡ en ++ r0) (k0 : ends is_semi r0 ≡ true) (c : Comma en) (x : Next c.r r0) (y : Next x.r' r0)
    (z : Next y.r' r0)
    (bound : well_parted (parts_of t) t ≡ true → (parts_of t).used ≤ length t) where
  module _ (e : well_formed en ≡ true) where
    tests : (empty z.r' && is_index_part c.p && is_advance x.p && is_offset y.p && is_offset z.p) ≡ true
    unfolding well_formed
    tests = rw (
      no_more t en r0 te k0 c x y z,
      part_0 t en r0 te k0 c x y z,
      part_1 t en r0 te k0 c x y z,
      part_2 t en r0 te k0 c x y z,
      part_3 t en r0 te k0 c x y z,
    ) at e

    test_3 : (empty z.r' && is_index_part c.p && is_advance x.p && is_offset y.p) ≡ true
    test_3 = and_l (empty z.r' && is_index_part c.p && is_advance x.p && is_offset y.p) (is_offset z.p) tests

    test_2 : (empty z.r' && is_index_part c.p && is_advance x.p) ≡ true
    test_2 = and_l (empty z.r' && is_index_part c.p && is_advance x.p) (is_offset y.p) test_3

    test_1 : (empty z.r' && is_index_part c.p) ≡ true
    test_1 = and_l (empty z.r' && is_index_part c.p) (is_advance x.p) test_2

    hs : HeadSays c.p (c.r ++ r0) t
    hs = head_says c.p (c.r ++ r0) t (and_r (empty z.r') (is_index_part c.p) test_1) (headed t en r0 te k0 c x y z)

    xs : FieldSays x.p (x.r' ++ r0) (c.r ++ r0)
    xs =
        field_says x.p (x.r' ++ r0) (c.r ++ r0)
        (and_l (is_offset x.p) (not (minus x.p)) (rw (advance_field x.p) at (and_r (empty z.r' && is_index_part c.p) (is_advance x.p) test_2)))
        x.fld

    ys : FieldSays y.p (y.r' ++ r0) (x.r' ++ r0)
    ys = field_says y.p (y.r' ++ r0) (x.r' ++ r0) (and_r (empty z.r' && is_index_part c.p && is_advance x.p) (is_offset y.p) test_3) y.fld

    zs : FieldSays z.p (z.r' ++ r0) (y.r' ++ r0)
    zs = field_says z.p (z.r' ++ r0) (y.r' ++ r0) (and_r (empty z.r' && is_index_part c.p && is_advance x.p && is_offset y.p) (is_offset z.p)
        tests) z.fld

    x_is : (parts_of t).x ≡ field_of (c.r ++ r0)
    unfolding parts_of
    x_is = rw hs.rest

    x_rest : drop ((map_of t).used + length (index_at t) + (parts_of t).x.used) t ≡ x.r' ++ r0
    x_rest = sym (drop-drop (parts_of t).x.used ((map_of t).used + length (index_at t)) t) ∙ rw (x_is, hs.rest) xs.rest

    y_is : (parts_of t).y ≡ field_of (x.r' ++ r0)
    unfolding parts_of
    y_is = ap field_of x_rest

    y_rest : drop ((map_of t).used + length (index_at t) + (parts_of t).x.used + (parts_of t).y.used) t ≡ y.r' ++ r0
    y_rest = sym (drop-drop (parts_of t).y.used ((map_of t).used + length (index_at t) + (parts_of t).x.used) t) ∙ rw (y_is, x_rest) ys.rest

    z_is : (parts_of t).z ≡ field_of (y.r' ++ r0)
    unfolding parts_of
    z_is = ap field_of y_rest

    used_sum : (parts_of t).used ≡ (map_of t).used + length (index_at t) + (parts_of t).x.used + (parts_of t).y.used + (parts_of t).z.used
    unfolding parts_of
    used_sum = refl

    z_rest : drop (parts_of t).used t ≡ r0
    z_rest =
        ap (λ (n : ℕ). drop n t) used_sum
        ∙ sym (drop-drop (parts_of t).z.used ((map_of t).used + length (index_at t) + (parts_of t).x.used + (parts_of t).y.used) t)
        ∙ rw (z_is, y_rest) zs.rest
        ∙ ap (λ (v : List ℕ). v ++ r0) (empty_nil z.r' (and_l (empty z.r') (is_index_part c.p) test_1))

    used_same : (parts_of t).used ≡ length en
    used_same = omega (
      arith,
      bound (well_same t en r0 te k0 c x y z ∙ e),
      sym (length-drop (parts_of t).used t) ∙ ap length z_rest,
      ap length te
          ∙ length-append en r0,
    )

    map_same : (parts_of t).map ≡ map_of t
    unfolding parts_of
    map_same = refl

    digits_same : (parts_of t).digits ≡ index_at t
    unfolding parts_of
    digits_same = refl

    well_bridge : entry_read (parts_of t).used (rounded_parts (parts_of t)) (scanned k t) ≡ entry_read (length en) (rounded_entry en) (entry k en)
    unfolding scanned entry_of rounded_entry
    well_bridge =
        rw (
          entry_steps k en,
          well_same t en r0 te k0 c x y z,
          e,
          map_same,
          digits_same,
          used_same,
          x_is,
          y_is,
          z_is,
          hs.mapped,
          hs.units,
          hs.glyphs,
          hs.digits,
          xs.given,
          xs.size,
          ys.negative,
          ys.size,
          zs.negative,
          zs.size,
          part_0 t en r0 te k0 c x y z,
          part_1 t en r0 te k0 c x y z,
          part_2 t en r0 te k0 c x y z,
          part_3 t en r0 te k0 c x y z,
        )
        (answer (length en) k c.p x.p y.p z.p)

  bridge_parts : entry_read (parts_of t).used (rounded_parts (parts_of t)) (scanned k t) ≡ entry_read (length en) (rounded_entry en) (entry k en)
  unfolding scanned
  bridge_parts = cases (well_formed en) well_bridge (λ e. rw (entry_steps k en, well_same t en r0 te k0 c x y z, e))

-- an entry en and what follows it
bridge_entry : (k : ℕ) (t en r0 : List ℕ) → t ≡ en ++ r0 → none is_semi en ≡ true → ends is_semi r0 ≡ true
    → (well_parted (parts_of t) t ≡ true → (parts_of t).used ≤ length t)
    → entry_read (parts_of t).used (rounded_parts (parts_of t)) (scanned k t) ≡ entry_read (length en) (rounded_entry en) (entry k en)
bridge_entry k t en r0 te n k0 b =
    let c : Comma en = comma en n in
    let x : Next c.r r0 = next c.r r0 c.end c.semi k0 in
    let y : Next x.r' r0 = next x.r' r0 x.end x.semi k0 in
    bridge_parts k t en r0 te k0 c x y (next y.r' r0 y.end y.semi k0) b

-- for every list of bytes: what the scan answers is what the definitions answer of the entry in front
pub bridge : (k : ℕ) (t : List ℕ) → (well_parted (parts_of t) t ≡ true → (parts_of t).used ≤ length t)
    → entry_read (parts_of t).used (rounded_parts (parts_of t)) (scanned k t) ≡ entry_here k t
bridge k t b = go (cutting is_semi t)
  where
    go : Cutting is_semi t → entry_read (parts_of t).used (rounded_parts (parts_of t)) (scanned k t) ≡ entry_here k t
    go (whole n c) = subst (λ (v : Cut). entry_read (parts_of t).used (rounded_parts (parts_of t)) (scanned k t) ≡ entry_read (length v.before)
        (rounded_entry v.before) (entry k v.before)) (sym c) (bridge_entry k t t [] (sym (append-nil t)) n refl b)
    go (parted u s w q n e c) = subst (λ (v : Cut). entry_read (parts_of t).used (rounded_parts (parts_of t)) (scanned k t) ≡ entry_read (length v.before)
        (rounded_entry v.before) (entry k v.before)) (sym c) (bridge_entry k t u (s ∷ w) q n e b)
