-- Laws that the code's map, front, fields and entry are the definitions'; the parts are rewritten by the bytes met, the entry's answers by `bridge` of
-- EntryBridge.
-- Assumes nothing.
use Rattle.std.proofs.Common.{◌≡◌, refl, cond, ap, sym, ◌∙◌, Bool, true, false, not, ◌&&◌, ◌||◌, List, [], ◌∷◌, ℕ, suc, ◌+◌, ◌≤◌, ◌<◌, min, arith, leb, ltb, eqb, length, drop, get_or, pos, Option, Some, None, Ok, Err, is_some, ℤ, add_assoc, option_and_then}
use Rattle.std.specs.Option.{option_map}
use Rattle.std.specs.Result.{result_ok}
use mathlib.Core.Bool.{or-true}
use native.Mathlib.Nat.{zero-add}
use lib.Seq.{drop-drop}
use borrow.Author.Tests.{eq-eqb, ne_eqb, eqb-true, le-leb, lt-leb, lt-ltb, leb-true, leb-false}
use Rattle.std.specs.Bool.{then_some}
use Rattle.label.specs.Limits.{max_index}
use Rattle.label.specs.Bytes.{value_from, value}
use Rattle.label.specs.declared.Glyph.{Glyph}
use Rattle.label.specs.declared.Index.{Index}
use Rattle.label.specs.declared.Index.TheVariants.{Named}
use Rattle.label.specs.declared.Advance.{Advance}
use Rattle.label.specs.Calls.{refusal}
use Rattle.label.specs.declared.Cause.TheVariants as C
use Rattle.label.proofs.Basics.{cases, clash}
use Rattle.number.specs.declared.Digits.{Digits}
use Rattle.number.specs.declared.Number.{Number}
use Rattle.number.specs.Digits.{cap, head_of, ends, is_break, lead, digits_from}
use Rattle.number.specs.Numbers.{Numeral, sign_length, number_of, formed}
use Rattle.number.specs.declared.Thousandths.{Thousandths}
use Rattle.number.proofs.DigitLaws.{head_drop}
use Rattle.number.proofs.NumberLaws.{told_some, told_none, formed_ok}
use Rattle.entry.specs.declared.MapPart.{MapPart}
use Rattle.entry.specs.declared.Front.{Front}
use Rattle.entry.specs.declared.Field.{Field}
use Rattle.entry.specs.declared.Offsets.{Offsets}
use Rattle.entry.specs.declared.Parts.{Parts as Cut}
use Rattle.entry.specs.Items.{is_semi, entry_read, entry_here, IsIndex}
use Rattle.entry.specs.Parts.{map_of, map_with, no_map, lead_at, cut_map, index_at, front_ok, front_with, front_of, FieldPart, field_of, cut_field, cut_offsets, offsets_of, advance_within, advance_choice, offset_within, offset_by, rounded_number, rounded_by, is_minus, field_with, not_given, given_by, Parts, parts_of, well_parted, cut_parts, rounded_parts, glyph_within, index_within, cut_index, index_choice, judged, scanned}
use Rattle.entry.proofs.EntryBridge.{bridge}

-- ── the map ──

map_none : (s : List ℕ) → (head_of s ≡ 40 → ⊥) → map_of s ≡ no_map
unfolding map_of
map_none s h = rw (ne_eqb _ _ h)

map_some : (s : List ℕ) → head_of s ≡ 40 → map_of s ≡ map_with s (lead_at 1 s) (lead_at (1 + (length (lead_at 1 s) + 1)) s)
unfolding map_of
map_some s h = rw (eq-eqb _ _ h)

-- what the code tells of it
abbrev told_map : List ℕ → Option MapPart
told_map s = let m = map_of s in then_some m.ok (cut_map m)

module _ (s : List ℕ) where
  pub code_none : (get_or s 0 0 ≡ 40 → ⊥) → Some (record { used = 0; mapped = false; units = 1; glyphs = 1 }) ≡ told_map s
  code_none h = rw (map_none s h)

  module _ (p : get_or s 0 0 ≡ 40) (r : Digits) (e : r ≡ digits_from 0 (drop 1 s)) where
    count_is : r.count ≡ length (lead_at 1 s)
    count_is = ap (λ (d : Digits). d.count) e

    pub code_one : get_or s (1 + r.count) 0 ≡ 41
        → then_some (ltb 0 r.count) (record { used = 1 + r.count + 1; mapped = true; units = r.value; glyphs = 1 }) ≡ told_map s
    code_one t = rw (map_some s p, ← count_is, t, e)

    pub code_odd : (get_or s (1 + r.count) 0 ≡ 41 → ⊥) → (get_or s (1 + r.count) 0 ≡ 58 → ⊥) → None ≡ told_map s
    code_odd o q = rw (map_some s p, ← count_is, ne_eqb (get_or s (1 + r.count) 0) 41 o, ne_eqb (get_or s (1 + r.count) 0) 58 q)

    module _ (t : get_or s (1 + r.count) 0 ≡ 58) (q : Digits) (f : q ≡ digits_from 0 (drop (1 + r.count + 1) s)) where
      pub code_two : get_or s (1 + r.count + 1 + q.count) 0 ≡ 41 → (ok : Bool) → ok ≡ (ltb 0 r.count && ltb 0 q.count)
          → then_some ok (record { used = 1 + r.count + 1 + q.count + 1; mapped = true; units = r.value; glyphs = q.value }) ≡ told_map s
      code_two l ok eo = rw (map_some s p, ← count_is, t, ← add_assoc 1 r.count 1, ← ap (λ (d : Digits). d.count) f, l, eo, f, e)

      pub code_open : (get_or s (1 + r.count + 1 + q.count) 0 ≡ 41 → ⊥) → None ≡ told_map s
      code_open l = rw (
        map_some s p,
        ← count_is,
        t,
        ← add_assoc 1 r.count 1,
        ← ap (λ (d : Digits). d.count) f,
        ne_eqb (get_or s (1 + r.count + 1 + q.count) 0) 41 l,
      )

-- ── map and index ──

pub no_map_front : (s : List ℕ) → None ≡ told_map s → None ≡ front_of s
unfolding front_of
no_map_front s e = rw (told_none (map_of s).ok (cut_map (map_of s)) e)

module _ (s : List ℕ) (m : MapPart) (em : Some m ≡ told_map s) (d : Digits) (ed : d ≡ digits_from 0 (drop m.used s)) where
  map_ok : (map_of s).ok ≡ true
  map_ok = (told_some (map_of s).ok (cut_map (map_of s)) m em).0

  map_is : cut_map (map_of s) ≡ m
  map_is = (told_some (map_of s).ok (cut_map (map_of s)) m em).1

  digits_are : d ≡ digits_from 0 (drop (map_of s).used s)
  digits_are = rw (← map_is) at ed

  front_test : front_ok (map_of s) (index_at s) ≡ (ltb 0 d.count || not m.mapped)
  front_test = rw (map_ok, ← map_is, digits_are)

  pub code_front : (ltb 0 d.count || not m.mapped) ≡ true
      → Some (record { map = m; used = m.used + d.count; index = then_some (ltb 0 d.count) d.value }) ≡ front_of s
  unfolding front_of
  code_front h = rw (front_test, h, ← map_is, digits_are)

  pub no_index : (ltb 0 d.count || not m.mapped) ≡ false → None ≡ front_of s
  unfolding front_of
  no_index h = rw (front_test, h)

-- ── a field ──

field_none : (t : List ℕ) → (head_of t ≡ 44 → ⊥) → field_of t ≡ not_given 0
unfolding field_of
field_none t h = rw (ne_eqb _ _ h)

field_some : (t : List ℕ) → head_of t ≡ 44 → field_of t ≡ field_with (get_or t 1 0) t
unfolding field_of
field_some t h = rw (eq-eqb _ _ h)

-- what the code tells of it
abbrev told_field : List ℕ → Option Field
told_field t = let f = field_of t in then_some f.ok (cut_field f)

module _ (t : List ℕ) where
  pub code_absent : (head_of t ≡ 44 → ⊥) → Some (record { used = 0; number = None }) ≡ told_field t
  code_absent h = rw (field_none t h)

  module _ (p : head_of t ≡ 44) where
    pub code_empty : ends is_break (drop 1 t) ≡ true → Some (record { used = 1; number = None }) ≡ told_field t
    code_empty h = rw (field_some t p, h)

    module _ (h : ends is_break (drop 1 t) ≡ false) (k : ℕ) (ek : k ≡ sign_length (head_of (drop 1 t))) where
      abbrev numeral : Numeral
      numeral = number_of (drop k (drop 1 t))

      field_is : field_of t ≡ given_by (head_of (drop 1 t)) (1 + k) numeral
      field_is = rw (field_some t p, h, ← head_drop t 1, ← ek, drop-drop)

      pub code_ill : None ≡ result_ok (formed numeral) → None ≡ told_field t
      code_ill e = rw (field_is, told_none numeral.ok (record { used = numeral.used; size = numeral.size }) (e ∙ formed_ok numeral))

      pub code_given : (n : Number) → Some n ≡ result_ok (formed numeral) → (b : Bool) → b ≡ eqb (head_of (drop 1 t)) 45
          → Some (record { used = 1 + k + n.used; number = Some (record { negative = b; size = n.size }) }) ≡ told_field t
      code_given n en b eb =
          let e = told_some numeral.ok (record { used = numeral.used; size = numeral.size }) n (en ∙ formed_ok numeral) in
          rw (field_is, e.0, eb, ap (λ (r : Number). r.used) e.1, ap (λ (r : Number). r.size) e.1)

-- where no number is given, nothing is negative, too large or rounded
record Fair (f : FieldPart) : Type 0 where
  negative : f.given ≡ false → f.negative ≡ false
  size : f.given ≡ false → f.size ≡ Some (record { count = 0; exact = true })

field_fair : (t : List ℕ) → Fair (field_of t)
unfolding field_of
field_fair t = go (eqb (head_of t) 44) (ends is_break (drop 1 t))
  where
    go : (a b : Bool) → Fair (cond a (cond b (not_given 1) (given_by (get_or t 1 0) (1 + sign_length (get_or t 1 0))
        (number_of (drop (1 + sign_length (get_or t 1 0)) t)))) (not_given 0))
    go false b = record { negative = λ e. refl; size = λ e. refl }
    go true true = record { negative = λ e. refl; size = λ e. refl }
    go true false = record { negative = λ e. cc; size = λ e. cc }

-- what the code makes of a number, told by the definitions' field
advance_told : (g n : Bool) (z : Option Thousandths) → (g ≡ false → z ≡ Some (record { count = 0; exact = true }))
    → advance_within (then_some g (record { negative = n; size = z })) ≡ then_some (is_some z) (advance_choice g z)
advance_told true n (Some v) h = refl
advance_told true n None h = refl
advance_told false n z h = rw (h refl)

offset_told : (g n : Bool) (z : Option Thousandths) → (g ≡ false → z ≡ Some (record { count = 0; exact = true })) → (g ≡ false → n ≡ false)
    → offset_within (then_some g (record { negative = n; size = z })) ≡ then_some (is_some z) (offset_by n z)
offset_told true n (Some v) h k = refl
offset_told true n None h k = refl
offset_told false n z h k = rw (h refl, k refl)

rounded_told : (g n : Bool) (z : Option Thousandths) → (g ≡ false → z ≡ Some (record { count = 0; exact = true }))
    → rounded_number (then_some g (record { negative = n; size = z })) ≡ rounded_by z
rounded_told true n z h = refl
rounded_told false n z h = rw (h refl)

minus_told : (g n : Bool) (z : Option Thousandths) → (g ≡ false → n ≡ false) → is_minus (then_some g (record { negative = n; size = z })) ≡ n
minus_told true n z h = refl
minus_told false n z h = sym (h refl)

-- ── the offsets ──

-- a field that was told, and one that is not well formed
field_ok : (t : List ℕ) (x : Field) → Some x ≡ told_field t → ((field_of t).ok ≡ true) × (cut_field (field_of t) ≡ x)
field_ok t x e = told_some (field_of t).ok (cut_field (field_of t)) x e

field_ill : (t : List ℕ) → None ≡ told_field t → (field_of t).ok ≡ false
field_ill t e = told_none (field_of t).ok (cut_field (field_of t)) e

module _ (t : List ℕ) where
  pub no_offsets : (head_of t ≡ 44 → ⊥) → Some (record { used = 0; u = Some (pos 0); v = Some (pos 0); rounded = 0 }) ≡ offsets_of t
  unfolding offsets_of
  no_offsets h = let e : field_of t ≡ not_given 0 = field_none t h in rw (e, e)

  pub ill_u : None ≡ told_field t → None ≡ offsets_of t
  unfolding offsets_of
  ill_u e = rw (field_ill t e)

  module _ (y : Field) (ey : Some y ≡ told_field t) where
    u_told : ((field_of t).ok ≡ true) × (cut_field (field_of t) ≡ y)
    u_told = field_ok t y ey

    behind_is : drop (field_of t).used t ≡ drop y.used t
    behind_is = rw (← u_told.1)

    pub ill_v : None ≡ told_field (drop y.used t) → None ≡ offsets_of t
    unfolding offsets_of
    ill_v e = rw (u_told.0, behind_is, field_ill (drop y.used t) e)

    pub code_offsets : (z : Field) → Some z ≡ told_field (drop y.used t) → (u v : Option ℤ) → u ≡ offset_within y.number
        → v ≡ offset_within z.number → (n : ℕ) → n ≡ rounded_number y.number + rounded_number z.number
        → Some (record { used = y.used + z.used; u = u; v = v; rounded = n }) ≡ offsets_of t
    unfolding offsets_of
    code_offsets z ez u v eu ev n en =
        let w = field_ok (drop y.used t) z ez in
        rw (
          eu,
          ev,
          en,
          ← ap (λ (r : Field). r.number) u_told.1,
          ← ap (λ (r : Field). r.used) w.1,
          ← ap (λ (r : Field). r.number) w.1,
          behind_is,
          u_told.0,
          w.0,
          ap (λ (r : Field). r.used) u_told.1,
        )

-- ── the parts ──

-- what the code tells of them
abbrev pub told_parts : List ℕ → Option Cut
told_parts s = let p = parts_of s in then_some (well_parted p s) (cut_parts p)

pub no_front : (s : List ℕ) → None ≡ front_of s → None ≡ told_parts s
unfolding front_of parts_of
no_front s e = rw (told_none (front_ok (map_of s) (index_at s)) (front_with (map_of s) (index_at s)) e)

module _ (s : List ℕ) (f : Front) (ef : Some f ≡ front_of s) where
  front_told : (front_ok (map_of s) (index_at s) ≡ true) × (front_with (map_of s) (index_at s) ≡ f)
  unfolding front_of
  front_told = told_some (front_ok (map_of s) (index_at s)) (front_with (map_of s) (index_at s)) f ef

  front_used : (map_of s).used + length (index_at s) ≡ f.used
  front_used = ap (λ (r : Front). r.used) front_told.1

  abbrev first : FieldPart
  first = field_of (drop f.used s)

  pub no_first : None ≡ told_field (drop f.used s) → None ≡ told_parts s
  unfolding parts_of
  no_first e = rw (front_told.0, front_used, field_ill (drop f.used s) e)

  module _ (x : Field) (ex : Some x ≡ told_field (drop f.used s)) where
    x_told : (first.ok ≡ true) × (cut_field first ≡ x)
    x_told = field_ok (drop f.used s) x ex

    x_used : first.used ≡ x.used
    x_used = ap (λ (r : Field). r.used) x_told.1

    x_minus : is_minus x.number ≡ first.negative
    x_minus = rw (← x_told.1) (minus_told first.given first.negative first.size (field_fair (drop f.used s)).negative)

    pub minus_first : is_minus x.number ≡ true → None ≡ told_parts s
    unfolding parts_of
    minus_first e = rw (front_told.0, front_used, x_told.0, sym x_minus ∙ e)

    module _ (n : is_minus x.number ≡ false) where
      abbrev second : FieldPart
      second = field_of (drop (f.used + x.used) s)

      abbrev third : FieldPart
      third = field_of (drop (f.used + x.used + second.used) s)

      offsets_are : offsets_of (drop x.used (drop f.used s)) ≡ then_some (second.ok && third.ok) (cut_offsets second third)
      unfolding offsets_of
      offsets_are = rw (drop-drop, drop-drop)

      pub ill_offsets : None ≡ offsets_of (drop x.used (drop f.used s)) → None ≡ told_parts s
      unfolding parts_of
      ill_offsets e =
          let i : (second.ok && third.ok) ≡ false = told_none (second.ok && third.ok) (cut_offsets second third) (e ∙ offsets_are) in
          rw (front_told.0, front_used, x_told.0, sym x_minus ∙ n, x_used, i)

      module _ (o : Offsets) (eo : Some o ≡ offsets_of (drop x.used (drop f.used s))) where
        o_told : ((second.ok && third.ok) ≡ true) × (cut_offsets second third ≡ o)
        o_told = told_some (second.ok && third.ok) (cut_offsets second third) o (eo ∙ offsets_are)

        pub code_parts : (e : Bool) → e ≡ ends is_semi (drop o.used (drop x.used (drop f.used s)))
            → then_some e (record { map = f.map; index = f.index; advance = x.number; offsets = o; used = f.used + x.used + o.used }) ≡ told_parts s
        unfolding parts_of
        code_parts e h =
            let w : e ≡ ends is_semi (drop (f.used + x.used + second.used + third.used) s) =
            rw (drop-drop, drop-drop, ← o_told.1, ← add_assoc f.used x.used (second.used + third.used), ← add_assoc (f.used + x.used) second.used third.used) at
            h in
            rw (
              ← ap (λ (r : Front). r.map) front_told.1,
              ← ap (λ (r : Front). r.index) front_told.1,
              ← ap (λ (r : Field). r.number) x_told.1,
              ← o_told.1,
              w,
              front_told.0,
              front_used,
              x_told.0,
              sym x_minus ∙ n,
              x_used,
              ← add_assoc (f.used + x.used) second.used third.used,
              o_told.0,
            )

-- ── the entry ──

-- the index, told by the definitions
index_cut : (ds : List ℕ) → index_within (cut_index ds) ≡ then_some (leb (value ds) max_index) (index_choice (ltb 0 (length ds)) (value ds))
unfolding value_from
index_cut [] = refl
index_cut (b ∷ ds) =
    rw (lt-ltb 0 (suc (length ds)) (omega arith))
    (cases (leb (value (b ∷ ds)) max_index)
    (λ e. let l : min (value (b ∷ ds)) cap ≡ value (b ∷ ds) = omega (arith, leb-true (value (b ∷ ds)) max_index e) in rw (l, e))
    (λ e. let l : max_index < min (value (b ∷ ds)) cap = omega (arith, leb-false (value (b ∷ ds)) max_index e) in
    rw (lt-leb (min (value (b ∷ ds)) cap) max_index l, e)))

-- the three numbers together
glyph_told : (i : Index) (a b c : Bool) (x : Advance) (u v : ℤ) (p : Cut) → advance_within p.advance ≡ then_some a x → p.offsets.u ≡ then_some b u
    → p.offsets.v ≡ then_some c v
    → glyph_within i p ≡ then_some (a && b && c) (record { index = i; advance = x; u = u; v = v })
glyph_told i a b c x u v p ex eu ev = rw (ex, eu, ev) (go a b c)
  where
    glyph : Advance → ℤ → ℤ → Glyph
    glyph x u v = record { index = i; advance = x; u = u; v = v }

    go : (a b c : Bool) → option_and_then (λ (x : Advance). option_and_then (λ (u : ℤ). option_map
        (λ (v : ℤ). glyph x u v) (then_some c v)) (then_some b u)) (then_some a x)
        ≡ then_some (a && b && c) (record { index = i; advance = x; u = u; v = v })
    go true true true = refl
    go true true false = refl
    go true false c = refl
    go false b c = refl

module _ (k : ℕ) (s : List ℕ) where
  scanned_is : scanned k s ≡ judged k (parts_of s) s
  unfolding scanned
  scanned_is = refl

  -- the answer of the definitions, told by the parts
  said : (well_parted (parts_of s) s ≡ true → (parts_of s).used ≤ length s)
      → entry_read (parts_of s).used (rounded_parts (parts_of s)) (judged k (parts_of s) s) ≡ entry_here k s
  said h = rw scanned_is at (bridge k s h)

  -- 7
  pub code_wrong : None ≡ told_parts s → Err (refusal C.IllFormedEntry k) ≡ entry_here k s
  code_wrong e =
      let w : well_parted (parts_of s) s ≡ false = told_none (well_parted (parts_of s) s) (cut_parts (parts_of s)) e in
      rw w at (said (λ h. clash (well_parted (parts_of s) s) h w))

  module _ (p : Cut) (ep : Some p ≡ told_parts s) (inside : p.used ≤ length s) where
    abbrev P : Parts
    P = parts_of s

    told : (well_parted P s ≡ true) × (cut_parts P ≡ p)
    told = told_some (well_parted P s) (cut_parts P) p ep

    used_is : P.used ≡ p.used
    used_is = ap (λ (r : Cut). r.used) told.1

    said_well : entry_read P.used (rounded_parts P) (judged k P s) ≡ entry_here k s
    said_well = said (λ h. rw used_is inside)

    index_is : index_within p.index ≡ then_some (leb (value P.digits) max_index) (index_choice (ltb 0 (length P.digits)) (value P.digits))
    index_is = rw (← told.1) (index_cut P.digits)

    -- 8
    pub code_index : None ≡ index_within p.index → Err (refusal C.IndexTooLarge k) ≡ entry_here k s
    code_index e =
        let l : leb (value P.digits) max_index ≡ false = told_none (leb (value P.digits) max_index)
        (index_choice (ltb 0 (length P.digits)) (value P.digits)) (e ∙ index_is) in
        rw (told.0, l) at said_well

    module _ (i : Index) (ei : Some i ≡ index_within p.index) where
      near : (leb (value P.digits) max_index ≡ true) × (index_choice (ltb 0 (length P.digits)) (value P.digits) ≡ i)
      near = told_some (leb (value P.digits) max_index) (index_choice (ltb 0 (length P.digits)) (value P.digits)) i (ei ∙ index_is)

      fair_x : Fair P.x
      unfolding parts_of
      fair_x = field_fair _

      fair_y : Fair P.y
      unfolding parts_of
      fair_y = field_fair _

      fair_z : Fair P.z
      unfolding parts_of
      fair_z = field_fair _

      abbrev fit : Bool
      fit = is_some P.x.size && is_some P.y.size && is_some P.z.size

      abbrev glyph : Glyph
      glyph = record { index = i; advance = advance_choice P.x.given P.x.size; u = offset_by P.y.negative P.y.size; v = offset_by P.z.negative P.z.size }

      glyph_is : glyph_within i p ≡ then_some fit glyph
      glyph_is =
          rw (← told.1)
          (glyph_told i (is_some P.x.size) (is_some P.y.size) (is_some P.z.size) (advance_choice P.x.given P.x.size)
          (offset_by P.y.negative P.y.size) (offset_by P.z.negative P.z.size) (cut_parts P)
          (advance_told P.x.given P.x.negative P.x.size fair_x.size)
          (offset_told P.y.given P.y.negative P.y.size fair_y.size fair_y.negative)
          (offset_told P.z.given P.z.negative P.z.size fair_z.size fair_z.negative))

      -- 9
      pub code_limits : None ≡ glyph_within i p → Err (refusal C.NumberTooLarge k) ≡ entry_here k s
      code_limits e = let l : fit ≡ false = told_none fit glyph (e ∙ glyph_is) in rw (told.0, near.0, l) at said_well

      rounded_is : rounded_number p.advance + p.offsets.rounded ≡ rounded_parts P
      rounded_is =
          rw (
            ← told.1,
            rounded_told P.x.given P.x.negative P.x.size fair_x.size,
            rounded_told P.y.given P.y.negative P.y.size fair_y.size,
            rounded_told P.z.given P.z.negative P.z.size fair_z.size,
            ← add_assoc (rounded_by P.x.size) (rounded_by P.y.size) (rounded_by P.z.size),
          )

      pub code_read : (g : Glyph) → Some g ≡ glyph_within i p → (n : ℕ) → n ≡ rounded_number p.advance + p.offsets.rounded
          → Ok (record { mapped = p.map.mapped; units = p.map.units; glyphs = p.map.glyphs; glyph = g; used = p.used; rounded = n }) ≡ entry_here k s
      code_read g e n en =
          let l = told_some fit glyph g (e ∙ glyph_is) in
          rw (en ∙ rounded_is, ← l.1, ← ap (λ (r : Cut). r.map) told.1, ← used_is, ← near.1) (rw (told.0, near.0, l.0) at said_well)

-- ── an index alone ──

-- a map's `(` is no digit
no_digit : (t : List ℕ) → head_of t ≡ 40 → length (lead t) ≡ 0
no_digit [] h = refl
no_digit (b ∷ t) h = rw h

no_comma : (t : List ℕ) → ends is_semi t ≡ true → head_of t ≡ 44 → ⊥
no_comma [] w h = omega (arith, h)
no_comma (b ∷ t) w h = omega (arith, h, eqb-true b 59 w)

-- the digits d are the whole entry
pub index_alone : (t : List ℕ) (d : Digits) → d ≡ digits_from 0 t → d.count ≤ length t → 0 < d.count → d.value ≤ max_index
    → ends is_semi (drop d.count t) ≡ true → IsIndex t d
index_alone t d ed bound some l w =
    let n : ℕ = d.count in
    let sum : n + 0 + 0 ≡ n = omega arith in
    let comma : head_of (drop n t) ≡ 44 → ⊥ = no_comma (drop n t) w in
    let m : Some (record { used = 0; mapped = false; units = 1; glyphs = 1 }) ≡ told_map t =
    code_none t (λ h. omega (arith, some, ap (λ (r : Digits). r.count) ed, no_digit t h)) in
    let f : Some (record {
      map = record { used = 0; mapped = false; units = 1; glyphs = 1 };
      used = n;
      index = then_some (ltb 0 n) d.value;
    }) ≡ front_of t = rw zero-add at (code_front t _ m d ed (rw (or-true (ltb 0 n)))) in
    let x : Some (record { used = 0; number = None }) ≡ told_field (drop n t) = code_absent (drop n t) comma in
    let o : Some (record { used = 0; u = Some (pos 0); v = Some (pos 0); rounded = 0 }) ≡ offsets_of (drop n t) = no_offsets (drop n t) comma in
    let p : Some (record {
      map = record { used = 0; mapped = false; units = 1; glyphs = 1 };
      index = then_some (ltb 0 n) d.value;
      advance = None;
      offsets = record { used = 0; u = Some (pos 0); v = Some (pos 0); rounded = 0 };
      used = n + 0 + 0;
    }) ≡ told_parts t = code_parts t _ f _ x refl _ o true (sym w) in (
      l,
      λ k. sym (rw sum at (code_read k t _ p (rw sum bound) (Named d.value) (rw (lt-ltb 0 n some, le-leb d.value max_index l)) _ refl 0 refl)),
    )

-- two flags put together
pub both_told : {i e r a b : Bool} → i ≡ a → e ≡ b → r ≡ (i && e) → r ≡ (a && b)
both_told p q h = rw (← p, ← q) h
