-- Escaping: the bytes that it leaves as they are, those of indices among them, as none of them is odd; and how many bytes it makes of a text, at most six a
-- unit.
-- Assumes nothing.
use Prim.Native.Nat.{ℕ, zero, suc, ◌+◌, ◌*◌, ◌-◌, ◌/◌, ◌%◌, ◌≤◌, ◌<◌}
use native.Mathlib.Omega.{arith}
use mathlib.Core.Path.{◌≡◌, refl, sym}
use mathlib.Core.Bool.{Bool, true, false, cond, not, ◌&&◌, ◌||◌}
use mathlib.Core.List.{List, [], ◌∷◌, ◌++◌, append-nil, append_assoc}
use borrow.Author.Tests.{not-true, le-leb, lt-leb, leb-true, leb-false, le-ltb, ltb-false, ne_eqb, eqb-true}
use lib.Dec.{leb, ltb, eqb}
use lib.IntN.{ℤ, pos, negsuc}
use lib.ListN.{length, get_or, length-append}
use Rattle.label.specs.Limits.{max_indices_bytes}
use Rattle.label.specs.Bytes.{ascii, is_digit, join, trim, decimal}
use Rattle.label.specs.Text.{is_high, is_low, braced}
use Rattle.label.specs.Run.{Run}
use Rattle.label.specs.Sound.{sound_run}
use Rattle.label.specs.Write.{utf8, paired, unit_bytes, units_bytes, text_of, fraction, value_bytes, advance_by, offset_by, map_bytes, index_bytes, entry_by, entries_by, indices_by, normal, indices_of}
use Rattle.label.specs.Calls.{asked_for}
use Rattle.label.specs.Requests.Attribute.{escape_byte, escape, as_asked}
use Rattle.label.specs.Statements.Demands.{RoomyFor}
use Rattle.label.specs.declared.Index.{Index}
use Rattle.label.specs.declared.Index.TheVariants.{Named, Font}
use Rattle.label.specs.declared.Advance.{Advance}
use Rattle.label.specs.declared.Advance.TheVariants.{Given, Own}
use Rattle.label.specs.declared.Glyph.{Glyph}
use Rattle.label.specs.declared.Cluster.{Cluster}
use Rattle.label.proofs.Basics.{and_l, and_r, or_l, or_r, clash, cases}
use Rattle.label.proofs.Text.{unit_short}
use Rattle.label.proofs.Splits.{none, all_none, none_append, none_trim, join_free}
use Rattle.label.proofs.Decimals.{all_decimal, digits_none}
use Rattle.label.proofs.Values.{normal_writer}
use Rattle.label.proofs.Sound.{sound_parts}
use Rattle.label.proofs.Sizes.{sound_short}

-- ── bytes as they are asked for ──

pub escape_append : (x y : List ℕ) → escape (x ++ y) ≡ escape x ++ escape y
unfolding escape
escape_append [] y = refl
escape_append (b ∷ x) y = rw (escape_append x y) (sym (append_assoc (escape_byte b) (escape x) (escape y)))

pub asked_append : (e : Bool) (x y : List ℕ) → as_asked e (x ++ y) ≡ as_asked e x ++ as_asked e y
asked_append true x y = escape_append x y
asked_append false x y = refl

pub asked_nil : (e : Bool) → as_asked e [] ≡ []
unfolding escape
asked_nil true = refl
asked_nil false = refl

-- ── bytes that stay ──

-- the six bytes that escaping replaces, and others: those below 40, and 60
unfoldable pub odd : ℕ → Bool
odd b = ltb b 40 || eqb b 60

odd_not : (b : ℕ) → 40 ≤ b → (b ≡ 60 → ⊥) → odd b ≡ false
unfolding odd
odd_not b h n = rw (le-ltb b 40 h, ne_eqb b 60 n)

byte_stays : (b : ℕ) → odd b ≡ false → escape_byte b ≡ b ∷ []
unfolding odd escape_byte
byte_stays b h =
    let l : 40 ≤ b = ltb-false b 40 (or_l (ltb b 40) (eqb b 60) h) in
    rw (
      ne_eqb b 38 (λ e. omega arith),
      or_r (ltb b 40) (eqb b 60) h,
      ne_eqb b 34 (λ e. omega arith),
      ne_eqb b 9 (λ e. omega arith),
      ne_eqb b 10 (λ e. omega arith),
      ne_eqb b 13 (λ e. omega arith),
    )

escape_stays : (s : List ℕ) → none odd s ≡ true → escape s ≡ s
unfolding escape
escape_stays [] h = refl
escape_stays (b ∷ s) h =
    rw (byte_stays b (not-true (odd b) (and_l (not (odd b)) (none odd s) h)), escape_stays s (and_r (not (odd b)) (none odd s) h))

pub asked_stays : (e : Bool) (s : List ℕ) → none odd s ≡ true → as_asked e s ≡ s
asked_stays true s h = escape_stays s h
asked_stays false s h = refl

-- ── the text ──

utf8_none : (c : ℕ) → 127 < c → none odd (utf8 c) ≡ true
unfolding utf8
utf8_none c h =
    rw (lt-leb c 127 h)
    (cases (leb c 2047)
    (λ a. rw (a, high (192 + c / 64) (omega arith), high (128 + c % 64) (omega arith)))
    (λ a. cases (leb c 65535)
    (λ b. rw (a, b, high (224 + c / 4096) (omega arith), high (128 + c / 64 % 64) (omega arith), high (128 + c % 64) (omega arith)))
    (λ b. rw (
      a,
      b,
      high (240 + c / 262144) (omega arith),
      high (128 + c / 4096 % 64) (omega arith),
      high (128 + c / 64 % 64) (omega arith),
      high (128 + c % 64) (omega arith),
    ))))
  where
    high : (b : ℕ) → 128 ≤ b → odd b ≡ false
    high b k = odd_not b (omega arith) (λ e. omega arith)

-- the bytes of a unit above U+007F
pub unit_none : (u v : ℕ) → 127 < u → none odd (unit_bytes u v) ≡ true
unfolding unit_bytes
unit_none u v h =
    cases (is_low u) (λ a. rw a)
    (λ a. cases (is_high u) (λ b. rw (a, b) (utf8_none (paired u v) (omega arith))) (λ b. rw (a, b) (utf8_none u h)))

-- and of one up to it
pub unit_ascii : (u v : ℕ) → u ≤ 127 → escape (unit_bytes u v) ≡ escape_byte u
unfolding unit_bytes utf8 escape
unit_ascii u v h = rw (lt-leb 56320 u (omega arith), lt-leb 55296 u (omega arith), le-leb u 127 h) (append-nil (escape_byte u))

-- a list by a test, at most six long either way
cond_most : (t : Bool) (x y : List ℕ) → length x ≤ 6 → length y ≤ 6 → length (cond t x y) ≤ 6
cond_most true x y p q = p
cond_most false x y p q = q

byte_most : (b : ℕ) → length (escape_byte b) ≤ 6
unfolding escape_byte ascii
byte_most b =
    cond_most (eqb b 38) _ _ (omega arith)
    (cond_most (eqb b 60) _ _ (omega arith)
    (cond_most (eqb b 34) _ _ (omega arith)
    (cond_most (eqb b 9) _ _ (omega arith)
    (cond_most (eqb b 10) _ _ (omega arith)
    (cond_most (eqb b 13) _ _ (omega arith) (omega arith))))))

unit_most : (u v : ℕ) → length (escape (unit_bytes u v)) ≤ 6
unit_most u v =
    cases (leb u 127)
    (λ a. rw (unit_ascii u v (leb-true u 127 a)) (byte_most u))
    (λ a. rw (escape_stays (unit_bytes u v) (unit_none u v (leb-false u 127 a))) (omega (arith, unit_short u v)))

units_most : (us : List ℕ) → length (escape (units_bytes us)) ≤ 6 * length us
unfolding units_bytes
units_most [] = unfold escape in omega arith
units_most (u ∷ us) =
    rw (escape_append (unit_bytes u (get_or us 0 0)) (units_bytes us), length-append) (omega (arith, unit_most u (get_or us 0 0), units_most us))

-- `{}` costs less than the bytes that `{` saves
text_most : (us : List ℕ) → length (escape (text_of us)) ≤ 6 * length us
unfolding text_of
text_most us = cases (braced us) (λ t. rw t (marked us t)) (λ t. rw t (units_most us))
  where
    marked : (us : List ℕ) → braced us ≡ true → length (escape (123 ∷ 125 ∷ units_bytes us)) ≤ 6 * length us
    marked [] t = clash false t refl
    marked (u ∷ us) t =
        let e : u ≡ 123 = eqb-true u 123 t in
        rw e (unfold escape escape_byte units_bytes unit_bytes utf8 in (omega (arith, units_most us)))

pub escaped_most : (r : Run) → sound_run r ≡ true → length (escape (text_of r.units)) ≤ 24576
escaped_most r h = omega (arith, text_most r.units, (sound_parts r h).few_units)

-- ── the indices ──

figure_not_odd : (d : ℕ) → d < 10 → odd (48 + d) ≡ false
figure_not_odd d h = odd_not (48 + d) (omega arith) (λ e. omega arith)

digit_not_odd : (b : ℕ) → is_digit b ≡ true → odd b ≡ false
digit_not_odd b h =
    let l = leb-true 48 b (and_l (leb 48 b) (leb b 57) h) in
    let g = leb-true b 57 (and_r (leb 48 b) (leb b 57) h) in
    odd_not b (omega arith) (λ e. omega arith)

decimal_none : (n : ℕ) → none odd (decimal n) ≡ true
decimal_none n = digits_none odd digit_not_odd (decimal n) (all_decimal n)

fraction_none : (f : ℕ) → f < 1000 → none odd (fraction f) ≡ true
unfolding fraction
fraction_none f h =
    cases (eqb (f % 100) 0)
    (λ a. rw (a, figure_not_odd (f / 100) (omega arith)))
    (λ a. cases (eqb (f % 10) 0)
    (λ b. rw (a, b, figure_not_odd (f / 100) (omega arith), figure_not_odd (f / 10 % 10) (omega arith)))
    (λ b. rw (a, b, figure_not_odd (f / 100) (omega arith), figure_not_odd (f / 10 % 10) (omega arith), figure_not_odd (f % 10) (omega arith))))

value_none : (n : ℕ) → none odd (value_bytes n) ≡ true
unfolding value_bytes
value_none n =
    cases (eqb (n % 1000) 0) (λ a. rw a (decimal_none (n / 1000)))
    (λ a. rw a (none_append odd (cond (eqb (n / 1000) 0) [] (decimal (n / 1000))) (46 ∷ fraction (n % 1000)) whole
    (unfold odd in (fraction_none (n % 1000) (omega arith)))))
  where
    whole : none odd (cond (eqb (n / 1000) 0) [] (decimal (n / 1000))) ≡ true
    whole = cases (eqb (n / 1000) 0) (λ b. rw b) (λ b. rw b (decimal_none (n / 1000)))

advance_none : (a : Advance) → none odd (advance_by value_bytes a) ≡ true
unfolding advance_by
advance_none Own = refl
advance_none (Given n) = value_none n

offset_none : (z : ℤ) → none odd (offset_by value_bytes z) ≡ true
unfolding offset_by
offset_none (pos n) = cases (eqb n 0) (λ a. rw a) (λ a. rw a (value_none n))
offset_none (negsuc n) = unfold odd in (value_none (suc n))

map_none : (a b : ℕ) → none odd (map_bytes a b) ≡ true
unfolding map_bytes
map_none a b =
    cases (leb a 1 && eqb b 1) (λ t. rw t)
    (λ t. rw t (unfold odd in (none_append odd (decimal a ++ cond (eqb b 1) [] (58 ∷ decimal b)) (41 ∷ [])
    (none_append odd (decimal a) (cond (eqb b 1) [] (58 ∷ decimal b)) (decimal_none a) behind) (unfold odd in refl))))
  where
    behind : none odd (cond (eqb b 1) [] (58 ∷ decimal b)) ≡ true
    behind = cases (eqb b 1) (λ t. rw t) (λ t. rw t (unfold odd in (decimal_none b)))

index_none : (a b : ℕ) (i : Index) → none odd (index_bytes a b i) ≡ true
unfolding index_bytes
index_none a b Font = refl
index_none a b (Named n) = none_append odd (map_bytes a b) (decimal n) (map_none a b) (decimal_none n)

-- parts joined, those empty at the end dropped
joined_none : (c : ℕ) (l : List (List ℕ)) → odd c ≡ false → all_none odd l ≡ true → none odd (join c (trim l)) ≡ true
joined_none c l h k = join_free odd c (trim l) h (none_trim odd l k)

entry_none : (a b : ℕ) (g : Glyph) → none odd (entry_by value_bytes a b g) ≡ true
unfolding entry_by
entry_none a b g =
    joined_none 44 (index_bytes a b g.index ∷ advance_by value_bytes g.advance ∷ offset_by value_bytes g.u ∷ offset_by value_bytes g.v ∷ [])
    (unfold odd in refl)
    (rw (index_none a b g.index, advance_none g.advance, offset_none g.u, offset_none g.v))

written_none : (lack : ℕ) (cs : List Cluster) (gs : List Glyph) → all_none odd (entries_by value_bytes lack cs gs) ≡ true
unfolding entries_by
written_none zero cs [] = refl
written_none (suc n) cs [] = refl
written_none (suc n) cs (g ∷ gs) = rw (entry_none 1 1 g) (written_none n cs gs)
written_none zero [] (g ∷ gs) = refl
written_none zero (c ∷ cs) (g ∷ gs) = rw (entry_none c.units c.glyphs g) (written_none (c.glyphs - 1) cs gs)

-- asked for or not, the indices are the same
pub asked_indices : (e : Bool) (cs : List Cluster) (gs : List Glyph) → as_asked e (indices_of cs gs) ≡ indices_of cs gs
asked_indices e cs gs =
    asked_stays e (indices_of cs gs) (unfold indices_by in (joined_none 59 (entries_by value_bytes 0 cs gs) (unfold odd in refl) (written_none 0 cs gs)))

pub indices_plain : (cs : List Cluster) (gs : List Glyph) → escape (indices_of cs gs) ≡ indices_of cs gs
indices_plain cs gs = asked_indices true cs gs

-- ── the calls ──

-- the outputs that hold every writing, escaped or not
pub asked_short : (e : Bool) (r : Run) → sound_run r ≡ true → RoomyFor (asked_for e (normal r)) (record { text = 24576; indices = max_indices_bytes })
asked_short true r h =
    record { for_text = escaped_most r h; for_indices = rw (indices_plain r.clusters r.glyphs) (sound_short normal_writer r h).for_indices }
asked_short false r h = record { for_text = omega (arith, (sound_short normal_writer r h).for_text); for_indices = (sound_short normal_writer r h).for_indices }
