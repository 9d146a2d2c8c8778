-- Laws of a text's run: `{` and `}` are one byte and one unit each, and no other character is either; so `{}` may be looked for among the bytes.
-- Assumes nothing.
use Rattle.label.proofs.Steps.{decode_char, decode_none, four_five, text_steps}
use Prim.Native.Nat.{ℕ, suc, ◌-◌, ◌≤◌, ◌<◌}
use native.Mathlib.Omega.{arith}
use mathlib.Core.Path.{◌≡◌, refl, sym, ◌∙◌, ap, subst}
use mathlib.Core.Bool.{true, false, false≢true}
use mathlib.Core.List.{List, [], ◌∷◌, ◌++◌}
use borrow.Author.Tests.{ne_eqb, eqb-true, le-leb, lt-leb, leb-true, leb-false}
use lib.Dec.{eqb, leb}
use lib.ListN.{length, get_or, drop, length-drop}
use Rattle.label.specs.Limits.{max_units}
use Rattle.label.specs.Outcome.{Outcome, ok, no, ◌>>=◌, ◌>>◌, need}
use Rattle.label.specs.Text.{table, starts_char, following, scalar, code_point, xml_char, units_of, braced, marked}
use Rattle.label.specs.Steps.{decode, text_units}
use Rattle.label.specs.Cause.{cause_number}
use Rattle.label.proofs.Basics.{and_l, and_r, cases, bind_ok, need_ok}
use Rattle.label.proofs.Utf8.{laws, scalar_of, read_at, utf8_one}
use Rattle.label.proofs.Run.{ok_path}
use Rattle.utf8.proofs.Rows.{starts_one}
use Rattle.std.specs.Prelude.{nat_eq}
use Rattle.std.specs.List.{starts_with}
use Rattle.std.proofs.lemmas.Grind.{common_steps}
use Rattle.text.specs.Texts.{text_count, units_start, start_read}
use Rattle.text.specs.Units.{units_from, well_formed}
use Rattle.text.proofs.Units.{is_formed, units_are}
use Rattle.label.specs.declared.Refusal.{Refusal}

-- ── a character's number and its first byte ──

-- a character of more than one byte is above those of one
above : (b : ℕ) (bs : List ℕ) → starts_char b bs ≡ true → 127 < b → 127 < code_point b bs
unfolding starts_char
above b bs h l =
    let (c, rest, k, e) = scalar_of table laws (b ∷ bs) h in
    rw (read_at c b bs rest k e).number
    (cases (leb c 127)
    (λ t. let f : b ∷ bs ≡ c ∷ rest = e ∙ ap (λ (u : List ℕ). u ++ rest) (utf8_one c (leb-true c 127 t)) in
    let g : b ≡ c = cc in
    omega arith)
    (λ t. leb-false c 127 t))

-- ── `{` and `}` ──

-- the first character of a text that has no fault
record First (at b : ℕ) (bs all : List ℕ) : Type 0 where
  start : starts_char b bs ≡ true
  others : List ℕ
  next : decode (following b bs) (suc at) bs ≡ ok others
  is : all ≡ units_of (code_point b bs) ++ others

first : (at b : ℕ) (bs all : List ℕ) → decode 0 at (b ∷ bs) ≡ ok all → First at b bs all
first at b bs all h =
    let (t2, h2) = need_ok (starts_char b bs) 2 at _ all (sym (decode_char at b bs) ∙ h) in
    let (t3, h3) = need_ok (xml_char (code_point b bs)) 3 at _ all h2 in
    let (vs, d, e) = bind_ok (decode (following b bs) (suc at) bs) _ all h3 in
    record { start = t2; others = vs; next = d; is = sym (ok_path _ all e) }

-- a byte below 128 is one unit
record One (at b : ℕ) (bs all : List ℕ) : Type 0 where
  others : List ℕ
  next : decode 0 (suc at) bs ≡ ok others
  is : all ≡ b ∷ others

one : (at b : ℕ) (bs all : List ℕ) → b ≤ 127 → decode 0 at (b ∷ bs) ≡ ok all → One at b bs all
unfolding scalar units_of
one at b bs all l h =
    let n = (starts_one b bs l).1 in
    let x = first at b bs all h in
    record {
      others = x.others;
      next = rw n at x.next;
      is = x.is ∙ rw (n, le-leb b 0xffff (omega arith));
    }

-- any other character's first unit is no such byte
units_above : (c : ℕ) (us : List ℕ) → 127 < c → 127 < get_or (units_of c ++ us) 0 0
unfolding units_of
units_above c us h = cases (leb c 65535) (λ t. rw t h) (λ t. rw t (omega arith))

far : (at b : ℕ) (bs all : List ℕ) → 127 < b → decode 0 at (b ∷ bs) ≡ ok all → 127 < get_or all 0 0
far at b bs all l h =
    let x = first at b bs all h in
    subst (λ (us : List ℕ). 127 < get_or us 0 0) (sym x.is) (units_above (code_point b bs) x.others (above b bs x.start l))

-- so a character below 128 is the first unit where it is the first byte, and only there
first_unit : (k at : ℕ) (t all : List ℕ) → k ≤ 127 → decode 0 at t ≡ ok all → eqb (get_or all 0 0) k ≡ eqb (get_or t 0 0) k
first_unit k at [] all l h = rw (← ok_path [] all (sym (decode_none 0 at) ∙ h))
first_unit k at (b ∷ bs) all l h =
    cases (leb b 127)
    (λ p. rw (one at b bs all (leb-true b 127 p) h).is)
    (λ p. let f = far at b bs all (leb-false b 127 p) h in
    let g = leb-false b 127 p in
    ne_eqb (get_or all 0 0) k (λ e. omega arith) ∙ sym (ne_eqb b k (λ e. omega arith)))

braces : (t all : List ℕ) → decode 0 0 t ≡ ok all → braced all ≡ braced t
braces t all h = first_unit 123 0 t all (omega arith) h

-- so the units begin with `{}` where the bytes do, and only there
pub marks : (t all : List ℕ) → decode 0 0 t ≡ ok all → marked all ≡ marked t
marks [] all h = rw (← ok_path [] all (sym (decode_none 0 0) ∙ h))
marks (b ∷ bs) all h =
    cases (eqb b 123)
    (λ p. let q = eqb-true b 123 p in
    let x = one 0 b bs all (omega arith) h in
    rw (x.is, p) (first_unit 125 1 bs x.others (omega arith) x.next))
    (λ p. rw (braces (b ∷ bs) all h, p))

-- ── the units of the run stand behind `{}` ──

from_marked : (t all : List ℕ) → marked t ≡ true → decode 0 0 t ≡ ok all → decode 0 2 (drop 2 t) ≡ ok (drop 2 all)
from_marked [] all m h = absurd (false≢true m)
from_marked (b ∷ []) all m h = absurd (false≢true (and_r (eqb b 123) false m))
from_marked (b ∷ d ∷ bs) all m h =
    let p = eqb-true b 123 (and_l (eqb b 123) (eqb d 125) m) in
    let q = eqb-true d 125 (and_r (eqb b 123) (eqb d 125) m) in
    let x = one 0 b (d ∷ bs) all (omega arith) h in
    let y = one 1 d bs x.others (omega arith) x.next in
    y.next ∙ ap ok (sym (ap (drop 2) (x.is ∙ ap (λ (us : List ℕ). b ∷ us) y.is)))

-- ── the code's tests of the first bytes ──

pub starts_braced : (t : List ℕ) → starts_with nat_eq t (123 ∷ []) ≡ braced t
starts_braced [] = refl
starts_braced (b ∷ bs) = grind (arith, common_steps)

pub starts_marked : (t : List ℕ) → starts_with nat_eq t (123 ∷ 125 ∷ []) ≡ marked t
starts_marked [] = refl
starts_marked (b ∷ []) = grind (arith, common_steps)
starts_marked (b ∷ d ∷ bs) = grind (arith, common_steps)

-- ── the survey ──

-- a refusal as what a reading comes to
abbrev refused : {A : Type 0} → Refusal → Outcome A
refused r = no (cause_number r.cause) r.place

-- 2 or 3
pub survey_refused : (t : List ℕ) (r : Refusal) → text_count (decode 0 0 t) ≡ no (cause_number r.cause) r.place
    → text_units t ≡ no (cause_number r.cause) r.place
survey_refused t r h = text_steps t ∙ go (decode 0 0 t) h
  where
    go : (o : Outcome (List ℕ)) → text_count o ≡ no (cause_number r.cause) r.place → (o >>= (λ all. four_five all)) ≡ refused r
    go (ok us) e = absurd (cc)
    go (no k q) e = cc

-- the units of a text that has no such refusal
record Found (t : List ℕ) (n : ℕ) : Type 0 where
  all : List ℕ
  decoded : decode 0 0 t ≡ ok all
  count : length all ≡ n

found : (t : List ℕ) (n : ℕ) → text_count (decode 0 0 t) ≡ ok n → Found t n
found t n h = go (decode 0 0 t) refl h
  where
    go : (o : Outcome (List ℕ)) → decode 0 0 t ≡ o → text_count o ≡ ok n → Found t n
    go (ok us) d e = record { all = us; decoded = d; count = (cc) }
    go (no k p) d e = absurd (cc)

-- its run starts at byte and unit number `at`
record Starts (t all : List ℕ) (at : ℕ) : Type 0 where
  start : units_start t ≡ at
  fits : at ≤ length all
  reads : decode 0 at (drop at t) ≡ ok (drop at all)
  checks : text_units t ≡ (need (leb (length (drop at all)) max_units) 5 0 >> ok (drop at all))

starts_at : (t all : List ℕ) (at : ℕ) → decode 0 0 t ≡ ok all → start_read t ≡ ok at → Starts t all at
unfolding units_start start_read
starts_at t all at d h =
    let e = marks t all d in
    cases (marked t)
    (λ m. let i : 2 ≡ at = ok_is (rw m at h) in
    subst (λ (k : ℕ). Starts t all k) i
    (record {
      start = rw m;
      fits = two all (e ∙ m);
      reads = from_marked t all m d;
      checks = rw (text_steps t, d, e ∙ m, and_l (braced all) _ (e ∙ m));
    }))
    (λ m. cases (braced t)
    (λ b. absurd (let h' = rw (m, b) at h in cc))
    (λ b. let i : 0 ≡ at = ok_is (rw (m, b) at h) in
    subst (λ (k : ℕ). Starts t all k) i (record { start = rw m; fits = omega arith; reads = d; checks = rw (text_steps t, d, e ∙ m, braces t all d ∙ b) })))
  where
    ok_is : {k : ℕ} → ok k ≡ ok at → k ≡ at
    ok_is p = cc

    two : (us : List ℕ) → marked us ≡ true → 2 ≤ length us
    two [] m = absurd (false≢true m)
    two (a ∷ []) m = absurd (false≢true (and_r (eqb a 123) false m))
    two (a ∷ b ∷ us) m = omega arith

-- 4
pub survey_braced : (t : List ℕ) (n : ℕ) (r : Refusal) → text_count (decode 0 0 t) ≡ ok n → start_read t ≡ no (cause_number r.cause) r.place
    → text_units t ≡ no (cause_number r.cause) r.place
unfolding start_read
survey_braced t n r c h =
    let x = found t n c in
    let e = marks t x.all x.decoded in
    cases (marked t)
    (λ m. absurd (let h' = rw m at h in cc))
    (λ m. cases (braced t)
    (λ b. text_steps t ∙ rw (x.decoded, e ∙ m, braces t x.all x.decoded ∙ b) (no_is (rw (m, b) at h)))
    (λ b. absurd (let h' = rw (m, b) at h in cc)))
  where
    no_is : ◌≡◌ {A = Outcome ℕ} (no 4 0) (refused r) → ◌≡◌ {A = Outcome (List ℕ)} (no 4 0) (refused r)
    no_is p = cc

-- its run, in n units of the text from `at` on
module _ (t : List ℕ) (n at : ℕ) (c : text_count (decode 0 0 t) ≡ ok n) (s : start_read t ≡ ok at) where
  run : (all : List ℕ) × (length all ≡ n) × Starts t all at
  run = let x = found t n c in (x.all, x.count, starts_at t x.all at x.decoded s)

  pub run_formed : well_formed t at ≡ true
  run_formed = let (all, e, x) = run in is_formed t (drop at all) at x.reads

  pub run_count : length (units_from t at) ≡ n - at
  run_count = let (all, e, x) = run in ap length (units_are t (drop at all) at x.reads) ∙ length-drop at all ∙ rw e

  pub run_fits : at ≤ n
  run_fits = let (all, e, x) = run in omega (arith, x.fits)

  pub run_start : units_start t ≡ at
  run_start = let (all, e, x) = run in x.start

  -- 5
  pub run_many : max_units < n - at → text_units t ≡ no 5 0
  run_many l = let (all, e, x) = run in x.checks ∙ rw (lt-leb (length (drop at all)) max_units (omega (arith, length-drop at all)))

  pub run_read : n - at ≤ max_units → text_units t ≡ ok (units_from t at)
  run_read l =
      let (all, e, x) = run in
      x.checks ∙ rw (le-leb (length (drop at all)) max_units (omega (arith, length-drop at all)), units_are t (drop at all) at x.reads)

-- what `start_of` and `survey_text` are proved by
pub ruleset starts = (starts_braced, starts_marked)

pub ruleset surveys = (survey_refused, survey_braced, run_formed, run_count, run_start, run_many, run_read, run_fits)
