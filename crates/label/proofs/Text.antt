-- The text that the writer makes is decoded to its units, unit by unit or pair by pair: where the UTF-8 of a character starts, it is read (`decode_start`).
-- Assumes nothing.
use Prim.Native.Nat.{ℕ, zero, suc, ◌+◌, ◌*◌, ◌-◌, ◌/◌, ◌%◌, ◌≤◌, ◌<◌}
use native.Mathlib.Omega.{arith}
use mathlib.Core.Path.{◌≡◌, refl, ◌∙◌, ap}
use mathlib.Core.Logic.{◌⊎◌, inl, inr, ⊎_elim}
use mathlib.Core.Bool.{Bool, true, false, not, ◌&&◌, ◌||◌}
use mathlib.Core.List.{List, [], ◌∷◌, ◌++◌}
use borrow.Author.Tests.{not-true, le-leb, lt-leb, leb-true, eqb-true}
use lib.Dec.{eqb, leb}
use lib.ListN.{length, get_or, drop, length-append}
use lib.Seq.{drop-append_seam}
use Rattle.label.specs.Outcome.{ok, ◌>>◌, need}
use Rattle.label.specs.Text.{within, table, row_fits, fitting, starts_char, more_bytes, following, scalar, xml_char, is_high, is_low, is_pair, units_of, braced, marked, unmarked}
use Rattle.label.specs.Steps.{decode}
use Rattle.label.specs.Sound.{proper_units}
use Rattle.label.specs.Write.{utf8, paired, unit_bytes, units_bytes, text_of}
use Rattle.label.specs.Statements.Encoding.{is_scalar}
use Rattle.label.proofs.Basics.{and_l, and_r, clash, cases, or_cases, within_is, within_lo, within_hi, above_range}
use Rattle.label.proofs.Steps.{decode_none, decode_char}
use Rattle.label.proofs.Cursors.{onto, decode_skip}
use Rattle.label.proofs.Utf8.{low_scalar, high_scalar, utf8_size, read_at}

-- ── characters ──

-- an XML character is no surrogate and at most U+10FFFF
pub xml_range : (c : ℕ) → xml_char c ≡ true → (c ≤ 55295) ⊎ ((57344 ≤ c) × (c ≤ 1114111))
unfolding xml_char
xml_range c h =
    ⊎_elim
    (λ h1. ⊎_elim
    (λ h2. ⊎_elim
    (λ h3. ⊎_elim
    (λ h4. ⊎_elim (λ k. inl (omega (arith, eqb-true c 9 k))) (λ k. inl (omega (arith, eqb-true c 10 k))) (or_cases (eqb c 9) (eqb c 10) h4))
    (λ k. inl (omega (arith, eqb-true c 13 k)))
    (or_cases (eqb c 9 || eqb c 10) (eqb c 13) h3))
    (λ k. inl (within_hi 32 55295 c k))
    (or_cases (eqb c 9 || eqb c 10 || eqb c 13) (within 32 55295 c) h2))
    (λ k. inr (omega (arith, within_lo 57344 65533 c k, within_hi 57344 65533 c k)))
    (or_cases (eqb c 9 || eqb c 10 || eqb c 13 || within 32 55295 c) (within 57344 65533 c) h1))
    (λ k. inr (omega (arith, within_lo 65536 1114111 c k, within_hi 65536 1114111 c k)))
    (or_cases (eqb c 9 || eqb c 10 || eqb c 13 || within 32 55295 c || within 57344 65533 c) (within 65536 1114111 c) h)

xml_scalar : (c : ℕ) → xml_char c ≡ true → is_scalar c ≡ true
xml_scalar c h = ⊎_elim (λ k. low_scalar c k) (λ k. high_scalar c k.0 k.1) (xml_range c h)

-- where the UTF-8 of a scalar value starts, it is read, and then what is behind it
pub decode_start : (c at : ℕ) (s rest : List ℕ) → is_scalar c ≡ true → s ≡ utf8 c ++ rest
    → decode 0 at s ≡ (need (xml_char c) 3 at >> onto (units_of c) (decode 0 (at + length (utf8 c)) rest))
decode_start c at [] rest k e = absurd (omega (arith, ap length e ∙ length-append (utf8 c) rest, (utf8_size c).0))
decode_start c at (b ∷ bs) rest k e =
    let r = read_at c b bs rest k e in
    let d : drop (following b bs) bs ≡ rest = ap (λ (t : List ℕ). drop (suc (following b bs)) t) e ∙ rw r.size (drop-append_seam (utf8 c) rest) in
    let n : suc at + following b bs ≡ at + length (utf8 c) = omega (arith, r.size) in
    decode_char at b bs ∙ rw (r.start, r.number, decode_skip (following b bs) (suc at) bs, d, n)

-- a character's UTF-8 is read as the character
decode_utf8 : (c at : ℕ) (rest us : List ℕ) → xml_char c ≡ true → ((at : ℕ) → decode 0 at rest ≡ ok us) → decode 0 at (utf8 c ++ rest) ≡ ok (units_of c ++ us)
decode_utf8 c at rest us x h = decode_start c at (utf8 c ++ rest) rest (xml_scalar c x) refl ∙ rw (x, h (at + length (utf8 c)))

-- ── units ──

-- a pair's character gives its halves back
pair_units : (u v : ℕ) → is_high u ≡ true → is_low v ≡ true → units_of (paired u v) ≡ u ∷ v ∷ []
unfolding units_of
pair_units u v h k =
    let a : 55296 ≤ u = within_lo 55296 56319 u h in
    let b : 56320 ≤ v = within_lo 56320 57343 v k in
    let d : v ≤ 57343 = within_hi 56320 57343 v k in
    let e : 55296 + (paired u v - 65536) / 1024 ≡ u = omega arith in
    let f : 56320 + (paired u v - 65536) % 1024 ≡ v = omega arith in
    rw (lt-leb (paired u v) 65535 (omega arith), e, f)

pair_xml : (u v : ℕ) → is_high u ≡ true → is_low v ≡ true → xml_char (paired u v) ≡ true
unfolding xml_char
pair_xml u v h k =
    let a : 55296 ≤ u = within_lo 55296 56319 u h in
    let a1 : u ≤ 56319 = within_hi 55296 56319 u h in
    let b : 56320 ≤ v = within_lo 56320 57343 v k in
    let d : v ≤ 57343 = within_hi 56320 57343 v k in
    let w : within 65536 1114111 (paired u v) ≡ true = within_is 65536 1114111 (paired u v) (omega arith) (omega arith) in
    rw w (or-true (eqb (paired u v) 9 || eqb (paired u v) 10 || eqb (paired u v) 13 || within 32 55295 (paired u v) || within 57344 65533 (paired u v)))
  where
    or-true : (a : Bool) → (a || true) ≡ true
    or-true true = refl
    or-true false = refl

-- an XML character is no high half and no low half; above U+FFFF its two units are one of each
pub xml_not_high : (u : ℕ) → xml_char u ≡ true → is_high u ≡ false
xml_not_high u h = ⊎_elim (λ k. rw (lt-leb 55296 u (omega arith))) (λ k. above_range 55296 56319 u (omega (arith, k.0))) (xml_range u h)

pub xml_halves : (c : ℕ) → xml_char c ≡ true → 65535 < c → (is_high (55296 + (c - 65536) / 1024) ≡ true) × (is_low (56320 + (c - 65536) % 1024) ≡ true)
xml_halves c x g =
    let m : c ≤ 1114111 = ⊎_elim (λ k. omega arith) (λ k. k.1) (xml_range c x) in (
      within_is 55296 56319 (55296 + (c - 65536) / 1024) (omega arith) (omega arith),
      within_is 56320 57343 (56320 + (c - 65536) % 1024) (omega arith) (omega arith),
    )

xml_not_low : (u : ℕ) → xml_char u ≡ true → is_low u ≡ false
xml_not_low u h =
    ⊎_elim
    (λ k. rw (lt-leb 56320 u (omega arith)))
    (λ k. rw (lt-leb u 57343 (omega (arith, k.0))) (and_no (leb 56320 u)))
    (xml_range u h)
  where
    and_no : (a : Bool) → (a && false) ≡ false
    and_no true = refl
    and_no false = refl

high_not_low : (u : ℕ) → is_high u ≡ true → is_low u ≡ false
high_not_low u h = rw (lt-leb 56320 u (omega (arith, within_hi 55296 56319 u h)))

bytes_cons : (u : ℕ) (us : List ℕ) → units_bytes (u ∷ us) ≡ unit_bytes u (get_or us 0 0) ++ units_bytes us
unfolding units_bytes
bytes_cons u us = refl

bytes_low : (u v : ℕ) → is_low u ≡ true → unit_bytes u v ≡ []
unfolding unit_bytes
bytes_low u v h = rw h

bytes_high : (u v : ℕ) → is_high u ≡ true → unit_bytes u v ≡ utf8 (paired u v)
unfolding unit_bytes
bytes_high u v h = rw (high_not_low u h, h)

bytes_one : (u v : ℕ) → is_high u ≡ false → xml_char u ≡ true → unit_bytes u v ≡ utf8 u
unfolding unit_bytes
bytes_one u v h x = rw (xml_not_low u x, h)

one_unit : (u : ℕ) → u ≤ 65535 → units_of u ≡ u ∷ []
unfolding units_of
one_unit u h = rw (le-leb u 65535 h)

-- what `proper_units` says of a unit outside a pair, and of a pair
proper_false : (u : ℕ) (us : List ℕ) → proper_units false (u ∷ us) ≡ true
    → ((is_high u || (leb u 65535 && xml_char u)) ≡ true) × (proper_units (is_high u) us ≡ true)
unfolding proper_units
proper_false u us h = (
  and_l (is_high u || (leb u 65535 && xml_char u)) (proper_units (is_high u) us) h,
  and_r (is_high u || (leb u 65535 && xml_char u)) (proper_units (is_high u) us) h,
)

proper_true : (v : ℕ) (us : List ℕ) → proper_units true (v ∷ us) ≡ true → (is_low v ≡ true) × (proper_units false us ≡ true)
unfolding proper_units
proper_true v us h = (and_l (is_low v) (proper_units false us) h, and_r (is_low v) (proper_units false us) h)

proper_end : proper_units true [] ≡ false
unfolding proper_units
proper_end = refl

abbrev DecodesBack : List ℕ → Type 0
DecodesBack us = (at : ℕ) → decode 0 at (units_bytes us) ≡ ok us

single_back : (u : ℕ) (us : List ℕ) (at : ℕ) → is_high u ≡ false → (leb u 65535 && xml_char u) ≡ true → DecodesBack us
    → decode 0 at (units_bytes (u ∷ us)) ≡ ok (u ∷ us)
single_back u us at n h ih =
    let x : xml_char u ≡ true = and_r (leb u 65535) (xml_char u) h in
    rw (bytes_cons u us, bytes_one u (get_or us 0 0) n x)
    (decode_utf8 u at (units_bytes us) us x ih ∙ ap (λ (l : List ℕ). ok (l ++ us)) (one_unit u (leb-true u 65535 (and_l (leb u 65535) (xml_char u) h))))

pair_back : (u v : ℕ) (us : List ℕ) (at : ℕ) → is_high u ≡ true → is_low v ≡ true → DecodesBack us → decode 0 at (units_bytes (u ∷ v ∷ us)) ≡ ok (u ∷ v ∷ us)
pair_back u v us at hi lo ih =
    rw (bytes_cons u (v ∷ us), bytes_cons v us, bytes_low v (get_or us 0 0) lo, bytes_high u v hi)
    (decode_utf8 (paired u v) at (units_bytes us) us (pair_xml u v hi lo) ih ∙ ap (λ (l : List ℕ). ok (l ++ us)) (pair_units u v hi lo))

-- proper units come back from their bytes
pub decode_back : (us : List ℕ) → proper_units false us ≡ true → (at : ℕ) → decode 0 at (units_bytes us) ≡ ok us
decode_back [] h at = unfold units_bytes in (decode_none 0 at)
decode_back (u ∷ []) h at =
    let (a, b) = proper_false u [] h in
    cases (is_high u)
    (λ t. clash (proper_units true []) (rw t at b) proper_end)
    (λ t. single_back u [] at t (rw t at a) (λ k. unfold units_bytes in (decode_none 0 k)))
decode_back (u ∷ v ∷ us) h at =
    let (a, b) = proper_false u (v ∷ us) h in
    cases (is_high u)
    (λ t. let (c, d) = proper_true v us (rw t at b) in
    pair_back u v us at t c (decode_back us d))
    (λ t. single_back u (v ∷ us) at t (rw t at a) (decode_back (v ∷ us) (rw t at b)))

-- ── the text ──

pub record TextBack (us : List ℕ) : Type 0 where
  pub all : List ℕ
  pub decoded : decode 0 0 (text_of us) ≡ ok all
  pub fine : (not (braced all) || marked all) ≡ true
  pub units : unmarked all ≡ us
  pub short : length us ≤ 4096 → length (text_of us) ≤ 16384

pub unit_short : (u v : ℕ) → length (unit_bytes u v) ≤ 4
unfolding unit_bytes
unit_short u v =
    cases (is_low u) (λ t. rw t (omega arith))
    (λ t. cases (is_high u) (λ t1. rw (t, t1) (utf8_size (paired u v)).1) (λ t1. rw (t, t1) (utf8_size u).1))

units_short : (us : List ℕ) → length (units_bytes us) ≤ 4 * length us
units_short [] = unfold units_bytes in omega arith
units_short (u ∷ us) = rw (bytes_cons u us, length-append) (omega (arith, units_short us, unit_short u (get_or us 0 0)))

brace_first : (us : List ℕ) → length (units_bytes (123 ∷ us)) ≡ suc (length (units_bytes us))
unfolding units_bytes unit_bytes utf8
brace_first us = refl

braced_short : (us : List ℕ) → braced us ≡ true → length us ≤ 4096 → length (units_bytes us) ≤ 16382
braced_short [] h k = clash false h refl
braced_short (u ∷ us) h k =
    let e : u ≡ 123 = eqb-true u 123 h in
    rw e (omega (arith, brace_first us, units_short us))

braced_decoded : (us : List ℕ) → decode 0 2 (units_bytes us) ≡ ok us → decode 0 0 (123 ∷ 125 ∷ units_bytes us) ≡ ok (123 ∷ 125 ∷ us)
unfolding table row_fits fitting starts_char more_bytes following scalar xml_char units_of
braced_decoded us h = decode_char 0 123 (125 ∷ units_bytes us) ∙ rw (decode_char 1 125 (units_bytes us), h)

pub text_back : (us : List ℕ) → proper_units false us ≡ true → TextBack us
unfolding text_of
text_back us p =
    cases (braced us)
    (λ t. record {
      all = 123 ∷ 125 ∷ us;
      decoded = rw t (braced_decoded us (decode_back us p 2));
      fine = refl;
      units = refl;
      short = λ k. rw t (omega (arith, braced_short us t k));
    })
    (λ t. record {
      all = us;
      decoded = rw t (decode_back us p 0);
      fine = rw t;
      units = rw t;
      short = λ k. rw t (omega (arith, units_short us));
    })

-- the first unit is no low half
pub proper_first : (us : List ℕ) → proper_units false us ≡ true → not (is_low (get_or us 0 0)) ≡ true
proper_first [] h = refl
proper_first (u ∷ us) h =
    let (a, b) = proper_false u us h in
    ⊎_elim
    (λ k. rw (high_not_low u k))
    (λ k. rw (xml_not_low u (and_r (leb u 65535) (xml_char u) k)))
    (or_cases (is_high u) (leb u 65535 && xml_char u) a)

-- units behind whole pairs are proper too
pub proper_behind : (us : List ℕ) (a : ℕ) → proper_units false us ≡ true → not (is_low (get_or us a 0)) ≡ true → proper_units false (drop a us) ≡ true
proper_behind us zero h w = h
proper_behind [] (suc a) h w = h
proper_behind (u ∷ []) (suc zero) h w = unfold proper_units in refl
proper_behind (u ∷ []) (suc (suc a)) h w = unfold proper_units in refl
proper_behind (u ∷ v ∷ us) (suc zero) h w =
    let p : proper_units (is_high u) (v ∷ us) ≡ true = (proper_false u (v ∷ us) h).1 in
    cases (is_high u) (λ t. clash (is_low v) (proper_true v us (rw t at p)).0 (not-true (is_low v) w)) (λ t. rw t at p)
proper_behind (u ∷ v ∷ us) (suc (suc a)) h w =
    let p : proper_units (is_high u) (v ∷ us) ≡ true = (proper_false u (v ∷ us) h).1 in
    cases (is_high u) (λ t. proper_behind us a (proper_true v us (rw t at p)).1 w) (λ t. proper_behind (v ∷ us) (suc a) (rw t at p) w)

-- behind a pair, and behind a unit that begins none, no low half follows
pub pair_whole : (us : List ℕ) → proper_units false us ≡ true → is_pair us ≡ true → not (is_low (get_or us 2 0)) ≡ true
pair_whole [] h p = clash false p refl
pair_whole (u ∷ []) h p = clash false (and_r (is_high u) false p) refl
pair_whole (u ∷ v ∷ us) h p =
    let q : proper_units true (v ∷ us) ≡ true = rw (and_l (is_high u) (is_low v) p) at (proper_false u (v ∷ us) h).1 in
    proper_first us (proper_true v us q).1

pub plain_whole : (us : List ℕ) → proper_units false us ≡ true → is_pair us ≡ false → not (is_low (get_or us 1 0)) ≡ true
plain_whole [] h p = refl
plain_whole (u ∷ []) h p = refl
plain_whole (u ∷ v ∷ us) h p =
    let q : proper_units (is_high u) (v ∷ us) ≡ true = (proper_false u (v ∷ us) h).1 in
    cases (is_high u)
    (λ t. let l : is_low v ≡ true = (proper_true v us (rw t at q)).0 in clash (is_high u && is_low v) (rw (t, l)) p)
    (λ t. proper_first (v ∷ us) (rw t at q))
