-- Raw attribute values: resolving restores what escaping made, byte by byte, from any place on; what resolving comes to at a place; decimal references; how
-- long the result is.
-- Assumes nothing.
use Prim.Native.Nat.{ℕ, zero, suc, ◌+◌, ◌*◌, ◌-◌, ◌≤◌, ◌<◌}
use native.Mathlib.Omega.{arith}
use native.Mathlib.Nat.{add-zero, add-suc, suc-add}
use mathlib.Core.Path.{◌≡◌, refl, sym, ap, ◌∙◌}
use mathlib.Core.Bool.{true, false, cond, not, ◌&&◌, ◌||◌, and-false}
use mathlib.Core.List.{List, [], ◌∷◌, ◌++◌}
use borrow.Author.Tests.{eqb-true, lt-ltb, le-ltb}
use lib.Dec.{eqb, ltb}
use lib.ListN.{length, get_or, drop, length-append, drop_of_length-le}
use lib.Seq.{drop-cons, drop-drop}
use Rattle.label.specs.Outcome.{ok, no, verdict}
use Rattle.label.specs.Bytes.{ascii, empty, cut, is_digit, all_digits, digits, value_from, value, each, pieces}
use Rattle.label.specs.Text.{within, xml_char}
use Rattle.label.specs.Write.{utf8}
use Rattle.label.specs.Requests.Attribute.{same_bytes, predefined, digit_value, all_of, value_behind, numbered, referred, body, is_closed, is_reference, is_good, spaced, gives, further, escape_byte, escape}
use Rattle.label.proofs.Basics.{and_l, and_r, clash, cases, need_ok, bind_ok, within_lo, within_hi}
use Rattle.label.proofs.Steps.{resolve_none, resolve_inside, resolve_first}
use Rattle.label.proofs.Utf8.{utf8_size}
use Rattle.label.proofs.Run.{ok_path}
use Rattle.label.proofs.Cursors.{onto}
use Rattle.label.specs.Steps.{resolve_from}

-- ── what was escaped is restored ──

-- the place behind w, which stands at `at`
abbrev past : List ℕ → ℕ → ℕ
past [] at = at
past (b ∷ w) at = past w (suc at)

-- w, in front of anything, is resolved to the byte b
abbrev Restores : List ℕ → ℕ → Type 0
Restores w b = (at : ℕ) (x : List ℕ) → resolve_from 0 at (w ++ x) ≡ onto (b ∷ []) (resolve_from 0 (past w at) x)

names : Restores (ascii "&amp;") 38 × Restores (ascii "&lt;") 60 × Restores (ascii "&quot;") 34
unfolding resolve_from each pieces verdict is_good is_reference body is_closed further gives referred predefined same_bytes cut ascii xml_char utf8
names = (
  λ at x. resolve_first at 38 (ascii "amp;" ++ x),
  λ at x. resolve_first at 38 (ascii "lt;" ++ x),
  λ at x. resolve_first at 38 (ascii "quot;" ++ x),
)

numbers : Restores (ascii "&#9;") 9 × Restores (ascii "&#10;") 10 × Restores (ascii "&#13;") 13
unfolding resolve_from each pieces verdict is_good is_reference body is_closed further gives referred numbered all_of digit_value value_behind cut ascii
    xml_char utf8
numbers = (
  λ at x. resolve_first at 38 (ascii "#9;" ++ x),
  λ at x. resolve_first at 38 (ascii "#10;" ++ x),
  λ at x. resolve_first at 38 (ascii "#13;" ++ x),
)

-- a byte that is not escaped stands for itself
plain : (b : ℕ) → eqb b 38 ≡ false → eqb b 60 ≡ false → eqb b 9 ≡ false → eqb b 10 ≡ false → eqb b 13 ≡ false → Restores (b ∷ []) b
unfolding is_good further gives spaced
plain b a l t n r at x = resolve_first at b x ∙ rw (a, l, t, n, r) refl

byte_restored : (b : ℕ) → Restores (escape_byte b) b
unfolding escape_byte
byte_restored b at x =
    cases (eqb b 38) (λ a. rw (a, eqb-true b 38 a) (names.0 at x))
    (λ a. cases (eqb b 60) (λ l. rw (a, l, eqb-true b 60 l) (names.1 at x))
    (λ l. cases (eqb b 34) (λ q. rw (a, l, q, eqb-true b 34 q) (names.2 at x))
    (λ q. cases (eqb b 9) (λ t. rw (a, l, q, t, eqb-true b 9 t) (numbers.0 at x))
    (λ t. cases (eqb b 10) (λ n. rw (a, l, q, t, n, eqb-true b 10 n) (numbers.1 at x))
    (λ n. cases (eqb b 13) (λ r. rw (a, l, q, t, n, r, eqb-true b 13 r) (numbers.2 at x))
    (λ r. rw (a, l, q, t, n, r) (plain b a l t n r at x)))))))

pub restored : (s : List ℕ) (at : ℕ) → resolve_from 0 at (escape s) ≡ ok s
unfolding escape
restored [] at = resolve_none 0 at
restored (b ∷ s) at = byte_restored b at (escape s) ∙ rw (restored s (past (escape_byte b) at))

-- ── resolving at a place ──

pub resolve_skip : (k at : ℕ) (s : List ℕ) → resolve_from k at s ≡ resolve_from 0 (at + k) (drop k s)
resolve_skip zero at [] = resolve_none 0 at ∙ sym (resolve_none 0 (at + 0))
resolve_skip zero at (b ∷ s) = rw (add-zero at)
resolve_skip (suc k) at [] = resolve_none (suc k) at ∙ sym (resolve_none 0 (at + suc k))
resolve_skip (suc k) at (b ∷ s) = resolve_inside k at b s ∙ resolve_skip k (suc at) s ∙ rw (add-suc at k, suc-add at k)

-- byte i of s, what stands behind it, and the place behind what stands there
module _ (s : List ℕ) (i : ℕ) where
  abbrev here : ℕ
  here = get_or s i 0

  abbrev behind : List ℕ
  behind = drop (suc i) s

  abbrev next : ℕ
  next = suc i + further here behind

  pub resolve_good : i < length s → is_good here behind ≡ true → resolve_from 0 i (drop i s) ≡ onto (gives here behind) (resolve_from 0 next (drop next s))
  resolve_good h g = rw (
    drop-cons s i 0 h,
    resolve_first i here behind,
    g,
    resolve_skip (further here behind) (suc i) behind,
    drop-drop (further here behind) (suc i) s,
  )

  pub resolve_bad : i < length s → is_good here behind ≡ false → resolve_from 0 i (drop i s) ≡ no 23 i
  resolve_bad h g = rw (drop-cons s i 0 h, resolve_first i here behind, g)

  pub resolve_end : length s ≤ i → resolve_from 0 i (drop i s) ≡ ok []
  resolve_end h = rw (drop_of_length-le s h) (resolve_none 0 i)

-- ── what stands up to the first `;`, byte by byte ──

pub closed_none : is_closed [] ≡ false
unfolding is_closed cut
closed_none = refl

module _ (b : ℕ) (t : List ℕ) where
  pub closed_here : eqb b 59 ≡ true → is_closed (b ∷ t) ≡ true
  unfolding is_closed cut
  closed_here e = rw (e, is_closed)

  pub body_here : eqb b 59 ≡ true → body (b ∷ t) ≡ []
  unfolding body cut
  body_here e = rw (e, body)

  pub closed_further : eqb b 59 ≡ false → is_closed (b ∷ t) ≡ is_closed t
  unfolding is_closed cut
  closed_further e = rw (e, is_closed)

  pub body_further : eqb b 59 ≡ false → body (b ∷ t) ≡ b ∷ body t
  unfolding body cut
  body_further e = rw (e, body)

-- ── decimal digits are those of document 01 ──

ten_digit : (b : ℕ) → ltb (digit_value b) 10 ≡ is_digit b
unfolding digit_value
ten_digit b =
    cases (within 48 57 b)
    (λ d. let h = within_hi 48 57 b d in rw d (lt-ltb (b - 48) 10 (omega arith)))
    (λ d. cases (within 97 102 b)
    (λ l. let h = within_lo 97 102 b l in rw (d, l) (le-ltb (b - 87) 10 (omega arith)))
    (λ l. cases (within 65 70 b)
    (λ u. let h = within_lo 65 70 b u in rw (d, l, u) (le-ltb (b - 55) 10 (omega arith)))
    (λ u. rw (d, l, u))))

ten_all : (s : List ℕ) → all_of 10 s ≡ all_digits s
unfolding all_of all_digits
ten_all [] = refl
ten_all (b ∷ s) = rw (ten_digit b, ten_all s)

ten_value : (n : ℕ) (s : List ℕ) → all_digits s ≡ true → value_behind 10 n s ≡ value_from n s
unfolding value_behind all_digits value_from
ten_value n [] h = refl
ten_value n (b ∷ s) h =
    let d : digit_value b ≡ b - 48 = unfold digit_value in rw (and_l (is_digit b) (all_digits s) h) in
    rw d (ten_value (n * 10 + (b - 48)) s (and_r (is_digit b) (all_digits s) h))

pub ten_numbered : (s : List ℕ) → numbered 10 s ≡ cond (digits s) (value s) 0
unfolding numbered
ten_numbered s =
    rw (ten_all s)
    (cases (all_digits s) (λ a. rw (a, ten_value 0 s a)) (λ a. rw (a, and-false (not (empty s)))))

-- ── how long the result is ──

pub closed_within : (s : List ℕ) → is_closed s ≡ true → length (body s) < length s
closed_within [] h = clash (is_closed []) h closed_none
closed_within (b ∷ s) h =
    cases (eqb b 59) (λ e. rw (body_here b s e) (omega arith))
    (λ e. rw (body_further b s e) (omega (arith, closed_within s (rw (closed_further b s e) at h))))

-- a reference has two bytes or more between `&` and `;`
one_byte_holds : (b : ℕ) → referred (b ∷ []) ≡ 0
unfolding referred numbered predefined same_bytes ascii
one_byte_holds b =
    cases (eqb b 35) (λ e. rw e)
    (λ e. rw (e, and-false (eqb b 97), and-false (eqb b 108), and-false (eqb b 103), and-false (eqb b 113)))

pub referred_long : (s : List ℕ) → xml_char (referred s) ≡ true → 2 ≤ length s
referred_long [] h = clash (xml_char (referred [])) h (unfold xml_char referred predefined same_bytes ascii in refl)
referred_long (b ∷ []) h = clash (xml_char 0) (rw (one_byte_holds b) at h) (unfold xml_char in refl)
referred_long (b ∷ d ∷ s) h = omega arith

-- what stands at a byte is there, and no longer than it was
module _ (b : ℕ) (bs : List ℕ) (g : is_good b bs ≡ true) where
  reference_is : eqb b 38 ≡ true → is_reference bs ≡ true
  unfolding is_good
  reference_is e = rw e at (and_r (not (eqb b 60)) (not (eqb b 38) || is_reference bs) g)

  pub further_within : further b bs ≤ length bs
  unfolding further is_reference
  further_within =
      cases (eqb b 38)
      (λ e. rw e (closed_within bs (and_l (is_closed bs) (xml_char (referred (body bs))) (reference_is e))))
      (λ e. rw e (cases (eqb b 13 && eqb (get_or bs 0 0) 10) (λ k. rw k (some bs (eqb-true (get_or bs 0 0) 10 (and_r (eqb b 13) (eqb (get_or bs 0 0) 10) k))))
      (λ k. rw k (omega arith))))
    where
      some : (x : List ℕ) → get_or x 0 0 ≡ 10 → 1 ≤ length x
      some [] k = omega arith
      some (y ∷ x) k = omega arith

  pub gives_within : length (gives b bs) ≤ suc (further b bs)
  unfolding gives further is_reference
  gives_within =
      cases (eqb b 38)
      (λ e. let l = referred_long (body bs) (and_r (is_closed bs) (xml_char (referred (body bs))) (reference_is e)) in
      rw e (omega (arith, (utf8_size (referred (body bs))).1)))
      (λ e. rw e (omega arith))

pub resolved_within : (bs : List ℕ) (k at : ℕ) (r : List ℕ) → resolve_from k at bs ≡ ok r → length r ≤ length bs - k
resolved_within [] k at r h = omega (arith, ap length (ok_path [] r (sym (resolve_none k at) ∙ h)))
resolved_within (b ∷ bs) (suc k) at r h = omega (arith, resolved_within bs k (suc at) r (sym (resolve_inside k at b bs) ∙ h))
resolved_within (b ∷ bs) zero at r h =
    let (g, f) = need_ok (is_good b bs) 23 at _ r (sym (resolve_first at b bs) ∙ h) in
    let (s, e, q) = bind_ok (resolve_from (further b bs) (suc at) bs) _ r f in
    omega (
      arith,
      resolved_within bs (further b bs) (suc at) s e,
      gives_within b bs g,
      further_within b bs g,
      ap length (ok_path (gives b bs ++ s) r q),
      length-append (gives b bs) s,
    )
