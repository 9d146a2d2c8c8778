-- Laws of the rows of Table 3-7 and of UTF-8 by the bits of Table 3-6: the rows' first bytes rise, so at most one row fits, and each row fits exactly where
-- one of its code points starts (`Law`).
-- Assumes nothing.
use Prim.Native.Nat.{ℕ, zero, suc, ◌+◌, ◌*◌, ◌-◌, ◌/◌, ◌%◌, ◌≤◌, ◌<◌}
use native.Mathlib.Omega.{arith}
use native.Mathlib.Nat.{zero-add, div-div-eq-div-mul}
use mathlib.Core.Path.{◌≡◌, refl, sym, ◌∙◌, ap, subst}
use mathlib.Core.Logic.{◌⊎◌, inl, inr, ⊎_elim}
use mathlib.Core.Bool.{true, false, not, false≢true}
use mathlib.Core.List.{List, [], ◌∷◌, ◌++◌}
use borrow.Author.Tests.{le-leb, lt-leb, leb-true, leb-false}
use lib.Dec.{leb}
use lib.ListN.{length, get_or, drop}
use Rattle.label.specs.Bytes.{empty}
use Rattle.label.specs.Text.{within, Range, ◌‥◌, Row, table_row, table, row_fits, fitting, starts_char, more_bytes, following, scalar, code_point, layout}
use Rattle.label.specs.Write.{utf8}
use Rattle.label.specs.Statements.Encoding.{is_scalar, form_room, Shortest, FitsAt, Each}
use Rattle.label.proofs.Basics.{and_l, and_r, and_i, clash, cases, or_cases, within_is, within_lo, within_hi, above_range}

-- ── at most one row fits ──

-- the first bytes of the rows, all from m on, stand in ranges that rise from row to row
abbrev pub Rising : ℕ → List Row → Type 0
Rising m [] = Unit {0}
Rising m (r ∷ rs) = (f : Range) × (fs : List Range) × (r.bytes ≡ f ∷ fs) × (m ≤ f.lo) × (f.lo ≤ f.hi) × Rising (suc f.hi) rs

-- those of the table do
pub rising : Rising 0 table
unfolding table
rising = (
  _,
  _,
  refl,
  omega arith,
  omega arith,
  (
    _,
    _,
    refl,
    omega arith,
    omega arith,
    (
      _,
      _,
      refl,
      omega arith,
      omega arith,
      (
        _,
        _,
        refl,
        omega arith,
        omega arith,
        (
          _,
          _,
          refl,
          omega arith,
          omega arith,
          (
            _,
            _,
            refl,
            omega arith,
            omega arith,
            (_, _, refl, omega arith, omega arith, (_, _, refl, omega arith, omega arith, (_, _, refl, omega arith, omega arith, tt))),
          ),
        ),
      ),
    ),
  ),
)

below_range : (lo hi b : ℕ) → b < lo → within lo hi b ≡ false
below_range lo hi b h = rw (lt-leb lo b h)

-- a row that does not fit is passed over
pub skips : (r : Row) (rs : List Row) (s : List ℕ) → row_fits r.bytes s ≡ false → fitting (r ∷ rs) s ≡ fitting rs s
unfolding fitting
skips r rs s h = rw h

module _ (r : Row) (f : Range) (fs : List Range) (e : r.bytes ≡ f ∷ fs) where
  -- a row whose first byte does not fit, or does
  pub unfit : (b : ℕ) (bs : List ℕ) → within f.lo f.hi b ≡ false → row_fits r.bytes (b ∷ bs) ≡ false
  unfolding row_fits
  unfit b bs h = rw (e, h)

  pub fits_first : (b : ℕ) (bs : List ℕ) → within f.lo f.hi b ≡ true → row_fits r.bytes (b ∷ bs) ≡ row_fits fs bs
  unfolding row_fits
  fits_first b bs h = rw (e, h)

  unfit_end : row_fits r.bytes [] ≡ false
  unfolding row_fits
  unfit_end = rw e

-- no row fits a first byte below them
pub none_below : (rs : List Row) (m b : ℕ) (bs : List ℕ) → Rising m rs → b < m → fitting rs (b ∷ bs) ≡ []
none_below [] m b bs o h = unfold fitting in refl
none_below (r ∷ rs) m b bs (f, fs, e, l, k, o) h =
    skips r rs (b ∷ bs) (unfit r f fs e b bs (below_range f.lo f.hi b (omega arith))) ∙ none_below rs (suc f.hi) b bs o (omega arith)

none_end : (rs : List Row) (m : ℕ) → Rising m rs → fitting rs [] ≡ []
none_end [] m o = unfold fitting in refl
none_end (r ∷ rs) m (f, fs, e, l, k, o) = skips r rs [] (unfit_end r f fs e) ∙ none_end rs (suc f.hi) o

-- none behind a row that fits
none_behind : (r : Row) (rs : List Row) (m : ℕ) (s : List ℕ) → Rising m (r ∷ rs) → row_fits r.bytes s ≡ true → fitting rs s ≡ []
none_behind r rs m [] (f, fs, e, l, k, o) h = none_end rs (suc f.hi) o
none_behind r rs m (b ∷ bs) (f, fs, e, l, k, o) h =
    cases (within f.lo f.hi b)
    (λ t. none_below rs (suc f.hi) b bs o (omega (arith, within_hi f.lo f.hi b t)))
    (λ t. clash (row_fits r.bytes (b ∷ bs)) h (unfit r f fs e b bs t))

-- a row that fits is the only one
pub alone : (r : Row) (rs : List Row) (m : ℕ) (s : List ℕ) → Rising m (r ∷ rs) → row_fits r.bytes s ≡ true → fitting (r ∷ rs) s ≡ r ∷ []
unfolding fitting
alone r rs m s o h = rw (h, none_behind r rs m s o h)

-- some row fits, by its number
pub fits_some : (rs : List Row) (i : ℕ) (s : List ℕ) → FitsAt rs i s → not (empty (fitting rs s)) ≡ true
unfolding fitting
fits_some [] i s f = absurd f
fits_some (r ∷ rs) zero s f = rw f
fits_some (r ∷ rs) (suc i) s f = cases (row_fits r.bytes s) (λ t. rw t) (λ t. rw t (fits_some rs i s f))

pub some_fits : (rs : List Row) (s : List ℕ) → not (empty (fitting rs s)) ≡ true → (i : ℕ) × FitsAt rs i s
unfolding fitting
some_fits [] s h = absurd (false≢true h)
some_fits (r ∷ rs) s h = cases (row_fits r.bytes s) (λ t. (0, t)) (λ t. let (i, f) = some_fits rs s (rw t at h) in (suc i, f))

pub one_number : (rs : List Row) (m : ℕ) (s : List ℕ) (i j : ℕ) → Rising m rs → FitsAt rs i s → FitsAt rs j s → i ≡ j
one_number [] m s i j o f g = absurd f
one_number (r ∷ rs) m s zero zero o f g = refl
one_number (r ∷ rs) m s zero (suc j) o f g = absurd (false≢true (rw (none_behind r rs m s o f) at (fits_some rs j s g)))
one_number (r ∷ rs) m s (suc i) zero o f g = absurd (false≢true (rw (none_behind r rs m s o g) at (fits_some rs i s f)))
one_number (r ∷ rs) m s (suc i) (suc j) o f g = ap suc (one_number rs (suc o.0.hi) s i j o.5 f g)

-- ── the shortest form ──

-- how many bytes a form with room for c has at least
needs_bytes : (c n : ℕ) → c < form_room n → (c < 0x200000) × (1 ≤ n) × (0x7f < c → 2 ≤ n) × (0x7ff < c → 3 ≤ n) × (0xffff < c → 4 ≤ n)
unfolding form_room
needs_bytes c zero h = absurd (omega arith)
needs_bytes c (suc zero) h = (omega arith, omega arith, λ k. omega arith, λ k. omega arith, λ k. omega arith)
needs_bytes c (suc (suc zero)) h = (omega arith, omega arith, λ k. omega arith, λ k. omega arith, λ k. omega arith)
needs_bytes c (suc (suc (suc zero))) h = (omega arith, omega arith, λ k. omega arith, λ k. omega arith, λ k. omega arith)
needs_bytes c (suc (suc (suc (suc zero)))) h = (omega arith, omega arith, λ k. omega arith, λ k. omega arith, λ k. omega arith)
needs_bytes c (suc (suc (suc (suc (suc n))))) h = absurd (omega arith)

module _ (c : ℕ) where
  pub utf8_one : c ≤ 0x7f → utf8 c ≡ layout 1 c
  unfolding utf8
  utf8_one h = rw (le-leb c 0x7f h)

  pub utf8_two : 0x7f < c → c ≤ 0x7ff → utf8 c ≡ layout 2 c
  unfolding utf8
  utf8_two h k = rw (lt-leb c 0x7f h, le-leb c 0x7ff k)

  pub utf8_three : 0x7ff < c → c ≤ 0xffff → utf8 c ≡ layout 3 c
  unfolding utf8
  utf8_three h k = rw (lt-leb c 0x7f (omega arith), lt-leb c 0x7ff h, le-leb c 0xffff k)

  pub utf8_four : 0xffff < c → utf8 c ≡ layout 4 c
  unfolding utf8
  utf8_four h = rw (lt-leb c 0x7f (omega arith), lt-leb c 0x7ff (omega arith), lt-leb c 0xffff h)

  -- by the length of a number's UTF-8
  by_length : {A : Type 0} → (c ≤ 0x7f → A) → (0x7f < c → c ≤ 0x7ff → A) → (0x7ff < c → c ≤ 0xffff → A) → (0xffff < c → A) → A
  by_length one two three four =
      cases (leb c 0x7f) (λ t. one (leb-true c 0x7f t))
      (λ t. cases (leb c 0x7ff) (λ u. two (leb-false c 0x7f t) (leb-true c 0x7ff u))
      (λ u. cases (leb c 0xffff) (λ v. three (leb-false c 0x7ff u) (leb-true c 0xffff v)) (λ v. four (leb-false c 0xffff v))))

  pub utf8_shortest : c < 0x200000 → Shortest c (utf8 c)
  unfolding form_room
  utf8_shortest m =
      by_length
      (λ h. record { count = 1; held = omega arith; is = utf8_one h; least = λ n l. (needs_bytes c n l).1 })
      (λ h k. record { count = 2; held = omega arith; is = utf8_two h k; least = λ n l. (needs_bytes c n l).2 h })
      (λ h k. record { count = 3; held = omega arith; is = utf8_three h k; least = λ n l. (needs_bytes c n l).3 h })
      (λ h. record { count = 4; held = m; is = utf8_four h; least = λ n l. (needs_bytes c n l).4 h })

  -- there is no other
  pub shortest_is : (s : List ℕ) → Shortest c s → s ≡ utf8 c
  shortest_is s x =
      let y : Shortest c (utf8 c) = utf8_shortest (needs_bytes c x.count x.held).0 in
      let e : x.count ≡ y.count = omega (arith, x.least y.count y.held, y.least x.count x.held) in
      x.is ∙ ap (λ (n : ℕ). layout n c) e ∙ sym y.is

-- ── scalar values ──

pub low_scalar : (c : ℕ) → c ≤ 0xd7ff → is_scalar c ≡ true
low_scalar c h = rw (within_is 0 0xd7ff c (omega arith) h)

pub high_scalar : (c : ℕ) → 0xe000 ≤ c → c ≤ 0x10ffff → is_scalar c ≡ true
high_scalar c h k = rw (above_range 0 0xd7ff c (omega arith), within_is 0xe000 0x10ffff c h k)

scalar_range : (c : ℕ) → is_scalar c ≡ true → (c ≤ 0xd7ff) ⊎ ((0xe000 ≤ c) × (c ≤ 0x10ffff))
scalar_range c h =
    ⊎_elim (λ t. inl (within_hi 0 0xd7ff c t)) (λ t. inr (within_lo 0xe000 0x10ffff c t, within_hi 0xe000 0x10ffff c t))
    (or_cases (within 0 0xd7ff c) (within 0xe000 0x10ffff c) h)

pub scalar_most : (c : ℕ) → is_scalar c ≡ true → c ≤ 0x10ffff
scalar_most c h = ⊎_elim (λ k. omega arith) (λ k. k.1) (scalar_range c h)

-- ── a row and its code points ──

-- where a row fits, one of its code points starts; its code points are scalar values, it fits where they start, and they have as many bytes as it has
pub record Law (r : Row) : Type 0 where
  pub here : (s : List ℕ) → row_fits r.bytes s ≡ true → (c : ℕ) × (rest : List ℕ) × (within r.codes.lo r.codes.hi c ≡ true) × (s ≡ utf8 c ++ rest)
  pub scalars : (c : ℕ) → within r.codes.lo r.codes.hi c ≡ true → is_scalar c ≡ true
  pub there : (c : ℕ) (rest : List ℕ) → within r.codes.lo r.codes.hi c ≡ true → row_fits r.bytes (utf8 c ++ rest) ≡ true
  pub size : (c : ℕ) → within r.codes.lo r.codes.hi c ≡ true → length (utf8 c) ≡ length r.bytes

-- a row's first byte, which is a and some p from i to j, and the others
record Fits (a i j : ℕ) (fs : List Range) (s : List ℕ) : Type 0 where
  p : ℕ
  rest : List ℕ
  is : s ≡ (a + p) ∷ rest
  lo : i ≤ p
  hi : p ≤ j
  others : row_fits fs rest ≡ true

fits_cons : (a i j : ℕ) (fs : List Range) (s : List ℕ) → row_fits ((a + i) ‥ (a + j) ∷ fs) s ≡ true → Fits a i j fs s
unfolding row_fits
fits_cons a i j fs [] h = absurd (false≢true h)
fits_cons a i j fs (b ∷ s) h =
    let w = and_l (within (a + i) (a + j) b) (row_fits fs s) h in
    let l = within_lo (a + i) (a + j) b w in
    let k = within_hi (a + i) (a + j) b w in
    let e : b ≡ a + (b - a) = omega arith in
    record { p = b - a; rest = s; is = rw (← e); lo = omega arith; hi = omega arith; others = and_r (within (a + i) (a + j) b) (row_fits fs s) h }

cons_fits : (f : Range) (fs : List Range) (b : ℕ) (s : List ℕ) → f.lo ≤ b → b ≤ f.hi → row_fits fs s ≡ true → row_fits (f ∷ fs) (b ∷ s) ≡ true
unfolding row_fits
cons_fits f fs b s h k t = and_i (within f.lo f.hi b) (row_fits fs s) (within_is f.lo f.hi b h k) t

nil_fits : (s : List ℕ) → row_fits [] s ≡ true
unfolding row_fits
nil_fits s = refl

-- a byte of six bits behind the first, from 80 to BF
six_fits : (fs : List Range) (x : ℕ) (s : List ℕ) → row_fits fs s ≡ true → row_fits (0x80 ‥ 0xbf ∷ fs) ((0x80 + x % 64) ∷ s) ≡ true
six_fits fs x s t = cons_fits (0x80 ‥ 0xbf) fs (0x80 + x % 64) s (omega arith) (omega arith) t

-- a byte found, and those behind it
found : {s r u : List ℕ} (b : ℕ) → s ≡ b ∷ r → r ≡ u → s ≡ b ∷ u
found b e f = e ∙ ap (λ (l : List ℕ). b ∷ l) f

-- a number by its six bits from the right
two_made : (x y : ℕ) → y < 64 → layout 2 (x * 64 + y) ≡ (0xc0 + x) ∷ (0x80 + y) ∷ []
two_made x y h =
    let d : (x * 64 + y) / 64 ≡ x = omega arith in
    let m : (x * 64 + y) % 64 ≡ y = omega arith in
    rw (d, m)

three_made : (x y z : ℕ) → y < 64 → z < 64 → layout 3 (x * 4096 + y * 64 + z) ≡ (0xe0 + x) ∷ (0x80 + y) ∷ (0x80 + z) ∷ []
three_made x y z h k =
    let c = x * 4096 + y * 64 + z in
    let d : c / 4096 ≡ x = omega arith in
    let q : c / 64 ≡ x * 64 + y = omega arith in
    let r : (x * 64 + y) % 64 ≡ y = omega arith in
    let m : c % 64 ≡ z = omega arith in
    rw (d, q, r, m)

four_made : (w x y z : ℕ) → x < 64 → y < 64 → z < 64
    → layout 4 (w * 262144 + x * 4096 + y * 64 + z) ≡ (0xf0 + w) ∷ (0x80 + x) ∷ (0x80 + y) ∷ (0x80 + z) ∷ []
four_made w x y z h k l =
    let c = w * 262144 + x * 4096 + y * 64 + z in
    let d : c / 262144 ≡ w = omega arith in
    let p : c / 4096 ≡ w * 64 + x = omega arith in
    let r : (w * 64 + x) % 64 ≡ x = omega arith in
    let q : c / 64 ≡ (w * 64 + x) * 64 + y = omega arith in
    let t : ((w * 64 + x) * 64 + y) % 64 ≡ y = omega arith in
    let m : c % 64 ≡ z = omega arith in
    rw (d, p, r, q, t, m)

one_law : Law (table_row (0x0 ‥ 0x7f) (0x00 ‥ 0x7f ∷ []))
one_law =
    record {
      here = λ s t.
          let x = fits_cons 0 0 0x7f [] s t in
          (x.p, x.rest, within_is 0 0x7f x.p (omega arith) x.hi, rw (utf8_one x.p x.hi, ← zero-add x.p) x.is);
      scalars = λ c w. low_scalar c (omega (arith, within_hi 0 0x7f c w));
      there = λ c rest w.
          let h = within_hi 0 0x7f c w in
          rw (utf8_one c h) (cons_fits (0x00 ‥ 0x7f) [] c rest (omega arith) h (nil_fits rest));
      size = λ c w. ap length (utf8_one c (within_hi 0 0x7f c w));
    }

two_law : Law (table_row (0x80 ‥ 0x7ff) (0xc2 ‥ 0xdf ∷ 0x80 ‥ 0xbf ∷ []))
two_law =
    record {
      here = λ s t.
          let x = fits_cons 0xc0 2 31 (0x80 ‥ 0xbf ∷ []) s t in
          let y = fits_cons 0x80 0 63 [] x.rest x.others in
          let c = x.p * 64 + y.p in
          let l : 0x80 ≤ c = omega (arith, x.lo) in
          let h : c ≤ 0x7ff = omega (arith, x.hi, y.hi) in
          let e = utf8_two c l h ∙ two_made x.p y.p (omega (arith, y.hi)) in
          (c, y.rest, within_is 0x80 0x7ff c l h, found (0xc0 + x.p) x.is y.is ∙ ap (λ (u : List ℕ). u ++ y.rest) (sym e));
      scalars = λ c w. low_scalar c (omega (arith, within_hi 0x80 0x7ff c w));
      there = λ c rest w.
          let l = within_lo 0x80 0x7ff c w in
          let h = within_hi 0x80 0x7ff c w in
          rw (utf8_two c l h)
          (cons_fits (0xc2 ‥ 0xdf) (0x80 ‥ 0xbf ∷ []) (0xc0 + c / 64) _ (omega arith) (omega arith) (six_fits [] c rest (nil_fits rest)));
      size = λ c w. ap length (utf8_two c (within_lo 0x80 0x7ff c w) (within_hi 0x80 0x7ff c w));
    }

-- a row of three bytes, the bits of its first from i to j and of its second from k to m: its least and its greatest character are those of its code points
module _ (lo hi i j k m : ℕ) (from : 0x7ff < lo) (to : hi ≤ 0xffff) (six : m < 64) (least : lo ≤ i * 4096 + k * 64) (most : j * 4096 + m * 64 + 63 ≤ hi) where
  three_law : ((c : ℕ) → lo ≤ c → c ≤ hi → is_scalar c ≡ true)
      → ((c : ℕ) → lo ≤ c → c ≤ hi → (i ≤ c / 4096) × (c / 4096 ≤ j) × (k ≤ c / 64 % 64) × (c / 64 % 64 ≤ m))
      → Law (table_row (lo ‥ hi) ((0xe0 + i) ‥ (0xe0 + j) ∷ (0x80 + k) ‥ (0x80 + m) ∷ 0x80 ‥ 0xbf ∷ []))
  three_law scalar_is back =
      record {
        here = λ s t.
            let x = fits_cons 0xe0 i j ((0x80 + k) ‥ (0x80 + m) ∷ 0x80 ‥ 0xbf ∷ []) s t in
            let y = fits_cons 0x80 k m (0x80 ‥ 0xbf ∷ []) x.rest x.others in
            let z = fits_cons 0x80 0 63 [] y.rest y.others in
            let c = x.p * 4096 + y.p * 64 + z.p in
            let l : lo ≤ c = omega (arith, x.lo, y.lo) in
            let h : c ≤ hi = omega (arith, x.hi, y.hi, z.hi) in
            let e = utf8_three c (omega arith) (omega arith) ∙ three_made x.p y.p z.p (omega (arith, y.hi)) (omega (arith, z.hi)) in
            (c, z.rest, within_is lo hi c l h, found (0xe0 + x.p) x.is (found (0x80 + y.p) y.is z.is) ∙ ap (λ (u : List ℕ). u ++ z.rest) (sym e));
        scalars = λ c w. scalar_is c (within_lo lo hi c w) (within_hi lo hi c w);
        there = λ c rest w.
            let a = within_lo lo hi c w in
            let b = within_hi lo hi c w in
            let f = back c a b in
            rw (utf8_three c (omega arith) (omega arith))
            (cons_fits ((0xe0 + i) ‥ (0xe0 + j)) _ (0xe0 + c / 4096) _ (omega (arith, f.0)) (omega (arith, f.1))
            (cons_fits ((0x80 + k) ‥ (0x80 + m)) _ (0x80 + c / 64 % 64) _ (omega (arith, f.2)) (omega (arith, f.3)) (six_fits [] c rest (nil_fits rest))));
        size = λ c w. ap length (utf8_three c (omega (arith, within_lo lo hi c w)) (omega (arith, within_hi lo hi c w)));
      }

-- a row of four bytes
module _ (lo hi i j k m : ℕ) (from : 0xffff < lo) (to : hi ≤ 0x10ffff) (six : m < 64) (least : lo ≤ i * 262144 + k * 4096)
    (most : j * 262144 + m * 4096 + 4095 ≤ hi) where
  four_law : ((c : ℕ) → lo ≤ c → c ≤ hi → (i ≤ c / 262144) × (c / 262144 ≤ j) × (k ≤ c / 4096 % 64) × (c / 4096 % 64 ≤ m))
      → Law (table_row (lo ‥ hi) ((0xf0 + i) ‥ (0xf0 + j) ∷ (0x80 + k) ‥ (0x80 + m) ∷ 0x80 ‥ 0xbf ∷ 0x80 ‥ 0xbf ∷ []))
  four_law back =
      record {
        here = λ s t.
            let w = fits_cons 0xf0 i j ((0x80 + k) ‥ (0x80 + m) ∷ 0x80 ‥ 0xbf ∷ 0x80 ‥ 0xbf ∷ []) s t in
            let x = fits_cons 0x80 k m (0x80 ‥ 0xbf ∷ 0x80 ‥ 0xbf ∷ []) w.rest w.others in
            let y = fits_cons 0x80 0 63 (0x80 ‥ 0xbf ∷ []) x.rest x.others in
            let z = fits_cons 0x80 0 63 [] y.rest y.others in
            let c = w.p * 262144 + x.p * 4096 + y.p * 64 + z.p in
            let l : lo ≤ c = omega (arith, w.lo, x.lo) in
            let h : c ≤ hi = omega (arith, w.hi, x.hi, y.hi, z.hi) in
            let e = utf8_four c (omega arith) ∙ four_made w.p x.p y.p z.p (omega (arith, x.hi)) (omega (arith, y.hi)) (omega (arith, z.hi)) in (
              c,
              z.rest,
              within_is lo hi c l h,
              found (0xf0 + w.p) w.is (found (0x80 + x.p) x.is (found (0x80 + y.p) y.is z.is)) ∙ ap (λ (u : List ℕ). u ++ z.rest) (sym e),
            );
        scalars = λ c w. high_scalar c (omega (arith, within_lo lo hi c w)) (omega (arith, within_hi lo hi c w));
        there = λ c rest w.
            let a = within_lo lo hi c w in
            let f = back c a (within_hi lo hi c w) in
            rw (utf8_four c (omega arith))
            (cons_fits ((0xf0 + i) ‥ (0xf0 + j)) _ (0xf0 + c / 262144) _ (omega (arith, f.0)) (omega (arith, f.1))
            (cons_fits ((0x80 + k) ‥ (0x80 + m)) _ (0x80 + c / 4096 % 64) _ (omega (arith, f.2)) (omega (arith, f.3))
            (six_fits (0x80 ‥ 0xbf ∷ []) (c / 64) _ (six_fits [] c rest (nil_fits rest)))));
        size = λ c w. ap length (utf8_four c (omega (arith, within_lo lo hi c w)));
      }

-- the law of a row, before those of the rows behind it
infixr 5 ◌⨾◌
pub ◌⨾◌ : {A B : Type 0} → A → B → A × B
x ⨾ xs = (x, xs)

pub laws : Each Law table
unfolding table
laws =
    one_law
    ⨾ two_law
    ⨾ three_law 0x800 0xfff 0 0 32 63 (omega arith) (omega arith) (omega arith) (omega arith) (omega arith) (λ c a b. low_scalar c (omega arith))
    (λ c a b. (omega arith, omega arith, omega arith, omega arith))
    ⨾ three_law 0x1000 0xcfff 1 12 0 63 (omega arith) (omega arith) (omega arith) (omega arith) (omega arith) (λ c a b. low_scalar c (omega arith))
    (λ c a b. (omega arith, omega arith, omega arith, omega arith))
    ⨾ three_law 0xd000 0xd7ff 13 13 0 31 (omega arith) (omega arith) (omega arith) (omega arith) (omega arith) (λ c a b. low_scalar c (omega arith))
    (λ c a b. (omega arith, omega arith, omega arith, omega arith))
    ⨾ three_law 0xe000 0xffff 14 15 0 63 (omega arith) (omega arith) (omega arith) (omega arith) (omega arith)
    (λ c a b. high_scalar c (omega arith) (omega arith)) (λ c a b. (omega arith, omega arith, omega arith, omega arith))
    ⨾ four_law 0x10000 0x3ffff 0 0 16 63 (omega arith) (omega arith) (omega arith) (omega arith) (omega arith)
    (λ c a b. (omega arith, omega arith, omega arith, omega arith))
    ⨾ four_law 0x40000 0xfffff 1 3 0 63 (omega arith) (omega arith) (omega arith) (omega arith) (omega arith)
    (λ c a b. (omega arith, omega arith, omega arith, omega arith))
    ⨾ four_law 0x100000 0x10ffff 4 4 0 15 (omega arith) (omega arith) (omega arith) (omega arith) (omega arith)
    (λ c a b. (omega arith, omega arith, omega arith, omega arith))
    ⨾ tt

-- ── the row of a scalar value, and the scalar value of a row ──

-- one of the rows has c among its code points
abbrev pub Coded : List Row → ℕ → Type 0
Coded [] c = ⊥
Coded (r ∷ rs) c = (within r.codes.lo r.codes.hi c ≡ true) ⊎ Coded rs c

pub coded : (c : ℕ) → is_scalar c ≡ true → Coded table c
unfolding table
coded c h =
    up_to 0 0x7f (omega arith) (λ a. up_to 0x80 0x7ff a (λ b. up_to 0x800 0xfff b (λ d. up_to 0x1000 0xcfff d (λ e.
    ⊎_elim (λ k. inl (within_is 0xd000 0xd7ff c e k))
    (λ k. inr (up_to 0xe000 0xffff k.0 (λ f. up_to 0x10000 0x3ffff f (λ g. up_to 0x40000 0xfffff g (λ i. inl (within_is 0x100000 0x10ffff c i k.1))))))
    (scalar_range c h)))))
  where
    up_to : {A : Type 0} (lo hi : ℕ) → lo ≤ c → (hi < c → A) → (within lo hi c ≡ true) ⊎ A
    up_to lo hi l f = cases (leb c hi) (λ t. inl (within_is lo hi c l (leb-true c hi t))) (λ t. inr (f (leb-false c hi t)))

-- where the UTF-8 of a code point starts, its row fits and no other
pub find : (rs : List Row) (m : ℕ) → Each Law rs → Rising m rs → (c : ℕ) (rest : List ℕ) → Coded rs c
    → (r : Row) × (fitting rs (utf8 c ++ rest) ≡ r ∷ []) × (length (utf8 c) ≡ length r.bytes)
find [] m ls o c rest w = absurd w
find (r ∷ rs) m ls o c rest (inl w) = (r, alone r rs m (utf8 c ++ rest) o (ls.0.there c rest w), ls.0.size c w)
find (r ∷ rs) m ls o c rest (inr w) =
    let s = utf8 c ++ rest in
    let (q, e, n) = find rs (suc o.0.hi) ls.1 o.5 c rest w in
    cases (row_fits r.bytes s)
    (λ t. absurd (omega (arith, ap length (sym (none_behind r rs m s o t) ∙ e))))
    (λ t. (q, skips r rs s t ∙ e, n))

-- where a row fits, the UTF-8 of a scalar value starts
pub scalar_of : (rs : List Row) → Each Law rs → (s : List ℕ) → not (empty (fitting rs s)) ≡ true
    → (c : ℕ) × (rest : List ℕ) × (is_scalar c ≡ true) × (s ≡ utf8 c ++ rest)
scalar_of [] ls s h = absurd (false≢true (unfold fitting in h))
scalar_of (r ∷ rs) ls s h =
    cases (row_fits r.bytes s)
    (λ t. let (c, rest, w, e) = ls.0.here s t in
    (c, rest, ls.0.scalars c w, e))
    (λ t. scalar_of rs ls.1 s (rw (skips r rs s t) at h))

-- ── the number from the bits ──

sum_three : (c : ℕ) → c ≤ 0xffff → (0xe0 + c / 4096) % 16 * 4096 + (0x80 + c / 64 % 64) % 64 * 64 + (0x80 + c % 64) % 64 ≡ c
sum_three c h = omega (arith, div-div-eq-div-mul c 64 64)

low_six : (x : ℕ) → (0x80 + x % 64) % 64 ≡ x % 64
low_six x = omega arith

whole_four : (c : ℕ) → c / 262144 * 262144 + c / 4096 % 64 * 4096 + c / 64 % 64 * 64 + c % 64 ≡ c
whole_four c = omega (arith, div-div-eq-div-mul c 64 64, div-div-eq-div-mul c 4096 64)

sum_four : (c : ℕ) → c ≤ 0x10ffff
    → (0xf0 + c / 262144) % 8 * 262144 + (0x80 + c / 4096 % 64) % 64 * 4096 + (0x80 + c / 64 % 64) % 64 * 64 + (0x80 + c % 64) % 64 ≡ c
sum_four c h =
    let a : (0xf0 + c / 262144) % 8 ≡ c / 262144 = omega arith in
    rw (a, low_six (c / 4096), low_six (c / 64), low_six c) (whole_four c)

-- the number that the bits of its UTF-8 give is c
number_of : (c : ℕ) (rest : List ℕ) → c ≤ 0x10ffff → scalar (length (utf8 c) - 1) (get_or (utf8 c ++ rest) 0 0) (drop 1 (utf8 c ++ rest)) ≡ c
unfolding scalar
number_of c rest m =
    by_length c (λ h. rw (utf8_one c h)) (λ h k. rw (utf8_two c h k) (omega arith)) (λ h k. rw (utf8_three c h k) (sum_three c k))
    (λ h. rw (utf8_four c h) (sum_four c m))

pub utf8_size : (c : ℕ) → (1 ≤ length (utf8 c)) × (length (utf8 c) ≤ 4)
utf8_size c =
    by_length c (λ h. rw (utf8_one c h) (omega arith, omega arith)) (λ h k. rw (utf8_two c h k) (omega arith, omega arith))
    (λ h k. rw (utf8_three c h k) (omega arith, omega arith)) (λ h. rw (utf8_four c h) (omega arith, omega arith))

-- what is read where the UTF-8 of a scalar value starts
pub record ReadAt (c b : ℕ) (bs : List ℕ) : Type 0 where
  pub start : starts_char b bs ≡ true
  pub size : suc (following b bs) ≡ length (utf8 c)
  pub number : code_point b bs ≡ c

pub read_at : (c b : ℕ) (bs rest : List ℕ) → is_scalar c ≡ true → b ∷ bs ≡ utf8 c ++ rest → ReadAt c b bs
unfolding starts_char following more_bytes
read_at c b bs rest h e =
    let (r, f, n) = find table 0 laws rising c rest (coded c h) in
    let g : fitting table (b ∷ bs) ≡ r ∷ [] = rw e f in
    let k : following b bs ≡ length (utf8 c) - 1 = rw (g, n) in
    record {
      start = rw g;
      size = omega (arith, (utf8_size c).0, k);
      number = rw k (subst (λ (s : List ℕ). scalar (length (utf8 c) - 1) (get_or s 0 0) (drop 1 s) ≡ c) (sym e) (number_of c rest (scalar_most c h)));
    }
