-- Laws of the rows as the code takes them: they decide what the table decides, by `same`, an induction over rows whose first ranges rise.
-- Assumes nothing.
use Prim.Native.Nat.{ℕ, zero, suc, ◌≤◌, ◌<◌}
use native.Mathlib.Omega.{arith}
use mathlib.Core.Path.{◌≡◌, refl, sym, ◌∙◌, ap}
use mathlib.Core.Bool.{Bool, true, false, not, ◌&&◌, false≢true, and-false}
use mathlib.Core.List.{List, [], ◌∷◌}
use lib.ListN.{length, get_or, take, drop}
use Rattle.std.specs.Prelude.{Option, Some, None}
use Rattle.std.specs.List.{list_all}
use Rattle.label.specs.Bytes.{empty}
use Rattle.label.specs.Text.{within, Range, ◌‥◌, Row, table, row_fits, fitting, starts_char, more_bytes, following}
use Rattle.label.specs.Statements.Encoding.{Each}
use Rattle.label.proofs.Basics.{and_r, cases, within_is, within_lo, within_hi, above_range}
use Rattle.label.proofs.Utf8.{◌⨾◌, Rising, rising, skips, unfit, fits_first, none_below, alone}
use Rattle.std.proofs.lemmas.Grind.{common_steps}
use Rattle.utf8.specs.Rows.{trailing_row, in_first, behind, chosen, lead, trail}
use Rattle.utf8.specs.declared.Trailing.{Trailing}

-- ── the row that a first byte chooses ──

-- the ranges of row k, from 0 on
abbrev pub nth : List Row → ℕ → List Range
nth [] k = []
nth (r ∷ rs) zero = r.bytes
nth (r ∷ rs) (suc k) = nth rs k

nth_above : (rs : List Row) (m k b : ℕ) → Rising m rs → in_first (nth rs k) b ≡ true → m ≤ b
nth_above [] m k b o h = absurd (false≢true h)
nth_above (r ∷ rs) m zero b (f, fs, e, l, u, o) h = omega (arith, within_lo f.lo f.hi b (rw e at h))
nth_above (r ∷ rs) m (suc k) b (f, fs, e, l, u, o) h = omega (arith, nth_above rs (suc f.hi) k b o h)

chosen_nth : (rs : List Row) (m k b : ℕ) → Rising m rs → in_first (nth rs k) b ≡ true → chosen rs b ≡ behind (drop 1 (nth rs k))
unfolding chosen
chosen_nth [] m k b o h = absurd (false≢true h)
chosen_nth (r ∷ rs) m zero b o h = rw h
chosen_nth (r ∷ rs) m (suc k) b (f, fs, e, l, u, o) h =
    let n : in_first r.bytes b ≡ false = rw e (above_range f.lo f.hi b (omega (arith, nth_above rs (suc f.hi) k b o h))) in
    rw n (chosen_nth rs (suc f.hi) k b o h)

-- the byte is in the first of the ranges, as the code's tests say it
abbrev InFirst : List Range → ℕ → Type 0
InFirst [] b = ⊥
InFirst (r ∷ rs) b = (r.lo ≤ b) × (b ≤ r.hi)

in_first_holds : (rs : List Range) (b : ℕ) → InFirst rs b → in_first rs b ≡ true
in_first_holds [] b h = absurd h
in_first_holds (r ∷ rs) b (h, k) = within_is r.lo r.hi b h k

-- row k is chosen by a byte of its first range
pub by_row : (k b : ℕ) → InFirst (nth table k) b → behind (drop 1 (nth table k)) ≡ lead b
unfolding lead
by_row k b h = sym (chosen_nth table 0 k b rising (in_first_holds (nth table k) b h))

-- no row is chosen between 7F and C2, and above F4; the documents name this law, and no other cites it
pub by_none : (b : ℕ) → 0x7f < b → (0xc2 ≤ b → 0xf4 < b) → None ≡ lead b
unfolding lead chosen table
by_none b h k = grind (arith, common_steps)

-- ── the bytes behind the first ──

-- too few bytes are there
pub trail_short : (n l h : ℕ) (s : List ℕ) → length s < n → trail n l h s ≡ false
unfolding trail
trail_short zero l h s p = absurd (omega arith)
trail_short (suc n) l h [] p = refl
trail_short (suc n) l h (b ∷ s) p = rw (trail_short n 0x80 0xbf s (omega arith)) (and-false (within l h b))

-- no byte is asked for
pub trail_none : (n l h : ℕ) (s : List ℕ) → n < 1 → trail n l h s ≡ true
unfolding trail
trail_none zero l h s p = refl
trail_none (suc n) l h s p = absurd (omega arith)

trail_sixes : (s : List ℕ) → trail (length s) 0x80 0xbf s ≡ list_all (within 0x80 0xbf) s
unfolding trail
trail_sixes [] = refl
trail_sixes (b ∷ s) = rw (trail_sixes s)

-- all of some bytes: the first is in its range, and the others are from 80 to BF
pub trail_all : (l h : ℕ) (s : List ℕ) → 1 ≤ length s → trail (length s) l h s ≡ (within l h (get_or s 0 0) && list_all (within 0x80 0xbf) (drop 1 s))
unfolding trail
trail_all l h [] z = absurd (omega arith)
trail_all l h (b ∷ s) z = rw (trail_sixes s)

-- of the first n, which are x
pub trail_taken : (n l h : ℕ) (s x : List ℕ) → x ≡ take n s → n ≤ length s → trail n l h s ≡ trail (length x) l h x
unfolding trail
trail_taken n l h s x e p = go n l h s p ∙ ap (λ (y : List ℕ). trail (length y) l h y) (sym e)
  where
    go : (n l h : ℕ) (s : List ℕ) → n ≤ length s → trail n l h s ≡ trail (length (take n s)) l h (take n s)
    go zero l h s p = refl
    go (suc n) l h [] p = absurd (omega arith)
    go (suc n) l h (b ∷ s) p = rw (go n 0x80 0xbf s (omega arith))

-- the bytes that follow are there
pub trail_inside : (n l h : ℕ) (s : List ℕ) → trail n l h s ≡ true → n ≤ length s
unfolding trail
trail_inside zero l h s t = omega arith
trail_inside (suc n) l h [] t = absurd (false≢true t)
trail_inside (suc n) l h (b ∷ s) t = omega (arith, trail_inside n 128 191 s (and_r (within l h b) (trail n 128 191 s) t))

-- ── the table's rows ──

-- bytes from 80 to BF, so many
abbrev sixes : ℕ → List Range
sixes zero = []
sixes (suc n) = 0x80 ‥ 0xbf ∷ sixes n

sixes_trail : (n : ℕ) (s : List ℕ) → row_fits (sixes n) s ≡ trail n 0x80 0xbf s
unfolding row_fits trail
sixes_trail zero s = refl
sixes_trail (suc n) [] = refl
sixes_trail (suc n) (b ∷ s) = rw (sixes_trail n s)

-- the bytes behind the first are those of the row x; there is no row
abbrev pub fits_row : Option Trailing → List ℕ → Bool
fits_row None s = false
fits_row (Some x) s = trail x.more x.lo x.hi s

-- how many bytes it has behind its first
abbrev pub more_of : Option Trailing → ℕ
more_of None = 0
more_of (Some x) = x.more

-- the bytes of a row behind its first are those that the code looks for
abbrev Trailed : Row → Type 0
Trailed r = (s : List ℕ) → row_fits (drop 1 r.bytes) s ≡ fits_row (behind (drop 1 r.bytes)) s

trailed : (g : Range) (n : ℕ) (s : List ℕ) → row_fits (g ∷ sixes n) s ≡ trail (suc n) g.lo g.hi s
unfolding row_fits trail
trailed g n [] = refl
trailed g n (b ∷ s) = rw (sixes_trail n s)

all_trailed : Each Trailed table
unfolding table
all_trailed =
    (λ s. unfold row_fits trail in refl)
    ⨾ trailed (0x80 ‥ 0xbf) 0
    ⨾ trailed (0xa0 ‥ 0xbf) 1
    ⨾ trailed (0x80 ‥ 0xbf) 1
    ⨾ trailed (0x80 ‥ 0x9f) 1
    ⨾ trailed (0x80 ‥ 0xbf) 1
    ⨾ trailed (0x90 ‥ 0xbf) 2
    ⨾ trailed (0x80 ‥ 0xbf) 2
    ⨾ trailed (0x80 ‥ 0x8f) 2
    ⨾ tt

-- what the code finds by the row x is what the rows find that fit
record Same (x : Option Trailing) (rs : List Row) (bs : List ℕ) : Type 0 where
  start : not (empty rs) ≡ fits_row x bs
  more : not (empty rs) ≡ true → more_bytes rs ≡ more_of x

same_as : {x y : Option Trailing} {rs qs : List Row} {bs : List ℕ} → x ≡ y → rs ≡ qs → Same y qs bs → Same x rs bs
same_as e f h = rw (e, f) h

behind_more : (fs : List Range) → more_of (behind fs) ≡ length fs
behind_more [] = refl
behind_more (r ∷ rs) = refl

-- a row whose first byte fits, with the bytes behind it there or not
module _ (r : Row) (f : Range) (fs : List Range) (e : r.bytes ≡ f ∷ fs) (t : Trailed r) (bs : List ℕ) where
  found : row_fits fs bs ≡ true → Same (behind (drop 1 r.bytes)) (r ∷ []) bs
  unfolding more_bytes
  found h =
      let k : row_fits (drop 1 r.bytes) bs ≡ true = rw e h in
      record { start = sym k ∙ t bs; more = λ _. rw e (omega (arith, behind_more fs)) }

  not_found : row_fits fs bs ≡ false → Same (behind (drop 1 r.bytes)) [] bs
  not_found h =
      let k : row_fits (drop 1 r.bytes) bs ≡ false = rw e h in
      record { start = sym k ∙ t bs; more = λ z. absurd (false≢true z) }

same : (rs : List Row) (m : ℕ) → Rising m rs → Each Trailed rs → (b : ℕ) (bs : List ℕ) → Same (chosen rs b) (fitting rs (b ∷ bs)) bs
unfolding chosen
same [] m o ts b bs = unfold fitting more_bytes in record { start = refl; more = λ h. refl }
same (r ∷ rs) m o ts b bs =
    let (f, fs, e, l, u, p) = o in
    let i : in_first r.bytes b ≡ within f.lo f.hi b = rw e in
    cases (within f.lo f.hi b)
    (λ w. let g : row_fits r.bytes (b ∷ bs) ≡ row_fits fs bs = fits_first r f fs e b bs w in
    cases (row_fits fs bs)
    (λ h. same_as (rw (i, w)) (alone r rs m (b ∷ bs) o (g ∙ h)) (found r f fs e ts.0 bs h))
    (λ h. same_as (rw (i, w)) (skips r rs (b ∷ bs) (g ∙ h) ∙ none_below rs (suc f.hi) b bs p (omega (arith, within_hi f.lo f.hi b w)))
    (not_found r f fs e ts.0 bs h)))
    (λ w. same_as (rw (i, w)) (skips r rs (b ∷ bs) (unfit r f fs e b bs w)) (same rs (suc f.hi) p ts.1 b bs))

-- so a well-formed character starts where the bytes are those of the row chosen, and has as many bytes
pub starts_is : (b : ℕ) (bs : List ℕ) → starts_char b bs ≡ fits_row (lead b) bs
unfolding starts_char lead
starts_is b bs = (same table 0 rising all_trailed b bs).start

pub following_is : (b : ℕ) (bs : List ℕ) → starts_char b bs ≡ true → following b bs ≡ more_of (lead b)
unfolding starts_char lead following
following_is b bs h = (same table 0 rising all_trailed b bs).more h

-- its bytes are there
pub following_inside : (b : ℕ) (bs : List ℕ) → starts_char b bs ≡ true → following b bs ≤ length bs
following_inside b bs h = go (lead b) refl
  where
    go : (x : Option Trailing) → lead b ≡ x → following b bs ≤ length bs
    go None e = absurd (false≢true (sym (starts_is b bs ∙ rw e) ∙ h))
    go (Some x) e = rw (following_is b bs h, e) (trail_inside x.more x.lo x.hi bs (sym (starts_is b bs ∙ rw e) ∙ h))

-- a byte below 128 is a character
pub starts_one : (b : ℕ) (bs : List ℕ) → b ≤ 127 → (starts_char b bs ≡ true) × (following b bs ≡ 0)
unfolding trail table
starts_one b bs h =
    let r : trailing_row 0 0 0 ≡ lead b = by_row 0 b (omega arith, h) in
    let t : starts_char b bs ≡ true = rw (starts_is b bs, ← r) in
    (t, following_is b bs t ∙ rw (← r))
