-- Where the two lines of an input are found: the bytes there are those that the document cuts, by induction on the bytes.
-- Assumes nothing.
use native.Mathlib.Omega.{arith}
use Rattle.std.proofs.Common.{◌≡◌, ℕ, suc, ◌+◌, ◌-◌, ◌≤◌, Bool, cond, List, [], ◌∷◌, length, take, drop, eqb, refl, ◌∙◌, ap, zero-add, length-take, length-take-le, length-drop, position}
use Rattle.std.specs.declared.option.Option.TheVariants.{Some, None}
use borrow.Author.Tests.{lt-ltb, le-ltb, ltb-true, ltb-false}
use lib.Dec.{ltb}
use Rattle.label.specs.Bytes.{cut}
use Rattle.label.specs.Relabel.{line}
use Rattle.label.proofs.Basics.{cases}
use Rattle.lines.specs.Labels.{line_end, line_behind, two_lines, place_ptr}
use Rattle.lines.proofs.Cuts.{cut_by}

-- what stands before a cut is taken from the front
pub front : (t : ℕ → Bool) (s : List ℕ) → take (length (cut t s).before) s ≡ (cut t s).before
unfolding cut
front t [] = refl
front t (b ∷ bs) = cases (t b) (λ h. rw h) (λ h. rw h (ap (λ (l : List ℕ). b ∷ l) (front t bs)))

-- where the next part starts: behind the byte that was found, or at the end
abbrev past : ℕ → List ℕ → ℕ
past n s = cond (ltb n (length s)) (n + 1) n

-- one byte further on
past_next : (n b : ℕ) (bs : List ℕ) → drop (past (suc n) (b ∷ bs)) (b ∷ bs) ≡ drop (past n bs) bs
past_next n b bs =
    cases (ltb n (length bs))
    (λ h. let e : suc n + 1 ≡ suc (n + 1) = omega arith in
    rw (h, lt-ltb (suc n) (length (b ∷ bs)) (omega (arith, ltb-true n (length bs) h)), e))
    (λ h. rw (h, le-ltb (suc n) (length (b ∷ bs)) (omega (arith, ltb-false n (length bs) h))))

-- and what stands behind it is dropped up to there
pub behind : (t : ℕ → Bool) (s : List ℕ) → drop (past (length (cut t s).before) s) s ≡ (cut t s).after
unfolding cut
behind t [] = refl
behind t (b ∷ bs) =
    cases (t b)
    (λ h. rw (h, lt-ltb 0 (length (b ∷ bs)) (omega arith)))
    (λ h. rw h (past_next (length (cut t bs).before) b bs ∙ behind t bs))

inside : (t : ℕ → Bool) (s : List ℕ) → length (cut t s).before ≤ length s
inside t s = omega (arith, ap length (front t s), length-take (length (cut t s).before) s)

-- it is the same from a place on
past_from : (s : List ℕ) (a m : ℕ) → a ≤ length s → a + past m (drop a s) ≡ past (a + m) s
past_from s a m h =
    let n : length (drop a s) ≡ length s - a = length-drop a s in
    cases (ltb m (length (drop a s)))
    (λ k. rw (k, lt-ltb (a + m) (length s) (omega (arith, ltb-true m (length (drop a s)) k))) (omega arith))
    (λ k. rw (k, le-ltb (a + m) (length s) (omega (arith, ltb-false m (length (drop a s)) k))) (omega arith))

-- ── the places of both lines ──

-- a line ends behind its start, and the next one starts behind that, both within the bytes
end_inside : (s : List ℕ) (a : ℕ) → a ≤ length s → (a ≤ line_end s a) × (line_end s a ≤ length s)
unfolding line_end
end_inside s a h = (omega arith, omega (arith, inside (λ b. eqb b 10) (drop a s), length-drop a s))

behind_inside : (s : List ℕ) (e : ℕ) → e ≤ length s → (e ≤ line_behind s e) × (line_behind s e ≤ length s)
unfolding line_behind
behind_inside s e h = cases (ltb e (length s)) (λ k. rw k (omega arith, omega (arith, ltb-true e (length s) k))) (λ k. rw k (omega arith, h))

-- so the places come in their order
pub in_order : (s : List ℕ) → let x = two_lines s 0 in (x.text_end ≤ x.start) × (x.start ≤ x.end) × (x.end ≤ x.next) × (x.next ≤ length s)
unfolding two_lines
in_order s =
    let a = end_inside s 0 (omega arith) in
    let b = behind_inside s (line_end s 0) a.1 in
    let c = end_inside s (line_behind s (line_end s 0)) b.1 in
    let d = behind_inside s (line_end s (line_behind s (line_end s 0))) c.1 in (b.0, c.0, d.0, d.1)

-- where the second line starts
pub second : (s : List ℕ) → drop (two_lines s 0).start s ≡ (line s).after
unfolding two_lines line_end line_behind
second s = rw (zero-add (length (line s).before)) (behind (λ b. eqb b 10) s)

-- where what follows a line starts, from that line on and from the input's start
follows : (s r : List ℕ) (a : ℕ) → drop a s ≡ r → a ≤ length s → a + line_behind r (line_end r 0) ≡ line_behind s (line_end s a)
unfolding line_end line_behind
follows s r a e h = rw (← e, zero-add (length (line (drop a s)).before)) (past_from s a (length (line (drop a s)).before) h)

pub next_from : (s : List ℕ) → (two_lines s 0).start + line_behind (line s).after (line_end (line s).after 0) ≡ (two_lines s 0).next
unfolding two_lines
next_from s =
    let within : (two_lines s 0).start ≤ length s = omega (arith, in_order s) in
    follows s (line s).after (two_lines s 0).start (second s) within

pub next_ptr : (p : ℕ × ℕ) (s : List ℕ)
    → place_ptr (place_ptr p (two_lines s 0).start) (line_behind (line s).after (line_end (line s).after 0)) ≡ place_ptr p (two_lines s 0).next
next_ptr p s =
    let r = (line s).after in
    let e : line_behind r (line_end r 0) + ((two_lines s 0).start + p.1) ≡ (two_lines s 0).next + p.1 = omega (arith, next_from s) in
    ap (λ (n : ℕ). (p.0, n)) e

-- ── a line by the place of its line feed ──

pub next_found : (s : List ℕ) (k : ℕ) → Some k ≡ position (λ b. eqb b 10) s → line_behind s (line_end s 0) ≡ k + 1
unfolding line_end line_behind
next_found s k h =
    let by = cut_by (λ b. eqb b 10) s (Some k) h in
    let n : length (line s).before ≡ k = ap length by.0 ∙ length-take-le k s (omega (arith, by.2)) in
    rw (zero-add (length (line s).before), n, lt-ltb k (length s) by.2)

pub next_missing : (s : List ℕ) → None ≡ position (λ b. eqb b 10) s → line_behind s (line_end s 0) ≡ length s
unfolding line_end line_behind
next_missing s h =
    let by = cut_by (λ b. eqb b 10) s None h in
    let n : length (line s).before ≡ length s = ap length by.0 in
    rw (zero-add (length (line s).before), n, le-ltb (length s) (length s) (omega arith))
