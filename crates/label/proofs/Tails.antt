-- The laws of the unwritten tail: its first cluster and what is behind it (`tail_first`), how many it has, that all is the font's, and that none is written.
-- Assumes nothing.
use Prim.Native.Nat.{ℕ, zero, suc, ◌+◌, ◌-◌, ◌/◌, ◌%◌, ◌≤◌}
use native.Mathlib.Omega.{arith}
use native.Mathlib.Nat.{not-suc-le-zero}
use mathlib.Core.Path.{◌≡◌, refl}
use mathlib.Core.Bool.{true, false, cond, and-false}
use mathlib.Core.List.{List, [], ◌∷◌, ◌++◌}
use borrow.Author.Tests.{not-true, leb-false}
use lib.Dec.{leb}
use lib.ListN.{length, get_or, drop}
use Rattle.label.specs.Bytes.{trim}
use Rattle.label.specs.Text.{xml_char, is_high, is_low, is_pair, units_of}
use Rattle.label.specs.Run.{font_glyph, cluster, add_glyph, keeps_pair, tail}
use Rattle.label.specs.Sound.{is_font, all_font}
use Rattle.label.specs.Write.{entry_by, entries_by}
use Rattle.label.specs.declared.Glyph.{Glyph}
use Rattle.label.specs.declared.Cluster.{Cluster}
use Rattle.label.proofs.Basics.{and_l, and_r, cases}
use Rattle.label.proofs.Splits.{trim_nil, trim_gone}
use Rattle.label.proofs.Outputs.{font_empty}
use Rattle.label.proofs.Text.{xml_not_high, xml_halves}

-- an empty entry before others that are dropped
gone : (x : List ℕ) (xs : List (List ℕ)) → x ≡ [] → trim xs ≡ [] → trim (x ∷ xs) ≡ []
gone x xs h k = trim_gone x xs (rw (h, k))

-- ── its clusters ──

pub tail_nil : tail [] ≡ record { clusters = []; glyphs = [] }
unfolding tail
tail_nil = refl

-- how many units its first cluster has
abbrev pub wide : List ℕ → ℕ
wide us = cond (is_pair us) 2 1

pub tail_cons : (u : ℕ) (us : List ℕ) → tail (u ∷ us) ≡ add_glyph true (cluster (wide (u ∷ us)) 1) font_glyph (tail (drop (wide (u ∷ us)) (u ∷ us)))
unfolding tail
tail_cons u [] = let p : is_pair (u ∷ []) ≡ false = and-false (is_high u) in rw p
tail_cons u (v ∷ us) = cases (is_pair (u ∷ v ∷ us)) (λ p. rw p) (λ p. rw p)

-- its first cluster, by how many units it has
pub tail_first : (us : List ℕ) (a : ℕ) → 1 ≤ length us → wide us ≡ a → tail us ≡ add_glyph true (cluster a 1) font_glyph (tail (drop a us))
tail_first [] a h e = absurd (not-suc-le-zero h)
tail_first (u ∷ us) a h e = rw (← e) (tail_cons u us)

pub plain_wide : (us : List ℕ) → keeps_pair 1 us ≡ true → wide us ≡ 1
plain_wide us h = let p : is_pair us ≡ false = rw (not-true (is_low (get_or us 1 0)) h) (and-false (is_high (get_or us 0 0))) in rw p

-- every cluster has one glyph, and every glyph is the font's
pub tail_even : (us : List ℕ) → length (tail us).glyphs ≡ length (tail us).clusters
unfolding tail
tail_even [] = refl
tail_even (u ∷ []) = refl
tail_even (u ∷ v ∷ us) = cases (is_pair (u ∷ v ∷ us)) (λ p. rw (p, tail_even us)) (λ p. rw (p, tail_even (v ∷ us)))

-- it has no more clusters than units
pub tail_few : (us : List ℕ) → length (tail us).clusters ≤ length us
unfolding tail
tail_few [] = omega arith
tail_few (u ∷ []) = omega arith
tail_few (u ∷ v ∷ us) = cases (is_pair (u ∷ v ∷ us)) (λ p. rw p (omega (arith, tail_few us))) (λ p. rw p (omega (arith, tail_few (v ∷ us))))

pub tail_font : (us : List ℕ) → all_font (tail us).glyphs ≡ true
unfolding tail all_font
tail_font [] = refl
tail_font (u ∷ []) = refl
tail_font (u ∷ v ∷ us) = cases (is_pair (u ∷ v ∷ us)) (λ p. rw (p, tail_font us)) (λ p. rw (p, tail_font (v ∷ us)))

-- ── glyphs wholly the font's are not written ──

pub font_cons : (g : Glyph) (gs : List Glyph) → all_font (g ∷ gs) ≡ true → (is_font g ≡ true) × (all_font gs ≡ true)
unfolding all_font
font_cons g gs h = (and_l (is_font g) (all_font gs) h, and_r (is_font g) (all_font gs) h)

pub font_written : (w : ℕ → List ℕ) (gs : List Glyph) (lack : ℕ) (cs : List Cluster) → all_font gs ≡ true → trim (entries_by w lack cs gs) ≡ []
unfolding entries_by
font_written w [] zero [] h = trim_nil
font_written w [] zero (c ∷ cs) h = trim_nil
font_written w [] (suc n) cs h = trim_nil
font_written w (g ∷ gs) (suc n) cs h =
    let (f, k) = font_cons g gs h in
    gone (entry_by w 1 1 g) (entries_by w n cs gs) (font_empty w 1 1 g f) (font_written w gs n cs k)
font_written w (g ∷ gs) zero [] h = trim_nil
font_written w (g ∷ gs) zero (c ∷ cs) h =
    let (f, k) = font_cons g gs h in
    gone (entry_by w c.units c.glyphs g) (entries_by w (c.glyphs - 1) cs gs) (font_empty w c.units c.glyphs g f)
    (font_written w gs (c.glyphs - 1) cs k)

-- ── the characters of its units ──

-- each is one cluster
pub tail_char : (c : ℕ) (us : List ℕ) → xml_char c ≡ true → tail (units_of c ++ us) ≡ add_glyph true (cluster (length (units_of c)) 1) font_glyph (tail us)
unfolding units_of
tail_char c us x =
    cases (leb c 65535)
    (λ t. rw t (tail_first (c ∷ us) 1 (omega arith) (rw (xml_not_high c x))))
    (λ t. let (h, l) = xml_halves c x (leb-false c 65535 t) in
    rw t (tail_first ((55296 + (c - 65536) / 1024) ∷ (56320 + (c - 65536) % 1024) ∷ us) 2 (omega arith) (rw (h, l))))
