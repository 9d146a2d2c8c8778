-- A cut at the first byte of a kind, by the place where `position` finds that byte: by induction on the bytes.
-- Assumes nothing.
use native.Mathlib.Omega.{arith}
use Rattle.std.proofs.Common.{◌≡◌, ℕ, suc, ◌+◌, ◌-◌, ◌<◌, Bool, List, [], ◌∷◌, length, take, drop, take_all, length-drop, eqb, ◌≤◌, add-one, refl, ◌∙◌, ap, position}
use Rattle.std.specs.declared.option.Option.{Option}
use Rattle.std.specs.declared.option.Option.TheVariants.{Some, None}
use Rattle.std.specs.List.{position_or_len}
use Rattle.label.specs.Bytes.{cut}
use Rattle.label.specs.Relabel.{line}
use Rattle.label.proofs.Basics.{cases}
use Rattle.std.proofs.lemmas.List.{drop_all}
use borrow.Author.Tests.{ltb-true, ltb-false}
use lib.Dec.{ltb}

-- the place, or the length
abbrev place : (ℕ → Bool) → List ℕ → ℕ
place t s = position_or_len t s

one_more : (n : ℕ) → 1 + n ≡ suc n
one_more n = omega arith

-- what stands before the first byte of the kind, and behind it
before : (t : ℕ → Bool) (s : List ℕ) → (cut t s).before ≡ take (place t s) s
unfolding cut
before t [] = refl
before t (b ∷ bs) =
    cases (t b) (λ h. rw h) (λ h. rw h (rw (one_more (place t bs)) (ap (λ (l : List ℕ). b ∷ l) (before t bs))))

after : (t : ℕ → Bool) (s : List ℕ) → (cut t s).after ≡ drop (suc (place t s)) s
unfolding cut
after t [] = refl
after t (b ∷ bs) =
    cases (t b) (λ h. rw h) (λ h. rw h (rw (one_more (place t bs)) (after t bs)))

-- how much is left behind it
left : (t : ℕ → Bool) (s : List ℕ) → length (cut t s).after ≡ length s - suc (place t s)
left t s = ap length (after t s) ∙ length-drop (suc (place t s)) s

-- behind two lines less is left, where there was something
pub less_behind : (s : List ℕ) → 0 < length s → length (line (line s).after).after < length s
less_behind s h = omega (arith, h, left (λ b. eqb b 10) s, left (λ b. eqb b 10) (line s).after)

-- without such a byte
none : (t : ℕ → Bool) (s : List ℕ) → length s ≤ place t s → ((cut t s).before ≡ s) × ((cut t s).after ≡ [])
none t s h = (before t s ∙ take_all (place t s) s h, after t s ∙ drop_all (suc (place t s)) s (omega (arith, h)))

-- what a cut gives where the place was found, and where there is none
abbrev pub CutBy : (ℕ → Bool) → List ℕ → Option ℕ → Type 0
CutBy t s (Some k) = ((cut t s).before ≡ take k s) × ((cut t s).after ≡ drop (k + 1) s) × (k < length s)
CutBy t s None = ((cut t s).before ≡ s) × ((cut t s).after ≡ [])

pub cut_by : (t : ℕ → Bool) (s : List ℕ) (o : Option ℕ) → o ≡ position t s → CutBy t s o
cut_by t s o h =
    rw h
    (cases (ltb (place t s) (length s)) (λ k. rw k (before t s, rw (add-one (place t s)) (after t s), ltb-true _ _ k))
    (λ k. rw k (none t s (ltb-false _ _ k))))
