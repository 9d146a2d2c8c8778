-- The bytes of an entry stand in the indices behind those of the entries before it and their semicolons.
-- Assumes nothing.
use Prim.Native.Nat.{ℕ, zero, suc, ◌+◌, ◌<◌, ◌≤◌}
use native.Mathlib.Omega.{arith}
use mathlib.Core.Path.{◌≡◌, refl, ap}
use mathlib.Core.List.{List, [], ◌∷◌}
use lib.Dec.{eqb}
use lib.ListN.{length, get_or, take, drop}
use Rattle.label.specs.Bytes.{on_first, split}
use Rattle.label.specs.Entry.{entries}
use Rattle.label.specs.Fault.{entry_start}
use Rattle.label.proofs.Basics.{cases}
use Rattle.label.proofs.Splits.{split_nil, split_hit, split_miss}

-- part k of these ends in the bytes s, and stands there
abbrev pub Stands : List ℕ → List (List ℕ) → ℕ → Type 0
Stands s es k =
    (entry_start es k + length (get_or es k []) ≤ length s) × (take (length (get_or es k [])) (drop (entry_start es k) s) ≡ get_or es k [])

abbrev pub AllStand : List ℕ → List (List ℕ) → Type 0
AllStand s es = (k : ℕ) → k < length es → Stands s es k

-- behind a byte more
behind : (b : ℕ) (s : List ℕ) (m n k : ℕ) (x : List ℕ) → n ≡ suc m → (m + k ≤ length s) × (take k (drop m s) ≡ x)
    → (n + k ≤ suc (length s)) × (take k (drop n (b ∷ s)) ≡ x)
behind b s m n k x e (l, q) = (omega arith, rw e q)

-- a semicolon begins a new part, any other byte is the first part's
stand_hit : (b : ℕ) (s : List ℕ) (es : List (List ℕ)) → AllStand s es → AllStand (b ∷ s) ([] ∷ es)
unfolding entry_start
stand_hit b s es h zero l = (omega arith, refl)
stand_hit b s es h (suc k) l = behind b s (entry_start es k) _ (length (get_or es k [])) (get_or es k []) (omega arith) (h k (omega arith))

stand_miss : (b : ℕ) (s : List ℕ) (es : List (List ℕ)) → AllStand s es → AllStand (b ∷ s) (on_first b es)
unfolding entry_start
stand_miss b s [] h zero l = (omega arith, refl)
stand_miss b s [] h (suc k) l = absurd (omega arith)
stand_miss b s (x ∷ xs) h zero l = let (m, e) = h 0 (omega arith) in (omega arith, ap (λ (y : List ℕ). b ∷ y) e)
stand_miss b s (x ∷ xs) h (suc k) l =
    behind b s (length x + 1 + entry_start xs k) _ (length (get_or xs k [])) (get_or xs k []) (omega arith) (h (suc k) l)

split_stands : (s : List ℕ) → AllStand s (split 59 s)
split_stands [] = rw (split_nil 59) (λ k l. none k l)
  where
    none : AllStand [] ([] ∷ [])
    none zero l = unfold entry_start in (omega arith, refl)
    none (suc k) l = absurd (omega arith)
split_stands (b ∷ s) =
    cases (eqb b 59)
    (λ t. rw (split_hit 59 b s t) (stand_hit b s (split 59 s) (split_stands s)))
    (λ t. rw (split_miss 59 b s t) (stand_miss b s (split 59 s) (split_stands s)))

pub entry_stands : (s : List ℕ) → AllStand s (entries s)
unfolding entries
entry_stands [] k l = absurd (omega arith)
entry_stands (b ∷ s) k l = split_stands (b ∷ s) k l
