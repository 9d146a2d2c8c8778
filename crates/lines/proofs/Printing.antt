-- What the labels of an input print, one label at a time: each leaves less of the input, so the count of labels may be any that is large enough.
-- Assumes nothing.
use Rattle.std.proofs.Common.{◌≡◌, ℕ, zero, suc, ◌≤◌, ◌<◌, List, [], ◌∷◌, ◌++◌, length, refl, ap, arith}
use Rattle.label.specs.Relabel.{line, relabel_read, printed}
use Rattle.lines.specs.declared.TwoLines.{TwoLines}
use Rattle.lines.specs.Labels.{TwoLinesOf, printed_labels}
use Rattle.lines.proofs.Cuts.{less_behind}

-- any count that is large enough prints the same
enough : (m n : ℕ) (s : List ℕ) → length s ≤ m → length s ≤ n → printed_labels m s ≡ printed_labels n s
unfolding printed_labels
enough zero zero s h k = refl
enough zero (suc n) [] h k = refl
enough zero (suc n) (b ∷ bs) h k = absurd (omega (arith, h))
enough (suc m) zero [] h k = refl
enough (suc m) zero (b ∷ bs) h k = absurd (omega (arith, k))
enough (suc m) (suc n) [] h k = refl
enough (suc m) (suc n) (b ∷ bs) h k =
    let rest = (line (line (b ∷ bs)).after).after in
    let less = less_behind (b ∷ bs) (omega arith) in
    ap (λ l. printed (relabel_read (line (b ∷ bs)).before (line (line (b ∷ bs)).after).before) ++ l)
    (enough m n rest (omega (arith, less, h)) (omega (arith, less, k)))

-- the first label, and those behind it
first : (s : List ℕ) → 0 < length s
    → printed_labels (length s) s
    ≡ printed (relabel_read (line s).before (line (line s).after).before)
    ++ printed_labels (length (line (line s).after).after) (line (line s).after).after
unfolding printed_labels
first [] h = absurd (omega (arith, h))
first (b ∷ bs) h =
    let rest = (line (line (b ∷ bs)).after).after in
    ap (λ l. printed (relabel_read (line (b ∷ bs)).before (line (line (b ∷ bs)).after).before) ++ l)
    (enough (length bs) (length rest) rest (omega (arith, less_behind (b ∷ bs) (omega arith))) (omega arith))

-- the same where x has the two lines
pub prints_first : (s : List ℕ) (x : TwoLines) → 0 < length s → TwoLinesOf s x
    → printed_labels (length s) s ≡ printed (relabel_read x.label.text.now x.label.indices.now) ++ printed_labels (length x.rest.now) x.rest.now
prints_first s x h k = rw (k.text, k.indices, k.rest) (first s h)

pub prints_none : (s : List ℕ) → s ≡ [] → printed_labels (length s) s ≡ []
unfolding printed_labels
prints_none s h = rw h
