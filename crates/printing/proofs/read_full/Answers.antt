-- The bytes that a read gave stand in the buffer behind those that stood there before it.
use Rattle.std.proofs.Common.{◌≡◌, ℕ, ◌+◌, ◌≤◌, List, ◌++◌, rules, length, take, drop}
use Rattle.std.proofs.Common.{le_refl, sym, ap, ◌∙◌, subst, drop_at, length-take-le}
use Rattle.std.proofs.lemmas.Slice.{take-put_mid_below}
use Rattle.std.specs.Io.KnownBytes.{Consumes}
use Rattle.std.proofs.KnownBytes.{Consumes-trans}
use borrow.Rule.Slice.PartMut.{put_mid, post_of}
use lib.Seq.{take-add, take-append-le}
use Rattle.printing.proofs.read_full.Goals as goal

front : (a k n : ℕ) (xs ys : List ℕ) → a ≤ length xs → n ≤ length ys → take a xs ++ take n ys ≡ take (a + n) (put_mid a k xs ys)
front a k n xs ys within fits =
    let whole = put_mid a k xs ys in
    let first = take-put_mid_below a k xs ys a (le_refl a) within in
    let second = ap (take n) (drop_at (take a xs) (ys ++ post_of a k xs) a (length-take-le a xs within)) ∙ take-append-le n ys (post_of a k xs) fits in
    sym (take-add a n whole ∙ ap (λ l. l ++ take n (drop a whole)) first ∙ ap (λ l. take a xs ++ l) second)

pub loop-done-preserved : goal.loop-done-preserved
loop-done-preserved g c =
    let read = c.in_ok-n.ensures in
    let bytes = Consumes-trans _ _ _ _ _ c.loop-done.invariant.bytes read.bytes.0 in
    record {
      within = search rules;
      bytes = subst (Consumes _ _) (front c.loop-done.done _ c.in_ok-n.n c.loop-done.buf c.read.new.buf c.loop-done.invariant.within read.bound.0) bytes;
    }
