-- What was read is the whole input, or its front where the buffer is full.
use Prim.Native.Nat.{ℕ, ◌≤◌, ◌<◌}
use Rattle.std.proofs.Common.{◌≡◌, List, [], ◌++◌, Some, None, IfSome, OnOk, inl, inr, arith}
use Rattle.std.proofs.Common.{length, take, sym, ap, ◌∙◌, subst, append-nil, take_all, length-take-le}
use Rattle.std.proofs.Math.Nat.{eq-or-lt_of_le}
use lib.Seq.{take_at}
use Rattle.std.specs.declared.option.Option.{Option}
use Rattle.std.specs.Io.KnownBytes.{Appends, Consumes, IsAtEnd}
use Rattle.label.specs.Relabel.{relabel}
use Rattle.relabel.proofs.relabel_input.Goals as goal

-- the front of what there was is what was read: all of it, or as much as there is room for
front : (ys xs : List ℕ) (room : ℕ) → length xs ≤ room → (length xs < room → ys ≡ []) → take room (xs ++ ys) ≡ xs
front ys xs room fits end =
    elim (eq-or-lt_of_le fits) [
      | inl full ↦ take_at xs ys room full
      | inr less ↦ ap (λ (l : List ℕ). take room (xs ++ l)) (end less) ∙ ap (take room) (append-nil xs) ∙ take_all room xs fits
    ]

-- that a reader which had `a` and has `b` left gave xs into this room
record Gave (a b : Option (List ℕ)) (xs : List ℕ) (room : ℕ) : Type 0 where
  bytes : Consumes a b xs
  fits : length xs ≤ room
  end : length xs < room → IsAtEnd b

read_all : (a b : Option (List ℕ)) (xs : List ℕ) (room : ℕ) (P : List ℕ → Type 0) → Gave a b xs room → P xs → IfSome a (λ bytes. P (take room bytes))
read_all None b xs room P r h = tt
read_all (Some x) None xs room P r h = absurd r.bytes
read_all (Some x) (Some y) xs room P r h = subst P (sym (ap (take room) r.bytes ∙ front y xs room r.fits r.end)) h

pub returns : goal.returns
returns g c =
    let read = c.in_ok-n.ensures in
    let has = length-take-le c.in_ok-n.n c.read_full.new.buf read.bound in
    let before = g.W.Write.contents c.args.out.now in
    let after = g.W.Write.contents c.print_first.new.out in
    let xs = take c.in_ok-n.n c.read_full.new.buf in
    let gave : Gave _ _ xs 65536 = record { bytes = read.bytes; fits = omega arith; end = λ less. read.end (omega arith) } in
    read_all _ _ _ 65536 (λ (bytes : List ℕ). OnOk c.print_first.result (Appends before after (relabel bytes))) gave c.print_first.ensures
