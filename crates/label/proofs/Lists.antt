-- General laws, each by cases: tests that stand for others, lists without elements, an outcome by its counts.
-- Assumes nothing.
use Prim.Native.Nat.{ℕ, suc}
use native.Mathlib.Omega.{arith}
use mathlib.Core.Path.{◌≡◌, refl, sym}
use mathlib.Core.Bool.{Bool, ◌&&◌}
use mathlib.Core.List.{List, [], ◌∷◌}
use borrow.Author.Tests.{ne_eqb}
use lib.Dec.{eqb}
use lib.ListN.{length}
use Rattle.label.specs.Outcome.{Outcome, ok, no}
use Rattle.label.specs.Bytes.{empty}
use Rattle.label.specs.Run.{Run}
use Rattle.label.specs.Calls.{counts, counted}
use Rattle.label.proofs.Basics.{no_ok}

-- both tests put in
pub and_of : {r a b a' b' : Bool} → r ≡ (a && b) → a ≡ a' → b ≡ b' → r ≡ (a' && b')
and_of e p q = cc

-- a list has no elements exactly where its length is 0
pub empty_is : {A : Type 0} (l : List A) → empty l ≡ eqb (length l) 0
empty_is [] = refl
empty_is (x ∷ l) = sym (ne_eqb (suc (length l)) 0 (λ e. omega arith))

-- a refusal has no counts
pub counted_no : (o : Outcome Run) (n p : ℕ) → counted o ≡ no n p → o ≡ no n p
counted_no (ok r) n p e = no_ok n p (counts r) (sym e)
counted_no (no m q) n p e = cc
