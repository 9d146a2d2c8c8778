-- Laws of the answer to a label, by what the survey says of it.
-- Assumes nothing.
use Rattle.std.proofs.Common.{◌≡◌, ℕ, ◌<◌, List, [], ◌∷◌, to_z, sym, subst, arith}
use mir.Syntax.{w32}
use mir.Facts.{to_z_pos}
use Rattle.label.specs.Outcome.{Outcome, no}
use Rattle.label.specs.Run.{Run}
use Rattle.label.specs.Checks.{read}
use Rattle.label.specs.Calls.{counted}
use Rattle.label.specs.Requests.Sheet.{answer_of}
use Rattle.label.proofs.Lists.{counted_no}
use Rattle.label.proofs.Refusals.{Placed, refused, read_placed}

module _ (t i : List ℕ) {n p : ℕ} (e : no n p ≡ counted (read t i)) where
  is_refused : read t i ≡ no n p
  is_refused = counted_no (read t i) n p (sym e)

  bounded : (n < 2147483648) × (p < 2147483648)
  bounded = of (subst (λ (o : Outcome Run). Placed 15 262145 o) is_refused (read_placed t i))
    where
      of : Placed {A = Run} 15 262145 (no n p) → (n < 2147483648) × (p < 2147483648)
      of (refused a b d) = (omega arith, omega arith)

  -- a place fits 32 bits
  pub place_small : p < 2147483648
  place_small = bounded.1

  pub told : (to_z w32 n ∷ to_z w32 p ∷ []) ≡ answer_of (read t i)
  told = rw (to_z_pos w32 bounded.0, to_z_pos w32 bounded.1, is_refused)
