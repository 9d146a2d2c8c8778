-- Laws of the units from a place on: where they can be read, they are what is read.
-- Assumes nothing.
use Prim.Native.Nat.{ℕ}
use mathlib.Core.Path.{◌≡◌, refl}
use mathlib.Core.Bool.{true, false≢true}
use mathlib.Core.List.{List}
use lib.ListN.{drop}
use Rattle.label.specs.Outcome.{Outcome, ok, no}
use Rattle.label.specs.Steps.{decode}
use Rattle.text.specs.Units.{units_or, is_read, units_from, well_formed}

-- those of a passage
pub well_read : (s : List ℕ) (i : ℕ) → well_formed s i ≡ true → decode 0 i (drop i s) ≡ ok (units_from s i)
unfolding units_from well_formed
well_read s i h = go (decode 0 i (drop i s)) h
  where
    go : (o : Outcome (List ℕ)) → is_read o ≡ true → o ≡ ok (units_or o)
    go (ok us) h = refl
    go (no n p) h = absurd (false≢true h)

-- what was read makes a passage
module _ (s us : List ℕ) (i : ℕ) (h : decode 0 i (drop i s) ≡ ok us) where
  pub is_formed : well_formed s i ≡ true
  unfolding well_formed
  is_formed = rw h

  pub units_are : units_from s i ≡ us
  unfolding units_from
  units_are = rw h
