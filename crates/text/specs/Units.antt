-- The units from a byte place of a text on, and whether they can be read.
-- Assumes nothing.
use Rattle.std.specs.Prelude.{ℕ, Bool, true, false, List, [], drop}
use Rattle.label.specs.Outcome.{Outcome, ok, no}
use Rattle.label.specs.Steps.{decode}

-- the units, or none on a refusal
abbrev pub units_or : Outcome (List ℕ) → List ℕ
units_or (ok us) = us
units_or (no n p) = []

-- it is no refusal
abbrev pub is_read : Outcome (List ℕ) → Bool
is_read (ok us) = true
is_read (no n p) = false

-- the units of a text from byte `at` on, where a character starts
unfoldable pub units_from : List ℕ → ℕ → List ℕ
units_from s at = units_or (decode 0 at (drop at s))

-- no character from there on is refused
unfoldable pub well_formed : List ℕ → ℕ → Bool
well_formed s at = is_read (decode 0 at (drop at s))
