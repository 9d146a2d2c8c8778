-- What a call prints.
-- Assumes nothing.
use Rattle.std.specs.Prelude.{ℕ, List, Option, Result, OnOk}
use Rattle.std.specs.Io.KnownBytes.{Appends}

-- a call that gave r and no error printed these bytes, behind what was printed before
abbrev pub Prints : {A E : Type 0} → Result A E → Option (List ℕ) → Option (List ℕ) → List ℕ → Type 0
Prints r before after bytes = OnOk r (Appends before after bytes)
