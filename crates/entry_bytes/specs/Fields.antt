-- The fields of an entry behind its index.
-- Assumes nothing.
use Rattle.std.specs.Prelude.{ℕ, List, [], ◌∷◌, ℤ}
use Rattle.label.specs.Bytes.{join_rest, trim}
use Rattle.label.specs.Sound.{number_advance}
use Rattle.label.specs.Write.{value_bytes, advance_by, offset_by}

-- without the empty ones at the end, each behind a comma
unfoldable pub fields : ℤ → ℤ → ℤ → List ℕ
fields a u v =
    join_rest 44 (trim (advance_by value_bytes (number_advance a) ∷ offset_by value_bytes u ∷ offset_by value_bytes v ∷ []))
