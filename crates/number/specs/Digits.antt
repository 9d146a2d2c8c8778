-- Bytes and digits at the front of a list, as the scan over an entry meets them.
-- Assumes nothing.
use Rattle.std.specs.Prelude.{Bool, true, cond, ◌||◌, List, [], ◌∷◌, ℕ, ◌+◌, ◌-◌, ◌*◌, min, length, get_or, eqb}
use Rattle.label.specs.Bytes.{is_digit, value_from}
use Rattle.number.specs.declared.Digits.{Digits}

-- the first byte; 0 where there is none
abbrev pub head_of : List ℕ → ℕ
head_of t = get_or t 0 0

-- at the end, or before a byte of a kind
abbrev pub ends : (ℕ → Bool) → List ℕ → Bool
ends t [] = true
ends t (b ∷ y) = t b

-- `,` or `;`
abbrev pub is_break : ℕ → Bool
is_break b = eqb b 44 || eqb b 59

-- the digits that a list begins with
abbrev pub lead : List ℕ → List ℕ
lead [] = []
lead (b ∷ t) = let r = lead t in cond (is_digit b) (b ∷ r) []

-- a number of digits of any length is kept up to 10^18, which no count of units or glyphs reaches
abbrev pub cap : ℕ
cap = 1000000000000000000

-- one digit more behind v
abbrev pub pushed : ℕ → ℕ → ℕ
pushed v b = min (v * 10 + (b - 48)) cap

-- how many digits stand in front, and their value behind v
abbrev pub digits_from : ℕ → List ℕ → Digits
digits_from v t = record { count = length (lead t); value = min (value_from v (lead t)) cap }
