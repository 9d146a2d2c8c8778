-- The rows of Table 3-7 as the code takes them: a first byte chooses a row, and the bytes behind it are judged by that row.
-- Assumes nothing.
use Rattle.std.specs.Prelude.{ℕ, zero, suc, Bool, true, false, cond, ◌&&◌, List, [], ◌∷◌, length, drop, Option, Some, None}
use Rattle.label.specs.Text as T
use Rattle.utf8.specs.declared.Trailing.{Trailing}

-- a row with n bytes behind its first, the second from l to h
abbrev pub trailing_row : ℕ → ℕ → ℕ → Option Trailing
trailing_row n l h = Some (record { more = n; lo = l; hi = h })

-- a byte is in the first of the ranges
abbrev pub in_first : List T.Range → ℕ → Bool
in_first [] b = false
in_first (r ∷ rs) b = T.within r.lo r.hi b

-- what the ranges behind the first say
abbrev pub behind : List T.Range → Option Trailing
behind [] = trailing_row 0 0 0
behind (r ∷ rs) = trailing_row (suc (length rs)) r.lo r.hi

-- the row of some rows that first byte b chooses, where one of them has it
unfoldable pub chosen : List T.Row → ℕ → Option Trailing
chosen [] b = None
chosen (r ∷ rs) b = cond (in_first r.bytes b) (behind (drop 1 r.bytes)) (chosen rs b)

-- the row of Table 3-7 that first byte b chooses, where there is one
unfoldable pub lead : ℕ → Option Trailing
lead b = chosen T.table b

-- the bytes behind the first: so many, the second byte from lo to hi, the others from 80 to BF
unfoldable pub trail : ℕ → ℕ → ℕ → List ℕ → Bool
trail zero lo hi bs = true
trail (suc n) lo hi [] = false
trail (suc n) lo hi (b ∷ bs) = T.within lo hi b && trail n 0x80 0xbf bs
