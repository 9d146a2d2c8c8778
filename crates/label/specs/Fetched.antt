-- The numbers that bytes hold, computed from them: the way back of Wire.antt, for the test of soundness and what a run handed in holds. That they are those
-- of the run that is read is `Demand2.run_is`; that they are the way back, `Stretches.units_back`, `naturals_back` and `negatives_back`.
-- Assumes nothing.
use Rattle.std.specs.Prelude.{ℕ, ◌+◌, ◌*◌, ◌-◌, Bool, true, false, cond, List, [], ◌∷◌, ltb, ℤ, pos, negsuc}

-- the units that these bytes hold; a byte left over holds none
unfoldable pub halves : List ℕ → List ℕ
halves [] = []
halves (a ∷ []) = []
halves (a ∷ b ∷ s) = (a + 256 * b) ∷ halves s

-- the number whose two's complement of 32 bits this is
unfoldable pub signed : ℕ → ℤ
signed n = cond (ltb n 0x8000_0000) (pos n) (negsuc (0xffff_ffff - n))

-- the numbers that these bytes hold; bytes left over hold none
unfoldable pub words : List ℕ → List ℤ
words [] = []
words (a ∷ []) = []
words (a ∷ b ∷ []) = []
words (a ∷ b ∷ c ∷ []) = []
words (a ∷ b ∷ c ∷ d ∷ s) = signed (a + 256 * b + 65536 * c + 16777216 * d) ∷ words s

-- no byte is left over behind units
unfoldable pub even_bytes : List ℕ → Bool
even_bytes [] = true
even_bytes (a ∷ []) = false
even_bytes (a ∷ b ∷ s) = even_bytes s

-- no byte is left over behind other numbers
unfoldable pub word_bytes : List ℕ → Bool
word_bytes [] = true
word_bytes (a ∷ []) = false
word_bytes (a ∷ b ∷ []) = false
word_bytes (a ∷ b ∷ c ∷ []) = false
word_bytes (a ∷ b ∷ c ∷ d ∷ s) = word_bytes s
