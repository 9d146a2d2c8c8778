-- The limits of document 01 by name. `Limits::values` ties each name to the constant of the code.
-- Assumes nothing.
use Rattle.std.specs.Prelude.{ℕ}

-- "text above 16,384 bytes" (1)
abbrev pub max_text_bytes : ℕ
max_text_bytes = 16384

-- "or indices above 262,144" (1)
abbrev pub max_indices_bytes : ℕ
max_indices_bytes = 262144

-- "above 4,096 units" (5)
abbrev pub max_units : ℕ
max_units = 4096

-- "above 4,096 glyphs, tail included" (15)
abbrev pub max_glyphs : ℕ
max_glyphs = 4096

-- "index above 65,535" (8)
abbrev pub max_index : ℕ
max_index = 65535

-- "above 18 digits before the exponent" (9)
abbrev pub max_digits : ℕ
max_digits = 18

-- "above 2 in it" (9)
abbrev pub max_exponent_digits : ℕ
max_exponent_digits = 2

-- "or size above 1,000,000,000 thousandths" (9)
abbrev pub max_thousandths : ℕ
max_thousandths = 1000000000

-- "the second up to 32,768 bytes" (`relabel`)
abbrev pub max_line_bytes : ℕ
max_line_bytes = 32768
