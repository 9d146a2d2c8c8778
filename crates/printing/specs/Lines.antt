-- The lines that are printed of a label that was read, from its counts and its two normal lines.
-- Assumes nothing.
use Rattle.std.specs.Prelude.{ℕ, List, [], ◌∷◌, ◌++◌}
use Rattle.label.specs.Bytes.{decimal}
use Rattle.label.specs.declared.Counts.{Counts}

-- a line with its line feed
abbrev pub line_of : List ℕ → List ℕ
line_of s = s ++ (10 ∷ [])

-- "`ok`, units, clusters, glyphs", "single spaces between"
abbrev pub counts_line : Counts → List ℕ
counts_line c = 111 ∷ 107 ∷ 32 ∷ (decimal c.units ++ (32 ∷ (decimal c.clusters ++ (32 ∷ (decimal c.glyphs ++ (10 ∷ []))))))

-- "then both normal lines"
abbrev pub run_lines : Counts → List ℕ → List ℕ → List ℕ
run_lines c text indices = counts_line c ++ line_of text ++ line_of indices
