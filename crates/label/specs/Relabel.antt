-- "The program `relabel`".
-- Assumes nothing.
use Rattle.std.specs.Prelude.{ℕ, List, [], ◌∷◌, ◌++◌, eqb, length}
use Rattle.label.specs.Limits.{max_line_bytes}
use Rattle.label.specs.Outcome.{Outcome, ok, no, ◌>>◌, check, above, verdict}
use Rattle.label.specs.Bytes.{Cut, cut, decimal}
use Rattle.label.specs.Run.{Run, said_run}
use Rattle.label.specs.Checks.{label_checks}
use Rattle.label.specs.Write.{normal}

-- "A line feed ends a line and is no part of it; a missing line is empty."
abbrev pub line : List ℕ → Cut
line s = cut (λ b. eqb b 10) s

-- "the second up to 32,768 bytes (else it acts as for 1)"
unfoldable pub relabel_read : List ℕ → List ℕ → Outcome Run
relabel_read text indices = verdict (check (above (length indices) max_line_bytes) 1 0 ∷ label_checks text indices) >> ok (said_run text indices)

-- "prints `ok`, units, clusters, glyphs, then both normal lines; or `no`, number, place on one line, single spaces between"; every line ends in a line
-- feed
abbrev pub printed : Outcome Run → List ℕ
printed (no n p) = 110 ∷ 111 ∷ 32 ∷ (decimal n ++ (32 ∷ (decimal p ++ (10 ∷ []))))
printed (ok r) =
    111 ∷ 107 ∷ 32 ∷ (decimal (length r.units) ++ (32 ∷ (decimal (length r.clusters) ++ (32 ∷ (decimal (length r.glyphs) ++ (10 ∷ []))))))
    ++ ((normal r).text ++ (10 ∷ [])) ++ ((normal r).indices ++ (10 ∷ []))

-- "The program `relabel` reads two lines, text and indices"; what follows them is not looked at
unfoldable pub relabel : List ℕ → List ℕ
relabel input = printed (relabel_read (line input).before (line (line input).after).before)
