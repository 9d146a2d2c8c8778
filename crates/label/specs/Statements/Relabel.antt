-- Document 01, "Labels to prove and to run": what the program `relabel` prints. proofs/Statements/Relabel.antt has a value of the record.
-- Assumes nothing.
use Rattle.std.specs.Prelude.{ℕ, ◌≤◌, ◌≡◌, ◌↔◌, Bool, true, not, ◌&&◌, List, [], ◌∷◌, ◌++◌, eqb, length}
use Rattle.label.specs.Limits.{max_line_bytes}
use Rattle.label.specs.Outcome.{ok, no, check, above}
use Rattle.label.specs.Statements.Memory.{GivenBy}
use Rattle.label.specs.Run.{Run}
use Rattle.label.specs.Checks.{label_checks, read}
use Rattle.label.specs.Relabel.{relabel_read, printed, relabel}

-- no line feed
abbrev pub one_line : List ℕ → Bool
one_line [] = true
one_line (b ∷ bs) = not (eqb b 10) && one_line bs

-- the program, sentence by sentence
pub record Relabelling : Type 0 where
  -- "reads two lines, text and indices": "A line feed ends a line and is no part of it", and what follows is not looked at
  pub two_lines_holds : (t i rest : List ℕ) → one_line t ≡ true → one_line i ≡ true → relabel (t ++ (10 ∷ (i ++ (10 ∷ rest)))) ≡ printed (relabel_read t i)
  -- the second line may end with the input
  pub unended : (t i : List ℕ) → one_line t ≡ true → one_line i ≡ true → relabel (t ++ (10 ∷ i)) ≡ printed (relabel_read t i)
  -- "a missing line is empty"
  pub missing : (t : List ℕ) → one_line t ≡ true → relabel t ≡ printed (relabel_read t [])
  -- `ok` is printed exactly of what document 01 accepts, "the second up to 32,768 bytes"
  pub accepted : (t i : List ℕ) (r : Run) → (relabel_read t i ≡ ok r) ↔ ((read t i ≡ ok r) × (length i ≤ max_line_bytes))
  -- `no`, "number, place": "(else it acts as for 1)", and as document 01 refuses
  pub refused : (t i : List ℕ) (n p : ℕ) → (relabel_read t i ≡ no n p) ↔ GivenBy (check (above (length i) max_line_bytes) 1 0 ∷ label_checks t i) n p
