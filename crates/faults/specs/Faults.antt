-- The parts that a refusal can speak of.
-- Assumes nothing.
use Rattle.std.specs.Prelude.{ℕ, ◌-◌, cond, List, [], ltb, length, get_or, Option, Some, None}
use Rattle.label.specs.Entry.{entries}
use Rattle.label.specs.Fault.{entry_start, portion}
use Rattle.label.specs.declared.Part.{Part}
use Rattle.label.specs.declared.Source.TheVariants.{Text, Indices}

-- "the text from that place on", where it is a place of the text
abbrev pub text_shown : List ℕ → ℕ → Option Part
text_shown t p = cond (ltb p (length t)) (Some (portion Text p (length t - p))) None

-- "the entry": entry k of the indices, where there is one
unfoldable pub entry_shown : List ℕ → ℕ → Option Part
entry_shown s k = cond (ltb k (length (entries s))) (Some (portion Indices (entry_start (entries s) k) (length (get_or (entries s) k [])))) None
