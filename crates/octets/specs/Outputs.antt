-- What an output gains.
-- Assumes nothing.
use Rattle.std.specs.Prelude.{ℕ, ◌+◌, ◌<◌, ◌≡◌, ◌^◌, List, length}
use Rattle.octets.specs.Puts.{Put}
use Rattle.octets.specs.declared.Output.{Output}

-- t is s with the bytes w behind those that s has: its bytes are the same lent ones, and w is stored in them as far as there is room and counted, as long
-- as 64 bits hold the count
pub record Gains (s : Output) (w : List ℕ) (t : Output) : Type 0 where
  pub same : t.bytes.ghost_name ≡ s.bytes.ghost_name
  pub put : s.at + length w < 2 ^ 64 → Put s.bytes.now s.at w t.at t.bytes.now
