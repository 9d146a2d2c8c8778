-- `octets::Output::put_bytes`: the output has gained the bytes before the turn's.
-- Assumes nothing.
use Rattle.std.proofs.Common.{take}
use Rattle.octets.specs.Outputs.{Gains}
use Rattle.octets.proofs.Output.put_bytes.Given as goal

abbrev pub invariant-loop-b : goal.invariant-loop-b
invariant-loop-b l = Gains l.initial.self (take l.b-index l.s) l.self
