-- `writer::put_semis`: as many separators as turns.
-- Assumes nothing.
use Rattle.std.proofs.Common.{replicate}
use Rattle.octets.specs.Outputs.{Gains}
use Rattle.writer.proofs.put_semis.Given as goal

abbrev pub invariant-loop : goal.invariant-loop
invariant-loop l = Gains l.initial.out (replicate l.counter 59) l.out
