-- `attribute::put_resolved`: what came out, before what the rest resolves to, is what the raw value resolves to (`Reached`).
-- Assumes nothing.
use Rattle.attribute.proofs.Storing.{Reached}
use Rattle.attribute.proofs.put_resolved.Given as goal

abbrev pub invariant-loop-piece : goal.invariant-loop-piece
invariant-loop-piece l = Reached l.raw l.initial.output l.piece-iterator l.output
