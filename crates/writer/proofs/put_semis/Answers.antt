-- `writer::put_semis`: a turn stores one separator more.
-- Assumes nothing.
use Rattle.std.proofs.lemmas.List.{replicate-append-replicate}
use Rattle.octets.proofs.Outputs.{nothing, then, gains_as}
use Rattle.writer.proofs.put_semis.Goals as goal

pub loop-init : goal.loop-init
loop-init c = nothing

pub loop-preserved : goal.loop-preserved
loop-preserved c = gains_as (replicate-append-replicate c.loop.counter 1 59) (then c.loop.invariant c.put_byte.ensures)
