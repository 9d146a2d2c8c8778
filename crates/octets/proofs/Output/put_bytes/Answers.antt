-- `octets::Output::put_bytes`: what finds room is stored at once, or a turn gains one byte behind those before it (`then`).
-- Assumes nothing.
use Rattle.std.proofs.Common.{refl, sym, arith}
use Rattle.std.proofs.lemmas.List.{take_more}
use Rattle.octets.proofs.Puts.{copied}
use Rattle.octets.proofs.Outputs.{nothing, then, gains_as}
use Rattle.octets.proofs.Output.put_bytes.Goals as goal

pub returns-then-s-self : goal.returns-then-s-self
returns-then-s-self c =
    record { same = refl; put = λ h. record { behind = refl; is = copied _ _ _ _ _ c.copy_from_slice.ensures.after (omega arith) (omega arith) } }

pub loop-b-init : goal.loop-b-init
loop-b-init c = nothing

pub loop-b-preserved : goal.loop-b-preserved
loop-b-preserved c =
    gains_as (sym (take_more c.args.s.now c.loop-b.b-index 0 c.loop-b-test.true)) (then c.loop-b.invariant c.put_byte.ensures)
