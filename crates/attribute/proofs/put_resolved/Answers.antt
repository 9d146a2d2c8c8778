-- `attribute::put_resolved`: start, turn and both returns are laws of Storing; what the output gains stands in the slice that it lends on.
-- Assumes nothing.
use Rattle.std.proofs.Common.{refl, sym, ap, ◌∙◌, rules, arith}
use Rattle.std.proofs.lemmas.Result.{err_from_is_err_and}
use Rattle.label.specs.Write.{utf8}
use Rattle.attribute.specs.Pieces.{piece_bytes}
use Rattle.attribute.proofs.Storing.{start, end, bad, good}
use Rattle.attribute.proofs.put_resolved.Goals as goal

pub loop-piece-init : goal.loop-piece-init
loop-piece-init c = rw c.into_iter-piece-iterator.ensures.into_iter_gives (start refl refl)

pub returns-in_err-b : goal.returns-in_err-b
returns-in_err-b c =
    let p = err_from_is_err_and c.from_residual.result c.from_residual.ensures.1 in
    rw (p.1, p.2) (bad c.loop-piece.invariant _ c.in-Some.ensures.steps c.in_err-b.was)

pub loop-piece-preserved-in-Byte : goal.loop-piece-preserved-in-Byte
loop-piece-preserved-in-Byte c = good c.loop-piece.invariant _ c.in-Some.ensures.steps c.in_ok-b.was (sym (ap piece_bytes c.in-Byte.is)) c.put_byte.ensures

pub loop-piece-preserved : goal.loop-piece-preserved
loop-piece-preserved c = good c.loop-piece.invariant _ c.in-Some.ensures.steps c.in_ok-b.was (ap utf8 c.from.ensures ∙ sym (ap piece_bytes c.in-Char.is))
    c.put_char.ensures.gains

pub returns : goal.returns
returns c =
    let g = c.loop-piece.invariant in
    let p = g.gained.put (omega (arith, g.few, g.inside)) in
    (g.w, end g c.in-None.ensures.steps, search rules)
