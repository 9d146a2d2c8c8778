-- `sheet::count_labels`: a turn is one label more (`next`), a record in which the file ends is refused with its number (`cut`).
-- Assumes nothing.
use Rattle.std.proofs.Common.{◌≡◌, Some, None, arith}
use Rattle.std.proofs.lemmas.Result.{err_from_is_err_and}
use Rattle.sheet.proofs.Walk.{end, cut, next}
use Rattle.sheet.proofs.count_labels.Goals as goal

pub returns-in_err-ok_or : goal.returns-in_err-ok_or
returns-in_err-ok_or c =
    let p = err_from_is_err_and c.from_residual.result c.from_residual.ensures.1 in
    let e : c.in-Some.label ≡ None = grind arith in
    let r : c.in_err-ok_or.field-0.0 ≡ c.at.result = grind arith in
    rw (p.1, p.2, r, c.at.ensures, cut c.loop-label.invariant.1 _ c.in-Some.ensures.steps e)

pub loop-label-preserved : goal.loop-label-preserved
loop-label-preserved c =
    let e : c.in-Some.label ≡ Some c.in_ok-ok_or.field-0 = grind arith in
    (_, next c.loop-label.invariant.1 _ c.in-Some.ensures.steps e)

pub returns : goal.returns
returns c = rw (end c.loop-label.invariant.1 c.in-None.ensures.steps, c.loop-label.invariant.1.count)
