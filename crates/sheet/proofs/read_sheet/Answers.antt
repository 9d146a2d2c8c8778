-- `sheet::read_sheet`: each return is one law of Answers, by what the records are.
-- Assumes nothing.
use Rattle.std.proofs.Common.{arith}
use Rattle.std.proofs.lemmas.Result.{err_from_is_err_and}
use Rattle.sheet.proofs.Answers.{bad_mark, cut, short, stored}
use Rattle.sheet.proofs.read_sheet.Goals as goal

pub returns-in_err-records : goal.returns-in_err-records
returns-in_err-records c =
    let p = err_from_is_err_and c.from_residual.result c.from_residual.ensures.1 in
    rw (p.1, p.2) (bad_mark _ _ _ _ c.in_err-records.ensures.1 c.in_err-records.ensures.0)

pub returns-in_err-labels : goal.returns-in_err-labels
returns-in_err-labels c =
    let p = err_from_is_err_and c.from_residual-in_err-labels.result c.from_residual-in_err-labels.ensures.1 in
    rw (p.1, p.2) (cut _ _ _ c.in_ok-records.ensures.0 c.in_ok-records.ensures.1 _ c.in_err-labels.ensures)

pub returns-then-answers-labels : goal.returns-then-answers-labels
returns-then-answers-labels c = short _ _ _ c.in_ok-records.ensures.0 c.in_ok-records.ensures.1 c.in_ok-labels.ensures _ c.at.ensures
    (omega (arith, c.if-answers-labels.true))

pub returns : goal.returns
returns c = stored _ _ _ c.in_ok-records.ensures.0 c.in_ok-records.ensures.1 c.in_ok-labels.ensures (omega (arith, c.if-answers-labels.false))
    c.put_answers.ensures
