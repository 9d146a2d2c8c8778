-- `attribute::resolve`: each return is one law of Answers, about what the first pass answered.
use Rattle.std.proofs.Common.{rules}
use Rattle.std.proofs.lemmas.Result.{err_from_is_err_and}
use Rattle.attribute.proofs.Answers.{bad, too_short, stored}
use Rattle.attribute.proofs.resolve.Goals as goal

pub returns-in_err-n : goal.returns-in_err-n
returns-in_err-n c =
    let p = err_from_is_err_and c.from_residual.result c.from_residual.ensures.1 in
    rw (p.1, p.2) (bad c.args.raw.now c.args.out.now _ c.in_err-n.ensures)

pub returns-then-out-n : goal.returns-then-out-n
returns-then-out-n c = too_short c.args.raw.now c.args.out.now c.in_ok-n.ensures c.at.ensures (search rules)

pub returns : goal.returns
returns c = stored c.args.raw.now c.args.out.now c.in_ok-n.ensures (search rules) _ c.put_resolved-2.ensures
