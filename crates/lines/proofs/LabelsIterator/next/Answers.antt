-- A label's lines leave less of the input, where there was something.
-- Assumes nothing.
use Rattle.std.proofs.Common.{rules, arith, ◌<◌, length}
use Rattle.lines.proofs.LabelsIterator.next.Goals as goal

pub returns-clause-goes : goal.returns-clause-goes
returns-clause-goes c =
    let s = c.args.self.now.rest.now in
    let some : 0 < length s = grind (arith, c.if-is_empty.false, c.is_empty.ensures) in
    let less : length c.two_lines-lines.result.rest.now < length s = c.two_lines-lines.ensures.less some in
    search (rules, less)
