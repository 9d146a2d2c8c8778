-- The two lines that are found are those that the document cuts.
use Rattle.lines.proofs.Standing.{standing}
use Rattle.relabel.proofs.print_first.Goals as goal

pub returns : goal.returns
returns g c = rw (standing.prints_given c.args.s.now _ c.two_lines-lines.ensures.lines) c.print_label.ensures
