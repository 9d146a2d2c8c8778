-- `lines::two_lines`: behind two lines less is left (`less_behind`); where the second line's own start is, and what follows it (`next_ptr`).
-- Assumes nothing.
use Rattle.std.proofs.Common.{◌∙◌}
use Rattle.lines.specs.Labels.{two_lines}
use Rattle.lines.proofs.Cuts.{less_behind}
use Rattle.lines.proofs.Places.{next_ptr}
use Rattle.lines.proofs.two_lines.Goals as goal

pub returns-clause-less : goal.returns-clause-less
returns-clause-less c h =
    rw (c.first_line-indices.ensures.rest, c.first_line-text.ensures.rest) (less_behind c.args.input.now h)

pub returns-clause-own : goal.returns-clause-own
unfolding two_lines
returns-clause-own c =
    let text = c.first_line-text.ensures in
    let indices = c.first_line-indices.ensures in
    record {
      text = text.own.0;
      indices = indices.own.0 ∙ text.own.1;
      rest = indices.own.1 ∙ rw (text.own.1, text.rest) (next_ptr c.args.input.ref_ptr c.args.input.now);
    }
