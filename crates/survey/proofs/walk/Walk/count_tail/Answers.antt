-- `survey::Walk::count_tail`: the tail has as many glyphs as clusters, so one count serves both (law `tail_counted`). Assumes nothing.
use native.Mathlib.Omega.{arith}
use mathlib.Core.Path.{◌∙◌}
use Rattle.label.proofs.Tails.{tail_few}
use Rattle.text.specs.Moves.{units}
use Rattle.survey.proofs.Endings.{tail_counted}
use Rattle.survey.proofs.walk.Walk.count_tail.Goals as goal

pub overflow_add-counts : goal.overflow_add-counts
overflow_add-counts c = omega (arith, tail_few (units c.args.self.ahead))

pub overflow_add-counts-2 : goal.overflow_add-counts-2
overflow_add-counts-2 c = omega (arith, tail_few (units c.args.self.ahead))

pub returns : goal.returns
returns c = c.limit.ensures ∙ tail_counted _ _ _ _ _ c.count_tail-rest.ensures
