-- `survey::survey_run`: the loop keeps `Underway`: where the walk stands, what results are left, and the fields rounded so far. Assumes nothing.
use Rattle.text.specs.Moves.{units}
use Rattle.entry.specs.Results.{results_left}
use Rattle.survey.proofs.Surveying.{Underway}
use Rattle.survey.proofs.survey_run.Given as goal

abbrev pub invariant-loop-entry : goal.invariant-loop-entry
invariant-loop-entry l = Underway (units l.run.passage) l.indices l.walk l.rounded (results_left l.entry-iterator)
