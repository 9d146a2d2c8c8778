-- `survey::Walk::take_index`: a cluster that opens and a further glyph, by the laws of Placing that `take_entry` has. Assumes nothing.
use Rattle.std.proofs.Common.{refl, rules}
use Rattle.survey.proofs.Placing.{turn_further, turn_opens}
use Rattle.survey.proofs.walk.Walk.take_index.Goals as goal

pub returns-then-opens_here : goal.returns-then-opens_here
returns-then-opens_here c = λ n k. turn_opens _ _ _ c.open_cluster.ensures refl (search rules)

pub returns-else-opens_here : goal.returns-else-opens_here
returns-else-opens_here c = λ n k. turn_further _ _ _ c.step.ensures refl (search rules) refl
