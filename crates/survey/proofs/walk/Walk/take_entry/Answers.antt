-- `survey::Walk::take_entry`: 10, a cluster that opens, a further glyph and 11 are one law of Placing each, by the three tests. Assumes nothing.
use Rattle.std.proofs.Common.{rules}
use Rattle.survey.proofs.Placing.{turn_ten, turn_eleven, turn_opens, turn_further}
use Rattle.survey.proofs.walk.Walk.take_entry.Goals as goal

pub returns-then-not-has_counts : goal.returns-then-not-has_counts
returns-then-not-has_counts c = turn_ten _ _ _ c.at.ensures (search rules)

pub returns-then-opens_here : goal.returns-then-opens_here
returns-then-opens_here c = turn_opens _ _ _ c.open_cluster.ensures (search rules) (search rules)

pub returns-then-is_plain_index : goal.returns-then-is_plain_index
returns-then-is_plain_index c = turn_further _ _ _ c.step.ensures (search rules) (search rules) (search rules)

pub returns-else-is_plain_index : goal.returns-else-is_plain_index
returns-else-is_plain_index c = turn_eleven _ _ _ c.at-else-is_plain_index.ensures (search rules) (search rules)
