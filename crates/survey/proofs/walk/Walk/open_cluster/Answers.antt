-- `survey::Walk::open_cluster`: the three answers of `pass_units` are the cluster, 12 and 13, by one law of Placing each. Assumes nothing.
use Rattle.std.proofs.Common.{◌∙◌, ap, Err}
use Rattle.survey.proofs.Placing.{opens_to, opens_past, opens_half}
use Rattle.survey.proofs.walk.Walk.open_cluster.Goals as goal

pub returns-in-Ok : goal.returns-in-Ok
returns-in-Ok c = opens_to _ _ _ _ _ _ c.pass_units.ensures c.in-Ok.is c.step.ensures

pub returns-in-Err-PastEnd : goal.returns-in-Err-PastEnd
returns-in-Err-PastEnd c =
    opens_past _ _ _ _ _ c.pass_units.ensures (c.in-Err-PastEnd.is ∙ ap Err c.in-Err-PastEnd.field-0-is) c.at.ensures

pub returns-in-Err-InsidePair : goal.returns-in-Err-InsidePair
returns-in-Err-InsidePair c =
    opens_half _ _ _ _ _ c.pass_units.ensures (c.in-Err-InsidePair.is ∙ ap Err c.in-Err-InsidePair.field-0-is) c.at-in-Err-InsidePair.ensures
