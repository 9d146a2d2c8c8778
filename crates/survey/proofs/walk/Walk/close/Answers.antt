-- `survey::Walk::close`: where a cluster lacks glyphs and where none does, by a law of Endings each. Assumes nothing.
use Rattle.std.proofs.Common.{◌∙◌}
use Rattle.survey.specs.Steps.{bare, state_at}
use Rattle.survey.proofs.Endings.{closed_open, closed_shut}
use Rattle.survey.proofs.walk.Walk.close.Goals as goal

pub returns-then-self-ne0 : goal.returns-then-self-ne0
returns-then-self-ne0 c =
    let w = c.args.self in
    rw c.at.ensures (closed_open w.count w.at.clusters w.at.entry (bare w) (state_at w) c.if-self-ne0.true)

pub returns : goal.returns
returns c =
    let w = c.args.self in
    c.count_tail.ensures ∙ closed_shut w.count w.at.clusters w.at.entry (bare w) (state_at w) c.if-self-ne0.false
