-- `faults::entry_length`: the place that was found, or else the length of all (`length_here`). Assumes nothing.
use Rattle.std.proofs.Common.{◌∙◌, ap, length, unwrap_or}
use Rattle.faults.proofs.Faults.{length_here}
use Rattle.faults.proofs.entry_length.Goals as goal

pub returns : goal.returns
returns c =
    let s = c.args.indices.now in
    c.unwrap_or.ensures ∙ ap (λ o. unwrap_or o (length s)) c.position_of.ensures ∙ length_here s
