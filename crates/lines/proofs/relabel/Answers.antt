-- `lines::relabel`: a line that is too long is refused first; the arrays have the lengths that `relabel_in` asks for. Assumes nothing.
use Rattle.lines.proofs.Relabels.{long_line}
use mathlib.Core.Path.{refl}
use Rattle.lines.proofs.relabel.Goals as goal

pub returns-then-label-gt-LINE_BYTES : goal.returns-then-label-gt-LINE_BYTES
returns-then-label-gt-LINE_BYTES c =
    rw (c.at.ensures, ← long_line c.args.label.text.now c.args.label.indices.now c.if-label-gt-LINE_BYTES.true)
    (record { result = refl; text = refl; indices = refl })
