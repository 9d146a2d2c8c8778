-- What the labels so far print, and what those that are left print.
-- Assumes nothing.
use Rattle.std.proofs.Common.{◌≡◌, List, ℕ, ◌++◌, length}
use Rattle.std.specs.Io.KnownBytes.{Appends}
use Rattle.lines.specs.Labels.{printed_labels}
use Rattle.trials.proofs.print_labels.Given as goal

abbrev pub invariant-loop-label : goal.invariant-loop-label
invariant-loop-label g l =
    (done : List ℕ) × Appends (g.W.Write.contents l.initial.out) (g.W.Write.contents l.out) done
    × (done ++ printed_labels (length l.label-iterator.rest.now) l.label-iterator.rest.now ≡ printed_labels (length l.input) l.input)
