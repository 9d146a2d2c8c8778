-- `trials::main`: what was read is a front of the buffer.
use Rattle.std.proofs.Common.{sym, length-take-le, ℕ}
use Rattle.std.proofs.lemmas.List.{length-replicate}
use Rattle.trials.proofs.main.Goals as goal

pub slice_bounds-read_full-end : goal.slice_bounds-read_full-end
slice_bounds-read_full-end c = sym (length-replicate {0} {A = ℕ} 1048576 0)

pub slice_bounds-input-end : goal.slice_bounds-input-end
slice_bounds-input-end c = c.in_ok-n.ensures.bound

pub slice_bounds-print_labels-end : goal.slice_bounds-print_labels-end
slice_bounds-print_labels-end c = sym (length-take-le _ _ c.in_ok-n.ensures.bound)
