-- `faults::fault`: the part that was found lies inside its owner (law `part_inside`), so it can be cut out of it; by which of the two owns it. Assumes nothing.
use native.Mathlib.Omega.{arith}
use Rattle.faults.proofs.Faults.{part_below, in_indices, in_text}
use Rattle.faults.proofs.fault.Goals as goal

pub overflow_add-end : goal.overflow_add-end
overflow_add-end c = record { fits = part_below _ _ _ _ _ c.find_part-part.ensures 18446744073709551616 (omega arith) (omega arith) }

pub slice_bounds-result-end : goal.slice_bounds-result-end
slice_bounds-result-end c = in_text _ _ _ _ _ c.find_part-part.ensures c.in-Text.is

pub slice_bounds-result-end-in-Indices : goal.slice_bounds-result-end-in-Indices
slice_bounds-result-end-in-Indices c = in_indices _ _ _ _ _ c.find_part-part.ensures c.in-Indices.is
