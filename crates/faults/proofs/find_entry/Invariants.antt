-- `faults::find_entry`: entry k of all is entry k - i of those from the start on, after i of them. Assumes nothing.
use Rattle.std.proofs.Common.{◌≡◌, ◌-◌, ◌≤◌, length}
use Rattle.faults.specs.Faults.{entry_shown}
use Rattle.faults.proofs.Faults.{part_from}
use Rattle.faults.proofs.find_entry.Given as goal

abbrev pub invariant-loop : goal.invariant-loop
invariant-loop l = record {
  within : l.start ≤ length l.indices;
  left : entry_shown l.indices l.k ≡ part_from l.indices l.start (l.k - l.counter);
}
