-- `entry::Entries::next`: with no rest there is no result, else `results_taken` or `results_refused` of Results by the entry's result; there is one result
-- less then. Assumes nothing.
use Rattle.std.proofs.Common.{length, sym, ap, ◌∙◌, arith}
use Rattle.entry.specs.Results.{result_said, item_said}
use Rattle.entry.proofs.Results.{results_taken, results_refused}
use Rattle.entry.proofs.EntriesIterator.next.Goals as goal
use Rattle.entry.proofs.EntriesIterator.next.Goals.{in-Ok, in-Err}

pub returns-clause-steps : goal.returns-clause-steps
returns-clause-steps c =
    let n = c.args.self.now.number in
    let s = c.in_ok-s.s.now in
    let v = sym c.read_entry-entry.ensures.value in
    elim c.match-entry.branch [
      | in-Ok w ↦ rw (w.entry-is, w.self-is, c.in_ok-s.was)
          (results_taken s n (item_said w.in-Ok.e) (v ∙ ap result_said w.in-Ok.is) w.get-self.result (rw w.used.ensures at w.get-self.ensures.lookup))
      | in-Err w ↦ rw (w.entry-is ∙ w.in-Err.is, w.self-is, c.in_ok-s.was)
          (results_refused s n w.in-Err.field-0 (v ∙ ap result_said w.in-Err.is))
    ]

pub returns-clause-goes : goal.returns-clause-goes
returns-clause-goes c =
    let l = ap length (returns-clause-steps c) in record { on = λ f. (tt, tt, omega (arith, l)); keeps = tt; rests = λ f. tt }
