-- `text::count_units`: what is counted and the units of the characters left are the whole text's; there are at most two for each byte. Assumes nothing.
use Prim.Native.Nat.{◌≤◌, ◌+◌, ◌*◌}
use mathlib.Core.Path.{◌≡◌}
use lib.ListN.{length}
use Rattle.text.specs.Walk.{characters_from, left}
use Rattle.text.proofs.Counts.{counted}
use Rattle.text.proofs.count_units.Given as goal

abbrev pub invariant-loop-c : goal.invariant-loop-c
invariant-loop-c l =
    let rest = left l.c-iterator in
    (l.n + 2 * length rest ≤ 2 * length l.text) × (counted l.n rest ≡ counted 0 (characters_from l.text 0))
