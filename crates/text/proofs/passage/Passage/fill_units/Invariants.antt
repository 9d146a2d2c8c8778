-- `text::Passage::fill_units`: n units are stored, those of the characters left are the others (`Left`), and storing them gives the whole (`Fill`).
-- Assumes nothing.
use Prim.Native.Nat.{◌≤◌}
use lib.ListN.{length}
use Rattle.text.specs.Moves.{units}
use Rattle.text.specs.Walk.{left}
use Rattle.text.proofs.Moves.{Left}
use Rattle.text.proofs.Fills.{Fill}
use Rattle.text.proofs.passage.Passage.fill_units.Given as goal

abbrev pub invariant-loop-c : goal.invariant-loop-c
invariant-loop-c l =
    let us = units l.self in
    (l.n ≤ length us) × Left us l.n (left l.c-iterator) × Fill us l.initial.out l.out l.n
