-- `text::Passage::place_past`: the units passed so far are of the passage, and those of the characters left are the others (`Left`); a character takes at least
-- one. Assumes nothing.
use Prim.Native.Nat.{◌-◌, ◌≤◌}
use mathlib.Core.Path.{◌≡◌}
use lib.ListN.{length}
use Rattle.text.specs.Moves.{units}
use Rattle.text.specs.Walk.{characters_from}
use Rattle.text.proofs.Moves.{Left}
use Rattle.text.proofs.passage.Passage.place_past.Given as goal

abbrev pub invariant-loop-left : goal.invariant-loop-left
invariant-loop-left l =
    let us = units l.self in
    let passed = l.count - l.left in
    (l.left ≤ l.count) × (passed ≤ length us) × Left us passed (characters_from l.self.text.now l.rest.at) × (l.rest.text ≡ l.self.text)

abbrev pub decreases-loop-left : goal.decreases-loop-left
decreases-loop-left l = l.left
