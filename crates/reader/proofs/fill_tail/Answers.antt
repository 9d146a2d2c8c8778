-- `reader::fill_tail`: a turn stores the tail's next cluster and its glyph (`tail_turn`, `tail_next`); where none is left, all is stored (`tail_stored`).
-- Assumes nothing.
use Rattle.std.proofs.Common.{◌≡◌, ◌∙◌, ◌<◌, arith, length, drop}
use Rattle.label.specs.Fetched.{halves}
use Rattle.label.proofs.Tails.{wide}
use Rattle.reader.proofs.Tails.{pair_at, tail_turn, tail_next, tail_stored}
use Rattle.reader.proofs.fill_tail.Goals as goal
use Rattle.reader.proofs.fill_tail.Goals.{Joined-begins_with_pair, then-begins_with_pair, else-begins_with_pair}

-- how many units the tail's next cluster has
taken_is : (c : Joined-begins_with_pair) → c.if-begins_with_pair.taken ≡ wide (drop c.loop-at.at.units (halves c.args.units.now))
taken_is c =
    let p = c.begins_with_pair.ensures ∙ pair_at c.args.units.now c.loop-at.at.units in
    elim c.if-begins_with_pair.branch [
      | then-begins_with_pair w ↦ w.taken-is ∙ rw (← p, w.if-begins_with_pair.true)
      | else-begins_with_pair w ↦ w.taken-is ∙ rw (← p, w.if-begins_with_pair.false)
    ]

more : (c : Joined-begins_with_pair) → c.loop-at.at.units < length (halves c.args.units.now)
more c = omega (arith, c.loop-at-test.true, c.unit_count-count.ensures.value)

pub open_cluster-at-requires-clause-counts : goal.open_cluster-at-requires-clause-counts
open_cluster-at-requires-clause-counts c =
    let j = (goal.at.open_cluster-at-requires-clause-counts c).Joined-begins_with_pair in
    let t = tail_turn c.loop-at.invariant (more j) (taken_is j) in
    omega (arith, t.few, t.inside, c.requires.units.1)

pub open_cluster-at-requires-clause-room : goal.open_cluster-at-requires-clause-room
open_cluster-at-requires-clause-room c =
    let j = (goal.at.open_cluster-at-requires-clause-room c).Joined-begins_with_pair in
    (tail_turn c.loop-at.invariant (more j) (taken_is j)).room

pub loop-at-preserved : goal.loop-at-preserved
loop-at-preserved c =
    let j = (goal.at.loop-at-preserved c).Joined-begins_with_pair in
    let e = c.open_cluster-at.ensures in
    tail_next c.loop-at.invariant (more j) (taken_is j) e.value e.clusters e.glyphs

pub returns-clause-clusters_after : goal.returns-clause-clusters_after
returns-clause-clusters_after c = (tail_stored c.loop-at.invariant (omega (arith, c.loop-at-test.false, c.unit_count-count.ensures.value))).0

pub returns-clause-glyphs_after : goal.returns-clause-glyphs_after
returns-clause-glyphs_after c = (tail_stored c.loop-at.invariant (omega (arith, c.loop-at-test.false, c.unit_count-count.ensures.value))).1
