-- `reader::fill`: before the first entry all parts are left (`all_left`), an entry goes on by `fill_turn`, and behind the last the tail is left (`fill_end`).
-- Assumes nothing.
use Rattle.std.proofs.Common.{◌≡◌, sym, ap, ◌∙◌, ◌∷◌, ◌*◌, ◌≤◌, arith, length, take, drop, length-take-le}
use Rattle.label.specs.Entry.{entries}
use Rattle.label.specs.Run.{tail}
use Rattle.label.specs.Steps.{run_from}
use Rattle.label.specs.Fetched.{halves}
use Rattle.label.specs.Calls.{clusters_after, glyphs_after}
use Rattle.text.specs.Moves.{units}
use Rattle.entry.specs.Results.{item_said, result_said, results_left}
use Rattle.reader.proofs.Calls.{parts, walked, few, units_room, units_filled, all_left}
use Rattle.reader.proofs.Filling.{Turn, fill_turn, fill_never, fill_end}
use Rattle.reader.proofs.Storing.{Storing}
use Rattle.reader.proofs.Tails.{units_stored}
use Rattle.reader.proofs.fill.Goals.{In-Ok, In-None, After-fill_units}
use Rattle.reader.proofs.fill.Goals as goal

-- there is room for the units, and they stand there
room : (c : After-fill_units) → 2 * c.args.text.count ≤ length c.fill_units.new.out
room c = omega (arith, units_room c.requires, c.args.text.counted, c.fill_units.auto.out)

stands : (c : After-fill_units) → halves (take (2 * c.args.text.count) c.fill_units.new.out) ≡ units c.args.text.passage
stands c = units_stored (units c.args.text.passage) c.args.units.now c.args.text.counted c.fill_units.ensures

-- the entry that a turn takes
turn : (c : In-Ok) → let o = run_from (units c.args.text.passage) c.args.indices.now in
    Turn (clusters_after o c.args.clusters.now) (glyphs_after o c.args.glyphs.now) (units c.args.text.passage) (results_left c.next.new.self)
    c.loop-entry.clusters c.loop-entry.glyphs c.loop-entry.at c.args.text.count (item_said c.in-Ok.entry)
turn c =
    fill_turn c.loop-entry.invariant c.args.text.count c.args.text.counted (omega (arith, c.args.text.counted, c.args.text.few)) (item_said c.in-Ok.entry)
    (results_left c.next.new.self) (c.in-Some.ensures.steps ∙ ap (λ y. result_said y ∷ results_left c.next.new.self) c.in-Ok.is)

-- behind the last one the tail is left
left : (c : In-None) → let o = run_from (units c.args.text.passage) c.args.indices.now in
    let l = c.loop-entry in
    Storing (clusters_after o c.args.clusters.now) (glyphs_after o c.args.glyphs.now) (tail (drop l.at.units (units c.args.text.passage)))
    l.clusters l.glyphs l.at.clusters l.at.glyphs
left c = fill_end c.loop-entry.invariant c.in-None.ensures.steps.0

pub fill_units-requires : goal.fill_units-requires
fill_units-requires c = units_room c.requires

pub loop-entry-init : goal.loop-entry-init
loop-entry-init c =
    record {
      entries = entries c.args.indices.now;
      results = rw c.into_iter-entry-iterator.ensures.into_iter_gives c.new-entry-items.ensures;
      opener = 0;
      parts = parts c.requires;
      walked = walked c.requires;
      storing = all_left c.args.clusters.now c.args.glyphs.now c.requires;
      inside = omega arith;
      few = omega (arith, few c.requires);
    }

pub put_read-at-requires : goal.put_read-at-requires
put_read-at-requires c = (turn (goal.at.put_read-at-requires c).In-Ok).fits

pub loop-entry-preserved : goal.loop-entry-preserved
loop-entry-preserved c = let e = c.put_read-at.ensures in (turn (goal.at.loop-entry-preserved c).In-Ok).then e.value e.clusters e.glyphs

pub unreachable-requires : goal.unreachable-requires
unreachable-requires c =
    fill_never c.loop-entry.invariant c.in-Err.field-0 (results_left c.next.new.self)
    (c.in-Some.ensures.steps ∙ ap (λ y. result_said y ∷ results_left c.next.new.self) c.in-Err.is)

pub slice_bounds-fill_tail-end : goal.slice_bounds-fill_tail-end
slice_bounds-fill_tail-end c = room (goal.at.slice_bounds-fill_tail-end c).After-fill_units

pub slice_bounds-fill_tail-end-2 : goal.slice_bounds-fill_tail-end-2
slice_bounds-fill_tail-end-2 c = sym (length-take-le _ _ (room (goal.at.slice_bounds-fill_tail-end-2 c).After-fill_units))

pub fill_tail-requires-clause-units : goal.fill_tail-requires-clause-units
fill_tail-requires-clause-units c =
    rw (stands (goal.at.fill_tail-requires-clause-units c).After-fill_units)
    (c.loop-entry.invariant.inside, omega (arith, c.args.text.counted, c.args.text.few))

pub fill_tail-requires-clause-room : goal.fill_tail-requires-clause-room
fill_tail-requires-clause-room c =
    let l = left (goal.at.fill_tail-requires-clause-room c).In-None in
    rw (stands (goal.at.fill_tail-requires-clause-room c).After-fill_units) (l.clusters_room, l.glyphs_room)

pub returns-clause-units : goal.returns-clause-units
returns-clause-units c = units_filled c.requires _ c.fill_units.ensures

pub returns-clause-clusters : goal.returns-clause-clusters
returns-clause-clusters c =
    rw (stands (goal.at.returns-clause-clusters c).After-fill_units) at c.fill_tail.ensures.clusters_after
    ∙ (left (goal.at.returns-clause-clusters c).In-None).clusters

pub returns-clause-glyphs : goal.returns-clause-glyphs
returns-clause-glyphs c =
    rw (stands (goal.at.returns-clause-glyphs c).After-fill_units) at c.fill_tail.ensures.glyphs_after
    ∙ (left (goal.at.returns-clause-glyphs c).In-None).glyphs
