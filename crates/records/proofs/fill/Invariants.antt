-- `records::fill`: the records of the first glyphs are stored, the others are as they were, and the glyphs behind those are left.
use Rattle.std.proofs.Common.{◌≡◌, ◌≤◌, ◌++◌, length, map, take, drop, IsTrue}
use Rattle.wire.specs.Numbers.{as_glyph}
use Rattle.wire.specs.Walks.{glyphs_left}
use Rattle.records.specs.Records.{all_fit}
use Rattle.records.proofs.fill.Given as goal

abbrev pub invariant-loop-record : goal.invariant-loop-record
invariant-loop-record l =
    let all = glyphs_left l.initial.glyphs in
    let k = l.record-index in
    (l.out ≡ take k (map as_glyph all) ++ drop k l.initial.out) × (glyphs_left l.glyphs ≡ drop k all) × (k ≤ length all)
    × IsTrue (all_fit (glyphs_left l.glyphs))
