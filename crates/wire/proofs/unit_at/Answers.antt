-- `wire::unit_at`: a unit is its two bytes, which are one chunk of the buffer (law `unit_in`); past the end the value is the default.
use Rattle.std.proofs.Common.{◌≡◌, ◌<◌, ◌≤◌, length, get_or, [], arith, rules, ◌∙◌, sym}
use Rattle.std.proofs.lemmas.List.{get_or_read}
use Rattle.label.specs.Fetched.{halves}
use Rattle.wire.proofs.Fetched.{halves_length}
use Rattle.wire.proofs.Runs.{unit_in}
use lib.ListN.{get_or-eq_default}
use Rattle.wire.proofs.unit_at.Goals as goal

pub returns-in-Some : goal.returns-in-Some
returns-in-Some c =
    let h = c.in-Some.ensures.lookup in
    let xs = c.as_chunks.result.0.now in
    let l : c.args.j < length xs = search rules in
    let e : c.in-Some.unit.now ≡ get_or xs c.args.j [] = get_or_read xs c.args.j _ l h.1 [] in
    c.from_le_bytes.ensures ∙ rw (e, c.as_chunks.ensures.front) (unit_in c.args.s.now c.args.j (omega arith))

pub returns-in-None : goal.returns-in-None
returns-in-None c =
    let l : length c.as_chunks.result.0.now ≤ c.args.j = search rules in
    sym (get_or-eq_default (halves c.args.s.now) 0 (omega (arith, halves_length c.args.s.now)))
