-- `text::Passage::place_past`: behind the plain ones in front the invariant holds (`plain_run`), and where the units to pass end inside a character,
-- `left_inside` of Moves says it of what `?` returns. Assumes nothing.
use Rattle.std.proofs.Common.{arith, refl, ◌≡◌, ◌-◌, ◌<◌, ◌∷◌, Ok}
use Rattle.std.proofs.lemmas.Grind.{common_steps}
use Rattle.std.proofs.lemmas.Result.{err_from_is_err_and}
use Rattle.text.specs.Moves.{units}
use Rattle.text.specs.Walk.{left}
use Rattle.text.specs.declared.MoveFault.TheVariants.{InsidePair}
use Rattle.text.proofs.Moves.{Left, left_inside, plain_run}
use Rattle.text.proofs.passage.Passage.place_past.Goals as goal

pub loop-left-init : goal.loop-left-init
loop-left-init c =
    let p = c.args.self in
    let n = c.plain_stretch-plain.result in
    let r = plain_run p.text.now p.at p.well_formed n c.plain_stretch-plain.ensures.1 in
    let same : c.args.count - (c.args.count - n) ≡ n = omega (arith, c.plain_stretch-plain.ensures.0) in
    rw (same, c.characters_from-rest.ensures) (omega arith, r.1, r.0, refl)

pub returns-in_err-left : goal.returns-in_err-left
returns-in_err-left c =
    let us = units c.args.self in
    let k = c.args.count - c.loop-left.left in
    let behind = left c.next.new.self in
    let p = err_from_is_err_and c.from_residual.result c.from_residual.ensures.1 in
    let f : c.in_err-left.field-0.0 ≡ InsidePair = grind (arith, common_steps) in
    let h : Left us k (Ok c.in-Some-Ok.c ∷ behind) = grind (arith, common_steps) in
    let n : c.loop-left.left < c.unit_count.result = grind (arith, common_steps) in
    rw (p.1, p.2, f) (left_inside us k c.in-Some-Ok.c behind h c.args.count c.loop-left.invariant.1 (omega arith) (omega arith))
