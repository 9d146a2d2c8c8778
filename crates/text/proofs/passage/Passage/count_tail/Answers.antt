-- `text::Passage::count_tail`: what is counted is the list of characters from there on, and the tail has as many clusters (`tail_count` of Tails), which are no
-- more than units. Assumes nothing.
use Rattle.std.proofs.Common.{◌≡◌, ◌+◌, arith, inl, ap, length}
use Rattle.std.proofs.lemmas.Iterator.Consumers.{YieldsList-from_shown, count_from_yields_List}
use Rattle.label.proofs.Tails.{tail_few}
use Rattle.text.specs.Moves.{units}
use Rattle.label.specs.Run.{tail}
use Rattle.text.specs.Walk.{characters_from, left, Takes}
use Rattle.text.proofs.Moves.{plain_count}
use Rattle.text.proofs.Tails.{tail_count}
use Rattle.text.proofs.passage.Passage.count_tail.Goals.{After-characters_from, After-count}
use Rattle.text.proofs.passage.Passage.count_tail.Goals as goal

-- what is left behind the plain ones, and how many that are
rest : (c : After-characters_from) → length (left c.characters_from.result) ≡ length
    (characters_from c.args.self.text.now (c.args.self.at + c.plain_stretch-plain.result))
rest c = ap (λ w. length (left w)) c.characters_from.ensures

whole : (c : After-characters_from) → c.plain_stretch-plain.result + length (left c.characters_from.result) ≡ length (tail (units c.args.self)).clusters
whole c =
    let p = c.args.self in
    let n = c.plain_stretch-plain.result in
    omega (arith, rest c, plain_count p.text.now p.at n c.plain_stretch-plain.ensures.1, tail_count p.text.now p.at p.well_formed)

pub count-requires-clause-fits : goal.count-requires-clause-fits
count-requires-clause-fits c =
    let p = c.args.self in
    inl (omega (arith, whole (goal.at.count-requires-clause-fits c).After-characters_from, tail_few (units p)))

-- what is counted
counted : (c : After-count) → c.plain_stretch-plain.result + c.count.result ≡ length (tail (units c.args.self)).clusters
counted c =
    let n = count_from_yields_List _ c.count.result c.count.ensures.ran
    (YieldsList-from_shown Takes (λ x. x) left (λ s t e. ap length e.0.0) (λ s x t e. e.0) _) in
    omega (arith, n, whole (goal.at.returns c).After-characters_from)

pub overflow_add-result : goal.overflow_add-result
overflow_add-result c = record { fits = omega (arith, counted (goal.at.overflow_add-result c).After-count, tail_few (units c.args.self)) }

pub returns : goal.returns
returns c = counted (goal.at.returns c).After-count
