-- `entry::front_of`: each return is one law of EntryLaws over what map and digits come to: `no_map_front`, `no_index` or `code_front`. Assumes nothing.
use Rattle.std.proofs.Common.{◌≡◌, ◌∙◌, rules, drop}
use Rattle.std.proofs.lemmas.List.{take_rest}
use Rattle.number.specs.Digits.{digits_from}
use Rattle.entry.proofs.EntryLaws.{no_map_front, no_index, code_front}
use Rattle.entry.proofs.front_of.Goals as goal
use Rattle.entry.proofs.front_of.Goals.{Joined-map, then-map, else-map}

-- the digits behind the map, or the first ones where there is none
digits_are : (c : Joined-map) → c.if-map.digits ≡ digits_from 0 (drop c.in_ok-map.map.used c.args.e.bytes.now)
digits_are c =
    elim c.if-map.branch [
      | then-map w ↦ w.digits-is ∙ (rw take_rest at w.digits_of-digits.ensures.value)
      | else-map w ↦ w.digits-is ∙ rw (c.in_ok-map.ensures.unmapped w.if-map.false) c.args.e.leads
    ]

pub returns-in_err-map-clause-value : goal.returns-in_err-map-clause-value
returns-in_err-map-clause-value c = c.from_residual.ensures ∙ no_map_front c.args.e.bytes.now c.in_err-map.ensures.value

pub returns-then-digits-eq0-clause-value : goal.returns-then-digits-eq0-clause-value
returns-then-digits-eq0-clause-value c =
    no_index c.args.e.bytes.now _ c.in_ok-map.ensures.value _ (digits_are (goal.at.returns-then-digits-eq0-clause-value c).Joined-map) (search rules)

pub returns-clause-value : goal.returns-clause-value
returns-clause-value c =
    rw c.then_some.ensures (code_front c.args.e.bytes.now _ c.in_ok-map.ensures.value _ (digits_are (goal.at.returns-clause-value c).Joined-map) (search rules))
