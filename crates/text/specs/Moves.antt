-- What surveying a text comes to, and a move past some of its units: 2 to 5, and 12 and 13 without a unit buffer.
-- Assumes nothing.
use Rattle.std.specs.Prelude.{ℕ, ◌≡◌, true, false, List, leb, length, drop, Result, Ok, Err}
use Rattle.label.specs.Outcome.{ok, no}
use Rattle.label.specs.Run.{keeps_pair}
use Rattle.label.specs.Steps.{text_units}
use Rattle.label.specs.Cause.{cause_number}
use Rattle.label.specs.declared.Refusal.{Refusal}
use Rattle.text.specs.Texts.{units_start}
use Rattle.text.specs.Units.{units_from, well_formed}
use Rattle.text.specs.declared.passage.Passage.{Passage}
use Rattle.text.specs.declared.passage.TextUnits.{TextUnits}
use Rattle.text.specs.declared.MoveFault.{MoveFault}
use Rattle.text.specs.declared.MoveFault.TheVariants.{PastEnd, InsidePair}

-- its units
abbrev pub units : Passage → List ℕ
units p = units_from p.text.now p.at

-- what a survey of the text t says: its run's units, which start behind `{}`; or the refusal
abbrev pub Reads : List ℕ → Result TextUnits Refusal → Type 0
Reads t (Ok x) = (text_units t ≡ ok (units x.passage)) × (x.passage.at ≡ units_start t)
Reads t (Err r) = text_units t ≡ no (cause_number r.cause) r.place

-- what the place behind the first a units says: they are not there (12); or they end between the halves of a pair (13); or the byte from which on a passage
-- has the others
abbrev pub MovesTo : Passage → ℕ → Result ℕ MoveFault → Type 0
MovesTo p a (Err PastEnd) = leb a (length (units p)) ≡ false
MovesTo p a (Err InsidePair) = (leb a (length (units p)) ≡ true) × (keeps_pair a (units p) ≡ false)
MovesTo p a (Ok j) = (leb a (length (units p)) ≡ true) × (keeps_pair a (units p) ≡ true) × (units_from p.text.now j ≡ drop a (units p))
    × (well_formed p.text.now j ≡ true)

-- what a move past the first a units says: they are not there (12); or they end between the halves of a pair (13); or what stands behind them
abbrev pub Moves : Passage → ℕ → Result Passage MoveFault → Type 0
Moves p a (Err PastEnd) = leb a (length (units p)) ≡ false
Moves p a (Err InsidePair) = (leb a (length (units p)) ≡ true) × (keeps_pair a (units p) ≡ false)
Moves p a (Ok q) = (leb a (length (units p)) ≡ true) × (keeps_pair a (units p) ≡ true) × (units q ≡ drop a (units p)) × (q.text ≡ p.text)
