-- What the calls for C promise of number and place of an answer, and of one lent buffer that is filled: once for all calls.
-- proofs/Promises/Memory.antt has the laws by which each call keeps it.
-- Assumes nothing.
use Rattle.std.specs.Prelude.{ℕ, ◌≤◌, ◌≡◌, ◌↔◌, false, List, length}
use Rattle.label.specs.Outcome.{Check}
use Rattle.label.specs.Calls.{filled}
use Rattle.label.specs.Statements.Memory.{refuses, GivenBy}
use Rattle.glyph_label.specs.declared.GlyphLabelFilled.{GlyphLabelFilled}

-- "A refusal is a number and a place fixed by document 01": number and place of an answer are those of these checks
pub record Fixed (checks : List Check) (number place : ℕ) : Type 0 where
  -- number 0 exactly when no cause holds; its place is 0
  pub accepts : (number ≡ 0) ↔ (refuses checks ≡ false)
  pub no_place : number ≡ 0 → place ≡ 0
  -- every other number is given by the first cause that holds, with its place
  pub refusal : (number ≡ 0 → ⊥) → GivenBy checks number place
  -- and what the first cause that holds gives is the answer
  pub only : (n p : ℕ) → GivenBy checks n p → (number ≡ n) × (place ≡ p)

-- what a call promises that fills one lent buffer (`FillCall` of Contracts): it has these checks, and `count` places to fill with these bytes
pub record Fills (checks : List Check) (count : ℕ) (bytes old : List ℕ) (a : GlyphLabelFilled) (new : List ℕ) : Type 0 where
  pub fixed : Fixed checks a.number a.place
  -- document 02: "a call that fills a lent list or buffer returns how many places it filled, and places behind them stay"
  pub returns : a.number ≡ 0 → a.filled ≡ count
  pub holds : a.number ≡ 0 → new ≡ filled bytes old
  -- all bytes are in the buffer, none past its end
  pub whole : a.number ≡ 0 → length bytes ≤ length old
  -- document 01: "every refusal, later numbers included, changes no lent place"
  pub kept : (a.number ≡ 0 → ⊥) → (a.filled ≡ 0) × (new ≡ old)
