-- What a call comes to: a value, or a refusal with its number and its place; and checks, the first of which whose cause holds decides. `need` and `◌>>=◌`
-- serve what is said by steps: the laws, Steps.antt and Statements/.
-- Assumes nothing.
use Rattle.std.specs.Prelude.{ℕ, Bool, true, false, cond, not, List, [], ◌∷◌, leb}

infixl 10 ◌>>=◌ ◌>>◌
-- a value; or a number of the table and its "Returned place"
pub data Outcome (A : Type 0) : Type 0 where
  ok : A → Outcome A
  no : ℕ → ℕ → Outcome A

-- on with the value; a refusal stays, and no later check is asked
abbrev pub ◌>>=◌ : {A B : Type 0} → Outcome A → (A → Outcome B) → Outcome B
◌>>=◌ (ok a) f = f a
◌>>=◌ (no n p) f = no n p

-- the same where the value is not needed
abbrev pub ◌>>◌ : {A B : Type 0} → Outcome A → Outcome B → Outcome B
◌>>◌ (ok a) o = o
◌>>◌ (no n p) o = no n p

-- the check with this number: passed where the test is true, else refused at the place
abbrev pub need : Bool → ℕ → ℕ → Outcome (Unit {0})
need true n p = ok tt
need false n p = no n p

-- ── checks ──

-- whether a row's cause holds, its number and its place
pub record Check : Type 0 where
  pub holds : Bool
  pub number : ℕ
  pub place : ℕ

-- the row of a cause, a number and a place; "Where a number has no place named, the place is 0"
abbrev pub check : Bool → ℕ → ℕ → Check
check h n p = record { holds = h; number = n; place = p }

-- n is above the limit
abbrev pub above : ℕ → ℕ → Bool
above n limit = not (leb n limit)

-- "No number is given unless its cause holds and no earlier one does": the first whose cause holds
unfoldable pub verdict : List Check → Outcome (Unit {0})
verdict [] = ok tt
verdict (c ∷ cs) = cond c.holds (no c.number c.place) (verdict cs)
