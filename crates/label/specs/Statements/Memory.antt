-- What a refusal is, and what every call promises of the memory that is lent to it, once for all calls: the buffers are filled, or exactly what they held.
-- Assumes nothing.
use Rattle.std.specs.Prelude.{ℕ, ◌≡◌, ◌⊎◌, Bool, true, false, ◌||◌, List, [], ◌∷◌, ◌++◌}
use Rattle.label.specs.Outcome.{Outcome, ok, no, Check}
use Rattle.label.specs.Calls.{filled}

-- some cause holds
unfoldable pub refuses : List Check → Bool
refuses [] = false
refuses (c ∷ cs) = c.holds || refuses cs

-- number n with place p is given by these checks: its cause holds, and no earlier one does
pub record GivenBy (cs : List Check) (n p : ℕ) : Type 0 where
  pub earlier : List Check
  pub it : Check
  pub later : List Check
  pub in_order : cs ≡ earlier ++ (it ∷ later)
  pub none_earlier : refuses earlier ≡ false
  pub holds : it.holds ≡ true
  pub number : it.number ≡ n
  pub place : it.place ≡ p

-- buffers filled with these, each from its start: "Places behind the run stay"
unfoldable pub filled_all : {B : Type 0} → List (List B) → List (List B) → List (List B)
filled_all [] old = old
filled_all (v ∷ vs) [] = []
filled_all (v ∷ vs) (b ∷ old) = filled v b ∷ filled_all vs old

-- a call with these checks that says `a` comes to o, and its buffers, which held `old`, hold `new`: no check's cause holds, and they hold what `a` gives, all
-- of it; or the first cause that holds gives number and place, and they hold exactly what they held
abbrev pub Kept : {A B : Type 0} → List Check → A → (A → List (List B)) → Outcome A → List (List B) → List (List B) → Type 0
Kept checks a gives o old new =
    ((refuses checks ≡ false) × (o ≡ ok a) × (new ≡ filled_all (gives a) old))
    ⊎ ((n : ℕ) × (p : ℕ) × GivenBy checks n p × (o ≡ no n p) × (new ≡ old))
