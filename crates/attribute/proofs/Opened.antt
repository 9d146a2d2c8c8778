-- Document 02's definitions of what stands at a byte, opened: the check tries these at each return of `read_piece`.
-- Assumes nothing.
use Rattle.std.proofs.Common.{◌≡◌, ℕ, suc, cond, not, ◌&&◌, ◌||◌, eqb, List, [], ◌∷◌, length, get_or, refl}
use Rattle.std.proofs.lemmas.Bool.Decides.{nat_tests}
use Rattle.label.specs.Write.{utf8}
use Rattle.label.specs.Requests.Attribute.{referred, body, is_reference, is_good, spaced, gives, further}

module _ (b : ℕ) where
  pub spaced_is : spaced b ≡ cond (eqb b 9 || eqb b 10 || eqb b 13) 32 b
  unfolding spaced
  spaced_is = refl

  module _ (bs : List ℕ) where
    pub good_is : is_good b bs ≡ (not (eqb b 60) && (not (eqb b 38) || is_reference bs))
    unfolding is_good
    good_is = refl

    pub gives_is : gives b bs ≡ cond (eqb b 38) (utf8 (referred (body bs))) (spaced b ∷ [])
    unfolding gives
    gives_is = refl

    pub further_is : further b bs ≡ cond (eqb b 38) (suc (length (body bs))) (cond (eqb b 13 && eqb (get_or bs 0 0) 10) 1 0)
    unfolding further
    further_is = refl

pub ruleset opened = (spaced_is, good_is, gives_is, further_is, nat_tests)
