-- How many units a text has and where those of its run start, or the refusal.
-- Assumes nothing.
use Rattle.std.specs.Prelude.{ℕ, ◌≤◌, ◌<◌, ◌≡◌, true, cond, List, length, get_or}
use Rattle.label.specs.Outcome.{Outcome, ok, no}
use Rattle.label.specs.Text.{within, braced, marked}

-- how many units there are, or the refusal
abbrev pub text_count : Outcome (List ℕ) → Outcome ℕ
text_count (ok us) = ok (length us)
text_count (no n p) = no n p

-- the byte of a text where its run's units start: behind the two bytes `{}` where it begins with them
unfoldable pub units_start : List ℕ → ℕ
units_start t = cond (marked t) 2 0

-- that byte, or "begins with `{` but not with `{}`" (4)
unfoldable pub start_read : List ℕ → Outcome ℕ
start_read t = cond (marked t) (ok 2) (cond (braced t) (no 4 0) (ok 0))

-- the first n bytes of a text are of U+0020 to U+007F
pub record IsPlain (t : List ℕ) (n : ℕ) : Type 0 where
  pub inside : n ≤ length t
  pub plain : (i : ℕ) → i < n → within 32 127 (get_or t i 0) ≡ true
