-- Document 02, CR 1: how many given fields of a label were rounded. The count is of the indices alone and no part of the run.
-- Assumes nothing.
use Rattle.std.specs.Prelude.{ℕ, ◌%◌, ◌*◌, ◌+◌, ◌^◌, Bool, cond, ◌||◌, List, [], ◌∷◌, eqb, length}
use Rattle.label.specs.Outcome.{Outcome, ok, no}
use Rattle.label.specs.Bytes.{empty, value}
use Rattle.label.specs.Entry.{minus, unsigned, at_exponent, mantissa_digits, fraction_digits, exponent_digits, entry_part, entries}

-- m × 10^(e − f) × 1000 is a whole number: the ratio that `scaled` rounds leaves no remainder; `down` where e is negative
unfoldable pub is_whole : ℕ → ℕ → Bool → ℕ → Bool
is_whole m f down e = cond down (eqb (m * 10 ^ 3 % 10 ^ (f + e)) 0) (eqb (m * 10 ^ (e + 3) % 10 ^ f) 0)

-- "Reading a number now says whether its exact value was a whole count of thousandths": of an unsigned number, as the sign changes nothing
unfoldable pub is_exact : List ℕ → Bool
is_exact s = is_whole (value (mantissa_digits s)) (length (fraction_digits s)) (minus (at_exponent s).after) (value (exponent_digits s))

-- "the count of given fields that were not": 1 for such a field; "an offset not given counts as exact", and so does an advance
unfoldable pub rounded_field : List ℕ → ℕ
rounded_field s = cond (empty s || is_exact (unsigned s)) 0 1

-- the fields of an entry, document 01's "advance, u offset, v offset"
unfoldable pub rounded_entry : List ℕ → ℕ
rounded_entry s = rounded_field (entry_part 1 s) + rounded_field (entry_part 2 s) + rounded_field (entry_part 3 s)

-- "The count is defined from the entries": the sum over some of them
unfoldable pub rounded_entries : List (List ℕ) → ℕ
rounded_entries [] = 0
rounded_entries (s ∷ ss) = rounded_entry s + rounded_entries ss

-- "the count" of a label, from its indices alone: "no part of the run"
unfoldable pub rounded : List ℕ → ℕ
rounded indices = rounded_entries (entries indices)

-- "An accepted label returns the count [...], beside the run; [...] a refusal as 0"
abbrev pub beside : {A : Type 0} → ℕ → Outcome A → ℕ
beside n (ok a) = n
beside n (no i p) = 0
