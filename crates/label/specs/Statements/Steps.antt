-- That the calls are made of the stretches of Steps.antt, which statements and contracts of inner functions speak of, and that the numbers of Fetched.antt are
-- the way back of Wire.antt. proofs/Statements/Steps.antt has a value of the record.
-- Assumes nothing.
use Rattle.std.specs.Prelude.{ℕ, ◌<◌, ◌≡◌, not, ◌&&◌, ◌||◌, List, [], ◌∷◌, leb, pos, negsuc, length, drop}
use Rattle.label.specs.Limits.{max_text_bytes, max_indices_bytes, max_units}
use Rattle.label.specs.Outcome.{ok, ◌>>=◌, ◌>>◌, need}
use Rattle.label.specs.Bytes.{begins}
use Rattle.label.specs.Text.{braced, marked, unmarked}
use Rattle.label.specs.Checks.{read}
use Rattle.label.specs.Wire.{from_halves, from_words}
use Rattle.label.specs.Fetched.{halves, words}
use Rattle.label.specs.Requests.Attribute.{resolve_into}
use Rattle.label.specs.Requests.Sheet.{header, labels_of}
use Rattle.label.specs.Steps.{decode, text_units, run_from, resolve, labels_from}

-- the calls by their stretches, and numbers back from their bytes
pub record Stretches : Type 0 where
  -- "Text size and indices size; then the text from its left": 1, 2 to 5 of the text, 6 to 15 of the indices over its units
  pub reads : (text indices : List ℕ) → read text indices
      ≡ (need (leb (length text) max_text_bytes && leb (length indices) max_indices_bytes) 1 0 >> (text_units text >>= (λ us. run_from us indices)))
  -- "(2 and 3, whichever comes first), 4, 5"
  pub texts : (text : List ℕ) → text_units text
      ≡ (decode 0 0 text >>= (λ all. need (not (braced all) || marked all) 4 0 >> (need (leb (length (unmarked all)) max_units) 5 0 >> ok (unmarked all))))
  -- document 02, CR 2: 23 of the whole value, then 24
  pub resolves : (room : ℕ) (raw : List ℕ) → resolve_into room raw ≡ (resolve raw >>= (λ s. need (leb (length s) room) 24 (length s) >> ok s))
  -- document 02, CR 3: 25, then 26 of the records behind the header
  pub labels : (file : List ℕ) → labels_of file ≡ (need (begins header file) 25 0 >> labels_from 0 0 (drop 5 file))
  -- "a unit is 2 bytes", "every other number of a run 4, two's complement": fetched, they are what was stored
  pub units_back : (us : List ℕ) → halves (from_halves us) ≡ us
  pub naturals_back : (n : ℕ) → n < 2147483648 → words (from_words (pos n ∷ [])) ≡ pos n ∷ []
  pub negatives_back : (n : ℕ) → n < 2147483648 → words (from_words (negsuc n ∷ [])) ≡ negsuc n ∷ []
