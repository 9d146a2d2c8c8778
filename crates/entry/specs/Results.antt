-- What reading entries one after another gives.
-- Assumes nothing.
use Rattle.std.specs.Prelude.{ℕ, suc, ◌≡◌, List, [], ◌∷◌, Option, Some, None, Result, Ok, Err}
use Rattle.std.specs.Borrow.{Bor}
use Rattle.label.specs.Bytes.{split}
use Rattle.label.specs.declared.Refusal.{Refusal}
use Rattle.entry.specs.declared.Item.{Item}
use Rattle.entry.specs.declared.entries.Entries.{Entries}
use Rattle.entry.specs.declared.entries.ReadEntry.{ReadEntry}
use Rattle.entry.specs.declared.entries.ReadEntry.TheVariants.{Index, Full}
use Rattle.entry.specs.Items.{entry_result, index_item}

-- what an entry that was read says
abbrev pub item_said : ReadEntry → Item
item_said (Index n k) = index_item (record { count = k; value = n })
item_said (Full x) = x

-- the same, or its refusal
abbrev pub result_said : Result ReadEntry Refusal → Result Item Refusal
result_said (Ok e) = Ok (item_said e)
result_said (Err r) = Err r

-- a result before others; behind a refusal there is none
abbrev pub before : Result Item Refusal → List (Result Item Refusal) → List (Result Item Refusal)
before (Ok x) rs = Ok x ∷ rs
before (Err r) rs = Err r ∷ []

-- the results of these entries, the first having number k, up to the first refusal
unfoldable pub entry_results : ℕ → List (List ℕ) → List (Result Item Refusal)
entry_results k [] = []
entry_results k (e ∷ es) = before (entry_result k e) (entry_results (suc k) es)

-- those of the entries that these bytes are, the first having number k; none where there are no bytes
abbrev pub rest_results : ℕ → Option (Bor (List ℕ)) → List (Result Item Refusal)
rest_results k (Some s) = entry_results k (split 59 s.now)
rest_results k None = []

-- those that the iterator still gives
abbrev pub results_left : Entries → List (Result Item Refusal)
results_left e = rest_results e.number e.rest

-- a step of the iterator from s, which leaves t: there is no result, and there will be none, or the first one is given and the others are left
abbrev pub GivesEntry : Entries → Option (Result ReadEntry Refusal) → Entries → Type 0
GivesEntry s None t = (results_left s ≡ []) × (results_left t ≡ [])
GivesEntry s (Some r) t = results_left s ≡ result_said r ∷ results_left t
