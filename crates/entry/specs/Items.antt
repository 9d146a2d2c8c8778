-- What reading one entry answers.
-- Assumes nothing.
use Rattle.std.specs.Prelude.{ℕ, ◌≤◌, min, ◌≡◌, Bool, false, cond, List, eqb, pos, length, Result, Ok, Err}
use Rattle.label.specs.Limits.{max_index}
use Rattle.label.specs.Outcome.{Outcome, ok, no}
use Rattle.label.specs.Bytes.{cut}
use Rattle.label.specs.Entry.{Entry}
use Rattle.label.specs.Steps.{entry}
use Rattle.label.specs.Calls.{refusal}
use Rattle.label.specs.Requests.RoundedCount.{rounded_entry}
use Rattle.label.specs.declared.Cause.{Cause}
use Rattle.label.specs.declared.Cause.TheVariants.{IllFormedEntry, IndexTooLarge, NumberTooLarge}
use Rattle.label.specs.declared.Index.TheVariants.{Named}
use Rattle.label.specs.declared.Advance.TheVariants.{Own}
use Rattle.number.specs.declared.Digits.{Digits}
use Rattle.number.specs.Digits.{cap}
use Rattle.entry.specs.declared.Item.{Item}
use Rattle.label.specs.declared.Refusal.{Refusal}

-- an entry of n bytes, with r fields rounded, as the code keeps it
abbrev pub cut_item : ℕ → ℕ → Entry → Item
cut_item n r e = record { mapped = e.mapped; units = min e.units cap; glyphs = min e.glyphs cap; glyph = e.glyph; used = n; rounded = r }

-- `;`
abbrev pub is_semi : ℕ → Bool
is_semi b = eqb b 59

-- the entry that a list begins with: its bytes up to a `;` or the end
abbrev pub here : List ℕ → List ℕ
here t = (cut is_semi t).before

-- the cause that has the number 7, 8 or 9: no entry by itself is refused by another (`result_no` of proofs/Results)
abbrev pub entry_cause : ℕ → Cause
entry_cause n = cond (eqb n 7) IllFormedEntry (cond (eqb n 8) IndexTooLarge NumberTooLarge)

-- the answer for an entry of n bytes, with r fields rounded: document 01's cause and place for a refusal, and else what the entry says
abbrev pub entry_read : ℕ → ℕ → Outcome Entry → Result Item Refusal
entry_read n r (ok e) = Ok (cut_item n r e)
entry_read n r (no i p) = Err (refusal (entry_cause i) p)

-- the answer for the entry of these bytes, entry number k
abbrev pub entry_result : ℕ → List ℕ → Result Item Refusal
entry_result k e = entry_read (length e) (rounded_entry e) (entry k e)

-- the same for the entry that a list begins with
abbrev pub entry_here : ℕ → List ℕ → Result Item Refusal
entry_here k t = entry_result k (here t)

-- what the digits d alone say
abbrev pub index_item : Digits → Item
index_item d =
    record {
      mapped = false;
      units = 1;
      glyphs = 1;
      glyph = record { index = Named d.value; advance = Own; u = pos 0; v = pos 0 };
      used = d.count;
      rounded = 0;
    }

-- the entry in front, whatever its number, is read as the digits d alone
abbrev pub IsIndex : List ℕ → Digits → Type 0
IsIndex t d = (d.value ≤ max_index) × ((k : ℕ) → entry_here k t ≡ Ok (index_item d))
