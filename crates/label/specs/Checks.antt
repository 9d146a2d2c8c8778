-- "Checks, in order", 1 to 15: a label's part of document 01's table, each row once. A row's cause is computed from what the call is given, whatever the
-- other rows say; the first whose cause holds gives number and place (`verdict`).
-- Assumes nothing.
use Rattle.std.specs.Prelude.{ℕ, ◌+◌, Bool, not, ◌&&◌, ◌||◌, List, [], ◌∷◌, ◌++◌, eqb, length}
use Rattle.label.specs.Limits.{max_text_bytes, max_indices_bytes, max_units, max_glyphs, max_index}
use Rattle.label.specs.Outcome.{Outcome, ok, ◌>>◌, Check, check, above, verdict}
use Rattle.label.specs.Bytes.{empty, value, each, Piece}
use Rattle.label.specs.Text.{starts_char, code_point, xml_char, braced, marked, characters, lent_units, said_units}
use Rattle.label.specs.Entry.{entry_part, index_digits, well_formed, field_fits, Entry, entry_of, entries}
use Rattle.label.specs.Run.{Run, keeps_pair, State, start_state, opens, opens_units, allowed, next, said_parts, said_run}

-- 2 and 3 of a character
abbrev pub char_checks : Piece → List Check
char_checks c =
    check (not (starts_char c.byte c.behind)) 2 c.place ∷
    check (not (xml_char (code_point c.byte c.behind))) 3 c.place ∷
    []

-- "the text from its left (2 and 3, whichever comes first), 4, 5"; "Any other text that begins with `{` is refused"
unfoldable pub text_checks : List ℕ → List Check
text_checks text =
    each char_checks (characters text) ++
    (check (braced (lent_units text) && not (marked (lent_units text))) 4 0 ∷
    check (above (length (said_units text)) max_units) 5 0 ∷
    [])

-- 7, 8, 9 of entry number k. "In 8 and 9 the entry's numbers go from left to right": 8 judges one number, and every 9 of an entry has the same place.
unfoldable pub entry_checks : ℕ → List ℕ → List Check
entry_checks k s =
    check (not (well_formed s)) 7 k ∷
    check (above (value (index_digits (entry_part 0 s))) max_index) 8 k ∷
    check (not (field_fits (entry_part 1 s) && field_fits (entry_part 2 s) && field_fits (entry_part 3 s))) 9 k ∷
    []

-- 10 to 13 of an entry, where the walk stands. 12 and 13 are of the cluster that an entry opens in a text that has units, and are asked there: "cluster passes
-- the end of a text that has units", "cluster ends inside a pair".
unfoldable pub place_checks : Bool → State → Entry → List Check
place_checks bare st e =
    check (eqb e.units 0 || eqb e.glyphs 0) 10 st.k ∷
    check (not (allowed bare st e)) 11 st.k ∷
    check (opens_units bare st && above e.units (length st.rest)) 12 st.k ∷
    check (opens_units bare st && not (keeps_pair e.units st.rest)) 13 (st.at + e.units) ∷
    []

-- "entry by entry 7 to 13 in number order; then 14"; document 02, CR 4: 13 is what "the tail no longer gives"
unfoldable pub walk_checks : Bool → State → List (List ℕ) → List Check
walk_checks bare st [] = check (not (opens st)) 14 st.opener ∷ []
walk_checks bare st (s ∷ ss) = entry_checks st.k s ++ (place_checks bare st (entry_of s) ++ walk_checks bare (next bare st (entry_of s)) ss)

-- "6; then entry by entry 7 to 13 in number order; then 14, [...] 15"
unfoldable pub run_checks : List ℕ → List ℕ → List Check
run_checks us indices =
    check (empty us && empty indices) 6 0 ∷
    (walk_checks (empty us) (start_state us) (entries indices) ++ (check (above (length (said_parts us indices).glyphs) max_glyphs) 15 0 ∷ []))

-- "Text size and indices size; then the text from its left [...]": 1 to 15
unfoldable pub label_checks : List ℕ → List ℕ → List Check
label_checks text indices =
    check (above (length text) max_text_bytes || above (length indices) max_indices_bytes) 1 0 ∷
    (text_checks text ++ run_checks (said_units text) indices)

-- "This paper accepts [a label] when none of 1 to 15 holds, and it then reads as the run defined above."
unfoldable pub read : List ℕ → List ℕ → Outcome Run
read text indices = verdict (label_checks text indices) >> ok (said_run text indices)
