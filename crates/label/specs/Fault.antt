-- "Showing a fault": the offending part of the caller's own bytes.
-- Assumes nothing.
use Rattle.std.specs.Prelude.{ℕ, zero, suc, ◌+◌, ◌-◌, Bool, cond, ◌&&◌, ◌||◌, List, [], ◌∷◌, leb, ltb, eqb, length, get_or, take, drop}
use Rattle.label.specs.Entry.{entries}
use Rattle.label.specs.declared.Part.{Part}
use Rattle.label.specs.declared.Source.{Source}
use Rattle.label.specs.declared.Source.TheVariants.{Text, Indices}

-- "for 2 to 4 the text"
abbrev pub of_text : ℕ → Bool
of_text n = leb 2 n && leb n 4

-- "for 7 to 12 and 14 the entry"
abbrev pub of_entry : ℕ → Bool
of_entry n = (leb 7 n && leb n 12) || eqb n 14

-- where entry k starts: behind the k entries before it and their semicolons
unfoldable pub entry_start : List (List ℕ) → ℕ → ℕ
entry_start [] k = 0
entry_start (e ∷ es) zero = 0
entry_start (e ∷ es) (suc k) = length e + 1 + entry_start es k

-- n bytes from byte a on, of the text or of the indices
abbrev pub portion : Source → ℕ → ℕ → Part
portion s a n = record { source = s; start = a; length = n }

-- what there is of the text and of the indices, as the source says
abbrev pub of_source : {A : Type 0} → A → A → Source → A
of_source t i Text = t
of_source t i Indices = i

-- "for 2 to 4 the text from that place on, for 7 to 12 and 14 the entry, else, or where no such place exists (the text's length and the count of entries
-- are already past the last), the empty start of the text"
unfoldable pub fault_part : List ℕ → List ℕ → ℕ → ℕ → Part
fault_part text indices number place =
    cond (of_text number && ltb place (length text)) (portion Text place (length text - place))
    (cond (of_entry number && ltb place (length (entries indices)))
    (portion Indices (entry_start (entries indices) place) (length (get_or (entries indices) place [])))
    (portion Text 0 0))

-- its bytes
abbrev pub part_bytes : List ℕ → List ℕ → Part → List ℕ
part_bytes text indices x = take x.length (drop x.start (of_source text indices x.source))

-- where they stand, for a text at p and indices at q: "the caller's own bytes"
abbrev pub part_ptr : ℕ × ℕ → ℕ × ℕ → Part → ℕ × ℕ
part_ptr p q x = ((of_source p q x.source).0, x.start + (of_source p q x.source).1)
