-- That the two lines which the programs find are those of document 01's `relabel`. proofs/Standing.antt has a value of the record.
-- Assumes nothing.
use Rattle.std.specs.Prelude.{ℕ, ◌-◌, ◌≤◌, ◌≡◌, List, length, take, drop}
use Rattle.label.specs.Relabel.{line, relabel_read, printed, relabel}
use Rattle.lines.specs.declared.TwoLines.{TwoLines}
use Rattle.lines.specs.Labels.{two_lines, TwoLinesOf, OwnLines}

-- the bytes of an input that stand where its text line, its indices line, and what follows them, is found
abbrev pub text_found : List ℕ → List ℕ
text_found s = take (two_lines s 0).text_end s

abbrev pub indices_found : List ℕ → List ℕ
indices_found s = take ((two_lines s 0).end - (two_lines s 0).start) (drop (two_lines s 0).start s)

abbrev pub rest_found : List ℕ → List ℕ
rest_found s = drop (two_lines s 0).next s

-- "The program `relabel` reads two lines, text and indices"
pub record Standing : Type 0 where
  -- "A line feed ends a line and is no part of it; a missing line is empty."
  pub text : (s : List ℕ) → text_found s ≡ (line s).before
  pub indices : (s : List ℕ) → indices_found s ≡ (line (line s).after).before
  pub rest : (s : List ℕ) → rest_found s ≡ (line (line s).after).after
  -- the places come in this order, and none is past the input's end
  pub inside : (s : List ℕ)
      → let x = two_lines s 0 in (x.text_end ≤ x.start) × (x.start ≤ x.end) × (x.end ≤ x.next) × (x.next ≤ length s)
  -- so what document 01 has printed of an input is printed of the two lines found in it
  pub prints : (s : List ℕ) → relabel s ≡ printed (relabel_read (text_found s) (indices_found s))
  -- and these are what `two_lines` may give: each input has them, wherever it stands, and no others
  pub given : (p : ℕ × ℕ) (s : List ℕ) → (x : TwoLines) × TwoLinesOf s x × OwnLines p s x
  pub text_given : (s : List ℕ) (x : TwoLines) → TwoLinesOf s x → (x.label.text.now ≡ text_found s) × (x.label.text.now ≡ (line s).before)
  pub indices_given : (s : List ℕ) (x : TwoLines) → TwoLinesOf s x
      → (x.label.indices.now ≡ indices_found s) × (x.label.indices.now ≡ (line (line s).after).before)
  pub rest_given : (s : List ℕ) (x : TwoLines) → TwoLinesOf s x → x.rest.now ≡ rest_found s
  pub prints_given : (s : List ℕ) (x : TwoLines) → TwoLinesOf s x → relabel s ≡ printed (relabel_read x.label.text.now x.label.indices.now)
