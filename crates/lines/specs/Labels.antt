-- The labels of an input, two lines each.
-- Assumes nothing.
use Rattle.std.specs.Prelude.{ℕ, zero, suc, ◌≡◌, ◌+◌, ◌<◌, cond, ltb, length, List, [], ◌∷◌, ◌++◌, drop, MatchOption}
use Rattle.std.specs.declared.option.Option.{Option}
use Rattle.label.specs.Relabel.{line, relabel_read, printed}
use Rattle.label.specs.declared.Label.{Label}
use Rattle.lines.specs.declared.TwoLines.{TwoLines}
use Rattle.lines.specs.declared.Labels.{Labels}

-- "reads two lines, text and indices": x has the first two lines of s, and what follows them
pub record TwoLinesOf (s : List ℕ) (x : TwoLines) : Type 0 where
  pub text : x.label.text.now ≡ (line s).before
  pub indices : x.label.indices.now ≡ (line (line s).after).before
  pub rest : x.rest.now ≡ (line (line s).after).after

-- where the line that starts at a place ends, and where the next one starts: "A line feed ends a line and is no part of it; a missing line is empty"
unfoldable pub line_end : List ℕ → ℕ → ℕ
line_end s from = from + length (line (drop from s)).before

unfoldable pub line_behind : List ℕ → ℕ → ℕ
line_behind s end = cond (ltb end (length s)) (end + 1) end

-- where the two lines stand: the text up to `text_end`, the indices from `start` to `end`, and what follows from `next` on
pub record Found : Type 0 where
  pub text_end : ℕ
  pub start : ℕ
  pub end : ℕ
  pub next : ℕ

-- the two lines from a place on
unfoldable pub two_lines : List ℕ → ℕ → Found
two_lines s at =
    let e = line_end s at in
    let b = line_behind s e in
    let f = line_end s b in
    record { text_end = e; start = b; end = f; next = line_behind s f }

-- where place n of bytes at p stands
abbrev pub place_ptr : ℕ × ℕ → ℕ → ℕ × ℕ
place_ptr p n = (p.0, n + p.1)

-- x's two lines and what follows them are parts of the bytes s, which stand at p: they start where they are found there
pub record OwnLines (p : ℕ × ℕ) (s : List ℕ) (x : TwoLines) : Type 0 where
  pub text : x.label.text.ref_ptr ≡ p
  pub indices : x.label.indices.ref_ptr ≡ place_ptr p (two_lines s 0).start
  pub rest : x.rest.ref_ptr ≡ place_ptr p (two_lines s 0).next

-- a step over the labels: that of the first two lines, and what follows them is left; or nothing at the end of the input, of which nothing is left then
abbrev pub GivesLabel : Labels → Option Label → Labels → Type 0
GivesLabel s r t =
    MatchOption r ((s.rest.now ≡ []) × (t.rest.now ≡ []))
    (λ (x : Label).
    let y : TwoLines = record { label = x; rest = t.rest } in (0 < length s.rest.now) × TwoLinesOf s.rest.now y × OwnLines s.rest.ref_ptr s.rest.now y)

-- what is printed of the first n labels of s, or of as many as there are
unfoldable pub printed_labels : ℕ → List ℕ → List ℕ
printed_labels zero s = []
printed_labels (suc n) [] = []
printed_labels (suc n) (b ∷ bs) =
    printed (relabel_read (line (b ∷ bs)).before (line (line (b ∷ bs)).after).before) ++ printed_labels n (line (line (b ∷ bs)).after).after
