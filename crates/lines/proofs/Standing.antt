-- The two lines that are found are the two that document 01 cuts, of which `relabel` is said; so are those that `two_lines` may give.
-- Assumes nothing.
use Rattle.std.proofs.Common.{◌≡◌, ℕ, ◌+◌, ◌-◌, List, length, drop, refl, sym, ◌∙◌, ap, zero-add, eqb, arith}
use lib.Seq.{drop-drop}
use Rattle.label.specs.Relabel.{line, relabel}
use Rattle.lines.specs.declared.TwoLines.{TwoLines}
use Rattle.lines.specs.Labels.{line_end, line_behind, two_lines, TwoLinesOf, OwnLines, place_ptr}
use Rattle.lines.specs.Standing.{text_found, indices_found, rest_found, Standing}
use Rattle.lines.proofs.Places.{front, second, behind, in_order, next_from}

text : (s : List ℕ) → text_found s ≡ (line s).before
unfolding two_lines line_end
text s = rw (zero-add (length (line s).before)) (front (λ b. eqb b 10) s)

-- where the second line ends
end_is : (s : List ℕ) → (two_lines s 0).end ≡ (two_lines s 0).start + length (line (drop (two_lines s 0).start s)).before
unfolding two_lines line_end
end_is s = refl

-- how many bytes it has
count : (s : List ℕ) → (two_lines s 0).end - (two_lines s 0).start ≡ length (line (line s).after).before
count s = rw (ends s) (omega arith)
  where
    ends : (s : List ℕ) → (two_lines s 0).end ≡ (two_lines s 0).start + length (line (line s).after).before
    ends s = end_is s ∙ ap (λ (l : List ℕ). (two_lines s 0).start + length (line l).before) (second s)

indices : (s : List ℕ) → indices_found s ≡ (line (line s).after).before
indices s = rw (count s, second s) (front (λ b. eqb b 10) (line s).after)

rest : (s : List ℕ) → rest_found s ≡ (line (line s).after).after
unfolding line_end line_behind
rest s =
    let r = (line s).after in
    rw (← next_from s, ← drop-drop, second s, zero-add (length (line r).before)) (behind (λ b. eqb b 10) r)

given : (p : ℕ × ℕ) (s : List ℕ) → (x : TwoLines) × TwoLinesOf s x × OwnLines p s x
given p s = (
  record {
    label = record {
      text = record { ref_ptr = p; now = (line s).before };
      indices = record { ref_ptr = place_ptr p (two_lines s 0).start; now = (line (line s).after).before };
    };
    rest = record { ref_ptr = place_ptr p (two_lines s 0).next; now = (line (line s).after).after };
  },
  record { text = refl; indices = refl; rest = refl },
  record { text = refl; indices = refl; rest = refl },
)

pub standing : Standing
standing = record {
  text = text;
  indices = indices;
  rest = rest;
  inside = in_order;
  prints = λ s. unfold relabel in rw (text s, indices s);
  given = given;
  text_given = λ s x h. (h.text ∙ sym (text s), h.text);
  indices_given = λ s x h. (h.indices ∙ sym (indices s), h.indices);
  rest_given = λ s x h. h.rest ∙ sym (rest s);
  prints_given = λ s x h. unfold relabel in rw (h.text, h.indices);
}
