-- Laws of the record that stands first, as it is split from the bytes: two lengths, the text and the indices, one behind the other.
-- Assumes nothing.
use Rattle.std.proofs.Common.{◌≡◌, ℕ, ◌+◌, ◌*◌, ◌≤◌, true, leb, refl, List, length, get_or, take, drop, ap, ◌∙◌, arith, drop-drop}
use Rattle.std.proofs.lemmas.Grind.{common_steps}
use borrow.Author.Tests.{le-leb}
use Rattle.label.specs.Requests.Sheet.{text_length, indices_length, record_length, is_record, record_label}

module _ (s : List ℕ) {a r b u : List ℕ} (ea : a ≡ take 2 s) (er : r ≡ drop 2 s) (eb : b ≡ take 4 r) (eu : u ≡ drop 4 r) where
  behind_lengths : u ≡ drop 6 s
  behind_lengths = eu ∙ ap (drop 4) er ∙ drop-drop 4 2 s

  pub text_is : {n : ℕ} → n ≡ get_or a 0 0 + get_or a 1 0 * 256 → n ≡ text_length s
  unfolding text_length
  text_is e = grind (arith, common_steps)

  pub indices_is : {n : ℕ} → n ≡ get_or b 0 0 + get_or b 1 0 * 256 + get_or b 2 0 * 65536 + get_or b 3 0 * 16777216 → n ≡ indices_length s
  unfolding indices_length
  indices_is e = grind (arith, common_steps)

  module _ {n m : ℕ} {t v i w : List ℕ} (en : n ≡ text_length s) (em : m ≡ indices_length s) (et : t ≡ take n u) (ev : v ≡ drop n u) (ei : i ≡ take m v)
      (ew : w ≡ drop m v) where
    behind_text : v ≡ drop (6 + n) s
    behind_text = ev ∙ ap (drop n) behind_lengths ∙ drop-drop n 6 s

    pub label : record_label s ≡ record { text = t; indices = i }
    unfolding record_label
    label = rw (← en, ← em, et, ei, behind_text, behind_lengths)

    pub behind : w ≡ drop (record_length s) s
    unfolding record_length
    behind = rw (← en, ← em) (ew ∙ ap (drop m) behind_text ∙ drop-drop m (6 + n) s)

    pub whole : 6 + n + m ≤ length s → is_record s ≡ true
    unfolding is_record record_length
    whole h = le-leb (record_length s) (length s) (omega (arith, en, em))

pub by_bytes : (s : List ℕ) → is_record s
    ≡ leb (6 + (get_or s 0 0 + 256 * get_or s 1 0) + (get_or s 2 0 + 256 * get_or s 3 0 + 65536 * get_or s 4 0 + 16777216 * get_or s 5 0)) (length s)
unfolding is_record record_length text_length indices_length
by_bytes s = refl

-- what the check tries where a part is not there
pub ruleset splits = (by_bytes, common_steps)
