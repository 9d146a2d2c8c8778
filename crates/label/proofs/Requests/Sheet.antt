-- A sheet's file, record by record: what it comes to, read back and forth, by induction over the labels and over the bytes; and how many numbers its answers
-- are.
-- Assumes nothing.
use Prim.Native.Nat.{ℕ, zero, suc, ◌+◌, ◌*◌, ◌-◌, ◌≤◌, ◌<◌}
use native.Mathlib.Omega.{arith}
use mathlib.Core.Path.{◌≡◌, refl, sym, ap, ◌∙◌, subst}
use mathlib.Core.Bool.{true, false, false≢true}
use mathlib.Core.List.{List, [], ◌∷◌, ◌++◌, append_assoc}
use borrow.Author.Tests.{leb-true, le-leb, ltb-true, lt-ltb, eqb-true}
use lib.Dec.{eqb, ltb}
use lib.ListN.{length, get_or, take, drop, length-append, take-append-drop, length-drop}
use lib.Seq.{length-take-le, take-append_seam, drop-append_seam, drop-drop, take-add}
use Rattle.label.specs.Outcome.{Outcome, ok, no, ◌>>=◌}
use Rattle.label.specs.Bytes.{ascii, begins}
use Rattle.label.specs.Run.{Run}
use Rattle.label.specs.Checks.{read}
use Rattle.label.specs.Wire.{from_halves}
use Rattle.label.specs.Write.{Label}
use Rattle.label.specs.Requests.Sheet.{header, text_length, indices_length, record_length, is_record, record_label, labels_of, answer_of, answer, answers}
use Rattle.label.specs.Statements.Sheet.{record_bytes, records_bytes, sheet_file, fits_file}
use Rattle.label.specs.Statements.Demands.{all_bytes}
use Rattle.label.proofs.Basics.{and_l, and_r, bind_ok, need_ok}
use Rattle.label.proofs.Steps.{labels_end, labels_inside, labels_record, file_steps}
use Rattle.label.proofs.Run.{ok_path}
use Rattle.label.proofs.Wire.{four_bytes_holds, cells, four}
use Rattle.label.specs.Steps.{labels_from}

labels_skip : (j k : ℕ) (s : List ℕ) → labels_from j k s ≡ labels_from 0 k (drop j s)
labels_skip zero k s = refl
labels_skip (suc j) k [] = labels_end (suc j) k ∙ sym (labels_end 0 k)
labels_skip (suc j) k (b ∷ s) = labels_inside j k b s ∙ labels_skip j k s

-- a record has some bytes
length_some : (s : List ℕ) → suc (record_length s - 1) ≡ record_length s
unfolding record_length
length_some s = omega arith

-- ── what the records from here on come to ──

pub labels_none : (k : ℕ) → labels_from 0 k [] ≡ ok []
labels_none k = labels_end 0 k

module _ (k : ℕ) where
  pub labels_cut : (s : List ℕ) → 1 ≤ length s → is_record s ≡ false → labels_from 0 k s ≡ no 26 k
  labels_cut [] h e = absurd (omega arith)
  labels_cut (b ∷ s) h e = labels_record k b s ∙ rw e

  labels_first : (b : ℕ) (s : List ℕ) → is_record (b ∷ s) ≡ true
      → labels_from 0 k (b ∷ s) ≡ (labels_from 0 (suc k) (drop (record_length (b ∷ s) - 1) s) >>= (λ (ls : List Label). ok (record_label (b ∷ s) ∷ ls)))
  labels_first b s e = labels_record k b s ∙ rw (e, labels_skip (record_length (b ∷ s) - 1) (suc k) s)

  pub labels_whole : (s : List ℕ) → 1 ≤ length s → is_record s ≡ true
      → labels_from 0 k s ≡ (labels_from 0 (suc k) (drop (record_length s) s) >>= (λ (ls : List Label). ok (record_label s ∷ ls)))
  labels_whole [] h e = absurd (omega arith)
  labels_whole (b ∷ s) h e =
      labels_first b s e ∙ ap (λ (m : ℕ). labels_from 0 (suc k) (drop m (b ∷ s)) >>= (λ (ls : List Label). ok (record_label (b ∷ s) ∷ ls)))
      (length_some (b ∷ s))

-- ── a record that was written is read back ──

module _ (l : Label) (rest : List ℕ) where
  abbrev here : List ℕ
  here = record_bytes l ++ rest

  text_length_holds : text_length here ≡ length l.text
  unfolding text_length record_bytes from_halves
  text_length_holds = omega arith

  indices_length_holds : indices_length here ≡ length l.indices
  unfolding indices_length record_bytes from_halves
  indices_length_holds = four_bytes_holds (length l.indices)

  record_length_holds : record_length here ≡ length (record_bytes l)
  unfolding record_length
  record_length_holds = rw (text_length_holds, indices_length_holds) (sym bytes_of)
    where
      bytes_of : length (record_bytes l) ≡ 6 + length l.text + length l.indices
      bytes_of = unfold record_bytes from_halves in omega (arith, length-append l.text l.indices)

  is_record_holds : is_record here ≡ true
  unfolding is_record
  is_record_holds = le-leb (record_length here) (length here) (omega (arith, record_length_holds, length-append (record_bytes l) rest))

  some_byte : 1 ≤ length here
  unfolding record_bytes from_halves
  some_byte = omega arith

  record_label_holds : record_label here ≡ l
  unfolding record_label
  record_label_holds = rw (text_length_holds, indices_length_holds, ← drop-drop (length l.text) 6 here) taken
    where
      taken : record { text = take (length l.text) (drop 6 here); indices = take (length l.indices) (drop (length l.text) (drop 6 here)) } ≡ l
      taken = unfold record_bytes from_halves in
          (rw (
            append_assoc l.text l.indices rest,
            take-append_seam l.text (l.indices ++ rest),
            drop-append_seam l.text (l.indices ++ rest),
            take-append_seam l.indices rest,
          ))

-- the records of a list of labels are read as that list
records_back : (ls : List Label) (k : ℕ) → labels_from 0 k (records_bytes ls) ≡ ok ls
unfolding records_bytes
records_back [] k = labels_none k
records_back (l ∷ ls) k =
    let s : List ℕ = records_bytes ls in
    labels_whole k (record_bytes l ++ s) (some_byte l s) (is_record_holds l s)
    ∙ rw (record_length_holds l s, drop-append_seam (record_bytes l) s, records_back ls (suc k), record_label_holds l s)

-- ── a record that is read is the one that its label has ──

-- the record at the front of s: its label fits, and the label's bytes are the record's
record Forth (s : List ℕ) : Type 0 where
  short : ltb (length (record_label s).text) 65536 ≡ true
  fewer : ltb (length (record_label s).indices) 4294967296 ≡ true
  is : record_bytes (record_label s) ++ drop (record_length s) s ≡ s

-- text and indices of n and m bytes, and the rest
parts_forth : (n m : ℕ) (s : List ℕ) → (take n s ++ take m (drop n s)) ++ drop (n + m) s ≡ s
parts_forth n m s = rw (← take-add n m s) (take-append-drop (n + m) s)

byte_at : (s : List ℕ) → all_bytes s ≡ true → (i : ℕ) → get_or s i 0 < 256
unfolding all_bytes
byte_at [] h i = omega arith
byte_at (b ∷ s) h zero = ltb-true b 256 (and_l (ltb b 256) (all_bytes s) h)
byte_at (b ∷ s) h (suc i) = byte_at s (and_r (ltb b 256) (all_bytes s) h) i

record_within : (s : List ℕ) → is_record s ≡ true → 6 + text_length s + indices_length s ≤ length s
unfolding is_record record_length
record_within s e = leb-true (record_length s) (length s) e

record_forth : (s : List ℕ) → all_bytes s ≡ true → is_record s ≡ true → Forth s
unfolding record_label record_bytes record_length text_length indices_length from_halves
record_forth [] h e = absurd (omega (arith, record_within [] e))
record_forth (a ∷ []) h e = absurd (omega (arith, record_within (a ∷ []) e))
record_forth (a ∷ b ∷ []) h e = absurd (omega (arith, record_within (a ∷ b ∷ []) e))
record_forth (a ∷ b ∷ c ∷ []) h e = absurd (omega (arith, record_within (a ∷ b ∷ c ∷ []) e))
record_forth (a ∷ b ∷ c ∷ d ∷ []) h e = absurd (omega (arith, record_within (a ∷ b ∷ c ∷ d ∷ []) e))
record_forth (a ∷ b ∷ c ∷ d ∷ f ∷ []) h e = absurd (omega (arith, record_within (a ∷ b ∷ c ∷ d ∷ f ∷ []) e))
record_forth (a ∷ b ∷ c ∷ d ∷ f ∷ g ∷ s) h e =
    let r : List ℕ = a ∷ b ∷ c ∷ d ∷ f ∷ g ∷ s in
    let n : ℕ = a + 256 * b in
    let m : ℕ = c + 256 * d + 65536 * f + 16777216 * g in
    let w : 6 + n + m ≤ length r = record_within r e in
    let la : a < 256 = byte_at r h 0 in
    let lb : b < 256 = byte_at r h 1 in
    let lc : c < 256 = byte_at r h 2 in
    let ld : d < 256 = byte_at r h 3 in
    let lf : f < 256 = byte_at r h 4 in
    let lg : g < 256 = byte_at r h 5 in
    let et : length (take n s) ≡ n = length-take-le n s (omega arith) in
    let ei : length (take m (drop n s)) ≡ m = length-take-le m (drop n s) (omega (arith, length-drop n s)) in
    let di : drop (6 + n) r ≡ drop n s = sym (drop-drop n 6 r) in
    let dr : drop (6 + n + m) r ≡ drop (n + m) s = sym (drop-drop m (6 + n) r) ∙ ap (drop m) di ∙ drop-drop m n s in
    let (p, q) = cells a b la in
    let z = four c d f g lc ld lf in
    record {
      short = rw et (lt-ltb n 65536 (omega arith));
      fewer = rw (di, ei) (lt-ltb m 4294967296 (omega arith));
      is = rw (di, et, ei, dr, p, q, z.p, z.q, z.r, z.s, parts_forth n m s);
    }

-- the records of these labels, which fit
abbrev Records : List ℕ → List Label → Type 0
Records s ls = (fits_file ls ≡ true) × (records_bytes ls ≡ s)

no_records : (ls : List Label) → ok [] ≡ ok ls → Records [] ls
unfolding fits_file records_bytes
no_records ls e = subst (Records []) (ok_path [] ls e) (refl, refl)

-- records are those of the labels that they are read as; the first `skip` bytes belong to a record already read
records_forth : (s : List ℕ) (skip k : ℕ) (ls : List Label) → all_bytes s ≡ true → labels_from skip k s ≡ ok ls → Records (drop skip s) ls
unfolding all_bytes fits_file records_bytes
records_forth [] zero k ls h e = no_records ls (sym (labels_end 0 k) ∙ e)
records_forth [] (suc skip) k ls h e = no_records ls (sym (labels_end (suc skip) k) ∙ e)
records_forth (b ∷ s) (suc skip) k ls h e = records_forth s skip k ls (and_r (ltb b 256) (all_bytes s) h) (sym (labels_inside skip k b s) ∙ e)
records_forth (b ∷ s) zero k ls h e =
    let n : ℕ = record_length (b ∷ s) in
    let (t, x) = need_ok (is_record (b ∷ s)) 26 k _ ls (sym (labels_record k b s) ∙ e) in
    let (ms, y, z) = bind_ok (labels_from (n - 1) (suc k) s) _ ls x in
    let (f, q) = records_forth s (n - 1) (suc k) ms (and_r (ltb b 256) (all_bytes s) h) y in
    let r : Forth (b ∷ s) = record_forth (b ∷ s) h t in
    subst (Records (b ∷ s)) (ok_path (record_label (b ∷ s) ∷ ms) ls z)
    (rw (r.short, r.fewer, f), ap (λ (l : List ℕ). record_bytes (record_label (b ∷ s)) ++ l) (q ∙ ap (λ (j : ℕ). drop j (b ∷ s)) (length_some (b ∷ s))) ∙ r.is)

-- ── the file ──

begins_with : (w s : List ℕ) → begins w s ≡ true → w ++ drop (length w) s ≡ s
unfolding begins
begins_with [] s h = refl
begins_with (b ∷ w) [] h = absurd (false≢true h)
begins_with (b ∷ w) (c ∷ s) h = rw (eqb-true c b (and_l (eqb c b) (begins w s) h), begins_with w s (and_r (eqb c b) (begins w s) h))

bytes_drop : (j : ℕ) (s : List ℕ) → all_bytes s ≡ true → all_bytes (drop j s) ≡ true
unfolding all_bytes
bytes_drop zero s h = h
bytes_drop (suc j) [] h = h
bytes_drop (suc j) (b ∷ s) h = bytes_drop j s (and_r (ltb b 256) (all_bytes s) h)

-- the file of a list of labels is read as that list
pub back : (ls : List Label) → labels_of (sheet_file ls) ≡ ok ls
unfolding sheet_file header begins ascii from_halves
back ls = file_steps (sheet_file ls) ∙ records_back ls 0

header_first : (file : List ℕ) → begins header file ≡ true → header ++ drop 5 file ≡ file
unfolding header ascii from_halves
header_first file t = begins_with header file t

-- every file that is read as labels is theirs, and they fit
pub forth : (file : List ℕ) (ls : List Label) → all_bytes file ≡ true → labels_of file ≡ ok ls → (fits_file ls ≡ true) × (sheet_file ls ≡ file)
unfolding sheet_file
forth file ls h e =
    let (t, x) = need_ok (begins header file) 25 0 _ ls (sym (file_steps file) ∙ e) in
    let (f, q) = records_forth (drop 5 file) 0 0 ls (bytes_drop 5 file h) x in
    (f, rw q (header_first file t))

-- ── the answers ──

pub length_answer : (l : Label) → length (answer l) ≡ 2
length_answer l = go (read l.text l.indices)
  where
    go : (o : Outcome Run) → length (answer_of o) ≡ 2
    go (ok r) = refl
    go (no n p) = refl

pub length_answers : (ls : List Label) → length (answers ls) ≡ 2 * length ls
unfolding answers
length_answers [] = refl
length_answers (l ∷ ls) = length-append (answer l) (answers ls) ∙ omega (arith, length_answer l, length_answers ls)

pub answers_append : (xs ys : List Label) → answers (xs ++ ys) ≡ answers xs ++ answers ys
unfolding answers
answers_append [] ys = refl
answers_append (x ∷ xs) ys = rw (answers_append xs ys, append_assoc (answer x) (answers xs) (answers ys))
