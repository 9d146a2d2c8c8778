-- What document 02 asks of a sheet's answers, proved: a sheet's file is read back as its labels, and the answer to each stands at its place.
-- Assumes nothing.
use Prim.Native.Nat.{ℕ, suc, ◌+◌, ◌*◌, ◌-◌, ◌/◌, ◌%◌, ◌≤◌, ◌<◌}
use native.Mathlib.Omega.{arith}
use mathlib.Core.Path.{◌≡◌, refl, sym, ◌∙◌, ap, subst}
use mathlib.Core.Logic.{◌↔◌, ◌⊎◌, inl, inr}
use mathlib.Core.Bool.{Bool, true, ◌&&◌}
use mathlib.Core.List.{List, [], ◌∷◌, ◌++◌, append_assoc}
use borrow.Author.Tests.{ltb-true, ltb-false, lt-ltb, leb-true, le-leb}
use lib.Dec.{ltb, leb}
use lib.IntN.{ℤ, pos}
use lib.ListN.{length, take, drop, length-append, length-drop}
use lib.Seq.{take-append-le, drop-append-le, drop-append-add, take_at, drop_at}
use Rattle.label.specs.Outcome.{Outcome, ok, no}
use Rattle.label.specs.Statements.Memory.{GivenBy}
use Rattle.label.specs.Bytes.{ascii}
use Rattle.label.specs.Run.{Run}
use Rattle.label.specs.Checks.{read}
use Rattle.label.specs.Wire.{from_halves, four_bytes, from_words}
use Rattle.label.specs.Fetched.{words}
use Rattle.label.specs.Write.{Label}
use Rattle.label.specs.Calls.{filled_count, buffer_after, numbers_after, read_into}
use Rattle.label.specs.Requests.Sheet.{header, file_labels, labels_of, answer_of, answer, answers, sheet_checks, sheet_into}
use Rattle.label.specs.Statements.Sheet.{record_bytes, records_bytes, sheet_file, fits_file}
use Rattle.label.specs.Statements.Memory.{filled_all, Kept}
use Rattle.label.specs.Statements.Demands.{all_bytes}
use Rattle.label.specs.Statements.Sheet.{of_bytes, OneList, answered, answer_at, Large, Answering}
use Rattle.label.specs.declared.Counts.{Counts}
use Rattle.label.proofs.Basics.{and_l, and_r, cases, bind_ok, need_ok}
use Rattle.label.proofs.Run.{ok_path}
use Rattle.label.proofs.Wire.{length_words, words_append, words_back, all32}
use Rattle.label.proofs.Steps.{into_steps, sheet_steps}
use Rattle.label.proofs.Checks.{given_is, kept}
use Rattle.label.proofs.Statements.Demands.{read_into_holds}
use Rattle.label.proofs.Refusals.{Placed, refused, read_placed}
use Rattle.label.proofs.Sizes.{sound_roomy}
use Rattle.label.proofs.Sound.{read_sound}
use Rattle.label.proofs.Requests.Sheet.{back, forth, length_answer, length_answers, answers_append}

-- ── the file is bytes ──

bytes_append : (s t : List ℕ) → all_bytes s ≡ true → all_bytes t ≡ true → all_bytes (s ++ t) ≡ true
unfolding all_bytes
bytes_append [] t h k = k
bytes_append (b ∷ s) t h k = rw (and_l (ltb b 256) (all_bytes s) h) (bytes_append s t (and_r (ltb b 256) (all_bytes s) h) k)

-- the two lengths
length_bytes : (n m : ℕ) → n < 65536 → m < 4294967296 → all_bytes (from_halves (n ∷ []) ++ four_bytes m) ≡ true
unfolding all_bytes from_halves
length_bytes n m h k =
    rw (
      lt-ltb (n % 256) 256 (omega arith),
      lt-ltb (n / 256) 256 (omega arith),
      lt-ltb (m % 256) 256 (omega arith),
      lt-ltb (m / 256 % 256) 256 (omega arith),
      lt-ltb (m / 65536 % 256) 256 (omega arith),
      lt-ltb (m / 16777216) 256 (omega arith),
    )

record_bytes_holds : (l : Label) → length l.text < 65536 → length l.indices < 4294967296 → all_bytes l.text ≡ true → all_bytes l.indices ≡ true
    → all_bytes (record_bytes l) ≡ true
unfolding record_bytes from_halves
record_bytes_holds l h k t i =
    bytes_append (from_halves (length l.text ∷ []) ++ four_bytes (length l.indices)) (l.text ++ l.indices)
    (length_bytes (length l.text) (length l.indices) h k) (bytes_append l.text l.indices t i)

records_bytes_holds : (ls : List Label) → fits_file ls ≡ true → of_bytes ls ≡ true → all_bytes (records_bytes ls) ≡ true
unfolding fits_file of_bytes records_bytes all_bytes
records_bytes_holds [] h k = refl
records_bytes_holds (l ∷ ls) h k =
    let a : Bool = ltb (length l.text) 65536 in
    let b : Bool = ltb (length l.indices) 4294967296 in
    let h1 = and_l (a && b) (fits_file ls) h in
    let k1 = and_l (all_bytes l.text && all_bytes l.indices) (of_bytes ls) k in
    bytes_append (record_bytes l) (records_bytes ls)
    (record_bytes_holds l (ltb-true (length l.text) 65536 (and_l a b h1)) (ltb-true (length l.indices) 4294967296 (and_r a b h1))
    (and_l (all_bytes l.text) (all_bytes l.indices) k1) (and_r (all_bytes l.text) (all_bytes l.indices) k1))
    (records_bytes_holds ls (and_r (a && b) (fits_file ls) h) (and_r (all_bytes l.text && all_bytes l.indices) (of_bytes ls) k))

made : (ls : List Label) → fits_file ls ≡ true → of_bytes ls ≡ true → all_bytes (sheet_file ls) ≡ true
unfolding sheet_file
made ls h k = bytes_append header (records_bytes ls) (unfold header ascii from_halves all_bytes in refl) (records_bytes_holds ls h k)

-- ── the call ──

-- an accepted file is read as labels, and their answers have room; and the other way
pub into_labels : (room : ℕ) (file : List ℕ) (list : List ℤ) → sheet_into room file ≡ ok list
    → (ls : List Label) × (labels_of file ≡ ok ls) × (2 * length ls ≤ room) × (list ≡ answers ls)
into_labels room file list h =
    let (ls, a, b) = bind_ok (labels_of file) _ list (sym (sheet_steps room file) ∙ h) in
    let (f, c) = need_ok (leb (2 * length ls) room) 27 _ _ list b in
    (ls, a, leb-true (2 * length ls) room f, sym (ok_path (answers ls) list c))

pub labels_into : (room : ℕ) (file : List ℕ) (ls : List Label) → labels_of file ≡ ok ls → 2 * length ls ≤ room → sheet_into room file ≡ ok (answers ls)
labels_into room file ls h m = sheet_steps room file ∙ rw (h, le-leb (2 * length ls) room m)

-- a file that is read as labels is theirs alone
one_list : (file : List ℕ) (ls : List Label) → all_bytes file ≡ true → labels_of file ≡ ok ls → OneList file ls
one_list file ls h e =
    let (f, q) = forth file ls h e in
    record { fits = f; is = q; only = λ ms p. ok_path ms ls (sym (back ms) ∙ ap labels_of p ∙ e) }

accepts : (room : ℕ) (file : List ℕ) (list : List ℤ) → all_bytes file ≡ true
    → (sheet_into room file ≡ ok list) ↔ ((ls : List Label) × OneList file ls × (2 * length ls ≤ room) × (list ≡ answers ls))
accepts room file list h = (
  λ e. let (ls, a, m, q) = into_labels room file list e in (ls, one_list file ls h a, m, q),
  λ w. labels_into room file w.0 (ap labels_of (sym w.1.is) ∙ back w.0) w.2 ∙ ap ok (sym w.3),
)

fixed : (room : ℕ) (file : List ℕ) (n p : ℕ) → (sheet_into room file ≡ no n p) ↔ GivenBy (sheet_checks room file) n p
unfolding sheet_into
fixed room file n p = given_is (sheet_checks room file) n p (answers (file_labels file))

memory : (file old : List ℕ)
    → Kept (sheet_checks (length old / 4) file) (answers (file_labels file)) (λ zs. from_words zs ∷ []) (sheet_into (length old / 4) file) (old ∷ [])
    (numbers_after (sheet_into (length old / 4) file) old ∷ [])
unfolding sheet_into filled_all
memory file old = kept (sheet_checks (length old / 4) file) (answers (file_labels file)) (λ zs. from_words zs ∷ []) (old ∷ []) (λ o. numbers_after o old ∷ [])
    refl
    (λ n p. refl)

-- ── the answer at a place ──

-- from a place behind p on
drop_behind : {A : Type 0} (p s : List A) (i : ℕ) → length p ≤ i → drop i (p ++ s) ≡ drop (i - length p) s
drop_behind p s i h = let e : i ≡ length p + (i - length p) = omega arith in ap (λ (k : ℕ). drop k (p ++ s)) e ∙ drop-append-add p s (i - length p)

-- n places from i on, all in p
part_before : {A : Type 0} (p s : List A) (n i : ℕ) → i + n ≤ length p → take n (drop i (p ++ s)) ≡ take n (drop i p)
part_before p s n i h = ap (take n) (drop-append-le i p s (omega arith)) ∙ take-append-le n (drop i p) s (omega (arith, length-drop i p))

-- n places from i on, before q or behind it, are the same with z in place of q
part_stays : {A : Type 0} (p q z r : List A) (n i : ℕ) → length q ≡ length z → (i + n ≤ length p) ⊎ (length p + length q ≤ i)
    → take n (drop i (p ++ (q ++ r))) ≡ take n (drop i (p ++ (z ++ r)))
part_stays p q z r n i e (inl h) = part_before p (q ++ r) n i h ∙ sym (part_before p (z ++ r) n i h)
part_stays p q z r n i e (inr h) =
    let j : ℕ = i - length p in
    ap (take n) (drop_behind p (q ++ r) i (omega arith) ∙ drop_behind q r j (omega arith) ∙ ap (λ (k : ℕ). drop (j - k) r) e
    ∙ sym (drop_behind p (z ++ r) i (omega arith) ∙ drop_behind z r j (omega arith)))

-- the call's list
module _ (old : List ℕ) (room : ℕ) where
  abbrev now : List Label → List ℕ
  now ls = buffer_after from_words (sheet_into room (sheet_file ls)) old

  length_one : (l : Label) → length (from_words (answer l)) ≡ 4 * 2
  length_one l = length_words (answer l) ∙ ap (λ (k : ℕ). 4 * k) (length_answer l)

  length_all : (ls : List Label) → length (from_words (answers ls)) ≡ 4 * (2 * length ls)
  length_all ls = length_words (answers ls) ∙ ap (λ (k : ℕ). 4 * k) (length_answers ls)

  -- what stands behind the answer to label k: the answers to the labels ys, then what was there
  abbrev behind : ℕ → List Label → List ℕ
  behind k ys = from_words (answers ys) ++ drop (4 * (2 * (k + suc (length ys)))) old

  around : (xs ys : List Label) (l : Label) → 2 * length (xs ++ (l ∷ ys)) ≤ room
      → now (xs ++ (l ∷ ys)) ≡ from_words (answers xs) ++ (from_words (answer l) ++ behind (length xs) ys)
  unfolding answers
  around xs ys l h =
      let ls : List Label = xs ++ (l ∷ ys) in
      let d : List ℕ = drop (4 * (2 * (length xs + suc (length ys)))) old in
      ap (λ (o : Outcome (List ℤ)). buffer_after from_words o old) (labels_into room (sheet_file ls) ls (back ls) h)
      ∙ ap (λ (k : ℕ). from_words (answers ls) ++ drop k old) (length_all ls ∙ ap (λ (k : ℕ). 4 * (2 * k)) (length-append xs (l ∷ ys)))
      ∙ ap (λ (s : List ℕ). s ++ d)
      (ap from_words (answers_append xs (l ∷ ys)) ∙ words_append (answers xs) (answer l ++ answers ys)
      ∙ ap (λ (s : List ℕ). from_words (answers xs) ++ s) (words_append (answer l) (answers ys)))
      ∙ append_assoc (from_words (answers xs)) (from_words (answer l) ++ from_words (answers ys)) d
      ∙ ap (λ (s : List ℕ). from_words (answers xs) ++ s) (append_assoc (from_words (answer l)) (from_words (answers ys)) d)

  -- the answer to a label stands behind those to the labels before it
  answer_stands : (xs ys : List Label) (l : Label) (i n : ℕ) → 2 * length (xs ++ (l ∷ ys)) ≤ room → 4 * (2 * length xs) ≡ i → 4 * 2 ≡ n
      → take n (drop i (now (xs ++ (l ∷ ys)))) ≡ from_words (answer l)
  answer_stands xs ys l i n h p q =
      let b : List ℕ = behind (length xs) ys in
      ap (λ (s : List ℕ). take n (drop i s)) (around xs ys l h)
      ∙ ap (take n) (drop_at (from_words (answers xs)) (from_words (answer l) ++ b) i (length_all xs ∙ p))
      ∙ take_at (from_words (answer l)) b n (length_one l ∙ q)

  -- one label in place of another leaves what is before and behind its answer
  others_stay : (xs ys : List Label) (l m : Label) (i n : ℕ) → 2 * length (xs ++ (l ∷ ys)) ≤ room
      → (i + n ≤ 4 * (2 * length xs)) ⊎ (4 * (2 * length xs) + 4 * 2 ≤ i)
      → take n (drop i (now (xs ++ (l ∷ ys)))) ≡ take n (drop i (now (xs ++ (m ∷ ys))))
  others_stay xs ys l m i n h a =
      let b : List ℕ = behind (length xs) ys in
      let k : 2 * length (xs ++ (m ∷ ys)) ≤ room = omega (arith, h, length-append xs (l ∷ ys), length-append xs (m ∷ ys)) in
      ap (λ (s : List ℕ). take n (drop i s)) (around xs ys l h)
      ∙ part_stays (from_words (answers xs)) (from_words (answer l)) (from_words (answer m)) b n i (length_one l ∙ sym (length_one m))
      (rw (length_all xs, length_one l) a)
      ∙ sym (ap (λ (s : List ℕ). take n (drop i s)) (around xs ys m k))

-- ── the answers are those of single readings ──

-- a reading with large buffers gives the number and the place of the answer
answer_large : (l : Label) (room : Counts) → Large l room → answer l ≡ answer_of (read_into room l.text l.indices)
answer_large l room h = go (read l.text l.indices) refl
  where
    go : (o : Outcome Run) → read l.text l.indices ≡ o → answer_of o ≡ answer_of (read_into room l.text l.indices)
    go (ok r) e = ap answer_of (sym (read_into_holds l.text l.indices r room e (h r e)))
    go (no n p) e = rw (into_steps room l.text l.indices) (rw e)

-- an answer's numbers have 32 bits
pub answer_32 : (l : Label) → all32 (answer l) ≡ true
answer_32 l = go (read l.text l.indices) (read_placed l.text l.indices)
  where
    go : (o : Outcome Run) → Placed 15 262145 o → all32 (answer_of o) ≡ true
    go (ok r) h = refl
    go (no n p) (refused a b d) = rw (lt-ltb n 2147483648 (omega arith), lt-ltb p 2147483648 (omega arith))

answer_back : (l : Label) → words (from_words (answer l)) ≡ answer l
answer_back l = words_back (answer l) (answer_32 l)

single : (xs ys : List Label) (l : Label) (old : List ℕ) (room : Counts) → 2 * length (xs ++ (l ∷ ys)) ≤ length old / 4 → Large l room
    → answer_at (length xs) (answered (xs ++ (l ∷ ys)) old) ≡ answer_of (read_into room l.text l.indices)
single xs ys l old room h m =
    ap words (answer_stands old (length old / 4) xs ys l (8 * length xs) 8 h (omega arith) refl) ∙ answer_back l ∙ answer_large l room m

-- only an accepted label has 0 and 0
accepted_only : (l : Label) (o : Outcome Run) → Placed 15 262145 o → read l.text l.indices ≡ o → answer_of o ≡ (pos 0 ∷ pos 0 ∷ [])
    → (r : Run) × (read l.text l.indices ≡ ok r)
accepted_only l (ok r) h e q = (r, e)
accepted_only l (no n p) (refused a b d) e q = let z : n ≡ 0 = cc in absurd (omega arith)

-- ── a label changes no other's answer ──

-- k, which is not n, is before n or behind it
beside : {A B : Type 0} (k n : ℕ) → (k ≡ n → ⊥) → (k < n → A) → (n < k → B) → A ⊎ B
beside k n h f g = cases (ltb k n) (λ t. inl (f (ltb-true k n t))) (λ t. let z : n ≤ k = ltb-false k n t in inr (g (omega (arith, h))))

replaced : (xs ys : List Label) (l m : Label) (old : List ℕ) (k : ℕ) → 2 * length (xs ++ (l ∷ ys)) ≤ length old / 4 → (k ≡ length xs → ⊥)
    → answer_at k (answered (xs ++ (l ∷ ys)) old) ≡ answer_at k (answered (xs ++ (m ∷ ys)) old)
replaced xs ys l m old k h n =
    ap words (others_stay old (length old / 4) xs ys l m (8 * k) 8 h (beside k (length xs) n (λ z. omega arith) (λ z. omega arith)))

-- two labels change places: each takes the other's, one after the other
swap : {B : Type 0} (at : List Label → B) (room : ℕ) (k : ℕ)
    → ((xs ys : List Label) (l m : Label) → 2 * length (xs ++ (l ∷ ys)) ≤ room → (k ≡ length xs → ⊥) → at (xs ++ (l ∷ ys)) ≡ at (xs ++ (m ∷ ys)))
    → (xs ys zs : List Label) (l m : Label) → 2 * length (xs ++ (l ∷ (ys ++ (m ∷ zs)))) ≤ room → (k ≡ length xs → ⊥) → (k ≡ length xs + suc (length ys) → ⊥)
    → at (xs ++ (l ∷ (ys ++ (m ∷ zs)))) ≡ at (xs ++ (m ∷ (ys ++ (l ∷ zs))))
swap at room k one xs ys zs l m h a b =
    let e : length (xs ++ (m ∷ ys)) ≡ length xs + suc (length ys) = length-append xs (m ∷ ys) in
    let r : 2 * length ((xs ++ (m ∷ ys)) ++ (m ∷ zs)) ≤ room =
    omega (arith, h, length-append (xs ++ (m ∷ ys)) (m ∷ zs), e, length-append xs (l ∷ (ys ++ (m ∷ zs))), length-append ys (m ∷ zs)) in
    one xs (ys ++ (m ∷ zs)) l m h a
    ∙ (rw (append_assoc xs (m ∷ ys) (m ∷ zs), append_assoc xs (m ∷ ys) (l ∷ zs)) at (one (xs ++ (m ∷ ys)) zs m l r (λ q. b (q ∙ e))))

-- a refusal's number is one of 1 to 15
refused_number : {n p : ℕ} → Placed {A = Run} 15 262145 (no n p) → (1 ≤ n) × (n ≤ 15)
refused_number (refused a b d) = (a, b)

pub answering : Answering
answering =
    record {
      back = λ ls _. back ls;
      made = made;
      one_list = one_list;
      accepts = accepts;
      single = λ xs ys l old room h m. single xs ys l old room h.1 m;
      replaced = λ xs ys l m old k h _ n. replaced xs ys l m old k h.1 n;
      swapped = λ xs ys zs l m old k h a b.
          swap (λ ls. answer_at k (answered ls old)) (length old / 4) k (λ v w x y r n. replaced v w x y old k r n) xs ys zs l m h.1 a b;
      large = λ l r h. sound_roomy r (read_sound l.text l.indices r h);
      refused = λ l n p e. let (a, b) = refused_number (subst (Placed 15 262145) e (read_placed l.text l.indices)) in (ap answer_of e, a, b);
      accepted = λ l. (accepted_only l (read l.text l.indices) (read_placed l.text l.indices) refl, λ r. ap answer_of r.1);
      fixed = fixed;
      count = λ room file list h. let (ls, a, m, e) = into_labels room file list h in
          (ls, a, ap filled_count (h ∙ ap ok e) ∙ ap ok (length_answers ls));
      memory = memory;
    }
