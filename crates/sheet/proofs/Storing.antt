-- Laws of the loop that stores the answers, with its invariant `Stored`: start, a label, no cut record, the end.
-- Assumes nothing.
use Rattle.std.proofs.Common.{◌≡◌, ℕ, ◌+◌, ◌/◌, ◌^◌, ◌≤◌, ◌<◌, List, [], ◌∷◌, ◌++◌, ◌&&◌, true, ℤ, pos, to_z, of_z, get_or, length, Option, Some, None, refl, sym, ap, ◌∙◌, arith}
use Rattle.label.specs.Outcome.{ok}
use Rattle.label.specs.Wire.{bits_of, four_bytes, from_words}
use Rattle.label.specs.Calls.{numbers_after}
use Rattle.label.specs.Requests.Sheet.{answer, answers}
use Rattle.label.specs.Steps.{labels_from}
use Rattle.label.specs.Write.{Label}
use Rattle.std.specs.Int.{to_le_bytes}
use mir.Syntax.{w32}
use Rattle.label.proofs.Basics.{no_ok, and_l, and_r}
use Rattle.label.proofs.Run.{ok_path}
use Rattle.label.proofs.Wire.{in32, all32, in32_below, length_words, words_append}
use Rattle.label.proofs.Statements.Sheet.{answer_32}
use Rattle.label.proofs.Requests.Sheet.{length_answer, length_answers, answers_append}
use Rattle.wire.proofs.Stored.{four_are}
use Rattle.octets.specs.Puts.{Put}
use Rattle.octets.specs.Outputs.{Gains}
use Rattle.octets.specs.declared.Output.{Output}
use Rattle.octets.proofs.Outputs.{nothing, then, gains_as}
use Rattle.octets.proofs.Puts.{put_room}
use Rattle.label.specs.declared.Label.{Label as Part}
use Rattle.sheet.specs.declared.Records.{Records}
use Rattle.sheet.specs.Records.{label_of, GivesRecord, Accepted, answers_of}
use Rattle.sheet.proofs.Walk.{Walked, start, end, cut, next}

-- the list has gained the answers to the labels that were walked
pub record Stored (all : List ℕ) (old : Output) (s : Records) (new : Output) : Type 0 where
  pub number : ℕ
  pub before : List Label
  pub walked : Walked all s number before
  pub gained : Gains old (from_words (answers before)) new

no_bytes : from_words (answers []) ≡ []
unfolding answers from_words
no_bytes = refl

pub stored_start : {s : Records} {old : Output} → Stored s.rest.now old s old
stored_start {s} {old} = record { number = 0; before = []; walked = start s; gained = gains_as (sym no_bytes) nothing }

-- a label more
one_more : (before : List Label) (l : Label) {n p : ℤ} → (n ∷ p ∷ []) ≡ answer l
    → from_words (answers before) ++ (four_bytes (bits_of n) ++ four_bytes (bits_of p)) ≡ from_words (answers (before ++ (l ∷ [])))
unfolding answers from_words
one_more before l a = rw (answers_append before (l ∷ []), words_append, ← a)

module _ {all : List ℕ} {old new : Output} {s : Records} (g : Stored all old s new) where
  pub stored_next : (t : Records) {q : Option Part} {l : Part} → GivesRecord s (Some q) t → q ≡ Some l → {n p : ℤ} {mid last : Output}
      → (n ∷ p ∷ []) ≡ answer (label_of l) → Gains new (four_bytes (bits_of n)) mid → Gains mid (four_bytes (bits_of p)) last → Stored all old t last
  stored_next t {l = l} h e a f k =
      record {
        number = g.number + 1;
        before = g.before ++ (label_of l ∷ []);
        walked = next g.walked t h e;
        gained = gains_as (one_more g.before (label_of l) a) (then g.gained (then f k));
      }

  -- an accepted file ends inside no record
  pub not_cut : {room : ℕ} (t : Records) {q : Option Part} → Accepted all room → GivesRecord s (Some q) t → q ≡ None → ⊥
  not_cut t a h e = no_ok 26 g.number a.labels (sym (cut g.walked t h e) ∙ a.are)

  pub stored_end : length s.rest.now ≡ 0 → Accepted all (length old.bytes.now / 4) → old.at ≡ 0 → length old.bytes.now < 2 ^ 64
      → new.bytes.now ≡ numbers_after (answers_of all) old.bytes.now
  stored_end h a z f =
      let e : labels_from 0 0 all ≡ ok g.before = end g.walked h in
      let ls : g.before ≡ a.labels = ok_path g.before a.labels (sym e ∙ a.are) in
      let few : length (from_words (answers g.before)) ≤ length old.bytes.now =
      omega (arith, length_words (answers g.before), length_answers g.before, ap length ls, a.room_for) in
      let p : Put old.bytes.now 0 (from_words (answers g.before)) new.at new.bytes.now = rw z at (g.gained.put (omega arith)) in
      rw e (put_room p few)

-- the bytes that the library gives of a number in an array
abbrev bytes_of : ℤ → List ℕ
bytes_of z = to_le_bytes w32 (of_z w32 (to_z w32 (of_z w32 z)))

-- the two numbers of an answer, and that their bytes are those of the definitions
pub record Numbers (a : List ℤ) : Type 0 where
  pub are : (get_or a 0 (pos 0) ∷ get_or a 1 (pos 0) ∷ []) ≡ a
  pub number : bytes_of (get_or a 0 (pos 0)) ≡ four_bytes (bits_of (get_or a 0 (pos 0)))
  pub place : bytes_of (get_or a 1 (pos 0)) ≡ four_bytes (bits_of (get_or a 1 (pos 0)))

two_numbers : (a : List ℤ) → length a ≡ 2 → all32 a ≡ true → Numbers a
two_numbers (n ∷ p ∷ []) h k =
    let i : in32 n ≡ true = and_l (in32 n) (in32 p && true) k in
    let j : in32 p ≡ true = and_l (in32 p) true (and_r (in32 n) (in32 p && true) k) in
    record { are = refl; number = four_are n (record { sfits = in32_below n i }); place = four_are p (record { sfits = in32_below p j }) }
two_numbers [] h k = absurd (omega arith)
two_numbers (n ∷ []) h k = absurd (omega arith)
two_numbers (n ∷ p ∷ q ∷ a) h k = absurd (omega arith)

pub numbers : (l : Label) {a : List ℤ} → a ≡ answer l → Numbers a
numbers l e = rw e (two_numbers (answer l) (length_answer l) (answer_32 l))
