-- Laws of the call, one for each return: refusals 25, 26 and 27, and the answers stored; each rewrites `sheet_steps` by what the records are.
-- Assumes nothing.
use Rattle.std.proofs.Common.{◌≡◌, ℕ, ◌*◌, ◌/◌, ◌≤◌, ◌<◌, true, false, List, ℤ, length, drop, Result, Ok, Err, refl, sym, ap, ◌∙◌, arith}
use borrow.Author.Tests.{le-leb, lt-leb}
use Rattle.label.specs.Outcome.{Outcome, ok, no}
use Rattle.label.specs.Bytes.{begins}
use Rattle.label.specs.Cause.{cause_number}
use Rattle.label.specs.Calls.{refusal, outcome_of, filled_count, numbers_after}
use Rattle.label.specs.Requests.Sheet.{header, answers, sheet_into}
use Rattle.label.specs.Steps.{labels_from}
use Rattle.label.specs.Write.{Label}
use Rattle.label.specs.declared.Cause.TheVariants.{BadSheetMark, AnswerRoom}
use Rattle.label.specs.declared.Refusal.{Refusal}
use Rattle.label.proofs.Basics.{no_ok}
use Rattle.label.proofs.Requests.Sheet.{length_answers}
use Rattle.label.proofs.Steps.{file_steps, sheet_steps}
use Rattle.sheet.specs.Records.{answers_of}

-- the two clauses of the call
abbrev Answer : Outcome (List ℤ) → Result ℕ Refusal → List ℕ → List ℕ → Type 0
Answer w r L L' = record { result : outcome_of r ≡ filled_count w; answers : L' ≡ numbers_after w L }

refuses : {w : Outcome (List ℤ)} (x : Refusal) (L : List ℕ) → w ≡ no (cause_number x.cause) x.place → Answer w (Err x) L L
refuses x L e = rw e (record { result = refl; answers = refl })

was_counted : {A : Type 0} (o : Outcome (List A)) {n : ℕ} → ok n ≡ filled_count o → (vs : List A) × (o ≡ ok vs) × (n ≡ length vs)
was_counted (ok vs) e = (vs, refl, cc)
was_counted (no i p) {n} e = no_ok i p n (sym e)

was_refused : {A : Type 0} (o : Outcome (List A)) {n p : ℕ} → no n p ≡ filled_count o → o ≡ no n p
was_refused (ok vs) {n} {p} e = no_ok n p (length vs) e
was_refused (no i q) e = cc

module _ (room : ℕ) (file L : List ℕ) where
  pub bad_mark : (x : Refusal) → x ≡ refusal BadSheetMark 0 → begins header file ≡ false → Answer (sheet_into room file) (Err x) L L
  bad_mark x e h = rw e (refuses (refusal BadSheetMark 0) L (sheet_steps room file ∙ rw (file_steps file, h)))

  module _ (h : begins header file ≡ true) {rest : List ℕ} (r : rest ≡ drop 5 file) where
    pub cut : (x : Refusal) → no (cause_number x.cause) x.place ≡ filled_count (labels_from 0 0 rest) → Answer (sheet_into room file) (Err x) L L
    cut x e = refuses x L (sheet_steps room file ∙ rw (file_steps file, h, ← r, was_refused (labels_from 0 0 rest) e))

    -- the records are those of the labels ls
    module _ (ls : List Label) (e : labels_from 0 0 rest ≡ ok ls) {n : ℕ} (c : n ≡ length ls) where
      short_of : (x : Refusal) → x ≡ refusal AnswerRoom n → room / 2 < n → Answer (sheet_into room file) (Err x) L L
      short_of x k m = rw k (refuses (refusal AnswerRoom n) L
          (sheet_steps room file ∙ rw (file_steps file, h, ← r, e, lt-leb (2 * length ls) room (omega arith), ← c)))

      stored_of : n ≤ room / 2 → {L' : List ℕ} → L' ≡ numbers_after (answers_of rest) L → Answer (sheet_into room file) (Ok (2 * n)) L L'
      stored_of m k =
          let w : sheet_into room file ≡ ok (answers ls) = sheet_steps room file ∙ rw (file_steps file, h, ← r, e, le-leb (2 * length ls) room (omega arith)) in
          rw (w, k, e, c) (record { result = ap ok (sym (length_answers ls)); answers = refl })

    -- n labels were counted
    module _ {n : ℕ} (e : ok n ≡ filled_count (labels_from 0 0 rest)) where
      pub short : (x : Refusal) → x ≡ refusal AnswerRoom n → room / 2 < n → Answer (sheet_into room file) (Err x) L L
      short = let (ls, f, c) = was_counted (labels_from 0 0 rest) e in short_of ls f c

      pub stored : n ≤ room / 2 → {L' : List ℕ} → L' ≡ numbers_after (answers_of rest) L → Answer (sheet_into room file) (Ok (2 * n)) L L'
      stored m k = let (ls, f, c) = was_counted (labels_from 0 0 rest) e in stored_of ls f c m k
