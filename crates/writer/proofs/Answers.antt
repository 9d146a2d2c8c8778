-- The writer's call: one law for each return, by 19, 20 and 21 in order (`write_steps`), and that 19 was passed.
-- Assumes nothing.
use Rattle.std.proofs.Common.{Ok, Err, Result}
use Rattle.label.proofs.Basics.{no_ok}
use Rattle.label.proofs.Steps.{write_steps}
use mathlib.Core.Path.{◌≡◌, refl, sym, ◌∙◌}
use mathlib.Core.Bool.{Bool, true, false, not}
use mathlib.Core.List.{List}
use Prim.Native.Nat.{ℕ, ◌<◌, ◌≤◌}
use native.Mathlib.Omega.{arith}
use borrow.Author.Tests.{le-leb, lt-leb, not-true}
use lib.ListN.{length}
use Rattle.label.specs.Outcome.{Outcome, ok, no, need}
use Rattle.label.specs.Fetched.{halves, words}
use Rattle.label.specs.Places.{places}
use Rattle.label.specs.Sound.{clusters_of, glyphs_of, sound}
use Rattle.label.specs.Write.{text_of, indices_of, Label}
use Rattle.label.specs.Cause.{cause_number}
use Rattle.label.specs.Calls.{refusal, outcome_of, write_asked, outputs, lengths, text_after, indices_after}
use Rattle.label.specs.Requests.Attribute.{as_asked}
use Rattle.label.specs.declared.Cause.TheVariants as C
use Rattle.label.specs.declared.Lengths.{Lengths}
use Rattle.label.specs.declared.Refusal.{Refusal}
use Rattle.label.proofs.Requests.Escaping.{asked_indices}
use Rattle.octets.specs.Puts.{Put}
use Rattle.octets.proofs.Puts.{put_room}

-- the three clauses of the call, where the writing comes to w
abbrev Answer : Outcome Label → Result Lengths Refusal → List ℕ → List ℕ → List ℕ → List ℕ → Type 0
Answer w r T T' I I' = record { result : outcome_of r ≡ lengths w; text : T' ≡ text_after w T; indices : I' ≡ indices_after w I }

refuses : {w : Outcome Label} (x : Refusal) (T I : List ℕ) → w ≡ no (cause_number x.cause) x.place → Answer w (Err x) T T I I
refuses x T I e = rw e (record { result = refl; text = refl; indices = refl })

-- the check of 19 was passed
pub passed : {b : Bool} → ok tt ≡ need b 19 0 → b ≡ true
passed {b = true} e = refl
passed {b = false} e = no_ok 19 0 tt (sym e)

module _ (a : Bool) (us cs gs T I : List ℕ) where
  abbrev W : Outcome Label
  W = write_asked a (outputs T I) (places us cs gs)

  abbrev t : ℕ
  t = length (as_asked a (text_of (halves us)))

  abbrev i : ℕ
  i = length (indices_of (clusters_of (words cs)) (glyphs_of (words gs)))

  -- of an unsound run; `write_as` has it by `sound::check`, whose clause the search takes with `write_steps`
  pub refuses_19 : {x : Refusal} {s : Bool} → s ≡ sound (places us cs gs) → x ≡ refusal C.UnsoundRun 0 → not s ≡ true → Answer W (Err x) T T I I
  refuses_19 {s = s} e f k = rw f (refuses (refusal C.UnsoundRun 0) T I is)
    where
      is : W ≡ no 19 0
      is = write_steps a (outputs T I) (places us cs gs) ∙ rw (sym e ∙ not-true s k)

  module _ (yes : sound (places us cs gs) ≡ true) {n : ℕ} (et : n ≡ t) where
    pub refuses_20 : {x : Refusal} → x ≡ refusal C.TextRoom n → length T < n → Answer W (Err x) T T I I
    refuses_20 f h = rw f (refuses (refusal C.TextRoom n) T I is)
      where
        is : W ≡ no 20 n
        is = write_steps a (outputs T I) (places us cs gs) ∙ rw (yes, lt-leb t (length T) (omega arith), et)

    module _ (h : n ≤ length T) {m : ℕ} (ei : m ≡ i) where
      pub refuses_21 : {x : Refusal} → x ≡ refusal C.IndicesRoom m → length I < m → Answer W (Err x) T T I I
      refuses_21 f l = rw f (refuses (refusal C.IndicesRoom m) T I is)
        where
          is : W ≡ no 21 m
          is = write_steps a (outputs T I) (places us cs gs)
              ∙ rw (
                yes,
                le-leb t (length T) (omega arith),
                asked_indices a (clusters_of (words cs)) (glyphs_of (words gs)),
                lt-leb i (length I) (omega arith),
                ei,
              )

      module _ (l : m ≤ length I) where
        accepts : W ≡ ok (record { text = as_asked a (text_of (halves us)); indices = indices_of (clusters_of (words cs)) (glyphs_of (words gs)) })
        accepts = write_steps a (outputs T I) (places us cs gs)
            ∙ rw (yes, le-leb t (length T) (omega arith), asked_indices a (clusters_of (words cs)) (glyphs_of (words gs)), le-leb i (length I) (omega arith))

        pub written : ok (record { text = n; indices = m }) ≡ lengths W
        written = rw (accepts, et, ei)

        pub text_written : {T' : List ℕ} {p : ℕ} → Put T 0 (as_asked a (text_of (halves us))) p T' → T' ≡ text_after W T
        text_written b = rw accepts (put_room b (omega arith))

        pub indices_written : {I' : List ℕ} {p : ℕ} → Put I 0 (indices_of (clusters_of (words cs)) (glyphs_of (words gs))) p I' → I' ≡ indices_after W I
        indices_written b = rw accepts (put_room b (omega arith))

        -- the three clauses together
        pub writes : {T' I' : List ℕ} {p q : ℕ} → Put T 0 (as_asked a (text_of (halves us))) p T'
            → Put I 0 (indices_of (clusters_of (words cs)) (glyphs_of (words gs))) q I'
            → Answer W (Ok (record { text = n; indices = m })) T T' I I'
        writes b d = record { result = written; text = text_written b; indices = indices_written d }
