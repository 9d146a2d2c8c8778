-- The part shown, by its definition.
-- Assumes nothing.
use Prim.Native.Nat.{ℕ, ◌+◌, ◌-◌, ◌<◌, ◌≤◌}
use native.Mathlib.Omega.{arith}
use mathlib.Core.Path.{◌≡◌, refl, ap, ◌∙◌}
use mathlib.Core.Logic.{⊎_elim}
use mathlib.Core.Bool.{true, false, ◌&&◌}
use mathlib.Core.List.{List, []}
use borrow.Author.Tests.{lt-ltb, ltb-true, leb-true, eqb-true}
use lib.Dec.{leb, ltb, eqb}
use lib.ListN.{length, get_or, take, drop, length-drop}
use lib.Seq.{take_all}
use Rattle.label.specs.Entry.{entries}
use Rattle.label.specs.Fault.{of_text, of_entry, entry_start, portion, of_source, fault_part}
use Rattle.label.specs.declared.Source.{Source}
use Rattle.label.specs.declared.Source.TheVariants.{Text, Indices}
use Rattle.label.specs.declared.Part.{Part}
use Rattle.label.proofs.Basics.{and_l, and_r, or_cases, cases}
use Rattle.faults.proofs.Standing.{entry_stands}
use Rattle.glyph_label.specs.declared.GlyphLabelPart.{GlyphLabelPart}
use Rattle.glyph_label.specs.Answers.{part_answer}
use Rattle.glyph_label.specs.Promises.Fault.{Shown, FaultPromises}

-- ── the part ──

shown : (w : Source) (s n : ℕ) (a : GlyphLabelPart) (x : Part) (own bytes : List ℕ) → a ≡ part_answer x → x ≡ portion w s n → s + n ≤ length own
    → take n (drop s own) ≡ bytes → (a.start ≡ s) × Shown a (of_source 0 1 w) own bytes
shown w s n a x own bytes h e l q =
    let f : a ≡ part_answer (portion w s n) = h ∙ ap part_answer e in
    rw f (refl, record { slice = refl; inside = l; is = q })

-- a number of an entry is none of the text
no_text : (n : ℕ) → of_entry n ≡ true → of_text n ≡ false
no_text n h =
    cases (of_text n)
    (λ t. let m : n ≤ 4 = leb-true n 4 (and_r (leb 2 n) (leb n 4) t) in
    ⊎_elim (λ k. absurd (omega (arith, leb-true 7 n (and_l (leb 7 n) (leb n 12) k)))) (λ k. absurd (omega (arith, eqb-true n 14 k)))
    (or_cases (leb 7 n && leb n 12) (eqb n 14) h))
    (λ t. t)

module _ (t i : List ℕ) (n p : ℕ) (a : GlyphLabelPart) (h : a ≡ part_answer (fault_part t i n p)) where
  of_text_holds : of_text n ≡ true → p < length t → (a.start ≡ p) × Shown a 0 t (drop p t)
  of_text_holds o l =
      shown Text p (length t - p) a (fault_part t i n p) t (drop p t) h (unfold fault_part in (rw (o, lt-ltb p (length t) l))) (omega arith)
      (take_all (length t - p) (drop p t) (omega (arith, length-drop p t)))

  of_entry_holds : of_entry n ≡ true → p < length (entries i) → (a.start ≡ entry_start (entries i) p) × Shown a 1 i (get_or (entries i) p [])
  of_entry_holds o l =
      let (m, e) = entry_stands i p l in
      shown Indices (entry_start (entries i) p) (length (get_or (entries i) p [])) a (fault_part t i n p) i (get_or (entries i) p []) h
      (unfold fault_part in (rw (no_text n o, o, lt-ltb p (length (entries i)) l))) m e

  of_none : (of_text n ≡ true → p < length t → ⊥) → (of_entry n ≡ true → p < length (entries i) → ⊥) → (a.start ≡ 0) × Shown a 0 t []
  of_none x y =
      shown Text 0 0 a (fault_part t i n p) t [] h
      (unfold fault_part in
      (cases (of_text n && ltb p (length t))
      (λ q. absurd (x (and_l (of_text n) (ltb p (length t)) q) (ltb-true p (length t) (and_r (of_text n) (ltb p (length t)) q))))
      (λ q. cases (of_entry n && ltb p (length (entries i)))
      (λ r. absurd
      (y (and_l (of_entry n) (ltb p (length (entries i))) r) (ltb-true p (length (entries i)) (and_r (of_entry n) (ltb p (length (entries i))) r))))
      (λ r. rw (q, r)))))
      (omega arith) refl

pub fault_promises : FaultPromises
fault_promises = record { of_text_holds = of_text_holds; of_entry_holds = of_entry_holds; of_none = of_none }
