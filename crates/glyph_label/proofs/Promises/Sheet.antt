-- A sheet through the call: the list holds what the definition of its answers says, and number and place of a single reading's answer are its outcome's.
-- Assumes nothing.
use Prim.Native.Nat.{ℕ, ◌*◌, ◌/◌, ◌≤◌}
use native.Mathlib.Omega.{arith}
use mathlib.Core.Path.{◌≡◌, refl, sym, ap, subst, ◌∙◌}
use mathlib.Core.Logic.{◌↔◌}
use mathlib.Core.Bool.{true}
use mathlib.Core.List.{List, [], ◌++◌, ◌∷◌}
use lib.IntN.{pos}
use lib.ListN.{length}
use Rattle.label.specs.Limits.{max_units, max_glyphs}
use Rattle.label.specs.Outcome.{Outcome, ok, no}
use Rattle.label.specs.Run.{Run}
use Rattle.label.specs.Checks.{read}
use Rattle.label.specs.Wire.{from_words}
use Rattle.label.specs.Write.{Label}
use Rattle.label.specs.Calls.{filled, room_of, read_into}
use Rattle.label.specs.Requests.Sheet.{file_labels, file_checks, answer_of, answers, sheet_checks, sheet_into}
use Rattle.label.specs.Statements.Demands.{all_bytes}
use Rattle.label.specs.Statements.Sheet.{sheet_file, Held, OneList, answer_at, Large}
use Rattle.label.specs.declared.Counts.{Counts}
use Rattle.label.proofs.Wire.{length_words}
use Rattle.label.proofs.Requests.Sheet.{length_answers}
use Rattle.label.proofs.Statements.Demands.{read_into_holds, into_read}
use Rattle.label.proofs.Statements.Sheet.{labels_into, answering}
use Rattle.glyph_label.specs.declared.GlyphLabelReading.{GlyphLabelReading}
use Rattle.glyph_label.specs.declared.GlyphLabelFilled.{GlyphLabelFilled}
use Rattle.glyph_label.specs.Promises.Memory.{Fills}
use Rattle.glyph_label.specs.CallContracts.{ReadCall}
use Rattle.glyph_label.specs.CallContracts.{SheetCall}
use Rattle.glyph_label.specs.Promises.Sheet.{SheetPromises}
use Rattle.glyph_label.proofs.Bounds.{reading_placed, sheet_refusal, sheet_number}
use Rattle.glyph_label.proofs.Promises.Memory.{number_in, place_in, numbered, accepted, has_room, fill_said, fill_ok, fill_refused, fills}
use Rattle.glyph_label.proofs.Promises.Demands.{read_said}

-- the answers to these labels, as bytes, have room where their numbers have
answers_room : (ls : List Label) (n : ℕ) → 2 * length ls ≤ n / 4 → length (from_words (answers ls)) ≤ n
answers_room ls n h = omega (arith, h, length_words (answers ls), length_answers ls)

sheet_fills : (file old : List ℕ) (a : GlyphLabelFilled) (new : List ℕ) → SheetCall file old a new
    → Fills (sheet_checks (length old / 4) file) (2 * length (file_labels file)) (from_words (answers (file_labels file))) old a new
sheet_fills file old a new c =
    subst (λ (n : ℕ). Fills (sheet_checks (length old / 4) file) n (from_words (answers (file_labels file))) old a new) (length_answers (file_labels file))
    (fills from_words (sheet_into (length old / 4) file) old a new c (sheet_checks (length old / 4) file) (answers (file_labels file))
    (unfold sheet_into in refl) (sheet_number (length old / 4) file)
    (λ h. answers_room (file_labels file) (length old) (unfold sheet_checks in
    (has_room (file_checks file) (2 * length (file_labels file)) (length old / 4) 27 (length (file_labels file)) h))))

sheet_accepts : (file old : List ℕ) (a : GlyphLabelFilled) (new : List ℕ) → all_bytes file ≡ true → SheetCall file old a new
    → (a.number ≡ 0) ↔ ((ls : List Label) × OneList file ls × (2 * length ls ≤ length old / 4))
sheet_accepts file old a new b c =
    let o = sheet_into (length old / 4) file in
    let f : a.number ≡ number_in o = (fill_said from_words o old a new c).0 in (
      λ z. let (list, e) = accepted o (sheet_number (length old / 4) file) (sym f ∙ z) in
          let (ls, q, m, r) = (answering.accepts (length old / 4) file list b).0 e in (ls, q, m),
      λ ls. f ∙ ap number_in ((answering.accepts (length old / 4) file (answers ls.0) b).1 (ls.0, ls.1, ls.2, refl)),
    )

-- the file of these labels
lists : (ls : List Label) (old : List ℕ) (a : GlyphLabelFilled) (new : List ℕ) → Held ls old → SheetCall (sheet_file ls) old a new
    → (a.number ≡ 0) × (a.filled ≡ 2 * length ls) × (new ≡ filled (from_words (answers ls)) old)
lists ls old a new (f, m) c =
    let e = labels_into (length old / 4) (sheet_file ls) ls (answering.back ls f) m in
    let (z, n, h) = fill_ok from_words (sheet_into (length old / 4) (sheet_file ls)) old a new c (answers ls) e in
    (z, n ∙ length_answers ls, h)

-- an outcome's answer is its number and its place
answer_is : (o : Outcome Run) → answer_of o ≡ (pos (number_in o) ∷ pos (place_in o) ∷ [])
answer_is (ok r) = refl
answer_is (no n p) = refl

single : (xs ys : List Label) (l : Label) (old : List ℕ) (a : GlyphLabelFilled) (new us cs gs : List ℕ) (b : GlyphLabelReading) (us' cs' gs' : List ℕ)
    → Held (xs ++ (l ∷ ys)) old → Large l (room_of us cs gs) → SheetCall (sheet_file (xs ++ (l ∷ ys))) old a new
    → ReadCall l.text l.indices us cs gs b us' cs' gs'
    → answer_at (length xs) new ≡ (pos b.number ∷ pos b.place ∷ [])
single xs ys l old a new us cs gs b us' cs' gs' h m c d =
    let (n, p) = read_said l.text l.indices us cs gs b us' cs' gs' d in
    ap (answer_at (length xs)) c.buffer ∙ answering.single xs ys l old (room_of us cs gs) h m
    ∙ answer_is (read_into (room_of us cs gs) l.text l.indices) ∙ rw (n, p)

large : (l : Label) (us cs gs : List ℕ) → 8192 ≤ length us → 32768 ≤ length cs → 65536 ≤ length gs → Large l (room_of us cs gs)
large l us cs gs x y z r e =
    let m = answering.large l r e in
    record { for_units = omega (arith, m.for_units); for_clusters = omega (arith, m.for_clusters); for_glyphs = omega (arith, m.for_glyphs) }

-- 0 and 0 is the answer of an accepted label alone: of a reading with the largest buffers
zeros : (o : Outcome Run) → answer_of o ≡ (pos 0 ∷ pos 0 ∷ []) → number_in o ≡ 0
zeros o e = let q : (pos (number_in o) ∷ pos (place_in o) ∷ []) ≡ (pos 0 ∷ pos 0 ∷ []) = sym (answer_is o) ∙ e in cc

sheet_accepted : (xs ys : List Label) (l : Label) (old : List ℕ) (a : GlyphLabelFilled) (new : List ℕ) → Held (xs ++ (l ∷ ys)) old
    → SheetCall (sheet_file (xs ++ (l ∷ ys))) old a new
    → (answer_at (length xs) new ≡ (pos 0 ∷ pos 0 ∷ [])) ↔ ((r : Run) × (read l.text l.indices ≡ ok r))
sheet_accepted xs ys l old a new h c =
    let room : Counts = record { units = max_units; clusters = max_glyphs; glyphs = max_glyphs } in
    let o : Outcome Run = read_into room l.text l.indices in
    let e : answer_at (length xs) new ≡ answer_of o = ap (answer_at (length xs)) c.buffer ∙ answering.single xs ys l old room h (answering.large l) in (
      λ z. let (r, q) = accepted o (numbered (reading_placed room l.text l.indices)) (zeros o (sym e ∙ z)) in
          (r, (into_read l.text l.indices r room q).0),
      λ r. e ∙ ap answer_of (read_into_holds l.text l.indices r.0 room r.1 (answering.large l r.0 r.1)),
    )

pub sheet_promises : SheetPromises
sheet_promises =
    record {
      fills = sheet_fills;
      numbers = λ file old a new c z. sheet_refusal (length old / 4) file a.number a.place
          (fill_refused from_words (sheet_into (length old / 4) file) old a new c z).0;
      accepts = sheet_accepts;
      lists = lists;
      single = single;
      large = large;
      accepted = sheet_accepted;
      replaced = λ xs ys l m old a b new new' k h h' c d n. ap (answer_at k) c.buffer ∙ answering.replaced xs ys l m old k h h' n
          ∙ sym (ap (answer_at k) d.buffer);
      swapped = λ xs ys zs l m old a b new new' k h c d n n'. ap (answer_at k) c.buffer ∙ answering.swapped xs ys zs l m old k h n n'
          ∙ sym (ap (answer_at k) d.buffer);
    }
