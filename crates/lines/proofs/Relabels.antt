-- What reading a label and writing the bytes it filled come to: the label's counts and its normal lines, or the refusal. The buffers hold every run, so
-- demand 3 says it.
-- Assumes nothing.
use Rattle.label.proofs.Steps.{relabel_steps, into_steps}
use Rattle.label.specs.Statements.Demands.{Roomy, RoomyFor, Wrote}
use Rattle.label.specs.Checks.{read}
use Prim.Native.Nat.{ℕ, ◌*◌, ◌≤◌, ◌<◌}
use native.Mathlib.Omega.{arith}
use mathlib.Core.Path.{◌≡◌, refl, sym, ◌∙◌, ap}
use mathlib.Core.List.{List}
use borrow.Author.Tests.{le-leb, lt-leb}
use lib.ListN.{length}
use Rattle.label.specs.Limits.{max_text_bytes, max_indices_bytes, max_units, max_glyphs, max_line_bytes}
use Rattle.label.specs.Outcome.{Outcome, ok, no}
use Rattle.label.specs.Run.{Run}
use Rattle.label.specs.Write.{Label, normal}
use Rattle.label.specs.Calls.{read_into, counts, counted, lengths, text_after, indices_after}
use Rattle.label.specs.Calls.{room_of, outputs, units_after, clusters_after, glyphs_after}
use Rattle.label.specs.Relabel.{relabel_read}
use Rattle.label.specs.declared.Counts.{Counts}
use Rattle.label.proofs.Basics.{no_ok}
use Rattle.label.proofs.Lists.{counted_no}
use Rattle.label.proofs.Sound.{read_sound}
use Rattle.label.proofs.Statements.Demands.{demand_3}
use Rattle.label.proofs.Values.{normal_writer}
use Rattle.label.proofs.Sizes.{largest, longest, sound_roomy, sound_short, read_largest}
use Rattle.lines.specs.Lines.{answered, places_written, relabelled, text_line, indices_line}
use Rattle.lines.specs.declared.Relabelled.{Relabelled}

-- the three clauses of a label's lines: the answer, and what the two outputs hold
abbrev pub Relabels : Outcome Run → Outcome Relabelled → List ℕ → List ℕ → List ℕ → List ℕ → Type 0
Relabels read o text₀ text indices₀ indices =
    record { result : o ≡ relabelled read; text : text ≡ text_line read text₀; indices : indices ≡ indices_line read indices₀ }

-- a line of indices that is too long
pub long_line : (t i : List ℕ) → max_line_bytes < length i → no 1 0 ≡ relabel_read t i
long_line t i h = sym (relabel_steps t i ∙ rw (lt-leb (length i) max_line_bytes h))

-- the reading into buffers that hold every run
largest_is : (t i : List ℕ) → read_into largest t i ≡ read t i
largest_is t i = go (read t i) refl
  where
    go : (o : Outcome Run) → read t i ≡ o → read_into largest t i ≡ read t i
    go (ok r) h = read_largest t i r h ∙ sym h
    go (no n p) h = into_steps largest t i ∙ rw h

-- a label with a line of indices that is not too long
module _ (t i : List ℕ) (few : length i ≤ max_line_bytes) where
  read_is : relabel_read t i ≡ read_into largest t i
  read_is = relabel_steps t i ∙ rw (le-leb (length i) max_line_bytes few) (sym (largest_is t i))

  refused : (n p : ℕ) → no n p ≡ counted (read_into largest t i) → relabel_read t i ≡ no n p
  refused n p h = read_is ∙ counted_no (read_into largest t i) n p (sym h)

  pub record WasRead (c : Counts) : Type 0 where
    pub run : Run
    pub is : read t i ≡ ok run
    pub relabelled_is : relabel_read t i ≡ ok run
    pub counts_are : c ≡ counts run

  was_read : (c : Counts) → ok c ≡ counted (read_into largest t i) → WasRead c
  was_read c h = go (read_into largest t i) refl h
    where
      go : (o : Outcome Run) → read_into largest t i ≡ o → ok c ≡ counted o → WasRead c
      go (ok r) e k = let q : c ≡ counts r = cc in record { run = r; is = sym (largest_is t i) ∙ e; relabelled_is = read_is ∙ e; counts_are = q }
      go (no n p) e k = no_ok n p c (sym k)

-- ── at the calls ──

-- a label read into buffers of the largest sizes, and the two outputs before
module _ (t i us cs gs tx ix : List ℕ) (few : length i ≤ max_line_bytes)
    (sizes : (length us ≡ 2 * max_units) × (length cs ≡ 8 * max_glyphs) × (length gs ≡ 16 * max_glyphs)) where
  abbrev reading : Outcome Run
  reading = read_into (room_of us cs gs) t i

  reading_is : reading ≡ read_into largest t i
  reading_is = rw (sizes.0, sizes.1, sizes.2)

  pub line_refused : (n p : ℕ) → no n p ≡ counted reading
      → Relabels (relabel_read t i) (no n p) tx tx ix ix
  line_refused n p h = rw (refused t i few n p (h ∙ ap counted reading_is)) (record { result = refl; text = refl; indices = refl })

  abbrev written : Counts → List ℕ → List ℕ → List ℕ → Outcome Label
  written c us' cs' gs' = places_written c us' cs' gs' (outputs tx ix)

  -- a label that was read: the buffers hold its run, and the writer, handed the bytes that the reading filled, leaves its normal lines
  module _ (r : Run) (is : read t i ≡ ok r) where
    roomy : Roomy r (room_of us cs gs)
    roomy = rw (sizes.0, sizes.1, sizes.2) (sound_roomy r (read_sound t i r is))

    written_as : max_text_bytes ≤ length tx → max_indices_bytes ≤ length ix → (c : Counts) (us' cs' gs' : List ℕ) → c ≡ counts r
        → us' ≡ units_after reading us → cs' ≡ clusters_after reading cs → gs' ≡ glyphs_after reading gs → Wrote (normal r) (written c us' cs' gs') tx ix
    written_as hx hy c us' cs' gs' k hu hc hg =
        let s : RoomyFor (normal r) longest = sound_short normal_writer r (read_sound t i r is) in
        let n : RoomyFor (normal r) (outputs tx ix) =
        record { for_text = omega (arith, s.for_text); for_indices = omega (arith, s.for_indices) } in
        rw (hu, hc, hg, k) (demand_3.passed t i r us cs gs tx ix is roomy n).wrote

  module _ (c : Counts) (h : ok c ≡ counted reading) where
    read_as : WasRead t i few c
    read_as = was_read t i few c (h ∙ ap counted reading_is)

    -- the counts are within the buffers
    pub line_room : (us' cs' gs' : List ℕ) → length us' ≡ length us → length cs' ≡ length cs → length gs' ≡ length gs
        → (2 * c.units ≤ length us') × (8 * c.clusters ≤ length cs') × (16 * c.glyphs ≤ length gs')
    line_room us' cs' gs' a b d =
        let m = roomy read_as.run read_as.is in
        rw (a, b, d, read_as.counts_are) (omega (arith, m.for_units), omega (arith, m.for_clusters), omega (arith, m.for_glyphs))

    -- the run that was read is written
    pub line_written : (us' cs' gs' : List ℕ) (o : Outcome Relabelled) (tx' ix' : List ℕ) → max_text_bytes ≤ length tx → max_indices_bytes ≤ length ix
        → us' ≡ units_after reading us → cs' ≡ clusters_after reading cs → gs' ≡ glyphs_after reading gs
        → o ≡ answered c (lengths (written c us' cs' gs')) → tx' ≡ text_after (written c us' cs' gs') tx → ix' ≡ indices_after (written c us' cs' gs') ix
        → Relabels (relabel_read t i) o tx tx' ix ix'
    line_written us' cs' gs' o tx' ix' hx hy hu hc hg ho ht hi =
        let w = written_as read_as.run read_as.is hx hy c us' cs' gs' read_as.counts_are hu hc hg in
        let b = read_as.relabelled_is in
        record {
          result = ho ∙ rw (w.lengths_are, b, ← read_as.counts_are);
          text = ht ∙ rw b w.text;
          indices = hi ∙ rw b w.indices;
        }
