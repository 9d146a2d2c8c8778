-- What document 02 asks of resolving and escaping, proved: from `restored`, the laws of checks, and the demands' writer, asked to escape.
-- Assumes nothing.
use Prim.Native.Nat.{ℕ, ◌≤◌}
use native.Mathlib.Omega.{arith}
use mathlib.Core.Path.{◌≡◌, refl, ◌∙◌, ap}
use mathlib.Core.Logic.{◌↔◌}
use mathlib.Core.Bool.{true, false}
use mathlib.Core.List.{List, [], ◌∷◌}
use borrow.Author.Tests.{le-leb}
use lib.Dec.{eqb}
use lib.ListN.{length}
use Rattle.label.specs.Outcome.{Outcome, ok, no}
use Rattle.label.specs.Statements.Memory.{GivenBy}
use Rattle.label.specs.Bytes.{ascii, Cut}
use Rattle.label.specs.Run.{Run, said_run}
use Rattle.label.specs.Places.{places_of}
use Rattle.label.specs.Write.{Label, normal}
use Rattle.label.specs.Calls.{filled_count, filled_after, room_of, read_into, asked_for, outputs}
use Rattle.label.specs.Requests.Attribute.{raw_gives, escape_byte, escape, resolve_checks, resolve_into}
use Rattle.label.specs.Statements.Attribute.{raw_label_checks, read_raw}
use Rattle.label.specs.Statements.Memory.{filled_all, Kept}
use Rattle.label.specs.Statements.Demands.{RoomyFor}
use Rattle.label.specs.Statements.Attribute.{came_out, escaped_text, escaped_indices, Restored, is_markup, Restoring}
use Rattle.label.proofs.Basics.{cases}
use Rattle.label.proofs.Splits.{none, none_append}
use Rattle.label.proofs.Decimals.{cut_none}
use Rattle.label.proofs.Values.{normal_writer}
use Rattle.label.proofs.Sound.{read_sound}
use Rattle.label.proofs.Steps.{resolve_into_steps, raw_steps}
use Rattle.label.proofs.Checks.{given_is, kept}
use Rattle.label.proofs.Statements.Demands.{written_to, written_from, written_as, own, writer_fixed, wrote, writer_memory, held, demand_3}
use Rattle.label.proofs.Sizes.{sound_short}
use Rattle.label.proofs.Requests.Attribute.{restored, ten_numbered, resolved_within}
use Rattle.label.proofs.Requests.Escaping.{escaped_most, indices_plain}
use Rattle.label.specs.Steps.{resolve}

-- ── resolving into a buffer ──

resolve_into_holds : (raw s : List ℕ) (room : ℕ) → resolve raw ≡ ok s → length s ≤ room → resolve_into room raw ≡ ok s
resolve_into_holds raw s room h m = resolve_into_steps room raw ∙ rw (h, le-leb (length s) room m)

fixed : (room : ℕ) (raw : List ℕ) (n p : ℕ) → (resolve_into room raw ≡ no n p) ↔ GivenBy (resolve_checks room raw) n p
unfolding resolve_into
fixed room raw n p = given_is (resolve_checks room raw) n p (raw_gives raw)

memory : (raw old : List ℕ)
    → Kept (resolve_checks (length old) raw) (raw_gives raw) (λ s. s ∷ []) (resolve_into (length old) raw) (old ∷ [])
    (filled_after (resolve_into (length old) raw) old ∷ [])
unfolding resolve_into filled_all
memory raw old = kept (resolve_checks (length old) raw) (raw_gives raw) (λ s. s ∷ []) (old ∷ []) (λ o. filled_after o old ∷ []) refl (λ n p. refl)

-- ── written, resolved and read ──

-- the bytes of an output or a buffer that begins with these
came_out_holds : (s old : List ℕ) → length s ≤ length old → came_out (length s) (escape s) old ≡ s
came_out_holds s old m = rw (resolve_into_holds (escape s) s (length old) (restored s 0) m) (held s old (length s) refl)

restored_all : (r : Run) (w : Outcome Label) (reads : List ℕ → List ℕ → Outcome Run) (tx ix bt bi : List ℕ) → w ≡ ok (asked_for true (normal r))
    → RoomyFor (asked_for true (normal r)) (outputs tx ix) → RoomyFor (normal r) (outputs bt bi) → reads (normal r).text (normal r).indices ≡ ok r
    → Restored r w reads tx ix bt bi
restored_all r w reads tx ix bt bi e m n b =
    let t = (normal r).text in
    let i = (normal r).indices in
    let et : escaped_text r w tx ≡ escape t = rw e (held (escape t) tx (length (escape t)) refl) in
    let ei : escaped_indices r w ix ≡ escape i = rw e (held (escape i) ix (length (escape i)) refl) in
    record {
      wrote = rw e (wrote (asked_for true (normal r)) (asked_for true (normal r)) tx ix refl m);
      text = rw (et, resolve_into_holds (escape t) t (length bt) (restored t 0) n.for_text);
      indices = rw (ei, resolve_into_holds (escape i) i (length bi) (restored i 0) n.for_indices);
      back = rw (et, ei, came_out_holds t bt n.for_text, came_out_holds i bi n.for_indices) b;
    }

-- ── what is escaped holds no markup ──

plain_bare : (b : ℕ) → eqb b 60 ≡ false → eqb b 34 ≡ false → eqb b 9 ≡ false → eqb b 10 ≡ false → eqb b 13 ≡ false → none is_markup (b ∷ []) ≡ true
plain_bare b l q t n r = rw (l, q, t, n, r)

byte_bare : (b : ℕ) → none is_markup (escape_byte b) ≡ true
unfolding escape_byte ascii
byte_bare b =
    cases (eqb b 38) (λ a. rw a)
    (λ a. cases (eqb b 60) (λ l. rw (a, l))
    (λ l. cases (eqb b 34) (λ q. rw (a, l, q))
    (λ q. cases (eqb b 9) (λ t. rw (a, l, q, t))
    (λ t. cases (eqb b 10) (λ n. rw (a, l, q, t, n))
    (λ n. cases (eqb b 13) (λ r. rw (a, l, q, t, n, r)) (λ r. rw (a, l, q, t, n, r) (plain_bare b l q t n r)))))))

escape_bare : (s : List ℕ) → none is_markup (escape s) ≡ true
unfolding escape
escape_bare [] = refl
escape_bare (b ∷ s) = none_append is_markup (escape_byte b) (escape s) (byte_bare b) (escape_bare s)

pub restoring : Restoring
restoring =
    record {
      restores = λ s. restored s 0;
      restores_into = λ s room h. resolve_into_holds (escape s) s room (restored s 0) h;
      back = λ t i r room h n. raw_steps room (escape (normal r).text) (escape (normal r).indices) ∙ (rw (
        resolve_into_holds (escape (normal r).text) (normal r).text room.text (restored (normal r).text 0) n.for_text,
        resolve_into_holds (escape (normal r).indices) (normal r).indices room.indices (restored (normal r).indices 0) n.for_indices,
      )
          (demand_3.back t i r h));
      passed = λ t i r tx ix bt bi us cs gs h m n o. restored_all r _ (λ x y. read_into (room_of us cs gs) x y) tx ix bt bi
          (written_from true (places_of r) (outputs tx ix) (own t i r h) m)
          m n (demand_3.reads (normal r).text (normal r).indices r (room_of us cs gs) (demand_3.back t i r h) o);
      no_markup = λ s. ap (λ (c : Cut). c.found) (cut_none is_markup (escape s) (escape_bare s));
      written = λ asked z room b. (
        λ l. let (w, e, m) = written_to asked z room l.0 b l.1 in (w, m),
        λ w. (asked_for asked (normal w.0.run), written_from asked z room w.0 w.1),
      );
      written_as = written_as;
      fixed = fixed;
      raw_is = raw_steps;
      raw_fixed = λ room text indices n p. unfold read_raw in (given_is (raw_label_checks room text indices) n p
          (said_run (raw_gives text) (raw_gives indices)));
      writer_fixed = writer_fixed;
      count = λ room raw s h. ap filled_count h;
      memory = memory;
      writer_memory = writer_memory;
      short = λ raw s h. omega (arith, resolved_within raw 0 0 s h);
      largest = λ t i r h. let s = read_sound t i r h in
          record { for_text = escaped_most r s; for_indices = rw (indices_plain r.clusters r.glyphs) (sound_short normal_writer r s).for_indices };
      indices_stay = indices_plain;
      decimal = ten_numbered;
    }
