-- Resolving through the calls: what came out, cut at the count that was returned, is what the definition gives, and of escaped bytes the bytes themselves.
-- Assumes nothing.
use Prim.Native.Nat.{ℕ, ◌≤◌}
use mathlib.Core.Path.{◌≡◌, refl, subst}
use mathlib.Core.Bool.{true}
use mathlib.Core.List.{List}
use lib.ListN.{length, take}
use Rattle.label.specs.Run.{Run}
use Rattle.label.specs.Places.{Places, Readable}
use Rattle.label.specs.Write.{normal}
use Rattle.label.specs.Calls.{filled, room_of, asked_for, outputs}
use Rattle.label.specs.Requests.Attribute.{raw_checks, raw_gives, escape, resolve_checks, resolve_into}
use Rattle.label.specs.Statements.Demands.{Roomy, RoomyFor}
use Rattle.label.proofs.Statements.Demands.{read_into_holds, written_from, held, demand_3}
use Rattle.label.proofs.Statements.Attribute.{restoring}
use Rattle.glyph_label.specs.declared.GlyphLabelFilled.{GlyphLabelFilled}
use Rattle.glyph_label.specs.Promises.Memory.{Fills}
use Rattle.glyph_label.specs.CallContracts.{ReadCall, ResolveCall}
use Rattle.glyph_label.specs.Promises.Demands.{HoldsRun, HoldsLabel}
use Rattle.glyph_label.specs.Promises.Attribute.{EscapedReading, AttributePromises}
use Rattle.glyph_label.proofs.Bounds.{resolve_refusal, resolve_number}
use Rattle.glyph_label.proofs.Promises.Memory.{has_room, fill_ok, fill_refused, fills}
use Rattle.glyph_label.proofs.Promises.Demands.{holds_run, holds_label, text_cut, indices_cut}

resolves : (raw old : List ℕ) (a : GlyphLabelFilled) (new : List ℕ) → ResolveCall raw old a new
    → Fills (resolve_checks (length old) raw) (length (raw_gives raw)) (raw_gives raw) old a new
resolves raw old a new c =
    fills (λ (s : List ℕ). s) (resolve_into (length old) raw) old a new c (resolve_checks (length old) raw) (raw_gives raw) (unfold resolve_into in refl)
    (resolve_number (length old) raw)
    (λ h. unfold resolve_checks in (has_room (raw_checks raw) (length (raw_gives raw)) (length old) 24 (length (raw_gives raw)) h))

-- the bytes that came out, cut at the count
came_out_holds : (s old : List ℕ) (a : GlyphLabelFilled) (new : List ℕ) → a.filled ≡ length s → new ≡ filled s old → take a.filled new ≡ s
came_out_holds s old a new n e = rw (n, e) (held s old (length s) refl)

came : (raw old : List ℕ) (a : GlyphLabelFilled) (new : List ℕ) → ResolveCall raw old a new → a.number ≡ 0 → take a.filled new ≡ raw_gives raw
came raw old a new c z =
    let f = resolves raw old a new c in
    came_out_holds (raw_gives raw) old a new (f.returns z) (f.holds z)

restores : (s old : List ℕ) (a : GlyphLabelFilled) (new : List ℕ) → length s ≤ length old → ResolveCall (escape s) old a new
    → (a.number ≡ 0) × (a.filled ≡ length s) × (new ≡ filled s old)
restores s old a new m c =
    fill_ok (λ (x : List ℕ). x) (resolve_into (length old) (escape s)) old a new c s (restoring.restores_into s (length old) m)

-- escaped bytes, as they stand in an output, resolved
back : (raw s old : List ℕ) (a : GlyphLabelFilled) (new : List ℕ) → raw ≡ escape s → length s ≤ length old → ResolveCall raw old a new
    → (a.number ≡ 0) × (take a.filled new ≡ s)
back raw s old a new e m c =
    let (z, n, h) = restores s old a new m (subst (λ (x : List ℕ). ResolveCall x old a new) e c) in
    (z, came_out_holds s old a new n h)

module _ (z : Places) (v : Readable z) (tx ix bt bi us cs gs : List ℕ) (c : EscapedReading z tx ix bt bi us cs gs)
    (out : RoomyFor (asked_for true (normal v.run)) (outputs tx ix)) (buffers : RoomyFor (normal v.run) (outputs bt bi))
    (room : Roomy v.run (room_of us cs gs)) where
  abbrev r : Run
  r = v.run

  wrote : HoldsLabel (asked_for true (normal r)) tx ix c.written c.text c.indices
  wrote = holds_label true z tx ix c.written c.text c.indices c.writes (asked_for true (normal r)) (written_from true z (outputs tx ix) v out)

  text_back : (c.raw.of_text_holds.number ≡ 0) × (take c.raw.of_text_holds.filled c.raw.text ≡ (normal r).text)
  text_back = back _ (normal r).text bt c.raw.of_text_holds c.raw.text (text_cut _ tx ix _ _ _ wrote) buffers.for_text c.raw.resolves_text

  indices_back : (c.raw.of_indices.number ≡ 0) × (take c.raw.of_indices.filled c.raw.indices ≡ (normal r).indices)
  indices_back =
      back _ (normal r).indices bi c.raw.of_indices c.raw.indices (indices_cut _ tx ix _ _ _ wrote) buffers.for_indices c.raw.resolves_indices

  restored : (c.written.number ≡ 0) × (c.raw.of_text_holds.number ≡ 0) × (c.raw.of_indices.number ≡ 0)
      × HoldsRun r us cs gs c.raw.answer c.raw.units c.raw.clusters c.raw.glyphs
  restored =
      let t = (normal r).text in
      let i = (normal r).indices in
      let q : ReadCall t i us cs gs c.raw.answer c.raw.units c.raw.clusters c.raw.glyphs =
      rw (text_back.1, indices_back.1) at c.raw.reads in (
        wrote.number,
        text_back.0,
        indices_back.0,
        holds_run t i us cs gs _ _ _ _ q r (read_into_holds t i r (room_of us cs gs) (demand_3.back v.text v.indices r v.reads) room),
      )

pub attribute_promises : AttributePromises
attribute_promises =
    record {
      resolves = resolves;
      numbers = λ raw old a new c z. resolve_refusal (length old) raw a.number a.place
          (fill_refused (λ (s : List ℕ). s) (resolve_into (length old) raw) old a new c z).0;
      reads = λ t i bt bi us cs gs c x y.
          rw (came t bt c.of_text_holds c.text c.resolves_text x, came i bi c.of_indices c.indices c.resolves_indices y) at c.reads;
      restores = restores;
      restored = restored;
    }
