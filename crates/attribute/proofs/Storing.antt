-- Laws of the walk that stores what a raw value resolves to, with its invariant `Reached`: start, a piece, what is bad, the end.
-- Assumes nothing.
use Rattle.std.proofs.Common.{◌≡◌, ℕ, suc, ◌+◌, ◌≤◌, ◌<◌, List, [], ◌++◌, length, get_or, drop, Some, Result, Ok, Err, Bor, subst, sym, ap, ◌∙◌, arith, length-append, length-drop}
use mathlib.Core.List.{append-nil}
use native.Mathlib.Numerals.{add-one}
use Rattle.label.specs.Outcome.{ok, no}
use Rattle.label.specs.Cause.{cause_number}
use Rattle.label.specs.Requests.Attribute.{gives, further}
use Rattle.label.specs.Steps.{resolve_from, resolve}
use Rattle.label.proofs.Cursors.{onto, onto_nil, onto_onto}
use Rattle.label.proofs.Requests.Attribute.{resolve_good, resolve_bad, resolve_end, gives_within}
use Rattle.octets.specs.Outputs.{Gains}
use Rattle.octets.specs.declared.Output.{Output}
use Rattle.octets.proofs.Outputs.{nothing, then}
use Rattle.label.specs.declared.Refusal.{Refusal}
use Rattle.attribute.specs.declared.Piece.{Piece}
use Rattle.attribute.specs.declared.Pieces.{Pieces}
use Rattle.attribute.specs.Pieces.{piece_bytes, IsPiece, GivesPiece}

-- w came out so far, and what the raw value resolves to is w before what the rest resolves to
pub record Reached (raw : List ℕ) (old : Output) (s : Pieces) (new : Output) : Type 0 where
  pub of : s.raw.now ≡ raw
  pub w : List ℕ
  pub far : resolve raw ≡ onto w (resolve_from 0 s.at (drop s.at raw))
  pub gained : Gains old w new
  pub few : length w ≤ s.at
  pub inside : s.at ≤ length raw

pub start : {raw : List ℕ} {old : Output} {s : Pieces} → s.raw.now ≡ raw → s.at ≡ 0 → Reached raw old s old
start {raw} {old} {s} e f = record { of = e; w = []; far = rw f (sym (onto_nil (resolve raw))); gained = nothing; few = omega arith; inside = omega arith }

module _ {raw : List ℕ} {old new : Output} {s : Pieces} (g : Reached raw old s new) where
  pub end : length s.raw.now ≤ s.at → resolve raw ≡ ok g.w
  end h = g.far ∙ rw (resolve_end raw s.at (rw g.of at h)) (ap (λ (l : List ℕ). ok l) (append-nil g.w))

  module _ (t : Pieces) {q : Result Piece Refusal} (h : GivesPiece s (Some q) t) where
    pub bad : {r : Refusal} → q ≡ Err r → resolve raw ≡ no (cause_number r.cause) r.place
    bad {r} e =
        let k : GivesPiece s (Some (Err r)) t = subst (λ (x : Result Piece Refusal). GivesPiece s (Some x) t) e h in
        rw k.0 (g.far ∙ rw (resolve_bad raw s.at (rw g.of at k.1) (rw (g.of, add-one) at k.2)))

    pub good : {x : Piece} → q ≡ Ok x → {w : List ℕ} {new' : Output} → w ≡ piece_bytes x → Gains new w new' → Reached raw old t new'
    good {x} e {w} {new'} v f =
        let k : GivesPiece s (Some (Ok x)) t = subst (λ (y : Result Piece Refusal). GivesPiece s (Some y) t) e h in
        let l : s.at < length raw = rw g.of at k.0 in
        let p : IsPiece (get_or raw s.at 0) (drop (suc s.at) raw) x k.2 = rw (g.of, add-one) at k.3 in
        let j : suc s.at + further (get_or raw s.at 0) (drop (suc s.at) raw) ≡ t.at = omega (arith, k.4, p.length_is) in
        let b : w ≡ gives (get_or raw s.at 0) (drop (suc s.at) raw) = v ∙ p.bytes in
        record {
          of = ap (λ (r : Bor (List ℕ)). r.now) k.1 ∙ g.of;
          w = g.w ++ w;
          far = g.far ∙ rw (resolve_good raw s.at l p.good, ← b, j) (onto_onto g.w w (resolve_from 0 t.at (drop t.at raw)));
          gained = then g.gained f;
          few = omega (arith, length-append g.w w, g.few, ap length b, gives_within (get_or raw s.at 0) (drop (suc s.at) raw) p.good, j);
          inside = omega (arith, p.within, length-drop (suc s.at) raw, k.4, l);
        }
