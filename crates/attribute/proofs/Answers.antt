-- Laws of the call that resolves a raw value, one for each return: refusals 23 and 24, and the value stored; each rewrites `resolve_into_steps` by what the
-- first pass answered.
-- Assumes nothing.
use Rattle.std.proofs.Common.{◌≡◌, ℕ, ◌<◌, ◌≤◌, List, length, Result, Ok, Err, refl, sym, ap, ◌∙◌, arith}
use borrow.Author.Tests.{le-leb, lt-leb}
use Rattle.label.specs.Outcome.{Outcome, no}
use Rattle.label.specs.Cause.{cause_number}
use Rattle.label.specs.Calls.{refusal, outcome_of, filled_count, filled_after}
use Rattle.label.specs.Requests.Attribute.{resolve_into}
use Rattle.label.specs.Steps.{resolve}
use Rattle.label.specs.declared.Cause.TheVariants.{ResolvedRoom}
use Rattle.label.specs.declared.Refusal.{Refusal}
use Rattle.label.proofs.Basics.{no_ok}
use Rattle.label.proofs.Run.{ok_path}
use Rattle.label.proofs.Steps.{resolve_into_steps}
use Rattle.octets.proofs.Puts.{put_room}
use Rattle.attribute.specs.Pieces.{Stores}

-- the two clauses of the call, where resolving comes to w
abbrev Answer : Outcome (List ℕ) → Result ℕ Refusal → List ℕ → List ℕ → Type 0
Answer w r T T' = record { result : outcome_of r ≡ filled_count w; out : T' ≡ filled_after w T }

refuses : {w : Outcome (List ℕ)} (x : Refusal) (T : List ℕ) → w ≡ no (cause_number x.cause) x.place → Answer w (Err x) T T
refuses x T e = rw e (record { result = refl; out = refl })

module _ (raw T : List ℕ) where
  -- the first pass refused
  pub bad : (x : Refusal) → resolve raw ≡ no (cause_number x.cause) x.place → Answer (resolve_into (length T) raw) (Err x) T T
  bad x e = refuses x T (resolve_into_steps (length T) raw ∙ rw e)

  -- it counted n bytes, into a buffer of its own
  module _ {n : ℕ} {old new : List ℕ} (f : Stores raw old (Ok n) new) where
    count : n ≡ length f.0
    count = omega (arith, f.2.behind)

    pub too_short : {x : Refusal} → x ≡ refusal ResolvedRoom n → length T < n → Answer (resolve_into (length T) raw) (Err x) T T
    too_short {x} e h = rw e (refuses (refusal ResolvedRoom n) T (resolve_into_steps (length T) raw
        ∙ rw (f.1, lt-leb (length f.0) (length T) (omega (arith, count)), ← count)))

    pub stored : n ≤ length T → {T' : List ℕ} (r : Result ℕ Refusal) → Stores raw T r T' → Answer (resolve_into (length T) raw) r T T'
    stored h (Err x) k = no_ok (cause_number x.cause) x.place f.0 (sym k ∙ f.1)
    stored h (Ok m) k =
        let q : k.0 ≡ f.0 = ok_path k.0 f.0 (sym k.1 ∙ f.1) in
        let room : length k.0 ≤ length T = omega (arith, count, ap length q) in
        let m_is : m ≡ length k.0 = omega (arith, k.2.behind) in
        rw (resolve_into_steps (length T) raw, k.1, le-leb (length k.0) (length T) room) (record { result = rw m_is; out = put_room k.2 room })
