-- Where refusals are: their numbers and places are bounded. A bound goes through `need` and `>>=`, so it follows the steps of the reading.
-- Assumes nothing.
use mathlib.Core.Path.{◌≡◌, refl}
use mathlib.Core.Bool.{Bool, true, false, cond, not, ◌&&◌, ◌||◌}
use mathlib.Core.List.{List, [], ◌∷◌}
use Prim.Native.Nat.{ℕ, zero, suc, ◌+◌, ◌≤◌}
use native.Mathlib.Omega.{arith}
use borrow.Author.Tests.{leb-true}
use lib.Dec.{leb}
use lib.ListN.{length, length-drop}
use Rattle.label.specs.Limits.{max_text_bytes, max_indices_bytes, max_units, max_glyphs, max_index}
use Rattle.label.specs.Outcome.{Outcome, ok, no, ◌>>=◌, ◌>>◌, need}
use Rattle.label.specs.Bytes.{empty, value}
use Rattle.label.specs.Text.{starts_char, following, code_point, xml_char, braced, marked, unmarked}
use Rattle.label.specs.Entry.{entry_part, index_digits, well_formed, field_fits, Entry, entries}
use Rattle.label.specs.Run.{keeps_pair, State, start_state, opens, opens_units, takes, allowed, next}
use Rattle.label.specs.Checks.{read}
use Rattle.label.specs.Steps.{decode, text_units, entry, placed, step, walk, run_from}
use Rattle.label.proofs.Basics.{and_l, and_r, cases}
use Rattle.label.proofs.Steps.{decode_none, decode_inside, decode_char, text_steps, entry_steps, placed_steps, walk_end, walk_first, run_steps, read_steps}
use Rattle.label.proofs.Requests.RoundedCount.{entries_length}
use Rattle.label.proofs.Run.{step_ok}
use Rattle.label.proofs.Sound.{text_ok}

-- a refusal has a number from 1 to m and a place up to k
pub data Placed {A : Type 0} (m k : ℕ) : Outcome A → Type 0 where
  fine : {a : A} → Placed m k (ok a)
  refused : {n p : ℕ} → 1 ≤ n → n ≤ m → p ≤ k → Placed m k (no n p)

module _ (m k : ℕ) where
  pub need_placed : {A : Type 0} (t : Bool) (n p : ℕ) (o : Outcome A) → (1 ≤ n) × (n ≤ m) → p ≤ k → (t ≡ true → Placed m k o) → Placed m k (need t n p >> o)
  need_placed true n p o a b f = f refl
  need_placed false n p o a b f = refused a.0 a.1 b

  pub bind_placed : {A B : Type 0} (o : Outcome A) (f : A → Outcome B) → Placed m k o → ((a : A) → o ≡ ok a → Placed m k (f a)) → Placed m k (o >>= f)
  bind_placed (ok a) f h g = g a refl
  bind_placed (no n p) f (refused a b d) g = refused a b d

-- ── 1 to 15 ──

module _ (k : ℕ) where
  decode_placed : (bs : List ℕ) (skip at : ℕ) → at + length bs ≤ k → Placed 15 k (decode skip at bs)
  decode_placed [] skip at h = rw (decode_none skip at) fine
  decode_placed (b ∷ bs) (suc skip) at h = rw (decode_inside skip at b bs) (decode_placed bs skip (suc at) (omega arith))
  decode_placed (b ∷ bs) zero at h =
      rw (decode_char at b bs)
      (need_placed 15 k (starts_char b bs) 2 at _ (omega arith, omega arith) (omega arith)
      (λ _. need_placed 15 k (xml_char (code_point b bs)) 3 at _ (omega arith, omega arith) (omega arith)
      (λ _. bind_placed 15 k (decode (following b bs) (suc at) bs) _ (decode_placed bs (following b bs) (suc at) (omega arith)) (λ _ _. fine))))

  text_placed : (text : List ℕ) → length text ≤ k → Placed 15 k (text_units text)
  text_placed text h =
      rw (text_steps text)
      (bind_placed 15 k (decode 0 0 text) _ (decode_placed text 0 0 (omega arith))
      (λ all _. need_placed 15 k (not (braced all) || marked all) 4 0 _ (omega arith, omega arith) (omega arith)
      (λ _. need_placed 15 k (leb (length (unmarked all)) max_units) 5 0 _ (omega arith, omega arith) (omega arith) (λ _. fine))))

  entry_placed : (j : ℕ) (s : List ℕ) → j ≤ k → Placed 15 k (entry j s)
  entry_placed j s h =
      rw (entry_steps j s)
      (need_placed 15 k (well_formed s) 7 j _ (omega arith, omega arith) h
      (λ _. need_placed 15 k (leb (value (index_digits (entry_part 0 s))) max_index) 8 j _ (omega arith, omega arith) h
      (λ _. need_placed 15 k (field_fits (entry_part 1 s) && field_fits (entry_part 2 s) && field_fits (entry_part 3 s)) 9 j _ (omega arith, omega arith) h
      (λ _. fine))))

  checks_placed : (bare : Bool) (st : State) (e : Entry) → st.k ≤ k → st.at + length st.rest ≤ k → Placed 15 k (placed bare st e)
  checks_placed bare st e h r =
      rw (placed_steps bare st e)
      (need_placed 15 k (leb 1 e.units && leb 1 e.glyphs) 10 st.k _ (omega arith, omega arith) h
      (λ _. need_placed 15 k (allowed bare st e) 11 st.k _ (omega arith, omega arith) h
      (λ _. need_placed 15 k (not (opens_units bare st) || leb e.units (length st.rest)) 12 st.k _ (omega arith, omega arith) h
      (λ t. cases (opens_units bare st)
      (λ x.
      let l = leb-true e.units (length st.rest) (rw x at t) in
      need_placed 15 k (not (opens_units bare st) || keeps_pair e.units st.rest) 13 (st.at + e.units) _ (omega arith, omega arith) (omega arith)
      (λ _. fine))
      (λ x. rw x fine)))))

  step_placed : (bare : Bool) (st : State) (s : List ℕ) → st.k ≤ k → st.at + length st.rest ≤ k → Placed 15 k (step bare st s)
  unfolding step
  step_placed bare st s h r = bind_placed 15 k (entry st.k s) _ (entry_placed st.k s h) (λ e _. checks_placed bare st e h r)

  cond_below : (b : Bool) {m n : ℕ} → m ≤ k → n ≤ k → cond b m n ≤ k
  cond_below true p q = p
  cond_below false p q = q

  walk_placed : (ss : List (List ℕ)) (bare : Bool) (st : State) → st.k + length ss ≤ k → st.at + length st.rest ≤ k → st.opener ≤ k
      → Placed 15 k (walk bare st ss)
  walk_placed [] bare st h r o = rw (walk_end bare st) (need_placed 15 k (opens st) 14 st.opener _ (omega arith, omega arith) o (λ _. fine))
  walk_placed (s ∷ ss) bare st h r o =
      rw (walk_first bare st s ss)
      (bind_placed 15 k (step bare st s) _ (step_placed bare st s (omega arith) r)
      (λ e q.
      let l = leb-true (takes bare st e) (length st.rest) (step_ok bare st s e q).twelve in
      let d = length-drop (takes bare st e) st.rest in
      bind_placed 15 k (walk bare (next bare st e) ss) _
      (walk_placed ss bare (next bare st e) (omega arith) (omega arith) (cond_below (opens st) (omega arith) o))
      (λ _ _. fine)))

  run_placed : (us indices : List ℕ) → length us ≤ k → length (entries indices) ≤ k → Placed 15 k (run_from us indices)
  run_placed us indices h e =
      rw (run_steps us indices)
      (need_placed 15 k (not (empty us && empty indices)) 6 0 _ (omega arith, omega arith) (omega arith)
      (λ _. bind_placed 15 k (walk (empty us) (start_state us) (entries indices)) _
      (walk_placed (entries indices) (empty us) (start_state us) (omega arith) (omega arith) (omega arith))
      (λ p _. need_placed 15 k (leb (length p.glyphs) max_glyphs) 15 0 _ (omega arith, omega arith) (omega arith) (λ _. fine))))

-- the units of an accepted text
text_few : (text us : List ℕ) → text_units text ≡ ok us → length us ≤ 4096
text_few text us h = leb-true (length us) 4096 (text_ok text us h).fifth

pub read_placed : (text indices : List ℕ) → Placed 15 262145 (read text indices)
read_placed text indices =
    rw (read_steps text indices)
    (need_placed 15 262145 (leb (length text) max_text_bytes && leb (length indices) max_indices_bytes) 1 0 _ (omega arith, omega arith) (omega arith)
    (λ t.
    let a = leb-true (length text) 16384 (and_l (leb (length text) 16384) (leb (length indices) 262144) t) in
    let b = leb-true (length indices) 262144 (and_r (leb (length text) 16384) (leb (length indices) 262144) t) in
    bind_placed 15 262145 (text_units text) _ (text_placed 262145 text (omega arith))
    (λ us e. let f = text_few text us e in run_placed 262145 us indices (omega arith) (omega (arith, entries_length indices)))))
