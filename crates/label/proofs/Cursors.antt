-- The definitions at a cursor: what each comes to at `drop i s`, for a loop over a slice s with a place i. The loop's invariant is an equation
-- "the definition at the start is this, put before the definition at the cursor".
-- Assumes nothing.
use Prim.Native.Nat.{ℕ, zero, suc, ◌+◌, ◌-◌}
use native.Mathlib.Omega.{arith}
use native.Mathlib.Nat.{add-zero, add-suc, suc-add}
use mathlib.Core.Path.{◌≡◌, refl, sym, ◌∙◌, ap, subst}
use mathlib.Core.Bool.{Bool, true, false, not}
use mathlib.Core.List.{List, [], ◌∷◌, ◌++◌, append_assoc, append-nil}
use borrow.Author.Tests.{eq-eqb, not-true}
use lib.Dec.{eqb}
use lib.ListN.{length, take, drop, length-drop}
use lib.Seq.{take_all}
use Rattle.label.specs.Outcome.{Outcome, ok, no, ◌>>=◌}
use Rattle.label.specs.Bytes.{split}
use Rattle.label.specs.Entry.{Entry}
use Rattle.label.specs.Run.{Parts, cluster, add_glyph, State, opens, takes, next}
use Rattle.label.specs.Steps.{decode, step, walk}
use Rattle.label.specs.declared.Glyph.{Glyph}
use Rattle.label.specs.declared.Cluster.{Cluster}
use Rattle.label.proofs.Basics.{and_l, and_r}
use Rattle.label.proofs.Steps.{decode_none, decode_inside, walk_first}
use Rattle.label.proofs.Splits.{free, split_join, rest_nil, split_hit, split_miss}

-- ── parts ──

pub split_rest : (c : ℕ) (x rest : List ℕ) → free c x ≡ true → split c (x ++ (c ∷ rest)) ≡ x ∷ split c rest
split_rest c [] rest h = split_hit c c rest (eq-eqb c c refl)
split_rest c (b ∷ x) rest h =
    split_miss c b (x ++ (c ∷ rest)) (not-true (eqb b c) (and_l (not (eqb b c)) (free c x) h)) ∙ rw (split_rest c x rest (and_r (not (eqb b c)) (free c x) h))

pub split_all : (c : ℕ) (x : List ℕ) → free c x ≡ true → split c x ≡ x ∷ []
split_all c x h = subst (λ (y : List ℕ). split c y ≡ x ∷ []) (ap (λ (r : List ℕ). x ++ r) (rest_nil c) ∙ append-nil x) (split_join c [] x h refl)

-- ── characters ──

-- some units before the outcome's
abbrev pub onto : List ℕ → Outcome (List ℕ) → Outcome (List ℕ)
onto us o = o >>= (λ vs. ok (us ++ vs))

pub onto_nil : (o : Outcome (List ℕ)) → onto [] o ≡ o
onto_nil (ok vs) = refl
onto_nil (no n p) = refl

pub onto_onto : (us vs : List ℕ) (o : Outcome (List ℕ)) → onto us (onto vs o) ≡ onto (us ++ vs) o
onto_onto us vs (ok ws) = rw append_assoc
onto_onto us vs (no n p) = refl

pub decode_skip : (k at : ℕ) (s : List ℕ) → decode k at s ≡ decode 0 (at + k) (drop k s)
decode_skip zero at [] = decode_none 0 at ∙ sym (decode_none 0 (at + 0))
decode_skip zero at (b ∷ s) = rw (add-zero at)
decode_skip (suc k) at [] = decode_none (suc k) at ∙ sym (decode_none 0 (at + suc k))
decode_skip (suc k) at (b ∷ s) = decode_inside k at b s ∙ decode_skip k (suc at) s ∙ rw (add-suc at k, suc-add at k)

-- ── entries ──

abbrev pub joined : Parts → Parts → Parts
joined p q = record { clusters = p.clusters ++ q.clusters; glyphs = p.glyphs ++ q.glyphs }

-- clusters and glyphs before the outcome's
abbrev pub after : Parts → Outcome Parts → Outcome Parts
after p o = o >>= (λ q. ok (joined p q))

-- what an entry adds
abbrev pub added : Bool → State → Entry → Parts
added bare st e = add_glyph (opens st) (cluster (takes bare st e) e.glyphs) e.glyph (record { clusters = []; glyphs = [] })

before_is : (o : Bool) (c : Cluster) (g : Glyph) (q : Parts) → add_glyph o c g q ≡ joined (add_glyph o c g (record { clusters = []; glyphs = [] })) q
before_is true c g q = refl
before_is false c g q = refl

pub walk_good : (bare : Bool) (st : State) (s : List ℕ) (ss : List (List ℕ)) (e : Entry) → step bare st s ≡ ok e
    → walk bare st (s ∷ ss) ≡ after (added bare st e) (walk bare (next bare st e) ss)
walk_good bare st s ss e h = walk_first bare st s ss ∙ rw h (go (walk bare (next bare st e) ss))
  where
    go : (o : Outcome Parts) → (o >>= (λ p. ok (add_glyph (opens st) (cluster (takes bare st e) e.glyphs) e.glyph p))) ≡ after (added bare st e) o
    go (ok p) = ap ok (before_is (opens st) (cluster (takes bare st e) e.glyphs) e.glyph p)
    go (no n q) = refl

pub walk_bad : (bare : Bool) (st : State) (s : List ℕ) (ss : List (List ℕ)) (n p : ℕ) → step bare st s ≡ no n p → walk bare st (s ∷ ss) ≡ no n p
walk_bad bare st s ss n p h = walk_first bare st s ss ∙ rw h

-- `&s[a..]`
pub part_rest : {A : Type 0} (s : List A) (a : ℕ) → take (length s - a) (drop a s) ≡ drop a s
part_rest s a = take_all (length s - a) (drop a s) (rw length-drop (omega arith))
