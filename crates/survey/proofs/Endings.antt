-- The tail behind the entries, counted a cluster for each character, and what each end of the walk comes to in the counts of the run.
-- Assumes nothing.
use Rattle.label.proofs.Steps.{run_steps, walk_end}
use Prim.Native.Nat.{ℕ, ◌+◌}
use native.Mathlib.Nat.{zero-add}
use mathlib.Core.Path.{◌≡◌, refl, sym, ◌∙◌, ap}
use mathlib.Core.Bool.{Bool, true, false, ◌&&◌}
use mathlib.Core.List.{List, []}
use borrow.Author.Tests.{eq-eqb, ne_eqb}
use lib.Dec.{eqb, leb}
use lib.ListN.{length, length-append}
use Rattle.label.specs.Outcome.{Outcome, ok, no, ◌>>=◌, ◌>>◌, need}
use Rattle.label.specs.Bytes.{empty}
use Rattle.label.specs.Entry.{entries}
use Rattle.label.specs.Run.{Run, Parts, tail, State, start_state}
use Rattle.label.specs.Steps.{walk, run_from}
use Rattle.label.specs.Calls.{counted}
use Rattle.label.proofs.Lists.{empty_is}
use Rattle.label.proofs.Tails.{tail_even}
use Rattle.label.proofs.Cursors.{after}
use Rattle.survey.specs.Steps.{counts_within, counted_from}

-- ── counts ──

-- the counts with a tail of n clusters: it has as many glyphs
pub tail_counted : (us : List ℕ) (n u c g : ℕ) → n ≡ length (tail us).clusters → counts_within u (c + n) (g + n) ≡ counted_from u c g (ok (tail us))
unfolding counted_from
tail_counted us n u c g e = rw (e, tail_even us)

-- the counts with the parts of the entries before
pub counted_after : (n : ℕ) (pre : Parts) (o : Outcome Parts) → counted_from n (length pre.clusters) (length pre.glyphs) o ≡ counted_from n 0 0 (after pre o)
unfolding counted_from
counted_after n pre (ok q) =
    rw (
      length-append pre.clusters q.clusters,
      length-append pre.glyphs q.glyphs,
      zero-add (length pre.clusters + length q.clusters),
      zero-add (length pre.glyphs + length q.glyphs),
    )
counted_after n pre (no i p) = refl

-- ── the end of the entries ──

module _ (u c g : ℕ) (bare : Bool) (st : State) where
  -- 14
  pub closed_open : (st.lack ≡ 0 → ⊥) → no 14 st.opener ≡ counted_from u c g (walk bare st [])
  unfolding counted_from
  closed_open h = rw (walk_end bare st, ne_eqb st.lack 0 h)

  pub closed_shut : st.lack ≡ 0 → counted_from u c g (ok (tail st.rest)) ≡ counted_from u c g (walk bare st [])
  closed_shut h = rw (walk_end bare st, eq-eqb st.lack 0 h)

-- ── the run ──

module _ (us s : List ℕ) where
  abbrev run_with : Parts → Run
  run_with p = record { units = us; clusters = p.clusters; glyphs = p.glyphs }

  pub run_counted : (empty us && empty s) ≡ false
      → counted (run_from us s) ≡ counted_from (length us) 0 0 (walk (empty us) (start_state us) (entries s))
  unfolding counted_from
  run_counted h = rw (run_steps us s, h) (go (walk (empty us) (start_state us) (entries s)))
    where
      pick : (b : Bool) (p : Parts) → counted (need b 15 0 >> ok (run_with p)) ≡ (need b 15 0 >> ok
          (record { units = length us; clusters = length p.clusters; glyphs = length p.glyphs }))
      pick true p = refl
      pick false p = refl

      go : (o : Outcome Parts) → counted (o >>= (λ p. need (leb (length p.glyphs) 4096) 15 0 >> ok (run_with p))) ≡ counted_from (length us) 0 0 o
      go (ok p) = rw (zero-add (length p.clusters), zero-add (length p.glyphs)) (pick (leb (length p.glyphs) 4096) p)
      go (no n p) = refl

  -- the code's flag of an empty label
  pub nothing_is : (b : Bool) (n : ℕ) → b ≡ (eqb n 0 && eqb (length s) 0) → n ≡ length us → b ≡ (empty us && empty s)
  nothing_is b n e h = rw (e, h, ← empty_is us, ← empty_is s)

  -- 6
  pub run_nothing : (empty us && empty s) ≡ true → no 6 0 ≡ counted (run_from us s)
  run_nothing h = rw (run_steps us s, h)

  -- a walk that is refused
  pub run_stop : (n p : ℕ) → (empty us && empty s) ≡ false → walk (empty us) (start_state us) (entries s) ≡ no n p → no n p ≡ counted (run_from us s)
  run_stop n p h w = sym (run_counted h ∙ ap (counted_from (length us) 0 0) w ∙ unfold counted_from in refl)
