-- The entries without bytes are those that are wholly the font's: an entry's four parts are empty exactly where they are left to the font, or offsets of 0.
-- Assumes nothing.
use Prim.Native.Nat.{ℕ, suc}
use native.Mathlib.Omega.{arith}
use mathlib.Core.Path.{◌≡◌, refl, sym, ◌∙◌}
use mathlib.Core.Bool.{Bool, true, false, not, ◌&&◌}
use mathlib.Core.List.{List, [], ◌∷◌}
use borrow.Author.Tests.{ne_eqb, eqb-true}
use lib.Dec.{eqb}
use lib.IntN.{ℤ, pos, negsuc}
use Rattle.label.specs.Bytes.{empty, join, trim, decimal}
use Rattle.label.specs.Run.{named, given, font_glyph}
use Rattle.label.specs.Sound.{size, is_font}
use Rattle.label.specs.Write.{advance_by, offset_by, map_bytes, index_bytes, entry_by}
use Rattle.label.specs.declared.Index.{Index}
use Rattle.label.specs.declared.Index.TheVariants.{Named, Font}
use Rattle.label.specs.declared.Advance.{Advance}
use Rattle.label.specs.declared.Advance.TheVariants.{Given, Own}
use Rattle.label.specs.declared.Glyph.{Glyph}
use Rattle.label.proofs.Basics.{and_l, and_r, clash, cases}
use Rattle.label.proofs.Splits.{empty_behind, trim_nil, trim_empty, joined_empty}
use Rattle.label.proofs.Decimals.{empty_decimal}
use Rattle.label.proofs.Values.{Writer}

-- ── which fields have bytes ──

pub index_empty : (a b : ℕ) (i : Index) → empty (index_bytes a b i) ≡ not (named i)
unfolding index_bytes
index_empty a b (Named n) = empty_behind (map_bytes a b) (decimal n) (empty_decimal n)
index_empty a b Font = refl

module _ {w : ℕ → List ℕ} (y : Writer w) where
  pub advance_empty : (a : Advance) → empty (advance_by w a) ≡ not (given a)
  unfolding advance_by
  advance_empty (Given n) = y.full n
  advance_empty Own = refl

  pub offset_empty : (z : ℤ) → empty (offset_by w z) ≡ eqb (size z) 0
  unfolding offset_by
  offset_empty (pos n) = cases (eqb n 0) (λ e. rw e) (λ e. rw e (y.full n))
  offset_empty (negsuc n) = sym (ne_eqb (suc n) 0 (λ e. omega arith))

  -- ── which entries have bytes ──

  -- what `trim` drops is wholly the font's: a cluster 1:1, or a pair of the tail
  pub empty_is_font : (a b : ℕ) (g : Glyph) → empty (entry_by w a b g) ≡ is_font g
  unfolding entry_by
  empty_is_font a b g =
      let i = index_bytes a b g.index in
      let d = advance_by w g.advance in
      let u = offset_by w g.u in
      let v = offset_by w g.v in
      joined_empty 44 (i ∷ d ∷ u ∷ v ∷ [])
      ∙ trim_empty i (d ∷ u ∷ v ∷ [])
      ∙ rw (
        trim_empty d (u ∷ v ∷ []),
        trim_empty u (v ∷ []),
        trim_empty v [],
        trim_nil,
        index_empty a b g.index,
        advance_empty g.advance,
        offset_empty g.u,
        offset_empty g.v,
      )
      (regroup (not (named g.index)) (not (given g.advance)) (eqb (size g.u) 0) (eqb (size g.v) 0))
    where
      regroup : (a b c d : Bool) → (a && (b && (c && (d && true)))) ≡ (a && b && c && d)
      regroup true true true true = refl
      regroup true true true false = refl
      regroup true true false d = refl
      regroup true false c d = refl
      regroup false b c d = refl

-- such a glyph is that of the tail
pub font_is : (g : Glyph) → is_font g ≡ true → g ≡ font_glyph
font_is g h = is g.index g.advance g.u g.v h
  where
    nothing : (z : ℤ) → size z ≡ 0 → z ≡ pos 0
    nothing (pos n) e = rw e
    nothing (negsuc n) e = absurd (omega arith)

    is : (i : Index) (a : Advance) (u v : ℤ) → is_font (record { index = i; advance = a; u = u; v = v }) ≡ true
        → ◌≡◌ {A = Glyph} (record { index = i; advance = a; u = u; v = v }) font_glyph
    is (Named n) a u v h = clash false h refl
    is Font (Given n) u v h = clash false h refl
    is Font Own u v h =
        rw (
          nothing u (eqb-true (size u) 0 (and_l (eqb (size u) 0) (eqb (size v) 0) h)),
          nothing v (eqb-true (size v) 0 (and_r (eqb (size u) 0) (eqb (size v) 0) h)),
        )

-- and its entry has no bytes, whatever the form of values
pub font_empty : (w : ℕ → List ℕ) (a b : ℕ) (g : Glyph) → is_font g ≡ true → entry_by w a b g ≡ []
font_empty w a b g h = rw (font_is g h) (unfold entry_by index_bytes advance_by offset_by trim join in refl)
