-- Document 02, CR 6, computed: labels with halves.
-- Assumes nothing.
use Rattle.std.specs.Prelude.{ℕ, List, [], ◌∷◌, negsuc, pos, ℤ}
use Rattle.label.specs.Bytes.{ascii}
use Rattle.label.specs.Rows.Types.{refused, LabelRow, label_row, reads, glyph, advanced, one}
use Rattle.label.specs.declared.Advance.TheVariants.{Given}
use Rattle.label.specs.declared.Glyph.{Glyph}
use Rattle.label.specs.declared.Index.TheVariants.{Named}

-- `A` with these indices: one glyph, and its normal indices
abbrev glyph_row : List ℕ → Glyph → List ℕ → LabelRow
glyph_row i g n = label_row (ascii "A") i (reads (ascii "A") (one ∷ []) (g ∷ []) (ascii "A") n)

-- glyph 5 with this advance and these offsets
abbrev valued : ℕ → ℤ → ℤ → Glyph
valued a u v = record { index = Named 5; advance = Given a; u = u; v = v }

-- a row for each side of a half, each sign, with an exponent and without, and the limit
unfoldable pub half_rows : List LabelRow
half_rows =
    -- "`.0005` now reads as 0, `.0015` as 2, `.0025` as 2"
    glyph_row (ascii "5,.0005,.0015,.0025") (valued 0 (pos 2) (pos 2)) (ascii "5,0,.002,.002") ∷
    -- the sign plays no part
    glyph_row (ascii "5,+.0025,-.0015,-.0025") (valued 2 (negsuc 1) (negsuc 1)) (ascii "5,.002,-.002,-.002") ∷
    glyph_row (ascii "5,+.0015,+.0035,-.0035") (valued 2 (pos 4) (negsuc 3)) (ascii "5,.002,.004,-.004") ∷
    -- an offset that goes to 0 is as one that is not given
    glyph_row (ascii "5,,.0005,-.0005") (glyph 5) (ascii "5") ∷
    -- the nearest, a last place below a half and above it
    glyph_row (ascii "5,.000499999999999999,.001499999999999999,-.002499999999999999") (valued 0 (pos 1) (negsuc 1)) (ascii "5,0,.001,-.002") ∷
    glyph_row (ascii "5,.000500000000000001,.001500000000000001,-.002500000000000001") (valued 1 (pos 2) (negsuc 2)) (ascii "5,.001,.002,-.003") ∷
    -- with an exponent of either sign, in few digits and in 18
    glyph_row (ascii "5,5e-4,15000E-7,-.25e-02") (valued 0 (pos 2) (negsuc 1)) (ascii "5,0,.002,-.002") ∷
    glyph_row (ascii "5,.00005e1,.000015E+2,-.0000000000000025e12") (valued 0 (pos 2) (negsuc 1)) (ascii "5,0,.002,-.002") ∷
    glyph_row (ascii "5,.500000000000000000e-3,150000000000000000e-20,-250000000000000000e-20") (valued 0 (pos 2) (negsuc 1)) (ascii "5,0,.002,-.002") ∷
    -- "`1000000.0005` is accepted as 1,000,000,000; `1000000.0006` is refused with 9" (label 7): with either sign;
    -- halves below the limit; numbers above its half
    glyph_row (ascii "5,999999.9985,1000000.0005,-1000000.0005") (valued 999_999_998 (pos 1_000_000_000) (negsuc 999_999_999))
    (ascii "5,999999.998,1000000,-1000000") ∷
    glyph_row (ascii "5,999999.9995") (advanced 5 1_000_000_000) (ascii "5,1000000") ∷
    label_row (ascii "A") (ascii "5,1000000.00050001") (refused 9 0) ∷
    label_row (ascii "A") (ascii "5,,,-1000000.0006") (refused 9 0) ∷
    []
