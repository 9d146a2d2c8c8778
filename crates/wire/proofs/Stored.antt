-- Bytes copied over a part of a buffer are the bytes stored there.
-- Assumes nothing.
use Rattle.std.proofs.Common.{◌≡◌, ℕ, ◌+◌, ◌≤◌, List, length, ◌∙◌, arith, refl, ◌*◌, ◌++◌, ℤ, to_z, of_z, w32, ◌/◌, ◌%◌}
use Rattle.std.proofs.lemmas.Int.{of_z-to_z}
use Rattle.std.specs.Int.{to_le_bytes}
use Rattle.label.specs.Wire.{bits_of, four_bytes}
use Rattle.octets.specs.Puts.{puts}
use Rattle.octets.proofs.Puts.{sets_append, copied}
use Rattle.wire.specs.Stores.{cluster_stored, glyph_stored}
use Rattle.wire.proofs.Signed.{bits_are, bits_below}
use borrow.Rule.Slice.PartMut.{put_mid}
use mir.Val.{SFits}

-- the n bytes w at a place
pub stored : (at n : ℕ) (out s w : List ℕ) → s ≡ w → n ≡ length w → at + length w ≤ length out → put_mid at n out s ≡ puts out at w
stored at n out s w e f h = copied at n out s w e f h

-- the four bytes of a number of 32 bits
pub four_are : (v : ℤ) → SFits w32 v → to_le_bytes w32 (of_z w32 (to_z w32 (of_z w32 v))) ≡ four_bytes (bits_of v)
four_are v f =
    let back : of_z w32 (to_z w32 (of_z w32 v)) ≡ bits_of v = of_z-to_z w32 (of_z w32 v) (bits_below v f) ∙ bits_are v in
    let few : bits_of v / 16777216 % 256 ≡ bits_of v / 16777216 = omega (arith, bits_are v, bits_below v f) in
    rw (back, few)

-- ── a cluster's two numbers, and a glyph's four ──

one_more : (l x y : List ℕ) (i j : ℕ) → j ≡ i + length x → puts (puts l i x) j y ≡ puts l i (x ++ y)
unfolding puts
one_more l x y i j e = rw e (sets_append x y l i)

pub cluster_puts : (n : ℕ) (a b : ℤ) (out : List ℕ)
    → puts (puts out (4 * (2 * n)) (four_bytes (bits_of a))) (4 * (2 * n + 1)) (four_bytes (bits_of b))
    ≡ puts out (8 * n) (cluster_stored (record { units = a; glyphs = b }))
unfolding cluster_stored
cluster_puts n a b out =
    let e : 4 * (2 * n) ≡ 8 * n = omega arith in
    rw e (one_more out (four_bytes (bits_of a)) (four_bytes (bits_of b)) (8 * n) (4 * (2 * n + 1)) (omega arith))

pub glyph_puts : (k : ℕ) (i a u v : ℤ) (out : List ℕ)
    → puts (puts (puts (puts out (4 * (4 * k)) (four_bytes (bits_of i))) (4 * (4 * k + 1)) (four_bytes (bits_of a)))
    (4 * (4 * k + 2)) (four_bytes (bits_of u))) (4 * (4 * k + 3)) (four_bytes (bits_of v))
    ≡ puts out (16 * k) (glyph_stored (record { index = i; advance = a; u = u; v = v }))
unfolding glyph_stored
glyph_puts k i a u v out =
    let e : 4 * (4 * k) ≡ 16 * k = omega arith in
    rw (
      e,
      one_more out (four_bytes (bits_of i)) (four_bytes (bits_of a)) (16 * k) (4 * (4 * k + 1)) (omega arith),
      one_more out (four_bytes (bits_of i) ++ four_bytes (bits_of a)) (four_bytes (bits_of u)) (16 * k) (4 * (4 * k + 2)) (omega arith),
      one_more out ((four_bytes (bits_of i) ++ four_bytes (bits_of a)) ++ four_bytes (bits_of u)) (four_bytes (bits_of v)) (16 * k) (4 * (4 * k + 3))
          (omega arith),
    ) refl
