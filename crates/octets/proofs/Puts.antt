-- Bytes stored from a place on: one store, one behind another, none, bytes copied, and the laws `left_` of a loop that stores; `sets_append`, by
-- induction, carries them.
-- Assumes nothing.
use mathlib.Core.Path.{◌≡◌, refl, sym, ap, ◌∙◌, subst}
use mathlib.Core.List.{List, [], ◌∷◌, ◌++◌}
use Prim.Native.Nat.{ℕ, suc, ◌+◌, ◌≤◌}
use native.Mathlib.Nat.{add-zero}
use native.Mathlib.Omega.{arith}
use lib.ListN.{length, take, drop, set, length-append}
use lib.Seq.{sets, sets-eq, length-sets, set_out}
use borrow.Rule.Slice.PartMut.{put_mid}
use Rattle.std.proofs.Common.{append_assoc}
use Rattle.std.proofs.lemmas.List.Edits.{paste_all}
use Rattle.std.proofs.lemmas.Slice.{put_mid-paste}
use Rattle.octets.specs.Puts.{puts, Put}

-- stores one behind the other
pub sets_append : {A : Type 0} (x y l : List A) (i : ℕ) → sets (sets l i x) (i + length x) y ≡ sets l i (x ++ y)
sets_append [] y l i = rw (add-zero i)
sets_append (a ∷ x) y l i =
    let e : i + suc (length x) ≡ suc i + length x = omega arith in
    rw e (sets_append x y (set l i a) (suc i))

puts_append : (l : List ℕ) (i : ℕ) (x y : List ℕ) → puts (puts l i x) (i + length x) y ≡ puts l i (x ++ y)
unfolding puts
puts_append l i x y = sets_append x y l i

pub puts_length : (l : List ℕ) (i : ℕ) (w : List ℕ) → length (puts l i w) ≡ length l
unfolding puts
puts_length l i w = length-sets l i w

-- nothing stored
pub none : {l : List ℕ} {at : ℕ} → Put l at [] at l
unfolding puts
none {l} {at} = record { behind = sym (add-zero at); is = refl }

-- one store behind another
pub then : {l m n x y : List ℕ} {at p q : ℕ} → Put l at x p m → Put m p y q n → Put l at (x ++ y) q n
then {l} {m} {n} {x} {y} {at} {p} {q} f g =
    record {
      behind = let a = f.behind in let b = g.behind in simp length-append (omega arith);
      is = g.is ∙ rw (f.behind, f.is) (puts_append l at x y);
    }

-- the same bytes by another name
pub put_as : {l n x y : List ℕ} {at q : ℕ} → x ≡ y → Put l at x q n → Put l at y q n
put_as {l} {n} {x} {y} {at} {q} e f = subst (λ (w : List ℕ). Put l at w q n) e f

-- one byte, with room for it or past the end
pub put_one : (l : List ℕ) {m : List ℕ} (at b r : ℕ) → r ≡ at + 1 → m ≡ set l at b → Put l at (b ∷ []) r m
unfolding puts
put_one l at b r e f = record { behind = e; is = f }

pub put_past : (l : List ℕ) {m : List ℕ} (at b r : ℕ) → r ≡ at + 1 → m ≡ l → length l ≤ at → Put l at (b ∷ []) r m
put_past l at b r e f h = put_one l at b r e (f ∙ sym (set_out l at b h))

-- with room for all of it
pub put_room : {l n w : List ℕ} {r : ℕ} → Put l 0 w r n → length w ≤ length l → n ≡ w ++ drop (length w) l
unfolding puts
put_room {l} {n} {w} {r} f h = f.is ∙ sets-eq w l 0 (omega arith) ∙ ap (λ (k : ℕ). w ++ drop k l) (zero_plus (length w))
  where
    zero_plus : (k : ℕ) → 0 + k ≡ k
    zero_plus k = omega arith

-- the n bytes w copied over those at a place
pub copied : (at n : ℕ) (out s w : List ℕ) → s ≡ w → n ≡ length w → at + length w ≤ length out → put_mid at n out s ≡ puts out at w
unfolding puts
copied at n out s w e f h =
    let same : n ≡ n = omega arith in
    put_mid-paste at n out s w n e same f ∙ paste_all out at w n f ∙ rw f (sym (sets-eq w out at h ∙ append_assoc (take at out) w (drop (at + length w) out)))

-- ── a loop: what is left to store gives the whole; of an `Output` it is `Lacks` (Outputs) that says so ──

pub record Left (old whole now : List ℕ) (from at : ℕ) (rest : List ℕ) : Type 0 where
  pub count : at + length rest ≡ from + length whole
  pub gives : puts now at rest ≡ puts old from whole
  pub same : length now ≡ length old

pub left_start : {l w : List ℕ} {at : ℕ} → Left l w l at at w
left_start = record { count = refl; gives = refl; same = refl }

-- a turn stores x, which stands in front of what is left
pub left_next : {old whole l n x r : List ℕ} {from at p : ℕ} → Left old whole l from at (x ++ r) → Put l at x p n → Left old whole n from p r
left_next {old} {whole} {l} {n} {x} {r} {from} {at} {p} f g =
    record {
      count = let a = g.behind in omega (arith, f.count, length-append x r);
      gives = rw (g.behind, g.is) (puts_append l at x r ∙ f.gives);
      same = ap length g.is ∙ puts_length l at x ∙ f.same;
    }

-- nothing is left: all of it is stored
pub left_end : {old whole l : List ℕ} {from at : ℕ} → Left old whole l from at [] → Put old from whole at l
unfolding puts
left_end {old} {whole} {l} {from} {at} f = record { behind = omega (arith, f.count); is = f.gives }

pub left_as : {old whole l x y : List ℕ} {from at : ℕ} → x ≡ y → Left old whole l from at x → Left old whole l from at y
left_as {old} {whole} {l} {x} {y} {from} {at} e f = subst (λ (w : List ℕ). Left old whole l from at w) e f
