-- Law `field_is`: a field scanned behind its comma is the definitions' part; an empty one by rewriting, else `signed` skips the sign and `number_is` of
-- number's NumberBridge gives the rest.
-- Assumes nothing.
use mathlib.Core.Path.{◌≡◌, refl, ap, sym, ◌∙◌}
use mathlib.Core.Bool.{Bool, true, false, not, cond, ◌&&◌, ◌||◌, and-false, and-true}
use mathlib.Core.List.{List, [], ◌∷◌, ◌++◌}
use Prim.Native.Nat.{ℕ, ◌+◌}
use lib.ListN.{drop}
use lib.Seq.{drop-drop}
use lib.Dec.{eqb}
use borrow.Author.Tests.{not-true}
use Rattle.label.specs.Bytes.{empty}
use Rattle.label.specs.Entry.{minus, unsigned, is_number, is_advance, is_offset}
use Rattle.label.proofs.Basics.{and_l, clash}
use Rattle.label.proofs.Splits.{none}
use Rattle.number.specs.declared.Thousandths.{Thousandths}
use Rattle.std.proofs.Common.{Option, Some}
use Rattle.number.specs.Digits.{ends, is_break}
use Rattle.number.specs.Numbers.{number_of, sign_length}
use Rattle.number.proofs.NumberBridge.{signed, none_unsigned, sized_as, Numbered, number_is}
use Rattle.number.proofs.NumberBridge as nb
use Rattle.entry.specs.Parts.{field_of, not_given, given_by}

or_left : (a b : Bool) → (a || b) ≡ false → a ≡ false
or_left true b h = h
or_left false b h = refl

pub or_right : (a b : Bool) → (a || b) ≡ false → b ≡ false
or_right true b h = clash true refl h
or_right false b h = h

-- the size that a field says
abbrev pub field_size : List ℕ → Option Thousandths
field_size x = cond (empty x) (Some (record { count = 0; exact = true })) (sized_as (unsigned x))

pub data Fielded (x r t : List ℕ) : Type 0 where
  good : is_offset x ≡ true → (field_of t).ok ≡ true → drop (field_of t).used t ≡ r → (field_of t).given ≡ not (empty x) → (field_of t).negative ≡ minus x
      → (field_of t).size ≡ field_size x → Fielded x r t
  wrong : is_offset x ≡ false → ((field_of t).ok && ends is_break (drop (field_of t).used t)) ≡ false → Fielded x r t

-- a field x behind its comma, and what follows it
pub field_is : (x r : List ℕ) → none is_break x ≡ true → ends is_break r ≡ true → Fielded x r (44 ∷ (x ++ r))
unfolding field_of is_offset unsigned
field_is [] r n h = good refl (rw h) (rw h) (rw h) (rw h) (rw h)
field_is (b ∷ x) r n h = go (number_is (unsigned (b ∷ x)) r (none_unsigned (b ∷ x) n) h)
  where
    break : is_break b ≡ false
    break = not-true (is_break b) (and_l (not (is_break b)) (none is_break x) n)

    skip : drop (1 + sign_length b) (44 ∷ (b ∷ (x ++ r))) ≡ unsigned (b ∷ x) ++ r
    skip = sym (drop-drop (sign_length b) 1 (44 ∷ (b ∷ (x ++ r)))) ∙ (signed (b ∷ x) r h).rest

    is : field_of (44 ∷ (b ∷ (x ++ r))) ≡ given_by b (1 + sign_length b) (number_of (unsigned (b ∷ x) ++ r))
    is = rw (break, skip)

    gone : drop (1 + sign_length b + (number_of (unsigned (b ∷ x) ++ r)).used) (44 ∷ (b ∷ (x ++ r))) ≡ drop (number_of (unsigned (b ∷ x) ++ r)).used
        (unsigned (b ∷ x) ++ r)
    gone = sym (drop-drop (number_of (unsigned (b ∷ x) ++ r)).used (1 + sign_length b) (44 ∷ (b ∷ (x ++ r))))
        ∙ ap (λ (y : List ℕ). drop (number_of (unsigned (b ∷ x) ++ r)).used y) skip

    go : Numbered (unsigned (b ∷ x)) r (unsigned (b ∷ x) ++ r) → Fielded (b ∷ x) r (44 ∷ ((b ∷ x) ++ r))
    go (nb.good m o d s) = good m (rw is o) (rw (is, gone) d) (rw is) (rw is) (rw is s)
    go (nb.wrong m w) = wrong m (rw (is, gone) w)

-- what a scan that stopped within a part goes on with
pub field_stuck : (y : List ℕ) → ends is_break y ≡ false → field_of y ≡ not_given 0
unfolding field_of
field_stuck [] h = clash true refl h
field_stuck (b ∷ y) h = rw (or_left (eqb b 44) (eqb b 59) h)

-- ── what the fields say ──

-- an advance is an offset without `-`
pub advance_field : (x : List ℕ) → is_advance x ≡ (is_offset x && not (minus x))
unfolding is_advance is_offset
advance_field [] = refl
advance_field (b ∷ x) = go (not (minus (b ∷ x))) (is_number (unsigned (b ∷ x)))
  where
    go : (a c : Bool) → (a && c) ≡ (c && a)
    go true c = sym (and-true c)
    go false c = sym (and-false c)
