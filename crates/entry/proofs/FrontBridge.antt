-- Law `head_is`: map and index scanned at an entry's front are the definitions' index part; cases by the parenthesis and the colon, with each run of digits met
-- by `front` of Scan.
-- Assumes nothing.
use mathlib.Core.Path.{◌≡◌, refl, ap, sym, ◌∙◌, subst}
use mathlib.Core.Bool.{Bool, true, false, not, ◌&&◌, ◌||◌, and-false, and-true}
use mathlib.Core.List.{List, [], ◌∷◌, ◌++◌, append_assoc}
use Prim.Native.Nat.{ℕ, ◌+◌}
use native.Mathlib.Nat.{zero-add}
use lib.ListN.{length, drop}
use lib.Seq.{drop-drop}
use lib.Dec.{ltb, eqb}
use borrow.Author.Tests.{eqb-true}
use Rattle.label.specs.Bytes.{empty, cut, is_digit, all_digits, digits}
use Rattle.label.specs.Entry.{has_map, at_parenthesis, at_colon, is_index_part, index_digits, map_units, map_glyphs}
use Rattle.label.proofs.Basics.{and_r, cases}
use Rattle.label.proofs.Splits.{none}
use Rattle.number.specs.Digits.{head_of, ends, is_break, lead}
use Rattle.number.proofs.DigitLaws.{head_drop}
use Rattle.number.proofs.Scan.{after, Front, full, odd, front, Cutting, whole, parted, cutting, none_left, none_right, some_is, at_break}
use Rattle.entry.specs.Parts.{Map, map_of, map_by, bad_map, no_map, one_map, two_map, index_at, front_ok}

abbrev is_close : ℕ → Bool
is_close b = eqb b 41

abbrev is_colon : ℕ → Bool
is_colon b = eqb b 58

pub data Headed (x r t : List ℕ) : Type 0 where
  good : is_index_part x ≡ true → front_ok (map_of t) (index_at t) ≡ true → drop ((map_of t).used + length (index_at t)) t ≡ r → (map_of t).mapped ≡ has_map x
      → (map_of t).units ≡ map_units x → (map_of t).glyphs ≡ map_glyphs x → index_at t ≡ index_digits x → Headed x r t
  wrong : is_index_part x ≡ false → (front_ok (map_of t) (index_at t) && ends is_break (drop ((map_of t).used + length (index_at t)) t)) ≡ false → Headed x r t

-- ── no map ──

head_plain : (x r t : List ℕ) → t ≡ x ++ r → none is_break x ≡ true → ends is_break r ≡ true → has_map x ≡ false → map_of t ≡ no_map → Headed x r t
unfolding is_index_part index_digits map_units map_glyphs
head_plain x r t q n h p m = go (front x r (at_break r h (λ b. is_digit b ≡ false) refl refl refl))
  where
    yes : (b : Bool) → (b || true) ≡ true
    yes true = refl
    yes false = refl

    go : Front x r → Headed x r t
    go (full a l f) = good (rw (p, a)) (rw m (yes (ltb 0 (length (lead t))))) (rw (m, q, zero-add (length (lead (x ++ r)))) f) (rw (m, p)) (rw (m, p))
        (rw (m, p)) (rw (m, p, q) l)
    go (odd a b y f g) = wrong (rw (p, a)) (rw (m, q, zero-add (length (lead (x ++ r))), f, g is_break n, and-false))

-- ── a map ──

module _ (z : List ℕ) where
  one : (n : ℕ) → drop (1 + n) (40 ∷ z) ≡ drop n z
  one n = sym (drop-drop n 1 (40 ∷ z))

  two : (n : ℕ) → drop (1 + (n + 1)) (40 ∷ z) ≡ drop 1 (drop n z)
  two n = one (n + 1) ∙ sym (drop-drop 1 n z)

  three : (n k : ℕ) → drop (1 + (n + 1) + k) (40 ∷ z) ≡ drop k (drop 1 (drop n z))
  three n k = sym (drop-drop k (1 + (n + 1)) (40 ∷ z)) ∙ ap (λ (y : List ℕ). drop k y) (two n)

  behind_one : (n : ℕ) → drop (1 + n + 1) (40 ∷ z) ≡ drop 1 (drop n z)
  behind_one n = sym (drop-drop 1 (1 + n) (40 ∷ z)) ∙ ap (λ (y : List ℕ). drop 1 y) (one n)

  behind_two : (n k : ℕ) → drop (1 + (n + 1) + k + 1) (40 ∷ z) ≡ drop 1 (drop k (drop 1 (drop n z)))
  behind_two n k = sym (drop-drop 1 (1 + (n + 1) + k) (40 ∷ z)) ∙ ap (λ (y : List ℕ). drop 1 y) (three n k)

  map_is : map_of (40 ∷ z) ≡ map_by (head_of (after z)) (head_of (after (drop 1 (after z)))) (lead z) (lead (drop 1 (after z)))
  unfolding map_of
  map_is =
      let n : ℕ = length (lead z) in
      let k : ℕ = length (lead (drop 1 (after z))) in
      rw (two n, ← head_drop (40 ∷ z) (1 + n), ← head_drop (40 ∷ z) (1 + (n + 1) + k), one n, three n k)

assoc : (a b c : Bool) → (a && b && c) ≡ (a && (b && c))
assoc true b c = refl
assoc false b c = refl

-- behind a map M there is w, and then the rest
mapped : (x r t w : List ℕ) (M : Map) → map_of t ≡ M → M.mapped ≡ true → drop M.used t ≡ w ++ r → is_index_part x ≡ (digits w && M.ok) → has_map x ≡ true
    → index_digits x ≡ w
    → (M.ok ≡ true → M.units ≡ map_units x) → (M.ok ≡ true → M.glyphs ≡ map_glyphs x) → none is_break w ≡ true → ends is_break r ≡ true → Headed x r t
mapped x r t w M m p d i hm ix ua ub n h = go w refl M.ok refl (front w r (at_break r h (λ b. is_digit b ≡ false) refl refl refl))
  where
    gone : drop (M.used + length (lead (w ++ r))) t ≡ after (w ++ r)
    gone = sym (drop-drop (length (lead (w ++ r))) M.used t) ∙ ap (λ (y : List ℕ). drop (length (lead (w ++ r))) y) d

    go : (v : List ℕ) → w ≡ v → (o : Bool) → M.ok ≡ o → Front w r → Headed x r t
    go v e false o (full a l f) = wrong (i ∙ rw (o, and-false)) (rw (m, o))
    go [] e true o (full a l f) = wrong (i ∙ rw e) (rw (m, o, p, d, l, e))
    go (b ∷ v) e true o (full a l f) =
        let s : ltb 0 (length w) ≡ true = ap (λ (y : List ℕ). ltb 0 (length y)) e ∙ some_is (b ∷ v) in
        good (i ∙ rw (o, a, e)) (rw (m, o, d, l, s)) (rw (m, d, gone) f) (rw m p ∙ sym hm) (rw m (ua o)) (rw m (ub o)) (rw (m, d) l ∙ sym ix)
    go v e o' o (odd a b y f g) = wrong (i ∙ rw (a, and-false)) (rw (m, d, gone, f, g is_break n, and-false))

-- a map that is not well formed
ill : (x r t : List ℕ) → map_of t ≡ bad_map → is_index_part x ≡ false → Headed x r t
ill x r t m i = wrong i (rw m)

-- the byte behind the digits of a part that has none of a kind
not_head : (t : ℕ → Bool) (w r : List ℕ) → none t w ≡ true → is_digit (head_of r) ≡ false → t (head_of r) ≡ false → t (head_of (after (w ++ r))) ≡ false
not_head t w r n h k = go (front w r h)
  where
    go : Front w r → t (head_of (after (w ++ r))) ≡ false
    go (full a l f) = rw f k
    go (odd a b y f g) = rw f (g t n)

module _ (y r : List ℕ) (h : ends is_break r ≡ true) where
  rest_digit : is_digit (head_of r) ≡ false
  rest_digit = at_break r h (λ b. is_digit b ≡ false) refl refl refl

  rest_close : is_close (head_of r) ≡ false
  rest_close = at_break r h (λ b. is_close b ≡ false) refl refl refl

  rest_colon : is_colon (head_of r) ≡ false
  rest_colon = at_break r h (λ b. is_colon b ≡ false) refl refl refl

  -- no `)` in the part
  open_map : none is_close y ≡ true → map_of (40 ∷ (y ++ r)) ≡ bad_map
  open_map n = go (cutting is_colon y)
    where
      go : Cutting is_colon y → map_of (40 ∷ (y ++ r)) ≡ bad_map
      go (whole p c) = map_is (y ++ r) ∙ rw (not_head is_close y r n rest_digit rest_close, not_head is_colon y r p rest_digit rest_colon)
      go (parted a k b q p e c) =
          let q' : y ≡ a ++ (58 ∷ b) = q ∙ rw (eqb-true k 58 e) in
          let n' : none is_close (a ++ (58 ∷ b)) ≡ true = rw q' at n in
          ap (λ (v : List ℕ). map_of (40 ∷ v)) (ap (λ (v : List ℕ). v ++ r) q' ∙ append_assoc a (58 ∷ b) r)
          ∙ map_is (a ++ (58 ∷ (b ++ r)))
          ∙ inside a b p (none_left is_close a (58 ∷ b) n') (none_right is_close a (58 ∷ b) n') (front a (58 ∷ (b ++ r)) refl)
        where
          inside : (a b : List ℕ) → none is_colon a ≡ true → none is_close a ≡ true → none is_close b ≡ true → Front a (58 ∷ (b ++ r))
              → map_by (head_of (after (a ++ (58 ∷ (b ++ r))))) (head_of (after (drop 1 (after (a ++ (58 ∷ (b ++ r))))))) (lead (a ++ (58 ∷ (b ++ r))))
              (lead (drop 1 (after (a ++ (58 ∷ (b ++ r))))))
              ≡ bad_map
          inside a b p na nb (full i l f) = rw (f, not_head is_close b r nb rest_digit rest_close)
          inside a b p na nb (odd i c v f g) = rw (f, g is_close na, g is_colon p)

-- `(a)` and what follows
closed_one : (a w r x : List ℕ) → none is_close a ≡ true → none is_colon a ≡ true → none is_break w ≡ true → ends is_break r ≡ true
    → has_map x ≡ true → at_parenthesis x ≡ record { before = a; found = true; after = w } → at_colon x ≡ record { before = a; found = false; after = [] }
    → Headed x r (40 ∷ (a ++ (41 ∷ (w ++ r))))
unfolding is_index_part index_digits map_units map_glyphs
closed_one a w r x na ca nw h hm ar inn = go (front a (41 ∷ (w ++ r)) refl)
  where
    go : Front a (41 ∷ (w ++ r)) → Headed x r (40 ∷ (a ++ (41 ∷ (w ++ r))))
    go (odd i b y f g) = ill x r (40 ∷ (a ++ (41 ∷ (w ++ r)))) (map_is (a ++ (41 ∷ (w ++ r))) ∙ rw (f, g is_close na, g is_colon ca))
        (rw (hm, inn, i, and-false, and-false))
    go (full i l f) =
        mapped x r (40 ∷ (a ++ (41 ∷ (w ++ r)))) w (one_map a) (map_is (a ++ (41 ∷ (w ++ r))) ∙ rw (f, l)) refl
        (behind_one (a ++ (41 ∷ (w ++ r))) (length a) ∙ rw (sym (ap length l)) (rw f))
        (rw (hm, inn, ar, i, and-true, and-true, some_is a)) hm (rw (hm, ar)) (λ o. rw (hm, inn)) (λ o. rw (hm, inn)) nw h

-- `(a:b)` and what follows
closed_two : (a b w r x : List ℕ) → none is_close a ≡ true → none is_colon a ≡ true → none is_close b ≡ true → none is_break w ≡ true → ends is_break r ≡ true
    → has_map x ≡ true → (at_parenthesis x).found ≡ true → (at_parenthesis x).after ≡ w → at_colon x ≡ record { before = a; found = true; after = b }
    → Headed x r (40 ∷ (a ++ (58 ∷ (b ++ (41 ∷ (w ++ r))))))
unfolding is_index_part index_digits map_units map_glyphs
closed_two a b w r x na ca nb nw h hm af aw inn = outer (front a (58 ∷ (b ++ (41 ∷ (w ++ r)))) refl)
  where
    deep : map_of (40 ∷ (a ++ (58 ∷ (b ++ (41 ∷ (w ++ r)))))) ≡ map_by 58 (head_of (after (b ++ (41 ∷ (w ++ r))))) a (lead (b ++ (41 ∷ (w ++ r))))
        → after (a ++ (58 ∷ (b ++ (41 ∷ (w ++ r))))) ≡ 58 ∷ (b ++ (41 ∷ (w ++ r))) → lead (a ++ (58 ∷ (b ++ (41 ∷ (w ++ r))))) ≡ a → all_digits a ≡ true
        → Front b (41 ∷ (w ++ r)) → Headed x r (40 ∷ (a ++ (58 ∷ (b ++ (41 ∷ (w ++ r))))))
    deep m f l i (odd j c y g k) = ill x r (40 ∷ (a ++ (58 ∷ (b ++ (41 ∷ (w ++ r)))))) (m ∙ rw (g, k is_close nb)) (rw (hm, inn, j, and-false, and-false))
    deep m f l i (full j v g) =
        mapped x r (40 ∷ (a ++ (58 ∷ (b ++ (41 ∷ (w ++ r)))))) w (two_map a b) (m ∙ rw (g, v)) refl
        (behind_two (a ++ (58 ∷ (b ++ (41 ∷ (w ++ r))))) (length a) (length b) ∙ rw (rw l at f) (rw (rw v at g)))
        (rw (hm, inn, af, aw, i, j, and-true, and-true, some_is a, some_is b) (assoc (digits w) (not (empty a)) (not (empty b)))) hm (rw (hm, aw))
        (λ o. rw (hm, inn)) (λ o. rw (hm, inn)) nw h

    outer : Front a (58 ∷ (b ++ (41 ∷ (w ++ r)))) → Headed x r (40 ∷ (a ++ (58 ∷ (b ++ (41 ∷ (w ++ r))))))
    outer (odd i c y f g) = ill x r (40 ∷ (a ++ (58 ∷ (b ++ (41 ∷ (w ++ r))))))
        (map_is (a ++ (58 ∷ (b ++ (41 ∷ (w ++ r))))) ∙ rw (f, g is_close na, g is_colon ca)) (rw (hm, inn, i, and-false, and-false))
    outer (full i l f) = deep (map_is (a ++ (58 ∷ (b ++ (41 ∷ (w ++ r))))) ∙ rw (f, l)) f l i (front b (41 ∷ (w ++ r)) refl)

-- ── the front of an entry ──

head_mapped : (y r : List ℕ) → none is_break y ≡ true → ends is_break r ≡ true → Headed (40 ∷ y) r (40 ∷ (y ++ r))
unfolding is_index_part
head_mapped y r n h = go (cutting is_close y)
  where
    inside : (u w : List ℕ) → none is_close u ≡ true → none is_break w ≡ true → cut is_close y ≡ record { before = u; found = true; after = w }
        → Cutting is_colon u → Headed (40 ∷ y) r (40 ∷ (u ++ (41 ∷ (w ++ r))))
    inside u w nu nw c (whole p i) = closed_one u w r (40 ∷ y) nu p nw h refl c (rw c i)
    inside u w nu nw c (parted a k b q p e i) =
        let q' : u ≡ a ++ (58 ∷ b) = q ∙ rw (eqb-true k 58 e) in
        let n' : none is_close (a ++ (58 ∷ b)) ≡ true = rw q' at nu in
        subst (λ (v : List ℕ). Headed (40 ∷ y) r (40 ∷ v)) (sym (ap (λ (v : List ℕ). v ++ (41 ∷ (w ++ r))) q' ∙ append_assoc a (58 ∷ b) (41 ∷ (w ++ r))))
        (closed_two a b w r (40 ∷ y) (none_left is_close a (58 ∷ b) n') p (none_right is_close a (58 ∷ b) n') nw h refl (rw c) (rw c) (rw c i))

    go : Cutting is_close y → Headed (40 ∷ y) r (40 ∷ (y ++ r))
    go (whole p c) = ill (40 ∷ y) r (40 ∷ (y ++ r)) (open_map y r h p) (rw c)
    go (parted u k w q p e c) =
        let q' : y ≡ u ++ (41 ∷ w) = q ∙ rw (eqb-true k 41 e) in
        let n' : none is_break (u ++ (41 ∷ w)) ≡ true = rw q' at n in
        subst (λ (v : List ℕ). Headed (40 ∷ y) r (40 ∷ v)) (sym (ap (λ (v : List ℕ). v ++ r) q' ∙ append_assoc u (41 ∷ w) r))
        (inside u w p (none_right is_break u (41 ∷ w) n') c (cutting is_colon u))

-- the part x in front, and what follows it
pub head_is : (x r : List ℕ) → none is_break x ≡ true → ends is_break r ≡ true → Headed x r (x ++ r)
unfolding map_of
head_is [] r n h = head_plain [] r r refl refl h refl (rw (at_break r h (λ b. eqb b 40 ≡ false) refl refl refl))
head_is (b ∷ y) r n h =
    cases (eqb b 40)
    (λ e. subst (λ (c : ℕ). Headed (c ∷ y) r (c ∷ (y ++ r))) (sym (eqb-true b 40 e)) (head_mapped y r (and_r (not (is_break b)) (none is_break y) n) h))
    (λ e. head_plain (b ∷ y) r (b ∷ (y ++ r)) refl n h e (rw e))
