-- Bytes of ASCII. Parts of byte lists: at the front, split at a byte, cut at the first byte of a kind, digits and their value; and the way back: join,
-- trailing empty parts dropped, digits of a number.
-- Assumes nothing.
use Rattle.std.specs.Prelude.{ℕ, zero, suc, ◌+◌, ◌*◌, ◌-◌, ◌/◌, ◌%◌, Bool, true, false, cond, not, ◌&&◌, List, [], ◌∷◌, ◌++◌, leb, ltb, eqb}
use Prim.Native.Char.{code}
use Prim.Native.String.{String, [] as none, ◌∷◌ as ◌then◌}

-- a text of ASCII as its bytes, which are its code units too
unfoldable pub ascii : String → List ℕ
ascii none = []
ascii (c then s) = code c ∷ ascii s

-- the bytes w stand at the front
unfoldable pub begins : List ℕ → List ℕ → Bool
begins [] t = true
begins (x ∷ w) [] = false
begins (x ∷ w) (y ∷ t) = eqb y x && begins w t

-- no element
abbrev pub empty : {A : Type 0} → List A → Bool
empty [] = true
empty (x ∷ xs) = false

-- a byte more at the front of the first part
abbrev pub on_first : ℕ → List (List ℕ) → List (List ℕ)
on_first b [] = (b ∷ []) ∷ []
on_first b (x ∷ xs) = (b ∷ x) ∷ xs

-- the parts between the bytes c: n of them make n + 1 parts
unfoldable pub split : ℕ → List ℕ → List (List ℕ)
split c [] = [] ∷ []
split c (b ∷ bs) = let r = split c bs in cond (eqb b c) ([] ∷ r) (on_first b r)

-- the bytes before the first that passes the test, whether there is one, and the bytes after it
pub record Cut : Type 0 where
  pub before : List ℕ
  pub found : Bool
  pub after : List ℕ

-- a byte more before the cut
abbrev pub on_before : ℕ → Cut → Cut
on_before b c = record { before = b ∷ c.before; found = c.found; after = c.after }

-- cut at the first byte that passes the test
unfoldable pub cut : (ℕ → Bool) → List ℕ → Cut
cut t [] = record { before = []; found = false; after = [] }
cut t (b ∷ bs) = let r = cut t bs in cond (t b) (record { before = []; found = true; after = bs }) (on_before b r)

-- `0` to `9`
abbrev pub is_digit : ℕ → Bool
is_digit b = leb 48 b && leb b 57

-- zero or more digits
unfoldable pub all_digits : List ℕ → Bool
all_digits [] = true
all_digits (b ∷ bs) = is_digit b && all_digits bs

-- one or more digits
abbrev pub digits : List ℕ → Bool
digits s = not (empty s) && all_digits s

-- n with these digits written behind it
unfoldable pub value_from : ℕ → List ℕ → ℕ
value_from n [] = n
value_from n (b ∷ bs) = value_from (n * 10 + (b - 48)) bs

-- digits "read as one whole number"
abbrev pub value : List ℕ → ℕ
value s = value_from 0 s

-- the parts with the byte c before each
unfoldable pub join_rest : ℕ → List (List ℕ) → List ℕ
join_rest c [] = []
join_rest c (x ∷ xs) = c ∷ (x ++ join_rest c xs)

-- the parts with the byte c between them
unfoldable pub join : ℕ → List (List ℕ) → List ℕ
join c [] = []
join c (x ∷ xs) = x ++ join_rest c xs

-- without the empty parts at the end
unfoldable pub trim : List (List ℕ) → List (List ℕ)
trim [] = []
trim (x ∷ xs) = let r = trim xs in cond (empty x && empty r) [] (x ∷ r)

-- the digits of a number, "no leading zeros"; `fuel` is above the number
unfoldable pub decimal_from : ℕ → ℕ → List ℕ
decimal_from zero n = []
decimal_from (suc fuel) n = let r = decimal_from fuel (n / 10) ++ ((48 + n % 10) ∷ []) in cond (ltb n 10) ((48 + n) ∷ []) r

-- the same for any number
unfoldable pub decimal : ℕ → List ℕ
decimal n = decimal_from (suc n) n

-- what each element gives, in order
unfoldable pub each : {A B : Type 0} → (A → List B) → List A → List B
each f [] = []
each f (x ∷ xs) = f x ++ each f xs

-- where a piece starts: the number of its first byte, this byte, and all bytes behind it
pub record Piece : Type 0 where
  pub place : ℕ
  pub byte : ℕ
  pub behind : List ℕ

-- a piece from its three parts
abbrev pub piece : ℕ → ℕ → List ℕ → Piece
piece p b bs = record { place = p; byte = b; behind = bs }

-- bytes cut into pieces from the left: `more` says how many bytes behind a piece's first belong to it; the first `skip` bytes belong to a piece before, and
-- the first byte has number `at`
unfoldable pub pieces : (ℕ → List ℕ → ℕ) → ℕ → ℕ → List ℕ → List Piece
pieces more skip at [] = []
pieces more (suc skip) at (b ∷ bs) = pieces more skip (suc at) bs
pieces more zero at (b ∷ bs) = piece at b bs ∷ pieces more (more b bs) (suc at) bs

-- what each element gives with its number, the first having number n
unfoldable pub each_numbered : {A B : Type 0} → (ℕ → A → List B) → ℕ → List A → List B
each_numbered f n [] = []
each_numbered f n (x ∷ xs) = f n x ++ each_numbered f (suc n) xs

-- the bytes from a piece's first on
abbrev pub from_piece : Piece → List ℕ
from_piece p = p.byte ∷ p.behind
