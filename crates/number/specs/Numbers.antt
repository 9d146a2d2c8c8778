-- A number at the front of a list: "digits, or digits `.` digits, or `.` digits; then optionally `e` or `E`, an optional sign, digits".
-- Assumes nothing.
use Rattle.std.specs.Prelude.{Bool, true, false, cond, ◌&&◌, ◌||◌, List, [], ◌++◌, ℕ, ◌+◌, ◌≤◌, min, length, drop, get_or, leb, ltb, eqb, Option, Some, None, IfSome, Result, Ok, Err}
use Rattle.label.specs.Limits.{max_digits, max_exponent_digits, max_thousandths}
use Rattle.label.specs.Bytes.{value}
use Rattle.label.specs.Entry.{is_e, scaled}
use Rattle.label.specs.Requests.RoundedCount.{is_whole}
use Rattle.number.specs.declared.Thousandths.{Thousandths}
use Rattle.number.specs.declared.Mantissa.{Mantissa}
use Rattle.number.specs.declared.Exponent.{Exponent}
use Rattle.number.specs.declared.Number.{Number}
use Rattle.number.specs.Digits.{cap, head_of, lead}

-- a size, where it is within the limit, and whether it is exact
abbrev pub sized : ℕ → Bool → Option Thousandths
sized v x = cond (leb v max_thousandths) (Some (record { count = v; exact = x })) None

-- a size of at most 1,000,000,000
abbrev pub Small : Option Thousandths → Type 0
Small z = IfSome z (λ v. v.count ≤ max_thousandths)

-- the part before any exponent: whether it is well formed, how many bytes it has, all its digits, and how many of them stand behind the point
pub record Mant : Type 0 where
  pub ok : Bool
  pub used : ℕ
  pub digits : List ℕ
  pub behind : ℕ

-- digits `.` digits, the first of them perhaps none
abbrev pub pointed : List ℕ → List ℕ → Mant
pointed ip fp = record { ok = ltb 0 (length fp); used = length ip + 1 + length fp; digits = ip ++ fp; behind = length fp }

-- digits alone
abbrev pub plain : List ℕ → Mant
plain ip = record { ok = ltb 0 (length ip); used = length ip; digits = ip; behind = 0 }

-- whether the byte behind the first digits is a point
unfoldable pub mantissa_of : List ℕ → Mant
mantissa_of t =
    cond (eqb (get_or t (length (lead t)) 0) 46)
    (pointed (lead t) (lead (drop (length (lead t) + 1) t)))
    (plain (lead t))

-- the exponent: whether it is well formed, how many bytes it has, its sign and its digits
pub record Expo : Type 0 where
  pub ok : Bool
  pub used : ℕ
  pub negative : Bool
  pub digits : List ℕ

-- a sign, `+` or `-`, is one byte long, and none is none
abbrev pub sign_length : ℕ → ℕ
sign_length b = cond (eqb b 43 || eqb b 45) 1 0

-- the letter and the sign are k bytes, and b is the byte behind the letter
abbrev pub raised : ℕ → ℕ → List ℕ → Expo
raised b k ds = record { ok = ltb 0 (length ds); used = k + length ds; negative = eqb b 45; digits = ds }

abbrev pub raised_by : ℕ → List ℕ → Expo
raised_by b t = raised b (1 + sign_length b) (lead (drop (1 + sign_length b) t))

-- no exponent
abbrev pub unraised : Expo
unraised = record { ok = true; used = 0; negative = false; digits = [] }

unfoldable pub exponent_of : List ℕ → Expo
exponent_of t = cond (is_e (head_of t)) (raised_by (get_or t 1 0) t) unraised

-- within the limits on digits, and then on the value
abbrev pub size_of : Mant → Expo → Option Thousandths
size_of m x =
    cond (leb (length m.digits) max_digits && leb (length x.digits) max_exponent_digits)
    (sized (scaled (value m.digits) m.behind x.negative (value x.digits))
    (is_whole (value m.digits) m.behind x.negative (value x.digits)))
    None

-- a number: whether it is well formed, how many bytes it has, and its size, where that is within the limits
pub record Numeral : Type 0 where
  pub ok : Bool
  pub used : ℕ
  pub size : Option Thousandths

abbrev pub number_with : Mant → Expo → Numeral
number_with m x = record { ok = (m.ok && x.ok); used = m.used + x.used; size = size_of m x }

unfoldable pub number_of : List ℕ → Numeral
number_of t = number_with (mantissa_of t) (exponent_of (drop (mantissa_of t).used t))

-- what the code keeps of them: counts and values of the digits
abbrev pub cut_mantissa : Mant → Mantissa
cut_mantissa m = record { ok = m.ok; used = m.used; count = length m.digits; value = min (value m.digits) cap; behind = m.behind }

abbrev pub cut_exponent : Expo → Exponent
cut_exponent x = record { ok = x.ok; used = x.used; negative = x.negative; count = length x.digits; value = min (value x.digits) cap }

-- a number, or, where it is not well formed, what stands in its place
abbrev pub by_form : Bool → Number → Result Number Number
by_form ok n = cond ok (Ok n) (Err n)

-- its bytes and its size, by whether it is well formed
abbrev pub formed : Numeral → Result Number Number
formed n = by_form n.ok (record { used = n.used; size = n.size })
