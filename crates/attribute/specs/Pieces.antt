-- A raw value as the code walks it, piece by piece, and as it stores what the pieces give.
-- Assumes nothing.
use Rattle.std.specs.Prelude.{ℕ, suc, ◌+◌, ◌≡◌, ◌≤◌, ◌<◌, true, false, cond, Option, Some, None, Result, Ok, Err, MatchOption, ◌&&◌, List, [], ◌∷◌, length, get_or, drop}
use Rattle.label.specs.Bytes.{ascii, begins}
use Rattle.label.specs.Outcome.{ok, no}
use Rattle.label.specs.Text.{xml_char}
use Rattle.label.specs.Write.{utf8}
use Rattle.label.specs.Requests.Attribute.{referred, body, is_closed, is_reference, is_good, gives, further}
use Rattle.label.specs.Steps.{resolve}
use Rattle.label.specs.Cause.{cause_number}
use Rattle.label.specs.Calls.{refusal}
use Rattle.label.specs.declared.Cause.TheVariants.{BadReference}
use Rattle.label.specs.declared.Refusal.{Refusal}
use Rattle.octets.specs.Puts.{Put}
use Rattle.attribute.specs.declared.Piece.{Piece}
use Rattle.attribute.specs.declared.Piece.TheVariants.{Byte, Char}
use Rattle.attribute.specs.declared.Pieces.{Pieces}

-- `;` ends bs's first n bytes, and c is the XML character that f makes of those before it
pub record IsChar (f : List ℕ → ℕ) (bs : List ℕ) (c n : ℕ) : Type 0 where
  pub closed : is_closed bs ≡ true
  pub character : c ≡ f (body bs)
  pub xml : xml_char c ≡ true
  pub length_is : n ≡ suc (length (body bs))
  pub within : n ≤ length bs

-- the answer for f: that character is found; or there is none, and then there is no `;`, or what f makes is no XML character
abbrev pub GivesChar : (List ℕ → ℕ) → List ℕ → Option (ℕ × ℕ) → Type 0
GivesChar f bs r = MatchOption r ((is_closed bs && xml_char (f (body bs))) ≡ false) (λ p. IsChar f bs p.0 p.1)

-- the name with its `;` that bs begins with, one of the five of document 02: its character, and how many bytes that is
unfoldable pub named : List ℕ → Option (ℕ × ℕ)
named bs =
    cond (begins (ascii "amp;") bs) (Some (38, 4))
    (cond (begins (ascii "lt;") bs) (Some (60, 3))
    (cond (begins (ascii "gt;") bs) (Some (62, 3))
    (cond (begins (ascii "quot;") bs) (Some (34, 5))
    (cond (begins (ascii "apos;") bs) (Some (39, 5)) None))))

-- the bytes that come out of a piece
abbrev pub piece_bytes : Piece → List ℕ
piece_bytes (Byte b) = b ∷ []
piece_bytes (Char c) = utf8 c

-- the reference whose `&` stands before bs: its character, and how many bytes it has there
pub record IsReference (bs : List ℕ) (c n : ℕ) : Type 0 where
  pub is : is_reference bs ≡ true
  pub character : c ≡ referred (body bs)
  pub length_is : n ≡ suc (length (body bs))
  pub within : n ≤ length bs

-- the piece that starts with byte b, before bs: what comes out of it, and its n bytes
pub record IsPiece (b : ℕ) (bs : List ℕ) (x : Piece) (n : ℕ) : Type 0 where
  pub good : is_good b bs ≡ true
  pub bytes : piece_bytes x ≡ gives b bs
  pub length_is : n ≡ suc (further b bs)
  pub within : n ≤ suc (length bs)

-- a step of the walk from s, which leaves t
abbrev pub GivesPiece : Pieces → Option (Result Piece Refusal) → Pieces → Type 0
GivesPiece s None t = length s.raw.now ≤ s.at
GivesPiece s (Some (Err x)) t = (x ≡ refusal BadReference s.at) × (s.at < length s.raw.now) × (is_good (get_or s.raw.now s.at 0)
    (drop (s.at + 1) s.raw.now) ≡ false)
GivesPiece s (Some (Ok x)) t =
    (s.at < length s.raw.now) × (t.raw ≡ s.raw) × (n : ℕ) × IsPiece (get_or s.raw.now s.at 0) (drop (s.at + 1) s.raw.now) x n × (t.at ≡ s.at + n)

-- what the answer of storing says: what the raw value resolves to is stored from the start of the buffer, as far as there is room, and n is its length;
-- or it is refused
abbrev pub Stores : List ℕ → List ℕ → Result ℕ Refusal → List ℕ → Type 0
Stores raw old (Ok n) new = (w : List ℕ) × (resolve raw ≡ ok w) × Put old 0 w n new
Stores raw old (Err x) new = resolve raw ≡ no (cause_number x.cause) x.place
