-- Laws of what stands before the first `;`, from a later place on: what is read there is what is read of the whole.
-- Assumes nothing.
use Rattle.std.proofs.Common.{◌≡◌, ℕ, ◌+◌, ◌-◌, ◌<◌, ◌≤◌, false, ◌&&◌, eqb, List, [], ◌∷◌, length, get_or, take, drop, Option, Some, None, refl, subst, sym, ◌∙◌, arith}
use native.Mathlib.Nat.{zero-add}
use Rattle.label.specs.Bytes.{cut}
use Rattle.std.proofs.Math.Seq.{take-length}
use borrow.Author.Tests.{ne_eqb}
use Rattle.std.specs.Option.{MatchOption}
use Rattle.label.specs.Text.{xml_char}
use Rattle.label.specs.Requests.Attribute.{numbered, predefined, referred, body, is_closed, is_reference}
use Rattle.label.proofs.Basics.{cases}
use Rattle.label.proofs.Requests.Attribute.{body_here, closed_further, body_further}
use Rattle.attribute.specs.Pieces.{IsChar, GivesChar, IsReference}

-- what f makes of s is what g makes of t, which stands k bytes further
pub record Reads (f : List ℕ → ℕ) (s : List ℕ) (k : ℕ) (g : List ℕ → ℕ) (t : List ℕ) : Type 0 where
  pub closed : is_closed s ≡ is_closed t
  pub same : f (body s) ≡ g (body t)
  pub counts : length (body s) ≡ k + length (body t)
  pub size : length s ≡ k + length t

module _ {f g : List ℕ → ℕ} {s t : List ℕ} {k : ℕ} (r : Reads f s k g t) where
  pub char_on : {c n : ℕ} → IsChar g t c n → IsChar f s c (k + n)
  char_on x =
      record {
        closed = r.closed ∙ x.closed;
        character = x.character ∙ sym r.same;
        xml = x.xml;
        length_is = omega (arith, r.counts, x.length_is);
        within = omega (arith, r.size, x.within);
      }

  pub none_on : (is_closed t && xml_char (g (body t))) ≡ false → (is_closed s && xml_char (f (body s))) ≡ false
  none_on x = rw (r.closed, r.same) x

-- the first byte is no `;` where there is one before it
first : (s : List ℕ) {b : ℕ} → 0 < b → get_or (body s) 0 0 ≡ b → get_or s 0 0 ≡ b
unfolding body cut
first [] n k = k
first (a ∷ s) {b} n k = cases (eqb a 59) (λ d. absurd (omega (arith, rw (body_here a s d) at k))) (λ d. rw (body_further a s d) at k)

-- `#x` stands at the front
pub sixteen : (s : List ℕ) → 2 ≤ length s → get_or s 0 0 ≡ 35 → get_or s 1 0 ≡ 120 → Reads referred s 2 (numbered 16) (take (length s - 2) (drop 2 s))
unfolding referred
sixteen [] l e f = absurd (omega arith)
sixteen (a ∷ []) l e f = absurd (omega arith)
sixteen (a ∷ (b ∷ t)) l e f =
    let n : length (a ∷ (b ∷ t)) - 2 ≡ length t = omega arith in
    rw (n, take-length t, e, f) (record {
      closed = closed_further 35 (120 ∷ t) refl ∙ closed_further 120 t refl;
      same = rw (body_further 35 (120 ∷ t) refl, body_further 120 t refl);
      counts = rw (body_further 35 (120 ∷ t) refl, body_further 120 t refl) (omega arith);
      size = omega arith;
    })

-- `#` does, without an `x` behind it
pub ten : (s : List ℕ) → 1 ≤ length s → get_or s 0 0 ≡ 35 → (get_or s 1 0 ≡ 120 → ⊥) → Reads referred s 1 (numbered 10) (take (length s - 1) (drop 1 s))
unfolding referred
ten [] l e f = absurd (omega arith)
ten (a ∷ t) l e f =
    let n : length (a ∷ t) - 1 ≡ length t = omega arith in
    rw (n, take-length t, e) (record {
      closed = closed_further 35 t refl;
      same = rw (body_further 35 t refl, ne_eqb (get_or (body t) 0 0) 120 (λ k. f (first t (omega arith) k)));
      counts = rw (body_further 35 t refl) (omega arith);
      size = omega arith;
    })

-- no `#` does
pub name : (s : List ℕ) → (get_or s 0 0 ≡ 35 → ⊥) → Reads referred s 0 predefined s
unfolding referred
name s f =
    record {
      closed = refl;
      same = rw (ne_eqb (get_or (body s) 0 0) 35 (λ k. f (first s (omega arith) k)));
      counts = omega arith;
      size = omega arith;
    }

pub named_on : (s : List ℕ) (r : Option (ℕ × ℕ)) → (get_or s 0 0 ≡ 35 → ⊥) → GivesChar predefined s r → GivesChar referred s r
named_on s (Some p) f h = subst (λ (n : ℕ). IsChar referred s p.0 n) (zero-add p.1) (char_on (name s f) h)
named_on s None f h = none_on (name s f) h

-- ── a reference ──

-- each of the three answers, as that of a reference
pub whole : {s : List ℕ} {c n : ℕ} → IsChar referred s c n → IsReference s c n
unfolding is_reference
whole g = record { is = rw g.closed (rw g.character at g.xml); character = g.character; length_is = g.length_is; within = g.within }

pub none_whole : (s : List ℕ) → (is_closed s && xml_char (referred (body s))) ≡ false → is_reference s ≡ false
unfolding is_reference
none_whole s g = g

pub name_whole : (s : List ℕ) (r : Option (ℕ × ℕ)) → GivesChar referred s r → MatchOption r (is_reference s ≡ false) (λ p. IsReference s p.0 p.1)
name_whole s (Some p) g = whole g
name_whole s None g = none_whole s g
