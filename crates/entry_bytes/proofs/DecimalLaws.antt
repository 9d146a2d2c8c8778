-- Laws of a number's decimal digits: one digit, and the last digit behind those of the tenth; `enough`, that more fuel gives the same digits, carries it.
-- Assumes nothing.
use mathlib.Core.Path.{◌≡◌, sym, ap, ◌∙◌}
use mathlib.Core.List.{List, [], ◌∷◌, ◌++◌}
use Prim.Native.Nat.{ℕ, zero, suc, ◌+◌, ◌/◌, ◌%◌, ◌<◌, ◌≤◌}
use native.Mathlib.Omega.{arith}
use borrow.Author.Tests.{ltb-true, ltb-false}
use lib.Dec.{ltb}
use Rattle.label.specs.Bytes.{decimal_from, decimal}
use Rattle.label.proofs.Basics.{cases}
use Rattle.label.proofs.Decimals.{dec_small, dec_big}

enough : (f e n : ℕ) → n < f → n < e → decimal_from f n ≡ decimal_from e n
enough zero e n h k = absurd (omega arith)
enough (suc f) zero n h k = absurd (omega arith)
enough (suc f) (suc e) n h k =
    cases (ltb n 10)
    (λ t. dec_small f n (ltb-true n 10 t) ∙ sym (dec_small e n (ltb-true n 10 t)))
    (λ t. let b : 10 ≤ n = ltb-false n 10 t in
    dec_big f n b ∙ ap (λ (l : List ℕ). l ++ ((48 + n % 10) ∷ [])) (enough f e (n / 10) (omega arith) (omega arith)) ∙ sym (dec_big e n b))

pub decimal_small : (n : ℕ) → n < 10 → (48 + n) ∷ [] ≡ decimal n
unfolding decimal
decimal_small n h = sym (dec_small n n h)

-- all digits but the last, then the last
pub decimal_step : (n : ℕ) → 10 ≤ n → decimal (n / 10) ++ ((48 + n % 10) ∷ []) ≡ decimal n
unfolding decimal
decimal_step n h = sym (dec_big n n h ∙ ap (λ (l : List ℕ). l ++ ((48 + n % 10) ∷ [])) (enough n (suc (n / 10)) (n / 10) (omega arith) (omega arith)))
