-- The whole test in the order of the code. Assumes nothing.
use Rattle.std.proofs.Common.{◌≡◌, ℕ, suc, ◌/◌, ◌%◌, true, false, ◌&&◌, List, [], ◌∷◌, ℤ, length, refl, arith, eqb}
use Rattle.std.proofs.lemmas.Bool.Decides.{nat_tests}
use Rattle.label.specs.Fetched.{halves, words, even_bytes, word_bytes}
use Rattle.label.specs.Places.{places}
use Rattle.label.specs.Sound.{whole_clusters, whole_glyphs, glyphs_of, proper_units, sound_run, sound}
use Rattle.label.proofs.Basics.{cases}
use Rattle.label.proofs.Lists.{empty_is}
use Rattle.rules.specs.Rules.{whole_run, limited}
use Rattle.sound.specs.Sounds.{well_run}
use Rattle.wire.proofs.Fetched.{words_length}

-- no byte is left over behind units, and behind other numbers
even_is : (s : List ℕ) → even_bytes s ≡ eqb (length s % 2) 0
unfolding even_bytes
even_is [] = refl
even_is (a ∷ []) = refl
even_is (a ∷ b ∷ s) = let e : suc (suc (length s)) % 2 ≡ length s % 2 = omega arith in rw e (even_is s)

word_is : (s : List ℕ) → word_bytes s ≡ eqb (length s % 4) 0
unfolding word_bytes
word_is [] = refl
word_is (a ∷ []) = refl
word_is (a ∷ b ∷ []) = refl
word_is (a ∷ b ∷ c ∷ []) = refl
word_is (a ∷ b ∷ c ∷ d ∷ s) = let e : suc (suc (suc (suc (length s)))) % 4 ≡ length s % 4 = omega arith in rw e (word_is s)

-- no number is left over behind clusters, and behind glyphs
pairs : (s : List ℤ) → whole_clusters s ≡ true → length s % 2 ≡ 0
unfolding whole_clusters
pairs [] h = refl
pairs (a ∷ []) h = cc
pairs (a ∷ b ∷ s) h = let r : whole_clusters s ≡ true = grind arith in omega (arith, pairs s r)

fours : (s : List ℤ) → whole_glyphs s ≡ true → length s % 4 ≡ 0
unfolding whole_glyphs
fours [] h = refl
fours (i ∷ []) h = cc
fours (i ∷ a ∷ []) h = cc
fours (i ∷ a ∷ u ∷ []) h = cc
fours (i ∷ a ∷ u ∷ v ∷ s) h = let r : whole_glyphs s ≡ true = grind arith in omega (arith, fours s r)

eight : (n : ℕ) → n / 4 % 2 ≡ 0 → eqb (n % 4) 0 ≡ eqb (n % 8) 0
eight n h = grind (arith, nat_tests)

sixteen : (n : ℕ) → n / 4 % 4 ≡ 0 → eqb (n % 4) 0 ≡ eqb (n % 16) 0
sixteen n h = grind (arith, nat_tests)

pub sound_is : (us cs gs : List ℕ) → sound (places us cs gs) ≡ (whole_run (length us) (length cs) (length gs)
    && limited (length (halves us)) (length (glyphs_of (words gs))) && proper_units false (halves us) && well_run (halves us) (words cs) (words gs))
unfolding sound sound_run well_run
sound_is us cs gs =
    rw (even_is us, word_is cs, word_is gs, empty_is (halves us), empty_is (glyphs_of (words gs)))
    (cases (whole_clusters (words cs))
    (λ t. cases (whole_glyphs (words gs))
    (λ r. let c : length cs / 4 % 2 ≡ 0 = omega (arith, pairs (words cs) t, words_length cs) in
    let g : length gs / 4 % 4 ≡ 0 = omega (arith, fours (words gs) r, words_length gs) in
    rw (eight (length cs) c, sixteen (length gs) g, t, r) (grind arith))
    (λ r. rw r (grind arith)))
    (λ t. rw t (grind arith)))
