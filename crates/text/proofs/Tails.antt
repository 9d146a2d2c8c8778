-- The law of a text's tail: it has a cluster for each character.
-- Assumes nothing.
use Prim.Native.Nat.{ℕ, zero, suc}
use mathlib.Core.Path.{◌≡◌, ap}
use mathlib.Core.Bool.{true}
use mathlib.Core.List.{List, [], ◌∷◌}
use lib.ListN.{length, drop}
use Rattle.label.specs.Outcome.{ok}
use Rattle.label.specs.Text.{starts_char, following, code_point, xml_char, units_of}
use Rattle.label.specs.Run.{tail}
use Rattle.label.proofs.Basics.{no_ok, cases}
use Rattle.label.proofs.Run.{ok_path}
use Rattle.label.proofs.Tails.{tail_nil, tail_char}
use Rattle.text.specs.Units.{units_from, well_formed}
use Rattle.text.specs.Walk.{characters, characters_from}
use Rattle.text.proofs.Walk.{units_read}
use Rattle.text.proofs.Moves.{taken, left_all}

clusters : (k at : ℕ) (s us : List ℕ) → units_read (characters k at s) ≡ ok us → length (characters k at s) ≡ length (tail us).clusters
unfolding characters
clusters k at [] us h = rw (← ok_path [] us h, tail_nil)
clusters (suc k) at (b ∷ s) us h = clusters k (suc at) s us h
clusters zero at (b ∷ s) us h =
    cases (starts_char b s)
    (λ t. cases (xml_char (code_point b s))
    (λ x. let n = length (units_of (code_point b s)) in
    let (e, r) = taken (units_of (code_point b s)) _ us (rw (t, x) at h) in
    rw (t, x, e, tail_char (code_point b s) (drop n us) x) (ap suc (clusters (following b s) (suc at) s (drop n us) r)))
    (λ x. no_ok 3 at us (rw (t, x) at h)))
    (λ t. no_ok 2 at us (rw t at h))

pub tail_count : (s : List ℕ) (i : ℕ) → well_formed s i ≡ true → length (characters_from s i) ≡ length (tail (units_from s i)).clusters
tail_count s i h = clusters 0 i (drop i s) (units_from s i) (left_all s i h)
