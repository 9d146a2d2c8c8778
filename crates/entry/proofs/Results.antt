-- The entries that bytes are: the one in front, up to its `;`, and those behind it (`split_here`); and so what the iterator gives: the result of that entry,
-- and then those of the entries behind it (`results_next`, `results_last`, `results_refused`). For its users `next_entry` and `no_entry` say which entries a
-- result comes from, `result_ok` and `result_no` what the definitions say of that entry.
-- Assumes nothing.
use Rattle.std.proofs.Common.{◌≡◌, refl, sym, ap, ◌∙◌, cond, Bool, true, false, not, ◌&&◌, List, [], ◌∷◌, ℕ, suc, ◌+◌, ◌≤◌, ◌<◌, arith, eqb, leb, length, drop, get_or, Option, Some, None, Result, Ok, Err, ◌⊎◌, inl, inr, add-one}
use Rattle.std.specs.Slice.{IsGetRangeResult}
use Rattle.std.proofs.lemmas.List.{take_rest}
use lib.Dec.{leb-suc-suc}
use borrow.Author.Tests.{le-leb, lt-leb}
use Rattle.label.specs.Limits.{max_index}
use Rattle.std.specs.Bool.{then_some}
use Rattle.std.specs.Borrow.{Bor}
use Rattle.label.specs.Outcome.{Outcome, ok, no, ◌>>◌, need}
use Rattle.label.specs.Bytes.{empty, split, Cut, on_before, cut, value}
use Rattle.label.specs.Entry.{Entry, entries, entry_part, index_digits, well_formed, field_fits, entry_of}
use Rattle.label.specs.Steps.{entry}
use Rattle.label.specs.Cause.{cause_number}
use Rattle.label.specs.Calls.{refusal}
use Rattle.label.specs.Requests.RoundedCount.{rounded_entry}
use Rattle.label.specs.declared.Refusal.{Refusal}
use Rattle.label.proofs.Basics.{cases, clash}
use Rattle.label.proofs.Steps.{entry_steps}
use Rattle.label.proofs.Splits.{split_hit, split_miss, split_nil, split_length}
use Rattle.entry.specs.declared.Item.{Item}
use Rattle.entry.specs.Items.{is_semi, here, cut_item, entry_cause, entry_read, entry_result, entry_here}
use Rattle.entry.specs.Results.{before, entry_results, rest_results}

-- ── the entry at a place ──

-- the first part and the others
split_head : (l : List ℕ) → split 59 l ≡ get_or (split 59 l) 0 [] ∷ cond (leb (suc (length (get_or (split 59 l) 0 []))) (length l))
    (split 59 (drop (suc (length (get_or (split 59 l) 0 []))) l)) []
split_head [] = rw (split_nil 59)
split_head (b ∷ bs) =
    cases (eqb b 59)
    (λ t. rw (split_hit 59 b bs t, le-leb 1 (suc (length bs)) (omega arith)))
    (λ t. rw (split_miss 59 b bs t, split_head bs, leb-suc-suc (suc (length (get_or (split 59 bs) 0 []))) (length bs)))

here_hit : (b : ℕ) (bs : List ℕ) → eqb b 59 ≡ true → here (b ∷ bs) ≡ []
here_hit b bs h = ap (λ (v : Cut). v.before) (stops b bs h)
  where
    stops : (b : ℕ) (bs : List ℕ) → eqb b 59 ≡ true → cut is_semi (b ∷ bs) ≡ record { before = []; found = true; after = bs }
    stops b bs h = unfold cut in rw h

here_miss : (b : ℕ) (bs : List ℕ) → eqb b 59 ≡ false → here (b ∷ bs) ≡ b ∷ here bs
here_miss b bs h = ap (λ (v : Cut). v.before) (goes b bs h)
  where
    goes : (b : ℕ) (bs : List ℕ) → eqb b 59 ≡ false → cut is_semi (b ∷ bs) ≡ on_before b (cut is_semi bs)
    goes b bs h = unfold cut in rw h

here_is : (l : List ℕ) → get_or (split 59 l) 0 [] ≡ here l
here_is [] = rw (split_nil 59) (unfold cut in refl)
here_is (b ∷ bs) =
    cases (eqb b 59)
    (λ t. rw (split_hit 59 b bs t) (sym (here_hit b bs t)))
    (λ t. rw (split_miss 59 b bs t, split_head bs) (ap (λ (x : List ℕ). b ∷ x) (here_is bs) ∙ sym (here_miss b bs t)))

pub split_here : (l : List ℕ) → split 59 l ≡ here l ∷ cond (leb (suc (length (here l))) (length l)) (split 59 (drop (suc (length (here l))) l)) []
split_here l =
    split_head l
    ∙ ap (λ (x : List ℕ). x ∷ cond (leb (suc (length x)) (length l)) (split 59 (drop (suc (length x)) l)) []) (here_is l)

-- there are at most as many as bytes and one more
pub entries_few : (s : List ℕ) → length (entries s) ≤ length s + 1
unfolding entries
entries_few [] = omega arith
entries_few (b ∷ s) = omega (arith, split_length 59 (b ∷ s))

-- ── their results ──

pub results_nil : (k : ℕ) → entry_results k [] ≡ []
unfolding entry_results
results_nil k = refl

-- all of them: of no bytes none
pub results_all : (s : Bor (List ℕ)) → rest_results 0 (then_some (not (empty s.now)) s) ≡ entry_results 0 (entries s.now)
unfolding entries
results_all s = go (empty s.now)
  where
    go : (b : Bool) → rest_results 0 (then_some (not b) s) ≡ entry_results 0 (cond b [] (split 59 s.now))
    go true = sym (results_nil 0)
    go false = refl

pub results_cons : (k : ℕ) (e : List ℕ) (es : List (List ℕ)) → entry_results k (e ∷ es) ≡ before (entry_result k e) (entry_results (suc k) es)
unfolding entry_results
results_cons k e es = refl

-- what taking an entry says of it, and what refusing it says
read_ok : (n m : ℕ) (o : Outcome Entry) (x : Item) → entry_read n m o ≡ Ok x → (y : Entry) × (o ≡ ok y) × (cut_item n m y ≡ x)
read_ok n m (ok y) x h = (y, refl, cc)
read_ok n m (no i p) x h = let z : true ≡ false = cc in clash true refl z

read_no : (n m : ℕ) (o : Outcome Entry) → ((i p : ℕ) → o ≡ no i p → cause_number (entry_cause i) ≡ i) → (r : Refusal) → entry_read n m o ≡ Err r
    → o ≡ no (cause_number r.cause) r.place
read_no n m (ok y) f r h = let z : true ≡ false = cc in clash true refl z
read_no n m (no i p) f r h = let q : refusal (entry_cause i) p ≡ r = cc in rw (← q, f i p refl)

-- an entry by itself is refused by 7, 8 or 9, and the cause is the one that has this number
entry_no : (k : ℕ) (s : List ℕ) (i p : ℕ) → entry k s ≡ no i p → cause_number (entry_cause i) ≡ i
entry_no k s i p h =
    go (well_formed s) (leb (value (index_digits (entry_part 0 s))) max_index)
    (field_fits (entry_part 1 s) && field_fits (entry_part 2 s) && field_fits (entry_part 3 s)) (sym (entry_steps k s) ∙ h)
  where
    go : (a b c : Bool) → (need a 7 k >> (need b 8 k >> (need c 9 k >> ok (entry_of s)))) ≡ no i p → cause_number (entry_cause i) ≡ i
    go false b c h = let e : i ≡ 7 = cc in rw e
    go true false c h = let e : i ≡ 8 = cc in rw e
    go true true false h = let e : i ≡ 9 = cc in rw e
    go true true true h = let z : true ≡ false = cc in clash true refl z

pub result_ok : (k : ℕ) (e : List ℕ) (x : Item) → entry_result k e ≡ Ok x
    → (y : Entry) × (entry k e ≡ ok y) × (cut_item (length e) (rounded_entry e) y ≡ x)
result_ok k e x h = read_ok (length e) (rounded_entry e) (entry k e) x h

pub result_no : (k : ℕ) (e : List ℕ) (r : Refusal) → entry_result k e ≡ Err r → entry k e ≡ no (cause_number r.cause) r.place
result_no k e r h = read_no (length e) (rounded_entry e) (entry k e) (entry_no k e) r h

module _ (s : List ℕ) (k : ℕ) where
  results_here : entry_results k (split 59 s) ≡ before (entry_here k s)
      (entry_results (suc k) (cond (leb (suc (length (here s))) (length s)) (split 59 (drop (suc (length (here s))) s)) []))
  results_here = rw (split_here s) (results_cons k (here s) _)

  module _ (x : Item) (e : entry_here k s ≡ Ok x) where
    used_is : length (here s) ≡ x.used
    used_is = let y = result_ok k (here s) x e in ap (λ (z : Item). z.used) y.2

    -- behind an entry that is taken are the results of the others, where there is a `;` behind it
    results_next : x.used + 1 ≤ length s → entry_results k (split 59 s) ≡ Ok x ∷ entry_results (k + 1) (split 59 (drop (x.used + 1) s))
    results_next h = rw (add-one, add-one, results_here, e, used_is, le-leb (suc x.used) (length s) (omega (arith, h)))

    results_last : length s < x.used + 1 → entry_results k (split 59 s) ≡ Ok x ∷ []
    results_last h = rw (results_here, e, used_is, lt-leb (suc x.used) (length s) (omega (arith, h)), results_nil)

    -- the rest is what is got behind the entry
    pub results_taken : (r : Option (Bor (List ℕ))) → IsGetRangeResult s (x.used + 1) (length s) r
        → entry_results k (split 59 s) ≡ Ok x ∷ rest_results (k + 1) r
    results_taken (Some p) g = rw (g.0.2 ∙ take_rest s (x.used + 1)) (results_next g.0.0)
    results_taken None g = results_last (past g.0)
      where
        past : ((length s < x.used + 1) ⊎ (length s < length s)) → length s < x.used + 1
        past (inl h) = h
        past (inr h) = omega (arith, h)

  -- behind one that is refused there is nothing
  pub results_refused : (r : Refusal) → entry_here k s ≡ Err r → entry_results k (split 59 s) ≡ Err r ∷ []
  results_refused r e = rw (results_here, e)

-- ── for who takes them ──

-- the first of these results is that of the first entry; where it was taken, the others are those of the entries behind it
pub record NextEntry (k : ℕ) (es : List (List ℕ)) (x : Result Item Refusal) (rs : List (Result Item Refusal)) : Type 0 where
  pub first : List ℕ
  pub behind : List (List ℕ)
  pub are : es ≡ first ∷ behind
  pub is : entry_result k first ≡ x
  pub others : (i : Item) → x ≡ Ok i → rs ≡ entry_results (k + 1) behind

pub next_entry : (k : ℕ) (es : List (List ℕ)) (x : Result Item Refusal) (rs : List (Result Item Refusal)) → entry_results k es ≡ x ∷ rs → NextEntry k es x rs
next_entry k [] x rs h = let z : true ≡ false = cc (results_nil k) in clash true refl z
next_entry k (e ∷ es) x rs h = go (entry_result k e) refl (sym (results_cons k e es) ∙ h)
  where
    go : (o : Result Item Refusal) → entry_result k e ≡ o → before o (entry_results (suc k) es) ≡ x ∷ rs → NextEntry k (e ∷ es) x rs
    go (Ok i) q p = record { first = e; behind = es; are = refl; is = cc; others = λ j t. rw add-one cc }
    go (Err r) q p =
        record { first = e; behind = es; are = refl; is = cc; others = λ j t. let z : true ≡ false = cc in clash true refl z }

-- where there is no result there is no entry
pub no_entry : (k : ℕ) (es : List (List ℕ)) → entry_results k es ≡ [] → es ≡ []
no_entry k [] h = refl
no_entry k (e ∷ es) h = go (entry_result k e) (sym (results_cons k e es) ∙ h)
  where
    go : (o : Result Item Refusal) → before o (entry_results (suc k) es) ≡ [] → e ∷ es ≡ []
    go (Ok i) p = let z : true ≡ false = cc in clash true refl z
    go (Err r) p = let z : true ≡ false = cc in clash true refl z
