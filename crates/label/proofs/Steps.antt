-- How a call that is a list of checks goes by steps, check by check: a check in front is a `need`, and lists joined are steps one behind the other; then
-- each call.
-- Assumes nothing.
use Prim.Native.Nat.{ℕ, zero, suc, ◌+◌, ◌*◌, ◌-◌}
use native.Mathlib.Omega.{arith}
use mathlib.Core.Path.{◌≡◌, refl, sym, ◌∙◌, ap}
use mathlib.Core.Bool.{Bool, true, false, cond, not, ◌&&◌, ◌||◌}
use mathlib.Core.List.{List, [], ◌∷◌, ◌++◌}
use borrow.Author.Tests.{le-leb}
use lib.Dec.{leb, eqb, eqb-suc-zero}
use lib.IntN.{ℤ}
use lib.ListN.{length, drop}
use Rattle.label.specs.Limits.{max_text_bytes, max_indices_bytes, max_units, max_glyphs, max_index, max_line_bytes}
use Rattle.label.specs.Outcome.{Outcome, ok, no, ◌>>=◌, ◌>>◌, need, Check, check, verdict}
use Rattle.label.specs.Bytes.{begins, empty, value, each, Piece, pieces, each_numbered}
use Rattle.label.specs.Text.{starts_char, following, code_point, xml_char, units_of, braced, marked, unmarked, characters, char_units, lent_units, said_units}
use Rattle.label.specs.Entry.{entry_part, index_digits, well_formed, field_fits, Entry, entry_of, entries}
use Rattle.label.specs.Run.{Run, Parts, cluster, add_glyph, keeps_pair, tail, State, start_state, opens, opens_units, takes, allowed, next, walk_parts, said_parts, run_with, said_run}
use Rattle.label.specs.Checks.{char_checks, text_checks, entry_checks, place_checks, walk_checks, run_checks, label_checks, read}
use Rattle.label.specs.Steps.{decode, text_units, entry, placed, step, walk, run_from, resolve_from, resolve, labels_from}
use Rattle.label.specs.Places.{Places}
use Rattle.label.specs.Sound.{run_of, sound}
use Rattle.label.specs.Write.{Label}
use Rattle.label.specs.Pick.{touched, turned, inside, pick_checks, pick_units, pick_glyphs}
use Rattle.label.specs.Relabel.{relabel_read}
use Rattle.label.specs.Calls.{read_checks, read_into, said_label, write_checks, write_asked, list_checks, list_into}
use Rattle.label.specs.Requests.Attribute.{is_good, gives, further, raw_check, raw_bytes, raw_checks, raw_gives, resolve_checks, resolve_into}
use Rattle.label.specs.Statements.Attribute.{raw_label_checks, read_raw}
use Rattle.label.specs.Requests.Sheet.{header, record_length, is_record, record_label, record_more, record_check, record_labels, sheet_records, file_labels, file_checks, labels_of, answers, sheet_checks, sheet_into}
use Rattle.label.specs.declared.Counts.{Counts}
use Rattle.label.specs.declared.Lengths.{Lengths}

-- ── a list of checks before an outcome ──

-- a check in front is a `need`
pub check_need : {A : Type 0} (t : Bool) (n p : ℕ) (cs : List Check) (o : Outcome A)
    → (verdict (check (not t) n p ∷ cs) >> o) ≡ (need t n p >> (verdict cs >> o))
unfolding verdict
check_need true n p cs o = refl
check_need false n p cs o = refl

pub check_cause : {A : Type 0} (h : Bool) (n p : ℕ) (cs : List Check) (o : Outcome A)
    → (verdict (check h n p ∷ cs) >> o) ≡ (need (not h) n p >> (verdict cs >> o))
unfolding verdict
check_cause true n p cs o = refl
check_cause false n p cs o = refl

-- a last check
pub check_last : {A : Type 0} (t : Bool) (n p : ℕ) (o : Outcome A) → (verdict (check (not t) n p ∷ []) >> o) ≡ (need t n p >> o)
unfolding verdict
check_last true n p o = refl
check_last false n p o = refl

-- causes in the papers' words
pub check_and : {A : Type 0} (a b : Bool) (n p : ℕ) (cs : List Check) (o : Outcome A)
    → (verdict (check (a && not b) n p ∷ cs) >> o) ≡ (need (not a || b) n p >> (verdict cs >> o))
unfolding verdict
check_and true true n p cs o = refl
check_and true false n p cs o = refl
check_and false b n p cs o = refl

pub check_or : {A : Type 0} (a b : Bool) (n p : ℕ) (cs : List Check) (o : Outcome A)
    → (verdict (check (not a || not b) n p ∷ cs) >> o) ≡ (need (a && b) n p >> (verdict cs >> o))
unfolding verdict
check_or true true n p cs o = refl
check_or true false n p cs o = refl
check_or false b n p cs o = refl

pub verdict_append : {A : Type 0} (xs ys : List Check) (o : Outcome A) → (verdict (xs ++ ys) >> o) ≡ (verdict xs >> (verdict ys >> o))
unfolding verdict
verdict_append [] ys o = refl
verdict_append (c ∷ xs) ys o = go c.holds (verdict_append xs ys o)
  where
    go : (h : Bool) → (verdict (xs ++ ys) >> o) ≡ (verdict xs >> (verdict ys >> o))
        → (cond h (no c.number c.place) (verdict (xs ++ ys)) >> o) ≡ (cond h (no c.number c.place) (verdict xs) >> (verdict ys >> o))
    go true r = refl
    go false r = r

pub seq_bind : {A B : Type 0} (v : Outcome (Unit {0})) (a : A) (f : A → Outcome B) → ((v >> ok a) >>= f) ≡ (v >> f a)
seq_bind (ok x) a f = refl
seq_bind (no n p) a f = refl

pub seq_out : {A B : Type 0} (v : Outcome (Unit {0})) (x : Outcome A) (f : A → Outcome B) → ((v >> x) >>= f) ≡ (v >> (x >>= f))
seq_out (ok a) x f = refl
seq_out (no n p) x f = refl

-- tests one behind the other, each with its number and place: as checks, and as steps before an outcome
record Test : Type 0 where
  passes : Bool
  number : ℕ
  place : ℕ

abbrev test : Bool → ℕ → ℕ → Test
test t n p = record { passes = t; number = n; place = p }

abbrev checks_of : List Test → List Check
checks_of [] = []
checks_of (t ∷ ts) = check (not t.passes) t.number t.place ∷ checks_of ts

abbrev steps_of : {A : Type 0} → List Test → Outcome A → Outcome A
steps_of [] o = o
steps_of (t ∷ ts) o = need t.passes t.number t.place >> steps_of ts o

by_steps : {A : Type 0} (ts : List Test) (o : Outcome A) → (verdict (checks_of ts) >> o) ≡ steps_of ts o
by_steps [] o = unfold verdict in refl
by_steps (t ∷ ts) o = check_need t.passes t.number t.place (checks_of ts) o ∙ rw (by_steps ts o)

-- n is 0, in the tests' words
zero_is : (n : ℕ) → eqb n 0 ≡ not (leb 1 n)
zero_is zero = refl
zero_is (suc n) = rw (eqb-suc-zero n, le-leb 1 (suc n) (omega arith))

-- ── the text ──

pub decode_none : (skip at : ℕ) → decode skip at [] ≡ ok []
unfolding decode each pieces verdict
decode_none zero at = refl
decode_none (suc skip) at = refl

pub decode_inside : (skip at b : ℕ) (bs : List ℕ) → decode (suc skip) at (b ∷ bs) ≡ decode skip (suc at) bs
unfolding decode pieces
decode_inside skip at b bs = refl

pub decode_char : (at b : ℕ) (bs : List ℕ)
    → decode 0 at (b ∷ bs)
    ≡ (need (starts_char b bs) 2 at >> (need (xml_char (code_point b bs)) 3 at >>
    (decode (following b bs) (suc at) bs >>= (λ us. ok (units_of (code_point b bs) ++ us)))))
unfolding decode each pieces
decode_char at b bs =
    let ps : List Piece = pieces following (following b bs) (suc at) bs in
    let o : Outcome (List ℕ) = ok (units_of (code_point b bs) ++ each char_units ps) in
    check_need (starts_char b bs) 2 at (check (not (xml_char (code_point b bs))) 3 at ∷ each char_checks ps) o
    ∙ rw (
      check_need (xml_char (code_point b bs)) 3 at (each char_checks ps) o,
      seq_bind (verdict (each char_checks ps)) (each char_units ps) (λ us. ok (units_of (code_point b bs) ++ us)),
    )

-- 4 and 5 of the units of all characters
abbrev pub four_five : List ℕ → Outcome (List ℕ)
four_five all = need (not (braced all) || marked all) 4 0 >> (need (leb (length (unmarked all)) max_units) 5 0 >> ok (unmarked all))

pub text_steps : (text : List ℕ) → text_units text ≡ (decode 0 0 text >>= (λ all. four_five all))
unfolding text_units text_checks decode
text_steps text =
    let all : List ℕ = lent_units text in
    let cs : List Check = each char_checks (characters text) in
    let few : Bool = leb (length (unmarked all)) max_units in
    let five : List Check = check (not few) 5 0 ∷ [] in
    verdict_append cs (check (braced all && not (marked all)) 4 0 ∷ five) (ok (unmarked all))
    ∙ ap (λ (x : Outcome (List ℕ)). verdict cs >> x) (check_and (braced all) (marked all) 4 0 five (ok (unmarked all))
    ∙ rw (check_last few 5 0 (ok (unmarked all))))
    ∙ sym (seq_bind (verdict cs) all (λ us. four_five us))

-- ── the entries ──

pub entry_steps : (k : ℕ) (s : List ℕ)
    → entry k s ≡ (need (well_formed s) 7 k >> (need (leb (value (index_digits (entry_part 0 s))) max_index) 8 k
    >> (need (field_fits (entry_part 1 s) && field_fits (entry_part 2 s) && field_fits (entry_part 3 s)) 9 k >> ok (entry_of s))))
unfolding entry entry_checks
entry_steps k s =
    by_steps (test (well_formed s) 7 k ∷ test (leb (value (index_digits (entry_part 0 s))) max_index) 8 k ∷ test
    (field_fits (entry_part 1 s) && field_fits (entry_part 2 s) && field_fits (entry_part 3 s)) 9 k ∷ [])
    (ok (entry_of s))

-- a cause that is asked where x holds
asked_where : (x y : Bool) → (x && not y) ≡ not (not x || y)
asked_where true y = refl
asked_where false y = refl

pub placed_steps : (bare : Bool) (st : State) (e : Entry)
    → placed bare st e ≡ (need (leb 1 e.units && leb 1 e.glyphs) 10 st.k >> (need (allowed bare st e) 11 st.k
    >> (need (not (opens_units bare st) || leb e.units (length st.rest)) 12 st.k >>
    (need (not (opens_units bare st) || keeps_pair e.units st.rest) 13 (st.at + e.units) >> ok e))))
unfolding placed place_checks
placed_steps bare st e =
    let x : Bool = opens_units bare st in
    let ts : List Test =
    test (allowed bare st e) 11 st.k ∷ test (not x || leb e.units (length st.rest)) 12 st.k ∷ test (not x || keeps_pair e.units st.rest) 13
    (st.at + e.units) ∷ [] in
    rw (zero_is e.units, zero_is e.glyphs, asked_where x (leb e.units (length st.rest)), asked_where x (keeps_pair e.units st.rest))
    (check_or (leb 1 e.units) (leb 1 e.glyphs) 10 st.k (checks_of ts) (ok e) ∙ rw (by_steps ts (ok e)))

pub walk_end : (bare : Bool) (st : State) → walk bare st [] ≡ (need (opens st) 14 st.opener >> ok (tail st.rest))
unfolding walk walk_checks walk_parts
walk_end bare st = check_last (opens st) 14 st.opener (ok (tail st.rest))

-- what an entry puts before the others' clusters and glyphs
abbrev pub adds : Bool → State → Entry → Parts → Outcome Parts
adds bare st e p = ok (add_glyph (opens st) (cluster (takes bare st e) e.glyphs) e.glyph p)

pub walk_first : (bare : Bool) (st : State) (s : List ℕ) (ss : List (List ℕ))
    → walk bare st (s ∷ ss) ≡ (step bare st s >>= (λ e. walk bare (next bare st e) ss >>= (λ p. adds bare st e p)))
unfolding step entry placed walk walk_checks walk_parts
walk_first bare st s ss =
    let e : Entry = entry_of s in
    let xs : List Check = entry_checks st.k s in
    let ys : List Check = place_checks bare st e in
    let zs : List Check = walk_checks bare (next bare st e) ss in
    let p : Parts = walk_parts bare (next bare st e) ss in
    let f : Entry → Outcome Parts = λ x. walk bare (next bare st x) ss >>= (λ q. adds bare st x q) in
    verdict_append xs (ys ++ zs) (adds bare st e p)
    ∙ ap (λ (o : Outcome Parts). verdict xs >> o)
    (verdict_append ys zs (adds bare st e p)
    ∙ ap (λ (o : Outcome Parts). verdict ys >> o) (sym (seq_bind (verdict zs) p (λ q. adds bare st e q)))
    ∙ sym (seq_bind (verdict ys) e f))
    ∙ sym (seq_out (verdict xs) (verdict ys >> ok e) f)
    ∙ sym (ap (λ (o : Outcome Entry). o >>= f) (seq_bind (verdict xs) e (λ x. placed bare st x)))

-- ── the whole ──

abbrev pub fifteen : List ℕ → Parts → Outcome Run
fifteen us p = need (leb (length p.glyphs) max_glyphs) 15 0 >> ok (run_with us p)

pub run_steps : (us indices : List ℕ)
    → run_from us indices ≡ (need (not (empty us && empty indices)) 6 0 >> (walk (empty us) (start_state us) (entries indices) >>= (λ p. fifteen us p)))
unfolding run_from run_checks walk
run_steps us indices =
    let w : List Check = walk_checks (empty us) (start_state us) (entries indices) in
    let p : Parts = said_parts us indices in
    let few : Bool = leb (length p.glyphs) max_glyphs in
    check_cause (empty us && empty indices) 6 0 (w ++ (check (not few) 15 0 ∷ [])) (ok (run_with us p))
    ∙ ap (λ (o : Outcome Run). need (not (empty us && empty indices)) 6 0 >> o)
    (verdict_append w (check (not few) 15 0 ∷ []) (ok (run_with us p))
    ∙ ap (λ (o : Outcome Run). verdict w >> o) (check_last few 15 0 (ok (run_with us p)))
    ∙ sym (seq_bind (verdict w) p (λ q. fifteen us q)))

pub read_steps : (text indices : List ℕ)
    → read text indices ≡ (need (leb (length text) max_text_bytes && leb (length indices) max_indices_bytes) 1 0 >>
    (text_units text >>= (λ us. run_from us indices)))
unfolding read label_checks said_run text_units run_from
read_steps text indices =
    let us : List ℕ = said_units text in
    let o : Outcome Run = ok (run_with us (said_parts us indices)) in
    check_or (leb (length text) max_text_bytes) (leb (length indices) max_indices_bytes) 1 0 (text_checks text ++ run_checks us indices) o
    ∙ ap (λ (x : Outcome Run). need (leb (length text) max_text_bytes && leb (length indices) max_indices_bytes) 1 0 >> x)
    (verdict_append (text_checks text) (run_checks us indices) o
    ∙ sym (seq_bind (verdict (text_checks text)) us (λ vs. run_from vs indices)))

pub relabel_steps : (text indices : List ℕ) → relabel_read text indices ≡ (need (leb (length indices) max_line_bytes) 1 0 >> read text indices)
unfolding relabel_read read
relabel_steps text indices = check_need (leb (length indices) max_line_bytes) 1 0 (label_checks text indices) (ok (said_run text indices))

-- 16, 17, 18 of a run
abbrev pub held : Counts → Run → Outcome Run
held m r =
    need (leb (length r.units) m.units) 16 (length r.units) >> (need (leb (length r.clusters) m.clusters) 17 (length r.clusters)
    >> (need (leb (length r.glyphs) m.glyphs) 18 (length r.glyphs) >> ok r))

pub into_steps : (m : Counts) (text indices : List ℕ) → read_into m text indices ≡ (read text indices >>= (λ r. held m r))
unfolding read read_into read_checks
into_steps m text indices =
    let r : Run = said_run text indices in
    let ts : List Test =
    test (leb (length r.units) m.units) 16 (length r.units) ∷ test (leb (length r.clusters) m.clusters) 17 (length r.clusters)
    ∷ test (leb (length r.glyphs) m.glyphs) 18 (length r.glyphs) ∷ [] in
    verdict_append (label_checks text indices) (checks_of ts) (ok r)
    ∙ ap (λ (o : Outcome Run). verdict (label_checks text indices) >> o) (by_steps ts (ok r))
    ∙ sym (seq_bind (verdict (label_checks text indices)) r (λ x. held m x))

-- ── a run handed in ──

-- 20 and 21 of a label
abbrev pub fills : Lengths → Label → Outcome Label
fills m l = need (leb (length l.text) m.text) 20 (length l.text) >> (need (leb (length l.indices) m.indices) 21 (length l.indices) >> ok l)

pub write_steps : (asked : Bool) (m : Lengths) (z : Places) → write_asked asked m z ≡ (need (sound z) 19 0 >> fills m (said_label asked z))
unfolding write_asked write_checks
write_steps asked m z =
    let l : Label = said_label asked z in
    by_steps (test (sound z) 19 0 ∷ test (leb (length l.text) m.text) 20 (length l.text) ∷ test (leb (length l.indices) m.indices) 21
    (length l.indices) ∷ [])
    (ok l)

pub units_steps : (z : Places) (first end : ℕ)
    → pick_units z first end ≡ (need (sound z) 19 0 >> (need (inside first end (length (run_of z).glyphs)) 22 0 >> ok (touched first end (run_of z).clusters)))
unfolding pick_units pick_checks
units_steps z first end = by_steps (test (sound z) 19 0 ∷ test (inside first end (length (run_of z).glyphs)) 22 0 ∷ [])
    (ok (touched first end (run_of z).clusters))

pub glyphs_steps : (z : Places) (first end : ℕ)
    → pick_glyphs z first end ≡ (need (sound z) 19 0 >> (need (inside first end (length (run_of z).units)) 22 0 >> ok
    (touched first end (turned (run_of z).clusters))))
unfolding pick_glyphs pick_checks
glyphs_steps z first end = by_steps (test (sound z) 19 0 ∷ test (inside first end (length (run_of z).units)) 22 0 ∷ [])
    (ok (touched first end (turned (run_of z).clusters)))

pub list_steps : (room : ℕ) (z : Places)
    → list_into room z ≡ (need (sound z) 19 0 >> (need (leb (length (run_of z).glyphs) room) 18 (length (run_of z).glyphs) >> ok (run_of z).glyphs))
unfolding list_into list_checks
list_steps room z = by_steps (test (sound z) 19 0 ∷ test (leb (length (run_of z).glyphs) room) 18 (length (run_of z).glyphs) ∷ []) (ok (run_of z).glyphs)

-- ── raw attribute values ──

pub resolve_none : (skip at : ℕ) → resolve_from skip at [] ≡ ok []
unfolding resolve_from each pieces verdict
resolve_none zero at = refl
resolve_none (suc skip) at = refl

pub resolve_inside : (skip at b : ℕ) (bs : List ℕ) → resolve_from (suc skip) at (b ∷ bs) ≡ resolve_from skip (suc at) bs
unfolding resolve_from pieces
resolve_inside skip at b bs = refl

pub resolve_first : (at b : ℕ) (bs : List ℕ)
    → resolve_from 0 at (b ∷ bs) ≡ (need (is_good b bs) 23 at >> (resolve_from (further b bs) (suc at) bs >>= (λ s. ok (gives b bs ++ s))))
unfolding resolve_from each pieces
resolve_first at b bs =
    let ps : List Piece = pieces further (further b bs) (suc at) bs in
    check_need (is_good b bs) 23 at (each raw_check ps) (ok (gives b bs ++ each raw_bytes ps))
    ∙ rw (seq_bind (verdict (each raw_check ps)) (each raw_bytes ps) (λ s. ok (gives b bs ++ s)))

pub resolve_into_steps : (room : ℕ) (raw : List ℕ) → resolve_into room raw ≡ (resolve raw >>= (λ s. need (leb (length s) room) 24 (length s) >> ok s))
unfolding resolve_into resolve_checks resolve_from
resolve_into_steps room raw =
    let s : List ℕ = raw_gives raw in
    verdict_append (raw_checks raw) _ (ok s)
    ∙ ap (λ (o : Outcome (List ℕ)). verdict (raw_checks raw) >> o) (check_last (leb (length s) room) 24 (length s) (ok s))
    ∙ sym (seq_bind (verdict (raw_checks raw)) s (λ x. need (leb (length x) room) 24 (length x) >> ok x))

pub raw_steps : (m : Lengths) (text indices : List ℕ)
    → read_raw m text indices ≡ (resolve_into m.text text >>= (λ t. resolve_into m.indices indices >>= (λ i. read t i)))
unfolding read_raw raw_label_checks resolve_into read
raw_steps m text indices =
    let t : List ℕ = raw_gives text in
    let i : List ℕ = raw_gives indices in
    let o : Outcome Run = ok (said_run t i) in
    let x : List Check = resolve_checks m.text text in
    let y : List Check = resolve_checks m.indices indices in
    verdict_append x _ o
    ∙ ap (λ (p : Outcome Run). verdict x >> p) (verdict_append y (label_checks t i) o ∙ sym (seq_bind (verdict y) i (λ q. read t q)))
    ∙ sym (seq_bind (verdict x) t (λ p. resolve_into m.indices indices >>= (λ q. read p q)))

-- ── a sheet's file ──

-- a record's check and its label do not look at its place
record_checks_at : (s : List ℕ) (skip k at to : ℕ)
    → each_numbered record_check k (pieces record_more skip at s) ≡ each_numbered record_check k (pieces record_more skip to s)
unfolding each_numbered pieces
record_checks_at [] zero k at to = refl
record_checks_at [] (suc skip) k at to = refl
record_checks_at (b ∷ s) (suc skip) k at to = record_checks_at s skip k (suc at) (suc to)
record_checks_at (b ∷ s) zero k at to = rw (record_checks_at s (record_more b s) (suc k) (suc at) (suc to))

record_labels_at : (s : List ℕ) (skip at to : ℕ) → each record_labels (pieces record_more skip at s) ≡ each record_labels (pieces record_more skip to s)
unfolding each pieces
record_labels_at [] zero at to = refl
record_labels_at [] (suc skip) at to = refl
record_labels_at (b ∷ s) (suc skip) at to = record_labels_at s skip (suc at) (suc to)
record_labels_at (b ∷ s) zero at to = rw (record_labels_at s (record_more b s) (suc at) (suc to))

pub labels_end : (skip k : ℕ) → labels_from skip k [] ≡ ok []
unfolding labels_from each each_numbered pieces verdict
labels_end zero k = refl
labels_end (suc skip) k = refl

pub labels_inside : (skip k b : ℕ) (bs : List ℕ) → labels_from (suc skip) k (b ∷ bs) ≡ labels_from skip k bs
unfolding labels_from pieces
labels_inside skip k b bs = rw (record_checks_at bs skip k 1 0, record_labels_at bs skip 1 0)

pub labels_record : (k b : ℕ) (bs : List ℕ)
    → labels_from 0 k (b ∷ bs) ≡ (need (is_record (b ∷ bs)) 26 k >>
    (labels_from (record_length (b ∷ bs) - 1) (suc k) bs >>= (λ ls. ok (record_label (b ∷ bs) ∷ ls))))
unfolding labels_from each each_numbered pieces
labels_record k b bs =
    let n : ℕ = record_more b bs in
    let ps : List Piece = pieces record_more n 0 bs in
    rw (record_checks_at bs n (suc k) 1 0, record_labels_at bs n 1 0)
    (check_need (is_record (b ∷ bs)) 26 k (each_numbered record_check (suc k) ps) (ok (record_label (b ∷ bs) ∷ each record_labels ps))
    ∙ rw (seq_bind (verdict (each_numbered record_check (suc k) ps)) (each record_labels ps) (λ ls. ok (record_label (b ∷ bs) ∷ ls))))

pub file_steps : (file : List ℕ) → labels_of file ≡ (need (begins header file) 25 0 >> labels_from 0 0 (drop 5 file))
unfolding labels_of labels_from
file_steps file = check_need (begins header file) 25 0 (each_numbered record_check 0 (sheet_records file)) (ok (file_labels file))

pub sheet_steps : (room : ℕ) (file : List ℕ)
    → sheet_into room file ≡ (labels_of file >>= (λ ls. need (leb (2 * length ls) room) 27 (length ls) >> ok (answers ls)))
unfolding sheet_into sheet_checks labels_of
sheet_steps room file =
    let ls : List Label = file_labels file in
    verdict_append (file_checks file) _ (ok (answers ls))
    ∙ ap (λ (o : Outcome (List ℤ)). verdict (file_checks file) >> o) (check_last (leb (2 * length ls) room) 27 (length ls) (ok (answers ls)))
    ∙ sym (seq_bind (verdict (file_checks file)) ls (λ x. need (leb (2 * length x) room) 27 (length x) >> ok (answers x)))
