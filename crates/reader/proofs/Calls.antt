-- The call: from the counts that were found to the run (`Found`), and 16 to 18, which hold those counts to the room.
-- Assumes nothing.
use Rattle.std.proofs.Common.{◌≡◌, refl, sym, ap, ◌∙◌, Bool, not, ◌&&◌, leb, List, ℕ, ◌*◌, ◌≤◌, ◌<◌, arith, length, Result, Ok, Err}
use borrow.Author.Tests.{le-leb, lt-leb, leb-true}
use lib.Seq.{sets}
use Rattle.label.specs.Outcome.{Outcome, ok, no}
use Rattle.label.specs.Bytes.{empty}
use Rattle.label.specs.Entry.{entries}
use Rattle.label.specs.Cause.{cause_number}
use Rattle.label.specs.Checks.{read}
use Rattle.label.specs.Limits.{max_text_bytes, max_indices_bytes, max_glyphs}
use Rattle.label.specs.Run.{Run, Parts, start_state, run_with}
use Rattle.label.specs.Steps.{text_units, walk, run_from}
use Rattle.label.specs.Wire.{from_halves}
use Rattle.label.specs.Calls.{reading_outcome, reading_rounded, filled, read_into, counts, counted, units_after, clusters_after, glyphs_after}
use Rattle.label.specs.Requests.RoundedCount.{beside}
use Rattle.label.specs.declared.Counts.{Counts}
use Rattle.label.specs.declared.Reading.{Reading}
use Rattle.label.specs.declared.Refusal.{Refusal}
use Rattle.label.proofs.Basics.{bind_ok, need_ok, no_ok, cases}
use Rattle.label.proofs.Lists.{counted_no}
use Rattle.label.proofs.Steps.{run_steps, read_steps, into_steps}
use Rattle.label.proofs.Run.{ok_path}
use Rattle.survey.specs.Steps.{said_no}
use Rattle.reader.specs.Stores.{cluster_bytes, glyph_bytes, Fillable}
use Rattle.reader.proofs.Storing.{Storing, clusters_all, glyphs_all}

-- ── an accepted run ──

-- what the counts of units us with indices s say: they are accepted, and the run has so many
pub record Found (us s : List ℕ) (n : Counts) : Type 0 where
  pub all : Parts
  pub walked : walk (empty us) (start_state us) (entries s) ≡ ok all
  pub is : run_from us s ≡ ok (run_with us all)
  pub units_are : length us ≡ n.units
  pub clusters_are : length all.clusters ≡ n.clusters
  pub glyphs_are : length all.glyphs ≡ n.glyphs
  pub few : length all.glyphs ≤ 4096

pub found : (us s : List ℕ) (n : Counts) → counted (run_from us s) ≡ ok n → Found us s n
found us s n h = go (run_from us s) refl h
  where
    made : (r : Run) → run_from us s ≡ ok r → counts r ≡ n → Found us s n
    made r q e =
        let (t, a) = need_ok (not (empty us && empty s)) 6 0 _ r (sym (run_steps us s) ∙ q) in
        let (p, w, b) = bind_ok (walk (empty us) (start_state us) (entries s)) _ r a in
        let (l, d) = need_ok (leb (length p.glyphs) max_glyphs) 15 0 _ r b in
        let i : run_with us p ≡ r = ok_path (run_with us p) r d in
        let c : counts (run_with us p) ≡ n = ap counts i ∙ e in
        record {
          all = p;
          walked = w;
          is = q ∙ ap ok (sym i);
          units_are = ap (λ (x : Counts). x.units) c;
          clusters_are = ap (λ (x : Counts). x.clusters) c;
          glyphs_are = ap (λ (x : Counts). x.glyphs) c;
          few = leb-true (length p.glyphs) max_glyphs l;
        }

    go : (o : Outcome Run) → run_from us s ≡ o → counted o ≡ ok n → Found us s n
    go (ok r) q x = made r q (ok_path (counts r) n x)
    go (no i p) q x = no_ok i p n x

-- ── its buffers ──

module _ {us s : List ℕ} {u c g : ℕ} (p : Fillable us s u c g) where
  abbrev pub filling : Found us s p.counts
  filling = found us s p.counts p.are

  abbrev pub parts : Parts
  parts = filling.all

  pub walked : walk (empty us) (start_state us) (entries s) ≡ ok parts
  walked = filling.walked

  pub few : length parts.glyphs ≤ 4096
  few = filling.few

  pub units_room : 2 * length us ≤ u
  units_room = omega (arith, filling.units_are, p.units_room)

  pub clusters_room : 8 * length parts.clusters ≤ c
  clusters_room = omega (arith, filling.clusters_are, p.clusters_room)

  pub glyphs_room : 16 * length parts.glyphs ≤ g
  glyphs_room = omega (arith, filling.glyphs_are, p.glyphs_room)

  pub units_filled : (old : List ℕ) {out : List ℕ} → out ≡ filled (from_halves us) old → out ≡ units_after (run_from us s) old
  units_filled old e = rw filling.is e

module _ {us s : List ℕ} (c₀ g₀ : List ℕ) {u : ℕ} (p : Fillable us s u (length c₀) (length g₀)) where
  clusters_filled : sets c₀ 0 (cluster_bytes (parts p).clusters) ≡ clusters_after (run_from us s) c₀
  unfolding cluster_bytes
  clusters_filled = rw (filling p).is (clusters_all (parts p).clusters c₀ (clusters_room p))

  glyphs_filled : sets g₀ 0 (glyph_bytes (parts p).glyphs) ≡ glyphs_after (run_from us s) g₀
  unfolding glyph_bytes
  glyphs_filled = rw (filling p).is (glyphs_all (parts p).glyphs g₀ (glyphs_room p))

  -- where nothing is stored yet: what is left are all parts, with which the buffers hold the run
  pub all_left : Storing (clusters_after (run_from us s) c₀) (glyphs_after (run_from us s) g₀) (parts p) c₀ g₀ 0 0
  all_left =
      record {
        clusters_room = omega (arith, clusters_room p);
        glyphs_room = omega (arith, glyphs_room p);
        clusters = clusters_filled;
        glyphs = glyphs_filled;
      }

-- ── an accepted label ──

-- its run is that of its text's units
pub run_is : (t s us : List ℕ) (n : Counts) → text_units t ≡ ok us → ok n ≡ counted (read t s) → read t s ≡ run_from us s
run_is t s us n e h =
    let short : Bool = leb (length t) max_text_bytes && leb (length s) max_indices_bytes in
    cases short
    (λ l. read_steps t s ∙ rw (l, e))
    (λ l. let z : read t s ≡ no 1 0 = read_steps t s ∙ rw l in no_ok 1 0 n (sym (h ∙ ap counted z)))

-- ── 16 to 18 ──

-- the five clauses of a reading: its answer, how many fields were rounded, and what its three buffers hold
abbrev pub Reads : Outcome Run → ℕ → Result Reading Refusal → List ℕ → List ℕ → List ℕ → List ℕ → List ℕ → List ℕ → Type 0
Reads o k r units₀ units clusters₀ clusters glyphs₀ glyphs =
    record {
      result : reading_outcome r ≡ counted o;
      rounded : reading_rounded r ≡ beside k o;
      units : units ≡ units_after o units₀;
      clusters : clusters ≡ clusters_after o clusters₀;
      glyphs : glyphs ≡ glyphs_after o glyphs₀;
    }

-- the run that was counted
record Said (t s : List ℕ) (n : Counts) : Type 0 where
  run : Run
  is : read t s ≡ ok run
  counted_is : counts run ≡ n

said : (t s : List ℕ) (n : Counts) → ok n ≡ counted (read t s) → Said t s n
said t s n h = go (read t s) refl h
  where
    go : (o : Outcome Run) → read t s ≡ o → ok n ≡ counted o → Said t s n
    go (ok r) q e = record { run = r; is = q; counted_is = ok_path (counts r) n (sym e) }
    go (no i p) q e = no_ok i p n (sym e)

module _ (t s : List ℕ) (m : Counts) where
  pub into_refused : (x : Refusal) → said_no x ≡ counted (read t s) → read_into m t s ≡ said_no x
  into_refused x h = into_steps m t s ∙ rw (counted_no (read t s) (cause_number x.cause) x.place (sym h))

  module _ (n : Counts) (h : ok n ≡ counted (read t s)) where
    abbrev f : Said t s n
    f = said t s n h

    units_are : length f.run.units ≡ n.units
    units_are = ap (λ (x : Counts). x.units) f.counted_is

    clusters_are : length f.run.clusters ≡ n.clusters
    clusters_are = ap (λ (x : Counts). x.clusters) f.counted_is

    glyphs_are : length f.run.glyphs ≡ n.glyphs
    glyphs_are = ap (λ (x : Counts). x.glyphs) f.counted_is

    pub into_16 : m.units < n.units → read_into m t s ≡ no 16 n.units
    into_16 a = into_steps m t s ∙ rw (f.is, units_are, lt-leb n.units m.units a)

    pub into_17 : n.units ≤ m.units → m.clusters < n.clusters → read_into m t s ≡ no 17 n.clusters
    into_17 a b = into_steps m t s ∙ rw (f.is, units_are, le-leb n.units m.units a, clusters_are, lt-leb n.clusters m.clusters b)

    pub into_18 : n.units ≤ m.units → n.clusters ≤ m.clusters → m.glyphs < n.glyphs → read_into m t s ≡ no 18 n.glyphs
    into_18 a b c =
        into_steps m t s
        ∙ rw (f.is, units_are, le-leb n.units m.units a, clusters_are, le-leb n.clusters m.clusters b, glyphs_are, lt-leb n.glyphs m.glyphs c)

    pub into_run : n.units ≤ m.units → n.clusters ≤ m.clusters → n.glyphs ≤ m.glyphs → read_into m t s ≡ read t s
    into_run a b c =
        into_steps m t s
        ∙ rw (f.is, units_are, le-leb n.units m.units a, clusters_are, le-leb n.clusters m.clusters b, glyphs_are, le-leb n.glyphs m.glyphs c)

-- a refusal: the answer, and nothing changed
pub nothing_read : (o : Outcome Run) (k : ℕ) (x : Refusal) (units clusters glyphs : List ℕ) → o ≡ said_no x
    → Reads o k (Err x) units units clusters clusters glyphs glyphs
nothing_read o k x units clusters glyphs e = rw e (record { result = refl; rounded = refl; units = refl; clusters = refl; glyphs = refl })

-- the run: its counts, and the buffers filled
pub run_read : (t s us : List ℕ) (o : Outcome Run) (k : ℕ) (x : Reading) (units₀ units clusters₀ clusters glyphs₀ glyphs : List ℕ) → o ≡ read t s
    → read t s ≡ run_from us s
    → ok x.counts ≡ counted (read t s) → x.rounded ≡ beside k (read t s) → units ≡ units_after (run_from us s) units₀
    → clusters ≡ clusters_after (run_from us s) clusters₀ → glyphs ≡ glyphs_after (run_from us s) glyphs₀
    → Reads o k (Ok x) units₀ units clusters₀ clusters glyphs₀ glyphs
run_read t s us o k x units₀ units clusters₀ clusters glyphs₀ glyphs e r h l a b d =
    rw e (record { result = h; rounded = l; units = rw r a; clusters = rw r b; glyphs = rw r d })
