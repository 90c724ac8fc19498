-- A leaf that is opened: its class is held, a chunk is filled, and the entry takes the body.
use Rattle.std.proofs.Common.{◌≡◌, ℕ, true, ◌∷◌, length, replicate, refl, sym, ◌∙◌, ap, subst, arith, Some, None, count_by}
use Rattle.long_names.specs.Objects.{fields_of}
use Rattle.long_names.specs.Words.{literal_count}
use Rattle.std.proofs.Math.ListN.{length-replicate}
use Rattle.long_names.specs.declared.object.Kind.{Kind}
use Rattle.object_record.specs.Raw.{RawRecord, raw_kind, raw_len, longs_of, IsRawRecord}
use Rattle.object_record.specs.Objects.{object_in}
use Rattle.object_table.specs.declared.entry.Entry.{Entry}
use Rattle.object_table.specs.Entries.{put, is_used, place_of, with_refs}
use Rattle.core_segment.specs.Chunks.{Chunk, with_chunk}
use Rattle.core_view.specs.Core.{Core, with_entry}
use Rattle.core_view.specs.Words.{pointers, body_in, words_for, header_in}
use Rattle.core_view.specs.Held.{Disk}
use Rattle.core_view.specs.Counts.{names, one, change_by, marked_by}
use Rattle.core_view.specs.Kept.{IsCore, IsBacked, Keeps}
use Rattle.core_view.specs.Steps.{IsOpening, IsMove, IsAbout}
use Rattle.core_view.proofs.Lists.{put-here, count-cons}
use Rattle.core_view.proofs.Entries.{at-entry, step-names}
use Rattle.core_view.proofs.Bodies.{count-lambda, opening-step, opening-outside, opening-object, opening-keeps}
use Rattle.core_view.proofs.Moves.{move-outside, move-stays}
use Rattle.core_view.proofs.Others.{same-entries, entries-others, Others-trans, entry-others, entry-marks}
use Rattle.core_view.proofs.Tight.{ref-tight, open-tight}
use Rattle.core_view.proofs.Steps.{Keeps-trans, ref-about, About-trans, entry-about, entry-changes}
use Rattle.leaf_lambda.specs.Parts.{IsHolding, IsWithin}
use Rattle.leaf_lambda.specs.Records.{unresolved, opened, HasBody, IsOpened}
use Rattle.leaf_lambda.proofs.RecordLaws.{unresolved-pointers, unresolved-long, unresolved-small, unresolved-body}

some-same : {A : Type 0} (x y : A) → Some x ≡ Some y → x ≡ y
some-same x y e = cc

-- a chunk where no body lies changed
pub move-about : (s : ℕ) (c d : Core) → IsMove c d → d.entries ≡ c.entries → IsAbout s c d
move-about s c d move entries = record {
  bound = move.bound;
  chunks = λ q p away at.
      let there = move.bodies q p at in
      let same : p ≡ there.0 = some-same p there.0 (sym at ∙ ap (λ (f : ℕ → Entry). place_of (f q).state) (sym entries) ∙ there.1) in
      ap d.chunks same ∙ there.2;
  bodies = λ q p away at. ap (λ (f : ℕ → Entry). f q) entries ∙ ap (λ (f : ℕ → Entry). with_refs (c.entries q) (f q).refs) (sym entries);
  leaves = λ q away e. ap (λ (f : ℕ → Entry). place_of (f q).state) entries ∙ e;
}

-- from a, with a class k that is held then, a chunk at p that is filled then, and the entry s that is opened then, to d
pub record IsOpenRun (a b m : Core) (s k p : ℕ) (raw : RawRecord) : Type 0 where
  pub hold : IsHolding k a b
  pub core_b : IsCore b
  pub move : IsMove b m
  pub core_m : IsCore m
  pub entries : m.entries ≡ b.entries
  pub chunk : m.chunks p ≡ record { owner = s; words = unresolved raw.body }
  pub chunks : m.chunks ≡ with_chunk b.chunks p (record { owner = s; words = unresolved raw.body })
  pub used : is_used (a.entries s).state ≡ true
  pub leaf : place_of (a.entries s).state ≡ None
  pub class_used : is_used (b.entries k).state ≡ true
  pub class_name : (b.entries k).name ≡ raw.class
  pub is_raw : IsRawRecord raw

abbrev pub after : Core → ℕ → ℕ → ℕ → RawRecord → Entry
after m s k p raw = opened (m.entries s) p k (raw_kind raw.body) (raw_len raw.body)

pub run-opening : (a b m : Core) (s k p : ℕ) (raw : RawRecord) → IsOpenRun a b m s k p raw → IsOpening m s p (after m s k p raw)
run-opening a b m s k p raw run = record {
  used = ap (λ (f : ℕ → Entry). is_used (f s).state) run.entries ∙ (run.hold.live s run.used).0;
  leaf = ap (λ (f : ℕ → Entry). place_of (f s).state) run.entries ∙ run.hold.step.leaves s run.leaf;
  place = refl;
  still = refl;
  name = refl;
  refs = refl;
  class_short = run.core_b.short k run.class_used;
  owner = ap (λ (x : Chunk). x.owner) run.chunk;
  long = subst (λ (x : Chunk). length x.words ≡ words_for (raw_kind raw.body) (raw_len raw.body) (literal_count (header_in x.words))) (sym run.chunk) (unresolved-long raw.body run.is_raw.size run.is_raw.range);
  small = unresolved-small raw.body run.is_raw.size;
  given = λ t.
      let words = ap (λ (x : Chunk). count_by (names t) (k ∷ pointers (raw_kind raw.body) x.words)) run.chunk in
      let lambdas = ap (λ ws. count_by (names t) (k ∷ ws)) (unresolved-pointers raw.body run.is_raw.size run.is_raw.range) in
      let first = count-cons t k (replicate (length (longs_of raw.body)) 0) in
      let none = count-lambda t (length (longs_of raw.body)) in
      let same = move-outside b m t run.move in
      let more = run.hold.one_more t in
      omega arith;
}

run-count : (a b m : Core) (s k p t : ℕ) (raw : RawRecord) → IsOpenRun a b m s k p raw → count_by (names t) (k ∷ pointers (raw_kind raw.body) (m.chunks p).words) ≡ one t k
run-count a b m s k p t raw run =
    let words = ap (λ (x : Chunk). count_by (names t) (k ∷ pointers (raw_kind raw.body) x.words)) run.chunk in
    let lambdas = ap (λ ws. count_by (names t) (k ∷ ws)) (unresolved-pointers raw.body run.is_raw.size run.is_raw.range) in
    let first = count-cons t k (replicate (length (longs_of raw.body)) 0) in
    let none = count-lambda t (length (longs_of raw.body)) in
    omega arith

pub run-within : (a b m d : Core) (s k p : ℕ) (raw : RawRecord) → IsOpenRun a b m s k p raw → d ≡ with_entry m s (after m s k p raw) → IsWithin s a d
run-within a b m d s k p raw run is = subst (λ (x : Core). IsWithin s a x) (sym is) (record {
  same_outside = λ t.
      let all = opening-outside m s p (after m s k p raw) t run.core_m (run-opening a b m s k p raw run) in
      let count = run-count a b m s k p t raw run in
      let same = move-outside b m t run.move in
      let more = run.hold.one_more t in
      omega arith;
  live = λ t on.
      let first = run.hold.live t on in (
        at-entry m.entries s (after m s k p raw) (λ q e. is_used (b.entries q).state ≡ true → is_used e.state ≡ true) (λ on. refl) (λ q away on. ap (λ (f : ℕ → Entry). is_used (f q).state) run.entries ∙ on) t first.0,
        step-names m s (after m s k p raw) (opening-step m s p (after m s k p raw) run.core_m (run-opening a b m s k p raw run)) t ∙ ap (λ (f : ℕ → Entry). (f t).name) run.entries ∙ first.1,
      );
  about = About-trans s a b (with_entry m s (after m s k p raw)) (ref-about s a b run.hold.step) (About-trans s b m (with_entry m s (after m s k p raw)) (move-about s b m run.move run.entries) (entry-about m s (after m s k p raw)));
  grew = λ n e. run.hold.grew n (ap (λ f. f n) (sym run.move.find) ∙ e);
  changes = λ n.
      entry-changes m s (after m s k p raw) refl n ∙ ap (λ (f : ℕ → Entry). change_by f (m.find n)) run.entries ∙ ap (λ f. change_by b.entries (f n)) run.move.find ∙ run.hold.changes n;
  others = Others-trans s a b (with_entry m s (after m s k p raw)) (entries-others s a b run.hold.others)
      (Others-trans s b m (with_entry m s (after m s k p raw)) (entries-others s b m (same-entries b m run.entries)) (entry-others m (with_entry m s (after m s k p raw)) s (after m s k p raw) refl));
  marks = λ n.
      entry-marks m s (after m s k p raw) refl n ∙ ap (λ (f : ℕ → Entry). marked_by f (m.find n)) run.entries ∙ ap (λ f. marked_by b.entries (f n)) run.move.find ∙ run.hold.marks n;
  tight = λ t. open-tight b (with_entry m s (after m s k p raw)) s p (record { owner = s; words = unresolved raw.body }) (after m s k p raw) (ref-tight a b run.hold.step t)
      (run.hold.step.leaves s run.leaf) refl refl run.chunks (ap (λ (f : ℕ → Entry). put f s (after m s k p raw)) run.entries);
})

-- the entry is opened, and of it nothing else changes but its references
pub run-opened : (a b m d : Core) (s k p : ℕ) (raw : RawRecord) → IsOpenRun a b m s k p raw → d ≡ with_entry m s (after m s k p raw) → IsOpened s p raw a d
run-opened a b m d s k p raw run is = subst (λ (x : Core). IsOpened s p raw a x) (sym is) (record {
  class = k;
  used = at-entry m.entries s (after m s k p raw) (λ q e. is_used (b.entries q).state ≡ true → is_used e.state ≡ true) (λ on. refl) (λ q away on. ap (λ (f : ℕ → Entry). is_used (f q).state) run.entries ∙ on) k run.class_used;
  named = step-names m s (after m s k p raw) (opening-step m s p (after m s k p raw) run.core_m (run-opening a b m s k p raw run)) k ∙ ap (λ (f : ℕ → Entry). (f k).name) run.entries ∙ run.class_name;
  entry =
      let here : put m.entries s (after m s k p raw) s ≡ after m s k p raw = put-here m.entries s (after m s k p raw) in
      let was : m.entries s ≡ with_refs (a.entries s) (m.entries s).refs = ap (λ (f : ℕ → Entry). f s) run.entries ∙ run.hold.others.same s run.used ∙ ap (λ (f : ℕ → Entry). with_refs (a.entries s) (f s).refs) (sym run.entries) in
      here ∙ ap (λ (e : Entry). opened e p k (raw_kind raw.body) (raw_len raw.body)) was
      ∙ ap (λ (e : Entry). with_refs (opened (a.entries s) p k (raw_kind raw.body) (raw_len raw.body)) e.refs) (sym here);
})

pub run-keeps : (a b m d : Core) (s k p : ℕ) (raw : RawRecord) (disk : Disk) → IsOpenRun a b m s k p raw → d ≡ with_entry m s (after m s k p raw) → IsBacked a disk → disk (a.entries s).name ≡ Some (object_in raw) → Keeps disk a d
run-keeps a b m d s k p raw disk run is backed there = subst (λ (x : Core). Keeps disk a x) (sym is)
    (Keeps-trans disk a b (with_entry m s (after m s k p raw)) first (Keeps-trans disk b m (with_entry m s (after m s k p raw)) second
    (opening-keeps m disk s p (after m s k p raw) (object_in raw) run.core_m second.backed opening refl there' (opening-object m disk s p (after m s k p raw) (object_in raw) run.core_m opening there' class bodies))))
  where
    first : Keeps disk a b
    first = run.hold.stays disk backed

    second : Keeps disk b m
    second = move-stays b m run.core_b run.move disk first.backed

    opening : IsOpening m s p (after m s k p raw)
    opening = run-opening a b m s k p raw run

    there' : disk (m.entries s).name ≡ Some (object_in raw)
    there' = ap (λ (f : ℕ → Entry). disk (f s).name) run.entries ∙ ap disk (run.hold.live s run.used).1 ∙ there

    class : (m.entries k).name ≡ raw.class
    class = ap (λ (f : ℕ → Entry). (f k).name) run.entries ∙ run.class_name

    bodies : (entries : ℕ → Entry) → body_in entries (fields_of (object_in raw).body) (m.chunks p).words (raw_kind raw.body) (raw_len raw.body) ≡ (object_in raw).body
    bodies entries = ap (λ (x : Chunk). body_in entries (fields_of (object_in raw).body) x.words (raw_kind raw.body) (raw_len raw.body)) run.chunk ∙ unresolved-body entries raw.body run.is_raw.size run.is_raw.range

pub run-fields : (a b m d : Core) (s k p : ℕ) (raw : RawRecord) → IsOpenRun a b m s k p raw → d ≡ with_entry m s (after m s k p raw) → pointers (raw_kind raw.body) (d.chunks p).words ≡ replicate (length (longs_of raw.body)) 0
run-fields a b m d s k p raw run is =
    ap (λ (x : Core). pointers (raw_kind raw.body) (x.chunks p).words) is ∙ ap (λ (x : Chunk). pointers (raw_kind raw.body) x.words) run.chunk ∙ unresolved-pointers raw.body run.is_raw.size run.is_raw.range

pub run-body : (a b m d : Core) (s k p : ℕ) (raw : RawRecord) → IsOpenRun a b m s k p raw → d ≡ with_entry m s (after m s k p raw) → HasBody d s p raw.body
run-body a b m d s k p raw run is =
    let kind_ : (d.entries s).kind ≡ raw_kind raw.body = ap (λ (x : Core). (x.entries s).kind) is ∙ ap (λ (e : Entry). e.kind) (put-here m.entries s (after m s k p raw)) in
    record {
      place = ap (λ (x : Core). place_of (x.entries s).state) is ∙ ap (λ (e : Entry). place_of e.state) (put-here m.entries s (after m s k p raw));
      same_kind = kind_;
      same_len = ap (λ (x : Core). (x.entries s).len) is ∙ ap (λ (e : Entry). e.len) (put-here m.entries s (after m s k p raw));
      same_fields = ap (λ (j : Kind). length (pointers j (d.chunks p).words)) kind_ ∙ ap length (run-fields a b m d s k p raw run is) ∙ length-replicate (length (longs_of raw.body)) 0;
    }
