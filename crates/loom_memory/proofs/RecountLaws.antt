-- Changes of counts differ in entries, and nothing else: what is told stays, and so does what is kept.
use Rattle.std.proofs.Common.{◌≡◌, ℕ, ℤ, Option, Some, None, List, [], refl, sym, ◌∙◌, ap, subst, arith}
use Rattle.loom_host.specs.declared.outside.Host.{Ghosts}
use Rattle.object_table.specs.declared.entry.Entry.{Entry}
use Rattle.object_table.specs.Entries.{is_used, place_of, sum_below}
use Rattle.core_segment.specs.declared.segment.Segment.{Segment}
use Rattle.core_segment.specs.Chunks.{Chunk}
use Rattle.core_segment.specs.Segment.{chunk_at, size_of}
use Rattle.disk_objects.specs.declared.rest.DiskRest.{DiskRest}
use Rattle.disk_objects.specs.Function.{disk_of}
use Rattle.resident_table.specs.Resident.{short_of, held_of, room_of}
use Rattle.core_view.specs.Core.{Core}
use Rattle.core_view.specs.Counts.{outside, marked_by}
use Rattle.core_view.specs.Kept.{IsCore, IsTight, Stays}
use Rattle.core_view.specs.Purge.{fresh_by, fresh_of}
use Rattle.core_view.specs.Steps.{IsAt}
use Rattle.std.specs.List.{slice_get}
use Rattle.long_names.specs.declared.object.Kind.{Kind}
use Rattle.core_view.specs.Words.{meant, pointers}
use Rattle.core_view.proofs.Core.{meant-names}
use Rattle.core_view.proofs.Steps.{Stays-refl}
use Rattle.core_view.proofs.Sums.{sum-same}
use Rattle.core_view.proofs.Tight.{owners-tight}
use Rattle.leaf_lambda.specs.declared.parts.Parts.{Parts}
use Rattle.leaf_lambda.specs.Parts.{core_of, IsParts}
use Rattle.core_view.specs.LevelSteps.{changed_at, with_change}
use Rattle.delta_counts.specs.Parts.{core_with, IsCounting}
use Rattle.purger.specs.declared.room.Pinned.{Pinned}
use Rattle.purger.specs.Marks.{AreHere, KeepsMarks}
use Rattle.purger.proofs.MarkLaws.{Marks-same}
use Rattle.purger.proofs.SoundLaws.{core-is, core-over}
use Rattle.leaf_lambda.specs.Whole.{IsWhole}
use Rattle.loom_memory.specs.declared.ledger.Ledger.{Ledger}
use Rattle.loom_memory.specs.Memory.{told_of, IsKept, IsOver}
use Rattle.loom_memory.specs.Gentle.{IsCalm}
use Rattle.loom_memory.specs.Stores.{IsRecount}
use Rattle.loom_memory.proofs.RegLaws.{kept-rooted}
use Rattle.loom_memory.proofs.CalmLaws.{calm-kept, over-is}
use Rattle.loom_memory.proofs.LastLaws.{told-still}

-- ---- the core

pub Recount-refl : (c : Core) → IsRecount c c
Recount-refl c = record { find = refl; bound = refl; chunks = refl; entries = λ s. refl; stays = Stays-refl c; outside = λ t. refl }

-- what doesn't speak of changes is the same
pub recount-same : {A : Type 0} (c d : Core) (s : ℕ) (f : Entry → A) → ((e : Entry) (x : ℤ) → f (with_change e x) ≡ f e) → IsRecount c d → f (d.entries s) ≡ f (c.entries s)
recount-same {A} c d s f blind r = ap f (r.entries s) ∙ blind (c.entries s) (d.entries s).change

pub recount-place : (c d : Core) (s : ℕ) → IsRecount c d → place_of (d.entries s).state ≡ place_of (c.entries s).state
recount-place c d s r = recount-same c d s (λ e. place_of e.state) (λ e x. refl) r

pub recount-used : (c d : Core) (s : ℕ) → IsRecount c d → is_used (d.entries s).state ≡ is_used (c.entries s).state
recount-used c d s r = recount-same c d s (λ e. is_used e.state) (λ e x. refl) r

pub recount-name : (c d : Core) (s : ℕ) → IsRecount c d → (d.entries s).name ≡ (c.entries s).name
recount-name c d s r = recount-same c d s (λ e. e.name) (λ e x. refl) r

pub recount-at : (c d : Core) (s p i w : ℕ) → IsRecount c d → IsAt c s p i w → IsAt d s p i w
recount-at c d s p i w r at = record {
  place = recount-place c d s r ∙ at.place;
  word = ap (λ (k : Kind). slice_get (pointers k (d.chunks p).words) i) (recount-same c d s (λ e. e.kind) (λ e x. refl) r) ∙ ap (λ (g : ℕ → Chunk). slice_get (pointers (c.entries s).kind (g p).words) i) r.chunks ∙ at.word;
}

pub recount-mark : (c d : Core) (s : ℕ) → IsRecount c d → (d.entries s).flags.marked ≡ (c.entries s).flags.marked
recount-mark c d s r = recount-same c d s (λ e. e.flags.marked) (λ e x. refl) r

-- and words mean the same
pub recount-meant : (c d : Core) (w : ℕ) → IsRecount c d → meant d.entries [] 0 w ≡ meant c.entries [] 0 w
recount-meant c d w r = meant-names c.entries d.entries [] 0 w (λ is. recount-name c d w r)

pub recount-marks : (c d : Core) → IsRecount c d → KeepsMarks c d
recount-marks c d r = record { marks = λ n. ap (λ (f : ℕ → Option ℕ). marked_by d.entries (f n)) r.find ∙ go (c.find n); found = λ n on. ap (λ (f : ℕ → Option ℕ). f n) r.find }
  where
    go : (o : Option ℕ) → marked_by d.entries o ≡ marked_by c.entries o
    go None = refl
    go (Some s) = recount-same c d s (λ e. e.flags.marked) (λ e x. refl) r

recount-here : (c d : Core) → IsRecount c d → AreHere c → AreHere d
recount-here c d r here s on marked =
    let body = here s (sym (recount-used c d s r) ∙ on) (sym (recount-same c d s (λ e. e.flags.marked) (λ e x. refl) r) ∙ marked) in
    (body.0, recount-place c d s r ∙ body.1)

pub recount-calm : (pins : Pinned) (c d : Core) → IsRecount c d → IsCalm pins c d
recount-calm pins c d r = record {
  marks = Marks-same c d (recount-marks c d r);
  here = recount-here c d r;
  bound = r.bound;
  same_outside = r.outside;
  live = λ t some. recount-name c d t r;
  pinned = λ t p among at. record { at = p; place = recount-place c d t r ∙ at; name = recount-name c d t r };
}

pub recount-tight : (c d : Core) → IsRecount c d → IsTight c → IsTight d
recount-tight c d r = owners-tight c d (λ p. ap (λ (f : ℕ → Chunk). (f p).owner) r.chunks) (λ q. recount-place c d q r)

recount-fresh : (c d : Core) → IsRecount c d → fresh_of d ≡ fresh_of c
unfolding fresh_of
recount-fresh c d r = ap (λ (n : ℕ). sum_below n (λ q. fresh_by (d.entries q))) r.bound ∙ sum-same c.bound (λ q. fresh_by (c.entries q)) (λ q. fresh_by (d.entries q)) (λ q low. recount-same c d q fresh_by (λ e x. refl) r)

-- ---- a memory

pub recount-kept : (p q : Parts) (regs : List ℕ) (pins : Pinned) (k : Ledger) → IsWhole p → IsKept p regs pins k → IsParts q → IsRecount (core_of p) (core_of q) → q.segment ≡ p.segment → IsKept q regs pins k
recount-kept p q regs pins k whole kept parts r same = calm-kept p q regs pins k whole kept (recount-calm pins (core_of p) (core_of q) r) parts (ap size_of same)

pub recount-over : {H : Type 0} (host : Ghosts H) (now : H) (rest : DiskRest) (c d : Core) (k : Ledger) → IsOver host now rest c k → IsRecount c d → IsOver host now rest d k
recount-over {H} host now rest c d k over r = over-is host now now rest rest c d k over refl over.stands
    (λ told. let keeps = r.stays (disk_of host now rest) (over.backed told) in record { backed = keeps.backed; held = keeps.held })
    (λ told. let same = recount-fresh c d r in omega (arith, same))

pub recount-told : {H : Type 0} (host : Ghosts H) (now : H) (rest : DiskRest) (p q : Parts) (regs : List ℕ) (pins : Pinned) (k : Ledger) → IsWhole p → IsKept p regs pins k → IsOver host now rest (core_of p) k → IsParts q → IsRecount (core_of p) (core_of q)
    → told_of host now rest (core_of q) regs pins k ≡ told_of host now rest (core_of p) regs pins k
recount-told {H} host now rest p q regs pins k whole kept over parts r =
    told-still host now rest (core_of p) (core_of q) regs pins k (kept-rooted p regs pins k whole kept) parts.core kept.cached (recount-calm pins (core_of p) (core_of q) r) (recount-marks (core_of p) (core_of q) r)
    (λ told. (r.stays (disk_of host now rest) (over.backed told)).held)

-- ---- the call that changes them

pub counting-parts : (p q : Parts) → IsParts p → q.segment ≡ p.segment → IsCounting p.names q.names → IsParts q
counting-parts p q parts same g = record {
  core = subst (λ (c : Core). IsCore c) (core-over p q same) (g.core (chunk_at p.segment) (subst (λ (c : Core). IsCore c) (sym (core-is p)) parts.core));
  room = let a = ap held_of g.resident in let b = ap room_of g.resident in let d = g.free in let e = parts.room in omega (arith, a, b, d, e);
}

counting-stays : (p q : Parts) → IsParts p → q.segment ≡ p.segment → IsCounting p.names q.names → Stays (core_of p) (core_of q)
counting-stays p q parts same g = subst (λ (c : Core). Stays c (core_of q)) (core-is p)
    (subst (λ (c : Core). Stays (core_with (chunk_at p.segment) p.names) c) (core-over p q same) (g.stays (chunk_at p.segment) (subst (λ (c : Core). IsCore c) (sym (core-is p)) parts.core)))

counting-outside : (p q : Parts) → IsParts p → q.segment ≡ p.segment → IsCounting p.names q.names → (t : ℕ) → outside (core_of q) t ≡ outside (core_of p) t
counting-outside p q parts same g t = ap (λ (c : Core). outside c t) (sym (core-over p q same)) ∙ g.outside (chunk_at p.segment) (subst (λ (c : Core). IsCore c) (sym (core-is p)) parts.core) t ∙ ap (λ (c : Core). outside c t) (core-is p)

pub counting-recount : (p q : Parts) → IsParts p → q.segment ≡ p.segment → IsCounting p.names q.names → IsRecount (core_of p) (core_of q)
unfolding core_of
counting-recount p q parts same g = record {
  find = ap short_of g.resident;
  bound = g.bound;
  chunks = ap (λ (s : Segment). chunk_at s) same;
  entries = g.entries;
  stays = counting-stays p q parts same g;
  outside = counting-outside p q parts same g;
}

pub counting-changed : (p q : Parts) (s : ℕ) (x : ℤ) → q.segment ≡ p.segment → core_with (chunk_at p.segment) q.names ≡ changed_at (core_with (chunk_at p.segment) p.names) s x → core_of q ≡ changed_at (core_of p) s x
counting-changed p q s x same e = sym (core-over p q same) ∙ e ∙ ap (λ (c : Core). changed_at c s x) (core-is p)
