-- What a word names was used: a flag of its entry says so, and nothing else differs.
use Rattle.std.proofs.Common.{◌≡◌, ℕ, cond, eqb, [], Option, Some, None, refl, sym, ◌∙◌, ap, subst, inl, arith}
use Rattle.std.proofs.Math.Path.{fun_ext}
use Rattle.long_names.specs.declared.value.Value.{Value}
use Rattle.loom_host.specs.declared.outside.Host.{Ghosts}
use Rattle.loom_host.specs.declared.outside.Role.TheVariants.{Work}
use Rattle.loom_host.specs.Work.{IsWorkRead}
use Rattle.object_table.specs.Entries.{place_of, sum_below}
use Rattle.disk_objects.specs.Function.{disk_of}
use Rattle.core_segment.specs.Chunks.{Chunk}
use Rattle.core_segment.specs.Segment.{size_of}
use Rattle.core_view.specs.Core.{Core}
use Rattle.core_view.specs.Counts.{outside}
use Rattle.core_view.specs.Held.{held}
use Rattle.core_view.specs.Kept.{Stays}
use Rattle.core_view.specs.Room.{room_by, room_for}
use Rattle.core_view.specs.Words.{meant}
use Rattle.core_view.proofs.Core.{meant-names}
use Rattle.core_view.proofs.Sums.{sum-same}
use Rattle.leaf_lambda.specs.declared.parts.Parts.{Parts}
use Rattle.leaf_lambda.specs.Whole.{IsWhole}
use Rattle.loom_memory.proofs.OverLaws.{over_parts}
use Rattle.leaf_lambda.specs.Parts.{core_of, IsParts}
use Rattle.method_cache.specs.Found.{found}
use Rattle.purger.specs.Touches.{IsTouching}
use Rattle.purger.proofs.TouchLaws.{touch-state, touch-name, touch-purged, touch-marks, touch-here, touch-fresh, touch-counts}
use Rattle.loom_memory.specs.declared.memory.LoomMemory.{LoomMemory}
use Rattle.loom_memory.specs.Memory.{loom_told, name_if, pin_in, told_of, word_in, IsSound}
use Rattle.loom_memory.specs.Gentle.{IsCalm}
use Rattle.loom_memory.specs.Gentle.{Remains, IsSteady}
use Rattle.loom_memory.specs.Residents.{words_resident}
use Rattle.loom_memory.proofs.CacheLaws.{cache-same}
use Rattle.loom_memory.proofs.CalmLaws.{purged-calm, calm-kept, over-is}
use Rattle.loom_memory.proofs.ExactLaws.{exact-counts}
use Rattle.loom_memory.proofs.GentleLaws.{fetched-same, read-refl}
use Rattle.loom_memory.proofs.RegLaws.{heap-same}
use Rattle.loom_memory.proofs.DeadLaws.{thin-told}

calm-of : {H : Type 0} {host : Ghosts H} (m : LoomMemory H host) (q : Parts) → IsTouching (core_of m.pager.levels.parts) (core_of q) → ((t : ℕ) → outside (core_of q) t ≡ outside (core_of m.pager.levels.parts) t) → IsCalm m.pager.pinned (core_of m.pager.levels.parts) (core_of q)
calm-of {H} {host} m q step out = purged-calm m.pager.pinned (core_of m.pager.levels.parts) (core_of q) (touch-purged m.pager.pinned.a m.pager.pinned.b m.pager.pinned.d (core_of m.pager.levels.parts) (core_of q) step out) (inl (touch-marks (core_of m.pager.levels.parts) (core_of q) step)) (touch-here (core_of m.pager.levels.parts) (core_of q) step)

pub use-means : (x y : Core) (w : ℕ) → IsTouching x y → meant y.entries [] 0 w ≡ meant x.entries [] 0 w
use-means x y w step = meant-names x.entries y.entries [] 0 w (λ is. touch-name x y w step)

pub use-told : {H : Type 0} (host : Ghosts H) (m : LoomMemory H host) (q : Parts) → IsSound host m → IsParts q → Stays (core_of m.pager.levels.parts) (core_of q) → IsTouching (core_of m.pager.levels.parts) (core_of q)
    → told_of host m.pager.levels.disk.host.now m.pager.levels.disk.rest (core_of q) m.regs m.pager.pinned m.ledger ≡ told_of host m.pager.levels.disk.host.now m.pager.levels.disk.rest (core_of m.pager.levels.parts) m.regs m.pager.pinned m.ledger
use-told {H} host m q sound parts stays step =
    let x = core_of m.pager.levels.parts in
    let y = core_of q in
    let disk = disk_of host m.pager.levels.disk.host.now m.pager.levels.disk.rest in
    let heap = heap-same (host.tells Work) (held x disk) (held y disk) m.ledger.next (λ told. (stays disk (sound.over.backed told)).held) in
    let regs' : ◌≡◌ {A = ℕ → Value} (λ r. meant y.entries [] 0 (word_in m.regs r)) (λ r. meant x.entries [] 0 (word_in m.regs r)) = fun_ext (λ r. use-means x y (word_in m.regs r) step) in
    let slots' : ◌≡◌ {A = ℕ → Option ℕ} (λ i. name_if y.entries (pin_in m.pager.pinned i)) (λ i. name_if x.entries (pin_in m.pager.pinned i)) = fun_ext (λ i. ap (λ (n : ℕ). cond (eqb (pin_in m.pager.pinned i) 0) None (Some n)) (touch-name x y (pin_in m.pager.pinned i) step)) in
    let cache' = cache-same x y (found m.ledger.rows) m.ledger.mark m.ledger.begun m.pager.levels.whole.parts.core parts.core (touch-marks x y step) sound.kept.cached in
    λ i. record (told_of host m.pager.levels.disk.host.now m.pager.levels.disk.rest x m.regs m.pager.pinned m.ledger) { heap = heap i; regs = regs' i; slots = slots' i; cache = cache' i }

pub use-sound : {H : Type 0} (host : Ghosts H) (m : LoomMemory H host) (q : Parts) (whole : IsWhole q) → IsSound host m → IsParts q → Stays (core_of m.pager.levels.parts) (core_of q) → IsTouching (core_of m.pager.levels.parts) (core_of q) → ((t : ℕ) → outside (core_of q) t ≡ outside (core_of m.pager.levels.parts) t) → q.segment ≡ m.pager.levels.parts.segment
    → IsSound host (over_parts m q whole)
unfolding loom_told
use-sound {H} host m q whole sound parts stays step out segment = record {
  kept = calm-kept m.pager.levels.parts q m.regs m.pager.pinned m.ledger m.pager.levels.whole sound.kept (calm-of m q step out) parts (ap size_of segment);
  over = over-is host m.pager.levels.disk.host.now m.pager.levels.disk.host.now m.pager.levels.disk.rest m.pager.levels.disk.rest (core_of m.pager.levels.parts) (core_of q) m.ledger sound.over refl sound.over.stands
      (λ told. let keeps = stays (disk_of host m.pager.levels.disk.host.now m.pager.levels.disk.rest) (sound.over.backed told) in record { backed = keeps.backed; held = keeps.held })
      (λ told. let same = touch-fresh (core_of m.pager.levels.parts) (core_of q) step in omega arith);
  exact = exact-counts host m.pager.levels.parts q m.pager.levels.disk.host.now m.pager.levels.disk.rest m.ledger.next sound.exact parts stays (touch-counts (core_of m.pager.levels.parts) (core_of q) step);
  soon = sound.soon;
  thin = thin-told host m (over_parts m q whole) sound.thin (λ on. on) (use-told host m q sound parts stays step);
}

use-remains : (x y : Core) → IsTouching x y → Remains x y
use-remains x y step = λ s p at. record { at = p; place = ap place_of (touch-state x y s step) ∙ at; name = touch-name x y s step }

use-none : (x y : Core) → IsTouching x y → Remains y x
use-none x y step = λ s p at. record { at = p; place = ap place_of (sym (touch-state x y s step)) ∙ at; name = sym (touch-name x y s step) }

use-words : (x y : Core) → IsTouching x y → sum_below y.bound (room_for y) ≡ sum_below x.bound (room_for x)
use-words x y step =
    ap (λ (n : ℕ). sum_below n (room_for y)) step.bound
    ∙ sum-same x.bound (room_for x) (room_for y) (λ q low. ap (λ (f : ℕ → Chunk). room_by f (place_of (y.entries q).state)) step.chunks ∙ ap (λ (o : Option ℕ). room_by x.chunks o) (ap place_of (touch-state x y q step)))

pub use-steady : {H : Type 0} (host : Ghosts H) (m n : LoomMemory H host) → IsTouching (core_of m.pager.levels.parts) (core_of n.pager.levels.parts) → (loom_told host n).cache ≡ (loom_told host m).cache → n.pager.levels.disk.host.now ≡ m.pager.levels.disk.host.now → n.pager.levels.disk.rest ≡ m.pager.levels.disk.rest → n.ledger ≡ m.ledger → IsSteady host m n
unfolding words_resident
use-steady {H} host m n step cache now rest ledger = record {
  gentle = record { remains = use-remains (core_of m.pager.levels.parts) (core_of n.pager.levels.parts) step; read = subst (λ (x : H). IsWorkRead host m.pager.levels.disk.host.now x) (sym now) (read-refl host m.pager.levels.disk.host.now); cache = cache };
  words = use-words (core_of m.pager.levels.parts) (core_of n.pager.levels.parts) step;
  idle = record { host = now; rest = rest; fetches = fetched-same m n ledger };
  none = use-none (core_of m.pager.levels.parts) (core_of n.pager.levels.parts) step;
}
