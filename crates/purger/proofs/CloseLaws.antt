-- A core that is empty, and what the disk has then.
use Rattle.std.proofs.Common.{zero, suc, ◌≡◌, ℕ, ◌≤◌, nat_lt, Bool, true, false, List, [], ◌∷◌, Option, Some, None, count_by, refl, sym, ◌∙◌, ap, subst, arith}
use Rattle.std.proofs.Math.Path.{fun_ext}
use Rattle.std.proofs.lemmas.Grind.{common_steps}
use Rattle.long_names.specs.Heap.{Heap, Has, count_of}
use Rattle.long_names.specs.Kept.{kept, no_roots}
use Rattle.loom_host.specs.declared.outside.DiskFault.{DiskFault}
use Rattle.loom_host.specs.declared.outside.DiskFault.TheVariants as fault
use Rattle.loom_host.specs.declared.outside.Host.{Ghosts}
use Rattle.loom_host.specs.declared.outside.Role.TheVariants.{Work}
use Rattle.loom_host.specs.Work.{work_of}
use Rattle.work_space.specs.Blocks.{times}
use Rattle.object_table.specs.Entries.{place_of}
use Rattle.disk_objects.specs.declared.rest.DiskRest.{DiskRest}
use Rattle.core_segment.specs.Segment.{chunk_at}
use Rattle.core_view.specs.Core.{Core}
use Rattle.core_view.specs.Counts.{names, holders_in, holders, tally, uses, outside}
use Rattle.core_view.specs.Kept.{IsCore}
use Rattle.core_view.specs.Room.{IsBare}
use Rattle.core_view.proofs.Core.{placed-used}
use Rattle.leaf_lambda.specs.declared.parts.Parts.{Parts}
use Rattle.leaf_lambda.specs.Parts.{core_of}
use Rattle.core_view.specs.Levels.{Levels, heap_of, is_waiting}
use Rattle.core_view.specs.Counted.{one_if, IsSound}
use Rattle.core_view.specs.Dead.{outside_by, is_root, IsImage, NoneDead}
use Rattle.core_view.proofs.DeadLaws.{bounded, waiting-loose}
use Rattle.core_view.proofs.EndLaws.{drained-kept, image}
use Rattle.core_view.proofs.QueueLaws.{times-here}
use Rattle.delta_counts.specs.At.{IsReached, IsStoredIn}
use Rattle.purger.specs.Closing.{HasKept}
use Rattle.purger.specs.Draining.{IsDrainedOf}
use Rattle.purger.specs.declared.room.RoomFault.{RoomFault}
use Rattle.purger.specs.declared.room.RoomFault.TheVariants.{Short, Disk}
use Rattle.purger.specs.Purge.{IsReadFault, IsPurgeFault, OnShort}
use Rattle.purger.proofs.MarkLaws.{low-short}
use Rattle.purger.proofs.SoundLaws.{core-at}

-- ---- the core

no-body : (c : Core) (s p : ℕ) → IsCore c → IsBare 0 0 0 c → place_of (c.entries s).state ≡ Some p → ⊥
no-body c s p core bare at =
    let among = bare.pinned s p at in
    let is : s ≡ 0 = grind (arith, common_steps, among) in
    let both : true ≡ false = sym (core.short s (placed-used (c.entries s).state p at)) ∙ low-short s (omega arith) in
    cc

tally-none : (n : ℕ) (f : ℕ → List ℕ) (s : ℕ) → ((q : ℕ) → f q ≡ []) → tally n f s ≡ 0
tally-none zero f s none = refl
tally-none (suc n) f s none = let rest = tally-none n f s none in let last = ap (λ xs. count_by (names s) xs) (none n) in omega arith

no-uses : (c : Core) (t : ℕ) → ((s : ℕ) → place_of (c.entries s).state ≡ None) → uses c t ≡ 0
unfolding uses holders
no-uses c t bare = tally-none c.bound (holders c) t (λ q. ap (λ o. holders_in c.chunks (c.entries q) o) (bare q))

no-refs : (c : Core) (s : ℕ) → outside c s ≡ 0 → uses c s ≡ 0 → 1 ≤ (c.entries s).refs → ⊥
unfolding outside
no-refs c s none unused some = omega arith

-- nothing is in use where nothing has a body and nothing is named from outside
pub no-entries : (c : Core) → IsCore c → IsBare 0 0 0 c → ((s : ℕ) → outside c s ≡ 0) → (q : ℕ) → c.find q ≡ None
no-entries c core bare loose q = go (c.find q) refl
  where
    leaf : (s : ℕ) (o : Option ℕ) → place_of (c.entries s).state ≡ o → place_of (c.entries s).state ≡ None
    leaf s None e = e
    leaf s (Some p) e = absurd (no-body c s p core bare e)

    go : (o : Option ℕ) → c.find q ≡ o → c.find q ≡ None
    go None e = e
    go (Some s) e = absurd (no-refs c s (loose s) (no-uses c s (λ k. leaf k (place_of (c.entries k).state) refl)) (bare.named s (core.used q s e) (leaf s (place_of (c.entries s).state) refl)))

-- ---- the disk

no-roots : (c : Core) (o : Option ℕ) → ((s : ℕ) → outside c s ≡ 0) → outside_by c o ≡ 0
no-roots c None loose = refl
no-roots c (Some s) loose = loose s

none-rooted : (t : Levels) → ((s : ℕ) → outside t.core s ≡ 0) → is_root t ≡ no_roots
none-rooted t loose = fun_ext (λ q. ap (λ n. nat_lt 0 n) (no-roots t.core (t.core.find q) loose))

none-waits : (t u : Levels) (q : ℕ) → IsSound t [] → heap_of t ≡ heap_of u → ((s : ℕ) → outside u.core s ≡ 0) → NoneDead u → is_waiting t q ≡ false
none-waits t u q x same loose none = go (is_waiting t q) refl
  where
    go : (b : Bool) → is_waiting t q ≡ b → is_waiting t q ≡ false
    go false e = e
    go true e =
        let dead = (waiting-loose t q x e).1.dead in
        absurd (none q (record {
          held = subst (λ (h : Heap). Has h q) same dead.held;
          unknown = dead.unknown;
          uncounted = ap (λ (h : Heap). count_of h q) (sym same) ∙ dead.uncounted;
          free = no-roots u.core (u.core.find q) loose;
        }))

none-pending : (t : Levels) → IsSound t [] → ((q : ℕ) → is_waiting t q ≡ false) → t.pending ≡ []
none-pending t x none = go t.pending refl
  where
    go : (xs : List ℕ) → t.pending ≡ xs → t.pending ≡ []
    go [] e = e
    go (n ∷ rest) e =
        let a = x.counted.waiting n in
        let b = ap (λ ys. times n ys) e in
        let c = times-here n rest in
        let d = ap one_if (none n) in
        absurd (omega arith)

pub kept-left : {H : Type 0} (host : Ghosts H) (a q r : Parts) (mid now : H) (between rest : DiskRest) (t : Levels) → IsSound t [] → (d : IsDrainedOf host a q mid between t) → IsReached host (chunk_at r.segment) r.names now rest d.thinned.levels []
    → ((s : ℕ) → outside (core_of q) s ≡ 0) → ((n : ℕ) → (core_of r).find n ≡ None) → HasKept host now rest (heap_of t)
kept-left host a q r mid now between rest t x d w loose empty = record {
  stored = w.levels.stored;
  at = subst (λ (xs : List ℕ). IsStoredIn rest (work_of host now) w.levels.stored xs) (none-pending w.levels w.sound (λ n. none-waits w.levels u n w.sound w.heap out d.none)) w.at.disk;
  image = subst (λ (h : Heap). IsImage w.levels.stored h) same (image w.levels w.sound (λ n. ap (λ (c : Core). c.find n) (sym (core-at host r now rest w.levels w.at)) ∙ empty n));
}
  where
    u : Levels
    u = d.thinned.levels

    out : (s : ℕ) → outside u.core s ≡ 0
    out s = ap (λ (c : Core). outside c s) (sym (core-at host q mid between u d.thinned.at)) ∙ loose s

    same : heap_of w.levels ≡ kept (heap_of t) no_roots
    same = w.heap ∙ drained-kept (heap_of t) u (bounded (heap_of t) x.heap) d.thinned.thinner d.thinned.sound d.none ∙ ap (kept (heap_of t)) (none-rooted u out)

-- a fault of a read is one of an eviction
pub read-purge : {H : Type 0} (host : Ghosts H) (old new : H) (f : DiskFault) → IsReadFault (host.tells Work) (host.faults old Work) (host.faults new Work) f → IsPurgeFault host old new f
read-purge {H} host old new (fault.Work count) x = x
read-purge {H} host old new (fault.Full held room) x = absurd x
read-purge {H} host old new (fault.Damaged at about) x = x

pub when-short : (f : RoomFault) (P : Type 0) → f ≡ Short → OnShort f P → P
when-short Short P e x = x
when-short (Disk d) P e x = absurd (let both : Disk d ≡ Short = e in cc)
