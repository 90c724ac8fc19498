-- What a call on the pager leaves of a memory.
use Rattle.std.proofs.Common.{◌≡◌, ℕ, IsTrue, Result, None, refl, sym, ap, subst, arith}
use Rattle.std.specs.Result.{IfErr}
use Rattle.loom_host.specs.declared.outside.Host.{Ghosts}
use Rattle.loom_host.specs.declared.outside.Role.TheVariants.{Work}
use Rattle.disk_objects.specs.declared.objects.DiskObjects.{DiskObjects}
use Rattle.disk_objects.specs.Function.{disk_of}
use Rattle.core_view.specs.Kept.{KeepsOver}
use Rattle.purger.specs.declared.pager.Pager.{Pager}
use Rattle.purger.specs.declared.room.Pinned.{Pinned}
use Rattle.purger.specs.declared.room.RoomFault.{RoomFault}
use Rattle.purger.specs.Purge.{IsShort, OnShort}
use Rattle.purger.specs.Pager.{core_in, IsReady, Moves, Preserves, Spares}
use Rattle.purger.proofs.MindLaws.{purged-came}
use Rattle.purger.proofs.PagerLaws.{are-here, moves-preserves, moves-spares, ready-after, sound-of}
use Rattle.purger.proofs.SoundLaws.{has-number, has-objects, has-over}
use Rattle.loom_memory.specs.declared.memory.LoomMemory.{LoomMemory}
use Rattle.loom_memory.specs.Gentle.{IsGentle, IsPeek, IsResting}
use Rattle.loom_memory.specs.Memory.{loom_outside, loom_told, told_of, IsKept, IsSound}
use Rattle.loom_memory.specs.Gentle.{IsCalm, IsQuiet}
use Rattle.loom_memory.specs.Own.{MindsCache}
use Rattle.loom_memory.specs.Gentle.{KeepsCache}
use Rattle.loom_memory.proofs.CalmLaws.{calm-kept, over-is, purged-calm, quiet-is, work-outside}
use Rattle.loom_memory.proofs.DeadLaws.{thin-quiet}
use Rattle.loom_memory.proofs.ExactLaws.{exact-has, exact-then}
use Rattle.loom_memory.proofs.GentleLaws.{fetched-same, purged-remains, read-refl, rest-refl}
use Rattle.loom_memory.proofs.MindLaws.{came-remains, marks-keep, minds-core}
use Rattle.loom_memory.proofs.OverLaws.{over_pager}
use Rattle.loom_memory.proofs.RegLaws.{kept-rooted}

-- what a pager asks for
pub pager-ready : {H : Type 0} (host : Ghosts H) (m : LoomMemory H host) → IsSound host m → IsReady m.pager
pager-ready {H} host m sound = record {
  sound = exact-has host m.pager.levels.parts m.pager.levels.disk.host.now m.pager.levels.disk.rest m.ledger.next sound.exact;
  counted = λ told. let all = sound.over.counted told in let most = sound.over.roomy in omega arith;
}

-- ---- objects leave

pub pager-calm : {H : Type 0} {host : Ghosts H} (a b : Pager H host) → Spares a b → IsCalm a.pinned (core_in a) (core_in b)
pager-calm {H} {host} a b x = purged-calm a.pinned (core_in a) (core_in b) x.purged x.marks (λ h. are-here (core_in b) b.levels.whole.marks)

keeps-core : {H : Type 0} (host : Ghosts H) (a b : Pager H host) → IsReady a → Preserves a b → IsTrue (host.tells Work)
    → KeepsOver (core_in a) (disk_of host a.levels.disk.host.now a.levels.disk.rest) (core_in b) (disk_of host b.levels.disk.host.now b.levels.disk.rest)
keeps-core {H} host a b ready k told = has-over host a.levels.parts b.levels.parts a.levels.disk.host.now b.levels.disk.host.now a.levels.disk.rest b.levels.disk.rest ready.sound told (sound-of a.levels b.levels k.keeps told)

pub pager-quiet : {H : Type 0} (host : Ghosts H) (m : LoomMemory H host) (p : Pager H host) → IsSound host m → Spares m.pager p → Preserves m.pager p → IsQuiet (loom_told host m) (loom_told host (over_pager m p))
unfolding loom_told
pager-quiet {H} host m p sound x k =
    let a = m.pager in
    subst (λ (q : Pinned). IsQuiet (told_of host a.levels.disk.host.now a.levels.disk.rest (core_in a) m.regs a.pinned m.ledger) (told_of host p.levels.disk.host.now p.levels.disk.rest (core_in p) m.regs q m.ledger)) (sym x.pinned)
    (quiet-is host a.levels.disk.host.now p.levels.disk.host.now a.levels.disk.rest p.levels.disk.rest (core_in a) (core_in p) m.regs a.pinned m.ledger
    (kept-rooted a.levels.parts m.regs a.pinned m.ledger a.levels.whole sound.kept) p.levels.whole.parts.core sound.kept.cached (pager-calm a p x) x.disk.work x.disk.limit (λ told. (keeps-core host a p (pager-ready host m sound) k told).held))

pub pager-sound : {H : Type 0} (host : Ghosts H) (m : LoomMemory H host) (p : Pager H host) → IsSound host m → Spares m.pager p → Preserves m.pager p → IsSound host (over_pager m p)
pager-sound {H} host m p sound x k =
    let a = m.pager in
    let ready = pager-ready host m sound in
    record {
      kept = subst (λ (q : Pinned). IsKept p.levels.parts m.regs q m.ledger) (sym x.pinned)
          (calm-kept a.levels.parts p.levels.parts m.regs a.pinned m.ledger a.levels.whole sound.kept (pager-calm a p x) p.levels.whole.parts x.size);
      over = over-is host a.levels.disk.host.now p.levels.disk.host.now a.levels.disk.rest p.levels.disk.rest (core_in a) (core_in p) m.ledger sound.over x.disk.limit
          (has-objects host p.levels.parts p.levels.disk.host.now p.levels.disk.rest (ready-after a p ready x k).sound) (keeps-core host a p ready k)
          (λ told. has-number host a.levels.parts p.levels.parts a.levels.disk.host.now p.levels.disk.host.now a.levels.disk.rest p.levels.disk.rest ready.sound told (sound-of a.levels p.levels k.keeps told));
      exact = exact-then host a.levels.parts p.levels.parts a.levels.disk.host.now p.levels.disk.host.now a.levels.disk.rest p.levels.disk.rest m.ledger.next sound.exact (sound-of a.levels p.levels k.keeps);
      soon = sound.soon;
      thin = thin-quiet host m (over_pager m p) sound.thin (λ on. on) (pager-quiet host m p sound x k);
    }

pub pager-minds : {H : Type 0} (host : Ghosts H) (m : LoomMemory H host) (p : Pager H host) → IsSound host m → Spares m.pager p → Preserves m.pager p → MindsCache host None m (over_pager m p) (λ k. ⊥)
pager-minds {H} host m p sound x k = minds-core host m (over_pager m p) sound (pager-sound host m p sound x k) refl k.minds

pub pager-outside : {H : Type 0} (host : Ghosts H) (m : LoomMemory H host) (p : Pager H host) → Spares m.pager p → loom_outside host (over_pager m p) ≡ loom_outside host m
unfolding loom_outside
pager-outside {H} host m p x = work-outside host m.pager.levels.disk.host.now p.levels.disk.host.now x.disk.work

-- where there is no room, the three that were pinned before are left
pub pinned-short : {T H : Type 0} {host : Ghosts H} (r : Result T RoomFault) (a b : Pager H host) (words entries : ℕ) → b.pinned ≡ a.pinned
    → IfErr r (λ f. OnShort f (IsShort b.levels.parts b.pinned.a b.pinned.b b.pinned.d words entries)) → IfErr r (λ f. OnShort f (IsShort b.levels.parts a.pinned.a a.pinned.b a.pinned.d words entries))
pinned-short {T} {H} {host} r a b words entries same x = subst (λ (q : Pinned). IfErr r (λ f. OnShort f (IsShort b.levels.parts q.a q.b q.d words entries))) same x

-- ---- nothing leaves

pub moves-rests : {H : Type 0} (host : Ghosts H) (m : LoomMemory H host) (p : Pager H host) → Moves m.pager p → IsResting m (over_pager m p)
moves-rests {H} host m p x = rest-refl m (over_pager m p) (purged-remains (core_in m.pager) (core_in p) x.purged) (ap (λ (d : DiskObjects H). d.host.now) x.disk) (ap (λ (d : DiskObjects H). d.rest) x.disk) refl

pub moves-cache : {H : Type 0} (host : Ghosts H) (m : LoomMemory H host) (p : Pager H host) → IsSound host m → Moves m.pager p → KeepsCache host m (over_pager m p)
moves-cache {H} host m p sound x = marks-keep host m (over_pager m p) sound p.levels.whole.parts.core x.marks refl

pub moves-quiet : {H : Type 0} (host : Ghosts H) (m : LoomMemory H host) (p : Pager H host) → IsSound host m → Moves m.pager p → IsQuiet (loom_told host m) (loom_told host (over_pager m p))
moves-quiet {H} host m p sound x = pager-quiet host m p sound (moves-spares m.pager p x) (moves-preserves m.pager p x)

pub moves-sound : {H : Type 0} (host : Ghosts H) (m : LoomMemory H host) (p : Pager H host) → IsSound host m → Moves m.pager p → IsSound host (over_pager m p)
moves-sound {H} host m p sound x = pager-sound host m p sound (moves-spares m.pager p x) (moves-preserves m.pager p x)

pub moves-minds : {H : Type 0} (host : Ghosts H) (m : LoomMemory H host) (p : Pager H host) → IsSound host m → Moves m.pager p → MindsCache host None m (over_pager m p) (λ k. ⊥)
moves-minds {H} host m p sound x = pager-minds host m p sound (moves-spares m.pager p x) (moves-preserves m.pager p x)

pub moves-gentle : {H : Type 0} (host : Ghosts H) (m : LoomMemory H host) (p : Pager H host) → IsSound host m → Moves m.pager p → IsGentle host m (over_pager m p)
moves-gentle {H} host m p sound x = record {
  remains = purged-remains (core_in m.pager) (core_in p) x.purged;
  read = rw x.disk (read-refl host m.pager.levels.disk.host.now);
  cache = moves-cache host m p sound x;
}

pub moves-peek : {H : Type 0} (host : Ghosts H) (m : LoomMemory H host) (p : Pager H host) → IsSound host m → Moves m.pager p → IsPeek host m (over_pager m p)
moves-peek {H} host m p sound x = record {
  gentle = moves-gentle host m p sound x;
  fetches = fetched-same m (over_pager m p) refl;
  none = came-remains (core_in m.pager) (core_in p) (purged-came (core_in m.pager) (core_in p) x.purged);
}

pub moves-outside : {H : Type 0} (host : Ghosts H) (m : LoomMemory H host) (p : Pager H host) → Moves m.pager p → loom_outside host (over_pager m p) ≡ loom_outside host m
moves-outside {H} host m p x = pager-outside host m p (moves-spares m.pager p x)
