-- A field of an object in the core, in a register or stored.
use Rattle.std.specs.List.{slice_get, slice_set}
use Rattle.std.proofs.Common.{zero, suc, List, [], ◌∷◌, ◌≡◌, ℕ, ◌<◌, ◌≤◌, true, length, get_or, refl, sym, ◌∙◌, ap, subst, add-zero, arith, Some, None, IsTrue}
use Rattle.std.proofs.lemmas.Option.{slice_get-get_or}
use Rattle.long_names.specs.declared.value.Value.{Value}
use Rattle.long_names.specs.Counting.{counted}
use Rattle.long_names.specs.Access.{Access, Field, brought}
use Rattle.long_names.specs.State.{set_register}
use Rattle.loom_host.specs.declared.outside.Host.{Ghosts}
use Rattle.loom_host.specs.declared.outside.Role.TheVariants.{Work, Transcript}
use Rattle.object_memory.specs.declared.fault.MemFault.{MemFault}
use Rattle.object_memory.specs.declared.fault.MemFault.TheVariants.{Damaged}
use Rattle.object_memory.specs.Told.{Told, Bounds, IsReady}
use Rattle.object_memory.specs.Contract.{Does, SameBounds, Raised, makes, ForBounds, HasCause, LeavesCache, no_names, work_faults}
use Rattle.long_names.specs.Counting.{Rose}
use Rattle.loom_host.specs.Outside.{RoleState, holds}
use Rattle.loom_host.specs.declared.outside.DiskFault.{DiskFault}
use Rattle.loom_host.specs.declared.outside.DiskFault.TheVariants as fault
use Rattle.loom_host.specs.Work.{IsWorkOnly, IsWorkRead}
use Rattle.purger.specs.Purge.{IsReadFault}
use Rattle.object_memory.specs.Plain.{refused}
use Rattle.object_table.specs.Entries.{place_of, is_short, is_used}
use Rattle.disk_objects.specs.Disk.{disk_room}
use Rattle.object_table.specs.declared.entry.Entry.{Entry}
use Rattle.core_segment.specs.Chunks.{Chunk}
use Rattle.core_view.specs.Core.{Core}
use Rattle.core_view.specs.Words.{pointers}
use Rattle.core_view.specs.Kept.{IsCore}
use Rattle.core_view.specs.Steps.{IsAt}
use Rattle.core_view.proofs.Core.{word-used, used-live}
use Rattle.loom_memory.specs.declared.memory.LoomMemory.{LoomMemory}
use Rattle.loom_memory.specs.Memory.{loom_told, IsTaken, IsSilent, IsRefused, IsRefusalOf}
use Rattle.loom_memory.proofs.CacheLaws.{left-refl}
use Rattle.loom_memory.proofs.AccessLaws.{damaged-is}

pub told-bounds : {H : Type 0} (host : Ghosts H) (m : LoomMemory H host) → (b : Bounds) × ((loom_told host m).bounds ≡ Some b) × (b.core ≡ m.ledger.core)
unfolding loom_told
told-bounds {H} host m = (record { core = m.ledger.core; entries = m.ledger.entries; room = disk_room m.pager.levels.disk.rest; base = m.ledger.base; made = m.ledger.made; work_faults = host.faults m.pager.levels.disk.host.now Work; said_faults = host.faults m.pager.levels.disk.host.now Transcript }, refl, refl)

-- the heap is told exactly where the host tells Work
pub told-tells : {H : Type 0} (host : Ghosts H) (m : LoomMemory H host) → IsTrue (loom_told host m).tells → IsTrue (host.tells Work)
unfolding loom_told
told-tells {H} host m told = told

pub at-field : (c : Core) (s p i : ℕ) → place_of (c.entries s).state ≡ Some p → i < length (pointers (c.entries s).kind (c.chunks p).words) → (w : ℕ) × IsAt c s p i w
at-field c s p i at low = (get_or (pointers (c.entries s).kind (c.chunks p).words) i 0, record { place = at; word = slice_get-get_or (pointers (c.entries s).kind (c.chunks p).words) i 0 low })

-- a word that was put among others
pub set-here : (xs : List ℕ) (i w old : ℕ) → slice_get xs i ≡ Some old → slice_get (slice_set xs i w) i ≡ Some w
set-here [] i w old e = absurd (let z : None ≡ Some old = e in cc)
set-here (x ∷ xs) zero w old e = refl
set-here (x ∷ xs) (suc i) w old e = set-here xs i w old e

-- the entry of its object is the same, and so are all chunks
pub at-same : (c d : Core) (s p i w : ℕ) → d.entries s ≡ c.entries s → d.chunks ≡ c.chunks → IsAt c s p i w → IsAt d s p i w
at-same c d s p i w e f at = record {
  place = ap (λ (x : Entry). place_of x.state) e ∙ at.place;
  word = ap (λ (x : Entry). slice_get (pointers x.kind (d.chunks p).words) i) e ∙ ap (λ (g : ℕ → Chunk). slice_get (pointers (c.entries s).kind (g p).words) i) f ∙ at.word;
}

pub word-live : (c : Core) (s p i w : ℕ) → IsCore c → IsAt c s p i w → is_short w ≡ true → is_used (c.entries w).state ≡ true
word-live c s p i w core at is = used-live c core w (word-used c core s p i w at.place at.word is)

pub damaged-refused : (t u : Told) (a : Access) (place name : ℕ) (r : MemFault) → u ≡ refused t (Damaged place name) → r ≡ Damaged place name → IsReady t → makes a ≡ 0 → IsSilent a → t.refusals ≤ counted t.refusals → (IsTrue t.tells → ⊥) → (b : Bounds) → t.bounds ≡ Some b → IsRefused t u a r
damaged-refused t u a place name r is same ready none silent later untold b bound =
    subst (λ (x : Told). IsRefused t x a r) (sym is) (subst (λ (f : MemFault). IsRefused t (refused t (Damaged place name)) a f) (sym same) (damaged-is t a place name ready none silent later untold (b, bound)))

pub taken-is : (t u : Told) (to of i : ℕ) (v : Value) (b : Bounds) → t.bounds ≡ Some b → u ≡ record t { regs = set_register t.regs to v } → (IsTrue t.tells → brought t.heap t.regs (Field to of i) ≡ Some v) → IsTaken t u to of i
taken-is t u to of i v b bound is brings =
    let same : u.bounds ≡ t.bounds = ap (λ (z : Told). z.bounds) is in
    let cache : u.cache ≡ t.cache = ap (λ (z : Told). z.cache) is in
    record {
      value = v;
      same = is ∙ ap (λ x. record t { bounds = x; regs = set_register t.regs to v }) (sym same) ∙ ap (λ x. record t { bounds = u.bounds; cache = x; regs = set_register t.regs to v }) (sym cache);
      cache = subst (λ x. LeavesCache no_names None t.cache t.cache x) (sym cache) (left-refl t.cache);
      bounds = subst (λ x. SameBounds t.bounds x) (sym same) (subst (λ x. SameBounds x x) (sym bound) (refl, refl, refl, omega arith, omega arith));
      counts = subst (λ x. Raised 0 t.bounds x) (sym same) (subst (λ x. Raised 0 x x) (sym bound) (refl, sym (add-zero b.made)));
      brings = brings;
    }

-- ---- an object that comes in

-- a fault while it was read is a cause
pub fault-cause : (t w : Told) (a : Access) (f : DiskFault) (r : MemFault) (before now : ℕ) (b d : Bounds) → IsReadFault t.tells before now f → IsRefusalOf f r → t.bounds ≡ Some b → w.bounds ≡ Some d → b.work_faults ≡ before → d.work_faults ≡ now → HasCause t w (Does a) r
fault-cause t w a (fault.Work count) r before now b d cause is bound bound' was is' = subst (λ (x : MemFault). HasCause t w (Does a) x) (sym is)
    (subst (λ x. ForBounds x (λ b. b.work_faults ≡ count)) (sym bound') (is' ∙ sym cause.0), subst (λ x. Rose (work_faults x) (work_faults w.bounds)) (sym bound) (subst (λ x. Rose b.work_faults (work_faults x)) (sym bound') (let rose = cause.1 in omega arith)))
fault-cause t w a (fault.Full held room) r before now b d cause is bound bound' was is' = absurd cause
fault-cause t w a (fault.Damaged place about) r before now b d cause is bound bound' was is' = subst (λ (x : MemFault). HasCause t w (Does a) x) (sym is) cause

pub faults-told : {H : Type 0} (host : Ghosts H) (m : LoomMemory H host) → (b : Bounds) × ((loom_told host m).bounds ≡ Some b) × (b.work_faults ≡ host.faults m.pager.levels.disk.host.now Work)
unfolding loom_told
faults-told {H} host m = (record { core = m.ledger.core; entries = m.ledger.entries; room = disk_room m.pager.levels.disk.rest; base = m.ledger.base; made = m.ledger.made; work_faults = host.faults m.pager.levels.disk.host.now Work; said_faults = host.faults m.pager.levels.disk.host.now Transcript }, refl, refl)

pub read-only : {H : Type 0} (host : Ghosts H) (old new : H) → IsWorkRead host old new → IsWorkOnly host old new
read-only {H} host old new read = record {
  others = λ r away. read.roles r;
  work = λ told. read.roles Work ∙ ap (λ (s : RoleState). holds s.contents (host.roles old Work)) (sym (read.roles Work));
  other_faults = read.other_faults;
  later = read.later;
  writes = let same = read.writes in omega arith;
}
