-- Calls that only thin the heap: quiet steps, or a fault of the disk.
use Rattle.std.proofs.Common.{◌≡◌, ℕ, ◌≤◌, refl, sym, ◌∙◌, ap, subst, add-zero, arith, Option, None, Ok, Err}
use Rattle.long_names.specs.Counting.{counted, Rose}
use Rattle.long_names.proofs.ThinLemmas.{IsThinner-refl}
use Rattle.loom_host.specs.declared.outside.Host.{Ghosts}
use Rattle.loom_host.specs.Outside.{RoleState}
use Rattle.loom_host.specs.declared.outside.Role.TheVariants.{Transcript}
use Rattle.loom_host.specs.declared.outside.DiskFault.{DiskFault}
use Rattle.loom_host.specs.declared.outside.DiskFault.TheVariants as fault
use Rattle.loom_host.specs.Work.{IsWorkOnly}
use Rattle.object_memory.specs.declared.fault.MemFault.{MemFault}
use Rattle.object_memory.specs.Told.{Told, Cache, Bounds}
use Rattle.object_memory.specs.Contract.{Raised, LeavesCache, no_names, Called, Follows, IsLater, HasCause, Thins}
use Rattle.object_memory.specs.Plain.{refused}
use Rattle.disk_objects.specs.Disk.{disk_room}
use Rattle.purger.specs.Purge.{IsPurgeFault}
use Rattle.loom_memory.specs.declared.ledger.Ledger.{Ledger}
use Rattle.loom_memory.specs.declared.memory.LoomMemory.{LoomMemory}
use Rattle.loom_memory.specs.Memory.{loom_told, IsRefusalOf}
use Rattle.loom_memory.specs.Gentle.{IsQuiet}
use Rattle.loom_memory.proofs.CallLaws.{transcript-away, purge-left}

thins-at : (t : Told) (b : Option Bounds) (c : Cache) → LeavesCache no_names None t.cache t.cache c → Raised 0 t.bounds b → Follows t (record t { bounds = b; cache = c }) Thins
thins-at t b c left counts = record { regs = refl; brings = tt; slots = refl; transcript = λ told. refl; heap = λ told. IsThinner-refl t.heap; cache = left; counts = counts; base = tt; refusals = refl; last = refl }

pub quiet-thins : (t u : Told) → IsQuiet t u → Follows t u Thins
quiet-thins t u quiet = subst (λ (v : Told). Follows t v Thins) (sym quiet.same) (thins-at t u.bounds u.cache quiet.cache quiet.counts)

pub quiet-later : (t u : Told) → IsQuiet t u → IsLater t u
quiet-later t u quiet = subst (λ (v : Told). IsLater t v) (sym quiet.same) (record { tells = refl; speaks = refl; bounds = quiet.bounds; refusals = omega arith })

pub quiet-called : (t u : Told) → IsQuiet t u → Called {A = Unit {0}} t u Thins (Ok tt)
quiet-called t u quiet = record { later = quiet-later t u quiet; ok = quiet-thins t u quiet; err = tt }

-- a failed call on Work leaves what is not in Work
pub thins-refused : {H : Type 0} (host : Ghosts H) (m n : LoomMemory H host) (w : Told) (f : DiskFault) (r x : MemFault) → n.ledger ≡ m.ledger → IsWorkOnly host m.pager.levels.disk.host.now n.pager.levels.disk.host.now → disk_room n.pager.levels.disk.rest ≡ disk_room m.pager.levels.disk.rest
    → IsPurgeFault host m.pager.levels.disk.host.now n.pager.levels.disk.host.now f → IsRefusalOf f r → w ≡ refused (loom_told host n) r → x ≡ r → (loom_told host n).refusals ≤ counted (loom_told host n).refusals → Called {A = Unit {0}} (loom_told host m) w Thins (Err x)
unfolding loom_told
thins-refused {H} host m n w f r x ledger work room cause why refuses same later =
    subst (λ (y : MemFault). Called {A = Unit {0}} (loom_told host m) w Thins (Err y)) (sym same) (subst (λ (z : Told). Called {A = Unit {0}} (loom_told host m) z Thins (Err r)) (sym refuses) (record {
      later = record {
        tells = refl;
        speaks = refl;
        bounds = (ap (λ (k : Ledger). k.core) ledger, ap (λ (k : Ledger). k.entries) ledger, room, work.later, (let said = work.other_faults Transcript transcript-away in omega arith));
        refusals = subst (λ (k : ℕ). k ≤ counted n.ledger.refusals) (ap (λ (k : Ledger). k.refusals) ledger) later;
      };
      ok = tt;
      err = record {
        rose = subst (λ (k : ℕ). Rose k (counted n.ledger.refusals)) (ap (λ (k : Ledger). k.refusals) ledger) (omega arith);
        last = refl;
        cause = because f r cause why;
        spent = λ make told past. absurd make;
        counts = (ap (λ (k : Ledger). k.base) ledger, ap (λ (k : Ledger). k.made) ledger ∙ sym (add-zero m.ledger.made));
        transcript = λ told. ap (λ (s : RoleState). s.put) (work.others Transcript transcript-away);
        left = purge-left f r _ why;
      };
    }))
  where
    because : (f : DiskFault) (r : MemFault) → IsPurgeFault host m.pager.levels.disk.host.now n.pager.levels.disk.host.now f → IsRefusalOf f r → HasCause (loom_told host m) (refused (loom_told host n) r) Thins r
    because (fault.Work count) r cause is = subst (λ (y : MemFault). HasCause (loom_told host m) (refused (loom_told host n) r) Thins y) (sym is) (sym cause.0, cause.1)
    because (fault.Full held room) r cause is = subst (λ (y : MemFault). HasCause (loom_told host m) (refused (loom_told host n) r) Thins y) (sym is) cause
    because (fault.Damaged place about) r cause is = subst (λ (y : MemFault). HasCause (loom_told host m) (refused (loom_told host n) r) Thins y) (sym is) cause
