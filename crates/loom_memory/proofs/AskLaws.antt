-- What is dead goes where the core has no room, after the disk was asked for room.
use Rattle.std.proofs.Common.{◌≡◌, ℕ, ◌<◌, ◌≤◌, Option, None, Some, is_some, Ok, Err, Result, IsTrue, refl, sym, ◌∙◌, ap, subst, arith}
use Rattle.std.specs.Prelude.{IfErr, OnOk}
use Rattle.long_names.specs.Heap.{Has}
use Rattle.loom_host.specs.declared.outside.Host.{Ghosts}
use Rattle.loom_host.specs.declared.outside.Role.TheVariants.{Work}
use Rattle.object_memory.specs.declared.fault.MemFault.{MemFault}
use Rattle.object_memory.specs.declared.fault.MemFault.TheVariants.{CoreFull, WorkFull, WorkFault, Damaged, NamesSpent, Said, Memory}
use Rattle.object_memory.specs.Told.{Told, Bounds, IsReady}
use Rattle.object_memory.specs.Contract.{Called, HasCause, LeavesAll, SameBounds, Thins, work_faults}
use Rattle.long_names.specs.Counting.{Rose}
use Rattle.disk_objects.specs.Disk.{disk_room}
use Rattle.core_segment.specs.Segment.{free_of}
use Rattle.leaf_lambda.specs.Parts.{core_of, spare_of}
use Rattle.purger.specs.Draining.{KeepsHeld}
use Rattle.purger.specs.Purge.{HasRoom}
use Rattle.loom_memory.specs.declared.ledger.Ledger.{Ledger}
use Rattle.loom_memory.specs.declared.memory.LoomMemory.{LoomMemory}
use Rattle.loom_memory.specs.Gentle.{IsSpared}
use Rattle.loom_memory.specs.Makings.{HasThinned, IsLost, IsRefusedMaking, OnCoreFull}
use Rattle.loom_memory.specs.Memory.{loom_told}
use Rattle.loom_memory.specs.Gentle.{IsQuiet}
use Rattle.loom_memory.specs.Own.{MindsCache}
use Rattle.loom_memory.specs.Residents.{fetched}
use Rattle.loom_memory.proofs.MadeLaws.{core-lost}
use Rattle.loom_memory.proofs.AccessLaws.{raised-trans, same-trans}
use Rattle.loom_memory.proofs.MakingLaws.{after-thinned, quiet-thinned, thinned-ready, thinned-trans}
use Rattle.loom_memory.proofs.MindLaws.{minds-then}
use Rattle.core_view.proofs.Purge.{body-then}
use Rattle.long_names.specs.declared.object.Object.{Object}
use Rattle.long_names.proofs.ThinLemmas.{same-there}

pub ask-thinned : {T : Type 0} (r : Result T MemFault) (t u v : Told) → HasThinned t u → OnOk r (HasThinned u v) → OnOk r (HasThinned t v)
ask-thinned {T} (Ok x) t u v first last = thinned-trans t u v first last
ask-thinned {T} (Err f) t u v first last = tt

pub ask-held : {T H : Type 0} {host : Ghosts H} (r : Result T MemFault) (u v : LoomMemory H host) → u.ledger.held < disk_room u.pager.levels.disk.rest → OnOk r (v.ledger.held ≤ u.ledger.held) → OnOk r (disk_room v.pager.levels.disk.rest ≡ disk_room u.pager.levels.disk.rest) → OnOk r (v.ledger.held < disk_room v.pager.levels.disk.rest)
ask-held {T} {H} {host} (Ok x) u v held less limit = omega (arith, held, less, limit)
ask-held {T} {H} {host} (Err f) u v held less limit = tt

pub ask-next : {T H : Type 0} {host : Ghosts H} (r : Result T MemFault) (m u v : LoomMemory H host) → u.ledger.next ≡ m.ledger.next → OnOk r (v.ledger ≡ record u.ledger { held = v.ledger.held }) → OnOk r (v.ledger.next ≡ m.ledger.next)
ask-next {T} {H} {host} (Ok x) m u v first last = ap (λ (k : Ledger). k.next) last ∙ first
ask-next {T} {H} {host} (Err f) m u v first last = tt

pub ask-fetches : {T H : Type 0} {host : Ghosts H} (r : Result T MemFault) (m u v : LoomMemory H host) → fetched u ≡ fetched m → OnOk r (v.ledger ≡ record u.ledger { held = v.ledger.held }) → OnOk r (fetched v ≡ fetched m)
unfolding fetched
ask-fetches {T} {H} {host} (Ok x) m u v first last = ap (λ (k : Ledger). k.fetches) last ∙ first
ask-fetches {T} {H} {host} (Err f) m u v first last = tt

pub ask-early : {T H P : Type 0} {host : Ghosts H} (r : Result T MemFault) (m u v : LoomMemory H host) (words : ℕ) → (P → u ≡ m) → OnOk r (HasRoom u.pager.levels.parts words 27 → v ≡ u) → OnOk r (P → HasRoom m.pager.levels.parts words 27 → v ≡ m)
ask-early {T} {H} {P} {host} (Ok x) m u v words first last = λ p has. last (subst (λ (z : LoomMemory H host). HasRoom z.pager.levels.parts words 27) (sym (first p)) has) ∙ first p
ask-early {T} {H} {P} {host} (Err f) m u v words first last = tt

-- what is there in the end was there between
thinned-had : (t u : Told) (k : ℕ) → HasThinned t u → IsTrue t.tells → Has u.heap k → Has t.heap k
thinned-had t u k thin told has = ap (λ (o : Option Object). is_some o) (same-there t.heap u.heap k (thin.thinning told).thinner has) ∙ has

pub ask-bodies : {T H : Type 0} (r : Result T MemFault) (host : Ghosts H) (m u v : LoomMemory H host) → HasThinned (loom_told host m) (loom_told host u) → OnOk r (HasThinned (loom_told host u) (loom_told host v))
    → (IsTrue (host.tells Work) → KeepsHeld (core_of m.pager.levels.parts) (core_of u.pager.levels.parts) (loom_told host u).heap) → OnOk r (IsTrue (host.tells Work) → KeepsHeld (core_of u.pager.levels.parts) (core_of v.pager.levels.parts) (loom_told host v).heap)
    → OnOk r (IsTrue (host.tells Work) → KeepsHeld (core_of m.pager.levels.parts) (core_of v.pager.levels.parts) (loom_told host v).heap)
unfolding loom_told
ask-bodies {T} {H} (Ok x) host m u v thin then first last = λ told s p at has.
    let before = first told s p at (thinned-had (loom_told host u) (loom_told host v) ((core_of m.pager.levels.parts).entries s).name then told has) in
    body-then (core_of m.pager.levels.parts) (core_of u.pager.levels.parts) (core_of v.pager.levels.parts) s p before (last told s before.at before.place (subst (λ (k : ℕ). Has (loom_told host v).heap k) (sym before.name) has))
ask-bodies {T} {H} (Err f) host m u v thin then first last = tt

pub ask-room : {T H : Type 0} {host : Ghosts H} (r : Result T MemFault) (m u v : LoomMemory H host) → ((k : ℕ) → HasRoom m.pager.levels.parts k 27 → HasRoom u.pager.levels.parts k 27) → OnOk r (free_of u.pager.levels.parts.segment ≤ free_of v.pager.levels.parts.segment) → OnOk r (spare_of u.pager.levels.parts ≤ spare_of v.pager.levels.parts)
    → OnOk r ((k : ℕ) → HasRoom m.pager.levels.parts k 27 → HasRoom v.pager.levels.parts k 27)
ask-room {T} {H} {host} (Ok x) m u v first words entries = λ k has. let now = first k has in let a = now.0 in let b = now.1 in (omega (arith, a, words), omega (arith, b, entries))
ask-room {T} {H} {host} (Err f) m u v first words entries = tt

lost-full : (f : MemFault) → IsLost f → (live room : ℕ) → f ≡ WorkFull live room → ⊥
lost-full f lost live room is = subst (λ (g : MemFault). IsLost g) is lost

pub ask-refused : {T : Type 0} (r : Result T MemFault) (t u v : Told) → HasThinned t u → IfErr r (IsRefusedMaking u v) → IfErr r IsLost → IfErr r (IsRefusedMaking t v)
ask-refused {T} (Ok x) t u v thin err lost = tt
ask-refused {T} (Err f) t u v thin err lost = λ to class what low. after-thinned t u v to class what f thin (lost-full f lost)
    (err to class what (λ told. let tells = ap (λ (z : Told). z.tells) thin.same in let told' : IsTrue t.tells = sym tells ∙ told in let less = low told' in let same = (thin.thinning told').thinner.next in omega (arith, less, same)))

pub ask-full : {T : Type 0} (r : Result T MemFault) → IfErr r IsLost → IfErr r (λ f. OnCoreFull f ⊥)
ask-full {T} (Ok x) lost = tt
ask-full {T} (Err f) lost = core-lost f ⊥ lost

pub ask-spared : {T H : Type 0} (P : Type 0) (r : Result T MemFault) (host : Ghosts H) (m u v : LoomMemory H host) (words : ℕ) → ((k : ℕ) → HasRoom m.pager.levels.parts k 27 → HasRoom u.pager.levels.parts k 27) → IfErr r (λ f. HasRoom u.pager.levels.parts words 27 → ⊥) → IfErr r (λ f. P → HasRoom m.pager.levels.parts words 27 → IsSpared host m v)
ask-spared {T} {H} P (Ok x) host m u v words room sure = tt
ask-spared {T} {H} P (Err f) host m u v words room sure = λ p has. absurd (sure (room words has))

pub ask-sure : {T H : Type 0} {host : Ghosts H} (P : Type 0) (r : Result T MemFault) (m u : LoomMemory H host) (words : ℕ) → ((k : ℕ) → HasRoom m.pager.levels.parts k 27 → HasRoom u.pager.levels.parts k 27) → IfErr r (λ f. HasRoom u.pager.levels.parts words 27 → ⊥) → IfErr r (λ f. P → HasRoom m.pager.levels.parts words 27 → ⊥)
ask-sure {T} {H} {host} P (Ok x) m u words room sure = tt
ask-sure {T} {H} {host} P (Err f) m u words room sure = λ p has. sure (room words has)

-- ---- everything leaves, after dead objects went

pub first-fetches : {T H : Type 0} {host : Ghosts H} (r : Result T MemFault) (m u v : LoomMemory H host) → u.ledger ≡ record m.ledger { held = u.ledger.held } → OnOk r (fetched v ≡ fetched u) → OnOk r (fetched v ≡ fetched m)
unfolding fetched
first-fetches {T} {H} {host} (Ok x) m u v first last = last ∙ ap (λ (k : Ledger). k.fetches) first
first-fetches {T} {H} {host} (Err f) m u v first last = tt

pub ask-minds : {T H : Type 0} (r : Result T MemFault) (host : Ghosts H) (m u v : LoomMemory H host) → MindsCache host None m u (λ k. ⊥) → OnOk r (MindsCache host None u v (λ k. ⊥)) → OnOk r (MindsCache host None m v (λ k. ⊥))
ask-minds {T} {H} (Ok x) host m u v first last = minds-then host m u v (λ k. ⊥) (λ k. ⊥) (λ k. ⊥) (λ k no. no) (λ k no. no) first last
ask-minds {T} {H} (Err f) host m u v first last = tt

thinned-called : (t u : Told) → HasThinned t u → Called {A = Unit {0}} t u Thins (Ok tt)
thinned-called t u x = subst (λ (z : Told). Called {A = Unit {0}} t z Thins (Ok tt)) (sym x.same) (record {
  later = record { tells = refl; speaks = refl; bounds = x.bounds; refusals = omega arith };
  ok = record { regs = refl; brings = tt; slots = refl; transcript = λ told. refl; heap = λ told. (x.thinning told).thinner; cache = x.cache; counts = x.counts; base = tt; refusals = refl; last = refl };
  err = tt;
})

faults-below : (a b : Option Bounds) → SameBounds a b → work_faults a ≤ work_faults b
faults-below None None x = omega arith
faults-below None (Some b) x = absurd x
faults-below (Some a) None x = absurd x
faults-below (Some a) (Some b) x = x.3

cause-after : (t u w : Told) (f : MemFault) → HasThinned t u → IsLost f → HasCause u w Thins f → HasCause t w Thins f
cause-after t u w (WorkFault count) x lost cause = (cause.0, (let rose = cause.1 in let low = faults-below t.bounds u.bounds x.bounds in omega (arith, rose, low)))
cause-after t u w (Damaged place name) x lost cause = λ told. cause (ap (λ (z : Told). z.tells) x.same ∙ told)
cause-after t u w (CoreFull need) x lost cause = absurd lost
cause-after t u w (WorkFull live room) x lost cause = absurd lost
cause-after t u w NamesSpent x lost cause = absurd lost
cause-after t u w (Said count) x lost cause = absurd lost
cause-after t u w Memory x lost cause = absurd lost

lost-left : (f : MemFault) (P : Type 0) → IsLost f → LeavesAll f P
lost-left (WorkFault count) P lost = tt
lost-left (Damaged place name) P lost = tt
lost-left (CoreFull need) P lost = absurd lost
lost-left (WorkFull live room) P lost = absurd lost
lost-left NamesSpent P lost = absurd lost
lost-left (Said count) P lost = absurd lost
lost-left Memory P lost = absurd lost

refused-after : (t u w : Told) (f : MemFault) → HasThinned t u → IsLost f → Called {A = Unit {0}} u w Thins (Err f) → Called {A = Unit {0}} t w Thins (Err f)
refused-after t u w f x lost called =
    let tells : u.tells ≡ t.tells = ap (λ (z : Told). z.tells) x.same in
    let speaks : u.speaks ≡ t.speaks = ap (λ (z : Told). z.speaks) x.same in
    let said : u.transcript ≡ t.transcript = ap (λ (z : Told). z.transcript) x.same in
    let times_ : u.refusals ≡ t.refusals = ap (λ (z : Told). z.refusals) x.same in
    record {
      later = record { tells = called.later.tells ∙ tells; speaks = called.later.speaks ∙ speaks; bounds = same-trans t.bounds u.bounds w.bounds x.bounds called.later.bounds; refusals = (let low = called.later.refusals in omega (arith, low, times_)) };
      ok = tt;
      err = record {
        rose = subst (λ (n : ℕ). Rose n w.refusals) times_ called.err.rose;
        last = called.err.last;
        cause = cause-after t u w f x lost called.err.cause;
        spent = λ make told past. absurd make;
        counts = raised-trans t.bounds u.bounds w.bounds x.counts called.err.counts;
        transcript = λ told. called.err.transcript (speaks ∙ told) ∙ said;
        left = lost-left f _ lost;
      };
    }

pub thins-last : (r : Result (Unit {0}) MemFault) (t u v : Told) → HasThinned t u → OnOk r (IsQuiet u v) → IfErr r (λ f. Called {A = Unit {0}} u v Thins (Err f)) → IfErr r IsLost → IsReady t → Called {A = Unit {0}} t v Thins r
thins-last (Ok x) t u v thin quiet err lost ready = thinned-called t v (thinned-trans t u v thin (quiet-thinned u v quiet (thinned-ready t u thin ready)))
thins-last (Err f) t u v thin quiet err lost ready = refused-after t u v f thin lost err

pub thins-now : (r : Result (Unit {0}) MemFault) (t u v : Told) → HasThinned t u → OnOk r (IsQuiet u v) → IsReady t → OnOk r (IsReady v)
thins-now (Ok x) t u v thin quiet ready = let now = thinned-ready t u thin ready in thinned-ready t v (thinned-trans t u v thin (quiet-thinned u v quiet now)) ready
thins-now (Err f) t u v thin quiet ready = tt
