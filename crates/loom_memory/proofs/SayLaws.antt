-- What an object says: pieces that join the transcript one after the other, and what a refusal leaves of them.
use Rattle.std.proofs.Common.{zero, suc, ◌≡◌, ◌≢◌, ℕ, ◌+◌, ◌≤◌, ◌<◌, Bool, true, false, List, [], ◌∷◌, ◌++◌, length, take, drop, Option, Some, None, Ok, IsTrue, refl, sym, ◌∙◌, ap, subst, add-zero, arith}
use Rattle.std.proofs.Math.Path.{fun_ext}
use Rattle.std.proofs.Math.Seq.{take-add}
use Rattle.std.proofs.lemmas.List.{append_assoc, append-nil, take-append-drop}
use Rattle.std.specs.Option.{option_map_or}
use Rattle.long_names.specs.Counting.{counted, Rose}
use Rattle.long_names.specs.Access.{KindOf, Say, Nothing, said_by}
use Rattle.long_names.proofs.ThinLemmas.{IsThinner-refl}
use Rattle.object_memory.specs.declared.fault.MemFault.{MemFault}
use Rattle.object_memory.specs.declared.fault.MemFault.TheVariants.{CoreFull, WorkFull, WorkFault, Damaged, NamesSpent, Said, Memory}
use Rattle.object_memory.specs.Told.{Told, Bounds, Cache, IsReady}
use Rattle.object_memory.specs.Contract.{Does, SameBounds, Raised, IfBounds, ForBounds, HasCore, Accessed, LeavesCache, SaysBy, no_names, said_faults}
use Rattle.object_memory.specs.Plain.{refused}
use Rattle.loom_host.specs.Outside.{RoleState, PutPrefix, SameBut}
use Rattle.loom_host.specs.Work.{work_of}
use Rattle.loom_host.specs.declared.outside.Host.{Ghosts}
use Rattle.loom_host.specs.declared.outside.Role.{Role}
use Rattle.loom_host.specs.declared.outside.Role.TheVariants.{Image, Events, Work, Saved, Display, Transcript, Notes}
use Rattle.disk_objects.specs.declared.rest.DiskRest.{DiskRest}
use Rattle.disk_objects.specs.Calls.{HoldsObjects}
use Rattle.disk_objects.specs.Disk.{disk_held, disk_room}
use Rattle.disk_objects.specs.Function.{disk_of, objects_at}
use Rattle.core_view.specs.Held.{Disk, held}
use Rattle.core_view.specs.Kept.{IsBacked, IsValued}
use Rattle.core_view.specs.Purge.{fresh_of}
use Rattle.leaf_lambda.specs.Parts.{core_of}
use Rattle.loom_memory.specs.declared.memory.LoomMemory.{LoomMemory}
use Rattle.loom_memory.specs.Memory.{heap_if, told_of, others_of, Others, IsOver, IsSound, IsRefused}
use Rattle.loom_memory.specs.Gentle.{IsQuiet}
use Rattle.loom_memory.specs.Numbers.{IsNumbered}
use Rattle.loom_memory.specs.Says.{IsSaid, IsPut}
use Rattle.loom_memory.proofs.AccessLaws.{same-trans, raised-trans, left-ready}

-- ---- pieces

-- before anything is said
pub said-none : (t u : Told) (of : ℕ) → IsQuiet t u → IsSaid t u of 0
said-none t u of quiet = record {
  same = quiet.same ∙ ap (λ (x : List ℕ). record t { transcript = x; bounds = u.bounds; cache = u.cache }) (sym (ap (λ (z : Told). z.transcript) quiet.same));
  cache = quiet.cache;
  bounds = quiet.bounds;
  counts = quiet.counts;
  said = λ speaks. record { bytes = []; joined = ap (λ (z : Told). z.transcript) quiet.same ∙ sym (append-nil t.transcript); first = λ told all e. refl };
}

-- the next bytes
pub said-more : (t u v : Told) (of i : ℕ) (run : List ℕ) → IsSaid t u of i → IsPut u v run → (IsTrue u.tells → (all : List ℕ) → said_by u.heap u.regs (Say of) ≡ Some all → run ≡ take (length run) (drop i all)) → IsSaid t v of (i + length run)
said-more t u v of i run was more next =
    let cache : v.cache ≡ u.cache = ap (λ (z : Told). z.cache) more.same in
    let tells : u.tells ≡ t.tells = ap (λ (z : Told). z.tells) was.same in
    let speaks : u.speaks ≡ t.speaks = ap (λ (z : Told). z.speaks) was.same in
    record {
      same = more.same ∙ ap (λ (z : Told). record z { transcript = v.transcript; bounds = v.bounds }) was.same ∙ ap (λ (x : Cache). record t { transcript = v.transcript; bounds = v.bounds; cache = x }) (sym cache);
      cache = subst (λ (x : Cache). LeavesCache no_names None t.cache t.cache x) (sym cache) was.cache;
      bounds = same-trans t.bounds u.bounds v.bounds was.bounds more.bounds;
      counts = raised-trans t.bounds u.bounds v.bounds was.counts more.counts;
      said = λ on.
          let before = was.said on in
          record {
            bytes = before.bytes ++ run;
            joined = more.joined (speaks ∙ on) ∙ ap (λ (x : List ℕ). x ++ run) before.joined ∙ append_assoc t.transcript before.bytes run;
            first = λ told all e.
                ap (λ (x : List ℕ). x ++ run) (before.first told all e) ∙ ap (λ (x : List ℕ). take i all ++ x) (next (tells ∙ told) all (ap (λ (z : Told). said_by z.heap z.regs (Say of)) was.same ∙ e))
                ∙ sym (take-add i (length run) all);
          };
    }

-- ---- answered

say-at : (t : Told) (b : Option Bounds) (c : Cache) (x : List ℕ) (of : ℕ) → SameBounds t.bounds b → Raised 0 t.bounds b → LeavesCache no_names None t.cache t.cache c → SaysBy (Does (Say of)) t (record t { transcript = x; bounds = b; cache = c }) → IfBounds t.bounds (HasCore t (Say of))
    → Accessed {A = Unit {0}} t (record t { transcript = x; bounds = b; cache = c }) (Say of) (λ _. Nothing) (Ok tt)
say-at t b c x of same counts left says core = record {
  called = record {
    later = record { tells = refl; speaks = refl; bounds = same; refusals = omega arith };
    ok = record { regs = refl; brings = λ told. refl; slots = refl; transcript = says; heap = λ told. IsThinner-refl t.heap; cache = left; counts = counts; base = tt; refusals = refl; last = refl };
    err = tt;
  };
  answer = λ told. refl;
  named = λ make told. absurd (omega arith);
  core = core;
}

-- all of it was said
pub said-answered : (t v : Told) (of k : ℕ) → IsSaid t v of k → (IsTrue t.tells → (all : List ℕ) × (said_by t.heap t.regs (Say of) ≡ Some all) × (take k all ≡ all)) → IfBounds t.bounds (HasCore t (Say of)) → Accessed {A = Unit {0}} t v (Say of) (λ _. Nothing) (Ok tt)
said-answered t v of k said whole core = subst (λ (z : Told). Accessed {A = Unit {0}} t z (Say of) (λ _. Nothing) (Ok tt)) (sym said.same)
    (say-at t v.bounds v.cache v.transcript of said.bounds said.counts said.cache
    (λ on. let part = said.said on in (part.bytes, part.joined, λ told. let all = whole told in all.1 ∙ ap Some (sym (part.first told all.0 all.1 ∙ all.2))))
    core)

pub said-ready : (t v : Told) (of k : ℕ) → IsSaid t v of k → IsReady t → IsReady v
said-ready t v of k said ready =
    let left = left-ready t v.bounds v.cache said.cache ready in
    subst (λ (z : Told). IsReady z) (sym said.same) (record { whole = left.whole; marked = left.marked; cached = left.cached })

-- ---- refused

faults-below : (a b : Option Bounds) → SameBounds a b → said_faults a ≤ said_faults b
faults-below None None x = omega arith
faults-below None (Some b) x = absurd x
faults-below (Some a) None x = absurd x
faults-below (Some a) (Some b) x = x.4

no-run : (n i : ℕ) → ◌≡◌ {A = List ℕ} (take n (drop i [])) []
no-run zero zero = refl
no-run zero (suc i) = refl
no-run (suc n) zero = refl
no-run (suc n) (suc i) = refl

-- an object has bytes where a run of them has
pub some-bytes : (all run : List ℕ) (i : ℕ) → run ≡ take (length run) (drop i all) → 0 < length run → all ≢ []
some-bytes all run i is some = λ none.
    let empty : run ≡ [] = is ∙ ap (λ (xs : List ℕ). take (length run) (drop i xs)) none ∙ no-run (length run) i in
    let long : length run ≡ 0 = ap length empty in
    absurd (omega (arith, long, some))

-- a prefix of it was said
pub said-refused : (t u w v : Told) (of k count : ℕ) → SameBounds t.bounds u.bounds → IsSaid t w of k → IsReady t → v ≡ refused w (Said count) → t.refusals ≤ counted t.refusals → ForBounds w.bounds (λ b. b.said_faults ≡ count) → Rose (said_faults u.bounds) (said_faults w.bounds)
    → (IsTrue t.tells → (all : List ℕ) × (said_by t.heap t.regs (Say of) ≡ Some all) × (all ≢ [])) → IsRefused t v (Say of) (Said count)
said-refused t u w v of k count quiet said ready is later is_count rose there =
    let text : List ℕ = option_map_or (λ (x : List ℕ). x) (said_by t.heap t.regs (Say of)) [] in
    let left = left-ready t w.bounds w.cache said.cache ready in
    let last : v ≡ refused (record t { transcript = w.transcript; bounds = w.bounds; cache = w.cache }) (Said count) = is ∙ ap (λ (z : Told). refused z (Said count)) said.same in
    let low = faults-below t.bounds u.bounds quiet in
    subst (λ (x : Told). IsRefused t x (Say of) (Said count)) (sym last) (
      record { tells = refl; speaks = refl; bounds = said.bounds; refusals = later },
      record {
        rose = omega arith;
        last = refl;
        cause = (is_count, (omega (arith, low, rose)), tt);
        spent = λ make told past. absurd (omega arith);
        counts = said.counts;
        transcript = λ on.
            let part = said.said on in (
              part.bytes,
              drop k text,
              part.joined,
              λ told.
                  let all = there told in
                  let whole : part.bytes ++ drop k text ≡ all.0 = ap (λ (x : Option (List ℕ)). part.bytes ++ drop k (option_map_or (λ (y : List ℕ). y) x [])) all.1 ∙ ap (λ (x : List ℕ). x ++ drop k all.0) (part.first told all.0 all.1) ∙ take-append-drop k all.0 in
                  (all.1 ∙ ap Some (sym whole), λ none. all.2 (sym whole ∙ none)),
            );
        left = record { regs = refl; slots = refl; heap = λ told. IsThinner-refl t.heap; ready = record { whole = left.whole; marked = left.marked; cached = left.cached }; cache = said.cache };
      },
    )

-- what refuses an access that says nothing refuses this one before it says anything
pub silent-refused : (t u : Told) (of : ℕ) (f : MemFault) → IsRefused t u (KindOf of) f → IsRefused t u (Say of) f
silent-refused t u of (CoreFull need) x = (x.0, record { rose = x.1.rose; last = x.1.last; cause = x.1.cause; spent = λ make told past. absurd (omega arith); counts = x.1.counts; transcript = x.1.transcript; left = x.1.left })
silent-refused t u of (WorkFull live room) x = let some = x.1.cause.2 in absurd (omega arith)
silent-refused t u of (WorkFault count) x = (x.0, record { rose = x.1.rose; last = x.1.last; cause = x.1.cause; spent = λ make told past. absurd (omega arith); counts = x.1.counts; transcript = x.1.transcript; left = x.1.left })
silent-refused t u of (Damaged place name) x = (x.0, record { rose = x.1.rose; last = x.1.last; cause = x.1.cause; spent = λ make told past. absurd (omega arith); counts = x.1.counts; transcript = x.1.transcript; left = x.1.left })
silent-refused t u of NamesSpent x = let some = x.1.cause.0 in absurd (omega arith)
silent-refused t u of (Said count) x = absurd x.1.cause.2
silent-refused t u of Memory x = absurd x.1.cause.1

-- ---- the transcript alone was touched

transcript-work : ◌≢◌ {A = Role} Work Transcript
transcript-work = λ e. cc

-- so Work is as before
pub same-disk : {H : Type 0} (host : Ghosts H) (old new : H) (rest now : DiskRest) → now ≡ rest → host.roles new Work ≡ host.roles old Work → disk_of host new now ≡ disk_of host old rest
same-disk {H} host old new rest now same work = ap (λ (r : DiskRest). objects_at r (work_of host new)) same ∙ ap (λ (s : RoleState). objects_at rest s.contents) work

pub put-told : {H : Type 0} (host : Ghosts H) (m : LoomMemory H host) (new : H) (now : DiskRest) (run : List ℕ) → now ≡ m.pager.levels.disk.rest → host.roles new Work ≡ host.roles m.pager.levels.disk.host.now Work → SameBut Transcript (host.faults m.pager.levels.disk.host.now) (host.faults new) → host.faults m.pager.levels.disk.host.now Transcript ≤ host.faults new Transcript
    → (IsTrue (host.tells Transcript) → (host.roles new Transcript).put ≡ (host.roles m.pager.levels.disk.host.now Transcript).put ++ run)
    → IsPut (told_of host m.pager.levels.disk.host.now m.pager.levels.disk.rest (core_of m.pager.levels.parts) m.regs m.pager.pinned m.ledger) (told_of host new now (core_of m.pager.levels.parts) m.regs m.pager.pinned m.ledger) run
put-told {H} host m new now run same work faults later put =
    let disk = same-disk host m.pager.levels.disk.host.now new m.pager.levels.disk.rest now same work in
    let heap = ap (λ (d : Disk). heap_if (host.tells Work) (held (core_of m.pager.levels.parts) d) m.ledger.next) disk in
    record {
      same = λ i. record (told_of host new now (core_of m.pager.levels.parts) m.regs m.pager.pinned m.ledger) { heap = heap i };
      bounds = (refl, refl, ap disk_room same, (let is = faults Work transcript-work in omega (arith, is)), later);
      counts = (refl, sym (add-zero m.ledger.made));
      joined = put;
    }

pub put-sound : {H : Type 0} (host : Ghosts H) (m : LoomMemory H host) (new : H) (now : DiskRest) → IsSound host m → now ≡ m.pager.levels.disk.rest → host.roles new Work ≡ host.roles m.pager.levels.disk.host.now Work → HoldsObjects host new now → IsOver host new now (core_of m.pager.levels.parts) m.ledger
put-sound {H} host m new now sound same work stands =
    let disk = same-disk host m.pager.levels.disk.host.now new m.pager.levels.disk.rest now same work in
    record {
      stands = stands;
      backed = λ told. subst (λ (d : Disk). IsBacked (core_of m.pager.levels.parts) d) (sym disk) (sound.over.backed told);
      counted = λ told. ap (λ (r : DiskRest). disk_held r + fresh_of (core_of m.pager.levels.parts)) same ∙ sound.over.counted told;
      roomy = subst (λ (n : ℕ). m.ledger.held ≤ n) (sym (ap disk_room same)) sound.over.roomy;
      based = subst (λ (n : ℕ). IsNumbered m.ledger.base m.ledger.made m.ledger.held m.ledger.next n) (sym (ap disk_room same)) sound.over.based;
      valued = λ told. subst (λ (d : Disk). IsValued (held (core_of m.pager.levels.parts) d)) (sym disk) (sound.over.valued told);
    }

pub put-outside : {H : Type 0} (host : Ghosts H) (old new : H) → SameBut Transcript (host.roles old) (host.roles new) → SameBut Transcript (host.faults old) (host.faults new) → ◌≡◌ {A = Role → Others} (λ r. others_of (host.tells Work) r (host.roles new r) (host.faults new r)) (λ r. others_of (host.tells Work) r (host.roles old r) (host.faults old r))
put-outside {H} host old new roles faults = fun_ext (λ r. go r)
  where
    both : (r : Role) → r ≢ Transcript → others_of (host.tells Work) r (host.roles new r) (host.faults new r) ≡ others_of (host.tells Work) r (host.roles old r) (host.faults old r)
    both r away = ap (λ (s : RoleState). others_of (host.tells Work) r s (host.faults new r)) (roles r away) ∙ ap (λ (n : ℕ). others_of (host.tells Work) r (host.roles old r) n) (faults r away)

    go : (r : Role) → others_of (host.tells Work) r (host.roles new r) (host.faults new r) ≡ others_of (host.tells Work) r (host.roles old r) (host.faults old r)
    go Work = both Work (λ e. cc)
    go Image = both Image (λ e. cc)
    go Events = both Events (λ e. cc)
    go Saved = both Saved (λ e. cc)
    go Display = both Display (λ e. cc)
    go Transcript = refl
    go Notes = both Notes (λ e. cc)

-- how much of a run was put, 0 where that isn't told
pub put-part : (b : Bool) (run : List ℕ) (old new : RoleState) → (IsTrue b → PutPrefix run old new) → (n : ℕ) × (IsTrue b → new.put ≡ old.put ++ take n run)
put-part false run old new put = (0, λ told. absurd (cc))
put-part true run old new put = let part = put refl in (part.0, λ told. ap (λ (s : RoleState). s.put) part.2)

-- what was put of a run is the first of the same bytes
pub run-part : (n : ℕ) (run ys : List ℕ) → run ≡ take (length run) ys → take n run ≡ take (length (take n run)) ys
run-part zero run ys e = refl
run-part (suc n) [] ys e = refl
run-part (suc n) (x ∷ xs) [] e = absurd (cc)
run-part (suc n) (x ∷ xs) (y ∷ ys) e =
    let first : x ≡ y = (cc) in
    let rest : xs ≡ take (length xs) ys = (cc) in
    ap (λ (z : ℕ). z ∷ take n xs) first ∙ ap (λ (zs : List ℕ). y ∷ zs) (run-part n xs ys rest)

-- the bytes that an object says are the same ones
pub same-text : (x : Option (List ℕ)) (all other run : List ℕ) (i : ℕ) → x ≡ Some all → run ≡ take (length run) (drop i all) → x ≡ Some other → run ≡ take (length run) (drop i other)
same-text x all other run i one is two = let same : all ≡ other = (cc) in is ∙ ap (λ (ys : List ℕ). take (length run) (drop i ys)) same
