-- Settling: dead objects go, and makings are counted anew.
use Rattle.std.proofs.Common.{◌≡◌, ℕ, ◌+◌, ◌≤◌, true, Bool, Option, Some, None, Ok, Err, Result, IsTrue, refl, sym, ◌∙◌, ap, subst, arith, ⊎_elim}
use Rattle.std.specs.Prelude.{IfErr, OnOk}
use Rattle.std.specs.Option.{is_some}
use Rattle.long_names.specs.Counting.{Rose}
use Rattle.long_names.specs.Heap.{Heap, Has, object_count}
use Rattle.long_names.specs.Kept.{kept}
use Rattle.long_names.specs.Thin.{IsThinning}
use Rattle.long_names.proofs.ThinLemmas.{IsThinning-refl}
use Rattle.loom_host.specs.declared.outside.Host.{Ghosts}
use Rattle.loom_host.specs.declared.outside.Role.TheVariants.{Work}
use Rattle.object_memory.specs.declared.fault.MemFault.{MemFault}
use Rattle.object_memory.specs.declared.fault.MemFault.TheVariants.{CoreFull, WorkFull, WorkFault, Damaged, NamesSpent, Said, Memory}
use Rattle.object_memory.specs.Told.{Told, Bounds, Cache, IsReady, is_root}
use Rattle.object_memory.specs.Contract.{Settles, Called, CountsKept, HasCause, IfBounds, LeavesAll, LeavesCache, Raised, SameBounds, Settled, no_names, work_faults}
use Rattle.disk_objects.specs.Disk.{disk_room}
use Rattle.object_table.specs.Entries.{place_of}
use Rattle.core_view.specs.Kept.{IsCore}
use Rattle.core_view.proofs.Core.{placed-used}
use Rattle.core_view.proofs.Purge.{body-stays}
use Rattle.leaf_lambda.specs.declared.parts.Parts.{Parts}
use Rattle.leaf_lambda.specs.Parts.{core_of, spare_of}
use Rattle.purger.specs.Draining.{KeepsHeld}
use Rattle.loom_memory.specs.declared.ledger.Ledger.{Ledger}
use Rattle.loom_memory.specs.declared.memory.LoomMemory.{LoomMemory}
use Rattle.loom_memory.specs.Numbers.{IsNumbered}
use Rattle.loom_memory.specs.Memory.{loom_told, told_of, heap_if, IsThin, IsSound}
use Rattle.loom_memory.specs.Gentle.{IsQuiet}
use Rattle.loom_memory.specs.Own.{HasRested}
use Rattle.loom_memory.specs.Gentle.{IsIdle, KeepsCache}
use Rattle.loom_memory.specs.Cache.{cache_of}
use Rattle.method_cache.specs.Found.{found}
use Rattle.core_view.specs.Held.{held}
use Rattle.disk_objects.specs.Function.{disk_of}
use Rattle.loom_memory.specs.Makings.{HasBegun, HasSettled, HasThinned, IsLost, IsRefusedCall}
use Rattle.loom_memory.specs.Residents.{has_body, is_resident, fetched}
use Rattle.loom_memory.proofs.AccessLaws.{left-ready, same-trans}
use Rattle.loom_memory.proofs.CacheLaws.{left-refl, left-trans}

-- ---- the numbers begin anew

pub begun-told : {H : Type 0} (host : Ghosts H) (m n : LoomMemory H host) (base : Option ℕ) → n ≡ record m { ledger = n.ledger } → n.ledger ≡ record m.ledger { base = base; made = 0 } → HasBegun (loom_told host m) (loom_told host n) base
unfolding loom_told
begun-told {H} host m n base is same = subst (λ (z : LoomMemory H host). HasBegun (told_of host m.pager.levels.disk.host.now m.pager.levels.disk.rest (core_of m.pager.levels.parts) m.regs m.pager.pinned m.ledger) (told_of host z.pager.levels.disk.host.now z.pager.levels.disk.rest (core_of z.pager.levels.parts) z.regs z.pager.pinned z.ledger) base) (sym is)
    (subst (λ (k : Ledger). HasBegun (told_of host m.pager.levels.disk.host.now m.pager.levels.disk.rest (core_of m.pager.levels.parts) m.regs m.pager.pinned m.ledger) (told_of host m.pager.levels.disk.host.now m.pager.levels.disk.rest (core_of m.pager.levels.parts) m.regs m.pager.pinned k) base) (sym same)
    (record { same = refl; bounds = (refl, refl, refl, omega arith, omega arith); settled = refl; base_is = refl }))

begun-kept : {H : Type 0} (host : Ghosts H) (m : LoomMemory H host) (base : Option ℕ) → IsSound host m → IsNumbered base 0 m.ledger.held m.ledger.next (disk_room m.pager.levels.disk.rest) → IsSound host (record m { ledger = record m.ledger { base = base; made = 0 } })
unfolding loom_told IsThin
begun-kept {H} host m base sound numbers =
    let kept = sound.kept in
    let over = sound.over in
    record {
      kept = record { size = kept.size; entries = kept.entries; rooted = kept.rooted; filled = kept.filled; many = kept.many; pinned = kept.pinned; cached = kept.cached };
      over = record { stands = over.stands; backed = over.backed; counted = over.counted; roomy = over.roomy; based = numbers; valued = over.valued };
      soon = sound.soon;
      exact = sound.exact;
      thin = sound.thin;
    }

pub begun-sound : {H : Type 0} (host : Ghosts H) (m : LoomMemory H host) (l : Ledger) (base : Option ℕ) → IsSound host m → IsNumbered base 0 m.ledger.held m.ledger.next (disk_room m.pager.levels.disk.rest) → l ≡ record m.ledger { base = base; made = 0 } → IsSound host (record m { ledger = l })
begun-sound {H} host m l base sound numbers is = subst (λ (k : Ledger). IsSound host (record m { ledger = k })) (sym is) (begun-kept host m base sound numbers)

-- there was room for eight more
pub numbers-none : (base : Option ℕ) (made held next room : ℕ) → IsNumbered base made held next room → held + 8 ≤ room → IsNumbered None 0 held next room
numbers-none base made held next room x low = record {
  most = λ b e. absurd (cc);
  low = λ b e. absurd (cc);
  eight = λ e less. omega (arith, low);
  few = omega arith;
  even = x.even;
}

-- so many are held, and nothing is dead
pub numbers-some : (base : Option ℕ) (made held next room : ℕ) → IsNumbered base made held next room → held ≤ room → IsNumbered (Some held) 0 held next room
numbers-some base made held next room x low = record {
  most = λ b e. let same : held ≡ b = cc in omega (arith, same);
  low = λ b e. let same : held ≡ b = cc in omega (arith, same, low);
  eight = λ e less. absurd (cc);
  few = omega arith;
  even = x.even;
}

-- ---- what settled

-- no object went
pub settled-none : (t u : Told) → IsReady t → HasBegun t u None → HasSettled t u
settled-none t u ready x =
    let heap : u.heap ≡ t.heap = ap (λ (z : Told). z.heap) x.same in
    let cache : u.cache ≡ t.cache = ap (λ (z : Told). z.cache) x.same in
    record {
      same = x.same ∙ (λ i. record t { heap = sym heap i; bounds = u.bounds; cache = sym cache i });
      thinning = λ told. subst (λ (h : Heap). IsThinning t.heap h t.regs t.slots) (sym heap) (IsThinning-refl t.heap t.regs t.slots (ready.whole told));
      marked = λ told n on. subst (λ (h : Heap). Has h n) (sym heap) (ready.marked told n (ap (λ (c : Cache). c.marks n) (sym cache) ∙ on));
      cache = subst (λ (c : Cache). LeavesCache no_names None t.cache t.cache c) (sym cache) (left-refl t.cache);
      bounds = x.bounds;
      settled = x.settled;
      base = go u.bounds x.base_is;
    }
  where
    go : (b : Option Bounds) → IfBounds b (λ b. b.base ≡ None) → IfBounds b (λ b. CountsKept u b.base)
    go None e = tt
    go (Some b) e = subst (λ (o : Option ℕ). CountsKept u o) (sym e) tt

-- dead objects went, and what is left was counted
pub settled-some : (t u v : Told) (base : ℕ) → HasThinned t u → HasBegun u v (Some base) → (IsTrue t.tells → object_count u.heap ≡ base) → (IsTrue t.tells → kept u.heap (is_root u) ≡ u.heap) → HasSettled t v
settled-some t u v base thin x count again =
    let heap : v.heap ≡ u.heap = ap (λ (z : Told). z.heap) x.same in
    let cache : v.cache ≡ u.cache = ap (λ (z : Told). z.cache) x.same in
    let tells : v.tells ≡ t.tells = ap (λ (z : Told). z.tells) x.same ∙ ap (λ (z : Told). z.tells) thin.same in
    record {
      same = x.same ∙ ap (λ (z : Told). record z { bounds = v.bounds }) thin.same ∙ (λ i. record t { heap = sym heap i; bounds = v.bounds; cache = sym cache i });
      thinning = λ told. subst (λ (h : Heap). IsThinning t.heap h t.regs t.slots) (sym heap) (thin.thinning told);
      marked = λ told n on. subst (λ (h : Heap). Has h n) (sym heap) (thin.marked told n (ap (λ (c : Cache). c.marks n) (sym cache) ∙ on));
      cache = subst (λ (c : Cache). LeavesCache no_names None t.cache t.cache c) (sym cache) thin.cache;
      bounds = same-trans t.bounds u.bounds v.bounds thin.bounds x.bounds;
      settled = settled-over t.bounds u.bounds v.bounds thin.bounds x.settled;
      base = go v.bounds x.base_is (λ told. sym (count (sym tells ∙ told)) ∙ ap object_count (sym (again (sym tells ∙ told)) ∙ sym (ap (λ (z : Told). kept z.heap (is_root z)) x.same)));
    }
  where
    settled-over : (a b c : Option Bounds) → SameBounds a b → Settled b c → Settled a c
    settled-over None None c x y = y
    settled-over None (Some b) c x y = absurd x
    settled-over (Some a) None c x y = absurd x
    settled-over (Some a) (Some b) None x y = absurd y
    settled-over (Some a) (Some b) (Some c) x y = y

    go : (b : Option Bounds) → IfBounds b (λ b. b.base ≡ Some base) → (IsTrue v.tells → base ≡ object_count (kept v.heap (is_root v))) → IfBounds b (λ b. CountsKept v b.base)
    go None e is = tt
    go (Some b) e is = subst (λ (o : Option ℕ). CountsKept v o) (sym e) is

-- dead objects went, and how many are left isn't known
pub settled-thin : (t u v : Told) → HasThinned t u → HasBegun u v None → HasSettled t v
settled-thin t u v thin x =
    let heap : v.heap ≡ u.heap = ap (λ (z : Told). z.heap) x.same in
    let cache : v.cache ≡ u.cache = ap (λ (z : Told). z.cache) x.same in
    record {
      same = x.same ∙ ap (λ (z : Told). record z { bounds = v.bounds }) thin.same ∙ (λ i. record t { heap = sym heap i; bounds = v.bounds; cache = sym cache i });
      thinning = λ told. subst (λ (h : Heap). IsThinning t.heap h t.regs t.slots) (sym heap) (thin.thinning told);
      marked = λ told n on. subst (λ (h : Heap). Has h n) (sym heap) (thin.marked told n (ap (λ (c : Cache). c.marks n) (sym cache) ∙ on));
      cache = subst (λ (c : Cache). LeavesCache no_names None t.cache t.cache c) (sym cache) thin.cache;
      bounds = same-trans t.bounds u.bounds v.bounds thin.bounds x.bounds;
      settled = settled-over t.bounds u.bounds v.bounds thin.bounds x.settled;
      base = go v.bounds x.base_is;
    }
  where
    settled-over : (a b c : Option Bounds) → SameBounds a b → Settled b c → Settled a c
    settled-over None None c x y = y
    settled-over None (Some b) c x y = absurd x
    settled-over (Some a) None c x y = absurd x
    settled-over (Some a) (Some b) None x y = absurd y
    settled-over (Some a) (Some b) (Some c) x y = y

    go : (b : Option Bounds) → IfBounds b (λ b. b.base ≡ None) → IfBounds b (λ b. CountsKept v b.base)
    go None e = tt
    go (Some b) e = subst (λ (o : Option ℕ). CountsKept v o) (sym e) tt

-- quiet steps after it
pub settled-quiet : (t u v : Told) → HasSettled t u → IsQuiet u v → HasSettled t v
settled-quiet t u v x quiet =
    let heap : v.heap ≡ u.heap = ap (λ (z : Told). z.heap) quiet.same in
    record {
      same = quiet.same ∙ ap (λ (z : Told). record z { bounds = v.bounds; cache = v.cache }) x.same ∙ ap (λ (h : Heap). record t { heap = h; bounds = v.bounds; cache = v.cache }) (sym heap);
      thinning = λ told. subst (λ (h : Heap). IsThinning t.heap h t.regs t.slots) (sym heap) (x.thinning told);
      marked = λ told n on. subst (λ (h : Heap). Has h n) (sym heap) (still told n on quiet.cache);
      cache = left-trans t.cache u.cache v.cache x.cache quiet.cache;
      bounds = same-trans t.bounds u.bounds v.bounds x.bounds quiet.bounds;
      settled = settled-after t.bounds u.bounds v.bounds x.settled quiet.counts;
      base = go u.bounds v.bounds x.base quiet.counts;
    }
  where
    still : IsTrue t.tells → (n : ℕ) → v.cache.marks n ≡ true → LeavesCache no_names None u.cache u.cache v.cache → Has u.heap n
    still told n on left = ⊎_elim (λ kept. x.marked told n (ap (λ (f : ℕ → Bool). f n) (sym kept.marks) ∙ on)) (λ emptied. absurd (let none = emptied.marks n on in cc)) left

    settled-after : (a b c : Option Bounds) → Settled a b → Raised 0 b c → Settled a c
    settled-after None None None x y = tt
    settled-after None None (Some c) x y = absurd y
    settled-after None (Some b) c x y = absurd x
    settled-after (Some a) None c x y = absurd x
    settled-after (Some a) (Some b) None x y = absurd y
    settled-after (Some a) (Some b) (Some c) x y = let p = x in let q = y.1 in omega (arith, p, q)

    counts : (o : Option ℕ) → CountsKept u o → CountsKept v o
    counts None c = tt
    counts (Some base) c = λ told. c (ap (λ (z : Told). z.tells) (sym quiet.same) ∙ told) ∙ ap (λ (z : Told). object_count (kept z.heap (is_root z))) (sym quiet.same)

    go : (b c : Option Bounds) → IfBounds b (λ b. CountsKept u b.base) → Raised 0 b c → IfBounds c (λ c. CountsKept v c.base)
    go b None x y = tt
    go None (Some c) x y = absurd y
    go (Some b) (Some c) x y = subst (λ (o : Option ℕ). CountsKept v o) (sym y.0) (counts b.base x)

pub settled-ready : (t u : Told) → HasSettled t u → IsReady t → IsReady u
settled-ready t u x ready = subst (λ (z : Told). IsReady z) (sym x.same) (record { whole = λ told. (x.thinning told).whole; marked = x.marked; cached = (left-ready t u.bounds u.cache x.cache ready).cached })

-- ---- the call

pub settled-called : (t u : Told) → HasSettled t u → Called {A = Unit {0}} t u Settles (Ok tt)
settled-called t u x = subst (λ (z : Told). Called {A = Unit {0}} t z Settles (Ok tt)) (sym x.same) (record {
  later = record { tells = refl; speaks = refl; bounds = x.bounds; refusals = omega arith };
  ok = record {
    regs = refl;
    brings = tt;
    slots = refl;
    transcript = λ told. refl;
    heap = λ told. (x.thinning told).thinner;
    cache = x.cache;
    counts = x.settled;
    base = subst (λ (z : Told). IfBounds z.bounds (λ b. CountsKept z b.base)) x.same x.base;
    refusals = refl;
    last = refl;
  };
  err = tt;
})

faults-below : (a b : Option Bounds) → SameBounds a b → work_faults a ≤ work_faults b
faults-below None None x = omega arith
faults-below None (Some b) x = absurd x
faults-below (Some a) None x = absurd x
faults-below (Some a) (Some b) x = x.3

cause-settled : (t u w : Told) (f : MemFault) → HasSettled t u → IsLost f → HasCause u w Settles f → HasCause t w Settles f
cause-settled t u w (WorkFault count) x lost cause = (cause.0, (let rose = cause.1 in let low = faults-below t.bounds u.bounds x.bounds in omega (arith, rose, low)))
cause-settled t u w (Damaged place name) x lost cause = λ told. cause (ap (λ (z : Told). z.tells) x.same ∙ told)
cause-settled t u w (CoreFull need) x lost cause = absurd lost
cause-settled t u w (WorkFull live room) x lost cause = absurd lost
cause-settled t u w NamesSpent x lost cause = absurd lost
cause-settled t u w (Said count) x lost cause = absurd lost
cause-settled t u w Memory x lost cause = absurd lost

lost-left : (f : MemFault) (P : Type 0) → IsLost f → LeavesAll f P
lost-left (WorkFault count) P lost = tt
lost-left (Damaged place name) P lost = tt
lost-left (CoreFull need) P lost = absurd lost
lost-left (WorkFull live room) P lost = absurd lost
lost-left NamesSpent P lost = absurd lost
lost-left (Said count) P lost = absurd lost
lost-left Memory P lost = absurd lost

after-settled : (t u w : Told) (f : MemFault) → HasSettled t u → IsLost f → IsRefusedCall u w Settles f → IsRefusedCall t w Settles f
after-settled t u w f x lost both =
    let tells : u.tells ≡ t.tells = ap (λ (z : Told). z.tells) x.same in
    let speaks : u.speaks ≡ t.speaks = ap (λ (z : Told). z.speaks) x.same in
    let said : u.transcript ≡ t.transcript = ap (λ (z : Told). z.transcript) x.same in
    let times_ : u.refusals ≡ t.refusals = ap (λ (z : Told). z.refusals) x.same in (
      record { tells = both.0.tells ∙ tells; speaks = both.0.speaks ∙ speaks; bounds = same-trans t.bounds u.bounds w.bounds x.bounds both.0.bounds; refusals = (let low = both.0.refusals in omega (arith, low, times_)) },
      record {
        rose = subst (λ (n : ℕ). Rose n w.refusals) times_ both.1.rose;
        last = both.1.last;
        cause = cause-settled t u w f x lost both.1.cause;
        spent = λ make told past. absurd make;
        counts = tt;
        transcript = λ told. both.1.transcript (speaks ∙ told) ∙ said;
        left = lost-left f _ lost;
      },
    )

refused-call : (t u : Told) (f : MemFault) → IsRefusedCall t u Settles f → Called {A = Unit {0}} t u Settles (Err f)
refused-call t u f both = record { later = both.0; ok = tt; err = both.1 }

-- after the disk was settled, entries are freed
pub settle-last : (r : Result (Unit {0}) MemFault) (t u v : Told) → HasSettled t u → OnOk r (IsQuiet u v) → IfErr r (IsRefusedCall u v Settles) → IfErr r IsLost → Called {A = Unit {0}} t v Settles r
settle-last (Ok x) t u v settled quiet err lost = settled-called t v (settled-quiet t u v settled quiet)
settle-last (Err f) t u v settled quiet err lost = refused-call t v f (after-settled t u v f settled lost err)

pub settle-refused : (t u : Told) (f : MemFault) → IsRefusedCall t u Settles f → Called {A = Unit {0}} t u Settles (Err f)
settle-refused t u f both = refused-call t u f both

pub settle-now : (r : Result (Unit {0}) MemFault) (t u v : Told) → HasSettled t u → OnOk r (IsQuiet u v) → IsReady t → OnOk r (IsReady v)
settle-now (Ok x) t u v settled quiet ready = settled-ready t v (settled-quiet t u v settled quiet) ready
settle-now (Err f) t u v settled quiet ready = tt

-- what was so of a step before a step that leaves the numbers
pub settle-fetches : {H : Type 0} {host : Ghosts H} (r : Result (Unit {0}) MemFault) (m u v : LoomMemory H host) → fetched u ≡ fetched m → OnOk r (v.ledger ≡ u.ledger) → OnOk r (fetched v ≡ fetched m)
unfolding fetched
settle-fetches {H} {host} (Ok x) m u v was same = ap (λ (k : Ledger). k.fetches) same ∙ was
settle-fetches {H} {host} (Err f) m u v was same = tt

-- ---- what stays in the core

-- nothing but numbers changed
pub bodies-anew : (p : Parts) (t u : Told) (base : Option ℕ) (q r : Parts) → HasBegun t u base → r ≡ q → KeepsHeld (core_of p) (core_of q) t.heap → KeepsHeld (core_of p) (core_of r) u.heap
bodies-anew p t u base q r begun same x = subst (λ (z : Parts). KeepsHeld (core_of p) (core_of z) u.heap) (sym same) (subst (λ (h : Heap). KeepsHeld (core_of p) (core_of q) h) (sym (ap (λ (z : Told). z.heap) begun.same)) x)

pub bodies-same : (p r : Parts) (h : Heap) → r ≡ p → KeepsHeld (core_of p) (core_of r) h
bodies-same p r h same = subst (λ (z : Parts). KeepsHeld (core_of p) (core_of z) h) (sym same) (λ s at place has. body-stays (core_of p) s at place)

-- each object in the core that is held then is there
pub held-residents : {H : Type 0} {host : Ghosts H} (m n : LoomMemory H host) (h : Heap) → IsCore (core_of m.pager.levels.parts) → IsCore (core_of n.pager.levels.parts) → KeepsHeld (core_of m.pager.levels.parts) (core_of n.pager.levels.parts) h → (k : ℕ) → IsTrue (is_resident m k) → Has h k → IsTrue (is_resident n k)
unfolding is_resident
held-residents {H} {host} m n h core now bodies k here has = go ((core_of m.pager.levels.parts).find k) refl here
  where
    go : (x : Option ℕ) → (core_of m.pager.levels.parts).find k ≡ x → has_body (core_of m.pager.levels.parts) x ≡ true → has_body (core_of n.pager.levels.parts) ((core_of n.pager.levels.parts).find k) ≡ true
    go None e here = absurd (cc)
    go (Some s) e here = at (place_of ((core_of m.pager.levels.parts).entries s).state) refl here
      where
        at : (x : Option ℕ) → place_of ((core_of m.pager.levels.parts).entries s).state ≡ x → is_some x ≡ true → has_body (core_of n.pager.levels.parts) ((core_of n.pager.levels.parts).find k) ≡ true
        at None f here = absurd (cc)
        at (Some p) f here =
            let still = bodies s p f (subst (λ (i : ℕ). Has h i) (sym (core.named k s e)) has) in
            let found : (core_of n.pager.levels.parts).find k ≡ Some s = ap (core_of n.pager.levels.parts).find (sym (still.name ∙ core.named k s e)) ∙ now.found s (placed-used ((core_of n.pager.levels.parts).entries s).state still.at still.place) in
            ap (λ (x : Option ℕ). has_body (core_of n.pager.levels.parts) x) found ∙ ap (λ (x : Option ℕ). is_some x) still.place

-- where so many entries are free, each object in the core that is still held stays there
pub settle-stays : {H : Type 0} (r : Result (Unit {0}) MemFault) (host : Ghosts H) (m u v : LoomMemory H host) → IsCore (core_of m.pager.levels.parts) → IsCore (core_of u.pager.levels.parts) → spare_of m.pager.levels.parts ≤ spare_of u.pager.levels.parts
    → (IsTrue (host.tells Work) → KeepsHeld (core_of m.pager.levels.parts) (core_of u.pager.levels.parts) (loom_told host u).heap) → OnOk r (128 ≤ spare_of u.pager.levels.parts → v ≡ u)
    → OnOk r (128 ≤ spare_of m.pager.levels.parts → IsTrue (host.tells Work) → (k : ℕ) → IsTrue (is_resident m k) → Has (loom_told host v).heap k → IsTrue (is_resident v k))
settle-stays {H} (Ok x) host m u v core now more bodies same = λ enough told k here.
    subst (λ (z : LoomMemory H host). Has (loom_told host z).heap k → IsTrue (is_resident z k)) (sym (same (omega (arith, more, enough)))) (held-residents m u (loom_told host u).heap core now (bodies told) k here)
settle-stays {H} (Err f) host m u v core now more bodies same = tt

-- ---- where there is nothing to do

pub anew-rested : {H : Type 0} {host : Ghosts H} (m u v : LoomMemory H host) → u ≡ m → v ≡ (record u { ledger = record u.ledger { base = None; made = 0 } }) → HasRested m v (Ok tt)
anew-rested {H} {host} m u v first last = record { ok = refl; same = last ∙ ap (λ (z : LoomMemory H host). record z { ledger = record z.ledger { base = None; made = 0 } }) first }

-- no making is counted, and as many are held, where none went
pub rested-room : {H : Type 0} {host : Ghosts H} (r : Result (Unit {0}) MemFault) (m v : LoomMemory H host) → OnOk r (v.ledger.base ≡ None) → (128 ≤ spare_of m.pager.levels.parts → HasRested m v r) → OnOk r ((v.ledger.base ≡ None) × (128 ≤ spare_of m.pager.levels.parts → v.ledger.held ≡ m.ledger.held))
rested-room {H} {host} (Ok x) m v none rests = (none, λ enough. ap (λ (z : LoomMemory H host). z.ledger.held) (rests enough).same)
rested-room {H} {host} (Err f) m v none rests = tt

pub rested-idle : {H : Type 0} {host : Ghosts H} (r : Result (Unit {0}) MemFault) (m v : LoomMemory H host) → HasRested m v r → OnOk r (IsIdle m v)
unfolding fetched
rested-idle {H} {host} (Ok x) m v is = record {
  host = ap (λ (z : LoomMemory H host). z.pager.levels.disk.host.now) is.same;
  rest = ap (λ (z : LoomMemory H host). z.pager.levels.disk.rest) is.same;
  fetches = ap (λ (z : LoomMemory H host). z.ledger.fetches) is.same;
}
rested-idle {H} {host} (Err f) m v is = tt

pub rested-cached : {H : Type 0} (r : Result (Unit {0}) MemFault) (host : Ghosts H) (m v : LoomMemory H host) → HasRested m v r → OnOk r (KeepsCache host m v)
unfolding loom_told
rested-cached {H} (Ok x) host m v is = ap (λ (z : LoomMemory H host). cache_of (core_of z.pager.levels.parts) (found z.ledger.rows) z.ledger.mark z.ledger.begun) is.same
rested-cached {H} (Err f) host m v is = tt

-- no object had to go: the heap is as it was, whatever left the core
pub rested-whole : {H : Type 0} (r : Result (Unit {0}) MemFault) (host : Ghosts H) (m u v : LoomMemory H host) → u ≡ (record m { ledger = record m.ledger { base = None; made = 0 } }) → OnOk r (IsQuiet (loom_told host u) (loom_told host v))
    → OnOk r ((loom_told host v).heap ≡ (loom_told host m).heap)
unfolding loom_told
rested-whole {H} (Ok x) host m u v same quiet = ap (λ (z : Told). z.heap) quiet.same ∙ ap (λ (z : LoomMemory H host). heap_if (host.tells Work) (held (core_of z.pager.levels.parts) (disk_of host z.pager.levels.disk.host.now z.pager.levels.disk.rest)) z.ledger.next) same
rested-whole {H} (Err f) host m u v same quiet = tt

pub told-each : {T : Type 0} (P Q : Type 0) (r : Result T MemFault) → OnOk r Q → OnOk r (P → Q)
told-each {T} P Q (Ok x) q = λ p. q
told-each {T} P Q (Err f) q = tt
