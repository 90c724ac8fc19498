-- Dead objects go, and what is told of the rest stays.
use Rattle.std.proofs.Common.{zero, suc, inl, inr, ◌≡◌, ◌≢◌, ℕ, ◌+◌, ◌≤◌, ◌||◌, Bool, true, false, cond, eqb, eqb-true, List, [], ◌∷◌, count_by, Option, Some, None, IsTrue, refl, sym, ◌∙◌, ap, ap₂, subst, add-zero, arith}
use Rattle.std.proofs.lemmas.Grind.{common_steps}
use Rattle.long_names.specs.declared.value.Value.{Value}
use Rattle.long_names.specs.declared.value.Value.TheVariants.{Ref}
use Rattle.long_names.specs.Heap.{Heap, Has, IsBounded, count_of, object_count}
use Rattle.long_names.specs.Kept.{kept}
use Rattle.long_names.specs.Names.{is_known}
use Rattle.long_names.specs.State.{IsRef}
use Rattle.long_names.specs.Thin.{IsThinner, IsWhole}
use Rattle.loom_host.specs.declared.outside.DiskFault.{DiskFault}
use Rattle.loom_host.specs.declared.outside.DiskFault.TheVariants as fault
use Rattle.loom_host.specs.declared.outside.Host.{Ghosts}
use Rattle.loom_host.specs.declared.outside.Role.TheVariants.{Work, Transcript}
use Rattle.loom_host.specs.Outside.{RoleState}
use Rattle.loom_host.specs.Work.{IsWorkOnly, work_of}
use Rattle.object_table.specs.Entries.{is_short, is_used}
use Rattle.disk_objects.specs.declared.rest.DiskRest.{DiskRest}
use Rattle.disk_objects.specs.Disk.{disk_held, disk_room}
use Rattle.disk_objects.specs.Function.{disk_of}
use Rattle.core_view.specs.Core.{Core}
use Rattle.core_view.specs.Counts.{names, one, marked_by, marked_of}
use Rattle.core_view.specs.Held.{Disk, held}
use Rattle.core_view.specs.Kept.{IsValued}
use Rattle.core_view.specs.Purge.{fresh_of}
use Rattle.core_view.specs.Words.{meant}
use Rattle.core_view.proofs.Core.{placed-used}
use Rattle.core_view.proofs.Lists.{count-some, one-here}
use Rattle.core_view.proofs.Steps.{outside-used}
use Rattle.core_view.proofs.Words.{meant-short}
use Rattle.method_cache.specs.Found.{found}
use Rattle.leaf_lambda.specs.declared.parts.Parts.{Parts}
use Rattle.leaf_lambda.specs.Parts.{core_of}
use Rattle.core_view.specs.Levels.{Levels, heap_of}
use Rattle.core_view.specs.Counted.{IsSound as AreSound}
use Rattle.core_view.specs.Dead.{outside_by, roots_of}
use Rattle.core_view.proofs.DeadLaws.{bounded}
use Rattle.delta_counts.proofs.NumberLaws.{held-on_disk}
use Rattle.purger.specs.declared.room.Pinned.{Pinned}
use Rattle.purger.specs.Counts.{StandsFor}
use Rattle.purger.specs.Purge.{IsPurgeFault, IsReadFault}
use Rattle.purger.specs.declared.pager.Pager.{Pager}
use Rattle.purger.specs.Freeing.{FreesAll, LeavesNamed, ThinsHeap}
use Rattle.purger.specs.Draining.{AreNamed, DrainsDead, IsDrainedOf, KeepsHeld, LeavesRest}
use Rattle.purger.proofs.SoundLaws.{core-at, disk-at, sound-backed}
use Rattle.purger.proofs.ThinLaws.{thinned-number}
use Rattle.object_memory.specs.Told.{Told, is_root}
use Rattle.object_memory.specs.declared.fault.MemFault.{MemFault}
use Rattle.object_memory.specs.Contract.{LeavesAll}
use Rattle.leaf_lambda.specs.Whole.{IsWhole as AreWhole}
use Rattle.loom_memory.specs.declared.ledger.Ledger.{Ledger}
use Rattle.loom_memory.specs.Memory.{word_in, pin_in, name_if, heap_if, told_of, IsExact, IsKept, IsOver, IsPinned, IsRefusalOf, IsSound, IsStillNamed, NothingDead}
use Rattle.loom_memory.specs.Gentle.{IsCalm}
use Rattle.loom_memory.specs.declared.memory.LoomMemory.{LoomMemory}
use Rattle.loom_memory.specs.Makings.{HasKept, HasThinned}
use Rattle.loom_memory.specs.Numbers.{IsNumbered}
use Rattle.loom_memory.proofs.BringLaws.{ref-short}
use Rattle.loom_memory.proofs.CacheLaws.{cache-left}
use Rattle.loom_memory.proofs.CalmLaws.{calm-kept, calm-regs, calm-slots, purged-calm, transcript-away}
use Rattle.loom_memory.proofs.ExactLaws.{exact-has, levels-told}
use Rattle.loom_memory.proofs.RegLaws.{IsRooted, count-append, kept-rooted, register-held, word-there}
use Rattle.loom_memory.proofs.RootLaws.{free-told, kept-again, kept-told}

-- ---- what registers and slots hold stays

-- the object of a slot is named from outside
pub pinned-named : (c : Core) (regs : List ℕ) (pins : Pinned) → IsRooted c regs pins → AreNamed pins.a pins.b pins.d c
pinned-named c regs pins root s p among at =
    let out = root.outside s in
    let split = count-append s regs (pins.a ∷ (pins.b ∷ (pins.d ∷ []))) in
    let some = go (eqb s pins.a) refl in
    omega (arith, out, split, some)
  where
    three : List ℕ
    three = pins.a ∷ (pins.b ∷ (pins.d ∷ []))

    here : one s s ≡ 1
    here = one-here s (root.core.short s (placed-used (c.entries s).state p at))

    last : (b : Bool) → eqb s pins.b ≡ b → eqb s pins.a ≡ false → 1 ≤ count_by (names s) three
    last true e f =
        let same : s ≡ pins.b = eqb-true s pins.b e in
        let is : one s pins.b ≡ 1 = ap (one s) (sym same) ∙ here in
        let some = count-some s three 1 pins.b refl in
        omega (arith, is, some)
    last false e f =
        let third : eqb s pins.d ≡ true = sym (ap (λ (b : Bool). b || (eqb s pins.b || eqb s pins.d)) f ∙ ap (λ (b : Bool). b || eqb s pins.d) e) ∙ among in
        let same : s ≡ pins.d = eqb-true s pins.d third in
        let is : one s pins.d ≡ 1 = ap (one s) (sym same) ∙ here in
        let some = count-some s three 2 pins.d refl in
        omega (arith, is, some)

    go : (b : Bool) → eqb s pins.a ≡ b → 1 ≤ count_by (names s) three
    go true e =
        let same : s ≡ pins.a = eqb-true s pins.a e in
        let is : one s pins.a ≡ 1 = ap (one s) (sym same) ∙ here in
        let some = count-some s three 0 pins.a refl in
        omega (arith, is, some)
    go false e = last (eqb s pins.b) refl e

pub thin-calm : (p q : Parts) (regs : List ℕ) (pins : Pinned) → IsRooted (core_of p) regs pins → LeavesRest p q → IsCalm pins (core_of p) (core_of q)
thin-calm p q regs pins root left = purged-calm pins (core_of p) (core_of q) (left.purged pins.a pins.b pins.d (pinned-named (core_of p) regs pins root)) left.marks (λ h. left.here)

-- what is told stays, but for the heap, the bounds and the cache
thinned-told : {H : Type 0} (host : Ghosts H) (old new : H) (rest now : DiskRest) (x y : Core) (regs : List ℕ) (pins : Pinned) (k : Ledger) (n : ℕ) → IsRooted x regs pins → IsCalm pins x y → host.roles new Transcript ≡ host.roles old Transcript
    → told_of host new now y regs pins (record k { held = n }) ≡ record (told_of host old rest x regs pins k) { heap = (told_of host new now y regs pins k).heap; bounds = (told_of host new now y regs pins k).bounds; cache = (told_of host new now y regs pins k).cache }
thinned-told {H} host old new rest now x y regs pins k n root calm said =
    let regs' = calm-regs x y regs pins root calm in
    let slots' = calm-slots x y regs pins root calm in
    let put_ : (host.roles new Transcript).put ≡ (host.roles old Transcript).put = ap (λ (r : RoleState). r.put) said in
    λ i. record (told_of host new now y regs pins k) { regs = regs' i; slots = slots' i; transcript = put_ i }

-- ---- what registers, slots and marks name is held

pub entry-has : (t : Levels) (s n : ℕ) → AreSound t [] → is_used (t.core.entries s).state ≡ true → (t.core.entries s).name ≡ n → Has (heap_of t) n
entry-has t s n x used name = x.counted.entered n s (ap t.core.find (sym name) ∙ x.core.found s used)

ref-of : (c : Core) (w n : ℕ) → w ≢ 0 → meant c.entries [] 0 w ≡ Ref n → (is_short w ≡ true) × ((c.entries w).name ≡ n)
ref-of c w n some means =
    let short = ref-short c w some (subst IsRef (sym means) tt) in
    let same : Ref (c.entries w).name ≡ Ref n = sym (meant-short c.entries [] 0 w short) ∙ means in
    (short, cc)

levels-whole : (t : Levels) (regs : List ℕ) (pins : Pinned) → AreSound t [] → IsRooted t.core regs pins → ((r : ℕ) → word_in regs r ≢ 0) → IsWhole (heap_of t) (λ r. meant t.core.entries [] 0 (word_in regs r)) (λ i. name_if t.core.entries (pin_in pins i))
levels-whole t regs pins x root filled = record {
  known = x.heap.known;
  below = x.heap.below;
  closed = x.heap.closed;
  rooted = λ r n e.
      let w = word_in regs r in
      let is = ref-of t.core w n (filled r) e in
      let held = register-held t.core regs pins r w root (word-there regs r is.0) is.0 in
      entry-has t w n x (outside-used t.core w x.core held) is.1;
  pinned = λ i n e. slot (pin_in pins i) n (root.pinned i) (eqb (pin_in pins i) 0) refl e;
}
  where
    slot : (w n : ℕ) → IsPinned t.core w → (b : Bool) → eqb w 0 ≡ b → cond b None (Some (t.core.entries w).name) ≡ Some n → Has (heap_of t) n
    slot w n pin true e f = absurd (let bad : None ≡ Some n = f in cc)
    slot w n pin false e f =
        let some : w ≢ 0 = (λ h. let there : eqb w 0 ≡ true = grind (arith, common_steps) in absurd (let no_ : true ≡ false = sym there ∙ e in cc)) in
        let at = pin some in
        entry-has t w n x (placed-used (t.core.entries w).state at.1.0 at.1.1) (let same : Some (t.core.entries w).name ≡ Some n = f in cc)

levels-marked : (t : Levels) (n : ℕ) → AreSound t [] → marked_of t.core n ≡ true → Has (heap_of t) n
levels-marked t n x on = go (t.core.find n) refl on
  where
    go : (o : Option ℕ) → t.core.find n ≡ o → marked_by t.core.entries o ≡ true → Has (heap_of t) n
    go None e f = absurd (let bad : false ≡ true = f in cc)
    go (Some s) e f = x.counted.entered n s e

-- ---- the heap is thinner, and just what is kept

-- what dead objects leave
record IsLeft {H : Type 0} (host : Ghosts H) (p q : Parts) (was now : H) (before rest : DiskRest) (n : ℕ) : Type 0 where
  old : Levels
  old_at : StandsFor host p was before old
  old_sound : AreSound old []
  old_next : old.next ≡ n
  drained : IsDrainedOf host p q now rest old

left-of : {H : Type 0} (host : Ghosts H) (p q : Parts) (was now : H) (before rest : DiskRest) (n : ℕ) → IsExact host p was before n [] → (IsTrue (host.tells Work) → DrainsDead host p was before q now rest) → IsTrue (host.tells Work) → IsLeft host p q was now before rest n
left-of host p q was now before rest n x drained told = let e = x told in record { old = e.0; old_at = e.1; old_sound = e.2; old_next = e.3; drained = drained told e.0 e.1 e.2 }

new-next : {H : Type 0} (host : Ghosts H) (p q : Parts) (was now : H) (before rest : DiskRest) (n : ℕ) (x : IsLeft host p q was now before rest n) → x.drained.thinned.levels.next ≡ n
new-next host p q was now before rest n x = x.drained.thinned.thinner.next ∙ x.old_next

pub thin-exact : {H : Type 0} (host : Ghosts H) (p q : Parts) (was now : H) (before rest : DiskRest) (n : ℕ) → IsExact host p was before n [] → (IsTrue (host.tells Work) → DrainsDead host p was before q now rest) → IsExact host q now rest n []
thin-exact host p q was now before rest n x drained told =
    let left = left-of host p q was now before rest n x drained told in
    (left.drained.thinned.levels, left.drained.thinned.at, left.drained.thinned.sound, new-next host p q was now before rest n left)

pub record IsThinStep {H : Type 0} (host : Ghosts H) (p q : Parts) (was now : H) (before rest : DiskRest) (regs : List ℕ) (pins : Pinned) (k : Ledger) : Type 0 where
  pub whole : AreWhole p
  pub kept : IsKept p regs pins k
  pub exact : IsExact host p was before k.next []
  pub leaves : LeavesRest p q
  pub drained : IsTrue (host.tells Work) → DrainsDead host p was before q now rest
  pub work : IsWorkOnly host was now
  pub limit : disk_room rest ≡ disk_room before

-- what freeing leaves of a memory
pub thin-freed : {H : Type 0} (host : Ghosts H) (m : LoomMemory H host) (p : Pager H host) → IsSound host m → LeavesNamed m.pager p → (IsTrue (host.tells Work) → FreesAll m.pager p)
    → IsThinStep host m.pager.levels.parts p.levels.parts m.pager.levels.disk.host.now p.levels.disk.host.now m.pager.levels.disk.rest p.levels.disk.rest m.regs m.pager.pinned m.ledger
thin-freed host m p sound leaves drained = record { whole = m.pager.levels.whole; kept = sound.kept; exact = sound.exact; leaves = leaves.rest; drained = drained; work = leaves.disk.work; limit = leaves.disk.limit }

step-calm : {H : Type 0} (host : Ghosts H) (p q : Parts) (was now : H) (before rest : DiskRest) (regs : List ℕ) (pins : Pinned) (k : Ledger) → IsThinStep host p q was now before rest regs pins k → IsCalm pins (core_of p) (core_of q)
step-calm host p q was now before rest regs pins k x = thin-calm p q regs pins (kept-rooted p regs pins k x.whole x.kept) x.leaves

step-kept : {H : Type 0} (host : Ghosts H) (p q : Parts) (was now : H) (before rest : DiskRest) (regs : List ℕ) (pins : Pinned) (k : Ledger) → IsThinStep host p q was now before rest regs pins k → IsKept q regs pins k
step-kept host p q was now before rest regs pins k x = calm-kept p q regs pins k x.whole x.kept (step-calm host p q was now before rest regs pins k x) x.leaves.parts x.leaves.size

step-rooted : {H : Type 0} (host : Ghosts H) (p q : Parts) (was now : H) (before rest : DiskRest) (regs : List ℕ) (pins : Pinned) (k : Ledger) → IsThinStep host p q was now before rest regs pins k → IsRooted (core_of q) regs pins
step-rooted host p q was now before rest regs pins k x =
    let y = step-kept host p q was now before rest regs pins k x in
    record { core = x.leaves.parts.core; outside = y.rooted; pinned = y.pinned }

pub thin-kept : {H : Type 0} (host : Ghosts H) (p q : Parts) (was now : H) (before rest : DiskRest) (regs : List ℕ) (pins : Pinned) (k : Ledger) (n : ℕ) → IsThinStep host p q was now before rest regs pins k → IsKept q regs pins (record k { held = n })
thin-kept host p q was now before rest regs pins k n x =
    let y = step-kept host p q was now before rest regs pins k x in
    record { size = y.size; entries = y.entries; rooted = y.rooted; filled = y.filled; many = y.many; pinned = y.pinned; cached = y.cached }

-- what is told of the levels that are left
record IsToldBy {H : Type 0} (host : Ghosts H) (p q : Parts) (was now : H) (before rest : DiskRest) (regs : List ℕ) (pins : Pinned) (k : Ledger) : Type 0 where
  left : IsLeft host p q was now before rest k.next
  old_heap : heap_if (host.tells Work) (held (core_of p) (disk_of host was before)) k.next ≡ heap_of left.old
  new_heap : heap_if (host.tells Work) (held (core_of q) (disk_of host now rest)) k.next ≡ heap_of left.drained.thinned.levels
  core : core_of q ≡ left.drained.thinned.levels.core

told-by : {H : Type 0} (host : Ghosts H) (p q : Parts) (was now : H) (before rest : DiskRest) (regs : List ℕ) (pins : Pinned) (k : Ledger) → IsThinStep host p q was now before rest regs pins k → IsTrue (host.tells Work) → IsToldBy host p q was now before rest regs pins k
told-by host p q was now before rest regs pins k x told =
    let left = left-of host p q was now before rest k.next x.exact x.drained told in
    record {
      left = left;
      old_heap = levels-told host p was before left.old k.next left.old_at left.old_next told;
      new_heap = levels-told host q now rest left.drained.thinned.levels k.next left.drained.thinned.at (new-next host p q was now before rest k.next left) told;
      core = core-at host q now rest left.drained.thinned.levels left.drained.thinned.at;
    }

step-whole : {H : Type 0} (host : Ghosts H) (p q : Parts) (was now : H) (before rest : DiskRest) (regs : List ℕ) (pins : Pinned) (k : Ledger) → IsThinStep host p q was now before rest regs pins k → (y : IsToldBy host p q was now before rest regs pins k)
    → IsWhole (heap_of y.left.drained.thinned.levels) (λ r. meant (core_of q).entries [] 0 (word_in regs r)) (λ i. name_if (core_of q).entries (pin_in pins i))
step-whole host p q was now before rest regs pins k x y =
    let t : Levels = y.left.drained.thinned.levels in
    let kept_ = step-kept host p q was now before rest regs pins k x in
    let root = subst (λ (c : Core). IsRooted c regs pins) y.core (step-rooted host p q was now before rest regs pins k x) in
    subst (λ (c : Core). IsWhole (heap_of t) (λ r. meant c.entries [] 0 (word_in regs r)) (λ i. name_if c.entries (pin_in pins i))) (sym y.core) (levels-whole t regs pins y.left.drained.thinned.sound root kept_.filled)

pub thin-told : {H : Type 0} (host : Ghosts H) (p q : Parts) (was now : H) (before rest : DiskRest) (regs : List ℕ) (pins : Pinned) (k : Ledger) (n : ℕ) → IsThinStep host p q was now before rest regs pins k
    → HasThinned (told_of host was before (core_of p) regs pins k) (told_of host now rest (core_of q) regs pins (record k { held = n }))
thin-told host p q was now before rest regs pins k n x =
    let calm = step-calm host p q was now before rest regs pins k x in
    let root = kept-rooted p regs pins k x.whole x.kept in
    record {
      same = thinned-told host was now before rest (core_of p) (core_of q) regs pins k n root calm (x.work.others Transcript transcript-away);
      thinning = λ told.
          let y = told-by host p q was now before rest regs pins k x told in
          record {
            thinner = subst (λ (h : Heap). IsThinner h (heap_if (host.tells Work) (held (core_of q) (disk_of host now rest)) k.next)) (sym y.old_heap)
                (subst (λ (h : Heap). IsThinner (heap_of y.left.old) h) (sym y.new_heap) y.left.drained.thinned.thinner);
            whole = subst (λ (h : Heap). IsWhole h (λ r. meant (core_of p).entries [] 0 (word_in regs r)) (λ i. name_if (core_of p).entries (pin_in pins i))) (sym y.new_heap)
                (subst (λ (f : ℕ → Value). IsWhole (heap_of y.left.drained.thinned.levels) f (λ i. name_if (core_of p).entries (pin_in pins i))) (calm-regs (core_of p) (core_of q) regs pins root calm)
                (subst (λ (f : ℕ → Option ℕ). IsWhole (heap_of y.left.drained.thinned.levels) (λ r. meant (core_of q).entries [] 0 (word_in regs r)) f) (calm-slots (core_of p) (core_of q) regs pins root calm)
                (step-whole host p q was now before rest regs pins k x y)));
          };
      marked = λ told m on.
          let y = told-by host p q was now before rest regs pins k x told in
          subst (λ (h : Heap). Has h m) (sym y.new_heap) (levels-marked y.left.drained.thinned.levels m y.left.drained.thinned.sound (ap (λ (c : Core). marked_of c m) (sym y.core) ∙ on));
      cache = cache-left (core_of p) (core_of q) (found k.rows) k.mark k.begun x.whole.parts.core x.leaves.parts.core x.leaves.marks x.kept.cached;
      bounds = (refl, refl, x.limit, x.work.later, (let said = x.work.other_faults Transcript transcript-away in omega (arith, said)));
      counts = (refl, sym (add-zero k.made));
    }

step-free : {H : Type 0} (host : Ghosts H) (p q : Parts) (was now : H) (before rest : DiskRest) (regs : List ℕ) (pins : Pinned) (k : Ledger) (n : ℕ) → IsThinStep host p q was now before rest regs pins k → (y : IsToldBy host p q was now before rest regs pins k)
    → (m : ℕ) → is_root (told_of host now rest (core_of q) regs pins (record k { held = n })) m ≡ false → roots_of y.left.drained.thinned.levels m ≡ 0
step-free host p q was now before rest regs pins k n x y m out =
    let kept_ = step-kept host p q was now before rest regs pins k x in
    subst (λ (c : Core). outside_by c (c.find m) ≡ 0) y.core (free-told (core_of q) regs pins m (step-rooted host p q was now before rest regs pins k x) kept_.many out)

pub thin-is-kept : {H : Type 0} (host : Ghosts H) (p q : Parts) (was now : H) (before rest : DiskRest) (regs : List ℕ) (pins : Pinned) (k : Ledger) (n : ℕ) → IsThinStep host p q was now before rest regs pins k
    → HasKept (told_of host was before (core_of p) regs pins k) (told_of host now rest (core_of q) regs pins (record k { held = n }))
thin-is-kept host p q was now before rest regs pins k n x = λ told.
    let y = told-by host p q was now before rest regs pins k x told in
    let thin = thin-told host p q was now before rest regs pins k n x in
    kept-told (told_of host was before (core_of p) regs pins k) (told_of host now rest (core_of q) regs pins (record k { held = n })) y.left.drained.thinned.levels thin told
    (subst (λ (h : Heap). IsBounded h) (sym y.old_heap) (bounded (heap_of y.left.old) y.left.old_sound.heap)) y.new_heap y.left.drained.thinned.sound y.left.drained.none
    (λ m out. step-free host p q was now before rest regs pins k n x y m (ap (λ (t : Told). is_root t m) thin.same ∙ out))

pub thin-again : {H : Type 0} (host : Ghosts H) (p q : Parts) (was now : H) (before rest : DiskRest) (regs : List ℕ) (pins : Pinned) (k : Ledger) (n : ℕ) → IsThinStep host p q was now before rest regs pins k → IsTrue (host.tells Work)
    → kept (told_of host now rest (core_of q) regs pins (record k { held = n })).heap (is_root (told_of host now rest (core_of q) regs pins (record k { held = n }))) ≡ (told_of host now rest (core_of q) regs pins (record k { held = n })).heap
thin-again host p q was now before rest regs pins k n x told =
    let y = told-by host p q was now before rest regs pins k x told in
    kept-again (told_of host now rest (core_of q) regs pins (record k { held = n })) y.left.drained.thinned.levels y.new_heap y.left.drained.thinned.sound y.left.drained.none (step-free host p q was now before rest regs pins k n x y)

-- and nothing that is left is dead
pub thin-nothing : {H : Type 0} (host : Ghosts H) (p q : Parts) (was now : H) (before rest : DiskRest) (regs : List ℕ) (pins : Pinned) (k : Ledger) (n : ℕ) → IsThinStep host p q was now before rest regs pins k
    → NothingDead (told_of host now rest (core_of q) regs pins (record k { held = n }))
thin-nothing host p q was now before rest regs pins k n x told m has = go (is_known m) refl (is_root u m) refl (count_of u.heap m) refl where
  u : Told
  u = told_of host now rest (core_of q) regs pins (record k { held = n })

  y : IsToldBy host p q was now before rest regs pins k
  y = told-by host p q was now before rest regs pins k x told

  go : (a : Bool) → is_known m ≡ a → (b : Bool) → is_root u m ≡ b → (c : ℕ) → count_of u.heap m ≡ c → IsStillNamed u m
  go true e b f c g = inl e
  go false e true f c g = inr (inl f)
  go false e false f (suc c) g = inr (inr (omega (arith, g)))
  go false e false f zero g = absurd (y.left.drained.none m (record {
    held = subst (λ (h : Heap). Has h m) y.new_heap has;
    unknown = e;
    uncounted = ap (λ (h : Heap). count_of h m) (sym y.new_heap) ∙ g;
    free = step-free host p q was now before rest regs pins k n x y m f;
  }))

-- each object that is left, and had a body, still has it
pub thin-bodies : {H : Type 0} (host : Ghosts H) (p q : Parts) (was now : H) (before rest : DiskRest) (regs : List ℕ) (pins : Pinned) (k : Ledger) (n : ℕ) → IsThinStep host p q was now before rest regs pins k → IsTrue (host.tells Work)
    → KeepsHeld (core_of p) (core_of q) (told_of host now rest (core_of q) regs pins (record k { held = n })).heap
thin-bodies host p q was now before rest regs pins k n x told =
    let y = told-by host p q was now before rest regs pins k x told in
    subst (λ (h : Heap). KeepsHeld (core_of p) (core_of q) h) (sym y.new_heap) y.left.drained.thinned.bodies

-- ---- the numbers

pub numbers-less : (base : Option ℕ) (made held_ fewer next room : ℕ) → fewer ≤ held_ → IsNumbered base made held_ next room → IsNumbered base made fewer next room
numbers-less base made held_ fewer next room less x = record {
  most = λ b e. let was = x.most b e in omega (arith, was, less);
  low = x.low;
  eight = λ e low. let was = x.eight e low in omega (arith, was, less);
  few = x.few;
  even = x.even;
}

pub thin-count : {H : Type 0} (host : Ghosts H) (p q : Parts) (was now : H) (before rest : DiskRest) (regs : List ℕ) (pins : Pinned) (k : Ledger) (n : ℕ) → IsThinStep host p q was now before rest regs pins k → IsTrue (host.tells Work)
    → disk_held rest + fresh_of (core_of q) ≡ n → object_count (told_of host now rest (core_of q) regs pins (record k { held = n })).heap ≡ n
thin-count host p q was now before rest regs pins k n x told is =
    let y = told-by host p q was now before rest regs pins k x told in
    let t : Levels = y.left.drained.thinned.levels in
    ap object_count y.new_heap ∙ held-on_disk rest (work_of host now) t [] y.left.drained.thinned.at.disk y.left.drained.thinned.sound ∙ ap (λ (c : Core). disk_held rest + fresh_of c) (sym y.core) ∙ is

pub thin-over : {H : Type 0} (host : Ghosts H) (p q : Parts) (was now : H) (before rest : DiskRest) (k : Ledger) (n : ℕ) → IsOver host was before (core_of p) k → IsExact host q now rest k.next [] → disk_room rest ≡ disk_room before → n ≤ k.held
    → (IsTrue (host.tells Work) → disk_held rest + fresh_of (core_of q) ≡ n) → IsOver host now rest (core_of q) (record k { held = n })
thin-over host p q was now before rest k n over x limit less is = record {
  stands = λ told. let e = x told in (e.1.disk.objects, e.0.pending, e.1.disk.disk, tt);
  backed = λ told. let e = x told in sound-backed host q now rest e.0 e.1 e.2;
  counted = is;
  roomy = let was_ = over.roomy in omega (arith, was_, less, limit);
  based = subst (λ (r : ℕ). IsNumbered k.base k.made n k.next r) (sym limit) (numbers-less k.base k.made k.held n k.next (disk_room before) less over.based);
  valued = λ told. let e = x told in subst IsValued (sym (ap₂ (λ (c : Core) (d : Disk). held c d) (core-at host q now rest e.0 e.1) (sym (disk-at host q now rest e.0 e.1)))) e.2.heap.valued;
}

-- ---- a fault

pub fault-purge : {H : Type 0} (host : Ghosts H) (was now : H) (f : DiskFault) → IsReadFault (host.tells Work) (host.faults was Work) (host.faults now Work) f → IsPurgeFault host was now f
fault-purge host was now (fault.Work count) x = x
fault-purge host was now (fault.Full held_ room) x = absurd x
fault-purge host was now (fault.Damaged place about) x = x

pub lost-sound : (f : DiskFault) (r x : MemFault) (P : Type 0) → IsRefusalOf f r → x ≡ r → LeavesAll x P
lost-sound f r x P is same = subst (λ (y : MemFault). LeavesAll y P) (sym same) (go f is)
  where
    go : (f : DiskFault) → IsRefusalOf f r → LeavesAll r P
    go (fault.Work count) e = subst (λ (y : MemFault). LeavesAll y P) (sym e) tt
    go (fault.Full held_ room) e = subst (λ (y : MemFault). LeavesAll y P) (sym e) tt
    go (fault.Damaged place about) e = subst (λ (y : MemFault). LeavesAll y P) (sym e) tt

-- and no more is held
pub fewer-held : {H : Type 0} (host : Ghosts H) (m : LoomMemory H host) (p : Pager H host) → IsSound host m → ThinsHeap m.pager p → IsTrue (host.tells Work)
    → disk_held p.levels.disk.rest + fresh_of (core_of p.levels.parts) ≤ disk_held m.pager.levels.disk.rest + fresh_of (core_of m.pager.levels.parts)
fewer-held host m p sound thins told = thinned-number host m.pager.levels.parts p.levels.parts m.pager.levels.disk.host.now p.levels.disk.host.now m.pager.levels.disk.rest p.levels.disk.rest
    (exact-has host m.pager.levels.parts m.pager.levels.disk.host.now m.pager.levels.disk.rest m.ledger.next sound.exact) told (thins.keeps told)
