-- A new object joins what is told, and why it can't.
use Rattle.std.proofs.Common.{◌≡◌, ◌≢◌, ℕ, ◌+◌, ◌*◌, ◌/◌, ◌%◌, ◌<◌, ◌≤◌, ◌^◌, nat_lt, Bool, true, false, cond, eqb, List, [], length, Option, Some, None, Ok, Err, Result, IsTrue, refl, sym, ◌∙◌, ap, subst, arith, ⊎_elim, inl, inr, add-zero}
use Rattle.std.proofs.lemmas.Grind.{common_steps}
use Rattle.std.proofs.lemmas.List.{length-replicate}
use Rattle.std.proofs.lemmas.Bool.{cases_eq}
use Rattle.std.proofs.Math.Path.{fun_ext}
use Rattle.std.specs.Prelude.{OnOk}
use Rattle.std.specs.Option.{option_map_or}
use Rattle.long_names.specs.declared.value.Value.{Value}
use Rattle.long_names.specs.declared.value.Value.TheVariants.{Ref}
use Rattle.long_names.specs.declared.limits.TheConstants.{LAST_NAME}
use Rattle.long_names.specs.declared.object.Kind.{Kind}
use Rattle.long_names.specs.declared.object.Kind.TheVariants as kind
use Rattle.long_names.specs.declared.object.Object.{Object}
use Rattle.long_names.specs.Counting.{Rose, counted}
use Rattle.long_names.specs.Names.{NIL}
use Rattle.long_names.specs.Words.{literal_count}
use Rattle.long_names.specs.Heap.{Heap, add_object, object_count}
use Rattle.long_names.specs.Objects.{Making, body_made, body_words}
use Rattle.long_names.specs.State.{name_at, set_register, IsRef}
use Rattle.long_names.specs.Need.{Fits}
use Rattle.long_names.specs.Access.{Make}
use Rattle.loom_host.specs.declared.outside.DiskFault.{DiskFault}
use Rattle.loom_host.specs.declared.outside.DiskFault.TheVariants as fault
use Rattle.loom_host.specs.declared.outside.Host.{Ghosts}
use Rattle.loom_host.specs.declared.outside.Role.TheVariants.{Work, Transcript}
use Rattle.loom_host.specs.Outside.{RoleState}
use Rattle.loom_host.specs.Work.{work_of, IsWorkOnly}
use Rattle.work_directory.specs.Directory.{room_of}
use Rattle.object_memory.specs.declared.fault.Need.{Need}
use Rattle.object_memory.specs.declared.fault.MemFault.{MemFault}
use Rattle.object_memory.specs.declared.fault.MemFault.TheVariants.{CoreFull, WorkFull, WorkFault, Damaged, NamesSpent, Said, Memory}
use Rattle.object_memory.specs.Told.{Told, IsReady, need_of}
use Rattle.object_memory.specs.Contract.{Call, Does, Settles, ForBounds, HasCause, HasCore, IfBounds, CountsRefused, IsMaking, LeavesCache, SaysRefused, need_of_access, no_names}
use Rattle.object_memory.specs.Plain.{refused}
use Rattle.object_table.specs.Entries.{put, is_short, sum_below, used_by}
use Rattle.object_table.specs.Table.{entry_at, entries_of, bound_of, free_of}
use Rattle.core_segment.specs.Chunks.{IsLaidOut}
use Rattle.core_segment.specs.Segment.{chunk_at, chunks_of, size_of, free_of as words_free}
use Rattle.disk_objects.specs.declared.rest.DiskRest.{DiskRest}
use Rattle.disk_objects.specs.Disk.{disk_room}
use Rattle.disk_objects.specs.Function.{disk_of}
use Rattle.core_view.specs.Core.{Core}
use Rattle.core_view.specs.Words.{int_of_short, meant, words_for}
use Rattle.core_view.specs.Held.{Disk, held}
use Rattle.core_view.specs.Kept.{IsBacked, IsCore}
use Rattle.core_view.proofs.Chunks.{words-few}
use Rattle.core_view.proofs.Core.{held-absent}
use Rattle.core_view.proofs.Lists.{put-here, put-there}
use Rattle.core_view.proofs.Words.{meant-short}
use Rattle.leaf_lambda.specs.declared.parts.Parts.{Parts}
use Rattle.leaf_lambda.specs.Making.{body_new}
use Rattle.leaf_lambda.specs.Whole.{IsWhole}
use Rattle.loom_memory.proofs.OverLaws.{over_parts}
use Rattle.leaf_lambda.specs.Parts.{core_of, spare_of, IsParts}
use Rattle.core_view.specs.Levels.{Levels, records_of, heap_of}
use Rattle.core_view.specs.Counted.{IsSound as AreSound}
use Rattle.core_view.specs.LevelSteps.{made}
use Rattle.core_view.proofs.SwapLaws.{held-on}
use Rattle.method_cache.specs.Found.{found}
use Rattle.purger.specs.declared.eviction.TheConstants.{NOWHERE}
use Rattle.purger.specs.declared.room.Pinned.{Pinned}
use Rattle.purger.proofs.RoomLaws.{work-refl}
use Rattle.purger.specs.Counts.{StandsFor}
use Rattle.purger.specs.Purge.{IsPurgeFault, IsShort}
use Rattle.purger.proofs.SoundLaws.{core-at, core-is, disk-at}
use Rattle.loom_memory.specs.declared.ledger.Ledger.{Ledger}
use Rattle.loom_memory.specs.declared.memory.LoomMemory.{LoomMemory}
use Rattle.loom_memory.specs.Known.{IsEntryOf, IsNeedBeside}
use Rattle.loom_memory.specs.Numbers.{IsNumbered}
use Rattle.loom_memory.specs.Memory.{heap_if, loom_told, pin_in, told_of, word_in, IsExact, IsKept, IsOver, IsPinned, IsRefused, IsRefusalOf, IsSound}
use Rattle.loom_memory.specs.Makings.{HasAdded, HasKept, HasMade, HasThinned, IsFullMaking, IsNameless, IfNameless, IsLost, IsNotFull, IsRefusedCall, IsRefusedMaking}
use Rattle.loom_memory.specs.New.{HasFew, IsNew, making_of, object_new}
use Rattle.loom_memory.proofs.BringLaws.{quiet-same, ref-short}
use Rattle.loom_memory.proofs.CacheLaws.{cache-left}
use Rattle.loom_memory.proofs.CallLaws.{purge-left, transcript-away}
use Rattle.loom_memory.proofs.CalmLaws.{calm-kept, store-told}
use Rattle.loom_memory.proofs.FullLaws.{heap_by, no-entries, row-entries, slots_by}
use Rattle.loom_memory.proofs.KnownLaws.{beside-is}
use Rattle.loom_memory.proofs.LoadLaws.{made-told}
use Rattle.loom_memory.proofs.MakingLaws.{making-refused, quiet-thinned}
use Rattle.loom_memory.proofs.RegLaws.{IsRooted, kept-rooted}
use Rattle.loom_memory.proofs.SizeLaws.{levels-counts}
use Rattle.loom_memory.proofs.DeadLaws.{thin-off}

-- ---- numbers

-- a disk has room for so many at most, and holds no more than it has room for
pub room-most : (rest : DiskRest) → disk_room rest ≤ 1048576
unfolding room_of
room-most rest = rest.directory.most

-- the words of what is made
pub making-words : (k : Kind) (len header : ℕ) → words_for k len (literal_count (int_of_short header)) + 4 ≡ 4 + body_words (body_made (making_of k len header))
making-words kind.Pointers len header = let a = length-replicate len (Ref NIL) in omega (arith, a)
making-words kind.Words len header = let a = length-replicate {A = ℕ} len 0 in omega (arith, a)
making-words kind.Bytes len header = let a = length-replicate {A = ℕ} len 0 in omega (arith, a)
making-words kind.Method len header =
    let a = length-replicate {A = ℕ} len 0 in
    let b = length-replicate (literal_count (int_of_short header)) (Ref NIL) in
    omega (arith, a, b)

-- and its body
pub making-body : (k : Kind) (len header : ℕ) → body_new k len header (Ref NIL) ≡ body_made (making_of k len header)
making-body kind.Pointers len header = refl
making-body kind.Words len header = refl
making-body kind.Bytes len header = refl
making-body kind.Method len header = refl

-- ---- what is kept

pub kept-numbers : (p : Parts) (regs : List ℕ) (pins : Pinned) (k : Ledger) (h m n : ℕ) → IsKept p regs pins k → IsKept p regs pins (record k { held = h; made = m; next = n })
kept-numbers p regs pins k h m n kept = record {
  size = kept.size;
  entries = kept.entries;
  rooted = kept.rooted;
  filled = kept.filled;
  many = kept.many;
  pinned = kept.pinned;
  cached = kept.cached;
}

numbered-more : (base : Option ℕ) (made held next room : ℕ) → IsNumbered base made held next room → IsNumbered base (made + 1) (held + 1) (next + 2) room
numbered-more base made held next room x = record {
  most = λ b e. let a = x.most b e in omega (arith, a);
  low = x.low;
  eight = λ e low. let less : made < 8 = omega (arith, low) in let a = x.eight e less in omega (arith, a);
  few = let a = x.few in omega (arith, a);
  even = let a = x.even in grind (arith, common_steps, a);
}

-- the disk has no record of the next name
pub next-absent : {H : Type 0} (host : Ghosts H) (p : Parts) (now : H) (rest : DiskRest) (n : ℕ) → IsExact host p now rest n [] → IsTrue (host.tells Work) → ((core_of p).find n ≡ None) × (disk_of host now rest n ≡ None)
next-absent host p now rest n x told =
    let e = x told in
    let is = core-at host p now rest e.0 e.1 in
    let away : e.0.core.find n ≡ None = absent e.0 n e.2 e.3 in
    let none : records_of e.0 n ≡ None = sym (held-absent e.0.core (records_of e.0) n away) ∙ empty e.0 n e.2 e.3 in
    (ap (λ (c : Core). c.find n) is ∙ away, ap (λ (d : Disk). d n) (sym (disk-at host p now rest e.0 e.1)) ∙ none)
  where
    empty : (t : Levels) (n : ℕ) → AreSound t [] → t.next ≡ n → (heap_of t).at n ≡ None
    empty t n x is = go ((heap_of t).at n) refl
      where
        go : (o : Option Object) → (heap_of t).at n ≡ o → (heap_of t).at n ≡ None
        go None e = e
        go (Some o) e = absurd (let low = x.heap.below n (ap (λ (o : Option Object). Rattle.std.proofs.Common.is_some o) e) in omega (arith, low, is))

    absent : (t : Levels) (n : ℕ) → AreSound t [] → t.next ≡ n → t.core.find n ≡ None
    absent t n x is = go (t.core.find n) refl
      where
        go : (o : Option ℕ) → t.core.find n ≡ o → t.core.find n ≡ None
        go None e = e
        go (Some s) e = absurd (let low = x.heap.below n (x.counted.entered n s e) in omega (arith, low, is))

-- a told heap has names below the next, and the known ones
pub next-long : {H : Type 0} (host : Ghosts H) (p : Parts) (now : H) (rest : DiskRest) (n : ℕ) → IsExact host p now rest n [] → IsTrue (host.tells Work) → NIL < n
next-long host p now rest n x told = let e = x told in let low = e.2.heap.below NIL (e.2.heap.known NIL refl) in let next = e.3 in omega (arith, low, next)

pub added-over : {H : Type 0} (host : Ghosts H) (now : H) (rest : DiskRest) (a d : Core) (k : Ledger) (name class : ℕ) (sort : Kind) (len header s : ℕ) → IsOver host now rest a k → IsNew a d name class sort len header s → k.held < disk_room rest → (IsTrue (host.tells Work) → disk_of host now rest name ≡ None)
    → IsOver host now rest d (record k { held = k.held + 1; made = k.made + 1; next = k.next + 2 })
added-over {H} host now rest a d k name class sort len header s over new low none = record {
  stands = over.stands;
  backed = λ told. new.backed (disk_of host now rest) (over.backed told) (none told);
  counted = λ told. let was = over.counted told in let more = new.fresh in omega (arith, was, more);
  roomy = omega (arith, low);
  based = numbered-more k.base k.made k.held k.next (disk_room rest) over.based;
  valued = λ told. new.valued (disk_of host now rest) (over.backed told) (over.valued told);
}

-- counts are as few as a making needs
pub few-there : {H : Type 0} (host : Ghosts H) (p : Parts) (now : H) (rest : DiskRest) (t : Levels) → StandsFor host p now rest t → AreSound t [] → t.next ≤ 2 ^ 32 → HasFew t
few-there {H} host p now rest t at x low = λ q. levels-counts rest (work_of host now) t q at.disk x

pub added-exact : {H : Type 0} (host : Ghosts H) (p q : Parts) (now : H) (rest : DiskRest) (n : ℕ) → IsExact host p now rest n [] → n ≤ 2 ^ 32 → ((t : Levels) → core_of p ≡ t.core → AreSound t [] → HasFew t → t.next ≡ n → AreSound (made t (core_of q)) []) → IsExact host q now rest (n + 2) []
added-exact {H} host p q now rest n x low f told =
    let e = x told in
    let few = few-there host p now rest e.0 e.1 e.2 (let next = e.3 in omega (arith, low, next)) in (
      made e.0 (core_of q),
      record { core = core-is q; disk = e.1.disk },
      f e.0 (core-at host p now rest e.0 e.1) e.2 few e.3,
      ap (λ (m : ℕ). m + 2) e.3,
    )

-- ---- what is told

pub added-told : {H : Type 0} (host : Ghosts H) (now : H) (rest : DiskRest) (x y : Core) (regs : List ℕ) (pins : Pinned) (k : Ledger) (c class : ℕ) (sort : Kind) (len header s : ℕ) → IsRooted x regs pins → IsCore y → IsNew x y k.next c sort len header s
    → (IsTrue (host.tells Work) → IsBacked x (disk_of host now rest)) → meant x.entries [] 0 (word_in regs class) ≡ Ref (x.entries c).name → LeavesCache no_names None (told_of host now rest x regs pins k).cache (told_of host now rest x regs pins k).cache (told_of host now rest y regs pins k).cache
    → HasAdded (told_of host now rest x regs pins k) (told_of host now rest y regs pins (record k { held = k.held + 1; made = k.made + 1; next = k.next + 2 })) class (making_of sort len header)
added-told {H} host now rest x y regs pins k c class sort len header s root core new backed named left =
    let l : Ledger = record k { held = k.held + 1; made = k.made + 1; next = k.next + 2 } in
    let t = told_of host now rest x regs pins k in
    let u = told_of host now rest y regs pins l in
    record {
      same = ap (λ (z : Told). record z { heap = heap_if (host.tells Work) (held y (disk_of host now rest)) (k.next + 2); bounds = (told_of host now rest y regs pins (record k { held = k.held + 1; made = k.made + 1; next = k.next + 2 })).bounds }) (store-told host now rest x y regs pins k root (new.calm pins));
      heap = λ told. made-told (host.tells Work) x y (disk_of host now rest) (disk_of host now rest) k.next (object_new (x.entries c).name sort len header) told (new.heap (disk_of host now rest) (backed told))
          ∙ ap (λ b. add_object (heap_if (host.tells Work) (held x (disk_of host now rest)) k.next) (record { class = (x.entries c).name; body = b })) (making-body sort len header)
          ∙ ap (λ (v : Value). add_object (heap_if (host.tells Work) (held x (disk_of host now rest)) k.next) (record { class = name_at v; body = body_made (making_of sort len header) })) (sym named);
      cache = left;
      bounds = (refl, refl, refl, omega arith, omega arith);
      counts = (refl, refl);
    }

-- its name came into a register
pub added-made : (t u v : Told) (to class name : ℕ) (what : Making) → HasAdded t u class what → v ≡ record u { regs = set_register u.regs to (Ref name) } → (IsTrue t.tells → name ≡ t.heap.next) → HasMade t v to class what
added-made t u v to class name what x is next =
    subst (λ (z : Told). HasMade t z to class what) (sym is) (record {
      name = name;
      same = ap (λ (z : Told). record z { regs = set_register z.regs to (Ref name) }) x.same;
      heap = λ told. x.heap told;
      next = next;
      cache = x.cache;
      bounds = x.bounds;
      counts = x.counts;
    })

-- ---- CoreFull

-- a heap with a new object is that over a disk with its record
added-heap : (c : Core) (disk : Disk) (n : ℕ) (o : Object) → IsCore c → c.find n ≡ None → add_object (heap_by c disk n) o ≡ heap_by c (put disk n (Some o)) (n + 2)
added-heap c disk n o core away = ap (λ (f : Disk). let h : Heap = record { at = f; next = n + 2 } in h) (fun_ext (λ q. ⊎_elim (λ (e : q ≡ n). here q e) (λ (e : q ≢ n). there q e) (cases_eq q n)))
  where
    here : (q : ℕ) → q ≡ n → cond (eqb q n) (Some o) (held c disk q) ≡ held c (put disk n (Some o)) q
    here q e =
        let yes_ : eqb q n ≡ true = grind (arith, common_steps, e) in
        ap (λ (b : Bool). cond b (Some o) (held c disk q)) yes_ ∙ sym (ap (held c (put disk n (Some o))) e ∙ held-absent c (put disk n (Some o)) n away ∙ put-here disk n (Some o))

    there : (q : ℕ) → q ≢ n → cond (eqb q n) (Some o) (held c disk q) ≡ held c (put disk n (Some o)) q
    there q e =
        let no_ : eqb q n ≡ false = grind (arith, common_steps) in
        ap (λ (b : Bool). cond b (Some o) (held c disk q)) no_ ∙ sym (held-on c disk (put disk n (Some o)) q core (put-there disk n (Some o) q e))

need-new : (b : Bool) (c : Core) (disk : Disk) (n words : ℕ) (pins : Pinned) (need : Need) (o : Object) → IsTrue b → IsCore c → ((i : ℕ) → IsPinned c (pin_in pins i)) → c.find n ≡ None → words ≡ 4 + body_words o.body → IsNeedBeside c pins n words need
    → need ≡ need_of (add_object (heap_if b (held c disk) n) o) (record { object = n; slots = slots_by c pins })
need-new false c disk n words pins need o told core pinned away size is = absurd (cc)
need-new true c disk n words pins need o told core pinned away size is =
    beside-is c (put disk n (Some o)) (n + 2) n words pins need core pinned away
    (ap (λ (x : Option Object). option_map_or (λ (o : Object). 4 + body_words o.body) x 0) (held-absent c (put disk n (Some o)) n away ∙ put-here disk n (Some o)) ∙ sym size) is
    ∙ ap (λ (h : Heap). need_of h (record { object = n; slots = slots_by c pins })) (sym (added-heap c disk n o core away))

pub full-making : {H : Type 0} (host : Ghosts H) (m : LoomMemory H host) (u : Told) (words : ℕ) (need : Need) (x : MemFault) → IsSound host m → IsReady (loom_told host m) → (IsTrue (host.tells Work) → (core_of m.pager.levels.parts).find m.ledger.next ≡ None) → IsNeedBeside (core_of m.pager.levels.parts) m.pager.pinned m.ledger.next words need
    → (Fits m.ledger.core m.ledger.entries need.words need.entries → ⊥) → u ≡ refused (loom_told host m) (CoreFull need) → x ≡ CoreFull need → (loom_told host m).refusals ≤ counted (loom_told host m).refusals → IsFullMaking (loom_told host m) u words x
unfolding loom_told
full-making {H} host m u words need x sound ready away is unfit refuses same later = λ to class what size low.
    let t = loom_told host m in
    let o : Object = record { class = name_at ((loom_told host m).regs class); body = body_made what } in
    subst (λ (f : MemFault). IsRefused (loom_told host m) u (Make to class what) f) (sym same)
    (making-refused (loom_told host m) (loom_told host m) u to class what (CoreFull need) (quiet-thinned (loom_told host m) (loom_told host m) (quiet-same host m) ready) refuses ready later
    (λ told past. absurd (let less = low told in omega (arith, less, past))) (
      subst (λ b. ForBounds b (λ b. Fits b.core b.entries need.words need.entries → ⊥)) (sym (ap (λ (z : Told). z.bounds) refuses)) unfit,
      λ told. need-of host m to class what words need o told refl sound (away told) size is,
    ))
  where
    next-told : (b : Bool) (f : Disk) (n : ℕ) → IsTrue b → (heap_if b f n).next ≡ n
    next-told true f n told = refl
    next-told false f n told = absurd (cc)

    need-of : {H : Type 0} (host : Ghosts H) (m : LoomMemory H host) (to class : ℕ) (what : Making) (words : ℕ) (need : Need) (o : Object) → IsTrue (host.tells Work) → o ≡ record { class = name_at ((told_of host m.pager.levels.disk.host.now m.pager.levels.disk.rest (core_of m.pager.levels.parts) m.regs m.pager.pinned m.ledger).regs class); body = body_made what } → IsSound host m
        → (core_of m.pager.levels.parts).find m.ledger.next ≡ None → words ≡ 4 + body_words (body_made what) → IsNeedBeside (core_of m.pager.levels.parts) m.pager.pinned m.ledger.next words need
        → need ≡ need_of_access (told_of host m.pager.levels.disk.host.now m.pager.levels.disk.rest (core_of m.pager.levels.parts) m.regs m.pager.pinned m.ledger) (Make to class what)
    need-of host m to class what words need o told form sound away size is =
        need-new (host.tells Work) (core_of m.pager.levels.parts) (disk_of host m.pager.levels.disk.host.now m.pager.levels.disk.rest) m.ledger.next words m.pager.pinned need o told m.pager.levels.whole.parts.core sound.kept.pinned away (size ∙ ap (λ (z : Object). 4 + body_words z.body) (sym form)) is
        ∙ ap (λ (n : ℕ). need_of (add_object (heap_if (host.tells Work) (held (core_of m.pager.levels.parts) (disk_of host m.pager.levels.disk.host.now m.pager.levels.disk.rest)) m.ledger.next) o) (record { object = n; slots = slots_by (core_of m.pager.levels.parts) m.pager.pinned })) (sym (next-told (host.tells Work) (held (core_of m.pager.levels.parts) (disk_of host m.pager.levels.disk.host.now m.pager.levels.disk.rest)) m.ledger.next told))
        ∙ ap (λ (z : Object). need_of (add_object (heap_if (host.tells Work) (held (core_of m.pager.levels.parts) (disk_of host m.pager.levels.disk.host.now m.pager.levels.disk.rest)) m.ledger.next) z) (record { object = (heap_if (host.tells Work) (held (core_of m.pager.levels.parts) (disk_of host m.pager.levels.disk.host.now m.pager.levels.disk.rest)) m.ledger.next).next; slots = slots_by (core_of m.pager.levels.parts) m.pager.pinned })) form

-- the object alone is larger than the core
pub unfit-large : (c : Core) (pins : Pinned) (n words core entries : ℕ) (need : Need) → core < words → IsNeedBeside c pins n words need → Fits core entries need.words need.entries → ⊥
unfit-large c pins n words core entries need large is fits = let most = fits.words in let all = is.all in omega (arith, most, all, large)

-- entries or words are wanting
pub unfit-new : (p : Parts) (regs : List ℕ) (pins : Pinned) (k : Ledger) (n words : ℕ) (need : Need) → IsWhole p → IsKept p regs pins k → IsShort p pins.a pins.b pins.d words 27 → entries_of p.names.table ≡ free_of p.names.table + sum_below (bound_of p.names.table) (λ t. used_by (entry_at p.names.table t))
    → IsLaidOut (chunks_of p.segment) (words_free p.segment) (size_of p.segment) → IsNeedBeside (core_of p) pins n words need → Fits k.core k.entries need.words need.entries → ⊥
unfolding core_of chunk_at
unfit-new p regs pins k n words need whole kept short all laid is = go (nat_lt (spare_of p) 27) refl
  where
    go : (b : Bool) → nat_lt (spare_of p) 27 ≡ b → Fits k.core k.entries need.words need.entries → ⊥
    go true e = λ fits.
        let row = row-entries (core_of p) (λ n. None) 0 n pins whole.parts.core kept.pinned in
        no-entries (core_of p) (λ n. None) 0 n need.words (spare_of p) k.entries k.core regs pins whole.parts.core short.bare kept.many kept.rooted kept.pinned (sym kept.entries ∙ all) (grind (arith, common_steps)) (record { words = fits.words; leaves = (let most = fits.leaves in let count = is.entries in omega (arith, most, count, row)) })
    go false e = few (nat_lt (words_free p.segment) words) refl
      where
        few : (b : Bool) → nat_lt (words_free p.segment) words ≡ b → Fits k.core k.entries need.words need.entries → ⊥
        few true f = λ fits.
            let most = words-few (core_of p) (chunks_of p.segment) (words_free p.segment) (size_of p.segment) pins.a pins.b pins.d whole.parts.core whole.tight short.bare refl laid in
            let size = kept.size in
            let less : words_free p.segment < words = grind (arith, common_steps) in
            let all_ = fits.words in
            let count = is.all in
            omega (arith, most, size, less, all_, count)
        few false f = λ fits. short.wanting (grind (arith, common_steps), grind (arith, common_steps))

-- ---- other refusals

-- a failed call on Work leaves what is not in Work
fault-call : {H : Type 0} (host : Ghosts H) (m n : LoomMemory H host) (w : Told) (call : Call) (f : DiskFault) (r x : MemFault) → n.ledger ≡ m.ledger → IsWorkOnly host m.pager.levels.disk.host.now n.pager.levels.disk.host.now → disk_room n.pager.levels.disk.rest ≡ disk_room m.pager.levels.disk.rest
    → IsPurgeFault host m.pager.levels.disk.host.now n.pager.levels.disk.host.now f → IsRefusalOf f r → w ≡ refused (loom_told host n) r → x ≡ r → (loom_told host n).refusals ≤ counted (loom_told host n).refusals
    → (IsMaking call → IsTrue (host.tells Work) → LAST_NAME ≤ (loom_told host m).heap.next → ⊥) → CountsRefused call (loom_told host m).bounds (refused (loom_told host n) r).bounds → SaysRefused call (loom_told host m) (refused (loom_told host n) r) r → IsRefusedCall (loom_told host m) w call x
unfolding loom_told
fault-call {H} host m n w call f r x ledger work room cause why refuses same later low counts says =
    subst (λ (y : MemFault). IsRefusedCall (loom_told host m) w call y) (sym same) (subst (λ (z : Told). IsRefusedCall (loom_told host m) z call r) (sym refuses) (
      record {
        tells = refl;
        speaks = refl;
        bounds = (ap (λ (k : Ledger). k.core) ledger, ap (λ (k : Ledger). k.entries) ledger, room, work.later, (let said = work.other_faults Transcript transcript-away in omega arith));
        refusals = subst (λ (k : ℕ). k ≤ counted n.ledger.refusals) (ap (λ (k : Ledger). k.refusals) ledger) later;
      },
      record {
        rose = subst (λ (k : ℕ). Rose k (counted n.ledger.refusals)) (ap (λ (k : Ledger). k.refusals) ledger) (omega arith);
        last = refl;
        cause = because f r cause why;
        spent = λ make told past. absurd (low make told past);
        counts = counts;
        transcript = says;
        left = purge-left f r _ why;
      },
    ))
  where
    because : (f : DiskFault) (r : MemFault) → IsPurgeFault host m.pager.levels.disk.host.now n.pager.levels.disk.host.now f → IsRefusalOf f r → HasCause (loom_told host m) (refused (loom_told host n) r) call r
    because (fault.Work count) r cause is = subst (λ (y : MemFault). HasCause (loom_told host m) (refused (loom_told host n) r) call y) (sym is) (sym cause.0, cause.1)
    because (fault.Full held room) r cause is = subst (λ (y : MemFault). HasCause (loom_told host m) (refused (loom_told host n) r) call y) (sym is) cause
    because (fault.Damaged place about) r cause is = subst (λ (y : MemFault). HasCause (loom_told host m) (refused (loom_told host n) r) call y) (sym is) cause

pub fault-making : {H : Type 0} (host : Ghosts H) (m n : LoomMemory H host) (w : Told) (f : DiskFault) (r x : MemFault) → n.ledger ≡ m.ledger → IsWorkOnly host m.pager.levels.disk.host.now n.pager.levels.disk.host.now → disk_room n.pager.levels.disk.rest ≡ disk_room m.pager.levels.disk.rest
    → IsPurgeFault host m.pager.levels.disk.host.now n.pager.levels.disk.host.now f → IsRefusalOf f r → w ≡ refused (loom_told host n) r → x ≡ r → (loom_told host n).refusals ≤ counted (loom_told host n).refusals → IsRefusedMaking (loom_told host m) w x
unfolding loom_told
fault-making {H} host m n w f r x ledger work room cause why refuses same later = λ to class what low.
    fault-call host m n w (Does (Make to class what)) f r x ledger work room cause why refuses same later (λ make told past. (let less = low told in omega (arith, less, past)))
    (ap (λ (k : Ledger). k.base) ledger, ap (λ (k : Ledger). k.made) ledger ∙ sym (add-zero m.ledger.made)) (λ told. ap (λ (s : RoleState). s.put) (work.others Transcript transcript-away))

pub fault-settling : {H : Type 0} (host : Ghosts H) (m n : LoomMemory H host) (w : Told) (f : DiskFault) (r x : MemFault) → n.ledger ≡ m.ledger → IsWorkOnly host m.pager.levels.disk.host.now n.pager.levels.disk.host.now → disk_room n.pager.levels.disk.rest ≡ disk_room m.pager.levels.disk.rest
    → IsPurgeFault host m.pager.levels.disk.host.now n.pager.levels.disk.host.now f → IsRefusalOf f r → w ≡ refused (loom_told host n) r → x ≡ r → (loom_told host n).refusals ≤ counted (loom_told host n).refusals → IsRefusedCall (loom_told host m) w Settles x
unfolding loom_told
fault-settling {H} host m n w f r x ledger work room cause why refuses same later =
    fault-call host m n w Settles f r x ledger work room cause why refuses same later (λ make told past. make) tt (λ told. ap (λ (s : RoleState). s.put) (work.others Transcript transcript-away))

-- there is no name
nameless-making : (t u : Told) (f x : MemFault) → IsReady t → HasThinned t t → IsNameless t f → u ≡ refused t f → x ≡ f → t.refusals ≤ counted t.refusals → IfNameless t u x
nameless-making t u NamesSpent x ready still cause refuses same later = λ to class what.
    subst (λ (f : MemFault). IsRefused t u (Make to class what) f) (sym same) (making-refused t t u to class what NamesSpent still refuses ready later (λ told past. refl) (omega arith, cause))
nameless-making t u (Damaged place name) x ready still cause refuses same later = λ to class what.
    subst (λ (f : MemFault). IsRefused t u (Make to class what) f) (sym same) (making-refused t t u to class what (Damaged place name) still refuses ready later (λ told past. absurd (cause told)) cause)
nameless-making t u (CoreFull need) x ready still cause refuses same later = absurd cause
nameless-making t u (WorkFull live room) x ready still cause refuses same later = absurd cause
nameless-making t u (WorkFault count) x ready still cause refuses same later = absurd cause
nameless-making t u (Said count) x ready still cause refuses same later = absurd cause
nameless-making t u Memory x ready still cause refuses same later = absurd cause

-- as many are held as there is room for, after few makings
pub crowded-making : {H : Type 0} (host : Ghosts H) (m : LoomMemory H host) (u : Told) (base live room : ℕ) (x : MemFault) → IsReady (loom_told host m) → m.ledger.base ≡ Some base → live ≡ base + m.ledger.made + 1 → room ≡ disk_room m.pager.levels.disk.rest → room < live
    → u ≡ refused (loom_told host m) (WorkFull live room) → x ≡ WorkFull live room → (loom_told host m).refusals ≤ counted (loom_told host m).refusals → IsRefusedMaking (loom_told host m) u x
unfolding loom_told
crowded-making {H} host m u base live room x ready is lives full more refuses same later = λ to class what low.
    subst (λ (f : MemFault). IsRefused (loom_told host m) u (Make to class what) f) (sym same)
    (making-refused (loom_told host m) (loom_told host m) u to class what (WorkFull live room) (quiet-thinned (loom_told host m) (loom_told host m) (quiet-same host m) ready) refuses ready later
    (λ told past. absurd (let less = low told in omega (arith, less, past)))
    (subst (λ b. ForBounds b (λ b. (b.room ≡ room) × (room < live))) (sym (ap (λ (z : Told). z.bounds) refuses)) (sym full, more), inl (base, is, lives), omega arith))

-- nothing is dead, and there is no room for one more
pub overfull-making : {H : Type 0} (host : Ghosts H) (m n : LoomMemory H host) (u : Told) (live room : ℕ) (x : MemFault) → IsReady (loom_told host m) → HasThinned (loom_told host m) (loom_told host n) → HasKept (loom_told host m) (loom_told host n)
    → (IsTrue (host.tells Work) → object_count (loom_told host n).heap + 1 ≡ live) → 8 ≤ m.ledger.made → room ≡ disk_room n.pager.levels.disk.rest → room < live
    → u ≡ refused (loom_told host n) (WorkFull live room) → x ≡ WorkFull live room → (loom_told host m).refusals ≤ counted (loom_told host m).refusals → IsRefusedMaking (loom_told host m) u x
unfolding loom_told
overfull-making {H} host m n u live room x ready thin kept lives late full more refuses same later = λ to class what low.
    subst (λ (f : MemFault). IsRefused (loom_told host m) u (Make to class what) f) (sym same)
    (making-refused (loom_told host m) (loom_told host n) u to class what (WorkFull live room) thin refuses ready later
    (λ told past. absurd (let less = low told in omega (arith, less, past))) (
      subst (λ b. ForBounds b (λ b. (b.room ≡ room) × (room < live))) (sym (ap (λ (z : Told). z.bounds) refuses)) (sym full, more),
      inr (late, λ told. sym (lives told) ∙ ap (λ (h : Heap). object_count h + 1) (kept told)),
      omega arith,
    ))

-- ---- the memory after an object joined

pub added-sound : {H : Type 0} (host : Ghosts H) (m : LoomMemory H host) (q : Parts) (whole : IsWhole q) (l : Ledger) (class : ℕ) (sort : Kind) (len header s : ℕ) → IsSound host m → IsParts q → size_of q.segment ≡ size_of m.pager.levels.parts.segment → IsNew (core_of m.pager.levels.parts) (core_of q) m.ledger.next class sort len header s → m.ledger.held < disk_room m.pager.levels.disk.rest → m.ledger.next ≤ 2 ^ 32
    → ((t : Levels) → core_of m.pager.levels.parts ≡ t.core → AreSound t [] → HasFew t → t.next ≡ m.ledger.next → AreSound (made t (core_of q)) []) → l ≡ record m.ledger { held = m.ledger.held + 1; made = m.ledger.made + 1; next = m.ledger.next + 2 }
    → IsSound host (record (over_parts m q whole) { ledger = l; thinned = false })
added-sound {H} host m q whole l class sort len header s sound parts size new low few f is = subst (λ (k : Ledger). IsSound host (record (over_parts m q whole) { ledger = k; thinned = false })) (sym is) (record {
  kept = kept-numbers q m.regs m.pager.pinned m.ledger (m.ledger.held + 1) (m.ledger.made + 1) (m.ledger.next + 2) (calm-kept m.pager.levels.parts q m.regs m.pager.pinned m.ledger m.pager.levels.whole sound.kept (new.calm m.pager.pinned) parts size);
  over = added-over host m.pager.levels.disk.host.now m.pager.levels.disk.rest (core_of m.pager.levels.parts) (core_of q) m.ledger m.ledger.next class sort len header s sound.over new low (λ told. (next-absent host m.pager.levels.parts m.pager.levels.disk.host.now m.pager.levels.disk.rest m.ledger.next sound.exact told).1);
  soon = (let was = sound.soon in omega (arith, was));
  exact = added-exact host m.pager.levels.parts q m.pager.levels.disk.host.now m.pager.levels.disk.rest m.ledger.next sound.exact few f;
  thin = thin-off host (record (over_parts m q whole) { ledger = record m.ledger { held = m.ledger.held + 1; made = m.ledger.made + 1; next = m.ledger.next + 2 }; thinned = false }) refl;
})

pub added-is : {H : Type 0} (host : Ghosts H) (m : LoomMemory H host) (q : Parts) (whole : IsWhole q) (l : Ledger) (of c : ℕ) (sort : Kind) (len header s : ℕ) → IsSound host m → IsParts q → IsNew (core_of m.pager.levels.parts) (core_of q) m.ledger.next c sort len header s → c ≡ word_in m.regs of → is_short c ≡ true
    → l ≡ record m.ledger { held = m.ledger.held + 1; made = m.ledger.made + 1; next = m.ledger.next + 2 } → HasAdded (loom_told host m) (loom_told host (record (over_parts m q whole) { ledger = l; thinned = false })) of (making_of sort len header)
unfolding loom_told
added-is {H} host m q whole l of c sort len header s sound parts new is short same =
    subst (λ (k : Ledger). HasAdded (told_of host m.pager.levels.disk.host.now m.pager.levels.disk.rest (core_of m.pager.levels.parts) m.regs m.pager.pinned m.ledger) (told_of host m.pager.levels.disk.host.now m.pager.levels.disk.rest (core_of q) m.regs m.pager.pinned k) of (making_of sort len header)) (sym same)
    (added-told host m.pager.levels.disk.host.now m.pager.levels.disk.rest (core_of m.pager.levels.parts) (core_of q) m.regs m.pager.pinned m.ledger c of sort len header s (kept-rooted m.pager.levels.parts m.regs m.pager.pinned m.ledger m.pager.levels.whole sound.kept) parts.core new sound.over.backed
    (ap (meant (core_of m.pager.levels.parts).entries [] 0) (sym is) ∙ meant-short (core_of m.pager.levels.parts).entries [] 0 c short)
    (cache-left (core_of m.pager.levels.parts) (core_of q) (found m.ledger.rows) m.ledger.mark m.ledger.begun m.pager.levels.whole.parts.core parts.core (new.calm m.pager.pinned).marks sound.kept.cached))

-- what is told of the next name
pub told-next : {H : Type 0} (host : Ghosts H) (m : LoomMemory H host) → IsTrue (host.tells Work) → (loom_told host m).heap.next ≡ m.ledger.next
unfolding loom_told
told-next host m told = go (host.tells Work) told
  where
    go : (b : Bool) → IsTrue b → (heap_if b (held (core_of m.pager.levels.parts) (disk_of host m.pager.levels.disk.host.now m.pager.levels.disk.rest)) m.ledger.next).next ≡ m.ledger.next
    go true t = refl
    go false t = absurd (cc)

pub next-low : {H : Type 0} (host : Ghosts H) (m : LoomMemory H host) (n : ℕ) → m.ledger.next ≡ n → n < LAST_NAME → IsTrue (host.tells Work) → (loom_told host m).heap.next < LAST_NAME
next-low host m n is low told = let same = told-next host m told in omega (arith, same, is, low)

-- the core is as large as the object
pub core-there : {H : Type 0} (host : Ghosts H) (m : LoomMemory H host) (to class words : ℕ) (what : Making) → words ≡ 4 + body_words (body_made what) → words ≤ m.ledger.core → IfBounds (loom_told host m).bounds (HasCore (loom_told host m) (Make to class what))
unfolding loom_told
core-there host m to class words what is fits = omega (arith, is, fits)

-- a fault of the disk isn't that it is full
pub fault-other : (f : DiskFault) (r : MemFault) → IsRefusalOf f r → IsNotFull r
fault-other (fault.Work count) r is = subst (λ (x : MemFault). IsNotFull x) (sym is) tt
fault-other (fault.Full held room) r is = subst (λ (x : MemFault). IsNotFull x) (sym is) tt
fault-other (fault.Damaged place about) r is = subst (λ (x : MemFault). IsNotFull x) (sym is) tt

-- the register of a class has the short word of an entry
pub short-class : {H : Type 0} (host : Ghosts H) (m : LoomMemory H host) (of w : ℕ) → w ≢ 0 → w ≡ word_in m.regs of → IsRef ((loom_told host m).regs of) → is_short w ≡ true
unfolding loom_told
short-class host m of w some is ref = ref-short (core_of m.pager.levels.parts) w some (subst (λ (k : ℕ). IsRef (meant (core_of m.pager.levels.parts).entries [] 0 k)) (sym is) ref)

pub name-new : (a d : Core) (name next class : ℕ) (k : Kind) (len header s : ℕ) → next ≡ name → IsNew a d name class k len header s → IsNew a d next class k len header s
name-new a d name next class k len header s is x = subst (λ (n : ℕ). IsNew a d n class k len header s) (sym is) x

pub entry-means : (c : Core) (s name : ℕ) → IsEntryOf c s name → meant c.entries [] 0 s ≡ Ref name
entry-means c s name x = meant-short c.entries [] 0 s x.short ∙ ap Ref x.named

-- the next name has an entry, as no heap that is told comes to
pub damaged-making : {H : Type 0} (host : Ghosts H) (m n : LoomMemory H host) (w : Told) (name : ℕ) (x : MemFault) → n.ledger ≡ m.ledger → n.pager.levels.disk ≡ m.pager.levels.disk → (IsTrue (host.tells Work) → ⊥) → w ≡ refused (loom_told host n) (Damaged NOWHERE name) → x ≡ Damaged NOWHERE name
    → (loom_told host n).refusals ≤ counted (loom_told host n).refusals → IsRefusedMaking (loom_told host m) w x
damaged-making {H} host m n w name x ledger disk untold refuses same later =
    fault-making host m n w (fault.Damaged NOWHERE name) (Damaged NOWHERE name) x ledger
    (subst (λ d. IsWorkOnly host m.pager.levels.disk.host.now d.host.now) (sym disk) (work-refl host m.pager.levels.disk.host.now)) (ap (λ d. disk_room d.rest) disk) untold refl refuses same later

pub core-ok : {A : Type 0} (r : Result (Unit {0}) MemFault) → A → OnOk r A
core-ok {A} (Ok x) a = a
core-ok {A} (Err f) a = tt

pub nameless-now : {H : Type 0} (host : Ghosts H) (m : LoomMemory H host) (u : Told) (f x : MemFault) → IsReady (loom_told host m) → IsNameless (loom_told host m) f → u ≡ refused (loom_told host m) f → x ≡ f → (loom_told host m).refusals ≤ counted (loom_told host m).refusals → IfNameless (loom_told host m) u x
nameless-now {H} host m u f x ready cause refuses same later = nameless-making (loom_told host m) u f x ready (quiet-thinned (loom_told host m) (loom_told host m) (quiet-same host m) ready) cause refuses same later

pub fault-lost : (f : DiskFault) (r : MemFault) → IsRefusalOf f r → IsLost r
fault-lost (fault.Work count) r is = subst (λ (x : MemFault). IsLost x) (sym is) tt
fault-lost (fault.Full held room) r is = subst (λ (x : MemFault). IsLost x) (sym is) tt
fault-lost (fault.Damaged place about) r is = subst (λ (x : MemFault). IsLost x) (sym is) tt
