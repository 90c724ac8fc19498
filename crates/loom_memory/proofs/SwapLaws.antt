-- Two objects that aren't in the core change places: their records are exchanged.
use Rattle.std.proofs.Common.{◌≡◌, ◌≢◌, ℕ, ◌<◌, ◌||◌, Bool, true, false, cond, eqb, List, [], Option, None, Some, is_some, Result, Ok, Err, IsTrue, refl, sym, ◌∙◌, ap, subst, add-zero, arith, ⊎_elim}
use Rattle.std.proofs.lemmas.Grind.{common_steps}
use Rattle.std.proofs.lemmas.Bool.{cases_eq}
use Rattle.std.proofs.Math.Path.{fun_ext}
use Rattle.std.specs.Prelude.{IsSome, OnOk}
use Rattle.std.specs.Option.{option_map_or}
use Rattle.std.specs.FinMap as map
use Rattle.long_names.specs.declared.value.Value.{Value}
use Rattle.long_names.specs.declared.value.Value.TheVariants.{Ref}
use Rattle.long_names.specs.declared.object.Object.{Object}
use Rattle.long_names.specs.Objects.{is_ref}
use Rattle.long_names.specs.Words.{IsValue}
use Rattle.long_names.specs.State.{IsRef, name_at}
use Rattle.long_names.specs.declared.limits.TheConstants.{SLOTS}
use Rattle.long_names.specs.Heap.{Has, put_object}
use Rattle.long_names.specs.Access.{Swap, IsUnpinned, heap_after, with_swapped}
use Rattle.loom_host.specs.Outside.{RoleState}
use Rattle.loom_host.specs.Work.{work_of, IsWorkOnly}
use Rattle.loom_host.specs.declared.outside.DiskFault.{DiskFault}
use Rattle.loom_host.specs.declared.outside.DiskFault.TheVariants as fault
use Rattle.loom_host.specs.declared.outside.Host.{Ghosts}
use Rattle.loom_host.specs.declared.outside.Role.TheVariants.{Work, Transcript}
use Rattle.object_memory.specs.declared.fault.MemFault.{MemFault}
use Rattle.object_memory.specs.Told.{Told, IsReady, Bounds}
use Rattle.object_memory.specs.Contract.{HasCore, IfBounds, touched_by}
use Rattle.object_table.specs.declared.entry.Entry.{Entry}
use Rattle.object_table.specs.Entries.{put, is_used, place_of}
use Rattle.disk_objects.specs.declared.rest.DiskRest.{DiskRest}
use Rattle.disk_objects.specs.Calls.{HoldsObjects, HoldsSuch, AreHeldNames, IsEitherFault}
use Rattle.disk_objects.specs.Disk.{DiskObject, Objects, IsDisk, disk_held, disk_room}
use Rattle.disk_objects.specs.Function.{disk_of, exchanged, objects_at, object_held, SwapsObjects}
use Rattle.core_view.specs.Core.{Core}
use Rattle.core_view.specs.Counts.{marked_of}
use Rattle.core_view.specs.Words.{meant, body_in}
use Rattle.core_view.specs.Held.{Disk, fields_there, held, held_by, held_in}
use Rattle.core_view.specs.Kept.{IsCore, IsBacked, IsBody, IsLike, IsValued}
use Rattle.core_view.specs.Purge.{IsSameBody}
use Rattle.core_view.specs.Room.{is_among}
use Rattle.core_view.proofs.Core.{held-leaf, placed-used}
use Rattle.core_view.proofs.Lists.{put-here, put-there}
use Rattle.leaf_lambda.specs.Parts.{core_of}
use Rattle.purger.specs.declared.room.Pinned.{Pinned}
use Rattle.purger.specs.Marks.{AreHere}
use Rattle.purger.specs.Purge.{IsPurgeFault}
use Rattle.purger.specs.Rounds.{KeepsAllBut}
use Rattle.purger.proofs.MarkLaws.{marked-at}
use Rattle.purger.proofs.RoomLaws.{some-of}
use Rattle.purger.proofs.PagerLaws.{are-here}
use Rattle.loom_memory.specs.declared.memory.LoomMemory.{LoomMemory}
use Rattle.loom_memory.specs.Memory.{heap_if, loom_told, name_if, pin_in, told_of, word_in, IsOver, IsSound}
use Rattle.loom_memory.specs.Gentle.{IsQuiet}
use Rattle.loom_memory.specs.Numbers.{IsNumbered}
use Rattle.loom_memory.specs.Own.{IsPutAway}
use Rattle.loom_memory.specs.Residents.{fetched, has_body, is_resident}
use Rattle.loom_memory.specs.Stores.{IsAway, IsStored}
use Rattle.loom_memory.proofs.BringLaws.{IsNamed, named-then, quiet-same}
use Rattle.loom_memory.proofs.CalmLaws.{transcript-away}
use Rattle.loom_memory.proofs.GentleLaws.{entry-at, resident-at, speech-resident}
use Rattle.loom_memory.proofs.LambdaLaws.{still-calm}
use Rattle.loom_memory.proofs.StoreLaws.{kept-cache, ref-name}

-- ---- the entry of a register

pub named-now : {H : Type 0} (host : Ghosts H) (m : LoomMemory H host) (of s : ℕ) → IsSound host m → IsReady (loom_told host m) → IsRef ((loom_told host m).regs of) → s ≡ word_in m.regs of → IsNamed host m m of s
named-now {H} host m of s sound ready ref same = named-then host m m of s sound m.pager.levels.whole.parts.core ready ref same (still-calm m.pager.pinned (core_of m.pager.levels.parts)) (quiet-same host m)

-- what no slot names isn't pinned
not-pin : (c : Core) (pins : Pinned) (i s : ℕ) → i < SLOTS → s ≢ 0 → IsUnpinned (λ i. name_if c.entries (pin_in pins i)) (c.entries s).name → eqb s (pin_in pins i) ≡ false
not-pin c pins i s low some free = go (eqb s (pin_in pins i)) refl
  where
    there : (b : Bool) → eqb s 0 ≡ b → name_if c.entries s ≡ Some (c.entries s).name
    there true e = absurd (some (grind (arith, common_steps)))
    there false e = ap (λ (b : Bool). cond b None (Some (c.entries s).name)) e

    go : (b : Bool) → eqb s (pin_in pins i) ≡ b → eqb s (pin_in pins i) ≡ false
    go false e = e
    go true e = let same : s ≡ pin_in pins i = grind (arith, common_steps) in absurd (free i low (ap (name_if c.entries) (sym same) ∙ there (eqb s 0) refl))

pub unpinned-is : (c : Core) (pins : Pinned) (s : ℕ) → s ≢ 0 → IsUnpinned (λ i. name_if c.entries (pin_in pins i)) (c.entries s).name → is_among pins.a pins.b pins.d s ≡ false
unpinned-is c pins s some free =
    ap (λ (x : Bool). x || (eqb s pins.b || eqb s pins.d)) (not-pin c pins 0 s (omega arith) some free)
    ∙ ap (λ (x : Bool). x || eqb s pins.d) (not-pin c pins 1 s (omega arith) some free)
    ∙ not-pin c pins 2 s (omega arith) some free

-- ---- the held heap over a disk that differs

-- where the disk has the same, the held heap has the same
held-on : (c : Core) (old new : Disk) (n : ℕ) → IsCore c → new n ≡ old n → held c new n ≡ held c old n
unfolding held
held-on c old new n core same = first (c.find n) refl
  where
    second : (s : ℕ) → c.find n ≡ Some s → (o : Option ℕ) → held_in c new n (c.entries s) o ≡ held_in c old n (c.entries s) o
    second s e None = same
    second s e (Some p) = ap (λ (x : Option Object). Some (record { class = (c.entries (c.entries s).class.0).name; body = body_in c.entries (fields_there x) (c.chunks p).words (c.entries s).kind (c.entries s).len }))
        (ap new (core.named n s e) ∙ same ∙ ap old (sym (core.named n s e)))

    first : (o : Option ℕ) → c.find n ≡ o → held_by c new n o ≡ held_by c old n o
    first None e = same
    first (Some s) e = second s e (place_of (c.entries s).state)

exchanged-away : {A : Type 0} (f : ℕ → A) (a b n : ℕ) → n ≢ a → n ≢ b → exchanged f a b n ≡ f n
exchanged-away {A} f a b n one two = put-there (put f a (f b)) b (f a) n two ∙ put-there f a (f b) n one

exchanged-second : {A : Type 0} (f : ℕ → A) (a b : ℕ) → exchanged f a b b ≡ f a
exchanged-second {A} f a b = put-here (put f a (f b)) b (f a)

exchanged-first : {A : Type 0} (f : ℕ → A) (a b : ℕ) → a ≢ b → exchanged f a b a ≡ f b
exchanged-first {A} f a b away = put-there (put f a (f b)) b (f a) a away ∙ put-here f a (f b)

exchanged-by : (c : Core) (disk : Disk) (a b : ℕ) → IsCore c → ((d : Disk) → held c d a ≡ d a) → ((d : Disk) → held c d b ≡ d b) → held c (exchanged disk a b) ≡ exchanged (held c disk) a b
exchanged-by c disk a b core here there = fun_ext (λ n. ⊎_elim (λ (e : n ≡ b). last n e) (λ (two : n ≢ b). ⊎_elim (λ (e : n ≡ a). first n two e) (λ (one : n ≢ a). other n one two) (cases_eq n a)) (cases_eq n b))
  where
    last : (n : ℕ) → n ≡ b → held c (exchanged disk a b) n ≡ exchanged (held c disk) a b n
    last n e = subst (λ (k : ℕ). held c (exchanged disk a b) k ≡ exchanged (held c disk) a b k) (sym e)
        (there (exchanged disk a b) ∙ exchanged-second disk a b ∙ sym (here disk) ∙ sym (exchanged-second (held c disk) a b))

    first : (n : ℕ) → n ≢ b → n ≡ a → held c (exchanged disk a b) n ≡ exchanged (held c disk) a b n
    first n two e =
        let away : a ≢ b = subst (λ (k : ℕ). k ≢ b) e two in
        subst (λ (k : ℕ). held c (exchanged disk a b) k ≡ exchanged (held c disk) a b k) (sym e)
        (here (exchanged disk a b) ∙ exchanged-first disk a b away ∙ sym (there disk) ∙ sym (exchanged-first (held c disk) a b away))

    other : (n : ℕ) → n ≢ a → n ≢ b → held c (exchanged disk a b) n ≡ exchanged (held c disk) a b n
    other n one two = held-on c disk (exchanged disk a b) n core (exchanged-away disk a b n one two) ∙ sym (exchanged-away (held c disk) a b n one two)

pub exchanged-held : (c : Core) (disk : Disk) (s t : ℕ) → IsCore c → is_used (c.entries s).state ≡ true → is_used (c.entries t).state ≡ true → place_of (c.entries s).state ≡ None → place_of (c.entries t).state ≡ None
    → held c (exchanged disk (c.entries s).name (c.entries t).name) ≡ exchanged (held c disk) (c.entries s).name (c.entries t).name
exchanged-held c disk s t core on also leaf away = exchanged-by c disk (c.entries s).name (c.entries t).name core (λ d. held-leaf c d (c.entries s).name s (core.found s on) leaf) (λ d. held-leaf c d (c.entries t).name t (core.found t also) away)

-- ---- what is kept

-- a body is backed as before where the disk has the same under its name
body-on : (c : Core) (old new : Disk) (e : Entry) (p : ℕ) → new e.name ≡ old e.name → IsBody c old e p → IsBody c new e p
body-on c old new e p same body = record {
  like = λ off. subst (λ (x : Option Object). IsLike x (record { class = (c.entries e.class.0).name; body = body_in c.entries (fields_there x) (c.chunks p).words e.kind e.len })) (sym same) (body.like off);
  clean = λ off. subst (λ (x : Option Object). x ≡ Some (record { class = (c.entries e.class.0).name; body = body_in c.entries (fields_there x) (c.chunks p).words e.kind e.len })) (sym same) (body.clean off);
  absent = λ on. same ∙ body.absent on;
  whole = body.whole;
}

pub exchanged-backed : (c : Core) (disk : Disk) (s t : ℕ) → IsCore c → is_used (c.entries s).state ≡ true → is_used (c.entries t).state ≡ true → place_of (c.entries s).state ≡ None → place_of (c.entries t).state ≡ None → IsBacked c disk
    → IsBacked c (exchanged disk (c.entries s).name (c.entries t).name)
exchanged-backed c disk s t core on also leaf away backed = record {
  body = λ q p at. body-on c disk (exchanged disk (c.entries s).name (c.entries t).name) (c.entries q) p (exchanged-away disk (c.entries s).name (c.entries t).name (c.entries q).name (apart q p s at on leaf) (apart q p t at also away)) (backed.body q p at);
}
  where
    apart : (q p k : ℕ) → place_of (c.entries q).state ≡ Some p → is_used (c.entries k).state ≡ true → place_of (c.entries k).state ≡ None → (c.entries q).name ≢ (c.entries k).name
    apart q p k at live none = λ e.
        let both : Some q ≡ Some k = sym (core.found q (placed-used (c.entries q).state p at)) ∙ ap c.find e ∙ core.found k live in
        let same : q ≡ k = (cc) in
        let no_ : Some p ≡ None = sym at ∙ ap (λ (z : ℕ). place_of (c.entries z).state) same ∙ none in
        cc

pub exchanged-valued : (f : Disk) (a b : ℕ) → IsValued f → IsValued (exchanged f a b)
exchanged-valued f a b valued n i o v at there = go (eqb n b) at
  where
    inner : (x : Bool) → cond x (f b) (f n) ≡ Some o → IsValue v
    inner true e = valued b i o v e there
    inner false e = valued n i o v e there

    go : (x : Bool) → cond x (f a) (cond (eqb n a) (f b) (f n)) ≡ Some o → IsValue v
    go true e = valued a i o v e there
    go false e = inner (eqb n a) e

-- ---- what is told

-- an object that isn't in the core has a record
pub record-there : (b : Bool) (c : Core) (disk : Disk) (next s : ℕ) → IsTrue b → IsCore c → is_used (c.entries s).state ≡ true → place_of (c.entries s).state ≡ None → Has (heap_if b (held c disk) next) (c.entries s).name → is_some (disk (c.entries s).name) ≡ true
record-there false c disk next s told core on leaf has = absurd (cc)
record-there true c disk next s told core on leaf has = ap is_some (sym (held-leaf c disk (c.entries s).name s (core.found s on) leaf)) ∙ has

-- the heap with two objects exchanged, as the access says it
swapped-by : (f : Disk) (a b next : ℕ) (x y : Option Object) → f a ≡ x → f b ≡ y → is_some x ≡ true → is_some y ≡ true → heap_if true (exchanged f a b) next ≡ with_swapped (heap_if true f next) (Ref a) (Ref b)
swapped-by f a b next None y e g some too = absurd (cc)
swapped-by f a b next (Some o) None e g some too = absurd (cc)
swapped-by f a b next (Some o) (Some p) e g some too =
    ap (λ (z : Option Object). heap_if true (put (put f a z) b (f a)) next) g ∙ ap (λ (z : Option Object). heap_if true (put (put f a (Some p)) b z) next) e
    ∙ sym (ap (λ (z : Option Object). option_map_or (λ (o : Object). option_map_or (λ (p : Object). put_object (put_object (heap_if true f next) a p) b o) (f b) (heap_if true f next)) z (heap_if true f next)) e
    ∙ ap (λ (z : Option Object). option_map_or (λ (p : Object). put_object (put_object (heap_if true f next) a p) b o) z (heap_if true f next)) g)

pub exchanged-told : (told : Bool) (c : Core) (disk : Disk) (next s t p q : ℕ) (regs : ℕ → Value) → IsTrue told → IsCore c → is_used (c.entries s).state ≡ true → is_used (c.entries t).state ≡ true → place_of (c.entries s).state ≡ None → place_of (c.entries t).state ≡ None
    → Has (heap_if told (held c disk) next) (c.entries s).name → Has (heap_if told (held c disk) next) (c.entries t).name → regs p ≡ Ref (c.entries s).name → regs q ≡ Ref (c.entries t).name
    → heap_if told (held c (exchanged disk (c.entries s).name (c.entries t).name)) next ≡ heap_after (heap_if told (held c disk) next) regs (Swap p q)
exchanged-told false c disk next s t p q regs told core on also leaf away has had one two = absurd (cc)
exchanged-told true c disk next s t p q regs told core on also leaf away has had one two =
    ap (λ (f : Disk). heap_if true f next) (exchanged-held c disk s t core on also leaf away)
    ∙ swapped-by (held c disk) (c.entries s).name (c.entries t).name next (held c disk (c.entries s).name) (held c disk (c.entries t).name) refl refl has had
    ∙ sym (ap (λ (v : Value). with_swapped (heap_if true (held c disk) next) v (regs q)) one ∙ ap (λ (v : Value). with_swapped (heap_if true (held c disk) next) (Ref (c.entries s).name) v) two)

-- an object that isn't in the core isn't marked
leaf-clear : (c : Core) (s : ℕ) → IsCore c → AreHere c → is_used (c.entries s).state ≡ true → place_of (c.entries s).state ≡ None → marked_of c (c.entries s).name ≡ false
leaf-clear c s core here on leaf = marked-at c s core on ∙ off (c.entries s).flags.marked refl
  where
    off : (b : Bool) → (c.entries s).flags.marked ≡ b → (c.entries s).flags.marked ≡ false
    off false e = e
    off true e = let body = here s on e in absurd (let both : None ≡ Some body.0 = sym leaf ∙ body.1 in cc)

clear-of : (c : Core) (s n : ℕ) (v : Value) → IsCore c → AreHere c → is_used (c.entries s).state ≡ true → place_of (c.entries s).state ≡ None → v ≡ Ref (c.entries s).name → is_ref n v ≡ true → marked_of c n ≡ false
clear-of c s n v core here on leaf name is =
    let same : n ≡ (c.entries s).name = ref-name n (c.entries s).name (ap (is_ref n) (sym name) ∙ is) in
    ap (marked_of c) same ∙ leaf-clear c s core here on leaf

pub swapped-is : {H : Type 0} (host : Ghosts H) (m : LoomMemory H host) (new : H) (now : DiskRest) (s t p q : ℕ) → IsSound host m → IsNamed host m m p s → IsNamed host m m q t → place_of ((core_of m.pager.levels.parts).entries s).state ≡ None → place_of ((core_of m.pager.levels.parts).entries t).state ≡ None
    → IsWorkOnly host m.pager.levels.disk.host.now new → disk_room now ≡ disk_room m.pager.levels.disk.rest → (IsTrue (host.tells Work) → SwapsObjects host m.pager.levels.disk.host.now new m.pager.levels.disk.rest now ((core_of m.pager.levels.parts).entries s).name ((core_of m.pager.levels.parts).entries t).name)
    → IsStored (told_of host m.pager.levels.disk.host.now m.pager.levels.disk.rest (core_of m.pager.levels.parts) m.regs m.pager.pinned m.ledger) (told_of host new now (core_of m.pager.levels.parts) m.regs m.pager.pinned m.ledger) (Swap p q)
unfolding loom_told
swapped-is {H} host m new now s t p q sound one two leaf away work room swaps =
    let put_ : (host.roles new Transcript).put ≡ (host.roles m.pager.levels.disk.host.now Transcript).put = ap (λ (r : RoleState). r.put) (work.others Transcript transcript-away) in
    let core = m.pager.levels.whole.parts.core in
    let regs : ℕ → Value = λ r. meant (core_of m.pager.levels.parts).entries [] 0 (word_in m.regs r) in
    record {
      heap = heap_if (host.tells Work) (held (core_of m.pager.levels.parts) (disk_of host new now)) m.ledger.next;
      same = λ i. record (told_of host new now (core_of m.pager.levels.parts) m.regs m.pager.pinned m.ledger) { transcript = put_ i };
      bounds = (refl, refl, room, work.later, (let said = work.other_faults Transcript transcript-away in omega arith));
      counts = (refl, sym (add-zero m.ledger.made));
      cache = kept-cache (touched_by regs (Swap p q)) _ _ refl (λ n touched. clear n (is_ref n (regs p)) refl touched);
      stored = λ told. ap (λ (d : Disk). heap_if (host.tells Work) (held (core_of m.pager.levels.parts) d) m.ledger.next) (swaps told).objects
          ∙ exchanged-told (host.tells Work) (core_of m.pager.levels.parts) (disk_of host m.pager.levels.disk.host.now m.pager.levels.disk.rest) m.ledger.next s t p q regs told core one.used two.used leaf away (one.has told) (two.has told) one.name two.name;
    }
  where
    clear : (n : ℕ) (b : Bool) → is_ref n (meant (core_of m.pager.levels.parts).entries [] 0 (word_in m.regs p)) ≡ b → b || is_ref n (meant (core_of m.pager.levels.parts).entries [] 0 (word_in m.regs q)) ≡ true → marked_of (core_of m.pager.levels.parts) n ≡ false
    clear n true e on = clear-of (core_of m.pager.levels.parts) s n (meant (core_of m.pager.levels.parts).entries [] 0 (word_in m.regs p)) m.pager.levels.whole.parts.core (are-here (core_of m.pager.levels.parts) m.pager.levels.whole.marks) one.used leaf one.name e
    clear n false e on = clear-of (core_of m.pager.levels.parts) t n (meant (core_of m.pager.levels.parts).entries [] 0 (word_in m.regs q)) m.pager.levels.whole.parts.core (are-here (core_of m.pager.levels.parts) m.pager.levels.whole.marks) two.used away two.name on

pub swapped-over : {H : Type 0} (host : Ghosts H) (m : LoomMemory H host) (new : H) (now : DiskRest) (s t : ℕ) → IsSound host m → is_used ((core_of m.pager.levels.parts).entries s).state ≡ true → is_used ((core_of m.pager.levels.parts).entries t).state ≡ true → place_of ((core_of m.pager.levels.parts).entries s).state ≡ None → place_of ((core_of m.pager.levels.parts).entries t).state ≡ None
    → disk_room now ≡ disk_room m.pager.levels.disk.rest → disk_held now ≡ disk_held m.pager.levels.disk.rest → (IsTrue (host.tells Work) → SwapsObjects host m.pager.levels.disk.host.now new m.pager.levels.disk.rest now ((core_of m.pager.levels.parts).entries s).name ((core_of m.pager.levels.parts).entries t).name)
    → IsOver host new now (core_of m.pager.levels.parts) m.ledger
swapped-over {H} host m new now s t sound on also leaf away room many swaps =
    let core = m.pager.levels.whole.parts.core in
    let disk = disk_of host m.pager.levels.disk.host.now m.pager.levels.disk.rest in
    record {
      stands = λ told. (swaps told).stands told;
      backed = λ told. subst (λ (d : Disk). IsBacked (core_of m.pager.levels.parts) d) (sym (swaps told).objects) (exchanged-backed (core_of m.pager.levels.parts) disk s t core on also leaf away (sound.over.backed told));
      counted = λ told. let was = sound.over.counted told in omega (arith, was, many);
      roomy = let was = sound.over.roomy in omega (arith, was, room);
      based = subst (λ (n : ℕ). IsNumbered m.ledger.base m.ledger.made m.ledger.held m.ledger.next n) (sym room) sound.over.based;
      valued = λ told. subst (λ (d : Disk). IsValued d) (sym (ap (held (core_of m.pager.levels.parts)) (swaps told).objects ∙ exchanged-held (core_of m.pager.levels.parts) disk s t core on also leaf away)) (exchanged-valued (held (core_of m.pager.levels.parts) disk) ((core_of m.pager.levels.parts).entries s).name ((core_of m.pager.levels.parts).entries t).name (sound.over.valued told));
    }

-- ---- what the disk asks, and why it fails

some-held : (x : Option DiskObject) (y : Option Object) → y ≡ object_held x → is_some y ≡ true → IsSome x
some-held None y e some = absurd (let no_ : false ≡ true = sym (ap is_some e) ∙ some in cc)
some-held (Some o) y e some = refl

pub both-held : {H : Type 0} (host : Ghosts H) (now : H) (rest : DiskRest) (a b : ℕ) → ((rest : DiskRest) (work : List ℕ) (objects : Objects) (pending : List ℕ) (n : ℕ) → IsDisk rest work objects pending → objects_at rest work n ≡ object_held (map.get objects n))
    → HoldsObjects host now rest → (IsTrue (host.tells Work) → is_some (disk_of host now rest a) ≡ true) → (IsTrue (host.tells Work) → is_some (disk_of host now rest b) ≡ true) → HoldsSuch host now rest (AreHeldNames a b)
both-held {H} host now rest a b is stands one two = λ told.
    let all = stands told in (
      all.0,
      all.1,
      all.2,
      (
        some-held (map.get all.0 a) (disk_of host now rest a) (is rest (work_of host now) all.0 all.1 a all.2) (one told),
        some-held (map.get all.0 b) (disk_of host now rest b) (is rest (work_of host now) all.0 all.1 b all.2) (two told),
      ),
    )

pub either-purge : {H : Type 0} (host : Ghosts H) (old new : H) (P : ℕ → Type 0) (a b : ℕ) (f : DiskFault) → IsEitherFault (host.tells Work) (host.faults old Work) (host.faults new Work) P a b f → IsPurgeFault host old new f
either-purge {H} host old new P a b (fault.Work count) cause = ⊎_elim (λ x. x) (λ x. x) cause
either-purge {H} host old new P a b (fault.Full held room) cause = ⊎_elim (λ (x : ⊥). absurd x) (λ (x : ⊥). absurd x) cause
either-purge {H} host old new P a b (fault.Damaged place about) cause = ⊎_elim (λ x. x.0) (λ x. x.0) cause

-- the same of names that are equal
pub swaps-as : {H : Type 0} (host : Ghosts H) (old new : H) (rest now : DiskRest) (a b x y : ℕ) → x ≡ a → y ≡ b → (IsTrue (host.tells Work) → SwapsObjects host old new rest now x y) → IsTrue (host.tells Work) → SwapsObjects host old new rest now a b
swaps-as {H} host old new rest now a b x y one two is told = subst (λ (n : ℕ). SwapsObjects host old new rest now n b) one (subst (λ (n : ℕ). SwapsObjects host old new rest now x n) two (is told))

-- a swap needs no object in the core
pub swap-core : (t : Told) (a b : ℕ) → IfBounds t.bounds (HasCore t (Swap a b))
swap-core t a b = go t.bounds
  where
    go : (x : Option Bounds) → IfBounds x (HasCore t (Swap a b))
    go None = tt
    go (Some b) = λ told. omega arith

-- ---- who is in the core then

-- the object of a register, once it left
away-gone : {H : Type 0} (host : Ghosts H) (m v : LoomMemory H host) (of : ℕ) → IsSound host v → IsQuiet (loom_told host m) (loom_told host v) → IsRef ((loom_told host m).regs of) → IsAway v of → is_resident v (name_at ((loom_told host m).regs of)) ≡ false
away-gone {H} host m v of sound quiet ref away =
    let same : (loom_told host v).regs of ≡ (loom_told host m).regs of = ap (λ (z : Told). z.regs of) quiet.same in
    ap (λ (w : Value). is_resident v (name_at w)) (sym same) ∙ resident-at host v of (word_in v.regs of) sound (subst IsRef (sym same) ref) refl ∙ ap (λ (o : Option ℕ). is_some o) away

-- each other object stays
pub left-others : {H : Type 0} (host : Ghosts H) (m u : LoomMemory H host) (of s : ℕ) → IsSound host m → IsCore (core_of u.pager.levels.parts) → IsRef ((loom_told host m).regs of) → s ≡ word_in m.regs of → KeepsAllBut s (core_of m.pager.levels.parts) (core_of u.pager.levels.parts)
    → (k : ℕ) → k ≢ name_at ((loom_told host m).regs of) → IsTrue (is_resident m k) → IsTrue (is_resident u k)
unfolding is_resident
left-others {H} host m u of s sound now ref same one k away here = go ((core_of m.pager.levels.parts).find k) refl here
  where
    name : name_at ((loom_told host m).regs of) ≡ ((core_of m.pager.levels.parts).entries s).name
    name = ap name_at (entry-at host m of s sound ref same).name

    go : (x : Option ℕ) → (core_of m.pager.levels.parts).find k ≡ x → has_body (core_of m.pager.levels.parts) x ≡ true → has_body (core_of u.pager.levels.parts) ((core_of u.pager.levels.parts).find k) ≡ true
    go None e here = absurd (cc)
    go (Some t) e here =
        let old = m.pager.levels.whole.parts.core in
        let body = some-of (place_of ((core_of m.pager.levels.parts).entries t).state) (is_some (place_of ((core_of m.pager.levels.parts).entries t).state)) refl here in
        let other : t ≢ s = (λ h. away (sym (old.named k t e) ∙ ap (λ (q : ℕ). ((core_of m.pager.levels.parts).entries q).name) h ∙ sym name)) in
        let stays = ⊎_elim (λ (e : t ≡ s). absurd (other e)) (λ (x : IsSameBody (core_of m.pager.levels.parts) (core_of u.pager.levels.parts) t body.0). x) (one t body.0 body.1) in
        let found : (core_of u.pager.levels.parts).find k ≡ Some t = ap (core_of u.pager.levels.parts).find (sym (stays.name ∙ old.named k t e)) ∙ now.found t (placed-used ((core_of u.pager.levels.parts).entries t).state stays.at stays.place) in
        ap (λ (x : Option ℕ). has_body (core_of u.pager.levels.parts) x) found ∙ ap (λ (x : Option ℕ). is_some x) stays.place

-- and after both, where their records were exchanged
pub put-away : {T H : Type 0} (r : Result T MemFault) (host : Ghosts H) (m u v w : LoomMemory H host) (a b : ℕ) → IsSound host v → IsQuiet (loom_told host m) (loom_told host u) → IsQuiet (loom_told host m) (loom_told host v)
    → IsRef ((loom_told host m).regs a) → IsRef ((loom_told host m).regs b) → IsAway v a → IsAway v b
    → ((k : ℕ) → k ≢ name_at ((loom_told host m).regs a) → IsTrue (is_resident m k) → IsTrue (is_resident u k)) → ((k : ℕ) → k ≢ name_at ((loom_told host u).regs b) → IsTrue (is_resident u k) → IsTrue (is_resident v k))
    → fetched u ≡ fetched m → fetched v ≡ fetched u → OnOk r (w.pager.levels.parts ≡ v.pager.levels.parts) → OnOk r (fetched w ≡ fetched v) → OnOk r (IsPutAway m w (name_at ((loom_told host m).regs a)) (name_at ((loom_told host m).regs b)))
put-away {T} {H} (Ok x) host m u v w a b sound one both first second away-a away-b leaves stays count counts parts last =
    let name : name_at ((loom_told host u).regs b) ≡ name_at ((loom_told host m).regs b) = ap (λ (z : Told). name_at (z.regs b)) one.same in
    record {
      first = speech-resident v w (name_at ((loom_told host m).regs a)) parts ∙ away-gone host m v a sound both first away-a;
      second = speech-resident v w (name_at ((loom_told host m).regs b)) parts ∙ away-gone host m v b sound both second away-b;
      others = λ k x y here. speech-resident v w k parts ∙ stays k (λ e. y (e ∙ name)) (leaves k x here);
      fetches = last ∙ counts ∙ count;
    }
put-away {T} {H} (Err f) host m u v w a b sound one both first second away-a away-b leaves stays count counts parts last = tt
