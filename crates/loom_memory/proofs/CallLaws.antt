-- The object of a call comes in, or the call is refused: the need of its row, and why it has no room.
use Rattle.std.proofs.Common.{◌≡◌, ◌≢◌, ℕ, ◌+◌, ◌<◌, ◌≤◌, ◌||◌, Bool, true, false, cond, eqb, List, [], ◌∷◌, length, refl, sym, ◌∙◌, ap, subst, add-zero, arith, Option, Some, None, IsTrue, count_by}
use Rattle.std.proofs.lemmas.Grind.{common_steps}
use Rattle.std.specs.Option.{option_map_or, is_some}
use Rattle.long_names.specs.declared.value.Value.{Value}
use Rattle.long_names.specs.declared.value.Value.TheVariants.{Ref}
use Rattle.long_names.specs.declared.object.Object.{Object}
use Rattle.long_names.specs.Objects.{body_words}
use Rattle.long_names.specs.Counting.{counted, Rose}
use Rattle.long_names.specs.Heap.{Heap, Has}
use Rattle.long_names.specs.State.{name_at}
use Rattle.long_names.specs.Need.{Fits, words_at, added, is_pinned, words_of_row}
use Rattle.long_names.specs.Access.{Access, Known, Class, KindOf, Length, Header, Field, SetField, Word, SetWord, Byte, SetByte, ReadWords, WriteWords, ReadBytes, Make, Pin, Mark, Say, Swap, target_of}
use Rattle.loom_host.specs.declared.outside.Host.{Ghosts}
use Rattle.loom_host.specs.Outside.{RoleState}
use Rattle.loom_host.specs.declared.outside.Role.{Role}
use Rattle.loom_host.specs.declared.outside.Role.TheVariants.{Work, Transcript}
use Rattle.loom_host.specs.declared.outside.DiskFault.{DiskFault}
use Rattle.loom_host.specs.declared.outside.DiskFault.TheVariants as fault
use Rattle.object_memory.specs.declared.fault.MemFault.{MemFault}
use Rattle.object_memory.specs.declared.fault.MemFault.TheVariants.{CoreFull}
use Rattle.object_memory.specs.declared.fault.Need.{Need}
use Rattle.object_memory.specs.Told.{Told, IsReady, need_of}
use Rattle.object_memory.specs.Contract.{Does, makes, HasCause, ForBounds, SaysRefused, need_of_access, IsNeedOf, LeavesAll}
use Rattle.object_memory.specs.Plain.{refused}
use Rattle.object_table.specs.Entries.{is_used, place_of}
use Rattle.loom_host.specs.Work.{IsWorkOnly}
use Rattle.disk_objects.specs.Disk.{disk_room}
use Rattle.core_view.specs.Core.{Core}
use Rattle.core_view.specs.Words.{pointers, int_of_short}
use Rattle.core_view.specs.Counts.{names, outside}
use Rattle.std.proofs.lemmas.List.{length-take}
use Rattle.long_names.specs.Words.{literal_count}
use Rattle.long_names.specs.declared.object.Kind.{Kind}
use Rattle.long_names.specs.declared.object.Kind.TheVariants as kind
use Rattle.core_view.specs.Held.{Disk, held}
use Rattle.core_view.specs.Kept.{IsCore}
use Rattle.core_view.proofs.Core.{placed-used, held-leaf}
use Rattle.leaf_lambda.specs.Parts.{core_of}
use Rattle.purger.specs.declared.room.Pinned.{Pinned}
use Rattle.loom_memory.specs.declared.ledger.Ledger.{Ledger}
use Rattle.loom_memory.specs.declared.memory.LoomMemory.{LoomMemory}
use Rattle.disk_objects.specs.Function.{disk_of}
use Rattle.purger.specs.Purge.{IsPurgeFault}
use Rattle.core_view.specs.Room.{room_by, room_for, over_three, IsBare}
use Rattle.object_table.specs.Entries.{sum_below, used_by}
use Rattle.loom_memory.specs.Memory.{pin_in, name_if, heap_if, loom_told, IsPinned, IsSound, IsSilent, IsRefused, IsRefusedAt, IsRefusalOf, IsNeed, IsSized, words_in_row}
use Rattle.loom_memory.specs.Gentle.{IsQuiet}
use Rattle.core_view.specs.Room.{in_hand}
use Rattle.loom_memory.proofs.NeedLaws.{words-at, names-eq, none-there, slot-adds}
use Rattle.loom_memory.proofs.FullLaws.{slots_by, heap_by, row-entries, pinned-is, no-entries, no-words}
use Rattle.loom_memory.proofs.CacheLaws.{left-refl}
use Rattle.loom_memory.proofs.AccessLaws.{refused-quiet, after-quiet}

-- ---- the row

-- the words of the row of the object of an entry
row-in : (c : Core) (disk : Disk) (next s words : ℕ) (pins : Pinned) → IsCore c → ((i : ℕ) → IsPinned c (pin_in pins i)) → is_used (c.entries s).state ≡ true → words_at (heap_by c disk next) (c.entries s).name ≡ words
    → words_of_row (heap_by c disk next) (record { object = (c.entries s).name; slots = slots_by c pins }) ≡ words_in_row c pins s words
unfolding words_of_row
row-in c disk next s words pins core pinned used sized =
    let none : room_for c 0 ≡ 0 = ap (room_by c.chunks) (none-there c core) in
    let one_ : added (words_at (heap_by c disk next)) (λ k. eqb k (c.entries s).name) (name_if c.entries pins.a) ≡ cond (eqb pins.a s) 0 (room_for c pins.a) = slot-adds c (words_at (heap_by c disk next)) (room_for c) (λ k. eqb k (c.entries s).name) (eqb pins.a s) pins.a core (pinned 0) none (λ some. words-at c disk next pins.a (pinned 0 some).1.0 core (pinned 0 some).1.1) (λ some. names-eq c pins.a s core (on 0 some) used) in
    let two : added (words_at (heap_by c disk next)) (λ k. eqb k (c.entries s).name || is_pinned k (name_if c.entries pins.a)) (name_if c.entries pins.b) ≡ cond (eqb pins.b s || eqb pins.b pins.a) 0 (room_for c pins.b) = slot-adds c (words_at (heap_by c disk next)) (room_for c) (λ k. eqb k (c.entries s).name || is_pinned k (name_if c.entries pins.a)) (eqb pins.b s || eqb pins.b pins.a) pins.b core (pinned 1) none (λ some. words-at c disk next pins.b (pinned 1 some).1.0 core (pinned 1 some).1.1)
    (λ some. ap (λ (x : Bool). x || is_pinned (c.entries pins.b).name (name_if c.entries pins.a)) (names-eq c pins.b s core (on 1 some) used) ∙ ap (λ (x : Bool). eqb pins.b s || x) (pinned-is c pins.a pins.b core (pinned 0) (pinned 1) some)) in
    let three : added (words_at (heap_by c disk next)) (λ k. eqb k (c.entries s).name || (is_pinned k (name_if c.entries pins.a) || is_pinned k (name_if c.entries pins.b))) (name_if c.entries pins.d) ≡ cond (eqb pins.d s || (eqb pins.d pins.a || eqb pins.d pins.b)) 0 (room_for c pins.d) = slot-adds c (words_at (heap_by c disk next)) (room_for c) (λ k. eqb k (c.entries s).name || (is_pinned k (name_if c.entries pins.a) || is_pinned k (name_if c.entries pins.b))) (eqb pins.d s || (eqb pins.d pins.a || eqb pins.d pins.b)) pins.d core (pinned 2) none (λ some. words-at c disk next pins.d (pinned 2 some).1.0 core (pinned 2 some).1.1)
    (λ some. ap (λ (x : Bool). x || (is_pinned (c.entries pins.d).name (name_if c.entries pins.a) || is_pinned (c.entries pins.d).name (name_if c.entries pins.b))) (names-eq c pins.d s core (on 2 some) used) ∙ ap (λ (x : Bool). eqb pins.d s || (x || is_pinned (c.entries pins.d).name (name_if c.entries pins.b))) (pinned-is c pins.a pins.d core (pinned 0) (pinned 2) some) ∙ ap (λ (x : Bool). eqb pins.d s || (eqb pins.d pins.a || x)) (pinned-is c pins.b pins.d core (pinned 1) (pinned 2) some)) in
    omega (arith, sized, one_, two, three)
  where
    on : (i : ℕ) → pin_in pins i ≢ 0 → is_used (c.entries (pin_in pins i)).state ≡ true
    on i some = let at = pinned i some in placed-used (c.entries (pin_in pins i)).state at.1.0 at.1.1

-- so the need that was counted is that of the row
need-is : (c : Core) (disk : Disk) (next s words : ℕ) (pins : Pinned) (need : Need) → IsCore c → ((i : ℕ) → IsPinned c (pin_in pins i)) → is_used (c.entries s).state ≡ true → words_at (heap_by c disk next) (c.entries s).name ≡ words → IsNeed c pins s words need
    → need ≡ need_of (heap_by c disk next) (record { object = (c.entries s).name; slots = slots_by c pins })
need-is c disk next s words pins need core pinned used sized is =
    let all = is.all ∙ sym (row-in c disk next s words pins core pinned used sized) in
    let leaves = is.entries ∙ sym (row-entries c disk next (c.entries s).name pins core pinned) in
    let named = is.object in
    λ i. record { object = named i; words = all i; entries = leaves i }

need-told : (b : Bool) (c : Core) (disk : Disk) (next s words : ℕ) (pins : Pinned) (need : Need) → IsTrue b → IsCore c → ((i : ℕ) → IsPinned c (pin_in pins i)) → is_used (c.entries s).state ≡ true → words_at (heap_if b (held c disk) next) (c.entries s).name ≡ words → IsNeed c pins s words need
    → need ≡ need_of (heap_if b (held c disk) next) (record { object = (c.entries s).name; slots = slots_by c pins })
need-told false c disk next s words pins need told core pinned used sized is = absurd (cc)
need-told true c disk next s words pins need told core pinned used sized is = need-is c disk next s words pins need core pinned used sized is

-- the row of a silent access
access-need : (t : Told) (a : Access) (of n : ℕ) → target_of a ≡ Some of → t.regs of ≡ Ref n → makes a ≡ 0 → need_of_access t a ≡ need_of t.heap (record { object = n; slots = t.slots })
access-need t a of n target is none = go a target none
  where
    named : (k : ℕ) → Some k ≡ Some of → need_of t.heap (record { object = name_at (t.regs k); slots = t.slots }) ≡ need_of t.heap (record { object = n; slots = t.slots })
    named k e = let same : k ≡ of = cc in ap (λ (v : Value). need_of t.heap (record { object = name_at v; slots = t.slots })) (ap t.regs same ∙ is)

    go : (a : Access) → target_of a ≡ Some of → makes a ≡ 0 → need_of_access t a ≡ need_of t.heap (record { object = n; slots = t.slots })
    go (Known to name) e z = cc
    go (Class to k) e z = named k e
    go (KindOf k) e z = named k e
    go (Length k) e z = named k e
    go (Header k) e z = named k e
    go (Field to k i) e z = named k e
    go (SetField k i from) e z = named k e
    go (Word k i) e z = named k e
    go (SetWord k i word) e z = named k e
    go (Byte k i) e z = named k e
    go (SetByte k i byte) e z = named k e
    go (ReadWords k at count) e z = named k e
    go (WriteWords k at run) e z = named k e
    go (ReadBytes k at count) e z = named k e
    go (Make to class what) e z = cc
    go (Pin slot k) e z = named k e
    go (Mark k) e z = named k e
    go (Say k) e z = named k e
    go (Swap k l) e z = cc

row-need : (t : Told) (a : Access) (of : ℕ) (need : Need) → target_of a ≡ Some of → need ≡ need_of_access t a → IsNeedOf t a need
row-need t (Swap k l) of need target is = absurd (cc)
row-need t (Known to name) of need target is = is
row-need t (Class to k) of need target is = is
row-need t (KindOf k) of need target is = is
row-need t (Length k) of need target is = is
row-need t (Header k) of need target is = is
row-need t (Field to k i) of need target is = is
row-need t (SetField k i from) of need target is = is
row-need t (Word k i) of need target is = is
row-need t (SetWord k i word) of need target is = is
row-need t (Byte k i) of need target is = is
row-need t (SetByte k i byte) of need target is = is
row-need t (ReadWords k at count) of need target is = is
row-need t (WriteWords k at run) of need target is = is
row-need t (ReadBytes k at count) of need target is = is
row-need t (Make to class what) of need target is = is
row-need t (Pin slot k) of need target is = is
row-need t (Mark k) of need target is = is
row-need t (Say k) of need target is = is

-- CoreFull with this need
pub core-full : {H : Type 0} (host : Ghosts H) (m : LoomMemory H host) (n : Told) (s words : ℕ) (need : Need) (x : MemFault) → IsSound host m → IsReady (loom_told host m) → is_used ((core_of m.pager.levels.parts).entries s).state ≡ true
    → (IsTrue (host.tells Work) → words_at (loom_told host m).heap ((core_of m.pager.levels.parts).entries s).name ≡ words) → IsNeed (core_of m.pager.levels.parts) m.pager.pinned s words need → (Fits m.ledger.core m.ledger.entries need.words need.entries → ⊥)
    → n ≡ refused (loom_told host m) (CoreFull need) → x ≡ CoreFull need → (loom_told host m).refusals ≤ counted (loom_told host m).refusals → IsRefusedAt (loom_told host m) n ((core_of m.pager.levels.parts).entries s).name x
unfolding loom_told
core-full {H} host m n s words need x sound ready used sized is unfit refuses same later = λ a of target named silent none.
    let t = loom_told host m in
    subst (λ (f : MemFault). IsRefused (loom_told host m) n a f) (sym same)
    (refused-quiet (loom_told host m) (loom_told host m) n a (CoreFull need) (record { same = refl; cache = left-refl (loom_told host m).cache; bounds = (refl, refl, refl, omega arith, omega arith); counts = (refl, sym (add-zero m.ledger.made)) }) refuses ready silent none later (
      subst (λ b. ForBounds b (λ b. Fits b.core b.entries need.words need.entries → ⊥)) (sym (ap (λ (z : Told). z.bounds) refuses)) unfit,
      λ told. row-need (loom_told host m) a of need target (need-told (host.tells Work) (core_of m.pager.levels.parts) (disk_of host m.pager.levels.disk.host.now m.pager.levels.disk.rest) m.ledger.next s words m.pager.pinned need told m.pager.levels.whole.parts.core sound.kept.pinned used (sized told) is
          ∙ sym (access-need (loom_told host m) a of ((core_of m.pager.levels.parts).entries s).name target named none)),
    ))

-- ---- a fault while room was made

purge-says : (t u : Told) (a : Access) (f : MemFault) → IsSilent a → u.transcript ≡ t.transcript → SaysRefused (Does a) t u f
purge-says t u (Say of) f silent is = absurd silent
purge-says t u (Known to name) f silent is = λ told. is
purge-says t u (Class to of) f silent is = λ told. is
purge-says t u (KindOf of) f silent is = λ told. is
purge-says t u (Length of) f silent is = λ told. is
purge-says t u (Header of) f silent is = λ told. is
purge-says t u (Field to of i) f silent is = λ told. is
purge-says t u (SetField of i from) f silent is = λ told. is
purge-says t u (Word of i) f silent is = λ told. is
purge-says t u (SetWord of i word) f silent is = λ told. is
purge-says t u (Byte of i) f silent is = λ told. is
purge-says t u (SetByte of i byte) f silent is = λ told. is
purge-says t u (ReadWords of at count) f silent is = λ told. is
purge-says t u (WriteWords of at run) f silent is = λ told. is
purge-says t u (ReadBytes of at count) f silent is = λ told. is
purge-says t u (Make to class what) f silent is = λ told. is
purge-says t u (Pin slot of) f silent is = λ told. is
purge-says t u (Mark of) f silent is = λ told. is
purge-says t u (Swap k l) f silent is = λ told. is

pub transcript-away : ◌≢◌ {A = Role} Transcript Work
transcript-away = λ e. cc

pub purge-left : (f : DiskFault) (r : MemFault) (P : Type 0) → IsRefusalOf f r → LeavesAll r P
purge-left (fault.Work count) r P is = subst (λ (x : MemFault). LeavesAll x P) (sym is) tt
purge-left (fault.Full held room) r P is = subst (λ (x : MemFault). LeavesAll x P) (sym is) tt
purge-left (fault.Damaged place about) r P is = subst (λ (x : MemFault). LeavesAll x P) (sym is) tt

-- a failed call on Work leaves what is not in Work
pub purge-refused : {H : Type 0} (host : Ghosts H) (m n : LoomMemory H host) (w : Told) (a : Access) (f : DiskFault) (r x : MemFault) → n.ledger ≡ m.ledger → IsWorkOnly host m.pager.levels.disk.host.now n.pager.levels.disk.host.now → disk_room n.pager.levels.disk.rest ≡ disk_room m.pager.levels.disk.rest
    → IsPurgeFault host m.pager.levels.disk.host.now n.pager.levels.disk.host.now f → IsRefusalOf f r → w ≡ refused (loom_told host n) r → x ≡ r → (loom_told host n).refusals ≤ counted (loom_told host n).refusals → IsSilent a → makes a ≡ 0 → IsRefused (loom_told host m) w a x
unfolding loom_told
purge-refused {H} host m n w a f r x ledger work room cause why refuses same later silent none =
    subst (λ (y : MemFault). IsRefused (loom_told host m) w a y) (sym same) (subst (λ (z : Told). IsRefused (loom_told host m) z a r) (sym refuses) (
      record {
        tells = refl;
        speaks = refl;
        bounds = (ap (λ (k : Ledger). k.core) ledger, ap (λ (k : Ledger). k.entries) ledger, room, work.later, (let said = work.other_faults Transcript transcript-away in omega arith));
        refusals = subst (λ (k : ℕ). k ≤ counted n.ledger.refusals) (ap (λ (k : Ledger). k.refusals) ledger) later;
      },
      record {
        rose = subst (λ (k : ℕ). Rose k (counted n.ledger.refusals)) (ap (λ (k : Ledger). k.refusals) ledger) (omega arith);
        last = refl;
        cause = because f r cause why;
        spent = λ make told past. absurd (omega arith);
        counts = (ap (λ (k : Ledger). k.base) ledger, ap (λ (k : Ledger). k.made) ledger ∙ sym (add-zero m.ledger.made));
        transcript = purge-says (loom_told host m) (refused (loom_told host n) r) a r silent (ap (λ (s : RoleState). s.put) (work.others Transcript transcript-away));
        left = purge-left f r _ why;
      },
    ))
  where
    because : (f : DiskFault) (r : MemFault) → IsPurgeFault host m.pager.levels.disk.host.now n.pager.levels.disk.host.now f → IsRefusalOf f r → HasCause (loom_told host m) (refused (loom_told host n) r) (Does a) r
    because (fault.Work count) r cause is = subst (λ (y : MemFault). HasCause (loom_told host m) (refused (loom_told host n) r) (Does a) y) (sym is) (sym cause.0, cause.1)
    because (fault.Full held room) r cause is = subst (λ (y : MemFault). HasCause (loom_told host m) (refused (loom_told host n) r) (Does a) y) (sym is) cause
    because (fault.Damaged place about) r cause is = subst (λ (y : MemFault). HasCause (loom_told host m) (refused (loom_told host n) r) (Does a) y) (sym is) cause

-- ---- what is counted

pub few-pointers : (k : Kind) (ws : List ℕ) → length (pointers k ws) ≤ length ws
few-pointers kind.Pointers ws = omega arith
few-pointers kind.Words ws = omega arith
few-pointers kind.Bytes ws = omega arith
few-pointers kind.Method [] = omega arith
few-pointers kind.Method (h ∷ rest) = let few = length-take (literal_count (int_of_short h)) rest in omega arith

-- the record of a leaf is its object
pub leaf-words : (b : Bool) (c : Core) (disk : Disk) (next s words : ℕ) → IsTrue b → IsCore c → is_used (c.entries s).state ≡ true → place_of (c.entries s).state ≡ None → IsSized b (disk (c.entries s).name) words → words_at (heap_if b (held c disk) next) (c.entries s).name ≡ words
leaf-words false c disk next s words told core used leaf size = absurd (cc)
leaf-words true c disk next s words told core used leaf size = ap (λ (o : Option Object). option_map_or (λ (o : Object). 4 + body_words o.body) o 0) (held-leaf c disk (c.entries s).name s (core.found s used) leaf ∙ size.there refl) ∙ size.sized

pub body-told : (b : Bool) (c : Core) (disk : Disk) (next s p : ℕ) → IsTrue b → IsCore c → place_of (c.entries s).state ≡ Some p → words_at (heap_if b (held c disk) next) (c.entries s).name ≡ room_for c s
body-told false c disk next s p told core at = absurd (cc)
body-told true c disk next s p told core at = words-at c disk next s p core at

-- a leaf that the heap has is on the disk
pub leaf-there : (b : Bool) (c : Core) (disk : Disk) (next s : ℕ) → IsTrue b → IsCore c → is_used (c.entries s).state ≡ true → place_of (c.entries s).state ≡ None → Has (heap_if b (held c disk) next) (c.entries s).name → disk (c.entries s).name ≡ None → ⊥
leaf-there false c disk next s told core used leaf has none = cc
leaf-there true c disk next s told core used leaf has none = let no_ : false ≡ true = sym (ap (λ (o : Option Object). is_some o) (held-leaf c disk (c.entries s).name s (core.found s used) leaf ∙ none)) ∙ has in cc

-- the same heap, over other cores and disks
pub heap-back : (b : Bool) (f g : Disk) (next : ℕ) → IsTrue b → heap_if b g next ≡ heap_if b f next → g ≡ f
heap-back false f g next told e = absurd (cc)
heap-back true f g next told e = ap (λ (h : Heap). h.at) e

-- ---- why there is no room

-- fewer than 27 entries are free
pub unfit-entries : (c : Core) (s words free entries size : ℕ) (need : Need) (regs : List ℕ) (pins : Pinned) → IsCore c → IsBare pins.a pins.b pins.d c → length regs ≡ 24 → ((t : ℕ) → outside c t ≡ count_by (names t) (in_hand regs pins.a pins.b pins.d)) → ((i : ℕ) → IsPinned c (pin_in pins i))
    → entries ≡ free + sum_below c.bound (λ t. used_by (c.entries t)) → free < 27 → IsNeed c pins s words need → Fits size entries need.words need.entries → ⊥
unfit-entries c s words free entries size need regs pins core bare many rooted pinned all few is fits =
    let disk : Disk = λ n. None in
    let row = row-entries c (λ n. None) 0 (c.entries s).name pins core pinned in
    no-entries c (λ n. None) 0 (c.entries s).name need.words free entries size regs pins core bare many rooted pinned all few (record { words = fits.words; leaves = (let most = fits.leaves in let count = is.entries in omega (arith, most, count, row)) })

-- fewer words are free than the object of a leaf takes
pub unfit-words : (c : Core) (s words free entries size : ℕ) (need : Need) (pins : Pinned) (o : Object) → IsCore c → ((i : ℕ) → IsPinned c (pin_in pins i)) → is_used (c.entries s).state ≡ true → place_of (c.entries s).state ≡ None → 4 + body_words o.body ≡ words
    → size ≤ free + over_three (room_for c) pins.a pins.b pins.d → free < words → IsNeed c pins s words need → Fits size entries need.words need.entries → ⊥
unfit-words c s words free entries size need pins o core pinned used leaf sized most few is fits =
    let at = leaf-words true c (λ n. Some o) 0 s words refl core used leaf (record { object = o; sized = sized; there = λ told. refl }) in
    let row = row-in c (λ n. Some o) 0 s words pins core pinned used at in
    no-words c (λ n. Some o) 0 (c.entries s).name words free entries size need.entries pins core pinned at other most few (record { words = (let all = fits.words in let count = is.all in omega (arith, all, count, row)); leaves = fits.leaves })
  where
    other : (i : ℕ) → pin_in pins i ≢ 0 → eqb (c.entries (pin_in pins i)).name (c.entries s).name ≡ false
    other i some = names-eq c (pin_in pins i) s core (placed-used (c.entries (pin_in pins i)).state (pinned i some).1.0 (pinned i some).1.1) used ∙ away (eqb (pin_in pins i) s) refl
      where
        away : (b : Bool) → eqb (pin_in pins i) s ≡ b → eqb (pin_in pins i) s ≡ false
        away false e = e
        away true e = let same : pin_in pins i ≡ s = grind (arith, common_steps) in let both : None ≡ Some (pinned i some).1.0 = sym leaf ∙ ap (λ (k : ℕ). place_of (c.entries k).state) (sym same) ∙ (pinned i some).1.1 in cc

-- a refusal for every silent access, after quiet steps
pub refused-at : (t u v : Told) (n : ℕ) (f : MemFault) → IsQuiet t u → IsRefusedAt u v n f → IsRefusedAt t v n f
refused-at t u v n f quiet is = λ a of target named silent none. after-quiet t u v a f silent none quiet (is a of target (ap (λ (z : Told). z.regs of) quiet.same ∙ named) silent none)
