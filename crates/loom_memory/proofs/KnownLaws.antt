-- A name comes into a register; or it has no entry and none is free: the need of its row, and why it has no room.
use Rattle.std.proofs.Common.{◌≡◌, ◌≢◌, ℕ, ℤ, ◌+◌, ◌≤◌, Bool, true, false, eqb, List, refl, sym, ◌∙◌, ap, subst, arith, Option, Some, None, IsTrue, inl, Result, Ok, Err}
use Rattle.std.proofs.lemmas.Grind.{common_steps}
use Rattle.std.specs.Prelude.{IfSome, IfNone, IfErr, OnOk, IsSome}
use Rattle.std.specs.Option.{option_map_or, option_and_then, is_some}
use Rattle.long_names.specs.declared.value.Value.{Value}
use Rattle.long_names.specs.declared.value.Value.TheVariants.{Int, Ref}
use Rattle.long_names.specs.declared.object.Object.{Object}
use Rattle.long_names.specs.Names.{SMALL_INTEGER}
use Rattle.long_names.specs.Objects.{body_words, int_of}
use Rattle.long_names.specs.Counting.{counted}
use Rattle.long_names.specs.Heap.{Has}
use Rattle.long_names.specs.State.{name_at, class_at, set_register, IsRef}
use Rattle.long_names.specs.Need.{Fits, words_at, words_named}
use Rattle.long_names.specs.Access.{Access, Known, Class, KindOf, Length, Header, Field, SetField, Word, SetWord, Byte, SetByte, ReadWords, WriteWords, ReadBytes, Make, Pin, Mark, Say, Swap, Nothing, object_of}
use Rattle.long_names.proofs.ThinLemmas.{IsThinner-refl}
use Rattle.loom_host.specs.declared.outside.Host.{Ghosts}
use Rattle.loom_host.specs.declared.outside.Role.TheVariants.{Work}
use Rattle.object_memory.specs.declared.fault.MemFault.{MemFault}
use Rattle.object_memory.specs.declared.fault.MemFault.TheVariants.{CoreFull}
use Rattle.object_memory.specs.declared.fault.Need.{Need}
use Rattle.object_memory.specs.Told.{Told, Bounds, Cache, IsReady, need_of}
use Rattle.object_memory.specs.Contract.{makes, ForBounds, IfBounds, SameBounds, Raised, LeavesCache, no_names, HasCore, Accessed, need_of_access, IsNeedOf}
use Rattle.object_memory.specs.Plain.{refused}
use Rattle.object_table.specs.declared.entry.Short.{Short}
use Rattle.object_table.specs.Entries.{is_used, sum_below, used_by}
use Rattle.object_table.specs.Table.{entry_at, entries_of, bound_of, free_of}
use Rattle.core_view.specs.Core.{Core}
use Rattle.core_view.specs.Held.{Disk, held}
use Rattle.core_view.specs.Kept.{IsCore}
use Rattle.core_view.specs.Room.{IsBare}
use Rattle.core_view.proofs.Core.{placed-used, held-absent}
use Rattle.disk_objects.specs.Function.{disk_of}
use Rattle.leaf_lambda.specs.declared.parts.Parts.{Parts}
use Rattle.leaf_lambda.specs.Parts.{core_of, spare_of}
use Rattle.purger.specs.declared.room.Pinned.{Pinned}
use Rattle.purger.specs.Purge.{IsShort}
use Rattle.leaf_lambda.specs.Whole.{IsWhole}
use Rattle.loom_memory.specs.declared.ledger.Ledger.{Ledger}
use Rattle.loom_memory.specs.declared.memory.LoomMemory.{LoomMemory}
use Rattle.loom_memory.specs.Memory.{pin_in, heap_if, loom_told, IsPinned, IsKept, IsSound, IsRefused, IsSized}
use Rattle.loom_memory.specs.Gentle.{IsQuiet}
use Rattle.loom_memory.specs.Known.{IsEntryOf, IsSpent, IsNeedBeside, IsRefusedOf, IsNaming}
use Rattle.loom_memory.proofs.FullLaws.{slots_by, heap_by, row-entries, row-words, no-entries}
use Rattle.loom_memory.proofs.AccessLaws.{left-ready, refused-is, refused-quiet, after-quiet}
use Rattle.loom_memory.proofs.RegLaws.{ready-put}
use Rattle.loom_memory.proofs.BringLaws.{quiet-same}
use Rattle.loom_memory.proofs.MarkingLaws.{filled}
use Rattle.loom_memory.proofs.ClassLaws.{class-answered}

-- ---- the row

-- the words of an object that has no entry are those of its record
pub absent-words : (b : Bool) (c : Core) (disk : Disk) (next n words : ℕ) → IsTrue b → c.find n ≡ None → IsSized b (disk n) words → words_at (heap_if b (held c disk) next) n ≡ words
absent-words false c disk next n words told away size = absurd (cc)
absent-words true c disk next n words told away size = ap (λ (o : Option Object). option_map_or (λ (o : Object). 4 + body_words o.body) o 0) (held-absent c disk n away ∙ size.there refl) ∙ size.sized

-- where the heap has it, the disk has its record
pub absent-there : (b : Bool) (c : Core) (disk : Disk) (next n : ℕ) → IsTrue b → c.find n ≡ None → Has (heap_if b (held c disk) next) n → disk n ≡ None → ⊥
absent-there false c disk next n told away has none = cc
absent-there true c disk next n told away has none = let no_ : false ≡ true = sym (ap (λ (o : Option Object). is_some o) (held-absent c disk n away ∙ none)) ∙ has in cc

-- it is none of the pinned objects
pin-apart : (c : Core) (pins : Pinned) (n : ℕ) → IsCore c → ((i : ℕ) → IsPinned c (pin_in pins i)) → c.find n ≡ None → (i : ℕ) → pin_in pins i ≢ 0 → eqb (c.entries (pin_in pins i)).name n ≡ false
pin-apart c pins n core pinned away i some = go (eqb (c.entries (pin_in pins i)).name n) refl
  where
    go : (b : Bool) → eqb (c.entries (pin_in pins i)).name n ≡ b → eqb (c.entries (pin_in pins i)).name n ≡ false
    go false e = e
    go true e =
        let at = pinned i some in
        let is : (c.entries (pin_in pins i)).name ≡ n = grind (arith, common_steps) in
        let both : None ≡ Some (pin_in pins i) = sym away ∙ ap c.find (sym is) ∙ core.found (pin_in pins i) (placed-used (c.entries (pin_in pins i)).state at.1.0 at.1.1) in
        absurd (cc)

-- so the need that was counted is that of the row
pub beside-is : (c : Core) (disk : Disk) (next n words : ℕ) (pins : Pinned) (need : Need) → IsCore c → ((i : ℕ) → IsPinned c (pin_in pins i)) → c.find n ≡ None → words_at (heap_by c disk next) n ≡ words → IsNeedBeside c pins n words need → need ≡ need_of (heap_by c disk next) (record { object = n; slots = slots_by c pins })
beside-is c disk next n words pins need core pinned away sized is =
    let all = is.all ∙ sym (row-words c disk next n words pins core pinned sized (pin-apart c pins n core pinned away)) in
    let leaves = is.entries ∙ sym (row-entries c disk next n pins core pinned) in
    let named = is.object in
    λ i. record { object = named i; words = all i; entries = leaves i }

beside-told : (b : Bool) (c : Core) (disk : Disk) (next n words : ℕ) (pins : Pinned) (need : Need) → IsTrue b → IsCore c → ((i : ℕ) → IsPinned c (pin_in pins i)) → c.find n ≡ None → words_at (heap_if b (held c disk) next) n ≡ words → IsNeedBeside c pins n words need
    → need ≡ need_of (heap_if b (held c disk) next) (record { object = n; slots = slots_by c pins })
beside-told false c disk next n words pins need told core pinned away sized is = absurd (cc)
beside-told true c disk next n words pins need told core pinned away sized is = beside-is c disk next n words pins need core pinned away sized is

-- the row of an access that makes nothing
row-of-access : (t : Told) (a : Access) (n : ℕ) → object_of t.heap t.regs a ≡ n → makes a ≡ 0 → need_of_access t a ≡ need_of t.heap (record { object = n; slots = t.slots })
row-of-access t a n is none = go a is none
  where
    of : (k : ℕ) → k ≡ n → need_of t.heap (record { object = k; slots = t.slots }) ≡ need_of t.heap (record { object = n; slots = t.slots })
    of k e = ap (λ (k : ℕ). need_of t.heap (record { object = k; slots = t.slots })) e

    go : (a : Access) → object_of t.heap t.regs a ≡ n → makes a ≡ 0 → need_of_access t a ≡ need_of t.heap (record { object = n; slots = t.slots })
    go (Known to name) e z = of name e
    go (Class to k) e z = of (name_at (t.regs k)) e
    go (KindOf k) e z = of (name_at (t.regs k)) e
    go (Length k) e z = of (name_at (t.regs k)) e
    go (Header k) e z = of (name_at (t.regs k)) e
    go (Field to k i) e z = of (name_at (t.regs k)) e
    go (SetField k i from) e z = of (name_at (t.regs k)) e
    go (Word k i) e z = of (name_at (t.regs k)) e
    go (SetWord k i word) e z = of (name_at (t.regs k)) e
    go (Byte k i) e z = of (name_at (t.regs k)) e
    go (SetByte k i byte) e z = of (name_at (t.regs k)) e
    go (ReadWords k at count) e z = of (name_at (t.regs k)) e
    go (WriteWords k at run) e z = of (name_at (t.regs k)) e
    go (ReadBytes k at count) e z = of (name_at (t.regs k)) e
    go (Make to class what) e z = cc
    go (Pin slot k) e z = of (name_at (t.regs k)) e
    go (Mark k) e z = of (name_at (t.regs k)) e
    go (Say k) e z = of (name_at (t.regs k)) e
    go (Swap k l) e z = of (name_at (t.regs k)) e

one-row : (t : Told) (a : Access) (need : Need) → need ≡ need_of_access t a → IsNeedOf t a need
one-row t (Known to name) need is = is
one-row t (Class to k) need is = is
one-row t (KindOf k) need is = is
one-row t (Length k) need is = is
one-row t (Header k) need is = is
one-row t (Field to k i) need is = is
one-row t (SetField k i from) need is = is
one-row t (Word k i) need is = is
one-row t (SetWord k i word) need is = is
one-row t (Byte k i) need is = is
one-row t (SetByte k i byte) need is = is
one-row t (ReadWords k at count) need is = is
one-row t (WriteWords k at run) need is = is
one-row t (ReadBytes k at count) need is = is
one-row t (Make to class what) need is = is
one-row t (Pin slot k) need is = is
one-row t (Mark k) need is = is
one-row t (Say k) need is = is
one-row t (Swap k l) need is = inl is

-- CoreFull with this need
pub full-beside : {H : Type 0} (host : Ghosts H) (m : LoomMemory H host) (u : Told) (n words : ℕ) (need : Need) (x : MemFault) → IsSound host m → IsReady (loom_told host m) → (core_of m.pager.levels.parts).find n ≡ None
    → (IsTrue (host.tells Work) → words_at (loom_told host m).heap n ≡ words) → IsNeedBeside (core_of m.pager.levels.parts) m.pager.pinned n words need → (Fits m.ledger.core m.ledger.entries need.words need.entries → ⊥)
    → u ≡ refused (loom_told host m) (CoreFull need) → x ≡ CoreFull need → (loom_told host m).refusals ≤ counted (loom_told host m).refusals → IsRefusedOf (loom_told host m) u n x
unfolding loom_told
full-beside {H} host m u n words need x sound ready away sized is unfit refuses same later = λ a row silent none.
    subst (λ (f : MemFault). IsRefused (loom_told host m) u a f) (sym same)
    (refused-quiet (loom_told host m) (loom_told host m) u a (CoreFull need) (quiet-same host m) refuses ready silent none later (
      subst (λ b. ForBounds b (λ b. Fits b.core b.entries need.words need.entries → ⊥)) (sym (ap (λ (z : Told). z.bounds) refuses)) unfit,
      λ told. one-row (loom_told host m) a need (beside-told (host.tells Work) (core_of m.pager.levels.parts) (disk_of host m.pager.levels.disk.host.now m.pager.levels.disk.rest) m.ledger.next n words m.pager.pinned need told m.pager.levels.whole.parts.core sound.kept.pinned away (sized told) is ∙ sym (row-of-access (loom_told host m) a n row none)),
    ))

-- no entry is free, and nothing more can go: the row has no room
pub unfit-beside : (p : Parts) (regs : List ℕ) (pins : Pinned) (k : Ledger) (n words : ℕ) (need : Need) → IsWhole p → IsKept p regs pins k → IsBare pins.a pins.b pins.d (core_of p) → spare_of p ≡ 0 → entries_of p.names.table ≡ free_of p.names.table + sum_below (bound_of p.names.table) (λ t. used_by (entry_at p.names.table t))
    → IsNeedBeside (core_of p) pins n words need → Fits k.core k.entries need.words need.entries → ⊥
unfolding core_of
unfit-beside p regs pins k n words need whole kept bare spent all is fits =
    let row = row-entries (core_of p) (λ n. None) 0 n pins whole.parts.core kept.pinned in
    no-entries (core_of p) (λ n. None) 0 n need.words (spare_of p) k.entries k.core regs pins whole.parts.core bare kept.many kept.rooted kept.pinned (sym kept.entries ∙ all) (omega (arith, spent)) (record { words = fits.words; leaves = (let most = fits.leaves in let count = is.entries in omega (arith, most, count, row)) })

-- ---- entries

pub entry-found : (r : Option Short) (c : Core) (name : ℕ) → IsCore c → IfSome r (λ s. (is_used (c.entries s.0).state ≡ true) × ((c.entries s.0).name ≡ name)) → IfSome r (λ s. IsEntryOf c s.0 name)
entry-found None c name core is = tt
entry-found (Some s) c name core is = record { short = core.short s.0 is.0; used = is.0; named = is.1 }

pub none-spent : (r : Option Short) (c : Core) (free name : ℕ) → IfNone r ((c.find name ≡ None) × (free ≤ 0)) → IfNone r (IsSpent c free name)
none-spent None c free name is = let few = is.1 in record { away = is.0; none = omega arith }
none-spent (Some s) c free name is = tt

pub none-same : (r : Option Short) (x y : Core) (free left name : ℕ) → IfNone r ((x.find name ≡ None) × (free ≤ 0)) → (free ≤ 0 → y ≡ x) → left ≤ free → IfNone r ((y ≡ x) × (left ≤ free))
none-same None x y free left name is same less = (same is.1, less)
none-same (Some s) x y free left name is same less = tt

pub spent-then : (x y : Core) (free left name : ℕ) → IsSpent x free name → y ≡ x → left ≤ free → IsSpent y left name
spent-then x y free left name spent same less = let none = spent.none in record { away = ap (λ (c : Core). c.find name) same ∙ spent.away; none = omega arith }

-- where no entry is free, nothing more could go
pub bare-by : (b : Bool) (p : Parts) (pins : Pinned) (most : ℕ) → (IsTrue b → (0 ≤ most) × (27 ≤ spare_of p)) → (b ≡ false → IsShort p pins.a pins.b pins.d 0 27) → spare_of p ≡ 0 → IsBare pins.a pins.b pins.d (core_of p)
bare-by true p pins most enough short none = let room = (enough refl).1 in absurd (omega arith)
bare-by false p pins most enough short none = (short refl).bare

pub bare-then : (x y : Core) (pins qins : Pinned) → IsBare pins.a pins.b pins.d x → y ≡ x → qins ≡ pins → IsBare qins.a qins.b qins.d y
bare-then x y pins qins bare same pin = subst (λ (c : Core). IsBare qins.a qins.b qins.d c) (sym same) (subst (λ (z : Pinned). IsBare z.a z.b z.d x) (sym pin) bare)

-- ---- steps

pub quiet-still : {H : Type 0} (host : Ghosts H) (m n : LoomMemory H host) → loom_told host n ≡ loom_told host m → IsQuiet (loom_told host m) (loom_told host n)
quiet-still {H} host m n same = subst (λ (t : Told). IsQuiet (loom_told host m) t) (sym same) (quiet-same host m)

pub refused-of : (t u v : Told) (n : ℕ) (f : MemFault) → IsQuiet t u → IsRefusedOf u v n f → IsRefusedOf t v n f
refused-of t u v n f quiet is = λ a row silent none. after-quiet t u v a f silent none quiet (is a (ap (λ (z : Told). object_of z.heap z.regs a) quiet.same ∙ row) silent none)

pub naming-is : (t u v : Told) (to name : ℕ) → IsQuiet t u → v ≡ record u { regs = set_register u.regs to (Ref name) } → IsNaming t v to name
naming-is t u v to name quiet is = subst (λ (z : Told). IsNaming t z to name) (sym is) (record { same = ap (λ (z : Told). record z { regs = set_register z.regs to (Ref name) }) quiet.same; cache = quiet.cache; bounds = quiet.bounds; counts = quiet.counts })

-- ---- what came

naming-ready : (t v : Told) (to name : ℕ) → IsNaming t v to name → (IsTrue t.tells → Has t.heap name) → IsReady t → IsReady v
naming-ready t v to name naming has ready =
    subst (λ (z : Told). IsReady z) (sym naming.same)
    (ready-put (record t { bounds = v.bounds; cache = v.cache }) to (Ref name) (λ k e told. let same : name ≡ k = cc in subst (λ (n : ℕ). Has t.heap n) same (has told)) (left-ready t v.bounds v.cache naming.cache ready))

pub ready-named : (r : Result (Unit {0}) MemFault) (t v : Told) (to name : ℕ) → OnOk r (IsNaming t v to name) → (IsTrue t.tells → Has t.heap name) → IsReady t → OnOk r (IsReady v)
ready-named (Ok x) t v to name naming has ready = naming-ready t v to name naming has ready
ready-named (Err f) t v to name naming has ready = tt

name-there : (t v : Told) (to name : ℕ) → IsNaming t v to name → v.regs to ≡ Ref name
name-there t v to name naming = ap (λ (z : Told). z.regs to) naming.same ∙ filled t.regs to (Ref name)

pub name-came : (r : Result (Unit {0}) MemFault) (t v : Told) (to name : ℕ) → OnOk r (IsNaming t v to name) → OnOk r (v.regs to ≡ Ref name)
name-came (Ok x) t v to name naming = name-there t v to name naming
name-came (Err f) t v to name naming = tt

pub named-ref : (r : Result (Unit {0}) MemFault) (v : Value) (n : ℕ) → OnOk r (v ≡ Ref n) → OnOk r (IsRef v)
named-ref (Ok x) v n is = subst IsRef (sym is) tt
named-ref (Err f) v n is = tt

-- it is the one that is wanted of a number, and none is wanted of a name
pub number-came : (r : Result (Unit {0}) MemFault) (P Q : Type 0) → OnOk r Q → OnOk r (P → Q)
number-came (Ok x) P Q is = λ p. is
number-came (Err f) P Q is = tt

pub no-number : (r : Result (Unit {0}) MemFault) (v : Value) (n : ℕ) (Q : Type 0) → v ≡ Ref n → OnOk r (IsSome (int_of v) → Q)
no-number (Ok x) v n Q is = λ some. let none : IsSome (int_of (Ref n)) = subst (λ (w : Value). IsSome (int_of w)) is some in absurd (cc)
no-number (Err f) v n Q is = tt

-- ---- answered

no-object : (x : Option Bounds) (t : Told) (to name : ℕ) → IfBounds x (HasCore t (Known to name))
no-object None t to name = tt
no-object (Some b) t to name = λ told. omega arith

number-alone : (x : Option Bounds) (t : Told) (to of : ℕ) (z : ℤ) → t.regs of ≡ Int z → IfBounds x (HasCore t (Class to of))
number-alone None t to of z is = tt
number-alone (Some b) t to of z is = λ told. subst (λ (v : Value). words_named t.heap v ≤ b.core) (sym is) (omega arith)

known-answered : (t : Told) (b : Option Bounds) (c : Cache) (to name : ℕ) → SameBounds t.bounds b → Raised 0 t.bounds b → LeavesCache no_names None t.cache t.cache c → Accessed {A = Unit {0}} t (record t { bounds = b; cache = c; regs = set_register t.regs to (Ref name) }) (Known to name) (λ _. Nothing) (Ok tt)
known-answered t b c to name same counts left = record {
  called = record {
    later = record { tells = refl; speaks = refl; bounds = same; refusals = omega arith };
    ok = record {
      regs = ap (λ (w : Value). set_register t.regs to w) (sym (filled t.regs to (Ref name)));
      brings = λ told. ap Some (sym (filled t.regs to (Ref name)));
      slots = refl;
      transcript = λ told. refl;
      heap = λ told. IsThinner-refl t.heap;
      cache = left;
      counts = counts;
      base = tt;
      refusals = refl;
      last = refl;
    };
    err = tt;
  };
  answer = λ told. refl;
  named = λ make told. absurd (omega arith);
  core = no-object t.bounds t to name;
}

pub known-access : (r : Result (Unit {0}) MemFault) (t v : Told) (to name : ℕ) → OnOk r (IsNaming t v to name) → IfErr r (IsRefusedOf t v name) → Accessed {A = Unit {0}} t v (Known to name) (λ _. Nothing) r
known-access (Ok x) t v to name naming err = subst (λ (z : Told). Accessed {A = Unit {0}} t z (Known to name) (λ _. Nothing) (Ok tt)) (sym naming.same) (known-answered t v.bounds v.cache to name naming.bounds naming.counts naming.cache)
known-access (Err f) t v to name naming err = refused-is t v (Known to name) (λ _. Nothing) f (err (Known to name) refl tt refl)

-- the class of a number
pub number-access : (r : Result (Unit {0}) MemFault) (t v : Told) (to of : ℕ) (z : ℤ) → t.regs of ≡ Int z → OnOk r (IsNaming t v to SMALL_INTEGER) → IfErr r (IsRefusedOf t v SMALL_INTEGER) → Accessed {A = Unit {0}} t v (Class to of) (λ _. Nothing) r
number-access (Ok x) t v to of z is naming err =
    subst (λ (u : Told). Accessed {A = Unit {0}} t u (Class to of) (λ _. Nothing) (Ok tt)) (sym naming.same)
    (class-answered t v.bounds v.cache to of (Ref SMALL_INTEGER) naming.bounds naming.counts naming.cache (λ told. ap (λ (w : Value). option_and_then (λ class. Some (Ref class)) (class_at t.heap w)) is) (number-alone t.bounds t to of z is))
number-access (Err f) t v to of z is naming err = refused-is t v (Class to of) (λ _. Nothing) f (err (Class to of) (ap name_at is) tt refl)
