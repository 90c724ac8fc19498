-- A memory begins: an empty core over a disk that is loaded.
use Rattle.std.proofs.Common.{zero, suc, ◌≡◌, ℕ, pos, ◌+◌, ◌<◌, ◌≤◌, ◌%◌, ◌&&◌, Bool, true, false, cond, eqb, eqb-true, List, [], ◌∷◌, ◌++◌, length, replicate, count_by, Option, Some, None, IsTrue, refl, sym, ◌∙◌, ap, ap₂, subst, arith}
use Rattle.std.specs.Prelude.{◌^◌}
use Rattle.long_names.specs.declared.value.Value.TheVariants.{Int, Ref}
use Rattle.long_names.specs.declared.limits.TheConstants.{MOST_FIELDS}
use Rattle.long_names.specs.declared.object.Object.{Object}
use Rattle.long_names.specs.Objects.{fields_of}
use Rattle.long_names.specs.Heap.{Heap, count_of}
use Rattle.long_names.specs.Thin.{IsWhole}
use Rattle.loom_host.specs.declared.outside.Host.{Ghosts}
use Rattle.loom_host.specs.declared.outside.Role.TheVariants.{Work}
use Rattle.loom_host.specs.Work.{work_of}
use Rattle.object_table.specs.Entries.{is_short, is_used, place_of, sum_below, used_by}
use Rattle.object_table.specs.declared.entry.EntryState.{EntryState}
use Rattle.object_table.specs.declared.entry.EntryState.TheVariants.{Free, Leaf, Resident}
use Rattle.object_table.specs.Table.{bound_of, entries_of, entry_at, free_of}
use Rattle.disk_objects.specs.declared.rest.DiskRest.{DiskRest}
use Rattle.disk_objects.specs.Disk.{disk_held, disk_room}
use Rattle.disk_objects.specs.Function.{disk_of}
use Rattle.core_view.specs.Core.{Core}
use Rattle.core_view.specs.Counts.{names, one, marked_by, marked_of}
use Rattle.core_view.specs.Held.{Disk, held}
use Rattle.core_view.specs.Kept.{IsCore, IsValued}
use Rattle.core_view.specs.Purge.{fresh_by, fresh_of}
use Rattle.core_view.specs.Room.{in_hand}
use Rattle.core_view.specs.Words.{meant}
use Rattle.core_view.proofs.Fresh.{fresh-unplaced}
use Rattle.core_view.proofs.Lists.{count-cons}
use Rattle.core_view.proofs.Sums.{sum-none, sum-out}
use Rattle.leaf_lambda.specs.declared.parts.Parts.{Parts}
use Rattle.leaf_lambda.specs.Parts.{core_of, spare_of, IsParts}
use Rattle.core_view.specs.Levels.{Stored, Levels, record_in}
use Rattle.core_view.specs.Counted.{IsHeld}
use Rattle.core_view.specs.LevelSteps.{IsBegun}
use Rattle.core_view.proofs.BeginLaws.{begun-heap, begun-sound}
use Rattle.purger.specs.declared.room.Pinned.{Pinned}
use Rattle.purger.specs.Counts.{StandsFor}
use Rattle.purger.proofs.SoundLaws.{core-is, core-at, disk-at}
use Rattle.object_memory.specs.Told.{Told, IsReady}
use Rattle.loom_memory.specs.declared.ledger.Ledger.{Ledger}
use Rattle.loom_memory.specs.Beginning.{HasLoaded, IsEmptyCore, IsLoaded}
use Rattle.loom_memory.specs.Cache.{has_mark, row_by}
use Rattle.loom_memory.specs.Memory.{word_in, pin_in, name_if, heap_if, IsKept, IsOver, IsExact}
use Rattle.loom_memory.specs.Residents.{has_body}
use Rattle.loom_memory.proofs.ExactLaws.{levels-told}
use Rattle.loom_memory.proofs.SizeLaws.{counts-few, stored-few}

-- ---- a core in which no entry is in use

-- as many entries are free as there are, so none is used
pub unused-all : (p : Parts) → IsParts p → spare_of p ≡ entries_of p.names.table
    → entries_of p.names.table ≡ free_of p.names.table + sum_below (bound_of p.names.table) (λ s. used_by (entry_at p.names.table s))
    → (s : ℕ) → is_used ((core_of p).entries s).state ≡ false
unfolding core_of
unused-all p parts spare counted s = go (is_used (entry_at p.names.table s).state) refl
  where
    go : (b : Bool) → is_used (entry_at p.names.table s).state ≡ b → is_used (entry_at p.names.table s).state ≡ false
    go false e = e
    go true e =
        let low : s < bound_of p.names.table = parts.core.within s e in
        let split = sum-out (bound_of p.names.table) (λ q. used_by (entry_at p.names.table q)) s low in
        let one : used_by (entry_at p.names.table s) ≡ 1 = ap (λ (b : Bool). cond {A = ℕ} b 1 0) e in
        absurd (omega (arith, spare, counted, split, one))

-- it has no body, and finds no name
unplaced : (s : EntryState) → is_used s ≡ false → place_of s ≡ None
unplaced Free e = refl
unplaced Leaf e = refl
unplaced (Resident p) e = absurd (let f : true ≡ false = e in cc)

pub empty-find : (c : Core) → IsCore c → ((s : ℕ) → is_used (c.entries s).state ≡ false) → (q : ℕ) → c.find q ≡ None
empty-find c core none q = go (c.find q) refl
  where
    go : (o : Option ℕ) → c.find q ≡ o → c.find q ≡ None
    go None e = e
    go (Some s) e = absurd (let is = core.used q s e in let not = none s in cc)

empty-fresh : (c : Core) → ((s : ℕ) → is_used (c.entries s).state ≡ false) → fresh_of c ≡ 0
unfolding fresh_of
empty-fresh c none = sum-none c.bound (λ s. fresh_by (c.entries s)) (λ s. fresh-unplaced (c.entries s) (unplaced (c.entries s).state (none s)))

pub empty-marks : (c : Core) → IsCore c → ((s : ℕ) → is_used (c.entries s).state ≡ false) → (n : ℕ) → marked_of c n ≡ false
empty-marks c core none n = ap (marked_by c.entries) (empty-find c core none n)

pub empty-bodies : (c : Core) → IsCore c → ((s : ℕ) → is_used (c.entries s).state ≡ false) → (n : ℕ) → has_body c (c.find n) ≡ false
empty-bodies c core none n = ap (has_body c) (empty-find c core none n)

empty-mark : (c : Core) (s : ℕ) → ((s : ℕ) → is_used (c.entries s).state ≡ false) → has_mark c s ≡ false
empty-mark c s none = ap (λ (b : Bool). b && (c.entries s).flags.marked) (none s)

-- ---- registers with 0, and empty slots

abbrev pub no_pins : Pinned
no_pins = record { a = 0; b = 0; d = 0 }

same-both : (b : Bool) (n : ℕ) → cond {A = ℕ} b n n ≡ n
same-both true n = refl
same-both false n = refl

pub first-pin : (i : ℕ) → pin_in no_pins i ≡ 0
first-pin i = ap (λ (n : ℕ). cond {A = ℕ} (eqb i 0) 0 n) (ap (λ (n : ℕ). cond {A = ℕ} (eqb i 1) 0 n) (same-both (eqb i 2) 0) ∙ same-both (eqb i 1) 0) ∙ same-both (eqb i 0) 0

pub first-word : (n r : ℕ) → word_in (replicate n 1) r ≡ 1
first-word zero r = refl
first-word (suc n) zero = refl
first-word (suc n) (suc r) = first-word n r

-- none of them names an entry
odd-names : (t : ℕ) → names t 1 ≡ false
odd-names t = go (eqb 1 t) refl
  where
    go : (b : Bool) → eqb 1 t ≡ b → names t 1 ≡ false
    go true e = let is : 1 ≡ t = eqb-true 1 t e in subst (λ (n : ℕ). names n 1 ≡ false) is refl
    go false e = ap (λ (b : Bool). is_short t && b) e ∙ both (is_short t)
      where
        both : (b : Bool) → (b && false) ≡ false
        both true = refl
        both false = refl

pub zero-names : (t : ℕ) → names t 0 ≡ false
zero-names t = go (eqb 0 t) refl
  where
    go : (b : Bool) → eqb 0 t ≡ b → names t 0 ≡ false
    go true e = let is : 0 ≡ t = eqb-true 0 t e in subst (λ (n : ℕ). names n 0 ≡ false) is refl
    go false e = ap (λ (b : Bool). is_short t && b) e ∙ both (is_short t)
      where
        both : (b : Bool) → (b && false) ≡ false
        both true = refl
        both false = refl

pub not-one : (t w : ℕ) → names t w ≡ false → (xs : List ℕ) → count_by (names t) xs ≡ 0 → count_by (names t) (w ∷ xs) ≡ 0
not-one t w e xs none = let split = count-cons t w xs in let nil : one t w ≡ 0 = ap (λ (b : Bool). cond {A = ℕ} b 1 0) e in omega (arith, split, nil, none)

ones-none : (t n : ℕ) (xs : List ℕ) → count_by (names t) xs ≡ 0 → count_by (names t) (replicate n 1 ++ xs) ≡ 0
ones-none t zero xs none = none
ones-none t (suc n) xs none = not-one t 1 (odd-names t) (replicate n 1 ++ xs) (ones-none t n xs none)

first-hand : (t : ℕ) → count_by (names t) (in_hand (replicate 24 1) 0 0 0) ≡ 0
first-hand t = ones-none t 24 (0 ∷ (0 ∷ (0 ∷ []))) (not-one t 0 (zero-names t) (0 ∷ (0 ∷ [])) (not-one t 0 (zero-names t) (0 ∷ []) (not-one t 0 (zero-names t) [] refl)))

-- ---- what is kept

pub first-kept : (p : Parts) (k : Ledger) → IsEmptyCore p k.core k.entries → k.mark ≡ 0 → IsKept p (replicate 24 1) no_pins k
first-kept p k empty mark = record {
  size = empty.size;
  entries = empty.entries_are;
  rooted = λ t. empty.outside_none t ∙ sym (first-hand t);
  filled = λ r e. absurd (let is = first-word 24 r in let bad : 1 ≡ 0 = sym is ∙ e in omega (arith, bad));
  many = refl;
  pinned = λ i some. absurd (some (first-pin i));
  cached = record {
    none = λ e n. empty-marks (core_of p) empty.parts.core empty.unused n;
    rows = λ e s t w f. absurd (let none = empty-mark (core_of p) k.mark empty.unused in cc);
  };
}

-- ---- the levels

abbrev levels : Parts → (ℕ → Option Stored) → ℕ → Levels
levels p stored next = record { core = core_of p; stored = stored; pending = []; next = next }

stands : {H : Type 0} (host : Ghosts H) (p : Parts) (now : H) (rest : DiskRest) (h : Heap) (next : ℕ) (x : IsLoaded host now rest h) → StandsFor host p now rest (levels p x.stored next)
stands host p now rest h next x = record { core = core-is p; disk = x.at }

loaded-few : {H : Type 0} (host : Ghosts H) (now : H) (rest : DiskRest) (h : Heap) (x : IsLoaded host now rest h) (q : ℕ) → count_of h q ≤ 2 ^ 62
loaded-few host now rest h x q = let most = counts-few h q x.held few in omega (arith, most)
  where
    few : (k : ℕ) (o : Object) → h.at k ≡ Some o → length (fields_of o.body) ≤ MOST_FIELDS
    few k o e = go (x.stored k) refl
      where
        go : (r : Option Stored) → x.stored k ≡ r → length (fields_of o.body) ≤ MOST_FIELDS
        go None f = absurd (let a = x.image.objects k in let b : record_in (x.stored k) ≡ None = ap record_in f in cc)
        go (Some r) f =
            let a = x.image.objects k in
            let b : record_in (x.stored k) ≡ Some r.object = ap record_in f in
            let is : Some r.object ≡ Some o = sym b ∙ a ∙ e in
            let same : r.object ≡ o = cc in
            subst (λ (z : Object). length (fields_of z.body) ≤ MOST_FIELDS) same (stored-few rest (work_of host now) x.stored [] k r x.at f)

begun : {H : Type 0} (host : Ghosts H) (p : Parts) (core entries : ℕ) (now : H) (rest : DiskRest) (h : Heap) (next : ℕ) (x : IsLoaded host now rest h) → IsEmptyCore p core entries → h.next ≡ next → IsBegun (levels p x.stored next) h
begun host p core entries now rest h next x empty same = record {
  core = empty.parts.core;
  empty = empty-find (core_of p) empty.parts.core empty.unused;
  image = x.image;
  next = sym same;
  none = refl;
  uncounted = x.uncounted;
  held = x.held;
  few = loaded-few host now rest h x;
}

pub first-exact : {H : Type 0} (host : Ghosts H) (p : Parts) (core entries : ℕ) (now : H) (rest : DiskRest) (next : ℕ) → HasLoaded host now rest next → IsEmptyCore p core entries → IsExact host p now rest next []
first-exact host p core entries now rest next load empty told =
    let x = load told in
    (levels p x.1.stored next, stands host p now rest x.0 next x.1, begun-sound (levels p x.1.stored next) x.0 (begun host p core entries now rest x.0 next x.1 empty x.2), refl)

pub first-heap : {H : Type 0} (host : Ghosts H) (p : Parts) (core entries : ℕ) (now : H) (rest : DiskRest) (h : Heap) (next : ℕ) → IsLoaded host now rest h → h.next ≡ next → IsEmptyCore p core entries → IsTrue (host.tells Work)
    → heap_if (host.tells Work) (held (core_of p) (disk_of host now rest)) next ≡ h
first-heap host p core entries now rest h next x same empty told =
    levels-told host p now rest (levels p x.stored next) next (stands host p now rest h next x) refl told
    ∙ begun-heap (levels p x.stored next) h (begun host p core entries now rest h next x empty same)

-- ---- with the disk

pub first-over : {H : Type 0} (host : Ghosts H) (p : Parts) (now : H) (rest : DiskRest) (k : Ledger) → HasLoaded host now rest k.next → IsEmptyCore p k.core k.entries → k.base ≡ Some (disk_held rest) → k.made ≡ 0 → k.held ≡ disk_held rest
    → disk_held rest ≤ disk_room rest → k.next % 2 ≡ 0 → IsOver host now rest (core_of p) k
first-over host p now rest k load empty base made held_is room even = record {
  stands = λ told. let x = (load told).1 in (x.at.objects, [], x.at.disk, tt);
  backed = λ told. empty.backed (disk_of host now rest);
  counted = λ told. let none = empty-fresh (core_of p) empty.unused in omega (arith, none, held_is);
  roomy = omega (arith, held_is, room);
  based = record {
    most = λ b e. let is : Some (disk_held rest) ≡ Some b = sym base ∙ e in let same : disk_held rest ≡ b = cc in omega (arith, same, held_is);
    low = λ b e. let is : Some (disk_held rest) ≡ Some b = sym base ∙ e in let same : disk_held rest ≡ b = cc in omega (arith, same, room);
    eight = λ e low. absurd (let is : Some (disk_held rest) ≡ None = sym base ∙ e in cc);
    few = omega (arith, made);
    even = even;
  };
  valued = λ told. valued told;
}
  where
    values : (told : IsTrue (host.tells Work)) → held (core_of p) (disk_of host now rest) ≡ (load told).0.at
    values told =
        let x = load told in
        let at = stands host p now rest x.0 k.next x.1 in
        let t : Levels = levels p x.1.stored k.next in
        ap₂ (λ (c : Core) (d : Disk). held c d) (core-at host p now rest t at) (sym (disk-at host p now rest t at))
        ∙ ap (λ (h : Heap). h.at) (begun-heap t x.0 (begun host p k.core k.entries now rest x.0 k.next x.1 empty x.2))

    valued : IsTrue (host.tells Work) → IsValued (held (core_of p) (disk_of host now rest))
    valued told =
        let x = load told in
        subst IsValued (sym (values told)) x.1.held.valued

-- ---- what is told

pub first-value : (c : Core) (r : ℕ) → meant c.entries [] 0 (word_in (replicate 24 1) r) ≡ Int (pos 0)
first-value c r = ap (λ (w : ℕ). meant c.entries [] 0 w) (first-word 24 r)

pub first-slot : (c : Core) (i : ℕ) → name_if c.entries (pin_in no_pins i) ≡ None
first-slot c i = ap (λ (w : ℕ). name_if c.entries w) (first-pin i)

pub first-rows : (c : Core) (f : ℕ → ℕ → Option ℕ) (mark : ℕ) → ((s : ℕ) → is_used (c.entries s).state ≡ false) → (k n m : ℕ) → (has_mark c mark && row_by c.entries f (c.find k) (c.find n) m) ≡ false
first-rows c f mark none k n m = ap (λ (b : Bool). b && row_by c.entries f (c.find k) (c.find n) m) (empty-mark c mark none)

pub first-ready : (t : Told) → ((r : ℕ) → t.regs r ≡ Int (pos 0)) → ((i : ℕ) → t.slots i ≡ None) → ((n : ℕ) → t.cache.marks n ≡ false) → ((c s m : ℕ) → t.cache.rows c s m ≡ false) → (IsTrue t.tells → (h : Heap) × IsHeld h × (t.heap ≡ h)) → IsReady t
first-ready t regs slots marks rows heap = record {
  whole = λ told. let x = heap told in subst (λ (h : Heap). IsWhole h t.regs t.slots) (sym x.2) (whole x.0 x.1);
  marked = λ told n e. absurd (let none = marks n in cc);
  cached = λ c s m e. absurd (let none = rows c s m in cc);
}
  where
    whole : (h : Heap) → IsHeld h → IsWhole h t.regs t.slots
    whole h x = record {
      known = x.known;
      below = x.below;
      closed = x.closed;
      rooted = λ r n e. absurd (let z = regs r in let bad : Int (pos 0) ≡ Ref n = sym z ∙ e in cc);
      pinned = λ i n e. absurd (let z = slots i in let bad : None ≡ Some n = sym z ∙ e in cc);
    }
