-- What loading leaves on a disk, and a memory that begins over it.
use Rattle.std.proofs.Common.{◌≡◌, ℕ, ◌<◌, ◌&&◌, Bool, true, false, eqb, ltb, leb, List, [], Option, Some, None, is_some, option_map, IsTrue, refl, sym, ◌∙◌, ap, subst, arith, inl, inr, ◌%◌}
use Rattle.std.specs.Prelude.{All, slice_get, ◌^◌}
use Rattle.std.specs.FinMap as map
use Rattle.std.proofs.lemmas.Bool.{cases_lt, and_parts, or_cases, eqb-true, ltb-true}
use Rattle.std.proofs.lemmas.List.{length-map}
use Rattle.std.proofs.lemmas.List.Elements.{All-get_or}
use Rattle.std.proofs.lemmas.Option.{get_or_from_slice_get, slice_get_within}
use Rattle.long_names.specs.declared.object.Object.{Object}
use Rattle.long_names.specs.declared.value.Value.{Value}
use Rattle.long_names.specs.Objects.{fields_of}
use Rattle.long_names.specs.Words.{IsValue}
use Rattle.long_names.specs.Heap.{Heap, Has, IsBounded, object_count, count_of}
use Rattle.long_names.specs.Kept.{kept}
use Rattle.long_names.proofs.CountLaws.{kept-rooted}
use Rattle.loom_host.specs.declared.outside.Host.{Ghosts}
use Rattle.loom_host.specs.declared.outside.Role.TheVariants.{Image, Work, Transcript}
use Rattle.loom_host.specs.Outside.{RoleState}
use Rattle.loom_host.specs.Work.{work_of}
use Rattle.image_format.specs.declared.opening.State.{State}
use Rattle.image_format.specs.Heads.{is_tick}
use Rattle.image_format.specs.Rules as rules
use Rattle.image_format.specs.Valid.{IsImageHeap}
use Rattle.image_format.proofs.ImageLaws.{bytes_of_all, image_again, image_of, image_read, unbroken, valid_from}
use Rattle.image_format.proofs.ImageRecs.{objects_are}
use Rattle.image_format.proofs.Records.{pair_is}
use Rattle.disk_objects.specs.declared.rest.DiskRest.{DiskRest}
use Rattle.disk_objects.specs.Calls.{HoldsObjects}
use Rattle.disk_objects.specs.Disk.{Objects, IsDisk, disk_held}
use Rattle.disk_objects.specs.Function.{objects_at, counts_at}
use Rattle.disk_objects.proofs.KeyLaws.{disk-len}
use Rattle.image_reader.specs.declared.loading.Loaded.{Loaded}
use Rattle.image_reader.specs.Loaded.{IsLoadedHeap, Loads, heap_on}
use Rattle.image_reader.proofs.LoadLaws.{whole_broken}
use Rattle.image_writer.specs.Saved.{IsExact}
use Rattle.image_writer.proofs.NameTexts.{counts_are}
use Rattle.image_writer.proofs.SaveLaws.{names_are}
use Rattle.core_view.specs.Levels.{Stored, record_in}
use Rattle.core_view.specs.Counted.{IsHeld}
use Rattle.delta_counts.specs.At.{IsStoredAt, stored_of}
use Rattle.delta_counts.proofs.StoredLaws.{records-at, counts-at}
use Rattle.object_memory.specs.Contract.{ForBounds}
use Rattle.object_memory.specs.Told.{Bounds, Told}
use Rattle.loom_memory.specs.Beginning.{HasLoaded, IsFirst, IsLoaded}
use Rattle.loom_memory.specs.declared.memory.LoomMemory.{LoomMemory}
use Rattle.loom_memory.specs.Memory.{loom_now, loom_told}
use Rattle.image_memory.specs.Image.{BeginsWith, HasImage, IsStateOf, IsTextOf}

-- ---- the heap of an image

pub below-next : (h : Heap) (q : ℕ) → IsBounded h → Has h q → q < h.next
below-next h q bounded has = elim (cases_lt q h.next) [
  | inl lt ↦ lt
  | inr le ↦ absurd (let none = bounded.bounded q le in let clash : ◌≡◌ {A = Bool} true false = sym has ∙ ap is_some none in cc)
]

all-at : (vs : List Value) (i : ℕ) (v : Value) → slice_get vs i ≡ Some v → All IsValue vs → IsValue v
all-at vs i v e all = subst IsValue (get_or_from_slice_get vs i v v e) (All-get_or IsValue vs i v (slice_get_within vs i v e) all)

pub image-held : (h : Heap) → IsImageHeap h → IsHeld h
image-held h is = record {
  known = is.known;
  long = λ q has. let low = below-next h q is.bounded has in let high = is.head.high in (is.names q has, omega (arith, low, high));
  below = λ q has. below-next h q is.bounded has;
  closed = λ n o k at holds_it. is.closed n k o at holds_it;
  valued = λ n i o v at e. all-at (fields_of o.body) i v e (is.objects n o at).body.fields;
}

-- what nothing holds is known
pub all-kept : (h : Heap) (root : ℕ → Bool) → IsImageHeap h → kept h root ≡ h
all-kept h root is = kept-rooted h root (λ q has unknown free none. let known = is.counted q has none in let clash : ◌≡◌ {A = Bool} true false = sym known ∙ unknown in cc)

-- ---- what is on the disk

-- what a map of a disk's objects has of each name
abbrev pub stored_by : Objects → ℕ → Option Stored
stored_by objects q = option_map stored_of (map.get objects q)

count-of : Stored → ℕ
count-of r = r.count

some-same : (a b : ℕ) → ◌≡◌ {A = Option ℕ} (Some a) (Some b) → a ≡ b
some-same a b e = cc

module _ {H : Type 0} (host : Ghosts H) (now : H) (rest : DiskRest) (next : ℕ) (objects : Objects) (disk : IsDisk rest (work_of host now) objects []) where
  at : IsStoredAt host now rest (stored_by objects) []
  at = record { objects = objects; disk = disk; same = λ q. refl }

  there : (q : ℕ) (r : Stored) → stored_by objects q ≡ Some r → Has (heap_on host now rest next) q
  there q r e = ap is_some (sym (records-at rest (work_of host now) (stored_by objects) [] q at) ∙ ap record_in e)

  counted : IsLoadedHeap host now rest next → (q : ℕ) (r : Stored) → stored_by objects q ≡ Some r → r.count ≡ count_of (heap_on host now rest next) q
  counted x q r e = some-same r.count (count_of (heap_on host now rest next) q)
      (sym (ap (λ (o : Option Stored). option_map (λ (s : Stored). s.count) o) e) ∙ counts-at rest (work_of host now) (stored_by objects) [] q at ∙ x.counts q (there q r e))

  pub loaded-is : IsLoadedHeap host now rest next → IsLoaded host now rest (heap_on host now rest next)
  loaded-is x = record {
    stored = stored_by objects;
    at = record { objects = objects; disk = disk; same = λ q. refl };
    image = record {
      objects = λ q. records-at rest (work_of host now) (stored_by objects) [] q at;
      counts = λ q r e. counted x q r e;
    };
    uncounted = λ q r e none. x.is.counted q (there q r e) (sym (counted x q r e) ∙ none);
    held = image-held (heap_on host now rest next) x.is;
  }

  -- as many objects as the disk counts
  pub held-number : IsBounded (heap_on host now rest next) → object_count (heap_on host now rest next) ≡ disk_held rest
  held-number bounded =
      counts_are (heap_on host now rest next) (map.keys objects) (names_are host now rest next objects [] disk) bounded
      ∙ length-map (map.entries objects) (λ e. e.0)
      ∙ sym (map.len-entries objects)
      ∙ disk-len rest (work_of host now) objects [] disk

-- ---- what loading promises

tick-none : (timer tick : ℕ) → is_tick timer tick ≡ true → timer ≡ 0 → tick ≡ 0
tick-none timer tick e none = elim (or_cases (eqb tick 0) (ltb 0 timer) e) [
  | inl nought ↦ eqb-true tick 0 nought
  | inr above ↦ absurd (let high = ltb-true 0 timer above in omega (arith, high, none))
]

even-next : (next : ℕ) → (leb 60 next && eqb (next % 2) 0) ≡ true → next % 2 ≡ 0
even-next next e = eqb-true (next % 2) 0 (and_parts (leb 60 next) (eqb (next % 2) 0) e).1

pub image-is : {H : Type 0} (host : Ghosts H) (before now : H) (room : ℕ) (rest : DiskRest) (x : Loaded) (image : rules.Image) → Loads host before now room rest image
    → x.next ≡ image.head.opening.next → x.state ≡ image.head.state → (IsTrue (host.tells Work) → IsLoadedHeap host now rest x.next) → HasImage host now rest x
image-is host before now room rest x image loads next state heap = record {
  even = ap (λ (n : ℕ). n % 2) next ∙ even-next image.head.opening.next loads.head.next;
  heap = heap;
  idle = λ told. let s = loads.stored told in (s.objects, s.is);
  state = λ told.
      let s = loads.stored told in
      let words = (unbroken image (loads.whole told)).kept in
      subst (λ (st : State). IsStateOf (heap_on host now rest x.next) st) (sym state)
      (subst (λ (f : ℕ → Option Object). let h : Heap = record { at = f; next = x.next } in IsStateOf h image.head.state) (sym s.at)
      record { display = words.display; input = words.input; timer = words.timer; tick = tick-none image.head.state.timer image.head.state.tick loads.head.tick });
}

-- the bytes of the file are the text of the heap
pub text-is : {H : Type 0} (host : Ghosts H) (before now : H) (room : ℕ) (rest : DiskRest) (x : Loaded) (image : rules.Image) → IsTrue (host.tells Image) → IsTrue (host.tells Work)
    → Loads host before now room rest image → x.next ≡ image.head.opening.next → x.state ≡ image.head.state
    → All (λ (b : ℕ). b < 2 ^ 8) (host.roles before Image).left → IsTextOf (host.roles before Image).left (heap_on host now rest x.next) x.state
text-is host before now room rest x image seen told loads next state octets =
    let bytes = (host.roles before Image).left in
    let read = loads.read seen in
    let v = valid_from bytes (bytes_of_all bytes octets) (whole_broken bytes image None read (loads.whole told)) in
    let spelled : rules.Image = image_of v.head v.heap in
    let again = image_again bytes spelled (image_read bytes v.heap v.head v.is v.of_heap v.text) in
    let same : image ≡ spelled = (pair_is image spelled [] [] (sym read ∙ again)).0 in
    let at = (loads.stored told).at ∙ ap (λ (i : rules.Image). rules.object_in i.recs) same ∙ objects_are v.heap v.is.bounded.bounded in
    let named : x.next ≡ v.heap.next = next ∙ ap (λ (i : rules.Image). i.head.opening.next) same ∙ v.of_heap.next in
    let heap : heap_on host now rest x.next ≡ v.heap =
    ap (λ (f : ℕ → Option Object). let h : Heap = record { at = f; next = x.next } in h) at
    ∙ ap (λ (n : ℕ). let h : Heap = record { at = v.heap.at; next = n } in h) named in
    subst (λ (h : Heap). IsTextOf bytes h x.state) (sym heap)
    record { head = v.head; of_heap = v.of_heap; state = sym (ap (λ (i : rules.Image). i.head.state) same) ∙ sym state; text = v.text }

-- ---- a memory begins

pub may-begin : {H : Type 0} (host : Ghosts H) (now : H) (rest : DiskRest) (x : Loaded) → IsTrue (host.tells Work) → HasImage host now rest x → IsLoaded host now rest (heap_on host now rest x.next)
may-begin host now rest x told is = let d = is.idle told in loaded-is host now rest x.next d.0 d.1 (is.heap told)

pub has-loaded : {H : Type 0} (host : Ghosts H) (now : H) (rest : DiskRest) (x : Loaded) → HasImage host now rest x → HasLoaded host now rest x.next
has-loaded host now rest x is told = (heap_on host now rest x.next, may-begin host now rest x told is, refl)

pub begins-with : {H : Type 0} (host : Ghosts H) (now : H) (rest : DiskRest) (x : Loaded) (t : Told) (core entries room work said : ℕ) → IsTrue (host.tells Work) → HasImage host now rest x
    → IsFirst t core entries room (disk_held rest) work said → t.heap ≡ heap_on host now rest x.next → BeginsWith (heap_on host now rest x.next) t
begins-with host now rest x t core entries room work said told is first heap =
    let d = is.idle told in
    let h = is.heap told in
    record {
      heap = heap;
      regs = first.regs;
      slots = first.slots;
      rows = first.rows;
      base = subst (λ (b : Option Bounds). ForBounds b (λ (d : Bounds). (d.made ≡ 0) × (d.base ≡ Some (object_count (heap_on host now rest x.next))))) (sym first.bounds)
          (refl, ap (λ (n : ℕ). let o : Option ℕ = Some n in o) (sym (held-number host now rest x.next d.0 d.1 h.is.bounded)));
      lives = λ root. all-kept (heap_on host now rest x.next) root h.is;
    }

pub said-before : {H : Type 0} (host : Ghosts H) (now : H) (m : LoomMemory H host) → (loom_now m) ≡ now → (loom_told host m).transcript ≡ (host.roles now Transcript).put
unfolding loom_told
said-before {H} host now m same = ap (λ (n : H). (host.roles n Transcript).put) same

-- ---- it may be saved as it is

pub image-holds : {H : Type 0} (host : Ghosts H) (now : H) (rest : DiskRest) (x : Loaded) → HasImage host now rest x → HoldsObjects host now rest
image-holds host now rest x is told = let d = is.idle told in (d.0, [], d.1, tt)

pub image-exact : {H : Type 0} (host : Ghosts H) (now : H) (rest : DiskRest) (x : Loaded) → IsTrue (host.tells Work) → HasImage host now rest x → IsExact host now rest x.next
image-exact host now rest x told is = let h = is.heap told in record { bounded = h.is.bounded; counts = h.counts }

-- ---- other roles

-- the heap of these contents of Work
abbrev pub heap_in : DiskRest → List ℕ → ℕ → Heap
heap_in rest work next = record { at = objects_at rest work; next = next }

pub same-work : {H : Type 0} (host : Ghosts H) (old new : H) → host.roles new Work ≡ host.roles old Work → work_of host old ≡ work_of host new
same-work host old new e = sym (ap (λ (s : RoleState). s.contents) e)

image-there : {H : Type 0} (host : Ghosts H) (old new : H) (rest : DiskRest) (x : Loaded) → work_of host old ≡ work_of host new → HasImage host old rest x → HasImage host new rest x
image-there host old new rest x work is = record {
  even = is.even;
  heap = λ told. let h = is.heap told in record {
    is = subst (λ (w : List ℕ). IsImageHeap (heap_in rest w x.next)) work h.is;
    counts = subst (λ (w : List ℕ). (n : ℕ) → Has (heap_in rest w x.next) n → counts_at rest w n ≡ Some (count_of (heap_in rest w x.next) n)) work h.counts;
  };
  idle = λ told. let d = is.idle told in (d.0, subst (λ (w : List ℕ). IsDisk rest w d.0 []) work d.1);
  state = λ told. subst (λ (w : List ℕ). IsStateOf (heap_in rest w x.next) x.state) work (is.state told);
}

pub image-stays : {H : Type 0} (host : Ghosts H) (old new : H) (rest after : DiskRest) (x : Loaded) → host.roles new Work ≡ host.roles old Work → after ≡ rest → HasImage host old rest x → HasImage host new after x
image-stays host old new rest after x e same is = subst (λ (r : DiskRest). HasImage host new r x) (sym same) (image-there host old new rest x (same-work host old new e) is)
