-- What a whole put or remove makes of a disk, from what its steps did.
use Rattle.std.proofs.Common.{◌≡◌, ◌≢◌, ℕ, ◌-◌, ◌<◌, ◌≤◌, inl, cond, List, Some, None, Bool, true, false, refl, sym, ap, subst, ◌∙◌, arith}
use Rattle.std.specs.Prelude.{is_some}
use Rattle.std.specs.Cmp.{nat_cmp_total}
use Rattle.std.specs.FinMap as map
use Rattle.object_record.specs.Raw.{RawRecord, IsRawRecord}
use Rattle.work_directory.specs.Directory.{room_of, held_of, slots_of, end_of, entries_of, AnswersSearch, EndsAt, StandsAt, IsIn, IsOfName, IsChanged}
use Rattle.work_directory.specs.Table.{Entry, Entries}
use Rattle.work_directory.specs.declared.directory.Directory.{Directory}
use Rattle.work_directory.specs.declared.directory.Found.{Found}
use Rattle.work_directory.specs.declared.directory.Found.TheVariants as found
use Rattle.work_directory.proofs.EntryLaws.{search-kept}
use Rattle.loom_host.specs.Work.{IsWorkRead}
use Rattle.loom_host.specs.declared.outside.Host.{Ghosts}
use Rattle.loom_host.proofs.WorkLaws.{work-same}
use Rattle.work_space.specs.Space.{from_of}
use Rattle.work_space.specs.declared.space.Space.{Space}
use Rattle.work_space.proofs.BlockLaws.{some-inside}
use Rattle.disk_objects.specs.declared.rest.DiskRest.{DiskRest}
use Rattle.disk_objects.specs.declared.rest.Held.{Held}
use Rattle.disk_objects.specs.Disk.{DiskObject, Objects, IsSizeClass, IsInBlock, IsDisk, record_size, object_of}
use Rattle.disk_objects.specs.Inside.{Stores, Writes, IsOpen, IsHeld}
use Rattle.disk_objects.proofs.StoredLaws.{places_of, place-among, length-places, insert-at, insert-again, remove-there}
use Rattle.disk_objects.proofs.TouchLaws.{before-touched}
use Rattle.disk_objects.proofs.DiskLaws.{block-behind, with_space, with_directory, store-open, open-added, open-moved, disk-rewritten, disk-recounted}
use Rattle.disk_objects.proofs.FoundLaws.{absent-there, stored-there, size-there, link-there, class-same}

pub held-most : (d : Directory) → held_of d ≤ room_of d
unfolding room_of held_of
held-most d = d.fits

room-least : (d : Directory) → 0 < room_of d
unfolding room_of
room-least d = d.some

-- ---- where a search ends

-- after a read
pub ends-read : {H : Type 0} (host : Ghosts H) (a b : H) (d : Directory) (name : ℕ) (f : Found) → IsWorkRead host a b → EndsAt host a d name f → EndsAt host b d name f
ends-read host a b d name f read is =
    (is.0, λ told. subst (λ (w : List ℕ). AnswersSearch w (slots_of d) name f) (sym (work-same host a b read)) (is.1 told))

pub stands-read : {H : Type 0} (host : Ghosts H) (a b : H) (d : Directory) (name at : ℕ) → IsWorkRead host a b → StandsAt host a d name at → StandsAt host b d name at
stands-read host a b d name at read is = (is.0, ends-read host a b d name (found.Held at is.0) read is.1)

-- ---- a name that isn't held

module _ (rest : DiskRest) (new : Space) (v w : List ℕ) (objects : Objects) (pending : List ℕ) (raw : RawRecord) (link place : ℕ)
    (k : IsDisk rest v objects pending) (s : Stores rest.space new v w k.laid k.out raw link place) (from_is : from_of new ≡ from_of rest.space) where
  abbrev pub Opened : Type 0
  Opened = (o : IsOpen (with_space rest new) w objects pending place s.class) × (o.link ≡ k.link) × (entries_of rest.directory w ≡ entries_of rest.directory v)
      × ((p e : ℕ) → k.out p ≡ Some e → o.out p ≡ Some e)

  -- where a search ends stays
  pub store-ends : (name : ℕ) (f : Found) → IsOfName (slots_of rest.directory) name f → AnswersSearch v (slots_of rest.directory) name f
      → AnswersSearch w (slots_of rest.directory) name f
  store-ends name f =
      let low : end_of rest.directory ≤ place = subst (λ (n : ℕ). n ≤ place) k.kept.space.from_is s.takes.behind in
      let t = s.writes.touches in
      search-kept rest.directory v w name f (before-touched (end_of rest.directory) v w (λ at n before. t.rest at n (inl (omega arith))))

  pub store-added : held_of rest.directory < room_of rest.directory → Opened
  store-added short =
      let m : Entries = entries_of rest.directory v in
      let len = length-places m in
      let held = k.kept.directory.held in
      store-open rest new v w objects pending raw link place (places_of m) k s from_is (omega (arith, len, held, short))
      (λ p gone. let o = k.owned p s.class gone in place-among m o.0 o.1 p o.2 o.3)

  pub store-moved : (name : ℕ) (e : Entry) (b : ℕ) → map.get (entries_of rest.directory v) name ≡ Some e → k.out e.place ≡ Some b → b ≢ s.class → Opened
  store-moved name e b there gone other =
      let m : Entries = entries_of rest.directory v in
      let less : Entries = map.remove m name in
      let len = length-places less in
      let has : map.contains_key m name ≡ true = ap is_some there in
      let fewer : map.len less ≡ map.len m - 1 = map.len-remove nat_cmp_total m name ∙ ap (λ (x : Bool). cond x (map.len m - 1) (map.len m)) has in
      let held = k.kept.directory.held in
      let most = held-most rest.directory in
      let least = room-least rest.directory in
      store-open rest new v w objects pending raw link place (places_of less) k s from_is (omega (arith, len, fewer, held, most, least))
      (λ p taken. let o = k.owned p s.class taken in
      let away : o.0 ≢ name = λ same.
      let at : o.1.place ≡ e.place = ap (λ (x : Entry). x.place) (some-inside (sym o.2 ∙ ap (map.get m) same ∙ there)) in
      other (some-inside (sym gone ∙ ap k.out (sym at ∙ o.3) ∙ taken)) in
      place-among less o.0 o.1 p (remove-there m name o.0 away ∙ o.2) o.3)

pub put-added : (rest : DiskRest) (new : Space) (d' : Directory) (v w x : List ℕ) (objects : Objects) (pending : List ℕ) (raw : RawRecord) (place count : ℕ)
    (k : IsDisk rest v objects pending) (s : Stores rest.space new v w k.laid k.out raw 0 place) → from_of new ≡ from_of rest.space → IsRawRecord raw
    → map.get (entries_of rest.directory v) raw.name ≡ None → held_of rest.directory < room_of rest.directory → room_of d' ≡ room_of rest.directory
    → IsChanged d' (map.insert (entries_of rest.directory w) raw.name (record { count = count; place = place })) w x
    → IsDisk (record { directory = d'; space = new; first = rest.first }) x (map.insert objects raw.name (object_of raw count)) pending
put-added rest new d' v w x objects pending raw place count k s from_is raw_is none short room ch =
    let o = store-added rest new v w objects pending raw 0 place k s from_is short in
    open-added (with_space rest new) d' w x objects pending place s.class o.0 raw.name count 0 raw s.is_class s.writes.laid raw_is refl room ch
    (λ some. absurd (let held = k.kept.are_pending.held raw.name some in let no : false ≡ true = sym (ap is_some (absent-there rest v objects pending k raw.name none)) ∙ held in cc no))
    (ap (λ (m : Entries). map.get m raw.name) o.2 ∙ none)

-- ---- a name that is held

-- the class and the link of what is held
pub held-class : (rest : DiskRest) (v : List ℕ) (objects : Objects) (pending : List ℕ) (k : IsDisk rest v objects pending) (name : ℕ) (held : Held) → IsHeld rest v name held
    → IsSizeClass held.head.class held.head.size
    → (o : DiskObject) × (map.get objects name ≡ Some o) × (st : IsInBlock v k.out (k.link name) name (record { count = held.count; place = held.place }) o)
    × (st.class ≡ held.head.class) × (held.head.link ≡ k.link name)
held-class rest v objects pending k name held h is =
    let e : Entry = record { count = held.count; place = held.place } in
    let got = stored-there rest v objects pending k name e h.entry in
    let st = got.2 in
    let size = h.head.size ∙ size-there rest v objects pending k name e got.0 st in (
      got.0,
      got.1,
      st,
      class-same st.class held.head.class (record_size got.0.raw) st.is_class (subst (IsSizeClass held.head.class) size is),
      h.head.link ∙ link-there rest v objects pending k name e h.entry,
    )

pub put-rewritten : (rest : DiskRest) (d' : Directory) (v w x : List ℕ) (objects : Objects) (pending : List ℕ) (raw : RawRecord) (count : ℕ) (held : Held)
    (k : IsDisk rest v objects pending) → IsRawRecord raw → IsHeld rest v raw.name held → IsSizeClass held.head.class held.head.size → IsSizeClass held.head.class (record_size raw)
    → Writes v w held.place raw held.head.link → room_of d' ≡ room_of rest.directory
    → IsChanged d' (map.insert (entries_of rest.directory w) raw.name (record { count = count; place = held.place })) w x
    → IsDisk (record { directory = d'; space = rest.space; first = rest.first }) x (map.insert objects raw.name (object_of raw count)) pending
put-rewritten rest d' v w x objects pending raw count held k raw_is h is want wrote room ch =
    let name : ℕ = raw.name in
    let e : Entry = record { count = held.count; place = held.place } in
    let r = held-class rest v objects pending k name held h is in
    let first = disk-rewritten rest v w objects pending name k e r.0 raw held.head.link h.entry r.2 raw_is refl (subst (λ (c : ℕ). IsSizeClass c (record_size raw)) (sym r.3) want) r.4 wrote in
    let there = ap (λ (m : Entries). map.get m name) first.1 ∙ h.entry in
    let o : DiskObject = object_of raw held.count in
    subst (λ (y : Objects). IsDisk (with_directory rest d') x y pending) (insert-again objects name o (object_of raw count))
    (disk-recounted rest d' w x (map.insert objects name o) pending name count first.0 e o there (insert-at objects name o name refl) room ch)

-- the directory stands when the record is written in its place
pub rewritten-in : (rest : DiskRest) (v w : List ℕ) (objects : Objects) (pending : List ℕ) (raw : RawRecord) (held : Held)
    (k : IsDisk rest v objects pending) → IsRawRecord raw → IsHeld rest v raw.name held → IsSizeClass held.head.class held.head.size → IsSizeClass held.head.class (record_size raw)
    → Writes v w held.place raw held.head.link
    → IsIn rest.directory w
rewritten-in rest v w objects pending raw held k raw_is h is want wrote =
    let name : ℕ = raw.name in
    let e : Entry = record { count = held.count; place = held.place } in
    let r = held-class rest v objects pending k name held h is in
    let first = disk-rewritten rest v w objects pending name k e r.0 raw held.head.link h.entry r.2 raw_is refl (subst (λ (c : ℕ). IsSizeClass c (record_size raw)) (sym r.3) want) r.4 wrote in
    first.0.kept.directory

-- where a search ends stays
pub rewritten-ends : (rest : DiskRest) (v w : List ℕ) (objects : Objects) (pending : List ℕ) (raw : RawRecord) (held : Held)
    (k : IsDisk rest v objects pending) → IsHeld rest v raw.name held → IsSizeClass held.head.class held.head.size → Writes v w held.place raw held.head.link
    → (name : ℕ) (f : Found) → IsOfName (slots_of rest.directory) name f → AnswersSearch v (slots_of rest.directory) name f
    → AnswersSearch w (slots_of rest.directory) name f
rewritten-ends rest v w objects pending raw held k h is wrote name f =
    let d : Directory = rest.directory in
    let st = (held-class rest v objects pending k raw.name held h is).2 in
    let low : end_of d ≤ held.place = (block-behind d rest.space v w k.laid k.out k.kept.space held.place st.class st.block).0 in
    let t = wrote.touches in
    search-kept d v w name f (before-touched (end_of d) v w (λ at n before. t.rest at n (inl (omega arith))))

module _ (rest : DiskRest) (new : Space) (v w : List ℕ) (objects : Objects) (pending : List ℕ) (raw : RawRecord) (place : ℕ) (held : Held)
    (k : IsDisk rest v objects pending) (s : Stores rest.space new v w k.laid k.out raw held.head.link place) (from_is : from_of new ≡ from_of rest.space)
    (raw_is : IsRawRecord raw) (h : IsHeld rest v raw.name held) (is : IsSizeClass held.head.class held.head.size) (want : IsSizeClass held.head.class (record_size raw) → ⊥) where
  relocated : (r : Opened rest new v w objects pending raw held.head.link place k s from_is)
      × (k.out held.place ≡ Some held.head.class) × (held.head.link ≡ k.link raw.name)
  relocated =
      let e : Entry = record { count = held.count; place = held.place } in
      let r = held-class rest v objects pending k raw.name held h is in
      let gone : k.out held.place ≡ Some held.head.class = r.2.block ∙ ap (λ (c : ℕ). Some c) r.3 in (
        store-moved rest new v w objects pending raw held.head.link place k s from_is raw.name e held.head.class h.entry gone
            (λ same. want (subst (λ (c : ℕ). IsSizeClass c (record_size raw)) (sym same) s.is_class)),
        gone,
        r.4,
      )

  -- the directory stands
  pub relocated-in : IsIn rest.directory w
  relocated-in = relocated.0.0.kept.directory

  -- the old block is left over then
  pub put-moved : (d' : Directory) (x : List ℕ) (count : ℕ) → room_of d' ≡ room_of rest.directory
      → IsChanged d' (map.insert (entries_of rest.directory w) raw.name (record { count = count; place = place })) w x
      → IsOpen (record { directory = d'; space = new; first = rest.first }) x (map.insert objects raw.name (object_of raw count)) pending held.place held.head.class
  put-moved d' x count room ch =
      let e : Entry = record { count = held.count; place = held.place } in
      let r = relocated in
      open-moved (with_space rest new) d' w x objects pending place s.class r.0.0 raw.name count held.head.link raw s.is_class s.writes.laid raw_is refl room ch
      (λ _. r.2 ∙ ap (λ (f : ℕ → ℕ). f raw.name) (sym r.0.1)) e held.head.class
      (ap (λ (m : Entries). map.get m raw.name) r.0.2 ∙ h.entry) (r.0.3 held.place held.head.class r.1)
