-- What a disk holds after calls that only read Work.
use Rattle.std.proofs.Common.{◌≡◌, ℕ, ◌<◌, Bool, true, false, cond, eqb, List, Option, Some, None, is_some, option_map, IsTrue, refl, sym, ap, ap₂, subst, ◌∙◌, arith}
use Rattle.std.specs.Option.{IsSome}
use Rattle.std.specs.FinMap as map
use Rattle.std.proofs.lemmas.Bool.{eqb-true}
use Rattle.long_names.specs.Names.{IsName}
use Rattle.long_names.specs.Heap.{Heap, Has, count_of}
use Rattle.long_names.specs.declared.object.Object.{Object}
use Rattle.loom_host.specs.declared.outside.Host.{Ghosts}
use Rattle.loom_host.specs.declared.outside.Role.TheVariants.{Work}
use Rattle.loom_host.specs.Outside.{RoleState}
use Rattle.loom_host.specs.Work.{work_of}
use Rattle.work_directory.specs.Directory.{entries_of}
use Rattle.work_directory.specs.Table.{Entry}
use Rattle.disk_objects.specs.declared.rest.DiskRest.{DiskRest}
use Rattle.disk_objects.specs.Calls.{HoldsObjects}
use Rattle.disk_objects.specs.Disk.{DiskObject, Objects, IsDisk, with_count}
use Rattle.disk_objects.specs.Function.{disk_of, counts_of, objects_at, counts_at, object_there, object_held, IsFetched}
use Rattle.disk_objects.proofs.FunctionLaws.{disk-is}
use Rattle.disk_objects.proofs.FoundLaws.{record-there}
use Rattle.image_format.specs.declared.opening.State.{State}
use Rattle.object_record.specs.Buffer.{HasRecord, raw_of}
use Rattle.object_record.specs.Objects.{object_in}
use Rattle.object_record.specs.Raw.{raw_text}
use Rattle.image_writer.specs.Puts.{name_text}
use Rattle.image_writer.proofs.RecordTexts.{text_of_held}
use Rattle.image_writer.specs.Inside.{IsHeapOf}
use Rattle.image_writer.specs.Saved.{kept_word, kept_state}

-- ---- the same Work

same_work : {H : Type 0} (host : Ghosts H) (old new : H) → host.roles new Work ≡ host.roles old Work → work_of host new ≡ work_of host old
same_work host old new e = ap (λ (s : RoleState). s.contents) e

pub still_holds : {H : Type 0} (host : Ghosts H) (old new : H) (rest after : DiskRest) → host.roles new Work ≡ host.roles old Work → after ≡ rest → HoldsObjects host old rest → HoldsObjects host new after
still_holds host old new rest after work same stands = λ told.
    let s = stands told in
    (s.0, s.1, subst (λ (r : DiskRest). IsDisk r (work_of host new) s.0 s.1) (sym same) (subst (λ (v : List ℕ). IsDisk rest v s.0 s.1) (sym (same_work host old new work)) s.2), tt)

pub same_disk : {H : Type 0} (host : Ghosts H) (old new : H) (rest after : DiskRest) → host.roles new Work ≡ host.roles old Work → after ≡ rest → disk_of host new after ≡ disk_of host old rest
same_disk host old new rest after work same = ap₂ (λ (r : DiskRest) (v : List ℕ). objects_at r v) same (same_work host old new work)

pub same_counts : {H : Type 0} (host : Ghosts H) (old new : H) (rest after : DiskRest) → host.roles new Work ≡ host.roles old Work → after ≡ rest → counts_of host new after ≡ counts_of host old rest
same_counts host old new rest after work same = ap₂ (λ (r : DiskRest) (v : List ℕ). counts_at r v) same (same_work host old new work)

pub same_heap : {H : Type 0} (host : Ghosts H) (old new : H) (rest after : DiskRest) (h : Heap) → host.roles new Work ≡ host.roles old Work → after ≡ rest → IsHeapOf host old rest h → IsHeapOf host new after h
same_heap host old new rest after h work same is = record {
  at = is.at ∙ sym (same_disk host old new rest after work same);
  counts = λ n has. ap (λ (f : ℕ → Option ℕ). f n) (same_counts host old new rest after work same) ∙ is.counts n has;
}

-- ---- names

-- a name has a count where it has an object
pub counted_there : (rest : DiskRest) (work : List ℕ) (n : ℕ) → is_some (counts_at rest work n) ≡ is_some (objects_at rest work n)
unfolding counts_at objects_at
counted_there rest work n = go (map.get (entries_of rest.directory work) n)
  where
    go : (o : Option Entry) → is_some (option_map (λ (e : Entry). e.count) o) ≡ is_some (object_there work o)
    go None = refl
    go (Some e) = refl

-- a name that is held is a name
pub held_name : {H : Type 0} (host : Ghosts H) (now : H) (rest : DiskRest) (n : ℕ) → HoldsObjects host now rest → IsTrue (host.tells Work) → is_some (disk_of host now rest n) ≡ true → IsName n
held_name host now rest n stands told there =
    let s = stands told in
    go s.0 s.1 s.2 (map.get s.0 n) refl (ap is_some (sym (disk-is rest (work_of host now) s.0 s.1 n s.2)) ∙ there)
  where
    go : (objects : Objects) (pending : List ℕ) → IsDisk rest (work_of host now) objects pending → (o : Option DiskObject) → map.get objects n ≡ o → is_some (object_held (map.get objects n)) ≡ true → IsName n
    go objects pending disk None e there = let clash : ◌≡◌ {A = Bool} false true = ap (λ (o : Option DiskObject). is_some (object_held o)) (sym e) ∙ there in absurd (cc)
    go objects pending disk (Some o) e there =
        let r = record-there rest (work_of host now) objects pending disk n o e in
        subst IsName r.1 r.0.name.0

pub not_some : (o : Option ℕ) → ((n : ℕ) → o ≡ Some n → ⊥) → is_some o ≡ true → ⊥
not_some None other e = let clash : ◌≡◌ {A = Bool} false true = e in cc
not_some (Some n) other e = other n refl

-- ---- the state

pub word_none : (at : ℕ → Option Object) (word : ℕ) → (is_some (at word) ≡ true → IsName word) → (IsName word → ⊥) → 0 ≡ kept_word at word
word_none at word named other = go (is_some (at word)) refl
  where
    go : (b : Bool) → is_some (at word) ≡ b → 0 ≡ cond b word 0
    go true e = absurd (other (named e))
    go false e = refl

pub word_there : (at : ℕ → Option Object) (word : ℕ) (b : Bool) → is_some (at word) ≡ b → cond b word 0 ≡ kept_word at word
word_there at word b e = ap (λ (x : Bool). cond x word 0) (sym e)

pub state_kept : (at : ℕ → Option Object) (s : State) (display input timer tick : ℕ) → ((n : ℕ) → is_some (at n) ≡ true → IsName n) → display ≡ kept_word at s.display → input ≡ kept_word at s.input → timer ≡ kept_word at s.timer
    → tick ≡ cond (eqb timer 0) 0 s.tick → record { clock = s.clock; display = display; input = input; timer = timer; tick = tick } ≡ kept_state at s
state_kept at s display input timer tick named d i t k =
    let ticks : tick ≡ cond (is_some (at s.timer)) s.tick 0 = k ∙ ap (λ (n : ℕ). cond (eqb n 0) 0 s.tick) t ∙ go (is_some (at s.timer)) refl in
    ap (λ (n : ℕ). let x : State = record { clock = s.clock; display = n; input = input; timer = timer; tick = tick } in x) d
    ∙ ap (λ (n : ℕ). let x : State = record { clock = s.clock; display = kept_word at s.display; input = n; timer = timer; tick = tick } in x) i
    ∙ ap (λ (n : ℕ). let x : State = record { clock = s.clock; display = kept_word at s.display; input = kept_word at s.input; timer = n; tick = tick } in x) t
    ∙ ap (λ (n : ℕ). let x : State = record { clock = s.clock; display = kept_word at s.display; input = kept_word at s.input; timer = kept_word at s.timer; tick = n } in x) ticks
  where
    go : (b : Bool) → is_some (at s.timer) ≡ b → cond (eqb (cond b s.timer 0) 0) 0 s.tick ≡ cond b s.tick 0
    go true e = (let name = named s.timer e in below (eqb s.timer 0) refl name.above)
      where
        below : (b : Bool) → eqb s.timer 0 ≡ b → 0 < s.timer → cond b 0 s.tick ≡ s.tick
        below true z above = absurd (omega (arith, eqb-true s.timer 0 z, above))
        below false z above = refl
    go false e = refl

-- ---- the record of a held name

fetched : (bytes : List ℕ) (d : Option Object) (held : Bool) (o : Object) → IsFetched bytes d held → d ≡ Some o → held ≡ true → o ≡ object_in (raw_of bytes)
fetched bytes None held o is e yes_held = let clash : ◌≡◌ {A = Option Object} None (Some o) = e in absurd (cc)
fetched bytes (Some p) true o is e yes_held = let same : p ≡ o = cc in sym same ∙ is
fetched bytes (Some p) false o is e yes_held = absurd is

there : (h : Heap) (n : ℕ) → Has h n → (o : Object) × (h.at n ≡ Some o)
there h n has = go (h.at n) refl has
  where
    go : (o : Option Object) → h.at n ≡ o → is_some o ≡ true → (x : Object) × (h.at n ≡ Some x)
    go None e is = let clash : ◌≡◌ {A = Bool} false true = is in absurd (cc)
    go (Some x) e is = (x, e)

some_is : (a b : ℕ) → ◌≡◌ {A = Option ℕ} (Some a) (Some b) → a ≡ b
some_is a b e = cc

pub held_text : {H : Type 0} (host : Ghosts H) (old : H) (rest : DiskRest) (h : Heap) (name : ℕ) (bytes : List ℕ) (found : Option ℕ) (count : ℕ)
    → IsHeapOf host old rest h → Has h name → found ≡ counts_of host old rest name → found ≡ Some count
    → IsFetched bytes (disk_of host old rest name) (is_some found) → (IsSome found → HasRecord bytes × ((raw_of bytes).name ≡ name))
    → raw_text (with_count (raw_of bytes) count) ≡ name_text h name
held_text host old rest h name bytes found count is has counted some_count got record_there =
    let o = there h name has in
    let held : is_some found ≡ true = ap is_some some_count in
    let bytes_there = record_there held in
    let on_disk : disk_of host old rest name ≡ Some o.0 = ap (λ (f : ℕ → Option Object). f name) (sym is.at) ∙ o.1 in
    let counts : ◌≡◌ {A = Option ℕ} (Some count) (Some (count_of h name)) = sym some_count ∙ counted ∙ is.counts name has in
    text_of_held h name o.0 (raw_of bytes) count o.1 (fetched bytes (disk_of host old rest name) (is_some found) o.0 got on_disk held) bytes_there.0.is bytes_there.1 (some_is count (count_of h name) counts)
