-- An image that was loaded over a host whose Image is a slice, said of the host inside: but for Image both say the same, and Image of the one inside is left.
use Rattle.std.proofs.Common.{◌≡◌, ◌≢◌, ℕ, List, [], ◌++◌, Some, IsTrue, inl, inr, refl, sym, ◌∙◌, ap, subst, arith}
use Rattle.std.specs.Prelude.{◌⊎◌}
use Rattle.long_names.specs.Counting.{Rose}
use Rattle.long_names.specs.Heap.{Heap, Has, count_of}
use Rattle.loom_host.specs.Outside.{RoleState}
use Rattle.loom_host.specs.Work.{work_of}
use Rattle.loom_host.specs.declared.outside.DiskFault.{DiskFault}
use Rattle.loom_host.specs.declared.outside.DiskFault.TheVariants as disk
use Rattle.loom_host.specs.declared.outside.Host.{Ghosts}
use Rattle.loom_host.specs.declared.outside.Role.{Role}
use Rattle.loom_host.specs.declared.outside.Role.TheVariants.{Image, Work}
use Rattle.disk_objects.specs.Disk.{IsDisk, Objects}
use Rattle.disk_objects.specs.Function.{counts_at, objects_at}
use Rattle.disk_objects.specs.declared.rest.DiskRest.{DiskRest}
use Rattle.image_format.specs.Rules as rules
use Rattle.image_format.specs.Valid.{IsImageHeap}
use Rattle.image_reader.specs.Frames.{IsLoading}
use Rattle.image_reader.specs.Loaded.{IsLoadFault, IsLoadedHeap, IsUnread, Loads, full_of, heap_on}
use Rattle.image_reader.specs.declared.fault.LoadFault.{LoadFault}
use Rattle.image_reader.specs.declared.fault.LoadFault.TheVariants as load
use Rattle.image_reader.specs.declared.loading.Loaded.{Loaded}
use Rattle.image_memory.specs.Image.{HasImage, IsStateOf}
use Rattle.checkpoint.specs.ImageHost.{unread}
use Rattle.loom_run.specs.Ends.{IsCaused, JudgesImage, bytes_of}
use Rattle.loom_run.specs.Meanings.{IsLeft, LeavesBut, meanings}
use Rattle.loom_run.specs.Parts.{status_by_disk}
use Rattle.loom_run.specs.Stages.{Reading, roles_at}
use Rattle.loom_run.specs.Steps.{IsRead, IsRefusal, IsSameFile}
use Rattle.loom_run.proofs.Frames.{is-role}
use Rattle.loom_run.proofs.ReadLaws.{image-read}
use Rattle.loom_run.proofs.StepLaws.{file-reading, leaves-reading, refused-disk}
use Rattle.loom_words.specs.Words.{Row}
use Rattle.loom_words.specs.declared.status.Status.TheVariants as answer
use Rattle.loom_guard.specs.Steps.{status_by_load}

-- A host of type H stands inside one of type W, at the beginning and at the end, while this image was loaded over the latter.
pub record Stands {H W : Type 0} (host : Ghosts H) (over : Ghosts W) (old new : H) (first last : W) (image : List ℕ) : Type 0 where
  pub work : over.tells Work ≡ host.tells Work
  pub told : IsTrue (over.tells Image)
  pub roles_old : (r : Role) → r ≢ Image → over.roles first r ≡ host.roles old r
  pub roles_new : (r : Role) → r ≢ Image → host.roles new r ≡ over.roles last r
  pub faults_old : (r : Role) → r ≢ Image → over.faults first r ≡ host.faults old r
  pub faults_new : (r : Role) → r ≢ Image → host.faults new r ≡ over.faults last r
  pub left : IsLeft Image (meanings host old) (meanings host new)
  pub fresh : (over.roles first Image).taken ≡ []
  pub bytes : (over.roles first Image).left ≡ image
  pub none : over.faults first Image ≡ 0
  pub still : over.faults last Image ≡ 0
  pub loading : IsLoading over first last

pub stands : {H W : Type 0} (host : Ghosts H) (over : Ghosts W) (old new : H) (first last : W) (put image : List ℕ) → over.tells Work ≡ host.tells Work → IsTrue (over.tells Image)
    → ((r : Role) → r ≢ Image → over.roles first r ≡ host.roles old r) → ((r : Role) → r ≢ Image → host.roles new r ≡ over.roles last r)
    → ((r : Role) → r ≢ Image → over.faults first r ≡ host.faults old r) → ((r : Role) → r ≢ Image → host.faults new r ≡ over.faults last r)
    → host.roles new Image ≡ host.roles old Image → host.faults new Image ≡ host.faults old Image → over.roles first Image ≡ unread put image
    → over.faults first Image ≡ (over.roles first Image).attaches → over.faults last Image ≡ (over.roles last Image).attaches → IsLoading over first last → Stands host over old new first last image
stands host over old new first last put image work told roles_old roles_new faults_old faults_new state faults is began ends loading =
    let attached : (over.roles first Image).attaches ≡ 0 = ap (λ (s : RoleState). s.attaches) is in
    record {
      work = work;
      told = told;
      roles_old = roles_old;
      roles_new = roles_new;
      faults_old = faults_old;
      faults_new = faults_new;
      left = record { state = state; faults = faults };
      fresh = ap (λ (s : RoleState). s.taken) is;
      bytes = ap (λ (s : RoleState). s.left) is;
      none = began ∙ attached;
      still = ends ∙ (loading.image told).attaches ∙ attached;
      loading = loading;
    }

module _ {H W : Type 0} (host : Ghosts H) (over : Ghosts W) (old new : H) (first last : W) (image : List ℕ) (is : Stands host over old new first last image) where
  told_over : IsTrue (host.tells Work) → IsTrue (over.tells Work)
  told_over told = subst (λ b. IsTrue b) (sym is.work) told

  inside : LeavesBut (roles_at Reading) (meanings over first) (meanings over last)
  inside = leaves-reading over first first last (λ r away. refl) (λ r away. refl) (omega arith) is.loading

  pub leaves-slice : LeavesBut (roles_at Reading) (meanings host old) (meanings host new)
  leaves-slice = record {
    others = λ r none. record {
      state = is.roles_new r none.0 ∙ (inside.others r none).state ∙ is.roles_old r none.0;
      faults = is.faults_new r none.0 ∙ (inside.others r none).faults ∙ is.faults_old r none.0;
    };
    writes = λ none. absurd (none.1.0 refl);
    later = λ r. elim (is-role r Image) [
      | inl e ↦ rw e (let same = is.left.faults in omega (arith, same))
      | inr away ↦ (let b = is.faults_old r away in let n = is.faults_new r away in let more = inside.later r in omega (arith, b, n, more))
    ];
  }

  pub file-slice : IsTrue (host.tells Work) → IsSameFile (host.roles old Work) (host.roles new Work)
  file-slice told = subst (λ (s : RoleState). IsSameFile (host.roles old Work) s) (sym (is.roles_new Work (λ e. cc)))
      (subst (λ (s : RoleState). IsSameFile s (over.roles last Work)) (is.roles_old Work (λ e. cc))
      (file-reading over first first last (λ r away. refl) (λ r away. refl) (omega arith) is.loading (told_over told)))

  -- ---- the heap

  work_same : work_of over last ≡ work_of host new
  work_same = ap (λ (s : RoleState). s.contents) (sym (is.roles_new Work (λ e. cc)))

  abbrev heap_at : DiskRest → ℕ → List ℕ → Heap
  heap_at rest next bytes = record { at = objects_at rest bytes; next = next }

  pub heap-slice : (rest : DiskRest) (next : ℕ) → heap_on over last rest next ≡ heap_on host new rest next
  heap-slice rest next = ap (heap_at rest next) work_same

  loaded-slice : (rest : DiskRest) (next : ℕ) → IsLoadedHeap over last rest next → IsLoadedHeap host new rest next
  loaded-slice rest next h = record {
    is = subst (λ (bytes : List ℕ). IsImageHeap (heap_at rest next bytes)) work_same h.is;
    counts = subst (λ (bytes : List ℕ). (n : ℕ) → Has (heap_at rest next bytes) n → counts_at rest bytes n ≡ Some (count_of (heap_at rest next bytes) n)) work_same h.counts;
  }

  pub image-slice : (rest : DiskRest) (x : Loaded) → HasImage over last rest x → HasImage host new rest x
  image-slice rest x h = record {
    even = h.even;
    heap = λ told. loaded-slice rest x.next (h.heap (told_over told));
    idle = λ told. subst (λ (bytes : List ℕ). (objects : Objects) × IsDisk rest bytes objects []) work_same (h.idle (told_over told));
    state = λ told. subst (λ (heap : Heap). IsStateOf heap x.state) (heap-slice rest x.next) (h.state (told_over told));
  }

  pub read-slice : (room : ℕ) (rest : DiskRest) (x : Loaded) (i : rules.Image) → Loads over first last room rest i → x.next ≡ i.head.opening.next → x.state ≡ i.head.state → IsTrue (host.tells Work)
      → IsRead image room x.state (heap_on host new rest x.next)
  read-slice room rest x i loads next state work =
      let only = is.loading.image is.told in
      let bytes : bytes_of (over.roles last Image) ≡ image = only.whole ∙ ap (λ t. t ++ (over.roles first Image).left) is.fresh ∙ is.bytes in
      subst (λ (h : Heap). IsRead image room x.state h) (heap-slice rest x.next)
      (subst (λ (b : List ℕ). IsRead b room x.state (heap_on over last rest x.next)) bytes (image-read over first last room rest x i loads next state is.told (told_over work) is.fresh only (loads.bytes is.told)))

  -- ---- why none was loaded

  -- no fault of Image is counted over it
  calm : (count : ℕ) → (count ≡ over.faults last Image) × Rose (over.faults first Image) (over.faults last Image) → ⊥
  calm count h = let rose = h.1 in let none = is.none in let still = is.still in omega (arith, rose, none, still)

  disk-cause : (f : DiskFault) → IsCaused (status_by_disk f) (over.faults first) (over.faults last) → IsCaused (status_by_disk f) (host.faults old) (host.faults new)
  disk-cause (disk.Work count) h = (
    h.0 ∙ sym (is.faults_new Work (λ e. cc)),
    subst (λ n. Rose (host.faults old Work) n) (sym (is.faults_new Work (λ e. cc))) (subst (λ n. Rose n (over.faults last Work)) (is.faults_old Work (λ e. cc)) h.1),
  )
  disk-cause (disk.Full held most) h = tt
  disk-cause (disk.Damaged place name) h = tt

  pub refused-slice : (row : Row) (room : ℕ) (f : LoadFault) → room ≡ row.room → IsLoadFault over first last room f → IsRefusal host.tells (meanings host old) (meanings host new) row Reading (status_by_load f)
  refused-slice row room (load.Bad rule place) same h = record { answer = tt; of_run = tt; ran = tt; cause = tt; whole = λ told damaged. damaged; limits = tt }
  refused-slice row room (load.Read count) same h = absurd (calm count h)
  refused-slice row room (load.Disk f) same h =
      let r = refused-disk over first first last (λ r away. refl) (λ r away. refl) (omega arith) is.loading row room f same h in
      record { answer = r.answer; of_run = r.of_run; ran = r.ran; cause = disk-cause f r.cause; whole = λ told. r.whole (told_over told); limits = r.limits }
  refused-slice row room load.Memory same h = record { answer = tt; of_run = tt; ran = tt; cause = tt; whole = λ told damaged. damaged; limits = tt }

  disk-never : (f : DiskFault) (count : ℕ) → status_by_disk f ≡ answer.ReadFault Image count → ⊥
  disk-never (disk.Work n) count e = cc
  disk-never (disk.Full held most) count e = cc
  disk-never (disk.Damaged place name) count e = cc

  pub never-slice : (room : ℕ) (f : LoadFault) → IsLoadFault over first last room f → (count : ℕ) → status_by_load f ≡ answer.ReadFault Image count → ⊥
  never-slice room (load.Bad rule place) h count e = cc
  never-slice room (load.Read n) h count e = calm n h
  never-slice room (load.Disk f) h count e = disk-never f count e
  never-slice room load.Memory h count e = cc

  -- of the bytes that were read
  pub judged-slice : (room : ℕ) (f : LoadFault) → IsLoadFault over first last room f → JudgesImage (host.tells Work) (status_by_load f) room image
  judged-slice room (load.Bad rule place) h = λ whole.
      subst (λ (bytes : List ℕ). JudgesImage (over.tells Work) (answer.ImageBad rule place) room bytes) is.bytes (h is.told)
      (λ at. subst (λ b. IsTrue b ⊎ IsUnread image) (sym is.work) (whole at))
  judged-slice room (load.Read count) h = tt
  judged-slice room (load.Disk (disk.Work count)) h = tt
  judged-slice room (load.Disk (disk.Full held most)) h = (h.0, h.1, subst (λ (bytes : List ℕ). full_of room bytes ≡ Some held) is.bytes (h.2 is.told))
  judged-slice room (load.Disk (disk.Damaged place name)) h = tt
  judged-slice room load.Memory h = tt
