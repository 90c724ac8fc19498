-- What the steps of a conversion say of what was read.
use Rattle.std.proofs.Common.{◌≡◌, ◌∙◌, ℕ, List, [], Option, Some, sym, ap₂, subst}
use Rattle.long_names.specs.Heap.{Has, count_of, object_count}
use Rattle.long_names.specs.declared.object.Object.{Object}
use Rattle.image_format.specs.Valid.{IsImageHeap}
use Rattle.disk_objects.specs.Disk.{IsDisk, Objects, disk_held}
use Rattle.disk_objects.specs.Function.{counts_at, counts_of, disk_of, objects_at}
use Rattle.disk_objects.specs.declared.rest.DiskRest.{DiskRest}
use Rattle.image_memory.proofs.ImageLaws.{held-number}
use Rattle.image_reader.specs.Loaded.{IsLoadedHeap, heap_on}
use Rattle.image_reader.proofs.Stored.{same_work}
use Rattle.loom_host.specs.Work.{work_of}
use Rattle.loom_host.specs.declared.outside.Host.{Ghosts}
use Rattle.loom_host.specs.declared.outside.Role.TheVariants.{Work}
use Rattle.loom_run.specs.Steps.{HasSource}

-- what lies on the disk stays so where nothing is done with Work
module _ {H : Type 0} (host : Ghosts H) (old new : H) (rest after : DiskRest) (next : ℕ) (work : host.roles new Work ≡ host.roles old Work) (same : after ≡ rest) where
  objects-stay : disk_of host new after ≡ disk_of host old rest
  objects-stay = ap₂ (λ (r : DiskRest) (v : List ℕ). objects_at r v) same (same_work host old new work)

  counts-stay : counts_of host new after ≡ counts_of host old rest
  counts-stay = ap₂ (λ (r : DiskRest) (v : List ℕ). counts_at r v) same (same_work host old new work)

  abbrev AreCounted : (ℕ → Option Object) → (ℕ → Option ℕ) → Type 0
  AreCounted at counts = (n : ℕ) → Has (record { at = at; next = next }) n → counts n ≡ Some (count_of (record { at = at; next = next }) n)

  loaded-stays : IsLoadedHeap host old rest next → IsLoadedHeap host new after next
  loaded-stays h = record {
    is = subst (λ (at : ℕ → Option Object). IsImageHeap (record { at = at; next = next })) (sym objects-stay) h.is;
    counts = subst (λ (at : ℕ → Option Object). AreCounted at (counts_of host new after)) (sym objects-stay) (subst (λ (counts : ℕ → Option ℕ). AreCounted (disk_of host old rest) counts) (sym counts-stay) h.counts);
  }

  pub source-stays : HasSource host old rest next → HasSource host new after next
  source-stays s = record {
    heap = λ told. loaded-stays (s.heap told);
    idle = λ told.
        let x = s.idle told in
        (x.0, subst (λ (r : DiskRest). IsDisk r (work_of host new) x.0 []) (sym same) (subst (λ (v : List ℕ). IsDisk rest v x.0 []) (sym (same_work host old new work)) x.1));
  }

-- as many objects are held as the heap has
pub held-counts : {H : Type 0} (host : Ghosts H) (now : H) (rest : DiskRest) (next : ℕ) (objects : ℕ) → objects ≡ disk_held rest → IsLoadedHeap host now rest next → (o : Objects) × IsDisk rest (work_of host now) o [] → objects ≡ object_count (heap_on host now rest next)
held-counts host now rest next objects held loaded disk = held ∙ sym (held-number host now rest next disk.0 disk.1 loaded.is.bounded)
