-- What is left on a disk where a memory has ended.
use Rattle.std.proofs.Common.{◌≡◌, ℕ, Bool, true, false, List, [], Option, Some, None, is_some, option_map, IsTrue, refl, sym, ◌∙◌, ap, subst}
use Rattle.long_names.specs.Heap.{Heap, Has, IsBounded, count_of}
use Rattle.long_names.specs.Kept.{kept, no_roots}
use Rattle.long_names.proofs.KeptLaws.{bounded-part, heap-same, kept-part}
use Rattle.loom_host.specs.declared.outside.Host.{Ghosts}
use Rattle.loom_host.specs.declared.outside.Role.TheVariants.{Work}
use Rattle.loom_host.specs.Work.{work_of}
use Rattle.disk_objects.specs.declared.rest.DiskRest.{DiskRest}
use Rattle.disk_objects.specs.Calls.{HoldsObjects}
use Rattle.disk_objects.specs.Function.{disk_of, counts_of}
use Rattle.image_writer.specs.Saved.{IsExact, disk_heap}
use Rattle.core_view.specs.Levels.{Stored, record_in, heap_of}
use Rattle.core_view.proofs.DeadLaws.{bounded}
use Rattle.delta_counts.specs.At.{IsStoredIn}
use Rattle.delta_counts.proofs.StoredLaws.{records-at, counts-at}
use Rattle.purger.specs.Closing.{HasKept}
use Rattle.loom_memory.specs.declared.memory.LoomMemory.{LoomMemory}
use Rattle.loom_memory.specs.Memory.{loom_now, loom_parts, loom_rest, loom_told, IsSound}
use Rattle.loom_memory.proofs.ExactLaws.{levels-told}
use Rattle.image_memory.specs.Image.{HasEnded}
use Rattle.image_memory.proofs.ImageLaws.{same-work}

-- ---- a memory ends

pub ended-is : {H : Type 0} (host : Ghosts H) (m : LoomMemory H host) (now : H) (rest : DiskRest) (next : ℕ) → IsTrue (host.tells Work) → IsSound host m → HasKept host now rest (loom_told host m).heap
    → next ≡ m.ledger.next → HasEnded host now rest next (loom_told host m).heap
unfolding loom_told
ended-is host m now rest next told sound left same =
    let e = sound.exact told in
    let heap = levels-told host (loom_parts m) (loom_now m) (loom_rest m) e.0 m.ledger.next e.1 e.3 told in
    record {
      left = left;
      bounded = subst IsBounded (sym heap) (bounded (heap_of e.0) e.2.heap);
      named = ap (λ (h : Heap). h.next) heap ∙ e.3 ∙ sym same;
    }

-- ---- what may be saved

module _ {H : Type 0} (host : Ghosts H) (now : H) (rest : DiskRest) (next : ℕ) (h : Heap) (x : HasEnded host now rest next h) where
  pub ended-heap : disk_heap host now rest next ≡ kept h no_roots
  ended-heap =
      ap (λ (n : ℕ). let g : Heap = record { at = disk_of host now rest; next = n } in g) (sym ((kept-part h no_roots).next ∙ x.named))
      ∙ heap-same (disk_of host now rest) (kept h no_roots) (λ q. sym (records-at rest (work_of host now) x.left.stored [] q x.left.at) ∙ x.left.image.objects q)

  pub ended-holds : HoldsObjects host now rest
  ended-holds told = (x.left.at.objects, [], x.left.at.disk, tt)

  counted : (n : ℕ) (o : Option Stored) → x.left.stored n ≡ o → Has (disk_heap host now rest next) n → counts_of host now rest n ≡ Some (count_of (disk_heap host now rest next) n)
  counted n None e has =
      let none : ◌≡◌ {A = Bool} true false = sym has ∙ ap is_some (sym (records-at rest (work_of host now) x.left.stored [] n x.left.at) ∙ ap record_in e) in
      absurd (cc)
  counted n (Some r) e has =
      sym (counts-at rest (work_of host now) x.left.stored [] n x.left.at)
      ∙ ap (λ (o : Option Stored). option_map (λ (s : Stored). s.count) o) e
      ∙ ap (λ (k : ℕ). let c : Option ℕ = Some k in c) (x.left.image.counts n r e)
      ∙ ap (λ (g : Heap). let c : Option ℕ = Some (count_of g n) in c) (sym ended-heap)

  pub ended-exact : IsExact host now rest next
  ended-exact = record {
    bounded = subst IsBounded (sym ended-heap) (bounded-part (kept h no_roots) h (kept-part h no_roots) x.bounded);
    counts = λ n has. counted n (x.left.stored n) refl has;
  }

-- ---- other roles

ended-there : {H : Type 0} (host : Ghosts H) (old new : H) (rest : DiskRest) (next : ℕ) (h : Heap) → work_of host old ≡ work_of host new → HasEnded host old rest next h → HasEnded host new rest next h
ended-there host old new rest next h work x = record {
  left = record {
    stored = x.left.stored;
    at = subst (λ (w : List ℕ). IsStoredIn rest w x.left.stored []) work x.left.at;
    image = x.left.image;
  };
  bounded = x.bounded;
  named = x.named;
}

pub ended-stays : {H : Type 0} (host : Ghosts H) (old new : H) (rest after : DiskRest) (next : ℕ) (h : Heap) → host.roles new Work ≡ host.roles old Work → after ≡ rest → HasEnded host old rest next h → HasEnded host new after next h
ended-stays host old new rest after next h e same x = subst (λ (r : DiskRest). HasEnded host new r next h) (sym same) (ended-there host old new rest next h (same-work host old new e) x)
