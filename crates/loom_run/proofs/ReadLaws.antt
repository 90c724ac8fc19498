-- An image that was loaded, as the promise has it: the bytes of Image are those of the heap that is on the disk.
use Rattle.std.proofs.Common.{◌≡◌, ℕ, ◌<◌, ◌≤◌, ◌^◌, List, [], ◌++◌, length, Option, None, Result, Ok, IsTrue, sym, ◌∙◌, ap, subst}
use Rattle.std.specs.Prelude.{All}
use Rattle.long_names.specs.Heap.{Heap, object_count}
use Rattle.long_names.specs.declared.object.Object.{Object}
use Rattle.loom_host.specs.declared.outside.Host.{Ghosts}
use Rattle.loom_host.specs.declared.outside.Role.TheVariants.{Image, Work}
use Rattle.image_format.specs.declared.fault.Halt.{Halt}
use Rattle.image_format.specs.Rules as rules
use Rattle.image_format.specs.Rules.{IsValidImage, break_in, first_break, image_at, object_in, whole_break}
use Rattle.image_format.proofs.ImageLaws.{bytes_of_all, image_again, image_of, image_read, valid_from}
use Rattle.image_format.proofs.ImageRecs.{objects_are}
use Rattle.image_format.proofs.Numbers.{ok_is}
use Rattle.disk_objects.specs.declared.rest.DiskRest.{DiskRest}
use Rattle.disk_objects.specs.Function.{disk_of}
use Rattle.image_reader.specs.declared.loading.Loaded.{Loaded}
use Rattle.image_reader.specs.Loaded.{Loads, heap_on}
use Rattle.image_reader.specs.Window.{OnlyRead}
use Rattle.loom_run.specs.Ends.{IsImageOf, bytes_of}
use Rattle.loom_run.specs.Steps.{IsRead}

-- no rule breaks of an image that was read whole
whole-break : (bytes : List ℕ) (x : rules.Image) → image_at bytes ≡ Ok (x, []) → whole_break x ≡ None → first_break bytes ≡ None
unfolding first_break
whole-break bytes x read whole = ap (break_in (length bytes)) read ∙ whole

read-is : (x y : rules.Image) → (let a : Result (rules.Image × List ℕ) Halt = Ok (x, []) in a) ≡ Ok (y, []) → x ≡ y
read-is x y e = ap (λ (p : rules.Image × List ℕ). p.0) (ok_is (x, []) (y, []) e)

heap-is : (h : Heap) (at : ℕ → Option Object) (next : ℕ) → at ≡ h.at → next ≡ h.next → h ≡ record { at = at; next = next }
heap-is h at next same names = sym (ap (λ (f : ℕ → Option Object). let g : Heap = record { at = f; next = next } in g) same ∙ ap (λ n. let g : Heap = record { at = h.at; next = n } in g) names)

module _ {H : Type 0} (host : Ghosts H) (mid new : H) (room : ℕ) (rest : DiskRest) (x : Loaded) (image : rules.Image) (loads : Loads host mid new room rest image) (next : x.next ≡ image.head.opening.next) (state : x.state ≡ image.head.state) where
  pub image-read : IsTrue (host.tells Image) → IsTrue (host.tells Work) → (host.roles mid Image).taken ≡ [] → OnlyRead (host.roles mid Image) (host.roles new Image) → All (λ b. b < 2 ^ 8) (host.roles mid Image).left → IsRead (bytes_of (host.roles new Image)) room x.state (heap_on host new rest x.next)
  image-read told work fresh only range =
      let bytes = (host.roles mid Image).left in
      let all : bytes_of (host.roles new Image) ≡ bytes = only.whole ∙ ap (λ t. t ++ bytes) fresh in
      let v : IsValidImage bytes = valid_from bytes (bytes_of_all bytes range) (whole-break bytes image (loads.read told) (loads.whole work)) in
      let same : image ≡ image_of v.head v.heap = read-is image (image_of v.head v.heap) (sym (loads.read told) ∙ image_again bytes (image_of v.head v.heap) (image_read bytes v.heap v.head v.is v.of_heap v.text)) in
      let heap : v.heap ≡ heap_on host new rest x.next = heap-is v.heap (disk_of host new rest) x.next
      ((loads.stored work).at ∙ ap (λ (i : rules.Image). object_in i.recs) same ∙ objects_are v.heap v.is.bounded.bounded)
      (next ∙ ap (λ (i : rules.Image). i.head.opening.next) same ∙ v.of_heap.next) in
      record {
        head = v.head;
        image = subst (λ (b : List ℕ). IsImageOf b v.head (heap_on host new rest x.next)) (sym all) (subst (IsImageOf bytes v.head) heap record { is = v.is; of_heap = v.of_heap; text = v.text });
        roomy = subst (λ n. n ≤ room) (ap (λ (i : rules.Image). i.head.opening.objects) same) loads.roomy;
        state_is = sym (ap (λ (i : rules.Image). i.head.state) same) ∙ sym state;
      }

  -- as many objects are stated as the heap has
  pub image-counts : IsTrue (host.tells Image) → IsTrue (host.tells Work) → All (λ b. b < 2 ^ 8) (host.roles mid Image).left → x.objects ≡ image.head.opening.objects → x.objects ≡ object_count (heap_on host new rest x.next)
  image-counts told work range objects =
      let bytes = (host.roles mid Image).left in
      let v : IsValidImage bytes = valid_from bytes (bytes_of_all bytes range) (whole-break bytes image (loads.read told) (loads.whole work)) in
      let same : image ≡ image_of v.head v.heap = read-is image (image_of v.head v.heap) (sym (loads.read told) ∙ image_again bytes (image_of v.head v.heap) (image_read bytes v.heap v.head v.is v.of_heap v.text)) in
      let heap : v.heap ≡ heap_on host new rest x.next = heap-is v.heap (disk_of host new rest) x.next
      ((loads.stored work).at ∙ ap (λ (i : rules.Image). object_in i.recs) same ∙ objects_are v.heap v.is.bounded.bounded)
      (next ∙ ap (λ (i : rules.Image). i.head.opening.next) same ∙ v.of_heap.next) in
      objects ∙ ap (λ (i : rules.Image). i.head.opening.objects) same ∙ v.of_heap.objects ∙ ap object_count heap
