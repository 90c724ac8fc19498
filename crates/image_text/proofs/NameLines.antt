-- The text of a disk, from its names: a line for each in order.
use Rattle.std.proofs.Common.{◌≡◌, ℕ, List, [], ◌++◌, Option, refl, sym, ap, ◌∙◌}
use Rattle.std.specs.List.{flat_map}
use Rattle.std.specs.Option.{option_map_or}
use Rattle.std.specs.FinMap as map
use Rattle.long_names.specs.Heap.{Heap, IsBounded}
use Rattle.long_names.specs.declared.object.Object.{Object}
use Rattle.loom_host.specs.declared.outside.Host.{Ghosts}
use Rattle.loom_host.specs.Work.{work_of}
use Rattle.disk_objects.specs.declared.rest.DiskRest.{DiskRest}
use Rattle.disk_objects.specs.Disk.{Objects, IsDisk}
use Rattle.image_format.specs.declared.opening.State.{State}
use Rattle.image_writer.specs.Saved.{disk_heap}
use Rattle.image_writer.proofs.NameTexts.{AreNames, texts_of}
use Rattle.image_writer.proofs.SaveLaws.{names_are}
use Rattle.text_lines.specs.Spelling.{head_parts, heap_text, line_of, lines_below, name_line, object_parts}

lines_are : (h : Heap) (ks : List ℕ) → AreNames h ks → IsBounded h → lines_below h h.next ≡ flat_map (name_line h) ks
lines_are h ks names bounded = texts_of h ks (name_line h) (lines_below h) names bounded (record {
  none = λ n e. ap (λ (o : Option Object). option_map_or (λ (o : Object). line_of (object_parts n o)) o []) e;
  start = refl;
  more = λ n. refl;
})

module _ {H : Type 0} (host : Ghosts H) (now : H) (rest : DiskRest) (next : ℕ) (objects : Objects) (pending : List ℕ) (disk : IsDisk rest (work_of host now) objects pending) where
  pub text_is : (state : State) (names : List ℕ) → IsBounded (disk_heap host now rest next) → names ≡ map.keys objects
      → line_of (head_parts next state) ++ flat_map (name_line (disk_heap host now rest next)) names ≡ heap_text (disk_heap host now rest next) state
  unfolding heap_text
  text_is state names bounded keys =
      let h = disk_heap host now rest next in
      ap (λ (ns : List ℕ). line_of (head_parts next state) ++ flat_map (name_line h) ns) keys
      ∙ ap (λ (t : List ℕ). line_of (head_parts next state) ++ t) (sym (lines_are h (map.keys objects) (names_are host now rest next objects pending disk) bounded))
