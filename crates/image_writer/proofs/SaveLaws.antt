-- The text of a disk, from its names.
use Rattle.std.proofs.Common.{◌≡◌, ℕ, List, ◌++◌, length, Option, Some, None, is_some, refl, sym, ap, ◌∙◌}
use Rattle.std.specs.Prelude.{All}
use Rattle.std.specs.List.{flat_map}
use Rattle.std.specs.FinMap as map
use Rattle.std.proofs.lemmas.List.{length-map}
use Rattle.long_names.specs.Heap.{Has, object_count}
use Rattle.loom_host.specs.declared.outside.Host.{Ghosts}
use Rattle.loom_host.specs.Work.{work_of}
use Rattle.disk_objects.specs.declared.rest.DiskRest.{DiskRest}
use Rattle.disk_objects.specs.Disk.{DiskObject, Objects, IsDisk, disk_held}
use Rattle.disk_objects.specs.Function.{disk_of, object_held}
use Rattle.disk_objects.proofs.FunctionLaws.{disk-is}
use Rattle.disk_objects.proofs.KeyLaws.{disk-len}
use Rattle.image_format.specs.Heads.{opening_text, state_text}
use Rattle.image_format.specs.Text.{records_below}
use Rattle.image_format.specs.declared.opening.State.{State}
use Rattle.image_writer.specs.Inside.{IsHeapOf, opening_of}
use Rattle.image_writer.specs.Puts.{name_text}
use Rattle.image_writer.specs.Saved.{IsExact, disk_heap, kept_state, saved_text}
use Rattle.image_writer.proofs.NameTexts.{AreNames, map_rises, keys_are, texts_are, counts_are, all_there}

held_some : (o : Option DiskObject) → is_some o ≡ is_some (object_held o)
held_some None = refl
held_some (Some o) = refl

module _ {H : Type 0} (host : Ghosts H) (now : H) (rest : DiskRest) (next : ℕ) (objects : Objects) (pending : List ℕ) (disk : IsDisk rest (work_of host now) objects pending) where
  pub names_are : AreNames (disk_heap host now rest next) (map.keys objects)
  names_are = record {
    rises = map_rises objects;
    are = λ n. keys_are objects n ∙ held_some (map.get objects n) ∙ ap is_some (sym (disk-is rest (work_of host now) objects pending n disk));
  }

  pub names_there : All (Has (disk_heap host now rest next)) (map.keys objects)
  names_there = all_there (disk_heap host now rest next) (map.keys objects) (λ n is. sym (names_are.are n) ∙ is)

  length_keys : length (map.keys objects) ≡ disk_held rest
  length_keys = length-map (map.entries objects) (λ e. e.0) ∙ sym (map.len-entries objects) ∙ disk-len rest (work_of host now) objects pending disk

  pub text_is : (state kept : State) (names : List ℕ) (held : ℕ) → IsExact host now rest next → names ≡ map.keys objects → kept ≡ kept_state (disk_of host now rest) state → held ≡ disk_held rest
      → (opening_text (opening_of held next) ++ state_text kept) ++ flat_map (name_text (disk_heap host now rest next)) names ≡ saved_text (disk_heap host now rest next) state
  text_is state kept names held exact keys state_is held_is =
      let h = disk_heap host now rest next in
      let count : held ≡ object_count h = held_is ∙ sym length_keys ∙ sym (counts_are h (map.keys objects) names_are exact.bounded) in
      ap (λ (ns : List ℕ). (opening_text (opening_of held next) ++ state_text kept) ++ flat_map (name_text h) ns) keys
      ∙ ap (λ (s : List ℕ). (opening_text (opening_of held next) ++ state_text kept) ++ s) (sym (texts_are h (map.keys objects) names_are exact.bounded))
      ∙ ap (λ (n : ℕ). (opening_text (opening_of n next) ++ state_text kept) ++ records_below h next) count
      ∙ ap (λ (s : State). (opening_text (opening_of (object_count h) next) ++ state_text s) ++ records_below h next) state_is

pub exact_heap : {H : Type 0} (host : Ghosts H) (now : H) (rest : DiskRest) (next : ℕ) → IsExact host now rest next → IsHeapOf host now rest (disk_heap host now rest next)
exact_heap host now rest next exact = record { at = refl; counts = exact.counts }
