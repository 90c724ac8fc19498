use Rattle.std.proofs.Common.{◌≡◌, Some, refl, sym, ap, ◌∙◌, subst, arith}
use Rattle.std.proofs.lemmas.Grind.{common_steps}
use Rattle.std.specs.Ordering.{nat_cmp}
use Rattle.std.specs.BTreeMap.{get}
use Rattle.long_names.specs.declared.object.Object.{Object}
use Rattle.long_names.specs.Objects.{IsObject}
use Rattle.long_names.specs.Heap.{put_object}
use Rattle.object_memory.specs.Plain.{heap_of}
use Rattle.object_memory.proofs.MapLaws.{heap-put, stored-written, written}
use Rattle.object_memory.proofs.plain.objects.Objects.replace.Goals as goal

pub invariant_of-self : goal.invariant_of-self
invariant_of-self c =
    let m = c.args.self.now in
    let old : Object = c.in-Some.place.now in
    let new : Object = c.replace.new.dest in
    let there : get nat_cmp m.objects c.args.name ≡ Some old = grind (arith, common_steps) in
    record { stored = stored-written m.objects (c.get_mut.follows.lender new) m.next c.args.name old new m.stored (c.get_mut.follows.holds new).4 there (subst IsObject (sym c.replace.ensures.after) c.requires.object) (written m.objects (c.get_mut.follows.lender new) c.args.name old new (c.get_mut.follows.holds new) there) }

pub returns : goal.returns
returns c =
    let m = c.args.self.now in
    let old : Object = c.in-Some.place.now in
    let new : Object = c.replace.new.dest in
    let there : get nat_cmp m.objects c.args.name ≡ Some old = grind (arith, common_steps) in
    record {
      was = there ∙ ap (λ (o : Object). Some o) (sym c.replace.ensures.value);
      object = subst IsObject (sym c.replace.ensures.value) (m.stored.object c.args.name old there);
      heap = heap-put _ (heap_of m) m.next c.args.name new refl (written m.objects (c.get_mut.follows.lender new) c.args.name old new (c.get_mut.follows.holds new) there) ∙ ap (λ (o : Object). put_object (heap_of m) c.args.name o) c.replace.ensures.after;
    }
