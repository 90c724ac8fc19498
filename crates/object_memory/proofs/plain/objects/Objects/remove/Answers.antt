use Rattle.std.proofs.Common.{◌≡◌, Option, Some, None, refl, sym, ◌∙◌}
use Rattle.std.specs.Option.{IfSome}
use Rattle.long_names.specs.declared.object.Object.{Object}
use Rattle.long_names.proofs.KeptLaws.{heap-same}
use Rattle.object_memory.specs.Plain.{heap_of}
use Rattle.long_names.specs.Objects.{IsObject}
use Rattle.long_names.specs.Heap.{without}
use Rattle.object_memory.proofs.MapLaws.{stored-removed, updated}
use Rattle.object_memory.proofs.plain.objects.Objects.remove.Goals as goal

pub invariant_of-self : goal.invariant_of-self
invariant_of-self c =
    let m = c.args.self.now in
    record { stored = stored-removed m.objects c.remove.new.self m.next c.args.name m.stored c.remove.ensures.ordered c.remove.ensures.updates }

pub returns-clause-heap : goal.returns-clause-heap
returns-clause-heap c =
    let m = c.args.self.now in
    heap-same _ (without (heap_of m) c.args.name) (updated m.objects c.remove.new.self c.args.name None c.remove.ensures.updates)

pub returns-clause-object : goal.returns-clause-object
returns-clause-object c = all c.remove.result (λ o is. c.args.self.now.stored.object c.args.name o (sym c.remove.ensures.value ∙ is))
  where
    all : (r : Option Object) → ((o : Object) → r ≡ Some o → IsObject o) → IfSome r IsObject
    all None each = tt
    all (Some o) each = each o refl
