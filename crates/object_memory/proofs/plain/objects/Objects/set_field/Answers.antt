use Rattle.std.proofs.Common.{◌≡◌, Some, sym, ap, subst, arith}
use Rattle.std.proofs.lemmas.Grind.{common_steps}
use Rattle.std.specs.Ordering.{nat_cmp}
use Rattle.std.specs.BTreeMap.{get}
use Rattle.long_names.specs.declared.object.Body.{Body}
use Rattle.long_names.specs.declared.object.Object.{Object}
use Rattle.long_names.specs.Objects.{with_field, IsObject}
use Rattle.object_memory.specs.Plain.{heap_of}
use Rattle.object_memory.proofs.MapLaws.{with, IsObject-with_field, stored-written, heap-written, written}
use Rattle.object_memory.proofs.plain.objects.Objects.set_field.Goals as goal

pub invariant_of-self : goal.invariant_of-self
invariant_of-self c =
    let m = c.args.self.now in
    let old : Object = c.in-Some.object.now in
    let new : Object = record { class = old.class; body = c.set_field.new.self } in
    let there : get nat_cmp m.objects c.args.name ≡ Some old = grind (arith, common_steps) in
    let same : new ≡ with old (λ b. with_field b c.args.i c.args.value) = ap (λ (b : Body). let o : Object = record { class = old.class; body = b } in o) c.set_field.ensures in
    let object : IsObject new = subst IsObject (sym same) (IsObject-with_field old c.args.i c.args.value c.requires.value (m.stored.object c.args.name old there)) in
    record { stored = stored-written m.objects (c.get_mut.follows.lender new) m.next c.args.name old new m.stored (c.get_mut.follows.holds new).4 there object (written m.objects (c.get_mut.follows.lender new) c.args.name old new (c.get_mut.follows.holds new) there) }

pub returns-in-Some : goal.returns-in-Some
returns-in-Some c =
    let m = c.args.self.now in
    let old : Object = c.in-Some.object.now in
    let new : Object = record { class = old.class; body = c.set_field.new.self } in
    let there : get nat_cmp m.objects c.args.name ≡ Some old = grind (arith, common_steps) in
    let same : new ≡ with old (λ b. with_field b c.args.i c.args.value) = ap (λ (b : Body). let o : Object = record { class = old.class; body = b } in o) c.set_field.ensures in
    heap-written _ (heap_of m) c.args.name (λ b. with_field b c.args.i c.args.value) old new there same (written m.objects (c.get_mut.follows.lender new) c.args.name old new (c.get_mut.follows.holds new) there)
