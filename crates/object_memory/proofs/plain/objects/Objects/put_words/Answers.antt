use Rattle.std.proofs.Common.{◌≡◌, ◌^◌, Some, sym, ap, subst, arith}
use Rattle.std.proofs.lemmas.Grind.{common_steps}
use Rattle.std.specs.Ordering.{nat_cmp}
use Rattle.std.specs.BTreeMap.{get}
use Rattle.long_names.specs.declared.object.Body.{Body}
use Rattle.long_names.specs.declared.object.Object.{Object}
use Rattle.long_names.specs.Objects.{words_of, with_words, IsObject}
use Rattle.object_memory.specs.Plain.{heap_of}
use Rattle.object_memory.proofs.MapLaws.{with, all-fit, found-part, IsObject-with_words, stored-written, heap-written, written}
use Rattle.object_memory.proofs.plain.objects.Objects.put_words.Goals as goal

pub invariant_of-self : goal.invariant_of-self
invariant_of-self c =
    let m = c.args.self.now in
    let old : Object = c.in-Some.object.now in
    let new : Object = record { class = old.class; body = c.put_words.new.self } in
    let there : get nat_cmp m.objects c.args.name ≡ Some old = grind (arith, common_steps) in
    let same : new ≡ with old (λ b. with_words b c.args.at c.args.run.now) = ap (λ (b : Body). let o : Object = record { class = old.class; body = b } in o) c.put_words.ensures in
    let object : IsObject new = subst IsObject (sym same) (IsObject-with_words old c.args.at c.args.run.now (found-part _ old words_of _ c.requires there) (all-fit (2 ^ 16) c.args.run.now (λ k. (c.type_inv.run k).fits)) (m.stored.object c.args.name old there)) in
    record { stored = stored-written m.objects (c.get_mut.follows.lender new) m.next c.args.name old new m.stored (c.get_mut.follows.holds new).4 there object (written m.objects (c.get_mut.follows.lender new) c.args.name old new (c.get_mut.follows.holds new) there) }

pub returns-in-Some : goal.returns-in-Some
returns-in-Some c =
    let m = c.args.self.now in
    let old : Object = c.in-Some.object.now in
    let new : Object = record { class = old.class; body = c.put_words.new.self } in
    let there : get nat_cmp m.objects c.args.name ≡ Some old = grind (arith, common_steps) in
    let same : new ≡ with old (λ b. with_words b c.args.at c.args.run.now) = ap (λ (b : Body). let o : Object = record { class = old.class; body = b } in o) c.put_words.ensures in
    heap-written _ (heap_of m) c.args.name (λ b. with_words b c.args.at c.args.run.now) old new there same (written m.objects (c.get_mut.follows.lender new) c.args.name old new (c.get_mut.follows.holds new) there)
