use Rattle.std.proofs.Common.{◌∷◌, [], ◌++◌, sym, ◌∙◌, subst, refl}
use Rattle.std.proofs.lemmas.Result.{on_ok_weaker}
use Rattle.long_names.specs.Heap.{Heap}
use Rattle.object_memory.specs.Plain.{heap_of}
use Rattle.object_memory.specs.Worklist.{IsFreeing}
use Rattle.object_memory.proofs.MapLaws.{map-bounded}
use Rattle.object_memory.proofs.CountDownLaws.{freeing-passed, freeing-freed, freeing-counted}
use Rattle.object_memory.proofs.plain.kept.free.Goals as goal

pub returns-in_default-clause-freeing : goal.returns-in_default-clause-freeing
returns-in_default-clause-freeing c =
    let heap = heap_of c.args.heap.now in
    let rest = c.args.dead.now.items in
    let name = c.args.name in
    λ out f. subst (λ (h : Heap). IsFreeing out h c.args.counts.now rest) (sym c.remove.ensures.heap) (freeing-passed out heap c.args.counts.now (rest ++ name ∷ []) rest name f refl (sym c.remove.ensures.at ∙ c.in_default.is))

pub count_down_object-requires-clause-counted : goal.count_down_object-requires-clause-counted
count_down_object-requires-clause-counted c =
    let rest = c.args.dead.now.items in
    let name = c.args.name in
    freeing-counted c.requires.freeing.0 (heap_of c.args.heap.now) c.args.counts.now (rest ++ name ∷ []) name c.in-Some.object (map-bounded c.args.heap.now) c.requires.freeing.1 (sym c.remove.ensures.at ∙ c.in-Some.is)

pub returns-clause-freeing : goal.returns-clause-freeing
returns-clause-freeing c =
    let heap = heap_of c.args.heap.now in
    let rest = c.args.dead.now.items in
    let name = c.args.name in
    on_ok_weaker c.count_down_object.result
    (λ down out f. subst (λ (h : Heap). IsFreeing out h c.count_down_object.new.counts c.count_down_object.new.dead.items) (sym c.remove.ensures.heap) (freeing-freed out heap c.args.counts.now c.count_down_object.new.counts (rest ++ name ∷ []) rest c.count_down_object.new.dead.items name 65536 c.in-Some.object (map-bounded c.args.heap.now) f refl (sym c.remove.ensures.at ∙ c.in-Some.is) down))
    c.count_down_object.ensures
