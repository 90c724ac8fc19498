use Rattle.std.proofs.Common.{refl, sym, ◌∙◌, ap, subst, arith}
use Rattle.long_names.specs.Heap.{object_count}
use Rattle.long_names.specs.Kept.{kept}
use Rattle.object_memory.specs.Counts.{count_in}
use Rattle.object_memory.specs.Plain.{heap_of}
use Rattle.object_memory.specs.Worklist.{IsFreeing}
use Rattle.object_memory.proofs.MapLaws.{map-bounded}
use Rattle.object_memory.proofs.CountDownLaws.{roots_by, freeing-dead, freeing-kept, freeing-end, freeing-smaller}
use Rattle.object_memory.proofs.plain.kept.keep.Goals as goal

pub loop-name-init : goal.loop-name-init
loop-name-init c = record { kept = refl; freeing = c.in_ok-dead.ensures (count_in c.args.counts) c.in_ok-count_words.ensures }

pub free-requires : goal.free-requires
free-requires c = record { freeing = (count_in c.args.counts, subst (λ names. IsFreeing (count_in c.args.counts) (heap_of c.loop-name.heap) c.loop-name.counts names) c.in-Some.ensures.items c.loop-name.invariant.freeing) }

pub loop-name-smaller : goal.loop-name-smaller
loop-name-smaller c =
    let heap = heap_of c.loop-name.heap in
    let less = freeing-smaller heap c.in-Some.name _ _ (map-bounded c.loop-name.heap) c.in_ok-free.ensures.short in
    let count = ap object_count c.in_ok-free.ensures.heap in
    let long = c.in-Some.ensures.len in
    omega arith

pub loop-name-preserved : goal.loop-name-preserved
loop-name-preserved c =
    let out = count_in c.args.counts in
    let heap = heap_of c.loop-name.heap in
    let dead = freeing-dead out heap c.loop-name.counts c.loop-name.dead.items c.pop.new.self.items c.in-Some.name c.loop-name.invariant.freeing c.in-Some.ensures.items in
    record {
      kept = ap (λ h. kept h (roots_by out)) c.in_ok-free.ensures.heap ∙ freeing-kept out heap c.loop-name.counts c.loop-name.dead.items c.in-Some.name (map-bounded c.loop-name.heap) c.loop-name.invariant.freeing dead ∙ c.loop-name.invariant.kept;
      freeing = c.in_ok-free.ensures.freeing out (subst (λ names. IsFreeing out heap c.loop-name.counts names) c.in-Some.ensures.items c.loop-name.invariant.freeing);
    }

pub returns-clause-kept : goal.returns-clause-kept
returns-clause-kept c =
    let heap = heap_of c.loop-name.heap in
    sym (freeing-end (count_in c.args.counts) heap c.loop-name.counts c.loop-name.dead.items c.loop-name.invariant.freeing (let none = c.in_default.ensures.cases.0 in omega arith)) ∙ c.loop-name.invariant.kept
