use Rattle.std.proofs.Common.{ℕ, arith, ap}
use Rattle.std.proofs.lemmas.Map.Views.{All-turn}
use Rattle.std.proofs.lemmas.List.Sums.{sum_by-cons}
use Rattle.std.specs.Map.Iter.{deref_pair}
use Rattle.std.specs.List.{sum_by}
use Rattle.long_names.specs.declared.object.Object.{Object}
use Rattle.long_names.specs.Objects.{IsObject}
use Rattle.object_memory.proofs.Entries.{words_of}
use Rattle.object_memory.proofs.WordLaws.{entries-objects, words-few, counted-all}
use Rattle.object_memory.proofs.plain.kept.count_words.Goals as goal

pub loop-object-init : goal.loop-object-init
loop-object-init c = λ q.
    let same = ap (λ es. sum_by (words_of q) es) c.into_iter-object-iterator.ensures.into_iter_gives.0 in
    omega arith

pub count_object-requires-clause-room : goal.count_object-requires-clause-room
count_object-requires-clause-room c = λ q.
    let few = words-few c.args.heap.now q in
    let start = c.requires q in
    let so_far = c.loop-object.invariant q in
    omega arith

pub count_object-requires-clause-object : goal.count_object-requires-clause-object
count_object-requires-clause-object c =
    let gives = c.into_iter-object-iterator.ensures.into_iter_gives in
    All-turn deref_pair (λ (e : ℕ × Object). IsObject e.1) _ _ _ _ _ _ _ (entries-objects c.args.heap.now) gives.0 c.loop-object.yielded_by c.in-Some.is c.next.ensures.steps

pub loop-object-preserved : goal.loop-object-preserved
loop-object-preserved c = λ q.
    let so_far = c.loop-object.invariant q in
    let more = c.in_ok-count_object.ensures q in
    let next = ap (λ es. sum_by (words_of q) es) c.in-Some.ensures.steps in
    let rest = sum_by-cons (words_of q) (deref_pair (c.in-Some.field-0-0, c.in-Some.object)) c.next.new.self in
    omega arith

pub returns : goal.returns
returns c = λ q.
    let so_far = c.loop-object.invariant q in
    let none = ap (λ es. sum_by (words_of q) es) c.in-None.ensures.steps.0 in
    let all = counted-all c.args.heap.now q in
    omega arith
