use Rattle.std.proofs.Common.{◌≡◌, ℕ, ◌+◌, rules, tests}
use Rattle.long_names.specs.Heap.{count_of}
use Rattle.object_memory.specs.Counts.{count_in}
use Rattle.std.proofs.lemmas.Iterator.{items_from_collect}
use Rattle.std.proofs.lemmas.Iterator.Consumers.{YieldsList-from_rest, YieldsList-from_copied, YieldsList-from_filter, YieldsList-at}
use Rattle.std.proofs.lemmas.Result.{IfOk-weaker}
use Rattle.std.specs.BTreeMap.{keys}
use Rattle.std.specs.List.{filter}
use Rattle.std.specs.Result.{IfOk}
use Rattle.object_memory.specs.Plain.{heap_of}
use Rattle.object_memory.specs.Worklist.{IsFreeing}
use Rattle.object_memory.proofs.CountDownLaws.{is_dead, freeing-start}
use Rattle.object_memory.proofs.plain.kept.dead_names.Goals as goal

pub returns : goal.returns
returns c =
    let heap = c.args.heap.now in
    let counts = c.args.counts.now in
    let is : IfOk c.collect.result (λ dead. dead.items ≡ filter (is_dead counts) (keys heap.objects)) =
    items_from_collect _ c.collect.ensures.ran (YieldsList-from_filter _ (is_dead counts) (YieldsList-at c.filter.ensures.source (YieldsList-from_copied (YieldsList-at c.copied.ensures.source (YieldsList-from_rest (keys heap.objects) c.keys.ensures.rest)))) c.filter.ensures.closure (λ x b q k. search (rules, tests))) in
    IfOk-weaker c.collect.result (λ dead. dead.items ≡ filter (is_dead counts) (keys heap.objects)) (λ dead. (outside : ℕ → ℕ) → ((q : ℕ) → count_in counts q ≡ outside q + count_of (heap_of heap) q) → IsFreeing outside (heap_of heap) counts dead.items) (λ dead e outside exact. freeing-start outside heap counts dead.items exact e) is
