use Rattle.std.proofs.Common.{◌≡◌, ◌+◌, ◌*◌, length}
use Rattle.long_names.specs.Heap.{object_count}
use Rattle.long_names.specs.Kept.{kept}
use Rattle.object_memory.specs.Counts.{count_in}
use Rattle.object_memory.specs.Plain.{heap_of}
use Rattle.object_memory.specs.Worklist.{IsFreeing}
use Rattle.object_memory.proofs.CountDownLaws.{roots_by}
use Rattle.object_memory.proofs.plain.kept.keep.Given as goal

-- what is kept stays, and the list has what may go
abbrev pub invariant-loop-name : goal.invariant-loop-name
invariant-loop-name l = record {
  kept : kept (heap_of l.heap) (roots_by (count_in l.fn.counts)) ≡ kept (heap_of l.fn.heap) (roots_by (count_in l.fn.counts));
  freeing : IsFreeing (count_in l.fn.counts) (heap_of l.heap) l.counts l.dead.items;
}

-- an object that goes puts fewer than 65,537 names on the list
abbrev pub decreases-loop-name : goal.decreases-loop-name
decreases-loop-name l = 65537 * object_count (heap_of l.heap) + length l.dead.items
