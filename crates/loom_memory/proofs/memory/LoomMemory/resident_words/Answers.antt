use Rattle.std.proofs.Common.{refl, arith}
use Rattle.core_segment.specs.Segment.{chunk_at, chunks_of, free_of, size_of}
use Rattle.leaf_lambda.specs.Parts.{core_of}
use Rattle.loom_memory.specs.Memory.{loom_told}
use Rattle.loom_memory.specs.Residents.{words_resident}
use Rattle.loom_memory.proofs.ResidentLaws.{words-all}
use Rattle.loom_memory.proofs.memory.LoomMemory.resident_words.Goals as goal

pub overflow_sub-result : goal.overflow_sub-result
overflow_sub-result g c =
    let all = c.chunks_never_overlap.ensures.all in
    let size = c.requires.kept.size in
    let free = c.free_words-free.ensures in
    omega (arith, all, size, free)

pub returns-clause-sum : goal.returns-clause-sum
unfolding core_of chunk_at words_resident
returns-clause-sum g c =
    let m = c.args.self.now in
    let all = words-all (core_of m.pager.levels.parts) (chunks_of m.pager.levels.parts.segment) (free_of m.pager.levels.parts.segment) (size_of m.pager.levels.parts.segment) c.args.self.now.pager.levels.whole.parts.core c.args.self.now.pager.levels.whole.tight refl c.chunks_never_overlap.ensures in
    let size = c.requires.kept.size in
    let free = c.free_words-free.ensures in
    omega (arith, all, size, free)

pub returns-clause-most : goal.returns-clause-most
unfolding loom_told
returns-clause-most g c = omega arith
