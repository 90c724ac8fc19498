use Rattle.std.proofs.Common.{ℤ, ◌≡◌, ◌+◌, ◌*◌, sym, ◌∙◌, ap, arith}
use Rattle.long_names.specs.Words.{literal_count}
use Rattle.loom_memory.specs.Bodies.{code_start}
use Rattle.core_segment.specs.Segment.{chunk_at}
use Rattle.leaf_lambda.proofs.MergeLaws.{header-first}
use Rattle.loom_memory.proofs.BodyLaws.{code-past, code-found}
use Rattle.loom_memory.proofs.bodies.code_byte.Goals as goal

pub word-requires : goal.word-requires
word-requires c = let long = c.requires.long in omega arith

pub returns-then-place-first-2 : goal.returns-then-place-first-2
returns-then-place-first-2 c =
    let start : c.code_first-first.result ≡ code_start (chunk_at c.args.g.now c.args.at.place).words = c.code_first-first.ensures ∙ ap (λ (z : ℤ). 2 * (literal_count z + 1)) (sym (header-first (chunk_at c.args.g.now c.args.at.place).words c.word.result c.word.ensures)) in
    let low = c.if-place-first.false in
    let within = c.if-place-first-2.true in
    sym (code-found (chunk_at c.args.g.now c.args.at.place).words c.args.len c.args.place c.byte_from.result (omega arith) (omega arith) c.byte_from.ensures)

pub returns : goal.returns
returns c =
    let start : c.code_first-first.result ≡ code_start (chunk_at c.args.g.now c.args.at.place).words = c.code_first-first.ensures ∙ ap (λ (z : ℤ). 2 * (literal_count z + 1)) (sym (header-first (chunk_at c.args.g.now c.args.at.place).words c.word.result c.word.ensures)) in
    let low = c.if-place-first.false in
    let past = c.if-place-first-2.false in
    sym (code-past (chunk_at c.args.g.now c.args.at.place).words c.args.len c.args.place c.requires.long (omega arith) (omega arith))
