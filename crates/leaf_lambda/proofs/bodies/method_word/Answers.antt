use Rattle.std.proofs.Common.{ℕ, ◌-◌, ◌%◌, Some, sym, ◌∙◌, ap, arith}
use Rattle.std.specs.List.{slice_get}
use Rattle.object_record.specs.Buffer.{raw_of}
use Rattle.leaf_lambda.specs.Records.{unresolved}
use Rattle.leaf_lambda.proofs.RecordLaws.{method-words, raw-small}
use Rattle.leaf_lambda.proofs.bodies.method_word.Goals as goal

pub pair-requires-clause-len : goal.pair-requires-clause-len
pair-requires-clause-len c = (method-words (raw_of c.args.buf.now).body c.requires.method).len

pub pair-requires-clause-small : goal.pair-requires-clause-small
pair-requires-clause-small c = raw-small (raw_of c.args.buf.now).body c.requires.record.is.size

pub pair-requires-clause-within : goal.pair-requires-clause-within
pair-requires-clause-within c =
    let m = method-words (raw_of c.args.buf.now).body c.requires.method in
    omega (arith, m.size, c.requires.within, c.literals-literals.ensures, c.if-k-literals.false)

pub returns-then-k-eq0 : goal.returns-then-k-eq0
returns-then-k-eq0 c =
    let m = method-words (raw_of c.args.buf.now).body c.requires.method in
    ap (λ (k : ℕ). slice_get (unresolved (raw_of c.args.buf.now).body) k) c.if-k-eq0.true ∙ m.first ∙ ap (λ (h : ℕ). Some (h % 65536)) (sym c.header.ensures)

pub returns-then-k-literals : goal.returns-then-k-literals
returns-then-k-literals c =
    let m = method-words (raw_of c.args.buf.now).body c.requires.method in
    m.literal c.args.k (let not = c.if-k-eq0.false in omega arith) (let low = c.if-k-literals.true in omega (arith, c.literals-literals.ensures))

pub returns-else-k-literals : goal.returns-else-k-literals
returns-else-k-literals c =
    let m = method-words (raw_of c.args.buf.now).body c.requires.method in
    ap (λ (k : ℕ). slice_get (unresolved (raw_of c.args.buf.now).body) k) (let high = c.if-k-literals.false in omega (arith, c.literals-literals.ensures))
    ∙ m.code (c.args.k - 1 - c.literals-literals.result) ∙ c.pair.ensures
