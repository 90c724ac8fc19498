use Rattle.std.proofs.Common.{ℕ, ◌+◌, ◌/◌, length, sym, ◌∙◌, ap, arith}
use Rattle.object_record.specs.Raw.{raw_bytes}
use Rattle.object_record.specs.Buffer.{raw_of}
use Rattle.leaf_lambda.proofs.RecordLaws.{length-packed, bytes-len, pointers-len, words-len, method-words}
use Rattle.leaf_lambda.proofs.bodies.words_of.Goals as goal

pub returns-in-Bytes-clause-words : goal.returns-in-Bytes-clause-words
returns-in-Bytes-clause-words c =
    let b = bytes-len (raw_of c.args.buf.now).body (sym c.in-Bytes.ensures) in
    let long = length-packed (raw_bytes (raw_of c.args.buf.now).body) in
    ap (λ (n : ℕ). (n + 1) / 2) (c.len-len.ensures ∙ b.0) ∙ sym long ∙ ap length (sym b.1)

pub returns-in-Method-clause-words : goal.returns-in-Method-clause-words
returns-in-Method-clause-words c =
    let m = method-words (raw_of c.args.buf.now).body (sym c.in-Method.ensures) in
    omega (arith, m.size, m.len, c.len-len.ensures, c.literals.ensures)

pub returns-in-Pointers-clause-words : goal.returns-in-Pointers-clause-words
returns-in-Pointers-clause-words c = c.len-len.ensures ∙ sym (pointers-len (raw_of c.args.buf.now).body (sym c.in-Pointers.ensures))

pub returns-in-Words-clause-words : goal.returns-in-Words-clause-words
returns-in-Words-clause-words c = c.len-len.ensures ∙ sym (words-len (raw_of c.args.buf.now).body (sym c.in-Words.ensures))
