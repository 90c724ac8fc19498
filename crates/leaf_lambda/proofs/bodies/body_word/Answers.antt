use Rattle.std.proofs.Common.{ℕ, ◌<◌, List, length, Some, sym, ◌∙◌, ap, subst, arith}
use Rattle.std.proofs.lemmas.Option.{slice_get-get_or}
use Rattle.std.specs.List.{slice_get}
use Rattle.object_record.specs.Raw.{raw_bytes, raw_words}
use Rattle.object_record.specs.Buffer.{raw_of}
use Rattle.leaf_lambda.specs.Records.{packed}
use Rattle.leaf_lambda.proofs.RecordLaws.{length-packed, bytes-len, words-words, pointers-zero, raw-small}
use Rattle.leaf_lambda.proofs.bodies.body_word.Goals as goal

pub pair-requires-clause-len : goal.pair-requires-clause-len
pair-requires-clause-len c = (bytes-len (raw_of c.args.buf.now).body (sym c.in-Bytes.ensures)).0

pub pair-requires-clause-small : goal.pair-requires-clause-small
pair-requires-clause-small c = raw-small (raw_of c.args.buf.now).body c.requires.record.is.size

pub pair-requires-clause-within : goal.pair-requires-clause-within
pair-requires-clause-within c =
    let b = bytes-len (raw_of c.args.buf.now).body (sym c.in-Bytes.ensures) in
    let long = length-packed (raw_bytes (raw_of c.args.buf.now).body) in
    let low : c.args.k < length (packed (raw_bytes (raw_of c.args.buf.now).body)) = subst (λ (ws : List ℕ). c.args.k < length ws) b.1 c.requires.within in
    omega arith

pub word-requires-clause-word : goal.word-requires-clause-word
word-requires-clause-word c = subst (λ (ws : List ℕ). c.args.k < length ws) (words-words (raw_of c.args.buf.now).body (sym c.in-Words.ensures)) c.requires.within

pub returns-in-Pointers : goal.returns-in-Pointers
returns-in-Pointers c = pointers-zero (raw_of c.args.buf.now).body c.args.k (sym c.in-Pointers.ensures) c.requires.within

pub returns-in-Words : goal.returns-in-Words
returns-in-Words c =
    let same = words-words (raw_of c.args.buf.now).body (sym c.in-Words.ensures) in
    ap (λ (ws : List ℕ). slice_get ws c.args.k) same ∙ slice_get-get_or (raw_words (raw_of c.args.buf.now).body) c.args.k 0 (subst (λ (ws : List ℕ). c.args.k < length ws) same c.requires.within) ∙ ap Some (sym c.word.ensures)

pub returns-in-Bytes : goal.returns-in-Bytes
returns-in-Bytes c = ap (λ (ws : List ℕ). slice_get ws c.args.k) (bytes-len (raw_of c.args.buf.now).body (sym c.in-Bytes.ensures)).1 ∙ c.pair.ensures
