use Rattle.std.proofs.Common.{suc, ◌≡◌, ℕ, ◌+◌, ◌*◌, List, get_or, Some, sym, ◌∙◌, ap, arith}
use Rattle.object_record.specs.Raw.{raw_bytes}
use Rattle.object_record.specs.Buffer.{raw_of}
use Rattle.leaf_lambda.proofs.RecordLaws.{packed-get}
use Rattle.leaf_lambda.proofs.bodies.pair.Goals as goal

twice : (bs : List ℕ) (k : ℕ) → 256 * get_or bs (k + k) 0 + get_or bs (suc (k + k)) 0 ≡ 256 * get_or bs (2 * k) 0 + get_or bs (2 * k + 1) 0
twice bs k = ap (λ (j : ℕ). 256 * get_or bs j 0 + get_or bs (suc (k + k)) 0) (omega arith) ∙ ap (λ (j : ℕ). 256 * get_or bs (2 * k) 0 + get_or bs j 0) (omega arith)

pub returns : goal.returns
returns c =
    packed-get (raw_bytes (raw_of c.args.buf.now).body) c.args.k (omega (arith, c.requires.within))
    ∙ ap Some (twice (raw_bytes (raw_of c.args.buf.now).body) c.args.k ∙ ap (λ (x : ℕ). 256 * x + get_or (raw_bytes (raw_of c.args.buf.now).body) (2 * c.args.k + 1) 0) (sym c.byte_or_zero.ensures.byte) ∙ ap (λ (x : ℕ). 256 * c.byte_or_zero.result + x) (sym c.byte_or_zero-2.ensures.byte))
