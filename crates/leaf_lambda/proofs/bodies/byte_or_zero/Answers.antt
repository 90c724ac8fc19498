use Rattle.std.proofs.Common.{sym, arith}
use Rattle.std.proofs.Math.ListN.{get_or-eq_default}
use Rattle.object_record.specs.Raw.{raw_bytes}
use Rattle.object_record.specs.Buffer.{raw_of}
use Rattle.leaf_lambda.proofs.bodies.byte_or_zero.Goals as goal

pub returns-else-i-len-clause-byte : goal.returns-else-i-len-clause-byte
returns-else-i-len-clause-byte c = sym (get_or-eq_default (raw_bytes (raw_of c.args.buf.now).body) 0 {n = c.args.i} (let far = c.if-i-len.false in omega (arith, c.len.ensures, c.requires.len)))
