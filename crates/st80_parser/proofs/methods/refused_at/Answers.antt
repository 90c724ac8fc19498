use Rattle.std.proofs.Common.{arith}
use Rattle.st80_parser.proofs.RefusalLaws.{nothing_takes, place_of}
use Rattle.st80_parser.proofs.methods.refused_at.Goals as goal

pub returns : goal.returns
returns c = λ b e. (omega (arith, c.requires), place_of b c.args.tokens.now c.args.cursor.now.rest.now _ e (omega (arith, c.requires)), nothing_takes b c.args.tokens.now c.args.cursor.now.rest.now _ e (omega (arith, c.requires)))
