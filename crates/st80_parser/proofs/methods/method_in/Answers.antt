use Rattle.std.proofs.Common.{true}
use Rattle.st80_parser.proofs.RefusalLaws.{is_tree}
use Rattle.st80_parser.proofs.methods.method_in.Goals as goal

pub returns-clause-taken : goal.returns-clause-taken
returns-clause-taken c m fits written = is_tree true c.args.tokens.now c.tree_of.result c.tree_of.ensures m fits written
