use Rattle.std.proofs.Common.{false}
use Rattle.st80_parser.proofs.RefusalLaws.{is_tree}
use Rattle.st80_parser.proofs.methods.statements_in.Goals as goal

pub returns-clause-taken : goal.returns-clause-taken
returns-clause-taken c m fits written = is_tree false c.args.tokens.now c.tree_of.result c.tree_of.ensures m fits written
