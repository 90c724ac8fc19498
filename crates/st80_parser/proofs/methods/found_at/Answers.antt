use Rattle.std.proofs.Common.{sym, ◌∙◌}
use Rattle.st80_parser.proofs.RefusalLaws.{all_taken, left_over}
use Rattle.st80_parser.proofs.methods.found_at.Goals as goal

pub returns-then-is_done : goal.returns-then-is_done
returns-then-is_done c = λ b is e. all_taken b c.args.tokens.now c.args.cursor.now.rest.now c.args.method is e (sym c.is_done.ensures ∙ c.if-is_done.true)

pub returns-else-is_done : goal.returns-else-is_done
returns-else-is_done c = λ b is e. c.refused_at.ensures b (left_over b c.args.tokens.now c.args.cursor.now.rest.now e (sym c.is_done.ensures ∙ c.if-is_done.false))
