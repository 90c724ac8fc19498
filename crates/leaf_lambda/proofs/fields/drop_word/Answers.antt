use Rattle.std.proofs.Common.{sym, ◌∙◌}
use Rattle.leaf_lambda.specs.Parts.{core_of}
use Rattle.leaf_lambda.proofs.TranslateLaws.{none-dropped, let-dropped, one-none}
use Rattle.leaf_lambda.proofs.fields.drop_word.Goals as goal

pub returns-then-is_name-clause-dropped : goal.returns-then-is_name-clause-dropped
returns-then-is_name-clause-dropped c = let-dropped (core_of c.args.p.now) (core_of c.let_go.new.p) c.args.w c.let_go.ensures.stays c.let_go.ensures.step c.let_go.ensures.outside c.let_go.ensures.core

pub returns-else-is_name-clause-dropped : goal.returns-else-is_name-clause-dropped
returns-else-is_name-clause-dropped c = none-dropped (core_of c.args.p.now) c.args.w (λ t. one-none t c.args.w (sym c.is_name.ensures ∙ c.if-is_name.false))
