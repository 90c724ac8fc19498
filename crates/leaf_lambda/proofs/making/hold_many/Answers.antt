use Rattle.std.proofs.Common.{sym, ◌∙◌}
use Rattle.leaf_lambda.specs.Parts.{core_of}
use Rattle.leaf_lambda.proofs.MakeLaws.{many-held, many-none}
use Rattle.leaf_lambda.proofs.making.hold_many.Goals as goal

pub returns-then-is_name-clause-held : goal.returns-then-is_name-clause-held
returns-then-is_name-clause-held c = many-held (core_of c.args.p.now) (core_of c.grip_many.new.p) c.args.w c.args.n c.requires.parts.core (c.requires.used (sym c.is_name.ensures ∙ c.if-is_name.true)) c.grip_many.ensures.core

pub returns-else-is_name-clause-held : goal.returns-else-is_name-clause-held
returns-else-is_name-clause-held c = many-none (core_of c.args.p.now) c.args.w c.args.n (sym c.is_name.ensures ∙ c.if-is_name.false)
