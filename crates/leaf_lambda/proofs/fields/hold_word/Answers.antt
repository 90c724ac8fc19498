use Rattle.std.proofs.Common.{sym, ◌∙◌, ap}
use Rattle.core_view.specs.Core.{Core}
use Rattle.leaf_lambda.specs.Parts.{core_of}
use Rattle.leaf_lambda.proofs.StepLaws.{none-comes}
use Rattle.leaf_lambda.proofs.TranslateLaws.{none-held, leaf-held-on, one-none}
use Rattle.leaf_lambda.proofs.fields.hold_word.Goals as goal

pub returns-then-is_name-clause-held : goal.returns-then-is_name-clause-held
returns-then-is_name-clause-held c = leaf-held-on (core_of c.args.p.now) (core_of c.args.p.now) (core_of c.grip.new.p) c.args.w (none-comes (core_of c.args.p.now)) c.grip.ensures.stays c.grip.ensures.step c.grip.ensures.outside c.grip.ensures.core (λ q off on. absurd (cc))

pub returns-else-is_name-clause-held : goal.returns-else-is_name-clause-held
returns-else-is_name-clause-held c = none-held (core_of c.args.p.now) c.args.w (λ t. one-none t c.args.w (sym c.is_name.ensures ∙ c.if-is_name.false))

pub returns-then-is_name-clause-find : goal.returns-then-is_name-clause-find
returns-then-is_name-clause-find c = ap (λ (d : Core). d.find) c.grip.ensures.core
