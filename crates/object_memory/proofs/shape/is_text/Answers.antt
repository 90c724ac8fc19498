use Rattle.object_memory.proofs.ShapeLaws.{tests_text}
use Rattle.object_memory.proofs.shape.is_text.Goals as goal

pub returns-clause-text : goal.returns-clause-text
returns-clause-text g c = tests_text _ _ c.args.of _ _ c.in_ok-kind.ensures.kind c.is_kind.ensures
