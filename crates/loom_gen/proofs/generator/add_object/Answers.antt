use Rattle.std.proofs.Common.{sym, ◌∙◌}
use Rattle.loom_gen.proofs.BuildLaws.{object-fits}
use Rattle.loom_gen.proofs.generator.add_object.Goals as goal

pub add-requires : goal.add-requires
add-requires c = object-fits c.args.number c.args.name c.in-Some.object c.requires.number (sym c.in-Some.is ∙ c.in_ok-object.ensures)
