use Rattle.long_names.specs.Objects.{IsObject}
use Rattle.object_memory.proofs.MapLaws.{lent}
use Rattle.object_memory.proofs.plain.objects.Objects.get.Goals as goal

pub returns-clause-object : goal.returns-clause-object
returns-clause-object c = lent IsObject _ _ c.get.ensures.value (c.args.self.now.stored.object c.args.name)
