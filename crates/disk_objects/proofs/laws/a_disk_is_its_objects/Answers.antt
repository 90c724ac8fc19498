use Rattle.disk_objects.proofs.FunctionLaws.{disk-is, counts-is}
use Rattle.disk_objects.proofs.laws.a_disk_is_its_objects.Goals as goal

pub returns-clause-objects : goal.returns-clause-objects
returns-clause-objects c = disk-is

pub returns-clause-counts : goal.returns-clause-counts
returns-clause-counts c = counts-is
