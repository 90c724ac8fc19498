use Rattle.std.proofs.Common.{arith}
use Rattle.disk_objects.proofs.KeyLaws.{disk-len}
use Rattle.disk_objects.proofs.FoundLaws.{record-there}
use Rattle.disk_objects.proofs.PutLaws.{held-most}
use Rattle.disk_objects.proofs.laws.objects_are_records.Goals as goal

pub returns-clause-count : goal.returns-clause-count
returns-clause-count c = λ rest work objects pending k.
    let len = disk-len rest work objects pending k in
    let most = held-most rest.directory in
    (len, omega (arith, len, most))

pub returns-clause-records : goal.returns-clause-records
returns-clause-records c = λ rest work objects pending k name o is. record-there rest work objects pending k name o is
