use Rattle.std.proofs.Common.{refl}
use Rattle.file_system.specs.Calls.{emptied}
use Rattle.file_roles.specs.Open.{not_of}
use Rattle.file_roles.proofs.OpenLaws.{leaves-cut, leaves-same, leaves-then}
use Rattle.file_roles.proofs.files.clear.Goals as goal

pub returns-then-ne : goal.returns-then-ne
returns-then-ne g c told used = leaves-same (not_of _) _ _ refl

pub returns-in_err-cut : goal.returns-in_err-cut
returns-in_err-cut g c told used = leaves-cut c.args.used.now emptied _ _ c.cut.result used (c.cut.ensures.cut told) (c.cut.ensures.failed told)

pub returns : goal.returns
returns g c told used = let first = leaves-cut c.args.used.now emptied _ _ c.cut.result used (c.cut.ensures.cut told) (c.cut.ensures.failed told) in leaves-then (not_of _) _ _ _ first (c.settle.ensures told (first.puts.uses _ _ used))
