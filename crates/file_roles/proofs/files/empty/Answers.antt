use Rattle.std.proofs.Common.{sym}
use Rattle.file_roles.specs.Open.{is_of, not_of}
use Rattle.file_roles.proofs.OpenLaws.{leaves-safer}
use Rattle.file_roles.proofs.files.empty.Goals as goal

pub returns-clause-leaves : goal.returns-clause-leaves
returns-clause-leaves g c told used = leaves-safer (not_of c.args.used.now.found.file) (is_of c.args.beside.now.saving) _ _ (λ d file is same. c.may_have.ensures.saving c.if-not-may_have.false file is (sym same)) (c.clear.ensures told used)
