use Rattle.std.proofs.Common.{refl}
use Rattle.file_host.proofs.RoleLaws.{roles-new, stands-new}
use Rattle.file_host.proofs.host.FileHost.new.Goals as goal

pub invariant_of-result : goal.invariant_of-result
invariant_of-result g c = record { stands = λ told. stands-new _ _ _ _ _ c.none.ensures.descriptor refl refl refl refl (record { way = refl; used = c.requires.output told }) (record { way = refl; used = c.requires.errors told }) }

pub returns-clause-roles : goal.returns-clause-roles
returns-clause-roles g c r = roles-new g.S.System.tells _ _ c.none.ensures.attaches c.none.ensures.name c.none.ensures.descriptor c.none.ensures.ended r
