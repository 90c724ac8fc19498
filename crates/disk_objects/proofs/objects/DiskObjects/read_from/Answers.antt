use Rattle.std.proofs.Common.{ap, refl, subst, sym}
use Rattle.loom_host.specs.Outside.{CanRead, RoleState}
use Rattle.loom_host.specs.declared.outside.Role.TheVariants.{Work}
use Rattle.disk_objects.proofs.FunctionLaws.{same-disk}
use Rattle.disk_objects.proofs.objects.DiskObjects.read_from.Goals as goal

pub returns-clause-keeps : goal.returns-clause-keeps
returns-clause-keeps g c stands told =
    same-disk g.H.Host _ _ c.args.self.now.rest _ refl (ap (λ (s : RoleState). s.contents) (c.read_full.ensures.others Work (λ same. subst CanRead (sym same) c.requires))) stands
