use Rattle.file_roles.specs.Open.{whatever}
use Rattle.file_host.proofs.HostLaws.{if-told, stands-over, told-over}
use Rattle.file_host.proofs.RoleLaws.{image-opened}
use Rattle.file_host.proofs.host.FileHost.attach_image.Goals as goal

pub invariant_of-self : goal.invariant_of-self
invariant_of-self g c = record { stands = λ told. image-opened _ _ _ _ _ _ _ _ (c.open_old.ensures.leaves told) (c.in-Ok.ensures.opened told) c.in-Ok.ensures.way (c.args.self.now.stands told) }

pub invariant_of-self-in-Err : goal.invariant_of-self-in-Err
invariant_of-self-in-Err g c = record { stands = λ told. stands-over _ _ _ _ _ whatever _ _ (λ s is. tt) (c.open_old.ensures.leaves told) (c.args.self.now.stands told) }

pub returns-in-Ok-clause-saved : goal.returns-in-Ok-clause-saved
returns-in-Ok-clause-saved g c = if-told g.S.System.tells _ _ _ _ (λ told. told-over _ _ _ (c.open_old.ensures.leaves told).puts)

pub returns-in-Err-clause-saved : goal.returns-in-Err-clause-saved
returns-in-Err-clause-saved g c = if-told g.S.System.tells _ _ _ _ (λ told. told-over _ _ _ (c.open_old.ensures.leaves told).puts)
