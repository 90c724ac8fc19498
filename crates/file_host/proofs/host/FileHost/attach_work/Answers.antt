use Rattle.file_roles.specs.Open.{is_of}
use Rattle.file_host.proofs.HostLaws.{if-told}
use Rattle.file_host.proofs.RoleLaws.{still-beside, told-beside, work-opened}
use Rattle.std.proofs.Common.{ap}
use Rattle.file_system.specs.World.{Moments}
use Rattle.file_host.specs.Told.{saved_state}
use Rattle.file_host.proofs.RoleLaws.{stands-moved}
use Rattle.file_host.proofs.host.FileHost.attach_work.Goals as goal

pub invariant_of-self : goal.invariant_of-self
invariant_of-self g c = record { stands = λ told. stands-moved _ _ _ _ _ _ _ (c.in_default.ensures.still told) (c.args.self.now.stands told) }

pub invariant_of-self-in-Ok-attach : goal.invariant_of-self-in-Ok-attach
invariant_of-self-in-Ok-attach g c = record { stands = λ told. work-opened _ _ _ _ _ _ _ _ _ _ (c.in-Ok.ensures.still told) c.in-Ok.ensures.saving (c.attach.ensures.leaves told) (c.in-Ok-attach.ensures.opened told) c.in-Ok-attach.ensures.way c.in-Ok-attach.ensures.apart (c.args.self.now.stands told) }

pub invariant_of-self-in-Err : goal.invariant_of-self-in-Err
invariant_of-self-in-Err g c = record { stands = λ told. still-beside _ _ _ _ _ _ _ _ _ (c.in-Ok.ensures.still told) c.in-Ok.ensures.saving (c.attach.ensures.leaves told) (c.args.self.now.stands told) }

pub returns-in_default-clause-saved : goal.returns-in_default-clause-saved
returns-in_default-clause-saved g c = if-told g.S.System.tells _ _ _ _ (λ told. ap (λ (m : Moments). saved_state c.args.self.now.told m.now) (c.in_default.ensures.still told))

pub returns-in-Ok-attach-clause-saved : goal.returns-in-Ok-attach-clause-saved
returns-in-Ok-attach-clause-saved g c = if-told g.S.System.tells _ _ _ _ (λ told. told-beside _ (is_of c.in-Ok.beside.saving) _ _ _ (c.in-Ok.ensures.still told) (c.attach.ensures.leaves told))

pub returns-in-Err-clause-saved : goal.returns-in-Err-clause-saved
returns-in-Err-clause-saved g c = if-told g.S.System.tells _ _ _ _ (λ told. told-beside _ (is_of c.in-Ok.beside.saving) _ _ _ (c.in-Ok.ensures.still told) (c.attach.ensures.leaves told))
