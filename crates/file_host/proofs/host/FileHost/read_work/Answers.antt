use Rattle.file_host.proofs.HostLaws.{if-told}
use Rattle.std.proofs.Common.{ap}
use Rattle.file_system.specs.World.{Moments}
use Rattle.file_host.specs.Told.{saved_state}
use Rattle.file_host.proofs.RoleLaws.{stands-moved}
use Rattle.file_host.proofs.host.FileHost.read_work.Goals as goal

pub invariant_of-self : goal.invariant_of-self
invariant_of-self g c = record { stands = c.args.self.now.stands }

pub invariant_of-self-in-Ok : goal.invariant_of-self-in-Ok
invariant_of-self-in-Ok g c = record { stands = λ told. stands-moved _ _ _ _ _ _ _ (c.read_whole.ensures told) (c.args.self.now.stands told) }

pub invariant_of-self-in-Err : goal.invariant_of-self-in-Err
invariant_of-self-in-Err g c = record { stands = λ told. stands-moved _ _ _ _ _ _ _ (c.read_whole.ensures told) (c.args.self.now.stands told) }

pub returns-in-Ok-clause-saved : goal.returns-in-Ok-clause-saved
returns-in-Ok-clause-saved g c = if-told g.S.System.tells _ _ _ _ (λ told. ap (λ (m : Moments). saved_state c.args.self.now.told m.now) (c.read_whole.ensures told))

pub returns-in-Err-clause-saved : goal.returns-in-Err-clause-saved
returns-in-Err-clause-saved g c = if-told g.S.System.tells _ _ _ _ (λ told. ap (λ (m : Moments). saved_state c.args.self.now.told m.now) (c.read_whole.ensures told))
