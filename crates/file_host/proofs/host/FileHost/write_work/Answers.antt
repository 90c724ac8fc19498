use Rattle.file_host.proofs.HostLaws.{if-told, told-over}
use Rattle.file_host.proofs.RoleLaws.{work-written}
use Rattle.file_host.proofs.host.FileHost.write_work.Goals as goal

pub invariant_of-self : goal.invariant_of-self
invariant_of-self g c = record { stands = c.args.self.now.stands }

pub invariant_of-self-in-Ok : goal.invariant_of-self-in-Ok
invariant_of-self-in-Ok g c = record { stands = λ told. let st = c.args.self.now.stands told in let is = st.open_files.work _ c.in-Some.is in work-written _ _ _ _ _ _ _ _ c.in-Some.is (c.write_whole.ensures told is.way is.used) st }

pub invariant_of-self-in-Err : goal.invariant_of-self-in-Err
invariant_of-self-in-Err g c = record { stands = λ told. let st = c.args.self.now.stands told in let is = st.open_files.work _ c.in-Some.is in work-written _ _ _ _ _ _ _ _ c.in-Some.is (c.write_whole.ensures told is.way is.used) st }

pub returns-in-Ok-clause-saved : goal.returns-in-Ok-clause-saved
returns-in-Ok-clause-saved g c = if-told g.S.System.tells _ _ _ _ (λ told. let is = (c.args.self.now.stands told).open_files.work _ c.in-Some.is in told-over _ _ _ (c.write_whole.ensures told is.way is.used).puts)

pub returns-in-Err-clause-saved : goal.returns-in-Err-clause-saved
returns-in-Err-clause-saved g c = if-told g.S.System.tells _ _ _ _ (λ told. let is = (c.args.self.now.stands told).open_files.work _ c.in-Some.is in told-over _ _ _ (c.write_whole.ensures told is.way is.used).puts)
