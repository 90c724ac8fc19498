use Rattle.std.proofs.Common.{[]}
use Rattle.loom_host.specs.declared.outside.Role.TheVariants.{Work}
use Rattle.image_reader.specs.Loaded.{heap_on}
use Rattle.machine_run.specs.States.{model_state}
use Rattle.checkpoint.specs.Keeping.{serial_of}
use Rattle.checkpoint.proofs.HistoryLaws.{keeps-gives}
use Rattle.guarded_run.specs.Course.{guarded_course}
use Rattle.guarded_run.specs.Legs.{guarded_first}
use Rattle.loom_words.specs.Command.{row_for}
use Rattle.loom_run.specs.Meanings.{meanings}
use Rattle.loom_guard.specs.Vaults.{vault_meanings}
use Rattle.loom_guard.proofs.GuardedLaws.{came-since, late-ended, leaves-later, leaves-legs, legs-stopped, used-finishing}
use Rattle.loom_guard.proofs.program.run_guarded.Goals as goal

pub returns-in-Ok : goal.returns-in-Ok
returns-in-Ok g c = record {
  ends = λ tells sub before used.
      let host = g.H.Host in
      let mid = meanings host c.args.host.now in
      let far = meanings host c.run_legs.new.host in
      let row = row_for c.args.command.now in
      let read = c.args.read in
      let first = serial_of c.args.last in
      let state = model_state read.loaded.state in
      let heap = heap_on host c.args.host.now read.rest read.loaded.next in
      let g0 = guarded_first first [] state heap in
      let run = guarded_course read.events row.steps first state heap in
      let through = c.in-Ok.ensures.through in
      let legs = c.in-Ok.ensures.legs in
      late-ended tells g.V.Vault.tells before (meanings host c.write_kept.new.host) (vault_meanings g.V.Vault c.args.vault.now) (vault_meanings g.V.Vault c.run_legs.new.vault) row read.events g0 run legs.0 c.write_kept.result c.in-Ok.ensures.calm
      (c.write_kept.ensures.ends tells sub before through.0 run (used-finishing host.tells tells sub before mid far row used c.run_legs.ensures.file c.run_legs.ensures.others)
      (λ work. (through.1 (sub Work work), came-since host.tells tells sub before mid far row used c.run_legs.ensures.file c.run_legs.ensures.others c.in-Ok.ended.finished through.0 run (through.2 (sub Work work)))))
      (λ told. legs.2.has told) (λ work. legs.2.serial (sub Work work)) (λ told. keeps-gives _ _ legs.0 _ _ (λ serial kept x work. x (sub Work work)) (legs.1 told));
  others = leaves-later (meanings g.H.Host c.args.host.now) (meanings g.H.Host c.run_legs.new.host) (meanings g.H.Host c.write_kept.new.host) c.run_legs.ensures.others c.write_kept.ensures.others;
  vault_later = c.run_legs.ensures.vault_later;
}

pub returns : goal.returns
returns g c = record {
  ends = λ tells sub before used.
      let host = g.H.Host in
      let mid = meanings host c.args.host.now in
      let far = meanings host c.run_legs.new.host in
      let row = row_for c.args.command.now in
      let read = c.args.read in
      let first = serial_of c.args.last in
      let state = model_state read.loaded.state in
      let heap = heap_on host c.args.host.now read.rest read.loaded.next in
      let g0 = guarded_first first [] state heap in
      let run = guarded_course read.events row.steps first state heap in
      let legs = c.in-Err.ensures.legs in
      legs-stopped host.tells tells sub before mid far row used c.run_legs.ensures.file c.run_legs.ensures.others g.V.Vault.tells (vault_meanings g.V.Vault c.args.vault.now) (vault_meanings g.V.Vault c.run_legs.new.vault) read.events g0 run legs.0 c.in-Err.status
      legs.3.1 legs.3.0 (λ told. keeps-gives _ _ legs.0 _ _ (λ serial kept x work. x (sub Work work)) (legs.1 told));
  others = leaves-legs (meanings g.H.Host c.args.host.now) (meanings g.H.Host c.run_legs.new.host) c.run_legs.ensures.others;
  vault_later = c.run_legs.ensures.vault_later;
}
