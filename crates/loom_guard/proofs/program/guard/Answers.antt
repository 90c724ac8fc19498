-- The vault is new, and nothing is kept in it yet.
use Rattle.std.proofs.Common.{None, refl}
use Rattle.loom_host.specs.declared.outside.Role.TheVariants.{Image, Events}
use Rattle.loom_words.specs.Command.{row_for}
use Rattle.loom_run.specs.Meanings.{meanings}
use Rattle.loom_run.proofs.EndsLaws.{heard-left, read-left}
use Rattle.loom_guard.specs.Vaults.{vault_meanings}
use Rattle.loom_guard.specs.Ways.{Guarding}
use Rattle.loom_guard.proofs.KeptLaws.{kept-early, kept-late, kept-refused}
use Rattle.loom_guard.proofs.program.guard.Goals as goal

pub returns-in-Err : goal.returns-in-Err
returns-in-Err g c = record {
  ends = kept-refused Guarding g.H.Host.tells g.V.Vault.tells (meanings g.H.Host c.args.host.now) (vault_meanings g.V.Vault c.args.vault.now) (row_for c.args.guarded.now.command) c.args.guarded.now.vault.now
      (vault_meanings g.V.Vault c.open_fresh.new.vault) c.in-Err.status c.open_fresh.ensures.opened c.open_fresh.ensures.later c.in-Err.ensures.refused c.in-Err.ensures.left;
}

pub returns-in-Err-read_all : goal.returns-in-Err-read_all
returns-in-Err-read_all g c = record {
  ends =
      let end = c.in-Err-read_all.ensures.ends in
      kept-early Guarding g.H.Host.tells g.V.Vault.tells (meanings g.H.Host c.args.host.now) (vault_meanings g.V.Vault c.args.vault.now) (row_for c.args.guarded.now.command) c.args.guarded.now.vault.now
      (meanings g.H.Host c.read_all.new.host) (vault_meanings g.V.Vault c.open_fresh.new.vault) c.in-Err-read_all.status None (λ e. refl) c.open_fresh.ensures.opened c.in_default.ensures.calm
      (λ told. record { from = refl; finds = c.in_default.ensures.found told; last = c.in_default.ensures.last told }) (λ e. absurd (cc)) (λ e. absurd (cc)) end (λ image at. end.reads.judges_image image at) (λ image work past. end.reads.right_image image work past);
}

pub returns-in-Ok : goal.returns-in-Ok
returns-in-Ok g c = record {
  ends =
      let host = g.H.Host in
      let before = meanings host c.args.host.now in
      let row = row_for c.args.guarded.now.command in
      let mid = meanings host c.read_all.new.host in
      let now = meanings host c.run_guarded.new.host in
      let read = c.in-Ok.read in
      let came = c.in-Ok.ensures.came in
      let others = c.run_guarded.ensures.others in
      let image = read-left host.tells before row mid now read.loaded.state _ (others.others Image (λ e. cc, (λ e. cc, (λ e. cc, (λ e. cc, tt))))).state came.read in
      kept-late Guarding host.tells g.V.Vault.tells before (vault_meanings g.V.Vault c.args.vault.now) row c.args.guarded.now.vault.now
      now (vault_meanings g.V.Vault c.open_fresh.new.vault) (vault_meanings g.V.Vault c.run_guarded.new.vault) c.run_guarded.result None read.loaded.state _ read.events (λ e. refl)
      c.open_fresh.ensures.opened c.in_default.ensures.calm c.run_guarded.ensures.vault_later (λ told. record { from = refl; finds = c.in_default.ensures.found told; last = c.in_default.ensures.last told }) (λ e. absurd (cc))
      image (heard-left host.tells before row mid now read.events (others.others Events (λ e. cc, (λ e. cc, (λ e. cc, (λ e. cc, tt))))).state came.heard)
      (λ told work. (image told).1 work) (c.run_guarded.ensures.ends host.tells (λ role told. told) before came.uses);
}
