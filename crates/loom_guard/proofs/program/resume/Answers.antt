-- The vault holds what it held, and its checkpoint's image is what was read.
use Rattle.std.proofs.Common.{ℕ, List, Some, IsTrue, sym, subst}
use Rattle.loom_host.specs.declared.outside.Role.TheVariants.{Image, Events, Work}
use Rattle.checkpoint.specs.Layout.{image_in}
use Rattle.image_front.specs.Front.{TellsOf}
use Rattle.image_reader.specs.Loaded.{heap_on}
use Rattle.loom_words.specs.Command.{row_for}
use Rattle.loom_run.specs.Meanings.{meanings}
use Rattle.loom_run.proofs.EndsLaws.{heard-left}
use Rattle.loom_run.proofs.UsesLaws.{left-then, never}
use Rattle.loom_guard.specs.Vaults.{vault_meanings}
use Rattle.loom_guard.specs.Ways.{Resuming, imageless}
use Rattle.loom_guard.proofs.KeptLaws.{kept-early, kept-late, kept-refused}
use Rattle.loom_guard.proofs.TellingLaws.{judged-whole, read-whole, right-whole}
use Rattle.loom_guard.proofs.WayLaws.{told-imageless}
use Rattle.loom_guard.proofs.program.resume.Goals as goal

pub returns : goal.returns
returns g c = record {
  ends = kept-refused Resuming g.H.Host.tells g.V.Vault.tells (meanings g.H.Host c.args.host.now) (vault_meanings g.V.Vault c.args.vault.now) (row_for c.args.guarded.now.command) c.args.guarded.now.vault.now
      (vault_meanings g.V.Vault c.open_kept.new.vault) c.in-Err.status c.open_kept.ensures.opened c.open_kept.ensures.later c.in-Err.ensures.refused c.in-Err.ensures.left;
}

pub returns-in-Ok : goal.returns-in-Ok
returns-in-Ok g c = record {
  ends =
      let tells = g.H.Host.tells in
      let row = row_for c.args.guarded.now.command in
      let point = c.in-Ok.point in
      let status = c.in-Err-read_kept.status in
      let kept = c.in-Ok.ensures in
      let end = rw c.bytes.ensures at c.in-Err-read_kept.ensures.ends in
      let whole = λ (told : IsTrue g.V.Vault.tells). subst (λ (l : List ℕ). TellsOf row.room c.in-Ok.image (image_in l point)) (sym (kept.found told).same) (kept.image told) in
      kept-early Resuming tells g.V.Vault.tells (meanings g.H.Host c.args.host.now) (vault_meanings g.V.Vault c.args.vault.now) row c.args.guarded.now.vault.now
      (meanings g.H.Host c.read_kept.new.host) (vault_meanings g.V.Vault c.open_kept.new.vault) status (Some point) (λ e. absurd (cc)) c.open_kept.ensures.opened kept.calm
      (λ told. record { from = kept.from told; finds = kept.found told; last = kept.last told }) (λ e. c.read_kept.ensures.imageless) (λ e. end.never) end.ends
      (λ told at. judged-whole (tells Work) row.room _ _ status (whole told) (end.judges at)) (λ told work past. right-whole row.room _ _ (whole told) (end.right work past));
}

pub returns-in-Ok-read_kept : goal.returns-in-Ok-read_kept
returns-in-Ok-read_kept g c = record {
  ends =
      let host = g.H.Host in
      let before = meanings host c.args.host.now in
      let row = row_for c.args.guarded.now.command in
      let mid = meanings host c.read_kept.new.host in
      let now = meanings host c.run_guarded.new.host in
      let point = c.in-Ok.point in
      let read = c.in-Ok-read_kept.read in
      let came = c.in-Ok-read_kept.ensures.came in
      let others = c.run_guarded.ensures.others in
      let kept = c.in-Ok.ensures in
      let is = rw c.bytes.ensures at c.in-Ok-read_kept.ensures.read in
      let whole = λ (told : IsTrue g.V.Vault.tells). subst (λ (l : List ℕ). TellsOf row.room c.in-Ok.image (image_in l point)) (sym (kept.found told).same) (kept.image told) in
      kept-late Resuming host.tells g.V.Vault.tells before (vault_meanings g.V.Vault c.args.vault.now) row c.args.guarded.now.vault.now
      now (vault_meanings g.V.Vault c.open_kept.new.vault) (vault_meanings g.V.Vault c.run_guarded.new.vault) c.run_guarded.result (Some point) read.loaded.state _ read.events (λ e. absurd (cc))
      c.open_kept.ensures.opened kept.calm c.run_guarded.ensures.vault_later (λ told. record { from = kept.from told; finds = kept.found told; last = kept.last told })
      (λ e. left-then Image before mid now c.read_kept.ensures.imageless (others.others Image (λ e. cc, (λ e. cc, (λ e. cc, (λ e. cc, tt)))))) (λ image. never image) (heard-left (imageless host.tells) before row mid now read.events (others.others Events (λ e. cc, (λ e. cc, (λ e. cc, (λ e. cc, tt))))).state came.heard)
      (λ told work. read-whole row.room _ _ read.loaded.state (heap_on host c.read_kept.new.host read.rest read.loaded.next) (whole told) (is work)) (c.run_guarded.ensures.ends (imageless host.tells) (told-imageless host.tells) before came.uses);
}
