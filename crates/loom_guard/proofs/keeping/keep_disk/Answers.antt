-- What a start loads is read first. Reading leaves the disk as it was.
use Rattle.std.proofs.Common.{◌+◌, refl, sym, subst}
use Rattle.loom_host.specs.declared.outside.Role.TheVariants.{Work}
use Rattle.checkpoint.specs.Keeping.{serial_of}
use Rattle.checkpoint.specs.declared.fault.VaultFault.TheVariants as fault
use Rattle.checkpoint.proofs.MomentLaws.{extends-still}
use Rattle.image_writer.proofs.DiskFacts.{still_holds}
use Rattle.loom_run.specs.Meanings.{meanings}
use Rattle.loom_words.specs.declared.status.Status.{Status}
use Rattle.loom_guard.specs.Turns.{IsKeepRefusal, LeavesChecked, status_by_vault}
use Rattle.loom_guard.proofs.KeepingLaws.{exact-read, keep-refused, keep-since, later-read, read-then, refused-left, stops-read, unkept-left, unkept-stops}
use Rattle.loom_guard.proofs.keeping.keep_disk.Goals as goal

pub keep-requires-clause-stands : goal.keep-requires-clause-stands
keep-requires-clause-stands g c =
    still_holds g.H.Host c.args.disk.now.host.now c.kept_state.new.disk.host.now c.args.disk.now.rest c.kept_state.new.disk.rest (c.kept_state.ensures.read.roles Work) c.kept_state.ensures.rest c.requires.stands

pub keep-requires-clause-exact : goal.keep-requires-clause-exact
keep-requires-clause-exact g c = λ work.
    exact-read g.H.Host c.args.disk.now.host.now c.kept_state.new.disk.host.now c.args.disk.now.rest c.kept_state.new.disk.rest c.args.next (c.kept_state.ensures.read.roles Work) c.kept_state.ensures.rest (c.requires.exact work)

-- ---- it couldn't be read

pub returns-in-Err-clause-stops : goal.returns-in-Err-clause-stops
returns-in-Err-clause-stops g c = λ told. unkept-stops (g.V.Vault.state c.args.vault.now) c.args.last (serial_of c.args.last + 1) _ (c.requires.last told)

pub returns-in-Err-clause-left : goal.returns-in-Err-clause-left
returns-in-Err-clause-left g c = λ told. unkept-left (g.V.Vault.state c.args.vault.now) c.args.last c.status_of_vault.result (c.requires.last told)

pub returns-in-Err-clause-extends : goal.returns-in-Err-clause-extends
returns-in-Err-clause-extends g c = λ told. extends-still _ _ refl

pub returns-in-Err-clause-refused : goal.returns-in-Err-clause-refused
returns-in-Err-clause-refused g c =
    let host = g.H.Host in
    let old = c.args.disk.now.host.now in
    let now = c.kept_state.new.disk.host.now in
    let faults = g.V.Vault.faults c.args.vault.now in
    subst (λ (s : Status). IsKeepRefusal host.tells (meanings host old) (meanings host now) faults faults s) (sym c.status_of_vault.ensures) (keep-refused host old now faults faults (fault.Disk c.in-Err.fault) (refl, c.in-Err.ensures.fault))

-- ---- it was kept, or not

pub returns-in-Ok-keep-clause-stops : goal.returns-in-Ok-keep-clause-stops
returns-in-Ok-keep-clause-stops g c = λ told.
    stops-read g.H.Host c.args.disk.now.host.now c.kept_state.new.disk.host.now c.args.disk.now.rest c.kept_state.new.disk.rest c.args.next (c.kept_state.ensures.read.roles Work) c.kept_state.ensures.rest c.args.state.now (serial_of c.args.last + 1)
    (g.V.Vault.state c.args.vault.now) (g.V.Vault.state c.keep.new.vault) (c.keep.ensures.stops told)

pub returns-in-Err-keep-clause-stops : goal.returns-in-Err-keep-clause-stops
returns-in-Err-keep-clause-stops g c = λ told.
    stops-read g.H.Host c.args.disk.now.host.now c.kept_state.new.disk.host.now c.args.disk.now.rest c.kept_state.new.disk.rest c.args.next (c.kept_state.ensures.read.roles Work) c.kept_state.ensures.rest c.args.state.now (serial_of c.args.last + 1)
    (g.V.Vault.state c.args.vault.now) (g.V.Vault.state c.keep.new.vault) (c.keep.ensures.stops told)

pub returns-in-Ok-keep-clause-read : goal.returns-in-Ok-keep-clause-read
returns-in-Ok-keep-clause-read g c = read-then g.H.Host c.args.disk.now.host.now c.kept_state.new.disk.host.now c.keep.new.disk.host.now c.kept_state.ensures.read c.keep.ensures.read

pub returns-in-Err-keep-clause-read : goal.returns-in-Err-keep-clause-read
returns-in-Err-keep-clause-read g c = read-then g.H.Host c.args.disk.now.host.now c.kept_state.new.disk.host.now c.keep.new.disk.host.now c.kept_state.ensures.read c.keep.ensures.read

pub returns-in-Err-keep-clause-left : goal.returns-in-Err-keep-clause-left
returns-in-Err-keep-clause-left g c = λ told.
    subst (λ (s : Status). LeavesChecked (g.V.Vault.state c.args.vault.now) (g.V.Vault.state c.keep.new.vault) s) (sym c.status_of_vault-in-Err-keep.ensures)
    (refused-left g.H.Host c.kept_state.new.disk.host.now c.keep.new.disk.host.now (g.V.Vault.state c.args.vault.now) (g.V.Vault.state c.keep.new.vault) (g.V.Vault.faults c.args.vault.now) (g.V.Vault.faults c.keep.new.vault) c.in-Err-keep.fault c.in-Err-keep.ensures.fault (c.in-Err-keep.ensures.left told))

pub returns-in-Err-keep-clause-refused : goal.returns-in-Err-keep-clause-refused
returns-in-Err-keep-clause-refused g c =
    let host = g.H.Host in
    let old = c.args.disk.now.host.now in
    let mid = c.kept_state.new.disk.host.now in
    let now = c.keep.new.disk.host.now in
    let before = g.V.Vault.faults c.args.vault.now in
    let after = g.V.Vault.faults c.keep.new.vault in
    let f = c.in-Err-keep.fault in
    subst (λ (s : Status). IsKeepRefusal host.tells (meanings host old) (meanings host now) before after s) (sym c.status_of_vault-in-Err-keep.ensures)
    (keep-since host.tells (meanings host old) (meanings host mid) (meanings host now) before after (status_by_vault f) (later-read host old mid c.kept_state.ensures.read) (keep-refused host mid now before after f c.in-Err-keep.ensures.fault))
