use Rattle.std.proofs.Common.{◌≡◌, ℕ, ◌<◌, IsTrue, refl, sym, ◌∙◌, ap, subst}
use Rattle.long_names.specs.Heap.{Heap}
use Rattle.loom_host.specs.declared.outside.Role.TheVariants.{Work, Transcript}
use Rattle.image_reader.specs.Loaded.{heap_on}
use Rattle.image_writer.specs.Saved.{disk_heap, saved_text}
use Rattle.image_memory.proofs.EndLaws.{ended-heap}
use Rattle.blue_model.specs.declared.limits.TheConstants.{LAST_SERIAL}
use Rattle.checkpoint.specs.Keeping.{serial_of}
use Rattle.checkpoint.proofs.HistoryLaws.{keeps-more, keeps-refused}
use Rattle.loom_words.specs.Command.{row_for}
use Rattle.loom_run.specs.Meanings.{meanings}
use Rattle.loom_run.specs.Stages.{Running, roles_at}
use Rattle.loom_run.proofs.RunLaws.{fault_exit}
use Rattle.loom_guard.specs.Legs.{FromDisk, Halts, IsCounted, KeepsWhere}
use Rattle.loom_guard.specs.Turns.{IsKeptImage, KeptHalts}
use Rattle.loom_guard.proofs.KeepingLaws.{checked-last}
use Rattle.loom_guard.proofs.StretchLaws.{leaves-then}
use Rattle.loom_guard.proofs.TurnLaws.{file-read, goes-on, keep-halts, kept-checkpoint, leaves-ended, leaves-kept, leaves-read, leg-halts, turn-refused}
use Rattle.loom_guard.proofs.VaultLaws.{has-last}
use Rattle.loom_guard.proofs.guarded.take_turn.Goals as goal

-- ---- the leg was stopped

pub returns-in_err-rest-clause-vault : goal.returns-in_err-rest-clause-vault
returns-in_err-rest-clause-vault g c = λ told began before run course from keeps.
    turn-refused began (g.V.Vault.state c.args.vault.now) c.args.last (IsKeptImage (g.H.Host.tells Work) c.args.events.now c.args.command.now.steps run) c.from_residual.result c.in_err-rest.field-0.0 c.from_residual.ensures.1 keeps
    (λ none. has-last (g.V.Vault.state c.args.vault.now) c.args.last (serial_of c.args.last) (c.requires.last told) refl)

pub returns-in_err-rest-clause-ends : goal.returns-in_err-rest-clause-ends
returns-in_err-rest-clause-ends g c =
    let host = g.H.Host in
    let x = c.args.loaded.now in
    let row = row_for c.args.command.now in
    let old = c.args.host.now in
    let mid = c.run_stretch.new.host in
    let vault = g.V.Vault.faults c.args.vault.now in
    let said = (host.roles old Transcript).put in
    let heap = heap_on host old c.args.rest x.next in
    let status = c.in_err-rest.field-0.0 in
    let last = serial_of c.args.last in
    fault_exit (KeptHalts host.tells (meanings host old) (meanings host mid) vault vault row c.args.events.now (FromDisk host.tells row c.args.first c.args.events.now last c.args.cpu.now said x.state heap) last) c.from_residual.result status c.from_residual.ensures.1
    (leg-halts host.tells (meanings host old) (meanings host mid) vault row c.args.events.now (FromDisk host.tells row c.args.first c.args.events.now last c.args.cpu.now said x.state heap) last status
    (subst (λ (n : ℕ). Halts host.tells (meanings host old) (meanings host mid) row c.args.events.now (FromDisk host.tells row c.args.first c.args.events.now n c.args.cpu.now said x.state heap) n status) c.serial_of.ensures c.in_err-rest.ensures.ends))

-- ---- the machine is to be kept

pub keep_point-requires-clause-ended : goal.keep_point-requires-clause-ended
keep_point-requires-clause-ended g c = λ work. let leaves = c.in_ok-rest.ensures.leaves in (leaves.0, leaves.1 work, leaves.2 work)

pub keep_point-requires-clause-below : goal.keep_point-requires-clause-below
keep_point-requires-clause-below g c = subst (λ (n : ℕ). n < LAST_SERIAL) c.serial_of.ensures (subst (KeepsWhere (c.serial_of.result < LAST_SERIAL)) c.in-Kept.is c.in_ok-rest.ensures.keeps)

-- ---- it wasn't

pub returns-in_err-rest-in-Kept-clause-vault : goal.returns-in_err-rest-in-Kept-clause-vault
returns-in_err-rest-in-Kept-clause-vault g c = λ told began before run course from keeps.
    let host = g.H.Host in
    let x = c.args.loaded.now in
    let row = row_for c.args.command.now in
    let old = c.args.host.now in
    let mid = c.run_stretch.new.host in
    let said = (host.roles old Transcript).put in
    let heap = heap_on host old c.args.rest x.next in
    let leaves = c.in_ok-rest.ensures.leaves in
    let left = leaves.0 in
    let then = c.run_stretch.new.cpu in
    let last = serial_of c.args.last in
    let state = c.in-Kept.state in
    let kept = leaves-kept host.tells row c.args.first c.args.events.now c.args.cpu.now then said x.state heap (meanings host mid) c.in_ok-rest.leg left c.serial_of.result last c.serial_of.ensures leaves.3 state c.in-Kept.is in
    let was = c.requires.last told in
    turn-refused began (g.V.Vault.state c.keep_point.new.vault) c.args.last (IsKeptImage (host.tells Work) c.args.events.now row.steps run) c.from_residual-in_err-rest-in-Kept.result c.in_err-rest-in-Kept.field-0.0 c.from_residual-in_err-rest-in-Kept.ensures.1
    (keeps-refused began (g.V.Vault.state c.args.vault.now) (g.V.Vault.state c.keep_point.new.vault) c.args.last (IsKeptImage (host.tells Work) c.args.events.now row.steps run)
    (λ text. IsTrue (host.tells Work) → text ≡ saved_text (disk_heap host mid c.in_ok-rest.rest c.in_ok-rest.next) state) keeps was (c.keep_point.ensures.extends told) (c.keep_point.ensures.stops told)
    (λ text is work.
    kept-checkpoint host.tells (meanings host mid) row.core c.args.events.now row.steps run last then state left text (kept before run course (from work)) c.run_stretch.ensures.few
    (is work ∙ ap (λ (k : Heap). saved_text k state) (ended-heap host mid c.in_ok-rest.rest c.in_ok-rest.next left (leaves.1 work)))))
    (checked-last (g.V.Vault.state c.args.vault.now) (g.V.Vault.state c.keep_point.new.vault) c.args.last c.in_err-rest-in-Kept.field-0.0 was (c.in_err-rest-in-Kept.ensures.left told))

pub returns-in_err-rest-in-Kept-clause-file : goal.returns-in_err-rest-in-Kept-clause-file
returns-in_err-rest-in-Kept-clause-file g c = λ work. file-read g.H.Host c.args.host.now c.run_stretch.new.host c.keep_point.new.host (c.run_stretch.ensures.file work) c.keep_point.ensures.read

pub returns-in_err-rest-in-Kept-clause-others : goal.returns-in_err-rest-in-Kept-clause-others
returns-in_err-rest-in-Kept-clause-others g c =
    leaves-then (roles_at Running) (meanings g.H.Host c.args.host.now) (meanings g.H.Host c.run_stretch.new.host) (meanings g.H.Host c.keep_point.new.host) c.run_stretch.ensures.others (leaves-read g.H.Host c.run_stretch.new.host c.keep_point.new.host c.keep_point.ensures.read)

pub returns-in_err-rest-in-Kept-clause-ends : goal.returns-in_err-rest-in-Kept-clause-ends
returns-in_err-rest-in-Kept-clause-ends g c =
    let host = g.H.Host in
    let x = c.args.loaded.now in
    let row = row_for c.args.command.now in
    let old = c.args.host.now in
    let mid = c.run_stretch.new.host in
    let said = (host.roles old Transcript).put in
    let heap = heap_on host old c.args.rest x.next in
    let leaves = c.in_ok-rest.ensures.leaves in
    let left = leaves.0 in
    let then = c.run_stretch.new.cpu in
    let last = serial_of c.args.last in
    let state = c.in-Kept.state in
    let kept = leaves-kept host.tells row c.args.first c.args.events.now c.args.cpu.now then said x.state heap (meanings host mid) c.in_ok-rest.leg left c.serial_of.result last c.serial_of.ensures leaves.3 state c.in-Kept.is in
    let new = c.keep_point.new.host in
    let before = g.V.Vault.faults c.args.vault.now in
    let after = g.V.Vault.faults c.keep_point.new.vault in
    let status = c.in_err-rest-in-Kept.field-0.0 in
    fault_exit (KeptHalts host.tells (meanings host old) (meanings host new) before after row c.args.events.now (FromDisk host.tells row c.args.first c.args.events.now last c.args.cpu.now said x.state heap) last) c.from_residual-in_err-rest-in-Kept.result status c.from_residual-in_err-rest-in-Kept.ensures.1
    (keep-halts host old mid new before after row c.args.first c.args.events.now last c.args.cpu.now then said x.state state heap left status c.run_stretch.ensures.others.later c.in_err-rest-in-Kept.ensures.refused c.keep_point.ensures.read c.run_stretch.ensures.few kept)

-- ---- it was kept

pub returns-in_ok-rest-in-Kept-clause-leaves : goal.returns-in_ok-rest-in-Kept-clause-leaves
returns-in_ok-rest-in-Kept-clause-leaves g c =
    let host = g.H.Host in
    let x = c.args.loaded.now in
    let row = row_for c.args.command.now in
    let old = c.args.host.now in
    let mid = c.run_stretch.new.host in
    let said = (host.roles old Transcript).put in
    let heap = heap_on host old c.args.rest x.next in
    let leaves = c.in_ok-rest.ensures.leaves in
    let left = leaves.0 in
    let then = c.run_stretch.new.cpu in
    let last = serial_of c.args.last in
    let state = c.in-Kept.state in
    let kept = leaves-kept host.tells row c.args.first c.args.events.now c.args.cpu.now then said x.state heap (meanings host mid) c.in_ok-rest.leg left c.serial_of.result last c.serial_of.ensures leaves.3 state c.in-Kept.is in
    let new = c.keep_point.new.host in
    let ok = c.in_ok-rest-in-Kept.ensures in (
      ok.image,
      c.in_ok-rest.ensures.room ∙ sym ok.room,
      ok.point,
      subst (λ (n : ℕ). n < LAST_SERIAL) c.serial_of.ensures (subst (KeepsWhere (c.serial_of.result < LAST_SERIAL)) c.in-Kept.is c.in_ok-rest.ensures.keeps),
      λ before run course from.
          goes-on host before mid new row c.args.first c.args.events.now last c.args.cpu.now then said x.state state heap left c.in_ok-rest-in-Kept.rest c.in_ok-rest-in-Kept.loaded c.in_ok-rest-in-Kept.point run course from (kept before run course from) c.keep_point.ensures.read ok.point
          (ok.kept from.0 left (leaves.1 from.0)),
    )

pub returns-in_ok-rest-in-Kept-clause-vault : goal.returns-in_ok-rest-in-Kept-clause-vault
returns-in_ok-rest-in-Kept-clause-vault g c = λ told began before run course from keeps.
    let host = g.H.Host in
    let x = c.args.loaded.now in
    let row = row_for c.args.command.now in
    let old = c.args.host.now in
    let mid = c.run_stretch.new.host in
    let said = (host.roles old Transcript).put in
    let heap = heap_on host old c.args.rest x.next in
    let leaves = c.in_ok-rest.ensures.leaves in
    let left = leaves.0 in
    let then = c.run_stretch.new.cpu in
    let last = serial_of c.args.last in
    let state = c.in-Kept.state in
    let kept = leaves-kept host.tells row c.args.first c.args.events.now c.args.cpu.now then said x.state heap (meanings host mid) c.in_ok-rest.leg left c.serial_of.result last c.serial_of.ensures leaves.3 state c.in-Kept.is in
    let was = c.requires.last told in
    let is = c.in_ok-rest-in-Kept.ensures.last told in (
      keeps-more began (g.V.Vault.state c.args.vault.now) (g.V.Vault.state c.keep_point.new.vault) c.args.last c.in_ok-rest-in-Kept.point (IsKeptImage (host.tells Work) c.args.events.now row.steps run)
          (λ text. IsTrue (host.tells Work) → text ≡ saved_text (disk_heap host mid c.in_ok-rest.rest c.in_ok-rest.next) state) keeps was (c.keep_point.ensures.extends told) (c.keep_point.ensures.stops told) is c.in_ok-rest-in-Kept.ensures.point
          (λ text is work.
          kept-checkpoint host.tells (meanings host mid) row.core c.args.events.now row.steps run last then state left text (kept before run course (from work)) c.run_stretch.ensures.few
          (is work ∙ ap (λ (k : Heap). saved_text k state) (ended-heap host mid c.in_ok-rest.rest c.in_ok-rest.next left (leaves.1 work)))),
      is,
    )

pub returns-in_ok-rest-in-Kept-clause-file : goal.returns-in_ok-rest-in-Kept-clause-file
returns-in_ok-rest-in-Kept-clause-file g c = λ work. file-read g.H.Host c.args.host.now c.run_stretch.new.host c.keep_point.new.host (c.run_stretch.ensures.file work) c.keep_point.ensures.read

pub returns-in_ok-rest-in-Kept-clause-others : goal.returns-in_ok-rest-in-Kept-clause-others
returns-in_ok-rest-in-Kept-clause-others g c =
    leaves-then (roles_at Running) (meanings g.H.Host c.args.host.now) (meanings g.H.Host c.run_stretch.new.host) (meanings g.H.Host c.keep_point.new.host) c.run_stretch.ensures.others (leaves-read g.H.Host c.run_stretch.new.host c.keep_point.new.host c.keep_point.ensures.read)

-- ---- the run ended

pub returns-in-Ended-clause-leaves : goal.returns-in-Ended-clause-leaves
returns-in-Ended-clause-leaves g c =
    let host = g.H.Host in
    let x = c.args.loaded.now in
    let row = row_for c.args.command.now in
    let old = c.args.host.now in
    let mid = c.run_stretch.new.host in
    let leaves = c.in_ok-rest.ensures.leaves in
    let counted = subst (IsCounted row.steps) c.in-Ended.is c.in_ok-rest.ensures.counted in (
      counted.0,
      counted.1,
      (
        leaves.0,
        leaves.1,
        leaves-ended host.tells row c.args.first c.args.events.now c.args.cpu.now c.run_stretch.new.cpu (host.roles old Transcript).put x.state (heap_on host old c.args.rest x.next) (meanings host mid) c.in_ok-rest.leg leaves.0 c.serial_of.result
            (serial_of c.args.last) c.serial_of.ensures leaves.3 c.in-Ended.finished c.in-Ended.is,
      ),
    )

pub returns-in-Ended-clause-vault : goal.returns-in-Ended-clause-vault
returns-in-Ended-clause-vault g c = λ told began before run course from keeps. (keeps, c.requires.last told)
