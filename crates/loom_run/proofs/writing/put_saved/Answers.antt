-- Attached and then put: a step of the host, and one of the disk.
use Rattle.std.proofs.Common.{◌≡◌, ℕ, List, inr, sym, ◌∙◌, ap, subst}
use Rattle.std.specs.Prelude.{IfSome}
use Rattle.long_names.specs.Heap.{Heap}
use Rattle.long_names.specs.Kept.{kept, no_roots}
use Rattle.image_writer.specs.Saved.{saved_text}
use Rattle.image_memory.proofs.EndLaws.{ended-stays}
use Rattle.image_memory.specs.Image.{HasEnded}
use Rattle.loom_host.specs.declared.outside.Role.TheVariants.{Saved, Work}
use Rattle.loom_host.specs.Outside.{RoleState}
use Rattle.loom_words.specs.Command.{row_for}
use Rattle.loom_run.specs.Ends.{AttachedOnce}
use Rattle.loom_run.specs.Meanings.{meanings}
use Rattle.loom_run.specs.Stages.{Saving}
use Rattle.loom_run.specs.Steps.{IsRefusal}
use Rattle.loom_run.proofs.StepLaws.{begun-from, file-saving, leaves-saving, not-written, refused-put, refused-saving, refuses, some-heap, written-from}
use Rattle.loom_run.proofs.writing.put_saved.Goals as goal

-- what is put afterwards leaves how often it was attached, and its name
attached-put : (text : List ℕ) (a b c : RoleState) → AttachedOnce text a b → c ≡ record b { put = c.put } → AttachedOnce text a c
attached-put text a b c opened same = record {
  attaches = ap (λ (s : RoleState). s.attaches) same ∙ opened.attaches;
  name = subst (λ n. IfSome n (λ t. t ≡ text)) (sym (ap (λ (s : RoleState). s.name) same)) opened.name;
}

pub returns-in_err-open_saved-clause-put : goal.returns-in_err-open_saved-clause-put
returns-in_err-open_saved-clause-put g c = λ told work h ended.
    not-written c.args.command.now.saved.now (saved_text (kept h no_roots) c.args.state.now) (g.H.Host.roles c.args.disk.now.host.now Saved) (g.H.Host.roles c.open_saved.new.disk.host.now Saved) c.from_residual.result c.in_err-open_saved.field-0.0 c.from_residual.ensures.1 (c.in_err-open_saved.ensures.refusal told)

pub save_kept-requires : goal.save_kept-requires
save_kept-requires g c = record {
  ended = λ work.
      let x = c.requires.ended work in
      (x.0, ended-stays g.H.Host c.args.disk.now.host.now c.open_saved.new.disk.host.now c.args.disk.now.rest c.open_saved.new.disk.rest c.args.next x.0 (c.open_saved.ensures.others Work (λ e. cc)) c.open_saved.ensures.rest x.1);
}

pub returns-in-Ok-clause-put : goal.returns-in-Ok-clause-put
returns-in-Ok-clause-put g c = λ told work h ended.
    let mid = c.open_saved.new.disk in
    let puts = c.save_kept.ensures.saved h (λ t. ended-stays g.H.Host c.args.disk.now.host.now mid.host.now c.args.disk.now.rest mid.rest c.args.next h (c.open_saved.ensures.others Work (λ e. cc)) c.open_saved.ensures.rest ended) in
    written-from c.args.command.now.saved.now (saved_text (kept h no_roots) c.args.state.now) (g.H.Host.roles c.args.disk.now.host.now Saved) (g.H.Host.roles mid.host.now Saved) (g.H.Host.roles c.save_kept.new.disk.host.now Saved) (c.in_ok-open_saved.ensures.opened told) (rw c.in-Ok.is at (puts.put work told))

pub returns-in-Err-Write-clause-put : goal.returns-in-Err-Write-clause-put
returns-in-Err-Write-clause-put g c = λ told work h ended.
    let mid = c.open_saved.new.disk in
    let puts = c.save_kept.ensures.saved h (λ t. ended-stays g.H.Host c.args.disk.now.host.now mid.host.now c.args.disk.now.rest mid.rest c.args.next h (c.open_saved.ensures.others Work (λ e. cc)) c.open_saved.ensures.rest ended) in
    inr (begun-from c.args.command.now.saved.now (saved_text (kept h no_roots) c.args.state.now) (g.H.Host.roles c.args.disk.now.host.now Saved) (g.H.Host.roles mid.host.now Saved) (g.H.Host.roles c.save_kept.new.disk.host.now Saved) (c.in_ok-open_saved.ensures.opened told) (rw c.in-Err-Write.is at (puts.failed work told)))

pub returns-in-Err-Disk-clause-put : goal.returns-in-Err-Disk-clause-put
returns-in-Err-Disk-clause-put g c = λ told work h ended.
    let mid = c.open_saved.new.disk in
    let puts = c.save_kept.ensures.saved h (λ t. ended-stays g.H.Host c.args.disk.now.host.now mid.host.now c.args.disk.now.rest mid.rest c.args.next h (c.open_saved.ensures.others Work (λ e. cc)) c.open_saved.ensures.rest ended) in
    inr (begun-from c.args.command.now.saved.now (saved_text (kept h no_roots) c.args.state.now) (g.H.Host.roles c.args.disk.now.host.now Saved) (g.H.Host.roles mid.host.now Saved) (g.H.Host.roles c.save_kept.new.disk.host.now Saved) (c.in_ok-open_saved.ensures.opened told) (rw c.in-Err-Disk.is at (puts.failed work told)))

pub returns-in-Err-Memory-clause-put : goal.returns-in-Err-Memory-clause-put
returns-in-Err-Memory-clause-put g c = λ told work h ended.
    let mid = c.open_saved.new.disk in
    let puts = c.save_kept.ensures.saved h (λ t. ended-stays g.H.Host c.args.disk.now.host.now mid.host.now c.args.disk.now.rest mid.rest c.args.next h (c.open_saved.ensures.others Work (λ e. cc)) c.open_saved.ensures.rest ended) in
    inr (begun-from c.args.command.now.saved.now (saved_text (kept h no_roots) c.args.state.now) (g.H.Host.roles c.args.disk.now.host.now Saved) (g.H.Host.roles mid.host.now Saved) (g.H.Host.roles c.save_kept.new.disk.host.now Saved) (c.in_ok-open_saved.ensures.opened told) (rw c.in-Err-Memory.is at (puts.failed work told)))

pub returns-in-Ok-clause-others : goal.returns-in-Ok-clause-others
returns-in-Ok-clause-others g c =
    let mid = c.open_saved.new.disk in
    let x = some-heap (g.H.Host.tells Work) (λ (h : Heap). HasEnded g.H.Host mid.host.now mid.rest c.args.next h) (λ work. let y = c.requires.ended work in (y.0, ended-stays g.H.Host c.args.disk.now.host.now mid.host.now c.args.disk.now.rest mid.rest c.args.next y.0 (c.open_saved.ensures.others Work (λ e. cc)) c.open_saved.ensures.rest y.1)) in
    let puts = c.save_kept.ensures.saved x.0 x.1 in
    leaves-saving g.H.Host c.args.disk.now.host.now mid.host.now c.save_kept.new.disk.host.now c.open_saved.ensures.others c.open_saved.ensures.other_faults c.open_saved.ensures.later puts.others puts.other_faults puts.later puts.later_work

pub returns-in-Ok-clause-file : goal.returns-in-Ok-clause-file
returns-in-Ok-clause-file g c =
    let mid = c.open_saved.new.disk in
    let x = some-heap (g.H.Host.tells Work) (λ (h : Heap). HasEnded g.H.Host mid.host.now mid.rest c.args.next h) (λ work. let y = c.requires.ended work in (y.0, ended-stays g.H.Host c.args.disk.now.host.now mid.host.now c.args.disk.now.rest mid.rest c.args.next y.0 (c.open_saved.ensures.others Work (λ e. cc)) c.open_saved.ensures.rest y.1)) in
    let puts = c.save_kept.ensures.saved x.0 x.1 in
    file-saving g.H.Host c.args.disk.now.host.now mid.host.now c.save_kept.new.disk.host.now c.open_saved.ensures.others c.open_saved.ensures.other_faults c.open_saved.ensures.later puts.others puts.other_faults puts.later puts.later_work

pub returns-in-Err-Write-clause-others : goal.returns-in-Err-Write-clause-others
returns-in-Err-Write-clause-others g c =
    let mid = c.open_saved.new.disk in
    let x = some-heap (g.H.Host.tells Work) (λ (h : Heap). HasEnded g.H.Host mid.host.now mid.rest c.args.next h) (λ work. let y = c.requires.ended work in (y.0, ended-stays g.H.Host c.args.disk.now.host.now mid.host.now c.args.disk.now.rest mid.rest c.args.next y.0 (c.open_saved.ensures.others Work (λ e. cc)) c.open_saved.ensures.rest y.1)) in
    let puts = c.save_kept.ensures.saved x.0 x.1 in
    leaves-saving g.H.Host c.args.disk.now.host.now mid.host.now c.save_kept.new.disk.host.now c.open_saved.ensures.others c.open_saved.ensures.other_faults c.open_saved.ensures.later puts.others puts.other_faults puts.later puts.later_work

pub returns-in-Err-Write-clause-file : goal.returns-in-Err-Write-clause-file
returns-in-Err-Write-clause-file g c =
    let mid = c.open_saved.new.disk in
    let x = some-heap (g.H.Host.tells Work) (λ (h : Heap). HasEnded g.H.Host mid.host.now mid.rest c.args.next h) (λ work. let y = c.requires.ended work in (y.0, ended-stays g.H.Host c.args.disk.now.host.now mid.host.now c.args.disk.now.rest mid.rest c.args.next y.0 (c.open_saved.ensures.others Work (λ e. cc)) c.open_saved.ensures.rest y.1)) in
    let puts = c.save_kept.ensures.saved x.0 x.1 in
    file-saving g.H.Host c.args.disk.now.host.now mid.host.now c.save_kept.new.disk.host.now c.open_saved.ensures.others c.open_saved.ensures.other_faults c.open_saved.ensures.later puts.others puts.other_faults puts.later puts.later_work

pub returns-in-Err-Disk-clause-others : goal.returns-in-Err-Disk-clause-others
returns-in-Err-Disk-clause-others g c =
    let mid = c.open_saved.new.disk in
    let x = some-heap (g.H.Host.tells Work) (λ (h : Heap). HasEnded g.H.Host mid.host.now mid.rest c.args.next h) (λ work. let y = c.requires.ended work in (y.0, ended-stays g.H.Host c.args.disk.now.host.now mid.host.now c.args.disk.now.rest mid.rest c.args.next y.0 (c.open_saved.ensures.others Work (λ e. cc)) c.open_saved.ensures.rest y.1)) in
    let puts = c.save_kept.ensures.saved x.0 x.1 in
    leaves-saving g.H.Host c.args.disk.now.host.now mid.host.now c.save_kept.new.disk.host.now c.open_saved.ensures.others c.open_saved.ensures.other_faults c.open_saved.ensures.later puts.others puts.other_faults puts.later puts.later_work

pub returns-in-Err-Disk-clause-file : goal.returns-in-Err-Disk-clause-file
returns-in-Err-Disk-clause-file g c =
    let mid = c.open_saved.new.disk in
    let x = some-heap (g.H.Host.tells Work) (λ (h : Heap). HasEnded g.H.Host mid.host.now mid.rest c.args.next h) (λ work. let y = c.requires.ended work in (y.0, ended-stays g.H.Host c.args.disk.now.host.now mid.host.now c.args.disk.now.rest mid.rest c.args.next y.0 (c.open_saved.ensures.others Work (λ e. cc)) c.open_saved.ensures.rest y.1)) in
    let puts = c.save_kept.ensures.saved x.0 x.1 in
    file-saving g.H.Host c.args.disk.now.host.now mid.host.now c.save_kept.new.disk.host.now c.open_saved.ensures.others c.open_saved.ensures.other_faults c.open_saved.ensures.later puts.others puts.other_faults puts.later puts.later_work

pub returns-in-Err-Memory-clause-others : goal.returns-in-Err-Memory-clause-others
returns-in-Err-Memory-clause-others g c =
    let mid = c.open_saved.new.disk in
    let x = some-heap (g.H.Host.tells Work) (λ (h : Heap). HasEnded g.H.Host mid.host.now mid.rest c.args.next h) (λ work. let y = c.requires.ended work in (y.0, ended-stays g.H.Host c.args.disk.now.host.now mid.host.now c.args.disk.now.rest mid.rest c.args.next y.0 (c.open_saved.ensures.others Work (λ e. cc)) c.open_saved.ensures.rest y.1)) in
    let puts = c.save_kept.ensures.saved x.0 x.1 in
    leaves-saving g.H.Host c.args.disk.now.host.now mid.host.now c.save_kept.new.disk.host.now c.open_saved.ensures.others c.open_saved.ensures.other_faults c.open_saved.ensures.later puts.others puts.other_faults puts.later puts.later_work

pub returns-in-Err-Memory-clause-file : goal.returns-in-Err-Memory-clause-file
returns-in-Err-Memory-clause-file g c =
    let mid = c.open_saved.new.disk in
    let x = some-heap (g.H.Host.tells Work) (λ (h : Heap). HasEnded g.H.Host mid.host.now mid.rest c.args.next h) (λ work. let y = c.requires.ended work in (y.0, ended-stays g.H.Host c.args.disk.now.host.now mid.host.now c.args.disk.now.rest mid.rest c.args.next y.0 (c.open_saved.ensures.others Work (λ e. cc)) c.open_saved.ensures.rest y.1)) in
    let puts = c.save_kept.ensures.saved x.0 x.1 in
    file-saving g.H.Host c.args.disk.now.host.now mid.host.now c.save_kept.new.disk.host.now c.open_saved.ensures.others c.open_saved.ensures.other_faults c.open_saved.ensures.later puts.others puts.other_faults puts.later puts.later_work

pub returns-in-Err-Disk-clause-refused : goal.returns-in-Err-Disk-clause-refused
returns-in-Err-Disk-clause-refused g c =
    let mid = c.open_saved.new.disk in
    let x = some-heap (g.H.Host.tells Work) (λ (h : Heap). HasEnded g.H.Host mid.host.now mid.rest c.args.next h) (λ work. let y = c.requires.ended work in (y.0, ended-stays g.H.Host c.args.disk.now.host.now mid.host.now c.args.disk.now.rest mid.rest c.args.next y.0 (c.open_saved.ensures.others Work (λ e. cc)) c.open_saved.ensures.rest y.1)) in
    let puts = c.save_kept.ensures.saved x.0 x.1 in
    subst (λ status. IsRefusal g.H.Host.tells (meanings g.H.Host c.args.disk.now.host.now) (meanings g.H.Host c.save_kept.new.disk.host.now) (row_for c.args.command.now) Saving status) (sym c.status_of_disk.ensures)
    (refused-saving g.H.Host c.args.disk.now.host.now mid.host.now c.save_kept.new.disk.host.now c.open_saved.ensures.others c.open_saved.ensures.other_faults c.open_saved.ensures.later puts.others puts.other_faults puts.later puts.later_work (row_for c.args.command.now) c.in-Err-Disk.fault (rw (c.in-Err-Disk.is, c.in-Err-Disk.field-0-is) at puts.fault))

pub returns-in-Err-Write-clause-refused : goal.returns-in-Err-Write-clause-refused
returns-in-Err-Write-clause-refused g c =
    let mid = c.open_saved.new.disk in
    let x = some-heap (g.H.Host.tells Work) (λ (h : Heap). HasEnded g.H.Host mid.host.now mid.rest c.args.next h) (λ work. let y = c.requires.ended work in (y.0, ended-stays g.H.Host c.args.disk.now.host.now mid.host.now c.args.disk.now.rest mid.rest c.args.next y.0 (c.open_saved.ensures.others Work (λ e. cc)) c.open_saved.ensures.rest y.1)) in
    let puts = c.save_kept.ensures.saved x.0 x.1 in
    refused-put g.H.Host c.args.disk.now.host.now mid.host.now c.save_kept.new.disk.host.now c.open_saved.ensures.others c.open_saved.ensures.other_faults c.open_saved.ensures.later puts.others puts.other_faults puts.later puts.later_work (row_for c.args.command.now) c.in-Err-Write.count (rw (c.in-Err-Write.is, c.in-Err-Write.field-0-is) at puts.fault)

pub returns-in-Ok-clause-attached : goal.returns-in-Ok-clause-attached
returns-in-Ok-clause-attached g c = λ told.
    let mid = c.open_saved.new.disk in
    let x = some-heap (g.H.Host.tells Work) (λ (h : Heap). HasEnded g.H.Host mid.host.now mid.rest c.args.next h) (λ work. let y = c.requires.ended work in (y.0, ended-stays g.H.Host c.args.disk.now.host.now mid.host.now c.args.disk.now.rest mid.rest c.args.next y.0 (c.open_saved.ensures.others Work (λ e. cc)) c.open_saved.ensures.rest y.1)) in
    attached-put c.args.command.now.saved.now (g.H.Host.roles c.args.disk.now.host.now Saved) (g.H.Host.roles mid.host.now Saved) (g.H.Host.roles c.save_kept.new.disk.host.now Saved) (c.open_saved.ensures.once told) ((c.save_kept.ensures.saved x.0 x.1).only_put told)

pub returns-in-Err-Write-clause-attached : goal.returns-in-Err-Write-clause-attached
returns-in-Err-Write-clause-attached g c = λ told.
    let mid = c.open_saved.new.disk in
    let x = some-heap (g.H.Host.tells Work) (λ (h : Heap). HasEnded g.H.Host mid.host.now mid.rest c.args.next h) (λ work. let y = c.requires.ended work in (y.0, ended-stays g.H.Host c.args.disk.now.host.now mid.host.now c.args.disk.now.rest mid.rest c.args.next y.0 (c.open_saved.ensures.others Work (λ e. cc)) c.open_saved.ensures.rest y.1)) in
    attached-put c.args.command.now.saved.now (g.H.Host.roles c.args.disk.now.host.now Saved) (g.H.Host.roles mid.host.now Saved) (g.H.Host.roles c.save_kept.new.disk.host.now Saved) (c.open_saved.ensures.once told) ((c.save_kept.ensures.saved x.0 x.1).only_put told)

pub returns-in-Err-Disk-clause-attached : goal.returns-in-Err-Disk-clause-attached
returns-in-Err-Disk-clause-attached g c = λ told.
    let mid = c.open_saved.new.disk in
    let x = some-heap (g.H.Host.tells Work) (λ (h : Heap). HasEnded g.H.Host mid.host.now mid.rest c.args.next h) (λ work. let y = c.requires.ended work in (y.0, ended-stays g.H.Host c.args.disk.now.host.now mid.host.now c.args.disk.now.rest mid.rest c.args.next y.0 (c.open_saved.ensures.others Work (λ e. cc)) c.open_saved.ensures.rest y.1)) in
    attached-put c.args.command.now.saved.now (g.H.Host.roles c.args.disk.now.host.now Saved) (g.H.Host.roles mid.host.now Saved) (g.H.Host.roles c.save_kept.new.disk.host.now Saved) (c.open_saved.ensures.once told) ((c.save_kept.ensures.saved x.0 x.1).only_put told)

pub returns-in-Err-Memory-clause-attached : goal.returns-in-Err-Memory-clause-attached
returns-in-Err-Memory-clause-attached g c = λ told.
    let mid = c.open_saved.new.disk in
    let x = some-heap (g.H.Host.tells Work) (λ (h : Heap). HasEnded g.H.Host mid.host.now mid.rest c.args.next h) (λ work. let y = c.requires.ended work in (y.0, ended-stays g.H.Host c.args.disk.now.host.now mid.host.now c.args.disk.now.rest mid.rest c.args.next y.0 (c.open_saved.ensures.others Work (λ e. cc)) c.open_saved.ensures.rest y.1)) in
    attached-put c.args.command.now.saved.now (g.H.Host.roles c.args.disk.now.host.now Saved) (g.H.Host.roles mid.host.now Saved) (g.H.Host.roles c.save_kept.new.disk.host.now Saved) (c.open_saved.ensures.once told) ((c.save_kept.ensures.saved x.0 x.1).only_put told)

pub returns-in_err-open_saved-clause-refused : goal.returns-in_err-open_saved-clause-refused
returns-in_err-open_saved-clause-refused g c =
    refuses (IsRefusal g.H.Host.tells (meanings g.H.Host c.args.disk.now.host.now) (meanings g.H.Host c.open_saved.new.disk.host.now) (row_for c.args.command.now) Saving) c.from_residual.result c.in_err-open_saved.field-0.0 c.from_residual.ensures.1 (c.in_err-open_saved.ensures.refused (row_for c.args.command.now))
