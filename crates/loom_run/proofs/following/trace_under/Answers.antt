-- The disk is joined again, Saved is attached, a memory begins over both, and at the end it is taken apart: but for the attach and the machine each of
-- these leaves the host as it was.
use Rattle.std.proofs.Common.{rules, sym, ◌∙◌, subst}
use Rattle.image_reader.specs.Loaded.{heap_on}
use Rattle.loom_words.specs.Command.{row_for}
use Rattle.loom_words.specs.declared.status.Status.TheVariants as answer
use Rattle.loom_run.specs.Following.{Followed, TraceEnds}
use Rattle.loom_run.specs.Meanings.{meanings}
use Rattle.loom_run.proofs.TracedRun.{followed-then, image-behind, unmade-end, unsaved-end}
use Rattle.loom_memory.specs.Memory.{loom_now}
use Rattle.loom_run.proofs.following.trace_under.Goals as goal

pub returns-in-Err : goal.returns-in-Err
returns-in-Err g c = record {
  ends = λ before came.
      let host = g.H.Host in
      let old = c.args.host.now in
      let mid = c.open_saved.new.disk.host.now in
      let row = row_for c.args.command.now in
      let opened = rw c.again-disk.ensures.now at c.open_saved.ensures in
      subst (λ h. TraceEnds host.tells before (meanings host h) row c.in-Err.status) (search rules)
      (unsaved-end host old mid c.args.rest c.open_saved.new.disk.rest c.args.loaded.now c.requires.image (c.open_saved.ensures.rest ∙ c.again-disk.ensures.rest) opened.others opened.other_faults opened.later
      before row c.args.events.now opened.once came c.in-Err.status c.in-Err.ensures.which (rw c.again-disk.ensures.now at c.in-Err.ensures.refused) (rw c.again-disk.ensures.now at c.in-Err.ensures.refusal));
}

pub returns-in_default-new : goal.returns-in_default-new
returns-in_default-new g c = record {
  ends = λ before came.
      let host = g.H.Host in
      let old = c.args.host.now in
      let mid = c.open_saved.new.disk.host.now in
      let row = row_for c.args.command.now in
      let opened = rw c.again-disk.ensures.now at c.open_saved.ensures in
      subst (λ h. TraceEnds host.tells before (meanings host h) row answer.OutOfMemory) (search rules)
      (unmade-end host old mid c.args.rest c.open_saved.new.disk.rest c.args.loaded.now c.requires.image (c.open_saved.ensures.rest ∙ c.again-disk.ensures.rest) opened.others opened.other_faults opened.later
      before row c.args.events.now opened.once came (rw c.again-disk.ensures.now at c.in_default.ensures.opened));
}

pub begin_memory-memory-requires-clause-image : goal.begin_memory-memory-requires-clause-image
begin_memory-memory-requires-clause-image g c =
    let opened = rw c.again-disk.ensures.now at c.open_saved.ensures in
    image-behind g.H.Host c.args.host.now c.open_saved.new.disk.host.now c.args.rest c.open_saved.new.disk.rest c.args.loaded.now c.requires.image (c.open_saved.ensures.rest ∙ c.again-disk.ensures.rest) opened.others opened.other_faults opened.later

pub trace_machine-status-requires-clause-begins : goal.trace_machine-status-requires-clause-begins
trace_machine-status-requires-clause-begins g c = λ told.
    let d = c.open_saved.new.disk in
    let x = c.args.loaded.now in
    let opened = rw c.again-disk.ensures.now at c.open_saved.ensures in (
      heap_on g.H.Host d.host.now d.rest x.next,
      let image = image-behind g.H.Host c.args.host.now d.host.now c.args.rest d.rest x c.requires.image (c.open_saved.ensures.rest ∙ c.again-disk.ensures.rest) opened.others opened.other_faults opened.later in
          record { image = (image.heap told).is; state_is = image.state told; begins = c.begin_memory-memory.ensures.begins told },
    )

pub returns : goal.returns
returns g c = record {
  ends = λ before came.
      let host = g.H.Host in
      let old = c.args.host.now in
      let mid = c.open_saved.new.disk.host.now in
      let x = c.args.loaded.now in
      let row = row_for c.args.command.now in
      let heap = heap_on host old c.args.rest x.next in
      let end = (loom_now c.trace_machine-status.new.memory) in
      let run = c.trace_machine-status.ensures in
      let status = c.trace_machine-status.result in
      let opened = rw c.again-disk.ensures.now at c.open_saved.ensures in
      let back = c.into_host-host-2.ensures.now ∙ c.into_disk-disk.ensures.now in
      let followed = followed-then host old mid c.args.rest c.open_saved.new.disk.rest x c.requires.image (c.open_saved.ensures.rest ∙ c.again-disk.ensures.rest) opened.others opened.other_faults opened.later
      before row c.args.events.now opened.once came c.begin_memory-memory.result c.trace_machine-status.new.memory c.begin_memory-memory.ensures.now (rw c.again-disk.ensures.now at c.in_default.ensures.opened) c.begin_memory-memory.ensures.begins
      status run.follows run.only run.file run.others run.answer in
      let name = c.into_host-host-2.ensures.host ∙ c.into_disk-disk.ensures.host ∙ run.lender ∙ c.begin_memory-memory.ensures.lender ∙ c.open_saved.ensures.same_host ∙ c.again-disk.ensures.host in
      subst (λ h. TraceEnds host.tells before (meanings host h) row c.end_trace.result) (search (rules, sym name))
      (c.end_trace.ensures.ends before row x.state heap c.args.events.now
      (subst (λ h. Followed host.tells before (meanings host h) row status c.args.events.now x.state heap) (sym back) followed));
}
