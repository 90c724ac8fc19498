-- The disk is joined again, a memory begins over it, and at the end it is taken apart: each of these leaves the host as it was.
use Rattle.std.proofs.Common.{sym, ◌∙◌, ap, subst, arith, rules}
use Rattle.disk_objects.specs.declared.rest.DiskRest.{DiskRest}
use Rattle.disk_objects.specs.Disk.{disk_room}
use Rattle.image_reader.specs.Loaded.{heap_on}
use Rattle.image_memory.specs.Image.{HasEnded}
use Rattle.blue_model.specs.Logs.{course}
use Rattle.machine_run.specs.States.{model_state}
use Rattle.loom_memory.specs.Memory.{loom_now, loom_told}
use Rattle.loom_words.specs.Command.{row_for}
use Rattle.loom_run.specs.Meanings.{meanings}
use Rattle.loom_run.specs.Stages.{Finishing}
use Rattle.loom_run.specs.Steps.{Came, CameThrough, RunEnds}
use Rattle.loom_run.proofs.ProgramLaws.{making-refused, run-written}
use Rattle.loom_run.proofs.RunLaws.{came-again, first-bounds, image-again, image-begins}
use Rattle.loom_run.proofs.program.run_under.Goals as goal

pub returns-in_default : goal.returns-in_default
returns-in_default g c = record {
  ends = λ before came.
      let x = c.args.loaded.now in
      making-refused g.H.Host.tells before (row_for c.args.command.now) (meanings g.H.Host c.args.host.now) x.state (heap_on g.H.Host c.args.host.now c.args.rest x.next) c.args.events.now came;
}

pub begin_memory-memory-requires-clause-image : goal.begin_memory-memory-requires-clause-image
begin_memory-memory-requires-clause-image g c = image-again g.H.Host c.args.host.now c.again-disk.result.host.now c.args.rest c.again-disk.result.rest c.args.loaded.now c.again-disk.ensures.now c.again-disk.ensures.rest c.requires.image

pub run_memory-run-requires-clause-begins : goal.run_memory-run-requires-clause-begins
run_memory-run-requires-clause-begins g c = λ told.
    let d = c.again-disk.result in
    let x = c.args.loaded.now in (
      heap_on g.H.Host d.host.now d.rest x.next,
      image-begins g.H.Host c.args.host.now d.host.now c.args.rest d.rest x c.again-disk.ensures.now c.again-disk.ensures.rest c.requires.image (loom_told g.H.Host c.begin_memory-memory.result) told (c.begin_memory-memory.ensures.begins told),
    )

pub run_memory-run-requires-clause-bounds : goal.run_memory-run-requires-clause-bounds
run_memory-run-requires-clause-bounds g c =
    first-bounds (loom_told g.H.Host c.begin_memory-memory.result) (row_for c.args.command.now) _ _ _ _ c.begin_memory-memory.ensures.first (ap (λ (r : DiskRest). disk_room r) c.again-disk.ensures.rest ∙ sym c.requires.room)

pub returns-in-Ok-run : goal.returns-in-Ok-run
returns-in-Ok-run g c = record {
  ends = λ before came.
      let d = c.again-disk.result in
      let x = c.args.loaded.now in
      let row = row_for c.args.command.now in
      let heap = heap_on g.H.Host d.host.now d.rest x.next in
      let end = loom_now c.run_memory-run.new.memory in
      let run = course c.args.events.now row.steps (model_state x.state) heap in
      let there = came-again g.H.Host c.args.host.now d.host.now c.args.rest d.rest x c.again-disk.ensures.now c.again-disk.ensures.rest c.requires.image before row c.args.events.now (loom_now c.begin_memory-memory.result) c.begin_memory-memory.ensures.now came in
      let through = c.in-Ok-run.ensures.through in
      let went = through.2 before heap there (λ told. image-begins g.H.Host c.args.host.now d.host.now c.args.rest d.rest x c.again-disk.ensures.now c.again-disk.ensures.rest c.requires.image (loom_told g.H.Host c.begin_memory-memory.result) told (c.begin_memory-memory.ensures.begins told)) in
      let back = c.apart-host.ensures.now ∙ c.into_disk-disk.ensures.now in
      let rest = c.apart-host.ensures.rest ∙ c.into_disk-disk.ensures.rest in
      let name = c.apart-host.ensures.host ∙ c.into_disk-disk.ensures.host ∙ c.run_memory-run.ensures.lender ∙ c.begin_memory-memory.ensures.lender ∙ c.again-disk.ensures.host in
      let here = subst (λ h. Came g.H.Host.tells before (meanings g.H.Host h) row Finishing x.state heap c.args.events.now) (sym back) went.0 in
      subst (λ h. RunEnds g.H.Host.tells before (meanings g.H.Host h) row c.write_kept.result) (search (rules, sym name))
      (run-written g.H.Host.tells before row _ (meanings g.H.Host c.write_kept.new.host) c.write_kept.result x.state heap c.args.events.now here c.write_kept.ensures.others
      (c.write_kept.ensures.ends g.H.Host.tells (λ role told. told) before through.0 run here.uses
      (λ work. (
        subst (λ h. HasEnded g.H.Host h c.apart-host.result.1 c.in-Ok-run.ended.next through.0) (sym back) (subst (λ r. HasEnded g.H.Host end r c.in-Ok-run.ended.next through.0) (sym rest) (through.1 work)),
        subst (λ h. CameThrough g.H.Host.tells before (meanings g.H.Host h) (row_for c.args.command.now) c.in-Ok-run.ended.finished through.0 run) (sym back) (went.1 work),
      ))).0);
}

pub returns-in-Err : goal.returns-in-Err
returns-in-Err g c = record {
  ends = λ before came.
      let d = c.again-disk.result in
      let x = c.args.loaded.now in
      let row = row_for c.args.command.now in
      let there = came-again g.H.Host c.args.host.now d.host.now c.args.rest d.rest x c.again-disk.ensures.now c.again-disk.ensures.rest c.requires.image before row c.args.events.now (loom_now c.begin_memory-memory.result) c.begin_memory-memory.ensures.now came in
      let name = c.into_host-host.ensures.host ∙ c.into_disk-disk.ensures.host ∙ c.run_memory-run.ensures.lender ∙ c.begin_memory-memory.ensures.lender ∙ c.again-disk.ensures.host in
      subst (λ h. RunEnds g.H.Host.tells before (meanings g.H.Host h) row c.in-Err.status) (grind (arith, sym name, c.into_host-host.ensures.now, c.into_disk-disk.ensures.now))
      (c.in-Err.ensures.ends before (heap_on g.H.Host d.host.now d.rest x.next) there (λ told. image-begins g.H.Host c.args.host.now d.host.now c.args.rest d.rest x c.again-disk.ensures.now c.again-disk.ensures.rest c.requires.image (loom_told g.H.Host c.begin_memory-memory.result) told (c.begin_memory-memory.ensures.begins told)));
}
