-- A memory begins over the disk that is joined again, and at the end it is taken apart: each of these leaves the host as it was.
use Rattle.std.proofs.Common.{◌≡◌, rules, sym, ◌∙◌, subst}
use Rattle.loom_host.specs.declared.outside.Role.TheVariants.{Work, Transcript}
use Rattle.disk_objects.specs.declared.rest.DiskRest.{DiskRest}
use Rattle.image_reader.specs.Loaded.{heap_on}
use Rattle.image_memory.specs.Image.{HasEnded}
use Rattle.loom_memory.specs.Memory.{loom_now, loom_told}
use Rattle.loom_words.specs.Command.{row_for}
use Rattle.loom_run.specs.Meanings.{LeavesBut, meanings}
use Rattle.loom_run.specs.Stages.{Running, roles_at}
use Rattle.loom_run.specs.Steps.{IsSameFile}
use Rattle.loom_guard.specs.Legs.{FromDisk, FromMemory, Halts, LegLeaves}
use Rattle.loom_guard.proofs.StretchLaws.{from-memory, halts-from, no-memory}
use Rattle.loom_guard.proofs.memories.run_stretch.Goals as goal

-- what holds of the host where the memory left it, holds at the end
same-host : {H : Type 0} (now mid end : H) (P : H → Type 0) → end ≡ mid → mid ≡ now → P now → P end
same-host now mid end P same back x = subst P (sym same) (subst P (sym back) x)

pub returns-in_default-clause-ends : goal.returns-in_default-clause-ends
returns-in_default-clause-ends g c =
    let x = c.args.loaded.now in
    no-memory g.H.Host.tells (meanings g.H.Host c.args.host.now) (row_for c.args.command.now) c.args.first c.args.events.now c.args.serial c.args.cpu.now x.state (heap_on g.H.Host c.args.host.now c.args.rest x.next) c.requires.few

pub returns-in-Ok-wound-clause-leaves : goal.returns-in-Ok-wound-clause-leaves
returns-in-Ok-wound-clause-leaves g c =
    let host = g.H.Host in
    let d = c.again-disk.result in
    let x = c.args.loaded.now in
    let row = row_for c.args.command.now in
    let t = loom_told host c.begin_memory-memory.result in
    let end = loom_now c.wound_leg-wound.new.memory in
    let through = c.in-Ok-wound.ensures.leaves in
    let rest = c.apart-host.ensures.rest ∙ c.into_disk.ensures.rest in
    let back = c.apart-host.ensures.now ∙ c.into_disk.ensures.now in
    let name = c.apart-host.ensures.host ∙ c.into_disk.ensures.host ∙ c.wound_leg-wound.ensures.lender ∙ c.begin_memory-memory.ensures.lender ∙ c.again-disk.ensures.host in (
      through.0,
      λ work. same-host end c.apart-host.result.0.now _ (λ h. HasEnded host h c.apart-host.result.1 c.in-Ok-wound.next through.0) (search (rules, sym name)) back
          (subst (λ (r : DiskRest). HasEnded host end r c.in-Ok-wound.next through.0) (sym rest) (through.1 work)),
      through.2,
      λ before run course from.
          same-host end c.apart-host.result.0.now _ (λ h. LegLeaves host.tells before (meanings host h) row c.args.events.now run c.args.serial c.wound_leg-wound.new.cpu c.in-Ok-wound.leg through.0 course) (search (rules, sym name)) back
          (through.3 before run course
          (from-memory host c.args.host.now d.host.now c.args.rest d.rest x row c.args.first c.args.events.now c.args.serial c.args.cpu.now t c.again-disk.ensures.now c.again-disk.ensures.rest c.requires.image c.begin_memory-memory.ensures.begins c.begin_memory-memory.ensures.transcript before run course from)),
    )

pub returns-in-Ok-wound-clause-file : goal.returns-in-Ok-wound-clause-file
returns-in-Ok-wound-clause-file g c = λ work.
    let host = g.H.Host in
    let end = (loom_now c.wound_leg-wound.new.memory) in
    let back = c.apart-host.ensures.now ∙ c.into_disk.ensures.now in
    let name = c.apart-host.ensures.host ∙ c.into_disk.ensures.host ∙ c.wound_leg-wound.ensures.lender ∙ c.begin_memory-memory.ensures.lender ∙ c.again-disk.ensures.host in
    same-host end c.apart-host.result.0.now _ (λ h. IsSameFile (host.roles c.args.host.now Work) (host.roles h Work)) (search (rules, sym name)) back
    (subst (λ h. IsSameFile (host.roles h Work) (host.roles end Work)) (c.begin_memory-memory.ensures.now ∙ c.again-disk.ensures.now) (c.wound_leg-wound.ensures.file work))

pub returns-in-Ok-wound-clause-others : goal.returns-in-Ok-wound-clause-others
returns-in-Ok-wound-clause-others g c =
    let host = g.H.Host in
    let end = (loom_now c.wound_leg-wound.new.memory) in
    let back = c.apart-host.ensures.now ∙ c.into_disk.ensures.now in
    let name = c.apart-host.ensures.host ∙ c.into_disk.ensures.host ∙ c.wound_leg-wound.ensures.lender ∙ c.begin_memory-memory.ensures.lender ∙ c.again-disk.ensures.host in
    same-host end c.apart-host.result.0.now _ (λ h. LeavesBut (roles_at Running) (meanings host c.args.host.now) (meanings host h)) (search (rules, sym name)) back
    (subst (λ h. LeavesBut (roles_at Running) (meanings host h) (meanings host end)) (c.begin_memory-memory.ensures.now ∙ c.again-disk.ensures.now) c.wound_leg-wound.ensures.others)

pub returns-in-Err-clause-file : goal.returns-in-Err-clause-file
returns-in-Err-clause-file g c = λ work.
    let host = g.H.Host in
    let end = (loom_now c.wound_leg-wound.new.memory) in
    let back = c.apart-host.ensures.now ∙ c.into_disk.ensures.now in
    let name = c.apart-host.ensures.host ∙ c.into_disk.ensures.host ∙ c.wound_leg-wound.ensures.lender ∙ c.begin_memory-memory.ensures.lender ∙ c.again-disk.ensures.host in
    same-host end c.apart-host.result.0.now _ (λ h. IsSameFile (host.roles c.args.host.now Work) (host.roles h Work)) (search (rules, sym name)) back
    (subst (λ h. IsSameFile (host.roles h Work) (host.roles end Work)) (c.begin_memory-memory.ensures.now ∙ c.again-disk.ensures.now) (c.wound_leg-wound.ensures.file work))

pub returns-in-Err-clause-others : goal.returns-in-Err-clause-others
returns-in-Err-clause-others g c =
    let host = g.H.Host in
    let end = (loom_now c.wound_leg-wound.new.memory) in
    let back = c.apart-host.ensures.now ∙ c.into_disk.ensures.now in
    let name = c.apart-host.ensures.host ∙ c.into_disk.ensures.host ∙ c.wound_leg-wound.ensures.lender ∙ c.begin_memory-memory.ensures.lender ∙ c.again-disk.ensures.host in
    same-host end c.apart-host.result.0.now _ (λ h. LeavesBut (roles_at Running) (meanings host c.args.host.now) (meanings host h)) (search (rules, sym name)) back
    (subst (λ h. LeavesBut (roles_at Running) (meanings host h) (meanings host end)) (c.begin_memory-memory.ensures.now ∙ c.again-disk.ensures.now) c.wound_leg-wound.ensures.others)

pub returns-in-Err-clause-ends : goal.returns-in-Err-clause-ends
returns-in-Err-clause-ends g c =
    let host = g.H.Host in
    let d = c.again-disk.result in
    let x = c.args.loaded.now in
    let row = row_for c.args.command.now in
    let t = loom_told host c.begin_memory-memory.result in
    let end = (loom_now c.wound_leg-wound.new.memory) in
    let status = c.in-Err.status in
    let back = c.apart-host.ensures.now ∙ c.into_disk.ensures.now in
    let name = c.apart-host.ensures.host ∙ c.into_disk.ensures.host ∙ c.wound_leg-wound.ensures.lender ∙ c.begin_memory-memory.ensures.lender ∙ c.again-disk.ensures.host in
    same-host end c.apart-host.result.0.now _ (λ h. Halts host.tells (meanings host c.args.host.now) (meanings host h) row c.args.events.now (FromDisk host.tells row c.args.first c.args.events.now c.args.serial c.args.cpu.now (host.roles c.args.host.now Transcript).put x.state (heap_on host c.args.host.now c.args.rest x.next)) c.args.serial status)
    (search (rules, sym name)) back
    (halts-from host.tells (meanings host c.args.host.now) (meanings host end) row c.args.events.now (FromMemory host.tells row c.args.first c.args.events.now c.args.serial c.args.cpu.now t x.state)
    (FromDisk host.tells row c.args.first c.args.events.now c.args.serial c.args.cpu.now (host.roles c.args.host.now Transcript).put x.state (heap_on host c.args.host.now c.args.rest x.next)) c.args.serial status
    (from-memory host c.args.host.now d.host.now c.args.rest d.rest x row c.args.first c.args.events.now c.args.serial c.args.cpu.now t c.again-disk.ensures.now c.again-disk.ensures.rest c.requires.image c.begin_memory-memory.ensures.begins c.begin_memory-memory.ensures.transcript)
    (subst (λ h. Halts host.tells (meanings host h) (meanings host end) row c.args.events.now (FromMemory host.tells row c.args.first c.args.events.now c.args.serial c.args.cpu.now t x.state) c.args.serial status) (c.begin_memory-memory.ensures.now ∙ c.again-disk.ensures.now) c.in-Err.ensures.ends))
