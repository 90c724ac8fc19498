use Rattle.std.proofs.Common.{inr, ◌≤◌, ℕ, List, sym, subst}
use Rattle.loom_host.specs.Bytes.{window}
use Rattle.loom_host.specs.declared.outside.Role.TheVariants.{Work}
use Rattle.loom_host.specs.Work.{work_of}
use Rattle.work_directory.specs.Table.{entry_of}
use Rattle.disk_objects.specs.Calls.{IsFault}
use Rattle.long_names.specs.declared.limits.TheConstants.{LONGEST_RECORD}
use Rattle.disk_objects.specs.Places.{IsReadPlace}
use Rattle.disk_objects.specs.Inside.{size_stated_in}
use Rattle.loom_host.proofs.WorkLaws.{work-same, exits}
use Rattle.disk_objects.proofs.FoundLaws.{head-sound, size-low}
use Rattle.disk_objects.proofs.rest.DiskRest.look_held.Goals as goal

pub returns-in_err-head-clause-fault : goal.returns-in_err-head-clause-fault
returns-in_err-head-clause-fault g c =
    let h = g.H.Host in
    let place : ℕ = c.in_ok-held.held.slot.place in
    exits c.from_residual-in_err-head.result c.in_err-head.field-0.0
    (IsFault (h.tells Work) (h.faults c.args.host.now Work) (h.faults c.read_head.new.host Work) (IsReadPlace c.args.self.now) c.args.name)
    c.from_residual-in_err-head.ensures.1
    (head-sound (work_of h c.find_held.new.host) (h.tells Work) (h.faults c.args.host.now Work) (h.faults c.find_held.new.host Work) (h.faults c.read_head.new.host Work)
    place c.args.name (IsReadPlace c.args.self.now) c.in_err-head.field-0.0 (inr c.in_ok-held.ensures.place)
    (λ told.
    let s = c.requires.stands told in
    subst (λ (w : List ℕ). size_stated_in (window w place 28) ≤ LONGEST_RECORD) (sym (work-same h c.args.host.now c.find_held.new.host c.in_ok-held.ensures.read))
    (size-low c.args.self.now (work_of h c.args.host.now) s.0 s.1 s.2 c.args.name (entry_of c.in_ok-held.held.slot) (c.in_ok-held.ensures.found told)))
    c.in_ok-held.ensures.read.later c.in_err-head.ensures.fault)

pub returns-clause-end : goal.returns-clause-end
returns-clause-end g c = (c.in_ok-held.held.slot, c.in_ok-held.ensures.end)
