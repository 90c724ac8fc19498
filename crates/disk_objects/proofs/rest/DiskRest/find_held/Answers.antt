use Rattle.std.proofs.Common.{ℕ, List, Result, IfOk, IfErr, sym, subst, ◌∙◌}
use Rattle.loom_host.specs.declared.outside.DiskFault.{DiskFault}
use Rattle.loom_host.specs.declared.outside.Role.TheVariants.{Work}
use Rattle.loom_host.specs.Work.{work_of}
use Rattle.work_directory.specs.Directory.{EndsAt}
use Rattle.work_directory.specs.declared.directory.Found.TheVariants.{Held}
use Rattle.disk_objects.specs.declared.rest.HeldSlot.{HeldSlot}
use Rattle.disk_objects.specs.Calls.{IsFault}
use Rattle.disk_objects.specs.Places.{IsSlotPlace}
use Rattle.disk_objects.proofs.FaultLaws.{held-end, held-fault}
use Rattle.disk_objects.proofs.FoundLaws.{held-there, place-there}
use Rattle.disk_objects.proofs.rest.DiskRest.find_held.Goals as goal

pub returns-clause-fault : goal.returns-clause-fault
returns-clause-fault g c =
    let h = g.H.Host in
    let rest = c.args.self.now in
    let v : List ℕ = work_of h c.args.host.now in
    let a : ℕ = h.faults c.args.host.now Work in
    let b : ℕ = h.faults c.seek.new.host Work in
    subst (λ (r : Result HeldSlot DiskFault). IfErr r (IsFault (h.tells Work) a b (IsSlotPlace rest) c.args.name)) (sym c.held_slot.ensures)
    (held-fault c.args.name rest (h.tells Work) a b c.in_ok-found.found c.in_ok-found.ensures.name (λ told.
    let s = c.requires.stands told in
    let e = held-there rest v s.0 s.1 s.2 c.args.name s.3 in
    (e.0, c.in_ok-found.ensures.found told ∙ e.1, place-there rest v s.0 s.1 s.2 c.args.name e.0 e.1)))

pub returns-clause-end : goal.returns-clause-end
returns-clause-end g c =
    let h = g.H.Host in
    let d = c.args.self.now.directory in
    subst (λ (r : Result HeldSlot DiskFault). IfOk r (λ held. EndsAt h c.args.host.now d c.args.name (Held held.at held.slot))) (sym c.held_slot.ensures)
    (held-end c.args.name (EndsAt h c.args.host.now d c.args.name) c.in_ok-found.found (c.in_ok-found.ensures.name, c.in_ok-found.ensures.at))
