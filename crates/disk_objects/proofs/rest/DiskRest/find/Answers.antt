use Rattle.std.proofs.Common.{◌≡◌, ℕ, List, Result, IfOk, IfErr, IsTrue, sym, subst, ◌∙◌}
use Rattle.std.specs.FinMap as map
use Rattle.loom_host.specs.declared.outside.DiskFault.{DiskFault}
use Rattle.loom_host.specs.declared.outside.Role.TheVariants.{Work}
use Rattle.loom_host.specs.Work.{work_of}
use Rattle.work_directory.specs.declared.directory.Found.{Found}
use Rattle.work_directory.specs.Directory.{EndsAt, entries_of, found_entry}
use Rattle.disk_objects.specs.Calls.{IsFault}
use Rattle.disk_objects.specs.Inside.{IsPlaced}
use Rattle.disk_objects.specs.Places.{IsSlotPlace}
use Rattle.disk_objects.proofs.FaultLaws.{found-end, found-fault, found-place}
use Rattle.disk_objects.proofs.FoundLaws.{place-there}
use Rattle.disk_objects.proofs.rest.DiskRest.find.Goals as goal

pub returns-clause-found : goal.returns-clause-found
returns-clause-found g c =
    let h = g.H.Host in
    let v : List ℕ = work_of h c.args.host.now in
    let d = c.args.self.now.directory in
    subst (λ (r : Result Found DiskFault). IfOk r (λ f. IsTrue (h.tells Work) → found_entry f ≡ map.get (entries_of d v) c.args.name)) (sym c.check_place.ensures)
    (found-end c.args.name (λ f. IsTrue (h.tells Work) → found_entry f ≡ map.get (entries_of d v) c.args.name) c.in_ok-found.found c.in_ok-found.ensures.found)

pub returns-clause-end : goal.returns-clause-end
returns-clause-end g c =
    let h = g.H.Host in
    let d = c.args.self.now.directory in
    subst (λ (r : Result Found DiskFault). IfOk r (EndsAt h c.args.host.now d c.args.name)) (sym c.check_place.ensures)
    (found-end c.args.name (EndsAt h c.args.host.now d c.args.name) c.in_ok-found.found (c.in_ok-found.ensures.name, c.in_ok-found.ensures.at))

pub returns-clause-place : goal.returns-clause-place
returns-clause-place g c =
    subst (λ (r : Result Found DiskFault). IfOk r IsPlaced) (sym c.check_place.ensures) (found-place c.args.name c.in_ok-found.found)

pub returns-clause-fault : goal.returns-clause-fault
returns-clause-fault g c =
    let h = g.H.Host in
    let rest = c.args.self.now in
    let a : ℕ = h.faults c.args.host.now Work in
    let b : ℕ = h.faults c.seek.new.host Work in
    subst (λ (r : Result Found DiskFault). IfErr r (IsFault (h.tells Work) a b (IsSlotPlace rest) c.args.name)) (sym c.check_place.ensures)
    (found-fault c.args.name rest (h.tells Work) a b c.in_ok-found.found c.in_ok-found.ensures.name (λ told e is.
    let s = c.requires.stands told in
    place-there rest (work_of h c.args.host.now) s.0 s.1 s.2 c.args.name e (sym (c.in_ok-found.ensures.found told) ∙ is)))
