use Rattle.std.proofs.Common.{◌≡◌, ◌⊎◌, ◌+◌, inr, ℕ, List, sym, subst, ap, ◌∙◌, refl}
use Rattle.long_names.specs.Names.{IsLongName}
use Rattle.loom_host.specs.declared.outside.Role.TheVariants.{Work}
use Rattle.loom_host.specs.Work.{work_of}
use Rattle.loom_host.proofs.WorkLaws.{work-same, exits}
use Rattle.work_directory.specs.Table.{entry_of}
use Rattle.work_space.specs.Blocks.{link_at}
use Rattle.disk_objects.specs.Calls.{IsFault}
use Rattle.disk_objects.specs.Disk.{link_to}
use Rattle.disk_objects.specs.Places.{IsReadPlace}
use Rattle.disk_objects.proofs.FaultLaws.{fault-wider, slot-read}
use Rattle.disk_objects.proofs.FoundLaws.{disk-taken, disk-none, first-held, link-sound, link-there, front-link}
use Rattle.disk_objects.proofs.rest.DiskRest.take_pending.Goals as goal

pub returns-in_default-clause-took : goal.returns-in_default-clause-took
returns-in_default-clause-took g c told objects pending k = disk-none c.args.self.now _ objects pending k _ refl c.in_default.is

pub find_held-requires : goal.find_held-requires
find_held-requires g c = record {
  stands = λ told.
      let s = c.requires.stands told in
      (s.0, s.1, s.2, first-held c.args.self.now (work_of g.H.Host c.args.host.now) s.0 s.1 s.2 c.in-Some.name c.in-Some.is c.get-word.ensures.name.above);
}

pub returns-in_err-held-clause-fault : goal.returns-in_err-held-clause-fault
returns-in_err-held-clause-fault g c =
    let h = g.H.Host in
    let fault = c.in_err-held.field-0.0 in
    let before : ℕ = h.faults c.args.host.now Work in
    let now : ℕ = h.faults c.find_held.new.host Work in
    exits c.from_residual.result fault
    (IsFault (h.tells Work) before now (IsReadPlace c.args.self.now) (link_to c.args.self.now.first))
    c.from_residual.ensures.1
    (subst (λ (n : ℕ). IsFault (h.tells Work) before now (IsReadPlace c.args.self.now) n fault) (sym (ap link_to c.in-Some.is))
    (fault-wider (h.tells Work) before now _ (IsReadPlace c.args.self.now) c.in-Some.name fault (slot-read c.args.self.now) c.in_err-held.ensures.fault))

pub returns-in_err-self-clause-fault : goal.returns-in_err-self-clause-fault
returns-in_err-self-clause-fault g c =
    let h = g.H.Host in
    let v : List ℕ = work_of h c.args.host.now in
    let name : ℕ = c.in-Some.name in
    let slot = c.in_ok-held.held.slot in
    let fault = c.in_err-self.field-0.0 in
    let before : ℕ = h.faults c.args.host.now Work in
    let now : ℕ = h.faults c.read_link.new.host Work in
    exits c.from_residual-in_err-self.result fault
    (IsFault (h.tells Work) before now (IsReadPlace c.args.self.now) (link_to c.args.self.now.first))
    c.from_residual-in_err-self.ensures.1
    (subst (λ (n : ℕ). IsFault (h.tells Work) before now (IsReadPlace c.args.self.now) n fault) (sym (ap link_to c.in-Some.is))
    (link-sound (link_at (work_of h c.find_held.new.host) (slot.place + 8)) (h.tells Work) before (h.faults c.find_held.new.host Work) now slot.place name (IsReadPlace c.args.self.now) fault
    (inr c.in_ok-held.ensures.place)
    (λ told.
    let s = c.requires.stands told in
    subst (λ (n : ℕ). (n ≡ 0) ⊎ IsLongName n)
    (sym (ap (λ (w : List ℕ). link_at w (slot.place + 8)) (work-same h c.args.host.now c.find_held.new.host c.in_ok-held.ensures.read)
    ∙ link-there c.args.self.now v s.0 s.1 s.2 name (entry_of slot) (c.in_ok-held.ensures.found told)))
    (front-link c.args.self.now v s.0 s.1 s.2 name c.in-Some.is c.get-word.ensures.name.above))
    c.in_ok-held.ensures.read.later c.in_err-self.ensures.fault))

pub returns-clause-took : goal.returns-clause-took
returns-clause-took g c told objects pending k =
    let h = g.H.Host in
    let slot = c.in_ok-held.held.slot in
    let first = work-same h c.args.host.now c.find_held.new.host c.in_ok-held.ensures.read in
    let second = work-same h c.find_held.new.host c.read_link.new.host c.in_ok-self.ensures.read in
    disk-taken c.args.self.now (work_of h c.args.host.now) objects pending k (work_of h c.read_link.new.host) c.in-Some.name (entry_of slot) c.in_ok-self.field-0
    (second ∙ first) c.in-Some.is (c.in_ok-held.ensures.found told)
    (ap (λ (w : List ℕ). link_at w (slot.place + 8)) (sym first) ∙ c.in_ok-self.ensures.link told)
