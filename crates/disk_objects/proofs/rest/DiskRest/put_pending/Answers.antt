use Rattle.std.proofs.Common.{◌+◌, ℕ, List, subst}
use Rattle.loom_host.specs.Work.{work_of}
use Rattle.work_directory.specs.Table.{entry_of}
use Rattle.disk_objects.specs.Inside.{Touches}
use Rattle.loom_host.proofs.WorkLaws.{work-same}
use Rattle.disk_objects.proofs.FoundLaws.{disk-pended}
use Rattle.disk_objects.proofs.rest.DiskRest.put_pending.Goals as goal

pub find_held-requires : goal.find_held-requires
find_held-requires g c = record { stands = λ told. let s = c.requires.stands told in (s.0, s.1, s.2, s.3.0) }

pub returns-clause-put : goal.returns-clause-put
returns-clause-put g c told objects pending k idle =
    let h = g.H.Host in
    let found = c.in_ok-held.ensures.found told in
    let same = work-same h c.args.host.now c.find_held.new.host c.in_ok-held.ensures.read in
    disk-pended c.args.self.now (work_of h c.args.host.now) objects pending k (work_of h c.write_link.new.host) c.args.name _ (entry_of c.in_ok-held.held.slot)
    found idle.1 c.number_of.ensures
    (c.in_ok-write_link.ensures.link told)
    (subst (λ (v : List ℕ). Touches v (work_of h c.write_link.new.host) (c.in_ok-held.held.slot.place + 8) 8) same (c.in_ok-write_link.ensures.touches told))
