use Rattle.std.proofs.Common.{refl, ap, ◌∙◌}
use Rattle.std.proofs.lemmas.Result.{on_ok_weaker, IfErr-weaker}
use Rattle.work_directory.specs.declared.slot.Slot.{Slot}
use Rattle.work_directory.specs.Directory.{slots_of}
use Rattle.work_directory.specs.Inside.{IsWriteCause}
use Rattle.work_directory.specs.Work.{IsCause}
use Rattle.loom_host.specs.Work.{work_of}
use Rattle.work_directory.proofs.CauseLaws.{damaged-cause, write-cause}
use Rattle.work_directory.proofs.ChangeLaws.{found-vacant, none-there, replaced}
use Rattle.loom_host.proofs.WorkLaws.{work-same}
use Rattle.work_directory.proofs.directory.Directory.set.Goals as goal

pub returns-in-Held-clause-set : goal.returns-in-Held-clause-set
returns-in-Held-clause-set g c =
    let h = g.H.Host in
    let d = c.args.self.now in
    let of = rw c.in-Held.is at c.in_ok-at.ensures.name in
    on_ok_weaker c.put.result (λ wrote told.
    let here = rw c.in-Held.is at (c.in_ok-at.ensures.found told) in
    replaced d d (work_of h c.args.host.now) (work_of h c.search.new.host) (work_of h c.put.new.host) c.in-Held.at c.args.slot
    (work-same h c.args.host.now c.search.new.host c.in_ok-at.ensures.read) (c.requires.stands told) refl of.2 of.0
    (wrote told (slots_of d) of.0) refl (λ block. refl)
    (ap (λ (s : Slot). s.name) here ∙ of.1)) c.put.ensures.writes

pub returns-in-Held-clause-cause : goal.returns-in-Held-clause-cause
returns-in-Held-clause-cause g c =
    let h = g.H.Host in
    IfErr-weaker c.put.result (IsWriteCause h c.search.new.host c.put.new.host)
    (IsCause h c.args.host.now c.put.new.host (slots_of c.args.self.now) c.args.slot.name)
    (λ fault. write-cause h c.args.host.now c.search.new.host c.put.new.host (slots_of c.args.self.now) c.args.slot.name fault
    c.in_ok-at.ensures.read.later) c.put.ensures.cause

-- the name is held, so the search doesn't meet an empty slot first
pub returns-in-Vacant-clause-cause : goal.returns-in-Vacant-clause-cause
returns-in-Vacant-clause-cause g c =
    let h = g.H.Host in
    let d = c.args.self.now in
    let of = rw c.in-Vacant.is at c.in_ok-at.ensures.name in
    damaged-cause h c.args.host.now c.search.new.host (slots_of d) c.in-Vacant.at c.args.slot.name c.damaged.result c.damaged.ensures of.0
    (λ told.
    let vacancy = rw c.in-Vacant.is at (c.in_ok-at.ensures.found told) in
    none-there _ (found-vacant d (work_of h c.args.host.now) c.args.slot.name c.in-Vacant.at (c.requires.stands told) of.1 vacancy)
    (c.requires.there told))
