use Rattle.std.proofs.Common.{refl, ap, ◌∙◌}
use Rattle.std.proofs.lemmas.Result.{on_ok_weaker}
use Rattle.work_directory.specs.declared.slot.Slot.{Slot}
use Rattle.work_directory.specs.Directory.{slots_of}
use Rattle.loom_host.specs.Work.{work_of}
use Rattle.work_directory.proofs.ChangeLaws.{replaced}
use Rattle.work_directory.proofs.directory.Directory.set_at.Goals as goal

pub returns-clause-set : goal.returns-clause-set
returns-clause-set g c =
    let h = g.H.Host in
    let d = c.args.self.now in
    let v = work_of h c.args.host.now in
    let of = c.requires.there.1.0 in
    on_ok_weaker c.put.result (λ wrote told.
    replaced d d v v (work_of h c.put.new.host) c.args.at c.args.slot refl (c.requires.stands told) refl of.2 of.0
    (wrote told (slots_of d) of.0) refl (λ block. refl)
    (ap (λ (s : Slot). s.name) (c.requires.there.1.1 told) ∙ of.1)) c.put.ensures.writes
