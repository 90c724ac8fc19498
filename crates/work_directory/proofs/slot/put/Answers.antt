use Rattle.std.proofs.Common.{ap, ◌∙◌, subst}
use Rattle.std.proofs.lemmas.Result.{on_ok_weaker}
use Rattle.work_directory.specs.declared.slot.Slot.{Slot}
use Rattle.work_directory.specs.Inside.{Writes}
use Rattle.work_directory.specs.Slots.{slot_in}
use Rattle.loom_host.specs.Work.{work_of}
use Rattle.work_directory.proofs.SlotLaws.{slot_in-spelling}
use Rattle.work_directory.proofs.slot.put.Goals as goal

pub returns-clause-writes : goal.returns-clause-writes
returns-clause-writes g c =
    let v = work_of g.H.Host c.args.host.now in
    let w = work_of g.H.Host c.write.new.host in
    let is = ap slot_in c.spell.ensures.bytes ∙ slot_in-spelling c.args.slot.now c.spell.ensures.fits in
    on_ok_weaker c.write.result (λ wrote told n l. subst (λ (s : Slot). Writes v w n c.args.at s) is (wrote told n l))
    c.write.ensures.writes
