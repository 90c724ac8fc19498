use Rattle.std.proofs.Common.{Ok}
use Rattle.loom_memory.proofs.TimeLaws.{time-anew, keeps-last}
use Rattle.std.proofs.Common.{None, ◌∙◌, ap, arith}
use Rattle.disk_objects.specs.Disk.{disk_room}
use Rattle.leaf_lambda.specs.declared.parts.Parts.{Parts}
use Rattle.leaf_lambda.specs.Parts.{spare_of}
use Rattle.loom_memory.specs.declared.ledger.Ledger.{Ledger}
use Rattle.loom_memory.specs.Memory.{loom_told, loom_outside, others_of}
use Rattle.loom_memory.specs.Residents.{fetched}
use Rattle.loom_host.specs.declared.outside.Role.TheVariants.{Work}
use Rattle.loom_memory.proofs.FirstRoomLaws.{alive-anew}
use Rattle.loom_memory.proofs.MindLaws.{minds-anew}
use Rattle.loom_memory.proofs.SettleLaws.{anew-rested, bodies-anew, numbers-none, settled-thin}
use Rattle.loom_memory.proofs.memory.LoomMemory.settle_roomy.Goals as goal

pub count_anew-requires-clause-numbers : goal.count_anew-requires-clause-numbers
count_anew-requires-clause-numbers g c =
    let u = c.free_first.new.self in
    numbers-none u.ledger.base u.ledger.made u.ledger.held u.ledger.next (disk_room u.pager.levels.disk.rest) c.in-Ok.ensures.leaves.sound.over.based (let less = c.in-Ok.ensures.frees.less in let same = c.in-Ok.ensures.frees.limit in let room = c.requires.room in omega (arith, less, same, room))

pub returns-in-Ok-clause-settles : goal.returns-in-Ok-clause-settles
returns-in-Ok-clause-settles g c = record {
  settled = settled-thin (loom_told g.H.Host c.args.self.now) (loom_told g.H.Host c.free_first.new.self) (loom_told g.H.Host c.count_anew.new.self) c.in-Ok.ensures.frees.thins.thinned c.count_anew.ensures.begun;
  none = ap (λ (k : Ledger). k.made) c.count_anew.ensures.ledger;
  minds = λ told. minds-anew g.H.Host c.args.self.now c.free_first.new.self c.count_anew.new.self None c.in-Ok.ensures.frees.thins.minds c.count_anew.ensures.same;
  bodies = λ told. bodies-anew c.args.self.now.pager.levels.parts (loom_told g.H.Host c.free_first.new.self) (loom_told g.H.Host c.count_anew.new.self) None c.free_first.new.self.pager.levels.parts c.count_anew.new.self.pager.levels.parts c.count_anew.ensures.begun c.count_anew.ensures.parts (c.in-Ok.ensures.frees.bodies told);
  entries = let same = ap (λ (p : Parts). spare_of p) c.count_anew.ensures.parts in let less = c.in-Ok.ensures.frees.entries in omega (arith, same, less);
  due = time-anew g.H.Host c.args.self.now c.free_first.new.self c.count_anew.new.self None c.in-Ok.ensures.frees.thins.due (ap (λ m. m.due) c.count_anew.ensures.same) c.count_anew.ensures.begun;
  flag = keeps-last {T = Unit {0}} (Ok tt) c.args.self.now c.free_first.new.self c.count_anew.new.self c.free_first.ensures.lasts (ap (λ m. m.thinned) c.count_anew.ensures.same);
}

pub returns-in-Ok-clause-leaves : goal.returns-in-Ok-clause-leaves
unfolding fetched loom_outside
returns-in-Ok-clause-leaves g c = record {
  sound = c.count_anew.ensures.sound;
  fetches = ap (λ (k : Ledger). k.fetches) c.count_anew.ensures.ledger ∙ ap (λ (k : Ledger). k.fetches) c.in-Ok.ensures.frees.ledger;
  lender = ap (λ d. d.host.ghost_name) c.count_anew.ensures.disk ∙ c.free_first.ensures.leaves.lender;
  outside = ap (λ d. (λ r. others_of (g.H.Host.tells Work) r (g.H.Host.roles d.host.now r) (g.H.Host.faults d.host.now r))) c.count_anew.ensures.disk ∙ c.free_first.ensures.leaves.outside;
}

pub returns-in-Ok-clause-rests : goal.returns-in-Ok-clause-rests
returns-in-Ok-clause-rests g c = λ enough. anew-rested c.args.self.now c.free_first.new.self c.count_anew.new.self (c.in-Ok.ensures.roomy (omega arith, enough)) c.count_anew.ensures.same

pub returns-in-Err-clause-rests : goal.returns-in-Err-clause-rests
returns-in-Err-clause-rests g c = λ enough. absurd (c.in-Err.ensures.sure (omega arith, enough))

pub returns-in-Ok-clause-gone : goal.returns-in-Ok-clause-gone
returns-in-Ok-clause-gone g c = λ lacks due. alive-anew (loom_told g.H.Host c.free_first.new.self) (loom_told g.H.Host c.count_anew.new.self) None c.count_anew.ensures.begun (c.in-Ok.ensures.gone lacks due)
