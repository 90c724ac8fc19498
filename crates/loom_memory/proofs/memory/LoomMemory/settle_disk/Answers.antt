use Rattle.loom_memory.proofs.TimeLaws.{time-anew, time-alive}
use Rattle.std.proofs.Common.{Ok}
use Rattle.std.proofs.Common.{Some, ◌∙◌, ap, arith}
use Rattle.leaf_lambda.specs.declared.parts.Parts.{Parts}
use Rattle.leaf_lambda.specs.Parts.{spare_of}
use Rattle.loom_memory.specs.declared.ledger.Ledger.{Ledger}
use Rattle.loom_memory.specs.Residents.{fetched}
use Rattle.loom_memory.specs.Memory.{loom_told, loom_outside, others_of}
use Rattle.loom_memory.proofs.AddLaws.{room-most}
use Rattle.loom_memory.proofs.SettleLaws.{bodies-anew, rested-room, settled-some}
use Rattle.loom_host.specs.declared.outside.Role.TheVariants.{Work}
use Rattle.loom_memory.proofs.MindLaws.{minds-anew}
use Rattle.loom_memory.specs.Thinned.{is_thinned}
use Rattle.loom_memory.proofs.LivingLaws.{lasted-anew, never-ok}
use Rattle.loom_memory.proofs.memory.LoomMemory.settle_disk.Goals as goal

pub returns-in-Ok-clause-settles : goal.returns-in-Ok-clause-settles
unfolding loom_told is_thinned
returns-in-Ok-clause-settles g c = record {
  settled = settled-some (loom_told g.H.Host c.args.self.now) (loom_told g.H.Host c.thin_once.new.self) (loom_told g.H.Host c.count_anew.new.self) c.thin_once.new.self.ledger.held c.in-Ok.ensures.frees.thins.thinned c.count_anew.ensures.begun c.in-Ok.ensures.swept.count c.in-Ok.ensures.swept.again;
  none = ap (λ (k : Ledger). k.made) c.count_anew.ensures.ledger;
  minds = λ told. minds-anew g.H.Host c.args.self.now c.thin_once.new.self c.count_anew.new.self (Some c.thin_once.new.self.ledger.held) c.in-Ok.ensures.frees.thins.minds c.count_anew.ensures.same;
  bodies = λ told. bodies-anew c.args.self.now.pager.levels.parts (loom_told g.H.Host c.thin_once.new.self) (loom_told g.H.Host c.count_anew.new.self) (Some c.thin_once.new.self.ledger.held) c.thin_once.new.self.pager.levels.parts c.count_anew.new.self.pager.levels.parts c.count_anew.ensures.begun c.count_anew.ensures.parts (c.in-Ok.ensures.frees.bodies told);
  entries = let same = ap (λ (p : Parts). spare_of p) c.count_anew.ensures.parts in let less = c.in-Ok.ensures.frees.entries in omega (arith, same, less);
  due = time-anew g.H.Host c.args.self.now c.thin_once.new.self c.count_anew.new.self (Some c.thin_once.new.self.ledger.held) (time-alive {T = Unit {0}} (Ok tt) g.H.Host c.args.self.now c.thin_once.new.self c.in-Ok.ensures.swept.again) (ap (λ m. m.due) c.count_anew.ensures.same) c.count_anew.ensures.begun;
  flag = λ on. ap (λ m. m.thinned) c.count_anew.ensures.same ∙ c.in-Ok.ensures.swept.set;
}

pub overflow_add-self : goal.overflow_add-self
overflow_add-self g c = let most = room-most c.args.self.now.pager.levels.disk.rest in let roomy = c.requires.fit.sound.over.roomy in omega (arith, most, roomy)

pub returns-in-Ok-clause-leaves : goal.returns-in-Ok-clause-leaves
unfolding loom_outside fetched
returns-in-Ok-clause-leaves g c = record {
  sound = c.count_anew.ensures.sound;
  fetches = ap (λ (k : Ledger). k.fetches) c.count_anew.ensures.ledger ∙ ap (λ (k : Ledger). k.fetches) c.in-Ok.ensures.frees.ledger;
  lender = ap (λ d. d.host.ghost_name) c.count_anew.ensures.disk ∙ c.thin_once.ensures.leaves.lender;
  outside = ap (λ d. (λ r. others_of (g.H.Host.tells Work) r (g.H.Host.roles d.host.now r) (g.H.Host.faults d.host.now r))) c.count_anew.ensures.disk ∙ c.thin_once.ensures.leaves.outside;
}

pub returns-in-Ok-clause-rests : goal.returns-in-Ok-clause-rests
returns-in-Ok-clause-rests g c = λ room. absurd (let all = c.if-self-room.false in let is = c.room-room.ensures in omega (arith, room, all, is))

pub returns-in-Err-clause-rests : goal.returns-in-Err-clause-rests
returns-in-Err-clause-rests g c = λ room. absurd (let all = c.if-self-room.false in let is = c.room-room.ensures in omega (arith, room, all, is))

pub returns-then-self-room-clause-room : goal.returns-then-self-room-clause-room
returns-then-self-room-clause-room g c = λ room. rested-room c.settle_roomy.result c.args.self.now c.settle_roomy.new.self c.settle_roomy.ensures.base c.settle_roomy.ensures.rests

pub returns-then-self-room-clause-full : goal.returns-then-self-room-clause-full
returns-then-self-room-clause-full g c = λ less. absurd (let room = c.if-self-room.true in let is = c.room-room.ensures in omega (arith, less, room, is))

pub returns-then-self-room-clause-settles : goal.returns-then-self-room-clause-settles
returns-then-self-room-clause-settles g c = c.settle_roomy.ensures.settles

pub returns-then-self-room-clause-rests : goal.returns-then-self-room-clause-rests
returns-then-self-room-clause-rests g c = λ room. c.settle_roomy.ensures.rests

pub returns-then-self-room-clause-gone : goal.returns-then-self-room-clause-gone
returns-then-self-room-clause-gone g c = λ room. c.settle_roomy.ensures.gone

pub returns-in-Ok-clause-gone : goal.returns-in-Ok-clause-gone
returns-in-Ok-clause-gone g c = λ room. absurd (let all = c.if-self-room.false in let is = c.room-room.ensures in omega (arith, room, all, is))

pub returns-in-Ok-clause-thins : goal.returns-in-Ok-clause-thins
unfolding is_thinned
returns-in-Ok-clause-thins g c = λ full. ap (λ m. is_thinned m) c.count_anew.ensures.same ∙ c.in-Ok.ensures.swept.set

pub returns-in-Ok-clause-lasts : goal.returns-in-Ok-clause-lasts
returns-in-Ok-clause-lasts g c = λ full on. lasted-anew c.args.self.now c.thin_once.new.self c.count_anew.new.self (c.in-Ok.ensures.lasts on).1 c.count_anew.ensures.same

pub returns-in-Err-clause-lasts : goal.returns-in-Err-clause-lasts
returns-in-Err-clause-lasts g c = λ full on. absurd (never-ok c.in-Err.f (c.in-Err.ensures.lasts on).0)

pub returns-then-self-room-clause-thins : goal.returns-then-self-room-clause-thins
returns-then-self-room-clause-thins g c = λ less. absurd (let room = c.if-self-room.true in let is = c.room-room.ensures in omega (arith, less, room, is))

pub returns-then-self-room-clause-lasts : goal.returns-then-self-room-clause-lasts
returns-then-self-room-clause-lasts g c = λ less. absurd (let room = c.if-self-room.true in let is = c.room-room.ensures in omega (arith, less, room, is))
