use Rattle.std.proofs.Common.{◌≡◌, true, false, refl, sym, ◌∙◌, arith}
use Rattle.loom_memory.proofs.TimeLaws.{alive-is, still-alive}
use Rattle.loom_memory.proofs.FirstRoomLaws.{freed-if}
use Rattle.loom_memory.proofs.SparedLaws.{err-each, ok-never}
use Rattle.delta_counts.proofs.LowerLaws.{ok-map}
use Rattle.loom_memory.specs.Effects.{HasSwept}
use Rattle.loom_memory.proofs.EffectLaws.{frees-refl}
use Rattle.loom_memory.proofs.memory.LoomMemory.free_first.Goals as goal

-- ---- nothing was freed

pub returns-then-has_room-clause-frees : goal.returns-then-has_room-clause-frees
returns-then-has_room-clause-frees g c = frees-refl g.H.Host c.args.self.now c.requires.fit.sound c.requires.fit.ready

pub returns-then-self-clause-frees : goal.returns-then-self-clause-frees
returns-then-self-clause-frees g c = frees-refl g.H.Host c.args.self.now c.requires.fit.sound c.requires.fit.ready

pub returns-then-self-2-clause-frees : goal.returns-then-self-2-clause-frees
returns-then-self-2-clause-frees g c = frees-refl g.H.Host c.args.self.now c.requires.fit.sound c.requires.fit.ready

-- ---- there was no room

pub returns-clause-roomy : goal.returns-clause-roomy
returns-clause-roomy g c = ok-never _ c.thin.result (λ room. c.has_room.ensures.lacks c.if-has_room.false room)

pub returns-clause-sure : goal.returns-clause-sure
returns-clause-sure g c = err-each c.thin.result (λ room. c.has_room.ensures.lacks c.if-has_room.false room)

-- ---- nothing dead is left

pub returns-then-has_room-clause-gone : goal.returns-then-has_room-clause-gone
returns-then-has_room-clause-gone g c = λ lacks. absurd (lacks (c.has_room.ensures.has c.if-has_room.true))

pub returns-then-self-clause-gone : goal.returns-then-self-clause-gone
returns-then-self-clause-gone g c = λ lacks due. alive-is g.H.Host c.args.self.now c.requires.fit.sound.thin c.if-self.true

pub returns-clause-gone : goal.returns-clause-gone
returns-clause-gone g c = freed-if c.thin.result g.H.Host c.args.self.now c.thin.new.self c.args.words c.args.entries (ok-map c.thin.result (λ (x : HasSwept g.H.Host c.args.self.now c.thin.new.self). x.again) c.thin.ensures.swept)

pub returns-then-self-2-clause-gone : goal.returns-then-self-2-clause-gone
returns-then-self-2-clause-gone g c = λ lacks due. absurd (let early = c.if-self-2.true in omega (arith, early, due))

-- ---- when it is looked for next

pub returns-then-has_room-clause-lasts : goal.returns-then-has_room-clause-lasts
returns-then-has_room-clause-lasts g c = λ on. refl

pub returns-then-self-clause-lasts : goal.returns-then-self-clause-lasts
returns-then-self-clause-lasts g c = λ on. refl

pub returns-then-self-2-clause-lasts : goal.returns-then-self-2-clause-lasts
returns-then-self-2-clause-lasts g c = λ on. refl

pub returns-clause-lasts : goal.returns-clause-lasts
returns-clause-lasts g c = λ on. absurd (let off = c.if-self.false in let both : true ≡ false = sym on ∙ off in cc)

pub returns-then-has_room-clause-still : goal.returns-then-has_room-clause-still
returns-then-has_room-clause-still g c = λ alive. alive

pub returns-then-self-clause-still : goal.returns-then-self-clause-still
returns-then-self-clause-still g c = λ alive. alive

pub returns-then-self-2-clause-still : goal.returns-then-self-2-clause-still
returns-then-self-2-clause-still g c = λ alive. alive

pub returns-clause-still : goal.returns-clause-still
returns-clause-still g c = still-alive c.thin.result g.H.Host c.args.self.now c.thin.new.self (ok-map c.thin.result (λ (x : HasSwept g.H.Host c.args.self.now c.thin.new.self). x.again) c.thin.ensures.swept)
