use Rattle.loom_memory.proofs.ReachLaws.{done-short, stored-stays}
use Rattle.std.proofs.Common.{◌≡◌, refl, ◌∙◌}
use Rattle.long_names.specs.Access.{SetField, Nothing}
use Rattle.loom_memory.specs.Memory.{loom_told}
use Rattle.loom_memory.proofs.AccessLaws.{refused-is}
use Rattle.loom_memory.proofs.MakingLaws.{thinned-ready}
use Rattle.loom_memory.proofs.FreedLaws.{can-freed}
use Rattle.loom_memory.proofs.ReachLaws.{done-by, store-freed, stored-heap}
use Rattle.loom_memory.proofs.StoreLaws.{store-ready}
use Rattle.long_names.specs.State.{name_at}
use Rattle.loom_memory.proofs.GentleLaws.{then-change}
use Rattle.loom_memory.proofs.KeepingLaws.{then-keeps}
use Rattle.purger.specs.Purge.{HasRoom}
use Rattle.loom_memory.specs.Damage.{words_read}
use Rattle.loom_memory.proofs.DamageLaws.{thinned-damage}
use Rattle.loom_memory.proofs.MindLaws.{minds-found}
use Rattle.loom_memory.proofs.OneLaws.{brings-then}
use Rattle.loom_memory.proofs.memory.LoomMemory.set_field_on_disk.Goals as goal

pub store_field-requires-clause-fit : goal.store_field-requires-clause-fit
store_field-requires-clause-fit g c = record {
  sound = c.in-Ok.ensures.leaves.sound;
  ready = thinned-ready (loom_told g.H.Host c.args.self.now) (loom_told g.H.Host c.open_with_room.new.self) c.in-Ok.ensures.thinned c.requires.fit.ready;
}

pub store_field-requires-clause-may : goal.store_field-requires-clause-may
unfolding loom_told
store_field-requires-clause-may g c = λ told. can-freed (loom_told g.H.Host c.args.self.now) (loom_told g.H.Host c.open_with_room.new.self) (SetField c.args.of c.args.i c.args.from) c.args.of refl c.in-Ok.ensures.thinned c.requires.may.heap told

pub returns-in-Ok-clause-access : goal.returns-in-Ok-clause-access
returns-in-Ok-clause-access g c = store-freed c.store_field.result (loom_told g.H.Host c.args.self.now) (loom_told g.H.Host c.open_with_room.new.self) (loom_told g.H.Host c.store_field.new.self) (SetField c.args.of c.args.i c.args.from) c.args.of refl tt refl refl c.in-Ok.ensures.thinned c.store_field.ensures.stored c.store_field.ensures.err (c.in-Ok.ensures.opened.core (SetField c.args.of c.args.i c.args.from) refl refl)

pub returns-in-Err-clause-access : goal.returns-in-Err-clause-access
returns-in-Err-clause-access g c = refused-is (loom_told g.H.Host c.args.self.now) (loom_told g.H.Host c.open_with_room.new.self) (SetField c.args.of c.args.i c.args.from) (λ _. Nothing) c.in-Err.f (c.in-Err.ensures.err (SetField c.args.of c.args.i c.args.from) refl refl tt)

pub returns-in-Ok-clause-fit : goal.returns-in-Ok-clause-fit
returns-in-Ok-clause-fit g c = record {
  sound = c.store_field.ensures.leaves.sound;
  ready = store-ready c.store_field.result (loom_told g.H.Host c.open_with_room.new.self) (loom_told g.H.Host c.store_field.new.self) (SetField c.args.of c.args.i c.args.from) refl (thinned-ready (loom_told g.H.Host c.args.self.now) (loom_told g.H.Host c.open_with_room.new.self) c.in-Ok.ensures.thinned c.requires.fit.ready) c.store_field.ensures.stored;
  lender = c.store_field.ensures.leaves.lender ∙ c.in-Ok.ensures.leaves.lender;
  outside = c.store_field.ensures.leaves.outside ∙ c.in-Ok.ensures.leaves.outside;
}

pub returns-in-Ok-clause-searched : goal.returns-in-Ok-clause-searched
returns-in-Ok-clause-searched g c =
    let m = c.args.self.now in
    then-change c.store_field.result g.H.Host m c.open_with_room.new.self c.store_field.new.self (name_at ((loom_told g.H.Host m).regs c.args.of)) c.in-Ok.ensures.searched c.store_field.ensures.glance c.open_with_room.new.self.pager.levels.whole.parts.core c.store_field.ensures.leaves.sound

pub returns-in-Ok-clause-cached : goal.returns-in-Ok-clause-cached
returns-in-Ok-clause-cached g c = then-keeps c.store_field.result g.H.Host c.args.self.now c.open_with_room.new.self c.store_field.new.self c.in-Ok.ensures.cached c.store_field.ensures.cached

pub returns-in-Ok-clause-damage : goal.returns-in-Ok-clause-damage
returns-in-Ok-clause-damage g c =
    let m = c.args.self.now in
    thinned-damage c.store_field.result g.H.Host m c.open_with_room.new.self c.args.of c.in-Ok.s.0 c.store_field.new.self.pager.levels.disk.rest (HasRoom m.pager.levels.parts (words_read c.store_field.new.self) 27) c.in-Ok.ensures.leaves.sound c.in-Ok.ensures.thinned c.requires.may.names c.in-Ok.ensures.opened.word c.store_field.ensures.damage

pub returns-in-Ok-clause-minds : goal.returns-in-Ok-clause-minds
returns-in-Ok-clause-minds g c =
    let n = name_at ((loom_told g.H.Host c.args.self.now).regs c.args.of) in
    minds-found c.store_field.result g.H.Host c.args.self.now c.open_with_room.new.self c.store_field.new.self (λ k. k ≡ n) c.in-Ok.ensures.minds c.open_with_room.new.self.pager.levels.whole.parts.core c.store_field.ensures.leaves.sound c.store_field.ensures.glance c.store_field.ensures.none c.store_field.ensures.cached

pub returns-in-Ok-clause-brings : goal.returns-in-Ok-clause-brings
returns-in-Ok-clause-brings g c = brings-then c.args.self.now c.open_with_room.new.self c.store_field.new.self _ c.open_with_room.ensures.brings c.store_field.ensures.leaves.fetches

pub returns-in-Ok-clause-gone : goal.returns-in-Ok-clause-gone
returns-in-Ok-clause-gone g c = done-by c.store_field.result g.H.Host c.args.self.now c.open_with_room.new.self c.store_field.new.self (name_at ((loom_told g.H.Host c.args.self.now).regs c.args.of)) (SetField c.args.of c.args.i c.args.from) c.in-Ok.ensures.thinned c.in-Ok.ensures.freed (stored-heap c.store_field.result g.H.Host c.open_with_room.new.self c.store_field.new.self (SetField c.args.of c.args.i c.args.from) c.store_field.ensures.stored) c.store_field.ensures.due (stored-stays c.store_field.result)

pub returns-in-Ok-clause-short : goal.returns-in-Ok-clause-short
returns-in-Ok-clause-short g c = done-short c.store_field.result g.H.Host c.args.self.now c.open_with_room.new.self c.store_field.new.self (SetField c.args.of c.args.i c.args.from) c.in-Ok.ensures.thinned c.in-Ok.ensures.entries (stored-heap c.store_field.result g.H.Host c.open_with_room.new.self c.store_field.new.self (SetField c.args.of c.args.i c.args.from) c.store_field.ensures.stored)
