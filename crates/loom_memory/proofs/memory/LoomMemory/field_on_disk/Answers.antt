use Rattle.loom_memory.proofs.TimeLaws.{stays-then, word-same}
use Rattle.loom_memory.proofs.ReachLaws.{done-short}
use Rattle.loom_memory.specs.Memory.{word_in}
use Rattle.std.proofs.Common.{refl, ◌∙◌}
use Rattle.long_names.specs.Access.{Field, Nothing}
use Rattle.loom_memory.specs.Memory.{loom_told}
use Rattle.loom_memory.proofs.AccessLaws.{refused-is}
use Rattle.loom_memory.proofs.MakingLaws.{thinned-ready}
use Rattle.loom_memory.proofs.LastLaws.{field-ready}
use Rattle.loom_memory.proofs.FreedLaws.{can-freed}
use Rattle.loom_memory.proofs.ReachLaws.{done-by, field-freed, freed-away, taken-heap}
use Rattle.long_names.specs.State.{name_at}
use Rattle.loom_memory.proofs.GentleLaws.{load-searched, then-searched}
use Rattle.purger.specs.Purge.{HasRoom}
use Rattle.loom_memory.specs.Damage.{words_read}
use Rattle.loom_memory.proofs.DamageLaws.{thinned-damage}
use Rattle.loom_memory.proofs.OneLaws.{brings-then}
use Rattle.loom_memory.proofs.memory.LoomMemory.field_on_disk.Goals as goal

pub take_field-requires-clause-fit : goal.take_field-requires-clause-fit
take_field-requires-clause-fit g c = record {
  sound = c.in-Ok.ensures.leaves.sound;
  ready = thinned-ready (loom_told g.H.Host c.args.self.now) (loom_told g.H.Host c.load_with_room.new.self) c.in-Ok.ensures.thins.thinned c.requires.fit.ready;
}

pub take_field-requires-clause-may : goal.take_field-requires-clause-may
unfolding loom_told
take_field-requires-clause-may g c = λ told. can-freed (loom_told g.H.Host c.args.self.now) (loom_told g.H.Host c.load_with_room.new.self) (Field c.args.to c.args.of c.args.i) c.args.of refl c.in-Ok.ensures.thins.thinned c.requires.may.heap told

pub take_field-requires-clause-there : goal.take_field-requires-clause-there
take_field-requires-clause-there g c = (c.in-Ok.ensures.here.loaded.at, c.in-Ok.ensures.here.loaded.place)

pub returns-in-Ok-clause-access : goal.returns-in-Ok-clause-access
returns-in-Ok-clause-access g c = field-freed c.take_field.result (loom_told g.H.Host c.args.self.now) (loom_told g.H.Host c.load_with_room.new.self) (loom_told g.H.Host c.take_field.new.self) c.args.to c.args.of c.args.i c.in-Ok.ensures.thins.thinned c.take_field.ensures.taken c.take_field.ensures.err (c.in-Ok.ensures.here.core (Field c.args.to c.args.of c.args.i) refl refl)

pub returns-in-Err-clause-access : goal.returns-in-Err-clause-access
returns-in-Err-clause-access g c = refused-is (loom_told g.H.Host c.args.self.now) (loom_told g.H.Host c.load_with_room.new.self) (Field c.args.to c.args.of c.args.i) (λ _. Nothing) c.in-Err.f (c.in-Err.ensures.err (Field c.args.to c.args.of c.args.i) refl refl tt)

pub returns-in-Ok-clause-fit : goal.returns-in-Ok-clause-fit
unfolding loom_told
returns-in-Ok-clause-fit g c = record {
  sound = c.take_field.ensures.leaves.sound;
  ready = field-ready c.take_field.result (loom_told g.H.Host c.load_with_room.new.self) (loom_told g.H.Host c.take_field.new.self) c.args.to c.args.of c.args.i (thinned-ready (loom_told g.H.Host c.args.self.now) (loom_told g.H.Host c.load_with_room.new.self) c.in-Ok.ensures.thins.thinned c.requires.fit.ready) c.take_field.ensures.taken (λ told. can-freed (loom_told g.H.Host c.args.self.now) (loom_told g.H.Host c.load_with_room.new.self) (Field c.args.to c.args.of c.args.i) c.args.of refl c.in-Ok.ensures.thins.thinned c.requires.may.heap told);
  lender = c.take_field.ensures.leaves.lender ∙ c.in-Ok.ensures.leaves.lender;
  outside = c.take_field.ensures.leaves.outside ∙ c.in-Ok.ensures.leaves.outside;
}

pub returns-in-Ok-clause-searched : goal.returns-in-Ok-clause-searched
returns-in-Ok-clause-searched g c =
    let m = c.args.self.now in
    let u = c.load_with_room.new.self in
    let load = c.in-Ok.ensures in
    then-searched c.take_field.result g.H.Host m u c.take_field.new.self (name_at ((loom_told g.H.Host m).regs c.args.of)) (load-searched g.H.Host m u c.args.of c.requires.fit.sound load.leaves.sound c.requires.may.names load.here.there load.counted (λ told leaf. (load.comes told leaf).gentle) load.idle load.thins.minds)
    c.take_field.ensures.peek c.load_with_room.new.self.pager.levels.whole.parts.core c.take_field.ensures.leaves.sound

pub returns-in-Ok-clause-damage : goal.returns-in-Ok-clause-damage
returns-in-Ok-clause-damage g c =
    let m = c.args.self.now in
    thinned-damage c.take_field.result g.H.Host m c.load_with_room.new.self c.args.of c.in-Ok.s.0 c.take_field.new.self.pager.levels.disk.rest (HasRoom m.pager.levels.parts (words_read c.take_field.new.self) 27) c.in-Ok.ensures.leaves.sound c.in-Ok.ensures.thins.thinned c.requires.may.names c.in-Ok.ensures.here.word c.take_field.ensures.damage

pub returns-in-Ok-clause-brings : goal.returns-in-Ok-clause-brings
returns-in-Ok-clause-brings g c = brings-then c.args.self.now c.load_with_room.new.self c.take_field.new.self _ c.load_with_room.ensures.brings c.take_field.ensures.leaves.fetches

pub returns-in-Ok-clause-gone : goal.returns-in-Ok-clause-gone
returns-in-Ok-clause-gone g c =
    let m = c.args.self.now in
    let u = c.load_with_room.new.self in
    done-by c.take_field.result g.H.Host m u c.take_field.new.self (name_at ((loom_told g.H.Host c.args.self.now).regs c.args.of)) (Field c.args.to c.args.of c.args.i) c.in-Ok.ensures.thins.thinned (freed-away g.H.Host m u c.args.of c.requires.fit.sound c.requires.may.names (λ told leaf. (c.in-Ok.ensures.comes told leaf).gone) c.in-Ok.ensures.thins.due c.in-Ok.ensures.thins.flag)
    (taken-heap c.take_field.result g.H.Host u c.take_field.new.self c.args.to c.args.of c.args.i c.take_field.ensures.taken)
    c.take_field.ensures.due (stays-then c.take_field.result m u c.take_field.new.self (word_in m.regs c.args.to) (word_in u.regs c.args.to) c.in-Ok.ensures.thins.flag (word-same m u c.args.to c.in-Ok.ensures.thins.regs) c.take_field.ensures.stays)

pub returns-in-Ok-clause-short : goal.returns-in-Ok-clause-short
returns-in-Ok-clause-short g c = done-short c.take_field.result g.H.Host c.args.self.now c.load_with_room.new.self c.take_field.new.self (Field c.args.to c.args.of c.args.i) c.in-Ok.ensures.thins.thinned c.in-Ok.ensures.entries (taken-heap c.take_field.result g.H.Host c.load_with_room.new.self c.take_field.new.self c.args.to c.args.of c.args.i c.take_field.ensures.taken)
