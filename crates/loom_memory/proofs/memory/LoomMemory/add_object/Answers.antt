use Rattle.std.proofs.Common.{◌∙◌, sym, ap, arith}
use Rattle.leaf_lambda.specs.Parts.{core_of}
use Rattle.loom_memory.specs.declared.ledger.Ledger.{Ledger}
use Rattle.loom_memory.specs.Residents.{fetched}
use Rattle.loom_memory.proofs.AddLaws.{added-is, added-sound, name-new, next-absent, next-long, room-most, short-class}
use Rattle.loom_memory.proofs.MadeLaws.{entry-resident}
use Rattle.loom_memory.proofs.RegLaws.{few-held, kept-rooted}
use Rattle.loom_memory.proofs.GentleLaws.{calm-remains}
use Rattle.loom_memory.proofs.KeepingLaws.{counts-keep}
use Rattle.loom_memory.proofs.MindLaws.{minds-made}
use Rattle.std.proofs.Common.{refl}
use Rattle.loom_memory.proofs.WholeLaws.{made-whole}
use Rattle.loom_memory.proofs.memory.LoomMemory.add_object.Goals as goal

pub make_object-requires-clause-light : goal.make_object-requires-clause-light
make_object-requires-clause-light g c = λ t. let m = c.args.self.now in few-held (core_of m.pager.levels.parts) m.regs m.pager.pinned t (kept-rooted m.pager.levels.parts m.regs m.pager.pinned m.ledger m.pager.levels.whole c.requires.fit.sound.kept) c.requires.fit.sound.kept.many

pub make_object-requires-clause-class : goal.make_object-requires-clause-class
make_object-requires-clause-class g c = c.word_of.ensures.used (short-class g.H.Host c.args.self.now c.args.class c.word_of.result c.word_of.ensures.some c.word_of.ensures.word c.requires.class)

pub count_making-requires-clause-held : goal.count_making-requires-clause-held
count_making-requires-clause-held g c = let low = c.requires.held in let most = room-most c.args.self.now.pager.levels.disk.rest in omega (arith, low, most)

pub returns-in-Some-clause-cached : goal.returns-in-Some-clause-cached
returns-in-Some-clause-cached g c =
    let count = c.count_making.ensures in
    counts-keep g.H.Host c.args.self.now _ c.requires.fit.sound c.in-Some.ensures.parts.core c.in-Some.ensures.made.marks (ap (λ (k : Ledger). k.rows) count) (ap (λ (k : Ledger). k.mark) count) (ap (λ (k : Ledger). k.begun) count)

pub returns-in-Some-clause-sound : goal.returns-in-Some-clause-sound
returns-in-Some-clause-sound g c =
    let m = c.args.self.now in
    added-sound g.H.Host m c.make_object.new.p _ c.count_making.new.self c.word_of.result c.args.kind c.args.len c.args.header c.in-Some.new.0 c.requires.fit.sound c.in-Some.ensures.parts c.make_object.ensures.size
    (name-new (core_of m.pager.levels.parts) (core_of c.make_object.new.p) c.args.name m.ledger.next c.word_of.result c.args.kind c.args.len c.args.header c.in-Some.new.0 c.requires.name.next c.in-Some.ensures.made)
    c.requires.held (let next = c.requires.name.next in let low = c.requires.name.low in omega (arith, next, low))
    (λ t is x few next. c.in-Some.ensures.sound t is x few (next ∙ c.requires.name.next)) c.count_making.ensures

pub returns-in-Some-clause-adds : goal.returns-in-Some-clause-adds
returns-in-Some-clause-adds g c = record {
  added =
      let m = c.args.self.now in
      added-is g.H.Host m c.make_object.new.p _ c.count_making.new.self c.args.class c.word_of.result c.args.kind c.args.len c.args.header c.in-Some.new.0 c.requires.fit.sound c.in-Some.ensures.parts
      (name-new (core_of m.pager.levels.parts) (core_of c.make_object.new.p) c.args.name m.ledger.next c.word_of.result c.args.kind c.args.len c.args.header c.in-Some.new.0 c.requires.name.next c.in-Some.ensures.made)
      c.word_of.ensures.word (short-class g.H.Host m c.args.class c.word_of.result c.word_of.ensures.some c.word_of.ensures.word c.requires.class) c.count_making.ensures;
  entry = c.in-Some.ensures.made.entry;
  there = entry-resident _ c.in-Some.new.0 c.args.name c.in-Some.ensures.parts.core c.in-Some.ensures.made.entry c.in-Some.ensures.body;
  remains = calm-remains (core_of c.args.self.now.pager.levels.parts) (core_of c.make_object.new.p) c.in-Some.ensures.made.calm;
  minds = minds-made g.H.Host c.args.self.now _ c.in-Some.new.0 c.args.name c.requires.fit.sound (returns-in-Some-clause-sound g c) c.in-Some.ensures.made.entry.named c.in-Some.ensures.made.others (returns-in-Some-clause-cached g c);
}

pub returns-in-None-clause-none : goal.returns-in-None-clause-none
returns-in-None-clause-none g c = λ told.
    let m = c.args.self.now in
    let next = c.requires.name.next in
    let long = next-long g.H.Host m.pager.levels.parts m.pager.levels.disk.host.now m.pager.levels.disk.rest m.ledger.next c.requires.fit.sound.exact told in
    c.in-None.ensures.none (ap (core_of m.pager.levels.parts).find (sym c.requires.name.next) ∙ (next-absent g.H.Host m.pager.levels.parts m.pager.levels.disk.host.now m.pager.levels.disk.rest m.ledger.next c.requires.fit.sound.exact told).0)
    (λ e. omega (arith, next, long, e))

pub returns-in-Some-clause-fetches : goal.returns-in-Some-clause-fetches
unfolding fetched
returns-in-Some-clause-fetches g c = ap (λ (k : Ledger). k.fetches) c.count_making.ensures

pub returns-in-None-clause-fetches : goal.returns-in-None-clause-fetches
unfolding fetched
returns-in-None-clause-fetches g c = refl

pub invariant_of-levels : goal.invariant_of-levels
invariant_of-levels g c = let l = c.args.self.now.pager.levels in record { whole = made-whole c.make_object.result l.parts c.make_object.new.p c.args.name c.word_of.result c.args.kind c.args.len c.args.header l.whole c.make_object.ensures.parts c.make_object.ensures.made c.make_object.ensures.readied }
