use Rattle.std.proofs.Common.{sym, subst, arith}
use Rattle.long_names.specs.Access.{Make, Nothing}
use Rattle.long_names.specs.Names.{IsName}
use Rattle.loom_memory.specs.Memory.{loom_told}
use Rattle.loom_memory.specs.New.{making_of}
use Rattle.loom_memory.proofs.AccessLaws.{refused-is}
use Rattle.loom_memory.proofs.AddLaws.{next-long, told-next}
use Rattle.object_memory.specs.declared.fault.MemFault.{MemFault}
use Rattle.loom_memory.specs.Makings.{OnCoreFull}
use Rattle.loom_memory.specs.Own.{IsAskedLast}
use Rattle.loom_memory.proofs.memory.LoomMemory.make_kind.Goals as goal

pub nameless-requires-clause-cause : goal.nameless-requires-clause-cause
unfolding loom_told
nameless-requires-clause-cause g c = λ told. let same = told-next g.H.Host c.args.self.now told in let past = c.if-next-ge-LAST_NAME.true in omega (arith, same, past)

pub returns-then-next-ge-LAST_NAME-clause-makes : goal.returns-then-next-ge-LAST_NAME-clause-makes
unfolding loom_told
returns-then-next-ge-LAST_NAME-clause-makes g c = record {
  access = refused-is (loom_told g.H.Host c.args.self.now) (loom_told g.H.Host c.nameless.new.self) (Make c.args.to c.args.class (making_of c.args.kind c.args.len c.args.header)) (λ _. Nothing) c.nameless.result
      (c.nameless.ensures.err c.args.to c.args.class (making_of c.args.kind c.args.len c.args.header));
  name = tt;
  there = tt;
  fetches = c.nameless.ensures.leaves.fetches;
  early = λ told low has. tt;
  own = tt;
  minds = tt;
  full = subst (λ (f : MemFault). OnCoreFull f (IsAskedLast g.H.Host c.args.self.now c.nameless.new.self)) (sym c.nameless.ensures.same) tt;
  spared = λ space. c.nameless.ensures.spared;
  sure = λ all. let same = told-next g.H.Host c.args.self.now all.told in let past = c.if-next-ge-LAST_NAME.true in let low = all.name in omega (arith, same, past, low);
  gone = tt;
}

pub nameless-requires-in-None-clause-cause : goal.nameless-requires-in-None-clause-cause
unfolding loom_told
nameless-requires-in-None-clause-cause g c = λ told.
    let m = c.args.self.now in
    let long = next-long g.H.Host m.pager.levels.parts m.pager.levels.disk.host.now m.pager.levels.disk.rest m.ledger.next c.requires.fit.sound.exact told in
    let is : IsName m.ledger.next = record { even = c.requires.fit.sound.over.based.even; above = omega (arith, long) } in
    let both = c.in-None.ensures.name.1 is in cc

pub returns-in-None-clause-makes : goal.returns-in-None-clause-makes
unfolding loom_told
returns-in-None-clause-makes g c = record {
  access = refused-is (loom_told g.H.Host c.args.self.now) (loom_told g.H.Host c.nameless-in-None.new.self) (Make c.args.to c.args.class (making_of c.args.kind c.args.len c.args.header)) (λ _. Nothing) c.nameless-in-None.result
      (c.nameless-in-None.ensures.err c.args.to c.args.class (making_of c.args.kind c.args.len c.args.header));
  name = tt;
  there = tt;
  fetches = c.nameless-in-None.ensures.leaves.fetches;
  early = λ told low has. tt;
  own = tt;
  minds = tt;
  full = subst (λ (f : MemFault). OnCoreFull f (IsAskedLast g.H.Host c.args.self.now c.nameless-in-None.new.self)) (sym c.nameless-in-None.ensures.same) tt;
  spared = λ space. c.nameless-in-None.ensures.spared;
  sure = λ all.
      let m = c.args.self.now in
      let long = next-long g.H.Host m.pager.levels.parts m.pager.levels.disk.host.now m.pager.levels.disk.rest m.ledger.next c.requires.fit.sound.exact all.told in
      let is : IsName m.ledger.next = record { even = c.requires.fit.sound.over.based.even; above = omega (arith, long) } in
      let both = c.in-None.ensures.name.1 is in cc;
  gone = tt;
}
