use Rattle.loom_memory.specs.Memory.{loom_told}
use Rattle.loom_memory.proofs.KnownLaws.{known-access, name-came, ready-named}
use Rattle.loom_memory.proofs.memory.LoomMemory.known.Goals as goal

pub put_name-requires-clause-named : goal.put_name-requires-clause-named
unfolding loom_told
put_name-requires-clause-named g c = λ told. c.requires.may.heap told

pub returns-clause-access : goal.returns-clause-access
returns-clause-access g c = known-access c.put_name.result (loom_told g.H.Host c.args.self.now) (loom_told g.H.Host c.put_name.new.self) c.args.to c.args.name c.put_name.ensures.naming c.put_name.ensures.err

pub returns-clause-name : goal.returns-clause-name
returns-clause-name g c = name-came c.put_name.result (loom_told g.H.Host c.args.self.now) (loom_told g.H.Host c.put_name.new.self) c.args.to c.args.name c.put_name.ensures.naming

pub returns-clause-fit : goal.returns-clause-fit
returns-clause-fit g c = record {
  sound = c.put_name.ensures.leaves.sound;
  ready = ready-named c.put_name.result (loom_told g.H.Host c.args.self.now) (loom_told g.H.Host c.put_name.new.self) c.args.to c.args.name c.put_name.ensures.naming (λ told. (c.requires.may.heap told).0) c.requires.fit.ready;
  lender = c.put_name.ensures.leaves.lender;
  outside = c.put_name.ensures.leaves.outside;
}
