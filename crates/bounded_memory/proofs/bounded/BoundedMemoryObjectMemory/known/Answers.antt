use Rattle.std.proofs.Common.{refl, arith}
use Rattle.long_names.specs.Access.{Known, Nothing}
use Rattle.bounded_memory.proofs.MemoryLaws.{stays-sound, forwards, ready-after}
use Rattle.bounded_memory.proofs.bounded.BoundedMemoryObjectMemory.known.Goals as goal

pub returns-clause-fit : goal.returns-clause-fit
returns-clause-fit c = record {
  sound = stays-sound c.args.self.now c.args.self.now c.known.new.self (Known c.args.to c.args.name) (λ _. Nothing) c.known.result (λ x. x) refl (λ regs slots. refl) refl c.requires.fit.ready c.requires.may c.requires.fit.sound c.known.ensures.access c.known.ensures.fit.ready;
  ready = ready-after c.args.self.now c.args.self.now c.known.new.self (Known c.args.to c.args.name) (λ _. Nothing) c.known.result refl c.requires.fit.ready c.known.ensures.access c.known.ensures.fit.ready;
  lender = refl;
  outside = refl;
}

pub returns-clause-access : goal.returns-clause-access
returns-clause-access c = forwards c.args.self.now c.args.self.now c.known.new.self (Known c.args.to c.args.name) (λ _. Nothing) c.known.result (λ x. x) refl refl (λ told. omega arith) c.known.ensures.access
