use Rattle.std.proofs.Common.{refl, arith}
use Rattle.long_names.specs.Access.{Mark}
use Rattle.bounded_memory.proofs.MemoryLaws.{completes-sound, completes, completes-ready}
use Rattle.bounded_memory.proofs.bounded.BoundedMemoryObjectMemory.mark.Goals as goal

pub returns-clause-fit : goal.returns-clause-fit
returns-clause-fit c = record {
  sound = completes-sound c.args.self.now c.args.self.now c.mark-result.new.self c.answered.new.self (Mark c.args.r) c.mark-result.result c.answered.result (λ regs slots. refl) refl c.requires.fit.ready c.requires.may c.requires.fit.sound c.mark-result.ensures.access c.mark-result.ensures.fit.ready c.answered.ensures.ok c.answered.ensures.err;
  ready = completes-ready c.args.self.now c.args.self.now c.mark-result.new.self c.answered.new.self (Mark c.args.r) c.mark-result.result c.answered.result refl c.requires.fit.ready c.mark-result.ensures.access c.mark-result.ensures.fit.ready c.answered.ensures.ok;
  lender = refl;
  outside = refl;
}

pub returns-clause-access : goal.returns-clause-access
returns-clause-access c =
    let e = c.answered.ensures in
    completes c.args.self.now c.args.self.now c.mark-result.new.self c.answered.new.self (Mark c.args.r) c.mark-result.result c.answered.result refl refl (λ told. omega arith) c.mark-result.ensures.access c.mark-result.ensures.kept e.ok e.err e.told e.refusals e.faults
