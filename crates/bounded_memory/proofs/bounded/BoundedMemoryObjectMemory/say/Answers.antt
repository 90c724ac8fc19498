use Rattle.std.proofs.Common.{refl}
use Rattle.long_names.specs.Access.{Say, Nothing}
use Rattle.bounded_memory.proofs.MemoryLaws.{ready-below, may-below, not-fitting, completes, completes-sound, completes-ready}
use Rattle.bounded_memory.proofs.bounded.BoundedMemoryObjectMemory.say.Goals as goal

pub returns-in_err-fits-clause-access : goal.returns-in_err-fits-clause-access
returns-in_err-fits-clause-access c =
    let e = c.in_err-fits.ensures in
    not-fitting c.args.self.now c.fits.new.self (Say c.args.of) c.args.of (λ _. Nothing) c.from_residual.result c.in_err-fits.field-0.0 c.from_residual.ensures.1 refl refl (λ need told. refl) c.requires.fit.ready e.refused e.later e.full

pub say-result-requires-clause-fit : goal.say-result-requires-clause-fit
say-result-requires-clause-fit c = record { sound = tt; ready = ready-below c.args.self.now c.fits.new.self c.in_ok-fits.ensures.told c.requires.fit.ready }

pub say-result-requires-clause-may : goal.say-result-requires-clause-may
say-result-requires-clause-may c = may-below c.args.self.now c.fits.new.self (Say c.args.of) c.in_ok-fits.ensures.told c.requires.may

pub returns-clause-access : goal.returns-clause-access
returns-clause-access c =
    let e = c.answered.ensures in
    completes c.args.self.now c.fits.new.self c.say-result.new.self c.answered.new.self (Say c.args.of) c.say-result.result c.answered.result refl c.in_ok-fits.ensures.told (λ told. c.in_ok-fits.ensures.core) c.say-result.ensures.access c.say-result.ensures.kept e.ok e.err e.told e.refusals e.faults

pub returns-clause-fit : goal.returns-clause-fit
returns-clause-fit c = record {
  sound = completes-sound c.args.self.now c.fits.new.self c.say-result.new.self c.answered.new.self (Say c.args.of) c.say-result.result c.answered.result (λ regs slots. refl) c.in_ok-fits.ensures.told c.requires.fit.ready c.requires.may c.in_ok-fits.ensures.sound c.say-result.ensures.access c.say-result.ensures.fit.ready c.answered.ensures.ok c.answered.ensures.err;
  ready = completes-ready c.args.self.now c.fits.new.self c.say-result.new.self c.answered.new.self (Say c.args.of) c.say-result.result c.answered.result c.in_ok-fits.ensures.told c.requires.fit.ready c.say-result.ensures.access c.say-result.ensures.fit.ready c.answered.ensures.ok;
  lender = refl;
  outside = refl;
}
