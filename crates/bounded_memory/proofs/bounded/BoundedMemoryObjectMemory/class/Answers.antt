use Rattle.std.proofs.Common.{refl}
use Rattle.long_names.specs.Access.{Class, Nothing}
use Rattle.bounded_memory.specs.Bounded.{bounded_told}
use Rattle.bounded_memory.proofs.MemoryLaws.{number-core, ready-below, may-below, not-fitting, forwards, stays-sound, ready-after}
use Rattle.bounded_memory.proofs.bounded.BoundedMemoryObjectMemory.class.Goals as goal

pub returns-then-is_some-clause-fit : goal.returns-then-is_some-clause-fit
returns-then-is_some-clause-fit c = record {
  sound = stays-sound c.args.self.now c.args.self.now c.class.new.self (Class c.args.to c.args.of) (λ _. Nothing) c.class.result (λ x. x) refl (λ regs slots. refl) refl c.requires.fit.ready c.requires.may c.requires.fit.sound c.class.ensures.access c.class.ensures.fit.ready;
  ready = ready-after c.args.self.now c.args.self.now c.class.new.self (Class c.args.to c.args.of) (λ _. Nothing) c.class.result refl c.requires.fit.ready c.class.ensures.access c.class.ensures.fit.ready;
  lender = refl;
  outside = refl;
}

pub returns-in_err-fits-clause-access : goal.returns-in_err-fits-clause-access
returns-in_err-fits-clause-access c =
    let e = c.in_err-fits.ensures in
    not-fitting c.args.self.now c.fits.new.self (Class c.args.to c.args.of) c.args.of (λ _. Nothing) c.from_residual.result c.in_err-fits.field-0.0 c.from_residual.ensures.1 refl refl (λ need told. refl) c.requires.fit.ready e.refused e.later e.full

pub class-requires-2-clause-fit : goal.class-requires-2-clause-fit
class-requires-2-clause-fit c = record { sound = tt; ready = ready-below c.args.self.now c.fits.new.self c.in_ok-fits.ensures.told c.requires.fit.ready }

pub class-requires-2-clause-may : goal.class-requires-2-clause-may
class-requires-2-clause-may c = may-below c.args.self.now c.fits.new.self (Class c.args.to c.args.of) c.in_ok-fits.ensures.told c.requires.may

pub returns-clause-access : goal.returns-clause-access
returns-clause-access c = forwards c.args.self.now c.fits.new.self c.class-2.new.self (Class c.args.to c.args.of) (λ _. Nothing) c.class-2.result (λ x. x) refl c.in_ok-fits.ensures.told (λ told. c.in_ok-fits.ensures.core) c.class-2.ensures.access

pub returns-clause-fit : goal.returns-clause-fit
returns-clause-fit c = record {
  sound = stays-sound c.args.self.now c.fits.new.self c.class-2.new.self (Class c.args.to c.args.of) (λ _. Nothing) c.class-2.result (λ x. x) refl (λ regs slots. refl) c.in_ok-fits.ensures.told c.requires.fit.ready c.requires.may c.in_ok-fits.ensures.sound c.class-2.ensures.access c.class-2.ensures.fit.ready;
  ready = ready-after c.args.self.now c.fits.new.self c.class-2.new.self (Class c.args.to c.args.of) (λ _. Nothing) c.class-2.result c.in_ok-fits.ensures.told c.requires.fit.ready c.class-2.ensures.access c.class-2.ensures.fit.ready;
  lender = refl;
  outside = refl;
}

pub returns-then-is_some-clause-access : goal.returns-then-is_some-clause-access
returns-then-is_some-clause-access c = forwards c.args.self.now c.args.self.now c.class.new.self (Class c.args.to c.args.of) (λ _. Nothing) c.class.result (λ x. x) refl refl (λ told. number-core (bounded_told c.args.self.now).heap ((bounded_told c.args.self.now).regs c.args.of) c.args.self.now.limits.core (let number = c.as_int.ensures.number in let some = c.is_some.ensures in let is = c.if-is_some.true in cc)) c.class.ensures.access
