use Rattle.std.proofs.Common.{refl}
use Rattle.long_names.specs.Access.{Length, OfNumber}
use Rattle.bounded_memory.proofs.MemoryLaws.{ready-below, may-below, not-fitting, forwards, stays-sound, ready-after}
use Rattle.bounded_memory.proofs.bounded.BoundedMemoryObjectMemory.len.Goals as goal

pub returns-in_err-fits-clause-access : goal.returns-in_err-fits-clause-access
returns-in_err-fits-clause-access c =
    let e = c.in_err-fits.ensures in
    not-fitting c.args.self.now c.fits.new.self (Length c.args.of) c.args.of OfNumber c.from_residual.result c.in_err-fits.field-0.0 c.from_residual.ensures.1 refl refl (λ need told. refl) c.requires.fit.ready e.refused e.later e.full

pub len-requires-clause-fit : goal.len-requires-clause-fit
len-requires-clause-fit c = record { sound = tt; ready = ready-below c.args.self.now c.fits.new.self c.in_ok-fits.ensures.told c.requires.fit.ready }

pub len-requires-clause-may : goal.len-requires-clause-may
len-requires-clause-may c = may-below c.args.self.now c.fits.new.self (Length c.args.of) c.in_ok-fits.ensures.told c.requires.may

pub returns-clause-access : goal.returns-clause-access
returns-clause-access c = forwards c.args.self.now c.fits.new.self c.len.new.self (Length c.args.of) OfNumber c.len.result (λ x. x) refl c.in_ok-fits.ensures.told (λ told. c.in_ok-fits.ensures.core) c.len.ensures.access

pub returns-clause-fit : goal.returns-clause-fit
returns-clause-fit c = record {
  sound = stays-sound c.args.self.now c.fits.new.self c.len.new.self (Length c.args.of) OfNumber c.len.result (λ x. x) refl (λ regs slots. refl) c.in_ok-fits.ensures.told c.requires.fit.ready c.requires.may c.in_ok-fits.ensures.sound c.len.ensures.access c.len.ensures.fit.ready;
  ready = ready-after c.args.self.now c.fits.new.self c.len.new.self (Length c.args.of) OfNumber c.len.result c.in_ok-fits.ensures.told c.requires.fit.ready c.len.ensures.access c.len.ensures.fit.ready;
  lender = refl;
  outside = refl;
}
