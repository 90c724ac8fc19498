use Rattle.std.proofs.Common.{refl}
use Rattle.long_names.specs.Access.{SetByte, Nothing}
use Rattle.bounded_memory.proofs.MemoryLaws.{ready-below, may-below, not-fitting, forwards, stays-sound, ready-after}
use Rattle.bounded_memory.proofs.bounded.BoundedMemoryObjectMemory.set_byte.Goals as goal

pub returns-in_err-fits-clause-access : goal.returns-in_err-fits-clause-access
returns-in_err-fits-clause-access c =
    let e = c.in_err-fits.ensures in
    not-fitting c.args.self.now c.fits.new.self (SetByte c.args.of c.args.i c.args.b) c.args.of (λ _. Nothing) c.from_residual.result c.in_err-fits.field-0.0 c.from_residual.ensures.1 refl refl (λ need told. refl) c.requires.fit.ready e.refused e.later e.full

pub set_byte-requires-clause-fit : goal.set_byte-requires-clause-fit
set_byte-requires-clause-fit c = record { sound = tt; ready = ready-below c.args.self.now c.fits.new.self c.in_ok-fits.ensures.told c.requires.fit.ready }

pub set_byte-requires-clause-may : goal.set_byte-requires-clause-may
set_byte-requires-clause-may c = may-below c.args.self.now c.fits.new.self (SetByte c.args.of c.args.i c.args.b) c.in_ok-fits.ensures.told c.requires.may

pub returns-clause-access : goal.returns-clause-access
returns-clause-access c = forwards c.args.self.now c.fits.new.self c.set_byte.new.self (SetByte c.args.of c.args.i c.args.b) (λ _. Nothing) c.set_byte.result (λ x. x) refl c.in_ok-fits.ensures.told (λ told. c.in_ok-fits.ensures.core) c.set_byte.ensures.access

pub returns-clause-fit : goal.returns-clause-fit
returns-clause-fit c = record {
  sound = stays-sound c.args.self.now c.fits.new.self c.set_byte.new.self (SetByte c.args.of c.args.i c.args.b) (λ _. Nothing) c.set_byte.result (λ x. x) refl (λ regs slots. refl) c.in_ok-fits.ensures.told c.requires.fit.ready c.requires.may c.in_ok-fits.ensures.sound c.set_byte.ensures.access c.set_byte.ensures.fit.ready;
  ready = ready-after c.args.self.now c.fits.new.self c.set_byte.new.self (SetByte c.args.of c.args.i c.args.b) (λ _. Nothing) c.set_byte.result c.in_ok-fits.ensures.told c.requires.fit.ready c.set_byte.ensures.access c.set_byte.ensures.fit.ready;
  lender = refl;
  outside = refl;
}
