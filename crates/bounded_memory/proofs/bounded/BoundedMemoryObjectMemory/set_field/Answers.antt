use Rattle.std.proofs.Common.{refl}
use Rattle.long_names.specs.Access.{SetField, Nothing}
use Rattle.bounded_memory.proofs.MemoryLaws.{ready-below, may-below, not-fitting, forwards, stays-sound, ready-after}
use Rattle.bounded_memory.proofs.bounded.BoundedMemoryObjectMemory.set_field.Goals as goal

pub returns-in_err-fits-clause-access : goal.returns-in_err-fits-clause-access
returns-in_err-fits-clause-access c =
    let e = c.in_err-fits.ensures in
    not-fitting c.args.self.now c.fits.new.self (SetField c.args.of c.args.i c.args.from) c.args.of (λ _. Nothing) c.from_residual.result c.in_err-fits.field-0.0 c.from_residual.ensures.1 refl refl (λ need told. refl) c.requires.fit.ready e.refused e.later e.full

pub set_field-requires-clause-fit : goal.set_field-requires-clause-fit
set_field-requires-clause-fit c = record { sound = tt; ready = ready-below c.args.self.now c.fits.new.self c.in_ok-fits.ensures.told c.requires.fit.ready }

pub set_field-requires-clause-may : goal.set_field-requires-clause-may
set_field-requires-clause-may c = may-below c.args.self.now c.fits.new.self (SetField c.args.of c.args.i c.args.from) c.in_ok-fits.ensures.told c.requires.may

pub returns-clause-access : goal.returns-clause-access
returns-clause-access c = forwards c.args.self.now c.fits.new.self c.set_field.new.self (SetField c.args.of c.args.i c.args.from) (λ _. Nothing) c.set_field.result (λ x. x) refl c.in_ok-fits.ensures.told (λ told. c.in_ok-fits.ensures.core) c.set_field.ensures.access

pub returns-clause-fit : goal.returns-clause-fit
returns-clause-fit c = record {
  sound = stays-sound c.args.self.now c.fits.new.self c.set_field.new.self (SetField c.args.of c.args.i c.args.from) (λ _. Nothing) c.set_field.result (λ x. x) refl (λ regs slots. refl) c.in_ok-fits.ensures.told c.requires.fit.ready c.requires.may c.in_ok-fits.ensures.sound c.set_field.ensures.access c.set_field.ensures.fit.ready;
  ready = ready-after c.args.self.now c.fits.new.self c.set_field.new.self (SetField c.args.of c.args.i c.args.from) (λ _. Nothing) c.set_field.result c.in_ok-fits.ensures.told c.requires.fit.ready c.set_field.ensures.access c.set_field.ensures.fit.ready;
  lender = refl;
  outside = refl;
}
