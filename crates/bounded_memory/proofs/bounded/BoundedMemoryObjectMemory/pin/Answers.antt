use Rattle.std.proofs.Common.{Ok, refl}
use Rattle.long_names.specs.Access.{Pin, Nothing}
use Rattle.bounded_memory.proofs.MemoryLaws.{ready-below, may-below, not-fitting, forwards, pin-sound, ready-after}
use Rattle.bounded_memory.proofs.bounded.BoundedMemoryObjectMemory.pin.Goals as goal

pub returns-in_err-pin-clause-access : goal.returns-in_err-pin-clause-access
returns-in_err-pin-clause-access c =
    let e = c.in_err-pin.ensures in
    not-fitting c.args.self.now c.fits.new.self (Pin c.args.slot c.args.r) c.args.r (λ _. Nothing) c.from_residual.result c.in_err-pin.field-0.0 c.from_residual.ensures.1 refl refl (λ need told. refl) c.requires.fit.ready e.refused e.later e.full

pub pin-requires-clause-fit : goal.pin-requires-clause-fit
pin-requires-clause-fit c = record { sound = tt; ready = ready-below c.args.self.now c.fits.new.self c.in_ok-pin.ensures.told c.requires.fit.ready }

pub pin-requires-clause-may : goal.pin-requires-clause-may
pin-requires-clause-may c = may-below c.args.self.now c.fits.new.self (Pin c.args.slot c.args.r) c.in_ok-pin.ensures.told c.requires.may

pub returns-clause-access : goal.returns-clause-access
returns-clause-access c = forwards c.args.self.now c.fits.new.self c.pin.new.self (Pin c.args.slot c.args.r) (λ _. Nothing) (Ok c.in_ok-pin-2.field-0) (λ x. x) refl c.in_ok-pin.ensures.told (λ told. c.in_ok-pin.ensures.core) c.in_ok-pin-2.ensures.access

pub returns-clause-fit : goal.returns-clause-fit
returns-clause-fit c = record {
  sound = pin-sound c.args.self.now c.fits.new.self c.pin.new.self c.set.new.self c.args.slot c.args.r c.in_ok-pin.pin c.in_ok-pin-2.field-0 c.in_ok-pin.ensures.told c.requires.fit.ready c.requires.may c.in_ok-pin.ensures.sound c.in_ok-pin-2.ensures.access c.in_ok-pin-2.ensures.fit.ready c.in_ok-pin.ensures.pin c.set.ensures;
  ready = ready-after c.args.self.now c.fits.new.self c.pin.new.self (Pin c.args.slot c.args.r) (λ _. Nothing) (Ok c.in_ok-pin-2.field-0) c.in_ok-pin.ensures.told c.requires.fit.ready c.in_ok-pin-2.ensures.access c.in_ok-pin-2.ensures.fit.ready;
  lender = refl;
  outside = refl;
}
