use Rattle.std.proofs.Common.{length, refl}
use Rattle.long_names.specs.Access.{ReadBytes, OfRun}
use Rattle.bounded_memory.proofs.MemoryLaws.{ready-below, may-below, not-fitting, forwards, stays-sound, ready-after}
use Rattle.bounded_memory.proofs.bounded.BoundedMemoryObjectMemory.read_bytes.Goals as goal

pub returns-in_err-fits-clause-access : goal.returns-in_err-fits-clause-access
returns-in_err-fits-clause-access c =
    let e = c.in_err-fits.ensures in
    not-fitting c.args.self.now c.fits.new.self (ReadBytes c.args.of c.args.at (length c.args.out.now)) c.args.of (λ _. OfRun c.args.out.now) c.from_residual.result c.in_err-fits.field-0.0 c.from_residual.ensures.1 refl refl (λ need told. refl) c.requires.fit.ready e.refused e.later e.full

pub read_bytes-requires-clause-fit : goal.read_bytes-requires-clause-fit
read_bytes-requires-clause-fit c = record { sound = tt; ready = ready-below c.args.self.now c.fits.new.self c.in_ok-fits.ensures.told c.requires.fit.ready }

pub read_bytes-requires-clause-may : goal.read_bytes-requires-clause-may
read_bytes-requires-clause-may c = may-below c.args.self.now c.fits.new.self (ReadBytes c.args.of c.args.at (length c.args.out.now)) c.in_ok-fits.ensures.told c.requires.may

pub returns-clause-access : goal.returns-clause-access
returns-clause-access c = forwards c.args.self.now c.fits.new.self c.read_bytes.new.self (ReadBytes c.args.of c.args.at (length c.args.out.now)) (λ _. OfRun c.read_bytes.new.out) c.read_bytes.result (λ x. x) refl c.in_ok-fits.ensures.told (λ told. c.in_ok-fits.ensures.core) c.read_bytes.ensures.access

pub returns-clause-fit : goal.returns-clause-fit
returns-clause-fit c = record {
  sound = stays-sound c.args.self.now c.fits.new.self c.read_bytes.new.self (ReadBytes c.args.of c.args.at (length c.args.out.now)) (λ _. OfRun c.read_bytes.new.out) c.read_bytes.result (λ x. x) refl (λ regs slots. refl) c.in_ok-fits.ensures.told c.requires.fit.ready c.requires.may c.in_ok-fits.ensures.sound c.read_bytes.ensures.access c.read_bytes.ensures.fit.ready;
  ready = ready-after c.args.self.now c.fits.new.self c.read_bytes.new.self (ReadBytes c.args.of c.args.at (length c.args.out.now)) (λ _. OfRun c.read_bytes.new.out) c.read_bytes.result c.in_ok-fits.ensures.told c.requires.fit.ready c.read_bytes.ensures.access c.read_bytes.ensures.fit.ready;
  lender = refl;
  outside = refl;
}
