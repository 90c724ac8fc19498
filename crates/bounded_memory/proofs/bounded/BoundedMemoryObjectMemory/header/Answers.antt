use Rattle.std.proofs.Common.{◌≡◌, Some, IsTrue, length, refl, subst}
use Rattle.std.specs.Result.{IfOk}
use Rattle.long_names.specs.Access.{Header, OfSigned}
use Rattle.long_names.specs.Objects.{fields_of}
use Rattle.long_names.specs.State.{part_at}
use Rattle.long_names.specs.Words.{literal_count}
use Rattle.object_memory.specs.Told.{Told}
use Rattle.bounded_memory.proofs.MemoryLaws.{ready-below, may-below, not-fitting, forwards, stays-sound, ready-after}
use Rattle.bounded_memory.proofs.bounded.BoundedMemoryObjectMemory.header.Goals as goal

pub returns-in_err-fits-clause-access : goal.returns-in_err-fits-clause-access
returns-in_err-fits-clause-access c =
    let e = c.in_err-fits.ensures in
    not-fitting c.args.self.now c.fits.new.self (Header c.args.of) c.args.of OfSigned c.from_residual.result c.in_err-fits.field-0.0 c.from_residual.ensures.1 refl refl (λ need told. refl) c.requires.fit.ready e.refused e.later e.full

pub header-requires-clause-fit : goal.header-requires-clause-fit
header-requires-clause-fit c = record { sound = tt; ready = ready-below c.args.self.now c.fits.new.self c.in_ok-fits.ensures.told c.requires.fit.ready }

pub header-requires-clause-may : goal.header-requires-clause-may
header-requires-clause-may c = may-below c.args.self.now c.fits.new.self (Header c.args.of) c.in_ok-fits.ensures.told c.requires.may

pub returns-clause-access : goal.returns-clause-access
returns-clause-access c = forwards c.args.self.now c.fits.new.self c.header.new.self (Header c.args.of) OfSigned c.header.result (λ x. x) refl c.in_ok-fits.ensures.told (λ told. c.in_ok-fits.ensures.core) c.header.ensures.access

pub returns-clause-fit : goal.returns-clause-fit
returns-clause-fit c = record {
  sound = stays-sound c.args.self.now c.fits.new.self c.header.new.self (Header c.args.of) OfSigned c.header.result (λ x. x) refl (λ regs slots. refl) c.in_ok-fits.ensures.told c.requires.fit.ready c.requires.may c.in_ok-fits.ensures.sound c.header.ensures.access c.header.ensures.fit.ready;
  ready = ready-after c.args.self.now c.fits.new.self c.header.new.self (Header c.args.of) OfSigned c.header.result c.in_ok-fits.ensures.told c.requires.fit.ready c.header.ensures.access c.header.ensures.fit.ready;
  lender = refl;
  outside = refl;
}

pub returns-clause-literals : goal.returns-clause-literals
returns-clause-literals c = subst (λ (t : Told). IfOk c.header.result (λ z. IsTrue t.tells → part_at t.heap (t.regs c.args.of) (λ b. Some (length (fields_of b))) ≡ Some (literal_count z))) c.in_ok-fits.ensures.told c.header.ensures.literals
