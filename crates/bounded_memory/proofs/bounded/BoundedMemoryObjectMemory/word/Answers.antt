use Rattle.std.proofs.Common.{refl}
use Rattle.long_names.specs.Access.{Word, OfNumber}
use Rattle.bounded_memory.proofs.MemoryLaws.{ready-below, may-below, not-fitting, forwards, stays-sound, ready-after}
use Rattle.bounded_memory.proofs.bounded.BoundedMemoryObjectMemory.word.Goals as goal

pub returns-in_err-fits-clause-access : goal.returns-in_err-fits-clause-access
returns-in_err-fits-clause-access c =
    let e = c.in_err-fits.ensures in
    not-fitting c.args.self.now c.fits.new.self (Word c.args.of c.args.i) c.args.of OfNumber c.from_residual.result c.in_err-fits.field-0.0 c.from_residual.ensures.1 refl refl (λ need told. refl) c.requires.fit.ready e.refused e.later e.full

pub word-requires-clause-fit : goal.word-requires-clause-fit
word-requires-clause-fit c = record { sound = tt; ready = ready-below c.args.self.now c.fits.new.self c.in_ok-fits.ensures.told c.requires.fit.ready }

pub word-requires-clause-may : goal.word-requires-clause-may
word-requires-clause-may c = may-below c.args.self.now c.fits.new.self (Word c.args.of c.args.i) c.in_ok-fits.ensures.told c.requires.may

pub returns-clause-access : goal.returns-clause-access
returns-clause-access c = forwards c.args.self.now c.fits.new.self c.word.new.self (Word c.args.of c.args.i) OfNumber c.word.result (λ x. x) refl c.in_ok-fits.ensures.told (λ told. c.in_ok-fits.ensures.core) c.word.ensures.access

pub returns-clause-fit : goal.returns-clause-fit
returns-clause-fit c = record {
  sound = stays-sound c.args.self.now c.fits.new.self c.word.new.self (Word c.args.of c.args.i) OfNumber c.word.result (λ x. x) refl (λ regs slots. refl) c.in_ok-fits.ensures.told c.requires.fit.ready c.requires.may c.in_ok-fits.ensures.sound c.word.ensures.access c.word.ensures.fit.ready;
  ready = ready-after c.args.self.now c.fits.new.self c.word.new.self (Word c.args.of c.args.i) OfNumber c.word.result c.in_ok-fits.ensures.told c.requires.fit.ready c.word.ensures.access c.word.ensures.fit.ready;
  lender = refl;
  outside = refl;
}
