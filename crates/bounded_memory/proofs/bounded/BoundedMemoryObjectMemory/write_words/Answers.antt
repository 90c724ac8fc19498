use Rattle.std.proofs.Common.{refl}
use Rattle.long_names.specs.Access.{WriteWords, Nothing}
use Rattle.bounded_memory.proofs.MemoryLaws.{ready-below, may-below, not-fitting, forwards, stays-sound, ready-after}
use Rattle.bounded_memory.proofs.bounded.BoundedMemoryObjectMemory.write_words.Goals as goal

pub returns-in_err-fits-clause-access : goal.returns-in_err-fits-clause-access
returns-in_err-fits-clause-access c =
    let e = c.in_err-fits.ensures in
    not-fitting c.args.self.now c.fits.new.self (WriteWords c.args.of c.args.at c.args.from.now) c.args.of (λ _. Nothing) c.from_residual.result c.in_err-fits.field-0.0 c.from_residual.ensures.1 refl refl (λ need told. refl) c.requires.fit.ready e.refused e.later e.full

pub write_words-requires-clause-fit : goal.write_words-requires-clause-fit
write_words-requires-clause-fit c = record { sound = tt; ready = ready-below c.args.self.now c.fits.new.self c.in_ok-fits.ensures.told c.requires.fit.ready }

pub write_words-requires-clause-may : goal.write_words-requires-clause-may
write_words-requires-clause-may c = may-below c.args.self.now c.fits.new.self (WriteWords c.args.of c.args.at c.args.from.now) c.in_ok-fits.ensures.told c.requires.may

pub returns-clause-access : goal.returns-clause-access
returns-clause-access c = forwards c.args.self.now c.fits.new.self c.write_words.new.self (WriteWords c.args.of c.args.at c.args.from.now) (λ _. Nothing) c.write_words.result (λ x. x) refl c.in_ok-fits.ensures.told (λ told. c.in_ok-fits.ensures.core) c.write_words.ensures.access

pub returns-clause-fit : goal.returns-clause-fit
returns-clause-fit c = record {
  sound = stays-sound c.args.self.now c.fits.new.self c.write_words.new.self (WriteWords c.args.of c.args.at c.args.from.now) (λ _. Nothing) c.write_words.result (λ x. x) refl (λ regs slots. refl) c.in_ok-fits.ensures.told c.requires.fit.ready c.requires.may c.in_ok-fits.ensures.sound c.write_words.ensures.access c.write_words.ensures.fit.ready;
  ready = ready-after c.args.self.now c.fits.new.self c.write_words.new.self (WriteWords c.args.of c.args.at c.args.from.now) (λ _. Nothing) c.write_words.result c.in_ok-fits.ensures.told c.requires.fit.ready c.write_words.ensures.access c.write_words.ensures.fit.ready;
  lender = refl;
  outside = refl;
}
