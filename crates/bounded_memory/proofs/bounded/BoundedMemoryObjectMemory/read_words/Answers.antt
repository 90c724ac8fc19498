use Rattle.std.proofs.Common.{length, refl}
use Rattle.long_names.specs.Access.{ReadWords, OfRun}
use Rattle.bounded_memory.proofs.MemoryLaws.{ready-below, may-below, not-fitting, forwards, stays-sound, ready-after}
use Rattle.bounded_memory.proofs.bounded.BoundedMemoryObjectMemory.read_words.Goals as goal

pub returns-in_err-fits-clause-access : goal.returns-in_err-fits-clause-access
returns-in_err-fits-clause-access c =
    let e = c.in_err-fits.ensures in
    not-fitting c.args.self.now c.fits.new.self (ReadWords c.args.of c.args.at (length c.args.out.now)) c.args.of (λ _. OfRun c.args.out.now) c.from_residual.result c.in_err-fits.field-0.0 c.from_residual.ensures.1 refl refl (λ need told. refl) c.requires.fit.ready e.refused e.later e.full

pub read_words-requires-clause-fit : goal.read_words-requires-clause-fit
read_words-requires-clause-fit c = record { sound = tt; ready = ready-below c.args.self.now c.fits.new.self c.in_ok-fits.ensures.told c.requires.fit.ready }

pub read_words-requires-clause-may : goal.read_words-requires-clause-may
read_words-requires-clause-may c = may-below c.args.self.now c.fits.new.self (ReadWords c.args.of c.args.at (length c.args.out.now)) c.in_ok-fits.ensures.told c.requires.may

pub returns-clause-access : goal.returns-clause-access
returns-clause-access c = forwards c.args.self.now c.fits.new.self c.read_words.new.self (ReadWords c.args.of c.args.at (length c.args.out.now)) (λ _. OfRun c.read_words.new.out) c.read_words.result (λ x. x) refl c.in_ok-fits.ensures.told (λ told. c.in_ok-fits.ensures.core) c.read_words.ensures.access

pub returns-clause-fit : goal.returns-clause-fit
returns-clause-fit c = record {
  sound = stays-sound c.args.self.now c.fits.new.self c.read_words.new.self (ReadWords c.args.of c.args.at (length c.args.out.now)) (λ _. OfRun c.read_words.new.out) c.read_words.result (λ x. x) refl (λ regs slots. refl) c.in_ok-fits.ensures.told c.requires.fit.ready c.requires.may c.in_ok-fits.ensures.sound c.read_words.ensures.access c.read_words.ensures.fit.ready;
  ready = ready-after c.args.self.now c.fits.new.self c.read_words.new.self (ReadWords c.args.of c.args.at (length c.args.out.now)) (λ _. OfRun c.read_words.new.out) c.read_words.result c.in_ok-fits.ensures.told c.requires.fit.ready c.read_words.ensures.access c.read_words.ensures.fit.ready;
  lender = refl;
  outside = refl;
}
