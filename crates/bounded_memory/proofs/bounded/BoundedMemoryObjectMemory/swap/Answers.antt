use Rattle.std.proofs.Common.{◌∙◌, inl, inr, refl, sym, subst, arith}
use Rattle.long_names.specs.State.{IsRef}
use Rattle.long_names.specs.Access.{Swap, Nothing}
use Rattle.object_memory.specs.Told.{Told, IsReady}
use Rattle.bounded_memory.proofs.MemoryLaws.{ready-below, may-below, not-fitting, not-fitting-both, forwards, stays-sound, ready-after}
use Rattle.bounded_memory.proofs.bounded.BoundedMemoryObjectMemory.swap.Goals as goal

pub fits-requires-clause-name : goal.fits-requires-clause-name
fits-requires-clause-name c = c.requires.may.names.0

pub returns-in_err-fits-clause-access : goal.returns-in_err-fits-clause-access
returns-in_err-fits-clause-access c =
    let e = c.in_err-fits.ensures in
    not-fitting c.args.self.now c.fits.new.self (Swap c.args.a c.args.b) c.args.a (λ _. Nothing) c.from_residual.result c.in_err-fits.field-0.0 c.from_residual.ensures.1 refl (inl refl) (λ need told. refl) c.requires.fit.ready e.refused e.later e.full

pub fits-requires-2-clause-fit : goal.fits-requires-2-clause-fit
fits-requires-2-clause-fit c = record { sound = c.in_ok-fits.ensures.sound; ready = subst (λ (t : Told). IsReady t) (sym c.in_ok-fits.ensures.told) c.requires.fit.ready }

pub fits-requires-2-clause-name : goal.fits-requires-2-clause-name
fits-requires-2-clause-name c = subst (λ (t : Told). IsRef (t.regs c.args.b)) (sym c.in_ok-fits.ensures.told) c.requires.may.names.1

pub returns-in_err-fits-2-clause-access : goal.returns-in_err-fits-2-clause-access
returns-in_err-fits-2-clause-access c =
    let e = c.in_err-fits-2.ensures in
    not-fitting-both c.args.self.now c.fits.new.self c.fits-2.new.self (Swap c.args.a c.args.b) c.args.b (λ _. Nothing) c.from_residual-in_err-fits-2.result c.in_err-fits-2.field-0.0 c.from_residual-in_err-fits-2.ensures.1 refl (λ t. inr refl) (λ t need told. refl) c.in_ok-fits.ensures.told c.requires.fit.ready e.refused e.later e.full

pub swap-requires-clause-fit : goal.swap-requires-clause-fit
swap-requires-clause-fit c = record { sound = tt; ready = ready-below c.args.self.now c.fits-2.new.self (c.in_ok-fits-2.ensures.told ∙ c.in_ok-fits.ensures.told) c.requires.fit.ready }

pub swap-requires-clause-may : goal.swap-requires-clause-may
swap-requires-clause-may c = may-below c.args.self.now c.fits-2.new.self (Swap c.args.a c.args.b) (c.in_ok-fits-2.ensures.told ∙ c.in_ok-fits.ensures.told) c.requires.may

pub returns-clause-access : goal.returns-clause-access
returns-clause-access c = forwards c.args.self.now c.fits-2.new.self c.swap.new.self (Swap c.args.a c.args.b) (λ _. Nothing) c.swap.result (λ x. x) refl (c.in_ok-fits-2.ensures.told ∙ c.in_ok-fits.ensures.told) (λ told. omega arith) c.swap.ensures.access

pub returns-clause-fit : goal.returns-clause-fit
returns-clause-fit c =
    let told = c.in_ok-fits-2.ensures.told ∙ c.in_ok-fits.ensures.told in
    record {
      sound = stays-sound c.args.self.now c.fits-2.new.self c.swap.new.self (Swap c.args.a c.args.b) (λ _. Nothing) c.swap.result (λ x. x) refl (λ regs slots. refl) told c.requires.fit.ready c.requires.may c.in_ok-fits-2.ensures.sound c.swap.ensures.access c.swap.ensures.fit.ready;
      ready = ready-after c.args.self.now c.fits-2.new.self c.swap.new.self (Swap c.args.a c.args.b) (λ _. Nothing) c.swap.result told c.requires.fit.ready c.swap.ensures.access c.swap.ensures.fit.ready;
      lender = refl;
      outside = refl;
    }
