use Rattle.std.proofs.Common.{◌≡◌, true, false, refl, sym, ◌∙◌}
use Rattle.loom_memory.specs.Memory.{loom_told}
use Rattle.loom_memory.specs.Thinned.{is_thinned}
use Rattle.loom_memory.proofs.DeadLaws.{nothing-kept, thin-none}
use Rattle.loom_memory.proofs.LivingLaws.{held-counted}
use Rattle.loom_memory.proofs.EffectLaws.{frees-refl}
use Rattle.loom_memory.proofs.memory.LoomMemory.thin_once.Goals as goal

-- ---- nothing is dead

pub returns-then-self-clause-frees : goal.returns-then-self-clause-frees
returns-then-self-clause-frees g c = frees-refl g.H.Host c.args.self.now c.requires.fit.sound c.requires.fit.ready

pub returns-then-self-clause-swept : goal.returns-then-self-clause-swept
unfolding loom_told is_thinned
returns-then-self-clause-swept g c =
    let m = c.args.self.now in
    record {
      is_kept = λ told. sym (nothing-kept (loom_told g.H.Host m) told (thin-none g.H.Host m c.requires.fit.sound.thin c.if-self.true));
      count = λ told. held-counted g.H.Host m c.requires.fit.sound told;
      again = λ told. nothing-kept (loom_told g.H.Host m) told (thin-none g.H.Host m c.requires.fit.sound.thin c.if-self.true);
      set = c.if-self.true;
    }

pub returns-then-self-clause-lasts : goal.returns-then-self-clause-lasts
returns-then-self-clause-lasts g c = λ on. (refl, refl)

-- ---- something may be

pub returns-clause-lasts : goal.returns-clause-lasts
unfolding is_thinned
returns-clause-lasts g c = λ on. absurd (let off = c.if-self.false in let both : true ≡ false = sym on ∙ off in cc)
