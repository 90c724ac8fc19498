use Rattle.std.proofs.Common.{pos, ◌∙◌, refl, ap, arith}
use Rattle.object_memory.specs.Told.{Told}
use Rattle.loom_memory.specs.Memory.{loom_told}
use Rattle.loom_memory.proofs.EndingLaws.{numbers-then, regs-then}
use Rattle.loom_memory.proofs.memory.LoomMemory.clear_registers.Goals as goal

pub loop-i-init : goal.loop-i-init
loop-i-init g c = record { told = refl; none = λ r low. absurd (omega (arith, low)); sound = c.requires.sound; lender = refl; outside = refl }

pub put_word-requires-clause-sound : goal.put_word-requires-clause-sound
put_word-requires-clause-sound g c = c.loop-i.invariant.sound

pub loop-i-preserved : goal.loop-i-preserved
loop-i-preserved g c =
    let i = c.loop-i.invariant in
    record {
      told = regs-then (loom_told g.H.Host c.args.self.now) (loom_told g.H.Host c.loop-i.self) (loom_told g.H.Host c.put_word.new.self) _ i.told c.put_word.ensures.told;
      none = numbers-then c.loop-i.i c.new.result (pos 0) (loom_told g.H.Host c.loop-i.self).regs (loom_told g.H.Host c.put_word.new.self).regs c.new.ensures i.none (ap (λ (z : Told). z.regs) c.put_word.ensures.told);
      sound = c.put_word.ensures.leaves.sound;
      lender = c.put_word.ensures.leaves.lender ∙ i.lender;
      outside = c.put_word.ensures.leaves.outside ∙ i.outside;
    }

pub returns-clause-none : goal.returns-clause-none
returns-clause-none g c = λ r low. c.loop-i.invariant.none r (let done = c.loop-i-test.false in omega (arith, low, done))
