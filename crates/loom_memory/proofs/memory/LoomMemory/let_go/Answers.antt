use Rattle.std.proofs.Common.{◌∙◌, ap, subst, sym}
use Rattle.object_memory.specs.Told.{Told}
use Rattle.loom_memory.specs.Ending.{AreNumbers}
use Rattle.loom_memory.specs.Memory.{loom_told}
use Rattle.loom_memory.proofs.EndingLaws.{loose-told, regs-slots, slots-none, slots-then}
use Rattle.loom_memory.proofs.memory.LoomMemory.let_go.Goals as goal

pub returns-clause-told : goal.returns-clause-told
returns-clause-told g c =
    let t = loom_told g.H.Host c.args.self.now in
    let u = loom_told g.H.Host c.clear_registers.new.self in
    let v = loom_told g.H.Host c.unpin.new.self in
    let w = loom_told g.H.Host c.unpin-2.new.self in
    slots-then t w (loom_told g.H.Host c.unpin-3.new.self) _ (slots-then t v w _ (slots-then t u v _ (regs-slots t u c.clear_registers.ensures.told) c.unpin.ensures.told) c.unpin-2.ensures.told) c.unpin-3.ensures.told

pub returns-clause-loose : goal.returns-clause-loose
returns-clause-loose g c =
    let u = loom_told g.H.Host c.clear_registers.new.self in
    let v = loom_told g.H.Host c.unpin.new.self in
    let w = loom_told g.H.Host c.unpin-2.new.self in
    let m = c.unpin-3.new.self in
    loose-told g.H.Host m c.unpin-3.ensures.fit.sound.kept
    (subst AreNumbers (sym (ap (λ (z : Told). z.regs) c.unpin-3.ensures.told ∙ ap (λ (z : Told). z.regs) c.unpin-2.ensures.told ∙ ap (λ (z : Told). z.regs) c.unpin.ensures.told)) c.clear_registers.ensures.none)
    (slots-none u.slots v.slots w.slots (loom_told g.H.Host m).slots (ap (λ (z : Told). z.slots) c.unpin.ensures.told) (ap (λ (z : Told). z.slots) c.unpin-2.ensures.told) (ap (λ (z : Told). z.slots) c.unpin-3.ensures.told))
