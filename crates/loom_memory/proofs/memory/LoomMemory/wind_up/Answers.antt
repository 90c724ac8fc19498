use Rattle.std.proofs.Common.{◌∙◌, ap, refl, subst, sym}
use Rattle.object_memory.specs.Contract.{SameBounds}
use Rattle.object_memory.specs.Told.{Told}
use Rattle.object_memory.specs.declared.fault.MemFault.{MemFault}
use Rattle.loom_memory.specs.Makings.{IsLost}
use Rattle.loom_memory.specs.Memory.{loom_told, loom_outside}
use Rattle.loom_memory.proofs.AddLaws.{fault-lost}
use Rattle.loom_memory.proofs.CalmLaws.{work-outside}
use Rattle.loom_memory.proofs.EndingLaws.{kept-left, let-cause, work-bounds, work-silent}
use Rattle.loom_memory.proofs.OverLaws.{over_pager}
use Rattle.loom_memory.proofs.PagerLaws.{pager-ready}
use Rattle.loom_memory.proofs.memory.LoomMemory.wind_up.Goals as goal

pub close-requires-clause-ready : goal.close-requires-clause-ready
close-requires-clause-ready g c = pager-ready g.H.Host c.let_go.new.self c.let_go.ensures.leaves.sound

pub returns-in-Ok-clause-kept : goal.returns-in-Ok-clause-kept
returns-in-Ok-clause-kept g c = λ told.
    kept-left g.H.Host c.let_go.new.self c.close.new.self.levels.disk.host.now c.close.new.self.levels.disk.rest _ c.let_go.ensures.leaves.sound.exact (ap (λ (z : Told). z.heap) c.let_go.ensures.told) told (c.in-Ok.ensures.kept told)

pub returns-in-Ok-clause-outside : goal.returns-in-Ok-clause-outside
unfolding loom_outside
returns-in-Ok-clause-outside g c = work-outside g.H.Host c.let_go.new.self.pager.levels.disk.host.now c.close.new.self.levels.disk.host.now c.close.ensures.disk.work ∙ c.let_go.ensures.leaves.outside

pub returns-in-Err-clause-lost : goal.returns-in-Err-clause-lost
returns-in-Err-clause-lost g c = subst (λ (f : MemFault). IsLost f) (sym c.refuse.ensures.result) (fault-lost c.in-Err.f c.refusal_of-f.result c.refusal_of-f.ensures)

pub returns-in-Err-clause-outside : goal.returns-in-Err-clause-outside
unfolding loom_outside
returns-in-Err-clause-outside g c = c.refuse.ensures.outside ∙ work-outside g.H.Host c.let_go.new.self.pager.levels.disk.host.now c.close.new.self.levels.disk.host.now c.close.ensures.disk.work ∙ c.let_go.ensures.leaves.outside

pub returns-in-Ok-clause-transcript : goal.returns-in-Ok-clause-transcript
returns-in-Ok-clause-transcript g c =
    let m = c.let_go.new.self in
    let n = over_pager m c.close.new.self in
    work-silent g.H.Host m n c.close.ensures.disk.work ∙ ap (λ (z : Told). z.transcript) c.let_go.ensures.told

pub returns-in-Err-clause-transcript : goal.returns-in-Err-clause-transcript
returns-in-Err-clause-transcript g c =
    let m = c.let_go.new.self in
    let n = over_pager m c.close.new.self in
    ap (λ (z : Told). z.transcript) c.refuse.ensures.told ∙ work-silent g.H.Host m n c.close.ensures.disk.work ∙ ap (λ (z : Told). z.transcript) c.let_go.ensures.told

pub returns-in-Err-clause-cause : goal.returns-in-Err-clause-cause
returns-in-Err-clause-cause g c =
    let m = c.let_go.new.self in
    let n = over_pager m c.close.new.self in
    let-cause g.H.Host m n (loom_told g.H.Host c.args.self.now) (loom_told g.H.Host c.refuse.new.self) c.in-Err.f c.refusal_of-f.result c.refuse.result
    (ap (λ (z : Told). z.tells) c.let_go.ensures.told) (ap (λ (z : Told). z.bounds) c.let_go.ensures.told)
    c.in-Err.ensures.fault c.refusal_of-f.ensures c.refuse.ensures.told c.refuse.ensures.result

pub returns-in-Ok-clause-bounds : goal.returns-in-Ok-clause-bounds
returns-in-Ok-clause-bounds g c =
    let m = c.let_go.new.self in
    let n = over_pager m c.close.new.self in
    subst (λ b. SameBounds b (loom_told g.H.Host n).bounds) (ap (λ (z : Told). z.bounds) c.let_go.ensures.told) (work-bounds g.H.Host m n c.close.ensures.disk.work c.close.ensures.disk.limit refl)

pub returns-in-Err-clause-bounds : goal.returns-in-Err-clause-bounds
returns-in-Err-clause-bounds g c =
    let m = c.let_go.new.self in
    let n = over_pager m c.close.new.self in
    subst (λ b. SameBounds (loom_told g.H.Host c.args.self.now).bounds b) (sym (ap (λ (z : Told). z.bounds) c.refuse.ensures.told))
    (subst (λ b. SameBounds b (loom_told g.H.Host n).bounds) (ap (λ (z : Told). z.bounds) c.let_go.ensures.told) (work-bounds g.H.Host m n c.close.ensures.disk.work c.close.ensures.disk.limit refl))

pub returns-in-Ok-clause-lender : goal.returns-in-Ok-clause-lender
returns-in-Ok-clause-lender g c = c.close.ensures.disk.lender ∙ c.let_go.ensures.leaves.lender

pub returns-in-Err-clause-lender : goal.returns-in-Err-clause-lender
returns-in-Err-clause-lender g c = c.refuse.ensures.lender ∙ c.close.ensures.disk.lender ∙ c.let_go.ensures.leaves.lender
