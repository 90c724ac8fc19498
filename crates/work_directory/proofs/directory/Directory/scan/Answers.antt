use Rattle.std.proofs.Common.{◌<◌, ◌≡◌, ℕ, sym, subst, arith}
use Rattle.probing.specs.Homes.{paged_home_of}
use Rattle.probing.proofs.HomeLaws.{paged_home_of-below}
use Rattle.probing.specs.Search.{IsPassed}
use Rattle.probing.proofs.TableLaws.{not_all_passed}
use Rattle.work_directory.specs.Directory.{slots_of, IsIn}
use Rattle.work_directory.specs.Table.{name_at}
use Rattle.work_directory.specs.Work.{IsCause}
use Rattle.loom_host.specs.Work.{work_of}
use Rattle.work_directory.proofs.CauseLaws.{look-cause}
use Rattle.loom_host.proofs.WorkLaws.{exits, work-same}
use Rattle.work_directory.proofs.ChangeLaws.{some-empty, one-spelled}
use Rattle.work_directory.proofs.directory.Directory.scan.Goals as goal

pub returns-in_err-slot-clause-cause : goal.returns-in_err-slot-clause-cause
returns-in_err-slot-clause-cause g c =
    let h = g.H.Host in
    let d = c.args.self.now in
    let within : c.turn-at.result < slots_of d = let l = c.turn-at.ensures.within in omega (arith, l, c.slots-slots.ensures.value) in
    exits c.from_residual.result c.in_err-slot.field-0.0 (IsCause h c.args.host.now c.look.new.host (slots_of d) c.args.name)
    c.from_residual.ensures.1
    (look-cause h c.args.host.now c.loop-step.host c.look.new.host (slots_of d) c.turn-at.result c.args.name c.in_err-slot.field-0.0
    within c.loop-step.invariant.read.later
    (λ told. one-spelled d (work_of h c.loop-step.host) c.turn-at.result
    (subst (IsIn d) (sym (work-same h c.args.host.now c.loop-step.host c.loop-step.invariant.read)) (c.requires.stands told)) within)
    c.in_err-slot.ensures.cause)

-- a directory has an empty slot, so the search doesn't come round
pub returns-clause-some : goal.returns-clause-some
returns-clause-some g c = λ told.
    let w = work_of g.H.Host c.args.host.now in
    let d = c.args.self.now in
    let all : c.loop-step.step ≡ slots_of d = let n = c.slots-slots.ensures.value in let low = c.loop-step-test.false in let high = c.loop-step.auto.step-end in
    omega (arith, n, low, high) in
    absurd (not_all_passed paged_home_of-below (name_at w) (slots_of d) c.args.name (some-empty d w (c.requires.stands told))
    (subst (λ (k : ℕ). IsPassed paged_home_of (name_at w) (slots_of d) c.args.name k) all (c.loop-step.invariant.passed told)))
