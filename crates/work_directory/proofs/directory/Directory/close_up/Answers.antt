use Rattle.std.proofs.Common.{ℕ, ◌≡◌, ◌<◌, sym, ap, ◌∙◌, subst, arith}
use Rattle.std.proofs.lemmas.Result.{on_ok_weaker}
use Rattle.probing.proofs.ClosingLaws.{not_all_met}
use Rattle.probing.specs.Homes.{paged_home_of}
use Rattle.work_directory.specs.Directory.{held_of, slots_of}
use Rattle.work_directory.specs.Inside.{Closes}
use Rattle.work_directory.specs.Slots.{AreSpelled}
use Rattle.work_directory.specs.Table.{name_at}
use Rattle.work_directory.specs.Work.{IsCause}
use Rattle.loom_host.specs.Work.{work_of}
use Rattle.work_directory.proofs.CauseLaws.{look-cause, damaged-cause}
use Rattle.loom_host.proofs.WorkLaws.{exits, work-itself, work-again, work-read, work-same}
use Rattle.work_directory.proofs.ChangeLaws.{some-empty, spelled-at}
use Rattle.work_directory.proofs.UnderWay.{IsUnderWay, start, left, moved, ends}
use Rattle.work_directory.proofs.directory.Directory.close_up.Goals as goal
use Rattle.work_directory.proofs.directory.Directory.close_up.Goals.{then-distance-gap, else-distance-gap+in_ok-put}

pub loop-step-init : goal.loop-step-init
loop-step-init g c =
    let d = c.args.self.now in
    let n : slots_of d ≡ c.slots-slots.result = sym c.slots-slots.ensures.value in
    record {
      low = omega arith;
      high = omega arith;
      within = let within = c.requires.within in omega (arith, n, within);
      work = work-itself g.H.Host c.args.host.now;
      way = λ told.
          let v = work_of g.H.Host c.args.host.now in
          let is = c.requires.stands told in
          subst (λ (m : ℕ). IsUnderWay v v m (held_of d) c.args.at c.args.at 1 1) n
          (start v (slots_of d) (held_of d) c.args.at is.spelled is.table c.requires.within (c.requires.used told));
    }

pub loop-step-preserved : goal.loop-step-preserved
loop-step-preserved g c =
    let h = g.H.Host in
    let l = c.loop-step in
    let n = c.slots-slots.result in
    let first : c.args.at < n = let e = c.slots-slots.ensures.value in let within = c.requires.within in omega (arith, e, within) in
    let read = work-again h c.args.host.now l.host c.look.new.host l.invariant.work
    (work-read h l.host c.look.new.host c.in_ok-slot.ensures.read) in
    let still = work-same h l.host c.look.new.host c.in_ok-slot.ensures.read in
    let begins = c.paged_home-home.ensures.place ∙ ap (λ (k : ℕ). paged_home_of k n) c.get.ensures.value in
    elim c.if-distance-gap.branch [
      | then-distance-gap w ↦ rw (w.host-is, w.hole-is, w.gap-is) (record {
        low = omega arith;
        high = let high = l.invariant.high in omega (arith, high);
        within = l.invariant.within;
        work = read;
        way = λ told. left (work_of h c.args.host.now) (work_of h l.host) (work_of h c.look.new.host) n (held_of c.args.self.now)
            c.args.at l.hole l.gap l._step c.turn-place.result (l.invariant.way told) still first
            l.invariant.within l.invariant.low l.invariant.high c.loop-step-test.true c.turn-place.ensures.place c.in-Some.slot
            c.paged_home-home.result c.distance.result (sym c.in-Some.is ∙ c.in_ok-slot.ensures.slot told)
            begins c.distance.ensures w.if-distance-gap.true;
      })
      | else-distance-gap+in_ok-put w ↦ rw (w.host-is, w.hole-is, w.gap-is) (record {
        low = omega arith;
        high = omega arith;
        within = c.turn-place.ensures.within;
        work = work-again h c.args.host.now c.look.new.host w.put.new.host read w.in_ok-put.ensures.work;
        way = λ told. moved (work_of h c.args.host.now) (work_of h l.host) (work_of h c.look.new.host) n (held_of c.args.self.now)
            c.args.at l.hole l.gap l._step c.turn-place.result (l.invariant.way told) still first
            l.invariant.within l.invariant.low l.invariant.high c.loop-step-test.true c.turn-place.ensures.place c.in-Some.slot
            c.paged_home-home.result c.distance.result (sym c.in-Some.is ∙ c.in_ok-slot.ensures.slot told)
            begins c.distance.ensures (work_of h w.put.new.host) w.if-distance-gap.false
            (w.in_ok-put.ensures.writes told n l.invariant.within);
      })
    ]

pub returns-in_err-slot-clause-cause : goal.returns-in_err-slot-clause-cause
returns-in_err-slot-clause-cause g c =
    let h = g.H.Host in
    let d = c.args.self.now in
    let l = c.loop-step in
    let n = c.slots-slots.ensures.value in
    let within : c.turn-place.result < slots_of d = let b = c.turn-place.ensures.within in omega (arith, b, n) in
    exits c.from_residual.result c.in_err-slot.field-0.0 (IsCause h c.args.host.now c.look.new.host (slots_of d) c.args.name)
    c.from_residual.ensures.1
    (look-cause h c.args.host.now l.host c.look.new.host (slots_of d) c.turn-place.result c.args.name c.in_err-slot.field-0.0 within
    l.invariant.work.later
    (λ told. spelled-at (work_of h l.host) (slots_of d) c.turn-place.result
    (subst (AreSpelled (work_of h l.host)) n (l.invariant.way told).spelled) within)
    c.in_err-slot.ensures.cause)

-- an empty slot is met
pub returns-in_default-clause-closed : goal.returns-in_default-clause-closed
returns-in_default-clause-closed g c =
    let h = g.H.Host in
    let l = c.loop-step in
    let n = c.slots-slots.result in
    let first : c.args.at < n = let e = c.slots-slots.ensures.value in let within = c.requires.within in omega (arith, e, within) in
    on_ok_weaker c.clear.result (λ wrote told.
    subst (λ (m : ℕ). Closes (work_of h c.args.host.now) (work_of h c.clear.new.host) m (held_of c.args.self.now) c.args.at)
    c.slots-slots.ensures.value
    (ends (work_of h c.args.host.now) (work_of h l.host) (work_of h c.look.new.host) n (held_of c.args.self.now) c.args.at l.hole l.gap
    l._step c.turn-place.result (l.invariant.way told)
    (work-same h l.host c.look.new.host c.in_ok-slot.ensures.read) first l.invariant.within l.invariant.low l.invariant.high
    c.loop-step-test.true c.turn-place.ensures.place (work_of h c.clear.new.host)
    (sym c.in_default.is ∙ c.in_ok-slot.ensures.slot told) (wrote told n l.invariant.within))) c.clear.ensures.writes

-- a directory has an empty slot, so the hole doesn't come round
pub returns-clause-cause : goal.returns-clause-cause
returns-clause-cause g c =
    let h = g.H.Host in
    let d = c.args.self.now in
    let n = c.slots-slots.ensures.value in
    let within : c.turn.result < slots_of d = let b = c.turn.ensures.within in omega (arith, b, n) in
    damaged-cause h c.args.host.now c.loop-step.host (slots_of d) c.turn.result c.args.name c.damaged.result c.damaged.ensures within
    (λ told.
    let v = work_of h c.args.host.now in
    let way = subst (λ (m : ℕ). IsUnderWay v (work_of h c.loop-step.host) m (held_of d) c.args.at c.loop-step.hole c.loop-step.gap
    c.loop-step._step) n (c.loop-step.invariant.way told) in
    let low = c.loop-step-test.false in
    let none = some-empty d v (c.requires.stands told) in
    not_all_met (name_at v) (slots_of d) c.args.at c.requires.within none (λ i b. way.closing.met i (omega (arith, n, low, b))))
