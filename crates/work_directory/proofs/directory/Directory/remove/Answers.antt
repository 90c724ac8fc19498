use Rattle.std.proofs.Common.{ℕ, List, refl, sym, ap, ◌∙◌, subst}
use Rattle.work_directory.specs.declared.slot.Slot.{Slot}
use Rattle.work_directory.specs.Directory.{room_of, held_of, was_written, slots_of, IsIn}
use Rattle.work_directory.specs.Slots.{slot_at}
use Rattle.work_directory.specs.Work.{IsCause}
use Rattle.loom_host.specs.Work.{work_of}
use Rattle.work_directory.proofs.CauseLaws.{damaged-cause, cause-later}
use Rattle.loom_host.proofs.WorkLaws.{exits, work-same}
use Rattle.work_directory.proofs.ChangeLaws.{found-vacant, none-there, closed_up, some-held}
use Rattle.work_directory.proofs.directory.Directory.remove.Goals as goal

-- the name is held, so the search doesn't meet an empty slot first
pub returns-in-Vacant-clause-cause : goal.returns-in-Vacant-clause-cause
returns-in-Vacant-clause-cause g c =
    let h = g.H.Host in
    let d = c.args.self.now in
    let of = rw c.in-Vacant.is at c.in_ok-at.ensures.name in
    damaged-cause h c.args.host.now c.search.new.host (slots_of d) c.in-Vacant.at c.args.name c.damaged.result c.damaged.ensures of.0 (λ told.
    let vacancy = rw c.in-Vacant.is at (c.in_ok-at.ensures.found told) in
    none-there _ (found-vacant d (work_of h c.args.host.now) c.args.name c.in-Vacant.at (c.requires.stands told) of.1 vacancy)
    (c.requires.there told))

-- the slot that was found is counted
pub returns-then-self-eq0-clause-cause : goal.returns-then-self-eq0-clause-cause
unfolding held_of
returns-then-self-eq0-clause-cause g c =
    let h = g.H.Host in
    let d = c.args.self.now in
    let of = rw c.in-Held.is at c.in_ok-at.ensures.name in
    damaged-cause h c.args.host.now c.search.new.host (slots_of d) c.in-Held.at c.args.name c.damaged-then-self-eq0.result
    c.damaged-then-self-eq0.ensures of.0 (λ told.
    let here = rw c.in-Held.is at (c.in_ok-at.ensures.found told) in
    some-held d (work_of h c.args.host.now) c.args.name c.in-Held.at (c.requires.stands told) of.0 of.2
    (ap (λ (s : Slot). s.name) here ∙ of.1) c.if-self-eq0.true)

pub close_up-requires-clause-within : goal.close_up-requires-clause-within
close_up-requires-clause-within g c = (rw c.in-Held.is at c.in_ok-at.ensures.name).0

pub close_up-requires-clause-stands : goal.close_up-requires-clause-stands
close_up-requires-clause-stands g c =
    let h = g.H.Host in
    λ told. subst (λ (w : List ℕ). IsIn c.args.self.now w) (sym (work-same h c.args.host.now c.search.new.host c.in_ok-at.ensures.read))
    (c.requires.stands told)

pub close_up-requires-clause-used : goal.close_up-requires-clause-used
close_up-requires-clause-used g c = λ told.
    let h = g.H.Host in
    let of = rw c.in-Held.is at c.in_ok-at.ensures.name in
    let here = rw c.in-Held.is at (c.in_ok-at.ensures.found told) in
    let still = work-same h c.args.host.now c.search.new.host c.in_ok-at.ensures.read in
    λ nought. of.2 (sym (ap (λ (w : List ℕ). (slot_at w c.in-Held.at).name) still ∙ ap (λ (s : Slot). s.name) here ∙ of.1) ∙ nought)

pub returns-in_err-close_up-clause-cause : goal.returns-in_err-close_up-clause-cause
returns-in_err-close_up-clause-cause g c =
    let h = g.H.Host in
    exits c.from_residual-in_err-close_up.result c.in_err-close_up.field-0.0
    (IsCause h c.args.host.now c.close_up.new.host (slots_of c.args.self.now) c.args.name) c.from_residual-in_err-close_up.ensures.1
    (cause-later h c.args.host.now c.search.new.host c.close_up.new.host (slots_of c.args.self.now) c.args.name c.in_err-close_up.field-0.0
    c.in_ok-at.ensures.read.later c.in_err-close_up.ensures.cause)

pub returns-clause-removed : goal.returns-clause-removed
unfolding room_of held_of was_written
returns-clause-removed g c = λ told.
    let h = g.H.Host in
    let d = c.args.self.now in
    let of = rw c.in-Held.is at c.in_ok-at.ensures.name in
    let here = rw c.in-Held.is at (c.in_ok-at.ensures.found told) in
    closed_up d _ (work_of h c.args.host.now) (work_of h c.search.new.host) (work_of h c.close_up.new.host) c.in-Held.at c.args.name
    (work-same h c.args.host.now c.search.new.host c.in_ok-at.ensures.read) refl refl (λ block. refl) (c.requires.stands told) (ap (λ (s : Slot). s.name) here ∙ of.1)
    (c.in_ok-close_up.ensures.closed told)

pub returns-clause-written : goal.returns-clause-written
unfolding was_written
returns-clause-written g c = λ block. refl
