use Rattle.std.proofs.Common.{◌≡◌, ℕ, List, Option, IsTrue}
use Rattle.std.proofs.lemmas.Result.{IfErr-weaker, IfOk-weaker}
use Rattle.loom_host.specs.Work.{work_of}
use Rattle.loom_host.specs.declared.outside.Role.TheVariants.{Work}
use Rattle.work_directory.specs.Directory.{shown_at}
use Rattle.work_directory.specs.declared.slot.Slot.{Slot}
use Rattle.work_directory.specs.Inside.{IsPieceDamage, piece_bytes}
use Rattle.work_directory.specs.Slots.{slot_in, used_slot}
use Rattle.work_directory.specs.Work.{IsSlotCause}
use Rattle.work_directory.proofs.ChangeLaws.{one-spelled}
use Rattle.work_directory.proofs.PieceLaws.{piece-cause, piece-shown, piece-spelled}
use Rattle.work_directory.proofs.directory.Directory.slot_by.Goals as goal

pub returns-clause-shown : goal.returns-clause-shown
returns-clause-shown g c =
    let piece = c.turn_to.new.self in
    let v : List ℕ = work_of g.H.Host c.args.host.now in
    IfOk-weaker c.slot.result (λ (slot : Option Slot). slot ≡ used_slot (slot_in (piece_bytes piece c.args.i)))
    (λ (slot : Option Slot). IsTrue (g.H.Host.tells Work) → slot ≡ shown_at v c.args.i)
    (λ slot is told. piece-shown v piece c.args.i slot (c.in_ok-turn_to.ensures.piece told) c.in_ok-turn_to.ensures.there is)
    c.slot.ensures.slot

pub returns-clause-cause : goal.returns-clause-cause
returns-clause-cause g c =
    let h = g.H.Host in
    let piece = c.turn_to.new.self in
    IfErr-weaker c.slot.result (IsPieceDamage piece c.args.i) (IsSlotCause h c.args.host.now c.turn_to.new.host c.args.i)
    (λ fault. piece-cause h c.args.host.now c.turn_to.new.host piece c.args.i fault
    (λ told. piece-spelled (work_of h c.args.host.now) piece c.args.i (c.in_ok-turn_to.ensures.piece told) c.in_ok-turn_to.ensures.there
    (one-spelled c.args.self.now (work_of h c.args.host.now) c.args.i (c.requires.stands told) c.requires.within)))
    c.slot.ensures.cause
