use Rattle.std.proofs.Common.{◌≡◌, sym, ap, ◌∙◌, subst}
use Rattle.long_names.specs.State.{IsRef, name_at}
use Rattle.object_memory.specs.Told.{Told}
use Rattle.object_memory.specs.declared.fault.Need.{Need}
use Rattle.bounded_memory.specs.declared.bounded.BoundedMemory.{BoundedMemory}
use Rattle.bounded_memory.specs.Bounded.{bounded_told, ArePinned, IsSound, FitsCore, IsFull, need_at}
use Rattle.bounded_memory.proofs.BoundedLaws.{need-at, if-err}
use Rattle.bounded_memory.proofs.bounded.BoundedMemory.fits.Goals as goal

pub name_in-name-requires : goal.name_in-name-requires
name_in-name-requires c = subst (λ (u : Told). IsRef (u.regs c.args.of)) (sym c.size_of-size.ensures.kept) c.requires.name

pub returns-in_err-has_room-clause-full : goal.returns-in_err-has_room-clause-full
returns-in_err-has_room-clause-full c =
    let m = c.args.self.now in
    let t = bounded_told m in
    let named = c.name_in-name.ensures ∙ ap (λ (u : Told). name_at (u.regs c.args.of)) c.size_of-size.ensures.kept in
    let is : c.need-need.result ≡ need_at t c.args.of = c.need-need.ensures ∙ need-at t m.pins c.args.of c.name_in-name.result c.size_of-size.result.words c.requires.fit.sound.pinned named c.size_of-size.ensures.words in
    if-err c.from_residual.result c.in_err-has_room.field-0.0 (λ f. IsFull t (need_at t c.args.of) f) c.from_residual.ensures.1
    (subst (λ (n : Need). IsFull t n c.in_err-has_room.field-0.0) is c.in_err-has_room.ensures.full)

pub returns-clause-room : goal.returns-clause-room
returns-clause-room c =
    let m = c.args.self.now in
    let t = bounded_told m in
    let named = c.name_in-name.ensures ∙ ap (λ (u : Told). name_at (u.regs c.args.of)) c.size_of-size.ensures.kept in
    let is : c.need-need.result ≡ need_at t c.args.of = c.need-need.ensures ∙ need-at t m.pins c.args.of c.name_in-name.result c.size_of-size.result.words c.requires.fit.sound.pinned named c.size_of-size.ensures.words in
    subst (λ (n : Need). FitsCore t n) is c.in_ok-has_room.ensures.room

pub returns-in_err-has_room-clause-sound : goal.returns-in_err-has_room-clause-sound
returns-in_err-has_room-clause-sound c =
    let pinned = subst (λ (u : Told). ArePinned u c.args.self.now.pins) (sym c.size_of-size.ensures.kept) c.requires.fit.sound.pinned in
    subst (λ (m : BoundedMemory). IsSound m) (sym c.in_err-has_room.ensures.refused) (record { pinned = pinned })

pub returns-clause-pin : goal.returns-clause-pin
returns-clause-pin c = (c.name_in-name.ensures ∙ ap (λ (u : Told). name_at (u.regs c.args.of)) c.size_of-size.ensures.kept, c.size_of-size.ensures.words, c.size_of-size.ensures.entries)

pub returns-clause-sound : goal.returns-clause-sound
returns-clause-sound c =
    let pinned = subst (λ (u : Told). ArePinned u c.args.self.now.pins) (sym c.size_of-size.ensures.kept) c.requires.fit.sound.pinned in
    subst (λ (m : BoundedMemory). IsSound m) (sym c.in_ok-has_room.ensures.kept) (record { pinned = pinned })
