-- Slots that were read at once.
use Rattle.std.proofs.Common.{◌≡◌, ℕ, ◌+◌, ◌-◌, ◌*◌, ◌%◌, ◌≤◌, List, take, drop, Option, IsTrue, sym, ap, ◌∙◌, subst, arith}
use Rattle.loom_host.specs.Bytes.{window}
use Rattle.loom_host.specs.declared.outside.DiskFault.{DiskFault}
use Rattle.loom_host.specs.declared.outside.DiskFault.TheVariants.{Work, Full, Damaged}
use Rattle.loom_host.specs.declared.outside.Host.{Ghosts}
use Rattle.loom_host.specs.declared.outside.Role.TheVariants.{Work as OfWork}
use Rattle.loom_host.proofs.Windows.{window-taken}
use Rattle.work_directory.specs.declared.piece.Piece.{Piece}
use Rattle.work_directory.specs.declared.slot.Slot.{Slot}
use Rattle.work_directory.specs.Directory.{shown_at}
use Rattle.work_directory.specs.Inside.{HasSlot, IsPieceDamage, piece_bytes}
use Rattle.work_directory.specs.Pieces.{IsPieceOf}
use Rattle.work_directory.specs.Slots.{bytes_of, slot_at, slot_in, slot_place, used_slot, IsSpelled}
use Rattle.work_directory.specs.Work.{IsSlotCause}

pub empty-piece : (work : List ℕ) (p : Piece) → p.count ≡ 0 → IsPieceOf work p
unfolding IsPieceOf
empty-piece work p none = λ i has. let l = has.low in let h = has.high in absurd (omega (arith, none))

pub filled-piece : (work : List ℕ) (p : Piece) (place : ℕ) → p.count ≡ 170 → p.first % 170 ≡ 0 → place ≡ slot_place p.first → p.bytes ≡ window work place 4080
    → IsPieceOf work p
unfolding IsPieceOf
filled-piece work p place all begins here is = λ i has.
    let l = has.low in
    let h = has.high in
    let last : 24 * (i - p.first) + 24 ≤ 4080 = omega (arith, all) in
    let at : place + 24 * (i - p.first) ≡ slot_place i = omega (arith, all, begins, here) in
    ap (λ (t : List ℕ). take 24 (drop (24 * (i - p.first)) t)) is
    ∙ window-taken work place 4080 (24 * (i - p.first)) 24 last
    ∙ ap (λ k. window work k 24) at

pub piece-shown : (work : List ℕ) (p : Piece) (i : ℕ) (slot : Option Slot) → IsPieceOf work p → HasSlot p i
    → slot ≡ used_slot (slot_in (piece_bytes p i)) → slot ≡ shown_at work i
unfolding IsPieceOf shown_at slot_at
piece-shown work p i slot of there is = is ∙ ap (λ (t : List ℕ). used_slot (slot_in t)) (of i there)

pub piece-spelled : (work : List ℕ) (p : Piece) (i : ℕ) → IsPieceOf work p → HasSlot p i → IsSpelled (bytes_of work i)
    → IsSpelled (piece_bytes p i)
unfolding IsPieceOf
piece-spelled work p i of there is = subst IsSpelled (sym (of i there)) is

pub piece-cause : {H : Type 0} (host : Ghosts H) (a b : H) (p : Piece) (i : ℕ) (fault : DiskFault)
    → (IsTrue (host.tells OfWork) → IsSpelled (piece_bytes p i)) → IsPieceDamage p i fault → IsSlotCause host a b i fault
piece-cause host a b p i (Work count) spelled f = absurd f
piece-cause host a b p i (Full held room) spelled f = absurd f
piece-cause host a b p i (Damaged place about) spelled f = ((λ told. f.0 (spelled told)), f.1)
