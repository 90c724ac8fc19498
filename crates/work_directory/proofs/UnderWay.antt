-- A slot is taken out of Work, step by step, by the values that the code has.
-- Bytes of a directory come in by `Writes`, one record for one written slot. Removal is carried by `IsUnderWay`, with one law
-- each for its start, a slot that stays, one that moves, and its end.
use Rattle.std.proofs.Common.{◌≡◌, ◌≢◌, ℕ, ◌+◌, ◌<◌, ◌≤◌, List, Some, None, refl, sym, ap, ◌∙◌, subst}
use Rattle.probing.proofs.HomeLaws.{paged_home_of-below}
use Rattle.probing.specs.Search.{Puts}
use Rattle.probing.specs.Homes.{paged_home_of}
use Rattle.probing.specs.Table.{IsTable, turned, apart}
use Rattle.probing.proofs.ClosingLaws.{IsClosing, closing_start, step_left, step_moved, step_end}
use Rattle.work_directory.specs.declared.slot.Slot.{Slot}
use Rattle.work_directory.specs.Slots.{no_slot, slot_at, slots_end, used_slot, AreSpelled}
use Rattle.work_directory.specs.Table.{name_at, entry_at, entry_of}
use Rattle.work_directory.specs.Inside.{Writes, Closes}
use Rattle.work_directory.specs.Work.{SameFrom}
use Rattle.work_directory.proofs.ContentsLaws.{same-itself, same-again}
use Rattle.work_directory.proofs.SlotLaws.{used_slot-none, used_slot-some, puts-name, puts-entry}

-- v is what Work held first, and w what it holds now
pub record IsUnderWay (v w : List ℕ) (n count at hole gap step : ℕ) : Type 0 where
  pub closing : IsClosing paged_home_of (name_at v) (name_at w) (entry_at v) (entry_at w) n count at hole gap step
  pub spelled : AreSpelled w n
  pub behind : SameFrom (slots_end n) v w

pub start : (v : List ℕ) (n count at : ℕ) → AreSpelled v n → IsTable paged_home_of (name_at v) n count → at < n → (slot_at v at).name ≢ 0
    → IsUnderWay v v n count at at 1 1
start v n count at spelled t within some = record {
  closing = closing_start paged_home_of-below (name_at v) (entry_at v) n count at t within some;
  spelled = spelled;
  behind = same-itself (slots_end n) v;
}

-- the slot at a place was read, and Work is w as it was
module _ (v u w : List ℕ) (n count at hole gap step place : ℕ) (way : IsUnderWay v u n count at hole gap step) (still : w ≡ u)
    (first : at < n) (within : hole < n) (low : 1 ≤ gap) (high : gap ≤ step) (room : step < n) (here : place ≡ turned hole gap n) where
  way_now : IsUnderWay v w n count at hole gap step
  way_now = subst (λ (x : List ℕ). IsUnderWay v x n count at hole gap step) (sym still) way

  module _ (slot : Slot) (home d : ℕ) (read : Some slot ≡ used_slot (slot_at u place)) (begins : home ≡ paged_home_of slot.name n)
      (far : d ≡ apart home place n) where
    slot_is : slot ≡ slot_at w place
    slot_is = (used_slot-some (slot_at u place) slot read).0 ∙ ap (λ (x : List ℕ). slot_at x place) (sym still)

    name_is : slot.name ≡ name_at w place
    name_is = ap (λ (s : Slot). s.name) slot_is

    named : slot.name ≢ 0
    named nought = (used_slot-some (slot_at u place) slot read).1
        (ap (λ (s : Slot). s.name) (sym (used_slot-some (slot_at u place) slot read).0) ∙ nought)

    far_is : d ≡ apart (paged_home_of slot.name n) place n
    far_is = far ∙ ap (λ (k : ℕ). apart k place n) begins

    pub left : d < gap → IsUnderWay v w n count at hole (gap + 1) (step + 1)
    left near = record {
      closing = step_left paged_home_of-below (name_at v) (name_at w) (entry_at v) (entry_at w) n count at hole gap step place d slot.name way_now.closing
          first within low high room here name_is named far_is near;
      spelled = way_now.spelled;
      behind = way_now.behind;
    }

    pub moved : (x : List ℕ) → gap ≤ d → Writes w x n hole slot → IsUnderWay v x n count at place 1 (step + 1)
    moved x away wrote = record {
      closing = step_moved paged_home_of-below (name_at v) (name_at w) (entry_at v) (entry_at w) n count at hole gap step place d slot.name way_now.closing
          first within low high room here name_is (name_at x) (entry_at x) named far_is away
          (puts-name w x n hole slot wrote.puts)
          (subst (λ e. Puts (entry_at w) (entry_at x) n hole e) (ap entry_of slot_is) (puts-entry w x n hole slot wrote.puts));
      spelled = wrote.spelled way_now.spelled;
      behind = same-again (slots_end n) v w x way_now.behind wrote.behind;
    }

  pub ends : (x : List ℕ) → None ≡ used_slot (slot_at u place) → Writes w x n hole no_slot → Closes v x n count at
  ends x read wrote = record {
    closed = step_end paged_home_of-below (name_at v) (name_at w) (entry_at v) (entry_at w) n count at hole gap step place 0 (name_at w place) way_now.closing
        first within low high room here refl (name_at x) (entry_at x) (entry_of no_slot)
        (ap (λ (y : List ℕ). name_at y place) still ∙ used_slot-none (slot_at u place) read)
        (puts-name w x n hole no_slot wrote.puts) (puts-entry w x n hole no_slot wrote.puts);
    spelled = wrote.spelled way_now.spelled;
    behind = same-again (slots_end n) v w x way_now.behind wrote.behind;
  }
