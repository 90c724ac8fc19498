-- CoreFull: the need of a row that has no room.
use Rattle.std.proofs.Common.{◌≡◌, ◌≢◌, ℕ, ◌+◌, ◌<◌, ◌≤◌, ◌||◌, Bool, true, false, cond, eqb, List, length, refl, sym, ◌∙◌, ap, subst, arith, Option, Some, None, count_by}
use Rattle.std.proofs.lemmas.Grind.{common_steps}
use Rattle.long_names.specs.Heap.{Heap}
use Rattle.long_names.specs.Need.{Fits, words_at, entries_at, added, is_pinned, words_of_row, entries_of_row}
use Rattle.object_table.specs.Entries.{is_short, is_used, place_of}
use Rattle.core_view.specs.Core.{Core}
use Rattle.core_view.specs.Held.{Disk, held}
use Rattle.core_view.specs.Counts.{names, outside}
use Rattle.core_view.specs.Kept.{IsCore}
use Rattle.core_view.proofs.Core.{placed-used}
use Rattle.purger.specs.declared.room.Pinned.{Pinned}
use Rattle.object_table.specs.Entries.{sum_below, used_by}
use Rattle.core_view.specs.Room.{room_by, room_for, entries_by, entries_for, over_three, IsBare}
use Rattle.loom_memory.specs.Memory.{pin_in, name_if, IsPinned}
use Rattle.core_view.specs.Room.{in_hand}
use Rattle.loom_memory.proofs.NeedLaws.{words-at, entries-at, names-eq, none-there, slot-adds}
use Rattle.core_view.proofs.Bare.{entries-few}

swap-eq : (a b : ℕ) → eqb a b ≡ eqb b a
swap-eq a b = grind (arith, common_steps)

-- the slots with the names of three entries
abbrev pub slots_by : Core → Pinned → ℕ → Option ℕ
slots_by c pins = λ i. name_if c.entries (pin_in pins i)

abbrev pub heap_by : Core → Disk → ℕ → Heap
heap_by c disk next = record { at = held c disk; next = next }

-- whether a slot has the name of an entry with a body is whether it is that entry
pub pinned-is : (c : Core) (w v : ℕ) → IsCore c → IsPinned c w → IsPinned c v → v ≢ 0 → is_pinned (c.entries v).name (name_if c.entries w) ≡ eqb v w
pinned-is c w v core pw pv some = go (eqb w 0) refl
  where
    on : is_used (c.entries v).state ≡ true
    on = placed-used (c.entries v).state (pv some).1.0 (pv some).1.1

    go : (b : Bool) → eqb w 0 ≡ b → is_pinned (c.entries v).name (cond b None (Some (c.entries w).name)) ≡ eqb v w
    go true e = let is : w ≡ 0 = grind (arith, common_steps) in let differ : eqb v w ≡ false = grind (arith, common_steps) in sym differ
    go false e =
        let there : w ≢ 0 = (λ h. let yes_ : eqb w 0 ≡ true = grind (arith, common_steps) in absurd (let no_ : true ≡ false = sym yes_ ∙ e in cc)) in
        names-eq c w v core (placed-used (c.entries w).state (pw there).1.0 (pw there).1.1) on ∙ swap-eq w v

-- the entries that the pinned objects need
pub row-entries : (c : Core) (disk : Disk) (next object : ℕ) (pins : Pinned) → IsCore c → ((i : ℕ) → IsPinned c (pin_in pins i)) → entries_of_row (heap_by c disk next) (record { object = object; slots = slots_by c pins }) ≡ 51 + over_three (entries_for c) pins.a pins.b pins.d
unfolding entries_of_row
row-entries c disk next object pins core pinned =
    let size = entries_at (heap_by c disk next) in
    let none : entries_for c 0 ≡ 0 = ap (entries_by c.chunks (c.entries 0)) (none-there c core) in
    let one_ : added (entries_at (heap_by c disk next)) (λ k. false) (name_if c.entries pins.a) ≡ entries_for c pins.a = slot-adds c (entries_at (heap_by c disk next)) (entries_for c) (λ k. false) false pins.a core (pinned 0) none (λ some. entries-at c disk next pins.a (pinned 0 some).1.0 core (pinned 0 some).1.1) (λ some. refl) in
    let two : added (entries_at (heap_by c disk next)) (λ k. is_pinned k (name_if c.entries pins.a)) (name_if c.entries pins.b) ≡ cond (eqb pins.b pins.a) 0 (entries_for c pins.b) = slot-adds c (entries_at (heap_by c disk next)) (entries_for c) (λ k. is_pinned k (name_if c.entries pins.a)) (eqb pins.b pins.a) pins.b core (pinned 1) none (λ some. entries-at c disk next pins.b (pinned 1 some).1.0 core (pinned 1 some).1.1) (λ some. pinned-is c pins.a pins.b core (pinned 0) (pinned 1) some) in
    let three : added (entries_at (heap_by c disk next)) (λ k. is_pinned k (name_if c.entries pins.a) || is_pinned k (name_if c.entries pins.b)) (name_if c.entries pins.d) ≡ cond (eqb pins.d pins.a || eqb pins.d pins.b) 0 (entries_for c pins.d) = slot-adds c (entries_at (heap_by c disk next)) (entries_for c) (λ k. is_pinned k (name_if c.entries pins.a) || is_pinned k (name_if c.entries pins.b)) (eqb pins.d pins.a || eqb pins.d pins.b) pins.d core (pinned 2) none (λ some. entries-at c disk next pins.d (pinned 2 some).1.0 core (pinned 2 some).1.1)
    (λ some. ap (λ (x : Bool). x || is_pinned (c.entries pins.d).name (name_if c.entries pins.b)) (pinned-is c pins.a pins.d core (pinned 0) (pinned 2) some) ∙ ap (λ (x : Bool). eqb pins.d pins.a || x) (pinned-is c pins.b pins.d core (pinned 1) (pinned 2) some)) in
    omega (arith, one_, two, three)

-- the words of an object that isn't in the core, and of the pinned ones
pub row-words : (c : Core) (disk : Disk) (next object words : ℕ) (pins : Pinned) → IsCore c → ((i : ℕ) → IsPinned c (pin_in pins i)) → words_at (heap_by c disk next) object ≡ words → ((i : ℕ) → pin_in pins i ≢ 0 → eqb (c.entries (pin_in pins i)).name object ≡ false)
    → words_of_row (heap_by c disk next) (record { object = object; slots = slots_by c pins }) ≡ words + over_three (room_for c) pins.a pins.b pins.d
unfolding words_of_row
row-words c disk next object words pins core pinned sized other =
    let none : room_for c 0 ≡ 0 = ap (room_by c.chunks) (none-there c core) in
    let one_ : added (words_at (heap_by c disk next)) (λ k. eqb k object) (name_if c.entries pins.a) ≡ room_for c pins.a = slot-adds c (words_at (heap_by c disk next)) (room_for c) (λ k. eqb k object) false pins.a core (pinned 0) none (λ some. words-at c disk next pins.a (pinned 0 some).1.0 core (pinned 0 some).1.1) (other 0) in
    let two : added (words_at (heap_by c disk next)) (λ k. eqb k object || is_pinned k (name_if c.entries pins.a)) (name_if c.entries pins.b) ≡ cond (eqb pins.b pins.a) 0 (room_for c pins.b) = slot-adds c (words_at (heap_by c disk next)) (room_for c) (λ k. eqb k object || is_pinned k (name_if c.entries pins.a)) (eqb pins.b pins.a) pins.b core (pinned 1) none (λ some. words-at c disk next pins.b (pinned 1 some).1.0 core (pinned 1 some).1.1)
    (λ some. ap (λ (x : Bool). x || is_pinned (c.entries pins.b).name (name_if c.entries pins.a)) (other 1 some) ∙ pinned-is c pins.a pins.b core (pinned 0) (pinned 1) some) in
    let three : added (words_at (heap_by c disk next)) (λ k. eqb k object || (is_pinned k (name_if c.entries pins.a) || is_pinned k (name_if c.entries pins.b))) (name_if c.entries pins.d) ≡ cond (eqb pins.d pins.a || eqb pins.d pins.b) 0 (room_for c pins.d) = slot-adds c (words_at (heap_by c disk next)) (room_for c) (λ k. eqb k object || (is_pinned k (name_if c.entries pins.a) || is_pinned k (name_if c.entries pins.b))) (eqb pins.d pins.a || eqb pins.d pins.b) pins.d core (pinned 2) none (λ some. words-at c disk next pins.d (pinned 2 some).1.0 core (pinned 2 some).1.1)
    (λ some. ap (λ (x : Bool). x || (is_pinned (c.entries pins.d).name (name_if c.entries pins.a) || is_pinned (c.entries pins.d).name (name_if c.entries pins.b))) (other 2 some) ∙ ap (λ (x : Bool). x || is_pinned (c.entries pins.d).name (name_if c.entries pins.b)) (pinned-is c pins.a pins.d core (pinned 0) (pinned 2) some) ∙ ap (λ (x : Bool). eqb pins.d pins.a || x) (pinned-is c pins.b pins.d core (pinned 1) (pinned 2) some)) in
    omega (arith, sized, one_, two, three)

-- Fewer than 27 entries are free, and nothing more can go: the row has no room.
pub no-entries : (c : Core) (disk : Disk) (next object words free entries size : ℕ) (regs : List ℕ) (pins : Pinned) → IsCore c → IsBare pins.a pins.b pins.d c → length regs ≡ 24 → ((t : ℕ) → outside c t ≡ count_by (names t) (in_hand regs pins.a pins.b pins.d)) → ((i : ℕ) → IsPinned c (pin_in pins i))
    → entries ≡ free + sum_below c.bound (λ t. used_by (c.entries t)) → free < 27 → Fits size entries words (entries_of_row (heap_by c disk next) (record { object = object; slots = slots_by c pins })) → ⊥
no-entries c disk next object words free entries size regs pins core bare many rooted pinned all few fits =
    let row = row-entries c disk next object pins core pinned in
    let used = entries-few c regs pins.a pins.b pins.d core bare rooted (pin-of 0) (pin-of 1) (pin-of 2) in
    let leaves = fits.leaves in
    omega arith
  where
    pin-of : (i : ℕ) → is_short (pin_in pins i) ≡ true → (p : ℕ) × (place_of (c.entries (pin_in pins i)).state ≡ Some p)
    pin-of i is = (pinned i (λ e. let zero_ : is_short 0 ≡ true = subst (λ (w : ℕ). is_short w ≡ true) e is in absurd (cc))).1

-- Fewer words are free than the object needs, and nothing more can go: the row has no room.
pub no-words : (c : Core) (disk : Disk) (next object words free entries size taken : ℕ) (pins : Pinned) → IsCore c → ((i : ℕ) → IsPinned c (pin_in pins i)) → words_at (heap_by c disk next) object ≡ words → ((i : ℕ) → pin_in pins i ≢ 0 → eqb (c.entries (pin_in pins i)).name object ≡ false)
    → size ≤ free + over_three (room_for c) pins.a pins.b pins.d → free < words → Fits size entries (words_of_row (heap_by c disk next) (record { object = object; slots = slots_by c pins })) taken → ⊥
no-words c disk next object words free entries size taken pins core pinned sized other most few fits =
    let row = row-words c disk next object words pins core pinned sized other in
    let all = fits.words in
    omega arith
