-- Slots as bytes.
use Rattle.std.proofs.Common.{◌≡◌, ◌≢◌, ℕ, ◌+◌, ◌%◌, ◌<◌, ◌≤◌, ◌⊎◌, ◌==◌, true, false, cond, List, [], length, ◌++◌, drop, replicate, Option, Some, None, refl, sym, ap, ◌∙◌, subst, arith, inl, inr}
use Rattle.std.proofs.lemmas.Bool.Decides.{nat_tests}
use Rattle.byteorder.specs.Endian.{big_bytes, big_number}
use Rattle.byteorder.specs.Numbers.{big_number-reads_back}
use Rattle.loom_host.specs.Bytes.{window, overwritten}
use Rattle.loom_host.proofs.Windows.{window-overwritten_same, window-overwritten_apart, length-overwritten, get_or-overwritten, byte_after_outside}
use Rattle.probing.specs.Search.{Puts}
use Rattle.probing.proofs.TableLaws.{below_or_past, equal_or_not, puts-part}
use Rattle.work_directory.specs.declared.slot.Slot.{Slot}
use Rattle.work_directory.specs.Slots.{spelling, slot_in, slot_at, slot_place, slots_end, used_slot, bytes_of, IsSpelled, AreSpelled, FitsBytes}
use Rattle.work_directory.specs.Inside.{Writes}
use Rattle.work_directory.specs.Table.{entry_of, name_at, entry_at}
use Rattle.work_directory.specs.Work.{SameFrom}

-- a slot lies before each later one, and before the end
slot_before : (i j : ℕ) → i < j → slot_place i + 24 ≤ slot_place j
slot_before i j l = omega arith

pub slot_ends : (i n : ℕ) → i < n → slot_place i + 24 ≤ slots_end n
slot_ends i n l = omega arith

slots_apart : (i j : ℕ) → i ≢ j → (slot_place i + 24 ≤ slot_place j) ⊎ (slot_place j + 24 ≤ slot_place i)
slots_apart i j h = by_order (below_or_past i j) where
  by_order : (i < j) ⊎ (j ≤ i) → (slot_place i + 24 ≤ slot_place j) ⊎ (slot_place j + 24 ≤ slot_place i)
  by_order (inl l) = inl (slot_before i j l)
  by_order (inr l) = inr (slot_before j i (omega arith))

pub slot_in-spelling : (slot : Slot) → FitsBytes slot → slot_in (spelling slot) ≡ slot
slot_in-spelling slot fits =
    let name : big_number 4 (spelling slot) ≡ slot.name = big_number-reads_back 4 slot.name
    (replicate 4 0 ++ big_bytes 8 slot.count ++ big_bytes 8 slot.place) fits.name in
    let count : big_number 8 (drop 8 (spelling slot)) ≡ slot.count = big_number-reads_back 8 slot.count (big_bytes 8 slot.place)
    fits.count in
    let place : big_number 8 (drop 16 (spelling slot)) ≡ slot.place = big_number-reads_back 8 slot.place [] fits.place in
    λ i. record { name = name i; count = count i; place = place i }

pub spelling-is_spelled : (slot : Slot) → FitsBytes slot → slot.name % 2 ≡ 0 → IsSpelled (spelling slot)
spelling-is_spelled slot fits even = record {
  zeros = refl;
  even = ap (λ m. m % 2) (ap (λ (s : Slot). s.name) (slot_in-spelling slot fits)) ∙ even;
}

-- 24 bytes that are written stand there, and the others stay
module _ (work : List ℕ) (n at : ℕ) (bytes : List ℕ) (size : length bytes ≡ 24) (within : at < n) where
  same_here : bytes_of (overwritten work (slot_place at) bytes) at ≡ bytes
  same_here = ap (λ k. window (overwritten work (slot_place at) bytes) (slot_place at) k) (sym size) ∙ window-overwritten_same work (slot_place at) bytes

  same_there : (j : ℕ) → j ≢ at → bytes_of (overwritten work (slot_place at) bytes) j ≡ bytes_of work j
  same_there j other = window-overwritten_apart work (slot_place at) bytes (slot_place j) 24 (rw size (slots_apart j at other))

  writes_slots : Puts (slot_at work) (slot_at (overwritten work (slot_place at) bytes)) n at (slot_in bytes)
  unfolding slot_at
  writes_slots = record { here = ap slot_in same_here; others = λ j l other. ap slot_in (same_there j other) }

  writes_spelled : IsSpelled bytes → AreSpelled work n → AreSpelled (overwritten work (slot_place at) bytes) n
  unfolding AreSpelled
  writes_spelled is all = λ i l. by_place i l (equal_or_not i at) where
    by_place : (i : ℕ) → i < n → (i ≡ at) ⊎ (i ≢ at) → IsSpelled (bytes_of (overwritten work (slot_place at) bytes) i)
    by_place i l (inl here) = subst IsSpelled (sym (ap (bytes_of (overwritten work (slot_place at) bytes)) here ∙ same_here)) is
    by_place i l (inr away) = subst IsSpelled (sym (same_there i away)) (all i l)

  writes_behind : SameFrom (slots_end n) work (overwritten work (slot_place at) bytes)
  writes_behind = record {
    bytes = λ k past. get_or-overwritten work (slot_place at) bytes k ∙ byte_after_outside work (slot_place at) bytes k (inr (let l = slot_ends at n within in omega (arith, l, size)));
    end = let e = length-overwritten work (slot_place at) bytes in let l = slot_ends at n within in omega (arith, e, l, size);
  }

  writes_all : IsSpelled bytes → Writes work (overwritten work (slot_place at) bytes) n at (slot_in bytes)
  writes_all is = record { puts = writes_slots; spelled = writes_spelled is; behind = writes_behind }

pub writes : (work new : List ℕ) (n at place : ℕ) (bytes : List ℕ) → length bytes ≡ 24 → at < n → IsSpelled bytes → place ≡ slot_place at
    → new ≡ overwritten work place bytes → Writes work new n at (slot_in bytes)
writes work new n at place bytes size within is here made =
    subst (λ (w : List ℕ). Writes work w n at (slot_in bytes)) (sym (made ∙ ap (λ k. overwritten work k bytes) here))
    (writes_all work n at bytes size within is)

-- a slot that is put there, by its name and by its entry
pub puts-name : (v w : List ℕ) (n at : ℕ) (slot : Slot) → Puts (slot_at v) (slot_at w) n at slot
    → Puts (name_at v) (name_at w) n at slot.name
puts-name v w n at slot p = puts-part (λ (s : Slot). s.name) (slot_at v) (slot_at w) n at slot p

pub puts-entry : (v w : List ℕ) (n at : ℕ) (slot : Slot) → Puts (slot_at v) (slot_at w) n at slot
    → Puts (entry_at v) (entry_at w) n at (entry_of slot)
puts-entry v w n at slot p = puts-part entry_of (slot_at v) (slot_at w) n at slot p

-- ---- a slot is empty or used

pub used_slot-none : (s : Slot) → None ≡ used_slot s → s.name ≡ 0
used_slot-none s e = by_name (s.name == 0) refl where
  by_name : (b : _) → (s.name == 0) ≡ b → s.name ≡ 0
  by_name true t = grind (arith, nat_tests)
  by_name false t = absurd (let no : ◌≡◌ {A = Option Slot} None (Some s) = e ∙ ap (λ b. cond {A = Option Slot} b None (Some s)) t in cc no)

pub used_slot-some : (s slot : Slot) → Some slot ≡ used_slot s → (slot ≡ s) × (s.name ≢ 0)
used_slot-some s slot e = by_name (s.name == 0) refl where
  by_name : (b : _) → (s.name == 0) ≡ b → (slot ≡ s) × (s.name ≢ 0)
  by_name true t = absurd (let no : ◌≡◌ {A = Option Slot} (Some slot) None = e ∙ ap (λ b. cond {A = Option Slot} b None (Some s)) t in cc
      no)
  by_name false t = (
    let is : ◌≡◌ {A = Option Slot} (Some slot) (Some s) = e ∙ ap (λ b. cond {A = Option Slot} b None (Some s)) t in cc
        is,
    grind (arith, nat_tests),
  )

pub used_slot-zero : (s : Slot) → s.name ≡ 0 → used_slot s ≡ None
used_slot-zero s e = let t : (s.name == 0) ≡ true = grind (arith, nat_tests) in rw t refl

pub used_slot-named : (s : Slot) → s.name ≢ 0 → used_slot s ≡ Some s
used_slot-named s e = let t : (s.name == 0) ≡ false = grind (arith, nat_tests) in rw t refl

-- ---- an empty file

pub slot_at-none : (i : ℕ) → (slot_at [] i).name ≡ 0
unfolding slot_at window
slot_at-none i = refl

pub spelled-none : (n : ℕ) → AreSpelled [] n
unfolding AreSpelled window
spelled-none n = λ i l. record { zeros = refl; even = refl }
