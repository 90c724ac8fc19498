-- The entries of a directory in the contents of Work.
use Rattle.std.proofs.Common.{◌≡◌, ◌≢◌, ℕ, ◌/◌, ◌<◌, ◌≤◌, ◌⊎◌, Bool, true, false, List, [], Option, Some, None, refl, sym, ap, ◌∙◌, subst, arith, inl, inr}
use Rattle.std.specs.FinMap as map
use Rattle.loom_host.specs.Bytes.{overwritten}
use Rattle.probing.specs.Homes.{paged_home_of}
use Rattle.probing.specs.Table.{map_of, turned, IsTable}
use Rattle.probing.proofs.MapLaws.{map_of-same, len-map_of, get-map_of, get-map_of-zero, get-map_of_held, held_at, empty_map}
use Rattle.probing.proofs.HomeLaws.{paged_home_of-below}
use Rattle.probing.proofs.TableLaws.{IsTable-same, equal_or_not, empty_table, turned-below}
use Rattle.work_directory.specs.declared.slot.Slot.{Slot}
use Rattle.work_directory.specs.declared.directory.Directory.{Directory}
use Rattle.work_directory.specs.declared.directory.Found.{Found}
use Rattle.work_directory.specs.declared.directory.Found.TheVariants.{Held, Vacant}
use Rattle.work_directory.specs.Directory.{held_of, slots_of, was_written, end_of, entries_of, shown_at, AnswersSearch, IsIn, IsOfName}
use Rattle.work_directory.specs.Slots.{slot_at, slot_in, slot_place, used_slot, bytes_of, IsSpelled, AreSpelled}
use Rattle.work_directory.specs.Table.{Entry, entry_of, name_at, entry_at}
use Rattle.work_directory.specs.Work.{SameBefore}
use Rattle.work_directory.proofs.ContentsLaws.{window-same_before, before-written}
use Rattle.work_directory.proofs.SlotLaws.{used_slot-some, used_slot-named, used_slot-zero, slot_at-none, slot_ends, spelled-none}

pub entries_are : (d : Directory) (w : List ℕ) → entries_of d w ≡ map_of (name_at w) (entry_at w) (slots_of d)
unfolding entries_of
entries_are d w = refl

-- a table in spelled slots is a directory
pub in-table : (d : Directory) (w : List ℕ) → AreSpelled w (slots_of d) → IsTable paged_home_of (name_at w) (slots_of d) (held_of d)
    → ((i : ℕ) → i < slots_of d → was_written d (i / 170) ≡ false → name_at w i ≡ 0) → IsIn d w
in-table d w spelled t unwritten = record {
  spelled = spelled;
  table = t;
  unwritten = unwritten;
  held = ap map.len (entries_are d w) ∙ len-map_of (name_at w) (entry_at w) (slots_of d) t.distinct ∙ t.count_is;
}

-- ---- what stands behind is no part of it

slots-same : (d : Directory) (v w : List ℕ) → SameBefore (end_of d) v w → (j : ℕ) → j < slots_of d → bytes_of w j ≡ bytes_of v j
slots-same d v w same j l = window-same_before (end_of d) v w (slot_place j) 24 same (slot_ends j (slots_of d) l)

slot-same : (d : Directory) (v w : List ℕ) → SameBefore (end_of d) v w → (j : ℕ) → j < slots_of d → slot_at w j ≡ slot_at v j
unfolding slot_at
slot-same d v w same j l = ap slot_in (slots-same d v w same j l)

spelled-same : (d : Directory) (v w : List ℕ) → SameBefore (end_of d) v w → AreSpelled v (slots_of d) → AreSpelled w (slots_of d)
unfolding AreSpelled
spelled-same d v w same all = λ i l. subst IsSpelled (sym (slots-same d v w same i l)) (all i l)

pub entries-kept : (d : Directory) (v w : List ℕ) → SameBefore (end_of d) v w → entries_of d w ≡ entries_of d v
entries-kept d v w same = entries_are d w ∙ map_of-same (name_at v) (name_at w) (entry_at v) (entry_at w) (slots_of d)
    (λ j l. ap (λ (s : Slot). s.name) (slot-same d v w same j l)) (λ j l. ap entry_of (slot-same d v w same j l)) ∙ sym (entries_are d v)

pub in-kept : (d : Directory) (v w : List ℕ) → SameBefore (end_of d) v w → IsIn d v → IsIn d w
in-kept d v w same is =
    in-table d w (spelled-same d v w same is.spelled)
    (IsTable-same paged_home_of-below (name_at v) (name_at w) (slots_of d) (held_of d) (λ j l. ap (λ (s : Slot). s.name) (slot-same d v w same j l)) is.table)
    (λ i l none. ap (λ (s : Slot). s.name) (slot-same d v w same i l) ∙ is.unwritten i l none)

-- and where a search ends
pub search-kept : (d : Directory) (v w : List ℕ) (name : ℕ) (found : Found) → SameBefore (end_of d) v w → IsOfName (slots_of d) name found
    → AnswersSearch v (slots_of d) name found → AnswersSearch w (slots_of d) name found
search-kept d v w name (Held at slot) same of is = slot-same d v w same at of.0 ∙ is
search-kept d v w name (Vacant at) same of is =
    let n : ℕ = slots_of d in
    let names : (j : ℕ) → j < n → name_at w j ≡ name_at v j = λ j l. ap (λ (s : Slot). s.name) (slot-same d v w same j l) in
    let home : paged_home_of name n < n = paged_home_of-below name n (let l = of.0 in omega (arith, l)) in
    let below : (e : ℕ) → e < is.steps → turned (paged_home_of name n) e n < n = λ e l. turned-below (paged_home_of name n) e n home (let s = is.within in omega (arith, s, l)) in
    record {
      steps = is.steps;
      within = is.within;
      place_is = is.place_is;
      empty = names at of.0 ∙ is.empty;
      passed = record {
        used = λ e l nought. is.passed.used e l (sym (names _ (below e l)) ∙ nought);
        others = λ e l named. is.passed.others e l (sym (names _ (below e l)) ∙ named);
      };
    }

-- ---- slots and entries

shown_is : (w : List ℕ) (i : ℕ) → shown_at w i ≡ used_slot (slot_at w i)
unfolding shown_at
shown_is w i = refl

pub entry-shown : (d : Directory) (w : List ℕ) (i : ℕ) (s : Slot) → IsIn d w → i < slots_of d → shown_at w i ≡ Some s
    → map.get (entries_of d w) s.name ≡ Some (entry_of s)
entry-shown d w i s is l shows =
    let u = used_slot-some (slot_at w i) s (sym shows ∙ shown_is w i) in
    let name = ap (λ (t : Slot). t.name) u.0 in
    ap (λ m. map.get m s.name) (entries_are d w)
    ∙ get-map_of_held (name_at w) (entry_at w) (slots_of d) (held_of d) s.name i is.table (λ nought. u.1 (sym name ∙ nought)) l (sym name)
    ∙ ap (λ (t : Slot). Some (entry_of t)) (sym u.0)

pub entry-there : (d : Directory) (w : List ℕ) (name : ℕ) (e : Entry) → map.get (entries_of d w) name ≡ Some e
    → (i : ℕ) × (i < slots_of d) × (shown_at w i ≡ Some (record { name = name; count = e.count; place = e.place }))
entry-there d w name e is = by_name (equal_or_not name 0) where
  got : map.get (map_of (name_at w) (entry_at w) (slots_of d)) name ≡ Some e
  got = ap (λ m. map.get m name) (sym (entries_are d w)) ∙ is

  by_name : (name ≡ 0) ⊎ (name ≢ 0)
      → (i : ℕ) × (i < slots_of d) × (shown_at w i ≡ Some (record { name = name; count = e.count; place = e.place }))
  by_name (inl nought) = absurd (let no : ◌≡◌ {A = Option Entry} None (Some e) = sym
      (ap (map.get (map_of (name_at w) (entry_at w) (slots_of d))) nought ∙ get-map_of-zero (name_at w) (entry_at w) (slots_of d)) ∙ got in
      cc no)
  by_name (inr some) =
      let h = held_at (name_at w) (entry_at w) (slots_of d) name e
      (sym (get-map_of (name_at w) (entry_at w) (slots_of d) name some) ∙ got) in
      let named : (slot_at w h.0).name ≢ 0 = λ nought. some (sym h.2 ∙ nought) in
      let slot : slot_at w h.0 ≡ record { name = name; count = e.count; place = e.place } = λ i. record
      { name = h.2 i; count = (h.3 i).count; place = (h.3 i).place } in
      (h.0, h.1, shown_is w h.0 ∙ used_slot-named (slot_at w h.0) named ∙ ap Some slot)

pub entry-once : (d : Directory) (w : List ℕ) (i j : ℕ) (s t : Slot) → IsIn d w → i < slots_of d → j < slots_of d → shown_at w i ≡ Some s
    → shown_at w j ≡ Some t → s.name ≡ t.name → i ≡ j
entry-once d w i j s t is l m a b same =
    let x = used_slot-some (slot_at w i) s (sym a ∙ shown_is w i) in
    let y = used_slot-some (slot_at w j) t (sym b ∙ shown_is w j) in
    is.table.distinct i j l m x.1 (sym (ap (λ (u : Slot). u.name) x.0) ∙ same ∙ ap (λ (u : Slot). u.name) y.0)

-- a slot of a block that was never written shows nothing
pub unwritten-shown : (d : Directory) (w : List ℕ) (i block : ℕ) → IsIn d w → i < slots_of d → i / 170 ≡ block → was_written d block ≡ false
    → shown_at w i ≡ None
unwritten-shown d w i block is l in_block none =
    shown_is w i ∙ used_slot-zero (slot_at w i) (is.unwritten i l (ap (was_written d) in_block ∙ none))

-- and what shows something was written
pub shown-written : (d : Directory) (w : List ℕ) (i : ℕ) → IsIn d w → i < slots_of d → name_at w i ≢ 0 → was_written d (i / 170) ≡ true
shown-written d w i is l some = by_mark (was_written d (i / 170)) refl where
  by_mark : (b : Bool) → was_written d (i / 170) ≡ b → was_written d (i / 170) ≡ true
  by_mark true e = e
  by_mark false e = absurd (some (is.unwritten i l e))

-- ---- over an empty file

pub in-none : (d : Directory) → held_of d ≡ 0 → IsIn d []
in-none d nought = in-table d [] (spelled-none (slots_of d)) (subst (λ (k : ℕ). IsTable paged_home_of (name_at []) (slots_of d) k) (sym nought)
    (empty_table (name_at []) (slots_of d) slot_at-none)) (λ i l none. slot_at-none i)

pub entries-none : (d : Directory) → entries_of d [] ≡ map.empty
entries-none d = entries_are d [] ∙ empty_map (name_at []) (entry_at []) (slots_of d) slot_at-none

-- ---- after a write behind it

pub in-written : (d : Directory) (w : List ℕ) (at : ℕ) (bytes : List ℕ) → end_of d ≤ at → IsIn d w → IsIn d (overwritten w at bytes)
in-written d w at bytes past is = in-kept d w (overwritten w at bytes) (before-written w (end_of d) at bytes past) is

pub entries-written : (d : Directory) (w : List ℕ) (at : ℕ) (bytes : List ℕ) → end_of d ≤ at
    → entries_of d (overwritten w at bytes) ≡ entries_of d w
entries-written d w at bytes past = entries-kept d w (overwritten w at bytes) (before-written w (end_of d) at bytes past)
