-- What a search found in a directory, and what a change makes of it.
use Rattle.std.proofs.Common.{◌≡◌, ◌≢◌, ℕ, ◌+◌, ◌-◌, ◌*◌, ◌/◌, ◌<◌, ◌==◌, ◌||◌, ◌⊎◌, true, false, List, Option, Some, None, Bool, IsTrue, Result, Ok, Err, IfOk, sym, ap, ◌∙◌, subst, arith, inl, inr}
use Rattle.probing.specs.Homes.{paged_home_of}
use Rattle.probing.proofs.HomeLaws.{paged_home_of-below}
use Rattle.std.specs.FinMap as map
use Rattle.std.specs.Option.{IsSome}
use Rattle.probing.specs.Search.{IsVacancy, Puts}
use Rattle.probing.specs.Table.{used, map_of, IsTable}
use Rattle.probing.proofs.ClosingLaws.{closed_map, used_some}
use Rattle.probing.proofs.MapLaws.{get-map_of_held, get-map_of_vacant, put_map}
use Rattle.probing.proofs.TableLaws.{equal_or_not, put_table, set_table}
use Rattle.std.proofs.lemmas.Bool.Decides.{nat_tests}
use Rattle.work_directory.specs.declared.slot.Slot.{Slot}
use Rattle.work_directory.specs.declared.directory.Directory.{Directory}
use Rattle.work_directory.specs.declared.directory.Found.{Found}
use Rattle.work_directory.specs.declared.directory.Found.TheVariants.{Held, Vacant}
use Rattle.loom_host.specs.declared.outside.DiskFault.{DiskFault}
use Rattle.work_directory.specs.Directory.{room_of, held_of, slots_of, was_written, entries_of, found_entry, AnswersSearch, IsIn, IsOfName, IsChanged}
use Rattle.work_directory.specs.Inside.{Writes, Closes}
use Rattle.work_directory.specs.Slots.{slot_at, slots_end, bytes_of, IsSpelled, AreSpelled}
use Rattle.work_directory.specs.Table.{Entry, Entries, entry_of, name_at, entry_at}
use Rattle.work_directory.specs.Work.{SameFrom}
use Rattle.work_directory.proofs.EntryLaws.{entries_are, in-table}
use Rattle.work_directory.proofs.SlotLaws.{puts-name, puts-entry}

-- ---- room

-- a directory has an empty slot
pub some-empty : (d : Directory) (w : List ℕ) → IsIn d w → used (name_at w) (slots_of d) < slots_of d
unfolding room_of held_of
some-empty d w is = let count = is.table.count_is in let fits = d.fits in let some = d.some in omega (arith, count)

pub spelled-at : (w : List ℕ) (n i : ℕ) → AreSpelled w n → i < n → IsSpelled (bytes_of w i)
unfolding AreSpelled
spelled-at w n i all l = all i l

pub one-spelled : (d : Directory) (w : List ℕ) (i : ℕ) → IsIn d w → i < slots_of d → IsSpelled (bytes_of w i)
one-spelled d w i is l = spelled-at w (slots_of d) i is.spelled l

-- ---- what a search found

pub found-held : (d : Directory) (w : List ℕ) (name at : ℕ) (slot : Slot) → IsIn d w → IsOfName (slots_of d) name (Held at slot)
    → slot_at w at ≡ slot → map.get (entries_of d w) name ≡ Some (entry_of slot)
found-held d w name at slot is of here = ap (λ m. map.get m name) (entries_are d w) ∙ get-map_of_held (name_at w) (entry_at w) (slots_of d)
    (held_of d) name at is.table of.2 of.0 (ap (λ (s : Slot). s.name) here ∙ of.1) ∙ ap (λ (s : Slot). Some (entry_of s)) here

pub found-vacant : (d : Directory) (w : List ℕ) (name at : ℕ) → IsIn d w → name ≢ 0 → IsVacancy paged_home_of (name_at w) (slots_of d) name at
    → map.get (entries_of d w) name ≡ None
found-vacant d w name at is named v = ap (λ m. map.get m name) (entries_are d w) ∙ get-map_of_vacant paged_home_of-below (name_at w) (entry_at w)
    (slots_of d) (held_of d) name at is.table named v

pub found-entry : (d : Directory) (w : List ℕ) (name : ℕ) (tells : Bool) (r : Result Found DiskFault) → (IsTrue tells → IsIn d w)
    → IfOk r (IsOfName (slots_of d) name) → IfOk r (λ found. IsTrue tells → AnswersSearch w (slots_of d) name found)
    → IfOk r (λ found. IsTrue tells → found_entry found ≡ map.get (entries_of d w) name)
found-entry d w name tells (Err e) is of answers = tt
found-entry d w name tells (Ok (Held at slot)) is of answers = λ told. sym (found-held d w name at slot (is told) of (answers told))
found-entry d w name tells (Ok (Vacant at)) is of answers = λ told. sym (found-vacant d w name at (is told) of.1 (answers told))

pub none-there : (o : Option Entry) → o ≡ None → IsSome o → ⊥
none-there o e h = cc (rw e at h)

pub some-absent : (o : Option Entry) (e : Entry) → o ≡ Some e → o ≡ None → ⊥
some-absent o e a b = let no : ◌≡◌ {A = Option Entry} (Some e) None = sym a ∙ b in cc no

-- ---- what a change makes of it

becomes : (d new : Directory) (v w : List ℕ) (entries : Entries) → room_of new ≡ room_of d → AreSpelled w (slots_of d)
    → IsTable paged_home_of (name_at w) (slots_of d) (held_of new) → map_of (name_at w) (entry_at w) (slots_of d) ≡ entries
    → SameFrom (slots_end (slots_of d)) v w → ((i : ℕ) → i < slots_of d → was_written new (i / 170) ≡ false → name_at w i ≡ 0)
    → IsChanged new entries v w
becomes d new v w entries same spelled t is behind unwritten =
    let n : slots_of d ≡ slots_of new = ap (λ r. 2 * r) (sym same) in
    record {
      is_in = in-table new w (subst (AreSpelled w) n spelled) (subst (λ (k : ℕ). IsTable paged_home_of (name_at w) k (held_of new)) n t)
          (λ i l. unwritten i (omega (arith, n, l)));
      entries_are = entries_are new w ∙ ap (map_of (name_at w) (entry_at w)) (sym n) ∙ is;
      behind = subst (λ (k : ℕ). SameFrom (slots_end k) v w) n behind;
    }

or_neither : (a b : Bool) → (a || b) ≡ false → b ≡ false
or_neither true b e = absurd (cc e)
or_neither false b e = e

module _ (d new : Directory) (u v w : List ℕ) (at : ℕ) (slot : Slot) (still : v ≡ u) (is : IsIn d u) (same : room_of new ≡ room_of d)
    (some : slot.name ≢ 0) (within : at < slots_of d) (wrote : Writes v w (slots_of d) at slot) where
  from_there : Writes u w (slots_of d) at slot
  from_there = subst (λ (x : List ℕ). Writes x w (slots_of d) at slot) still wrote

  names : Puts (name_at u) (name_at w) (slots_of d) at slot.name
  names = puts-name u w (slots_of d) at slot from_there.puts

  entries : Puts (entry_at u) (entry_at w) (slots_of d) at (entry_of slot)
  entries = puts-entry u w (slots_of d) at slot from_there.puts

  -- a slot is empty where it was, but for the one that was written
  stays_empty : ((block : ℕ) → was_written new block ≡ false → was_written d block ≡ false)
      → ((i : ℕ) → i < slots_of d → i ≡ at → was_written new (i / 170) ≡ false → ⊥) → (i : ℕ) → i < slots_of d
      → was_written new (i / 170) ≡ false → name_at w i ≡ 0
  stays_empty fewer marked i l none = by_place (equal_or_not i at) where
    by_place : (i ≡ at) ⊎ (i ≢ at) → name_at w i ≡ 0
    by_place (inl here) = absurd (marked i l here none)
    by_place (inr away) = names.others i l away ∙ is.unwritten i l (fewer (i / 170) none)

  pub added : held_of new ≡ held_of d + 1 → ((block : ℕ) → was_written new block ≡ (block == at / 170 || was_written d block)) → IsVacancy paged_home_of (name_at u) (slots_of d) slot.name at
      → IsChanged new (map.insert (entries_of d u) slot.name (entry_of slot)) u w
  added more marks vacancy =
      let t = put_table paged_home_of-below (name_at u) (name_at w) (slots_of d) (held_of d) at slot.name is.table some within vacancy names in
      becomes d new u w (map.insert (entries_of d u) slot.name (entry_of slot)) same (from_there.spelled is.spelled)
      (subst (λ (k : ℕ). IsTable paged_home_of (name_at w) (slots_of d) k) (sym more) t)
      (put_map (name_at u) (name_at w) (entry_at u) (entry_at w) (slots_of d) (held_of d + 1) at slot.name (entry_of slot) t some within
      (inl vacancy.empty) names entries
      ∙ ap (λ m. map.insert m slot.name (entry_of slot)) (sym (entries_are d u)))
      from_there.behind
      (stays_empty (λ block none. or_neither (block == at / 170) (was_written d block) (sym (marks block) ∙ none))
      (λ i l here none. same_block i here (sym (marks (i / 170)) ∙ none)))
    where
      same_block : (i : ℕ) → i ≡ at → (i / 170 == at / 170 || was_written d (i / 170)) ≡ false → ⊥
      same_block i here none = let test : (i / 170 == at / 170) ≡ true = grind (arith, nat_tests) in cc (rw test at none)

  pub replaced : held_of new ≡ held_of d → ((block : ℕ) → was_written new block ≡ was_written d block) → (slot_at u at).name ≡ slot.name
      → IsChanged new (map.insert (entries_of d u) slot.name (entry_of slot)) u w
  replaced as_many marks was =
      let t = set_table paged_home_of-below (name_at u) (name_at w) (slots_of d) (held_of d) at slot.name is.table was names in
      becomes d new u w (map.insert (entries_of d u) slot.name (entry_of slot)) same (from_there.spelled is.spelled)
      (subst (λ (k : ℕ). IsTable paged_home_of (name_at w) (slots_of d) k) (sym as_many) t)
      (put_map (name_at u) (name_at w) (entry_at u) (entry_at w) (slots_of d) (held_of d) at slot.name (entry_of slot) t some within
      (inr was) names entries
      ∙ ap (λ m. map.insert m slot.name (entry_of slot)) (sym (entries_are d u)))
      from_there.behind
      (stays_empty (λ block none. sym (marks block) ∙ none)
      (λ i l here none. some (sym was ∙ ap (name_at u) (sym here) ∙ is.unwritten i l (sym (marks (i / 170)) ∙ none))))

pub closed_up : (d new : Directory) (u v w : List ℕ) (at name : ℕ) → v ≡ u → room_of new ≡ room_of d → held_of new ≡ held_of d - 1
    → ((block : ℕ) → was_written new block ≡ was_written d block) → IsIn d u → (slot_at u at).name ≡ name → Closes v w (slots_of d) (held_of d) at
    → IsChanged new (map.remove (entries_of d u) name) u w
closed_up d new u v w at name still same less marks is was closes =
    let c : Closes u w (slots_of d) (held_of d) at = subst (λ (x : List ℕ). Closes x w (slots_of d) (held_of d) at) still closes in
    becomes d new u w (map.remove (entries_of d u) name) same c.spelled
    (subst (λ (k : ℕ). IsTable paged_home_of (name_at w) (slots_of d) k) (sym less) c.closed.table)
    (closed_map (name_at u) (name_at w) (entry_at u) (entry_at w) (slots_of d) (held_of d) at c.closed
    ∙ ap (map.remove (map_of (name_at u) (entry_at u) (slots_of d))) was ∙ ap (λ m. map.remove m name) (sym (entries_are d u)))
    c.behind
    (λ i l none. c.closed.empties i l (is.unwritten i l (sym (marks (i / 170)) ∙ none)))

-- what is held is counted
pub some-held : (d : Directory) (w : List ℕ) (name at : ℕ) → IsIn d w → at < slots_of d → name ≢ 0 → (slot_at w at).name ≡ name
    → held_of d ≡ 0 → ⊥
some-held d w name at is within some here none =
    let one = used_some (name_at w) (slots_of d) at within (λ nought. some (sym here ∙ nought)) in
    let count = is.table.count_is in
    absurd (omega (arith, one, count, none))
