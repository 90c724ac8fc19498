-- Steps of the two levels, and what they do to counts.
use Rattle.std.specs.Prelude.{◌≡◌, ◌≢◌, ℕ, ℤ, pos, negsuc, ◌+ℤ◌, ◌+◌, ◌-◌, ◌≤◌, ◌^◌, true, List, [], ◌∷◌, Option, Some, None, if◌then◌else◌, option_map}
use Rattle.long_names.specs.Names.{is_known}
use Rattle.long_names.specs.Heap.{Heap, count_of}
use Rattle.object_table.specs.declared.entry.Entry.{Entry}
use Rattle.object_table.specs.Entries.{put}
use Rattle.core_view.specs.Core.{Core, with_entry, without_leaf}
use Rattle.core_view.specs.Counts.{uses, change_of}
use Rattle.core_view.specs.Held.{object_at}
use Rattle.core_view.specs.Kept.{IsCore}
use Rattle.core_view.specs.Steps.{touched, written}
use Rattle.core_view.specs.Levels.{Stored, Levels, count_in, records_of, waits, sum_of}
use Rattle.core_view.specs.Counted.{IsHeld}
use Rattle.core_view.specs.Dead.{IsImage}

-- ---- steps of counts

-- an entry with another change
abbrev pub with_change : Entry → ℤ → Entry
with_change e x = touched e e.refs x e.flags

abbrev pub changed_at : Core → ℕ → ℤ → Core
changed_at c s x = with_entry c s (with_change (c.entries s) x)

abbrev pub with_core : Levels → Core → Levels
with_core t c = record { core = c; stored = t.stored; pending = t.pending; next = t.next }

-- with other names pending
abbrev pub with_pending : Levels → List ℕ → Levels
with_pending t names = record { core = t.core; stored = t.stored; pending = names; next = t.next }

-- the change of an entry differs by a number
abbrev pub raised_by : Levels → ℕ → ℤ → Levels
raised_by t s d = with_core t (changed_at t.core s ((t.core.entries s).change +ℤ d))

abbrev pub recounted : ℕ → Stored → Stored
recounted n r = record { object = r.object; count = n }

-- a name joins those that are pending where it waits now
abbrev pub joined : Option ℕ → Option Stored → ℕ → List ℕ → List ℕ
joined find r n names = if waits find r (is_known n) then n ∷ names else names

-- one word less is this name: in its entry, or where it has none on disk
abbrev pub lowered_by : Levels → ℕ → Option ℕ → Levels
lowered_by t n (Some s) = raised_by t s (negsuc 0)
lowered_by t n None = record {
  core = t.core;
  stored = put t.stored n (option_map (recounted (count_in (t.stored n) - 1)) (t.stored n));
  pending = joined None (option_map (recounted (count_in (t.stored n) - 1)) (t.stored n)) n t.pending;
  next = t.next;
}

abbrev pub lowered : Levels → ℕ → Levels
lowered t n = lowered_by t n (t.core.find n)

-- a number that is no less than 0
abbrev pub to_count : ℤ → ℕ
to_count (pos n) = n
to_count (negsuc n) = 0

-- the change of an entry is in the count on disk
abbrev pub folded : Levels → ℕ → Levels
folded t s = record {
  core = changed_at t.core s (pos 0);
  stored = put t.stored (t.core.entries s).name (option_map (recounted (to_count (sum_of t (t.core.entries s).name))) (t.stored (t.core.entries s).name));
  pending = t.pending;
  next = t.next;
}

-- a leaf is freed, and its name joins those that are pending where it waits now
abbrev pub given : Levels → ℕ → ℕ → Levels
given t s n = record {
  core = without_leaf t.core s n;
  stored = t.stored;
  pending = joined None (t.stored n) n t.pending;
  next = t.next;
}

-- the record of a name is gone
abbrev pub removed : Levels → ℕ → List ℕ → Levels
removed t n names = record { core = t.core; stored = put t.stored n None; pending = names; next = t.next }

-- ---- steps of objects

-- a new object has the next name
abbrev pub made : Levels → Core → Levels
made t c = record { core = c; stored = t.stored; pending = t.pending; next = t.next + 2 }

-- the object of s, whose body is at p, is written as its record, with the count that the disk has, or 0
abbrev pub written_at : Levels → ℕ → ℕ → Levels
written_at t s p = record {
  core = with_entry t.core s (written (t.core.entries s));
  stored = put t.stored (t.core.entries s).name (Some (record { object = object_at t.core (records_of t) (t.core.entries s) p; count = count_in (t.stored (t.core.entries s).name) }));
  pending = t.pending;
  next = t.next;
}

-- changes of counts stay, no entry goes, and each name that has its entry anew is a word of some body
pub record IsUncounted (old new : Core) : Type 0 where
  pub changes : (m : ℕ) → change_of new m ≡ change_of old m
  pub grew : (m : ℕ) → new.find m ≡ None → old.find m ≡ None
  pub came : (m s : ℕ) → old.find m ≡ None → new.find m ≡ Some s → 1 ≤ uses new s

-- changes of counts stay, and the name n has its entry anew, and no other has
pub record IsMaking (old new : Core) (n s : ℕ) : Type 0 where
  pub changes : (m : ℕ) → change_of new m ≡ change_of old m
  pub found : new.find n ≡ Some s
  pub others : (m : ℕ) → m ≢ n → new.find m ≡ old.find m

-- the objects of two names, which have these records, in each other's place on disk; counts stay with the names
abbrev pub swapped : Levels → ℕ → ℕ → Stored → Stored → Levels
swapped t a b r k = record {
  core = t.core;
  stored = put (put t.stored a (Some (recounted r.count k))) b (Some (recounted k.count r));
  pending = t.pending;
  next = t.next;
}

-- No name has an entry, the disk has just the objects of a heap with their exact counts, none is pending, and only known names have count 0.
pub record IsBegun (t : Levels) (h : Heap) : Type 0 where
  pub core : IsCore t.core
  pub empty : (q : ℕ) → t.core.find q ≡ None
  pub image : IsImage t.stored h
  pub next : t.next ≡ h.next
  pub none : t.pending ≡ []
  pub uncounted : (q : ℕ) (r : Stored) → t.stored q ≡ Some r → r.count ≡ 0 → is_known q ≡ true
  pub held : IsHeld h
  pub few : (q : ℕ) → count_of h q ≤ 2 ^ 62
