-- What reference counting leaves in the end: cycles stay, and all else that nothing holds goes (chapter 30, reference counting).
use Rattle.std.specs.Prelude.{ℕ, zero, suc, ◌||◌, Bool, false, None, if◌then◌else◌}
use Rattle.std.specs.Option.{option_map_or}
use Rattle.long_names.specs.Names.{is_known}
use Rattle.long_names.specs.Objects.{holds}
use Rattle.long_names.specs.Heap.{Heap, object_count}
use Rattle.long_names.specs.declared.object.Object.{Object}

-- one of the numbers below n passes
abbrev pub any_below : ℕ → (ℕ → Bool) → Bool
any_below zero f = false
any_below (suc n) f = f n || any_below n f

-- the heap has an object at k that holds n
abbrev pub holds_at : Heap → ℕ → ℕ → Bool
holds_at h k n = option_map_or (λ (o : Object). holds o n) (h.at k) false

-- known, a root, or held by an object of the heap
abbrev pub is_left : Heap → (ℕ → Bool) → ℕ → Bool
is_left h root n = is_known n || (root n || any_below h.next (λ k. holds_at h k n))

-- what one sweep leaves
abbrev pub sweep : Heap → (ℕ → Bool) → Heap
sweep h root = record { at = λ n. if is_left h root n then h.at n else None; next = h.next }

abbrev pub sweeps : ℕ → Heap → (ℕ → Bool) → Heap
sweeps zero h root = h
sweeps (suc n) h root = sweep (sweeps n h root) root

-- the kept objects: the sweep applied as often as the heap has objects
unfoldable pub kept : Heap → (ℕ → Bool) → Heap
kept h root = sweeps (object_count h) h root

abbrev pub no_roots : ℕ → Bool
no_roots n = false
