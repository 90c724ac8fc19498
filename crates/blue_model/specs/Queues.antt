-- Lists of processes read as queues of names, and how processes wait at the scheduler's lists and at semaphores (chapter 29).
use Rattle.std.specs.Prelude.{◌≡◌, suc, ℕ, ℤ, pos, ◌+◌, ◌≤◌, ◌≤ℤ◌, ◌==◌, List, [], ◌∷◌, ◌++◌, map, Option, Some, slice_get, if◌then◌else◌}
use Rattle.std.specs.Option.{option_and_then}
use Rattle.long_names.specs.declared.value.Value.{Value}
use Rattle.long_names.specs.declared.value.Value.TheVariants.{Int, Ref}
use Rattle.long_names.specs.declared.object.Object.{Object}
use Rattle.long_names.specs.Names.{NIL, SCHEDULER_ASSOCIATION}
use Rattle.long_names.specs.Objects.{pointers_of}
use Rattle.long_names.specs.Heap.{Heap}
use Rattle.long_names.specs.State.{NEW_PROCESS}
use Rattle.blue_model.specs.declared.indexes.TheConstants.{VALUE_INDEX, PROCESS_LISTS_INDEX, ACTIVE_PROCESS_INDEX, FIRST_LINK_INDEX, LAST_LINK_INDEX, NEXT_LINK_INDEX, PRIORITY_INDEX}
use Rattle.blue_model.specs.Machine.{Machine}

-- ---- fields

-- the values of the object of pointers that has this name
abbrev pub values_at : Heap → ℕ → Option (List Value)
values_at h n = option_and_then (λ (o : Object). pointers_of o.body) (h.at n)

-- field i of it
unfoldable pub field_at : Heap → ℕ → ℕ → Option Value
field_at h n i = option_and_then (λ (values : List Value). slice_get values i) (values_at h n)

-- ---- names

-- how often a name stands in a list
unfoldable pub times_in : ℕ → List ℕ → ℕ
times_in n [] = 0
times_in n (k ∷ ks) = (if k == n then 1 else 0) + times_in n ks

abbrev pub IsAmong : ℕ → List ℕ → Type 0
IsAmong n names = 1 ≤ times_in n names

abbrev pub IsNotAmong : ℕ → List ℕ → Type 0
IsNotAmong n names = times_in n names ≡ 0

-- no name stands twice
abbrev pub AllDifferent : List ℕ → Type 0
AllDifferent names = (n : ℕ) → times_in n names ≤ 1

-- no name stands in both
abbrev pub AreApart : List ℕ → List ℕ → Type 0
AreApart xs ys = (n : ℕ) → IsAmong n xs → IsNotAmong n ys

-- each name stands in both as often
abbrev pub HaveTheSame : List ℕ → List ℕ → Type 0
HaveTheSame xs ys = (n : ℕ) → times_in n xs ≡ times_in n ys

-- ---- queues

-- the first name, or nil
abbrev pub first_of : List ℕ → Value
first_of [] = Ref NIL
first_of (n ∷ ns) = Ref n

-- the last of a name and those behind it
abbrev pub last_of : ℕ → List ℕ → ℕ
last_of n [] = n
last_of n (k ∷ ks) = last_of k ks

-- the field holds the last name; of no names it says nothing
abbrev pub HoldsLast : Option Value → List ℕ → Type 0
HoldsLast field [] = Unit {0}
HoldsLast field (n ∷ ns) = field ≡ Some (Ref (last_of n ns))

-- each name but the last has the one behind it as its next link
abbrev pub AreLinked : Heap → ℕ → List ℕ → Type 0
AreLinked h n [] = Unit {0}
AreLinked h n (k ∷ ks) = (field_at h n NEXT_LINK_INDEX ≡ Some (Ref k)) × AreLinked h k ks

abbrev pub HasLinks : Heap → List ℕ → Type 0
HasLinks h [] = Unit {0}
HasLinks h (n ∷ ns) = AreLinked h n ns

-- The object of this name is a list of these processes, in this order.
pub record IsQueue (h : Heap) (list : ℕ) (names : List ℕ) : Type 0 where
  pub first : field_at h list FIRST_LINK_INDEX ≡ Some (first_of names)
  pub last : HoldsLast (field_at h list LAST_LINK_INDEX) names
  pub links : HasLinks h names
  pub once : AllDifferent names
  -- neither nil nor the list itself is among them
  pub others : IsNotAmong NIL names × IsNotAmong list names

-- ---- how processes wait

-- a list by its name, and the processes on it in their order
pub record Queue : Type 0 where
  pub list : ℕ
  pub names : List ℕ

abbrev pub AreQueues : Heap → List Queue → Type 0
AreQueues h [] = Unit {0}
AreQueues h (q ∷ qs) = IsQueue h q.list q.names × AreQueues h qs

abbrev pub lists_of : List Queue → List ℕ
lists_of qs = map (λ (q : Queue). q.list) qs

-- the processes on these lists
unfoldable pub processes_on : List Queue → List ℕ
processes_on [] = []
processes_on (q ∷ qs) = q.names ++ processes_on qs

-- the lists, and the processes on them
unfoldable pub objects_of : List Queue → List ℕ
objects_of [] = []
objects_of (q ∷ qs) = q.list ∷ (q.names ++ objects_of qs)

abbrev pub HasPriority : Heap → ℤ → ℕ → Type 0
HasPriority h z p = field_at h p PRIORITY_INDEX ≡ Some (Int z)

-- the processes on the first of the lists have priority n, those on the second one more, and so on
abbrev pub HavePriorities : Heap → ℕ → List Queue → Type 0
HavePriorities h n [] = Unit {0}
HavePriorities h n (q ∷ qs) = ((p : ℕ) → IsAmong p q.names → HasPriority h (pos n) p) × HavePriorities h (suc n) qs

-- The scheduler, the Array of its lists, these lists from priority 1 on, semaphores, and the current process.
pub record Schedule : Type 0 where
  pub scheduler : ℕ
  pub array : ℕ
  pub queues : List Queue
  pub semaphores : List Queue
  pub current : ℕ

-- all objects of it but the current process
abbrev pub others_in : Schedule → List ℕ
others_in s = s.scheduler ∷ s.array ∷ (objects_of s.queues ++ objects_of s.semaphores)

abbrev pub objects_in : Schedule → List ℕ
objects_in s = s.current ∷ others_in s

-- the new process where a switch waits, and otherwise the one that the scheduler says
abbrev pub current_in : Machine → ℕ → Option Value
current_in m scheduler = if m.cpu.waiting then Some (m.regs NEW_PROCESS) else field_at m.heap scheduler ACTIVE_PROCESS_INDEX

pub record HasSchedule (m : Machine) (s : Schedule) : Type 0 where
  -- the scheduler is the value of its association, and its lists are the elements of its Array
  pub scheduler : field_at m.heap SCHEDULER_ASSOCIATION VALUE_INDEX ≡ Some (Ref s.scheduler)
  pub array : field_at m.heap s.scheduler PROCESS_LISTS_INDEX ≡ Some (Ref s.array)
  pub lists : values_at m.heap s.array ≡ Some (map (λ (q : Queue). Ref q.list) s.queues)
  pub current : current_in m s.scheduler ≡ Some (Ref s.current)
  -- each list and each semaphore is a queue
  pub queues : AreQueues m.heap s.queues
  pub semaphores : AreQueues m.heap s.semaphores
  -- the processes on list i have priority i
  pub priorities : HavePriorities m.heap 1 s.queues
  -- all these are different objects, so no process stands on two lists
  pub different : AllDifferent (NIL ∷ SCHEDULER_ASSOCIATION ∷ objects_in s)

-- no process on the scheduler's lists has a priority above that of the current process
pub record NobodyAbove (h : Heap) (s : Schedule) : Type 0 where
  pub own : ℤ
  pub priority : HasPriority h own s.current
  pub nobody : (p : ℕ) (z : ℤ) → IsAmong p (processes_on s.queues) → HasPriority h z p → z ≤ℤ own

-- The machine has a schedule with the same lists and semaphores, of these objects, and nobody above its current process waits.
pub record GoesOn (here : Schedule) (objects : List ℕ) (m : Machine) : Type 0 where
  pub next : Schedule
  pub scheduler : next.scheduler ≡ here.scheduler
  pub array : next.array ≡ here.array
  pub lists : lists_of next.queues ≡ lists_of here.queues
  pub semaphores : lists_of next.semaphores ≡ lists_of here.semaphores
  pub same : HaveTheSame (objects_in next) objects
  pub schedule : HasSchedule m next
  pub above : NobodyAbove m.heap next
