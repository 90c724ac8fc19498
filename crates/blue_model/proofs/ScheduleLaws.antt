-- Nobody above the current process waits: what signal, wait, resume and a suspension leave of the queues of processes.
use Rattle.std.proofs.Common.{◌≡◌, inl, inr, zero, suc, ℕ, ℤ, pos, negsuc, ◌+◌, ◌≤◌, ◌<◌, ◌≤ℤ◌, ◌==◌, nat_lt, Bool, true, false, List, [], ◌∷◌, ◌++◌, map, length, Option, Some, None, slice_get, refl, sym, ◌∙◌, ap, subst, arith, ne_eqb, append_assoc, append-nil, T, not, le→leb, ltb-true, if◌then◌else◌}
use Rattle.std.specs.Int.Signed.{lt_z, lt_z_yes, lt_z_no, ≤ℤ_refl, <ℤ-≤ℤ_trans, clash_ℤ}
use Rattle.long_names.specs.declared.value.Value.{Value}
use Rattle.long_names.specs.declared.value.Value.TheVariants.{Int, Ref}
use Rattle.long_names.specs.Names.{NIL, SCHEDULER_ASSOCIATION}
use Rattle.long_names.specs.Heap.{Heap}
use Rattle.long_names.specs.State.{NEW_PROCESS, set_register}
use Rattle.blue_model.specs.declared.cause.Cause.TheVariants.{Shape, NoProcess}
use Rattle.blue_model.specs.declared.indexes.TheConstants.{VALUE_INDEX, ASSOCIATION_SIZE, PROCESS_LISTS_INDEX, ACTIVE_PROCESS_INDEX, SCHEDULER_SIZE, FIRST_LINK_INDEX, LAST_LINK_INDEX, EXCESS_SIGNALS_INDEX, PRIORITY_INDEX}
use Rattle.blue_model.specs.Machine.{Machine, LogRow, Go, Rule, ◌>>=◌, pick, part, numbers, set_numbers}
use Rattle.blue_model.specs.Parts.{field, is_nil}
use Rattle.blue_model.specs.Contexts.{scheduler, active_process}
use Rattle.blue_model.specs.Processes.{add, take, process_lists, list_index, sleep, wake_among, wake, current_process, transfer, resume, suspend_active, add_signal, signal, sleep_at, wait}
use Rattle.blue_model.specs.Queues.{values_at, field_at, times_in, IsAmong, IsNotAmong, AllDifferent, AreApart, HaveTheSame, first_of, IsQueue, Queue, AreQueues, lists_of, processes_on, objects_of, HasPriority, HavePriorities, Schedule, others_in, objects_in, current_in, HasSchedule, NobodyAbove, GoesOn}
use Rattle.blue_model.proofs.ComesLaws.{Comes, comes_then, comes_halt, comes_pick, comes_true, comes_false, comes_weaker, comes_field, comes_register, comes_put_register, comes_set_numbers, comes_store_field, numbers_then, given_then, known_then, field_then, number_then, size_then, wrote, written-apart, written-other, written-beside, values_kept, field_kept, field_among}
use Rattle.blue_model.proofs.NamesLaws.{same, same-self, same-is, same-apart, times-none, times-cons, times-append, names, not_first, among_differs, different_more, either}
use Rattle.blue_model.proofs.QueueLaws.{Leaves, queue_kept, Adds, comes_add, Takes, comes_take}
use Rattle.blue_model.proofs.QueueListLaws.{objects-split, processes-split, processes-less, queues_left, queues_turned, queue_at, have_kept, have_turned, have_at, have_below, length-map, get-at, map-turned, lists-turned, Split, split_at, split_by, split_last}

-- ---- the lists of a schedule, whatever the current process is

abbrev lists_in : ℕ → ℕ → List Queue → List Queue → List ℕ
lists_in scheduler array queues semaphores = NIL ∷ SCHEDULER_ASSOCIATION ∷ scheduler ∷ array ∷ (objects_of queues ++ objects_of semaphores)

record HasLists (h : Heap) (sch arr : ℕ) (qs sems : List Queue) : Type 0 where
  scheduler : field_at h SCHEDULER_ASSOCIATION VALUE_INDEX ≡ Some (Ref sch)
  array : field_at h sch PROCESS_LISTS_INDEX ≡ Some (Ref arr)
  lists : values_at h arr ≡ Some (map (λ (q : Queue). Ref q.list) qs)
  queues : AreQueues h qs
  semaphores : AreQueues h sems
  priorities : HavePriorities h 1 qs
  different : AllDifferent (lists_in sch arr qs sems)

lists_have : {m : Machine} {here : Schedule} → HasSchedule m here → HasLists m.heap here.scheduler here.array here.queues here.semaphores
lists_have {m} {here} has = record {
  scheduler = has.scheduler;
  array = has.array;
  lists = has.lists;
  queues = has.queues;
  semaphores = has.semaphores;
  priorities = has.priorities;
  different = λ n. let all = has.different n in omega (arith, names, all);
}

schedule_has : {m : Machine} (sch arr : ℕ) (qs sems : List Queue) (cur : ℕ) → HasLists m.heap sch arr qs sems → current_in m sch ≡ Some (Ref cur) → IsNotAmong cur (lists_in sch arr qs sems) → HasSchedule m (record { scheduler = sch; array = arr; queues = qs; semaphores = sems; current = cur })
schedule_has {m} sch arr qs sems cur has current out = record {
  scheduler = has.scheduler;
  array = has.array;
  lists = has.lists;
  current = current;
  queues = has.queues;
  semaphores = has.semaphores;
  priorities = has.priorities;
  different = λ n. let all = different_more cur (lists_in sch arr qs sems) has.different out n in omega (arith, names, all);
}

-- the lists after a change of one of the scheduler's
turn_queue : {m s : Machine} {changed : List ℕ} (sch arr : ℕ) (b : List Queue) (q r : Queue) (a sems : List Queue) → HasLists m.heap sch arr (b ++ q ∷ a) sems → r.list ≡ q.list → Leaves changed m s → IsQueue s.heap r.list r.names → ((p : ℕ) → IsAmong p r.names → HasPriority s.heap (pos (1 + length b)) p) → AreApart (SCHEDULER_ASSOCIATION ∷ sch ∷ arr ∷ (objects_of b ++ (objects_of a ++ objects_of sems))) changed → AllDifferent (lists_in sch arr (b ++ r ∷ a) sems) → HasLists s.heap sch arr (b ++ r ∷ a) sems
turn_queue {m} {s} {changed} sch arr b q r a sems has e left is own apart all = record {
  scheduler = field_kept m.heap s.heap SCHEDULER_ASSOCIATION VALUE_INDEX (left.apart SCHEDULER_ASSOCIATION (apart SCHEDULER_ASSOCIATION (omega (arith, names)))) ∙ has.scheduler;
  array = field_kept m.heap s.heap sch PROCESS_LISTS_INDEX (left.apart sch (apart sch (omega (arith, names)))) ∙ has.array;
  lists = values_kept m.heap s.heap arr (left.apart arr (apart arr (omega (arith, names)))) ∙ has.lists ∙ ap (λ x. Some x) (sym (map-turned b q r a e));
  queues = queues_turned b q r a left (λ n among. apart n (omega (arith, names, among))) (λ n among. apart n (omega (arith, names, among))) is has.queues;
  semaphores = queues_left sems left (λ n among. apart n (omega (arith, names, among))) has.semaphores;
  priorities = have_turned m.heap s.heap 1 b q r a left.priorities own has.priorities;
  different = all;
}

-- and of one of the semaphores
turn_semaphore : {m s : Machine} {changed : List ℕ} (sch arr : ℕ) (qs : List Queue) (b : List Queue) (q r : Queue) (a : List Queue) → HasLists m.heap sch arr qs (b ++ q ∷ a) → Leaves changed m s → IsQueue s.heap r.list r.names → AreApart (SCHEDULER_ASSOCIATION ∷ sch ∷ arr ∷ (objects_of qs ++ (objects_of b ++ objects_of a))) changed → AllDifferent (lists_in sch arr qs (b ++ r ∷ a)) → HasLists s.heap sch arr qs (b ++ r ∷ a)
turn_semaphore {m} {s} {changed} sch arr qs b q r a has left is apart all = record {
  scheduler = field_kept m.heap s.heap SCHEDULER_ASSOCIATION VALUE_INDEX (left.apart SCHEDULER_ASSOCIATION (apart SCHEDULER_ASSOCIATION (omega (arith, names)))) ∙ has.scheduler;
  array = field_kept m.heap s.heap sch PROCESS_LISTS_INDEX (left.apart sch (apart sch (omega (arith, names)))) ∙ has.array;
  lists = values_kept m.heap s.heap arr (left.apart arr (apart arr (omega (arith, names)))) ∙ has.lists;
  queues = queues_left qs left (λ n among. apart n (omega (arith, names, among))) has.queues;
  semaphores = queues_turned b q r a left (λ n among. apart n (omega (arith, names, among))) (λ n among. apart n (omega (arith, names, among))) is has.semaphores;
  priorities = have_kept m.heap s.heap 1 qs (λ p among. left.priorities p) has.priorities;
  different = all;
}

-- ---- what is read off a schedule

scheduler_then : {m : Machine} {B : Type 0} {R : B → Machine → Type 0} (k : Value → Rule B) (sch : ℕ) → field_at m.heap SCHEDULER_ASSOCIATION VALUE_INDEX ≡ Some (Ref sch) → Comes m (k (Ref sch)) R → Comes m (scheduler >>= k) R
unfolding scheduler
scheduler_then {m} {B} {R} k sch e f = comes_then {Q = λ v s. (s ≡ m) × (v ≡ Ref sch)} k (known_then _ SCHEDULER_ASSOCIATION (comes_field SCHEDULER_ASSOCIATION ASSOCIATION_SIZE VALUE_INDEX (Ref sch) e)) (λ v s both. subst (λ x. Comes x (k v) R) (sym both.0) (subst (λ x. Comes m (k x) R) (sym both.1) f))

lists_then : {m : Machine} {B : Type 0} {R : B → Machine → Type 0} (k : Value → Rule B) (sch arr : ℕ) (qs sems : List Queue) → HasLists m.heap sch arr qs sems → Comes m (k (Ref arr)) R → Comes m (process_lists >>= k) R
unfolding process_lists
lists_then {m} {B} {R} k sch arr qs sems has f = comes_then {Q = λ v s. (s ≡ m) × (v ≡ Ref arr)} k (scheduler_then _ sch has.scheduler (comes_field sch 0 PROCESS_LISTS_INDEX (Ref arr) has.array)) (λ v s both. subst (λ x. Comes x (k v) R) (sym both.0) (subst (λ x. Comes m (k x) R) (sym both.1) f))

pub comes_current : {m : Machine} (sch cur : ℕ) → field_at m.heap SCHEDULER_ASSOCIATION VALUE_INDEX ≡ Some (Ref sch) → current_in m sch ≡ Some (Ref cur) → Comes m current_process (λ v s. (s ≡ m) × (v ≡ Ref cur))
unfolding current_process active_process
comes_current {m} sch cur e c = numbers_then _ (comes_pick m.cpu.waiting _ _ (λ t. comes_weaker (comes_register NEW_PROCESS) (λ v s both. (both.0, both.1 ∙ waits (sym (ap (λ b. if b then Some (m.regs NEW_PROCESS) else field_at m.heap sch ACTIVE_PROCESS_INDEX) t) ∙ c)))) (λ t. scheduler_then _ sch e (comes_field sch SCHEDULER_SIZE ACTIVE_PROCESS_INDEX (Ref cur) (sym (ap (λ b. if b then Some (m.regs NEW_PROCESS) else field_at m.heap sch ACTIVE_PROCESS_INDEX) t) ∙ c))))
  where
    waits : Some (m.regs NEW_PROCESS) ≡ Some (Ref cur) → m.regs NEW_PROCESS ≡ Ref cur
    waits g = cc

current_then : {m : Machine} {B : Type 0} {R : B → Machine → Type 0} (k : Value → Rule B) (sch cur : ℕ) → field_at m.heap SCHEDULER_ASSOCIATION VALUE_INDEX ≡ Some (Ref sch) → current_in m sch ≡ Some (Ref cur) → Comes m (k (Ref cur)) R → Comes m (current_process >>= k) R
current_then {m} {B} {R} k sch cur e c f = comes_then {Q = λ v s. (s ≡ m) × (v ≡ Ref cur)} k (comes_current sch cur e c) (λ v s both. subst (λ x. Comes x (k v) R) (sym both.0) (subst (λ x. Comes m (k x) R) (sym both.1) f))

abbrev switched : Machine → ℕ → Machine
switched m p = record m { regs = set_register m.regs NEW_PROCESS (Ref p); cpu = record m.cpu { waiting = true } }

comes_transfer : {m : Machine} (p : ℕ) → Comes m (transfer (Ref p)) (λ _ s. s ≡ switched m p)
unfolding transfer
comes_transfer {m} p = comes_then {Q = λ _ s. s ≡ record m { regs = set_register m.regs NEW_PROCESS (Ref p) }} _ (comes_put_register NEW_PROCESS (Ref p)) (λ _ s e. subst (λ x. Comes x (numbers >>= λ cpu. set_numbers (record cpu { waiting = true })) (λ _ s. s ≡ switched m p)) (sym e) (numbers_then _ (comes_set_numbers _)))

-- ---- whole numbers

lt-le : (a b : ℤ) → lt_z a b ≡ true → a ≤ℤ b
lt-le (pos a) (pos b) e = let lt = ltb-true a b e in record { le = le→leb a b (omega (arith, lt)) }
lt-le (pos a) (negsuc b) e = absurd (let no : false ≡ true = e in cc)
lt-le (negsuc a) (pos b) e = record { le = tt }
lt-le (negsuc a) (negsuc b) e = let lt = ltb-true b a e in record { le = le→leb b a (omega (arith, lt)) }

not-lt : (a b : ℤ) → lt_z a b ≡ false → b ≤ℤ a
not-lt a b e = lt_z_no {a = a} {b = b} (subst (λ x. T (not x)) (sym e) tt)

le-le : (a b c : ℤ) → a ≤ℤ b → b ≤ℤ c → a ≤ℤ c
le-le a b c f g = by (lt_z c a) refl
  where
    by : (t : Bool) → lt_z c a ≡ t → a ≤ℤ c
    by true e = clash_ℤ (<ℤ-≤ℤ_trans {a = c} {b = a} {c = b} (lt_z_yes {a = c} {b = a} (subst (λ x. T x) (sym e) tt)) f) g
    by false e = not-lt c a e

pos-le : (a b : ℕ) → a ≤ b → pos a ≤ℤ pos b
pos-le a b le = record { le = le→leb a b le }

-- a field holds one number
pub one_number : (h : Heap) (p : ℕ) (a b : ℤ) → HasPriority h a p → HasPriority h b p → a ≡ b
one_number h p a b e f = go (sym e ∙ f)
  where
    go : Some (Int a) ≡ Some (Int b) → a ≡ b
    go g = cc

-- ---- sleeping

current_kept : (m s : Machine) (sch : ℕ) → s.cpu ≡ m.cpu → s.regs ≡ m.regs → field_at s.heap sch ACTIVE_PROCESS_INDEX ≡ field_at m.heap sch ACTIVE_PROCESS_INDEX → current_in s sch ≡ current_in m sch
current_kept m s sch c r f = ap (λ x. if x.waiting then Some (s.regs NEW_PROCESS) else field_at s.heap sch ACTIVE_PROCESS_INDEX) c ∙ ap (λ x. if m.cpu.waiting then Some (x NEW_PROCESS) else field_at s.heap sch ACTIVE_PROCESS_INDEX) r ∙ ap (λ x. if m.cpu.waiting then Some (m.regs NEW_PROCESS) else x) f

-- a process more stands on one of the scheduler's lists
record Slept (m : Machine) (sch arr : ℕ) (qs sems : List Queue) (x : ℕ) (s : Machine) : Type 0 where
  next : List Queue
  same_lists : lists_of next ≡ lists_of qs
  lists : HasLists s.heap sch arr next sems
  objects : (n : ℕ) → times_in n (objects_of next) ≡ same x n + times_in n (objects_of qs)
  processes : (n : ℕ) → times_in n (processes_on next) ≡ same x n + times_in n (processes_on qs)
  current : current_in s sch ≡ current_in m sch
  priorities : (n : ℕ) → field_at s.heap n PRIORITY_INDEX ≡ field_at m.heap n PRIORITY_INDEX

slept : {m s : Machine} (sch arr x : ℕ) (b : List Queue) (q : Queue) (a sems : List Queue) → HasLists m.heap sch arr (b ++ q ∷ a) sems → IsNotAmong x (lists_in sch arr (b ++ q ∷ a) sems) → HasPriority m.heap (pos (1 + length b)) x → Adds m q.list x q.names s → Slept m sch arr (b ++ q ∷ a) sems x s
slept {m} {s} sch arr x b q a sems has out priority adds =
    let r : Queue = record { list = q.list; names = q.names ++ x ∷ [] } in
    let fresh = different_more x (lists_in sch arr (b ++ q ∷ a) sems) has.different out in
    let apart : AreApart (SCHEDULER_ASSOCIATION ∷ sch ∷ arr ∷ (objects_of b ++ (objects_of a ++ objects_of sems))) (q.list ∷ x ∷ q.names) = λ n among. let all = fresh n in let split = objects-split n b q a in omega (arith, names, all, split, among) in
    let own : (p : ℕ) → IsAmong p (q.names ++ x ∷ []) → HasPriority s.heap (pos (1 + length b)) p = λ p among.
    adds.left.priorities p ∙ (elim (either (times_in p q.names) (same x p) (omega (arith, names, among))) [
      | inl old ↦ have_at m.heap 1 b q a has.priorities p old
      | inr new ↦ subst (λ y. HasPriority m.heap (pos (1 + length b)) y) (same-is x p new) priority
    ]) in
    record {
      next = b ++ r ∷ a;
      same_lists = lists-turned b q r a refl;
      lists = turn_queue sch arr b q r a sems has refl adds.left adds.queue own apart (λ n. let all = fresh n in let split = objects-split n b q a in let again = objects-split n b r a in omega (arith, names, all, split, again));
      objects = λ n. let split = objects-split n b q a in let again = objects-split n b r a in omega (arith, names, split, again);
      processes = λ n. let split = processes-split n b q a in let again = processes-split n b r a in omega (arith, names, split, again);
      current = current_kept m s sch adds.left.cpu adds.left.regs (field_kept m.heap s.heap sch ACTIVE_PROCESS_INDEX (adds.left.apart sch (apart sch (omega (arith, names)))));
      priorities = adds.left.priorities;
    }

sleeps : {m : Machine} (sch arr x : ℕ) (b : List Queue) (q : Queue) (a sems : List Queue) → HasLists m.heap sch arr (b ++ q ∷ a) sems → IsNotAmong x (lists_in sch arr (b ++ q ∷ a) sems) → HasPriority m.heap (pos (1 + length b)) x → Comes m (part Shape (field 0 (length b)) (Ref arr) >>= λ list. add (Ref x) list) (λ _ s. Slept m sch arr (b ++ q ∷ a) sems x s)
sleeps {m} sch arr x b q a sems has out priority =
    field_then _ arr 0 (length b) (Ref q.list) (field_among m.heap arr (length b) _ (Ref q.list) has.lists (get-at b q a)) (
    comes_weaker (comes_add q.list x q.names (queue_at b q a has.queues) (let split = objects-split x b q a in omega (arith, names, out, split))) (λ _ s adds.
    slept sch arr x b q a sems has out priority adds))

list_index_is : (z : ℤ) (n i : ℕ) → list_index z n ≡ Some i → (z ≡ pos (1 + i)) × (i < n)
list_index_is (pos zero) n i e = let no : ◌≡◌ {A = Option ℕ} None (Some i) = e in absurd (cc)
list_index_is (pos (suc j)) n i e = by (nat_lt j n) refl e
  where
    by : (b : Bool) → nat_lt j n ≡ b → (if b then Some j else None) ≡ Some i → (pos (suc j) ≡ pos (1 + i)) × (i < n)
    by true lt f =
        let is : j ≡ i = cc in
        let less = ltb-true j n lt in
        let eq : suc j ≡ 1 + i = omega (arith, is) in
        (ap pos eq, omega (arith, is, less))
    by false lt f = let no : ◌≡◌ {A = Option ℕ} None (Some i) = f in absurd (cc)
list_index_is (negsuc k) n i e = let no : ◌≡◌ {A = Option ℕ} None (Some i) = e in absurd (cc)

comes_sleep : {m : Machine} (sch arr x : ℕ) (qs sems : List Queue) → HasLists m.heap sch arr qs sems → IsNotAmong x (lists_in sch arr qs sems) → Comes m (sleep (Ref x)) (λ _ s. Slept m sch arr qs sems x s)
unfolding sleep
comes_sleep {m} sch arr x qs sems has out =
    number_then _ x 0 PRIORITY_INDEX (λ z e.
    lists_then _ sch arr qs sems has (
    size_then _ arr 0 (map (λ (q : Queue). Ref q.list) qs) has.lists (
    given_then _ Shape (list_index z (length (map (λ (q : Queue). Ref q.list) qs))) (λ i g. go z e i (list_index_is z (length (map (λ (q : Queue). Ref q.list) qs)) i g)))))
  where
    at : (i : ℕ) (p : Split qs) → length p.before ≡ i → HasPriority m.heap (pos (1 + i)) x → Comes m (part Shape (field 0 i) (Ref arr) >>= λ list. add (Ref x) list) (λ _ s. Slept m sch arr qs sems x s)
    at i p l priority = subst (λ ys. HasLists m.heap sch arr ys sems → IsNotAmong x (lists_in sch arr ys sems) → Comes m (part Shape (field 0 i) (Ref arr) >>= λ list. add (Ref x) list) (λ _ s. Slept m sch arr ys sems x s)) (sym p.is) (λ has' out'. subst (λ k. Comes m (part Shape (field 0 k) (Ref arr) >>= λ list. add (Ref x) list) (λ _ s. Slept m sch arr (p.before ++ p.here ∷ p.behind) sems x s)) l (sleeps sch arr x p.before p.here p.behind sems has' out' (subst (λ k. HasPriority m.heap (pos (1 + k)) x) (sym l) priority))) has out

    go : (z : ℤ) → HasPriority m.heap z x → (i : ℕ) → (z ≡ pos (1 + i)) × (i < length (map (λ (q : Queue). Ref q.list) qs)) → Comes m (part Shape (field 0 i) (Ref arr) >>= λ list. add (Ref x) list) (λ _ s. Slept m sch arr qs sems x s)
    go z e i both =
        let len = length-map qs in
        let lt = both.1 in
        let found = split_at i qs (omega (arith, len, lt)) in
        at i found.0 found.1 (subst (λ y. HasPriority m.heap y x) both.0 e)

-- ---- waking

-- the first of the highest list that isn't empty is taken
record Woken (m : Machine) (sch arr : ℕ) (qs sems : List Queue) (v : Value) (s : Machine) : Type 0 where
  process : ℕ
  is : v ≡ Ref process
  next : List Queue
  same_lists : lists_of next ≡ lists_of qs
  lists : HasLists s.heap sch arr next sems
  objects : (n : ℕ) → times_in n (objects_of qs) ≡ same process n + times_in n (objects_of next)
  own : ℕ
  priority : HasPriority s.heap (pos own) process
  nobody : (p : ℕ) (z : ℤ) → IsAmong p (processes_on next) → HasPriority s.heap z p → z ≤ℤ pos own

woken : {m s : Machine} (sch arr : ℕ) (b : List Queue) (q : Queue) (a sems : List Queue) (x : ℕ) (xs : List ℕ) (v : Value) → q.names ≡ x ∷ xs → HasLists m.heap sch arr (b ++ q ∷ a) sems → ((n : ℕ) → times_in n (processes_on a) ≡ 0) → v ≡ Ref x → Takes m q.list x xs s → Woken m sch arr (b ++ q ∷ a) sems v s
woken {m} {s} sch arr b q a sems x xs v e has none is takes =
    let r : Queue = record { list = q.list; names = xs } in
    let count : (n : ℕ) → times_in n q.names ≡ same x n + times_in n xs = λ n. ap (times_in n) e ∙ times-cons n x xs in
    let apart : AreApart (SCHEDULER_ASSOCIATION ∷ sch ∷ arr ∷ (objects_of b ++ (objects_of a ++ objects_of sems))) (q.list ∷ x ∷ []) = λ n among. let all = has.different n in let split = objects-split n b q a in let c = count n in omega (arith, names, all, split, among, c) in
    let own : (p : ℕ) → IsAmong p q.names → HasPriority s.heap (pos (1 + length b)) p = λ p among. takes.left.priorities p ∙ have_at m.heap 1 b q a has.priorities p among in
    let old : (p : ℕ) → IsAmong p xs → HasPriority s.heap (pos (1 + length b)) p = λ p among. own p (let c = count p in omega (arith, c, among)) in
    record {
      process = x;
      is = is;
      next = b ++ r ∷ a;
      same_lists = lists-turned b q r a refl;
      lists = turn_queue sch arr b q r a sems has refl takes.left takes.queue old apart (λ n. let all = has.different n in let split = objects-split n b q a in let again = objects-split n b r a in let c = count n in omega (arith, names, all, split, again, c));
      objects = λ n. let split = objects-split n b q a in let again = objects-split n b r a in let c = count n in omega (arith, names, split, again, c);
      own = 1 + length b;
      priority = own x (let c = count x in let one = same-self x in omega (arith, c, one));
      nobody = λ p z among f. let split = processes-split p b r a in let no = none p in
          elim (either (times_in p (processes_on b)) (times_in p xs) (omega (arith, among, split, no))) [
            | inl before ↦ let below = have_below m.heap 1 b (q ∷ a) has.priorities p before in subst (λ y. y ≤ℤ pos (1 + length b)) (one_number s.heap p _ z (takes.left.priorities p ∙ below.2) f) (pos-le below.0 (1 + length b) (let lt = below.1 in omega (arith, lt)))
            | inr on ↦ subst (λ y. y ≤ℤ pos (1 + length b)) (one_number s.heap p _ z (old p on) f) (≤ℤ_refl (pos (1 + length b)))
          ];
    }

wakes : {m : Machine} (sch arr : ℕ) (b : List Queue) (q : Queue) (a sems : List Queue) (x : ℕ) (xs : List ℕ) → q.names ≡ x ∷ xs → HasLists m.heap sch arr (b ++ q ∷ a) sems → ((n : ℕ) → times_in n (processes_on a) ≡ 0) → Comes m (take (Ref q.list)) (λ v s. Woken m sch arr (b ++ q ∷ a) sems v s)
wakes {m} sch arr b q a sems x xs e has none = comes_weaker (comes_take q.list x xs (subst (λ ns. IsQueue m.heap q.list ns) e (queue_at b q a has.queues))) (λ v s both. woken sch arr b q a sems x xs v e has none both.0 both.1)

comes_wake_among : {m : Machine} (sch arr : ℕ) (qs sems : List Queue) → HasLists m.heap sch arr qs sems → (n : ℕ) (front back : List Queue) → length front ≡ n → qs ≡ front ++ back → ((p : ℕ) → times_in p (processes_on back) ≡ 0) → Comes m (wake_among n (Ref arr)) (λ v s. Woken m sch arr qs sems v s)
unfolding wake_among processes_on
comes_wake_among {m} sch arr qs sems has zero front back len is none = comes_halt NoProcess
comes_wake_among {m} sch arr qs sems has (suc n) front back len is none =
    let last = split_last n front len in
    let place = is ∙ ap (λ x. x ++ back) last.2 ∙ append_assoc last.0 (last.1 ∷ []) back in
    step last.0 last.1 last.3 place (λ empty. comes_wake_among sch arr qs sems has n last.0 (last.1 ∷ back) last.3 place (λ p. let t = times-append p last.1.names (processes_on back) in let no = none p in let e = ap (times_in p) empty in let z = times-none p in omega (arith, t, no, e, z)))
  where
    step : (b : List Queue) (q : Queue) → length b ≡ n → qs ≡ b ++ q ∷ back → (q.names ≡ [] → Comes m (wake_among n (Ref arr)) (λ v s. Woken m sch arr qs sems v s)) → Comes m (part Shape (field 0 n) (Ref arr) >>= λ list. part Shape (field 0 FIRST_LINK_INDEX) list >>= λ first. pick (is_nil first) (wake_among n (Ref arr)) (take list)) (λ v s. Woken m sch arr qs sems v s)
    step b q l place lower =
        let has' : HasLists m.heap sch arr (b ++ q ∷ back) sems = subst (λ ys. HasLists m.heap sch arr ys sems) place has in
        let queue : IsQueue m.heap q.list q.names = queue_at b q back has'.queues in
        field_then _ arr 0 n (Ref q.list) (field_among m.heap arr n _ (Ref q.list) has'.lists (subst (λ k. slice_get (map (λ (q : Queue). Ref q.list) (b ++ q ∷ back)) k ≡ Some (Ref q.list)) l (get-at b q back))) (
        field_then _ q.list 0 FIRST_LINK_INDEX (first_of q.names) queue.first (
        by q.names refl queue has'))
      where
        by : (ns : List ℕ) → q.names ≡ ns → IsQueue m.heap q.list q.names → HasLists m.heap sch arr (b ++ q ∷ back) sems → Comes m (pick (is_nil (first_of ns)) (wake_among n (Ref arr)) (take (Ref q.list))) (λ v s. Woken m sch arr qs sems v s)
        by [] e queue has' = comes_true _ _ refl (lower e)
        by (x ∷ xs) e queue has' = comes_false _ _ (ne_eqb x NIL (not_first NIL x xs (subst (λ ns. IsNotAmong NIL ns) e queue.others.0))) (subst (λ ys. Comes m (take (Ref q.list)) (λ v s. Woken m sch arr ys sems v s)) (sym place) (wakes sch arr b q back sems x xs e has' none))

comes_wake : {m : Machine} (sch arr : ℕ) (qs sems : List Queue) → HasLists m.heap sch arr qs sems → Comes m wake (λ v s. Woken m sch arr qs sems v s)
unfolding wake processes_on
comes_wake {m} sch arr qs sems has = lists_then _ sch arr qs sems has (size_then _ arr 0 (map (λ (q : Queue). Ref q.list) qs) has.lists (comes_wake_among sch arr qs sems has (length (map (λ (q : Queue). Ref q.list) qs)) qs [] (sym (length-map qs)) (sym (append-nil qs)) (λ p. times-none p)))

-- ---- switches

switches : {m n : Machine} (here : Schedule) (v : Value) → HasLists m.heap here.scheduler here.array here.queues here.semaphores → (w : Woken m here.scheduler here.array here.queues here.semaphores v n) → GoesOn here (others_in here) (switched n w.process)
switches {m} {n} here v has w = record {
  next = record { scheduler = here.scheduler; array = here.array; queues = w.next; semaphores = here.semaphores; current = w.process };
  scheduler = refl;
  array = refl;
  lists = w.same_lists;
  semaphores = refl;
  same = λ k. let count = w.objects k in omega (arith, names, count);
  schedule = schedule_has {m = switched n w.process} here.scheduler here.array w.next here.semaphores w.process w.lists refl (let all = has.different w.process in let count = w.objects w.process in let one = same-self w.process in omega (arith, names, all, count, one));
  above = record { own = pos w.own; priority = w.priority; nobody = w.nobody };
}

comes_suspend : {m : Machine} (here : Schedule) → HasLists m.heap here.scheduler here.array here.queues here.semaphores → Comes m suspend_active (λ _ s. GoesOn here (others_in here) s)
unfolding suspend_active
comes_suspend {m} here has = comes_then _ (comes_wake here.scheduler here.array here.queues here.semaphores has) (λ v n w. subst (λ x. Comes n (transfer x) (λ _ s. GoesOn here (others_in here) s)) (sym w.is) (comes_weaker (comes_transfer w.process) (λ _ s e. subst (λ x. GoesOn here (others_in here) x) (sym e) (switches here v has w))))

-- the process has a higher priority: the current one sleeps
rises : {m n : Machine} (here : Schedule) (p : ℕ) (z own : ℤ) → HasSchedule m here → IsNotAmong p (NIL ∷ SCHEDULER_ASSOCIATION ∷ objects_in here) → NobodyAbove m.heap here → HasPriority m.heap z p → HasPriority m.heap own here.current → lt_z own z ≡ true → Slept m here.scheduler here.array here.queues here.semaphores here.current n → GoesOn here (p ∷ objects_in here) (switched n p)
rises {m} {n} here p z own has out above ez eo t slept = record {
  next = record { scheduler = here.scheduler; array = here.array; queues = slept.next; semaphores = here.semaphores; current = p };
  scheduler = refl;
  array = refl;
  lists = slept.same_lists;
  semaphores = refl;
  same = λ k. let count = slept.objects k in omega (arith, names, count);
  schedule = schedule_has {m = switched n p} here.scheduler here.array slept.next here.semaphores p slept.lists refl (let count = slept.objects p in omega (arith, names, out, count));
  above = record { own = z; priority = slept.priorities p ∙ ez; nobody = nobody };
}
  where
    nobody : (q : ℕ) (y : ℤ) → IsAmong q (processes_on slept.next) → HasPriority n.heap y q → y ≤ℤ z
    nobody q y among e =
        let count = slept.processes q in
        let before : HasPriority m.heap y q = sym (slept.priorities q) ∙ e in
        elim (either (same here.current q) (times_in q (processes_on here.queues)) (omega (arith, among, count))) [
          | inl one ↦ subst (λ x. x ≤ℤ z) (one_number m.heap q own y (subst (λ x. HasPriority m.heap own x) (same-is here.current q one) eo) before) (lt-le own z t)
          | inr old ↦ le-le y own z (subst (λ x. y ≤ℤ x) (one_number m.heap here.current above.own own above.priority eo) (above.nobody q y old before)) (lt-le own z t)
        ]

-- otherwise it sleeps itself
falls : {m n : Machine} (here : Schedule) (p : ℕ) (z own : ℤ) → HasSchedule m here → IsNotAmong p (NIL ∷ SCHEDULER_ASSOCIATION ∷ objects_in here) → NobodyAbove m.heap here → HasPriority m.heap z p → HasPriority m.heap own here.current → lt_z own z ≡ false → Slept m here.scheduler here.array here.queues here.semaphores p n → GoesOn here (p ∷ objects_in here) n
falls {m} {n} here p z own has out above ez eo t slept = record {
  next = record { scheduler = here.scheduler; array = here.array; queues = slept.next; semaphores = here.semaphores; current = here.current };
  scheduler = refl;
  array = refl;
  lists = slept.same_lists;
  semaphores = refl;
  same = λ k. let count = slept.objects k in omega (arith, names, count);
  schedule = schedule_has {m = n} here.scheduler here.array slept.next here.semaphores here.current slept.lists (slept.current ∙ has.current) (let all = has.different here.current in let count = slept.objects here.current in let one = same-self here.current in let no = same-apart p here.current other in omega (arith, names, all, count, one, no));
  above = record { own = own; priority = slept.priorities here.current ∙ eo; nobody = nobody };
}
  where
    other : p ≡ here.current → ⊥
    other e = not_first p here.current (here.scheduler ∷ here.array ∷ (objects_of here.queues ++ objects_of here.semaphores)) (omega (arith, names, out)) (sym e)

    nobody : (q : ℕ) (y : ℤ) → IsAmong q (processes_on slept.next) → HasPriority n.heap y q → y ≤ℤ own
    nobody q y among e =
        let count = slept.processes q in
        let before : HasPriority m.heap y q = sym (slept.priorities q) ∙ e in
        elim (either (same p q) (times_in q (processes_on here.queues)) (omega (arith, among, count))) [
          | inl one ↦ subst (λ x. x ≤ℤ own) (one_number m.heap q z y (subst (λ x. HasPriority m.heap z x) (same-is p q one) ez) before) (not-lt own z t)
          | inr old ↦ subst (λ x. y ≤ℤ x) (one_number m.heap here.current above.own own above.priority eo) (above.nobody q y old before)
        ]

comes_resume : {m : Machine} (here : Schedule) (p : ℕ) → HasSchedule m here → IsNotAmong p (NIL ∷ SCHEDULER_ASSOCIATION ∷ objects_in here) → NobodyAbove m.heap here → Comes m (resume (Ref p)) (λ _ s. GoesOn here (p ∷ objects_in here) s)
unfolding resume
comes_resume {m} here p has out above =
    number_then _ p 0 PRIORITY_INDEX (λ z ez.
    current_then _ here.scheduler here.current has.scheduler has.current (
    number_then _ here.current 0 PRIORITY_INDEX (λ own eo.
    comes_pick (lt_z own z) _ _ (λ t.
    comes_then _ (comes_sleep here.scheduler here.array here.current here.queues here.semaphores (lists_have has) (let all = has.different here.current in let one = same-self here.current in omega (arith, names, all, one))) (λ _ n slept.
    comes_weaker (comes_transfer p) (λ _ s e. subst (λ x. GoesOn here (p ∷ objects_in here) x) (sym e) (rises here p z own has out above ez eo t slept)))) (λ t.
    comes_weaker (comes_sleep here.scheduler here.array p here.queues here.semaphores (lists_have has) (omega (arith, names, out))) (λ _ s slept. falls here p z own has out above ez eo t slept)))))

-- ---- semaphores

lists-less : (n : ℕ) (qs : List Queue) → times_in n (lists_of qs) ≤ times_in n (objects_of qs)
unfolding objects_of
lists-less n [] = omega arith
lists-less n (q ∷ qs) =
    let rest = lists-less n qs in
    let h = times-cons n q.list (lists_of qs) in
    let k = times-cons n q.list (q.names ++ objects_of qs) in
    let l = times-append n q.names (objects_of qs) in
    omega (arith, rest, h, k, l)

-- the fields of links are as before
queues_linked : (h k : Heap) (qs : List Queue) → ((n : ℕ) → (field_at k n FIRST_LINK_INDEX ≡ field_at h n FIRST_LINK_INDEX) × (field_at k n LAST_LINK_INDEX ≡ field_at h n LAST_LINK_INDEX)) → AreQueues h qs → AreQueues k qs
queues_linked h k [] kept are = tt
queues_linked h k (q ∷ qs) kept are = (queue_kept h k q.list q.names (λ n among. kept n) are.0, queues_linked h k qs kept are.1)

differs : (k n : ℕ) → same k n ≡ 0 → k ≡ n → ⊥
differs k n none e = let one : same n n ≡ 0 = subst (λ x. same x n ≡ 0) e none in let own = same-self n in omega (arith, one, own)

-- the excess signals are changed, and nothing else
excess_kept : {m : Machine} (here : Schedule) (sem : ℕ) (v : Value) → HasSchedule m here → NobodyAbove m.heap here → IsAmong sem (lists_of here.semaphores) → GoesOn here (objects_in here) (wrote m sem EXCESS_SIGNALS_INDEX v)
excess_kept {m} here sem v has above among =
    let s = wrote m sem EXCESS_SIGNALS_INDEX v in
    let all = has.different sem in
    let less = lists-less sem here.semaphores in
    let fewer = processes-less sem here.queues in
    let beside : (n i : ℕ) → (i == EXCESS_SIGNALS_INDEX) ≡ false → field_at s.heap n i ≡ field_at m.heap n i = λ n i e. written-beside m.heap sem EXCESS_SIGNALS_INDEX v n i e in
    let links : (n : ℕ) → (field_at s.heap n FIRST_LINK_INDEX ≡ field_at m.heap n FIRST_LINK_INDEX) × (field_at s.heap n LAST_LINK_INDEX ≡ field_at m.heap n LAST_LINK_INDEX) = λ n. (beside n FIRST_LINK_INDEX refl, beside n LAST_LINK_INDEX refl) in
    let none : times_in sem (processes_on here.queues) ≡ 0 = omega (arith, names, all, less, fewer, among) in
    let process : (p : ℕ) → IsAmong p (processes_on here.queues) → field_at s.heap p PRIORITY_INDEX ≡ field_at m.heap p PRIORITY_INDEX = λ p on. written-other m.heap sem EXCESS_SIGNALS_INDEX v p PRIORITY_INDEX (among_differs p sem (processes_on here.queues) on none) in
    let current : field_at s.heap here.current PRIORITY_INDEX ≡ field_at m.heap here.current PRIORITY_INDEX = written-other m.heap sem EXCESS_SIGNALS_INDEX v here.current PRIORITY_INDEX (differs here.current sem (omega (arith, names, all, less, among))) in
    record {
      next = here;
      scheduler = refl;
      array = refl;
      lists = refl;
      semaphores = refl;
      same = λ k. refl;
      schedule = record {
        scheduler = beside SCHEDULER_ASSOCIATION VALUE_INDEX refl ∙ has.scheduler;
        array = beside here.scheduler PROCESS_LISTS_INDEX refl ∙ has.array;
        lists = values_kept m.heap s.heap here.array (written-apart m.heap sem EXCESS_SIGNALS_INDEX v here.array (differs here.array sem (omega (arith, names, all, less, among)))) ∙ has.lists;
        current = current_kept m s here.scheduler refl refl (beside here.scheduler ACTIVE_PROCESS_INDEX refl) ∙ has.current;
        queues = queues_linked m.heap s.heap here.queues links has.queues;
        semaphores = queues_linked m.heap s.heap here.semaphores links has.semaphores;
        priorities = have_kept m.heap s.heap 1 here.queues process has.priorities;
        different = has.different;
      };
      above = record { own = above.own; priority = current ∙ above.priority; nobody = λ p z on e. above.nobody p z on (sym (process p on) ∙ e) };
    }

-- a schedule with other semaphores in their places
abbrev with_semaphores : Schedule → List Queue → Schedule
with_semaphores here sems = record { scheduler = here.scheduler; array = here.array; queues = here.queues; semaphores = sems; current = here.current }

goes_as : {s : Machine} {old new : List ℕ} (here : Schedule) (sems : List Queue) → lists_of sems ≡ lists_of here.semaphores → HaveTheSame old new → GoesOn (with_semaphores here sems) old s → GoesOn here new s
goes_as here sems e f g = record { next = g.next; scheduler = g.scheduler; array = g.array; lists = g.lists; semaphores = g.semaphores ∙ e; same = λ k. g.same k ∙ f k; schedule = g.schedule; above = g.above }

list_among : (b : List Queue) (q : Queue) (a : List Queue) → IsAmong q.list (lists_of (b ++ q ∷ a))
list_among [] q a = let h = times-cons q.list q.list (lists_of a) in let one = same-self q.list in omega (arith, h, one)
list_among (x ∷ b) q a = let rest = list_among b q a in let h = times-cons q.list x.list (lists_of (b ++ q ∷ a)) in omega (arith, h, rest)

-- the first that waits is taken, and goes on or sleeps
signals : {m n : Machine} (here : Schedule) (b : List Queue) (q : Queue) (a : List Queue) (x : ℕ) (xs : List ℕ) → q.names ≡ x ∷ xs → HasSchedule m (with_semaphores here (b ++ q ∷ a)) → NobodyAbove m.heap (with_semaphores here (b ++ q ∷ a)) → Takes m q.list x xs n → Comes n (resume (Ref x)) (λ _ s. GoesOn (with_semaphores here (b ++ q ∷ a)) (objects_in (with_semaphores here (b ++ q ∷ a))) s)
signals {m} {n} here b q a x xs e has above takes =
    let r : Queue = record { list = q.list; names = xs } in
    let count : (k : ℕ) → times_in k q.names ≡ same x k + times_in k xs = λ k. ap (times_in k) e ∙ times-cons k x xs in
    let apart : AreApart (SCHEDULER_ASSOCIATION ∷ here.scheduler ∷ here.array ∷ (objects_of here.queues ++ (objects_of b ++ objects_of a))) (q.list ∷ x ∷ []) = λ k among. let all = has.different k in let split = objects-split k b q a in let c = count k in omega (arith, names, all, split, among, c) in
    let lists = turn_semaphore here.scheduler here.array here.queues b q r a (lists_have has) takes.left takes.queue apart (λ k. let all = has.different k in let split = objects-split k b q a in let again = objects-split k b r a in let c = count k in omega (arith, names, all, split, again, c)) in
    let current = current_kept m n here.scheduler takes.left.cpu takes.left.regs (field_kept m.heap n.heap here.scheduler ACTIVE_PROCESS_INDEX (takes.left.apart here.scheduler (apart here.scheduler (omega (arith, names))))) ∙ has.current in
    let there = schedule_has {m = n} here.scheduler here.array here.queues (b ++ r ∷ a) here.current lists current (let all = has.different here.current in let split = objects-split here.current b q a in let again = objects-split here.current b r a in let c = count here.current in let one = same-self here.current in omega (arith, names, all, split, again, c, one)) in
    let higher : NobodyAbove n.heap (with_semaphores here (b ++ r ∷ a)) = record { own = above.own; priority = takes.left.priorities here.current ∙ above.priority; nobody = λ p z on f. above.nobody p z on (sym (takes.left.priorities p) ∙ f) } in
    let free : IsNotAmong x (NIL ∷ SCHEDULER_ASSOCIATION ∷ objects_in (with_semaphores here (b ++ r ∷ a))) = let all = has.different x in let split = objects-split x b q a in let again = objects-split x b r a in let c = count x in let one = same-self x in omega (arith, names, all, split, again, c, one) in
    comes_weaker (comes_resume (with_semaphores here (b ++ r ∷ a)) x there free higher) (λ _ s g. goes_as (with_semaphores here (b ++ q ∷ a)) (b ++ r ∷ a) (lists-turned b q r a refl) (λ k. let split = objects-split k b q a in let again = objects-split k b r a in let c = count k in omega (arith, names, split, again, c)) g)

signal_at : {m : Machine} (here : Schedule) (b : List Queue) (q : Queue) (a : List Queue) → HasSchedule m (with_semaphores here (b ++ q ∷ a)) → NobodyAbove m.heap (with_semaphores here (b ++ q ∷ a)) → Comes m (signal (Ref q.list)) (λ _ s. GoesOn (with_semaphores here (b ++ q ∷ a)) (objects_in (with_semaphores here (b ++ q ∷ a))) s)
unfolding signal add_signal
signal_at {m} here b q a has above =
    let queue : IsQueue m.heap q.list q.names = queue_at b q a has.semaphores in
    field_then _ q.list 0 FIRST_LINK_INDEX (first_of q.names) queue.first (by q.names refl queue)
  where
    by : (ns : List ℕ) → q.names ≡ ns → IsQueue m.heap q.list q.names → Comes m (pick (is_nil (first_of ns)) (add_signal (Ref q.list)) (take (Ref q.list) >>= resume)) (λ _ s. GoesOn (with_semaphores here (b ++ q ∷ a)) (objects_in (with_semaphores here (b ++ q ∷ a))) s)
    by [] e queue = comes_true _ _ refl (number_then _ q.list 0 EXCESS_SIGNALS_INDEX (λ z f. comes_store_field q.list EXCESS_SIGNALS_INDEX _ (λ o g. excess_kept (with_semaphores here (b ++ q ∷ a)) q.list _ has above (list_among b q a))))
    by (x ∷ xs) e queue = comes_false _ _ (ne_eqb x NIL (not_first NIL x xs (subst (λ ns. IsNotAmong NIL ns) e queue.others.0))) (comes_then _ (comes_take q.list x xs (subst (λ ns. IsQueue m.heap q.list ns) e queue)) (λ v n both. subst (λ y. Comes n (resume y) (λ _ s. GoesOn (with_semaphores here (b ++ q ∷ a)) (objects_in (with_semaphores here (b ++ q ∷ a))) s)) (sym both.0) (signals here b q a x xs e has above both.1)))

-- a rule on a semaphore of the schedule, by the place where it stands
by_place : {m : Machine} (p : Value → Rule (Unit {0})) → ((here : Schedule) (b : List Queue) (q : Queue) (a : List Queue) → HasSchedule m (with_semaphores here (b ++ q ∷ a)) → NobodyAbove m.heap (with_semaphores here (b ++ q ∷ a)) → Comes m (p (Ref q.list)) (λ _ s. GoesOn (with_semaphores here (b ++ q ∷ a)) (objects_in (with_semaphores here (b ++ q ∷ a))) s)) → (here : Schedule) (sem : ℕ) → IsAmong sem (lists_of here.semaphores) → HasSchedule m here → NobodyAbove m.heap here → Comes m (p (Ref sem)) (λ _ s. GoesOn here (objects_in here) s)
by_place {m} p f here sem among has above =
    let found = split_by sem here.semaphores among in
    subst (λ sems. HasSchedule m (with_semaphores here sems) → NobodyAbove m.heap (with_semaphores here sems) → Comes m (p (Ref sem)) (λ _ s. GoesOn (with_semaphores here sems) (objects_in (with_semaphores here sems)) s)) (sym found.0.is) (λ has' above'. subst (λ k. Comes m (p (Ref k)) (λ _ s. GoesOn (with_semaphores here (found.0.before ++ found.0.here ∷ found.0.behind)) (objects_in (with_semaphores here (found.0.before ++ found.0.here ∷ found.0.behind))) s)) found.1 (f here found.0.before found.0.here found.0.behind has' above')) has above

-- the current process stands at the semaphore
waits : {m n : Machine} (here : Schedule) (b : List Queue) (q : Queue) (a : List Queue) → HasSchedule m (with_semaphores here (b ++ q ∷ a)) → Adds m q.list here.current q.names n → Comes n suspend_active (λ _ s. GoesOn (with_semaphores here (b ++ q ∷ a)) (objects_in (with_semaphores here (b ++ q ∷ a))) s)
waits {m} {n} here b q a has adds =
    let r : Queue = record { list = q.list; names = q.names ++ here.current ∷ [] } in
    let apart : AreApart (SCHEDULER_ASSOCIATION ∷ here.scheduler ∷ here.array ∷ (objects_of here.queues ++ (objects_of b ++ objects_of a))) (q.list ∷ here.current ∷ q.names) = λ k among. let all = has.different k in let split = objects-split k b q a in omega (arith, names, all, split, among) in
    let lists = turn_semaphore here.scheduler here.array here.queues b q r a (lists_have has) adds.left adds.queue apart (λ k. let all = has.different k in let split = objects-split k b q a in let again = objects-split k b r a in omega (arith, names, all, split, again)) in
    comes_weaker (comes_suspend (with_semaphores here (b ++ r ∷ a)) lists) (λ _ s g. goes_as (with_semaphores here (b ++ q ∷ a)) (b ++ r ∷ a) (lists-turned b q r a refl) (λ k. let split = objects-split k b q a in let again = objects-split k b r a in omega (arith, names, split, again)) g)

wait_at : {m : Machine} (here : Schedule) (b : List Queue) (q : Queue) (a : List Queue) → HasSchedule m (with_semaphores here (b ++ q ∷ a)) → NobodyAbove m.heap (with_semaphores here (b ++ q ∷ a)) → Comes m (wait (Ref q.list)) (λ _ s. GoesOn (with_semaphores here (b ++ q ∷ a)) (objects_in (with_semaphores here (b ++ q ∷ a))) s)
unfolding wait sleep_at
wait_at {m} here b q a has above =
    number_then _ q.list 0 EXCESS_SIGNALS_INDEX (λ z f.
    comes_pick (lt_z (pos 0) z) _ _ (λ t.
    comes_store_field q.list EXCESS_SIGNALS_INDEX _ (λ o g. excess_kept (with_semaphores here (b ++ q ∷ a)) q.list _ has above (list_among b q a))) (λ t.
    current_then _ here.scheduler here.current has.scheduler has.current (
    comes_then _ (comes_add q.list here.current q.names (queue_at b q a has.semaphores) (let all = has.different here.current in let split = objects-split here.current b q a in let one = same-self here.current in omega (arith, names, all, split, one))) (λ _ n adds.
    waits here b q a has adds))))

-- ---- the laws

pub current_is : (m s : Machine) (here : Schedule) (v : Value) (log : List LogRow) → HasSchedule m here → current_process m ≡ Go v s log → (s ≡ m) × (v ≡ Ref here.current)
current_is m s here v log has e = (comes_current here.scheduler here.current has.scheduler has.current).to v s log e

pub resume_goes_on : (m s : Machine) (here : Schedule) (p : ℕ) (log : List LogRow) → HasSchedule m here → NobodyAbove m.heap here → IsNotAmong p (NIL ∷ SCHEDULER_ASSOCIATION ∷ objects_in here) → resume (Ref p) m ≡ Go tt s log → GoesOn here (p ∷ objects_in here) s
resume_goes_on m s here p log has above out e = (comes_resume here p has out above).to tt s log e

pub suspend_goes_on : (m s : Machine) (here : Schedule) (log : List LogRow) → HasSchedule m here → suspend_active m ≡ Go tt s log → GoesOn here (others_in here) s
suspend_goes_on m s here log has e = (comes_suspend here (lists_have has)).to tt s log e

pub signal_goes_on : (m s : Machine) (here : Schedule) (semaphore : ℕ) (log : List LogRow) → HasSchedule m here → NobodyAbove m.heap here → IsAmong semaphore (lists_of here.semaphores) → signal (Ref semaphore) m ≡ Go tt s log → GoesOn here (objects_in here) s
signal_goes_on m s here semaphore log has above among e = (by_place signal signal_at here semaphore among has above).to tt s log e

pub wait_goes_on : (m s : Machine) (here : Schedule) (semaphore : ℕ) (log : List LogRow) → HasSchedule m here → NobodyAbove m.heap here → IsAmong semaphore (lists_of here.semaphores) → wait (Ref semaphore) m ≡ Go tt s log → GoesOn here (objects_in here) s
wait_goes_on m s here semaphore log has above among e = (by_place wait wait_at here semaphore among has above).to tt s log e
