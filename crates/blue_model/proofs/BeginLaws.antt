-- What parking writes down, and what a start on what was kept finds.
use Rattle.std.specs.Prelude.{if◌then◌else◌}
use Rattle.std.proofs.Common.{◌≡◌, ℕ, ℤ, pos, ◌==◌, ◌+ℤ◌, ◌-ℤ◌, nat_lt, Bool, true, false, List, [], ◌∷◌, Option, Some, None, is_some, refl, sym, ◌∙◌, ap, subst}
use Rattle.std.specs.Option.{option_and_then}
use Rattle.long_names.specs.declared.value.Value.{Value}
use Rattle.long_names.specs.declared.value.Value.TheVariants.{Int, Ref}
use Rattle.long_names.specs.declared.object.Object.{Object}
use Rattle.long_names.specs.Names.{SCHEDULER_ASSOCIATION}
use Rattle.long_names.specs.Heap.{Heap}
use Rattle.long_names.specs.Kept.{kept, no_roots}
use Rattle.long_names.specs.State.{set_register, ACTIVE_CONTEXT, HOME, METHOD, RECEIVER, NEW_PROCESS, INPUT_SEMAPHORE, TIMER_SEMAPHORE, DISPLAY}
use Rattle.blue_model.specs.declared.cause.Cause.TheVariants.{Stack, Shape}
use Rattle.blue_model.specs.declared.cpu.Cpu.{Cpu}
use Rattle.blue_model.specs.declared.indexes.TheConstants.{VALUE_INDEX, ASSOCIATION_SIZE, ACTIVE_PROCESS_INDEX, SCHEDULER_SIZE, SUSPENDED_CONTEXT_INDEX, PROCESS_SIZE, INSTRUCTION_POINTER_INDEX, STACK_POINTER_INDEX, METHOD_INDEX, RECEIVER_INDEX, TEMP_FRAME_START, EMPTY_STACK}
use Rattle.blue_model.specs.Machine.{Machine, LogRow, row_of, Outcome, Go, Halt, Rule, ◌>>=◌, ◌>>◌, part, register, put_register, clear, numbers_at_rest, at_rest, unpinned, unpin_all, with_pin, pinned, pin}
use Rattle.long_names.specs.declared.limits.TheConstants.{MACHINE_REGISTERS}
use Rattle.blue_model.specs.ClassList.{part_in}
use Rattle.blue_model.specs.Parts.{field, number, home_of, code_of}
use Rattle.blue_model.specs.Queues.{field_at}
use Rattle.blue_model.specs.Contexts.{store_field, stack_pointer, need_method, put_context, load_home, load, stated, store_registers, scheduler, active_process, start, park_new, park}
use Rattle.blue_model.specs.Devices.{timer_at}
use Rattle.blue_model.specs.State.{State, name_in, hold, restore, state_of, begin}
use Rattle.blue_model.specs.Loaded.{start_on_kept, process_in, first_context}
use Rattle.blue_model.proofs.ComesLaws.{Comes, comes_then, comes_done, comes_weaker, looks_then, given_then, known_then, numbers_then, comes_register, comes_put_register, comes_set_numbers, comes_pick, answers-part, wrote, written, comes_store_field, store_then}

-- ---- steps

-- a part of an object that the value names
pub part_then : {m : Machine} {A B : Type 0} {R : B → Machine → Type 0} (k : A → Rule B) (f : Object → Option A) (v : Value) → ((a : A) → part_in m.heap f v ≡ Some a → Comes m (k a) R) → Comes m (part Shape f v >>= k) R
part_then k f v g = looks_then k (answers-part Shape f v) g

pub register_then : {m : Machine} {B : Type 0} {R : B → Machine → Type 0} (k : Value → Rule B) (r : ℕ) → Comes m (k (m.regs r)) R → Comes m (register r >>= k) R
register_then {m} {B} {R} k r f = comes_then {Q = λ v s. (s ≡ m) × (v ≡ m.regs r)} k (comes_register r) (λ v s both. subst (λ x. Comes x (k v) R) (sym both.0) (subst (λ x. Comes m (k x) R) (sym both.1) f))

-- only a name has parts
pub named : {A : Type 0} (h : Heap) (f : Object → Option A) (v : Value) (a : A) → part_in h f v ≡ Some a → {G : Type 0} → ((n : ℕ) → v ≡ Ref n → G) → G
named {A} h f (Int z) a e g = let no : ◌≡◌ {A = Option A} None (Some a) = e in absurd (cc)
named h f (Ref n) a e g = g n refl

-- a store into the object that a value names
into_then : {m : Machine} {B : Type 0} {R : B → Machine → Type 0} (k : Unit {0} → Rule B) (v : Value) (i : ℕ) (x : Value) → ((n : ℕ) (old : Value) → v ≡ Ref n → field_at m.heap n i ≡ Some old → Comes (wrote m n i x) (k tt) R) → Comes m (store_field v i x >>= k) R
unfolding store_field
into_then {m} {B} {R} k (Int z) i x f = comes_then {Q = λ _ _. ⊥} k (part_then _ (field 0 i) (Int z) (λ a e. named m.heap (field 0 i) (Int z) a e (λ n same. let no : ◌≡◌ {A = Value} (Int z) (Ref n) = same in absurd (cc)))) (λ a n no. absurd no)
into_then k (Ref n) i x f = store_then k n i x (λ old e. f n old refl e)

comes_into : {m : Machine} {Q : Unit {0} → Machine → Type 0} (v : Value) (i : ℕ) (x : Value) → ((n : ℕ) (old : Value) → v ≡ Ref n → field_at m.heap n i ≡ Some old → Q tt (wrote m n i x)) → Comes m (store_field v i x) Q
unfolding store_field
comes_into {m} {Q} (Int z) i x f = part_then _ (field 0 i) (Int z) (λ a e. named m.heap (field 0 i) (Int z) a e (λ n same. let no : ◌≡◌ {A = Value} (Int z) (Ref n) = same in absurd (cc)))
comes_into (Ref n) i x f = comes_store_field n i x (λ old e. f n old refl e)

-- ---- parking

one_name : (a b : ℕ) → Ref a ≡ Ref b → a ≡ b
one_name a b e = cc

-- the context that parking writes to, and the numbers that it states
pub record Stating (m : Machine) : Type 0 where
  pub active : ℕ
  pub ip : ℤ
  pub depth : ℤ
  pub in_context : m.regs ACTIVE_CONTEXT ≡ Ref active
  pub ip_stated : stated (m.cpu.ip +ℤ pos 1) ≡ Some ip
  pub depth_stated : stated (m.cpu.sp -ℤ pos EMPTY_STACK) ≡ Some depth
  pub old_ip : Value
  pub had_ip : field_at m.heap active INSTRUCTION_POINTER_INDEX ≡ Some old_ip
  pub old_depth : Value
  pub had_depth : field_at (written m.heap active INSTRUCTION_POINTER_INDEX (Int ip)) active STACK_POINTER_INDEX ≡ Some old_depth

-- the heap with the two numbers in the context
unfoldable pub told : (m : Machine) → Stating m → Heap
told m k = written (written m.heap k.active INSTRUCTION_POINTER_INDEX (Int k.ip)) k.active STACK_POINTER_INDEX (Int k.depth)

registers_stored : {m : Machine} → Comes m store_registers (λ _ s. (k : Stating m) × (s ≡ record m { heap = told m k }))
unfolding store_registers told
registers_stored {m} =
    numbers_then _ (register_then _ ACTIVE_CONTEXT (given_then _ _ _ (λ ip e. given_then _ _ _ (λ depth f.
    into_then _ (m.regs ACTIVE_CONTEXT) INSTRUCTION_POINTER_INDEX (Int ip) (λ n old same g.
    comes_into (m.regs ACTIVE_CONTEXT) STACK_POINTER_INDEX (Int depth) (λ k other again h.
    let one : k ≡ n = one_name k n (sym again ∙ same) in (
      record { active = n; ip = ip; depth = depth; in_context = same; ip_stated = e; depth_stated = f; old_ip = old; had_ip = g; old_depth = other; had_depth = subst (λ x. field_at (written m.heap n INSTRUCTION_POINTER_INDEX (Int ip)) x STACK_POINTER_INDEX ≡ Some other) one h },
      ap (λ x. record m { heap = written (written m.heap n INSTRUCTION_POINTER_INDEX (Int ip)) x STACK_POINTER_INDEX (Int depth) }) one,
    )))))))

-- what parking leaves
pub record HasParked (m p : Machine) : Type 0 where
  pub by : Stating m
  pub scheduler : ℕ
  pub process : ℕ
  pub scheduled : part_in (told m by) (field ASSOCIATION_SIZE VALUE_INDEX) (Ref SCHEDULER_ASSOCIATION) ≡ Some (Ref scheduler)
  pub processed : part_in (told m by) (field SCHEDULER_SIZE ACTIVE_PROCESS_INDEX) (Ref scheduler) ≡ Some (Ref process)
  pub old_context : Value
  pub had_context : field_at (told m by) process SUSPENDED_CONTEXT_INDEX ≡ Some old_context
  pub quiet : m.cpu.waiting ≡ false → p ≡ record m { heap = written (told m by) process SUSPENDED_CONTEXT_INDEX (m.regs ACTIVE_CONTEXT) }
  pub old_process : Value
  pub had_process : m.cpu.waiting ≡ true → field_at (written (told m by) process SUSPENDED_CONTEXT_INDEX (m.regs ACTIVE_CONTEXT)) scheduler ACTIVE_PROCESS_INDEX ≡ Some old_process
  pub switched : m.cpu.waiting ≡ true → p ≡ record m { heap = written (written (told m by) process SUSPENDED_CONTEXT_INDEX (m.regs ACTIVE_CONTEXT)) scheduler ACTIVE_PROCESS_INDEX (m.regs NEW_PROCESS) }

scheduler_then : {m : Machine} {B : Type 0} {R : B → Machine → Type 0} (k : Value → Rule B) → ((v : Value) → part_in m.heap (field ASSOCIATION_SIZE VALUE_INDEX) (Ref SCHEDULER_ASSOCIATION) ≡ Some v → Comes m (k v) R) → Comes m (scheduler >>= k) R
unfolding scheduler
scheduler_then {m} {B} {R} k f = comes_then {Q = λ v s. (s ≡ m) × (part_in m.heap (field ASSOCIATION_SIZE VALUE_INDEX) (Ref SCHEDULER_ASSOCIATION) ≡ Some v)} k (known_then _ SCHEDULER_ASSOCIATION (record { to = λ v s log e. (answers-part Shape (field ASSOCIATION_SIZE VALUE_INDEX) (Ref SCHEDULER_ASSOCIATION)).told v s log e })) (λ v n both. subst (λ x. Comes x (k v) R) (sym both.0) (f v both.1))

-- the end of parking, behind the numbers
abbrev rest_of_park : Rule (Unit {0})
rest_of_park = do
  active ← register ACTIVE_CONTEXT
  scheduler ← scheduler
  process ← part Shape (field SCHEDULER_SIZE ACTIVE_PROCESS_INDEX) scheduler
  store_field process SUSPENDED_CONTEXT_INDEX active
  park_new scheduler

parked_by : (m : Machine) (k : Stating m) → Comes (record m { heap = told m k }) rest_of_park (λ _ p. HasParked m p)
unfolding park_new
parked_by m k =
    register_then _ ACTIVE_CONTEXT (scheduler_then _ (λ s e. part_then _ _ s (λ p f.
    into_then _ p SUSPENDED_CONTEXT_INDEX (m.regs ACTIVE_CONTEXT) (λ q old same had.
    named (told m k) (field SCHEDULER_SIZE ACTIVE_PROCESS_INDEX) s p f (λ t is.
    let found = e ∙ ap (λ x. Some x) is in
    let ran = subst (λ x. part_in (told m k) (field SCHEDULER_SIZE ACTIVE_PROCESS_INDEX) x ≡ Some p) is f ∙ ap (λ x. Some x) same in
    numbers_then _ (comes_pick m.cpu.waiting _ _
    (λ waits. register_then _ NEW_PROCESS (comes_into s ACTIVE_PROCESS_INDEX (m.regs NEW_PROCESS) (λ u other again there.
    let one : u ≡ t = one_name u t (sym again ∙ is) in
    record {
      by = k;
      scheduler = t;
      process = q;
      scheduled = found;
      processed = ran;
      old_context = old;
      had_context = had;
      quiet = λ no. absurd (let clash : true ≡ false = sym waits ∙ no in cc);
      old_process = other;
      had_process = λ _. subst (λ x. field_at (written (told m k) q SUSPENDED_CONTEXT_INDEX (m.regs ACTIVE_CONTEXT)) x ACTIVE_PROCESS_INDEX ≡ Some other) one there;
      switched = λ _. ap (λ x. record m { heap = written (written (told m k) q SUSPENDED_CONTEXT_INDEX (m.regs ACTIVE_CONTEXT)) x ACTIVE_PROCESS_INDEX (m.regs NEW_PROCESS) }) one;
    })))
    (λ rests. comes_done tt (record {
      by = k;
      scheduler = t;
      process = q;
      scheduled = found;
      processed = ran;
      old_context = old;
      had_context = had;
      quiet = λ _. refl;
      old_process = Int (pos 0);
      had_process = λ no. absurd (let clash : true ≡ false = sym no ∙ rests in cc);
      switched = λ no. absurd (let clash : true ≡ false = sym no ∙ rests in cc);
    }))))))))

pub park_comes : {m : Machine} → Comes m park (λ _ p. HasParked m p)
unfolding park
park_comes {m} = comes_then _ registers_stored (λ u s both. subst (λ x. Comes x rest_of_park (λ _ p. HasParked m p)) (sym both.1) (parked_by m both.0))

-- ---- starting

pin_comes : (m : Machine) (slot : ℕ) (v : Value) → Comes m (pin slot v) (λ _ s. (y : ℕ → Option ℕ) × (s ≡ record m { slots = y }))
unfolding pin
pin_comes m slot (Int z) = record { to = λ a s log e. let no : ◌≡◌ {A = Outcome (Unit {0})} (Halt Shape []) (Go a s log) = e in absurd (cc) }
pin_comes m slot (Ref n) = record { to = λ a s log e. go (m.heap.at n) a s log e }
  where
    go : (o : Option Object) (a : Unit {0}) (s : Machine) (log : List LogRow) → pinned m slot n o ≡ Go a s log → (y : ℕ → Option ℕ) × (s ≡ record m { slots = y })
    go None a s log e = let no : ◌≡◌ {A = Outcome (Unit {0})} (Halt Shape (row_of m n ∷ [])) (Go a s log) = e in absurd (cc)
    go (Some o) a s log e = let left : with_pin m slot n ≡ s = cc in ((with_pin m slot n).slots, sym left)

pin_then : {m : Machine} {B : Type 0} {R : B → Machine → Type 0} (k : Unit {0} → Rule B) (slot : ℕ) (v : Value) → ((y : ℕ → Option ℕ) → Comes (record m { slots = y }) (k tt) R) → Comes m (pin slot v >>= k) R
pin_then {m} {B} {R} k slot v f = comes_then {Q = λ _ s. (y : ℕ → Option ℕ) × (s ≡ record m { slots = y })} k (pin_comes m slot v) (λ a s both. subst (λ x. Comes x (k tt) R) (sym both.1) (f both.0))

pub unpin_then : {m : Machine} {B : Type 0} {R : B → Machine → Type 0} (k : Unit {0} → Rule B) → ((y : ℕ → Option ℕ) → Comes (record m { slots = y }) (k tt) R) → Comes m (unpin_all >>= k) R
unfolding unpin_all
unpin_then {m} {B} {R} k f = comes_then {Q = λ _ s. s ≡ record m { slots = unpinned m.slots }} k (record { to = λ a s log e. let left : record m { slots = unpinned m.slots } ≡ s = cc in sym left }) (λ a s same. subst (λ x. Comes x (k tt) R) (sym same) (f (unpinned m.slots)))

pub need_then : {m : Machine} {B : Type 0} {R : B → Machine → Type 0} (k : Unit {0} → Rule B) (v : Value) → Comes m (k tt) R → Comes m (need_method v >>= k) R
unfolding need_method
need_then {m} {B} {R} k v f = comes_then {Q = λ _ s. s ≡ m} k (part_then _ code_of v (λ a e. comes_done tt refl)) (λ a s same. subst (λ x. Comes x (k tt) R) (sym same) f)

put_then : {m : Machine} {B : Type 0} {R : B → Machine → Type 0} (k : Unit {0} → Rule B) (r : ℕ) (v : Value) → Comes (record m { regs = if nat_lt r MACHINE_REGISTERS then set_register m.regs r v else m.regs }) (k tt) R → Comes m (put_register r v >>= k) R
put_then {m} {B} {R} k r v f = comes_then {Q = λ _ s. s ≡ record m { regs = if nat_lt r MACHINE_REGISTERS then set_register m.regs r v else m.regs }} k (comes_put_register r v) (λ a s same. subst (λ x. Comes x (k tt) R) (sym same) f)

abbrev pub with_context : (ℕ → Value) → Value → Value → Value → Value → ℕ → Value
with_context regs context home method receiver = set_register (set_register (set_register (set_register regs ACTIVE_CONTEXT context) HOME home) METHOD method) RECEIVER receiver

pub put_context_comes : {m : Machine} (context home method receiver : Value) → Comes m (put_context context home method receiver) (λ _ s. s ≡ record m { regs = with_context m.regs context home method receiver })
unfolding put_context
put_context_comes context home method receiver = put_then _ ACTIVE_CONTEXT context (put_then _ HOME home (put_then _ METHOD method (comes_put_register RECEIVER receiver)))

-- what a load of a context finds
pub record Loading (h : Heap) (context : Value) : Type 0 where
  pub home : Value
  pub method : Value
  pub receiver : Value
  pub ip : ℤ
  pub depth : ℤ
  pub sp : ℤ
  pub ip_is : part_in h (number TEMP_FRAME_START INSTRUCTION_POINTER_INDEX) context ≡ Some ip
  pub depth_is : part_in h (number TEMP_FRAME_START STACK_POINTER_INDEX) context ≡ Some depth
  pub home_is : part_in h (home_of context) context ≡ Some home
  pub method_is : part_in h (field TEMP_FRAME_START METHOD_INDEX) home ≡ Some method
  pub receiver_is : part_in h (field TEMP_FRAME_START RECEIVER_INDEX) home ≡ Some receiver
  pub sp_is : stack_pointer depth ≡ Some sp

abbrev with_loading : (m : Machine) (context : Value) → Loading m.heap context → (ℕ → Option ℕ) → Machine
with_loading m context k slots = record m { slots = slots; regs = with_context m.regs context k.home k.method k.receiver; cpu = record m.cpu { ip = k.ip -ℤ pos 1; sp = k.sp } }

pub load_comes : {m : Machine} (context : Value) → Comes m (load context) (λ _ s. (k : Loading m.heap context) × (y : ℕ → Option ℕ) × (s ≡ with_loading m context k y))
unfolding load load_home
load_comes {m} context =
    unpin_then _ (λ y0. pin_then _ 0 context (λ y1.
    part_then _ (number TEMP_FRAME_START INSTRUCTION_POINTER_INDEX) context (λ ip e1. part_then _ (number TEMP_FRAME_START STACK_POINTER_INDEX) context (λ depth e2. part_then _ (home_of context) context (λ home e3.
    pin_then _ 1 home (λ y2. part_then _ (field TEMP_FRAME_START METHOD_INDEX) home (λ method e4.
    pin_then _ 2 method (λ y3. need_then _ method (part_then _ (field TEMP_FRAME_START RECEIVER_INDEX) home (λ receiver e5.
    given_then _ Stack (stack_pointer depth) (λ sp e6.
    comes_then {Q = λ _ s. s ≡ record m { slots = y3; regs = with_context m.regs context home method receiver }} _ (put_context_comes context home method receiver) (λ a n same.
    comes_weaker (numbers_then _ (comes_set_numbers _)) (λ b s left. (
      record { home = home; method = method; receiver = receiver; ip = ip; depth = depth; sp = sp; ip_is = e1; depth_is = e2; home_is = e3; method_is = e4; receiver_is = e5; sp_is = e6 },
      y3,
      left ∙ ap (λ (x : Machine). record x { cpu = record x.cpu { ip = ip -ℤ pos 1; sp = sp } }) same,
    ))))))))))))))

active_then : {m : Machine} {B : Type 0} {R : B → Machine → Type 0} (k : Value → Rule B) → ((v : Value) → process_in m.heap ≡ Some v → Comes m (k v) R) → Comes m (active_process >>= k) R
unfolding active_process
active_then {m} {B} {R} k f =
    comes_then {Q = λ v s. (s ≡ m) × (process_in m.heap ≡ Some v)} k
    (scheduler_then _ (λ s e. record { to = λ v n log g. let both = (answers-part Shape (field SCHEDULER_SIZE ACTIVE_PROCESS_INDEX) s).told v n log g in (both.0, ap (option_and_then (part_in m.heap (field SCHEDULER_SIZE ACTIVE_PROCESS_INDEX))) e ∙ both.1) }))
    (λ v n both. subst (λ x. Comes x (k v) R) (sym both.0) (f v both.1))

-- nothing is loaded yet
abbrev cleared : Machine → Machine
cleared m = record m { regs = λ r. Int (pos 0); cpu = numbers_at_rest }

abbrev rest_of_start : Rule (Unit {0})
rest_of_start = do
  process ← active_process
  context ← part Shape (field PROCESS_SIZE SUSPENDED_CONTEXT_INDEX) process
  load context

start_comes : {m : Machine} → Comes m start (λ _ s. (context : Value) × (first_context m.heap ≡ Some context) × (k : Loading m.heap context) × (y : ℕ → Option ℕ) × (s ≡ with_loading (cleared m) context k y))
unfolding start clear
start_comes {m} =
    comes_then {Q = λ _ s. s ≡ record m { regs = λ r. Int (pos 0) }} _ (record { to = λ a s log e. let left : record m { regs = λ r. Int (pos 0) } ≡ s = cc in sym left }) (λ a n same.
    comes_then {Q = λ _ s. s ≡ cleared m} _ (comes_weaker (comes_set_numbers numbers_at_rest) (λ b s left. left ∙ ap (λ (x : Machine). record x { cpu = numbers_at_rest }) same)) (λ b n left.
    subst (λ x. Comes x rest_of_start (λ _ s. (context : Value) × (first_context m.heap ≡ Some context) × (k : Loading m.heap context) × (y : ℕ → Option ℕ) × (s ≡ with_loading (cleared m) context k y))) (sym left)
    (active_then _ (λ process e. part_then _ (field PROCESS_SIZE SUSPENDED_CONTEXT_INDEX) process (λ context f. comes_weaker (load_comes context) (λ c s both. (context, ap (option_and_then (part_in m.heap (field PROCESS_SIZE SUSPENDED_CONTEXT_INDEX))) e ∙ f, both.0, both.1, both.2)))))))

-- ---- and what is restored

hold_comes : {m : Machine} (r : ℕ) (name : Option ℕ) → Comes m (hold r name) (λ _ s. (regs : ℕ → Value) × ((q : ℕ) → (q == r) ≡ false → regs q ≡ m.regs q) × (s ≡ record m { regs = regs }))
hold_comes {m} r None = comes_done tt (m.regs, (λ q e. refl), refl)
hold_comes {m} r (Some n) = known_then _ n (comes_weaker (comes_put_register r (Ref n)) (λ a s e. ((if nat_lt r MACHINE_REGISTERS then set_register m.regs r (Ref n) else m.regs), (λ q f. apart (nat_lt r MACHINE_REGISTERS) q f), e)))
  where
    apart : (b : Bool) (q : ℕ) → (q == r) ≡ false → (if b then set_register m.regs r (Ref n) else m.regs) q ≡ m.regs q
    apart true q f = ap (λ c. if c then Ref n else m.regs q) f
    apart false q f = refl

hold_then : {m : Machine} {B : Type 0} {R : B → Machine → Type 0} (k : Unit {0} → Rule B) (r : ℕ) (name : Option ℕ) → ((regs : ℕ → Value) → ((q : ℕ) → (q == r) ≡ false → regs q ≡ m.regs q) → Comes (record m { regs = regs }) (k tt) R) → Comes m (hold r name >>= k) R
hold_then {m} {B} {R} k r name f = comes_then {Q = λ _ s. (regs : ℕ → Value) × ((q : ℕ) → (q == r) ≡ false → regs q ≡ m.regs q) × (s ≡ record m { regs = regs })} k (hold_comes r name) (λ a s both. subst (λ x. Comes x (k tt) R) (sym both.2) (f both.0 both.1))

abbrev pub restored : State → Cpu → Cpu
restored state cpu = record cpu { base = state.clock; display = is_some (name_in state.display); input = is_some (name_in state.input); timer = timer_at (is_some (name_in state.timer)) state.tick }

-- the registers of devices alone are filled
restore_comes : {m : Machine} (state : State) → Comes m (restore state) (λ _ s. (regs : ℕ → Value) × ((q : ℕ) → (q == DISPLAY) ≡ false → (q == INPUT_SEMAPHORE) ≡ false → (q == TIMER_SEMAPHORE) ≡ false → regs q ≡ m.regs q) × (s ≡ record m { regs = regs; cpu = restored state m.cpu }))
unfolding restore
restore_comes {m} state =
    hold_then _ DISPLAY (name_in state.display) (λ r1 f1. hold_then _ INPUT_SEMAPHORE (name_in state.input) (λ r2 f2. hold_then _ TIMER_SEMAPHORE (name_in state.timer) (λ r3 f3.
    numbers_then _ (comes_weaker (comes_set_numbers _) (λ a s e. (r3, (λ q d i t. f3 q t ∙ f2 q i ∙ f1 q d), e))))))

-- what a start on what is kept comes to
pub record Begun (p s : Machine) : Type 0 where
  pub context : Value
  pub first : first_context (kept p.heap no_roots) ≡ Some context
  pub load : Loading (kept p.heap no_roots) context
  pub slots : ℕ → Option ℕ
  pub regs : ℕ → Value
  pub others : (q : ℕ) → (q == DISPLAY) ≡ false → (q == INPUT_SEMAPHORE) ≡ false → (q == TIMER_SEMAPHORE) ≡ false → regs q ≡ with_context (λ r. Int (pos 0)) context load.home load.method load.receiver q
  pub is : s ≡ record { heap = kept p.heap no_roots; regs = regs; slots = slots; transcript = []; largest = 0; cpu = restored (state_of p) (record numbers_at_rest { ip = load.ip -ℤ pos 1; sp = load.sp }) }

begin_comes : (p : Machine) → Comes (at_rest (kept p.heap no_roots)) (begin (state_of p)) (λ _ s. Begun p s)
unfolding begin
begin_comes p = comes_then _ start_comes (λ a n both. subst (λ x. Comes x (restore (state_of p)) (λ _ s. Begun p s)) (sym both.4) (comes_weaker (restore_comes (state_of p)) (λ b s again. record { context = both.0; first = both.1; load = both.2; slots = both.3; regs = again.0; others = again.1; is = again.2 })))

pub started : (p s : Machine) (log : List LogRow) → start_on_kept p ≡ Go tt s log → Begun p s
unfolding start_on_kept
started p s log e = (begin_comes p).to tt s log e
