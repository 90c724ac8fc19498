-- The start, and the state that it goes on with, leave the heap and the transcript as they were.
use Rattle.std.proofs.Common.{◌≡◌, ℕ, ℤ, Bool, true, false, List, Option, Some, None, refl, sym, ◌∙◌, ap}
use Rattle.long_names.specs.declared.value.Value.{Value}
use Rattle.long_names.specs.declared.value.Value.TheVariants.{Int, Ref}
use Rattle.long_names.specs.declared.object.Object.{Object}
use Rattle.long_names.specs.State.{object_at}
use Rattle.blue_model.specs.declared.cause.Cause.{Cause}
use Rattle.blue_model.specs.declared.cpu.Cpu.{Cpu}
use Rattle.blue_model.specs.Machine.{Machine, LogRow, Outcome, Go, Halt, Spent, Rule, after, then_do, ◌>>=◌, done, halt, given, is_there, placed, put_register, clear, numbers, set_numbers, register, looked, look, part, known, unpin_all, pinned, pin}
use Rattle.blue_model.specs.Contexts.{need_method, put_context, load_home, load, scheduler, active_process, start}
use Rattle.blue_model.specs.State.{State, hold, restore, begin}

abbrev pub Leaves : {A : Type 0} → Machine → Outcome A → Type 0
Leaves m (Go a s log) = (s.heap ≡ m.heap) × (s.transcript ≡ m.transcript)
Leaves m (Halt c log) = Unit {0}
Leaves m (Spent log) = Unit {0}

record LeavesAll {A : Type 0} (p : Rule A) : Type 0 where
  leaves : (m : Machine) → Leaves m (p m)

leaves_then : {A B : Type 0} {p : Rule A} (k : A → Rule B) → LeavesAll p → ((a : A) → LeavesAll (k a)) → LeavesAll (p >>= k)
unfolding ◌>>=◌
leaves_then {A} {B} {p} k first f = record { leaves = λ m. go m (p m) (first.leaves m) }
  where
    next : (m s : Machine) (log : List LogRow) (o : Outcome B) → (s.heap ≡ m.heap) × (s.transcript ≡ m.transcript) → Leaves s o → Leaves m (after log o)
    next m s log (Go b t rows) h g = (g.0 ∙ h.0, g.1 ∙ h.1)
    next m s log (Halt c rows) h g = tt
    next m s log (Spent rows) h g = tt

    go : (m : Machine) (o : Outcome A) → Leaves m o → Leaves m (then_do o k)
    go m (Go a s log) h = next m s log (k a s) h ((f a).leaves s)
    go m (Halt c log) h = tt
    go m (Spent log) h = tt

leaves_done : {A : Type 0} (a : A) → LeavesAll (done a)
unfolding done
leaves_done a = record { leaves = λ m. (refl, refl) }

leaves_halt : {A : Type 0} (c : Cause) → LeavesAll {A = A} (halt c)
unfolding halt
leaves_halt c = record { leaves = λ m. tt }

leaves_given : {A : Type 0} (c : Cause) (o : Option A) → LeavesAll (given c o)
unfolding given
leaves_given c None = leaves_halt c
leaves_given c (Some a) = leaves_done a

leaves_register : (r : ℕ) → LeavesAll (register r)
unfolding register
leaves_register r = record { leaves = λ m. (refl, refl) }

leaves_numbers : LeavesAll numbers
unfolding numbers
leaves_numbers = record { leaves = λ m. (refl, refl) }

leaves_set_numbers : (cpu : Cpu) → LeavesAll (set_numbers cpu)
unfolding set_numbers
leaves_set_numbers cpu = record { leaves = λ m. (refl, refl) }

leaves_clear : (among : ℕ → Bool) → LeavesAll (clear among)
unfolding clear
leaves_clear among = record { leaves = λ m. (refl, refl) }

leaves_put_register : (r : ℕ) (v : Value) → LeavesAll (put_register r v)
unfolding put_register
leaves_put_register r v = record { leaves = λ m. go m (is_there m.heap v) }
  where
    go : (m : Machine) (b : Bool) → Leaves m (placed m r v b)
    go m true = (refl, refl)
    go m false = tt

leaves_look : (v : Value) → LeavesAll (look v)
unfolding look
leaves_look v = record { leaves = λ m. go m (object_at m.heap v) }
  where
    go : (m : Machine) (o : Option Object) → Leaves m (looked m v o)
    go m None = tt
    go m (Some o) = (refl, refl)

leaves_part : {A : Type 0} (c : Cause) (f : Object → Option A) (v : Value) → LeavesAll (part c f v)
unfolding part
leaves_part c f v = leaves_then _ (leaves_look v) (λ o. leaves_given c (f o))

leaves_known : (n : ℕ) → LeavesAll (known n)
unfolding known
leaves_known n = leaves_then _ (leaves_look (Ref n)) (λ o. leaves_done (Ref n))

leaves_unpin_all : LeavesAll unpin_all
unfolding unpin_all
leaves_unpin_all = record { leaves = λ m. (refl, refl) }

leaves_pin : (slot : ℕ) (v : Value) → LeavesAll (pin slot v)
unfolding pin
leaves_pin slot (Int z) = record { leaves = λ m. tt }
leaves_pin slot (Ref n) = record { leaves = λ m. go m (m.heap.at n) }
  where
    go : (m : Machine) (o : Option Object) → Leaves m (pinned m slot n o)
    go m None = tt
    go m (Some o) = (refl, refl)

ruleset leaving = (leaves_then, leaves_done, leaves_halt, leaves_given, leaves_register, leaves_numbers, leaves_set_numbers, leaves_clear, leaves_put_register, leaves_part, leaves_known, leaves_unpin_all, leaves_pin)

leaves-need_method : (method : Value) → LeavesAll (need_method method)
unfolding need_method
leaves-need_method method = search leaving depth 12

leaves-put_context : (context home method receiver : Value) → LeavesAll (put_context context home method receiver)
unfolding put_context
leaves-put_context context home method receiver = search leaving depth 16

leaves-load_home : (context home : Value) (ip depth : ℤ) → LeavesAll (load_home context home ip depth)
unfolding load_home
leaves-load_home context home ip depth = search (leaving, leaves-need_method, leaves-put_context) depth 30 fits 5000

leaves-load : (context : Value) → LeavesAll (load context)
unfolding load
leaves-load context = search (leaving, leaves-load_home) depth 30 fits 5000

leaves-scheduler : LeavesAll scheduler
unfolding scheduler
leaves-scheduler = search leaving depth 12

leaves-active_process : LeavesAll active_process
unfolding active_process
leaves-active_process = search (leaving, leaves-scheduler) depth 12

leaves-start : LeavesAll start
unfolding start
leaves-start = search (leaving, leaves-active_process, leaves-load) depth 20

leaves-hold : (r : ℕ) (o : Option ℕ) → LeavesAll (hold r o)
leaves-hold r None = leaves_done tt
leaves-hold r (Some n) = leaves_then _ (leaves_known n) (λ v. leaves_put_register r v)

leaves-begin : (state : State) → LeavesAll (begin state)
unfolding begin restore
leaves-begin state = search (leaving, leaves-start, leaves-hold) depth 20

pub start_leaves : (m : Machine) → Leaves m (start m)
start_leaves m = leaves-start.leaves m

pub begin_leaves : (state : State) (m n : Machine) (log : List LogRow) → begin state m ≡ Go tt n log → (n.heap ≡ m.heap) × (n.transcript ≡ m.transcript)
begin_leaves state m n log e = go (begin state m) e ((leaves-begin state).leaves m)
  where
    go : (o : Outcome (Unit {0})) → o ≡ Go tt n log → Leaves m o → (n.heap ≡ m.heap) × (n.transcript ≡ m.transcript)
    go (Go u s rows) f h = let same : s ≡ n = cc in (ap (λ (x : Machine). x.heap) (sym same) ∙ h.0, ap (λ (x : Machine). x.transcript) (sym same) ∙ h.1)
    go (Halt c rows) f h = let no : ◌≡◌ {A = Outcome (Unit {0})} (Halt c rows) (Go tt n log) = f in absurd (cc)
    go (Spent rows) f h = let no : ◌≡◌ {A = Outcome (Unit {0})} (Spent rows) (Go tt n log) = f in absurd (cc)
