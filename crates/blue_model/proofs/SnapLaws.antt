-- The worked guarded run up to its first checkpoint: all of its objects are kept.
use Rattle.std.specs.Prelude.{if◌then◌else◌, ◌||◌}
use Rattle.std.proofs.Common.{◌≡◌, ℕ, ◌==◌, Bool, true, false, List, [], Option, Some, None, is_some, refl, sym, ◌∙◌, ap, subst, eqb-true}
use Rattle.long_names.specs.declared.object.Object.{Object}
use Rattle.long_names.specs.declared.value.Value.TheVariants.{Ref}
use Rattle.long_names.specs.Names.{is_known, SCHEDULER_ASSOCIATION, ARRAY}
use Rattle.long_names.specs.Heap.{Heap, Has}
use Rattle.long_names.specs.Kept.{kept, no_roots, is_left, any_below, holds_at}
use Rattle.long_names.proofs.KeptLaws.{kept-same, fixed-same}
use Rattle.blue_model.specs.Machine.{Machine, LogRow, Outcome, Go, Halt, Spent, after, at_rest, ◌>>=◌, store, part, look, known, class_of, given, pick, register, put_register, numbers, set_numbers, clear, pin, unpin_all, done, halt}
use Rattle.blue_model.specs.Parts.{field, number, size, home_of, code_of, literal, heading}
use Rattle.blue_model.specs.Contexts.{start, need_method, put_context, load_home, load, fetch, park, store_registers, store_field, scheduler, active_process, park_new, push, pop, stack, byte_of}
use Rattle.blue_model.specs.Bytecodes.{bytecode, bytecodes, push_of, literal_constant, send_literal}
use Rattle.blue_model.specs.Primitives.{then_next, primitive}
use Rattle.blue_model.specs.Processes.{check_switch}
use Rattle.blue_model.specs.Devices.{due, events_due, check_timer, keep_machine, device_primitives}
use Rattle.blue_model.specs.Sends.{send, send_from, execute, execute_method, execute_extended}
use Rattle.blue_model.specs.Messages.{set_arguments, find_or_tell, extension, literal_before_last}
use Rattle.blue_model.specs.Lookup.{find, find_from, find_in, found_or, put_found, method_at, slot_of}
use Rattle.blue_model.specs.Trials.{with_arguments, where_true}
use Rattle.blue_model.specs.State.{begin, restore, state_in, no_state}
use Rattle.blue_model.specs.Cycle.{cycle, turn, step, count_bytecode}
use Rattle.blue_model.specs.Base.{SCHEDULER, PROCESS, CODE, CONTEXT, context_at}
use Rattle.blue_model.specs.Loaded.{loaded}
use Rattle.blue_model.specs.Guarded.{guarded_on, guarded, kept_after, allowed}
use Rattle.blue_model.proofs.LoadedLaws.{loaded_starts}
use Rattle.blue_model.specs.Snaps.{DICTIONARY, METHODS, SNAP, SNAPPING, SUBJECT, snapping_heap, snapped, seen_in}

-- the machine of an outcome that goes through
abbrev machine_of : {A : Type 0} → Outcome A → Machine
machine_of (Go a m log) = m
machine_of (Halt c log) = at_rest snapping_heap
machine_of (Spent log) = at_rest snapping_heap

-- in the first cycle it pushes, and in the second it sends
sent : Machine
sent = machine_of (cycle [] (machine_of (cycle [] (allowed 0 (machine_of (begin no_state (at_rest snapping_heap)))))))

snap_sends : snapped 2 ≡ kept_after 0 sent (loaded sent)
unfolding sent begin restore ◌>>=◌ guarded guarded_on cycle turn step count_bytecode start need_method put_context load_home load fetch scheduler active_process check_switch due events_due check_timer then_next bytecode bytecodes push_of literal_constant push pop store_field store part look known given pick register put_register numbers set_numbers clear pin unpin_all done halt field number size home_of code_of byte_of literal send_literal send send_from stack class_of set_arguments find_or_tell find find_from find_in found_or put_found method_at slot_of execute execute_method execute_extended heading extension literal_before_last primitive with_arguments where_true keep_machine device_primitives
snap_sends = refl

-- parked
parked : Machine
parked = machine_of (park sent)

-- each of its objects is known or held
left_if : (P : ℕ → Type 0) (n k : ℕ) (o : Object) (x : Option Object) → P k → (is_some x ≡ true → P n) → is_some (if n == k then Some o else x) ≡ true → P n
left_if P n k o x here there has = go (n == k) refl has
  where
    go : (b : Bool) → (n == k) ≡ b → is_some (if b then Some o else x) ≡ true → P n
    go true e h = subst P (sym (eqb-true n k e)) here
    go false e h = there h

left_known : (P : ℕ → Type 0) (n : ℕ) (o : Object) → (is_known n ≡ true → P n) → is_some (if is_known n then Some o else None) ≡ true → P n
left_known P n o here has = go (is_known n) refl has
  where
    go : (b : Bool) → is_known n ≡ b → is_some (if b then Some o else None) ≡ true → P n
    go true e h = here e
    go false e h = let no : false ≡ true = h in absurd (cc)

IsLeft : ℕ → Type 0
IsLeft n = is_left parked.heap no_roots n ≡ true

known_left : (n : ℕ) → is_known n ≡ true → IsLeft n
unfolding IsLeft
known_left n e = ap (λ b. b || (no_roots n || any_below parked.heap.next (λ k. holds_at parked.heap k n))) e

all_left : (n : ℕ) → Has parked.heap n → is_left parked.heap no_roots n ≡ true
unfolding sent begin restore ◌>>=◌ cycle turn step count_bytecode start need_method put_context load_home load fetch scheduler active_process check_switch due events_due check_timer then_next bytecode bytecodes push_of literal_constant push pop store_field store part look known given pick register put_register numbers set_numbers clear pin unpin_all done halt field number size home_of code_of byte_of literal send_literal send send_from stack class_of set_arguments find_or_tell find find_from find_in found_or put_found method_at slot_of execute execute_method execute_extended heading extension literal_before_last primitive with_arguments where_true keep_machine device_primitives park store_registers park_new parked IsLeft
all_left n has =
    left_if IsLeft n PROCESS _ _ refl (left_if IsLeft n CONTEXT _ _ refl (left_if IsLeft n CONTEXT _ _ refl (left_if IsLeft n CONTEXT _ _ refl (
    left_if IsLeft n SCHEDULER_ASSOCIATION _ _ refl (left_if IsLeft n SCHEDULER _ _ refl (left_if IsLeft n PROCESS _ _ refl (left_if IsLeft n CODE _ _ refl (left_if IsLeft n CONTEXT _ _ refl (
    left_if IsLeft n ARRAY _ _ refl (left_if IsLeft n DICTIONARY _ _ refl (left_if IsLeft n METHODS _ _ refl (left_if IsLeft n SNAP _ _ refl (left_if IsLeft n SNAPPING _ _ refl (left_if IsLeft n SUBJECT _ _ refl (
    left_known IsLeft n _ (known_left n)))))))))))))))) has

all_kept : kept parked.heap no_roots ≡ parked.heap
all_kept = kept-same parked.heap no_roots (fixed-same parked.heap no_roots (record { fixed = all_left }))

-- so it starts on its own heap
begun : Outcome (Unit {0})
begun = begin (state_in parked.heap parked) (at_rest parked.heap)

starts : begin (state_in (kept parked.heap no_roots) parked) (at_rest (kept parked.heap no_roots)) ≡ begun
unfolding begun
starts = ap (λ (k : Heap). begin (state_in k parked) (at_rest k)) all_kept

rows_of : {A : Type 0} → Outcome A → List LogRow
rows_of (Go a m log) = log
rows_of (Halt c log) = log
rows_of (Spent log) = log

goes : {A : Type 0} → Outcome A → Bool
goes (Go a m log) = true
goes (Halt c log) = false
goes (Spent log) = false

gone : (o : Outcome (Unit {0})) → goes o ≡ true → o ≡ Go tt (machine_of o) (rows_of o)
unfolding goes rows_of
gone (Go a m log) e = refl
gone (Halt c log) e = let no : false ≡ true = e in absurd (cc)
gone (Spent log) e = let no : false ≡ true = e in absurd (cc)

park_goes : goes (park sent) ≡ true
unfolding sent begin restore ◌>>=◌ cycle turn step count_bytecode start need_method put_context load_home load fetch scheduler active_process check_switch due events_due check_timer then_next bytecode bytecodes push_of literal_constant push pop store_field store part look known given pick register put_register numbers set_numbers clear pin unpin_all done halt field number size home_of code_of byte_of literal send_literal send send_from stack class_of set_arguments find_or_tell find find_from find_in found_or put_found method_at slot_of execute execute_method execute_extended heading extension literal_before_last primitive with_arguments where_true keep_machine device_primitives park store_registers park_new goes
park_goes = refl

parks : park sent ≡ Go tt parked (rows_of (park sent))
unfolding parked
parks = gone (park sent) park_goes

seen : seen_in (kept_after 0 sent (after (rows_of (park sent)) begun)) ≡ Some (record { serial = 1; ran = 2; context = context_at 9 1 (Ref SUBJECT) })
unfolding sent begin restore ◌>>=◌ cycle turn step count_bytecode start need_method put_context load_home load fetch scheduler active_process check_switch due events_due check_timer then_next bytecode bytecodes push_of literal_constant push pop store_field store part look known given pick register put_register numbers set_numbers clear pin unpin_all done halt field number size home_of code_of byte_of literal send_literal send send_from stack class_of set_arguments find_or_tell find find_from find_in found_or put_found method_at slot_of execute execute_method execute_extended heading extension literal_before_last primitive with_arguments where_true keep_machine device_primitives park store_registers park_new parked rows_of begun
seen = refl

pub snap_kept : seen_in (snapped 2) ≡ Some (record { serial = 1; ran = 2; context = context_at 9 1 (Ref SUBJECT) })
snap_kept = ap seen_in snap_sends ∙ ap (λ (o : Outcome (Unit {0})). seen_in (kept_after 0 sent o)) (loaded_starts sent parked (rows_of (park sent)) parks ∙ ap (after (rows_of (park sent))) starts) ∙ seen
