-- What was said before changes nothing in a cycle, in a start, in parking and in a picture.
use Rattle.std.proofs.Common.{ℕ, ℤ, Bool, List, [], ◌∷◌, ◌++◌, ◌-◌, Option, Some, None}
use Rattle.blue_model.proofs.EarlierRules.{ignores-block_copy, ignores-value_with_arguments, ignores-perform_with_arguments, ignores-flush_cache, ignores-quit, ignores-value, ignores-perform, ignores-activate, ignores-arithmetic, ignores-at, ignores-at_end, ignores-at_put, ignores-back_with, ignores-be_display, ignores-become, ignores-check_switch, ignores-class, ignores-comparison, ignores-copy_bits, ignores-due, ignores-equivalent, ignores-fetch, ignores-find_or_tell, ignores-hash, ignores-input_semaphore, ignores-input_word, ignores-instance_variable_at, ignores-instance_variable_at_put, ignores-jump, ignores-keep_machine, ignores-large_arithmetic, ignores-large_comparison, ignores-large_shift, ignores-new, ignores-new_method, ignores-new_with_size, ignores-next, ignores-next_put, ignores-object_at_index, ignores-object_at_put, ignores-park, ignores-picture, ignores-point, ignores-pop, ignores-pop_top, ignores-primitive_resume, ignores-primitive_signal, ignores-primitive_suspend, ignores-primitive_wait, ignores-push, ignores-put_stack, ignores-say_string, ignores-set_arguments, ignores-signal_at_tick, ignores-size_of, ignores-stack, ignores-start, ignores-store_field, ignores-string_at, ignores-string_at_put, ignores-tick_words}
use Rattle.blue_model.proofs.EarlierSteps.{ignores_done, ignores_failed, ignores_numbers, ignores_where_true, ignores_halt, ignores_known, ignores_pick, ignores_put_register, ignores_then, ignoring}
use Rattle.blue_model.specs.Arithmetic.{integer_primitives}
use Rattle.blue_model.specs.BitBlt.{blit_primitives}
use Rattle.blue_model.specs.Bytecodes.{Range, arithmetic_send, block_send, by_kind, bytecode, bytecodes, double_extended, duplicate_top, extended_push, extended_store, extended_store_and_pop, extended_store_of, has_byte, jump_on, jump_where, literal_constant, literal_variable, long_jump, long_jump_on, push_active_context, push_known, push_number, push_of, push_receiver, receiver_variable, return_from_block, return_home, return_of, ruled, send_literal, send_literal_super, single_extended, store_and_pop, store_literal_variable, store_receiver_variable, store_temporary, store_top, temporary, tried_for}
use Rattle.blue_model.specs.Trials.{Primitive, with_arguments, primitive_in}
use Rattle.blue_model.specs.Control.{control_primitives, control_primitive}
use Rattle.blue_model.specs.Cycle.{count_bytecode, cycle, park_and_draw, step, turn}
use Rattle.blue_model.specs.Devices.{device_primitives}
use Rattle.blue_model.specs.Earlier.{IgnoresEarlier}
use Rattle.blue_model.specs.LargeInts.{large_primitives}
use Rattle.blue_model.specs.Machine.{Rule}
use Rattle.blue_model.specs.Primitives.{primitive, then_next, tried}
use Rattle.blue_model.specs.Processes.{process_primitives}
use Rattle.blue_model.specs.Sends.{answer_field, cannot_return, execute, execute_extended, execute_method, must_be_boolean, return_to, send, send_from, send_super, special_send}
use Rattle.blue_model.specs.State.{State, begin, hold, restore}
use Rattle.blue_model.specs.Storage.{class, object_primitives}
use Rattle.blue_model.specs.declared.event.Line.{Line}
use Rattle.blue_model.specs.declared.step.Step.{Step}
use Rattle.long_names.specs.declared.value.Value.{Value}

-- ---- the table of primitives

ignores-with_arguments : (p : Primitive) → IgnoresEarlier p.rule → IgnoresEarlier (with_arguments p)
unfolding with_arguments
ignores-with_arguments p f = ignores_then _ ignores_numbers (λ cpu. ignores_where_true _ _ f)

-- each row has such a rule
AreIgnoring : List Primitive → Type 0
AreIgnoring [] = Unit {0}
AreIgnoring (p ∷ ps) = IgnoresEarlier p.rule × AreIgnoring ps

ignores-primitive_in : (ps : List Primitive) (index : ℕ) → AreIgnoring ps → IgnoresEarlier (primitive_in ps index)
unfolding AreIgnoring
ignores-primitive_in [] index f = ignores_failed
ignores-primitive_in (p ∷ ps) index f = ignores_pick _ _ _ (ignores-with_arguments p f.0) (ignores-primitive_in ps index f.1)

control_ignores : AreIgnoring control_primitives
unfolding AreIgnoring control_primitives
control_ignores = (ignores-block_copy, (ignores-value_with_arguments, (ignores-perform_with_arguments, (ignores-flush_cache, (ignores-quit, tt)))))

ignores-control_primitive : (index : ℕ) → IgnoresEarlier (control_primitive index)
unfolding control_primitive
ignores-control_primitive index = ignores_pick _ _ _ ignores-value (ignores_pick _ _ _ ignores-perform (ignores-primitive_in _ index control_ignores))

primitives_ignore : AreIgnoring (integer_primitives ++ object_primitives)
unfolding AreIgnoring integer_primitives object_primitives
primitives_ignore = search (ignores-arithmetic, ignores-comparison, ignores-point, ignores-at, ignores-at_put, ignores-size_of, ignores-string_at, ignores-string_at_put, ignores-next, ignores-next_put, ignores-at_end, ignores-object_at_index, ignores-object_at_put, ignores-new, ignores-new_with_size, ignores-new_method, ignores-instance_variable_at, ignores-instance_variable_at_put, ignores-hash, ignores-equivalent, ignores-become, ignores-class) depth 80 fits 40000

large_ignore : AreIgnoring large_primitives
unfolding AreIgnoring large_primitives
large_ignore = search (ignores-large_arithmetic, ignores-large_comparison, ignores-large_shift) depth 80 fits 40000

processes_ignore : AreIgnoring process_primitives
unfolding AreIgnoring process_primitives
processes_ignore = (ignores-primitive_signal, (ignores-primitive_wait, (ignores-primitive_resume, (ignores-primitive_suspend, tt))))

blits_ignore : AreIgnoring blit_primitives
unfolding AreIgnoring blit_primitives
blits_ignore = (ignores-copy_bits, tt)

devices_ignore : (events : List Line) → AreIgnoring (device_primitives events)
unfolding AreIgnoring device_primitives
devices_ignore events = (ignores-input_semaphore, (ignores-input_word events, (ignores-keep_machine, (ignores-tick_words, (ignores-signal_at_tick, (ignores-be_display, (ignores-say_string, tt)))))))

ignores-primitive : (events : List Line) (index : ℕ) → IgnoresEarlier (primitive events index)
unfolding primitive
ignores-primitive events index = ignores_pick _ _ _ (ignores-control_primitive index) (ignores_pick _ _ _ (ignores-primitive_in _ index processes_ignore) (ignores_pick _ _ _ (ignores-primitive_in _ index blits_ignore) (ignores_pick _ _ _ (ignores-primitive_in _ index (devices_ignore events)) (ignores_pick _ _ _ (ignores-primitive_in _ index large_ignore) (ignores-primitive_in _ index primitives_ignore)))))

pub ignores-then_next : (p : Rule (Unit {0})) → IgnoresEarlier p → IgnoresEarlier (then_next p)
unfolding then_next
ignores-then_next p f = search (ignoring, f) depth 16

pub ignores-tried : (events : List Line) (index : ℕ) (rest : Rule Step) → IgnoresEarlier rest → IgnoresEarlier (tried events index rest)
unfolding tried
ignores-tried events index rest f = ignores_then _ (ignores-primitive events index) (λ answer. ignores_pick _ _ _ f (ignores_done _))

-- ---- sends

pub ignores-answer_field : (i : ℕ) → IgnoresEarlier (answer_field i)
unfolding answer_field
ignores-answer_field i = search (ignoring, ignores-stack, ignores-put_stack) depth 22

pub ignores-execute_extended : (events : List Line) (performed : Bool) (method : Value) → IgnoresEarlier (execute_extended events performed method)
unfolding execute_extended
ignores-execute_extended events performed method = search (ignoring, ignores-activate, ignores-primitive) depth 28

pub ignores-execute_method : (events : List Line) (performed : Bool) → IgnoresEarlier (execute_method events performed)
unfolding execute_method
ignores-execute_method events performed = search (ignoring, ignores-activate, ignores-answer_field, ignores-execute_extended) depth 30 fits 5000

pub ignores-execute : (events : List Line) → IgnoresEarlier (execute events)
unfolding execute
ignores-execute events = search (ignoring, ignores-execute_method) depth 22

pub ignores-send_from : (events : List Line) (class selector : Value) (n : ℕ) → IgnoresEarlier (send_from events class selector n)
unfolding send_from
ignores-send_from events class selector n = search (ignoring, ignores-set_arguments, ignores-find_or_tell, ignores-execute) depth 22

pub ignores-send : (events : List Line) (selector : Value) (n : ℕ) → IgnoresEarlier (send events selector n)
unfolding send
ignores-send events selector n = search (ignoring, ignores-stack, ignores-send_from) depth 20

pub ignores-send_super : (events : List Line) (selector : Value) (n : ℕ) → IgnoresEarlier (send_super events selector n)
unfolding send_super
ignores-send_super events selector n = search (ignoring, ignores-stack, ignores-send_from) depth 26

pub ignores-special_send : (events : List Line) (s : ℕ) → IgnoresEarlier (special_send events s)
unfolding special_send
ignores-special_send events s = search (ignoring, ignores-send) depth 24

pub ignores-cannot_return : (events : List Line) (v : Value) → IgnoresEarlier (cannot_return events v)
unfolding cannot_return
ignores-cannot_return events v = search (ignoring, ignores-push, ignores-send) depth 24

pub ignores-must_be_boolean : (events : List Line) (v : Value) → IgnoresEarlier (must_be_boolean events v)
unfolding must_be_boolean
ignores-must_be_boolean events v = search (ignoring, ignores-push, ignores-send) depth 20

pub ignores-return_to : (events : List Line) (context v : Value) → IgnoresEarlier (return_to events context v)
unfolding return_to
ignores-return_to events context v = search (ignoring, ignores-back_with, ignores-then_next, ignores-cannot_return) depth 22

-- ---- bytecodes

pub ignores-receiver_variable : (i : ℕ) → IgnoresEarlier (receiver_variable i)
unfolding receiver_variable
ignores-receiver_variable i = search ignoring depth 18

pub ignores-temporary : (i : ℕ) → IgnoresEarlier (temporary i)
unfolding temporary
ignores-temporary i = search ignoring depth 22

pub ignores-literal_constant : (i : ℕ) → IgnoresEarlier (literal_constant i)
unfolding literal_constant
ignores-literal_constant i = search ignoring depth 18

pub ignores-literal_variable : (i : ℕ) → IgnoresEarlier (literal_variable i)
unfolding literal_variable
ignores-literal_variable i = search (ignoring, ignores-literal_constant) depth 18

pub ignores-store_receiver_variable : (i : ℕ) (v : Value) → IgnoresEarlier (store_receiver_variable i v)
unfolding store_receiver_variable
ignores-store_receiver_variable i v = search (ignoring, ignores-store_field) depth 18

pub ignores-store_temporary : (i : ℕ) (v : Value) → IgnoresEarlier (store_temporary i v)
unfolding store_temporary
ignores-store_temporary i v = search (ignoring, ignores-store_field) depth 22

pub ignores-store_literal_variable : (i : ℕ) (v : Value) → IgnoresEarlier (store_literal_variable i v)
unfolding store_literal_variable
ignores-store_literal_variable i v = search (ignoring, ignores-store_field, ignores-literal_constant) depth 18

pub ignores-push_of : (p : Rule Value) → IgnoresEarlier p → IgnoresEarlier (push_of p)
unfolding push_of
ignores-push_of p f = search (ignoring, ignores-push, f) depth 16

pub ignores-push_known : (n : ℕ) → IgnoresEarlier (push_known n)
unfolding push_known
ignores-push_known n = search (ignoring, ignores-push) depth 16

pub ignores-push_number : (i : ℕ) → IgnoresEarlier (push_number i)
unfolding push_number
ignores-push_number i = search (ignoring, ignores-push) depth 14

pub ignores-push_receiver : IgnoresEarlier push_receiver
unfolding push_receiver
ignores-push_receiver = search (ignoring, ignores-push_of) depth 14

pub ignores-push_active_context : IgnoresEarlier push_active_context
unfolding push_active_context
ignores-push_active_context = search (ignoring, ignores-push_of) depth 14

pub ignores-duplicate_top : IgnoresEarlier duplicate_top
unfolding duplicate_top
ignores-duplicate_top = search (ignoring, ignores-stack, ignores-push_of) depth 14

pub ignores-store_top : (p : Value → Rule (Unit {0})) → ((a : Value) → IgnoresEarlier (p a)) → IgnoresEarlier (store_top p)
unfolding store_top
ignores-store_top p f = search (ignoring, ignores-stack, f) depth 16

pub ignores-store_and_pop : (p : Value → Rule (Unit {0})) → ((a : Value) → IgnoresEarlier (p a)) → IgnoresEarlier (store_and_pop p)
unfolding store_and_pop
ignores-store_and_pop p f = search (ignoring, ignores-pop, ignores-store_top, f) depth 18

pub ignores-by_kind : {A : Type 0} (n : ℕ) (p q r s : Rule A) → IgnoresEarlier p → IgnoresEarlier q → IgnoresEarlier r → IgnoresEarlier s → IgnoresEarlier (by_kind n p q r s)
unfolding by_kind
ignores-by_kind n p q r s f g h i = ignores_pick _ _ _ f (ignores_pick _ _ _ g (ignores_pick _ _ _ h i))

pub ignores-extended_push : IgnoresEarlier extended_push
unfolding extended_push
ignores-extended_push = search (ignoring, ignores-fetch, ignores-receiver_variable, ignores-temporary, ignores-literal_constant, ignores-literal_variable, ignores-push_of, ignores-by_kind) depth 18

pub ignores-extended_store_of : (n : ℕ) → IgnoresEarlier (extended_store_of n)
unfolding extended_store_of
ignores-extended_store_of n = search (ignoring, ignores-store_receiver_variable, ignores-store_temporary, ignores-store_literal_variable, ignores-store_top, ignores-by_kind) depth 14

pub ignores-extended_store : IgnoresEarlier extended_store
unfolding extended_store
ignores-extended_store = search (ignoring, ignores-fetch, ignores-extended_store_of) depth 18

pub ignores-extended_store_and_pop : IgnoresEarlier extended_store_and_pop
unfolding extended_store_and_pop
ignores-extended_store_and_pop = search (ignoring, ignores-pop, ignores-fetch, ignores-extended_store_of) depth 20

pub ignores-return_home : (events : List Line) (v : Value) → IgnoresEarlier (return_home events v)
unfolding return_home
ignores-return_home events v = search (ignoring, ignores-return_to) depth 20

pub ignores-return_of : (events : List Line) (p : Rule Value) → IgnoresEarlier p → IgnoresEarlier (return_of events p)
unfolding return_of
ignores-return_of events p f = search (ignoring, ignores-return_home, f) depth 16

pub ignores-return_from_block : (events : List Line) → IgnoresEarlier (return_from_block events)
unfolding return_from_block
ignores-return_from_block events = search (ignoring, ignores-pop_top, ignores-return_to) depth 22

pub ignores-jump_where : (events : List Line) (taken passed : ℕ) (distance : ℤ) (v : Value) → IgnoresEarlier (jump_where events taken passed distance v)
unfolding jump_where
ignores-jump_where events taken passed distance v = search (ignoring, ignores-jump, ignores-then_next, ignores-must_be_boolean) depth 18

pub ignores-jump_on : (events : List Line) (taken passed : ℕ) (distance : ℤ) → IgnoresEarlier (jump_on events taken passed distance)
unfolding jump_on
ignores-jump_on events taken passed distance = search (ignoring, ignores-pop_top, ignores-jump_where) depth 18

pub ignores-long_jump : (i : ℕ) → IgnoresEarlier (long_jump i)
unfolding long_jump
ignores-long_jump i = search (ignoring, ignores-fetch, ignores-jump) depth 18

pub ignores-long_jump_on : (events : List Line) (taken passed i : ℕ) → IgnoresEarlier (long_jump_on events taken passed i)
unfolding long_jump_on
ignores-long_jump_on events taken passed i = search (ignoring, ignores-fetch, ignores-jump_on) depth 18

pub ignores-send_literal : (events : List Line) (i n : ℕ) → IgnoresEarlier (send_literal events i n)
unfolding send_literal
ignores-send_literal events i n = search (ignoring, ignores-send, ignores-literal_constant) depth 18

pub ignores-send_literal_super : (events : List Line) (i n : ℕ) → IgnoresEarlier (send_literal_super events i n)
unfolding send_literal_super
ignores-send_literal_super events i n = search (ignoring, ignores-send_super, ignores-literal_constant) depth 18

pub ignores-single_extended : (p : ℕ → ℕ → Rule Step) → ((a : ℕ) (b : ℕ) → IgnoresEarlier (p a b)) → IgnoresEarlier (single_extended p)
unfolding single_extended
ignores-single_extended p f = search (ignoring, ignores-fetch, f) depth 18

pub ignores-double_extended : (p : ℕ → ℕ → Rule Step) → ((a : ℕ) (b : ℕ) → IgnoresEarlier (p a b)) → IgnoresEarlier (double_extended p)
unfolding double_extended
ignores-double_extended p f = search (ignoring, ignores-fetch, f) depth 20

pub ignores-tried_for : (events : List Line) (index n s : ℕ) → IgnoresEarlier (tried_for events index n s)
unfolding tried_for
ignores-tried_for events index n s = search (ignoring, ignores-set_arguments, ignores-tried, ignores-special_send) depth 18

pub ignores-arithmetic_send : (events : List Line) (s : ℕ) → IgnoresEarlier (arithmetic_send events s)
unfolding arithmetic_send
ignores-arithmetic_send events s = search (ignoring, ignores-stack, ignores-special_send, ignores-tried_for) depth 20

pub ignores-block_send : (events : List Line) (index n : ℕ) (classes : ℕ → Bool) (s : ℕ) → IgnoresEarlier (block_send events index n classes s)
unfolding block_send
ignores-block_send events index n classes s = search (ignoring, ignores-stack, ignores-special_send, ignores-tried_for) depth 22

-- each range has such a rule
AreRangesIgnoring : List Range → Type 0
AreRangesIgnoring [] = Unit {0}
AreRangesIgnoring (r ∷ rs) = ((i : ℕ) → IgnoresEarlier (r.rule i)) × AreRangesIgnoring rs

ignores-ruled : (ranges : List Range) (byte : ℕ) → AreRangesIgnoring ranges → IgnoresEarlier (ruled ranges byte)
unfolding AreRangesIgnoring
ignores-ruled [] byte f = ignores_halt _
ignores-ruled (r ∷ rs) byte f = ignores_pick (has_byte byte r) (r.rule (byte - r.first)) (ruled rs byte) (f.0 (byte - r.first)) (ignores-ruled rs byte f.1)

ruleset pushing = (ignores-push_of, ignores-push_known, ignores-push_number, ignores-push_receiver, ignores-push_active_context, ignores-duplicate_top, ignores-extended_push, ignores-receiver_variable, ignores-temporary, ignores-literal_constant, ignores-literal_variable)

ruleset storing = (ignores-store_and_pop, ignores-extended_store, ignores-extended_store_and_pop, ignores-store_receiver_variable, ignores-store_temporary, ignores-pop)

ruleset leaving = (ignores-then_next, ignores-return_of, ignores-return_from_block, ignores-pop_top, ignores-jump, ignores-jump_on, ignores-long_jump, ignores-long_jump_on)

ruleset sending = (ignores-single_extended, ignores-double_extended, ignores-send_literal, ignores-send_literal_super, ignores-arithmetic_send, ignores-special_send, ignores-tried_for, ignores-block_send)

bytecodes_ignore : (events : List Line) → AreRangesIgnoring (bytecodes events)
unfolding AreRangesIgnoring bytecodes
bytecodes_ignore events = search (ignoring, pushing, storing, leaving, sending) depth 80 fits 40000

ignores-bytecode : (events : List Line) (byte : ℕ) → IgnoresEarlier (bytecode events byte)
unfolding bytecode
ignores-bytecode events byte = ignores-ruled (bytecodes events) byte (bytecodes_ignore events)

-- ---- a start on a state

ignores-hold : (r : ℕ) (name : Option ℕ) → IgnoresEarlier (hold r name)
ignores-hold r None = ignores_done tt
ignores-hold r (Some n) = ignores_then _ (ignores_known n) (λ v. ignores_put_register r v)

pub ignores-restore : (state : State) → IgnoresEarlier (restore state)
unfolding restore
ignores-restore state = search (ignoring, ignores-hold) depth 24

pub ignores-begin : (state : State) → IgnoresEarlier (begin state)
unfolding begin
ignores-begin state = search (ignoring, ignores-start, ignores-restore) depth 18

-- ---- the cycle

pub ignores-count_bytecode : (before : ℕ) → IgnoresEarlier (count_bytecode before)
unfolding count_bytecode
ignores-count_bytecode before = search ignoring depth 18

pub ignores-step : (events : List Line) → IgnoresEarlier (step events)
unfolding step
ignores-step events = search (ignoring, ignores-fetch, ignores-bytecode) depth 22

pub ignores-turn : (events : List Line) → IgnoresEarlier (turn events)
unfolding turn
ignores-turn events = search (ignoring, ignores-check_switch, ignores-due, ignores-step) depth 20

pub ignores-cycle : (events : List Line) → IgnoresEarlier (cycle events)
unfolding cycle
ignores-cycle events = search (ignoring, ignores-count_bytecode, ignores-turn) depth 22

pub ignores-park_and_draw : IgnoresEarlier park_and_draw
unfolding park_and_draw
ignores-park_and_draw = search (ignoring, ignores-park, ignores-picture) depth 18
