-- The law of thinning, for the table of primitives, sends, the table of bytecodes and the cycle.
use Rattle.blue_model.specs.declared.event.Line.{Line}
use Rattle.blue_model.specs.BitBlt.{blit_primitives}
use Rattle.blue_model.specs.Devices.{device_primitives}
use Rattle.blue_model.proofs.DeviceLaws.{law-copy_bits, law-input_semaphore, law-input_word, law-keep_machine, law-tick_words, law-signal_at_tick, law-be_display, law-say_string, law-due, law-picture}
use Rattle.std.proofs.Common.{◌≡◌, ℕ, ℤ, ◌-◌, Bool, true, List, [], ◌∷◌, ◌++◌}
use Rattle.long_names.specs.declared.value.Value.{Value}
use Rattle.long_names.specs.Names.{is_known}
use Rattle.blue_model.specs.Machine.{Rule, ◌>>◌, done}
use Rattle.blue_model.specs.Bytecodes.{receiver_variable, temporary, literal_constant, literal_variable, store_receiver_variable, store_temporary, store_literal_variable, push_of, push_known, push_number, push_receiver, push_active_context, duplicate_top, store_top, store_and_pop, by_kind, extended_push, extended_store_of, extended_store, extended_store_and_pop, return_home, return_of, return_from_block, jump_where, jump_on, long_jump, long_jump_on, send_literal, send_literal_super, single_extended, double_extended, tried_for, arithmetic_send, block_send, Range, bytecodes, has_byte, ruled, bytecode}
use Rattle.blue_model.specs.Messages.{activate}
use Rattle.blue_model.specs.Processes.{process_primitives}
use Rattle.blue_model.specs.Control.{control_primitives, control_primitive}
use Rattle.blue_model.specs.Sends.{answer_field, execute_extended, execute_method, execute, send_from, send, send_super, special_send, cannot_return, must_be_boolean, return_to}
use Rattle.blue_model.specs.Cycle.{count_bytecode, step, turn, cycle, park_and_draw}
use Rattle.blue_model.specs.Alike.{Lost, IsKept, IsPlain, Lawful, AreLawful}
use Rattle.blue_model.specs.declared.answer.Answer.TheVariants.{Done}
use Rattle.blue_model.specs.declared.step.Step.{Step}
use Rattle.blue_model.specs.Trials.{Primitive, with_arguments, primitive_in}
use Rattle.blue_model.specs.Arithmetic.{integer_primitives}
use Rattle.blue_model.specs.LargeInts.{large_primitives}
use Rattle.blue_model.specs.Storage.{class, object_primitives}
use Rattle.blue_model.specs.Primitives.{primitive, then_next, tried}
use Rattle.blue_model.proofs.RuleLaws.{law-activate, law-arithmetic, law-at, law-at_end, law-at_put, law-back_with, law-block_copy, law-check_switch, law-class, law-comparison, law-equivalent, law-fetch, law-find_or_tell, law-flush_cache, law-hash, law-instance_variable_at, law-instance_variable_at_put, law-jump, law-large_arithmetic, law-large_comparison, law-large_shift, law-new, law-new_method, law-new_with_size, law-next, law-next_put, law-object_at_index, law-object_at_put, law-park, law-perform, law-perform_with_arguments, law-point, law-pop, law-pop_top, law-primitive_resume, law-primitive_signal, law-primitive_suspend, law-primitive_wait, law-push, law-put_stack, law-quit, law-set_arguments, law-size_of, law-stack, law-store_field, law-string_at, law-string_at_put, law-value, law-value_with_arguments, law-become}
use Rattle.blue_model.proofs.LawSteps.{lawful, then_plain, law_pick, law_halt, law_numbers, law_failed, law_part, law_where_true, done_plain}

-- ---- the table of primitives

-- each row has a lawful rule
ArePrimitivesLawful : Lost → List Primitive → Type 0
ArePrimitivesLawful w [] = Unit {0}
ArePrimitivesLawful w (p ∷ ps) = Lawful w IsPlain p.rule × ArePrimitivesLawful w ps

law-with_arguments : {w : Lost} (p : Primitive) → Lawful w IsPlain p.rule → Lawful w IsPlain (with_arguments p)
unfolding with_arguments
law-with_arguments {w} p f = then_plain _ law_numbers (λ cpu. law_where_true _ _ f)

law-primitive_in : {w : Lost} (ps : List Primitive) (index : ℕ) → ArePrimitivesLawful w ps → Lawful w IsPlain (primitive_in ps index)
unfolding ArePrimitivesLawful
law-primitive_in [] index f = law_failed
law-primitive_in (p ∷ ps) index f = law_pick _ _ _ (law-with_arguments p f.0) (law-primitive_in ps index f.1)

primitives_lawful : (w : Lost) → ArePrimitivesLawful w (integer_primitives ++ object_primitives)
unfolding ArePrimitivesLawful integer_primitives object_primitives
primitives_lawful w = search (law-arithmetic, law-comparison, law-point, law-at, law-at_put, law-size_of, law-string_at, law-string_at_put, law-next, law-next_put, law-at_end, law-object_at_index, law-object_at_put, law-new, law-new_with_size, law-new_method, law-instance_variable_at, law-instance_variable_at_put, law-hash, law-equivalent, law-become, law-class) depth 80 fits 40000

large_lawful : (w : Lost) → ArePrimitivesLawful w large_primitives
unfolding ArePrimitivesLawful large_primitives
large_lawful w = search (law-large_arithmetic, law-large_comparison, law-large_shift) depth 80 fits 40000

control_lawful : (w : Lost) → ArePrimitivesLawful w control_primitives
unfolding ArePrimitivesLawful control_primitives
control_lawful w = (law-block_copy, (law-value_with_arguments, (law-perform_with_arguments, (law-flush_cache, (law-quit, tt)))))

pub law-control_primitive : {w : Lost} (index : ℕ) → Lawful w IsPlain (control_primitive index)
unfolding control_primitive
law-control_primitive {w} index = law_pick _ _ _ law-value (law_pick _ _ _ law-perform (law-primitive_in _ index (control_lawful w)))

processes_lawful : (w : Lost) → ArePrimitivesLawful w process_primitives
unfolding ArePrimitivesLawful process_primitives
processes_lawful w = (law-primitive_signal, (law-primitive_wait, (law-primitive_resume, (law-primitive_suspend, tt))))

blits_lawful : (w : Lost) → ArePrimitivesLawful w blit_primitives
unfolding ArePrimitivesLawful blit_primitives
blits_lawful w = (law-copy_bits, tt)

devices_lawful : (w : Lost) (events : List Line) → ArePrimitivesLawful w (device_primitives events)
unfolding ArePrimitivesLawful device_primitives
devices_lawful w events = (law-input_semaphore, (law-input_word events, (law-keep_machine, (law-tick_words, (law-signal_at_tick, (law-be_display, (law-say_string, tt)))))))

pub law-primitive : {w : Lost} (events : List Line) (index : ℕ) → Lawful w IsPlain (primitive events index)
unfolding primitive
law-primitive {w} events index = law_pick _ _ _ (law-control_primitive index) (law_pick _ _ _ (law-primitive_in _ index (processes_lawful w)) (law_pick _ _ _ (law-primitive_in _ index (blits_lawful w)) (law_pick _ _ _ (law-primitive_in _ index (devices_lawful w events)) (law_pick _ _ _ (law-primitive_in _ index (large_lawful w)) (law-primitive_in _ index (primitives_lawful w))))))

pub law-then_next : {w : Lost} (p : Rule (Unit {0})) → Lawful w IsPlain p → Lawful w IsPlain (then_next p)
unfolding then_next
law-then_next {w} p f = then_plain _ f (λ _. done_plain _)

pub law-tried : {w : Lost} (events : List Line) (index : ℕ) (rest : Rule Step) → Lawful w IsPlain rest → Lawful w IsPlain (tried events index rest)
unfolding tried
law-tried {w} events index rest f = then_plain _ (law-primitive events index) (λ answer. law_pick _ _ _ f (done_plain _))

-- ---- sends

pub law-answer_field : {w : Lost} (i : ℕ) → Lawful w IsPlain (answer_field i)
unfolding answer_field
law-answer_field {w} i = search (lawful, law-stack, law-put_stack) depth 14

activated : {w : Lost} → Lawful w IsPlain (activate >> done Done)
activated {w} = then_plain _ law-activate (λ _. done_plain Done)

pub law-execute_extended : {w : Lost} (events : List Line) (performed : Bool) (method : Value) → IsKept w method → Lawful w IsPlain (execute_extended events performed method)
unfolding execute_extended
law-execute_extended {w} events performed method k = then_plain _ (law_part _ _ method k) (λ it. law_pick _ _ _ activated (then_plain _ (law-primitive _ _) (λ answer. law_pick _ _ _ activated (done_plain answer))))

pub law-execute_method : {w : Lost} (events : List Line) (performed : Bool) → Lawful w IsPlain (execute_method events performed)
unfolding execute_method
law-execute_method {w} events performed = search (lawful, law-answer_field, law-execute_extended, activated) depth 16

pub law-execute : {w : Lost} (events : List Line) → Lawful w IsPlain (execute events)
unfolding execute
law-execute {w} events = then_plain _ (law-execute_method _ _) (λ answer. law_pick _ _ _ (then_plain _ (law-execute_method _ _) (λ last. done_plain _)) (done_plain _))

pub law-send_from : {w : Lost} (events : List Line) (class selector : Value) (n : ℕ) → IsKept w class → IsKept w selector → Lawful w IsPlain (send_from events class selector n)
unfolding send_from
law-send_from {w} events class selector n k l = search (lawful, law-set_arguments, law-find_or_tell, law-execute) depth 14

pub law-send : {w : Lost} (events : List Line) (selector : Value) (n : ℕ) → IsKept w selector → Lawful w IsPlain (send events selector n)
unfolding send
law-send {w} events selector n k = search (lawful, law-stack, law-send_from) depth 12

pub law-send_super : {w : Lost} (events : List Line) (selector : Value) (n : ℕ) → IsKept w selector → Lawful w IsPlain (send_super events selector n)
unfolding send_super
law-send_super {w} events selector n k = search (lawful, law-stack, law-send_from) depth 16

pub law-special_send : {w : Lost} (events : List Line) (s : ℕ) → Lawful w IsPlain (special_send events s)
unfolding special_send
law-special_send {w} events s = search (lawful, law-send) depth 14

pub law-cannot_return : {w : Lost} (events : List Line) (v : Value) → IsKept w v → Lawful w IsPlain (cannot_return events v)
unfolding cannot_return
law-cannot_return {w} events v k = search (lawful, law-push, law-send) depth 14

pub law-must_be_boolean : {w : Lost} (events : List Line) (v : Value) → IsKept w v → Lawful w IsPlain (must_be_boolean events v)
unfolding must_be_boolean
law-must_be_boolean {w} events v k = search (lawful, law-push, law-send) depth 12

pub law-return_to : {w : Lost} (events : List Line) (context v : Value) → IsKept w context → IsKept w v → Lawful w IsPlain (return_to events context v)
unfolding return_to
law-return_to {w} events context v k l = search (lawful, law-cannot_return, law-back_with, law-then_next) depth 14

-- ---- bytecodes

pub law-receiver_variable : {w : Lost} (i : ℕ) → Lawful w (IsKept w) (receiver_variable i)
unfolding receiver_variable
law-receiver_variable {w} i = search lawful depth 12

pub law-temporary : {w : Lost} (i : ℕ) → Lawful w (IsKept w) (temporary i)
unfolding temporary
law-temporary {w} i = search lawful depth 12

pub law-literal_constant : {w : Lost} (i : ℕ) → Lawful w (IsKept w) (literal_constant i)
unfolding literal_constant
law-literal_constant {w} i = search lawful depth 12

pub law-literal_variable : {w : Lost} (i : ℕ) → Lawful w (IsKept w) (literal_variable i)
unfolding literal_variable
law-literal_variable {w} i = search (lawful, law-literal_constant) depth 12

pub law-store_receiver_variable : {w : Lost} (i : ℕ) (v : Value) → IsKept w v → Lawful w IsPlain (store_receiver_variable i v)
unfolding store_receiver_variable
law-store_receiver_variable {w} i v k = search (lawful, law-store_field) depth 12

pub law-store_temporary : {w : Lost} (i : ℕ) (v : Value) → IsKept w v → Lawful w IsPlain (store_temporary i v)
unfolding store_temporary
law-store_temporary {w} i v k = search (lawful, law-store_field) depth 12

pub law-store_literal_variable : {w : Lost} (i : ℕ) (v : Value) → IsKept w v → Lawful w IsPlain (store_literal_variable i v)
unfolding store_literal_variable
law-store_literal_variable {w} i v k = search (lawful, law-literal_constant, law-store_field) depth 12

pub law-push_of : {w : Lost} (p : Rule Value) → Lawful w (IsKept w) p → Lawful w IsPlain (push_of p)
unfolding push_of
law-push_of {w} p f = search (lawful, law-push) depth 12

pub law-push_known : {w : Lost} (n : ℕ) → is_known n ≡ true → Lawful w IsPlain (push_known n)
unfolding push_known
law-push_known {w} n e = search (lawful, law-push) depth 12

pub law-push_number : {w : Lost} (i : ℕ) → Lawful w IsPlain (push_number i)
unfolding push_number
law-push_number {w} i = search (lawful, law-push) depth 12

pub law-push_receiver : {w : Lost} → Lawful w IsPlain push_receiver
unfolding push_receiver
law-push_receiver {w} = search (lawful, law-push_of) depth 12

pub law-push_active_context : {w : Lost} → Lawful w IsPlain push_active_context
unfolding push_active_context
law-push_active_context {w} = search (lawful, law-push_of) depth 12

pub law-duplicate_top : {w : Lost} → Lawful w IsPlain duplicate_top
unfolding duplicate_top
law-duplicate_top {w} = search (lawful, law-push_of, law-stack) depth 12

pub law-store_top : {w : Lost} (p : Value → Rule (Unit {0})) → ((v : Value) → IsKept w v → Lawful w IsPlain (p v)) → Lawful w IsPlain (store_top p)
unfolding store_top
law-store_top {w} p f = search (lawful, law-stack) depth 12

pub law-store_and_pop : {w : Lost} (p : Value → Rule (Unit {0})) → ((v : Value) → IsKept w v → Lawful w IsPlain (p v)) → Lawful w IsPlain (store_and_pop p)
unfolding store_and_pop
law-store_and_pop {w} p f = search (lawful, law-store_top, law-pop) depth 12

pub law-by_kind : {w : Lost} {A : Type 0} {K : A → Type 0} (n : ℕ) (a b c d : Rule A) → Lawful w K a → Lawful w K b → Lawful w K c → Lawful w K d → Lawful w K (by_kind n a b c d)
unfolding by_kind
law-by_kind n a b c d f g h i = law_pick _ _ _ f (law_pick _ _ _ g (law_pick _ _ _ h i))

pub law-extended_push : {w : Lost} → Lawful w IsPlain extended_push
unfolding extended_push
law-extended_push {w} = search (lawful, law-fetch, law-push_of, law-by_kind, law-receiver_variable, law-temporary, law-literal_constant, law-literal_variable) depth 12

pub law-extended_store_of : {w : Lost} (n : ℕ) → Lawful w IsPlain (extended_store_of n)
unfolding extended_store_of
law-extended_store_of {w} n = search (lawful, law-by_kind, law-store_top, law-store_receiver_variable, law-store_temporary, law-store_literal_variable) depth 12

pub law-extended_store : {w : Lost} → Lawful w IsPlain extended_store
unfolding extended_store
law-extended_store {w} = search (lawful, law-fetch, law-extended_store_of) depth 12

pub law-extended_store_and_pop : {w : Lost} → Lawful w IsPlain extended_store_and_pop
unfolding extended_store_and_pop
law-extended_store_and_pop {w} = search (lawful, law-fetch, law-extended_store_of, law-pop) depth 12

pub law-return_home : {w : Lost} (events : List Line) (v : Value) → IsKept w v → Lawful w IsPlain (return_home events v)
unfolding return_home
law-return_home {w} events v k = search (lawful, law-return_to) depth 12

pub law-return_of : {w : Lost} (events : List Line) (p : Rule Value) → Lawful w (IsKept w) p → Lawful w IsPlain (return_of events p)
unfolding return_of
law-return_of {w} events p f = search (lawful, law-return_home) depth 12

pub law-return_from_block : {w : Lost} (events : List Line) → Lawful w IsPlain (return_from_block events)
unfolding return_from_block
law-return_from_block {w} events = search (lawful, law-pop_top, law-return_to) depth 12

pub law-jump_where : {w : Lost} (events : List Line) (taken passed : ℕ) (distance : ℤ) (v : Value) → IsKept w v → Lawful w IsPlain (jump_where events taken passed distance v)
unfolding jump_where
law-jump_where {w} events taken passed distance v k = search (lawful, law-jump, law-must_be_boolean, law-then_next) depth 12

pub law-jump_on : {w : Lost} (events : List Line) (taken passed : ℕ) (distance : ℤ) → Lawful w IsPlain (jump_on events taken passed distance)
unfolding jump_on
law-jump_on {w} events taken passed distance = search (lawful, law-pop_top, law-jump_where) depth 12

pub law-long_jump : {w : Lost} (i : ℕ) → Lawful w IsPlain (long_jump i)
unfolding long_jump
law-long_jump {w} i = search (lawful, law-fetch, law-jump) depth 12

pub law-long_jump_on : {w : Lost} (events : List Line) (taken passed i : ℕ) → Lawful w IsPlain (long_jump_on events taken passed i)
unfolding long_jump_on
law-long_jump_on {w} events taken passed i = search (lawful, law-fetch, law-jump_on) depth 12

pub law-send_literal : {w : Lost} (events : List Line) (i n : ℕ) → Lawful w IsPlain (send_literal events i n)
unfolding send_literal
law-send_literal {w} events i n = search (lawful, law-literal_constant, law-send) depth 12

pub law-send_literal_super : {w : Lost} (events : List Line) (i n : ℕ) → Lawful w IsPlain (send_literal_super events i n)
unfolding send_literal_super
law-send_literal_super {w} events i n = search (lawful, law-literal_constant, law-send_super) depth 12

pub law-single_extended : {w : Lost} (p : ℕ → ℕ → Rule Step) → ((i n : ℕ) → Lawful w IsPlain (p i n)) → Lawful w IsPlain (single_extended p)
unfolding single_extended
law-single_extended {w} p f = search (lawful, law-fetch, f) depth 12

pub law-double_extended : {w : Lost} (p : ℕ → ℕ → Rule Step) → ((i n : ℕ) → Lawful w IsPlain (p i n)) → Lawful w IsPlain (double_extended p)
unfolding double_extended
law-double_extended {w} p f = search (lawful, law-fetch, f) depth 12

pub law-tried_for : {w : Lost} (events : List Line) (index n s : ℕ) → Lawful w IsPlain (tried_for events index n s)
unfolding tried_for
law-tried_for {w} events index n s = search (lawful, law-set_arguments, law-tried, law-special_send) depth 12

pub law-arithmetic_send : {w : Lost} (events : List Line) (s : ℕ) → Lawful w IsPlain (arithmetic_send events s)
unfolding arithmetic_send
law-arithmetic_send {w} events s = search (lawful, law-stack, law-tried_for, law-special_send) depth 12

pub law-block_send : {w : Lost} (events : List Line) (index n : ℕ) (classes : ℕ → Bool) (s : ℕ) → Lawful w IsPlain (block_send events index n classes s)
unfolding block_send
law-block_send {w} events index n classes s = search (lawful, law-stack, law-tried_for, law-special_send) depth 12

-- ---- the table

pub law-ruled : {w : Lost} (ranges : List Range) (byte : ℕ) → AreLawful w ranges → Lawful w IsPlain (ruled ranges byte)
law-ruled {w} [] byte f = law_halt _
law-ruled {w} (r ∷ rs) byte f = law_pick (has_byte byte r) (r.rule (byte - r.first)) (ruled rs byte) (f.0 (byte - r.first)) (law-ruled rs byte f.1)

ruleset pushing = (law-push_of, law-push_known, law-push_number, law-push_receiver, law-push_active_context, law-duplicate_top, law-extended_push, law-receiver_variable, law-temporary, law-literal_constant, law-literal_variable)

ruleset storing = (law-store_and_pop, law-extended_store, law-extended_store_and_pop, law-store_receiver_variable, law-store_temporary, law-pop)

ruleset leaving = (law-then_next, law-return_of, law-return_from_block, law-pop_top, law-jump, law-jump_on, law-long_jump, law-long_jump_on)

ruleset sending = (law-single_extended, law-double_extended, law-send_literal, law-send_literal_super, law-arithmetic_send, law-special_send, law-tried_for, law-block_send)

bytecodes_lawful : (w : Lost) (events : List Line) → AreLawful w (bytecodes events)
unfolding bytecodes
bytecodes_lawful w events = search (lawful, pushing, storing, leaving, sending) depth 80 fits 40000

pub law-bytecode : {w : Lost} (events : List Line) (byte : ℕ) → Lawful w IsPlain (bytecode events byte)
unfolding bytecode
law-bytecode {w} events byte = law-ruled (bytecodes events) byte (bytecodes_lawful w events)

-- ---- the cycle

pub law-count_bytecode : {w : Lost} (before : ℕ) → Lawful w IsPlain (count_bytecode before)
unfolding count_bytecode
law-count_bytecode {w} before = search lawful depth 12

pub law-step : {w : Lost} (events : List Line) → Lawful w IsPlain (step events)
unfolding step
law-step {w} events = search (lawful, law-fetch, law-bytecode) depth 12

pub law-turn : {w : Lost} (events : List Line) → Lawful w IsPlain (turn events)
unfolding turn
law-turn {w} events = search (lawful, law-due, law-check_switch, law-step) depth 12

pub law-cycle : {w : Lost} (events : List Line) → Lawful w IsPlain (cycle events)
unfolding cycle
law-cycle {w} events = search (lawful, law-turn, law-count_bytecode) depth 14

pub law-park_and_draw : {w : Lost} → Lawful w IsPlain park_and_draw
unfolding park_and_draw
law-park_and_draw {w} = search (lawful, law-park, law-picture) depth 12
