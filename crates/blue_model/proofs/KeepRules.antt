-- The vault and the pins stay as they are through each rule below the table of primitives.
use Rattle.blue_model.specs.declared.event.Event.TheVariants as event
use Rattle.std.proofs.Common.{ℕ, ℤ, zero, suc, Bool, Option, Some, None, List, [], ◌∷◌, nat_lt, true, ◌≡◌, ◌∙◌, ap}
use Rattle.long_names.specs.declared.value.Value.TheVariants.{Int, Ref}
use Rattle.long_names.specs.declared.value.Value.{Value}
use Rattle.long_names.specs.State.{METHOD}
use Rattle.blue_model.specs.Machine.{Machine, Rule}
use Rattle.blue_model.specs.Contexts.{store_field, push, stack, pop, pop_top, byte_of, fetch, jump, load, store_registers, enter, nil_context, back, back_with, scheduler, active_process}
use Rattle.blue_model.specs.Lookup.{method_at, find_in, found_or, find_from, put_found, find}
use Rattle.blue_model.specs.Messages.{arguments_of, set_arguments, put_stack, copy_argument, make_arguments, make_message, create_message, tell, find_or_tell, pass, fill_context, make_context, activate}
use Rattle.blue_model.specs.Processes.{link_behind, add, empty_list, shorten, take, process_lists, sleep, wake_among, wake, current_process, transfer, resume, switch, check_switch, suspend_active, add_signal, signal, sleep_at, wait, primitive_signal, primitive_wait, has_list, primitive_resume, primitive_suspend}
use Rattle.blue_model.specs.Control.{make_block, block_copy, pointer_for, block_start, enter_block, pass_argument, value, array_length, pass_element, value_with_arguments, taking, method_for, execute_found, move_down, perform_with, perform, has_room, push_element, perform_with_arguments, flush_cache, quit}
use Rattle.blue_model.specs.declared.answer.Answer.{Answer}
use Rattle.blue_model.specs.declared.spot.Spot.{Spot}
use Rattle.blue_model.specs.declared.spot.Spot.TheVariants.{Field, Word, Byte}
use Rattle.blue_model.specs.Trials.{answer, boolean}
use Rattle.blue_model.specs.Arithmetic.{of_numbers, arithmetic, comparison, make_point, point, shifted}
use Rattle.blue_model.specs.LargeInts.{large_operand, put_bytes, make_large_integer, large_answer, of_large, of_shift, answer_result, large_result, large_arithmetic, large_comparison, large_shift}
use Rattle.blue_model.specs.Elements.{index_argument, make_large, number_object, specification_of, fixed_of, spot_at, element_of, variable_of, element_at, put_element, character_of, byte_of_character}
use Rattle.blue_model.specs.Storage.{at, at_put, size_of, string_at, string_at_put, streamed_by, streamed, of_stream, next_spot, advance, streamed_element, next, put_streamed, next_put, at_end, method_object, object_at_index, object_at_put, new, new_with_size, new_method, instance_variable_at, instance_variable_at_put, hash, equivalent, class, become}
use Rattle.blue_model.specs.Forms.{Form, Extent, count_of, form_where, form_of}
use Rattle.blue_model.specs.BitBlt.{Asked, form_or_nil, words_or, copy, copy_bits}
use Rattle.blue_model.specs.Devices.{semaphore_or_nil, put_semaphore, set_input, input_semaphore, take_word, input_word, keep_machine, put_tick, tick_words, set_timer, signal_at_tick, show_form, be_display, string_text, say_string, join_queue, take_event, take_line, take_lines, events_due, fire, check_timer, due}
use Rattle.blue_model.specs.declared.event.Event.{Event}
use Rattle.blue_model.specs.declared.event.Line.{Line}
use Rattle.blue_model.specs.Alike.{IsPlain}
use Rattle.blue_model.proofs.BeginLaws.{load_comes}
use Rattle.blue_model.proofs.KeepSteps.{keeps_plain, keeps_done, keeps_pick, keeps_numbers, keeps_put_register, keeps_store, keeps_store_word, keeps_store_byte, keeps_put_words, keeps_part, keeps_peek, keeps_where_some, keeps_try, answer_done, answer_quit, keep_where, keeping, Kept, Keeps, MayKeep}

-- ---- contexts

pub keeps-store_field : {w : Kept} (of : Value) (i : ℕ) (v : Value) → Keeps w IsPlain (store_field of i v)
unfolding store_field
keeps-store_field {w} of i v = search keeping depth 12

pub keeps-push : {w : Kept} (v : Value) → Keeps w IsPlain (push v)
unfolding push
keeps-push {w} v = search (keeping, keeps-store_field) depth 14

pub keeps-stack : {w : Kept} (depth : ℕ) → Keeps w IsPlain (stack depth)
unfolding stack
keeps-stack {w} depth = search keeping depth 12

pub keeps-pop : {w : Kept} (n : ℕ) → Keeps w IsPlain (pop n)
unfolding pop
keeps-pop {w} n = search keeping depth 12

pub keeps-pop_top : {w : Kept} → Keeps w IsPlain pop_top
unfolding pop_top
keeps-pop_top {w} = search (keeping, keeps-stack, keeps-pop) depth 12

pub keeps-byte_of : {w : Kept} (ip : ℤ) (method : Value) → Keeps w IsPlain (byte_of ip method)
unfolding byte_of
keeps-byte_of {w} ip method = search keeping depth 12

pub keeps-fetch : {w : Kept} → Keeps w IsPlain fetch
unfolding fetch
keeps-fetch {w} = search (keeping, keeps-byte_of) depth 12

pub keeps-jump : {w : Kept} (distance : ℤ) → Keeps w IsPlain (jump distance)
unfolding jump
keeps-jump {w} distance = search (keeping, keeps-byte_of) depth 12

-- a load makes the fact of registers and slots
pub keeps-load : {w : Kept} (context : Value) → Keeps w IsPlain (load context)
keeps-load {w} context = record { keeps = λ m s a log i e. (record { vault = ap (λ (x : Machine). x.cpu.vault) ((load_comes context).to tt s log e).2 ∙ i.vault; pins = w.loads context m s log e }, record {}) }

pub keeps-store_registers : {w : Kept} → Keeps w IsPlain store_registers
unfolding store_registers
keeps-store_registers {w} = search (keeping, keeps-store_field) depth 16

pub keeps-enter : {w : Kept} (context : Value) → Keeps w IsPlain (enter context)
unfolding enter
keeps-enter {w} context = search (keeping, keeps-store_registers, keeps-load) depth 12

pub keeps-nil_context : {w : Kept} → Keeps w IsPlain nil_context
unfolding nil_context
keeps-nil_context {w} = search (keeping, keeps-store_field) depth 12

pub keeps-back : {w : Kept} (context : Value) → Keeps w IsPlain (back context)
unfolding back
keeps-back {w} context = search (keeping, keeps-nil_context, keeps-load) depth 12

pub keeps-back_with : {w : Kept} (context v : Value) → Keeps w IsPlain (back_with context v)
unfolding back_with
keeps-back_with {w} context v = search (keeping, keeps-back, keeps-push) depth 12

pub keeps-scheduler : {w : Kept} → Keeps w IsPlain scheduler
unfolding scheduler
keeps-scheduler {w} = search keeping depth 12

pub keeps-active_process : {w : Kept} → Keeps w IsPlain active_process
unfolding active_process
keeps-active_process {w} = search (keeping, keeps-scheduler) depth 12

-- ---- lookup

pub keeps-method_at : {w : Kept} (dictionary : Value) (place : Option ℕ) → Keeps w IsPlain (method_at dictionary place)
unfolding method_at
keeps-method_at {w} dictionary None = search keeping depth 12
keeps-method_at {w} dictionary (Some place) = search keeping depth 12

pub keeps-find_in : {w : Kept} (selector class : Value) → Keeps w IsPlain (find_in selector class)
unfolding find_in
keeps-find_in {w} selector class = search (keeping, keeps-method_at) depth 14

pub keeps-found_or : {w : Kept} (o : Option Value) (rest : Rule (Option Value)) → Keeps w IsPlain rest → Keeps w IsPlain (found_or o rest)
unfolding found_or
keeps-found_or None rest f = f
keeps-found_or (Some v) rest f = keeps_done (Some v)

pub keeps-find_from : {w : Kept} (n : ℕ) (selector class : Value) → Keeps w IsPlain (find_from n selector class)
unfolding find_from
keeps-find_from {w} zero selector class = search keeping depth 12
keeps-find_from {w} (suc n) selector class = let next : (superclass : Value) → Keeps w IsPlain (find_from n selector superclass) = λ superclass. keeps-find_from {w = w} n selector superclass in search (keeping, keeps-find_in, keeps-found_or, next) depth 12

pub keeps-put_found : {w : Kept} (o : Option Value) → Keeps w IsPlain (put_found o)
unfolding put_found
keeps-put_found {w} None = search keeping depth 12
keeps-put_found {w} (Some v) = search keeping depth 12

pub keeps-find : {w : Kept} (class : Value) → Keeps w IsPlain (find class)
unfolding find
keeps-find {w} class = search (keeping, keeps-find_from, keeps-put_found) depth 12

-- ---- messages

pub keeps-set_arguments : {w : Kept} (n : ℕ) → Keeps w IsPlain (set_arguments n)
unfolding set_arguments
keeps-set_arguments {w} n = search keeping depth 12

pub keeps-copy_argument : {w : Kept} (n : ℕ) (array : Value) (i : ℕ) → Keeps w IsPlain (copy_argument n array i)
unfolding copy_argument
keeps-copy_argument {w} n array i = search (keeping, keeps-stack, keeps-store_field) depth 12

pub keeps-make_arguments : {w : Kept} (n : ℕ) → Keeps w IsPlain (make_arguments n)
unfolding make_arguments
keeps-make_arguments {w} n = search (keeping, keeps-copy_argument) depth 16

pub keeps-make_message : {w : Kept} (selector array : Value) → Keeps w IsPlain (make_message selector array)
unfolding make_message
keeps-make_message {w} selector array = search (keeping, keeps-store_field) depth 16

pub keeps-create_message : {w : Kept} (selector : Value) (n : ℕ) → Keeps w IsPlain (create_message selector n)
unfolding create_message
keeps-create_message {w} selector n = search (keeping, keeps-make_arguments, keeps-make_message, keeps-pop, keeps-push) depth 16

pub keeps-tell : {w : Kept} (class selector : Value) → Keeps w IsPlain (tell class selector)
unfolding tell
keeps-tell {w} class selector = search (keeping, keeps-create_message, keeps-set_arguments, keeps-find) depth 20

pub keeps-find_or_tell : {w : Kept} (class : Value) → Keeps w IsPlain (find_or_tell class)
unfolding find_or_tell
keeps-find_or_tell {w} class = search (keeping, keeps-tell, keeps-find) depth 16

pub keeps-pass : {w : Kept} (n len : ℕ) (context : Value) (k : ℕ) → Keeps w IsPlain (pass n len context k)
unfolding pass
keeps-pass {w} n len context k = search (keeping, keeps-stack, keeps-store_field) depth 12

pub keeps-fill_context : {w : Kept} (context method : Value) (header : ℤ) → Keeps w IsPlain (fill_context context method header)
unfolding fill_context
keeps-fill_context {w} context method header = search (keeping, keeps-store_field) depth 16

pub keeps-make_context : {w : Kept} (method : Value) (header : ℤ) (n : ℕ) → Keeps w IsPlain (make_context method header n)
unfolding make_context
keeps-make_context {w} method header n = search (keeping, keeps-fill_context, keeps-pass) depth 16

pub keeps-activate : {w : Kept} → Keeps w IsPlain activate
unfolding activate
keeps-activate {w} = search (keeping, keeps-make_context, keeps-pop, keeps-enter) depth 16

pub keeps-put_stack : {w : Kept} (depth : ℕ) (v : Value) → Keeps w IsPlain (put_stack depth v)
unfolding put_stack
keeps-put_stack {w} depth v = search (keeping, keeps-store_field) depth 16

pub keeps-arguments_of : {w : Kept} (method : Value) → Keeps w IsPlain (arguments_of method)
unfolding arguments_of
keeps-arguments_of {w} method = search keeping depth 14

-- ---- primitives

pub keeps-answer : {w : Kept} (n : ℕ) (v : Value) → Keeps w (MayKeep w) (answer n v)
unfolding answer
keeps-answer {w} n v = search (keeping, keeps-pop, keeps-push) depth 12

pub keeps-boolean : {w : Kept} (b : Bool) → Keeps w IsPlain (boolean b)
unfolding boolean
keeps-boolean {w} b = search keeping depth 12

pub keeps-of_numbers : {w : Kept} (p : ℤ → ℤ → Rule Answer) → ((a b : ℤ) → Keeps w (MayKeep w) (p a b)) → Keeps w (MayKeep w) (of_numbers p)
unfolding of_numbers
keeps-of_numbers {w} p f = search (keeping, keeps-stack, f) depth 14

pub keeps-arithmetic : {w : Kept} (f : ℤ → ℤ → Option ℤ) → Keeps w (MayKeep w) (arithmetic f)
unfolding arithmetic
keeps-arithmetic {w} f = search (keeping, keeps-of_numbers, keeps-answer) depth 14

pub keeps-comparison : {w : Kept} (f : ℤ → ℤ → Bool) → Keeps w (MayKeep w) (comparison f)
unfolding comparison
keeps-comparison {w} f = search (keeping, keeps-of_numbers, keeps-boolean, keeps-answer) depth 14

pub keeps-make_point : {w : Kept} (x y : ℤ) → Keeps w IsPlain (make_point x y)
unfolding make_point
keeps-make_point {w} x y = search (keeping, keeps-store_field) depth 16

pub keeps-point : {w : Kept} → Keeps w (MayKeep w) point
unfolding point
keeps-point {w} = search (keeping, keeps-of_numbers, keeps-make_point, keeps-answer) depth 14

pub keeps-index_argument : {w : Kept} (v : Value) → Keeps w IsPlain (index_argument v)
unfolding index_argument
keeps-index_argument (Int z) = keeps_done (Some z)
keeps-index_argument (Ref n) = keeps_peek _ (Ref n)

pub keeps-large_operand : {w : Kept} (v : Value) → Keeps w IsPlain (large_operand v)
unfolding large_operand
keeps-large_operand (Int z) = keeps_done (Some z)
keeps-large_operand (Ref n) = keeps_peek _ (Ref n)

pub keeps-put_bytes : {w : Kept} (v : Value) (bytes : List ℕ) → Keeps w IsPlain (put_bytes v bytes)
unfolding put_bytes
keeps-put_bytes {w} v bytes = search keeping depth 12

pub keeps-make_large_integer : {w : Kept} (z : ℤ) → Keeps w IsPlain (make_large_integer z)
unfolding make_large_integer
keeps-make_large_integer {w} z = search (keeping, keeps-put_bytes) depth 16

pub keeps-large_answer : {w : Kept} (z : ℤ) → Keeps w IsPlain (large_answer z)
unfolding large_answer
keeps-large_answer {w} z = search (keeping, keeps-make_large_integer) depth 12

pub keeps-of_large : {w : Kept} (p : ℤ → ℤ → Rule Answer) → ((a b : ℤ) → Keeps w (MayKeep w) (p a b)) → Keeps w (MayKeep w) (of_large p)
unfolding of_large
keeps-of_large {w} p f = search (keeping, keeps-stack, keeps-large_operand, f) depth 14

pub keeps-of_shift : {w : Kept} (p : ℤ → ℤ → Rule Answer) → ((a b : ℤ) → Keeps w (MayKeep w) (p a b)) → Keeps w (MayKeep w) (of_shift p)
unfolding of_shift
keeps-of_shift {w} p f = search (keeping, keeps-stack, keeps-large_operand, f) depth 14

pub keeps-answer_result : {w : Kept} (result : Option ℤ) → Keeps w (MayKeep w) (answer_result result)
unfolding answer_result
keeps-answer_result {w} result = search (keeping, keeps-large_answer, keeps-answer) depth 14

pub keeps-large_arithmetic : {w : Kept} (f : ℤ → ℤ → Option ℤ) → Keeps w (MayKeep w) (large_arithmetic f)
unfolding large_arithmetic
keeps-large_arithmetic f = keeps-of_large _ (λ a b. keeps-answer_result (large_result f a b))

pub keeps-large_comparison : {w : Kept} (f : ℤ → ℤ → Bool) → Keeps w (MayKeep w) (large_comparison f)
unfolding large_comparison
keeps-large_comparison {w} f = search (keeping, keeps-of_large, keeps-boolean, keeps-answer) depth 14

pub keeps-large_shift : {w : Kept} → Keeps w (MayKeep w) large_shift
unfolding large_shift
keeps-large_shift = keeps-of_shift _ (λ a b. keeps-answer_result (large_result shifted a b))

pub keeps-make_large : {w : Kept} (n : ℕ) → Keeps w IsPlain (make_large n)
unfolding make_large
keeps-make_large {w} n = search keeping depth 16

pub keeps-number_object : {w : Kept} (n : ℕ) → Keeps w IsPlain (number_object n)
unfolding number_object
keeps-number_object {w} n = search (keeping, keeps-make_large) depth 12

pub keeps-specification_of : {w : Kept} (v : Value) → Keeps w IsPlain (specification_of v)
unfolding specification_of
keeps-specification_of {w} v = search keeping depth 12

pub keeps-fixed_of : {w : Kept} (v : Value) → Keeps w IsPlain (fixed_of v)
unfolding fixed_of
keeps-fixed_of {w} v = search (keeping, keeps-specification_of) depth 12

pub keeps-spot_at : {w : Kept} (v : Value) (e : Option ℕ) → Keeps w IsPlain (spot_at v e)
keeps-spot_at v None = keeps_done None
keeps-spot_at v (Some e) = keeps_peek _ v

pub keeps-element_of : {w : Kept} (v : Value) (i : ℤ) → Keeps w IsPlain (element_of v i)
unfolding element_of
keeps-element_of {w} v i = search (keeping, keeps-fixed_of, keeps-spot_at) depth 12

pub keeps-variable_of : {w : Kept} (v : Value) (i : ℤ) → Keeps w IsPlain (variable_of v i)
unfolding variable_of
keeps-variable_of {w} v i = search keeps-spot_at depth 12

pub keeps-element_at : {w : Kept} (v : Value) (spot : Spot) → Keeps w IsPlain (element_at v spot)
keeps-element_at {w} v (Field i) = search keeping depth 12
keeps-element_at {w} v (Word i) = search (keeping, keeps-number_object) depth 12
keeps-element_at {w} v (Byte i) = search (keeping, keeps-number_object) depth 12

pub keeps-put_element : {w : Kept} (v : Value) (spot : Spot) (x : Value) (rest : Rule Answer) → Keeps w (MayKeep w) rest → Keeps w (MayKeep w) (put_element v spot x rest)
keeps-put_element v (Field i) x rest f = keeps_plain (λ _. rest) (keeps_store v i x) (λ _. f)
keeps-put_element v (Word i) x rest f = keeps_try _ (keeps-index_argument x) (λ z. keeps_where_some _ _ (λ n. keeps_plain (λ _. rest) (keeps_store_word v i n) (λ _. f)))
keeps-put_element v (Byte i) x rest f = keeps_where_some _ _ (λ n. keeps_plain (λ _. rest) (keeps_store_byte v i n) (λ _. f))

pub keeps-character_of : {w : Kept} (byte : ℕ) → Keeps w IsPlain (character_of byte)
unfolding character_of
keeps-character_of {w} byte = search keeping depth 12

pub keeps-byte_of_character : {w : Kept} (v : Value) → Keeps w IsPlain (byte_of_character v)
unfolding byte_of_character
keeps-byte_of_character {w} v = search keeping depth 12

ruleset elements = (keeps-index_argument, keeps-number_object, keeps-specification_of, keeps-fixed_of, keeps-element_of, keeps-variable_of, keeps-element_at, keeps-put_element, keeps-character_of, keeps-byte_of_character, keeps-boolean, keeps-answer, keeps-stack, keeps-store_field)

pub keeps-at : {w : Kept} → Keeps w (MayKeep w) at
unfolding at
keeps-at {w} = search (keeping, elements) depth 16

pub keeps-at_put : {w : Kept} → Keeps w (MayKeep w) at_put
unfolding at_put
keeps-at_put {w} = search (keeping, elements) depth 16

pub keeps-size_of : {w : Kept} → Keeps w (MayKeep w) size_of
unfolding size_of
keeps-size_of {w} = search (keeping, elements) depth 16

pub keeps-string_at : {w : Kept} → Keeps w (MayKeep w) string_at
unfolding string_at
keeps-string_at {w} = search (keeping, elements) depth 18

pub keeps-string_at_put : {w : Kept} → Keeps w (MayKeep w) string_at_put
unfolding string_at_put
keeps-string_at_put {w} = search (keeping, elements) depth 20

pub keeps-streamed : {w : Kept} (v : Value) → Keeps w IsPlain (streamed v)
unfolding streamed streamed_by
keeps-streamed {w} v = search keeping depth 14

pub keeps-of_stream : {w : Kept} (limit : ℕ) (stream : Value) (p : Value → Bool → ℕ → ℤ → Rule Answer) → ((array : Value) (text : Bool) (index : ℕ) (bound : ℤ) → Keeps w (MayKeep w) (p array text index bound)) → Keeps w (MayKeep w) (of_stream limit stream p)
unfolding of_stream
keeps-of_stream {w} limit stream p f = search (keeping, keeps-streamed, f) depth 16

pub keeps-next_spot : {w : Kept} (array : Value) (index : ℕ) (bound : ℤ) (p : Spot → Rule Answer) → ((spot : Spot) → Keeps w (MayKeep w) (p spot)) → Keeps w (MayKeep w) (next_spot array index bound p)
unfolding next_spot
keeps-next_spot {w} array index bound p f = search (keeping, elements, f) depth 14

pub keeps-advance : {w : Kept} (stream : Value) (index : ℕ) → Keeps w IsPlain (advance stream index)
unfolding advance
keeps-advance {w} stream index = search (keeping, keeps-store_field) depth 12

pub keeps-streamed_element : {w : Kept} (array : Value) (text : Bool) (spot : Spot) (p : Value → Rule Answer) → ((v : Value) → Keeps w (MayKeep w) (p v)) → Keeps w (MayKeep w) (streamed_element array text spot p)
unfolding streamed_element
keeps-streamed_element {w} array text spot p f = search (keeping, elements, f) depth 16

pub keeps-put_streamed : {w : Kept} (array : Value) (text : Bool) (spot : Spot) (v : Value) (rest : Rule Answer) → Keeps w (MayKeep w) rest → Keeps w (MayKeep w) (put_streamed array text spot v rest)
unfolding put_streamed
keeps-put_streamed array text spot v rest f = keeps_pick text _ _ (keeps_try _ (keeps-byte_of_character v) (λ byte. keeps-put_element array spot _ rest f)) (keeps-put_element array spot v rest f)

ruleset streams = (keeps-of_stream, keeps-next_spot, keeps-advance, keeps-streamed_element, keeps-put_streamed)

pub keeps-next : {w : Kept} → Keeps w (MayKeep w) next
unfolding next
keeps-next {w} = search (keeping, elements, streams) depth 20

pub keeps-next_put : {w : Kept} → Keeps w (MayKeep w) next_put
unfolding next_put
keeps-next_put {w} = search (keeping, elements, streams) depth 20

pub keeps-at_end : {w : Kept} → Keeps w (MayKeep w) at_end
unfolding at_end
keeps-at_end {w} = search (keeping, elements, streams) depth 20

pub keeps-method_object : {w : Kept} (method : Value) (header : ℤ) (n : ℕ) → Keeps w (MayKeep w) (method_object method header n)
keeps-method_object {w} method header n = search (keeping, elements) depth 14

pub keeps-object_at_index : {w : Kept} → Keeps w (MayKeep w) object_at_index
unfolding object_at_index
keeps-object_at_index {w} = search (keeping, elements, keeps-method_object) depth 18

pub keeps-object_at_put : {w : Kept} → Keeps w (MayKeep w) object_at_put
unfolding object_at_put
keeps-object_at_put {w} = search (keeping, elements) depth 20

pub keeps-new : {w : Kept} → Keeps w (MayKeep w) new
unfolding new
keeps-new {w} = search (keeping, elements) depth 16

pub keeps-new_with_size : {w : Kept} → Keeps w (MayKeep w) new_with_size
unfolding new_with_size
keeps-new_with_size {w} = search (keeping, elements) depth 20

pub keeps-new_method : {w : Kept} → Keeps w (MayKeep w) new_method
unfolding new_method
keeps-new_method {w} = search (keeping, elements) depth 20

pub keeps-instance_variable_at : {w : Kept} → Keeps w (MayKeep w) instance_variable_at
unfolding instance_variable_at
keeps-instance_variable_at {w} = search (keeping, elements) depth 18

pub keeps-instance_variable_at_put : {w : Kept} → Keeps w (MayKeep w) instance_variable_at_put
unfolding instance_variable_at_put
keeps-instance_variable_at_put {w} = search (keeping, elements) depth 20

pub keeps-hash : {w : Kept} → Keeps w (MayKeep w) hash
unfolding hash
keeps-hash {w} = search (keeping, elements) depth 14

pub keeps-become : {w : Kept} → Keeps w (MayKeep w) become
unfolding become
keeps-become {w} = search (keeping, elements, keeps-stack, keeps-pop) depth 20

pub keeps-equivalent : {w : Kept} → Keeps w (MayKeep w) equivalent
unfolding equivalent
keeps-equivalent {w} = search (keeping, elements) depth 14

pub keeps-class : {w : Kept} → Keeps w (MayKeep w) class
unfolding class
keeps-class {w} = search (keeping, elements) depth 14

-- ---- processes

pub keeps-link_behind : {w : Kept} (process list : Value) → Keeps w IsPlain (link_behind process list)
unfolding link_behind
keeps-link_behind {w} process list = search (keeping, keeps-store_field) depth 12

pub keeps-add : {w : Kept} (process list : Value) → Keeps w IsPlain (add process list)
unfolding add
keeps-add {w} process list = search (keeping, keeps-store_field, keeps-link_behind) depth 14

pub keeps-empty_list : {w : Kept} (list : Value) → Keeps w IsPlain (empty_list list)
unfolding empty_list
keeps-empty_list {w} list = search (keeping, keeps-store_field) depth 12

pub keeps-shorten : {w : Kept} (list first : Value) → Keeps w IsPlain (shorten list first)
unfolding shorten
keeps-shorten {w} list first = search (keeping, keeps-store_field) depth 12

pub keeps-take : {w : Kept} (list : Value) → Keeps w IsPlain (take list)
unfolding take
keeps-take {w} list = search (keeping, keeps-store_field, keeps-empty_list, keeps-shorten) depth 16

pub keeps-process_lists : {w : Kept} → Keeps w IsPlain process_lists
unfolding process_lists
keeps-process_lists {w} = search (keeping, keeps-scheduler) depth 12

pub keeps-sleep : {w : Kept} (process : Value) → Keeps w IsPlain (sleep process)
unfolding sleep
keeps-sleep {w} process = search (keeping, keeps-process_lists, keeps-add) depth 16

pub keeps-wake_among : {w : Kept} (n : ℕ) (lists : Value) → Keeps w IsPlain (wake_among n lists)
unfolding wake_among
keeps-wake_among {w} zero lists = search keeping depth 12
keeps-wake_among {w} (suc n) lists = keeps_plain _ (keeps_part _ _ lists) (λ list. keeps_plain _ (keeps_part _ _ list) (λ first. keeps_pick _ _ _ (keeps-wake_among {w = w} n lists) (keeps-take list)))

pub keeps-wake : {w : Kept} → Keeps w IsPlain wake
unfolding wake
keeps-wake {w} = search (keeping, keeps-process_lists, keeps-wake_among) depth 14

pub keeps-current_process : {w : Kept} → Keeps w IsPlain current_process
unfolding current_process
keeps-current_process {w} = search (keeping, keeps-active_process) depth 12

pub keeps-transfer : {w : Kept} (process : Value) → Keeps w IsPlain (transfer process)
unfolding transfer
keeps-transfer {w} process = search keeping depth 12

pub keeps-resume : {w : Kept} (process : Value) → Keeps w IsPlain (resume process)
unfolding resume
keeps-resume {w} process = search (keeping, keeps-current_process, keeps-sleep, keeps-transfer) depth 16

pub keeps-switch : {w : Kept} → Keeps w IsPlain switch
unfolding switch
keeps-switch {w} = search (keeping, keeps-scheduler, keeps-store_field, keeps-enter) depth 24 fits 5000

pub keeps-check_switch : {w : Kept} → Keeps w IsPlain check_switch
unfolding check_switch
keeps-check_switch {w} = search (keeping, keeps-switch) depth 12

pub keeps-suspend_active : {w : Kept} → Keeps w IsPlain suspend_active
unfolding suspend_active
keeps-suspend_active {w} = search (keeping, keeps-wake, keeps-transfer) depth 12

pub keeps-add_signal : {w : Kept} (semaphore : Value) → Keeps w IsPlain (add_signal semaphore)
unfolding add_signal
keeps-add_signal {w} semaphore = search (keeping, keeps-store_field) depth 12

pub keeps-signal : {w : Kept} (semaphore : Value) → Keeps w IsPlain (signal semaphore)
unfolding signal
keeps-signal {w} semaphore = search (keeping, keeps-add_signal, keeps-take, keeps-resume) depth 14

pub keeps-sleep_at : {w : Kept} (semaphore : Value) → Keeps w IsPlain (sleep_at semaphore)
unfolding sleep_at
keeps-sleep_at {w} semaphore = search (keeping, keeps-current_process, keeps-add, keeps-suspend_active) depth 14

pub keeps-wait : {w : Kept} (semaphore : Value) → Keeps w IsPlain (wait semaphore)
unfolding wait
keeps-wait {w} semaphore = search (keeping, keeps-store_field, keeps-sleep_at) depth 14

pub keeps-primitive_signal : {w : Kept} → Keeps w (MayKeep w) primitive_signal
unfolding primitive_signal
keeps-primitive_signal {w} = search (keeping, keeps-stack, keeps-signal) depth 16

pub keeps-primitive_wait : {w : Kept} → Keeps w (MayKeep w) primitive_wait
unfolding primitive_wait
keeps-primitive_wait {w} = search (keeping, keeps-stack, keeps-wait) depth 16

pub keeps-has_list : {w : Kept} (priority : ℤ) → Keeps w IsPlain (has_list priority)
unfolding has_list
keeps-has_list {w} priority = search (keeping, keeps-process_lists) depth 12

pub keeps-primitive_resume : {w : Kept} → Keeps w (MayKeep w) primitive_resume
unfolding primitive_resume
keeps-primitive_resume {w} = search (keeping, keeps-stack, keeps-has_list, keeps-resume) depth 18

pub keeps-primitive_suspend : {w : Kept} → Keeps w (MayKeep w) primitive_suspend
unfolding primitive_suspend
keeps-primitive_suspend {w} = search (keeping, keeps-stack, keeps-current_process, keeps-put_stack, keeps-suspend_active) depth 20

-- ---- blocks and performs

pub keeps-make_block : {w : Kept} (home : Value) (len n : ℕ) → Keeps w IsPlain (make_block home len n)
unfolding make_block
keeps-make_block {w} home len n = search (keeping, keeps-store_field) depth 24 fits 5000

pub keeps-block_copy : {w : Kept} → Keeps w (MayKeep w) block_copy
unfolding block_copy
keeps-block_copy {w} = search (keeping, keeps-stack, keeps-make_block, keeps-answer) depth 20

pub keeps-pointer_for : {w : Kept} (block : Value) (n : ℕ) → Keeps w IsPlain (pointer_for block n)
unfolding pointer_for
keeps-pointer_for {w} block n = search keeping depth 14

pub keeps-block_start : {w : Kept} (block : Value) (n : ℕ) → Keeps w IsPlain (block_start block n)
unfolding block_start
keeps-block_start {w} block n = search (keeping, keeps-pointer_for) depth 14

pub keeps-enter_block : {w : Kept} (block : Value) (n : ℕ) (ip : ℤ) → Keeps w (MayKeep w) (enter_block block n ip)
unfolding enter_block
keeps-enter_block {w} block n ip = search (keeping, keeps-store_field, keeps-enter) depth 16

pub keeps-pass_argument : {w : Kept} (n : ℕ) (block : Value) (k : ℕ) → Keeps w IsPlain (pass_argument n block k)
unfolding pass_argument
keeps-pass_argument {w} n block k = search (keeping, keeps-stack, keeps-store_field) depth 12

pub keeps-value : {w : Kept} → Keeps w (MayKeep w) value
unfolding value
keeps-value {w} = search (keeping, keeps-stack, keeps-block_start, keeps-pass_argument, keeps-pop, keeps-enter_block) depth 20

pub keeps-array_length : {w : Kept} (array : Value) → Keeps w IsPlain (array_length array)
unfolding array_length
keeps-array_length {w} array = search keeping depth 12

pub keeps-pass_element : {w : Kept} (array block : Value) (k : ℕ) → Keeps w IsPlain (pass_element array block k)
unfolding pass_element
keeps-pass_element {w} array block k = search (keeping, keeps-store_field) depth 12

pub keeps-value_with_arguments : {w : Kept} → Keeps w (MayKeep w) value_with_arguments
unfolding value_with_arguments
keeps-value_with_arguments {w} = search (keeping, keeps-stack, keeps-array_length, keeps-block_start, keeps-pass_element, keeps-pop, keeps-enter_block) depth 22

pub keeps-taking : {w : Kept} (n : ℕ) (o : Option Value) → Keeps w IsPlain (taking n o)
unfolding taking
keeps-taking n None = keeps_done None
keeps-taking {w} n (Some v) = search (keeping, keeps-arguments_of) depth 12

pub keeps-method_for : {w : Kept} (receiver selector : Value) (n : ℕ) → Keeps w IsPlain (method_for receiver selector n)
unfolding method_for
keeps-method_for {w} receiver selector n = search (keeping, keeps-find_from, keeps-taking) depth 16

pub keeps-execute_found : {w : Kept} (method : Value) (n : ℕ) → Keeps w (MayKeep w) (execute_found method n)
unfolding execute_found
keeps-execute_found {w} method n = search (keeping, keeps-set_arguments) depth 12

pub keeps-move_down : {w : Kept} (n k : ℕ) → Keeps w IsPlain (move_down n k)
unfolding move_down
keeps-move_down {w} n k = search (keeping, keeps-stack, keeps-put_stack) depth 12

pub keeps-perform_with : {w : Kept} (n : ℕ) → Keeps w (MayKeep w) (perform_with n)
unfolding perform_with
keeps-perform_with {w} n = search (keeping, keeps-stack, keeps-method_for, keeps-move_down, keeps-pop, keeps-execute_found) depth 22

pub keeps-perform : {w : Kept} → Keeps w (MayKeep w) perform
unfolding perform
keeps-perform {w} = search (keeping, keeps-perform_with) depth 12

pub keeps-has_room : {w : Kept} (n : ℕ) → Keeps w IsPlain (has_room n)
unfolding has_room
keeps-has_room {w} n = search keeping depth 14

pub keeps-push_element : {w : Kept} (array : Value) (k : ℕ) → Keeps w IsPlain (push_element array k)
unfolding push_element
keeps-push_element {w} array k = search (keeping, keeps-push) depth 12

pub keeps-perform_with_arguments : {w : Kept} → Keeps w (MayKeep w) perform_with_arguments
unfolding perform_with_arguments
keeps-perform_with_arguments {w} = search (keeping, keeps-stack, keeps-array_length, keeps-method_for, keeps-has_room, keeps-pop, keeps-push_element, keeps-execute_found) depth 28 fits 5000

pub keeps-flush_cache : {w : Kept} → Keeps w (MayKeep w) flush_cache
unfolding flush_cache
keeps-flush_cache = answer_done

pub keeps-quit : {w : Kept} → Keeps w (MayKeep w) quit
unfolding quit
keeps-quit = answer_quit

-- ---- forms

keeps-count_of : {w : Kept} (bits : Option Value) → Keeps w IsPlain (count_of bits)
keeps-count_of None = keeps_done None
keeps-count_of (Some bits) = keeps_peek _ bits

keeps-form_where : {w : Kept} (enough : Extent → ℕ → Bool) (v : Value) → Keeps w IsPlain (form_where enough v)
unfolding form_where
keeps-form_where {w} enough v = search (keeping, keeps-count_of) depth 14

keeps-form_of : {w : Kept} (v : Value) → Keeps w IsPlain (form_of v)
unfolding form_of
keeps-form_of v = keeps-form_where _ v

-- ---- blits

keeps-form_or_nil : {w : Kept} (shape : Value → Rule (Option Form)) (v : Value) → Keeps w IsPlain (shape v) → Keeps w IsPlain (form_or_nil shape v)
unfolding form_or_nil
keeps-form_or_nil shape v f = keeps_pick _ _ _ (keeps_done _) (keeps_plain _ f (λ o. keeps_done _))

keeps-words_or : {w : Kept} (others : List ℕ) (form : Option Form) → Keeps w IsPlain (words_or others form)
keeps-words_or others None = keeps_done others
keeps-words_or others (Some f) = keeps_part _ _ f.bits

keeps-copy : {w : Kept} (q : Asked) (dest : Form) (source tone : Option Form) → Keeps w IsPlain (copy q dest source tone)
unfolding copy
keeps-copy q dest source tone = keeps_plain _ (keeps_part _ _ dest.bits) (λ words. keeps_plain _ (keeps-words_or _ source) (λ from. keeps_plain _ (keeps-words_or _ tone) (λ halftone. keeps_put_words dest.bits _)))

pub keeps-copy_bits : {w : Kept} → Keeps w (MayKeep w) copy_bits
unfolding copy_bits
keeps-copy_bits {w} = keeps_plain _ (keeps-stack 0) (λ blit. keeps_try _ (keeps_peek _ blit) (λ q. keeps_try _ (keeps_peek _ blit) (λ dest_form. keeps_try _ (keeps-form_of dest_form) (λ dest.
    keeps_try _ (keeps_peek _ blit) (λ source_form. keeps_try _ (keeps-form_or_nil _ source_form (keeps-form_of source_form)) (λ source.
    keeps_try _ (keeps_peek _ blit) (λ tone_form. keeps_try _ (keeps-form_or_nil _ tone_form (keeps-form_where _ tone_form)) (λ tone.
    keeps_plain _ (keeps-copy q dest source tone) (λ _. answer_done)))))))))

-- ---- devices

pub keeps-semaphore_or_nil : {w : Kept} (v : Value) → Keeps w IsPlain (semaphore_or_nil v)
unfolding semaphore_or_nil
keeps-semaphore_or_nil {w} v = search keeping depth 14

keeps-put_semaphore : {w : Kept} (r : ℕ) (v : Value) (there : Bool) → nat_lt METHOD r ≡ true → Keeps w IsPlain (put_semaphore r v there)
unfolding put_semaphore
keeps-put_semaphore r v there behind = keeps_put_register r _ behind

pub keeps-set_input : {w : Kept} (v : Value) (there : Bool) → Keeps w (MayKeep w) (set_input v there)
unfolding set_input
keeps-set_input {w} v there = search (keeping, keeps-put_semaphore, keeps-pop) depth 16

pub keeps-input_semaphore : {w : Kept} → Keeps w (MayKeep w) input_semaphore
unfolding input_semaphore
keeps-input_semaphore {w} = search (keeping, keeps-stack, keeps-semaphore_or_nil, keeps-set_input) depth 16

pub keeps-take_word : {w : Kept} (word : ℕ) → Keeps w (MayKeep w) (take_word word)
unfolding take_word
keeps-take_word {w} word = search (keeping, keeps-number_object, keeps-answer) depth 16

pub keeps-input_word : {w : Kept} (events : List Line) → Keeps w (MayKeep w) (input_word events)
unfolding input_word
keeps-input_word {w} events = search (keeping, keeps-take_word) depth 14

pub keeps-put_tick : {w : Kept} (v : Value) (tick : ℕ) → Keeps w IsPlain (put_tick v tick)
unfolding put_tick
keeps-put_tick {w} v tick = search keeping depth 14

pub keeps-keep_machine : {w : Kept} → Keeps w (MayKeep w) keep_machine
unfolding keep_machine
keeps-keep_machine = keeps_plain _ (keeps-stack 0) (λ v. keeps_numbers _ (λ cpu e. keep_where cpu.vault e))

pub keeps-tick_words : {w : Kept} → Keeps w (MayKeep w) tick_words
unfolding tick_words
keeps-tick_words {w} = search (keeping, keeps-stack, keeps-put_tick, keeps-pop) depth 18

pub keeps-set_timer : {w : Kept} (v : Value) (there : Bool) (tick : ℕ) → Keeps w (MayKeep w) (set_timer v there tick)
unfolding set_timer
keeps-set_timer {w} v there tick = search (keeping, keeps-put_semaphore, keeps-pop) depth 16

pub keeps-signal_at_tick : {w : Kept} → Keeps w (MayKeep w) signal_at_tick
unfolding signal_at_tick
keeps-signal_at_tick {w} = search (keeping, keeps-stack, keeps-semaphore_or_nil, keeps-set_timer) depth 20

pub keeps-show_form : {w : Kept} (v : Value) → Keeps w (MayKeep w) (show_form v)
unfolding show_form
keeps-show_form {w} v = search keeping depth 14

pub keeps-be_display : {w : Kept} → Keeps w (MayKeep w) be_display
unfolding be_display
keeps-be_display = keeps_plain _ (keeps-stack 0) (λ form. keeps_try _ (keeps-form_of form) (λ shape. keeps-show_form form))

pub keeps-string_text : {w : Kept} (v : Value) → Keeps w IsPlain (string_text v)
unfolding string_text
keeps-string_text {w} v = search keeping depth 14

pub keeps-say_string : {w : Kept} → Keeps w (MayKeep w) say_string
unfolding say_string
keeps-say_string {w} = search (keeping, keeps-stack, keeps-string_text, keeps-pop) depth 18

-- ---- before a bytecode

pub keeps-join_queue : {w : Kept} → Keeps w IsPlain join_queue
unfolding join_queue
keeps-join_queue {w} = search (keeping, keeps-signal) depth 16

keeps-take_event : {w : Kept} (event : Event) → Keeps w IsPlain (take_event event)
keeps-take_event (event.Word word) = keeps-join_queue
keeps-take_event event.Purge = keeps_done tt
keeps-take_event event.Compact = keeps_done tt

pub keeps-take_line : {w : Kept} (line : Line) → Keeps w IsPlain (take_line line)
unfolding take_line
keeps-take_line {w} line = search (keeping, keeps-take_event) depth 14

keeps-take_lines : {w : Kept} (count : ℕ) (lines : List Line) → Keeps w IsPlain (take_lines count lines)
keeps-take_lines count [] = keeps_done tt
keeps-take_lines count (line ∷ lines) = keeps_pick _ _ _ (keeps_plain _ (keeps-take_line line) (λ _. keeps-take_lines count lines)) (keeps_done tt)

pub keeps-events_due : {w : Kept} (events : List Line) → Keeps w IsPlain (events_due events)
unfolding events_due
keeps-events_due {w} events = search (keeping, keeps-take_lines) depth 12

pub keeps-fire : {w : Kept} → Keeps w IsPlain fire
unfolding fire
keeps-fire {w} = search (keeping, keeps-signal) depth 18

pub keeps-check_timer : {w : Kept} → Keeps w IsPlain check_timer
unfolding check_timer
keeps-check_timer {w} = search (keeping, keeps-fire) depth 14

pub keeps-due : {w : Kept} (events : List Line) → Keeps w IsPlain (due events)
unfolding due
keeps-due {w} events = search (keeping, keeps-events_due, keeps-check_timer) depth 12
