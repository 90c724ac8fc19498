-- What was said before changes nothing, for each rule below the tables.
use Rattle.std.proofs.Common.{ℕ, ℤ, zero, suc, Bool, false, List, [], ◌∷◌, Option, Some, None}
use Rattle.blue_model.proofs.EarlierSteps.{ignores_done, ignores_halt, ignores_part, ignores_peek, ignores_pick, ignores_store, ignores_store_byte, ignores_store_word, ignores_then, ignores_try, ignores_where_some, ignoring}
use Rattle.blue_model.specs.Arithmetic.{arithmetic, comparison, make_point, of_numbers, point}
use Rattle.blue_model.specs.BitBlt.{Asked, copy, copy_bits, form_or_nil, words_or}
use Rattle.blue_model.specs.Contexts.{active_process, back, back_with, byte_of, enter, fetch, jump, load, load_home, need_method, nil_context, park, park_new, pop, pop_top, push, put_context, scheduler, stack, start, store_field, store_registers}
use Rattle.blue_model.specs.Control.{array_length, block_copy, block_start, enter_block, execute_found, flush_cache, has_room, make_block, method_for, move_down, pass_argument, pass_element, perform, perform_with, perform_with_arguments, pointer_for, push_element, quit, taking, value, value_with_arguments}
use Rattle.blue_model.specs.Devices.{be_display, check_timer, display_form, display_row, due, events_due, fire, input_semaphore, input_word, join_queue, keep_machine, picture, picture_of, put_semaphore, put_tick, say_string, semaphore_or_nil, set_input, set_timer, show_form, signal_at_tick, string_text, take_event, take_line, take_lines, take_word, tick_words}
use Rattle.blue_model.specs.Earlier.{IgnoresEarlier}
use Rattle.blue_model.specs.Elements.{byte_of_character, character_of, element_at, element_of, fixed_of, index_argument, make_large, number_object, put_element, specification_of, spot_at, variable_of}
use Rattle.blue_model.specs.Forms.{Extent, Form, count_of, form_of, form_where}
use Rattle.blue_model.specs.LargeInts.{answer_result, large_answer, large_arithmetic, large_comparison, large_operand, large_shift, make_large_integer, of_large, of_shift, put_bytes}
use Rattle.blue_model.specs.Lookup.{find, find_from, find_in, found_or, method_at, put_found}
use Rattle.blue_model.specs.Machine.{Rule}
use Rattle.blue_model.specs.Messages.{activate, arguments_of, copy_argument, create_message, fill_context, find_or_tell, make_arguments, make_context, make_message, pass, put_stack, set_arguments, tell}
use Rattle.blue_model.specs.Processes.{add, add_signal, check_switch, current_process, empty_list, has_list, link_behind, primitive_resume, primitive_signal, primitive_suspend, primitive_wait, process_lists, resume, shorten, signal, sleep, sleep_at, suspend_active, switch, take, transfer, wait, wake, wake_among}
use Rattle.blue_model.specs.Storage.{advance, at, at_end, at_put, become, class, equivalent, hash, instance_variable_at, instance_variable_at_put, method_object, new, new_method, new_with_size, next, next_put, next_spot, object_at_index, object_at_put, of_stream, put_streamed, size_of, streamed, streamed_by, streamed_element, string_at, string_at_put}
use Rattle.blue_model.specs.Trials.{answer, boolean}
use Rattle.blue_model.specs.declared.answer.Answer.{Answer}
use Rattle.blue_model.specs.declared.event.Event.{Event}
use Rattle.blue_model.specs.declared.event.Line.{Line}
use Rattle.blue_model.specs.declared.spot.Spot.{Spot}
use Rattle.long_names.specs.declared.value.Value.{Value}
use Rattle.long_names.specs.declared.value.Value.TheVariants.{Int, Ref}
use Rattle.blue_model.specs.declared.spot.Spot.TheVariants.{Field, Word, Byte}
use Rattle.blue_model.specs.declared.event.Event.TheVariants as event

-- ---- contexts

pub ignores-store_field : (of : Value) (i : ℕ) (v : Value) → IgnoresEarlier (store_field of i v)
unfolding store_field
ignores-store_field of i v = search ignoring depth 18

pub ignores-push : (v : Value) → IgnoresEarlier (push v)
unfolding push
ignores-push v = search (ignoring, ignores-store_field) depth 26

pub ignores-stack : (depth : ℕ) → IgnoresEarlier (stack depth)
unfolding stack
ignores-stack depth = search ignoring depth 24

pub ignores-pop : (n : ℕ) → IgnoresEarlier (pop n)
unfolding pop
ignores-pop n = search ignoring depth 20

pub ignores-pop_top : IgnoresEarlier pop_top
unfolding pop_top
ignores-pop_top = search (ignoring, ignores-stack, ignores-pop) depth 20

pub ignores-byte_of : (ip : ℤ) (method : Value) → IgnoresEarlier (byte_of ip method)
unfolding byte_of
ignores-byte_of ip method = search ignoring depth 18

pub ignores-fetch : IgnoresEarlier fetch
unfolding fetch
ignores-fetch = search (ignoring, ignores-byte_of) depth 24

pub ignores-jump : (distance : ℤ) → IgnoresEarlier (jump distance)
unfolding jump
ignores-jump distance = search (ignoring, ignores-byte_of) depth 22

pub ignores-need_method : (method : Value) → IgnoresEarlier (need_method method)
unfolding need_method
ignores-need_method method = search ignoring depth 18

pub ignores-put_context : (context home method receiver : Value) → IgnoresEarlier (put_context context home method receiver)
unfolding put_context
ignores-put_context context home method receiver = search ignoring depth 22

pub ignores-load_home : (context home : Value) (ip depth : ℤ) → IgnoresEarlier (load_home context home ip depth)
unfolding load_home
ignores-load_home context home ip depth = search (ignoring, ignores-need_method, ignores-put_context) depth 32 fits 5000

pub ignores-load : (context : Value) → IgnoresEarlier (load context)
unfolding load
ignores-load context = search (ignoring, ignores-load_home) depth 26

pub ignores-store_registers : IgnoresEarlier store_registers
unfolding store_registers
ignores-store_registers = search (ignoring, ignores-store_field) depth 26

pub ignores-enter : (context : Value) → IgnoresEarlier (enter context)
unfolding enter
ignores-enter context = search (ignoring, ignores-load, ignores-store_registers) depth 18

pub ignores-nil_context : IgnoresEarlier nil_context
unfolding nil_context
ignores-nil_context = search (ignoring, ignores-store_field) depth 22

pub ignores-back : (context : Value) → IgnoresEarlier (back context)
unfolding back
ignores-back context = search (ignoring, ignores-load, ignores-nil_context) depth 18

pub ignores-back_with : (context v : Value) → IgnoresEarlier (back_with context v)
unfolding back_with
ignores-back_with context v = search (ignoring, ignores-push, ignores-back) depth 18

pub ignores-scheduler : IgnoresEarlier scheduler
unfolding scheduler
ignores-scheduler = search ignoring depth 18

pub ignores-active_process : IgnoresEarlier active_process
unfolding active_process
ignores-active_process = search (ignoring, ignores-scheduler) depth 18

pub ignores-start : IgnoresEarlier start
unfolding start
ignores-start = search (ignoring, ignores-load, ignores-active_process) depth 24

pub ignores-park_new : (scheduler : Value) → IgnoresEarlier (park_new scheduler)
unfolding park_new
ignores-park_new scheduler = search (ignoring, ignores-store_field) depth 24

pub ignores-park : IgnoresEarlier park
unfolding park
ignores-park = search (ignoring, ignores-store_field, ignores-store_registers, ignores-scheduler, ignores-park_new) depth 26

-- ---- lookup

pub ignores-method_at : (dictionary : Value) (place : Option ℕ) → IgnoresEarlier (method_at dictionary place)
unfolding method_at
ignores-method_at dictionary None = ignores_done None
ignores-method_at dictionary (Some place) = search ignoring depth 16

pub ignores-find_in : (selector class : Value) → IgnoresEarlier (find_in selector class)
unfolding find_in
ignores-find_in selector class = search (ignoring, ignores-method_at) depth 24

pub ignores-found_or : (o : Option Value) (rest : Rule (Option Value)) → IgnoresEarlier rest → IgnoresEarlier (found_or o rest)
unfolding found_or
ignores-found_or None rest f = f
ignores-found_or (Some v) rest f = ignores_done (Some v)

pub ignores-find_from : (n : ℕ) (selector class : Value) → IgnoresEarlier (find_from n selector class)
unfolding find_from
ignores-find_from zero selector class = search ignoring depth 12
ignores-find_from (suc n) selector class = let next : (superclass : Value) → IgnoresEarlier (find_from n selector superclass) = λ superclass. ignores-find_from n selector superclass in search (ignoring, ignores-find_in, ignores-found_or, next) depth 12

pub ignores-put_found : (o : Option Value) → IgnoresEarlier (put_found o)
unfolding put_found
ignores-put_found None = ignores_done false
ignores-put_found (Some v) = search ignoring depth 12

pub ignores-find : (class : Value) → IgnoresEarlier (find class)
unfolding find
ignores-find class = search (ignoring, ignores-find_from, ignores-put_found) depth 20

-- ---- messages

pub ignores-arguments_of : (method : Value) → IgnoresEarlier (arguments_of method)
unfolding arguments_of
ignores-arguments_of method = search ignoring depth 22

pub ignores-set_arguments : (n : ℕ) → IgnoresEarlier (set_arguments n)
unfolding set_arguments
ignores-set_arguments n = search ignoring depth 18

pub ignores-put_stack : (depth : ℕ) (v : Value) → IgnoresEarlier (put_stack depth v)
unfolding put_stack
ignores-put_stack depth v = search (ignoring, ignores-store_field) depth 24

pub ignores-copy_argument : (n : ℕ) (array : Value) (i : ℕ) → IgnoresEarlier (copy_argument n array i)
unfolding copy_argument
ignores-copy_argument n array i = search (ignoring, ignores-store_field, ignores-stack) depth 18

pub ignores-make_arguments : (n : ℕ) → IgnoresEarlier (make_arguments n)
unfolding make_arguments
ignores-make_arguments n = search (ignoring, ignores-copy_argument) depth 22

pub ignores-make_message : (selector array : Value) → IgnoresEarlier (make_message selector array)
unfolding make_message
ignores-make_message selector array = search (ignoring, ignores-store_field) depth 24

pub ignores-create_message : (selector : Value) (n : ℕ) → IgnoresEarlier (create_message selector n)
unfolding create_message
ignores-create_message selector n = search (ignoring, ignores-push, ignores-pop, ignores-make_arguments, ignores-make_message) depth 22

pub ignores-tell : (class selector : Value) → IgnoresEarlier (tell class selector)
unfolding tell
ignores-tell class selector = search (ignoring, ignores-find, ignores-set_arguments, ignores-create_message) depth 30 fits 5000

pub ignores-find_or_tell : (class : Value) → IgnoresEarlier (find_or_tell class)
unfolding find_or_tell
ignores-find_or_tell class = search (ignoring, ignores-find, ignores-tell) depth 24

pub ignores-pass : (n len : ℕ) (context : Value) (k : ℕ) → IgnoresEarlier (pass n len context k)
unfolding pass
ignores-pass n len context k = search (ignoring, ignores-store_field, ignores-stack) depth 20

pub ignores-fill_context : (context method : Value) (header : ℤ) → IgnoresEarlier (fill_context context method header)
unfolding fill_context
ignores-fill_context context method header = search (ignoring, ignores-store_field) depth 24

pub ignores-make_context : (method : Value) (header : ℤ) (n : ℕ) → IgnoresEarlier (make_context method header n)
unfolding make_context
ignores-make_context method header n = search (ignoring, ignores-pass, ignores-fill_context) depth 24

pub ignores-activate : IgnoresEarlier activate
unfolding activate
ignores-activate = search (ignoring, ignores-pop, ignores-enter, ignores-make_context) depth 26

-- ---- primitives

pub ignores-answer : (n : ℕ) (v : Value) → IgnoresEarlier (answer n v)
unfolding answer
ignores-answer n v = search (ignoring, ignores-push, ignores-pop) depth 20

pub ignores-boolean : (b : Bool) → IgnoresEarlier (boolean b)
unfolding boolean
ignores-boolean b = search ignoring depth 16

pub ignores-of_numbers : (p : ℤ → ℤ → Rule Answer) → ((a : ℤ) (b : ℤ) → IgnoresEarlier (p a b)) → IgnoresEarlier (of_numbers p)
unfolding of_numbers
ignores-of_numbers p f = search (ignoring, ignores-stack, f) depth 20

pub ignores-arithmetic : (f : ℤ → ℤ → Option ℤ) → IgnoresEarlier (arithmetic f)
unfolding arithmetic
ignores-arithmetic f = search (ignoring, ignores-answer, ignores-of_numbers) depth 14

pub ignores-comparison : (f : ℤ → ℤ → Bool) → IgnoresEarlier (comparison f)
unfolding comparison
ignores-comparison f = search (ignoring, ignores-answer, ignores-boolean, ignores-of_numbers) depth 16

pub ignores-make_point : (x y : ℤ) → IgnoresEarlier (make_point x y)
unfolding make_point
ignores-make_point x y = search (ignoring, ignores-store_field) depth 24

pub ignores-point : IgnoresEarlier point
unfolding point
ignores-point = search (ignoring, ignores-answer, ignores-of_numbers, ignores-make_point) depth 16

-- ---- large integers

pub ignores-large_operand : (v : Value) → IgnoresEarlier (large_operand v)
unfolding large_operand
ignores-large_operand (Int z) = ignores_done (Some z)
ignores-large_operand (Ref n) = ignores_peek _ (Ref n)

pub ignores-put_bytes : (v : Value) (bytes : List ℕ) → IgnoresEarlier (put_bytes v bytes)
unfolding put_bytes
ignores-put_bytes v bytes = search ignoring depth 14

pub ignores-make_large_integer : (z : ℤ) → IgnoresEarlier (make_large_integer z)
unfolding make_large_integer
ignores-make_large_integer z = search (ignoring, ignores-put_bytes) depth 16

pub ignores-large_answer : (z : ℤ) → IgnoresEarlier (large_answer z)
unfolding large_answer
ignores-large_answer z = search (ignoring, ignores-make_large_integer) depth 16

pub ignores-of_large : (p : ℤ → ℤ → Rule Answer) → ((a : ℤ) (b : ℤ) → IgnoresEarlier (p a b)) → IgnoresEarlier (of_large p)
unfolding of_large
ignores-of_large p f = search (ignoring, ignores-stack, ignores-large_operand, f) depth 24

pub ignores-of_shift : (p : ℤ → ℤ → Rule Answer) → ((a : ℤ) (b : ℤ) → IgnoresEarlier (p a b)) → IgnoresEarlier (of_shift p)
unfolding of_shift
ignores-of_shift p f = search (ignoring, ignores-stack, ignores-large_operand, f) depth 22

pub ignores-answer_result : (result : Option ℤ) → IgnoresEarlier (answer_result result)
unfolding answer_result
ignores-answer_result result = search (ignoring, ignores-answer, ignores-large_answer) depth 16

pub ignores-large_arithmetic : (f : ℤ → ℤ → Option ℤ) → IgnoresEarlier (large_arithmetic f)
unfolding large_arithmetic
ignores-large_arithmetic f = search (ignoring, ignores-of_large, ignores-answer_result) depth 14

pub ignores-large_comparison : (f : ℤ → ℤ → Bool) → IgnoresEarlier (large_comparison f)
unfolding large_comparison
ignores-large_comparison f = search (ignoring, ignores-answer, ignores-boolean, ignores-of_large) depth 16

pub ignores-large_shift : IgnoresEarlier large_shift
unfolding large_shift
ignores-large_shift = search (ignoring, ignores-of_shift, ignores-answer_result) depth 14

-- ---- elements

pub ignores-index_argument : (v : Value) → IgnoresEarlier (index_argument v)
unfolding index_argument
ignores-index_argument (Int z) = ignores_done (Some z)
ignores-index_argument (Ref n) = ignores_peek _ (Ref n)

pub ignores-make_large : (n : ℕ) → IgnoresEarlier (make_large n)
unfolding make_large
ignores-make_large n = search ignoring depth 24

pub ignores-number_object : (n : ℕ) → IgnoresEarlier (number_object n)
unfolding number_object
ignores-number_object n = search (ignoring, ignores-make_large) depth 16

pub ignores-specification_of : (class : Value) → IgnoresEarlier (specification_of class)
unfolding specification_of
ignores-specification_of class = search ignoring depth 14

pub ignores-fixed_of : (v : Value) → IgnoresEarlier (fixed_of v)
unfolding fixed_of
ignores-fixed_of v = search (ignoring, ignores-specification_of) depth 22

pub ignores-spot_at : (v : Value) (e : Option ℕ) → IgnoresEarlier (spot_at v e)
ignores-spot_at v None = ignores_done None
ignores-spot_at v (Some e) = ignores_peek _ v

pub ignores-element_of : (array : Value) (i : ℤ) → IgnoresEarlier (element_of array i)
unfolding element_of
ignores-element_of array i = search (ignoring, ignores-fixed_of, ignores-spot_at) depth 18

pub ignores-variable_of : (receiver : Value) (i : ℤ) → IgnoresEarlier (variable_of receiver i)
unfolding variable_of
ignores-variable_of receiver i = search (ignoring, ignores-spot_at) depth 14

pub ignores-element_at : (v : Value) (spot : Spot) → IgnoresEarlier (element_at v spot)
ignores-element_at v (Field i) = search ignoring depth 12
ignores-element_at v (Word i) = search (ignoring, ignores-number_object) depth 12
ignores-element_at v (Byte i) = search (ignoring, ignores-number_object) depth 12

pub ignores-put_element : (v : Value) (spot : Spot) (x : Value) (rest : Rule Answer) → IgnoresEarlier rest → IgnoresEarlier (put_element v spot x rest)
ignores-put_element v (Field i) x rest f = ignores_then (λ _. rest) (ignores_store v i x) (λ _. f)
ignores-put_element v (Word i) x rest f = ignores_try _ (ignores-index_argument x) (λ z. ignores_where_some _ _ (λ n. ignores_then (λ _. rest) (ignores_store_word v i n) (λ _. f)))
ignores-put_element v (Byte i) x rest f = ignores_where_some _ _ (λ n. ignores_then (λ _. rest) (ignores_store_byte v i n) (λ _. f))

pub ignores-character_of : (byte : ℕ) → IgnoresEarlier (character_of byte)
unfolding character_of
ignores-character_of byte = search ignoring depth 16

pub ignores-byte_of_character : (v : Value) → IgnoresEarlier (byte_of_character v)
unfolding byte_of_character
ignores-byte_of_character v = search ignoring depth 16

pub ignores-at : IgnoresEarlier at
unfolding at
ignores-at = search (ignoring, ignores-stack, ignores-answer, ignores-index_argument, ignores-element_of, ignores-element_at) depth 26

pub ignores-at_put : IgnoresEarlier at_put
unfolding at_put
ignores-at_put = search (ignoring, ignores-stack, ignores-answer, ignores-index_argument, ignores-element_of, ignores-put_element) depth 26

pub ignores-size_of : IgnoresEarlier size_of
unfolding size_of
ignores-size_of = search (ignoring, ignores-stack, ignores-answer, ignores-number_object, ignores-fixed_of) depth 24

pub ignores-string_at : IgnoresEarlier string_at
unfolding string_at
ignores-string_at = search (ignoring, ignores-stack, ignores-answer, ignores-index_argument, ignores-element_of, ignores-character_of) depth 28

pub ignores-string_at_put : IgnoresEarlier string_at_put
unfolding string_at_put
ignores-string_at_put = search (ignoring, ignores-stack, ignores-answer, ignores-index_argument, ignores-element_of, ignores-put_element, ignores-byte_of_character) depth 30 fits 5000

pub ignores-streamed_by : (class array : Value) → IgnoresEarlier (streamed_by class array)
unfolding streamed_by
ignores-streamed_by class array = search ignoring depth 18

pub ignores-streamed : (array : Value) → IgnoresEarlier (streamed array)
unfolding streamed
ignores-streamed array = search (ignoring, ignores-streamed_by) depth 16

pub ignores-of_stream : (limit : ℕ) (stream : Value) (p : Value → Bool → ℕ → ℤ → Rule Answer) → ((a : Value) (b : Bool) (c : ℕ) (d : ℤ) → IgnoresEarlier (p a b c d)) → IgnoresEarlier (of_stream limit stream p)
unfolding of_stream
ignores-of_stream limit stream p f = search (ignoring, ignores-streamed, f) depth 32 fits 5000

pub ignores-next_spot : (array : Value) (index : ℕ) (bound : ℤ) (p : Spot → Rule Answer) → ((a : Spot) → IgnoresEarlier (p a)) → IgnoresEarlier (next_spot array index bound p)
unfolding next_spot
ignores-next_spot array index bound p f = search (ignoring, ignores-element_of, f) depth 16

pub ignores-advance : (stream : Value) (index : ℕ) → IgnoresEarlier (advance stream index)
unfolding advance
ignores-advance stream index = search (ignoring, ignores-store_field) depth 14

pub ignores-streamed_element : (array : Value) (text : Bool) (spot : Spot) (p : Value → Rule Answer) → ((a : Value) → IgnoresEarlier (p a)) → IgnoresEarlier (streamed_element array text spot p)
unfolding streamed_element
ignores-streamed_element array text spot p f = search (ignoring, ignores-element_at, ignores-character_of, f) depth 22

pub ignores-next : IgnoresEarlier next
unfolding next
ignores-next = search (ignoring, ignores-stack, ignores-answer, ignores-of_stream, ignores-next_spot, ignores-advance, ignores-streamed_element) depth 20

pub ignores-put_streamed : (array : Value) (text : Bool) (spot : Spot) (v : Value) (rest : Rule Answer) → IgnoresEarlier rest → IgnoresEarlier (put_streamed array text spot v rest)
unfolding put_streamed
ignores-put_streamed array text spot v rest f = ignores_pick text _ _ (ignores_try _ (ignores-byte_of_character v) (λ byte. ignores-put_element array spot _ rest f)) (ignores-put_element array spot v rest f)

pub ignores-next_put : IgnoresEarlier next_put
unfolding next_put
ignores-next_put = search (ignoring, ignores-stack, ignores-answer, ignores-of_stream, ignores-next_spot, ignores-advance, ignores-put_streamed) depth 22

pub ignores-at_end : IgnoresEarlier at_end
unfolding at_end
ignores-at_end = search (ignoring, ignores-stack, ignores-answer, ignores-boolean, ignores-of_stream) depth 22

pub ignores-method_object : (method : Value) (header : ℤ) (n : ℕ) → IgnoresEarlier (method_object method header n)
ignores-method_object method header n = search (ignoring, ignores-answer) depth 18

pub ignores-object_at_index : IgnoresEarlier object_at_index
unfolding object_at_index
ignores-object_at_index = search (ignoring, ignores-stack, ignores-index_argument, ignores-method_object) depth 24

pub ignores-object_at_put : IgnoresEarlier object_at_put
unfolding object_at_put
ignores-object_at_put = search (ignoring, ignores-stack, ignores-answer, ignores-index_argument) depth 30 fits 5000

pub ignores-new : IgnoresEarlier new
unfolding new
ignores-new = search (ignoring, ignores-stack, ignores-answer, ignores-specification_of) depth 22

pub ignores-new_with_size : IgnoresEarlier new_with_size
unfolding new_with_size
ignores-new_with_size = search (ignoring, ignores-stack, ignores-answer, ignores-index_argument, ignores-specification_of) depth 26

pub ignores-new_method : IgnoresEarlier new_method
unfolding new_method
ignores-new_method = search (ignoring, ignores-stack, ignores-answer) depth 24

pub ignores-instance_variable_at : IgnoresEarlier instance_variable_at
unfolding instance_variable_at
ignores-instance_variable_at = search (ignoring, ignores-stack, ignores-answer, ignores-index_argument, ignores-variable_of, ignores-element_at) depth 28

pub ignores-instance_variable_at_put : IgnoresEarlier instance_variable_at_put
unfolding instance_variable_at_put
ignores-instance_variable_at_put = search (ignoring, ignores-stack, ignores-answer, ignores-index_argument, ignores-variable_of, ignores-put_element) depth 28

pub ignores-hash : IgnoresEarlier hash
unfolding hash
ignores-hash = search (ignoring, ignores-stack, ignores-answer) depth 18

pub ignores-equivalent : IgnoresEarlier equivalent
unfolding equivalent
ignores-equivalent = search (ignoring, ignores-stack, ignores-answer, ignores-boolean) depth 22

pub ignores-become : IgnoresEarlier become
unfolding become
ignores-become = search (ignoring, ignores-stack, ignores-pop) depth 32 fits 5000

pub ignores-class : IgnoresEarlier class
unfolding class
ignores-class = search (ignoring, ignores-stack, ignores-answer) depth 20

-- ---- processes

pub ignores-link_behind : (process list : Value) → IgnoresEarlier (link_behind process list)
unfolding link_behind
ignores-link_behind process list = search (ignoring, ignores-store_field) depth 18

pub ignores-add : (process list : Value) → IgnoresEarlier (add process list)
unfolding add
ignores-add process list = search (ignoring, ignores-store_field, ignores-link_behind) depth 24

pub ignores-empty_list : (list : Value) → IgnoresEarlier (empty_list list)
unfolding empty_list
ignores-empty_list list = search (ignoring, ignores-store_field) depth 20

pub ignores-shorten : (list first : Value) → IgnoresEarlier (shorten list first)
unfolding shorten
ignores-shorten list first = search (ignoring, ignores-store_field) depth 18

pub ignores-take : (list : Value) → IgnoresEarlier (take list)
unfolding take
ignores-take list = search (ignoring, ignores-store_field, ignores-empty_list, ignores-shorten) depth 28

pub ignores-process_lists : IgnoresEarlier process_lists
unfolding process_lists
ignores-process_lists = search (ignoring, ignores-scheduler) depth 18

pub ignores-sleep : (process : Value) → IgnoresEarlier (sleep process)
unfolding sleep
ignores-sleep process = search (ignoring, ignores-add, ignores-process_lists) depth 26

pub ignores-wake_among : (n : ℕ) (lists : Value) → IgnoresEarlier (wake_among n lists)
unfolding wake_among
ignores-wake_among zero lists = ignores_halt _
ignores-wake_among (suc n) lists = ignores_then _ (ignores_part _ _ lists) (λ list. ignores_then _ (ignores_part _ _ list) (λ first. ignores_pick _ _ _ (ignores-wake_among n lists) (ignores-take list)))

pub ignores-wake : IgnoresEarlier wake
unfolding wake
ignores-wake = search (ignoring, ignores-process_lists, ignores-wake_among) depth 20

pub ignores-current_process : IgnoresEarlier current_process
unfolding current_process
ignores-current_process = search (ignoring, ignores-active_process) depth 20

pub ignores-transfer : (process : Value) → IgnoresEarlier (transfer process)
unfolding transfer
ignores-transfer process = search ignoring depth 20

pub ignores-resume : (process : Value) → IgnoresEarlier (resume process)
unfolding resume
ignores-resume process = search (ignoring, ignores-sleep, ignores-current_process, ignores-transfer) depth 26

pub ignores-switch : IgnoresEarlier switch
unfolding switch
ignores-switch = search (ignoring, ignores-store_field, ignores-enter, ignores-scheduler) depth 36 fits 5000

pub ignores-check_switch : IgnoresEarlier check_switch
unfolding check_switch
ignores-check_switch = search (ignoring, ignores-switch) depth 20

pub ignores-suspend_active : IgnoresEarlier suspend_active
unfolding suspend_active
ignores-suspend_active = search (ignoring, ignores-wake, ignores-transfer) depth 18

pub ignores-add_signal : (semaphore : Value) → IgnoresEarlier (add_signal semaphore)
unfolding add_signal
ignores-add_signal semaphore = search (ignoring, ignores-store_field) depth 18

pub ignores-signal : (semaphore : Value) → IgnoresEarlier (signal semaphore)
unfolding signal
ignores-signal semaphore = search (ignoring, ignores-take, ignores-resume, ignores-add_signal) depth 22

pub ignores-sleep_at : (semaphore : Value) → IgnoresEarlier (sleep_at semaphore)
unfolding sleep_at
ignores-sleep_at semaphore = search (ignoring, ignores-add, ignores-current_process, ignores-suspend_active) depth 20

pub ignores-wait : (semaphore : Value) → IgnoresEarlier (wait semaphore)
unfolding wait
ignores-wait semaphore = search (ignoring, ignores-store_field, ignores-sleep_at) depth 20

pub ignores-primitive_signal : IgnoresEarlier primitive_signal
unfolding primitive_signal
ignores-primitive_signal = search (ignoring, ignores-stack, ignores-signal) depth 22

pub ignores-primitive_wait : IgnoresEarlier primitive_wait
unfolding primitive_wait
ignores-primitive_wait = search (ignoring, ignores-stack, ignores-wait) depth 22

pub ignores-has_list : (priority : ℤ) → IgnoresEarlier (has_list priority)
unfolding has_list
ignores-has_list priority = search (ignoring, ignores-process_lists) depth 20

pub ignores-primitive_resume : IgnoresEarlier primitive_resume
unfolding primitive_resume
ignores-primitive_resume = search (ignoring, ignores-stack, ignores-resume, ignores-has_list) depth 24

pub ignores-primitive_suspend : IgnoresEarlier primitive_suspend
unfolding primitive_suspend
ignores-primitive_suspend = search (ignoring, ignores-stack, ignores-put_stack, ignores-current_process, ignores-suspend_active) depth 28

-- ---- blocks and performs

pub ignores-make_block : (home : Value) (len n : ℕ) → IgnoresEarlier (make_block home len n)
unfolding make_block
ignores-make_block home len n = search (ignoring, ignores-store_field) depth 34 fits 5000

pub ignores-block_copy : IgnoresEarlier block_copy
unfolding block_copy
ignores-block_copy = search (ignoring, ignores-stack, ignores-answer, ignores-make_block) depth 26

pub ignores-pointer_for : (block : Value) (n : ℕ) → IgnoresEarlier (pointer_for block n)
unfolding pointer_for
ignores-pointer_for block n = search ignoring depth 20

pub ignores-block_start : (block : Value) (n : ℕ) → IgnoresEarlier (block_start block n)
unfolding block_start
ignores-block_start block n = search (ignoring, ignores-pointer_for) depth 20

pub ignores-enter_block : (block : Value) (n : ℕ) (ip : ℤ) → IgnoresEarlier (enter_block block n ip)
unfolding enter_block
ignores-enter_block block n ip = search (ignoring, ignores-store_field, ignores-enter) depth 26

pub ignores-pass_argument : (n : ℕ) (block : Value) (k : ℕ) → IgnoresEarlier (pass_argument n block k)
unfolding pass_argument
ignores-pass_argument n block k = search (ignoring, ignores-store_field, ignores-stack) depth 18

pub ignores-value : IgnoresEarlier value
unfolding value
ignores-value = search (ignoring, ignores-stack, ignores-pop, ignores-block_start, ignores-enter_block, ignores-pass_argument) depth 28

pub ignores-array_length : (array : Value) → IgnoresEarlier (array_length array)
unfolding array_length
ignores-array_length array = search ignoring depth 20

pub ignores-pass_element : (array block : Value) (k : ℕ) → IgnoresEarlier (pass_element array block k)
unfolding pass_element
ignores-pass_element array block k = search (ignoring, ignores-store_field) depth 18

pub ignores-value_with_arguments : IgnoresEarlier value_with_arguments
unfolding value_with_arguments
ignores-value_with_arguments = search (ignoring, ignores-stack, ignores-pop, ignores-block_start, ignores-enter_block, ignores-array_length, ignores-pass_element) depth 30 fits 5000

pub ignores-taking : (n : ℕ) (o : Option Value) → IgnoresEarlier (taking n o)
unfolding taking
ignores-taking n None = ignores_done None
ignores-taking n (Some v) = search (ignoring, ignores-arguments_of) depth 12

pub ignores-method_for : (receiver selector : Value) (n : ℕ) → IgnoresEarlier (method_for receiver selector n)
unfolding method_for
ignores-method_for receiver selector n = search (ignoring, ignores-find_from, ignores-taking) depth 20

pub ignores-execute_found : (method : Value) (n : ℕ) → IgnoresEarlier (execute_found method n)
unfolding execute_found
ignores-execute_found method n = search (ignoring, ignores-set_arguments) depth 20

pub ignores-move_down : (n k : ℕ) → IgnoresEarlier (move_down n k)
unfolding move_down
ignores-move_down n k = search (ignoring, ignores-stack, ignores-put_stack) depth 18

pub ignores-perform_with : (n : ℕ) → IgnoresEarlier (perform_with n)
unfolding perform_with
ignores-perform_with n = search (ignoring, ignores-stack, ignores-pop, ignores-method_for, ignores-execute_found, ignores-move_down) depth 28

pub ignores-perform : IgnoresEarlier perform
unfolding perform
ignores-perform = search (ignoring, ignores-perform_with) depth 18

pub ignores-has_room : (n : ℕ) → IgnoresEarlier (has_room n)
unfolding has_room
ignores-has_room n = search ignoring depth 22

pub ignores-push_element : (array : Value) (k : ℕ) → IgnoresEarlier (push_element array k)
unfolding push_element
ignores-push_element array k = search (ignoring, ignores-push) depth 18

pub ignores-perform_with_arguments : IgnoresEarlier perform_with_arguments
unfolding perform_with_arguments
ignores-perform_with_arguments = search (ignoring, ignores-stack, ignores-pop, ignores-array_length, ignores-method_for, ignores-execute_found, ignores-has_room, ignores-push_element) depth 34 fits 5000

pub ignores-flush_cache : IgnoresEarlier flush_cache
unfolding flush_cache
ignores-flush_cache = search ignoring depth 14

pub ignores-quit : IgnoresEarlier quit
unfolding quit
ignores-quit = search ignoring depth 14

-- ---- forms and blits

pub ignores-count_of : (bits : Option Value) → IgnoresEarlier (count_of bits)
ignores-count_of None = ignores_done None
ignores-count_of (Some bits) = ignores_peek _ bits

pub ignores-form_where : (enough : Extent → ℕ → Bool) (v : Value) → IgnoresEarlier (form_where enough v)
unfolding form_where
ignores-form_where enough v = search (ignoring, ignores-count_of) depth 22

pub ignores-form_of : (v : Value) → IgnoresEarlier (form_of v)
unfolding form_of
ignores-form_of v = search (ignoring, ignores-form_where) depth 14

pub ignores-form_or_nil : (shape : Value → Rule (Option Form)) (v : Value) → ((a : Value) → IgnoresEarlier (shape a)) → IgnoresEarlier (form_or_nil shape v)
unfolding form_or_nil
ignores-form_or_nil shape v f = search (ignoring, f) depth 18

pub ignores-words_or : (others : List ℕ) (form : Option Form) → IgnoresEarlier (words_or others form)
ignores-words_or others None = ignores_done others
ignores-words_or others (Some f) = ignores_part _ _ f.bits

pub ignores-copy : (q : Asked) (dest : Form) (source halftone : Option Form) → IgnoresEarlier (copy q dest source halftone)
unfolding copy
ignores-copy q dest source halftone = search (ignoring, ignores-words_or) depth 22

pub ignores-copy_bits : IgnoresEarlier copy_bits
unfolding copy_bits
ignores-copy_bits = search (ignoring, ignores-stack, ignores-form_where, ignores-form_of, ignores-form_or_nil, ignores-copy) depth 40 fits 5000

-- ---- devices

pub ignores-semaphore_or_nil : (v : Value) → IgnoresEarlier (semaphore_or_nil v)
unfolding semaphore_or_nil
ignores-semaphore_or_nil v = search ignoring depth 20

pub ignores-put_semaphore : (r : ℕ) (v : Value) (there : Bool) → IgnoresEarlier (put_semaphore r v there)
unfolding put_semaphore
ignores-put_semaphore r v there = search ignoring depth 14

pub ignores-set_input : (semaphore : Value) (there : Bool) → IgnoresEarlier (set_input semaphore there)
unfolding set_input
ignores-set_input semaphore there = search (ignoring, ignores-pop, ignores-put_semaphore) depth 24

pub ignores-input_semaphore : IgnoresEarlier input_semaphore
unfolding input_semaphore
ignores-input_semaphore = search (ignoring, ignores-stack, ignores-semaphore_or_nil, ignores-set_input) depth 20

pub ignores-take_word : (word : ℕ) → IgnoresEarlier (take_word word)
unfolding take_word
ignores-take_word word = search (ignoring, ignores-answer, ignores-number_object) depth 22

pub ignores-input_word : (events : List Line) → IgnoresEarlier (input_word events)
unfolding input_word
ignores-input_word events = search (ignoring, ignores-take_word) depth 18

pub ignores-put_tick : (v : Value) (tick : ℕ) → IgnoresEarlier (put_tick v tick)
unfolding put_tick
ignores-put_tick v tick = search ignoring depth 22

pub ignores-tick_words : IgnoresEarlier tick_words
unfolding tick_words
ignores-tick_words = search (ignoring, ignores-stack, ignores-pop, ignores-put_tick) depth 28

pub ignores-set_timer : (semaphore : Value) (there : Bool) (tick : ℕ) → IgnoresEarlier (set_timer semaphore there tick)
unfolding set_timer
ignores-set_timer semaphore there tick = search (ignoring, ignores-pop, ignores-put_semaphore) depth 24

pub ignores-signal_at_tick : IgnoresEarlier signal_at_tick
unfolding signal_at_tick
ignores-signal_at_tick = search (ignoring, ignores-stack, ignores-semaphore_or_nil, ignores-set_timer) depth 24

pub ignores-keep_machine : IgnoresEarlier keep_machine
unfolding keep_machine
ignores-keep_machine = search (ignoring, ignores-stack) depth 20

pub ignores-show_form : (form : Value) → IgnoresEarlier (show_form form)
unfolding show_form
ignores-show_form form = search ignoring depth 22

pub ignores-be_display : IgnoresEarlier be_display
unfolding be_display
ignores-be_display = search (ignoring, ignores-stack, ignores-form_of, ignores-show_form) depth 20

pub ignores-string_text : (v : Value) → IgnoresEarlier (string_text v)
unfolding string_text
ignores-string_text v = search ignoring depth 20

pub ignores-say_string : IgnoresEarlier say_string
unfolding say_string
ignores-say_string = search (ignoring, ignores-stack, ignores-pop, ignores-string_text) depth 26

pub ignores-join_queue : IgnoresEarlier join_queue
unfolding join_queue
ignores-join_queue = search (ignoring, ignores-signal) depth 24

pub ignores-take_event : (e : Event) → IgnoresEarlier (take_event e)
ignores-take_event (event.Word word) = ignores-join_queue
ignores-take_event event.Purge = ignores_done tt
ignores-take_event event.Compact = ignores_done tt

pub ignores-take_line : (line : Line) → IgnoresEarlier (take_line line)
unfolding take_line
ignores-take_line line = search (ignoring, ignores-take_event) depth 20

pub ignores-take_lines : (count : ℕ) (lines : List Line) → IgnoresEarlier (take_lines count lines)
ignores-take_lines count [] = ignores_done tt
ignores-take_lines count (line ∷ lines) = ignores_pick _ _ _ (ignores_then (λ _. take_lines count lines) (ignores-take_line line) (λ _. ignores-take_lines count lines)) (ignores_done tt)

pub ignores-events_due : (events : List Line) → IgnoresEarlier (events_due events)
unfolding events_due
ignores-events_due events = search (ignoring, ignores-take_lines) depth 18

pub ignores-fire : IgnoresEarlier fire
unfolding fire
ignores-fire = search (ignoring, ignores-signal) depth 24

pub ignores-check_timer : IgnoresEarlier check_timer
unfolding check_timer
ignores-check_timer = search (ignoring, ignores-fire) depth 20

pub ignores-due : (events : List Line) → IgnoresEarlier (due events)
unfolding due
ignores-due events = search (ignoring, ignores-events_due, ignores-check_timer) depth 18

pub ignores-display_form : IgnoresEarlier display_form
unfolding display_form
ignores-display_form = search (ignoring, ignores-form_of) depth 22

pub ignores-display_row : (y : ℕ) → IgnoresEarlier (display_row y)
unfolding display_row
ignores-display_row y = search (ignoring, ignores-display_form) depth 22

pub ignores-picture_of : (form : Option Form) → IgnoresEarlier (picture_of form)
ignores-picture_of None = ignores_done []
ignores-picture_of (Some form) = ignores_then _ (ignores_part _ _ form.bits) (λ words. ignores_done _)

pub ignores-picture : IgnoresEarlier picture
unfolding picture
ignores-picture = search (ignoring, ignores-display_form, ignores-picture_of) depth 18
