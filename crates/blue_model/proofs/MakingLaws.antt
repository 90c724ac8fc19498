-- How many objects each rule makes: nearly all make none, and a primitive one at most, after which it is done.
use Rattle.std.proofs.Common.{ℕ, ℤ, zero, suc, Bool, false, List, [], ◌∷◌, Option, Some, None, ◌+◌}
use Rattle.long_names.specs.declared.value.Value.{Value}
use Rattle.long_names.specs.declared.value.Value.TheVariants.{Int, Ref}
use Rattle.blue_model.specs.declared.event.Event.{Event}
use Rattle.blue_model.specs.declared.event.Event.TheVariants as event
use Rattle.blue_model.specs.declared.event.Line.{Line}
use Rattle.blue_model.specs.declared.answer.Answer.{Answer}
use Rattle.blue_model.specs.declared.spot.Spot.{Spot}
use Rattle.blue_model.specs.declared.spot.Spot.TheVariants.{Field, Word, Byte}
use Rattle.blue_model.specs.Machine.{Rule}
use Rattle.blue_model.specs.Contexts.{back, park, jump, scheduler, push, load_home, nil_context, pop_top, put_context, active_process, start, store_registers, byte_of, park_new, pop, back_with, need_method, load, stack, fetch, store_field, enter}
use Rattle.blue_model.specs.Lookup.{find_from, find_in, method_at, find, found_or, put_found}
use Rattle.blue_model.specs.Messages.{create_message, make_message, find_or_tell, set_arguments, tell, put_stack, make_context, make_arguments, copy_argument, activate, pass, arguments_of, fill_context}
use Rattle.blue_model.specs.Trials.{answer, boolean}
use Rattle.blue_model.specs.Arithmetic.{comparison, point, make_point, of_numbers, arithmetic, shifted}
use Rattle.blue_model.specs.LargeInts.{large_operand, put_bytes, make_large_integer, large_answer, of_large, of_shift, answer_result, large_result, large_arithmetic, large_comparison, large_shift}
use Rattle.blue_model.specs.Elements.{specification_of, make_large, fixed_of, index_argument, element_of, byte_of_character, character_of, spot_at, put_element, element_at, number_object, variable_of}
use Rattle.blue_model.specs.Storage.{size_of, equivalent, method_object, streamed, new_with_size, class, next_put, string_at, put_streamed, of_stream, instance_variable_at_put, hash, at_put, object_at_put, streamed_by, object_at_index, at, advance, at_end, new, next_spot, string_at_put, new_method, streamed_element, next, instance_variable_at, become}
use Rattle.blue_model.specs.Processes.{primitive_wait, primitive_resume, current_process, transfer, process_lists, link_behind, add_signal, resume, shorten, wake, wake_among, suspend_active, primitive_signal, wait, check_switch, sleep, primitive_suspend, take, has_list, empty_list, switch, sleep_at, add, signal}
use Rattle.blue_model.specs.Control.{block_copy, execute_found, flush_cache, method_for, push_element, quit, pass_argument, array_length, perform_with_arguments, pass_element, perform_with, taking, make_block, has_room, move_down, pointer_for, perform, block_start, value_with_arguments, value, enter_block}
use Rattle.blue_model.specs.Forms.{Form, Extent, form_where, form_of, count_of}
use Rattle.blue_model.specs.BitBlt.{Asked, copy_bits, copy, words_or, form_or_nil}
use Rattle.blue_model.specs.Devices.{tick_words, join_queue, display_row, take_lines, check_timer, set_timer, set_input, display_form, semaphore_or_nil, signal_at_tick, due, take_line, take_word, picture_of, input_semaphore, put_tick, string_text, keep_machine, show_form, say_string, events_due, be_display, take_event, put_semaphore, input_word, fire, picture}
use Rattle.blue_model.specs.State.{State, begin, hold, restore}
use Rattle.blue_model.proofs.MakingSteps.{MakesAtMost, MakesNone, at_most, none_then, some_then, then_some, some_last, none_pick, some_pick, none_done, none_halt, none_numbers, none_set_numbers, none_put_register, none_part, none_known, none_store, none_store_word, none_store_byte, none_peek, one_make, making, MakesSparingly, EndsDone, ends_done, ends_then, sparing_none, sparing_then, sparing_end, sparing_pick, sparing_where_true, sparing_where_some, sparing_try, none_where_true, none_where_some, none_try, few, trying_none, sparing}

-- ---- contexts

pub none-store_field : (of : Value) (i : ℕ) (v : Value) → MakesNone (store_field of i v)
unfolding store_field
none-store_field of i v = search making depth 24

pub none-push : (v : Value) → MakesNone (push v)
unfolding push
none-push v = search (making, none-store_field) depth 24

pub none-stack : (depth : ℕ) → MakesNone (stack depth)
unfolding stack
none-stack depth = search making depth 24

pub none-pop : (n : ℕ) → MakesNone (pop n)
unfolding pop
none-pop n = search making depth 24

pub none-pop_top : MakesNone pop_top
unfolding pop_top
none-pop_top = search (making, none-stack, none-pop) depth 24

pub none-byte_of : (ip : ℤ) (method : Value) → MakesNone (byte_of ip method)
unfolding byte_of
none-byte_of ip method = search making depth 24

pub none-fetch : MakesNone fetch
unfolding fetch
none-fetch = search (making, none-byte_of) depth 24

pub none-jump : (distance : ℤ) → MakesNone (jump distance)
unfolding jump
none-jump distance = search (making, none-byte_of) depth 24

pub none-need_method : (method : Value) → MakesNone (need_method method)
unfolding need_method
none-need_method method = search making depth 24

pub none-put_context : (context home method receiver : Value) → MakesNone (put_context context home method receiver)
unfolding put_context
none-put_context context home method receiver = search making depth 24

pub none-load_home : (context home : Value) (ip depth : ℤ) → MakesNone (load_home context home ip depth)
unfolding load_home
none-load_home context home ip depth = search (making, none-need_method, none-put_context) depth 40 fits 8000

pub none-load : (context : Value) → MakesNone (load context)
unfolding load
none-load context = search (making, none-load_home) depth 40 fits 8000

pub none-store_registers : MakesNone store_registers
unfolding store_registers
none-store_registers = search (making, none-store_field) depth 24

pub none-enter : (context : Value) → MakesNone (enter context)
unfolding enter
none-enter context = search (making, none-load, none-store_registers) depth 24

pub none-nil_context : MakesNone nil_context
unfolding nil_context
none-nil_context = search (making, none-store_field) depth 24

pub none-back : (context : Value) → MakesNone (back context)
unfolding back
none-back context = search (making, none-load, none-nil_context) depth 24

pub none-back_with : (context v : Value) → MakesNone (back_with context v)
unfolding back_with
none-back_with context v = search (making, none-push, none-back) depth 24

pub none-scheduler : MakesNone scheduler
unfolding scheduler
none-scheduler = search making depth 24

pub none-active_process : MakesNone active_process
unfolding active_process
none-active_process = search (making, none-scheduler) depth 24

pub none-start : MakesNone start
unfolding start
none-start = search (making, none-load, none-active_process) depth 24

pub none-park_new : (scheduler : Value) → MakesNone (park_new scheduler)
unfolding park_new
none-park_new scheduler = search (making, none-store_field) depth 24

pub none-park : MakesNone park
unfolding park
none-park = search (making, none-store_field, none-store_registers, none-scheduler, none-park_new) depth 24

-- ---- lookup

pub none-method_at : (dictionary : Value) (slot : Option ℕ) → MakesNone (method_at dictionary slot)
unfolding method_at
none-method_at dictionary None = none_done None
none-method_at dictionary (Some slot) = search making depth 14

pub none-find_in : (selector class : Value) → MakesNone (find_in selector class)
unfolding find_in
none-find_in selector class = search (making, none-method_at) depth 24

pub none-found_or : (o : Option Value) (rest : Rule (Option Value)) → MakesNone rest → MakesNone (found_or o rest)
unfolding found_or
none-found_or None rest f = f
none-found_or (Some v) rest f = none_done (Some v)

pub none-find_from : (n : ℕ) (selector class : Value) → MakesNone (find_from n selector class)
unfolding find_from
none-find_from zero selector class = search making depth 12
none-find_from (suc n) selector class = none_pick _ _ _ (none_done None) (none_then _ (none-find_in selector class) (λ found. none-found_or found _ (none_then _ (none_part _ _ class) (λ superclass. none-find_from n selector superclass))))

pub none-put_found : (o : Option Value) → MakesNone (put_found o)
unfolding put_found
none-put_found None = none_done false
none-put_found (Some v) = search making depth 12

pub none-find : (class : Value) → MakesNone (find class)
unfolding find
none-find class = search (making, none-find_from, none-put_found) depth 14

-- ---- messages

pub none-arguments_of : (method : Value) → MakesNone (arguments_of method)
unfolding arguments_of
none-arguments_of method = search making depth 24

pub none-set_arguments : (n : ℕ) → MakesNone (set_arguments n)
unfolding set_arguments
none-set_arguments n = search making depth 24

pub none-put_stack : (depth : ℕ) (v : Value) → MakesNone (put_stack depth v)
unfolding put_stack
none-put_stack depth v = search (making, none-store_field) depth 24

pub none-copy_argument : (n : ℕ) (array : Value) (i : ℕ) → MakesNone (copy_argument n array i)
unfolding copy_argument
none-copy_argument n array i = search (making, none-store_field, none-stack) depth 24

pub few-make_arguments : (n : ℕ) → MakesAtMost 1 (make_arguments n)
unfolding make_arguments
few-make_arguments n = search (making, few, none-copy_argument, one_make) depth 24

pub few-make_message : (selector array : Value) → MakesAtMost 1 (make_message selector array)
unfolding make_message
few-make_message selector array = search (making, few, none-store_field, one_make) depth 24

pub few-create_message : (selector : Value) (n : ℕ) → MakesAtMost 2 (create_message selector n)
unfolding create_message
few-create_message selector n = some_then 1 1 _ (few-make_arguments n) (λ array. some_last _ (few-make_message selector array) (λ message. search (making, none-pop, none-push) depth 12))

pub few-tell : (class selector : Value) → MakesAtMost 2 (tell class selector)
unfolding tell
few-tell class selector = search (making, few, none-find, none-set_arguments, few-create_message) depth 24

pub few-find_or_tell : (class : Value) → MakesAtMost 2 (find_or_tell class)
unfolding find_or_tell
few-find_or_tell class = search (making, few, none-find, few-tell) depth 24

pub none-pass : (n len : ℕ) (context : Value) (k : ℕ) → MakesNone (pass n len context k)
unfolding pass
none-pass n len context k = search (making, none-store_field, none-stack) depth 24

pub none-fill_context : (context method : Value) (header : ℤ) → MakesNone (fill_context context method header)
unfolding fill_context
none-fill_context context method header = search (making, none-store_field) depth 24

pub few-make_context : (method : Value) (header : ℤ) (n : ℕ) → MakesAtMost 1 (make_context method header n)
unfolding make_context
few-make_context method header n = search (making, few, none-pass, none-fill_context, one_make) depth 24

pub few-activate : MakesAtMost 1 activate
unfolding activate
few-activate = search (making, few, none-pop, none-enter, few-make_context) depth 24

-- ---- answers

pub none-answer : (n : ℕ) (v : Value) → MakesNone (answer n v)
unfolding answer
none-answer n v = search (making, none-pop, none-push) depth 12

pub ends-answer : (n : ℕ) (v : Value) → EndsDone (answer n v)
unfolding answer
ends-answer n v = ends_then _ (none-pop (n + 1)) (λ _. ends_then _ (none-push v) (λ _. ends_done))

pub none-boolean : (b : Bool) → MakesNone (boolean b)
unfolding boolean
none-boolean b = search making depth 12

-- ---- numbers

pub sparing-of_numbers : (p : ℤ → ℤ → Rule Answer) → ((a b : ℤ) → MakesSparingly (p a b)) → MakesSparingly (of_numbers p)
unfolding of_numbers
sparing-of_numbers p f = sparing_then _ (none-stack 1) (λ receiver. sparing_then _ (none-stack 0) (λ argument. sparing_where_some _ _ (λ a. sparing_where_some _ _ (λ b. f a b))))

pub sparing-arithmetic : (f : ℤ → ℤ → Option ℤ) → MakesSparingly (arithmetic f)
unfolding arithmetic
sparing-arithmetic f = sparing-of_numbers _ (λ a b. sparing_where_some _ _ (λ z. sparing_none (none-answer 1 (Int z))))

pub sparing-comparison : (f : ℤ → ℤ → Bool) → MakesSparingly (comparison f)
unfolding comparison
sparing-comparison f = sparing-of_numbers _ (λ a b. sparing_then _ (none-boolean (f a b)) (λ v. sparing_none (none-answer 1 v)))

pub few-make_point : (x y : ℤ) → MakesAtMost 1 (make_point x y)
unfolding make_point
few-make_point x y = search (making, few, none-store_field, one_make) depth 24

pub sparing-point : MakesSparingly point
unfolding point
sparing-point = sparing-of_numbers _ (λ x y. sparing_end _ (few-make_point x y) (λ v. ends-answer 1 v))

-- ---- large integers

none-large_operand : (v : Value) → MakesNone (large_operand v)
unfolding large_operand
none-large_operand (Int z) = none_done (Some z)
none-large_operand (Ref n) = none_peek _ (Ref n)

none-put_bytes : (v : Value) (bytes : List ℕ) → MakesNone (put_bytes v bytes)
unfolding put_bytes
none-put_bytes v bytes = search making depth 12

few-make_large_integer : (z : ℤ) → MakesAtMost 1 (make_large_integer z)
unfolding make_large_integer
few-make_large_integer z = search (making, few, one_make, none-put_bytes) depth 24

few-large_answer : (z : ℤ) → MakesAtMost 1 (large_answer z)
unfolding large_answer
few-large_answer z = some_pick _ _ _ (at_most 1 _ (none_done _)) (few-make_large_integer z)

sparing-of_large : (p : ℤ → ℤ → Rule Answer) → ((a b : ℤ) → MakesSparingly (p a b)) → MakesSparingly (of_large p)
unfolding of_large
sparing-of_large p f = sparing_then _ (none-stack 1) (λ receiver. sparing_then _ (none-stack 0) (λ argument. sparing_try _ (none-large_operand receiver) (λ a. sparing_try _ (none-large_operand argument) (λ b. f a b))))

sparing-of_shift : (p : ℤ → ℤ → Rule Answer) → ((a b : ℤ) → MakesSparingly (p a b)) → MakesSparingly (of_shift p)
unfolding of_shift
sparing-of_shift p f = sparing_then _ (none-stack 1) (λ receiver. sparing_then _ (none-stack 0) (λ argument. sparing_try _ (none-large_operand receiver) (λ a. sparing_where_some _ _ (λ b. f a b))))

sparing-answer_result : (result : Option ℤ) → MakesSparingly (answer_result result)
unfolding answer_result
sparing-answer_result result = sparing_where_some _ _ (λ z. sparing_end _ (few-large_answer z) (λ v. ends-answer 1 v))

pub sparing-large_arithmetic : (f : ℤ → ℤ → Option ℤ) → MakesSparingly (large_arithmetic f)
unfolding large_arithmetic
sparing-large_arithmetic f = sparing-of_large _ (λ a b. sparing-answer_result (large_result f a b))

pub sparing-large_comparison : (f : ℤ → ℤ → Bool) → MakesSparingly (large_comparison f)
unfolding large_comparison
sparing-large_comparison f = sparing-of_large _ (λ a b. sparing_then _ (none-boolean (f a b)) (λ v. sparing_none (none-answer 1 v)))

pub sparing-large_shift : MakesSparingly large_shift
unfolding large_shift
sparing-large_shift = sparing-of_shift _ (λ a b. sparing-answer_result (large_result shifted a b))

-- ---- elements

pub none-index_argument : (v : Value) → MakesNone (index_argument v)
unfolding index_argument
none-index_argument (Int z) = none_done (Some z)
none-index_argument (Ref n) = none_peek _ (Ref n)

pub few-make_large : (n : ℕ) → MakesAtMost 1 (make_large n)
unfolding make_large
few-make_large n = search (making, few, one_make) depth 24

pub few-number_object : (n : ℕ) → MakesAtMost 1 (number_object n)
unfolding number_object
few-number_object n = some_pick _ _ _ (at_most 1 _ (none_done _)) (few-make_large n)

pub none-specification_of : (class : Value) → MakesNone (specification_of class)
unfolding specification_of
none-specification_of class = search making depth 24

pub none-fixed_of : (v : Value) → MakesNone (fixed_of v)
unfolding fixed_of
none-fixed_of v = search (making, none-specification_of) depth 24

pub none-spot_at : (v : Value) (e : Option ℕ) → MakesNone (spot_at v e)
none-spot_at v None = none_done None
none-spot_at v (Some e) = none_peek _ v

pub none-element_of : (array : Value) (i : ℤ) → MakesNone (element_of array i)
unfolding element_of
none-element_of array i = search (making, none-fixed_of, none-spot_at) depth 24

pub none-variable_of : (v : Value) (i : ℤ) → MakesNone (variable_of v i)
unfolding variable_of
none-variable_of v i = none-spot_at v _

pub few-element_at : (v : Value) (spot : Spot) → MakesAtMost 1 (element_at v spot)
few-element_at v (Field i) = at_most 1 _ (none_part _ _ v)
few-element_at v (Word i) = then_some _ (none_part _ _ v) few-number_object
few-element_at v (Byte i) = then_some _ (none_part _ _ v) few-number_object

pub none-put_element : (v : Value) (spot : Spot) (x : Value) (rest : Rule Answer) → MakesNone rest → MakesNone (put_element v spot x rest)
none-put_element v (Field i) x rest f = none_then _ (none_store v i x) (λ _. f)
none-put_element v (Word i) x rest f = none_try _ (none-index_argument x) (λ z. none_where_some _ _ (λ n. none_then _ (none_store_word v i n) (λ _. f)))
none-put_element v (Byte i) x rest f = none_where_some _ _ (λ n. none_then _ (none_store_byte v i n) (λ _. f))

pub none-character_of : (byte : ℕ) → MakesNone (character_of byte)
unfolding character_of
none-character_of byte = search making depth 24

pub none-byte_of_character : (v : Value) → MakesNone (byte_of_character v)
unfolding byte_of_character
none-byte_of_character v = search making depth 24

-- ---- storage

pub sparing-at : MakesSparingly at
unfolding at
sparing-at = search (making, sparing, none-stack, none-index_argument, none-element_of, few-element_at, ends-answer) depth 24

pub none-at_put : MakesNone at_put
unfolding at_put
none-at_put = search (making, trying_none, none-stack, none-index_argument, none-element_of, none-put_element, none-answer) depth 24

pub sparing-size_of : MakesSparingly size_of
unfolding size_of
sparing-size_of = search (making, sparing, none-stack, few-number_object, none-fixed_of, ends-answer) depth 24

pub none-string_at : MakesNone string_at
unfolding string_at
none-string_at = search (making, trying_none, none-stack, none-index_argument, none-element_of, none-character_of, none-answer) depth 24

pub none-string_at_put : MakesNone string_at_put
unfolding string_at_put
none-string_at_put = search (making, trying_none, none-stack, none-index_argument, none-element_of, none-put_element, none-byte_of_character, none-answer) depth 24

pub none-streamed_by : (class array : Value) → MakesNone (streamed_by class array)
unfolding streamed_by
none-streamed_by class array = search making depth 24

pub none-streamed : (array : Value) → MakesNone (streamed array)
unfolding streamed
none-streamed array = search (making, none-streamed_by) depth 24

pub sparing-of_stream : (limit : ℕ) (stream : Value) (p : Value → Bool → ℕ → ℤ → Rule Answer) → ((array : Value) (text : Bool) (index : ℕ) (bound : ℤ) → MakesSparingly (p array text index bound)) → MakesSparingly (of_stream limit stream p)
unfolding of_stream
sparing-of_stream limit stream p f = sparing_try _ (none_peek _ stream) (λ array. sparing_try _ (none-streamed array) (λ text. sparing_try _ (none_peek _ stream) (λ z. sparing_try _ (none_peek _ stream) (λ bound. sparing_where_some _ _ (λ index. f array text index bound)))))

pub sparing-next_spot : (array : Value) (index : ℕ) (bound : ℤ) (p : Spot → Rule Answer) → ((spot : Spot) → MakesSparingly (p spot)) → MakesSparingly (next_spot array index bound p)
unfolding next_spot
sparing-next_spot array index bound p f = sparing_where_true _ _ (sparing_try _ (none-element_of array _) (λ spot. sparing_where_true _ _ (f spot)))

pub none-advance : (stream : Value) (index : ℕ) → MakesNone (advance stream index)
unfolding advance
none-advance stream index = search (making, none-store_field) depth 24

pub sparing-streamed_element : (array : Value) (text : Bool) (spot : Spot) (p : Value → Rule Answer) → ((v : Value) → EndsDone (p v)) → ((v : Value) → MakesNone (p v)) → MakesSparingly (streamed_element array text spot p)
unfolding streamed_element
sparing-streamed_element array text spot p f g = sparing_pick text _ _ (sparing_none (none_try _ (none_peek _ array) (λ byte. none_try _ (none-character_of byte) g))) (sparing_end _ (few-element_at array spot) f)

pub sparing-next : MakesSparingly next
unfolding next
sparing-next = sparing_then _ (none-stack 0) (λ stream. sparing-of_stream _ stream _ (λ array text index bound. sparing-next_spot array index bound _ (λ spot. sparing-streamed_element array text spot _ (λ v. ends_then _ (none-advance stream index) (λ _. ends-answer 0 v)) (λ v. none_then _ (none-advance stream index) (λ _. none-answer 0 v)))))

pub none-put_streamed : (array : Value) (text : Bool) (spot : Spot) (v : Value) (rest : Rule Answer) → MakesNone rest → MakesNone (put_streamed array text spot v rest)
unfolding put_streamed
none-put_streamed array text spot v rest f = none_pick text _ _ (none_try _ (none-byte_of_character v) (λ byte. none-put_element array spot _ rest f)) (none-put_element array spot v rest f)

pub sparing-next_put : MakesSparingly next_put
unfolding next_put
sparing-next_put = sparing_then _ (none-stack 1) (λ stream. sparing_then _ (none-stack 0) (λ v. sparing-of_stream _ stream _ (λ array text index bound. sparing-next_spot array index bound _ (λ spot. sparing_none (none-put_streamed array text spot v _ (none_then _ (none-advance stream index) (λ _. none-answer 1 v)))))))

pub sparing-at_end : MakesSparingly at_end
unfolding at_end
sparing-at_end = sparing_then _ (none-stack 0) (λ stream. sparing-of_stream _ stream _ (λ array text index bound. sparing_none (none_try _ (none_peek _ array) (λ n. none_then _ (none-boolean _) (λ v. none-answer 0 v)))))

pub none-method_object : (method : Value) (header : ℤ) (n : ℕ) → MakesNone (method_object method header n)
none-method_object method header n = none_pick _ _ _ (none-answer 1 _) (none_where_true _ _ (none_try _ (none_peek _ method) (λ v. none-answer 1 v)))

pub none-object_at_index : MakesNone object_at_index
unfolding object_at_index
none-object_at_index = search (making, trying_none, none-stack, none-index_argument, none-method_object) depth 24

pub none-object_at_put : MakesNone object_at_put
unfolding object_at_put
none-object_at_put = search (making, trying_none, none-stack, none-index_argument, none-answer) depth 24

pub sparing-new : MakesSparingly new
unfolding new
sparing-new = search (making, sparing, none-stack, none-specification_of, one_make, ends-answer) depth 24

pub sparing-new_with_size : MakesSparingly new_with_size
unfolding new_with_size
sparing-new_with_size = search (making, sparing, none-stack, none-index_argument, none-specification_of, one_make, ends-answer) depth 24

pub sparing-new_method : MakesSparingly new_method
unfolding new_method
sparing-new_method = search (making, sparing, none-stack, one_make, ends-answer) depth 24

pub sparing-instance_variable_at : MakesSparingly instance_variable_at
unfolding instance_variable_at
sparing-instance_variable_at = search (making, sparing, none-stack, none-index_argument, none-variable_of, few-element_at, ends-answer) depth 24

pub none-instance_variable_at_put : MakesNone instance_variable_at_put
unfolding instance_variable_at_put
none-instance_variable_at_put = search (making, trying_none, none-stack, none-index_argument, none-variable_of, none-put_element, none-answer) depth 24

pub none-hash : MakesNone hash
unfolding hash
none-hash = search (making, trying_none, none-stack, none-answer) depth 24

pub none-become : MakesNone become
unfolding become
none-become = search (making, trying_none, none-stack, none-pop) depth 24

pub none-equivalent : MakesNone equivalent
unfolding equivalent
none-equivalent = search (making, trying_none, none-stack, none-answer, none-boolean) depth 24

pub none-class : MakesNone class
unfolding class
none-class = search (making, trying_none, none-stack, none-answer) depth 24

-- ---- processes

pub none-link_behind : (process list : Value) → MakesNone (link_behind process list)
unfolding link_behind
none-link_behind process list = search (making, none-store_field) depth 24

pub none-add : (process list : Value) → MakesNone (add process list)
unfolding add
none-add process list = search (making, none-store_field, none-link_behind) depth 24

pub none-empty_list : (list : Value) → MakesNone (empty_list list)
unfolding empty_list
none-empty_list list = search (making, none-store_field) depth 24

pub none-shorten : (list first : Value) → MakesNone (shorten list first)
unfolding shorten
none-shorten list first = search (making, none-store_field) depth 24

pub none-take : (list : Value) → MakesNone (take list)
unfolding take
none-take list = search (making, none-store_field, none-empty_list, none-shorten) depth 24

pub none-process_lists : MakesNone process_lists
unfolding process_lists
none-process_lists = search (making, none-scheduler) depth 24

pub none-sleep : (process : Value) → MakesNone (sleep process)
unfolding sleep
none-sleep process = search (making, none-add, none-process_lists) depth 24

pub none-wake_among : (n : ℕ) (lists : Value) → MakesNone (wake_among n lists)
unfolding wake_among
none-wake_among zero lists = none_halt _
none-wake_among (suc n) lists = none_then _ (none_part _ _ lists) (λ list. none_then _ (none_part _ _ list) (λ first. none_pick _ _ _ (none-wake_among n lists) (none-take list)))

pub none-wake : MakesNone wake
unfolding wake
none-wake = search (making, none-process_lists, none-wake_among) depth 24

pub none-current_process : MakesNone current_process
unfolding current_process
none-current_process = search (making, none-active_process) depth 24

pub none-transfer : (process : Value) → MakesNone (transfer process)
unfolding transfer
none-transfer process = search making depth 24

pub none-resume : (process : Value) → MakesNone (resume process)
unfolding resume
none-resume process = search (making, none-sleep, none-current_process, none-transfer) depth 24

pub none-switch : MakesNone switch
unfolding switch
none-switch = search (making, none-store_field, none-enter, none-scheduler) depth 40 fits 8000

pub none-check_switch : MakesNone check_switch
unfolding check_switch
none-check_switch = search (making, none-switch) depth 24

pub none-suspend_active : MakesNone suspend_active
unfolding suspend_active
none-suspend_active = search (making, none-wake, none-transfer) depth 24

pub none-add_signal : (semaphore : Value) → MakesNone (add_signal semaphore)
unfolding add_signal
none-add_signal semaphore = search (making, none-store_field) depth 24

pub none-signal : (semaphore : Value) → MakesNone (signal semaphore)
unfolding signal
none-signal semaphore = search (making, none-take, none-resume, none-add_signal) depth 24

pub none-sleep_at : (semaphore : Value) → MakesNone (sleep_at semaphore)
unfolding sleep_at
none-sleep_at semaphore = search (making, none-add, none-current_process, none-suspend_active) depth 24

pub none-wait : (semaphore : Value) → MakesNone (wait semaphore)
unfolding wait
none-wait semaphore = search (making, none-store_field, none-sleep_at) depth 24

pub none-primitive_signal : MakesNone primitive_signal
unfolding primitive_signal
none-primitive_signal = search (making, trying_none, none-stack, none-signal) depth 24

pub none-primitive_wait : MakesNone primitive_wait
unfolding primitive_wait
none-primitive_wait = search (making, trying_none, none-stack, none-wait) depth 24

pub none-has_list : (priority : ℤ) → MakesNone (has_list priority)
unfolding has_list
none-has_list priority = search (making, none-process_lists) depth 24

pub none-primitive_resume : MakesNone primitive_resume
unfolding primitive_resume
none-primitive_resume = search (making, trying_none, none-stack, none-resume, none-has_list) depth 24

pub none-primitive_suspend : MakesNone primitive_suspend
unfolding primitive_suspend
none-primitive_suspend = search (making, trying_none, none-stack, none-put_stack, none-current_process, none-suspend_active) depth 24

-- ---- blocks and performs

pub few-make_block : (home : Value) (len n : ℕ) → MakesAtMost 1 (make_block home len n)
unfolding make_block
few-make_block home len n = search (making, few, none-store_field, one_make) depth 40 fits 8000

pub sparing-block_copy : MakesSparingly block_copy
unfolding block_copy
sparing-block_copy = search (making, sparing, none-stack, few-make_block, ends-answer) depth 24

pub none-pointer_for : (block : Value) (n : ℕ) → MakesNone (pointer_for block n)
unfolding pointer_for
none-pointer_for block n = search making depth 24

pub none-block_start : (block : Value) (n : ℕ) → MakesNone (block_start block n)
unfolding block_start
none-block_start block n = search (making, none-pointer_for) depth 24

pub none-enter_block : (block : Value) (n : ℕ) (ip : ℤ) → MakesNone (enter_block block n ip)
unfolding enter_block
none-enter_block block n ip = search (making, trying_none, none-store_field, none-enter) depth 24

pub none-pass_argument : (n : ℕ) (block : Value) (k : ℕ) → MakesNone (pass_argument n block k)
unfolding pass_argument
none-pass_argument n block k = search (making, none-store_field, none-stack) depth 24

pub none-value : MakesNone value
unfolding value
none-value = search (making, trying_none, none-stack, none-pop, none-block_start, none-enter_block, none-pass_argument) depth 40 fits 8000

pub none-array_length : (array : Value) → MakesNone (array_length array)
unfolding array_length
none-array_length array = search making depth 24

pub none-pass_element : (array block : Value) (k : ℕ) → MakesNone (pass_element array block k)
unfolding pass_element
none-pass_element array block k = search (making, none-store_field) depth 24

pub none-value_with_arguments : MakesNone value_with_arguments
unfolding value_with_arguments
none-value_with_arguments = search (making, trying_none, none-stack, none-pop, none-block_start, none-enter_block, none-array_length, none-pass_element) depth 40 fits 8000

pub none-taking : (n : ℕ) (o : Option Value) → MakesNone (taking n o)
unfolding taking
none-taking n None = none_done None
none-taking n (Some v) = search (making, none-arguments_of) depth 14

pub none-method_for : (receiver selector : Value) (n : ℕ) → MakesNone (method_for receiver selector n)
unfolding method_for
none-method_for receiver selector n = search (making, none-find_from, none-taking) depth 14

pub none-execute_found : (method : Value) (n : ℕ) → MakesNone (execute_found method n)
unfolding execute_found
none-execute_found method n = search (making, trying_none, none-set_arguments) depth 24

pub none-move_down : (n k : ℕ) → MakesNone (move_down n k)
unfolding move_down
none-move_down n k = search (making, none-stack, none-put_stack) depth 24

pub none-perform_with : (n : ℕ) → MakesNone (perform_with n)
unfolding perform_with
none-perform_with n = search (making, trying_none, none-stack, none-pop, none-method_for, none-execute_found, none-move_down) depth 40 fits 8000

pub none-perform : MakesNone perform
unfolding perform
none-perform = search (making, trying_none, none-perform_with) depth 24

pub none-has_room : (n : ℕ) → MakesNone (has_room n)
unfolding has_room
none-has_room n = search making depth 24

pub none-push_element : (array : Value) (k : ℕ) → MakesNone (push_element array k)
unfolding push_element
none-push_element array k = search (making, none-push) depth 24

pub none-perform_with_arguments : MakesNone perform_with_arguments
unfolding perform_with_arguments
none-perform_with_arguments = search (making, trying_none, none-stack, none-pop, none-array_length, none-method_for, none-execute_found, none-has_room, none-push_element) depth 40 fits 8000

pub none-flush_cache : MakesNone flush_cache
unfolding flush_cache
none-flush_cache = search (making, trying_none) depth 24

pub none-quit : MakesNone quit
unfolding quit
none-quit = search (making, trying_none) depth 24

-- ---- forms and blits

pub none-count_of : (bits : Option Value) → MakesNone (count_of bits)
none-count_of None = none_done None
none-count_of (Some bits) = none_peek _ bits

pub none-form_where : (enough : (Extent → ℕ → Bool)) (v : Value) → MakesNone (form_where enough v)
unfolding form_where
none-form_where enough v = search (making, none-count_of) depth 24

pub none-form_of : (v : Value) → MakesNone (form_of v)
unfolding form_of
none-form_of v = search (making, none-form_where) depth 24

pub none-form_or_nil : (shape : Value → Rule (Option Form)) (v : Value) → MakesNone (shape v) → MakesNone (form_or_nil shape v)
unfolding form_or_nil
none-form_or_nil shape v f = none_pick _ _ _ (none_done _) (none_then _ f (λ o. none_done _))

pub none-words_or : (others : List ℕ) (form : Option Form) → MakesNone (words_or others form)
none-words_or others None = none_done others
none-words_or others (Some f) = none_part _ _ f.bits

pub none-copy : (q : Asked) (dest : Form) (source : Option Form) (halftone : Option Form) → MakesNone (copy q dest source halftone)
unfolding copy
none-copy q dest source halftone = search (making, none-words_or) depth 24

pub none-copy_bits : MakesNone copy_bits
unfolding copy_bits
none-copy_bits = none_then _ (none-stack 0) (λ blit. none_try _ (none_peek _ blit) (λ q. none_try _ (none_peek _ blit) (λ dest_form. none_try _ (none-form_of dest_form) (λ dest.
    none_try _ (none_peek _ blit) (λ source_form. none_try _ (none-form_or_nil _ source_form (none-form_of source_form)) (λ source.
    none_try _ (none_peek _ blit) (λ tone_form. none_try _ (none-form_or_nil _ tone_form (none-form_where _ tone_form)) (λ halftone.
    none_then _ (none-copy q dest source halftone) (λ _. none_done _)))))))))

-- ---- devices

pub none-semaphore_or_nil : (v : Value) → MakesNone (semaphore_or_nil v)
unfolding semaphore_or_nil
none-semaphore_or_nil v = search making depth 24

pub none-put_semaphore : (r : ℕ) (v : Value) (there : Bool) → MakesNone (put_semaphore r v there)
unfolding put_semaphore
none-put_semaphore r v there = search making depth 24

pub none-set_input : (semaphore : Value) (there : Bool) → MakesNone (set_input semaphore there)
unfolding set_input
none-set_input semaphore there = search (making, trying_none, none-pop, none-put_semaphore) depth 24

pub none-input_semaphore : MakesNone input_semaphore
unfolding input_semaphore
none-input_semaphore = search (making, trying_none, none-stack, none-semaphore_or_nil, none-set_input) depth 24

pub sparing-take_word : (word : ℕ) → MakesSparingly (take_word word)
unfolding take_word
sparing-take_word word = sparing_end _ (few-number_object word) (λ v. ends_then _ none_numbers (λ cpu. ends_then _ (none_set_numbers _) (λ _. ends-answer 0 v)))

pub sparing-input_word : (events : List Line) → MakesSparingly (input_word events)
unfolding input_word
sparing-input_word events = search (making, sparing, sparing-take_word) depth 24

pub none-put_tick : (v : Value) (tick : ℕ) → MakesNone (put_tick v tick)
unfolding put_tick
none-put_tick v tick = search making depth 24

pub none-tick_words : MakesNone tick_words
unfolding tick_words
none-tick_words = search (making, trying_none, none-stack, none-pop, none-put_tick) depth 24

pub none-set_timer : (semaphore : Value) (there : Bool) (tick : ℕ) → MakesNone (set_timer semaphore there tick)
unfolding set_timer
none-set_timer semaphore there tick = search (making, trying_none, none-pop, none-put_semaphore) depth 24

pub none-signal_at_tick : MakesNone signal_at_tick
unfolding signal_at_tick
none-signal_at_tick = search (making, trying_none, none-stack, none-semaphore_or_nil, none-set_timer) depth 24

pub none-keep_machine : MakesNone keep_machine
unfolding keep_machine
none-keep_machine = search (making, trying_none, none-stack) depth 24

pub none-show_form : (form : Value) → MakesNone (show_form form)
unfolding show_form
none-show_form form = search (making, trying_none) depth 24

pub none-be_display : MakesNone be_display
unfolding be_display
none-be_display = search (making, trying_none, none-stack, none-form_of, none-show_form) depth 24

pub none-string_text : (v : Value) → MakesNone (string_text v)
unfolding string_text
none-string_text v = search making depth 24

pub none-say_string : MakesNone say_string
unfolding say_string
none-say_string = search (making, trying_none, none-stack, none-pop, none-string_text) depth 24

pub none-join_queue : MakesNone join_queue
unfolding join_queue
none-join_queue = search (making, none-signal) depth 24

pub none-take_event : (event : Event) → MakesNone (take_event event)
none-take_event (event.Word word) = none-join_queue
none-take_event event.Purge = none_done tt
none-take_event event.Compact = none_done tt

pub none-take_line : (line : Line) → MakesNone (take_line line)
unfolding take_line
none-take_line line = search (making, none-take_event) depth 24

pub none-take_lines : (count : ℕ) (lines : List Line) → MakesNone (take_lines count lines)
none-take_lines count [] = none_done tt
none-take_lines count (line ∷ lines) = none_pick _ _ _ (none_then _ (none-take_line line) (λ _. none-take_lines count lines)) (none_done tt)

pub none-events_due : (events : List Line) → MakesNone (events_due events)
unfolding events_due
none-events_due events = search (making, none-take_lines) depth 24

pub none-fire : MakesNone fire
unfolding fire
none-fire = search (making, none-signal) depth 24

pub none-check_timer : MakesNone check_timer
unfolding check_timer
none-check_timer = search (making, none-fire) depth 24

pub none-due : (events : List Line) → MakesNone (due events)
unfolding due
none-due events = search (making, none-events_due, none-check_timer) depth 24

pub none-display_form : MakesNone display_form
unfolding display_form
none-display_form = search (making, none-form_of) depth 24

pub none-display_row : (y : ℕ) → MakesNone (display_row y)
unfolding display_row
none-display_row y = search (making, none-display_form) depth 24

pub none-picture_of : (form : Option Form) → MakesNone (picture_of form)
none-picture_of None = none_done []
none-picture_of (Some form) = none_then _ (none_part _ _ form.bits) (λ words. none_done _)

pub none-picture : MakesNone picture
unfolding picture
none-picture = search (making, none-display_form, none-picture_of) depth 24

-- ---- the start and the end

pub none-hold : (r : ℕ) (o : Option ℕ) → MakesNone (hold r o)
none-hold r None = none_done tt
none-hold r (Some n) = none_then _ (none_known n) (λ v. none_put_register r v)

pub none-restore : (state : State) → MakesNone (restore state)
unfolding restore
none-restore state = search (making, none-hold) depth 24

pub none-begin : (state : State) → MakesNone (begin state)
unfolding begin
none-begin state = search (making, none-start, none-restore) depth 24
