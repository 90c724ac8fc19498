-- The law of thinning, for each rule.
use Rattle.std.specs.Prelude.{if◌then◌else◌, ◌==◌}
use Rattle.std.proofs.Common.{ℕ, ℤ, pos, negsuc, zero, suc, Bool, true, false, List, Option, Some, None, refl}
use Rattle.long_names.specs.declared.value.Value.TheVariants.{Int, Ref}
use Rattle.long_names.specs.declared.value.Value.{Value}
use Rattle.blue_model.specs.declared.indexes.TheConstants.{FIRST_LINK_INDEX}
use Rattle.blue_model.specs.Machine.{Rule}
use Rattle.blue_model.specs.Contexts.{store_field, push, stack, pop, pop_top, byte_of, fetch, jump, need_method, put_context, load_home, load, store_registers, enter, nil_context, back, back_with, scheduler, active_process, start, park_new, park}
use Rattle.blue_model.specs.Lookup.{method_at, find_in, found_or, find_from, put_found, find, find_from_register}
use Rattle.blue_model.specs.Messages.{arguments_of, set_arguments, put_stack, copy_argument, make_arguments, make_message, create_message, tell, find_or_tell, pass, fill_context, make_context, activate}
use Rattle.blue_model.specs.Processes.{link_behind, add, empty_list, shorten, take, process_lists, sleep, wake_among, wake, current_process, transfer, resume, switch, check_switch, suspend_active, add_signal, signal, sleep_at, wait, primitive_signal, primitive_wait, has_list, primitive_resume, primitive_suspend}
use Rattle.blue_model.specs.Control.{make_block, block_copy, pointer_for, block_start, enter_block, pass_argument, value, array_length, pass_element, value_with_arguments, taking, method_for, execute_found, move_down, perform_with, perform, has_room, push_element, perform_with_arguments, flush_cache, quit}
use Rattle.blue_model.specs.Alike.{Lost, IsKept, IsKeptMaybe, IsPlain, Lawful}
use Rattle.blue_model.specs.declared.answer.Answer.{Answer}
use Rattle.blue_model.specs.declared.spot.Spot.{Spot}
use Rattle.blue_model.specs.declared.spot.Spot.TheVariants.{Field, Word, Byte}
use Rattle.blue_model.specs.Trials.{answer, boolean}
use Rattle.blue_model.specs.Arithmetic.{of_numbers, arithmetic, comparison, make_point, point, shifted}
use Rattle.blue_model.specs.LargeInts.{large_operand, put_bytes, make_large_integer, large_answer, of_large, of_shift, answer_result, large_result, large_arithmetic, large_comparison, large_shift}
use Rattle.blue_model.specs.Elements.{index_argument, make_large, number_object, specification_of, fixed_of, spot_at, element_of, variable_of, element_at, put_element, character_of, byte_of_character}
use Rattle.blue_model.specs.Storage.{at, at_put, size_of, string_at, string_at_put, streamed_by, streamed, of_stream, next_spot, advance, streamed_element, next, put_streamed, next_put, at_end, method_object, object_at_index, object_at_put, new, new_with_size, new_method, instance_variable_at, instance_variable_at_put, hash, equivalent, class, become}
use Rattle.blue_model.proofs.LawSteps.{lawful, trying, then_plain, then_value, law_part_value, try_plain, law_pick, law_done, law_store, law_store_word, law_store_byte, law_each, law_where_some, law_peek, done_plain}
use Rattle.blue_model.proofs.AlikeLaws.{kept_int}
use Rattle.blue_model.proofs.WithinLaws.{within_field}

-- ---- contexts

pub law-store_field : {w : Lost} (of : Value) (i : ℕ) (v : Value) → IsKept w of → IsKept w v → Lawful w IsPlain (store_field of i v)
unfolding store_field
law-store_field {w} of i v k l = search lawful depth 12

pub law-push : {w : Lost} (v : Value) → IsKept w v → Lawful w IsPlain (push v)
unfolding push
law-push {w} v k = search (lawful, law-store_field) depth 14

pub law-stack : {w : Lost} (depth : ℕ) → Lawful w (IsKept w) (stack depth)
unfolding stack
law-stack {w} depth = search lawful depth 12

pub law-pop : {w : Lost} (n : ℕ) → Lawful w IsPlain (pop n)
unfolding pop
law-pop {w} n = search lawful depth 12

pub law-pop_top : {w : Lost} → Lawful w (IsKept w) pop_top
unfolding pop_top
law-pop_top {w} = search (lawful, law-stack, law-pop) depth 12

pub law-byte_of : {w : Lost} (ip : ℤ) (method : Value) → IsKept w method → Lawful w IsPlain (byte_of ip method)
unfolding byte_of
law-byte_of {w} ip method k = search lawful depth 12

pub law-fetch : {w : Lost} → Lawful w IsPlain fetch
unfolding fetch
law-fetch {w} = search (lawful, law-byte_of) depth 12

pub law-jump : {w : Lost} (distance : ℤ) → Lawful w IsPlain (jump distance)
unfolding jump
law-jump {w} distance = search (lawful, law-byte_of) depth 12

pub law-need_method : {w : Lost} (method : Value) → IsKept w method → Lawful w IsPlain (need_method method)
unfolding need_method
law-need_method {w} method k = search lawful depth 12

pub law-put_context : {w : Lost} (context home method receiver : Value) → IsKept w context → IsKept w home → IsKept w method → IsKept w receiver → Lawful w IsPlain (put_context context home method receiver)
unfolding put_context
law-put_context {w} context home method receiver c h m r = search lawful depth 12

pub law-load_home : {w : Lost} (context home : Value) (ip depth : ℤ) → IsKept w context → IsKept w home → Lawful w IsPlain (load_home context home ip depth)
unfolding load_home
law-load_home {w} context home ip depth c h = search (lawful, law-need_method, law-put_context) depth 30 fits 5000

pub law-load : {w : Lost} (context : Value) → IsKept w context → Lawful w IsPlain (load context)
unfolding load
law-load {w} context k = search (lawful, law-load_home) depth 30 fits 5000

pub law-store_registers : {w : Lost} → Lawful w IsPlain store_registers
unfolding store_registers
law-store_registers {w} = search (lawful, law-store_field) depth 16

pub law-enter : {w : Lost} (context : Value) → IsKept w context → Lawful w IsPlain (enter context)
unfolding enter
law-enter {w} context k = search (lawful, law-store_registers, law-load) depth 12

pub law-nil_context : {w : Lost} → Lawful w IsPlain nil_context
unfolding nil_context
law-nil_context {w} = search (lawful, law-store_field) depth 12

pub law-back : {w : Lost} (context : Value) → IsKept w context → Lawful w IsPlain (back context)
unfolding back
law-back {w} context k = search (lawful, law-nil_context, law-load) depth 12

pub law-back_with : {w : Lost} (context v : Value) → IsKept w context → IsKept w v → Lawful w IsPlain (back_with context v)
unfolding back_with
law-back_with {w} context v k l = search (lawful, law-back, law-push) depth 12

pub law-scheduler : {w : Lost} → Lawful w (IsKept w) scheduler
unfolding scheduler
law-scheduler {w} = search lawful depth 12

pub law-active_process : {w : Lost} → Lawful w (IsKept w) active_process
unfolding active_process
law-active_process {w} = search (lawful, law-scheduler) depth 12

pub law-start : {w : Lost} → Lawful w IsPlain start
unfolding start
law-start {w} = search (lawful, law-active_process, law-load) depth 16

pub law-park_new : {w : Lost} (scheduler : Value) → IsKept w scheduler → Lawful w IsPlain (park_new scheduler)
unfolding park_new
law-park_new {w} scheduler k = search (lawful, law-store_field) depth 14

pub law-park : {w : Lost} → Lawful w IsPlain park
unfolding park
law-park {w} = search (lawful, law-store_registers, law-scheduler, law-store_field, law-park_new) depth 16

-- ---- lookup

pub law-method_at : {w : Lost} (dictionary : Value) (place : Option ℕ) → IsKept w dictionary → Lawful w (IsKeptMaybe w) (method_at dictionary place)
unfolding method_at
law-method_at {w} dictionary None k = search lawful depth 12
law-method_at {w} dictionary (Some place) k = search lawful depth 12

pub law-find_in : {w : Lost} (selector class : Value) → IsKept w selector → IsKept w class → Lawful w (IsKeptMaybe w) (find_in selector class)
unfolding find_in
law-find_in {w} selector class k l = search (lawful, law-method_at) depth 14

pub law-found_or : {w : Lost} (o : Option Value) (rest : Rule (Option Value)) → IsKeptMaybe w o → Lawful w (IsKeptMaybe w) rest → Lawful w (IsKeptMaybe w) (found_or o rest)
unfolding found_or
law-found_or {w} None rest k f = f
law-found_or {w} (Some v) rest k f = law_done (Some v) k

pub law-find_from : {w : Lost} (n : ℕ) (selector class : Value) → IsKept w selector → IsKept w class → Lawful w (IsKeptMaybe w) (find_from n selector class)
unfolding find_from
law-find_from {w} zero selector class k l = search lawful depth 12
law-find_from {w} (suc n) selector class k l = let next : (superclass : Value) → IsKept w superclass → Lawful w (IsKeptMaybe w) (find_from n selector superclass) = λ superclass j. law-find_from {w = w} n selector superclass k j in search (lawful, law-find_in, law-found_or, next) depth 12

pub law-put_found : {w : Lost} (o : Option Value) → IsKeptMaybe w o → Lawful w IsPlain (put_found o)
unfolding put_found
law-put_found {w} None k = search lawful depth 12
law-put_found {w} (Some v) k = let kept : IsKept w v = k.kept v refl in search lawful depth 12

pub law-find : {w : Lost} (class : Value) → IsKept w class → Lawful w IsPlain (find class)
unfolding find
law-find {w} class k = search (lawful, law-find_from, law-put_found) depth 12

pub law-find_from_register : {w : Lost} (r : ℕ) → Lawful w IsPlain (find_from_register r)
law-find_from_register {w} r = search (lawful, law-find) depth 12

-- ---- messages

pub law-set_arguments : {w : Lost} (n : ℕ) → Lawful w IsPlain (set_arguments n)
unfolding set_arguments
law-set_arguments {w} n = search lawful depth 12

pub law-copy_argument : {w : Lost} (n : ℕ) (array : Value) (i : ℕ) → IsKept w array → Lawful w IsPlain (copy_argument n array i)
unfolding copy_argument
law-copy_argument {w} n array i k = search (lawful, law-stack, law-store_field) depth 12

pub law-make_arguments : {w : Lost} (n : ℕ) → Lawful w (IsKept w) (make_arguments n)
unfolding make_arguments
law-make_arguments {w} n = search (lawful, law-copy_argument) depth 16

pub law-make_message : {w : Lost} (selector array : Value) → IsKept w selector → IsKept w array → Lawful w (IsKept w) (make_message selector array)
unfolding make_message
law-make_message {w} selector array k l = search (lawful, law-store_field) depth 16

pub law-create_message : {w : Lost} (selector : Value) (n : ℕ) → IsKept w selector → Lawful w IsPlain (create_message selector n)
unfolding create_message
law-create_message {w} selector n k = search (lawful, law-make_arguments, law-make_message, law-pop, law-push) depth 16

pub law-tell : {w : Lost} (class selector : Value) → IsKept w class → IsKept w selector → Lawful w IsPlain (tell class selector)
unfolding tell
law-tell {w} class selector k l = search (lawful, law-create_message, law-set_arguments, law-find) depth 20

pub law-find_or_tell : {w : Lost} (class : Value) → IsKept w class → Lawful w IsPlain (find_or_tell class)
unfolding find_or_tell
law-find_or_tell {w} class k = search (lawful, law-tell, law-find) depth 16

pub law-pass : {w : Lost} (n len : ℕ) (context : Value) (k : ℕ) → IsKept w context → Lawful w IsPlain (pass n len context k)
unfolding pass
law-pass {w} n len context k kept = search (lawful, law-stack, law-store_field) depth 12

pub law-fill_context : {w : Lost} (context method : Value) (header : ℤ) → IsKept w context → IsKept w method → Lawful w IsPlain (fill_context context method header)
unfolding fill_context
law-fill_context {w} context method header k l = search (lawful, law-store_field) depth 16

pub law-make_context : {w : Lost} (method : Value) (header : ℤ) (n : ℕ) → IsKept w method → Lawful w (IsKept w) (make_context method header n)
unfolding make_context
law-make_context {w} method header n k = search (lawful, law-fill_context, law-pass) depth 16

pub law-activate : {w : Lost} → Lawful w IsPlain activate
unfolding activate
law-activate {w} = search (lawful, law-make_context, law-pop, law-enter) depth 16

pub law-put_stack : {w : Lost} (depth : ℕ) (v : Value) → IsKept w v → Lawful w IsPlain (put_stack depth v)
unfolding put_stack
law-put_stack {w} depth v k = search (lawful, law-store_field) depth 16

pub law-arguments_of : {w : Lost} (method : Value) → IsKept w method → Lawful w IsPlain (arguments_of method)
unfolding arguments_of
law-arguments_of {w} method k = search lawful depth 14

-- ---- primitives

pub law-answer : {w : Lost} (n : ℕ) (v : Value) → IsKept w v → Lawful w IsPlain (answer n v)
unfolding answer
law-answer {w} n v k = search (lawful, law-pop, law-push) depth 12

pub law-boolean : {w : Lost} (b : Bool) → Lawful w (IsKept w) (boolean b)
unfolding boolean
law-boolean {w} b = search lawful depth 12

pub law-of_numbers : {w : Lost} (p : ℤ → ℤ → Rule Answer) → ((a b : ℤ) → Lawful w IsPlain (p a b)) → Lawful w IsPlain (of_numbers p)
unfolding of_numbers
law-of_numbers {w} p f = search (lawful, trying, law-stack, f) depth 14

pub law-arithmetic : {w : Lost} (f : ℤ → ℤ → Option ℤ) → Lawful w IsPlain (arithmetic f)
unfolding arithmetic
law-arithmetic {w} f = search (lawful, trying, law-of_numbers, law-answer) depth 14

pub law-comparison : {w : Lost} (f : ℤ → ℤ → Bool) → Lawful w IsPlain (comparison f)
unfolding comparison
law-comparison {w} f = search (lawful, trying, law-of_numbers, law-boolean, law-answer) depth 14

pub law-make_point : {w : Lost} (x y : ℤ) → Lawful w (IsKept w) (make_point x y)
unfolding make_point
law-make_point {w} x y = search (lawful, law-store_field) depth 16

pub law-point : {w : Lost} → Lawful w IsPlain point
unfolding point
law-point {w} = search (lawful, trying, law-of_numbers, law-make_point, law-answer) depth 14

-- ---- large integers

pub law-large_operand : {w : Lost} (v : Value) → IsKept w v → Lawful w IsPlain (large_operand v)
unfolding large_operand
law-large_operand (Int z) k = done_plain (Some z)
law-large_operand (Ref n) k = law_peek _ (Ref n) k

pub law-put_bytes : {w : Lost} (v : Value) (bytes : List ℕ) → IsKept w v → Lawful w IsPlain (put_bytes v bytes)
unfolding put_bytes
law-put_bytes v bytes k = law_each _ _ (λ i. law_store_byte v i _ k)

pub law-make_large_integer : {w : Lost} (z : ℤ) → Lawful w (IsKept w) (make_large_integer z)
unfolding make_large_integer
law-make_large_integer {w} (pos n) = search (lawful, law-put_bytes) depth 16
law-make_large_integer {w} (negsuc n) = search (lawful, law-put_bytes) depth 16

pub law-large_answer : {w : Lost} (z : ℤ) → Lawful w (IsKept w) (large_answer z)
unfolding large_answer
law-large_answer {w} z = search (lawful, law-make_large_integer) depth 12

pub law-of_large : {w : Lost} (p : ℤ → ℤ → Rule Answer) → ((a b : ℤ) → Lawful w IsPlain (p a b)) → Lawful w IsPlain (of_large p)
unfolding of_large
law-of_large {w} p f = search (lawful, trying, law-stack, law-large_operand, f) depth 14

pub law-of_shift : {w : Lost} (p : ℤ → ℤ → Rule Answer) → ((a b : ℤ) → Lawful w IsPlain (p a b)) → Lawful w IsPlain (of_shift p)
unfolding of_shift
law-of_shift {w} p f = search (lawful, trying, law-stack, law-large_operand, f) depth 14

pub law-answer_result : {w : Lost} (result : Option ℤ) → Lawful w IsPlain (answer_result result)
unfolding answer_result
law-answer_result {w} result = search (lawful, trying, law-large_answer, law-answer) depth 14

pub law-large_arithmetic : {w : Lost} (f : ℤ → ℤ → Option ℤ) → Lawful w IsPlain (large_arithmetic f)
unfolding large_arithmetic
law-large_arithmetic f = law-of_large _ (λ a b. law-answer_result (large_result f a b))

pub law-large_comparison : {w : Lost} (f : ℤ → ℤ → Bool) → Lawful w IsPlain (large_comparison f)
unfolding large_comparison
law-large_comparison {w} f = search (lawful, trying, law-of_large, law-boolean, law-answer) depth 14

pub law-large_shift : {w : Lost} → Lawful w IsPlain large_shift
unfolding large_shift
law-large_shift = law-of_shift _ (λ a b. law-answer_result (large_result shifted a b))

-- ---- elements

pub law-index_argument : {w : Lost} (v : Value) → IsKept w v → Lawful w IsPlain (index_argument v)
unfolding index_argument
law-index_argument (Int z) k = done_plain (Some z)
law-index_argument (Ref n) k = law_peek _ (Ref n) k

pub law-make_large : {w : Lost} (n : ℕ) → Lawful w (IsKept w) (make_large n)
unfolding make_large
law-make_large {w} n = search lawful depth 16

pub law-number_object : {w : Lost} (n : ℕ) → Lawful w (IsKept w) (number_object n)
unfolding number_object
law-number_object {w} n = search (lawful, law-make_large) depth 12

pub law-specification_of : {w : Lost} (v : Value) → IsKept w v → Lawful w IsPlain (specification_of v)
unfolding specification_of
law-specification_of {w} v k = search (lawful, trying) depth 12

pub law-fixed_of : {w : Lost} (v : Value) → IsKept w v → Lawful w IsPlain (fixed_of v)
unfolding fixed_of
law-fixed_of {w} v k = search (lawful, law-specification_of) depth 12

pub law-spot_at : {w : Lost} (v : Value) (e : Option ℕ) → IsKept w v → Lawful w IsPlain (spot_at v e)
law-spot_at v None k = done_plain None
law-spot_at v (Some e) k = law_peek _ v k

pub law-element_of : {w : Lost} (v : Value) (i : ℤ) → IsKept w v → Lawful w IsPlain (element_of v i)
unfolding element_of
law-element_of {w} v i k = search (lawful, law-fixed_of, law-spot_at) depth 12

pub law-variable_of : {w : Lost} (v : Value) (i : ℤ) → IsKept w v → Lawful w IsPlain (variable_of v i)
unfolding variable_of
law-variable_of {w} v i k = search law-spot_at depth 12

pub law-element_at : {w : Lost} (v : Value) (spot : Spot) → IsKept w v → Lawful w (IsKept w) (element_at v spot)
law-element_at v (Field i) k = search lawful depth 12
law-element_at v (Word i) k = search (lawful, law-number_object) depth 12
law-element_at v (Byte i) k = search (lawful, law-number_object) depth 12

pub law-put_element : {w : Lost} (v : Value) (spot : Spot) (x : Value) (rest : Rule Answer) → IsKept w v → IsKept w x → Lawful w IsPlain rest → Lawful w IsPlain (put_element v spot x rest)
law-put_element v (Field i) x rest k l f = then_plain (λ _. rest) (law_store v i x k l) (λ _. f)
law-put_element v (Word i) x rest k l f = try_plain _ (law-index_argument x l) (λ z. law_where_some _ _ (λ n. then_plain (λ _. rest) (law_store_word v i n k) (λ _. f)))
law-put_element v (Byte i) x rest k l f = law_where_some _ _ (λ n. then_plain (λ _. rest) (law_store_byte v i n k) (λ _. f))

pub law-character_of : {w : Lost} (byte : ℕ) → Lawful w (IsKeptMaybe w) (character_of byte)
unfolding character_of
law-character_of {w} byte = search (lawful, trying) depth 12

pub law-byte_of_character : {w : Lost} (v : Value) → IsKept w v → Lawful w IsPlain (byte_of_character v)
unfolding byte_of_character
law-byte_of_character {w} v k = search (lawful, trying) depth 12

ruleset elements = (law-index_argument, law-number_object, law-specification_of, law-fixed_of, law-element_of, law-variable_of, law-element_at, law-put_element, law-character_of, law-byte_of_character, law-boolean, law-answer, law-stack, law-store_field)

pub law-at : {w : Lost} → Lawful w IsPlain at
unfolding at
law-at {w} = search (lawful, trying, elements) depth 16

pub law-at_put : {w : Lost} → Lawful w IsPlain at_put
unfolding at_put
law-at_put {w} = search (lawful, trying, elements) depth 16

pub law-size_of : {w : Lost} → Lawful w IsPlain size_of
unfolding size_of
law-size_of {w} = search (lawful, trying, elements) depth 16

pub law-string_at : {w : Lost} → Lawful w IsPlain string_at
unfolding string_at
law-string_at {w} = search (lawful, trying, elements) depth 18

pub law-string_at_put : {w : Lost} → Lawful w IsPlain string_at_put
unfolding string_at_put
law-string_at_put {w} = search (lawful, trying, elements) depth 20

pub law-streamed : {w : Lost} (v : Value) → IsKept w v → Lawful w IsPlain (streamed v)
unfolding streamed streamed_by
law-streamed {w} v k = search (lawful, trying) depth 14

pub law-of_stream : {w : Lost} (limit : ℕ) (stream : Value) (p : Value → Bool → ℕ → ℤ → Rule Answer) → IsKept w stream → ((array : Value) (text : Bool) (index : ℕ) (bound : ℤ) → IsKept w array → Lawful w IsPlain (p array text index bound)) → Lawful w IsPlain (of_stream limit stream p)
unfolding of_stream
law-of_stream {w} limit stream p k f = search (lawful, trying, law-streamed, f) depth 16

pub law-next_spot : {w : Lost} (array : Value) (index : ℕ) (bound : ℤ) (p : Spot → Rule Answer) → IsKept w array → ((spot : Spot) → Lawful w IsPlain (p spot)) → Lawful w IsPlain (next_spot array index bound p)
unfolding next_spot
law-next_spot {w} array index bound p k f = search (lawful, trying, elements, f) depth 14

pub law-advance : {w : Lost} (stream : Value) (index : ℕ) → IsKept w stream → Lawful w IsPlain (advance stream index)
unfolding advance
law-advance {w} stream index k = search (lawful, law-store_field) depth 12

pub law-streamed_element : {w : Lost} (array : Value) (text : Bool) (spot : Spot) (p : Value → Rule Answer) → IsKept w array → ((v : Value) → IsKept w v → Lawful w IsPlain (p v)) → Lawful w IsPlain (streamed_element array text spot p)
unfolding streamed_element
law-streamed_element {w} array text spot p k f = search (lawful, trying, elements, f) depth 16

pub law-put_streamed : {w : Lost} (array : Value) (text : Bool) (spot : Spot) (v : Value) (rest : Rule Answer) → IsKept w array → IsKept w v → Lawful w IsPlain rest → Lawful w IsPlain (put_streamed array text spot v rest)
unfolding put_streamed
law-put_streamed array text spot v rest k l f = law_pick text _ _ (try_plain _ (law-byte_of_character v l) (λ byte. law-put_element array spot _ rest k (kept_int _) f)) (law-put_element array spot v rest k l f)

ruleset streams = (law-of_stream, law-next_spot, law-advance, law-streamed_element, law-put_streamed)

pub law-next : {w : Lost} → Lawful w IsPlain next
unfolding next
law-next {w} = search (lawful, trying, elements, streams) depth 20

pub law-next_put : {w : Lost} → Lawful w IsPlain next_put
unfolding next_put
law-next_put {w} = search (lawful, trying, elements, streams) depth 20

pub law-at_end : {w : Lost} → Lawful w IsPlain at_end
unfolding at_end
law-at_end {w} = search (lawful, trying, elements, streams) depth 20

pub law-method_object : {w : Lost} (method : Value) (header : ℤ) (n : ℕ) → IsKept w method → Lawful w IsPlain (method_object method header n)
law-method_object {w} method header n k = search (lawful, trying, elements) depth 14

pub law-object_at_index : {w : Lost} → Lawful w IsPlain object_at_index
unfolding object_at_index
law-object_at_index {w} = search (lawful, trying, elements, law-method_object) depth 18

pub law-object_at_put : {w : Lost} → Lawful w IsPlain object_at_put
unfolding object_at_put
law-object_at_put {w} = search (lawful, trying, elements) depth 20

pub law-new : {w : Lost} → Lawful w IsPlain new
unfolding new
law-new {w} = search (lawful, trying, elements) depth 16

pub law-new_with_size : {w : Lost} → Lawful w IsPlain new_with_size
unfolding new_with_size
law-new_with_size {w} = search (lawful, trying, elements) depth 20

pub law-new_method : {w : Lost} → Lawful w IsPlain new_method
unfolding new_method
law-new_method {w} = search (lawful, trying, elements) depth 20

pub law-instance_variable_at : {w : Lost} → Lawful w IsPlain instance_variable_at
unfolding instance_variable_at
law-instance_variable_at {w} = search (lawful, trying, elements) depth 18

pub law-instance_variable_at_put : {w : Lost} → Lawful w IsPlain instance_variable_at_put
unfolding instance_variable_at_put
law-instance_variable_at_put {w} = search (lawful, trying, elements) depth 20

pub law-hash : {w : Lost} → Lawful w IsPlain hash
unfolding hash
law-hash {w} = search (lawful, trying, elements) depth 14

pub law-equivalent : {w : Lost} → Lawful w IsPlain equivalent
unfolding equivalent
law-equivalent {w} = search (lawful, trying, elements) depth 14

pub law-become : {w : Lost} → Lawful w IsPlain become
unfolding become
law-become {w} = search (lawful, trying, elements, law-pop) depth 20

pub law-class : {w : Lost} → Lawful w IsPlain class
unfolding class
law-class {w} = search (lawful, trying, elements) depth 14

-- ---- processes

pub law-link_behind : {w : Lost} (process list : Value) → IsKept w process → IsKept w list → Lawful w IsPlain (link_behind process list)
unfolding link_behind
law-link_behind {w} process list k l = search (lawful, law-store_field) depth 12

pub law-add : {w : Lost} (process list : Value) → IsKept w process → IsKept w list → Lawful w IsPlain (add process list)
unfolding add
law-add {w} process list k l = search (lawful, law-store_field, law-link_behind) depth 14

pub law-empty_list : {w : Lost} (list : Value) → IsKept w list → Lawful w IsPlain (empty_list list)
unfolding empty_list
law-empty_list {w} list k = search (lawful, law-store_field) depth 12

pub law-shorten : {w : Lost} (list first : Value) → IsKept w list → IsKept w first → Lawful w IsPlain (shorten list first)
unfolding shorten
law-shorten {w} list first k l = search (lawful, law-store_field) depth 12

pub law-take : {w : Lost} (list : Value) → IsKept w list → Lawful w (IsKept w) (take list)
unfolding take
law-take {w} list k = search (lawful, law-store_field, law-empty_list, law-shorten) depth 16

pub law-process_lists : {w : Lost} → Lawful w (IsKept w) process_lists
unfolding process_lists
law-process_lists {w} = search (lawful, law-scheduler) depth 12

pub law-sleep : {w : Lost} (process : Value) → IsKept w process → Lawful w IsPlain (sleep process)
unfolding sleep
law-sleep {w} process k = search (lawful, law-process_lists, law-add) depth 16

pub law-wake_among : {w : Lost} (n : ℕ) (lists : Value) → IsKept w lists → Lawful w (IsKept w) (wake_among n lists)
unfolding wake_among
law-wake_among {w} zero lists k = search lawful depth 12
law-wake_among {w} (suc n) lists k =
    then_value _ (law_part_value _ _ lists (within_field 0 n) k) (λ list l.
    then_value _ (law_part_value _ _ list (within_field 0 FIRST_LINK_INDEX) l) (λ first f.
    law_pick _ _ _ (law-wake_among {w = w} n lists k) (law-take list l)))

pub law-wake : {w : Lost} → Lawful w (IsKept w) wake
unfolding wake
law-wake {w} = search (lawful, law-process_lists, law-wake_among) depth 14

pub law-current_process : {w : Lost} → Lawful w (IsKept w) current_process
unfolding current_process
law-current_process {w} = search (lawful, law-active_process) depth 12

pub law-transfer : {w : Lost} (process : Value) → IsKept w process → Lawful w IsPlain (transfer process)
unfolding transfer
law-transfer {w} process k = search lawful depth 12

pub law-resume : {w : Lost} (process : Value) → IsKept w process → Lawful w IsPlain (resume process)
unfolding resume
law-resume {w} process k = search (lawful, law-current_process, law-sleep, law-transfer) depth 16

pub law-switch : {w : Lost} → Lawful w IsPlain switch
unfolding switch
law-switch {w} = search (lawful, law-scheduler, law-store_field, law-enter) depth 24 fits 5000

pub law-check_switch : {w : Lost} → Lawful w IsPlain check_switch
unfolding check_switch
law-check_switch {w} = search (lawful, law-switch) depth 12

pub law-suspend_active : {w : Lost} → Lawful w IsPlain suspend_active
unfolding suspend_active
law-suspend_active {w} = search (lawful, law-wake, law-transfer) depth 12

pub law-add_signal : {w : Lost} (semaphore : Value) → IsKept w semaphore → Lawful w IsPlain (add_signal semaphore)
unfolding add_signal
law-add_signal {w} semaphore k = search (lawful, law-store_field) depth 12

pub law-signal : {w : Lost} (semaphore : Value) → IsKept w semaphore → Lawful w IsPlain (signal semaphore)
unfolding signal
law-signal {w} semaphore k = search (lawful, law-add_signal, law-take, law-resume) depth 14

pub law-sleep_at : {w : Lost} (semaphore : Value) → IsKept w semaphore → Lawful w IsPlain (sleep_at semaphore)
unfolding sleep_at
law-sleep_at {w} semaphore k = search (lawful, law-current_process, law-add, law-suspend_active) depth 14

pub law-wait : {w : Lost} (semaphore : Value) → IsKept w semaphore → Lawful w IsPlain (wait semaphore)
unfolding wait
law-wait {w} semaphore k = search (lawful, law-store_field, law-sleep_at) depth 14

pub law-primitive_signal : {w : Lost} → Lawful w IsPlain primitive_signal
unfolding primitive_signal
law-primitive_signal {w} = search (lawful, trying, law-stack, law-signal) depth 16

pub law-primitive_wait : {w : Lost} → Lawful w IsPlain primitive_wait
unfolding primitive_wait
law-primitive_wait {w} = search (lawful, trying, law-stack, law-wait) depth 16

pub law-has_list : {w : Lost} (priority : ℤ) → Lawful w IsPlain (has_list priority)
unfolding has_list
law-has_list {w} priority = search (lawful, law-process_lists) depth 12

pub law-primitive_resume : {w : Lost} → Lawful w IsPlain primitive_resume
unfolding primitive_resume
law-primitive_resume {w} = search (lawful, trying, law-stack, law-has_list, law-resume) depth 18

pub law-primitive_suspend : {w : Lost} → Lawful w IsPlain primitive_suspend
unfolding primitive_suspend
law-primitive_suspend {w} = search (lawful, trying, law-stack, law-current_process, law-put_stack, law-suspend_active) depth 20

-- ---- blocks and performs

pub law-make_block : {w : Lost} (home : Value) (len n : ℕ) → IsKept w home → Lawful w (IsKept w) (make_block home len n)
unfolding make_block
law-make_block {w} home len n k = search (lawful, law-store_field) depth 24 fits 5000

pub law-block_copy : {w : Lost} → Lawful w IsPlain block_copy
unfolding block_copy
law-block_copy {w} = search (lawful, trying, law-stack, law-make_block, law-answer) depth 20

pub law-pointer_for : {w : Lost} (block : Value) (n : ℕ) → IsKept w block → Lawful w IsPlain (pointer_for block n)
unfolding pointer_for
law-pointer_for {w} block n k = search (lawful, trying) depth 14

pub law-block_start : {w : Lost} (block : Value) (n : ℕ) → IsKept w block → Lawful w IsPlain (block_start block n)
unfolding block_start
law-block_start {w} block n k = search (lawful, law-pointer_for) depth 14

pub law-enter_block : {w : Lost} (block : Value) (n : ℕ) (ip : ℤ) → IsKept w block → Lawful w IsPlain (enter_block block n ip)
unfolding enter_block
law-enter_block {w} block n ip k = search (lawful, law-store_field, law-enter) depth 16

pub law-pass_argument : {w : Lost} (n : ℕ) (block : Value) (k : ℕ) → IsKept w block → Lawful w IsPlain (pass_argument n block k)
unfolding pass_argument
law-pass_argument {w} n block k kept = search (lawful, law-stack, law-store_field) depth 12

pub law-value : {w : Lost} → Lawful w IsPlain value
unfolding value
law-value {w} = search (lawful, trying, law-stack, law-block_start, law-pass_argument, law-pop, law-enter_block) depth 20

pub law-array_length : {w : Lost} (array : Value) → IsKept w array → Lawful w IsPlain (array_length array)
unfolding array_length
law-array_length {w} array k = search (lawful, trying) depth 12

pub law-pass_element : {w : Lost} (array block : Value) (k : ℕ) → IsKept w array → IsKept w block → Lawful w IsPlain (pass_element array block k)
unfolding pass_element
law-pass_element {w} array block k a b = search (lawful, law-store_field) depth 12

pub law-value_with_arguments : {w : Lost} → Lawful w IsPlain value_with_arguments
unfolding value_with_arguments
law-value_with_arguments {w} = search (lawful, trying, law-stack, law-array_length, law-block_start, law-pass_element, law-pop, law-enter_block) depth 22

pub law-taking : {w : Lost} (n : ℕ) (o : Option Value) → IsKeptMaybe w o → Lawful w (IsKeptMaybe w) (taking n o)
unfolding taking
law-taking {w} n None k = law_done None k
law-taking {w} n (Some v) k = law_pick _ _ _ (then_plain _ (law-arguments_of v (k.kept v refl)) (λ j. law_done _ (kept_if (j == n) v k))) (law_done None (record { kept = λ x e. absurd (cc) }))
  where
    kept_if : (b : Bool) (v : Value) → IsKeptMaybe w (Some v) → IsKeptMaybe w (if b then Some v else None)
    kept_if true v k = k
    kept_if false v k = record { kept = λ x e. absurd (cc) }

pub law-method_for : {w : Lost} (receiver selector : Value) (n : ℕ) → IsKept w receiver → IsKept w selector → Lawful w (IsKeptMaybe w) (method_for receiver selector n)
unfolding method_for
law-method_for {w} receiver selector n k l = search (lawful, law-find_from, law-taking) depth 16

pub law-execute_found : {w : Lost} (method : Value) (n : ℕ) → IsKept w method → Lawful w IsPlain (execute_found method n)
unfolding execute_found
law-execute_found {w} method n k = search (lawful, law-set_arguments) depth 12

pub law-move_down : {w : Lost} (n k : ℕ) → Lawful w IsPlain (move_down n k)
unfolding move_down
law-move_down {w} n k = search (lawful, law-stack, law-put_stack) depth 12

pub law-perform_with : {w : Lost} (n : ℕ) → Lawful w IsPlain (perform_with n)
unfolding perform_with
law-perform_with {w} n = search (lawful, trying, law-stack, law-method_for, law-move_down, law-pop, law-execute_found) depth 22

pub law-perform : {w : Lost} → Lawful w IsPlain perform
unfolding perform
law-perform {w} = search (lawful, trying, law-perform_with) depth 12

pub law-has_room : {w : Lost} (n : ℕ) → Lawful w IsPlain (has_room n)
unfolding has_room
law-has_room {w} n = search lawful depth 14

pub law-push_element : {w : Lost} (array : Value) (k : ℕ) → IsKept w array → Lawful w IsPlain (push_element array k)
unfolding push_element
law-push_element {w} array k kept = search (lawful, law-push) depth 12

pub law-perform_with_arguments : {w : Lost} → Lawful w IsPlain perform_with_arguments
unfolding perform_with_arguments
law-perform_with_arguments {w} = search (lawful, trying, law-stack, law-array_length, law-method_for, law-has_room, law-pop, law-push_element, law-execute_found) depth 28 fits 5000

pub law-flush_cache : {w : Lost} → Lawful w IsPlain flush_cache
unfolding flush_cache
law-flush_cache {w} = done_plain _

pub law-quit : {w : Lost} → Lawful w IsPlain quit
unfolding quit
law-quit {w} = done_plain _
