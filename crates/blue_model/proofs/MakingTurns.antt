-- How many objects a send, a bytecode and a cycle make: no more than 3, which are an array and a message where doesNotUnderstand: is
-- sent, and the context of a method, or what its primitive makes.
use Rattle.std.proofs.Common.{◌≡◌, ◌+◌, ℕ, ℤ, ◌-◌, ◌≤◌, Bool, true, false, List, [], ◌∷◌, ◌++◌, refl, ap, arith}
use Rattle.long_names.specs.declared.value.Value.{Value}
use Rattle.blue_model.specs.declared.event.Line.{Line}
use Rattle.blue_model.specs.declared.answer.Answer.{Answer}
use Rattle.blue_model.specs.declared.answer.Answer.TheVariants.{Done, Failed, Execute, Quit, Keep}
use Rattle.blue_model.specs.declared.step.Step.{Step}
use Rattle.blue_model.specs.Machine.{Machine, Outcome, Go, Halt, Spent, Rule, ◌>>=◌, ◌>>◌, done, pick}
use Rattle.blue_model.specs.Messages.{activate}
use Rattle.blue_model.specs.Processes.{process_primitives}
use Rattle.blue_model.specs.Control.{control_primitives, control_primitive}
use Rattle.blue_model.specs.BitBlt.{blit_primitives}
use Rattle.blue_model.specs.Devices.{device_primitives}
use Rattle.blue_model.specs.Sends.{is_execute, answer_field, execute_extended, execute_method, execute, send_from, send, send_super, special_send, cannot_return, must_be_boolean, return_to}
use Rattle.blue_model.specs.Trials.{Primitive, with_arguments, primitive_in}
use Rattle.blue_model.specs.Arithmetic.{integer_primitives}
use Rattle.blue_model.specs.LargeInts.{large_primitives}
use Rattle.blue_model.specs.Storage.{object_primitives}
use Rattle.blue_model.specs.Primitives.{primitive, has_failed, step_of, then_next, tried}
use Rattle.blue_model.specs.Bytecodes.{Range, receiver_variable, temporary, literal_constant, literal_variable, store_receiver_variable, store_temporary, store_literal_variable, push_of, push_known, push_number, push_receiver, push_active_context, duplicate_top, store_top, store_and_pop, by_kind, extended_push, extended_store_of, extended_store, extended_store_and_pop, return_home, return_of, return_from_block, jump_where, jump_on, long_jump, long_jump_on, send_literal, send_literal_super, single_extended, double_extended, tried_for, arithmetic_send, block_send, bytecodes, has_byte, ruled, bytecode}
use Rattle.blue_model.specs.Cycle.{count_bytecode, step, turn, cycle, park_and_draw}
use Rattle.blue_model.proofs.MakingSteps.{Makes, makes_then, MakesAtMost, MakesNone, MakesSparingly, allowed, making, at_most, none_then, some_then, then_some, some_last, none_pick, some_pick, none_done, none_halt, none_numbers, none_register, none_put_register, none_class_of, none_part, few, sparing_none, sparing_end, sparing_failed, sparing_pick, sparing_then, sparing_where_true, ends_done}
use Rattle.blue_model.proofs.MakingLaws.{none-fetch, none-push, none-stack, none-pop, none-pop_top, none-jump, none-put_stack, none-store_field, none-set_arguments, none-back_with, none-park, none-picture, none-due, none-check_switch, few-find_or_tell, few-activate, sparing-arithmetic, sparing-comparison, sparing-point, sparing-at, none-at_put, sparing-size_of, none-string_at, none-string_at_put, sparing-next, sparing-next_put, sparing-at_end, none-object_at_index, none-object_at_put, sparing-new, sparing-new_with_size, sparing-new_method, sparing-instance_variable_at, none-instance_variable_at_put, none-hash, none-equivalent, none-class, sparing-block_copy, none-value, none-value_with_arguments, none-perform, none-perform_with_arguments, none-flush_cache, none-quit, none-primitive_signal, none-primitive_wait, none-primitive_resume, none-primitive_suspend, none-copy_bits, none-input_semaphore, sparing-input_word, none-keep_machine, none-tick_words, none-signal_at_tick, none-be_display, none-say_string, none-become, sparing-large_arithmetic, sparing-large_comparison, sparing-large_shift}

-- ---- the table of primitives

AreSparing : List Primitive → Type 0
AreSparing [] = Unit {0}
AreSparing (p ∷ ps) = MakesSparingly p.rule × AreSparing ps

sparing-with_arguments : (p : Primitive) → MakesSparingly p.rule → MakesSparingly (with_arguments p)
unfolding with_arguments
sparing-with_arguments p f = sparing_then _ none_numbers (λ cpu. sparing_where_true _ _ f)

sparing-primitive_in : (ps : List Primitive) (index : ℕ) → AreSparing ps → MakesSparingly (primitive_in ps index)
unfolding AreSparing
sparing-primitive_in [] index f = sparing_failed
sparing-primitive_in (p ∷ ps) index f = sparing_pick _ _ _ (sparing-with_arguments p f.0) (sparing-primitive_in ps index f.1)

primitives_sparing : AreSparing (integer_primitives ++ object_primitives)
unfolding AreSparing integer_primitives object_primitives
primitives_sparing = search (sparing-arithmetic, sparing-comparison, sparing-point, sparing-at, none-at_put, sparing-size_of, none-string_at, none-string_at_put, sparing-next, sparing-next_put, sparing-at_end, none-object_at_index, none-object_at_put, sparing-new, sparing-new_with_size, sparing-new_method, sparing-instance_variable_at, none-instance_variable_at_put, none-hash, none-equivalent, none-become, none-class, sparing_none) depth 60 fits 4000

large_sparing : AreSparing large_primitives
unfolding AreSparing large_primitives
large_sparing = search (sparing-large_arithmetic, sparing-large_comparison, sparing-large_shift) depth 60

control_sparing : AreSparing control_primitives
unfolding AreSparing control_primitives
control_sparing = (sparing-block_copy, (sparing_none none-value_with_arguments, (sparing_none none-perform_with_arguments, (sparing_none none-flush_cache, (sparing_none none-quit, tt)))))

sparing-control_primitive : (index : ℕ) → MakesSparingly (control_primitive index)
unfolding control_primitive
sparing-control_primitive index = sparing_pick _ _ _ (sparing_none none-value) (sparing_pick _ _ _ (sparing_none none-perform) (sparing-primitive_in _ index control_sparing))

processes_sparing : AreSparing process_primitives
unfolding AreSparing process_primitives
processes_sparing = (sparing_none none-primitive_signal, (sparing_none none-primitive_wait, (sparing_none none-primitive_resume, (sparing_none none-primitive_suspend, tt))))

blits_sparing : AreSparing blit_primitives
unfolding AreSparing blit_primitives
blits_sparing = (sparing_none none-copy_bits, tt)

devices_sparing : (events : List Line) → AreSparing (device_primitives events)
unfolding AreSparing device_primitives
devices_sparing events = (sparing_none none-input_semaphore, (sparing-input_word events, (sparing_none none-keep_machine, (sparing_none none-tick_words, (sparing_none none-signal_at_tick, (sparing_none none-be_display, (sparing_none none-say_string, tt)))))))

pub sparing-primitive : (events : List Line) (index : ℕ) → MakesSparingly (primitive events index)
unfolding primitive
sparing-primitive events index = sparing_pick _ _ _ (sparing-control_primitive index) (sparing_pick _ _ _ (sparing-primitive_in _ index processes_sparing) (sparing_pick _ _ _ (sparing-primitive_in _ index blits_sparing) (sparing_pick _ _ _ (sparing-primitive_in _ index (devices_sparing events)) (sparing_pick _ _ _ (sparing-primitive_in _ index large_sparing) (sparing-primitive_in _ index primitives_sparing)))))

-- ---- a primitive, and what comes in its place

-- what comes after an answer may make what the primitive hasn't
abbrev left : ℕ → Answer → ℕ
left n Done = 0
left n Failed = n
left n Execute = n
left n Quit = 0
left n Keep = 0

-- no more than so many, of which a primitive makes one at most
after_primitive : {B : Type 0} (n : ℕ) (p : Rule Answer) (k : Answer → Rule B) → 1 ≤ n → MakesSparingly p → ((a : Answer) → MakesAtMost (left n a) (k a)) → MakesAtMost n (p >>= k)
unfolding ◌>>=◌
after_primitive {B} n p k one f g = record { makes = λ m. makes_then (λ (a : Answer) i. i ≤ allowed a) 1 (λ a (b : B) j. j ≤ left n a) (left n) (λ (b : B) i. i ≤ n) n m (p m) k (f.makes m) (λ a s. (g a).makes s) (λ a b i j low high. both a i j low high) (λ a i j low high. both a i j low high) one }
  where
    both : (a : Answer) (i j : ℕ) → i ≤ allowed a → j ≤ left n a → i + j ≤ n
    both Done i j low high = omega arith
    both Failed i j low high = omega arith
    both Execute i j low high = omega arith
    both Quit i j low high = omega arith
    both Keep i j low high = omega arith

few-tried : (n : ℕ) (events : List Line) (index : ℕ) (rest : Rule Step) → 1 ≤ n → MakesAtMost n rest → MakesAtMost n (tried events index rest)
unfolding tried pick
few-tried n events index rest one f = after_primitive n _ _ one (sparing-primitive events index) go
  where
    go : (a : Answer) → MakesAtMost (left n a) (pick (has_failed a) rest (done (step_of a)))
    go Done = at_most 0 _ (none_done _)
    go Failed = f
    go Execute = at_most n _ (none_done _)
    go Quit = at_most 0 _ (none_done _)
    go Keep = at_most 0 _ (none_done _)

none-then_next : (p : Rule (Unit {0})) → MakesNone p → MakesNone (then_next p)
unfolding then_next
none-then_next p f = none_then _ f (λ _. none_done _)

-- ---- sends

none-answer_field : (i : ℕ) → MakesNone (answer_field i)
unfolding answer_field
none-answer_field i = search (making, none-stack, none-put_stack) depth 16

activated : MakesSparingly (activate >> done Done)
activated = sparing_end _ few-activate (λ _. ends_done)

-- what comes after a primitive's answer where a method is activated in place of one that failed
abbrev follows : Answer → Answer → ℕ → Type 0
follows Failed b j = j ≤ allowed b
follows Done b j = (j ≤ 0) × (b ≡ Done)
follows Execute b j = (j ≤ 0) × (b ≡ Execute)
follows Quit b j = (j ≤ 0) × (b ≡ Quit)
follows Keep b j = (j ≤ 0) × (b ≡ Keep)

or_activated : (p : Rule Answer) → MakesSparingly p → MakesSparingly (p >>= λ answer. pick (has_failed answer) (activate >> done Done) (done answer))
unfolding ◌>>=◌ done pick
or_activated p f = record { makes = λ m. makes_then (λ (a : Answer) i. i ≤ allowed a) 1 follows (left 1) (λ (b : Answer) i. i ≤ allowed b) 1 m (p m) (λ answer. pick (has_failed answer) (activate >> done Done) (done answer)) (f.makes m) then both stop (omega arith) }
  where
    same : (a : Answer) (s : Machine) → Makes (λ b j. (j ≤ 0) × (b ≡ a)) 0 s (done a s)
    same a s = (0, (omega arith, refl), refl, omega arith, refl)

    then : (a : Answer) (s : Machine) → Makes (follows a) (left 1 a) s (pick (has_failed a) (activate >> done Done) (done a) s)
    then Failed s = activated.makes s
    then Done s = same Done s
    then Execute s = same Execute s
    then Quit s = same Quit s
    then Keep s = same Keep s

    both : (a b : Answer) (i j : ℕ) → i ≤ allowed a → follows a b j → i + j ≤ allowed b
    both Failed b i j low high = omega arith
    both Done b i j low high = let few = high.0 in let is : allowed b ≡ 1 = ap allowed high.1 in omega arith
    both Execute b i j low high = let few = high.0 in omega arith
    both Quit b i j low high = let few = high.0 in let is : allowed b ≡ 1 = ap allowed high.1 in omega arith
    both Keep b i j low high = let few = high.0 in let is : allowed b ≡ 1 = ap allowed high.1 in omega arith

    stop : (a : Answer) (i j : ℕ) → i ≤ allowed a → j ≤ left 1 a → i + j ≤ 1
    stop Done i j low high = omega arith
    stop Failed i j low high = omega arith
    stop Execute i j low high = omega arith
    stop Quit i j low high = omega arith
    stop Keep i j low high = omega arith

sparing-execute_extended : (events : List Line) (performed : Bool) (method : Value) → MakesSparingly (execute_extended events performed method)
unfolding execute_extended
sparing-execute_extended events performed method = sparing_then _ (none_part _ _ method) (λ it. sparing_pick _ _ _ activated (or_activated _ (sparing-primitive _ _)))

sparing-execute_method : (events : List Line) (performed : Bool) → MakesSparingly (execute_method events performed)
unfolding execute_method
sparing-execute_method events performed =
    sparing_then _ (none_register _) (λ method. sparing_then _ (none_part _ _ method) (λ header.
    sparing_pick _ _ _ (sparing_none (none_done _)) (sparing_pick _ _ _ (sparing_none (none_then _ (none-answer_field _) (λ _. none_done _))) (sparing_pick _ _ _ (sparing-execute_extended events performed method) activated))))

-- a primitive whatever its answer
few_sparing : (p : Rule Answer) → MakesSparingly p → MakesAtMost 1 p
few_sparing p f = record { makes = λ m. go m (p m) (f.makes m) }
  where
    low : (a : Answer) (k : ℕ) → k ≤ allowed a → k ≤ 1
    low Done k h = omega arith
    low Failed k h = omega arith
    low Execute k h = omega arith
    low Quit k h = omega arith
    low Keep k h = omega arith

    go : (m : Machine) (o : Outcome Answer) → Makes (λ a k. k ≤ allowed a) 1 m o → Makes (λ a k. k ≤ 1) 1 m o
    go m (Go a s log) h = (h.0, low a h.0 h.1, h.2, h.3, h.4)
    go m (Halt c log) h = h
    go m (Spent log) h = h

few-execute : (events : List Line) → MakesAtMost 1 (execute events)
unfolding execute pick
few-execute events = after_primitive 1 _ _ (omega arith) (sparing-execute_method events false) go
  where
    go : (a : Answer) → MakesAtMost (left 1 a) (pick (is_execute a) (execute_method events true >>= λ last. done (step_of last)) (done (step_of a)))
    go Done = at_most 0 _ (none_done _)
    go Failed = at_most 1 _ (none_done _)
    go Execute = some_last _ (few_sparing _ (sparing-execute_method events true)) (λ last. none_done _)
    go Quit = at_most 0 _ (none_done _)
    go Keep = at_most 0 _ (none_done _)

few-send_from : (events : List Line) (class selector : Value) (n : ℕ) → MakesAtMost 3 (send_from events class selector n)
unfolding send_from
few-send_from events class selector n = then_some _ (none_put_register _ selector) (λ _. then_some _ (none-set_arguments n) (λ _. some_then 2 1 _ (few-find_or_tell class) (λ _. few-execute events)))

few-send : (events : List Line) (selector : Value) (n : ℕ) → MakesAtMost 3 (send events selector n)
unfolding send
few-send events selector n = then_some _ (none-stack n) (λ receiver. then_some _ (none_class_of receiver) (λ class. few-send_from events class selector n))

few-send_super : (events : List Line) (selector : Value) (n : ℕ) → MakesAtMost 3 (send_super events selector n)
unfolding send_super
few-send_super events selector n = search (making, few, none-stack, few-send_from) depth 20

few-special_send : (events : List Line) (s : ℕ) → MakesAtMost 3 (special_send events s)
unfolding special_send
few-special_send events s = search (making, few, few-send) depth 20

few-cannot_return : (events : List Line) (v : Value) → MakesAtMost 3 (cannot_return events v)
unfolding cannot_return
few-cannot_return events v = search (making, few, none-push, few-send) depth 20

few-must_be_boolean : (events : List Line) (v : Value) → MakesAtMost 3 (must_be_boolean events v)
unfolding must_be_boolean
few-must_be_boolean events v = search (making, few, none-push, few-send) depth 16

few-return_to : (events : List Line) (context v : Value) → MakesAtMost 3 (return_to events context v)
unfolding return_to
few-return_to events context v = search (making, few, few-cannot_return, none-back_with, none-then_next) depth 20

-- ---- bytecodes

none-receiver_variable : (i : ℕ) → MakesNone (receiver_variable i)
unfolding receiver_variable
none-receiver_variable i = search making depth 20

none-temporary : (i : ℕ) → MakesNone (temporary i)
unfolding temporary
none-temporary i = search making depth 20

none-literal_constant : (i : ℕ) → MakesNone (literal_constant i)
unfolding literal_constant
none-literal_constant i = search making depth 20

none-literal_variable : (i : ℕ) → MakesNone (literal_variable i)
unfolding literal_variable
none-literal_variable i = search (making, none-literal_constant) depth 20

none-store_receiver_variable : (i : ℕ) (v : Value) → MakesNone (store_receiver_variable i v)
unfolding store_receiver_variable
none-store_receiver_variable i v = search (making, none-store_field) depth 20

none-store_temporary : (i : ℕ) (v : Value) → MakesNone (store_temporary i v)
unfolding store_temporary
none-store_temporary i v = search (making, none-store_field) depth 20

none-store_literal_variable : (i : ℕ) (v : Value) → MakesNone (store_literal_variable i v)
unfolding store_literal_variable
none-store_literal_variable i v = search (making, none-store_field, none-literal_constant) depth 20

none-push_of : (p : Rule Value) → MakesNone p → MakesNone (push_of p)
unfolding push_of
none-push_of p f0 = search (making, none-push, f0) depth 20

none-push_known : (n : ℕ) → MakesNone (push_known n)
unfolding push_known
none-push_known n = search (making, none-push) depth 20

none-push_number : (i : ℕ) → MakesNone (push_number i)
unfolding push_number
none-push_number i = search (making, none-push) depth 20

none-push_receiver : MakesNone push_receiver
unfolding push_receiver
none-push_receiver = search (making, none-push_of) depth 20

none-push_active_context : MakesNone push_active_context
unfolding push_active_context
none-push_active_context = search (making, none-push_of) depth 20

none-duplicate_top : MakesNone duplicate_top
unfolding duplicate_top
none-duplicate_top = search (making, none-stack, none-push_of) depth 20

none-store_top : (p : (Value → Rule (Unit {0}))) → ((x0 : Value) → MakesNone (p x0)) → MakesNone (store_top p)
unfolding store_top
none-store_top p f0 = search (making, none-stack, f0) depth 20

none-store_and_pop : (p : (Value → Rule (Unit {0}))) → ((x0 : Value) → MakesNone (p x0)) → MakesNone (store_and_pop p)
unfolding store_and_pop
none-store_and_pop p f0 = search (making, none-pop, none-store_top, f0) depth 20

none-by_kind : {A : Type 0} (n : ℕ) (a b c d : Rule A) → MakesNone a → MakesNone b → MakesNone c → MakesNone d → MakesNone (by_kind n a b c d)
unfolding by_kind
none-by_kind n a b c d f g h i = none_pick _ _ _ f (none_pick _ _ _ g (none_pick _ _ _ h i))

none-extended_push : MakesNone extended_push
unfolding extended_push
none-extended_push = search (making, none-fetch, none-receiver_variable, none-temporary, none-literal_constant, none-literal_variable, none-push_of, none-by_kind) depth 20

none-extended_store_of : (n : ℕ) → MakesNone (extended_store_of n)
unfolding extended_store_of
none-extended_store_of n = search (making, none-store_receiver_variable, none-store_temporary, none-store_literal_variable, none-store_top, none-by_kind) depth 20

none-extended_store : MakesNone extended_store
unfolding extended_store
none-extended_store = search (making, none-fetch, none-extended_store_of) depth 20

none-extended_store_and_pop : MakesNone extended_store_and_pop
unfolding extended_store_and_pop
none-extended_store_and_pop = search (making, none-pop, none-fetch, none-extended_store_of) depth 20

few-return_home : (events : List Line) (v : Value) → MakesAtMost 3 (return_home events v)
unfolding return_home
few-return_home events v = search (making, few, few-return_to) depth 20

few-return_of : (events : List Line) (p : Rule Value) → MakesNone p → MakesAtMost 3 (return_of events p)
unfolding return_of
few-return_of events p f0 = search (making, few, few-return_home, f0) depth 20

few-return_from_block : (events : List Line) → MakesAtMost 3 (return_from_block events)
unfolding return_from_block
few-return_from_block events = search (making, few, none-pop_top, few-return_to) depth 20

few-jump_where : (events : List Line) (taken passed : ℕ) (distance : ℤ) (v : Value) → MakesAtMost 3 (jump_where events taken passed distance v)
unfolding jump_where
few-jump_where events taken passed distance v = search (making, few, none-jump, few-must_be_boolean, none-then_next) depth 20

few-jump_on : (events : List Line) (taken passed : ℕ) (distance : ℤ) → MakesAtMost 3 (jump_on events taken passed distance)
unfolding jump_on
few-jump_on events taken passed distance = search (making, few, none-pop_top, few-jump_where) depth 20

none-long_jump : (i : ℕ) → MakesNone (long_jump i)
unfolding long_jump
none-long_jump i = search (making, none-fetch, none-jump) depth 20

few-long_jump_on : (events : List Line) (taken passed i : ℕ) → MakesAtMost 3 (long_jump_on events taken passed i)
unfolding long_jump_on
few-long_jump_on events taken passed i = search (making, few, none-fetch, few-jump_on) depth 20

few-send_literal : (events : List Line) (i n : ℕ) → MakesAtMost 3 (send_literal events i n)
unfolding send_literal
few-send_literal events i n = search (making, few, few-send, none-literal_constant) depth 20

few-send_literal_super : (events : List Line) (i n : ℕ) → MakesAtMost 3 (send_literal_super events i n)
unfolding send_literal_super
few-send_literal_super events i n = search (making, few, few-send_super, none-literal_constant) depth 20

few-single_extended : (p : (ℕ → ℕ → Rule Step)) → ((x0 x1 : ℕ) → MakesAtMost 3 (p x0 x1)) → MakesAtMost 3 (single_extended p)
unfolding single_extended
few-single_extended p f0 = search (making, few, none-fetch, f0) depth 20

few-double_extended : (p : (ℕ → ℕ → Rule Step)) → ((x0 x1 : ℕ) → MakesAtMost 3 (p x0 x1)) → MakesAtMost 3 (double_extended p)
unfolding double_extended
few-double_extended p f0 = search (making, few, none-fetch, f0) depth 20

few-tried_for : (events : List Line) (index n s : ℕ) → MakesAtMost 3 (tried_for events index n s)
unfolding tried_for
few-tried_for events index n s = then_some _ (none-set_arguments n) (λ _. few-tried 3 events index _ (omega arith) (few-special_send events s))

few-arithmetic_send : (events : List Line) (s : ℕ) → MakesAtMost 3 (arithmetic_send events s)
unfolding arithmetic_send
few-arithmetic_send events s = search (making, few, none-stack, few-special_send, few-tried_for) depth 20

few-block_send : (events : List Line) (index n : ℕ) (classes : (ℕ → Bool)) (s : ℕ) → MakesAtMost 3 (block_send events index n classes s)
unfolding block_send
few-block_send events index n classes s = search (making, few, none-stack, few-special_send, few-tried_for) depth 20

-- ---- the table

AreFew : List Range → Type 0
AreFew [] = Unit {0}
AreFew (r ∷ rs) = ((i : ℕ) → MakesAtMost 3 (r.rule i)) × AreFew rs

few-ruled : (ranges : List Range) (byte : ℕ) → AreFew ranges → MakesAtMost 3 (ruled ranges byte)
unfolding AreFew
few-ruled [] byte f = at_most 3 _ (none_halt _)
few-ruled (r ∷ rs) byte f = some_pick (has_byte byte r) (r.rule (byte - r.first)) (ruled rs byte) (f.0 (byte - r.first)) (few-ruled rs byte f.1)

ruleset pushing = (none-push_of, none-push_known, none-push_number, none-push_receiver, none-push_active_context, none-duplicate_top, none-extended_push, none-receiver_variable, none-temporary, none-literal_constant, none-literal_variable)

ruleset storing = (none-store_and_pop, none-extended_store, none-extended_store_and_pop, none-store_receiver_variable, none-store_temporary, none-pop)

ruleset leaving = (few-return_of, few-return_from_block, none-pop_top, none-jump, few-jump_on, none-long_jump, few-long_jump_on)

ruleset sending = (few-single_extended, few-double_extended, few-send_literal, few-send_literal_super, few-arithmetic_send, few-special_send, few-tried_for, few-block_send)

bytecodes_few : (events : List Line) → AreFew (bytecodes events)
unfolding AreFew bytecodes
bytecodes_few events = search (making, few, none-then_next, pushing, storing, leaving, sending) depth 80 fits 40000

few-bytecode : (events : List Line) (byte : ℕ) → MakesAtMost 3 (bytecode events byte)
unfolding bytecode
few-bytecode events byte = few-ruled (bytecodes events) byte (bytecodes_few events)

-- ---- the cycle

none-count_bytecode : (before : ℕ) → MakesNone (count_bytecode before)
unfolding count_bytecode
none-count_bytecode before = search making depth 12

few-step : (events : List Line) → MakesAtMost 3 (step events)
unfolding step
few-step events = search (making, few, none-fetch, few-bytecode) depth 16

few-turn : (events : List Line) → MakesAtMost 3 (turn events)
unfolding turn
few-turn events = search (making, few, none-due, none-check_switch, few-step) depth 16

pub few-cycle : (events : List Line) → MakesAtMost 3 (cycle events)
unfolding cycle
few-cycle events = search (making, few, few-turn, none-count_bytecode) depth 18

pub none-park_and_draw : MakesNone park_and_draw
unfolding park_and_draw
none-park_and_draw = search (making, none-park, none-picture) depth 14
