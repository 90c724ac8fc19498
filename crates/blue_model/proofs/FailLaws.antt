-- A primitive that fails has changed nothing.
use Rattle.blue_model.specs.Forms.{Form, Extent, count_of, form_where, form_of}
use Rattle.blue_model.specs.BitBlt.{form_or_nil, copy_bits, blit_primitives}
use Rattle.blue_model.specs.Devices.{semaphore_or_nil, set_input, input_semaphore, take_word, input_word, keep_machine, tick_words, set_timer, signal_at_tick, show_form, be_display, string_text, say_string, device_primitives, display_form, display_row, picture_of, picture}
use Rattle.blue_model.specs.declared.event.Line.{Line}
use Rattle.std.proofs.Common.{◌≡◌, ℕ, ℤ, Bool, true, false, List, [], ◌∷◌, ◌++◌, Option, Some, None, refl, sym, ◌∙◌, ap, subst}
use Rattle.long_names.specs.declared.value.Value.{Value}
use Rattle.long_names.specs.declared.value.Value.TheVariants.{Int, Ref}
use Rattle.long_names.specs.declared.object.Object.{Object}
use Rattle.long_names.specs.State.{class_at, name_at}
use Rattle.blue_model.specs.declared.answer.Answer.{Answer}
use Rattle.blue_model.specs.declared.answer.Answer.TheVariants.{Done, Failed, Execute, Quit, Keep}
use Rattle.blue_model.specs.declared.cause.Cause.{Cause}
use Rattle.blue_model.specs.declared.cause.Cause.TheVariants.{Shape}
use Rattle.blue_model.specs.declared.spot.Spot.{Spot}
use Rattle.blue_model.specs.declared.spot.Spot.TheVariants.{Field, Word, Byte}
use Rattle.blue_model.specs.Machine.{Machine, LogRow, Outcome, Go, Halt, Spent, Rule, after, then_do, ◌>>=◌, done, halt, given, pick, register, numbers, row_of, look, part, known, classed, class_of}
use Rattle.blue_model.specs.Contexts.{stack, scheduler, active_process}
use Rattle.blue_model.specs.Lookup.{lookup}
use Rattle.blue_model.specs.Messages.{arguments_of}
use Rattle.blue_model.specs.Processes.{process_lists, current_process, primitive_signal, primitive_wait, has_list, primitive_resume, primitive_suspend, process_primitives}
use Rattle.blue_model.specs.Control.{block_copy, pointer_for, block_start, enter_block, value, array_length, value_with_arguments, taking, method_for, execute_found, perform_with, perform, has_room, perform_with_arguments, flush_cache, quit, control_primitives, control_primitive}
use Rattle.blue_model.specs.Trials.{failed, where_some, where_true, ◌>>?◌, peek, answer, Primitive, with_arguments, primitive_in}
use Rattle.blue_model.specs.Arithmetic.{of_numbers, arithmetic, comparison, point, shifted, integer_primitives}
use Rattle.blue_model.specs.LargeInts.{large_operand, of_large, of_shift, answer_result, large_result, large_arithmetic, large_comparison, large_shift, large_primitives}
use Rattle.blue_model.specs.Elements.{index_argument, specification_of, fixed_of, spot_at, element_of, variable_of, put_element, character_of, byte_of_character}
use Rattle.blue_model.specs.Storage.{at, at_put, size_of, string_at, string_at_put, streamed_by, streamed, of_stream, next_spot, streamed_element, next, put_streamed, next_put, at_end, method_object, object_at_index, object_at_put, new, new_with_size, new_method, instance_variable_at, instance_variable_at_put, hash, equivalent, become, class, object_primitives}
use Rattle.blue_model.specs.Primitives.{primitive}
use Rattle.blue_model.proofs.ClassLaws.{Answers, answers_then, answers_done, answers_halt, answers_look, lookup_takes}

-- ---- rules that only look, whatever they answer

record Looks (m : Machine) {A : Type 0} (p : Rule A) : Type 0 where
  looks : Answers m (λ a. Unit {0}) p

looks_then : {m : Machine} {A B : Type 0} {p : Rule A} (k : A → Rule B) → Looks m p → ((a : A) → Looks m (k a)) → Looks m (p >>= k)
looks_then k first f = record { looks = answers_then k first.looks (λ a u. (f a).looks) }

looks_done : {m : Machine} {A : Type 0} (a : A) → Looks m (done a)
looks_done a = record { looks = answers_done a tt }

looks_halt : {m : Machine} {A : Type 0} (c : Cause) → Looks m {A = A} (halt c)
looks_halt c = record { looks = answers_halt c }

looks_pick : {m : Machine} {A : Type 0} (b : Bool) (p q : Rule A) → Looks m p → Looks m q → Looks m (pick b p q)
unfolding pick
looks_pick true p q f g = f
looks_pick false p q f g = g

looks_look : {m : Machine} (v : Value) → Looks m (look v)
looks_look {m} v = record { looks = record { told = λ a s log e. (((answers_look {m = m} v).told a s log e).0, tt) } }

looks_given : {m : Machine} {A : Type 0} (c : Cause) (x : Option A) → Looks m (given c x)
unfolding given
looks_given c None = looks_halt c
looks_given c (Some a) = looks_done a

looks_part : {m : Machine} {A : Type 0} (c : Cause) (f : Object → Option A) (v : Value) → Looks m (part c f v)
unfolding part
looks_part c f v = looks_then _ (looks_look v) (λ o. looks_given c (f o))

looks_known : {m : Machine} (n : ℕ) → Looks m (known n)
unfolding known
looks_known n = looks_then _ (looks_look (Ref n)) (λ o. looks_done (Ref n))

looks_peek : {m : Machine} {A : Type 0} (f : Object → Option A) (v : Value) → Looks m (peek f v)
unfolding peek
looks_peek f (Int z) = looks_done None
looks_peek f (Ref n) = looks_then _ (looks_look (Ref n)) (λ o. looks_done (f o))

looks_register : {m : Machine} (r : ℕ) → Looks m (register r)
unfolding register
looks_register {m} r = record { looks = record { told = λ a s log e. let same : m ≡ s = cc in (sym same, tt) } }

looks_numbers : {m : Machine} → Looks m numbers
unfolding numbers
looks_numbers {m} = record { looks = record { told = λ a s log e. let same : m ≡ s = cc in (sym same, tt) } }

looks_class_of : {m : Machine} (v : Value) → Looks m (class_of v)
unfolding class_of
looks_class_of {m} v = record { looks = record { told = λ a s log e. go (class_at m.heap v) a s log e } }
  where
    go : (x : Option ℕ) (a : Value) (s : Machine) (log : List LogRow) → classed m v x ≡ Go a s log → (s ≡ m) × Unit {0}
    go None a s log e = let no : ◌≡◌ {A = Outcome Value} (Halt Shape (row_of m (name_at v) ∷ [])) (Go a s log) = e in absurd (cc)
    go (Some n) a s log e = let same : m ≡ s = cc in (sym same, tt)

ruleset looking = (looks_then, looks_pick, looks_done, looks_halt, looks_look, looks_given, looks_part, looks_known, looks_peek, looks_register, looks_numbers, looks_class_of)

looks-stack : {m : Machine} (depth : ℕ) → Looks m (stack depth)
unfolding stack
looks-stack {m} depth = search looking depth 12

looks-index_argument : {m : Machine} (v : Value) → Looks m (index_argument v)
unfolding index_argument
looks-index_argument (Int z) = looks_done (Some z)
looks-index_argument (Ref n) = looks_peek _ (Ref n)

looks-specification_of : {m : Machine} (v : Value) → Looks m (specification_of v)
unfolding specification_of
looks-specification_of v = looks_peek _ v

looks-fixed_of : {m : Machine} (v : Value) → Looks m (fixed_of v)
unfolding fixed_of
looks-fixed_of {m} v = search (looking, looks-specification_of) depth 12

looks-spot_at : {m : Machine} (v : Value) (e : Option ℕ) → Looks m (spot_at v e)
looks-spot_at v None = looks_done None
looks-spot_at v (Some e) = looks_peek _ v

looks-element_of : {m : Machine} (v : Value) (i : ℤ) → Looks m (element_of v i)
unfolding element_of
looks-element_of {m} v i = search (looking, looks-fixed_of, looks-spot_at) depth 12

looks-variable_of : {m : Machine} (v : Value) (i : ℤ) → Looks m (variable_of v i)
unfolding variable_of
looks-variable_of {m} v i = search looks-spot_at depth 12

looks-character_of : {m : Machine} (byte : ℕ) → Looks m (character_of byte)
unfolding character_of
looks-character_of {m} byte = search looking depth 12

looks-byte_of_character : {m : Machine} (v : Value) → Looks m (byte_of_character v)
unfolding byte_of_character
looks-byte_of_character {m} v = search looking depth 12

looks-streamed : {m : Machine} (v : Value) → Looks m (streamed v)
unfolding streamed streamed_by
looks-streamed {m} v = search looking depth 14

ruleset places = (looks-stack, looks-index_argument, looks-specification_of, looks-fixed_of, looks-element_of, looks-variable_of, looks-character_of, looks-byte_of_character, looks-streamed)

-- ---- rules that never fail

record NeverFails (p : Rule Answer) : Type 0 where
  never : (m s : Machine) (log : List LogRow) → p m ≡ Go Failed s log → ⊥

never_then : {A : Type 0} (p : Rule A) (k : A → Rule Answer) → ((a : A) → NeverFails (k a)) → NeverFails (p >>= k)
unfolding ◌>>=◌
never_then {A} p k f = record { never = λ m s log e. go (p m) s log e }
  where
    go : (o : Outcome A) (s : Machine) (log : List LogRow) → then_do o k ≡ Go Failed s log → ⊥
    go (Go a n rows) s log e = next (k a n) refl e
      where
        next : (o : Outcome Answer) → k a n ≡ o → after rows o ≡ Go Failed s log → ⊥
        next (Go b t lines) h i = let same : b ≡ Failed = cc in (f a).never n t lines (h ∙ ap (λ x. Go x t lines) same)
        next (Halt c lines) h i = let no : ◌≡◌ {A = Outcome Answer} (Halt c (rows ++ lines)) (Go Failed s log) = i in absurd (cc)
        next (Spent lines) h i = let no : ◌≡◌ {A = Outcome Answer} (Spent (rows ++ lines)) (Go Failed s log) = i in absurd (cc)
    go (Halt c rows) s log e = let no : ◌≡◌ {A = Outcome Answer} (Halt c rows) (Go Failed s log) = e in absurd (cc)
    go (Spent rows) s log e = let no : ◌≡◌ {A = Outcome Answer} (Spent rows) (Go Failed s log) = e in absurd (cc)

never_done : NeverFails (done Done)
unfolding done
never_done = record { never = λ m s log e. let no : ◌≡◌ {A = Answer} Done Failed = cc in absurd (cc) }

never_execute : NeverFails (done Execute)
unfolding done
never_execute = record { never = λ m s log e. let no : ◌≡◌ {A = Answer} Execute Failed = cc in absurd (cc) }

never_quit : NeverFails (done Quit)
unfolding done
never_quit = record { never = λ m s log e. let no : ◌≡◌ {A = Answer} Quit Failed = cc in absurd (cc) }

never_keep : NeverFails (done Keep)
unfolding done
never_keep = record { never = λ m s log e. let no : ◌≡◌ {A = Answer} Keep Failed = cc in absurd (cc) }

never-answer : (n : ℕ) (v : Value) → NeverFails (answer n v)
unfolding answer
never-answer n v = never_then _ _ (λ a. never_then _ _ (λ b. never_done))

-- ---- rules that change nothing where they fail

record FailsClean (m : Machine) (p : Rule Answer) : Type 0 where
  clean : (s : Machine) (log : List LogRow) → p m ≡ Go Failed s log → s ≡ m

clean_never : {m : Machine} {p : Rule Answer} → NeverFails p → FailsClean m p
clean_never {m} {p} f = record { clean = λ s log e. absurd (f.never m s log e) }

clean_failed : {m : Machine} → FailsClean m failed
unfolding failed done
clean_failed {m} = record { clean = λ s log e. let same : m ≡ s = cc in sym same }

clean_then : {m : Machine} {A : Type 0} {p : Rule A} (k : A → Rule Answer) → Looks m p → ((a : A) → FailsClean m (k a)) → FailsClean m (p >>= k)
unfolding ◌>>=◌
clean_then {m} {A} {p} k first f = record { clean = λ s log e. go (p m) refl s log e }
  where
    go : (o : Outcome A) → p m ≡ o → (s : Machine) (log : List LogRow) → then_do o k ≡ Go Failed s log → s ≡ m
    go (Go a n rows) e s log g = next (k a m) refl (subst (λ x. after rows (k a x) ≡ Go Failed s log) (first.looks.told a n rows e).0 g)
      where
        next : (o : Outcome Answer) → k a m ≡ o → after rows o ≡ Go Failed s log → s ≡ m
        next (Go b t lines) h i =
            let same : b ≡ Failed = cc in
            let left : t ≡ s = cc in
            sym left ∙ (f a).clean t lines (h ∙ ap (λ x. Go x t lines) same)
        next (Halt c lines) h i = let no : ◌≡◌ {A = Outcome Answer} (Halt c (rows ++ lines)) (Go Failed s log) = i in absurd (cc)
        next (Spent lines) h i = let no : ◌≡◌ {A = Outcome Answer} (Spent (rows ++ lines)) (Go Failed s log) = i in absurd (cc)
    go (Halt c rows) e s log g = let no : ◌≡◌ {A = Outcome Answer} (Halt c rows) (Go Failed s log) = g in absurd (cc)
    go (Spent rows) e s log g = let no : ◌≡◌ {A = Outcome Answer} (Spent rows) (Go Failed s log) = g in absurd (cc)

clean_pick : {m : Machine} (b : Bool) (p q : Rule Answer) → FailsClean m p → FailsClean m q → FailsClean m (pick b p q)
unfolding pick
clean_pick true p q f g = f
clean_pick false p q f g = g

clean_where_true : {m : Machine} (b : Bool) (p : Rule Answer) → FailsClean m p → FailsClean m (where_true b p)
unfolding where_true
clean_where_true b p f = clean_pick b p failed f clean_failed

clean_where_some : {m : Machine} {A : Type 0} (o : Option A) (k : A → Rule Answer) → ((a : A) → FailsClean m (k a)) → FailsClean m (where_some o k)
unfolding where_some
clean_where_some None k f = clean_failed
clean_where_some (Some a) k f = f a

clean_try : {m : Machine} {A : Type 0} {p : Rule (Option A)} (k : A → Rule Answer) → Looks m p → ((a : A) → FailsClean m (k a)) → FailsClean m (p >>? k)
unfolding ◌>>?◌
clean_try k first f = clean_then _ first (λ o. clean_where_some o k f)

-- a rule that ends in an answer
clean_end : {m : Machine} {A : Type 0} (p : Rule A) (k : A → Rule Answer) → ((a : A) → NeverFails (k a)) → FailsClean m (p >>= k)
clean_end p k f = clean_never (never_then p k f)

clean-answer : {m : Machine} (n : ℕ) (v : Value) → FailsClean m (answer n v)
clean-answer n v = clean_never (never-answer n v)

clean-put_element : {m : Machine} (v : Value) (spot : Spot) (x : Value) (rest : Rule Answer) → NeverFails rest → FailsClean m (put_element v spot x rest)
clean-put_element v (Field i) x rest f = clean_end _ _ (λ _. f)
clean-put_element v (Word i) x rest f = clean_try _ (looks-index_argument x) (λ z. clean_where_some _ _ (λ n. clean_end _ _ (λ _. f)))
clean-put_element v (Byte i) x rest f = clean_where_some _ _ (λ n. clean_end _ _ (λ _. f))

ruleset cleanly = (clean_try, clean_where_true, clean_where_some, clean_failed, clean-answer, clean-put_element, clean_end, clean_then, clean_pick, never_then, never-answer, never_done)

-- ---- the primitives

clean-of_numbers : {m : Machine} (p : ℤ → ℤ → Rule Answer) → ((a b : ℤ) → FailsClean m (p a b)) → FailsClean m (of_numbers p)
unfolding of_numbers
clean-of_numbers {m} p f = clean_then _ (looks-stack 1) (λ receiver. clean_then _ (looks-stack 0) (λ argument. clean_where_some _ _ (λ a. clean_where_some _ _ (λ b. f a b))))

clean-arithmetic : {m : Machine} (f : ℤ → ℤ → Option ℤ) → FailsClean m (arithmetic f)
unfolding arithmetic
clean-arithmetic {m} f = clean-of_numbers _ (λ a b. clean_where_some _ _ (λ z. clean-answer 1 (Int z)))

clean-comparison : {m : Machine} (f : ℤ → ℤ → Bool) → FailsClean m (comparison f)
unfolding comparison
clean-comparison {m} f = clean-of_numbers _ (λ a b. clean_end _ _ (λ v. never-answer 1 v))

clean-point : {m : Machine} → FailsClean m point
unfolding point
clean-point {m} = clean-of_numbers _ (λ a b. clean_end _ _ (λ v. never-answer 1 v))

looks-large_operand : {m : Machine} (v : Value) → Looks m (large_operand v)
unfolding large_operand
looks-large_operand (Int z) = looks_done (Some z)
looks-large_operand (Ref n) = looks_peek _ (Ref n)

clean-of_large : {m : Machine} (p : ℤ → ℤ → Rule Answer) → ((a b : ℤ) → FailsClean m (p a b)) → FailsClean m (of_large p)
unfolding of_large
clean-of_large {m} p f = clean_then _ (looks-stack 1) (λ receiver. clean_then _ (looks-stack 0) (λ argument. clean_try _ (looks-large_operand receiver) (λ a. clean_try _ (looks-large_operand argument) (λ b. f a b))))

clean-answer_result : {m : Machine} (result : Option ℤ) → FailsClean m (answer_result result)
unfolding answer_result
clean-answer_result result = clean_where_some _ _ (λ z. clean_end _ _ (λ v. never-answer 1 v))

clean-large_arithmetic : {m : Machine} (f : ℤ → ℤ → Option ℤ) → FailsClean m (large_arithmetic f)
unfolding large_arithmetic
clean-large_arithmetic f = clean-of_large _ (λ a b. clean-answer_result (large_result f a b))

clean-large_comparison : {m : Machine} (f : ℤ → ℤ → Bool) → FailsClean m (large_comparison f)
unfolding large_comparison
clean-large_comparison f = clean-of_large _ (λ a b. clean_end _ _ (λ v. never-answer 1 v))

clean-large_shift : {m : Machine} → FailsClean m large_shift
unfolding large_shift of_shift
clean-large_shift {m} = clean_then _ (looks-stack 1) (λ receiver. clean_then _ (looks-stack 0) (λ argument. clean_try _ (looks-large_operand receiver) (λ a. clean_where_some _ _ (λ b. clean-answer_result (large_result shifted a b)))))

clean-at : {m : Machine} → FailsClean m at
unfolding at
clean-at {m} = search (cleanly, places) depth 20

clean-at_put : {m : Machine} → FailsClean m at_put
unfolding at_put
clean-at_put {m} = search (cleanly, places) depth 20

clean-size_of : {m : Machine} → FailsClean m size_of
unfolding size_of
clean-size_of {m} = search (cleanly, looks_peek, places) depth 20

clean-string_at : {m : Machine} → FailsClean m string_at
unfolding string_at
clean-string_at {m} = search (cleanly, looks_peek, places) depth 20

clean-string_at_put : {m : Machine} → FailsClean m string_at_put
unfolding string_at_put
clean-string_at_put {m} = search (cleanly, looks_peek, places) depth 24

clean-of_stream : {m : Machine} (limit : ℕ) (stream : Value) (p : Value → Bool → ℕ → ℤ → Rule Answer) → ((array : Value) (text : Bool) (index : ℕ) (bound : ℤ) → FailsClean m (p array text index bound)) → FailsClean m (of_stream limit stream p)
unfolding of_stream
clean-of_stream {m} limit stream p f = clean_try _ (looks_peek _ stream) (λ array. clean_try _ (looks-streamed array) (λ text. clean_try _ (looks_peek _ stream) (λ z. clean_try _ (looks_peek _ stream) (λ bound. clean_where_some _ _ (λ index. f array text index bound)))))

clean-next_spot : {m : Machine} (array : Value) (index : ℕ) (bound : ℤ) (p : Spot → Rule Answer) → ((spot : Spot) → FailsClean m (p spot)) → FailsClean m (next_spot array index bound p)
unfolding next_spot
clean-next_spot {m} array index bound p f = clean_where_true _ _ (clean_try _ (looks-element_of array _) (λ spot. clean_where_true _ _ (f spot)))

clean-streamed_element : {m : Machine} (array : Value) (text : Bool) (spot : Spot) (p : Value → Rule Answer) → ((v : Value) → NeverFails (p v)) → FailsClean m (streamed_element array text spot p)
unfolding streamed_element
clean-streamed_element {m} array text spot p f = clean_pick text _ _ (clean_try _ (looks_peek _ array) (λ byte. clean_try _ (looks-character_of byte) (λ v. clean_never (f v)))) (clean_end _ _ f)

clean-next : {m : Machine} → FailsClean m next
unfolding next
clean-next {m} = clean_then _ (looks-stack 0) (λ stream. clean-of_stream _ stream _ (λ array text index bound. clean-next_spot array index bound _ (λ spot. clean-streamed_element array text spot _ (λ v. never_then _ _ (λ _. never-answer 0 v)))))

clean-put_streamed : {m : Machine} (array : Value) (text : Bool) (spot : Spot) (v : Value) (rest : Rule Answer) → NeverFails rest → FailsClean m (put_streamed array text spot v rest)
unfolding put_streamed
clean-put_streamed {m} array text spot v rest f = clean_pick text _ _ (clean_try _ (looks-byte_of_character v) (λ byte. clean-put_element array spot _ rest f)) (clean-put_element array spot v rest f)

clean-next_put : {m : Machine} → FailsClean m next_put
unfolding next_put
clean-next_put {m} = clean_then _ (looks-stack 1) (λ stream. clean_then _ (looks-stack 0) (λ v. clean-of_stream _ stream _ (λ array text index bound. clean-next_spot array index bound _ (λ spot. clean-put_streamed array text spot v _ (never_then _ _ (λ _. never-answer 1 v))))))

clean-at_end : {m : Machine} → FailsClean m at_end
unfolding at_end
clean-at_end {m} = clean_then _ (looks-stack 0) (λ stream. clean-of_stream _ stream _ (λ array text index bound. clean_try _ (looks_peek _ array) (λ n. clean_end _ _ (λ v. never-answer 0 v))))

clean-method_object : {m : Machine} (method : Value) (header : ℤ) (n : ℕ) → FailsClean m (method_object method header n)
clean-method_object {m} method header n = clean_pick _ _ _ (clean-answer 1 (Int header)) (clean_where_true _ _ (clean_try _ (looks_peek _ method) (λ v. clean-answer 1 v)))

clean-object_at_index : {m : Machine} → FailsClean m object_at_index
unfolding object_at_index
clean-object_at_index {m} = search (cleanly, looks_peek, places, clean-method_object) depth 24

clean-object_at_put : {m : Machine} → FailsClean m object_at_put
unfolding object_at_put
clean-object_at_put {m} = search (cleanly, looks_peek, places) depth 24

clean-new : {m : Machine} → FailsClean m new
unfolding new
clean-new {m} = search (cleanly, looks_peek, places) depth 24

clean-new_with_size : {m : Machine} → FailsClean m new_with_size
unfolding new_with_size
clean-new_with_size {m} = search (cleanly, looks_peek, places) depth 24

clean-new_method : {m : Machine} → FailsClean m new_method
unfolding new_method
clean-new_method {m} = search (cleanly, looks_peek, places) depth 24

clean-instance_variable_at : {m : Machine} → FailsClean m instance_variable_at
unfolding instance_variable_at
clean-instance_variable_at {m} = search (cleanly, looks_peek, places) depth 24

clean-instance_variable_at_put : {m : Machine} → FailsClean m instance_variable_at_put
unfolding instance_variable_at_put
clean-instance_variable_at_put {m} = search (cleanly, looks_peek, places) depth 24

clean-hash : {m : Machine} → FailsClean m hash
unfolding hash
clean-hash {m} = search (cleanly, looks_peek, places) depth 16

clean-equivalent : {m : Machine} → FailsClean m equivalent
unfolding equivalent
clean-equivalent {m} = search (cleanly, looks_peek, places) depth 16

clean-become : {m : Machine} → FailsClean m become
unfolding become
clean-become {m} =
    clean_then _ (looks-stack 1) (λ receiver. clean_then _ (looks-stack 0) (λ argument. clean_then _ (looks_register _) (λ context. clean_then _ (looks_register _) (λ home. clean_then _ (looks_register _) (λ method.
    clean_where_true _ _ (clean_end _ _ (λ a. never_then _ _ (λ b. never_done))))))))

clean-class : {m : Machine} → FailsClean m class
unfolding class
clean-class {m} = search (cleanly, looks_peek, places) depth 16

-- ---- blocks and performs

clean-block_copy : {m : Machine} → FailsClean m block_copy
unfolding block_copy
clean-block_copy {m} = search (cleanly, looks_peek, places) depth 24

looks-pointer_for : {m : Machine} (block : Value) (n : ℕ) → Looks m (pointer_for block n)
unfolding pointer_for
looks-pointer_for {m} block n = looks_then _ (looks_peek _ block) (λ count. looks_pick _ _ _ (looks_peek _ block) (looks_done None))

looks-block_start : {m : Machine} (block : Value) (n : ℕ) → Looks m (block_start block n)
unfolding block_start
looks-block_start {m} block n = looks_then _ (looks_class_of block) (λ class. looks_pick _ _ _ (looks-pointer_for block n) (looks_done None))

never-enter_block : (block : Value) (n : ℕ) (ip : ℤ) → NeverFails (enter_block block n ip)
unfolding enter_block
never-enter_block block n ip = never_then _ _ (λ a. never_then _ _ (λ b. never_then _ _ (λ active. never_then _ _ (λ c. never_then _ _ (λ d. never_done)))))

clean-value : {m : Machine} → FailsClean m value
unfolding value
clean-value {m} = clean_then _ looks_numbers (λ cpu. clean_then _ (looks-stack cpu.args) (λ block. clean_try _ (looks-block_start block cpu.args) (λ ip. clean_never (never_then _ _ (λ a. never_then _ _ (λ b. never-enter_block block cpu.args ip))))))

looks-array_length : {m : Machine} (array : Value) → Looks m (array_length array)
unfolding array_length
looks-array_length {m} array = looks_then _ (looks_class_of array) (λ class. looks_pick _ _ _ (looks_peek _ array) (looks_done None))

clean-value_with_arguments : {m : Machine} → FailsClean m value_with_arguments
unfolding value_with_arguments
clean-value_with_arguments {m} = clean_then _ (looks-stack 1) (λ block. clean_then _ (looks-stack 0) (λ array. clean_try _ (looks-array_length array) (λ n. clean_try _ (looks-block_start block n) (λ ip. clean_never (never_then _ _ (λ a. never_then _ _ (λ b. never-enter_block block n ip)))))))

looks-lookup : {m : Machine} (selector class : Value) → Looks m (lookup selector class)
looks-lookup {m} selector class = record { looks = record { told = λ found s log e. ((lookup_takes m s selector class found log e).0, tt) } }

looks-arguments_of : {m : Machine} (method : Value) → Looks m (arguments_of method)
unfolding arguments_of
looks-arguments_of {m} method = looks_then _ (looks_part _ _ method) (λ header. looks_pick _ _ _ (looks_then _ (looks_part _ _ method) (λ it. looks_done _)) (looks_done _))

looks-taking : {m : Machine} (n : ℕ) (o : Option Value) → Looks m (taking n o)
unfolding taking
looks-taking n None = looks_done None
looks-taking n (Some v) = looks_pick _ _ _ (looks_then _ (looks-arguments_of v) (λ k. looks_done _)) (looks_done None)

looks-method_for : {m : Machine} (receiver selector : Value) (n : ℕ) → Looks m (method_for receiver selector n)
unfolding method_for
looks-method_for {m} receiver selector n = looks_then _ (looks_class_of receiver) (λ class. looks_then _ (looks-lookup selector class) (λ found. looks-taking n found))

never-execute_found : (method : Value) (n : ℕ) → NeverFails (execute_found method n)
unfolding execute_found
never-execute_found method n = never_then _ _ (λ a. never_then _ _ (λ b. never_execute))

clean-perform : {m : Machine} → FailsClean m perform
unfolding perform perform_with
clean-perform {m} =
    clean_then _ looks_numbers (λ cpu. clean_where_true _ _ (clean_then _ (looks-stack _) (λ receiver. clean_then _ (looks-stack _) (λ selector.
    clean_where_true _ _ (clean_try _ (looks-method_for receiver selector _) (λ method. clean_never (never_then _ _ (λ a. never_then _ _ (λ b. never-execute_found method _)))))))))

looks-has_room : {m : Machine} (n : ℕ) → Looks m (has_room n)
unfolding has_room
looks-has_room {m} n = looks_then _ looks_numbers (λ cpu. looks_then _ (looks_register _) (λ active. looks_then _ (looks_part _ _ active) (λ len. looks_done _)))

clean-perform_with_arguments : {m : Machine} → FailsClean m perform_with_arguments
unfolding perform_with_arguments
clean-perform_with_arguments {m} =
    clean_then _ (looks-stack 2) (λ receiver. clean_then _ (looks-stack 1) (λ selector. clean_then _ (looks-stack 0) (λ array.
    clean_where_true _ _ (clean_try _ (looks-array_length array) (λ n. clean_try _ (looks-method_for receiver selector n) (λ method.
    clean_then _ (looks-has_room n) (λ room. clean_where_true _ _ (clean_never (never_then _ _ (λ a. never_then _ _ (λ b. never-execute_found method n)))))))))))

clean-flush_cache : {m : Machine} → FailsClean m flush_cache
unfolding flush_cache
clean-flush_cache {m} = clean_never never_done

clean-quit : {m : Machine} → FailsClean m quit
unfolding quit
clean-quit {m} = clean_never never_quit

-- ---- processes

clean-primitive_signal : {m : Machine} → FailsClean m primitive_signal
unfolding primitive_signal
clean-primitive_signal {m} = clean_then _ (looks-stack 0) (λ semaphore. clean_try _ (looks_peek _ semaphore) (λ excess. clean_end _ _ (λ a. never_done)))

clean-primitive_wait : {m : Machine} → FailsClean m primitive_wait
unfolding primitive_wait
clean-primitive_wait {m} = clean_then _ (looks-stack 0) (λ semaphore. clean_try _ (looks_peek _ semaphore) (λ excess. clean_end _ _ (λ a. never_done)))

looks-scheduler : {m : Machine} → Looks m scheduler
unfolding scheduler
looks-scheduler {m} = search looking depth 12

looks-process_lists : {m : Machine} → Looks m process_lists
unfolding process_lists
looks-process_lists {m} = looks_then _ looks-scheduler (λ scheduler. looks_part _ _ scheduler)

looks-has_list : {m : Machine} (priority : ℤ) → Looks m (has_list priority)
unfolding has_list
looks-has_list {m} priority = looks_then _ looks-process_lists (λ lists. looks_then _ (looks_part _ _ lists) (λ n. looks_done _))

clean-primitive_resume : {m : Machine} → FailsClean m primitive_resume
unfolding primitive_resume
clean-primitive_resume {m} =
    clean_then _ (looks-stack 0) (λ process. clean_try _ (looks_peek _ process) (λ priority.
    clean_then _ (looks-has_list priority) (λ has. clean_where_true _ _ (clean_end _ _ (λ a. never_done)))))

looks-current_process : {m : Machine} → Looks m current_process
unfolding current_process active_process
looks-current_process {m} = looks_then _ looks_numbers (λ cpu. looks_pick _ _ _ (looks_register _) (looks_then _ looks-scheduler (λ scheduler. looks_part _ _ scheduler)))

clean-primitive_suspend : {m : Machine} → FailsClean m primitive_suspend
unfolding primitive_suspend
clean-primitive_suspend {m} =
    clean_then _ (looks-stack 0) (λ process. clean_then _ looks-current_process (λ current. clean_where_true _ _
    (clean_end _ _ (λ nil. never_then _ _ (λ a. never_then _ _ (λ b. never_done))))))

-- ---- devices and blits

looks-semaphore_or_nil : {m : Machine} (v : Value) → Looks m (semaphore_or_nil v)
unfolding semaphore_or_nil
looks-semaphore_or_nil {m} v = search looking depth 12

looks-count_of : {m : Machine} (bits : Option Value) → Looks m (count_of bits)
looks-count_of None = looks_done None
looks-count_of (Some bits) = looks_peek _ bits

looks-form_where : {m : Machine} (enough : Extent → ℕ → Bool) (v : Value) → Looks m (form_where enough v)
unfolding form_where
looks-form_where {m} enough v = looks_then _ (looks_peek _ v) (λ bits. looks_then _ (looks-count_of bits) (λ count. looks_then _ (looks_peek _ v) (λ extent. looks_done _)))

looks-form_of : {m : Machine} (v : Value) → Looks m (form_of v)
unfolding form_of
looks-form_of {m} v = looks-form_where _ v

looks-form_or_nil : {m : Machine} (shape : Value → Rule (Option Form)) (v : Value) → Looks m (shape v) → Looks m (form_or_nil shape v)
unfolding form_or_nil
looks-form_or_nil {m} shape v f = looks_pick _ _ _ (looks_done _) (looks_then _ f (λ o. looks_done _))

looks-string_text : {m : Machine} (v : Value) → Looks m (string_text v)
unfolding string_text
looks-string_text {m} v = search looking depth 12

looks-display_form : {m : Machine} → Looks m display_form
unfolding display_form
looks-display_form {m} = looks_then _ looks_numbers (λ cpu. looks_then _ (looks_register _) (λ form. looks_pick _ _ _ (looks-form_of form) (looks_done None)))

looks-display_row : {m : Machine} (y : ℕ) → Looks m (display_row y)
unfolding display_row
looks-display_row {m} y = looks_then _ looks-display_form (λ shape. looks_then _ (looks_given _ shape) (λ form. looks_then _ (looks_part _ _ form.bits) (λ words. looks_done _)))

looks-picture_of : {m : Machine} (form : Option Form) → Looks m (picture_of form)
looks-picture_of None = looks_done []
looks-picture_of (Some form) = looks_then _ (looks_part _ _ form.bits) (λ words. looks_done _)

looks-picture : {m : Machine} → Looks m picture
unfolding picture
looks-picture {m} = looks_then _ looks-display_form looks-picture_of

-- what is drawn changes nothing
pub form_leaves : (m s : Machine) (form : Option Form) (log : List LogRow) → display_form m ≡ Go form s log → s ≡ m
form_leaves m s form log e = (looks-display_form.looks.told form s log e).0

pub row_leaves : (y : ℕ) (m s : Machine) (bytes : List ℕ) (log : List LogRow) → display_row y m ≡ Go bytes s log → s ≡ m
row_leaves y m s bytes log e = ((looks-display_row y).looks.told bytes s log e).0

pub picture_leaves : (m s : Machine) (bytes : List ℕ) (log : List LogRow) → picture m ≡ Go bytes s log → s ≡ m
picture_leaves m s bytes log e = (looks-picture.looks.told bytes s log e).0

clean-input_semaphore : {m : Machine} → FailsClean m input_semaphore
unfolding input_semaphore set_input
clean-input_semaphore {m} = clean_then _ (looks-stack 0) (λ v. clean_try _ (looks-semaphore_or_nil v) (λ there. clean_end _ _ (λ a. never_then _ _ (λ cpu. never_then _ _ (λ b. never_then _ _ (λ d. never_done))))))

never-take_word : (word : ℕ) → NeverFails (take_word word)
unfolding take_word
never-take_word word = never_then _ _ (λ v. never_then _ _ (λ cpu. never_then _ _ (λ b. never-answer 0 v)))

clean-input_word : {m : Machine} (events : List Line) → FailsClean m (input_word events)
unfolding input_word
clean-input_word {m} events = clean_then _ looks_numbers (λ cpu. clean_where_some _ _ (λ word. clean_never (never-take_word word)))

clean-keep_machine : {m : Machine} → FailsClean m keep_machine
unfolding keep_machine
clean-keep_machine {m} = clean_then _ (looks-stack 0) (λ v. clean_then _ looks_numbers (λ cpu. clean_where_true _ _ (clean_never never_keep)))

clean-tick_words : {m : Machine} → FailsClean m tick_words
unfolding tick_words
clean-tick_words {m} = clean_then _ (looks-stack 0) (λ v. clean_try _ (looks_peek _ v) (λ old. clean_end _ _ (λ cpu. never_then _ _ (λ a. never_then _ _ (λ b. never_done)))))

clean-signal_at_tick : {m : Machine} → FailsClean m signal_at_tick
unfolding signal_at_tick set_timer
clean-signal_at_tick {m} = clean_then _ (looks-stack 1) (λ v. clean_then _ (looks-stack 0) (λ bytes. clean_try _ (looks-semaphore_or_nil v) (λ there. clean_try _ (looks_peek _ bytes) (λ tick. clean_end _ _ (λ a. never_then _ _ (λ cpu. never_then _ _ (λ b. never_then _ _ (λ d. never_done))))))))

clean-be_display : {m : Machine} → FailsClean m be_display
unfolding be_display show_form
clean-be_display {m} = clean_then _ (looks-stack 0) (λ form. clean_try _ (looks-form_of form) (λ shape. clean_end _ _ (λ a. never_then _ _ (λ cpu. never_then _ _ (λ b. never_done)))))

clean-say_string : {m : Machine} → FailsClean m say_string
unfolding say_string
clean-say_string {m} = clean_then _ (looks-stack 0) (λ v. clean_try _ (looks-string_text v) (λ bytes. clean_end _ _ (λ a. never_then _ _ (λ b. never_done))))

clean-copy_bits : {m : Machine} → FailsClean m copy_bits
unfolding copy_bits
clean-copy_bits {m} = clean_then _ (looks-stack 0) (λ blit. clean_try _ (looks_peek _ blit) (λ q. clean_try _ (looks_peek _ blit) (λ dest_form. clean_try _ (looks-form_of dest_form) (λ dest.
    clean_try _ (looks_peek _ blit) (λ source_form. clean_try _ (looks-form_or_nil _ source_form (looks-form_of source_form)) (λ source.
    clean_try _ (looks_peek _ blit) (λ tone_form. clean_try _ (looks-form_or_nil _ tone_form (looks-form_where _ tone_form)) (λ tone.
    clean_end _ _ (λ a. never_done)))))))))

-- ---- the table

AreClean : Machine → List Primitive → Type 0
AreClean m [] = Unit {0}
AreClean m (p ∷ ps) = FailsClean m p.rule × AreClean m ps

clean-with_arguments : {m : Machine} (p : Primitive) → FailsClean m p.rule → FailsClean m (with_arguments p)
unfolding with_arguments
clean-with_arguments p f = clean_then _ looks_numbers (λ cpu. clean_where_true _ _ f)

clean-primitive_in : {m : Machine} (ps : List Primitive) (index : ℕ) → AreClean m ps → FailsClean m (primitive_in ps index)
unfolding AreClean
clean-primitive_in [] index f = clean_failed
clean-primitive_in (p ∷ ps) index f = clean_pick _ _ _ (clean-with_arguments p f.0) (clean-primitive_in ps index f.1)

primitives_clean : (m : Machine) → AreClean m (integer_primitives ++ object_primitives)
unfolding AreClean integer_primitives object_primitives
primitives_clean m = search (clean-arithmetic, clean-comparison, clean-point, clean-at, clean-at_put, clean-size_of, clean-string_at, clean-string_at_put, clean-next, clean-next_put, clean-at_end, clean-object_at_index, clean-object_at_put, clean-new, clean-new_with_size, clean-new_method, clean-instance_variable_at, clean-instance_variable_at_put, clean-hash, clean-equivalent, clean-become, clean-class) depth 80 fits 40000

large_clean : (m : Machine) → AreClean m large_primitives
unfolding AreClean large_primitives
large_clean m = search (clean-large_arithmetic, clean-large_comparison, clean-large_shift) depth 80 fits 40000

control_clean : (m : Machine) → AreClean m control_primitives
unfolding AreClean control_primitives
control_clean m = (clean-block_copy, (clean-value_with_arguments, (clean-perform_with_arguments, (clean-flush_cache, (clean-quit, tt)))))

clean-control_primitive : {m : Machine} (index : ℕ) → FailsClean m (control_primitive index)
unfolding control_primitive
clean-control_primitive {m} index = clean_pick _ _ _ clean-value (clean_pick _ _ _ clean-perform (clean-primitive_in _ index (control_clean m)))

processes_clean : (m : Machine) → AreClean m process_primitives
unfolding AreClean process_primitives
processes_clean m = (clean-primitive_signal, (clean-primitive_wait, (clean-primitive_resume, (clean-primitive_suspend, tt))))

blits_clean : (m : Machine) → AreClean m blit_primitives
unfolding AreClean blit_primitives
blits_clean m = (clean-copy_bits, tt)

devices_clean : (m : Machine) (events : List Line) → AreClean m (device_primitives events)
unfolding AreClean device_primitives
devices_clean m events = (clean-input_semaphore, (clean-input_word events, (clean-keep_machine, (clean-tick_words, (clean-signal_at_tick, (clean-be_display, (clean-say_string, tt)))))))

pub copy_bits_changes_nothing : (m s : Machine) (log : List LogRow) → copy_bits m ≡ Go Failed s log → s ≡ m
copy_bits_changes_nothing m s log e = clean-copy_bits.clean s log e

pub failed_changes_nothing : (events : List Line) (index : ℕ) (m s : Machine) (log : List LogRow) → primitive events index m ≡ Go Failed s log → s ≡ m
unfolding primitive
failed_changes_nothing events index m s log e = let clean : FailsClean m (primitive events index) = clean_pick _ _ _ (clean-control_primitive index) (clean_pick _ _ _ (clean-primitive_in _ index (processes_clean m)) (clean_pick _ _ _ (clean-primitive_in _ index (blits_clean m)) (clean_pick _ _ _ (clean-primitive_in _ index (devices_clean m events)) (clean_pick _ _ _ (clean-primitive_in _ index (large_clean m)) (clean-primitive_in _ index (primitives_clean m)))))) in clean.clean s log e
