-- The vault and the pins stay as they are through a cycle, and where the vault is false no run comes to Keep.
use Rattle.blue_model.specs.declared.event.Line.{Line}
use Rattle.blue_model.specs.BitBlt.{blit_primitives}
use Rattle.blue_model.specs.Devices.{device_primitives}
use Rattle.std.proofs.Common.{◌≡◌, ℕ, ℤ, ◌-◌, zero, suc, refl, ◌∙◌, ap, subst, Bool, false, List, [], ◌∷◌, ◌++◌}
use Rattle.long_names.specs.declared.value.Value.{Value}
use Rattle.blue_model.specs.Machine.{Machine, LogRow, Outcome, Go, Halt, Spent, Rule, ◌>>◌, done}
use Rattle.blue_model.specs.Bytecodes.{receiver_variable, temporary, literal_constant, literal_variable, store_receiver_variable, store_temporary, store_literal_variable, push_of, push_known, push_number, push_receiver, push_active_context, duplicate_top, store_top, store_and_pop, by_kind, extended_push, extended_store_of, extended_store, extended_store_and_pop, return_home, return_of, return_from_block, jump_where, jump_on, long_jump, long_jump_on, send_literal, send_literal_super, single_extended, double_extended, tried_for, arithmetic_send, block_send, Range, bytecodes, has_byte, ruled, bytecode}
use Rattle.blue_model.specs.Messages.{activate}
use Rattle.blue_model.specs.Processes.{process_primitives}
use Rattle.blue_model.specs.Control.{control_primitives, control_primitive}
use Rattle.blue_model.specs.Sends.{answer_field, execute_extended, execute_method, execute, send_from, send, send_super, special_send, cannot_return, must_be_boolean, return_to}
use Rattle.blue_model.specs.Cycle.{count_bytecode, step, turn, cycle, Run, Ran, Stopped, run_of, one_more, run}
use Rattle.blue_model.specs.declared.answer.Answer.TheVariants.{Done}
use Rattle.blue_model.specs.declared.step.Step.{Step}
use Rattle.blue_model.specs.declared.step.Step.TheVariants.{Next, Quit, Keep}
use Rattle.blue_model.specs.Trials.{Primitive, with_arguments, primitive_in}
use Rattle.blue_model.specs.Arithmetic.{integer_primitives}
use Rattle.blue_model.specs.LargeInts.{large_primitives}
use Rattle.blue_model.specs.Storage.{class, object_primitives}
use Rattle.blue_model.specs.Primitives.{primitive, then_next, tried}
use Rattle.blue_model.specs.Alike.{IsPlain}
use Rattle.blue_model.proofs.KeepSteps.{keeps_plain, keeps_answer, keeps_step, keeps_halt, keeps_pick, keeps_numbers, keeps_part, keeps_where_true, keeps_failed, answer_done, answer_again, step_next, step_by, step_again, keeping, Kept, Keeps, MayKeep, MayEnd}
use Rattle.blue_model.proofs.KeepRules.{keeps-store_field, keeps-push, keeps-stack, keeps-pop, keeps-pop_top, keeps-fetch, keeps-jump, keeps-back_with, keeps-set_arguments, keeps-find_or_tell, keeps-activate, keeps-put_stack, keeps-arithmetic, keeps-comparison, keeps-point, keeps-at, keeps-at_put, keeps-size_of, keeps-string_at, keeps-string_at_put, keeps-next, keeps-next_put, keeps-at_end, keeps-object_at_index, keeps-object_at_put, keeps-new, keeps-new_with_size, keeps-new_method, keeps-instance_variable_at, keeps-instance_variable_at_put, keeps-hash, keeps-equivalent, keeps-class, keeps-check_switch, keeps-primitive_signal, keeps-primitive_wait, keeps-primitive_resume, keeps-primitive_suspend, keeps-block_copy, keeps-value, keeps-value_with_arguments, keeps-perform, keeps-perform_with_arguments, keeps-flush_cache, keeps-quit, keeps-copy_bits, keeps-input_semaphore, keeps-input_word, keeps-keep_machine, keeps-tick_words, keeps-signal_at_tick, keeps-be_display, keeps-say_string, keeps-due, keeps-become, keeps-large_arithmetic, keeps-large_comparison, keeps-large_shift}

-- ---- the table of primitives

keeps-with_arguments : {w : Kept} (p : Primitive) → Keeps w (MayKeep w) p.rule → Keeps w (MayKeep w) (with_arguments p)
unfolding with_arguments
keeps-with_arguments p f = keeps_numbers _ (λ cpu e. keeps_where_true _ _ f)

-- each row has such a rule
AreKeeping : Kept → List Primitive → Type 0
AreKeeping w [] = Unit {0}
AreKeeping w (p ∷ ps) = Keeps w (MayKeep w) p.rule × AreKeeping w ps

keeps-primitive_in : {w : Kept} (ps : List Primitive) (index : ℕ) → AreKeeping w ps → Keeps w (MayKeep w) (primitive_in ps index)
unfolding AreKeeping
keeps-primitive_in [] index f = keeps_failed
keeps-primitive_in (p ∷ ps) index f = keeps_pick _ _ _ (keeps-with_arguments p f.0) (keeps-primitive_in ps index f.1)

primitives_keep : (w : Kept) → AreKeeping w (integer_primitives ++ object_primitives)
unfolding AreKeeping integer_primitives object_primitives
primitives_keep w = search (keeps-arithmetic, keeps-comparison, keeps-point, keeps-at, keeps-at_put, keeps-size_of, keeps-string_at, keeps-string_at_put, keeps-next, keeps-next_put, keeps-at_end, keeps-object_at_index, keeps-object_at_put, keeps-new, keeps-new_with_size, keeps-new_method, keeps-instance_variable_at, keeps-instance_variable_at_put, keeps-hash, keeps-equivalent, keeps-become, keeps-class) depth 80 fits 40000

large_keep : (w : Kept) → AreKeeping w large_primitives
unfolding AreKeeping large_primitives
large_keep w = search (keeps-large_arithmetic, keeps-large_comparison, keeps-large_shift) depth 80 fits 40000

control_keeps : (w : Kept) → AreKeeping w control_primitives
unfolding AreKeeping control_primitives
control_keeps w = (keeps-block_copy, (keeps-value_with_arguments, (keeps-perform_with_arguments, (keeps-flush_cache, (keeps-quit, tt)))))

keeps-control_primitive : {w : Kept} (index : ℕ) → Keeps w (MayKeep w) (control_primitive index)
unfolding control_primitive
keeps-control_primitive {w} index = keeps_pick _ _ _ keeps-value (keeps_pick _ _ _ keeps-perform (keeps-primitive_in _ index (control_keeps w)))

processes_keep : (w : Kept) → AreKeeping w process_primitives
unfolding AreKeeping process_primitives
processes_keep w = (keeps-primitive_signal, (keeps-primitive_wait, (keeps-primitive_resume, (keeps-primitive_suspend, tt))))

blits_keep : (w : Kept) → AreKeeping w blit_primitives
unfolding AreKeeping blit_primitives
blits_keep w = (keeps-copy_bits, tt)

devices_keep : (w : Kept) (events : List Line) → AreKeeping w (device_primitives events)
unfolding AreKeeping device_primitives
devices_keep w events = (keeps-input_semaphore, (keeps-input_word events, (keeps-keep_machine, (keeps-tick_words, (keeps-signal_at_tick, (keeps-be_display, (keeps-say_string, tt)))))))

keeps-primitive : {w : Kept} (events : List Line) (index : ℕ) → Keeps w (MayKeep w) (primitive events index)
unfolding primitive
keeps-primitive {w} events index = keeps_pick _ _ _ (keeps-control_primitive index) (keeps_pick _ _ _ (keeps-primitive_in _ index (processes_keep w)) (keeps_pick _ _ _ (keeps-primitive_in _ index (blits_keep w)) (keeps_pick _ _ _ (keeps-primitive_in _ index (devices_keep w events)) (keeps_pick _ _ _ (keeps-primitive_in _ index (large_keep w)) (keeps-primitive_in _ index (primitives_keep w))))))

keeps-then_next : {w : Kept} (p : Rule (Unit {0})) → Keeps w IsPlain p → Keeps w (MayEnd w) (then_next p)
unfolding then_next
keeps-then_next p f = keeps_plain _ f (λ _. step_next)

keeps-tried : {w : Kept} (events : List Line) (index : ℕ) (rest : Rule Step) → Keeps w (MayEnd w) rest → Keeps w (MayEnd w) (tried events index rest)
unfolding tried
keeps-tried events index rest f = keeps_answer _ (keeps-primitive events index) (λ answer k. keeps_pick _ _ _ f (step_by answer k))

-- ---- sends

pub keeps-answer_field : {w : Kept} (i : ℕ) → Keeps w IsPlain (answer_field i)
unfolding answer_field
keeps-answer_field {w} i = search (keeping, keeps-stack, keeps-put_stack) depth 14

activated : {w : Kept} → Keeps w (MayKeep w) (activate >> done Done)
activated = keeps_plain _ keeps-activate (λ _. answer_done)

keeps-execute_extended : {w : Kept} (events : List Line) (performed : Bool) (method : Value) → Keeps w (MayKeep w) (execute_extended events performed method)
unfolding execute_extended
keeps-execute_extended events performed method = keeps_plain _ (keeps_part _ _ method) (λ it. keeps_pick _ _ _ activated (keeps_answer _ (keeps-primitive _ _) (λ answer k. keeps_pick _ _ _ activated (answer_again answer k))))

pub keeps-execute_method : {w : Kept} (events : List Line) (performed : Bool) → Keeps w (MayKeep w) (execute_method events performed)
unfolding execute_method
keeps-execute_method {w} events performed = search (keeping, keeps-answer_field, keeps-execute_extended, activated) depth 16

keeps-execute : {w : Kept} (events : List Line) → Keeps w (MayEnd w) (execute events)
unfolding execute
keeps-execute events = keeps_answer _ (keeps-execute_method _ _) (λ answer k. keeps_pick _ _ _ (keeps_answer _ (keeps-execute_method _ _) (λ last l. step_by last l)) (step_by answer k))

pub keeps-send_from : {w : Kept} (events : List Line) (class selector : Value) (n : ℕ) → Keeps w (MayEnd w) (send_from events class selector n)
unfolding send_from
keeps-send_from {w} events class selector n = search (keeping, keeps-set_arguments, keeps-find_or_tell, keeps-execute) depth 14

pub keeps-send : {w : Kept} (events : List Line) (selector : Value) (n : ℕ) → Keeps w (MayEnd w) (send events selector n)
unfolding send
keeps-send {w} events selector n = search (keeping, keeps-stack, keeps-send_from) depth 12

pub keeps-send_super : {w : Kept} (events : List Line) (selector : Value) (n : ℕ) → Keeps w (MayEnd w) (send_super events selector n)
unfolding send_super
keeps-send_super {w} events selector n = search (keeping, keeps-stack, keeps-send_from) depth 16

pub keeps-special_send : {w : Kept} (events : List Line) (s : ℕ) → Keeps w (MayEnd w) (special_send events s)
unfolding special_send
keeps-special_send {w} events s = search (keeping, keeps-send) depth 14

pub keeps-cannot_return : {w : Kept} (events : List Line) (v : Value) → Keeps w (MayEnd w) (cannot_return events v)
unfolding cannot_return
keeps-cannot_return {w} events v = search (keeping, keeps-push, keeps-send) depth 14

pub keeps-must_be_boolean : {w : Kept} (events : List Line) (v : Value) → Keeps w (MayEnd w) (must_be_boolean events v)
unfolding must_be_boolean
keeps-must_be_boolean {w} events v = search (keeping, keeps-push, keeps-send) depth 12

pub keeps-return_to : {w : Kept} (events : List Line) (context v : Value) → Keeps w (MayEnd w) (return_to events context v)
unfolding return_to
keeps-return_to {w} events context v = search (keeping, keeps-cannot_return, keeps-back_with, keeps-then_next) depth 14

-- ---- bytecodes

pub keeps-receiver_variable : {w : Kept} (i : ℕ) → Keeps w IsPlain (receiver_variable i)
unfolding receiver_variable
keeps-receiver_variable {w} i = search keeping depth 12

pub keeps-temporary : {w : Kept} (i : ℕ) → Keeps w IsPlain (temporary i)
unfolding temporary
keeps-temporary {w} i = search keeping depth 12

pub keeps-literal_constant : {w : Kept} (i : ℕ) → Keeps w IsPlain (literal_constant i)
unfolding literal_constant
keeps-literal_constant {w} i = search keeping depth 12

pub keeps-literal_variable : {w : Kept} (i : ℕ) → Keeps w IsPlain (literal_variable i)
unfolding literal_variable
keeps-literal_variable {w} i = search (keeping, keeps-literal_constant) depth 12

pub keeps-store_receiver_variable : {w : Kept} (i : ℕ) (v : Value) → Keeps w IsPlain (store_receiver_variable i v)
unfolding store_receiver_variable
keeps-store_receiver_variable {w} i v = search (keeping, keeps-store_field) depth 12

pub keeps-store_temporary : {w : Kept} (i : ℕ) (v : Value) → Keeps w IsPlain (store_temporary i v)
unfolding store_temporary
keeps-store_temporary {w} i v = search (keeping, keeps-store_field) depth 12

pub keeps-store_literal_variable : {w : Kept} (i : ℕ) (v : Value) → Keeps w IsPlain (store_literal_variable i v)
unfolding store_literal_variable
keeps-store_literal_variable {w} i v = search (keeping, keeps-literal_constant, keeps-store_field) depth 12

keeps-push_of : {w : Kept} (p : Rule Value) → Keeps w IsPlain p → Keeps w IsPlain (push_of p)
unfolding push_of
keeps-push_of p f = keeps_plain _ f (λ v. keeps-push v)

pub keeps-push_known : {w : Kept} (n : ℕ) → Keeps w IsPlain (push_known n)
unfolding push_known
keeps-push_known {w} n = search (keeping, keeps-push) depth 12

pub keeps-push_number : {w : Kept} (i : ℕ) → Keeps w IsPlain (push_number i)
unfolding push_number
keeps-push_number {w} i = search (keeping, keeps-push) depth 12

pub keeps-push_receiver : {w : Kept} → Keeps w IsPlain push_receiver
unfolding push_receiver
keeps-push_receiver {w} = search (keeping, keeps-push_of) depth 12

pub keeps-push_active_context : {w : Kept} → Keeps w IsPlain push_active_context
unfolding push_active_context
keeps-push_active_context {w} = search (keeping, keeps-push_of) depth 12

pub keeps-duplicate_top : {w : Kept} → Keeps w IsPlain duplicate_top
unfolding duplicate_top
keeps-duplicate_top {w} = search (keeping, keeps-push_of, keeps-stack) depth 12

keeps-store_top : {w : Kept} (p : Value → Rule (Unit {0})) → ((v : Value) → Keeps w IsPlain (p v)) → Keeps w IsPlain (store_top p)
unfolding store_top
keeps-store_top p f = keeps_plain _ (keeps-stack 0) f

keeps-store_and_pop : {w : Kept} (p : Value → Rule (Unit {0})) → ((v : Value) → Keeps w IsPlain (p v)) → Keeps w IsPlain (store_and_pop p)
unfolding store_and_pop
keeps-store_and_pop p f = keeps_plain _ (keeps-store_top p f) (λ _. keeps-pop 1)

keeps-by_kind : {w : Kept} {A : Type 0} {K : A → Type 0} (n : ℕ) (a b c d : Rule A) → Keeps w K a → Keeps w K b → Keeps w K c → Keeps w K d → Keeps w K (by_kind n a b c d)
unfolding by_kind
keeps-by_kind n a b c d f g h i = keeps_pick _ _ _ f (keeps_pick _ _ _ g (keeps_pick _ _ _ h i))

pub keeps-extended_push : {w : Kept} → Keeps w IsPlain extended_push
unfolding extended_push
keeps-extended_push {w} = search (keeping, keeps-fetch, keeps-push_of, keeps-by_kind, keeps-receiver_variable, keeps-temporary, keeps-literal_constant, keeps-literal_variable) depth 12

pub keeps-extended_store_of : {w : Kept} (n : ℕ) → Keeps w IsPlain (extended_store_of n)
unfolding extended_store_of
keeps-extended_store_of {w} n = search (keeping, keeps-by_kind, keeps-store_top, keeps-store_receiver_variable, keeps-store_temporary, keeps-store_literal_variable) depth 12

pub keeps-extended_store : {w : Kept} → Keeps w IsPlain extended_store
unfolding extended_store
keeps-extended_store {w} = search (keeping, keeps-fetch, keeps-extended_store_of) depth 12

pub keeps-extended_store_and_pop : {w : Kept} → Keeps w IsPlain extended_store_and_pop
unfolding extended_store_and_pop
keeps-extended_store_and_pop {w} = search (keeping, keeps-fetch, keeps-extended_store_of, keeps-pop) depth 12

pub keeps-return_home : {w : Kept} (events : List Line) (v : Value) → Keeps w (MayEnd w) (return_home events v)
unfolding return_home
keeps-return_home {w} events v = search (keeping, keeps-return_to) depth 12

keeps-return_of : {w : Kept} (events : List Line) (p : Rule Value) → Keeps w IsPlain p → Keeps w (MayEnd w) (return_of events p)
unfolding return_of
keeps-return_of events p f = keeps_plain _ f (λ v. keeps-return_home events v)

pub keeps-return_from_block : {w : Kept} (events : List Line) → Keeps w (MayEnd w) (return_from_block events)
unfolding return_from_block
keeps-return_from_block {w} events = search (keeping, keeps-pop_top, keeps-return_to) depth 12

pub keeps-jump_where : {w : Kept} (events : List Line) (taken passed : ℕ) (distance : ℤ) (v : Value) → Keeps w (MayEnd w) (jump_where events taken passed distance v)
unfolding jump_where
keeps-jump_where {w} events taken passed distance v = search (keeping, keeps-jump, keeps-must_be_boolean, keeps-then_next) depth 12

pub keeps-jump_on : {w : Kept} (events : List Line) (taken passed : ℕ) (distance : ℤ) → Keeps w (MayEnd w) (jump_on events taken passed distance)
unfolding jump_on
keeps-jump_on {w} events taken passed distance = search (keeping, keeps-pop_top, keeps-jump_where) depth 12

pub keeps-long_jump : {w : Kept} (i : ℕ) → Keeps w IsPlain (long_jump i)
unfolding long_jump
keeps-long_jump {w} i = search (keeping, keeps-fetch, keeps-jump) depth 12

pub keeps-long_jump_on : {w : Kept} (events : List Line) (taken passed i : ℕ) → Keeps w (MayEnd w) (long_jump_on events taken passed i)
unfolding long_jump_on
keeps-long_jump_on {w} events taken passed i = search (keeping, keeps-fetch, keeps-jump_on) depth 12

pub keeps-send_literal : {w : Kept} (events : List Line) (i n : ℕ) → Keeps w (MayEnd w) (send_literal events i n)
unfolding send_literal
keeps-send_literal {w} events i n = search (keeping, keeps-literal_constant, keeps-send) depth 12

pub keeps-send_literal_super : {w : Kept} (events : List Line) (i n : ℕ) → Keeps w (MayEnd w) (send_literal_super events i n)
unfolding send_literal_super
keeps-send_literal_super {w} events i n = search (keeping, keeps-literal_constant, keeps-send_super) depth 12

keeps-single_extended : {w : Kept} (p : ℕ → ℕ → Rule Step) → ((i n : ℕ) → Keeps w (MayEnd w) (p i n)) → Keeps w (MayEnd w) (single_extended p)
unfolding single_extended
keeps-single_extended p f = keeps_plain _ keeps-fetch (λ n. f _ _)

keeps-double_extended : {w : Kept} (p : ℕ → ℕ → Rule Step) → ((i n : ℕ) → Keeps w (MayEnd w) (p i n)) → Keeps w (MayEnd w) (double_extended p)
unfolding double_extended
keeps-double_extended p f = keeps_plain _ keeps-fetch (λ n. keeps_plain _ keeps-fetch (λ i. f i n))

pub keeps-tried_for : {w : Kept} (events : List Line) (index n s : ℕ) → Keeps w (MayEnd w) (tried_for events index n s)
unfolding tried_for
keeps-tried_for {w} events index n s = search (keeping, keeps-set_arguments, keeps-tried, keeps-special_send) depth 12

pub keeps-arithmetic_send : {w : Kept} (events : List Line) (s : ℕ) → Keeps w (MayEnd w) (arithmetic_send events s)
unfolding arithmetic_send
keeps-arithmetic_send {w} events s = search (keeping, keeps-stack, keeps-tried_for, keeps-special_send) depth 12

pub keeps-block_send : {w : Kept} (events : List Line) (index n : ℕ) (classes : ℕ → Bool) (s : ℕ) → Keeps w (MayEnd w) (block_send events index n classes s)
unfolding block_send
keeps-block_send {w} events index n classes s = search (keeping, keeps-stack, keeps-tried_for, keeps-special_send) depth 12

-- ---- the table

-- and each range of bytecodes
AreRangesKeeping : Kept → List Range → Type 0
AreRangesKeeping w [] = Unit {0}
AreRangesKeeping w (r ∷ rs) = ((i : ℕ) → Keeps w (MayEnd w) (r.rule i)) × AreRangesKeeping w rs

keeps-ruled : {w : Kept} (ranges : List Range) (byte : ℕ) → AreRangesKeeping w ranges → Keeps w (MayEnd w) (ruled ranges byte)
unfolding AreRangesKeeping
keeps-ruled [] byte f = keeps_halt _
keeps-ruled (r ∷ rs) byte f = keeps_pick (has_byte byte r) (r.rule (byte - r.first)) (ruled rs byte) (f.0 (byte - r.first)) (keeps-ruled rs byte f.1)

ruleset pushing = (keeps-push_of, keeps-push_known, keeps-push_number, keeps-push_receiver, keeps-push_active_context, keeps-duplicate_top, keeps-extended_push, keeps-receiver_variable, keeps-temporary, keeps-literal_constant, keeps-literal_variable)

ruleset storing = (keeps-store_and_pop, keeps-extended_store, keeps-extended_store_and_pop, keeps-store_receiver_variable, keeps-store_temporary, keeps-pop)

ruleset leaving = (keeps-then_next, keeps-return_of, keeps-return_from_block, keeps-pop_top, keeps-jump, keeps-jump_on, keeps-long_jump, keeps-long_jump_on)

ruleset sending = (keeps-single_extended, keeps-double_extended, keeps-send_literal, keeps-send_literal_super, keeps-arithmetic_send, keeps-special_send, keeps-tried_for, keeps-block_send)

bytecodes_keep : (w : Kept) (events : List Line) → AreRangesKeeping w (bytecodes events)
unfolding AreRangesKeeping bytecodes
bytecodes_keep w events = search (keeping, pushing, storing, leaving, sending) depth 80 fits 40000

keeps-bytecode : {w : Kept} (events : List Line) (byte : ℕ) → Keeps w (MayEnd w) (bytecode events byte)
unfolding bytecode
keeps-bytecode {w} events byte = keeps-ruled (bytecodes events) byte (bytecodes_keep w events)

-- ---- the cycle

pub keeps-count_bytecode : {w : Kept} (before : ℕ) → Keeps w IsPlain (count_bytecode before)
unfolding count_bytecode
keeps-count_bytecode {w} before = search keeping depth 12

pub keeps-step : {w : Kept} (events : List Line) → Keeps w (MayEnd w) (step events)
unfolding step
keeps-step {w} events = search (keeping, keeps-fetch, keeps-bytecode) depth 12

pub keeps-turn : {w : Kept} (events : List Line) → Keeps w (MayEnd w) (turn events)
unfolding turn
keeps-turn {w} events = search (keeping, keeps-due, keeps-check_switch, keeps-step) depth 12

pub keeps-cycle : {w : Kept} (events : List Line) → Keeps w (MayEnd w) (cycle events)
unfolding cycle
keeps-cycle events = keeps_numbers _ (λ cpu e. keeps_step _ (keeps-turn events) (λ end k. keeps_plain _ (keeps-count_bytecode _) (λ _. step_again end k)))

-- ---- runs

-- the vault alone
abbrev vault_of : Bool → Kept
vault_of b = record { vault = b; pins = λ context home method slots. Unit {0}; loads = λ context m s log e. tt }

-- what a cycle comes to has the vault of its machine
pub cycle_leaves : (events : List Line) (m s : Machine) (end : Step) (log : List LogRow) → cycle events m ≡ Go end s log → s.cpu.vault ≡ m.cpu.vault
cycle_leaves events m s end log e = ((keeps-cycle {w = vault_of m.cpu.vault} events).keeps m s end log (record { vault = refl; pins = tt }) e).0.vault

-- and where that is false, the machine isn't kept
pub never_keeps : (events : List Line) (m s : Machine) (log : List LogRow) → m.cpu.vault ≡ false → cycle events m ≡ Go Keep s log → ⊥
never_keeps events m s log none e = let yes = ((keeps-cycle {w = vault_of false} events).keeps m s Keep log (record { vault = none; pins = tt }) e).1.may refl in absurd (cc)

abbrev IsUnkept : Run → Type 0
IsUnkept (Ran end n) = (end ≡ Keep → ⊥) × (n.cpu.vault ≡ false)
IsUnkept (Stopped n why log) = n.cpu.vault ≡ false

unkept_more : (events : List Line) (r : Run) → IsUnkept r → IsUnkept (one_more events r)
unkept_more events (Ran Next m) h = go (cycle events m) refl
  where
    go : (o : Outcome Step) → cycle events m ≡ o → IsUnkept (run_of m o)
    go (Go end next log) e = (λ f. never_keeps events m next log h.1 (e ∙ ap (λ x. Go x next log) f), cycle_leaves events m next end log e ∙ h.1)
    go (Halt c log) e = h.1
    go (Spent log) e = h.1
unkept_more events (Ran Quit m) h = h
unkept_more events (Ran Keep m) h = h
unkept_more events (Stopped m why log) h = h

unkept : (events : List Line) (k : ℕ) (m : Machine) → m.cpu.vault ≡ false → IsUnkept (run events k m)
unfolding run
unkept events zero m none = (λ e. absurd (cc), none)
unkept events (suc k) m none = unkept_more events (run events k m) (unkept events k m none)

pub run_never_keeps : (events : List Line) (k : ℕ) (m n : Machine) → m.cpu.vault ≡ false → run events k m ≡ Ran Keep n → ⊥
run_never_keeps events k m n none e = (subst IsUnkept e (unkept events k m none)).0 refl
