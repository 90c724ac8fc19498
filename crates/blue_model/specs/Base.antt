-- Small heaps as worked values, one process whose context runs one method, and words for worked arithmetic.
use Rattle.std.specs.Prelude.{ℕ, ℤ, pos, ◌==◌, if◌then◌else◌, List, [], ◌∷◌, replicate, Option, Some, None}
use Rattle.std.specs.Option.{option_and_then}
use Rattle.std.proofs.Math.IntN.{neg_ℤ}
use Rattle.long_names.specs.declared.value.Value.{Value}
use Rattle.long_names.specs.declared.value.Value.TheVariants.{Int, Ref}
use Rattle.long_names.specs.declared.object.Body.TheVariants.{Pointers, Method}
use Rattle.long_names.specs.declared.object.Object.{Object}
use Rattle.long_names.specs.Names.{NIL, SCHEDULER_ASSOCIATION, ARRAY, METHOD_CONTEXT, COMPILED_METHOD, is_known}
use Rattle.long_names.specs.Heap.{Heap}
use Rattle.blue_model.specs.Contexts.{stated}
use Rattle.blue_model.specs.Forms.{Form}
use Rattle.blue_model.specs.BitBlt.{Asked}
use Rattle.blue_model.specs.State.{State, no_state, state_in}
use Rattle.blue_model.specs.Cycle.{Ending, Parked, Stuck}

abbrev pub nil : Value
nil = Ref NIL

abbrev pub array : List Value → Option Object
array values = Some (record { class = ARRAY; body = Pointers values })

-- the names of the scheduler, its process, the method and the context
abbrev pub SCHEDULER : ℕ
SCHEDULER = 60

abbrev pub PROCESS : ℕ
PROCESS = 62

abbrev pub CODE : ℕ
CODE = 64

abbrev pub CONTEXT : ℕ
CONTEXT = 66

-- a context of that method, with these instruction and stack pointers, and this first value on its stack
abbrev pub context_at : ℕ → ℕ → Value → Option Object
context_at ip depth top = Some (record { class = METHOD_CONTEXT; body = Pointers (nil ∷ Int (pos ip) ∷ Int (pos depth) ∷ Ref CODE ∷ nil ∷ nil ∷ top ∷ replicate 11 nil) })

-- A scheduler with one process, whose context runs this code on nil. Field 1 of a context whose method has no literals is 3 before
-- the first byte.
abbrev pub heap_running : List ℕ → Heap
heap_running code = record {
  at = λ n.
      if n == SCHEDULER_ASSOCIATION then array (nil ∷ Ref SCHEDULER ∷ []) else (
      if n == SCHEDULER then array (nil ∷ Ref PROCESS ∷ []) else (
      if n == PROCESS then array (nil ∷ Ref CONTEXT ∷ Int (pos 1) ∷ nil ∷ []) else (
      if n == CODE then Some (record { class = COMPILED_METHOD; body = Method (pos 0) [] code }) else (
      if n == CONTEXT then context_at 3 0 nil else (
      if is_known n then array [] else None)))));
  next = 68;
}

-- it pushes the receiver, pops it, and jumps back
abbrev pub base_code : List ℕ
base_code = 112 ∷ 135 ∷ 163 ∷ 252 ∷ []

-- what a whole run leaves of the context
abbrev pub context_in : Ending → Option Object
context_in (Parked end m picture) = m.heap.at CONTEXT
context_in (Stuck why ran said) = None

-- and its state, by the heap as it was parked
abbrev pub state_after : Ending → Option State
state_after (Parked end m picture) = Some (state_in m.heap m)
state_after (Stuck why ran said) = None

-- seven bytecodes were run before
abbrev pub seven_before : State
seven_before = record no_state { clock = 7 }

-- names for the display and both semaphores, and a tick that is far away
abbrev pub full_state : State
full_state = record { clock = 7; display = CONTEXT; input = PROCESS; timer = SCHEDULER; tick = 90 }

-- ---- arithmetic

abbrev pub minus : ℕ → ℤ
minus n = neg_ℤ (pos n)

-- the SmallInteger that an operation gives, if it gives one
abbrev pub small_result : (ℤ → ℤ → Option ℤ) → ℤ → ℤ → Option ℤ
small_result f a b = option_and_then stated (f a b)

-- ---- a small form

-- 17 by 3 pixels, two words a row
abbrev pub small_form : Form
small_form = record { bits = Ref 72; width = 17; height = 3 }

abbrev pub small_words : List ℕ
small_words = 32769 ∷ 32768 ∷ 8192 ∷ 0 ∷ 1 ∷ 32768 ∷ []

-- over itself, one to the right and one down, but for the two columns at the right
abbrev pub one_right_and_down : Asked
one_right_and_down = record { rule = 3; dest_x = pos 1; dest_y = pos 1; width = pos 17; height = pos 3; source_x = pos 0; source_y = pos 0; clip_x = pos 0; clip_y = pos 0; clip_width = pos 15; clip_height = pos 3 }

abbrev pub moved_words : List ℕ
moved_words = 32769 ∷ 32768 ∷ 16384 ∷ 0 ∷ 4097 ∷ 32768 ∷ []

-- in a portable bitmap: three bytes a row
abbrev pub moved_picture : List ℕ
moved_picture = 128 ∷ 1 ∷ 128 ∷ 64 ∷ 0 ∷ 0 ∷ 16 ∷ 1 ∷ 128 ∷ []
