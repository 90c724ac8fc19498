-- The table of primitives (chapter 29), and their tries.
use Rattle.std.specs.Prelude.{ℕ, ◌==◌, ◌||◌, ◌&&◌, Bool, true, false, nat_le, List, ◌++◌}
use Rattle.blue_model.specs.declared.answer.Answer.{Answer}
use Rattle.blue_model.specs.declared.answer.Answer.TheVariants.{Done, Failed, Execute, Quit, Keep}
use Rattle.blue_model.specs.declared.step.Step.{Step}
use Rattle.blue_model.specs.declared.step.Step.TheVariants as step
use Rattle.blue_model.specs.declared.event.Line.{Line}
use Rattle.blue_model.specs.declared.primitives.TheConstants.{PRIMITIVE_LARGE_ADD, PRIMITIVE_LARGE_BIT_SHIFT, PRIMITIVE_BLOCK_COPY, PRIMITIVE_PERFORM, PRIMITIVE_PERFORM_WITH_ARGUMENTS, PRIMITIVE_SIGNAL, PRIMITIVE_SUSPEND, PRIMITIVE_FLUSH_CACHE, PRIMITIVE_INPUT_SEMAPHORE, PRIMITIVE_COPY_BITS, PRIMITIVE_BE_DISPLAY, PRIMITIVE_QUIT, PRIMITIVE_SAY_STRING}
use Rattle.blue_model.specs.Machine.{Rule, ◌>>=◌, ◌>>◌, done, pick}
use Rattle.blue_model.specs.Trials.{primitive_in}
use Rattle.blue_model.specs.Arithmetic.{integer_primitives}
use Rattle.blue_model.specs.LargeInts.{large_primitives}
use Rattle.blue_model.specs.Storage.{object_primitives}
use Rattle.blue_model.specs.Control.{control_primitive}
use Rattle.blue_model.specs.Processes.{process_primitives}
use Rattle.blue_model.specs.BitBlt.{blit_primitives}
use Rattle.blue_model.specs.Devices.{device_primitives}

-- blocks, performs, the method cache and the end of the run
abbrev pub is_control : ℕ → Bool
is_control index = (nat_le PRIMITIVE_BLOCK_COPY index && nat_le index PRIMITIVE_PERFORM_WITH_ARGUMENTS) || (index == PRIMITIVE_FLUSH_CACHE) || (index == PRIMITIVE_QUIT)

-- arithmetic on large integers
abbrev pub is_large : ℕ → Bool
is_large index = nat_le PRIMITIVE_LARGE_ADD index && nat_le index PRIMITIVE_LARGE_BIT_SHIFT

-- signal, wait, resume and suspend
abbrev pub is_process : ℕ → Bool
is_process index = nat_le PRIMITIVE_SIGNAL index && nat_le index PRIMITIVE_SUSPEND

-- BitBlt
abbrev pub is_blit : ℕ → Bool
is_blit index = index == PRIMITIVE_COPY_BITS

-- input, the clock, the display and the transcript
abbrev pub is_device : ℕ → Bool
is_device index = (nat_le PRIMITIVE_INPUT_SEMAPHORE index && nat_le index PRIMITIVE_BE_DISPLAY) || (index == PRIMITIVE_SAY_STRING)

-- dispatchPrimitives, with the event list that input comes from. A primitive that isn't in the table fails
unfoldable pub primitive : List Line → ℕ → Rule Answer
primitive events index =
    pick (is_control index) (control_primitive index)
    (pick (is_process index) (primitive_in process_primitives index)
    (pick (is_blit index) (primitive_in blit_primitives index)
    (pick (is_device index) (primitive_in (device_primitives events) index)
    (pick (is_large index) (primitive_in large_primitives index)
    (primitive_in (integer_primitives ++ object_primitives) index)))))

abbrev pub is_perform : ℕ → Bool
is_perform index = (index == PRIMITIVE_PERFORM) || (index == PRIMITIVE_PERFORM_WITH_ARGUMENTS)

abbrev pub has_failed : Answer → Bool
has_failed Done = false
has_failed Failed = true
has_failed Execute = false
has_failed Quit = false
has_failed Keep = false

-- ---- how a bytecode ends

abbrev pub step_of : Answer → Step
step_of Done = step.Next
step_of Failed = step.Next
step_of Execute = step.Next
step_of Quit = step.Quit
step_of Keep = step.Keep

-- a rule after which the next bytecode follows
unfoldable pub then_next : Rule (Unit {0}) → Rule Step
then_next p = p >> done step.Next

-- the primitive, and where it fails the rest
unfoldable pub tried : List Line → ℕ → Rule Step → Rule Step
tried events index rest = primitive events index >>= λ answer. pick (has_failed answer) rest (done (step_of answer))
