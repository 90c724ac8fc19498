-- When a primitive or a bytecode may answer that the machine is to be kept (primitiveSnapshot; what it is kept in is this profile's own).
use Rattle.std.specs.Prelude.{◌≡◌, Bool, true, false, Result, IfOk, IsTrue}
use Rattle.blue_model.specs.declared.answer.Answer.{Answer}
use Rattle.blue_model.specs.declared.answer.Answer.TheVariants.{Done, Failed, Execute, Quit, Keep}
use Rattle.blue_model.specs.declared.step.Step.{Step}
use Rattle.blue_model.specs.declared.step.Step.TheVariants as step
use Rattle.contexts.specs.declared.stop.Stop.{Stop}

abbrev pub is_keep : Answer → Bool
is_keep Done = false
is_keep Failed = false
is_keep Execute = false
is_keep Quit = false
is_keep Keep = true

-- it never does
abbrev pub NeverKeeps : Result Answer Stop → Type 0
NeverKeeps result = IfOk result (λ a. is_keep a ≡ false)

-- it does only where the vault is open
abbrev pub KeepsBy : Bool → Result Answer Stop → Type 0
KeepsBy vault result = IfOk result (λ a. IsTrue (is_keep a) → IsTrue vault)

-- ---- and of a bytecode

abbrev pub is_kept : Step → Bool
is_kept step.Next = false
is_kept step.Quit = false
is_kept step.Keep = true

abbrev pub StepsBy : Bool → Result Step Stop → Type 0
StepsBy vault result = IfOk result (λ s. IsTrue (is_kept s) → IsTrue vault)
