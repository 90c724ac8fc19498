-- Where a bytecode answers that the machine is to be kept, the vault was open before it.
use Rattle.std.proofs.Common.{◌≡◌, Bool, Result, Ok, Err, IsTrue, refl, sym, ◌∙◌, ap}
use Rattle.blue_model.specs.declared.answer.Answer.{Answer}
use Rattle.blue_model.specs.declared.answer.Answer.TheVariants.{Done, Failed, Execute, Quit, Keep}
use Rattle.blue_model.specs.declared.step.Step.{Step}
use Rattle.blue_model.specs.declared.step.Step.TheVariants.{Next}
use Rattle.blue_model.specs.Primitives.{step_of}
use Rattle.contexts.specs.declared.stop.Stop.{Stop}
use Rattle.contexts.specs.Keeping.{is_keep, is_kept, StepsBy}
use Rattle.devices.proofs.KeepLaws.{shut}

-- after a call that didn't open it
pub keeps_after : (a b : Bool) (r : Result Step Stop) → (IsTrue b → IsTrue a) → StepsBy b r → StepsBy a r
keeps_after a b (Ok s) f h = λ k. f (h k)
keeps_after a b (Err e) f h = tt

-- a bytecode after which the next always follows
pub goes_next : {b : Bool} → IsTrue (is_kept Next) → IsTrue b
goes_next {b} k = shut b k

-- how a bytecode ends whose primitive ended so
same_keep : (a : Answer) → is_kept (step_of a) ≡ is_keep a
same_keep Done = refl
same_keep Failed = refl
same_keep Execute = refl
same_keep Quit = refl
same_keep Keep = refl

pub steps_after : {a b : Bool} (answer : Answer) (s : Step) → (IsTrue b → IsTrue a) → s ≡ step_of answer → (IsTrue (is_keep answer) → IsTrue b) → IsTrue (is_kept s) → IsTrue a
steps_after {a} {b} answer s f e h k = f (h (sym (ap is_kept e ∙ same_keep answer) ∙ k))
