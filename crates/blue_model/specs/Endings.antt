-- What is said of how a whole run of the model ends: of its parked machine, its picture, what it said, and why it stopped.
use Rattle.std.specs.Prelude.{◌≡◌, ℕ, ◌≤◌, Bool, true, false, List}
use Rattle.blue_model.specs.declared.cause.Cause.{Cause}
use Rattle.blue_model.specs.declared.step.Step.{Step}
use Rattle.blue_model.specs.declared.step.Step.TheVariants.{Next, Quit, Keep}
use Rattle.blue_model.specs.Cause.{cause_number}
use Rattle.blue_model.specs.Machine.{Machine}
use Rattle.blue_model.specs.Cycle.{Stopping, ByCause, Ending, Parked, Stuck}

-- ---- steps

-- no bytecode follows in this run
abbrev pub is_last : Step → Bool
is_last Next = false
is_last Quit = true
is_last Keep = true

-- as many cycles were made as were asked for, unless the machine ended, or is to be kept
abbrev pub HasCounted : Step → ℕ → ℕ → Type 0
HasCounted Next ran all = ran ≡ all
HasCounted Quit ran all = ran ≤ all
HasCounted Keep ran all = ran ≤ all

-- ---- a run that went through

-- the run went through, and P holds of the machine that is parked
abbrev pub OnParked : Ending → (Machine → Type 0) → Type 0
OnParked (Parked end m drawn) P = P m
OnParked (Stuck why ran said) P = ⊥

-- and P holds of the picture
abbrev pub OnDrawn : Ending → (List ℕ → Type 0) → Type 0
OnDrawn (Parked end m drawn) P = P drawn
OnDrawn (Stuck why ran said) P = ⊥

abbrev pub IsParked : Ending → Type 0
IsParked run = OnParked run (λ m. Unit {0})

-- the run went through, and ended so after so many bytecodes
abbrev pub IsParkedBy : Step → ℕ → Ending → Type 0
IsParkedBy end ran (Parked last m drawn) = (last ≡ end) × (m.cpu.ran ≡ ran)
IsParkedBy end ran (Stuck why count said) = ⊥

-- ---- a run that stopped

-- the run stopped for this reason, after so many bytecodes
abbrev pub IsStuckBy : Stopping → ℕ → Ending → Type 0
IsStuckBy why ran (Parked end m drawn) = ⊥
IsStuckBy why ran (Stuck reason count said) = (reason ≡ why) × (count ≡ ran)

-- and the reason is the cause of this number
abbrev pub IsStuck : ℕ → ℕ → Ending → Type 0
IsStuck number ran run = (cause : Cause) × IsStuckBy (ByCause cause) ran run × (number ≡ cause_number cause)

-- ---- either

-- all that the run said
abbrev pub said_in : Ending → List ℕ
said_in (Parked end m drawn) = m.transcript
said_in (Stuck why ran said) = said
