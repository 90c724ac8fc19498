-- What drawing the display comes to.
use Rattle.std.specs.Prelude.{◌≡◌, ◌<◌, ℕ, List, take, Option, Some, None, Result, Ok, Err, OnOk, IsTrue}
use Rattle.object_memory.specs.Told.{Told, IsReady}
use Rattle.object_memory.specs.declared.memory.ObjectMemory.{Ghosts}
use Rattle.object_memory.specs.Contract.{IsLater}
use Rattle.blue_model.specs.declared.cpu.Cpu.{Cpu}
use Rattle.blue_model.specs.Machine.{Machine, Outcome, Go, Halt, Spent, Rule, ◌>>=◌, done}
use Rattle.blue_model.specs.Forms.{Form}
use Rattle.blue_model.specs.Devices.{display_form, picture}
use Rattle.contexts.specs.declared.stop.Stop.{Stop}
use Rattle.contexts.specs.Serves as serves
use Rattle.contexts.specs.Serves.{Stands, Serves, SaidNothing}
use Rattle.devices.specs.declared.fault.PictureFault.{PictureFault}
use Rattle.devices.specs.declared.fault.PictureFault.TheVariants as fault

-- ---- the display

abbrev pub extent_of_form : Option Form → Option (ℕ × ℕ)
extent_of_form None = None
extent_of_form (Some form) = Some (form.width, form.height)

-- columns and rows of the form that is the display, where it still has a form's shape
unfoldable pub display_extent : Rule (Option (ℕ × ℕ))
display_extent = display_form >>= λ form. done (extent_of_form form)

-- a form came, and it has this row
abbrev pub HasRow : ℕ → Outcome (Option Form) → Type 0
HasRow y (Go (Some form) m log) = y < form.height
HasRow y (Go None m log) = ⊥
HasRow y (Halt c log) = ⊥
HasRow y (Spent log) = ⊥

-- The display of each machine that the memory stands for has a form's shape, and this row.
abbrev pub IsShown : Told → Cpu → ℕ → Type 0
IsShown t cpu y = (m : Machine) → Stands t cpu m → HasRow y (display_form m)

-- the bytes that were put to the front of a buffer
abbrev pub front_found : Result ℕ Stop → List ℕ → Result (List ℕ) Stop
front_found (Ok n) bytes = Ok (take n bytes)
front_found (Err e) bytes = Err e

-- ---- the picture

-- a rule went on
abbrev pub HasGone : {A : Type 0} → Outcome A → Type 0
HasGone (Go a m log) = Unit {0}
HasGone (Halt c log) = ⊥
HasGone (Spent log) = ⊥

-- Memory was refused for a picture that the model has: the transcript and what is told stay.
pub record IsUndrawn (old : Told) (cpu : Cpu) (new : Told) : Type 0 where
  pub later : IsLater old new
  pub silent : SaidNothing old new
  pub model : IsTrue old.tells → (m : Machine) → Stands old cpu m → HasGone (picture m)

-- the picture is the model's, or the stop is its own, or memory was refused for it
abbrev pub DrawnBy : Told → Cpu → Told → Result (List ℕ) PictureFault → Type 0
DrawnBy old cpu new (Ok bytes) = Serves old cpu new cpu picture (Ok bytes)
DrawnBy old cpu new (Err (fault.Stop stop)) = Serves old cpu new cpu picture (Err stop)
DrawnBy old cpu new (Err fault.Memory) = IsUndrawn old cpu new

-- sound after every answer but a fault that leaves nothing known
abbrev pub DrawsSound : {A : Type 0} → Result A PictureFault → Type 0 → Type 0
DrawsSound (Ok bytes) P = P
DrawsSound (Err (fault.Stop stop)) P = serves.StaysSound {A = List ℕ} (Err stop) P
DrawsSound (Err fault.Memory) P = P

-- what `StaysFit` says of a call, of one that draws
pub record DrawsFit {M A : Type 0} (memory : Ghosts M) (old new : M) (answer : Result A PictureFault) : Type 0 where
  pub sound : DrawsSound answer (memory.sound new)
  pub ready : OnOk answer (IsReady (memory.told new))
  pub lender : memory.lender new ≡ memory.lender old
  pub outside : memory.outside new ≡ memory.outside old
