-- What an outcome's stop is, the ending's is; what was said; and which row or making a refusal names.
use Rattle.std.proofs.Common.{◌≡◌, ◌≢◌, ℕ, ◌+◌, ◌<◌, List, [], ◌++◌, append-nil, Option, Some, Err, IsTrue, refl, sym, ◌∙◌, ap, subst}
use Rattle.object_memory.specs.Told.{Told}
use Rattle.object_memory.specs.declared.fault.Need.{Need}
use Rattle.object_memory.specs.declared.fault.MemFault.TheVariants.{CoreFull, WorkFull, WorkFault, Damaged, NamesSpent, Said, Memory}
use Rattle.blue_model.specs.declared.cpu.Cpu.{Cpu}
use Rattle.blue_model.specs.Machine.{Outcome, Go, Halt, Spent, log_of}
use Rattle.blue_model.specs.Cycle.{Stopping, ByCause, BySpentNames}
use Rattle.blue_model.specs.Cycle as model
use Rattle.blue_model.specs.Endings.{IsStuckBy, said_in}
use Rattle.blue_model.specs.Logs.{Course, IsLive}
use Rattle.blue_model.proofs.EndingLaws.{stopping_of}
use Rattle.contexts.specs.declared.stop.Stop.{Stop}
use Rattle.contexts.specs.declared.stop.Stop.TheVariants.{Stuck, Mem}
use Rattle.contexts.specs.Serves.{GivesAs, IsLogged, HasMaking, MaySay, SaidNothing}
use Rattle.machine_run.specs.Run.{HasSaid, IsHalt}
use Rattle.machine_run.proofs.RunningLaws.{never}

-- what was said when a call stopped that says nothing
pub said_before : (e : Stop) (mid new : Told) (before : List ℕ) → IsTrue mid.speaks → mid.transcript ≡ before → SaidNothing mid new → HasSaid e before new.transcript
said_before (Stuck c) mid new before spoke was s = s spoke ∙ was
said_before (Mem (Said count)) mid new before spoke was s = ([], s spoke ∙ was ∙ sym (append-nil before))
said_before (Mem (CoreFull need)) mid new before spoke was s = s spoke ∙ was
said_before (Mem (WorkFull live room)) mid new before spoke was s = s spoke ∙ was
said_before (Mem (WorkFault count)) mid new before spoke was s = s spoke ∙ was
said_before (Mem (Damaged place name)) mid new before spoke was s = s spoke ∙ was
said_before (Mem NamesSpent) mid new before spoke was s = s spoke ∙ was
said_before (Mem Memory) mid new before spoke was s = s spoke ∙ was

-- where a memory had no room for an object, so many live at one of these makings
abbrev pub IsFullAt : Stop → List ℕ → Type 0
IsFullAt (Mem (WorkFull live room)) makings = IsLive live makings
IsFullAt _ makings = Unit {0}

pub halts : {A : Type 0} (w : Option (A × List ℕ)) (o : Outcome A) (new : Told) (now : Cpu) (e : Stop) (ran steps : ℕ) (c : Course) (said : List ℕ) → GivesAs w new now (Err e) o → ((why : Stopping) → stopping_of o ≡ Some why → c.ending ≡ model.Stuck why ran said) → c.said ran ≡ said → ((need : Need) → IsLogged need (log_of o) → IsLogged need (c.rows ran)) → (HasMaking new.heap.next (log_of o) → IsFullAt e (c.lives ran)) → (MaySay w new o → (ran < steps) × (IsTrue new.speaks → (rest : List ℕ) × (c.said (ran + 1) ≡ new.transcript ++ rest) × (c.said (ran + 1) ≢ said))) → (IsTrue new.speaks → HasSaid e said new.transcript) → IsHalt e ran steps new c
halts w (Halt d log) new now (Stuck x) ran steps c said g f at rows full more s =
    let is : c.ending ≡ model.Stuck (ByCause d) ran said = f (ByCause d) refl in
    let cause : d ≡ x = g in record {
      stops = subst (IsStuckBy (ByCause x) ran) (sym is) (ap (λ y. ByCause y) cause, refl);
      before = tt;
      says = λ speaks. s speaks ∙ sym at;
      own = λ own speaks. s speaks ∙ sym (ap said_in is);
    }
halts w (Go a n log) new now (Stuck x) ran steps c said g f at rows full more s = absurd g
halts w (Spent log) new now (Stuck x) ran steps c said g f at rows full more s = absurd g
halts w (Spent log) new now (Mem NamesSpent) ran steps c said g f at rows full more s =
    let is : c.ending ≡ model.Stuck BySpentNames ran said = f BySpentNames refl in record {
      stops = subst (IsStuckBy BySpentNames ran) (sym is) (refl, refl);
      before = tt;
      says = λ speaks. s speaks ∙ sym at;
      own = λ own speaks. s speaks ∙ sym (ap said_in is);
    }
halts w (Go a n log) new now (Mem NamesSpent) ran steps c said g f at rows full more s = absurd g
halts w (Halt d log) new now (Mem NamesSpent) ran steps c said g f at rows full more s = absurd g
halts w o new now (Mem (CoreFull need)) ran steps c said g f at rows full more s = record { stops = rows need g; before = tt; says = λ speaks. s speaks ∙ sym at; own = λ own. never own }
halts w o new now (Mem (WorkFull live room)) ran steps c said g f at rows full more s = record { stops = full g; before = tt; says = λ speaks. s speaks ∙ sym at; own = λ own. never own }
halts w o new now (Mem (WorkFault count)) ran steps c said g f at rows full more s = record { stops = tt; before = tt; says = λ speaks. s speaks ∙ sym at; own = λ own. never own }
halts w o new now (Mem (Damaged place name)) ran steps c said g f at rows full more s = absurd g
halts w o new now (Mem (Said count)) ran steps c said g f at rows full more s = record {
  stops = tt;
  before = (more g).0;
  says = λ speaks. (let part = s speaks in let next = (more g).1 speaks in (part.0, next.0, part.1 ∙ ap (λ (t : List ℕ). t ++ part.0) (sym at), next.1, λ none. next.2 (none ∙ at)));
  own = λ own. never own;
}
halts w o new now (Mem Memory) ran steps c said g f at rows full more s = record { stops = tt; before = tt; says = λ speaks. s speaks ∙ sym at; own = λ own. never own }
