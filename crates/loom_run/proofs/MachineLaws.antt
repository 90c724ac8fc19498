-- What a whole run over the memory of two levels says of the program's run.
-- `machine_run` compares it with the model's course behind what had been said (`course_with_earlier`). `went-through` and `was-stopped` say it of the
-- course itself; `refused-running` has the answer's cause, and `outside-leaves` what is left of the host.
use Rattle.std.proofs.Common.{◌≡◌, ℕ, ◌+◌, ◌≤◌, ◌<◌, Bool, true, false, List, [], ◌∷◌, ◌++◌, Option, Some, None, IsTrue, refl, sym, ◌∙◌, ap, subst, arith}
use Rattle.std.proofs.lemmas.List.{append_assoc, append_cancel_left}
use Rattle.long_names.specs.Need.{Fits}
use Rattle.loom_host.specs.Outside.{RoleState, holds}
use Rattle.loom_host.specs.declared.outside.Host.{Ghosts}
use Rattle.loom_host.specs.declared.outside.Role.{Role}
use Rattle.loom_host.specs.declared.outside.Role.TheVariants.{Image, Events, Work, Saved, Display, Transcript, Notes}
use Rattle.object_memory.specs.Told.{Told, Bounds}
use Rattle.object_memory.specs.Contract.{ForBounds, HasCause, IfBounds, Lives, NoBounds, SameBounds, Thins, IsLater}
use Rattle.object_memory.specs.declared.fault.MemFault.{MemFault}
use Rattle.object_memory.specs.declared.fault.MemFault.TheVariants as fault
use Rattle.contexts.specs.declared.stop.Stop.TheVariants as stop
use Rattle.blue_model.specs.declared.step.Step.{Step}
use Rattle.blue_model.specs.Machine.{Machine}
use Rattle.blue_model.specs.Cycle.{Ending, Parked, Stuck, Stopping}
use Rattle.blue_model.specs.Earlier.{course_with_earlier, ending_with_earlier, with_earlier}
use Rattle.blue_model.specs.Endings.{IsParkedBy, IsStuckBy, OnDrawn, OnParked, said_in}
use Rattle.blue_model.specs.Logs.{Course}
use Rattle.machine_run.specs.Run.{GoesThrough, HaltsAs, HaltsBy, HasFault}
use Rattle.machine_run.specs.declared.running.Finished.{Finished}
use Rattle.machine_run.specs.declared.running.Reason.{Reason}
use Rattle.machine_run.specs.declared.running.Reason.TheVariants.{ByStop, NoMemory}
use Rattle.loom_memory.specs.declared.memory.LoomMemory.{LoomMemory}
use Rattle.loom_memory.specs.Makings.{IsLost}
use Rattle.loom_memory.specs.Memory.{loom_now, loom_outside, loom_told, others_of, Others}
use Rattle.loom_run.specs.Meanings.{IsLeft, IsNoneOf, LeavesBut, meanings}
use Rattle.loom_run.specs.Parts.{status_by, status_by_fault}
use Rattle.loom_run.specs.Stages.{Running, Finishing}
use Rattle.loom_run.specs.Steps.{HasBounds, IsRefusal, IsSameFile, WasStopped, WentThrough}
use Rattle.loom_words.specs.Words.{Row}

-- ---- what had been said

parked-earlier : (z : List ℕ) (end : Step) (ran : ℕ) (e : Ending) → IsParkedBy end ran (ending_with_earlier z e) → IsParkedBy end ran e
parked-earlier z end ran (Parked last m drawn) h = h
parked-earlier z end ran (Stuck why count said) h = h

stuck-earlier : (z : List ℕ) (why : Stopping) (ran : ℕ) (e : Ending) → IsStuckBy why ran (ending_with_earlier z e) → IsStuckBy why ran e
stuck-earlier z why ran (Parked last m drawn) h = h
stuck-earlier z why ran (Stuck reason count said) h = h

on-parked-earlier : (z : List ℕ) (P : Machine → Type 0) (e : Ending) → OnParked (ending_with_earlier z e) P → OnParked e (λ m. P (with_earlier z m))
on-parked-earlier z P (Parked last m drawn) h = h
on-parked-earlier z P (Stuck reason count said) h = h

on-drawn-earlier : (z : List ℕ) (P : List ℕ → Type 0) (e : Ending) → OnDrawn (ending_with_earlier z e) P → OnDrawn e P
on-drawn-earlier z P (Parked last m drawn) h = h
on-drawn-earlier z P (Stuck reason count said) h = h

said-earlier : (z : List ℕ) (e : Ending) → said_in (ending_with_earlier z e) ≡ z ++ said_in e
said-earlier z (Parked last m drawn) = refl
said-earlier z (Stuck reason count said) = refl

-- ---- bounds

-- these are the ones that the words state
abbrev AreBounds : Row → Option Bounds → Type 0
AreBounds row o = ForBounds o (λ b. (b.core ≡ row.core) × (b.entries ≡ row.entries) × (b.room ≡ row.room))

pub bounds-later : (row : Row) (a b : Option Bounds) → AreBounds row a → SameBounds a b → AreBounds row b
bounds-later row None b has same = absurd has
bounds-later row (Some x) None has same = absurd same
bounds-later row (Some x) (Some y) has same = (same.0 ∙ has.0, same.1 ∙ has.1, same.2 ∙ has.2)

pub fits-row : (row : Row) (o : Option Bounds) (words entries : ℕ) → AreBounds row o → ForBounds o (λ b. Fits b.core b.entries words entries → ⊥) → Fits row.core row.entries words entries → ⊥
fits-row row None words entries has unfit fits = has
fits-row row (Some b) words entries has unfit fits = unfit (subst (λ k. Fits k b.entries words entries) (sym has.0) (subst (λ k. Fits row.core k words entries) (sym has.1) fits))

pub full-row : (P : Bounds → Type 0) (row : Row) (o : Option Bounds) (live room : ℕ) → AreBounds row o → ForBounds o (λ b. (b.room ≡ room) × (room < live) × P b) → (room ≡ row.room) × (row.room < live)
full-row P row None live room has full = absurd has
full-row P row (Some b) live room has full = let same : room ≡ row.room = sym full.0 ∙ has.2 in (same, subst (λ k. k < live) same full.1)

pub bounded : (row : Row) (o : Option Bounds) → AreBounds row o → NoBounds o → ⊥
bounded row None has none = has
bounded row (Some b) has none = none

pub small-row : (row : Row) (P : ℕ → Type 0) (o : Option Bounds) → AreBounds row o → IfBounds o (λ b. P b.core) → P row.core
small-row row P None has small = absurd has
small-row row P (Some b) has small = subst P has.0 small

-- ---- a run that went through

pub went-through : (old new : Told) (row : Row) → IsLater old new → HasBounds row old → (finished : Finished) (c : Course) → GoesThrough new finished (course_with_earlier old.transcript c) → WentThrough old new row finished c
went-through old new row later bounds finished c goes = record {
  parked = parked-earlier old.transcript finished.end finished.ran c.ending goes.parked;
  heap = on-parked-earlier old.transcript _ c.ending goes.heap;
  drawn = on-drawn-earlier old.transcript _ c.ending goes.drawn;
  state = on-parked-earlier old.transcript _ c.ending goes.state;
  said = λ speaks. goes.said speaks ∙ said-earlier old.transcript c.ending;
  fits = on-parked-earlier old.transcript (λ m. m.largest ≤ row.core) c.ending (small-row row (λ words. OnParked (ending_with_earlier old.transcript c.ending) (λ m. m.largest ≤ words)) new.bounds (bounds-later row old.bounds new.bounds bounds later.bounds) goes.fits);
}

-- ---- a run that stopped

module _ (old new : Told) (row : Row) (ran : ℕ) (c : Course) (later : IsLater old new) (bounds : HasBounds row old) (few : ran ≤ row.steps) where
  at : HasBounds row new
  at = bounds-later row old.bounds new.bounds bounds later.bounds

  pub was-stopped : (why : Reason) → HaltsAs why ran row.steps new (course_with_earlier old.transcript c) → HaltsBy old new why → WasStopped old new row (status_by why ran) c
  was-stopped (ByStop (stop.Stuck cause)) h by = record { stops = (cause, stuck-earlier old.transcript _ ran c.ending h.stops, refl); says = λ speaks. h.says speaks }
  was-stopped (ByStop (stop.Mem (fault.CoreFull need))) h by = record { stops = (h.stops, fits-row row new.bounds need.words need.entries at by.cause); says = λ speaks. h.says speaks }
  was-stopped (ByStop (stop.Mem (fault.WorkFull live room))) h by =
      let full = full-row _ row new.bounds live room at by.cause in
      record { stops = (full.0, full.1, (ran, few, h.stops)); says = λ speaks. (ran, few, h.stops, h.says speaks) }
  was-stopped (ByStop (stop.Mem (fault.WorkFault count))) h by = record { stops = tt; says = λ speaks. (ran, few, h.says speaks) }
  was-stopped (ByStop (stop.Mem (fault.Damaged place name))) h by = absurd h.stops
  was-stopped (ByStop (stop.Mem fault.NamesSpent)) h by = record { stops = stuck-earlier old.transcript _ ran c.ending h.stops; says = λ speaks. h.says speaks }
  was-stopped (ByStop (stop.Mem (fault.Said count))) h by = record {
    stops = tt;
    says = λ speaks.
        let s = h.says speaks in
        let part = s.0 in
        let rest = s.1 in
        let now : new.transcript ≡ old.transcript ++ (c.said ran ++ part) = s.2 ∙ append_assoc old.transcript (c.said ran) part in
        (ran, part, rest, h.before, now, append_cancel_left old.transcript (c.said (ran + 1)) ((c.said ran ++ part) ++ rest) (s.3 ∙ ap (λ t. t ++ rest) now ∙ append_assoc old.transcript (c.said ran ++ part) rest), λ none. s.4 (ap (λ t. old.transcript ++ t) none));
  }
  was-stopped (ByStop (stop.Mem fault.Memory)) h by = absurd (bounded row new.bounds at by.cause)
  was-stopped NoMemory h by = record { stops = on-parked-earlier old.transcript (λ m. Unit {0}) c.ending h.0; says = λ speaks. h.1 speaks ∙ said-earlier old.transcript c.ending }

-- ---- the answer of a fault

module _ {H : Type 0} (host : Ghosts H) (m n : LoomMemory H host) (row : Row) (ran : ℕ) (few : ran ≤ row.steps) (bounds : HasBounds row (loom_told host n)) where
  pub refused-by : (f : MemFault) → HasFault (loom_told host m) (loom_told host n) f → IsRefusal host.tells (meanings host (loom_now m)) (meanings host (loom_now n)) row Running (status_by_fault f ran)
  unfolding loom_told
  refused-by (fault.CoreFull need) h = record { answer = tt; of_run = tt; ran = few; cause = tt; whole = λ work damaged. damaged; limits = fits-row row (loom_told host n).bounds need.words need.entries bounds h }
  refused-by (fault.WorkFull live room) h = record { answer = tt; of_run = tt; ran = tt; cause = tt; whole = λ work damaged. damaged; limits = full-row (λ b. Lives (loom_told host n) b live) row (loom_told host n).bounds live room bounds h }
  refused-by (fault.WorkFault count) h = record { answer = tt; of_run = tt; ran = tt; cause = (sym h.0, h.1); whole = λ work damaged. damaged; limits = tt }
  refused-by (fault.Damaged place name) h = record { answer = tt; of_run = tt; ran = tt; cause = tt; whole = λ work damaged. h work; limits = tt }
  refused-by fault.NamesSpent h = record { answer = tt; of_run = tt; ran = few; cause = tt; whole = λ work damaged. damaged; limits = tt }
  refused-by (fault.Said count) h = record { answer = tt; of_run = λ e. cc; ran = tt; cause = (sym h.0, h.1); whole = λ work damaged. damaged; limits = tt }
  refused-by fault.Memory h = record { answer = tt; of_run = tt; ran = tt; cause = tt; whole = λ work damaged. damaged; limits = tt }

  pub refused-running : (why : Reason) → HaltsBy (loom_told host m) (loom_told host n) why → IsRefusal host.tells (meanings host (loom_now m)) (meanings host (loom_now n)) row Running (status_by why ran)
  refused-running (ByStop (stop.Stuck cause)) h = record { answer = tt; of_run = tt; ran = few; cause = tt; whole = λ work damaged. damaged; limits = tt }
  refused-running (ByStop (stop.Mem f)) h = refused-by f h.cause
  refused-running NoMemory h = record { answer = tt; of_run = tt; ran = tt; cause = tt; whole = λ work damaged. damaged; limits = tt }

-- ---- the other roles

pub file-of : (told : Bool) (s t : RoleState) (i k : ℕ) → IsTrue told → others_of told Work s i ≡ others_of told Work t k → s ≡ holds s.contents t
file-of true s t i k told e = ap (λ (o : Others). holds s.contents o.role) e
file-of false s t i k told e = let no : ◌≡◌ {A = Bool} false true = told in absurd (cc)

module _ {H : Type 0} (host : Ghosts H) (m n : LoomMemory H host) (same : loom_outside host n ≡ loom_outside host m) where
  others-at : (r : Role) → loom_outside host n r ≡ loom_outside host m r
  others-at r = ap (λ (f : Role → Others). f r) same

  left : (r : Role) → IsNoneOf (Transcript ∷ Work ∷ []) r → IsLeft r (meanings host (loom_now m)) (meanings host (loom_now n))
  unfolding loom_outside
  left Image none = record { state = ap (λ (o : Others). o.role) (others-at Image); faults = ap (λ (o : Others). o.faults) (others-at Image) }
  left Events none = record { state = ap (λ (o : Others). o.role) (others-at Events); faults = ap (λ (o : Others). o.faults) (others-at Events) }
  left Work none = absurd (none.1.0 refl)
  left Saved none = record { state = ap (λ (o : Others). o.role) (others-at Saved); faults = ap (λ (o : Others). o.faults) (others-at Saved) }
  left Display none = record { state = ap (λ (o : Others). o.role) (others-at Display); faults = ap (λ (o : Others). o.faults) (others-at Display) }
  left Transcript none = absurd (none.0 refl)
  left Notes none = record { state = ap (λ (o : Others). o.role) (others-at Notes); faults = ap (λ (o : Others). o.faults) (others-at Notes) }

  pub outside-leaves : SameBounds (loom_told host m).bounds (loom_told host n).bounds → LeavesBut (Transcript ∷ Work ∷ []) (meanings host (loom_now m)) (meanings host (loom_now n))
  unfolding loom_told
  outside-leaves bounds = record { others = left; writes = λ none. absurd (none.1.0 refl); later = later }
    where
      stays : (r : Role) → IsNoneOf (Transcript ∷ Work ∷ []) r → host.faults (loom_now m) r ≤ host.faults (loom_now n) r
      stays r none = let e = (left r none).faults in omega (arith, e)

      later : (r : Role) → host.faults (loom_now m) r ≤ host.faults (loom_now n) r
      later Image = stays Image (λ e. cc, (λ e. cc, tt))
      later Events = stays Events (λ e. cc, (λ e. cc, tt))
      later Work = bounds.3
      later Saved = stays Saved (λ e. cc, (λ e. cc, tt))
      later Display = stays Display (λ e. cc, (λ e. cc, tt))
      later Transcript = bounds.4
      later Notes = stays Notes (λ e. cc, (λ e. cc, tt))

  pub file-left : IsTrue (host.tells Work) → IsSameFile (host.roles (loom_now m) Work) (host.roles (loom_now n) Work)
  unfolding loom_outside
  file-left told = file-of (host.tells Work) (host.roles (loom_now n) Work) (host.roles (loom_now m) Work) (host.faults (loom_now n) Work) (host.faults (loom_now m) Work) told (others-at Work)

-- ---- a memory that couldn't be wound up

module _ {H : Type 0} (host : Ghosts H) (m n : LoomMemory H host) (row : Row) (ran : ℕ) where
  pub refused-lost : (f : MemFault) → IsLost f → HasCause (loom_told host m) (loom_told host n) Thins f → IsRefusal host.tells (meanings host (loom_now m)) (meanings host (loom_now n)) row Finishing (status_by_fault f ran)
  unfolding loom_told
  refused-lost (fault.CoreFull need) lost h = absurd lost
  refused-lost (fault.WorkFull live room) lost h = absurd lost
  refused-lost (fault.WorkFault count) lost h = record { answer = tt; of_run = tt; ran = tt; cause = (sym h.0, h.1); whole = λ work damaged. damaged; limits = tt }
  refused-lost (fault.Damaged place name) lost h = record { answer = tt; of_run = tt; ran = tt; cause = tt; whole = λ work damaged. h work; limits = tt }
  refused-lost fault.NamesSpent lost h = absurd lost
  refused-lost (fault.Said count) lost h = absurd lost
  refused-lost fault.Memory lost h = absurd lost
