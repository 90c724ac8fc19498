-- What the machine of a trace leaves of its host, and its answers with their causes. It starts, and then its bytecodes run, each with its line.
use Rattle.std.proofs.Common.{◌≡◌, ℕ, ◌≤◌, [], ◌∷◌, Result, Ok, Err, IsTrue, refl, sym, ◌∙◌, ap, subst, arith}
use Rattle.std.specs.Prelude.{IfErr, IfOk}
use Rattle.loom_host.specs.Outside.{SameBut}
use Rattle.loom_host.specs.declared.outside.Host.{Ghosts}
use Rattle.loom_host.specs.declared.outside.Role.{Role}
use Rattle.loom_host.specs.declared.outside.Role.TheVariants.{Image, Events, Work, Saved, Display, Transcript, Notes}
use Rattle.object_memory.specs.Contract.{IsLater, Lives, SameBounds}
use Rattle.object_memory.specs.declared.fault.MemFault.{MemFault}
use Rattle.object_memory.specs.declared.fault.MemFault.TheVariants as fault
use Rattle.contexts.specs.Keeping.{is_kept}
use Rattle.contexts.specs.declared.stop.Stop.{Stop}
use Rattle.contexts.specs.declared.stop.Stop.TheVariants as stop
use Rattle.blue_model.specs.Endings.{HasCounted}
use Rattle.blue_model.specs.Machine.{numbers_at_rest}
use Rattle.blue_model.specs.declared.cpu.Cpu.{Cpu}
use Rattle.blue_model.specs.declared.step.Step.{Step}
use Rattle.blue_model.specs.declared.step.Step.TheVariants as step
use Rattle.loom_memory.specs.declared.memory.LoomMemory.{LoomMemory}
use Rattle.loom_memory.specs.Memory.{loom_now, loom_outside, loom_told, Others}
use Rattle.machine_run.specs.Run.{FaultsBy, HasFault}
use Rattle.machine_run.specs.declared.running.Reason.TheVariants.{ByStop}
use Rattle.machine_run.proofs.RunningLaws.{faults_earlier}
use Rattle.loom_run.specs.Following.{EndsFollowed, IsTraceRefusal}
use Rattle.loom_run.specs.Meanings.{IsLeft, IsNoneOf, LeavesBut, meanings}
use Rattle.loom_run.specs.Parts.{status_by, status_by_fault}
use Rattle.loom_run.specs.Steps.{HasBounds, IsSameFile}
use Rattle.loom_run.specs.Traces.{EndsBy}
use Rattle.loom_run.specs.declared.tracing.TraceStop.{TraceStop}
use Rattle.loom_run.specs.declared.tracing.TraceStop.TheVariants.{Stop as Stopping, Write}
use Rattle.loom_run.proofs.FollowLaws.{status_traced}
use Rattle.loom_run.proofs.UsesLaws.{never}
use Rattle.loom_run.proofs.MachineLaws.{bounded, file-of, fits-row, full-row}
use Rattle.loom_words.specs.Words.{Row}

-- ---- the other roles

module _ {H : Type 0} (host : Ghosts H) (m n : LoomMemory H host) (same : SameBut Saved (loom_outside host m) (loom_outside host n)) where
  left : (r : Role) → IsNoneOf (Transcript ∷ Work ∷ Saved ∷ []) r → IsLeft r (meanings host (loom_now m)) (meanings host (loom_now n))
  unfolding loom_outside
  left Image none = record { state = ap (λ (o : Others). o.role) (same Image (λ e. cc)); faults = ap (λ (o : Others). o.faults) (same Image (λ e. cc)) }
  left Events none = record { state = ap (λ (o : Others). o.role) (same Events (λ e. cc)); faults = ap (λ (o : Others). o.faults) (same Events (λ e. cc)) }
  left Work none = absurd (none.1.0 refl)
  left Saved none = absurd (none.1.1.0 refl)
  left Display none = record { state = ap (λ (o : Others). o.role) (same Display (λ e. cc)); faults = ap (λ (o : Others). o.faults) (same Display (λ e. cc)) }
  left Transcript none = absurd (none.0 refl)
  left Notes none = record { state = ap (λ (o : Others). o.role) (same Notes (λ e. cc)); faults = ap (λ (o : Others). o.faults) (same Notes (λ e. cc)) }

  pub follow-leaves : SameBounds (loom_told host m).bounds (loom_told host n).bounds → (loom_outside host m Saved).faults ≤ (loom_outside host n Saved).faults → LeavesBut (Transcript ∷ Work ∷ Saved ∷ []) (meanings host (loom_now m)) (meanings host (loom_now n))
  unfolding loom_told loom_outside
  follow-leaves bounds faults = record { others = left; writes = λ none. absurd (none.1.0 refl); later = later }
    where
      stays : (r : Role) → IsNoneOf (Transcript ∷ Work ∷ Saved ∷ []) r → host.faults (loom_now m) r ≤ host.faults (loom_now n) r
      stays r none = let e = (left r none).faults in omega (arith, e)

      later : (r : Role) → host.faults (loom_now m) r ≤ host.faults (loom_now n) r
      later Image = stays Image (λ e. cc, (λ e. cc, (λ e. cc, tt)))
      later Events = stays Events (λ e. cc, (λ e. cc, (λ e. cc, tt)))
      later Work = bounds.3
      later Saved = faults
      later Display = stays Display (λ e. cc, (λ e. cc, (λ e. cc, tt)))
      later Transcript = bounds.4
      later Notes = stays Notes (λ e. cc, (λ e. cc, (λ e. cc, tt)))

  pub follow-file : IsTrue (host.tells Work) → IsSameFile (host.roles (loom_now m) Work) (host.roles (loom_now n) Work)
  unfolding loom_outside
  follow-file told = file-of (host.tells Work) (host.roles (loom_now n) Work) (host.roles (loom_now m) Work) (host.faults (loom_now n) Work) (host.faults (loom_now m) Work) told (same Work (λ e. cc))

-- of a memory that left its host as it was, and then of Saved something
pub same-then : {H : Type 0} (host : Ghosts H) (m mid n : LoomMemory H host) → loom_outside host mid ≡ loom_outside host m → SameBut Saved (loom_outside host mid) (loom_outside host n) → SameBut Saved (loom_outside host m) (loom_outside host n)
same-then host m mid n same others = λ r other. others r other ∙ ap (λ (f : Role → Others). f r) same

pub same-all : {H : Type 0} (host : Ghosts H) (m n : LoomMemory H host) → loom_outside host n ≡ loom_outside host m → SameBut Saved (loom_outside host m) (loom_outside host n)
same-all host m n same = λ r other. ap (λ (f : Role → Others). f r) same

-- ---- the answers

module _ {H : Type 0} (host : Ghosts H) (m n : LoomMemory H host) (row : Row) (ran : ℕ) (few : ran ≤ row.steps) (bounds : HasBounds row (loom_told host n)) where
  followed-by-fault : (f : MemFault) → HasFault (loom_told host m) (loom_told host n) f → IsTraceRefusal host.tells (meanings host (loom_now m)) (meanings host (loom_now n)) row EndsFollowed (status_by_fault f ran)
  unfolding loom_told
  followed-by-fault (fault.CoreFull need) h = record { answer = tt; of_run = tt; ran = few; cause = tt; whole = λ work damaged. damaged; limits = fits-row row (loom_told host n).bounds need.words need.entries bounds h }
  followed-by-fault (fault.WorkFull live room) h = record { answer = tt; of_run = tt; ran = tt; cause = tt; whole = λ work damaged. damaged; limits = full-row (λ b. Lives (loom_told host n) b live) row (loom_told host n).bounds live room bounds h }
  followed-by-fault (fault.WorkFault count) h = record { answer = tt; of_run = tt; ran = tt; cause = (sym h.0, h.1); whole = λ work damaged. damaged; limits = tt }
  followed-by-fault (fault.Damaged place name) h = record { answer = tt; of_run = tt; ran = tt; cause = tt; whole = λ work damaged. h work; limits = tt }
  followed-by-fault fault.NamesSpent h = record { answer = tt; of_run = tt; ran = few; cause = tt; whole = λ work damaged. damaged; limits = tt }
  followed-by-fault (fault.Said count) h = record { answer = tt; of_run = λ e. cc; ran = tt; cause = (sym h.0, h.1); whole = λ work damaged. damaged; limits = tt }
  followed-by-fault fault.Memory h = absurd (bounded row (loom_told host n).bounds bounds h)

  pub followed-by : (e : Stop) → FaultsBy (loom_told host m) (loom_told host n) e → IsTraceRefusal host.tells (meanings host (loom_now m)) (meanings host (loom_now n)) row EndsFollowed (status_by (ByStop e) ran)
  followed-by (stop.Stuck cause) h = record { answer = tt; of_run = tt; ran = few; cause = tt; whole = λ work damaged. damaged; limits = tt }
  followed-by (stop.Mem f) h = followed-by-fault f h.cause

  -- of a trace behind the start
  pub followed-all : (mid : LoomMemory H host) → loom_outside host mid ≡ loom_outside host m → IsLater (loom_told host m) (loom_told host mid) → (r : Result Step TraceStop) → IfOk r (λ end. HasCounted end ran row.steps) → IfOk r (λ end. IsTrue (is_kept end) → ⊥) → IfErr r (EndsBy (loom_told host mid) (loom_told host n) (loom_outside host mid Saved).faults (loom_outside host n Saved).faults)
      → IsTraceRefusal host.tells (meanings host (loom_now m)) (meanings host (loom_now n)) row EndsFollowed (status_traced r ran)
  unfolding loom_outside
  followed-all mid same later (Ok step.Next) counted unkept by = record { answer = tt; of_run = tt; ran = counted; cause = tt; whole = λ work damaged. damaged; limits = tt }
  followed-all mid same later (Ok step.Quit) counted unkept by = record { answer = tt; of_run = tt; ran = counted; cause = tt; whole = λ work damaged. damaged; limits = tt }
  followed-all mid same later (Ok step.Keep) counted unkept by = absurd (unkept refl)
  followed-all mid same later (Err (Stopping e)) counted unkept by = followed-by e (faults_earlier (loom_told host m) (loom_told host mid) (loom_told host n) e later by)
  followed-all mid same later (Err (Write count)) counted unkept by = record {
    answer = tt;
    of_run = λ e. cc;
    ran = tt;
    cause = (by.0, (let before = ap (λ (f : Role → Others). (f Saved).faults) same in let rose = by.1 in omega (arith, before, rose)));
    whole = λ work damaged. damaged;
    limits = tt;
  }

-- ---- the vault is shut

pub kept-shut : (a : Step) (at between : Cpu) → at ≡ numbers_at_rest → (IsTrue between.vault → IsTrue at.vault) → (IsTrue (is_kept a) → IsTrue between.vault) → IsTrue (is_kept a) → ⊥
kept-shut a at between rest shut keeps kept = never (subst (λ (c : Cpu). IsTrue c.vault) rest (shut (keeps kept)))

pub unkept-end : (a end : Step) → (let r : Result Step TraceStop = Ok a in r) ≡ Ok end → (IsTrue (is_kept a) → ⊥) → IsTrue (is_kept end) → ⊥
unkept-end a end e none kept = let same : a ≡ end = cc in none (subst (λ (s : Step). IsTrue (is_kept s)) (sym same) kept)
