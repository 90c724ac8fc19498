-- The machine's run over the memory of two levels, between what was read and what is written.
use Rattle.std.proofs.Common.{◌≡◌, ℕ, ◌<◌, List, ◌++◌, Option, Result, Err, IsTrue, refl, sym, ◌∙◌, ap, subst}
use Rattle.std.specs.Prelude.{◌^◌, IfErr}
use Rattle.std.specs.Result.{IsErrAnd}
use Rattle.std.proofs.lemmas.Result.{err_from_is_err_and}
use Rattle.long_names.specs.Heap.{Heap}
use Rattle.long_names.specs.Kept.{kept, no_roots}
use Rattle.image_format.specs.Valid.{IsImageHeap}
use Rattle.image_format.specs.declared.opening.State.{State as Words}
use Rattle.loom_host.specs.Outside.{RoleState}
use Rattle.loom_host.specs.declared.outside.Host.{Ghosts}
use Rattle.loom_host.specs.declared.outside.Role.TheVariants.{Work, Transcript}
use Rattle.disk_objects.specs.declared.rest.DiskRest.{DiskRest}
use Rattle.image_reader.specs.declared.loading.Loaded.{Loaded}
use Rattle.image_reader.specs.Loaded.{heap_on}
use Rattle.image_memory.specs.Image.{BeginsWith, HasImage}
use Rattle.object_memory.specs.Contract.{ForBounds}
use Rattle.object_memory.specs.Told.{Told, Bounds, IsReady}
use Rattle.blue_model.specs.declared.event.Line.{Line}
use Rattle.blue_model.specs.declared.step.Step.{Step}
use Rattle.blue_model.specs.Cycle.{Ending, Parked, Stuck}
use Rattle.blue_model.specs.Endings.{IsParked, IsParkedBy, said_in}
use Rattle.blue_model.specs.Logs.{Course, course}
use Rattle.machine_run.specs.States.{model_state}
use Rattle.machine_run.specs.declared.running.Finished.{Finished}
use Rattle.loom_memory.specs.Beginning.{IsFirst}
use Rattle.loom_memory.specs.declared.memory.LoomMemory.{LoomMemory}
use Rattle.loom_memory.specs.Memory.{loom_now, loom_told, IsSound}
use Rattle.loom_run.specs.Ends.{SaysStopped}
use Rattle.loom_run.specs.Meanings.{Meanings, LeavesBut, meanings}
use Rattle.loom_run.specs.Stages.{Listening, Running, Finishing, roles_at}
use Rattle.loom_run.specs.Steps.{BeginsImage, Came, CameThrough, HasBounds, IsRefusal, IsSameFile, RunEnds, WasStopped, WentThrough}
use Rattle.loom_words.specs.Words.{Row}
use Rattle.loom_words.specs.declared.status.Status.{Status}
use Rattle.loom_run.proofs.MemoryLaws.{images-run, long-kept, saves-run}
use Rattle.loom_run.proofs.ProgramLaws.{came-finishing, came-running}
use Rattle.loom_run.proofs.WrittenLaws.{ends-finishing, ends-running}

-- the answer of a `?`
pub fault_exit : {T : Type 0} (P : Status → Type 0) (r : Result T Status) (e : Status) → IsErrAnd r (λ y. y ≡ e) → P e → IfErr r P
fault_exit {T} P r e is p =
    let q = err_from_is_err_and r is in
    subst (λ (x : Result T Status). IfErr x P) (sym (q.1 ∙ ap (λ y. Err y) q.2)) p

parked-of : (end : Step) (ran : ℕ) (e : Ending) → IsParkedBy end ran e → IsParked e
parked-of end ran (Parked last m drawn) h = tt
parked-of end ran (Stuck why count said) h = h

module _ {H : Type 0} (host : Ghosts H) (m n : LoomMemory H host) (before : Meanings) (row : Row) (state : Words) (h : Heap) (lines : List Line)
    (came : Came host.tells before (meanings host (loom_now m)) row Listening state h lines)
    (file : IsTrue (host.tells Work) → IsSameFile (host.roles (loom_now m) Work) (host.roles (loom_now n) Work)) (others : LeavesBut (roles_at Running) (meanings host (loom_now m)) (meanings host (loom_now n))) where
  abbrev of : Course
  of = course lines row.steps (model_state state) h

  -- nothing was said in this run before it
  from-start : host.roles (loom_now m) Transcript ≡ before.roles Transcript
  from-start = (came.uses.unused Transcript refl).state

  pub machine-refused : (status : Status) → IsRefusal host.tells (meanings host (loom_now m)) (meanings host (loom_now n)) row Running status → (IsTrue (host.tells Work) → WasStopped (loom_told host m) (loom_told host n) row status of) → RunEnds host.tells before (meanings host (loom_now n)) row status
  unfolding loom_told
  machine-refused status refused stopped =
      ends-running host.tells before row state h lines (meanings host (loom_now m)) (meanings host (loom_now n)) status came.uses.later
      (came-running host.tells before row (meanings host (loom_now m)) state h lines came (meanings host (loom_now n)) file others) refused
      (λ work. ((stopped work).stops, λ speaks. subst (λ (s : RoleState). SaysStopped status row of s.put (host.roles (loom_now n) Transcript).put) from-start ((stopped work).says speaks)))

  module _ (finished : Finished) (went : IsTrue (host.tells Work) → WentThrough (loom_told host m) (loom_told host n) row finished of)
      (k : LoomMemory H host) (leaves : LeavesBut (roles_at Finishing) (meanings host (loom_now n)) (meanings host (loom_now k))) (same : IsTrue (host.tells Work) → IsSameFile (host.roles (loom_now n) Work) (host.roles (loom_now k) Work))
      (silent : (loom_told host k).transcript ≡ (loom_told host n).transcript) where
    pub came-end : Came host.tells before (meanings host (loom_now k)) row Finishing state h lines
    came-end = came-finishing host.tells before row (meanings host (loom_now m)) state h lines came (meanings host (loom_now n)) file others (meanings host (loom_now k)) same leaves

    said-end : IsTrue (host.tells Work) → IsTrue (host.tells Transcript) → (host.roles (loom_now k) Transcript).put ≡ (before.roles Transcript).put ++ said_in of.ending
    unfolding loom_told
    said-end work speaks = silent ∙ (went work).said speaks ∙ ap (λ (s : RoleState). s.put ++ said_in of.ending) from-start

    pub unwound : (status : Status) → IsRefusal host.tells (meanings host (loom_now n)) (meanings host (loom_now k)) row Finishing status → RunEnds host.tells before (meanings host (loom_now k)) row status
    unwound status refused =
        ends-finishing host.tells before row state h lines (meanings host (loom_now n)) (meanings host (loom_now k)) status
        (came-running host.tells before row (meanings host (loom_now m)) state h lines came (meanings host (loom_now n)) file others).uses.later came-end refused
        (λ work. (parked-of finished.end finished.ran of.ending (went work).parked, (went work).fits, said-end work))

    pub came-through : (IsTrue (host.tells Work) → BeginsImage h state (loom_told host m)) → IsReady (loom_told host m) → IsReady (loom_told host n) → IsSound host n → (IsTrue (host.tells Work) → IsImageHeap (kept (loom_told host n).heap no_roots)) → finished.state.tick < 2 ^ 32 → IsTrue (host.tells Work) → CameThrough host.tells before (meanings host (loom_now k)) row finished (loom_told host n).heap of
    unfolding loom_told
    came-through begins ready now sound image fits work = record {
      parked = (went work).parked;
      drawn = (went work).drawn;
      saves = saves-run h state (loom_told host m) (begins work) lines row.steps (loom_told host n) finished.state ready work now work (long-kept host n work sound) (went work).heap (went work).state;
      image = images-run h state (loom_told host m) (begins work) lines row.steps (loom_told host n) finished.state ready work now work (image work) fits (went work).heap (went work).state;
      said = said-end work;
      fits = (went work).fits;
    }

-- ---- a disk that was taken apart and joined again

module _ {H : Type 0} (host : Ghosts H) (old now : H) (rest again : DiskRest) (x : Loaded) (same : now ≡ old) (still : again ≡ rest) (image : HasImage host old rest x) where
  pub image-again : HasImage host now again x
  image-again = subst (λ (h : H). HasImage host h again x) (sym same) (subst (λ (r : DiskRest). HasImage host old r x) (sym still) image)

  pub image-begins : (t : Told) → IsTrue (host.tells Work) → BeginsWith (heap_on host now again x.next) t → BeginsImage (heap_on host now again x.next) x.state t
  image-begins t told begins = record { image = (image-again.heap told).is; state_is = image-again.state told; begins = begins }

  pub came-again : (before : Meanings) (row : Row) (lines : List Line) (at : H) → at ≡ now → Came host.tells before (meanings host old) row Listening x.state (heap_on host old rest x.next) lines → Came host.tells before (meanings host at) row Listening x.state (heap_on host now again x.next) lines
  came-again before row lines at e came =
      subst (λ (h : H). Came host.tells before (meanings host h) row Listening x.state (heap_on host now again x.next) lines) (sym (e ∙ same))
      (subst (λ (h : H). Came host.tells before (meanings host old) row Listening x.state (heap_on host h again x.next) lines) (sym same)
      (subst (λ (r : DiskRest). Came host.tells before (meanings host old) row Listening x.state (heap_on host old r x.next) lines) (sym still) came))

pub first-bounds : (t : Told) (row : Row) (room base work said : ℕ) → IsFirst t row.core row.entries room base work said → room ≡ row.room → HasBounds row t
first-bounds t row room base work said first same = subst (λ (o : Option Bounds). ForBounds o (λ b. (b.core ≡ row.core) × (b.entries ≡ row.entries) × (b.room ≡ row.room))) (sym first.bounds) (refl, refl, same)
