-- The machine of a trace over the memory of two levels, between what was read and the end of its lines.
use Rattle.std.proofs.Common.{◌≡◌, ℕ, ◌≤◌, List, [], ◌∷◌, length, IsTrue, refl, sym, ◌∙◌, ap, subst, arith}
use Rattle.long_names.specs.Heap.{Heap}
use Rattle.loom_host.specs.Outside.{RoleState, SameBut}
use Rattle.loom_host.specs.declared.outside.Host.{Ghosts}
use Rattle.loom_host.specs.declared.outside.Role.TheVariants.{Image, Events, Work, Saved, Display, Transcript, Notes}
use Rattle.disk_objects.specs.declared.rest.DiskRest.{DiskRest}
use Rattle.image_reader.specs.declared.loading.Loaded.{Loaded}
use Rattle.image_reader.specs.Loaded.{heap_on}
use Rattle.image_memory.specs.Image.{BeginsWith, HasImage}
use Rattle.image_memory.proofs.ImageLaws.{image-stays}
use Rattle.blue_model.specs.declared.event.Line.{Line}
use Rattle.blue_model.specs.Logs.{course}
use Rattle.machine_run.specs.States.{model_state}
use Rattle.loom_memory.specs.declared.memory.LoomMemory.{LoomMemory}
use Rattle.loom_memory.specs.Memory.{loom_now, loom_outside, loom_told}
use Rattle.loom_run.specs.Ends.{AttachedOnce, WasRefused, WasWritten}
use Rattle.loom_run.specs.Following.{EndsFollowed, Followed, FollowsAs, FollowsTo, IsTraceRefusal, PutsBy, TraceEnds, UsesTrace, WrittenSo}
use Rattle.loom_run.specs.Meanings.{LeavesBut, Meanings, meanings}
use Rattle.loom_run.specs.Stages.{Listening, Making, Saving, roles_at}
use Rattle.loom_run.specs.Steps.{BeginsImage, Came, HasHeard, HasRead, IsRefusalAt, IsSameFile, IsUnsaved}
use Rattle.loom_run.specs.Traced.{AreWhole, SaysTraced, lines_from, started}
use Rattle.loom_run.specs.Traces.{OnlyPut}
use Rattle.loom_run.proofs.EndsLaws.{cause-since, heard-left, read-left}
use Rattle.loom_run.proofs.ProgramLaws.{heap-stays}
use Rattle.loom_run.proofs.StepLaws.{begun-from, leaves-saving, written-from}
use Rattle.loom_run.proofs.TracedEnds.{heard-making, read-making, trace-unmade, trace-unsaved, used-making}
use Rattle.loom_run.proofs.TracedUses.{traced-running}
use Rattle.loom_words.specs.Words.{Row}
use Rattle.loom_words.specs.declared.status.Status.{Status}
use Rattle.loom_words.specs.declared.status.Status.TheVariants as answer

-- lines behind an attach
written-so : (status : Status) (text lines : List ℕ) (a b c : RoleState) → WasWritten text [] a b → PutsBy status lines b c → WrittenSo status text lines a c
written-so (answer.Done ran) text lines a b c opened puts = written-from text lines a b c opened puts
written-so (answer.Quit ran) text lines a b c opened puts = written-from text lines a b c opened puts
written-so (answer.Made objects) text lines a b c opened puts = written-from text lines a b c opened puts
written-so (answer.Listed objects) text lines a b c opened puts = written-from text lines a b c opened puts
written-so (answer.Assembled objects) text lines a b c opened puts = written-from text lines a b c opened puts
written-so (answer.Usage word) text lines a b c opened puts = written-from text lines a b c opened puts
written-so (answer.ImageBad rule place) text lines a b c opened puts = written-from text lines a b c opened puts
written-so (answer.EventsBad line) text lines a b c opened puts = written-from text lines a b c opened puts
written-so (answer.TextBad line rule) text lines a b c opened puts = written-from text lines a b c opened puts
written-so (answer.Stuck cause ran) text lines a b c opened puts = written-from text lines a b c opened puts
written-so (answer.CoreFull ran need) text lines a b c opened puts = written-from text lines a b c opened puts
written-so (answer.NamesSpent ran) text lines a b c opened puts = written-from text lines a b c opened puts
written-so (answer.WorkFull live room) text lines a b c opened puts = written-from text lines a b c opened puts
written-so (answer.ReadFault role count) text lines a b c opened puts = written-from text lines a b c opened puts
written-so (answer.WorkFault count) text lines a b c opened puts = written-from text lines a b c opened puts
written-so (answer.WriteFault Image count) text lines a b c opened puts = written-from text lines a b c opened puts
written-so (answer.WriteFault Events count) text lines a b c opened puts = written-from text lines a b c opened puts
written-so (answer.WriteFault Work count) text lines a b c opened puts = written-from text lines a b c opened puts
written-so (answer.WriteFault Saved count) text lines a b c opened puts = begun-from text lines a b c opened puts
written-so (answer.WriteFault Display count) text lines a b c opened puts = written-from text lines a b c opened puts
written-so (answer.WriteFault Transcript count) text lines a b c opened puts = written-from text lines a b c opened puts
written-so (answer.WriteFault Notes count) text lines a b c opened puts = written-from text lines a b c opened puts
written-so answer.OutOfMemory text lines a b c opened puts = written-from text lines a b c opened puts
written-so (answer.Damaged place name) text lines a b c opened puts = written-from text lines a b c opened puts
written-so (answer.VaultFault count) text lines a b c opened puts = written-from text lines a b c opened puts
written-so answer.NoCheckpoint text lines a b c opened puts = written-from text lines a b c opened puts
written-so (answer.VaultBad place) text lines a b c opened puts = written-from text lines a b c opened puts

-- Saved was attached over a host that has an image.
module _ {H : Type 0} (host : Ghosts H) (old mid : H) (rest after : DiskRest) (x : Loaded) (image : HasImage host old rest x) (still : after ≡ rest)
    (states : SameBut Saved (host.roles old) (host.roles mid)) (faults : SameBut Saved (host.faults old) (host.faults mid)) (more : host.faults old Saved ≤ host.faults mid Saved) where
  pub attach-leaves : LeavesBut (roles_at Saving) (meanings host old) (meanings host mid)
  attach-leaves = leaves-saving host old mid mid states faults more (λ r away. refl) (λ r away apart. refl) (omega arith) (omega arith)

  pub image-behind : HasImage host mid after x
  image-behind = image-stays host old mid rest after x (states Work (λ e. cc)) still image

  heap-behind : heap_on host mid after x.next ≡ heap_on host old rest x.next
  heap-behind = ap (λ (r : DiskRest). heap_on host mid r x.next) still ∙ heap-stays host old mid rest x.next (states Work (λ e. cc))

  module _ (before : Meanings) (row : Row) (lines : List Line) (once : IsTrue (host.tells Saved) → AttachedOnce row.saved (host.roles old Saved) (host.roles mid Saved))
      (came : Came host.tells before (meanings host old) row Listening x.state (heap_on host old rest x.next) lines) where
    pub unsaved-end : (status : Status) → IsUnsaved status → IsRefusalAt host.tells (meanings host old) (meanings host mid) Saving status → (IsTrue (host.tells Saved) → WasRefused row.saved (host.roles old Saved) (host.roles mid Saved)) → TraceEnds host.tells before (meanings host mid) row status
    unsaved-end status is refused put = trace-unsaved host.tells before row (meanings host old) x.state (heap_on host old rest x.next) lines came (meanings host mid) once (states Work (λ e. cc)) attach-leaves status is refused put

    pub unmade-end : (IsTrue (host.tells Saved) → WasWritten row.saved [] (host.roles old Saved) (host.roles mid Saved)) → TraceEnds host.tells before (meanings host mid) row answer.OutOfMemory
    unmade-end put = trace-unmade host.tells before row (meanings host old) x.state (heap_on host old rest x.next) lines came (meanings host mid) once (states Work (λ e. cc)) attach-leaves put

    -- The memory was made over it, and its machine ran.
    module _ (m n : LoomMemory H host) (at : (loom_now m) ≡ mid) (opened : IsTrue (host.tells Saved) → WasWritten row.saved [] (host.roles old Saved) (host.roles mid Saved))
        (begins : IsTrue (host.tells Work) → BeginsWith (heap_on host mid after x.next) (loom_told host m)) where
      abbrev heap : Heap
      heap = heap_on host old rest x.next

      pub begins-behind : IsTrue (host.tells Work) → BeginsImage heap x.state (loom_told host m)
      begins-behind work = subst (λ h. BeginsImage h x.state (loom_told host m)) heap-behind record { image = (image-behind.heap work).is; state_is = image-behind.state work; begins = begins work }

      used-then : UsesTrace host.tells before (meanings host (loom_now m)) row Making
      used-then = subst (λ (h : H). UsesTrace host.tells before (meanings host h) row Making) (sym at) (used-making host.tells before row (meanings host old) x.state heap lines came (meanings host mid) once (states Work (λ e. cc)) attach-leaves)

      read-then : HasRead host.tells (meanings host (loom_now m)) row x.state heap
      read-then = subst (λ (h : H). HasRead host.tells (meanings host h) row x.state heap) (sym at) (read-making host.tells before row (meanings host old) x.state heap lines came (meanings host mid) once (states Work (λ e. cc)) attach-leaves)

      heard-then : HasHeard host.tells (meanings host (loom_now m)) row lines
      heard-then = subst (λ (h : H). HasHeard host.tells (meanings host h) row lines) (sym at) (heard-making host.tells before row (meanings host old) x.state heap lines came (meanings host mid) once (states Work (λ e. cc)) attach-leaves)

      -- nothing was said in this trace before it
      from-start : host.roles (loom_now m) Transcript ≡ before.roles Transcript
      from-start = ap (λ (h : H). host.roles h Transcript) at ∙ states Transcript (λ e. cc) ∙ (came.uses.unused Transcript refl).state

      attached-then : IsTrue (host.tells Saved) → WasWritten row.saved [] (before.roles Saved) (host.roles (loom_now m) Saved)
      attached-then told = subst (λ (h : H). WasWritten row.saved [] (before.roles Saved) (host.roles h Saved)) (sym at)
          (subst (λ (s : RoleState). WasWritten row.saved [] s (host.roles mid Saved)) (came.uses.unused Saved refl).state (opened told))

      module _ (status : Status) (follows : IsTrue (host.tells Work) → (h : Heap) → BeginsImage h x.state (loom_told host m) → FollowsAs (loom_told host m) (loom_told host n) row status lines (model_state x.state) h (host.tells Saved) (loom_outside host m Saved).role (loom_outside host n Saved).role)
          (only : IsTrue (host.tells Saved) → OnlyPut (loom_outside host m Saved).role (loom_outside host n Saved).role)
          (file : IsTrue (host.tells Work) → IsSameFile (host.roles (loom_now m) Work) (host.roles (loom_now n) Work))
          (leaves : LeavesBut (Transcript ∷ Work ∷ Saved ∷ []) (meanings host (loom_now m)) (meanings host (loom_now n)))
          (refused : IsTraceRefusal host.tells (meanings host (loom_now m)) (meanings host (loom_now n)) row EndsFollowed status) where
        follows-then : IsTrue (host.tells Work) → FollowsTo host.tells before (meanings host (loom_now n)) row status lines (model_state x.state) heap
        unfolding loom_told loom_outside
        follows-then work =
            let f = follows work heap (begins-behind work) in
            record {
              completed = f.completed;
              few = f.few;
              counts = f.counts;
              stops = f.stops;
              within = f.within;
              goes = f.goes;
              says = λ speaks. subst (λ (s : RoleState). SaysTraced status row (course lines row.steps (model_state x.state) heap) f.completed s.put (host.roles (loom_now n) Transcript).put) from-start (f.says speaks);
              lines = λ saved. written-so status row.saved (lines_from lines f.completed (started (model_state x.state) heap)) (before.roles Saved) (host.roles (loom_now m) Saved) (host.roles (loom_now n) Saved) (attached-then saved) (f.lines saved);
              whole = λ saved. subst (λ (bytes : List ℕ). AreWhole lines f.completed (started (model_state x.state) heap) (length bytes) (length (host.roles (loom_now n) Saved).put)) (attached-then saved).put (f.whole saved);
            }

        only-then : IsTrue (host.tells Saved) → OnlyPut (host.roles (loom_now m) Saved) (host.roles (loom_now n) Saved)
        unfolding loom_outside
        only-then saved = only saved

        pub followed-then : Followed host.tells before (meanings host (loom_now n)) row status lines x.state heap
        followed-then = record {
          uses = traced-running host.tells row before (meanings host (loom_now m)) (meanings host (loom_now n)) used-then file only-then leaves;
          read = read-left host.tells before row (meanings host (loom_now m)) (meanings host (loom_now n)) x.state heap (leaves.others Image (λ e. cc, (λ e. cc, (λ e. cc, tt)))).state read-then;
          heard = heard-left host.tells before row (meanings host (loom_now m)) (meanings host (loom_now n)) lines (leaves.others Events (λ e. cc, (λ e. cc, (λ e. cc, tt)))).state heard-then;
          refusal = record {
            answer = refused.answer;
            of_run = refused.of_run;
            ran = refused.ran;
            cause = cause-since status before.faults (host.faults (loom_now m)) (host.faults (loom_now n)) used-then.later refused.cause;
            whole = refused.whole;
            limits = refused.limits;
          };
          follows = follows-then;
        }
