-- What the parts of a run hand on to one another.
-- Each part takes what came before it as a premise (`Uses`, `Came`, `CameThrough`), and says how the run ends from there. The laws here are its exits;
-- `UsesLaws`, `EndsLaws` and `WrittenLaws` have the steps.
use Rattle.std.proofs.Common.{◌≡◌, ℕ, Bool, true, false, List, Some, IsTrue, refl, sym, ◌∙◌, ap, subst, arith}
use Rattle.long_names.specs.Heap.{Heap}
use Rattle.long_names.specs.Kept.{kept, no_roots}
use Rattle.image_format.specs.declared.opening.State.{State as Words}
use Rattle.loom_host.specs.Outside.{RoleState}
use Rattle.loom_host.specs.declared.outside.Host.{Ghosts}
use Rattle.loom_host.specs.declared.outside.Role.{Role}
use Rattle.loom_host.specs.declared.outside.Role.TheVariants.{Image, Events, Work, Saved, Display, Transcript, Notes}
use Rattle.disk_objects.specs.declared.rest.DiskRest.{DiskRest}
use Rattle.disk_objects.specs.Function.{objects_at}
use Rattle.image_reader.specs.Loaded.{heap_on}
use Rattle.image_writer.specs.Saved.{saved_text}
use Rattle.blue_model.specs.declared.event.Line.{Line}
use Rattle.blue_model.specs.Endings.{IsParkedBy}
use Rattle.blue_model.specs.Logs.{Course, course}
use Rattle.machine_run.specs.States.{model_state}
use Rattle.machine_run.specs.declared.running.Finished.{Finished}
use Rattle.loom_run.specs.Ends.{AttachedOnce, GoesThrough, JudgesEvents, JudgesImage, MadeBy, WrittenBy, bytes_of}
use Rattle.loom_run.specs.Meanings.{Meanings, LeavesBut, meanings}
use Rattle.loom_run.specs.Stages.{Opening, Reading, Listening, Making, Running, Finishing, Saving, Drawing, Telling, roles_at, written_roles}
use Rattle.loom_run.specs.Steps.{Came, CameThrough, HasHeard, HasRead, IsRefusal, IsSameFile, LateEnds, ReadEnds, RunEnds, Uses, WrittenEnds}
use Rattle.loom_words.specs.Words.{Row}
use Rattle.loom_words.specs.declared.status.Status.{Status}
use Rattle.loom_words.specs.declared.status.Status.TheVariants.{OutOfMemory}
use Rattle.loom_run.proofs.EndsLaws.{came-on, ends-late, ends-making, heard-left, read-left, refused-since}
use Rattle.loom_run.proofs.Frames.{leaves-all}
use Rattle.loom_run.proofs.JudgedLaws.{reads-listening, reads-opening, reads-reading}
use Rattle.loom_run.proofs.UsesLaws.{left-then, uses-drawing, uses-finishing, uses-listening, uses-making, uses-opening, uses-reading, uses-running, uses-saving, uses-telling}
use Rattle.loom_run.proofs.WrittenLaws.{late-drawing, late-saving, late-telling}

module _ (tells : Role → Bool) (before : Meanings) (row : Row) where
  -- ---- Work and Image

  pub opening-refused : (now : Meanings) (status : Status) → (IsTrue (tells Work) → AttachedOnce row.work (before.roles Work) (now.roles Work)) → LeavesBut (roles_at Opening) before now → IsRefusal tells before now row Opening status → ReadEnds tells before now row status
  opening-refused now status attached others refused = record { stage = Opening; early = refl; uses = uses-opening tells row before now attached others; refusal = refused; reads = reads-opening tells row now status }

  module _ (mid now : Meanings) (opened : (IsTrue (tells Work) → AttachedOnce row.work (before.roles Work) (mid.roles Work))) (named : IsTrue (tells Work) → (mid.roles Work).name ≡ Some row.work) (first : LeavesBut (roles_at Opening) before mid)
      (attached : IsTrue (tells Image) → AttachedOnce row.image (mid.roles Image) (now.roles Image)) (file : IsTrue (tells Work) → IsSameFile (mid.roles Work) (now.roles Work)) (others : LeavesBut (roles_at Reading) mid now) where
    pub used-reading : Uses tells before now row Reading
    used-reading = uses-reading tells row before mid now (uses-opening tells row before mid opened first) named attached file others

    pub reading-refused : (status : Status) → IsRefusal tells mid now row Reading status → (IsTrue (tells Image) → JudgesImage (tells Work) status row.room (bytes_of (now.roles Image))) → ReadEnds tells before now row status
    reading-refused status refused judges = record {
      stage = Reading;
      early = refl;
      uses = used-reading;
      refusal = refused-since tells before mid now row Reading status first.later refused;
      reads = reads-reading tells row now status used-reading.named judges;
    }

  -- ---- Events

  module _ (mid now : Meanings) (used : Uses tells before mid row Reading) (attached : IsTrue (tells Events) → AttachedOnce row.events (mid.roles Events) (now.roles Events)) (others : LeavesBut (roles_at Listening) mid now) (state : Words) (heap : Heap) (read : HasRead tells mid row state heap) where
    used-listening : Uses tells before now row Listening
    used-listening = uses-listening tells row before mid now used attached others

    read-listening : HasRead tells now row state heap
    read-listening = read-left tells before row mid now state heap (others.others Image (λ e. cc, tt)).state read

    pub came-listening : (lines : List Line) → HasHeard tells now row lines → Came tells before now row Listening state heap lines
    came-listening lines heard = record { uses = used-listening; read = read-listening; heard = heard }

    pub listening-refused : (status : Status) → IsRefusal tells mid now row Listening status → (IsTrue (tells Events) → JudgesEvents status (bytes_of (now.roles Events))) → ReadEnds tells before now row status
    listening-refused status refused judges = record {
      stage = Listening;
      early = refl;
      uses = used-listening;
      refusal = refused-since tells before mid now row Listening status used.later refused;
      reads = reads-listening tells row now status state heap used-listening.named read-listening judges;
    }

  -- ---- the memory

  module _ (now : Meanings) (state : Words) (heap : Heap) (lines : List Line) (came : Came tells before now row Listening state heap lines) where
    came-making : Came tells before now row Making state heap lines
    came-making = record { uses = uses-making tells row before now now came.uses (leaves-all (roles_at Making) now); read = came.read; heard = came.heard }

    pub making-refused : RunEnds tells before now row OutOfMemory
    making-refused = ends-making tells before row now state heap lines came-making

    -- ---- the machine

    module _ (far : Meanings) (file : IsTrue (tells Work) → IsSameFile (now.roles Work) (far.roles Work)) (others : LeavesBut (roles_at Running) now far) where
      pub came-running : Came tells before far row Running state heap lines
      came-running = came-on tells before row now far Making Running state heap lines came-making (uses-running tells row before now far came-making.uses file others)
          (others.others Image (λ e. cc, (λ e. cc, tt))).state (others.others Events (λ e. cc, (λ e. cc, tt))).state

      pub came-finishing : (end : Meanings) → (IsTrue (tells Work) → IsSameFile (far.roles Work) (end.roles Work)) → LeavesBut (roles_at Finishing) far end → Came tells before end row Finishing state heap lines
      came-finishing end file leaves = came-on tells before row far end Running Finishing state heap lines came-running (uses-finishing tells row before far end came-running.uses file leaves)
          (leaves.others Image (λ e. cc, (λ e. cc, tt))).state (leaves.others Events (λ e. cc, (λ e. cc, tt))).state

  -- ---- what is written

  module _ (mid : Meanings) (c : Course) (finished : Finished) (remains : Heap) (used : Uses tells before mid row Finishing) (through : IsTrue (tells Work) → CameThrough tells before mid row finished remains c)
      (far : Meanings) (attached : IsTrue (tells Saved) → AttachedOnce row.saved (mid.roles Saved) (far.roles Saved)) (file : far.roles Work ≡ mid.roles Work) (others : LeavesBut (roles_at Saving) mid far) where
    used-saving : Uses tells before far row Saving
    used-saving = uses-saving tells row before mid far used attached (λ told. file ∙ sym (ap (λ (s : RoleState). record (mid.roles Work) { contents = s.contents }) file)) others

    silent : far.roles Transcript ≡ mid.roles Transcript
    silent = (others.others Transcript (λ e. cc, (λ e. cc, tt))).state

    pub saving-refused : (status : Status) → IsRefusal tells mid far row Saving status → (IsTrue (tells Saved) → IsTrue (tells Work) → MadeBy false row.saved (saved_text (kept remains no_roots) finished.state) (mid.roles Saved) (far.roles Saved)) → WrittenEnds tells before far row status c
    saving-refused status refused put = late-saving tells before row c mid finished remains used through far status used-saving refused silent put

    module _ (put : IsTrue (tells Saved) → IsTrue (tells Work) → MadeBy true row.saved (saved_text (kept remains no_roots) finished.state) (mid.roles Saved) (far.roles Saved))
        (now : Meanings) (shown : IsTrue (tells Display) → AttachedOnce row.display (far.roles Display) (now.roles Display)) (drawing : LeavesBut (roles_at Drawing) far now) where
      used-drawing : Uses tells before now row Drawing
      used-drawing = uses-drawing tells row before far now used-saving shown drawing

      undrawn : far.roles Display ≡ mid.roles Display
      undrawn = (others.others Display (λ e. cc, (λ e. cc, tt))).state

      pub drawing-refused : (status : Status) → IsRefusal tells far now row Drawing status → (IsTrue (tells Display) → WrittenBy false row.display finished.picture (far.roles Display) (now.roles Display)) → WrittenEnds tells before now row status c
      drawing-refused status refused drawn = late-drawing tells before row c mid finished remains used through far silent put undrawn now status used-drawing used-saving.later refused
          (drawing.others Transcript (λ e. cc, tt)).state (drawing.others Saved (λ e. cc, tt)).state drawn

      pub run-finished : (status : Status) → IsRefusal tells now now row Telling status → ((c : Course) → IsParkedBy finished.end finished.ran c.ending → GoesThrough status c) → (IsTrue (tells Display) → WrittenBy true row.display finished.picture (far.roles Display) (now.roles Display)) → WrittenEnds tells before now row status c
      run-finished status answered goes drawn = late-telling tells before row c mid finished remains used through far silent put undrawn now status (uses-telling tells row before now used-drawing)
          (left-then Notes before far now (used-saving.unused Notes refl) (drawing.others Notes (λ e. cc, tt))) answered goes
          (drawing.others Transcript (λ e. cc, tt)).state (drawing.others Saved (λ e. cc, tt)).state drawn

  -- ---- and of a run, over the course that its image and its events have

  pub run-written : (mid now : Meanings) (status : Status) (state : Words) (heap : Heap) (lines : List Line) → Came tells before mid row Finishing state heap lines → LeavesBut written_roles mid now
      → LateEnds tells before now row status (course lines row.steps (model_state state) heap) → RunEnds tells before now row status
  run-written mid now status state heap lines came others end = ends-late tells before row now status state heap lines
      (read-left tells before row mid now state heap (others.others Image (λ e. cc, (λ e. cc, (λ e. cc, tt)))).state came.read) (heard-left tells before row mid now lines (others.others Events (λ e. cc, (λ e. cc, (λ e. cc, tt)))).state came.heard) end

pub leaves-saving : (a b : Meanings) → LeavesBut (roles_at Saving) a b → LeavesBut written_roles a b
leaves-saving a b p = record { others = λ role none. p.others role (none.0, (none.1.1.0, tt)); writes = λ none. absurd (none.1.1.0 refl); later = p.later }

pub leaves-drawing : (a b c : Meanings) → LeavesBut (roles_at Saving) a b → LeavesBut (roles_at Drawing) b c → LeavesBut written_roles a c
leaves-drawing a b c p q = record {
  others = λ role none. left-then role a b c (p.others role (none.0, (none.1.1.0, tt))) (q.others role (none.1.0, tt));
  writes = λ none. absurd (none.1.1.0 refl);
  later = λ role. let first = p.later role in let then = q.later role in omega (arith, first, then);
}

-- ---- the heap on the disk

pub heap-stays : {H : Type 0} (host : Ghosts H) (old new : H) (rest : DiskRest) (next : ℕ) → host.roles new Work ≡ host.roles old Work → heap_on host new rest next ≡ heap_on host old rest next
heap-stays host old new rest next same = ap (λ (s : RoleState). let h : Heap = record { at = objects_at rest s.contents; next = next } in h) same

pub read-stays : {H : Type 0} (host : Ghosts H) (old new : H) (row : Row) (state : Words) (rest : DiskRest) (next : ℕ) → host.roles new Work ≡ host.roles old Work → HasRead host.tells (meanings host old) row state (heap_on host old rest next) → HasRead host.tells (meanings host old) row state (heap_on host new rest next)
read-stays host old new row state rest next same read = subst (λ (h : Heap). HasRead host.tells (meanings host old) row state h) (sym (heap-stays host old new rest next same)) read
