-- A run ends at a stage: what its steps said, put together.
-- `ends-with` is the one law of ends; each exit hands in what it knows of the image, the events and the machine, of which a stage before has nothing.
use Rattle.std.proofs.Common.{◌≡◌, ℕ, ◌≤◌, Bool, List, IsTrue, inr, refl, sym, subst, arith}
use Rattle.std.specs.Prelude.{IsFalse}
use Rattle.long_names.specs.Counting.{Rose}
use Rattle.long_names.specs.Heap.{Heap}
use Rattle.image_format.specs.declared.opening.State.{State as Words}
use Rattle.loom_host.specs.Outside.{RoleState}
use Rattle.loom_host.specs.declared.outside.Role.{Role}
use Rattle.loom_host.specs.declared.outside.Role.TheVariants.{Image, Events, Work, Notes}
use Rattle.blue_model.specs.declared.event.Line.{Line}
use Rattle.blue_model.specs.Logs.{course}
use Rattle.machine_run.specs.States.{model_state}
use Rattle.loom_run.specs.Ends.{AreEvents, IsCaused, ReadsAt, RunOf, RunsTo, WasRead, bytes_of}
use Rattle.loom_run.specs.Meanings.{Meanings, IsLeft}
use Rattle.loom_run.specs.Stages.{Stage, Opening, Reading, Listening, Making, Running, Telling, passes, reaches}
use Rattle.loom_run.specs.Steps.{Came, HasHeard, HasRead, IsRead, IsRefusal, LateEnds, ReadEnds, RunEnds, Uses}
use Rattle.loom_words.specs.Words.{Row}
use Rattle.loom_words.specs.declared.status.Status.{Status}
use Rattle.loom_words.specs.declared.status.Status.TheVariants as answer
use Rattle.loom_run.proofs.JudgedLaws.{reads-later}
use Rattle.loom_run.proofs.UsesLaws.{never}

-- ---- causes

rose-since : (a b c : ℕ) → a ≤ b → Rose b c → Rose a c
rose-since a b c low h = omega (arith, low, h)

pub cause-since : (status : Status) (before mid now : Role → ℕ) → ((role : Role) → before role ≤ mid role) → IsCaused status mid now → IsCaused status before now
cause-since (answer.Done ran) before mid now later h = tt
cause-since (answer.Quit ran) before mid now later h = tt
cause-since (answer.Made objects) before mid now later h = tt
cause-since (answer.Listed objects) before mid now later h = tt
cause-since (answer.Assembled objects) before mid now later h = tt
cause-since (answer.Usage word) before mid now later h = tt
cause-since (answer.ImageBad rule place) before mid now later h = tt
cause-since (answer.EventsBad line) before mid now later h = tt
cause-since (answer.TextBad line rule) before mid now later h = tt
cause-since (answer.Stuck cause ran) before mid now later h = tt
cause-since (answer.CoreFull ran need) before mid now later h = tt
cause-since (answer.NamesSpent ran) before mid now later h = tt
cause-since (answer.WorkFull live room) before mid now later h = tt
cause-since (answer.ReadFault role count) before mid now later h = (h.0, rose-since (before role) (mid role) (now role) (later role) h.1)
cause-since (answer.WorkFault count) before mid now later h = (h.0, rose-since (before Work) (mid Work) (now Work) (later Work) h.1)
cause-since (answer.WriteFault role count) before mid now later h = (h.0, rose-since (before role) (mid role) (now role) (later role) h.1)
cause-since answer.OutOfMemory before mid now later h = tt
cause-since (answer.Damaged place name) before mid now later h = tt
cause-since (answer.VaultFault count) before mid now later h = tt
cause-since answer.NoCheckpoint before mid now later h = tt
cause-since (answer.VaultBad place) before mid now later h = tt

pub refused-since : (tells : Role → Bool) (before mid now : Meanings) (row : Row) (stage : Stage) (status : Status) → ((role : Role) → before.faults role ≤ mid.faults role) → IsRefusal tells mid now row stage status → IsRefusal tells before now row stage status
refused-since tells before mid now row stage status since refused = record {
  answer = refused.answer;
  of_run = refused.of_run;
  ran = refused.ran;
  cause = cause-since status before.faults mid.faults now.faults since refused.cause;
  whole = refused.whole;
  limits = refused.limits;
}

-- over a host that tells fewer roles
pub refused-of : (tells fewer : Role → Bool) → ((role : Role) → IsTrue (fewer role) → IsTrue (tells role)) → (before now : Meanings) (row : Row) (stage : Stage) (status : Status) → IsRefusal tells before now row stage status → IsRefusal fewer before now row stage status
refused-of tells fewer sub before now row stage status refused = record { answer = refused.answer; of_run = refused.of_run; ran = refused.ran; cause = refused.cause; whole = λ work. refused.whole (sub Work work); limits = refused.limits }

-- ---- the stages before the memory is made

pub early-stage : (P : Stage → Type 0) (stage : Stage) → IsTrue (passes stage Making) → P Opening → P Reading → P Listening → P stage
early-stage P Opening early opening reading listening = opening
early-stage P Reading early opening reading listening = reading
early-stage P Listening early opening reading listening = listening
early-stage P _ early opening reading listening = never early

module _ (tells : Role → Bool) (before : Meanings) (row : Row) where
  -- ---- the one law

  pub ends-with : (mid now : Meanings) (stage : Stage) (status : Status) → ((role : Role) → before.faults role ≤ mid.faults role) → Uses tells before now row stage → IsLeft Notes before now → IsRefusal tells mid now row stage status → ReadsAt tells now row stage status
      → (IsTrue (tells Image) → IsTrue (tells Events) → IsTrue (tells Work) → IsTrue (reaches Running stage) → RunOf (bytes_of (now.roles Image)) (bytes_of (now.roles Events)) row.steps (RunsTo tells before now row stage status)) → RunEnds tells before now row status
  ends-with mid now stage status since uses untold refused reads run = record {
    stage = stage;
    at = record {
      answer = refused.answer;
      answered = record { ran = refused.ran; cause = cause-since status before.faults mid.faults now.faults since refused.cause; whole = refused.whole; limits = refused.limits };
      attached = uses.attached;
      unused = λ role none. inr (uses.unused role none);
      reads = reads;
      run = run;
    };
    of_run = refused.of_run;
    untold = untold;
    later = uses.later;
  }

  -- ---- before the machine

  -- where something couldn't be read
  pub ends-early : (now : Meanings) (status : Status) → ReadEnds tells before now row status → RunEnds tells before now row status
  ends-early now status end = ends-with before now end.stage status (λ role. omega arith) end.uses
      (end.uses.unused Notes (early-stage (λ stage. IsFalse (reaches Telling stage)) end.stage end.early refl refl refl)) end.refusal end.reads
      (λ image events work came. absurd (early-stage (λ stage. IsTrue (reaches Running stage) → ⊥) end.stage end.early (λ no. never no) (λ no. never no) (λ no. never no) came))

  -- where no memory was made
  pub ends-making : (now : Meanings) (state : Words) (heap : Heap) (lines : List Line) → Came tells before now row Making state heap lines → RunEnds tells before now row answer.OutOfMemory
  ends-making now state heap lines came = ends-with now now Making answer.OutOfMemory came.uses.later came.uses (came.uses.unused Notes refl) record { answer = tt; of_run = tt; ran = tt; cause = tt; whole = λ work damaged. damaged; limits = tt }
      (reads-later tells row now Making answer.OutOfMemory state heap lines (λ e. cc) (λ e. cc) came.uses.named came.read came.heard) (λ image events work past. never past)

  -- ---- from the machine on

  -- what was read, and what came of the machine over it
  run-of : (now : Meanings) (stage : Stage) (status : Status) (image events : List ℕ) (state : Words) (heap : Heap) (lines : List Line) → IsRead image row.room state heap → AreEvents events lines
      → RunsTo tells before now row stage status (course lines row.steps (model_state state) heap) → RunOf image events row.steps (RunsTo tells before now row stage status)
  run-of now stage status image events state heap lines read heard run = record {
    head = read.head;
    heap = heap;
    is = read.image;
    lines = lines;
    list = heard;
    run = subst (λ (s : Words). RunsTo tells before now row stage status (course lines row.steps (model_state s) heap)) (sym read.state_is) run;
  }

  -- where an end comes at the machine's run or later
  pub ends-late : (now : Meanings) (status : Status) (state : Words) (heap : Heap) (lines : List Line) → HasRead tells now row state heap → HasHeard tells now row lines
      → LateEnds tells before now row status (course lines row.steps (model_state state) heap) → RunEnds tells before now row status
  ends-late now status state heap lines read heard end = ends-with before now end.stage status (λ role. omega arith) end.uses end.untold end.refusal
      (reads-later tells row now end.stage status state heap lines (λ e. never (subst (λ stage. IsTrue (reaches Running stage)) e end.late)) (λ e. never (subst (λ stage. IsTrue (reaches Running stage)) e end.late)) end.uses.named read heard)
      (λ image events work past. run-of now end.stage status (bytes_of (now.roles Image)) (bytes_of (now.roles Events)) state heap lines ((read image).1 work) (heard events).1 (end.runs work))

  -- ---- what was read stays so

  pub read-left : (mid now : Meanings) (state : Words) (heap : Heap) → now.roles Image ≡ mid.roles Image → HasRead tells mid row state heap → HasRead tells now row state heap
  read-left mid now state heap same read = λ image. subst (λ (s : RoleState). WasRead row.image s × (IsTrue (tells Work) → IsRead (bytes_of s) row.room state heap)) (sym same) (read image)

  pub heard-left : (mid now : Meanings) (lines : List Line) → now.roles Events ≡ mid.roles Events → HasHeard tells mid row lines → HasHeard tells now row lines
  heard-left mid now lines same heard = λ events. subst (λ (s : RoleState). WasRead row.events s × AreEvents (bytes_of s) lines) (sym same) (heard events)

  pub came-on : (mid now : Meanings) (stage next : Stage) (state : Words) (heap : Heap) (lines : List Line) → Came tells before mid row stage state heap lines → Uses tells before now row next → now.roles Image ≡ mid.roles Image → now.roles Events ≡ mid.roles Events → Came tells before now row next state heap lines
  came-on mid now stage next state heap lines came uses image events = record { uses = uses; read = read-left mid now state heap image came.read; heard = heard-left mid now lines events came.heard }
