-- A run whose machine has run ends: what was said, saved and drawn is the model's.
use Rattle.std.proofs.Common.{◌≡◌, ℕ, ◌≤◌, Bool, true, false, List, ◌++◌, IsTrue, refl, sym, ◌∙◌, ap, subst}
use Rattle.long_names.specs.Heap.{Heap}
use Rattle.long_names.specs.Kept.{kept, no_roots}
use Rattle.image_format.specs.declared.opening.State.{State as Words}
use Rattle.image_writer.specs.Saved.{saved_text}
use Rattle.loom_host.specs.Outside.{RoleState}
use Rattle.loom_host.specs.declared.outside.Role.{Role}
use Rattle.loom_host.specs.declared.outside.Role.TheVariants.{Image, Events, Work, Saved, Display, Transcript, Notes}
use Rattle.blue_model.specs.declared.event.Line.{Line}
use Rattle.blue_model.specs.declared.step.Step.{Step}
use Rattle.blue_model.specs.Cycle.{Ending, Parked, Stuck}
use Rattle.blue_model.specs.Endings.{IsParked, IsParkedBy, OnDrawn, OnParked, said_in}
use Rattle.blue_model.specs.Logs.{Course, course}
use Rattle.machine_run.specs.States.{model_state}
use Rattle.machine_run.specs.declared.running.Finished.{Finished}
use Rattle.loom_run.specs.Ends.{CutsLine, GoesThrough, HasRun, MadeBy, RunsTo, SaysStopped, Stops, WrittenBy, image_of}
use Rattle.loom_run.specs.Meanings.{Meanings, IsLeft}
use Rattle.loom_run.specs.Parts.{IsFinished}
use Rattle.loom_run.specs.Stages.{Stage, Running, Finishing, Saving, Drawing, Telling, Ends, reaches}
use Rattle.loom_run.specs.Steps.{Came, CameThrough, IsOfRun, IsRefusal, LateEnds, RunEnds, Uses, WrittenEnds}
use Rattle.loom_words.specs.Words.{Row}
use Rattle.loom_words.specs.declared.status.Status.{Status}
use Rattle.loom_words.specs.declared.status.Status.TheVariants as answer
use Rattle.loom_run.proofs.UsesLaws.{never}
use Rattle.loom_run.proofs.EndsLaws.{ends-late, refused-since}

-- ---- what a run that went through says of an answer

parked-of : (end : Step) (ran : ℕ) (e : Ending) → IsParkedBy end ran e → IsParked e
parked-of end ran (Parked last m drawn) h = tt
parked-of end ran (Stuck why count said) h = h

-- a refusal after the machine's run
goes-refused : (status : Status) (c : Course) → ((ran : ℕ) → status ≡ answer.Done ran → ⊥) → ((ran : ℕ) → status ≡ answer.Quit ran → ⊥) → IsParked c.ending → GoesThrough status c
goes-refused (answer.Done ran) c done quit h = absurd (done ran refl)
goes-refused (answer.Quit ran) c done quit h = absurd (quit ran refl)
goes-refused (answer.Made objects) c done quit h = h
goes-refused (answer.Listed objects) c done quit h = h
goes-refused (answer.Assembled objects) c done quit h = h
goes-refused (answer.Usage word) c done quit h = h
goes-refused (answer.ImageBad rule place) c done quit h = h
goes-refused (answer.EventsBad line) c done quit h = h
goes-refused (answer.TextBad line rule) c done quit h = h
goes-refused (answer.Stuck cause ran) c done quit h = h
goes-refused (answer.CoreFull ran need) c done quit h = h
goes-refused (answer.NamesSpent ran) c done quit h = h
goes-refused (answer.WorkFull live room) c done quit h = h
goes-refused (answer.ReadFault role count) c done quit h = h
goes-refused (answer.WorkFault count) c done quit h = h
goes-refused (answer.WriteFault role count) c done quit h = h
goes-refused answer.OutOfMemory c done quit h = h
goes-refused (answer.Damaged place name) c done quit h = h
goes-refused (answer.VaultFault count) c done quit h = h
goes-refused answer.NoCheckpoint c done quit h = h
goes-refused (answer.VaultBad place) c done quit h = h

-- an answer that isn't about the last line cuts none
pub cuts-none : (status : Status) (c : Course) (old new : RoleState) → IsOfRun status → CutsLine status c old new
cuts-none (answer.WriteFault Notes count) c old new of_run = absurd (of_run refl)
cuts-none (answer.WriteFault Image count) c old new of_run = tt
cuts-none (answer.WriteFault Events count) c old new of_run = tt
cuts-none (answer.WriteFault Work count) c old new of_run = tt
cuts-none (answer.WriteFault Saved count) c old new of_run = tt
cuts-none (answer.WriteFault Display count) c old new of_run = tt
cuts-none (answer.WriteFault Transcript count) c old new of_run = tt
cuts-none (answer.Done ran) c old new of_run = tt
cuts-none (answer.Quit ran) c old new of_run = tt
cuts-none (answer.Made objects) c old new of_run = tt
cuts-none (answer.Listed objects) c old new of_run = tt
cuts-none (answer.Assembled objects) c old new of_run = tt
cuts-none (answer.Usage word) c old new of_run = tt
cuts-none (answer.ImageBad rule place) c old new of_run = tt
cuts-none (answer.EventsBad line) c old new of_run = tt
cuts-none (answer.TextBad line rule) c old new of_run = tt
cuts-none (answer.Stuck cause ran) c old new of_run = tt
cuts-none (answer.CoreFull ran need) c old new of_run = tt
cuts-none (answer.NamesSpent ran) c old new of_run = tt
cuts-none (answer.WorkFull live room) c old new of_run = tt
cuts-none (answer.ReadFault role count) c old new of_run = tt
cuts-none (answer.WorkFault count) c old new of_run = tt
cuts-none answer.OutOfMemory c old new of_run = tt
cuts-none (answer.Damaged place name) c old new of_run = tt
cuts-none (answer.VaultFault count) c old new of_run = tt
cuts-none answer.NoCheckpoint c old new of_run = tt
cuts-none (answer.VaultBad place) c old new of_run = tt

-- what is written of a parked machine
written-of : (e : Ending) (b : Bool) (text bytes : List ℕ) (a mid now : RoleState) → OnParked e (λ m. bytes ≡ image_of m) → mid ≡ a → MadeBy b text bytes mid now → OnParked e (λ m. MadeBy b text (image_of m) a now)
written-of (Parked end m drawn) b text bytes a mid now same from w = subst (λ t. MadeBy b text t a now) same (subst (λ s. MadeBy b text bytes s now) from w)
written-of (Stuck why count said) b text bytes a mid now same from w = same

drawn-of : (e : Ending) (b : Bool) (text bytes : List ℕ) (a mid now : RoleState) → OnDrawn e (λ picture. bytes ≡ picture) → mid ≡ a → WrittenBy b text bytes mid now → OnDrawn e (λ picture. WrittenBy b text picture a now)
drawn-of (Parked end m drawn) b text bytes a mid now same from w = subst (λ t. WrittenBy b text t a now) same (subst (λ s. WrittenBy b text bytes s now) from w)
drawn-of (Stuck why count said) b text bytes a mid now same from w = same

on-parked-left : (e : Ending) (b : Bool) (text : List ℕ) (a mid now : RoleState) → now ≡ mid → OnParked e (λ m. MadeBy b text (image_of m) a mid) → OnParked e (λ m. MadeBy b text (image_of m) a now)
on-parked-left (Parked end m drawn) b text a mid now same w = subst (λ s. MadeBy b text (image_of m) a s) (sym same) w
on-parked-left (Stuck why count said) b text a mid now same w = w

-- From the machine's run on a run ends by what came of its machine: over any course.
module _ (tells : Role → Bool) (before : Meanings) (row : Row) (c : Course) where
  abbrev late-end : (mid now : Meanings) (stage : Stage) (status : Status) → IsTrue (reaches Running stage) → ((role : Role) → before.faults role ≤ mid.faults role) → Uses tells before now row stage → IsLeft Notes before now
      → IsRefusal tells mid now row stage status → (IsTrue (tells Work) → RunsTo tells before now row stage status c) → LateEnds tells before now row status c
  late-end mid now stage status late since uses untold refused runs = record {
    stage = stage;
    late = late;
    uses = uses;
    refusal = refused-since tells before mid now row stage status since refused;
    untold = untold;
    runs = runs;
  }

  -- ---- the machine's run

  pub late-running : (mid now : Meanings) (status : Status) → ((role : Role) → before.faults role ≤ mid.faults role) → Uses tells before now row Running → IsRefusal tells mid now row Running status
      → (IsTrue (tells Work) → Stops status row c × (IsTrue (tells Transcript) → SaysStopped status row c (before.roles Transcript).put (now.roles Transcript).put)) → LateEnds tells before now row status c
  late-running mid now status since uses refused stops = late-end mid now Running status refl since uses (uses.unused Notes refl) refused (λ work. record {
    stops = λ at. (stops work).0;
    goes = λ past. never past;
    fits = λ past. never past;
    says = λ told at. (stops work).1 told;
    said = λ told past. never past;
    saves = λ told past. never past;
    draws = λ told past. never past;
    cuts = λ told at. absurd (cc);
    image = λ past. never past;
  })

  -- where the memory couldn't be wound up
  pub late-finishing : (mid now : Meanings) (status : Status) → ((role : Role) → before.faults role ≤ mid.faults role) → Uses tells before now row Finishing → IsRefusal tells mid now row Finishing status
      → (IsTrue (tells Work) → IsParked c.ending × OnParked c.ending (λ m. m.largest ≤ row.core) × (IsTrue (tells Transcript) → (now.roles Transcript).put ≡ (before.roles Transcript).put ++ said_in c.ending)) → LateEnds tells before now row status c
  late-finishing mid now status since uses refused went = late-end mid now Finishing status refl since uses (uses.unused Notes refl) refused (λ work. record {
    stops = λ at. absurd (cc);
    goes = λ past. goes-refused status c (λ ran e. subst (λ s. Ends Finishing s) e refused.answer) (λ ran e. subst (λ s. Ends Finishing s) e refused.answer) (went work).0;
    fits = λ past. (went work).1;
    says = λ told at. absurd (cc);
    said = λ told past. (went work).2 told;
    saves = λ told past. never past;
    draws = λ told past. never past;
    cuts = λ told at. absurd (cc);
    image = λ past. never past;
  })

  -- ---- the saved image and the picture

  module _ (mid : Meanings) (finished : Finished) (remains : Heap) (used : Uses tells before mid row Finishing) (through : IsTrue (tells Work) → CameThrough tells before mid row finished remains c) where
    pub late-saving : (now : Meanings) (status : Status) → Uses tells before now row Saving → IsRefusal tells mid now row Saving status → now.roles Transcript ≡ mid.roles Transcript
        → (IsTrue (tells Saved) → IsTrue (tells Work) → MadeBy false row.saved (saved_text (kept remains no_roots) finished.state) (mid.roles Saved) (now.roles Saved)) → WrittenEnds tells before now row status c
    late-saving now status uses refused silent put = (
      late-end mid now Saving status refl used.later uses (uses.unused Notes refl) refused (λ work. record {
        stops = λ at. absurd (cc);
        goes = λ past. goes-refused status c (λ ran e. subst (λ s. Ends Saving s) e refused.answer) (λ ran e. subst (λ s. Ends Saving s) e refused.answer) (parked-of finished.end finished.ran c.ending (through work).parked);
        fits = λ past. (through work).fits;
        says = λ told at. absurd (cc);
        said = λ told past. ap (λ (s : RoleState). s.put) silent ∙ (through work).said told;
        saves = λ told past. written-of c.ending false row.saved _ (before.roles Saved) (mid.roles Saved) (now.roles Saved) (through work).saves (used.unused Saved refl).state (put told work);
        draws = λ told past. never past;
        cuts = λ told at. absurd (cc);
        image = λ past. (through work).image;
      }),
      refl,
    )

    module _ (far : Meanings) (silent : far.roles Transcript ≡ mid.roles Transcript) (put : IsTrue (tells Saved) → IsTrue (tells Work) → MadeBy true row.saved (saved_text (kept remains no_roots) finished.state) (mid.roles Saved) (far.roles Saved)) (undrawn : far.roles Display ≡ mid.roles Display) where
      saved-far : IsTrue (tells Saved) → IsTrue (tells Work) → OnParked c.ending (λ m. MadeBy true row.saved (image_of m) (before.roles Saved) (far.roles Saved))
      saved-far told work = written-of c.ending true row.saved _ (before.roles Saved) (mid.roles Saved) (far.roles Saved) (through work).saves (used.unused Saved refl).state (put told work)

      pub late-drawing : (now : Meanings) (status : Status) → Uses tells before now row Drawing → ((role : Role) → before.faults role ≤ far.faults role) → IsRefusal tells far now row Drawing status
          → now.roles Transcript ≡ far.roles Transcript → now.roles Saved ≡ far.roles Saved → (IsTrue (tells Display) → WrittenBy false row.display finished.picture (far.roles Display) (now.roles Display)) → WrittenEnds tells before now row status c
      late-drawing now status uses since refused still saved drawn = (
        late-end far now Drawing status refl since uses (uses.unused Notes refl) refused (λ work. record {
          stops = λ at. absurd (cc);
          goes = λ past. goes-refused status c (λ ran e. subst (λ s. Ends Drawing s) e refused.answer) (λ ran e. subst (λ s. Ends Drawing s) e refused.answer) (parked-of finished.end finished.ran c.ending (through work).parked);
          fits = λ past. (through work).fits;
          says = λ told at. absurd (cc);
          said = λ told past. ap (λ (s : RoleState). s.put) (still ∙ silent) ∙ (through work).said told;
          saves = λ told past. on-parked-left c.ending true row.saved (before.roles Saved) (far.roles Saved) (now.roles Saved) saved (saved-far told work);
          draws = λ told past. drawn-of c.ending false row.display finished.picture (before.roles Display) (far.roles Display) (now.roles Display) (through work).drawn (undrawn ∙ (used.unused Display refl).state) (drawn told);
          cuts = λ told at. absurd (cc);
          image = λ past. (through work).image;
        }),
        refl,
      )

      -- a run that went through
      pub late-telling : (now : Meanings) (status : Status) → Uses tells before now row Telling → IsLeft Notes before now → IsRefusal tells now now row Telling status → ((c : Course) → IsParkedBy finished.end finished.ran c.ending → GoesThrough status c)
          → now.roles Transcript ≡ far.roles Transcript → now.roles Saved ≡ far.roles Saved → (IsTrue (tells Display) → WrittenBy true row.display finished.picture (far.roles Display) (now.roles Display)) → WrittenEnds tells before now row status c
      late-telling now status uses untold answered goes still saved drawn = (
        late-end now now Telling status refl uses.later uses untold answered (λ work. record {
          stops = λ at. absurd (cc);
          goes = λ past. goes c (through work).parked;
          fits = λ past. (through work).fits;
          says = λ told at. absurd (cc);
          said = λ told past. ap (λ (s : RoleState). s.put) (still ∙ silent) ∙ (through work).said told;
          saves = λ told past. on-parked-left c.ending true row.saved (before.roles Saved) (far.roles Saved) (now.roles Saved) saved (saved-far told work);
          draws = λ told past. drawn-of c.ending true row.display finished.picture (before.roles Display) (far.roles Display) (now.roles Display) (through work).drawn (undrawn ∙ (used.unused Display refl).state) (drawn told);
          cuts = λ told at. cuts-none status c (before.roles Notes) (now.roles Notes) answered.of_run;
          image = λ past. (through work).image;
        }),
        refl,
      )

-- and what was read says which course that is
module _ (tells : Role → Bool) (before : Meanings) (row : Row) (state : Words) (heap : Heap) (lines : List Line) where
  abbrev of : Course
  of = course lines row.steps (model_state state) heap

  pub ends-running : (mid now : Meanings) (status : Status) → ((role : Role) → before.faults role ≤ mid.faults role) → Came tells before now row Running state heap lines → IsRefusal tells mid now row Running status
      → (IsTrue (tells Work) → Stops status row of × (IsTrue (tells Transcript) → SaysStopped status row of (before.roles Transcript).put (now.roles Transcript).put)) → RunEnds tells before now row status
  ends-running mid now status since came refused stops = ends-late tells before row now status state heap lines came.read came.heard (late-running tells before row of mid now status since came.uses refused stops)

  pub ends-finishing : (mid now : Meanings) (status : Status) → ((role : Role) → before.faults role ≤ mid.faults role) → Came tells before now row Finishing state heap lines → IsRefusal tells mid now row Finishing status
      → (IsTrue (tells Work) → IsParked of.ending × OnParked of.ending (λ m. m.largest ≤ row.core) × (IsTrue (tells Transcript) → (now.roles Transcript).put ≡ (before.roles Transcript).put ++ said_in of.ending)) → RunEnds tells before now row status
  ends-finishing mid now status since came refused went = ends-late tells before row now status state heap lines came.read came.heard (late-finishing tells before row of mid now status since came.uses refused went)

-- an answer of a run that went through is no refusal
pub finished-refusal : {tells : Role → Bool} (now : Meanings) (row : Row) (status : Status) → IsFinished status → HasRun status row.steps → IsRefusal tells now now row Telling status
finished-refusal now row (answer.Done ran) fin ran_is = record { answer = tt; of_run = tt; ran = ran_is; cause = tt; whole = λ work damaged. damaged; limits = tt }
finished-refusal now row (answer.Quit ran) fin ran_is = record { answer = tt; of_run = tt; ran = ran_is; cause = tt; whole = λ work damaged. damaged; limits = tt }
finished-refusal now row (answer.Made objects) fin ran_is = absurd fin
finished-refusal now row (answer.Listed objects) fin ran_is = absurd fin
finished-refusal now row (answer.Assembled objects) fin ran_is = absurd fin
finished-refusal now row (answer.Usage word) fin ran_is = absurd fin
finished-refusal now row (answer.ImageBad rule place) fin ran_is = absurd fin
finished-refusal now row (answer.EventsBad line) fin ran_is = absurd fin
finished-refusal now row (answer.TextBad line rule) fin ran_is = absurd fin
finished-refusal now row (answer.Stuck cause ran) fin ran_is = absurd fin
finished-refusal now row (answer.CoreFull ran need) fin ran_is = absurd fin
finished-refusal now row (answer.NamesSpent ran) fin ran_is = absurd fin
finished-refusal now row (answer.WorkFull live room) fin ran_is = absurd fin
finished-refusal now row (answer.ReadFault role count) fin ran_is = absurd fin
finished-refusal now row (answer.WorkFault count) fin ran_is = absurd fin
finished-refusal now row (answer.WriteFault role count) fin ran_is = absurd fin
finished-refusal now row answer.OutOfMemory fin ran_is = absurd fin
finished-refusal now row (answer.Damaged place name) fin ran_is = absurd fin
finished-refusal now row (answer.VaultFault count) fin ran_is = absurd fin
finished-refusal now row answer.NoCheckpoint fin ran_is = absurd fin
finished-refusal now row (answer.VaultBad place) fin ran_is = absurd fin
