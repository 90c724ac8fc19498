-- A leg over a host and a disk: what its memory leaves when it is wound up, and why the run ended.
use Rattle.std.proofs.Common.{◌≡◌, ◌⊎◌, ℕ, ◌+◌, ◌≤◌, Bool, true, false, List, ◌++◌, Ok, IsTrue, inl, inr, refl, sym, ◌∙◌, ap, subst, arith}
use Rattle.long_names.specs.Heap.{Heap}
use Rattle.long_names.specs.Kept.{kept, no_roots}
use Rattle.long_names.specs.Thin.{IsThinner}
use Rattle.loom_host.specs.Outside.{RoleState, holds}
use Rattle.loom_host.specs.declared.outside.Host.{Ghosts}
use Rattle.loom_host.specs.declared.outside.Role.{Role}
use Rattle.loom_host.specs.declared.outside.Role.TheVariants.{Work, Transcript}
use Rattle.disk_objects.specs.declared.rest.DiskRest.{DiskRest}
use Rattle.disk_objects.specs.Disk.{disk_room}
use Rattle.image_reader.specs.declared.loading.Loaded.{Loaded}
use Rattle.image_reader.specs.Loaded.{heap_on}
use Rattle.image_memory.specs.Image.{BeginsWith, HasImage}
use Rattle.image_format.specs.declared.opening.State.{State as Words}
use Rattle.image_format.specs.Valid.{IsImageHeap}
use Rattle.object_memory.specs.Told.{Told, IsReady}
use Rattle.blue_model.specs.declared.cpu.Cpu.{Cpu}
use Rattle.blue_model.specs.declared.event.Line.{Line}
use Rattle.blue_model.specs.declared.step.Step.{Step}
use Rattle.blue_model.specs.Cycle.{Ending, Parked, Stuck}
use Rattle.blue_model.specs.Earlier.{course_with_earlier, ending_with_earlier, with_earlier, at_rest_after}
use Rattle.blue_model.specs.Endings.{IsParked, IsParkedBy, OnParked}
use Rattle.blue_model.specs.Guarded.{Guarded, guarded_on}
use Rattle.blue_model.specs.Loaded.{loaded}
use Rattle.blue_model.specs.Logs.{Course}
use Rattle.blue_model.specs.Machine.{Machine}
use Rattle.blue_model.specs.State.{State, begin, state_of}
use Rattle.blue_model.proofs.StartLaws.{begin_leaves}
use Rattle.machine_run.specs.States.{HasLongNames, model_state, state_held, state_left}
use Rattle.machine_run.specs.declared.running.Finished.{Finished}
use Rattle.machine_run.proofs.StateLaws.{left_held}
use Rattle.guarded_run.specs.Course.{course_on, said_at, serial_at}
use Rattle.guarded_run.specs.Legs.{HasWhole, IsToKeep, guarded_first}
use Rattle.guarded_run.proofs.CourseLaws.{on_none, said_begun, said_kept}
use Rattle.guarded_run.proofs.LegLaws.{parked_same}
use Rattle.guarded_run.proofs.SerialLaws.{serial_to_keep}
use Rattle.guarded_run.proofs.WholeLaws.{kept_at_end, kept_stands}
use Rattle.loom_memory.specs.declared.memory.LoomMemory.{LoomMemory}
use Rattle.loom_memory.specs.Memory.{loom_now, loom_rest, loom_told, IsSound}
use Rattle.loom_words.specs.Words.{Row}
use Rattle.loom_words.specs.declared.status.Status.{Status}
use Rattle.loom_words.specs.declared.status.Status.TheVariants as answer
use Rattle.loom_run.specs.Meanings.{Meanings, LeavesBut, meanings}
use Rattle.loom_run.specs.Stages.{Stage, Running, Finishing, EndsFinishing, EndsRunning}
use Rattle.loom_run.specs.Steps.{HasBounds, IsRefusal, IsSameFile, WasStopped, WentThrough}
use Rattle.loom_run.proofs.EndsLaws.{cause-since}
use Rattle.loom_run.proofs.MachineLaws.{small-row}
use Rattle.loom_run.proofs.MemoryLaws.{long-kept, saves-of, text-of}
use Rattle.loom_run.proofs.RunLaws.{image-begins}
use Rattle.loom_run.proofs.SavedLaws.{image-left, images-left}
use Rattle.loom_run.proofs.UsesLaws.{left-then}
use Rattle.loom_guard.specs.declared.legs.Leg.{Leg}
use Rattle.loom_guard.specs.declared.legs.Leg.TheVariants as leg
use Rattle.loom_guard.specs.Moments.{StopsAt}
use Rattle.loom_guard.proofs.MomentLaws.{serial-first-leg, serial-later-leg}
use Rattle.loom_guard.specs.Checkpoints.{HasDoneKeep}
use Rattle.loom_guard.specs.Legs.{FromDisk, FromMemory, Halts, HaltsAt, HasTick, IsToGoOn, IsUnderWay, LegComes, LegLeaves, SetsOut, told_since}

-- ---- frames

pub leaves-then : (roles : List Role) (a b c : Meanings) → LeavesBut roles a b → LeavesBut roles b c → LeavesBut roles a c
leaves-then roles a b c p q = record {
  others = λ role none. left-then role a b c (p.others role none) (q.others role none);
  writes = λ none. q.writes none ∙ p.writes none;
  later = λ role. let first = p.later role in let then = q.later role in omega (arith, first, then);
}

pub file-then : (a b c : RoleState) → IsSameFile a b → IsSameFile b c → IsSameFile a c
file-then a b c p q = q ∙ ap (holds c.contents) p

-- a refusal of a later step is one since an earlier moment
pub refused-since : (tells : Role → Bool) (a b c : Meanings) (row : Row) (stage : Stage) (status : Status) → ((role : Role) → a.faults role ≤ b.faults role) → IsRefusal tells b c row stage status → IsRefusal tells a c row stage status
refused-since tells a b c row stage status later r = record {
  answer = r.answer;
  of_run = r.of_run;
  ran = r.ran;
  cause = cause-since status a.faults b.faults c.faults later r.cause;
  whole = r.whole;
  limits = r.limits;
}

-- ---- what was said before

earlier-parked : (z : List ℕ) (P : Machine → Type 0) (e : Ending) → OnParked e (λ m. P (with_earlier z m)) → OnParked (ending_with_earlier z e) P
earlier-parked z P (Parked end m drawn) h = h
earlier-parked z P (Stuck why ran said) h = h

parked-since : (z : List ℕ) (P : Machine → Type 0) (e : Ending) → OnParked (ending_with_earlier z e) P → OnParked e (λ m. P (with_earlier z m))
parked-since z P (Parked end m drawn) h = h
parked-since z P (Stuck why ran said) h = h

-- by a machine that is to be kept the run has said what that machine has
pub said-to-keep : (events : List Line) (steps : ℕ) (g : Guarded) (serial : ℕ) (t : Told) (cpu : Cpu) (parked : Machine) → IsToKeep events g serial t cpu parked → (course_on events steps g).said cpu.ran ≡ parked.transcript
said-to-keep events steps g serial t cpu parked k = ap said_at k.is ∙ said_kept serial k.machine (loaded k.machine) ∙ sym (parked_same k.machine parked k.rows k.parks).transcript

pub done-to-keep : (events : List Line) (g : Guarded) (serial : ℕ) (t : Told) (cpu : Cpu) (parked : Machine) → IsToKeep events g serial t cpu parked → HasDoneKeep events g cpu.ran
done-to-keep events g serial t cpu parked k = record { earlier = k.earlier; ran_is = k.ran; before = k.before; last = serial; rows = k.behind; was = k.was; machine = k.machine; log = k.log; did = k.did }

said-first : (events : List Line) (steps serial : ℕ) (said : List ℕ) (state : State) (h : Heap) → (course_on events steps (guarded_first serial said state h)).said 0 ≡ said
said-first events steps serial said state h =
    ap said_at (on_none events (guarded_first serial said state h)) ∙ said_begun serial (at_rest_after said h) (begin state (at_rest_after said h)) (λ m log f. (begin_leaves state (at_rest_after said h) m log f).1)

module _ (tells : Role → Bool) (before : Meanings) (row : Row) (first : Bool) (events : List Line) (serial : ℕ) (cpu : Cpu) (said : List ℕ) (state : State) (h : Heap) (g : Guarded) (c : Course) (few : cpu.ran ≤ row.steps) where
  -- where a leg sets out after so many bytecodes, and there is no memory for it
  wanting : (now : Meanings) (ran : ℕ) → ran ≤ row.steps → (ran ≡ 0) ⊎ HasDoneKeep events g ran → (IsTrue (tells Transcript) → (course_on events row.steps g).said ran ≡ said) → serial_at (guarded_on events ran g) ≡ serial → (now.roles Transcript).put ≡ said
      → course_on events row.steps g ≡ course_with_earlier (before.roles Transcript).put c → HaltsAt Running tells before now row events g serial answer.OutOfMemory c
  wanting now ran low at was kept is same =
      let says : IsTrue (tells Transcript) → (now.roles Transcript).put ≡ (before.roles Transcript).put ++ c.said ran = λ speaks. is ∙ sym (was speaks) ∙ ap (λ (d : Course). d.said ran) same in
      (inr (record { status_is = refl; ran = ran; few = low; at = at; says = says }), (ran, inl (record { few = low; said = says; kept = kept })))

  wants-going : (now : Meanings) (b : Bool) → SetsOut b events g serial cpu (tells Transcript) said row.core state h → (now.roles Transcript).put ≡ said → course_on events row.steps g ≡ course_with_earlier (before.roles Transcript).put c → HaltsAt Running tells before now row events g serial answer.OutOfMemory c
  wants-going now true out is same = wanting now 0 (omega arith) (inl refl) (λ speaks. subst (λ (x : Guarded). (course_on events row.steps x).said 0 ≡ said) (sym out) (said-first events row.steps serial said state h)) (serial-first-leg events serial said state h g 0 refl out) is same
  wants-going now false out is same =
      wanting now cpu.ran few (inr (done-to-keep events g out.last out.before cpu out.parked out.keep)) (λ speaks. said-to-keep events row.steps g out.last out.before cpu out.parked out.keep ∙ sym (out.said_is speaks))
      (serial-later-leg events g serial cpu (tells Transcript) said row.core state h cpu.ran refl out) is same

  pub wants-under-way : (now : Meanings) → (now.roles Transcript).put ≡ said → IsUnderWay tells before row first events serial cpu said state h g c → HaltsAt Running tells before now row events g serial answer.OutOfMemory c
  wants-under-way now is x = wants-going now first x.sets_out is x.course_is

-- ---- what is kept and saved

-- what is kept leaves the state that the model has
words-left : (left : Heap) (held : Words) (m : Machine) → kept left no_roots ≡ kept m.heap no_roots → HasLongNames (kept left no_roots) → model_state held ≡ state_held m.regs m.cpu → state_left (kept left no_roots) (model_state held) ≡ state_of m
words-left left held m same long state =
    subst (λ (k : Heap). HasLongNames k → state_left k (model_state held) ≡ state_of m) (sym same) (λ names.
    ap (state_left (kept m.heap no_roots)) state ∙ left_held (kept m.heap no_roots) m names) long

parked-of : (end : Step) (ran : ℕ) (e : Ending) → IsParkedBy end ran e → IsParked e
parked-of end ran (Parked last m drawn) h = tt
parked-of end ran (Stuck why count said) h = h

-- ---- the stage of a memory that couldn't be wound up

-- it is refused by a fault of Work alone, or as damaged
finishing-either : (P : Status → Type 0) → ((count : ℕ) → P (answer.WorkFault count)) → ((place name : ℕ) → P (answer.Damaged place name)) → (status : Status) → EndsFinishing status → P status
finishing-either P fault damaged (answer.WorkFault count) ends = fault count
finishing-either P fault damaged (answer.Damaged place name) ends = damaged place name
finishing-either P fault damaged (answer.Done ran) ends = absurd ends
finishing-either P fault damaged (answer.Quit ran) ends = absurd ends
finishing-either P fault damaged (answer.Made objects) ends = absurd ends
finishing-either P fault damaged (answer.Listed objects) ends = absurd ends
finishing-either P fault damaged (answer.Assembled objects) ends = absurd ends
finishing-either P fault damaged (answer.Usage word) ends = absurd ends
finishing-either P fault damaged (answer.ImageBad rule place) ends = absurd ends
finishing-either P fault damaged (answer.EventsBad line) ends = absurd ends
finishing-either P fault damaged (answer.TextBad line rule) ends = absurd ends
finishing-either P fault damaged (answer.Stuck cause ran) ends = absurd ends
finishing-either P fault damaged (answer.CoreFull ran need) ends = absurd ends
finishing-either P fault damaged (answer.NamesSpent ran) ends = absurd ends
finishing-either P fault damaged (answer.WorkFull live room) ends = absurd ends
finishing-either P fault damaged (answer.ReadFault role count) ends = absurd ends
finishing-either P fault damaged (answer.WriteFault role count) ends = absurd ends
finishing-either P fault damaged answer.OutOfMemory ends = absurd ends
finishing-either P fault damaged (answer.VaultFault count) ends = absurd ends
finishing-either P fault damaged answer.NoCheckpoint ends = absurd ends
finishing-either P fault damaged (answer.VaultBad place) ends = absurd ends

-- behind a machine that is to be kept it is while the run goes on
abbrev pub stage-of : Leg → Stage
stage-of (leg.Kept state) = Running
stage-of (leg.Ended finished) = Finishing

pub late-of : (x : Leg) → (stage-of x ≡ Running) ⊎ (stage-of x ≡ Finishing)
late-of (leg.Kept state) = inl refl
late-of (leg.Ended finished) = inr refl

pub refused-at : (x : Leg) (tells : Role → Bool) (old now : Meanings) (row : Row) (status : Status) → IsRefusal tells old now row Finishing status → IsRefusal tells old now row (stage-of x) status
refused-at (leg.Kept state) tells old now row status r = record {
  answer = finishing-either (λ status. EndsRunning status) (λ count. tt) (λ place name. tt) status r.answer;
  of_run = r.of_run;
  ran = r.ran;
  cause = r.cause;
  whole = r.whole;
  limits = r.limits;
}
refused-at (leg.Ended finished) tells old now row status r = r

-- ---- a memory that was wound up

pub room-of : {H : Type 0} (host : Ghosts H) (m : LoomMemory H host) (row : Row) → HasBounds row (loom_told host m) → row.room ≡ disk_room (loom_rest m)
unfolding loom_told
room-of host m row bounds = sym bounds.2

pub stopped-at : {H : Type 0} (host : Ghosts H) (n : LoomMemory H host) (row : Row) (before : Meanings) (events : List Line) (g : Guarded) (serial : ℕ) (c : Course) (status : Status) → WasStopped (told_since (before.roles Transcript).put (loom_told host n)) (loom_told host n) row status c
    → StopsAt (host.tells Transcript) row.steps events g c (before.roles Transcript).put (loom_told host n).transcript serial status → HaltsAt Running host.tells before (meanings host (loom_now n)) row events g serial status c
unfolding loom_told
stopped-at host n row before events g serial c status was moment = (inl (record { stops = was.stops; says = was.says }), moment)

module _ {H : Type 0} (host : Ghosts H) (n : LoomMemory H host) (row : Row) (before : Meanings) (events : List Line) (g : Guarded) (serial : ℕ) (now : Cpu) (c : Course)
    (work : IsTrue (host.tells Work)) (whole : HasWhole g) (same : course_on events row.steps g ≡ course_with_earlier (before.roles Transcript).put c) where
  abbrev t : Told
  t = loom_told host n

  kept-ending : (finished : Finished) → WentThrough (told_since (before.roles Transcript).put t) t row finished c → IsReady t → OnParked c.ending (λ m. kept t.heap no_roots ≡ kept m.heap no_roots)
  unfolding loom_told
  kept-ending finished went ready =
      parked-since (before.roles Transcript).put (λ m. kept t.heap no_roots ≡ kept m.heap no_roots) c.ending
      (subst (λ (d : Course). OnParked d.ending (λ m. kept t.heap no_roots ≡ kept m.heap no_roots)) same
      (kept_at_end events row.steps g t whole (subst (λ (d : Course). OnParked d.ending (λ m. IsThinner m.heap t.heap)) (sym same) (earlier-parked (before.roles Transcript).put (λ m. IsThinner m.heap t.heap) c.ending went.heap)) ready work))

  -- the host at a later moment, when no more was said
  module _ (k : LoomMemory H host) (silent : (loom_told host k).transcript ≡ (loom_told host n).transcript) where
    -- what the leg's answer says of the run, when the memory is wound up
    pub leg-leaves : (x : Leg) → HasTick x → LegComes events g serial t now row (Ok x) (before.roles Transcript).put c → IsReady t → IsSound host n → HasBounds row t → IsImageHeap (kept t.heap no_roots)
        → LegLeaves host.tells before (meanings host (loom_now k)) row events g serial now x t.heap c
    unfolding loom_told
    leg-leaves (leg.Kept state) tick on ready sound bounds image =
        let kept = kept_stands events g serial t now on.parked whole on.keep ready work in record {
          told = t;
          parked = on.parked;
          keep = on.keep;
          heap = kept;
          state_is = on.state_is;
          kept_state = words-left t.heap state on.parked kept (long-kept host n work sound) on.state_is;
          saves = text-of t.heap state on.parked kept (long-kept host n work sound) on.state_is;
          image = image-left t.heap state on.parked kept image on.state_is tick;
          said_is = λ speaks. silent ∙ on.keep.stands.transcript speaks;
          fits = small-row row (λ words. on.parked.largest ≤ words) t.bounds bounds on.keep.stands.fits;
        }
    leg-leaves (leg.Ended finished) tick came ready sound bounds image =
        let went = came.0 in
        let kept = kept-ending finished went ready in (
          record {
            parked = went.parked;
            drawn = went.drawn;
            saves = saves-of c.ending t.heap finished.state kept (long-kept host n work sound) went.state;
            image = images-left c.ending t.heap finished.state kept image went.state tick;
            said = λ speaks. silent ∙ went.said speaks;
            fits = went.fits;
          },
          came.1,
        )

    -- and why the run ended, where it couldn't be
    stopped-keeping : (state : Words) (status : Status) → IsToGoOn events g serial t now state → now.ran ≤ row.steps → IsRefusal host.tells (meanings host (loom_now n)) (meanings host (loom_now k)) row Finishing status
        → HaltsAt Running host.tells before (meanings host (loom_now k)) row events g serial status c
    unfolding loom_told
    stopped-keeping state status on few refused =
        finishing-either (λ status. HaltsAt Running host.tells before (meanings host (loom_now k)) row events g serial status c)
        (λ count. (inl (record { stops = tt; says = λ speaks. (now.ran, few, at speaks) }), (now.ran, inr (record { few = few; said = at; done = done; next = next }))))
        (λ place name. (inl (record { stops = tt; says = λ speaks. (now.ran, few, at speaks) }), (now.ran, inr (record { few = few; said = at; done = done; next = next }))))
        status refused.answer
      where
        done : HasDoneKeep events g now.ran
        done = done-to-keep events g serial t now on.parked on.keep

        next : serial_at (guarded_on events now.ran g) ≡ serial + 1
        next = serial_to_keep events g serial t now on.parked on.keep

        at : IsTrue (host.tells Transcript) → (host.roles (loom_now k) Transcript).put ≡ (before.roles Transcript).put ++ c.said now.ran
        at speaks = silent ∙ on.keep.stands.transcript speaks ∙ sym (said-to-keep events row.steps g serial t now on.parked on.keep) ∙ ap (λ (d : Course). d.said now.ran) same

    -- the stage at which it ended, by the leg
    pub unwound : (x : Leg) (status : Status) → LegComes events g serial t now row (Ok x) (before.roles Transcript).put c → now.ran ≤ row.steps → IsRefusal host.tells (meanings host (loom_now n)) (meanings host (loom_now k)) row Finishing status
        → HaltsAt (stage-of x) host.tells before (meanings host (loom_now k)) row events g serial status c
    unfolding loom_told
    unwound (leg.Kept state) status on few refused = stopped-keeping state status on few refused
    unwound (leg.Ended finished) status came few refused = let went = came.0 in (record { parked = parked-of finished.end finished.ran c.ending went.parked; fits = went.fits; said = λ speaks. silent ∙ went.said speaks }, came.1)

-- ---- over a host and a disk

-- no memory was found for a leg: nothing was done
pub no-memory : (tells : Role → Bool) (now : Meanings) (row : Row) (first : Bool) (events : List Line) (serial : ℕ) (cpu : Cpu) (state : Words) (h : Heap) → cpu.ran ≤ row.steps
    → Halts tells now now row events (FromDisk tells row first events serial cpu (now.roles Transcript).put state h) serial answer.OutOfMemory
no-memory tells now row first events serial cpu state h few = record {
  stage = Running;
  late = inl refl;
  refusal = record { answer = tt; of_run = tt; ran = tt; cause = tt; whole = λ work damaged. damaged; limits = tt };
  of_run = λ before g c from. wants-under-way tells before row first events serial cpu (now.roles Transcript).put (model_state state) h g c few now refl from.1;
}

-- a memory begins where a leg sets out over a disk
pub from-memory : {H : Type 0} (host : Ghosts H) (old now : H) (rest again : DiskRest) (x : Loaded) (row : Row) (first : Bool) (events : List Line) (serial : ℕ) (cpu : Cpu) (t : Told) → now ≡ old → again ≡ rest → HasImage host old rest x
    → (IsTrue (host.tells Work) → BeginsWith (heap_on host now again x.next) t) → t.transcript ≡ (host.roles now Transcript).put → (before : Meanings) (g : Guarded) (c : Course)
    → FromDisk host.tells row first events serial cpu (host.roles old Transcript).put x.state (heap_on host old rest x.next) before g c → FromMemory host.tells row first events serial cpu t x.state before g c
from-memory {H} host old now rest again x row first events serial cpu t same still image begins said before g c from = (
  heap_on host now again x.next,
  from.0,
  image-begins host old now rest again x same still image t from.0 (begins from.0),
  subst (λ s. IsUnderWay host.tells before row first events serial cpu s (model_state x.state) (heap_on host now again x.next) g c) (sym said)
      (subst (λ (r : DiskRest). IsUnderWay host.tells before row first events serial cpu (host.roles now Transcript).put (model_state x.state) (heap_on host now r x.next) g c) (sym still)
      (subst (λ (h : H). IsUnderWay host.tells before row first events serial cpu (host.roles h Transcript).put (model_state x.state) (heap_on host h rest x.next) g c) (sym same) from.1)),
)

pub halts-from : (tells : Role → Bool) (old now : Meanings) (row : Row) (lines : List Line) (P Q : Meanings → Guarded → Course → Type 0) (serial : ℕ) (status : Status) → ((before : Meanings) (g : Guarded) (c : Course) → Q before g c → P before g c) → Halts tells old now row lines P serial status → Halts tells old now row lines Q serial status
halts-from tells old now row lines P Q serial status gives x = record { stage = x.stage; late = x.late; refusal = x.refusal; of_run = λ before g c from. x.of_run before g c (gives before g c from) }
