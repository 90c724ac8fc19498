-- A trace ends at a stage: what its steps said, put together.
use Rattle.std.proofs.Common.{◌≡◌, ◌≢◌, ◌⊎◌, ℕ, ◌≤◌, Bool, true, false, Result, Ok, Err, IsErr, OnOk, OnErr, List, [], length, IsTrue, refl, sym, ◌∙◌, ap, subst, arith, inl, inr}
use Rattle.long_names.specs.Counting.{Rose}
use Rattle.long_names.specs.Heap.{Heap}
use Rattle.image_format.specs.declared.opening.State.{State as Words}
use Rattle.loom_host.specs.Outside.{RoleState, SameBut, ends}
use Rattle.loom_host.specs.declared.outside.Role.{Role}
use Rattle.loom_host.specs.declared.outside.Role.TheVariants.{Image, Events, Work, Saved, Display, Transcript, Notes}
use Rattle.blue_model.specs.declared.event.Line.{Line}
use Rattle.blue_model.specs.Machine.{Outcome}
use Rattle.machine_run.specs.States.{model_state}
use Rattle.loom_run.specs.Ends.{AreEvents, AttachedOnce, IsCaused, IsImageOf, ReadsAt, WasRefused, WasWritten, bytes_of}
use Rattle.loom_run.specs.Following.{EndsFollowed, Followed, IsTraceRefusal, TraceEnds, UsesTrace, WrittenSo, is_cut, is_through}
use Rattle.loom_run.specs.Meanings.{LeavesBut, Meanings, IsLeft}
use Rattle.loom_run.specs.Stages.{Stage, Opening, Reading, Listening, Making, Running, Saving, Telling, Ends, EndsTelling, reaches, roles_at}
use Rattle.loom_run.specs.Steps.{Came, HasHeard, HasRead, IsRefusal, IsOfRun, IsRefusalAt, IsUnsaved, ReadEnds, Uses}
use Rattle.loom_run.specs.Traced.{AreWhole, CutsTraced, EndsFollowing, EndsTrace, HasLines, IsUnmade, TraceOf, TracesTo, SaysTraced, started}
use Rattle.loom_run.proofs.EndsLaws.{cause-since, early-stage, heard-left, read-left}
use Rattle.loom_run.proofs.JudgedLaws.{reads-later}
use Rattle.loom_run.proofs.TracedUses.{traced-listening, traced-making, traced-opening, traced-reading, traced-ended, traced-telling}
use Rattle.loom_run.specs.Parts.{IsFinished}
use Rattle.loom_run.proofs.Frames.{is-role}
use Rattle.loom_run.proofs.StepLaws.{begun-whole}
use Rattle.blue_model.specs.Logs.{Course, course}
use Rattle.loom_run.proofs.UsesLaws.{never}
use Rattle.loom_words.specs.Words.{Row}
use Rattle.loom_words.specs.declared.status.Status.{Status}
use Rattle.loom_words.specs.declared.status.Status.TheVariants as answer

-- a step of a run was refused
as-run : {tells : Role → Bool} {before now : Meanings} (row : Row) (stage : Stage) (status : Status) → IsRefusal tells before now row stage status → IsTraceRefusal tells before now row (Ends stage) status
as-run row stage status r = record { answer = r.answer; of_run = r.of_run; ran = r.ran; cause = r.cause; whole = r.whole; limits = r.limits }

module _ (tells : Role → Bool) (before : Meanings) (row : Row) where
  pub trace-ends-with : (mid now : Meanings) (stage : Stage) (status : Status) → ((role : Role) → before.faults role ≤ mid.faults role) → UsesTrace tells before now row stage → IsTraceRefusal tells mid now row (EndsTrace stage) status → ReadsAt tells now row stage status
      → (IsTrue (tells Saved) → stage ≡ Making → IsUnmade status row.saved (before.roles Saved) (now.roles Saved))
      → (IsTrue (tells Image) → IsTrue (tells Events) → IsTrue (tells Work) → IsTrue (reaches Running stage) → TraceOf (bytes_of (now.roles Image)) (bytes_of (now.roles Events)) (TracesTo tells before now row stage status)) → TraceEnds tells before now row status
  trace-ends-with mid now stage status since uses refused reads unmade trace = record {
    stage = stage;
    at = record {
      answer = refused.answer;
      answered = record { ran = refused.ran; cause = cause-since status before.faults mid.faults now.faults since refused.cause; whole = refused.whole; limits = refused.limits };
      attached = uses.attached;
      unused = uses.unused;
      reads = reads;
      unmade = unmade;
      trace = trace;
    };
    of_run = refused.of_run;
    untold = uses.untold;
    later = uses.later;
  }

  -- ---- as far as a run

  -- where something couldn't be read
  pub trace-early : (now : Meanings) (status : Status) → ReadEnds tells before now row status → TraceEnds tells before now row status
  trace-early now status end = trace-ends-with before now end.stage status (λ role. omega arith)
      (early-stage (λ stage. Uses tells before now row stage → UsesTrace tells before now row stage) end.stage end.early (traced-opening tells row before now) (traced-reading tells row before now) (traced-listening tells row before now) end.uses)
      (early-stage (λ stage. IsRefusal tells before now row stage status → IsTraceRefusal tells before now row (EndsTrace stage) status) end.stage end.early (as-run row Opening status) (as-run row Reading status) (as-run row Listening status) end.refusal)
      end.reads
      (λ saved at. absurd (early-stage (λ stage. stage ≢ Making) end.stage end.early (λ e. cc) (λ e. cc) (λ e. cc) at))
      (λ image events work came. absurd (early-stage (λ stage. IsTrue (reaches Running stage) → ⊥) end.stage end.early (λ no. never no) (λ no. never no) (λ no. never no) came))

  -- ---- Saved

  unsaved : {mid now : Meanings} (status : Status) → IsUnsaved status → IsRefusalAt tells mid now Saving status → IsTraceRefusal tells mid now row (EndsTrace Making) status
  unsaved (answer.WriteFault Saved count) is r = let x = r row in record { answer = tt; of_run = x.of_run; ran = x.ran; cause = x.cause; whole = x.whole; limits = x.limits }
  unsaved _ is r = absurd is

  unmade-by : (status : Status) (old mid new : RoleState) → IsUnsaved status → mid ≡ old → WasRefused row.saved mid new → IsUnmade status row.saved old new
  unmade-by (answer.WriteFault Saved count) old mid new is same h = subst (λ (s : RoleState). WasRefused row.saved s new) same h
  unmade-by _ old mid new is same h = absurd is

  module _ (mid : Meanings) (state : Words) (heap : Heap) (lines : List Line) (came : Came tells before mid row Listening state heap lines)
      (now : Meanings) (own : IsTrue (tells Saved) → AttachedOnce row.saved (mid.roles Saved) (now.roles Saved)) (file : now.roles Work ≡ mid.roles Work) (others : LeavesBut (roles_at Saving) mid now) where
    pub used-making : UsesTrace tells before now row Making
    used-making = traced-making tells row before mid now (traced-listening tells row before mid came.uses) own file others

    pub read-making : HasRead tells now row state heap
    read-making = read-left tells before row mid now state heap (others.others Image (λ e. cc, (λ e. cc, tt))).state came.read

    pub heard-making : HasHeard tells now row lines
    heard-making = heard-left tells before row mid now lines (others.others Events (λ e. cc, (λ e. cc, tt))).state came.heard

    -- where the memory isn't made
    ends-making : (from : Meanings) (status : Status) → ((role : Role) → before.faults role ≤ from.faults role) → IsTraceRefusal tells from now row (EndsTrace Making) status
        → (IsTrue (tells Saved) → IsUnmade status row.saved (before.roles Saved) (now.roles Saved)) → TraceEnds tells before now row status
    ends-making from status since refused unmade = trace-ends-with from now Making status since used-making refused
        (reads-later tells row now Making status state heap lines (λ e. cc) (λ e. cc) used-making.named read-making heard-making) (λ saved at. unmade saved) (λ image events work past. never past)

    -- it couldn't be attached
    pub trace-unsaved : (status : Status) → IsUnsaved status → IsRefusalAt tells mid now Saving status → (IsTrue (tells Saved) → WasRefused row.saved (mid.roles Saved) (now.roles Saved)) → TraceEnds tells before now row status
    trace-unsaved status is refused put = ends-making mid status came.uses.later (unsaved status is refused)
        (λ saved. unmade-by status (before.roles Saved) (mid.roles Saved) (now.roles Saved) is (came.uses.unused Saved refl).state (put saved))

    -- there was no memory for the tables
    pub trace-unmade : (IsTrue (tells Saved) → WasWritten row.saved [] (mid.roles Saved) (now.roles Saved)) → TraceEnds tells before now row answer.OutOfMemory
    trace-unmade put = ends-making now answer.OutOfMemory used-making.later record { answer = tt; of_run = tt; ran = tt; cause = tt; whole = λ work damaged. damaged; limits = tt }
        (λ saved. subst (λ (s : RoleState). WasWritten row.saved [] s (now.roles Saved)) (came.uses.unused Saved refl).state (put saved))

-- ---- the machine ran, and Saved is ended

-- a stop keeps its answer, whatever becomes of Saved's end
abbrev pub IsStop : Status → Type 0
IsStop (answer.Stuck cause ran) = Unit {0}
IsStop (answer.CoreFull ran need) = Unit {0}
IsStop (answer.NamesSpent ran) = Unit {0}
IsStop (answer.WorkFull live room) = Unit {0}
IsStop (answer.WorkFault count) = Unit {0}
IsStop (answer.WriteFault Transcript count) = Unit {0}
IsStop (answer.Damaged place name) = Unit {0}
IsStop _ = ⊥

stop-follows : (status : Status) → IsStop status → EndsFollowing status
stop-follows (answer.Stuck cause ran) h = tt
stop-follows (answer.CoreFull ran need) h = tt
stop-follows (answer.NamesSpent ran) h = tt
stop-follows (answer.WorkFull live room) h = tt
stop-follows (answer.WorkFault count) h = tt
stop-follows (answer.WriteFault Transcript count) h = tt
stop-follows (answer.Damaged place name) h = tt
stop-follows _ h = absurd h

-- its cause stays: nothing of another role's faults changes
stop-cause : (status : Status) (b m n : Role → ℕ) → IsStop status → SameBut Saved m n → IsCaused status b m → IsCaused status b n
stop-cause (answer.Stuck cause ran) b m n h same c = tt
stop-cause (answer.CoreFull ran need) b m n h same c = tt
stop-cause (answer.NamesSpent ran) b m n h same c = tt
stop-cause (answer.WorkFull live room) b m n h same c = tt
stop-cause (answer.WorkFault count) b m n h same c = (c.0 ∙ sym (same Work (λ e. cc)), subst (λ k. Rose (b Work) k) (sym (same Work (λ e. cc))) c.1)
stop-cause (answer.WriteFault Transcript count) b m n h same c = (c.0 ∙ sym (same Transcript (λ e. cc)), subst (λ k. Rose (b Transcript) k) (sym (same Transcript (λ e. cc))) c.1)
stop-cause (answer.Damaged place name) b m n h same c = tt
stop-cause _ b m n h same c = absurd h

stop-lines : (status : Status) (b n : ℕ) (text lines : List ℕ) (old put new : RoleState) → IsStop status → WrittenSo status text lines old put → (new ≡ ends put) ⊎ ((new ≡ put) × Rose b n) → HasLines status b n text lines old new
stop-lines (answer.Stuck cause ran) b n text lines old put new h w e = (put, w, e)
stop-lines (answer.CoreFull ran need) b n text lines old put new h w e = (put, w, e)
stop-lines (answer.NamesSpent ran) b n text lines old put new h w e = (put, w, e)
stop-lines (answer.WorkFull live room) b n text lines old put new h w e = (put, w, e)
stop-lines (answer.WorkFault count) b n text lines old put new h w e = (put, w, e)
stop-lines (answer.WriteFault Transcript count) b n text lines old put new h w e = (put, w, e)
stop-lines (answer.Damaged place name) b n text lines old put new h w e = (put, w, e)
stop-lines _ b n text lines old put new h w e = absurd h

-- it went through
abbrev pub IsThrough : Status → Type 0
IsThrough (answer.Done ran) = Unit {0}
IsThrough (answer.Quit ran) = Unit {0}
IsThrough _ = ⊥

through-ends : (status : Status) → IsThrough status → EndsTelling status
through-ends (answer.Done ran) h = tt
through-ends (answer.Quit ran) h = tt
through-ends _ h = absurd h

through-finished : (status : Status) → IsThrough status → IsFinished status
through-finished (answer.Done ran) h = tt
through-finished (answer.Quit ran) h = tt
through-finished _ h = absurd h

through-cause : (status : Status) (b n : Role → ℕ) → IsThrough status → IsCaused status b n
through-cause (answer.Done ran) b n h = tt
through-cause (answer.Quit ran) b n h = tt
through-cause _ b n h = absurd h

through-lines : (status : Status) (b n : ℕ) (text lines : List ℕ) (old put new : RoleState) → IsThrough status → WrittenSo status text lines old put → new ≡ ends put → HasLines status b n text lines old new
through-lines (answer.Done ran) b n text lines old put new h w e = (put, w, e)
through-lines (answer.Quit ran) b n text lines old put new h w e = (put, w, e)
through-lines _ b n text lines old put new h w e = absurd h

through-written : (status : Status) (text lines : List ℕ) (old put : RoleState) → IsThrough status → WrittenSo status text lines old put → WasWritten text lines old put
through-written (answer.Done ran) text lines old put h w = w
through-written (answer.Quit ran) text lines old put h w = w
through-written _ text lines old put h w = absurd h

through-says : (status : Status) (row : Row) (c : Course) (completed : ℕ) (old new : List ℕ) (count : ℕ) → IsThrough status → SaysTraced status row c completed old new → SaysTraced (answer.WriteFault Saved count) row c completed old new
through-says (answer.Done ran) row c completed old new count h s = s
through-says (answer.Quit ran) row c completed old new count h s = s
through-says _ row c completed old new count h s = absurd h

-- a line couldn't be put
abbrev pub IsCut : Status → Type 0
IsCut (answer.WriteFault Saved count) = Unit {0}
IsCut _ = ⊥

-- which of the three it is
pub cut-by : (status : Status) → is_cut status ≡ true → IsCut status
cut-by (answer.WriteFault Saved count) e = tt
cut-by _ e = absurd (cc)

pub through-by : (status : Status) → is_through status ≡ true → IsThrough status
through-by (answer.Done ran) e = tt
through-by (answer.Quit ran) e = tt
through-by _ e = absurd (cc)

pub stop-by : (status : Status) → is_cut status ≡ false → is_through status ≡ false → EndsFollowed status → IsStop status
stop-by (answer.Done ran) cut through h = absurd (cc)
stop-by (answer.Quit ran) cut through h = absurd (cc)
stop-by (answer.Stuck cause ran) cut through h = tt
stop-by (answer.CoreFull ran need) cut through h = tt
stop-by (answer.NamesSpent ran) cut through h = tt
stop-by (answer.WorkFull live room) cut through h = tt
stop-by (answer.WorkFault count) cut through h = tt
stop-by (answer.WriteFault Transcript count) cut through h = tt
stop-by (answer.WriteFault Saved count) cut through h = absurd (cc)
stop-by (answer.Damaged place name) cut through h = tt
stop-by _ cut through h = absurd h

-- what a call left, whatever it answered
pub left-by : {T E A B C : Type 0} (r : Result T E) → OnOk r A → OnErr r B → (IsErr r → C) → A ⊎ (B × C)
left-by (Ok x) whole still rose = inl whole
left-by (Err e) whole still rose = inr (still, rose refl)

cut-follows : (status : Status) → IsCut status → EndsFollowing status
cut-follows (answer.WriteFault Saved count) h = tt
cut-follows _ h = absurd h

cut-lines : (status : Status) (b n : ℕ) (text lines : List ℕ) (old new : RoleState) → IsCut status → WrittenSo status text lines old new → HasLines status b n text lines old new
cut-lines (answer.WriteFault Saved count) b n text lines old new h w = w
cut-lines _ b n text lines old new h w = absurd h

-- an answer that isn't about the last line cuts none
pub traced-uncut : (status : Status) (events : List Line) (steps completed : ℕ) (o : Outcome (Unit {0})) (old new : RoleState) → IsOfRun status → CutsTraced status events steps completed o old new
traced-uncut (answer.WriteFault Notes count) events steps completed o old new of_run = absurd (of_run refl)
traced-uncut (answer.Done ran) events steps completed o old new of_run = tt
traced-uncut (answer.Quit ran) events steps completed o old new of_run = tt
traced-uncut (answer.Made objects) events steps completed o old new of_run = tt
traced-uncut (answer.Listed objects) events steps completed o old new of_run = tt
traced-uncut (answer.Assembled objects) events steps completed o old new of_run = tt
traced-uncut (answer.Usage word) events steps completed o old new of_run = tt
traced-uncut (answer.ImageBad rule place) events steps completed o old new of_run = tt
traced-uncut (answer.EventsBad line) events steps completed o old new of_run = tt
traced-uncut (answer.TextBad line rule) events steps completed o old new of_run = tt
traced-uncut (answer.Stuck cause ran) events steps completed o old new of_run = tt
traced-uncut (answer.CoreFull ran need) events steps completed o old new of_run = tt
traced-uncut (answer.NamesSpent ran) events steps completed o old new of_run = tt
traced-uncut (answer.WorkFull live room) events steps completed o old new of_run = tt
traced-uncut (answer.ReadFault role count) events steps completed o old new of_run = tt
traced-uncut (answer.WorkFault count) events steps completed o old new of_run = tt
traced-uncut (answer.WriteFault Image count) events steps completed o old new of_run = tt
traced-uncut (answer.WriteFault Events count) events steps completed o old new of_run = tt
traced-uncut (answer.WriteFault Work count) events steps completed o old new of_run = tt
traced-uncut (answer.WriteFault Saved count) events steps completed o old new of_run = tt
traced-uncut (answer.WriteFault Display count) events steps completed o old new of_run = tt
traced-uncut (answer.WriteFault Transcript count) events steps completed o old new of_run = tt
traced-uncut (answer.Damaged place name) events steps completed o old new of_run = tt
traced-uncut answer.OutOfMemory events steps completed o old new of_run = tt
traced-uncut (answer.VaultFault count) events steps completed o old new of_run = tt
traced-uncut answer.NoCheckpoint events steps completed o old new of_run = tt
traced-uncut (answer.VaultBad place) events steps completed o old new of_run = tt

module _ (tells : Role → Bool) (before : Meanings) (row : Row) (mid : Meanings) (status : Status) (events : List Line) (words : Words) (heap : Heap) (f : Followed tells before mid row status events words heap) where
  run-of : (now : Meanings) (stage : Stage) (last : Status) → now.roles Image ≡ mid.roles Image → now.roles Events ≡ mid.roles Events → (IsTrue (tells Work) → TracesTo tells before now row stage last events (model_state words) heap)
      → IsTrue (tells Image) → IsTrue (tells Events) → IsTrue (tells Work) → TraceOf (bytes_of (now.roles Image)) (bytes_of (now.roles Events)) (TracesTo tells before now row stage last)
  run-of now stage last image_same events_same to image listened work =
      let read = (f.read image).1 work in
      record {
        head = read.head;
        heap = heap;
        is = subst (λ (s : RoleState). IsImageOf (bytes_of s) read.head heap) (sym image_same) read.image;
        lines = events;
        list = subst (λ (s : RoleState). AreEvents (bytes_of s) events) (sym events_same) (f.heard listened).1;
        trace = subst (λ (s : Words). TracesTo tells before now row stage last events (model_state s) heap) (sym read.state_is) (to work);
      }

  trace-later : (from now : Meanings) (stage : Stage) (last : Status) → stage ≢ Reading → stage ≢ Listening → stage ≢ Making → now.roles Image ≡ mid.roles Image → now.roles Events ≡ mid.roles Events
      → ((role : Role) → before.faults role ≤ from.faults role) → UsesTrace tells before now row stage → IsTraceRefusal tells from now row (EndsTrace stage) last
      → (IsTrue (tells Work) → TracesTo tells before now row stage last events (model_state words) heap) → TraceEnds tells before now row last
  trace-later from now stage last unread unheard unmade image_same events_same since uses refused to = trace-ends-with tells before row from now stage last since uses refused
      (reads-later tells row now stage last words heap events unread unheard uses.named (read-left tells before row mid now words heap image_same f.read) (heard-left tells before row mid now events events_same f.heard))
      (λ saved at. absurd (unmade at)) (λ image listened work past. run-of now stage last image_same events_same to image listened work)

  -- what an end of Saved leaves
  module _ (now : Meanings) (roles : SameBut Saved mid.roles now.roles) (faults : SameBut Saved mid.faults now.faults) (later : mid.faults Saved ≤ now.faults Saved) where
    still : (role : Role) → role ≢ Saved → IsLeft role mid now
    still role other = record { state = roles role other; faults = faults role other }

    later-all : (role : Role) → mid.faults role ≤ now.faults role
    later-all role = elim (is-role role Saved) [
      | inl e ↦ subst (λ (r : Role). mid.faults r ≤ now.faults r) (sym e) later
      | inr other ↦ (let same = faults role other in omega (arith, same))
    ]

    abbrev SavedIs : Type 0
    SavedIs = (now.roles Saved ≡ ends (mid.roles Saved)) ⊎ ((now.roles Saved ≡ mid.roles Saved) × Rose (mid.faults Saved) (now.faults Saved))

    own-now : SavedIs → IsTrue (tells Saved) → AttachedOnce row.saved (before.roles Saved) (now.roles Saved)
    own-now (inl e) told = let own = f.uses.attached Saved told refl in subst (AttachedOnce row.saved (before.roles Saved)) (sym e) record { attaches = own.attaches; name = own.name }
    own-now (inr e) told = subst (AttachedOnce row.saved (before.roles Saved)) (sym e.0) (f.uses.attached Saved told refl)

    uses-now : now.writes ≡ mid.writes → (IsTrue (tells Saved) → SavedIs) → UsesTrace tells before now row Running
    uses-now writes is = traced-ended tells row before mid now f.uses (λ told. own-now (is told) told) record { others = λ role none. still role none.0; writes = λ none. writes; later = later-all }

    same-put : SavedIs → (mid.roles Saved).put ≡ (now.roles Saved).put
    same-put (inl e) = sym (ap (λ (s : RoleState). s.put) e)
    same-put (inr e) = sym (ap (λ (s : RoleState). s.put) e.0)

    whole-now : (completed : ℕ) → (IsTrue (tells Saved) → AreWhole events completed (started (model_state words) heap) 0 (length (mid.roles Saved).put)) → (IsTrue (tells Saved) → SavedIs) → IsTrue (tells Saved) → AreWhole events completed (started (model_state words) heap) 0 (length (now.roles Saved).put)
    whole-now completed whole is told = subst (λ (bytes : List ℕ). AreWhole events completed (started (model_state words) heap) 0 (length bytes)) (same-put (is told)) (whole told)

    -- from the beginning of the trace on
    ended-since : SavedIs → (now.roles Saved ≡ ends (mid.roles Saved)) ⊎ ((now.roles Saved ≡ mid.roles Saved) × Rose (before.faults Saved) (now.faults Saved))
    ended-since (inl e) = inl e
    ended-since (inr e) = inr (e.0, (let first = f.uses.later Saved in let rose = e.1 in omega (arith, first, rose)))

    says-now : (last : Status) (completed : ℕ) → (IsTrue (tells Transcript) → SaysTraced last row (course events row.steps (model_state words) heap) completed (before.roles Transcript).put (mid.roles Transcript).put)
        → IsTrue (tells Transcript) → SaysTraced last row (course events row.steps (model_state words) heap) completed (before.roles Transcript).put (now.roles Transcript).put
    says-now last completed says told = subst (λ (s : RoleState). SaysTraced last row (course events row.steps (model_state words) heap) completed (before.roles Transcript).put s.put) (sym (roles Transcript (λ e. cc))) (says told)

    -- behind a stop
    pub trace-stopped : now.writes ≡ mid.writes → IsStop status → (IsTrue (tells Saved) → SavedIs) → TraceEnds tells before now row status
    trace-stopped writes is saved = trace-later before now Running status (λ e. cc) (λ e. cc) (λ e. cc) (roles Image (λ e. cc)) (roles Events (λ e. cc)) (λ role. omega arith) (uses-now writes saved)
        record { answer = stop-follows status is; of_run = f.refusal.of_run; ran = f.refusal.ran; cause = stop-cause status before.faults mid.faults now.faults is faults f.refusal.cause; whole = f.refusal.whole; limits = f.refusal.limits }
        (λ work.
        let x = f.follows work in
        record {
          completed = x.completed;
          few = x.few;
          counts = x.counts;
          stops = λ at. x.stops (stop-follows status is);
          within = x.within;
          goes = λ past. never past;
          says = says-now status x.completed x.says;
          lines = λ told. stop-lines status (before.faults Saved) (now.faults Saved) row.saved _ (before.roles Saved) (mid.roles Saved) (now.roles Saved) is (x.lines told) (ended-since (saved told));
          whole = whole-now x.completed x.whole saved;
          cuts = λ told. traced-uncut status events row.steps x.completed _ _ _ f.refusal.of_run;
        })

    -- it went through, and Saved is ended
    pub trace-through : now.writes ≡ mid.writes → IsThrough status → (IsTrue (tells Saved) → now.roles Saved ≡ ends (mid.roles Saved)) → TraceEnds tells before now row status
    trace-through writes is ended = trace-later before now Telling status (λ e. cc) (λ e. cc) (λ e. cc) (roles Image (λ e. cc)) (roles Events (λ e. cc)) (λ role. omega arith) (traced-telling tells row before now (uses-now writes (λ told. inl (ended told))))
        record { answer = through-ends status is; of_run = f.refusal.of_run; ran = f.refusal.ran; cause = through-cause status before.faults now.faults is; whole = f.refusal.whole; limits = f.refusal.limits }
        (λ work.
        let x = f.follows work in
        record {
          completed = x.completed;
          few = x.few;
          counts = x.counts;
          stops = λ at. absurd (cc);
          within = x.within;
          goes = λ past. x.goes (through-finished status is);
          says = says-now status x.completed x.says;
          lines = λ told. through-lines status (before.faults Saved) (now.faults Saved) row.saved _ (before.roles Saved) (mid.roles Saved) (now.roles Saved) is (x.lines told) (ended told);
          whole = whole-now x.completed x.whole (λ told. inl (ended told));
          cuts = λ told. traced-uncut status events row.steps x.completed _ _ _ f.refusal.of_run;
        })

    -- or couldn't be
    pub trace-unended : (count : ℕ) → now.writes ≡ mid.writes → IsThrough status → (count ≡ now.faults Saved) × Rose (mid.faults Saved) (now.faults Saved) → (IsTrue (tells Saved) → now.roles Saved ≡ mid.roles Saved) → TraceEnds tells before now row (answer.WriteFault Saved count)
    trace-unended count writes is rose same = trace-later mid now Running (answer.WriteFault Saved count) (λ e. cc) (λ e. cc) (λ e. cc) (roles Image (λ e. cc)) (roles Events (λ e. cc)) f.uses.later (uses-now writes (λ told. inr (same told, rose.1)))
        record { answer = tt; of_run = λ e. cc; ran = tt; cause = rose; whole = λ work damaged. damaged; limits = tt }
        (λ work.
        let x = f.follows work in
        record {
          completed = x.completed;
          few = x.few;
          counts = tt;
          stops = λ at. tt;
          within = tt;
          goes = λ past. never past;
          says = says-now (answer.WriteFault Saved count) x.completed (λ told. through-says status row (course events row.steps (model_state words) heap) x.completed (before.roles Transcript).put (mid.roles Transcript).put count is (x.says told));
          lines = λ told. begun-whole row.saved _ (before.roles Saved) (mid.roles Saved) (now.roles Saved) (through-written status row.saved _ (before.roles Saved) (mid.roles Saved) is (x.lines told)) (same told);
          whole = whole-now x.completed x.whole (λ told. inr (same told, rose.1));
          cuts = λ told. tt;
        })

  -- where a line couldn't be put Saved stays without an end
  pub trace-cut : IsCut status → TraceEnds tells before mid row status
  trace-cut is = trace-later before mid Running status (λ e. cc) (λ e. cc) (λ e. cc) refl refl (λ role. omega arith) f.uses
      record { answer = cut-follows status is; of_run = f.refusal.of_run; ran = f.refusal.ran; cause = f.refusal.cause; whole = f.refusal.whole; limits = f.refusal.limits }
      (λ work.
      let x = f.follows work in
      record {
        completed = x.completed;
        few = x.few;
        counts = x.counts;
        stops = λ at. x.stops (cut-follows status is);
        within = x.within;
        goes = λ past. never past;
        says = x.says;
        lines = λ told. cut-lines status (before.faults Saved) (mid.faults Saved) row.saved _ (before.roles Saved) (mid.roles Saved) is (x.lines told);
        whole = x.whole;
        cuts = λ told. traced-uncut status events row.steps x.completed _ _ _ f.refusal.of_run;
      })
