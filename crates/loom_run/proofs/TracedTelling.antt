-- The last line, put behind a trace: the promise is that of the trace, with the answer that the line left.
use Rattle.std.proofs.Common.{◌≡◌, ◌≢◌, ℕ, Bool, List, [], ◌∷◌, length, None, IsTrue, inl, inr, refl, sym, ◌∙◌, ap, subst, arith}
use Rattle.std.specs.Prelude.{IfSome}
use Rattle.long_names.specs.Counting.{Rose}
use Rattle.long_names.specs.Heap.{Heap}
use Rattle.loom_host.specs.Outside.{PutPrefix, RoleState}
use Rattle.loom_host.specs.declared.outside.Role.{Role}
use Rattle.loom_host.specs.declared.outside.Role.TheVariants.{Image, Events, Work, Saved, Display, Transcript, Notes}
use Rattle.blue_model.specs.declared.event.Line.{Line}
use Rattle.blue_model.specs.declared.step.Step.TheVariants.{Next, Quit}
use Rattle.blue_model.specs.Logs.{Course, course}
use Rattle.blue_model.specs.Machine.{Outcome}
use Rattle.blue_model.specs.State.{State}
use Rattle.loom_run.specs.Ends.{AttachedOnce, NotedBy, bytes_of}
use Rattle.loom_run.specs.Following.{TraceEnds}
use Rattle.loom_run.specs.Makes.{HasBegunFor}
use Rattle.loom_run.specs.Meanings.{Meanings, IsLeft, LeavesBut}
use Rattle.loom_run.specs.Parts.{IsFinished, IsTold, unsaid}
use Rattle.loom_run.specs.Promise.{Promise}
use Rattle.loom_run.specs.Stages.{Stage, Telling, reaches}
use Rattle.loom_run.specs.Steps.{IsOfRun}
use Rattle.loom_run.specs.Traced.{AreWhole, CountsRun, CutsTraced, GoesAlong, HasLines, IsUnmade, SaysTraced, TraceOf, TracesAt, TracesTo, is_untraced, lines_from, started, traced_stage, traced_word}
use Rattle.loom_words.specs.Status.{line_of, usage_of}
use Rattle.loom_words.specs.Words.{Row, ToMake, ToRun, ToTrace, Verb, bad_word, trace_row_of, verb_of}
use Rattle.loom_words.specs.declared.status.Status.{Status}
use Rattle.loom_words.specs.declared.status.Status.TheVariants as answer
use Rattle.loom_run.proofs.ConvertLaws.{asks-other, converts-not, right-some}
use Rattle.loom_run.proofs.JudgedLaws.{reads-left, reads-telling}
use Rattle.loom_run.proofs.Lines.{noted-run}
use Rattle.loom_run.proofs.ShowsLaws.{at-telling, done-traced, quit-traced}
use Rattle.loom_run.proofs.TellingLaws.{answered-cut, answered-now, left, once, same, usage-none, usage-unsaid}
use Rattle.loom_run.proofs.TracedEnds.{traced-uncut}
use Rattle.loom_run.proofs.UsesLaws.{left-then, never}

trace-with : {P Q : List Line → State → Heap → Type 0} (image events : List ℕ) → ((lines : List Line) (state : State) (heap : Heap) → P lines state heap → Q lines state heap) → TraceOf image events P → TraceOf image events Q
trace-with image events f r = record { head = r.head; heap = r.heap; is = r.is; lines = r.lines; list = r.list; trace = f _ _ _ r.trace }

-- ---- what the line leaves

module _ (mid now : Meanings) (leaves : LeavesBut (Notes ∷ []) mid now) where
  stays : (role : Role) → role ≢ Notes → now.roles role ≡ mid.roles role
  stays role other = same mid now leaves role other

  traces-now : {tells : Role → Bool} {before : Meanings} {row : Row} {stage : Stage} {status : Status} → IsOfRun status → (events : List Line) (state : State) (heap : Heap) → TracesTo tells before mid row stage status events state heap → TracesTo tells before now row stage status events state heap
  traces-now {tells} {before} {row} {stage} {status} of_run events state heap t = record {
    completed = t.completed;
    few = t.few;
    counts = t.counts;
    stops = t.stops;
    within = t.within;
    goes = t.goes;
    says = λ told. subst (λ (s : RoleState). SaysTraced status row (course events row.steps state heap) t.completed (before.roles Transcript).put s.put) (sym (stays Transcript (λ e. cc))) (t.says told);
    lines = λ told.
        subst (λ k. HasLines status (before.faults Saved) k row.saved (lines_from events t.completed (started state heap)) (before.roles Saved) (now.roles Saved)) (sym (left mid now leaves Saved (λ e. cc)).faults)
        (subst (λ (s : RoleState). HasLines status (before.faults Saved) (mid.faults Saved) row.saved (lines_from events t.completed (started state heap)) (before.roles Saved) s) (sym (stays Saved (λ e. cc))) (t.lines told));
    whole = λ told. subst (λ (s : RoleState). AreWhole events t.completed (started state heap) 0 (length s.put)) (sym (stays Saved (λ e. cc))) (t.whole told);
    cuts = λ told. traced-uncut status events row.steps t.completed (started state heap) (before.roles Notes) (now.roles Notes) of_run;
  }

  traced-now : {tells : Role → Bool} {before : Meanings} {row : Row} {stage : Stage} {status : Status} → IsOfRun status → TracesAt tells before mid row stage status → TracesAt tells before now row stage status
  traced-now {tells} {before} {row} {stage} {status} of_run at = record {
    answer = at.answer;
    answered = answered-now mid now leaves of_run at.answered;
    attached = attached;
    unused = unused;
    reads = reads-left tells row mid now stage status (stays Image (λ e. cc)) (stays Events (λ e. cc)) (stays Work (λ e. cc)) at.reads;
    unmade = λ saved here. subst (IsUnmade status row.saved (before.roles Saved)) (sym (stays Saved (λ e. cc))) (at.unmade saved here);
    trace = λ image events work past.
        subst (λ (s : RoleState). TraceOf (bytes_of s) (bytes_of (now.roles Events)) (TracesTo tells before now row stage status)) (sym (stays Image (λ e. cc)))
        (subst (λ (s : RoleState). TraceOf (bytes_of (mid.roles Image)) (bytes_of s) (TracesTo tells before now row stage status)) (sym (stays Events (λ e. cc)))
        (trace-with (bytes_of (mid.roles Image)) (bytes_of (mid.roles Events)) (traces-now of_run) (at.trace image events work past)));
  }
    where
      attached : (role : Role) → IsTrue (tells role) → IsTrue (reaches (traced_stage role) stage) → IfSome (traced_word row role) (λ text. AttachedOnce text (before.roles role) (now.roles role))
      attached Image told here = once mid now leaves _ _ Image (λ e. cc) (at.attached Image told here)
      attached Events told here = once mid now leaves _ _ Events (λ e. cc) (at.attached Events told here)
      attached Work told here = once mid now leaves _ _ Work (λ e. cc) (at.attached Work told here)
      attached Saved told here = once mid now leaves _ _ Saved (λ e. cc) (at.attached Saved told here)
      attached Display told here = tt
      attached Transcript told here = tt
      attached Notes told here = tt

      unless : (role : Role) → role ≢ Notes → IsLeft role before mid → IsLeft role before now
      unless role other first = left-then role before mid now first (left mid now leaves role other)

      unused : (role : Role) → IsTrue (is_untraced role stage) → IsLeft role before now
      unused Image none = unless Image (λ e. cc) (at.unused Image none)
      unused Events none = unless Events (λ e. cc) (at.unused Events none)
      unused Work none = unless Work (λ e. cc) (at.unused Work none)
      unused Saved none = unless Saved (λ e. cc) (at.unused Saved none)
      unused Display none = unless Display (λ e. cc) (at.unused Display none)
      unused Transcript none = unless Transcript (λ e. cc) (at.unused Transcript none)
      unused Notes none = never none

-- ---- a last line that couldn't be put

cut-goes : (status : Status) (count : ℕ) (events : List Line) (steps completed : ℕ) (o : Outcome (Unit {0})) → IsFinished status → GoesAlong status events steps completed o → GoesAlong (answer.WriteFault Notes count) events steps completed o
cut-goes (answer.Done ran) count events steps completed o finished goes = (Next, goes)
cut-goes (answer.Quit ran) count events steps completed o finished goes = (Quit, goes)
cut-goes _ count events steps completed o finished goes = absurd finished

cut-says : (status : Status) (count : ℕ) (row : Row) (c : Course) (completed : ℕ) (old new : List ℕ) → IsFinished status → SaysTraced status row c completed old new → SaysTraced (answer.WriteFault Notes count) row c completed old new
cut-says (answer.Done ran) count row c completed old new finished says = says
cut-says (answer.Quit ran) count row c completed old new finished says = says
cut-says _ count row c completed old new finished says = absurd finished

cut-lines : (status : Status) (count b n : ℕ) (text lines : List ℕ) (old new : RoleState) → IsFinished status → HasLines status b n text lines old new → HasLines (answer.WriteFault Notes count) b n text lines old new
cut-lines (answer.Done ran) count b n text lines old new finished made = made
cut-lines (answer.Quit ran) count b n text lines old new finished made = made
cut-lines _ count b n text lines old new finished made = absurd finished

cut-line : (status : Status) (count : ℕ) (c : Course) (events : List Line) (steps completed : ℕ) (o : Outcome (Unit {0})) (old new : RoleState) → IsFinished status → CountsRun status c completed → GoesAlong status events steps completed o → PutPrefix (line_of status) old new → CutsTraced (answer.WriteFault Notes count) events steps completed o old new
cut-line (answer.Done ran) count c events steps completed o old new finished all goes line = inl (goes, subst (λ k. PutPrefix (line_of (answer.Done k)) old new) (sym all) line)
cut-line (answer.Quit ran) count c events steps completed o old new finished all goes line = inr (goes, subst (λ k. PutPrefix (line_of (answer.Quit k)) old new) (sym all) line)
cut-line _ count c events steps completed o old new finished all goes line = absurd finished

module _ (tells : Role → Bool) (before now : Meanings) (row : Row) (rose : Rose (before.faults Notes) (now.faults Notes)) where
  abbrev unput : Status
  unput = answer.WriteFault Notes (now.faults Notes)

  cut-to : (status : Status) → IsFinished status → (IsTrue (tells Notes) → PutPrefix (line_of status) (before.roles Notes) (now.roles Notes)) → (events : List Line) (state : State) (heap : Heap) → TracesTo tells before now row Telling status events state heap → TracesTo tells before now row Telling unput events state heap
  cut-to status finished line events state heap t = record {
    completed = t.completed;
    few = t.few;
    counts = tt;
    stops = λ at. absurd (cc);
    within = tt;
    goes = λ past. cut-goes status (now.faults Notes) events row.steps t.completed _ finished (t.goes past);
    says = λ told. cut-says status (now.faults Notes) row (course events row.steps state heap) t.completed (before.roles Transcript).put (now.roles Transcript).put finished (t.says told);
    lines = λ told. cut-lines status (now.faults Notes) (before.faults Saved) (now.faults Saved) row.saved _ (before.roles Saved) (now.roles Saved) finished (t.lines told);
    whole = t.whole;
    cuts = λ told. cut-line status (now.faults Notes) (course events row.steps state heap) events row.steps t.completed (started state heap) (before.roles Notes) (now.roles Notes) finished t.counts (t.goes refl) (line told);
  }

  cut-at : (status : Status) → IsFinished status → (IsTrue (tells Notes) → PutPrefix (line_of status) (before.roles Notes) (now.roles Notes)) → TracesAt tells before now row Telling status → TracesAt tells before now row Telling unput
  cut-at status finished line at = record {
    answer = tt;
    answered = answered-cut tells before now row rose;
    attached = at.attached;
    unused = at.unused;
    reads = reads-telling tells row now status unput at.reads;
    unmade = λ saved here. absurd (cc);
    trace = λ image events work past. trace-with (bytes_of (now.roles Image)) (bytes_of (now.roles Events)) (cut-to status finished line) (at.trace image events work past);
  }

  unsaid-at : (stage : Stage) (status : Status) → IsOfRun status → (IsTrue (tells Notes) → PutPrefix (line_of status) (before.roles Notes) (now.roles Notes)) → TracesAt tells before now row stage status → (last : Stage) × TracesAt tells before now row last (unsaid status (now.faults Notes))
  unsaid-at stage (answer.Done ran) of_run line at = (Telling, cut-at (answer.Done ran) tt line (at-telling stage at (done-traced stage ran at.answer)))
  unsaid-at stage (answer.Quit ran) of_run line at = (Telling, cut-at (answer.Quit ran) tt line (at-telling stage at (quit-traced stage ran at.answer)))
  unsaid-at stage (answer.Made objects) of_run line at = absurd of_run
  unsaid-at stage (answer.Listed objects) of_run line at = absurd of_run
  unsaid-at stage (answer.Assembled objects) of_run line at = absurd of_run
  unsaid-at stage _ of_run line at = (stage, at)

-- ---- the promise

module _ (tells : Role → Bool) (before mid now : Meanings) (words : List (List ℕ)) (status result : Status) (asks : verb_of words ≡ ToTrace) (right : bad_word words ≡ None) (ends : TraceEnds tells before mid (trace_row_of words) status) (leaves : LeavesBut (Notes ∷ []) mid now) where
  traces : IsTold (tells Notes) status result mid now → (stage : Stage) × TracesAt tells before now (trace_row_of words) stage result
  traces (inl whole) = (ends.stage, subst (λ s. TracesAt tells before now (trace_row_of words) ends.stage s) (sym whole.answer) (traced-now mid now leaves ends.of_run ends.at))
  traces (inr cut) =
      let last = unsaid-at tells before now (trace_row_of words) (subst (λ n. Rose n (now.faults Notes)) ends.untold.faults cut.rose) ends.stage status ends.of_run (λ told. subst (λ (s : RoleState). PutPrefix (line_of status) s (now.roles Notes)) ends.untold.state (cut.put told)) (traced-now mid now leaves ends.of_run ends.at) in
      (last.0, subst (λ s. TracesAt tells before now (trace_row_of words) last.0 s) (sym cut.answer) last.1)

  usage : IsTold (tells Notes) status result mid now → usage_of result ≡ None
  usage (inl whole) = ap usage_of whole.answer ∙ usage-none status ends.of_run
  usage (inr cut) = ap usage_of cut.answer ∙ usage-unsaid status (now.faults Notes) ends.of_run

  pub promise-traced : IsTold (tells Notes) status result mid now → Promise tells before now words result
  promise-traced told = record {
    usage = usage told ∙ sym right;
    unasked = right-some (bad_word words) right;
    ends = λ run. asks-other words ToTrace ToRun asks (λ e. cc) run;
    makes = λ make. asks-other words ToTrace ToMake asks (λ e. cc) make;
    converts = λ way asked. converts-not way words ToTrace asks (λ e. cc) (λ e. cc) asked;
    traces = λ trace none. traces told;
    noted = λ tell. subst (λ (verb : Verb). NotedBy result (HasBegunFor verb words) before now) (sym asks) (noted-run status result (trace_row_of words).steps before mid now ends.of_run ends.at.answered.ran ends.untold told tell);
    later = λ role. let first = ends.later role in let then = leaves.later role in omega (arith, first, then);
  }
