-- The last line, put behind a run: the promise is that of the run, with the answer that the line left.
use Rattle.std.proofs.Common.{◌≡◌, ◌≢◌, ℕ, Bool, List, [], ◌∷◌, Option, None, Some, IsTrue, inl, inr, refl, sym, ◌∙◌, ap, subst, arith}
use Rattle.std.specs.Prelude.{◌⊎◌, IfSome, IsFalse}
use Rattle.long_names.specs.Counting.{Rose}
use Rattle.loom_host.specs.Outside.{PutPrefix, RoleState}
use Rattle.loom_host.specs.declared.outside.Role.{Role}
use Rattle.loom_host.specs.declared.outside.Role.TheVariants.{Image, Events, Work, Saved, Display, Transcript, Notes}
use Rattle.blue_model.specs.declared.step.Step.{Step}
use Rattle.blue_model.specs.declared.step.Step.TheVariants.{Next, Quit}
use Rattle.blue_model.specs.Cycle.{Ending, Parked, Stuck}
use Rattle.blue_model.specs.Endings.{IsParked, IsParkedBy, OnDrawn, OnParked}
use Rattle.blue_model.specs.Logs.{Course}
use Rattle.loom_run.specs.Ends.{AttachedOnce, BeginsEnd, GoesThrough, IsAnswered, IsCaused, MadeBy, NotedBy, RunOf, RunsTo, SaysStopped, WrittenBy, bytes_of, image_of, word_for}
use Rattle.loom_run.specs.Makes.{HasBegunFor}
use Rattle.loom_run.specs.Meanings.{Meanings, IsLeft, LeavesBut}
use Rattle.loom_run.specs.Parts.{IsTold, unsaid}
use Rattle.loom_run.specs.Promise.{EndsAt, Promise}
use Rattle.loom_run.specs.Stages.{Stage, Telling, Saving, Drawing, passes, reaches, stage_of}
use Rattle.loom_words.specs.Status.{line_of, usage_of}
use Rattle.loom_run.specs.Steps.{IsOfRun, RunEnds}
use Rattle.loom_words.specs.Words.{Row, ToMake, ToRun, ToTrace, Verb, bad_word, row_of, verb_of}
use Rattle.loom_words.specs.declared.status.Status.{Status}
use Rattle.loom_words.specs.declared.status.Status.TheVariants as answer
use Rattle.loom_run.proofs.ConvertLaws.{asks-other, converts-not, right-some}
use Rattle.loom_run.proofs.HeadlineLaws.{assembled-never, done-last, listed-never, made-never, quit-last}
use Rattle.loom_run.proofs.JudgedLaws.{reads-left, reads-telling}
use Rattle.loom_run.proofs.Lines.{noted-own, noted-run}
use Rattle.loom_run.proofs.UsesLaws.{left-then}
use Rattle.loom_run.proofs.WrittenLaws.{cuts-none}

-- ---- what the line leaves

module _ (mid now : Meanings) (leaves : LeavesBut (Notes ∷ []) mid now) where
  pub left : (role : Role) → role ≢ Notes → IsLeft role mid now
  left role other = leaves.others role (other, tt)

  pub same : (role : Role) → role ≢ Notes → now.roles role ≡ mid.roles role
  same role other = (left role other).state

  pub cause-now : (status : Status) (before : Role → ℕ) → IsOfRun status → IsCaused status before mid.faults → IsCaused status before now.faults
  cause-now (answer.Done ran) before of_run h = tt
  cause-now (answer.Quit ran) before of_run h = tt
  cause-now (answer.Made objects) before of_run h = tt
  cause-now (answer.Listed objects) before of_run h = tt
  cause-now (answer.Assembled objects) before of_run h = tt
  cause-now (answer.Usage word) before of_run h = tt
  cause-now (answer.ImageBad rule place) before of_run h = tt
  cause-now (answer.EventsBad line) before of_run h = tt
  cause-now (answer.TextBad line rule) before of_run h = tt
  cause-now (answer.Stuck cause ran) before of_run h = tt
  cause-now (answer.CoreFull ran need) before of_run h = tt
  cause-now (answer.NamesSpent ran) before of_run h = tt
  cause-now (answer.WorkFull live room) before of_run h = tt
  cause-now (answer.ReadFault role count) before of_run h = subst (λ n. (count ≡ n) × Rose (before role) n) (sym (left role of_run).faults) h
  cause-now (answer.WorkFault count) before of_run h = subst (λ n. (count ≡ n) × Rose (before Work) n) (sym (left Work (λ e. cc)).faults) h
  cause-now (answer.WriteFault role count) before of_run h = subst (λ n. (count ≡ n) × Rose (before role) n) (sym (left role of_run).faults) h
  cause-now answer.OutOfMemory before of_run h = tt
  cause-now (answer.Damaged place name) before of_run h = tt
  cause-now (answer.VaultFault count) before of_run h = tt
  cause-now answer.NoCheckpoint before of_run h = tt
  cause-now (answer.VaultBad place) before of_run h = tt

  pub answered-now : {tells : Role → Bool} {before : Meanings} {row : Row} {status : Status} → IsOfRun status → IsAnswered tells before mid row status → IsAnswered tells before now row status
  answered-now {tells} {before} {row} {status} of_run a = record { ran = a.ran; cause = cause-now status before.faults of_run a.cause; whole = a.whole; limits = a.limits }

  pub once : (text : List ℕ) (before : RoleState) (role : Role) → role ≢ Notes → AttachedOnce text before (mid.roles role) → AttachedOnce text before (now.roles role)
  once text before role other x = subst (AttachedOnce text before) (sym (same role other)) x

  pub unless : (before : Meanings) (role : Role) → role ≢ Notes → (role ≡ Notes) ⊎ IsLeft role before mid → (role ≡ Notes) ⊎ IsLeft role before now
  unless before role other (inl e) = inl e
  unless before role other (inr l) = inr (left-then role before mid now l (left role other))

  pub runs-now : {tells : Role → Bool} {before : Meanings} {row : Row} {stage : Stage} {status : Status} → IsOfRun status → (c : Course) → RunsTo tells before mid row stage status c → RunsTo tells before now row stage status c
  runs-now {tells} {before} {row} {stage} {status} of_run c r = record {
    stops = r.stops;
    goes = r.goes;
    fits = r.fits;
    says = λ told at. subst (λ (s : RoleState). SaysStopped status row c (before.roles Transcript).put s.put) (sym (same Transcript (λ e. cc))) (r.says told at);
    said = λ told past. ap (λ (s : RoleState). s.put) (same Transcript (λ e. cc)) ∙ r.said told past;
    saves = λ told past. subst (λ s. OnParked c.ending (λ m. MadeBy (passes Saving stage) row.saved (image_of m) (before.roles Saved) s)) (sym (same Saved (λ e. cc))) (r.saves told past);
    draws = λ told past. subst (λ s. OnDrawn c.ending (λ picture. WrittenBy (passes Drawing stage) row.display picture (before.roles Display) s)) (sym (same Display (λ e. cc))) (r.draws told past);
    cuts = λ told at. cuts-none status c (before.roles Notes) (now.roles Notes) of_run;
    image = r.image;
  }

  run-with : {P Q : Course → Type 0} {steps : ℕ} (image events : List ℕ) → ((c : Course) → P c → Q c) → RunOf image events steps P → RunOf image events steps Q
  run-with image events f r = record { head = r.head; heap = r.heap; is = r.is; lines = r.lines; list = r.list; run = f _ r.run }

  at-now : {tells : Role → Bool} {before : Meanings} {row : Row} {stage : Stage} {status : Status} → IsOfRun status → EndsAt tells before mid row stage status → EndsAt tells before now row stage status
  at-now {tells} {before} {row} {stage} {status} of_run at = record {
    answer = at.answer;
    answered = answered-now of_run at.answered;
    attached = attached;
    unused = unused;
    reads = reads-left tells row mid now stage status (same Image (λ e. cc)) (same Events (λ e. cc)) (same Work (λ e. cc)) at.reads;
    run = λ image events work past.
        subst (λ (s : RoleState). RunOf (bytes_of s) (bytes_of (now.roles Events)) row.steps (RunsTo tells before now row stage status)) (sym (same Image (λ e. cc)))
        (subst (λ (s : RoleState). RunOf (bytes_of (mid.roles Image)) (bytes_of s) row.steps (RunsTo tells before now row stage status)) (sym (same Events (λ e. cc)))
        (run-with (bytes_of (mid.roles Image)) (bytes_of (mid.roles Events)) (runs-now of_run) (at.run image events work past)));
  }
    where
      attached : (role : Role) → IsTrue (tells role) → IsTrue (reaches (stage_of role) stage) → IfSome (word_for row role) (λ text. AttachedOnce text (before.roles role) (now.roles role))
      attached Image told here = once _ _ Image (λ e. cc) (at.attached Image told here)
      attached Events told here = once _ _ Events (λ e. cc) (at.attached Events told here)
      attached Work told here = once _ _ Work (λ e. cc) (at.attached Work told here)
      attached Saved told here = once _ _ Saved (λ e. cc) (at.attached Saved told here)
      attached Display told here = once _ _ Display (λ e. cc) (at.attached Display told here)
      attached Transcript told here = tt
      attached Notes told here = tt

      unused : (role : Role) → IsFalse (reaches (stage_of role) stage) → (role ≡ Notes) ⊎ IsLeft role before now
      unused Image none = unless before Image (λ e. cc) (at.unused Image none)
      unused Events none = unless before Events (λ e. cc) (at.unused Events none)
      unused Work none = unless before Work (λ e. cc) (at.unused Work none)
      unused Saved none = unless before Saved (λ e. cc) (at.unused Saved none)
      unused Display none = unless before Display (λ e. cc) (at.unused Display none)
      unused Transcript none = unless before Transcript (λ e. cc) (at.unused Transcript none)
      unused Notes none = inl refl

-- ---- a last line that couldn't be put

pub answered-cut : (tells : Role → Bool) (before now : Meanings) (row : Row) → Rose (before.faults Notes) (now.faults Notes) → IsAnswered tells before now row (answer.WriteFault Notes (now.faults Notes))
answered-cut tells before now row rose = record { ran = tt; cause = (refl, rose); whole = λ work damaged. damaged; limits = tt }

module _ (tells : Role → Bool) (before now : Meanings) (row : Row) (rose : Rose (before.faults Notes) (now.faults Notes)) where
  pub parked : (end : Step) (ran : ℕ) (e : Ending) → IsParkedBy end ran e → IsParked e
  parked end ran (Parked last m drawn) h = tt
  parked end ran (Stuck why count said) h = h

  -- the line of the run's own end was begun
  abbrev pub Begins : Status → Type 0
  Begins status = (c : Course) → GoesThrough status c → IsTrue (tells Notes) → BeginsEnd c (before.roles Notes) (now.roles Notes)

  pub cut-run : {status : Status} (c : Course) → (GoesThrough status c → IsParked c.ending) → Begins status → RunsTo tells before now row Telling status c → RunsTo tells before now row Telling (answer.WriteFault Notes (now.faults Notes)) c
  cut-run c goes begins r = record {
    stops = λ at. absurd (cc);
    goes = λ past. goes (r.goes past);
    fits = r.fits;
    says = λ told at. absurd (cc);
    said = r.said;
    saves = r.saves;
    draws = r.draws;
    cuts = λ told at. begins c (r.goes refl) told;
    image = r.image;
  }

  cut-end : {status : Status} → ((c : Course) → GoesThrough status c → IsParked c.ending) → Begins status → EndsAt tells before now row Telling status → EndsAt tells before now row Telling (answer.WriteFault Notes (now.faults Notes))
  cut-end {status} goes begins at = record {
    answer = tt;
    answered = answered-cut tells before now row rose;
    attached = at.attached;
    unused = at.unused;
    reads = reads-telling tells row now status (answer.WriteFault Notes (now.faults Notes)) at.reads;
    run = λ image events work past.
        let r = at.run image events work past in
        record { head = r.head; heap = r.heap; is = r.is; lines = r.lines; list = r.list; run = cut-run _ (goes _) begins r.run };
  }

  telling : (stage : Stage) (status : Status) → EndsAt tells before now row stage status → stage ≡ Telling → EndsAt tells before now row Telling status
  telling stage status at e = subst (λ s. EndsAt tells before now row s status) e at

  unsaid-end : (stage : Stage) (status : Status) → (IsTrue (tells Notes) → PutPrefix (line_of status) (before.roles Notes) (now.roles Notes)) → EndsAt tells before now row stage status → (last : Stage) × EndsAt tells before now row last (unsaid status (now.faults Notes))
  unsaid-end stage (answer.Done ran) put at = (Telling, cut-end (λ c goes. parked Next ran c.ending goes) (λ c goes told. inl (ran, goes, put told)) (telling stage (answer.Done ran) at (done-last stage ran at.answer)))
  unsaid-end stage (answer.Quit ran) put at = (Telling, cut-end (λ c goes. parked Quit ran c.ending goes) (λ c goes told. inr (ran, goes, put told)) (telling stage (answer.Quit ran) at (quit-last stage ran at.answer)))
  unsaid-end stage (answer.Made objects) put at = made-never stage objects at.answer
  unsaid-end stage (answer.Listed objects) put at = listed-never stage objects at.answer
  unsaid-end stage (answer.Assembled objects) put at = assembled-never stage objects at.answer
  unsaid-end stage (answer.Usage word) put at = (stage, at)
  unsaid-end stage (answer.ImageBad rule place) put at = (stage, at)
  unsaid-end stage (answer.EventsBad line) put at = (stage, at)
  unsaid-end stage (answer.TextBad line rule) put at = (stage, at)
  unsaid-end stage (answer.Stuck cause ran) put at = (stage, at)
  unsaid-end stage (answer.CoreFull ran need) put at = (stage, at)
  unsaid-end stage (answer.NamesSpent ran) put at = (stage, at)
  unsaid-end stage (answer.WorkFull live room) put at = (stage, at)
  unsaid-end stage (answer.ReadFault role count) put at = (stage, at)
  unsaid-end stage (answer.WorkFault count) put at = (stage, at)
  unsaid-end stage (answer.WriteFault role count) put at = (stage, at)
  unsaid-end stage answer.OutOfMemory put at = (stage, at)
  unsaid-end stage (answer.Damaged place name) put at = (stage, at)
  unsaid-end stage (answer.VaultFault count) put at = (stage, at)
  unsaid-end stage answer.NoCheckpoint put at = (stage, at)
  unsaid-end stage (answer.VaultBad place) put at = (stage, at)

-- ---- the promise

pub usage-none : (status : Status) → IsOfRun status → usage_of status ≡ None
usage-none (answer.Done ran) h = refl
usage-none (answer.Quit ran) h = refl
usage-none (answer.Made objects) h = refl
usage-none (answer.Listed objects) h = refl
usage-none (answer.Assembled objects) h = refl
usage-none (answer.Usage word) h = absurd h
usage-none (answer.ImageBad rule place) h = refl
usage-none (answer.EventsBad line) h = refl
usage-none (answer.TextBad line rule) h = refl
usage-none (answer.Stuck cause ran) h = refl
usage-none (answer.CoreFull ran need) h = refl
usage-none (answer.NamesSpent ran) h = refl
usage-none (answer.WorkFull live room) h = refl
usage-none (answer.ReadFault role count) h = refl
usage-none (answer.WorkFault count) h = refl
usage-none (answer.WriteFault role count) h = refl
usage-none answer.OutOfMemory h = refl
usage-none (answer.Damaged place name) h = refl
usage-none (answer.VaultFault count) h = refl
usage-none answer.NoCheckpoint h = refl
usage-none (answer.VaultBad place) h = refl

pub usage-unsaid : (status : Status) (count : ℕ) → IsOfRun status → usage_of (unsaid status count) ≡ None
usage-unsaid (answer.Done ran) count h = refl
usage-unsaid (answer.Quit ran) count h = refl
usage-unsaid (answer.Made objects) count h = refl
usage-unsaid (answer.Listed objects) count h = refl
usage-unsaid (answer.Assembled objects) count h = refl
usage-unsaid (answer.Usage word) count h = absurd h
usage-unsaid (answer.ImageBad rule place) count h = refl
usage-unsaid (answer.EventsBad line) count h = refl
usage-unsaid (answer.TextBad line rule) count h = refl
usage-unsaid (answer.Stuck cause ran) count h = refl
usage-unsaid (answer.CoreFull ran need) count h = refl
usage-unsaid (answer.NamesSpent ran) count h = refl
usage-unsaid (answer.WorkFull live room) count h = refl
usage-unsaid (answer.ReadFault role faults) count h = refl
usage-unsaid (answer.WorkFault faults) count h = refl
usage-unsaid (answer.WriteFault role faults) count h = refl
usage-unsaid answer.OutOfMemory count h = refl
usage-unsaid (answer.Damaged place name) count h = refl
usage-unsaid (answer.VaultFault faults) count h = refl
usage-unsaid answer.NoCheckpoint count h = refl
usage-unsaid (answer.VaultBad place) count h = refl

module _ (tells : Role → Bool) (before mid now : Meanings) (words : List (List ℕ)) (status result : Status) (asks : verb_of words ≡ ToRun) (right : bad_word words ≡ None) (run : RunEnds tells before mid (row_of words) status) (leaves : LeavesBut (Notes ∷ []) mid now) where
  ends : IsTold (tells Notes) status result mid now → (stage : Stage) × EndsAt tells before now (row_of words) stage result
  ends (inl whole) = (run.stage, subst (λ s. EndsAt tells before now (row_of words) run.stage s) (sym whole.answer) (at-now mid now leaves run.of_run run.at))
  ends (inr cut) =
      let e = unsaid-end tells before now (row_of words) (subst (λ n. Rose n (now.faults Notes)) run.untold.faults cut.rose) run.stage status (λ told. subst (λ s. PutPrefix (line_of status) s (now.roles Notes)) run.untold.state (cut.put told)) (at-now mid now leaves run.of_run run.at) in
      (e.0, subst (λ s. EndsAt tells before now (row_of words) e.0 s) (sym cut.answer) e.1)

  usage : IsTold (tells Notes) status result mid now → usage_of result ≡ None
  usage (inl whole) = ap usage_of whole.answer ∙ usage-none status run.of_run
  usage (inr cut) = ap usage_of cut.answer ∙ usage-unsaid status (now.faults Notes) run.of_run

  pub promise-told : IsTold (tells Notes) status result mid now → Promise tells before now words result
  promise-told told = record {
    usage = usage told ∙ sym right;
    unasked = right-some (bad_word words) right;
    ends = λ run none. ends told;
    makes = λ make. asks-other words ToRun ToMake asks (λ e. cc) make;
    converts = λ way asked. converts-not way words ToRun asks (λ e. cc) (λ e. cc) asked;
    traces = λ trace. asks-other words ToRun ToTrace asks (λ e. cc) trace;
    noted = λ tells. subst (λ (verb : Verb). NotedBy result (HasBegunFor verb words) before now) (sym asks) (noted-run status result (row_of words).steps before mid now run.of_run run.at.answered.ran run.untold told tells);
    later = λ role. let first = run.later role in let then = leaves.later role in omega (arith, first, then);
  }

-- ---- words that are no command

some-none : (word : ℕ) (o : Option ℕ) {P : Type 0} → Some word ≡ o → o ≡ None → P
some-none word o some none = let no : ◌≡◌ {A = Option ℕ} (Some word) None = some ∙ none in absurd (cc)

usage-is : {told : Bool} (word : ℕ) (result : Status) (before now : Meanings) → IsTold told (answer.Usage word) result before now → result ≡ answer.Usage word
usage-is word result before now (inl whole) = whole.answer
usage-is word result before now (inr cut) = cut.answer

pub promise-usage : (tells : Role → Bool) (before now : Meanings) (words : List (List ℕ)) (word : ℕ) (result : Status) → Some word ≡ bad_word words → IsTold (tells Notes) (answer.Usage word) result before now → LeavesBut (Notes ∷ []) before now → Promise tells before now words result
promise-usage tells before now words word result bad told leaves = record {
  usage = ap usage_of (usage-is word result before now told) ∙ bad;
  unasked = λ some. leaves;
  ends = λ run none. some-none word (bad_word words) bad none;
  makes = λ make none. some-none word (bad_word words) bad none;
  converts = λ way asked none. some-none word (bad_word words) bad none;
  traces = λ trace none. some-none word (bad_word words) bad none;
  noted = λ tell. let own = noted-own (answer.Usage word) result before now refl told tell in subst (λ s. NotedBy s (HasBegunFor (verb_of words) words) before now) (sym own.0) own.1;
  later = leaves.later;
}
