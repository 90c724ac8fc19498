-- The last line, put behind a guarded or a resumed run: the promise is that of the run, with the answer that the line left.
use Rattle.std.proofs.Common.{◌≡◌, ℕ, Bool, true, false, List, [], ◌∷◌, Option, None, Some, IsTrue, inl, inr, refl, sym, ◌∙◌, ap, subst, arith}
use Rattle.std.specs.Prelude.{◌⊎◌, IfSome, IsFalse, IsSome}
use Rattle.long_names.specs.Counting.{Rose}
use Rattle.loom_host.specs.Outside.{PutPrefix, RoleState}
use Rattle.loom_host.specs.declared.outside.Role.{Role}
use Rattle.loom_host.specs.declared.outside.Role.TheVariants.{Image, Events, Work, Saved, Display, Transcript, Notes}
use Rattle.blue_model.specs.declared.event.Line.{Line}
use Rattle.blue_model.specs.declared.step.Step.TheVariants.{Next, Quit}
use Rattle.blue_model.specs.Endings.{IsParked}
use Rattle.blue_model.specs.Guarded.{Guarded}
use Rattle.blue_model.specs.Logs.{Course}
use Rattle.checkpoint.proofs.HistoryLaws.{keeps-gives}
use Rattle.checkpoint.specs.Keeping.{serial_of}
use Rattle.loom_run.specs.Ends.{AttachedOnce, GoesThrough, HasBegun, IsRightImage, JudgesImage, NotedBy, bytes_of, word_for}
use Rattle.loom_run.specs.Promise.{Promise}
use Rattle.loom_run.specs.Meanings.{Meanings, IsLeft, LeavesBut}
use Rattle.loom_run.specs.Parts.{IsTold, unsaid}
use Rattle.loom_run.specs.Stages.{Stage, Telling, reaches, stage_of}
use Rattle.loom_run.specs.Steps.{IsOfRun}
use Rattle.loom_run.proofs.HeadlineLaws.{done-last, quit-last}
use Rattle.loom_run.proofs.JudgedLaws.{reads-left, reads-telling}
use Rattle.loom_run.proofs.Lines.{noted-own, noted-run}
use Rattle.loom_run.proofs.TellingLaws.{Begins, answered-cut, answered-now, cut-run, once, parked, runs-now, same, unless, usage-none, usage-unsaid}
use Rattle.loom_run.proofs.UsesLaws.{left-then}
use Rattle.loom_words.specs.Kept.{Else, KeptVerb, bad_kept, bad_kept_as, kept_verb_of, vault_of}
use Rattle.loom_words.specs.Status.{line_of, usage_of}
use Rattle.loom_words.specs.Words.{Row}
use Rattle.loom_words.specs.declared.status.Status.{Status}
use Rattle.loom_words.specs.declared.status.Status.TheVariants as answer
use Rattle.loom_guard.specs.Checkpoints.{IsCheckpointOf}
use Rattle.loom_guard.specs.Moments.{StopsAt}
use Rattle.loom_guard.specs.Promise.{ComesTo, GuardComes, GuardedOf, HasMoment, KeptAt, KeptEnds, KeptPromise}
use Rattle.loom_guard.specs.Steps.{KeptRunEnds}
use Rattle.loom_guard.specs.Vaults.{IsVaultFault, IsVaultRefusal, VaultMeanings}
use Rattle.loom_guard.specs.Ways.{Way, Guarding, Resuming, image_by, row_by, tells_by, verb_by}
use Rattle.loom_guard.proofs.StatusLaws.{calm-caused, ends-plain, refusal-is}
use Rattle.loom_guard.proofs.WayLaws.{image-left, way-is}

-- ---- what the line leaves

module _ (mid now : Meanings) (leaves : LeavesBut (Notes ∷ []) mid now) where
  comes-now : {tells : Role → Bool} {before : Meanings} {row : Row} {lines : List Line} {g : Guarded} {stage : Stage} {status : Status} → IsOfRun status → (c : Course) → ComesTo tells before mid row lines g stage status c → ComesTo tells before now row lines g stage status c
  comes-now of_run c (inl r) = inl (runs-now mid now leaves of_run c r)
  comes-now of_run c (inr w) = inr (
    w.0,
    record {
      status_is = w.1.status_is;
      ran = w.1.ran;
      few = w.1.few;
      at = w.1.at;
      says = λ told. ap (λ (r : RoleState). r.put) (same mid now leaves Transcript (λ e. cc)) ∙ w.1.says told;
    },
  )

  moment-now : {tells : Role → Bool} {before : Meanings} {row : Row} {lines : List Line} {g : Guarded} {stage : Stage} {last : ℕ} {status : Status} → (c : Course) → HasMoment tells before mid row lines g c stage last status → HasMoment tells before now row lines g c stage last status
  moment-now {tells} {before} {row} {lines} {g} {stage} {last} {status} c x = record {
    stopped = λ at. subst (λ (s : RoleState). StopsAt (tells Transcript) row.steps lines g c (before.roles Transcript).put s.put last status) (sym (same mid now leaves Transcript (λ e. cc))) (x.stopped at);
    through = x.through;
  }

  guarded-with : {P Q : List Line → Guarded → Course → Type 0} (image events : List ℕ) (steps first : ℕ) → ((lines : List Line) (g : Guarded) (c : Course) → P lines g c → Q lines g c) → GuardedOf image events steps first P → GuardedOf image events steps first Q
  guarded-with image events steps first f r = record { head = r.head; heap = r.heap; is = r.is; lines = r.lines; list = r.list; run = f _ _ _ r.run }

  kept-now : {way : Way} {tells : Role → Bool} {told : Bool} {before : Meanings} {old new : VaultMeanings} {row : Row} {stage : Stage} {status : Status} → IsOfRun status → KeptAt way tells told before mid old new row stage status → KeptAt way tells told before now old new row stage status
  kept-now {way} {tells} {told} {before} {old} {new} {row} {stage} {status} of_run at = record {
    answer = at.answer;
    answered = answered-now mid now leaves of_run at.answered;
    vault_cause = at.vault_cause;
    attached = attached;
    unused = unused;
    reads = reads-left (tells_by way tells) row mid now stage status (same mid now leaves Image (λ e. cc)) (same mid now leaves Events (λ e. cc)) (same mid now leaves Work (λ e. cc)) at.reads;
    imageless = λ resuming. left-then Image before mid now (at.imageless resuming) (leaves.others Image (λ e. cc, tt));
    never = at.never;
    point = at.point;
    none = at.none;
    start = at.start;
    starts = at.starts;
    judges = λ t here. subst (λ (bytes : List ℕ). JudgesImage (tells Work) status row.room bytes) (sym image) (at.judges t here);
    right = λ t work past. subst (λ (bytes : List ℕ). IsRightImage row.room bytes) (sym image) (at.right t work past);
    last = at.last;
    early = at.early;
    stays = at.stays;
    run = λ t events work came.
        subst (λ (bytes : List ℕ). GuardedOf bytes (bytes_of (now.roles Events)) row.steps (serial_of at.point) (GuardComes tells before now row stage at.last status)) (sym image)
        (subst (λ (s : RoleState). GuardedOf (image_by way mid at.start at.point) (bytes_of s) row.steps (serial_of at.point) (GuardComes tells before now row stage at.last status)) (sym (same mid now leaves Events (λ e. cc)))
        (guarded-with {P = GuardComes tells before mid row stage at.last status} {Q = GuardComes tells before now row stage at.last status} (image_by way mid at.start at.point) (bytes_of (mid.roles Events)) row.steps (serial_of at.point) (λ lines g c r. (comes-now of_run c r.0, moment-now c r.1)) (at.run t events work came)));
    stops = λ t.
        keeps-gives at.start new.state at.last _ _ (λ serial kept x image_told events work.
        subst (λ (bytes : List ℕ). IsCheckpointOf bytes (bytes_of (now.roles Events)) row.steps (serial_of at.point) serial kept) (sym image)
        (subst (λ (s : RoleState). IsCheckpointOf (image_by way mid at.start at.point) (bytes_of s) row.steps (serial_of at.point) serial kept) (sym (same mid now leaves Events (λ e. cc))) (x image_told events work))) (at.stops t);
  }
    where
      image : image_by way now at.start at.point ≡ image_by way mid at.start at.point
      image = image-left way mid now at.start at.point (same mid now leaves Image (λ e. cc))

      attached : (role : Role) → IsTrue (tells_by way tells role) → IsTrue (reaches (stage_of role) stage) → IfSome (word_for row role) (λ text. AttachedOnce text (before.roles role) (now.roles role))
      attached Image told here = once mid now leaves _ _ Image (λ e. cc) (at.attached Image told here)
      attached Events told here = once mid now leaves _ _ Events (λ e. cc) (at.attached Events told here)
      attached Work told here = once mid now leaves _ _ Work (λ e. cc) (at.attached Work told here)
      attached Saved told here = once mid now leaves _ _ Saved (λ e. cc) (at.attached Saved told here)
      attached Display told here = once mid now leaves _ _ Display (λ e. cc) (at.attached Display told here)
      attached Transcript told here = tt
      attached Notes told here = tt

      unused : (role : Role) → IsFalse (reaches (stage_of role) stage) → (role ≡ Notes) ⊎ IsLeft role before now
      unused Image none = unless mid now leaves before Image (λ e. cc) (at.unused Image none)
      unused Events none = unless mid now leaves before Events (λ e. cc) (at.unused Events none)
      unused Work none = unless mid now leaves before Work (λ e. cc) (at.unused Work none)
      unused Saved none = unless mid now leaves before Saved (λ e. cc) (at.unused Saved none)
      unused Display none = unless mid now leaves before Display (λ e. cc) (at.unused Display none)
      unused Transcript none = unless mid now leaves before Transcript (λ e. cc) (at.unused Transcript none)
      unused Notes none = inl refl

-- ---- a last line that couldn't be put

cut-comes : (tells : Role → Bool) (before now : Meanings) (row : Row) (rose : Rose (before.faults Notes) (now.faults Notes)) {lines : List Line} {g : Guarded} {status : Status} (c : Course) → (GoesThrough status c → IsParked c.ending) → Begins tells before now row rose status
    → ComesTo tells before now row lines g Telling status c → ComesTo tells before now row lines g Telling (answer.WriteFault Notes (now.faults Notes)) c
cut-comes tells before now row rose c goes begins (inl r) = inl (cut-run tells before now row rose c goes begins r)
cut-comes tells before now row rose c goes begins (inr w) = let e = w.0 in absurd (cc)

module _ {way : Way} {told : Bool} {old new : VaultMeanings} (tells : Role → Bool) (before now : Meanings) (row : Row) (rose : Rose (before.faults Notes) (now.faults Notes)) where
  cut-kept : {status : Status} → (IsVaultFault status → ⊥) → ((c : Course) → GoesThrough status c → IsParked c.ending) → Begins tells before now row rose status → KeptAt way tells told before now old new row Telling status → KeptAt way tells told before now old new row Telling (answer.WriteFault Notes (now.faults Notes))
  cut-kept {status} fault goes begins at = record {
    answer = tt;
    answered = answered-cut tells before now row rose;
    vault_cause = calm-caused status old.faults new.faults at.vault_cause fault;
    attached = at.attached;
    unused = at.unused;
    reads = reads-telling (tells_by way tells) row now status (answer.WriteFault Notes (now.faults Notes)) at.reads;
    imageless = at.imageless;
    never = λ resuming count e. absurd (cc);
    point = at.point;
    none = at.none;
    start = at.start;
    starts = at.starts;
    judges = λ t here. absurd (cc);
    right = at.right;
    last = at.last;
    early = at.early;
    stays = λ t none. at.stays t fault;
    run = λ t events work came. (let r = at.run t events work came in record { head = r.head; heap = r.heap; is = r.is; lines = r.lines; list = r.list; run = (cut-comes tells before now row rose _ (goes _) begins r.run.0, record { stopped = λ at. absurd (cc); through = r.run.1.through }) });
    stops = at.stops;
  }

  telling : (stage : Stage) (status : Status) → KeptAt way tells told before now old new row stage status → stage ≡ Telling → KeptAt way tells told before now old new row Telling status
  telling stage status at e = subst (λ s. KeptAt way tells told before now old new row s status) e at

  unsaid-kept : (stage : Stage) (status : Status) → IsOfRun status → (IsTrue (tells Notes) → PutPrefix (line_of status) (before.roles Notes) (now.roles Notes)) → KeptAt way tells told before now old new row stage status
      → (last : Stage) × KeptAt way tells told before now old new row last (unsaid status (now.faults Notes))
  unsaid-kept stage (answer.Done ran) of_run put at = (Telling, cut-kept (λ f. f) (λ c goes. parked tells before now row rose Next ran c.ending goes) (λ c goes told. inl (ran, goes, put told)) (telling stage (answer.Done ran) at (done-last stage ran (ends-plain stage (answer.Done ran) (λ count e. cc) at.answer))))
  unsaid-kept stage (answer.Quit ran) of_run put at = (Telling, cut-kept (λ f. f) (λ c goes. parked tells before now row rose Quit ran c.ending goes) (λ c goes told. inr (ran, goes, put told)) (telling stage (answer.Quit ran) at (quit-last stage ran (ends-plain stage (answer.Quit ran) (λ count e. cc) at.answer))))
  unsaid-kept stage (answer.Made objects) of_run put at = absurd of_run
  unsaid-kept stage (answer.Listed objects) of_run put at = absurd of_run
  unsaid-kept stage (answer.Assembled objects) of_run put at = absurd of_run
  unsaid-kept stage (answer.Usage word) of_run put at = absurd of_run
  unsaid-kept stage (answer.ImageBad rule place) of_run put at = (stage, at)
  unsaid-kept stage (answer.EventsBad line) of_run put at = (stage, at)
  unsaid-kept stage (answer.TextBad line rule) of_run put at = (stage, at)
  unsaid-kept stage (answer.Stuck cause ran) of_run put at = (stage, at)
  unsaid-kept stage (answer.CoreFull ran need) of_run put at = (stage, at)
  unsaid-kept stage (answer.NamesSpent ran) of_run put at = (stage, at)
  unsaid-kept stage (answer.WorkFull live room) of_run put at = (stage, at)
  unsaid-kept stage (answer.ReadFault role count) of_run put at = (stage, at)
  unsaid-kept stage (answer.WorkFault count) of_run put at = (stage, at)
  unsaid-kept stage (answer.WriteFault role count) of_run put at = (stage, at)
  unsaid-kept stage answer.OutOfMemory of_run put at = (stage, at)
  unsaid-kept stage (answer.Damaged place name) of_run put at = (stage, at)
  unsaid-kept stage (answer.VaultFault count) of_run put at = (stage, at)
  unsaid-kept stage answer.NoCheckpoint of_run put at = (stage, at)
  unsaid-kept stage (answer.VaultBad place) of_run put at = (stage, at)

-- ---- the promise

pub no-else : {P : Type 0} (way : Way) → verb_by way ≡ Else → P
no-else Guarding e = absurd (cc)
no-else Resuming e = absurd (cc)

some-right : {P : Type 0} (o : Option ℕ) → o ≡ None → IsSome o → P
some-right None e some = let no : ◌≡◌ {A = Bool} false true = some in absurd (cc)
some-right (Some word) e some = let no : ◌≡◌ {A = Option ℕ} (Some word) None = e in absurd (cc)

some-none : (word : ℕ) (o : Option ℕ) {P : Type 0} → Some word ≡ o → o ≡ None → P
some-none word o some none = let no : ◌≡◌ {A = Option ℕ} (Some word) None = some ∙ none in absurd (cc)

leaves-line : (before mid now : Meanings) → LeavesBut [] before mid → LeavesBut (Notes ∷ []) mid now → LeavesBut (Notes ∷ []) before now
leaves-line before mid now first then = record {
  others = λ role none. left-then role before mid now (first.others role tt) (then.others role none);
  writes = λ none. then.writes none ∙ first.writes tt;
  later = λ role. let low = first.later role in let high = then.later role in omega (arith, low, high);
}

told-is : {told : Bool} (status result : Status) (before now : Meanings) → ((count : ℕ) → unsaid status count ≡ status) → IsTold told status result before now → result ≡ status
told-is status result before now stays (inl whole) = whole.answer
told-is status result before now stays (inr cut) = cut.answer ∙ stays (now.faults Notes)

module _ (way : Way) (tells : Role → Bool) (told : Bool) (before mid now : Meanings) (old new : VaultMeanings) (words : List (List ℕ)) (status result : Status) (asks : kept_verb_of words ≡ verb_by way) (right : bad_kept words ≡ None)
    (run : KeptRunEnds way tells told before mid old new (row_by way words) (vault_of words) status) (leaves : LeavesBut (Notes ∷ []) mid now) where
  ends-told : IsTold (tells Notes) status result mid now → KeptEnds way tells told before now old new (row_by way words) result
  ends-told line = elim run.ends [
    | inl refused ↦ inl (
      subst (IsVaultRefusal way told old new) (sym (told-is status result mid now (refusal-is way told old.state status refused.0.refuses).stays line)) refused.0,
      leaves-line before mid now refused.1 leaves,
      refused.2,
    )
    | inr at ↦ inr (end-told at.0 at.1 line)
  ]
    where
      end-told : (stage : Stage) → KeptAt way tells told before mid old new (row_by way words) stage status → IsTold (tells Notes) status result mid now → (stage : Stage) × KeptAt way tells told before now old new (row_by way words) stage result
      end-told stage at (inl whole) = (stage, subst (λ s. KeptAt way tells told before now old new (row_by way words) stage s) (sym whole.answer) (kept-now mid now leaves run.of_run at))
      end-told stage at (inr cut) =
          let e = unsaid-kept tells before now (row_by way words) (subst (λ n. Rose n (now.faults Notes)) run.untold.faults cut.rose) stage status run.of_run
          (λ notes. subst (λ s. PutPrefix (line_of status) s (now.roles Notes)) run.untold.state (cut.put notes)) (kept-now mid now leaves run.of_run at) in
          (e.0, subst (λ s. KeptAt way tells told before now old new (row_by way words) e.0 s) (sym cut.answer) e.1)

  usage-told : IsTold (tells Notes) status result mid now → usage_of result ≡ None
  usage-told (inl whole) = ap usage_of whole.answer ∙ usage-none status run.of_run
  usage-told (inr cut) = ap usage_of cut.answer ∙ usage-unsaid status (now.faults Notes) run.of_run

  pub kept-told : IsTold (tells Notes) status result mid now → KeptPromise tells told before now old new words result
  kept-told line = record {
    others = λ other. no-else way (sym asks ∙ other);
    usage = λ kept. usage-told line ∙ sym right;
    unasked = some-right (bad_kept words) right;
    opened = λ other is none t. run.opened t;
    ends = λ other is none. subst (λ (w : Way). KeptEnds w tells told before now old new (row_by w words) result) (way-is way other (sym asks ∙ is)) (ends-told line);
    noted = λ other is. subst (λ (w : Way). IsTrue (tells Notes) → NotedBy result (HasBegun (row_by w words).steps) before now) (way-is way other (sym asks ∙ is))
        (noted-run status result (row_by way words).steps before mid now run.of_run run.ran run.untold line);
    later = λ role. let first = run.later role in let then = leaves.later role in omega (arith, first, then);
    vault_later = run.vault_later;
    vault_calm = elim (ends-told line) [
      | inl refused ↦ calm-caused result old.faults new.faults refused.0.caused
      | inr at ↦ calm-caused result old.faults new.faults at.1.vault_cause
    ];
  }

-- ---- words that are no command

usage-is : {told : Bool} (word : ℕ) (result : Status) (before now : Meanings) → IsTold told (answer.Usage word) result before now → result ≡ answer.Usage word
usage-is word result before now (inl whole) = whole.answer
usage-is word result before now (inr cut) = cut.answer

else-right : {P : Type 0} (word : ℕ) (words : List (List ℕ)) → Some word ≡ bad_kept words → kept_verb_of words ≡ Else → P
else-right word words bad other = some-none word (bad_kept words) bad (ap (λ (verb : KeptVerb). bad_kept_as verb words) other)

pub kept-usage : (tells : Role → Bool) (told : Bool) (before now : Meanings) (old : VaultMeanings) (words : List (List ℕ)) (word : ℕ) (result : Status) → Some word ≡ bad_kept words → IsTold (tells Notes) (answer.Usage word) result before now → LeavesBut (Notes ∷ []) before now
    → KeptPromise tells told before now old old words result
kept-usage tells told before now old words word result bad line leaves = record {
  others = λ other. else-right word words bad other;
  usage = λ kept. ap usage_of (usage-is word result before now line) ∙ bad;
  unasked = λ some. (leaves, refl);
  opened = λ way is none t. some-none word (bad_kept words) bad none;
  ends = λ way is none. some-none word (bad_kept words) bad none;
  noted = λ way is notes. let own = noted-own (answer.Usage word) result before now refl line notes in subst (λ s. NotedBy s (HasBegun (row_by way words).steps) before now) (sym own.0) own.1;
  later = leaves.later;
  vault_later = omega arith;
  vault_calm = λ other. refl;
}

-- ---- words of other commands

pub kept-other : (tells : Role → Bool) (told : Bool) (before now : Meanings) (old : VaultMeanings) (words : List (List ℕ)) (result : Status) → kept_verb_of words ≡ Else → Promise tells before now words result → KeptPromise tells told before now old old words result
kept-other tells told before now old words result other promise = record {
  others = λ e. (promise, refl);
  usage = λ kept. absurd (kept other);
  unasked = λ some. some-right (bad_kept words) (ap (λ (verb : KeptVerb). bad_kept_as verb words) other) some;
  opened = λ way is none t. no-else way (sym is ∙ other);
  ends = λ way is none. no-else way (sym is ∙ other);
  noted = λ way is. no-else way (sym is ∙ other);
  later = promise.later;
  vault_later = omega arith;
  vault_calm = λ other. refl;
}
