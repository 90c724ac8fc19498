-- Right words, a right image, right events, room, and no fault give the model's own end: of a guarded and of a resumed run.
use Rattle.std.proofs.Common.{◌≡◌, ℕ, Bool, true, List, Option, None, Some, IsTrue, inl, inr, refl, sym, ◌∙◌, ap, subst, arith}
use Rattle.long_names.specs.Counting.{Rose}
use Rattle.long_names.specs.Heap.{Heap}
use Rattle.loom_host.specs.declared.outside.Role.{Role}
use Rattle.loom_host.specs.declared.outside.Role.TheVariants.{Image, Events, Work}
use Rattle.image_format.specs.Rules.{first_break, break}
use Rattle.image_format.specs.declared.opening.ImageHead.{ImageHead}
use Rattle.image_reader.specs.Loaded.{full_of}
use Rattle.event_file.specs.Text.{IsBadAt}
use Rattle.event_file.proofs.OneReading.{none-bad}
use Rattle.checkpoint.specs.Keeping.{serial_of}
use Rattle.checkpoint.specs.Layout.{bad_place, found, image_in}
use Rattle.checkpoint.specs.Vault.{VaultState, contents_of}
use Rattle.checkpoint.specs.declared.point.Point.{Point}
use Rattle.loom_run.specs.Completes.{HasRoom, IsOwnEnd}
use Rattle.loom_run.specs.Ends.{AreEvents, IsImageOf, JudgesImage, Stops, bytes_of}
use Rattle.loom_run.specs.Meanings.{Meanings}
use Rattle.loom_run.specs.Stages.{Stage, Opening, Reading, Listening, Making, Running, Finishing, Saving, Drawing, Telling, Ends}
use Rattle.loom_run.proofs.CompletesLaws.{none-some, roomy, unbroken}
use Rattle.loom_run.proofs.HeadlineLaws.{assembled-never, listed-never, made-never}
use Rattle.blue_model.specs.declared.event.Line.{Line}
use Rattle.blue_model.specs.Logs.{Course}
use Rattle.guarded_run.specs.Course.{guarded_course}
use Rattle.machine_run.specs.States.{model_state}
use Rattle.loom_words.specs.Kept.{ToGuard, ToResume, bad_kept, guard_row_of, kept_verb_of, resume_row_of}
use Rattle.loom_words.specs.Words.{Row}
use Rattle.loom_words.specs.declared.status.Status.{Status}
use Rattle.loom_words.specs.declared.status.Status.TheVariants as answer
use Rattle.loom_guard.specs.Completes.{CanEndKept}
use Rattle.loom_guard.specs.Promise.{ComesTo, KeptAt, KeptPromise}
use Rattle.loom_guard.specs.Vaults.{IsVaultRefusal, VaultMeanings}
use Rattle.loom_guard.specs.Ways.{Way, Guarding, Resuming, image_by, is_told}
use Rattle.loom_guard.proofs.StatusLaws.{ends-plain}
use Rattle.blue_model.specs.Guarded.{Guarded}
use Rattle.loom_guard.proofs.WayLaws.{by-told}

-- ---- answers of no stage

never-usage : (stage : Stage) → (word : ℕ) → Ends stage (answer.Usage word) → ⊥
never-usage Opening word h = h
never-usage Reading word h = h
never-usage Listening word h = h
never-usage Making word h = h
never-usage Running word h = h
never-usage Finishing word h = h
never-usage Saving word h = h
never-usage Drawing word h = h
never-usage Telling word h = h

never-text : (stage : Stage) → (line rule : ℕ) → Ends stage (answer.TextBad line rule) → ⊥
never-text Opening line rule h = h
never-text Reading line rule h = h
never-text Listening line rule h = h
never-text Making line rule h = h
never-text Running line rule h = h
never-text Finishing line rule h = h
never-text Saving line rule h = h
never-text Drawing line rule h = h
never-text Telling line rule h = h

never-point : (stage : Stage) → Ends stage answer.NoCheckpoint → ⊥
never-point Opening h = h
never-point Reading h = h
never-point Listening h = h
never-point Making h = h
never-point Running h = h
never-point Finishing h = h
never-point Saving h = h
never-point Drawing h = h
never-point Telling h = h

never-gate : (stage : Stage) → (place : ℕ) → Ends stage (answer.VaultBad place) → ⊥
never-gate Opening place h = h
never-gate Reading place h = h
never-gate Listening place h = h
never-gate Making place h = h
never-gate Running place h = h
never-gate Finishing place h = h
never-gate Saving place h = h
never-gate Drawing place h = h
never-gate Telling place h = h

-- want of memory apart, what stopped a run is the model's
stopped : (tells : Role → Bool) (before now : Meanings) (row : Row) (lines : List Line) (g : Guarded) (status : Status) (c : Course) → (status ≡ answer.OutOfMemory → ⊥) → ComesTo tells before now row lines g Running status c → Stops status row c
stopped tells before now row lines g status c other (inl r) = r.stops refl
stopped tells before now row lines g status c other (inr w) = absurd (other w.1.status_is)

-- ---- the ends

module _ (way : Way) (tells : Role → Bool) (told : Bool) (before now : Meanings) (old new : VaultMeanings) (row : Row) (image : IsTrue (is_told way tells told)) (events : IsTrue (tells Events)) (work : IsTrue (tells Work))
    (bytes : List ℕ) (first : ℕ) (can : CanEndKept bytes (bytes_of (now.roles Events)) row first before now old new) where
  abbrev At : Stage → Status → Type 0
  At stage status = KeptAt way tells told before now old new row stage status

  plain : (stage : Stage) (status : Status) → ((count : ℕ) → status ≡ answer.VaultFault count → ⊥) → At stage status → Ends stage status
  plain stage status other at = ends-plain stage status other at.answer

  module _ (stage : Stage) (status : Status) (at : At stage status) (same : image_by way now at.start at.point ≡ bytes) where
    judged : stage ≡ Reading → JudgesImage (tells Work) status row.room bytes
    judged e = subst (λ (b : List ℕ). JudgesImage (tells Work) status row.room b) same (at.judges image e)

  has-room : {stage : Stage} {status : Status} (at : At stage status) → image_by way now at.start at.point ≡ bytes → serial_of at.point ≡ first → (head : ImageHead) (heap : Heap) (lines : List Line) → IsImageOf (image_by way now at.start at.point) head heap → AreEvents (bytes_of (now.roles Events)) lines
      → HasRoom row (guarded_course lines row.steps (serial_of at.point) (model_state head.state) heap)
  has-room at same serial head heap lines is list = subst (λ n. HasRoom row (guarded_course lines row.steps n (model_state head.state) heap)) (sym serial) (can.roomy head heap lines (subst (λ (b : List ℕ). IsImageOf b head heap) same is) list)

  never-bad : (stage : Stage) (rule place : ℕ) → (at : At stage (answer.ImageBad rule place)) → image_by way now at.start at.point ≡ bytes → ⊥
  never-bad Opening rule place at same = plain Opening _ (λ count e. cc) at
  never-bad Reading rule place at same = none-some (first_break bytes) (break rule place) (unbroken row.room bytes can.right_image) (judged Reading (answer.ImageBad rule place) at same refl (λ whole. inl work)).1
  never-bad Listening rule place at same = plain Listening _ (λ count e. cc) at
  never-bad Making rule place at same = plain Making _ (λ count e. cc) at
  never-bad Running rule place at same = plain Running _ (λ count e. cc) at
  never-bad Finishing rule place at same = plain Finishing _ (λ count e. cc) at
  never-bad Saving rule place at same = plain Saving _ (λ count e. cc) at
  never-bad Drawing rule place at same = plain Drawing _ (λ count e. cc) at
  never-bad Telling rule place at same = plain Telling _ (λ count e. cc) at

  never-line : (stage : Stage) (line : ℕ) → At stage (answer.EventsBad line) → ⊥
  never-line Opening line at = plain Opening _ (λ count e. cc) at
  never-line Reading line at = plain Reading _ (λ count e. cc) at
  never-line Listening line at = none-bad can.right_events.0 line can.right_events.1.0 (subst (IsBadAt line) can.right_events.1.1 (at.reads.judges_events (by-told way tells Events (λ e. cc) events) refl))
  never-line Making line at = plain Making _ (λ count e. cc) at
  never-line Running line at = plain Running _ (λ count e. cc) at
  never-line Finishing line at = plain Finishing _ (λ count e. cc) at
  never-line Saving line at = plain Saving _ (λ count e. cc) at
  never-line Drawing line at = plain Drawing _ (λ count e. cc) at
  never-line Telling line at = plain Telling _ (λ count e. cc) at

  never-core : (stage : Stage) (ran : ℕ) (need : _) → (at : At stage (answer.CoreFull ran need)) → image_by way now at.start at.point ≡ bytes → serial_of at.point ≡ first → ⊥
  never-core Opening ran need at same serial = plain Opening _ (λ count e. cc) at
  never-core Reading ran need at same serial = plain Reading _ (λ count e. cc) at
  never-core Listening ran need at same serial = plain Listening _ (λ count e. cc) at
  never-core Making ran need at same serial = plain Making _ (λ count e. cc) at
  never-core Running ran need at same serial = (let r = at.run image events work refl in let stops = stopped tells before now row _ _ (answer.CoreFull ran need) _ (λ e. cc) r.run.0 in stops.1 ((has-room at same serial r.head r.heap r.lines r.is r.list).rows ran need stops.0))
  never-core Finishing ran need at same serial = plain Finishing _ (λ count e. cc) at
  never-core Saving ran need at same serial = plain Saving _ (λ count e. cc) at
  never-core Drawing ran need at same serial = plain Drawing _ (λ count e. cc) at
  never-core Telling ran need at same serial = plain Telling _ (λ count e. cc) at

  never-full : (stage : Stage) (live room : ℕ) → (at : At stage (answer.WorkFull live room)) → image_by way now at.start at.point ≡ bytes → serial_of at.point ≡ first → ⊥
  never-full Opening live room at same serial = plain Opening _ (λ count e. cc) at
  never-full Reading live room at same serial = none-some (full_of row.room bytes) live (roomy row.room bytes can.right_image) (judged Reading (answer.WorkFull live room) at same refl).2
  never-full Listening live room at same serial = plain Listening _ (λ count e. cc) at
  never-full Making live room at same serial = plain Making _ (λ count e. cc) at
  never-full Running live room at same serial = (let r = at.run image events work refl in let stops = stopped tells before now row _ _ (answer.WorkFull live room) _ (λ e. cc) r.run.0 in let most = (has-room at same serial r.head r.heap r.lines r.is r.list).lives stops.2.0 live stops.2.2 in let more = stops.1 in omega (arith, most, more))
  never-full Finishing live room at same serial = plain Finishing _ (λ count e. cc) at
  never-full Saving live room at same serial = plain Saving _ (λ count e. cc) at
  never-full Drawing live room at same serial = plain Drawing _ (λ count e. cc) at
  never-full Telling live room at same serial = plain Telling _ (λ count e. cc) at

  completes : (stage : Stage) (status : Status) (at : At stage status) → image_by way now at.start at.point ≡ bytes → serial_of at.point ≡ first → IsOwnEnd status
  completes stage (answer.Done ran) at same serial = tt
  completes stage (answer.Quit ran) at same serial = tt
  completes stage (answer.Made objects) at same serial = made-never stage objects (plain stage _ (λ count e. cc) at)
  completes stage (answer.Listed objects) at same serial = listed-never stage objects (plain stage _ (λ count e. cc) at)
  completes stage (answer.Assembled objects) at same serial = assembled-never stage objects (plain stage _ (λ count e. cc) at)
  completes stage (answer.Usage word) at same serial = never-usage stage word (plain stage _ (λ count e. cc) at)
  completes stage (answer.ImageBad rule place) at same serial = never-bad stage rule place at same
  completes stage (answer.EventsBad line) at same serial = never-line stage line at
  completes stage (answer.TextBad line rule) at same serial = never-text stage line rule (plain stage _ (λ count e. cc) at)
  completes stage (answer.Stuck cause ran) at same serial = tt
  completes stage (answer.CoreFull ran need) at same serial = never-core stage ran need at same serial
  completes stage (answer.NamesSpent ran) at same serial = tt
  completes stage (answer.WorkFull live room) at same serial = never-full stage live room at same serial
  completes stage (answer.ReadFault role count) at same serial = can.still role at.answered.cause.1
  completes stage (answer.WorkFault count) at same serial = can.still Work at.answered.cause.1
  completes stage (answer.WriteFault role count) at same serial = can.still role at.answered.cause.1
  completes stage answer.OutOfMemory at same serial = tt
  completes stage (answer.Damaged place name) at same serial = at.answered.whole work tt
  completes stage (answer.VaultFault count) at same serial = can.vault_still at.vault_cause.1
  completes stage answer.NoCheckpoint at same serial = never-point stage (plain stage _ (λ count e. cc) at)
  completes stage (answer.VaultBad place) at same serial = never-gate stage place (plain stage _ (λ count e. cc) at)

-- ---- by the promise

refused-guard : (told : Bool) (old new : VaultMeanings) (status : Status) → (Rose old.faults new.faults → ⊥) → IsVaultRefusal Guarding told old new status → IsOwnEnd status
refused-guard told old new (answer.Done ran) still h = tt
refused-guard told old new (answer.Quit ran) still h = tt
refused-guard told old new (answer.Made objects) still h = absurd h.refuses
refused-guard told old new (answer.Listed objects) still h = absurd h.refuses
refused-guard told old new (answer.Assembled objects) still h = absurd h.refuses
refused-guard told old new (answer.Usage word) still h = absurd h.refuses
refused-guard told old new (answer.ImageBad rule place) still h = absurd h.refuses
refused-guard told old new (answer.EventsBad line) still h = absurd h.refuses
refused-guard told old new (answer.TextBad line rule) still h = absurd h.refuses
refused-guard told old new (answer.Stuck cause ran) still h = tt
refused-guard told old new (answer.CoreFull ran need) still h = absurd h.refuses
refused-guard told old new (answer.NamesSpent ran) still h = tt
refused-guard told old new (answer.WorkFull live room) still h = absurd h.refuses
refused-guard told old new (answer.ReadFault role count) still h = absurd h.refuses
refused-guard told old new (answer.WorkFault count) still h = absurd h.refuses
refused-guard told old new (answer.WriteFault role count) still h = absurd h.refuses
refused-guard told old new answer.OutOfMemory still h = tt
refused-guard told old new (answer.Damaged place name) still h = absurd h.refuses
refused-guard told old new (answer.VaultFault count) still h = still h.caused.1
refused-guard told old new answer.NoCheckpoint still h = absurd h.refuses
refused-guard told old new (answer.VaultBad place) still h = absurd h.refuses

refused-resume : (old new : VaultMeanings) (point : Point) (status : Status) → (Rose old.faults new.faults → ⊥) → bad_place (contents_of old.state) ≡ None → found (contents_of old.state) ≡ Some point → IsVaultRefusal Resuming true old new status → IsOwnEnd status
refused-resume old new point (answer.Done ran) still whole there h = tt
refused-resume old new point (answer.Quit ran) still whole there h = tt
refused-resume old new point (answer.Made objects) still whole there h = absurd h.refuses
refused-resume old new point (answer.Listed objects) still whole there h = absurd h.refuses
refused-resume old new point (answer.Assembled objects) still whole there h = absurd h.refuses
refused-resume old new point (answer.Usage word) still whole there h = absurd h.refuses
refused-resume old new point (answer.ImageBad rule place) still whole there h = absurd h.refuses
refused-resume old new point (answer.EventsBad line) still whole there h = absurd h.refuses
refused-resume old new point (answer.TextBad line rule) still whole there h = absurd h.refuses
refused-resume old new point (answer.Stuck cause ran) still whole there h = tt
refused-resume old new point (answer.CoreFull ran need) still whole there h = absurd h.refuses
refused-resume old new point (answer.NamesSpent ran) still whole there h = tt
refused-resume old new point (answer.WorkFull live room) still whole there h = absurd h.refuses
refused-resume old new point (answer.ReadFault role count) still whole there h = absurd h.refuses
refused-resume old new point (answer.WorkFault count) still whole there h = absurd h.refuses
refused-resume old new point (answer.WriteFault role count) still whole there h = absurd h.refuses
refused-resume old new point answer.OutOfMemory still whole there h = tt
refused-resume old new point (answer.Damaged place name) still whole there h = absurd h.refuses
refused-resume old new point (answer.VaultFault count) still whole there h = still h.caused.1
refused-resume old new point answer.NoCheckpoint still whole there h = none-some (found (contents_of old.state)) point (h.refuses refl).1 there
refused-resume old new point (answer.VaultBad place) still whole there h = none-some (bad_place (contents_of old.state)) place whole (h.refuses refl)

pub guard-completes : (tells : Role → Bool) (told : Bool) (before now : Meanings) (old new : VaultMeanings) (words : List (List ℕ)) (result : Status) → IsTrue (tells Image) → IsTrue (tells Events) → IsTrue (tells Work) → kept_verb_of words ≡ ToGuard → bad_kept words ≡ None
    → KeptPromise tells told before now old new words result → CanEndKept (bytes_of (now.roles Image)) (bytes_of (now.roles Events)) (guard_row_of words) 0 before now old new → IsOwnEnd result
guard-completes tells told before now old new words result image events work asks right p can = elim (p.ends Guarding asks right) [
  | inl refused ↦ refused-guard told old new result can.vault_still refused.0
  | inr at ↦ completes Guarding tells told before now old new (guard_row_of words) image events work (bytes_of (now.roles Image)) 0 can at.0 result at.1 refl (ap serial_of (at.1.none refl))
]

pub image-kept : (now : Meanings) (old start : VaultState) (found_point : Option Point) (point : Point) → found_point ≡ Some point → contents_of start ≡ contents_of old → image_by Resuming now start found_point ≡ image_in (contents_of old) point
image-kept now old start found_point point is same = ap (image_by Resuming now start) is ∙ ap (λ (bytes : List ℕ). image_in bytes point) same

pub resume-completes : (tells : Role → Bool) (before now : Meanings) (old new : VaultMeanings) (words : List (List ℕ)) (point : Point) (result : Status) → IsTrue (tells Events) → IsTrue (tells Work) → kept_verb_of words ≡ ToResume → bad_kept words ≡ None
    → KeptPromise tells true before now old new words result → bad_place (contents_of old.state) ≡ None → found (contents_of old.state) ≡ Some point
    → CanEndKept (image_in (contents_of old.state) point) (bytes_of (now.roles Events)) (resume_row_of words) point.serial before now old new → IsOwnEnd result
resume-completes tells before now old new words point result events work asks right p whole there can = elim (p.ends Resuming asks right) [
  | inl refused ↦ refused-resume old new point result can.vault_still whole there refused.0
  | inr at ↦ (let starts = at.1.starts refl in let is = sym starts.from.1 ∙ there in
      completes Resuming tells true before now old new (resume_row_of words) refl events work (image_in (contents_of old.state) point) point.serial can at.0 result at.1 (image-kept now old.state at.1.start at.1.point point is starts.finds.same) (ap serial_of is))
]
