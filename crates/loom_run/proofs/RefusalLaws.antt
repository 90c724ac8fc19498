-- No answer comes at once, and what a refusal leaves.
use Rattle.std.proofs.Common.{◌≡◌, ◌≢◌, ℕ, Bool, List, [], ◌∷◌, None, Some, Option, IsTrue, inl, inr, refl, sym, ◌∙◌, subst}
use Rattle.std.specs.Prelude.{◌⊎◌, IsFalse, IsSome}
use Rattle.loom_host.specs.declared.outside.Role.{Role}
use Rattle.loom_host.specs.declared.outside.Role.TheVariants.{Image, Events, Saved, Display, Transcript, Notes}
use Rattle.loom_run.specs.Converts.{ConvertsAt, EndsConversion, EndsSource, EndsWhole, is_unused}
use Rattle.loom_run.specs.declared.converting.Way.{Way}
use Rattle.loom_run.specs.declared.converting.Way.TheVariants.{Listing, Assembling}
use Rattle.loom_run.specs.Makes.{Makes}
use Rattle.loom_run.specs.Meanings.{Meanings, IsLeft, LeavesBut}
use Rattle.loom_run.specs.Promise.{EndsAt, Promise}
use Rattle.loom_run.specs.Refusals.{CameTo, CameToTraced, LeavesFiles, LeavesTraced, role_of, traced_role_of}
use Rattle.loom_run.specs.Stages.{Stage, Opening, Reading, Listening, Making, Running, Finishing, Saving, Drawing, Telling, Ends, reaches, stage_of}
use Rattle.loom_run.specs.Traced.{EndsTrace, TracesAt, is_untraced, traced_stage}
use Rattle.loom_words.specs.Status.{usage_of}
use Rattle.loom_words.specs.Words.{MakeRow, Paths, Row, ToAssemble, ToList, ToMake, ToRun, ToTrace, Verb, bad_word, make_of, row_of, trace_row_of, verb_of}
use Rattle.loom_words.specs.declared.status.Status.{Status}
use Rattle.loom_words.specs.declared.status.Status.TheVariants as answer
use Rattle.loom_run.proofs.UsesLaws.{never}

-- ---- an answer comes at no stage before the one of its role

reached : (stage : Stage) (status : Status) → Ends stage status → IsTrue (reaches (stage_of (role_of status)) stage)
reached Opening (answer.WorkFault count) h = refl
reached Opening _ h = absurd h
reached Reading (answer.ImageBad rule place) h = refl
reached Reading (answer.ReadFault Image count) h = refl
reached Reading (answer.WorkFull live room) h = refl
reached Reading (answer.WorkFault count) h = refl
reached Reading (answer.Damaged place name) h = refl
reached Reading answer.OutOfMemory h = refl
reached Reading _ h = absurd h
reached Listening (answer.EventsBad line) h = refl
reached Listening (answer.ReadFault Events count) h = refl
reached Listening answer.OutOfMemory h = refl
reached Listening _ h = absurd h
reached Making answer.OutOfMemory h = refl
reached Making _ h = absurd h
reached Running (answer.Stuck cause ran) h = refl
reached Running (answer.CoreFull ran need) h = refl
reached Running (answer.NamesSpent ran) h = refl
reached Running (answer.WorkFull live room) h = refl
reached Running (answer.WorkFault count) h = refl
reached Running (answer.WriteFault Transcript count) h = refl
reached Running (answer.Damaged place name) h = refl
reached Running answer.OutOfMemory h = refl
reached Running _ h = absurd h
reached Finishing (answer.WorkFault count) h = refl
reached Finishing (answer.Damaged place name) h = refl
reached Finishing _ h = absurd h
reached Saving (answer.WriteFault Saved count) h = refl
reached Saving (answer.WorkFault count) h = refl
reached Saving (answer.Damaged place name) h = refl
reached Saving answer.OutOfMemory h = refl
reached Saving _ h = absurd h
reached Drawing (answer.WriteFault Display count) h = refl
reached Drawing _ h = absurd h
reached Telling (answer.Done ran) h = refl
reached Telling (answer.Quit ran) h = refl
reached Telling (answer.WriteFault Notes count) h = refl
reached Telling _ h = absurd h

pub came_from : (tells : Role → Bool) (before now : Meanings) (words : List (List ℕ)) (result : Status) → Promise tells before now words result → verb_of words ≡ ToRun → usage_of result ≡ None → CameTo tells before now (row_of words) (role_of result)
came_from tells before now words result p asks none =
    let e = p.ends asks (sym p.usage ∙ none) in
    λ told. e.1.attached (role_of result) told (reached e.0 result e.1.answer)

traced-reached : (stage : Stage) (status : Status) → EndsTrace stage status → IsTrue (reaches (traced_stage (traced_role_of status)) stage)
traced-reached Opening (answer.WorkFault count) h = refl
traced-reached Opening _ h = absurd h
traced-reached Reading (answer.ImageBad rule place) h = refl
traced-reached Reading (answer.ReadFault Image count) h = refl
traced-reached Reading (answer.WorkFull live room) h = refl
traced-reached Reading (answer.WorkFault count) h = refl
traced-reached Reading (answer.Damaged place name) h = refl
traced-reached Reading answer.OutOfMemory h = refl
traced-reached Reading _ h = absurd h
traced-reached Listening (answer.EventsBad line) h = refl
traced-reached Listening (answer.ReadFault Events count) h = refl
traced-reached Listening answer.OutOfMemory h = refl
traced-reached Listening _ h = absurd h
traced-reached Making (answer.WriteFault Saved count) h = refl
traced-reached Making answer.OutOfMemory h = refl
traced-reached Making _ h = absurd h
traced-reached Running (answer.Stuck cause ran) h = refl
traced-reached Running (answer.CoreFull ran need) h = refl
traced-reached Running (answer.NamesSpent ran) h = refl
traced-reached Running (answer.WorkFull live room) h = refl
traced-reached Running (answer.WorkFault count) h = refl
traced-reached Running (answer.WriteFault Transcript count) h = refl
traced-reached Running (answer.WriteFault Saved count) h = refl
traced-reached Running (answer.Damaged place name) h = refl
traced-reached Running _ h = absurd h
traced-reached Telling (answer.Done ran) h = refl
traced-reached Telling (answer.Quit ran) h = refl
traced-reached Telling (answer.WriteFault Notes count) h = refl
traced-reached Telling _ h = absurd h
traced-reached Finishing status h = absurd h
traced-reached Saving status h = absurd h
traced-reached Drawing status h = absurd h

pub traced_came_from : (tells : Role → Bool) (before now : Meanings) (words : List (List ℕ)) (result : Status) → Promise tells before now words result → verb_of words ≡ ToTrace → usage_of result ≡ None
    → CameToTraced tells before now (trace_row_of words) (traced_role_of result)
traced_came_from tells before now words result p asks none =
    let e = p.traces asks (sym p.usage ∙ none) in
    λ told. e.1.attached (traced_role_of result) told (traced-reached e.0 result e.1.answer)

-- ---- what was not reached is left

left-of : {before now : Meanings} (role : Role) → role ≢ Notes → (role ≡ Notes) ⊎ IsLeft role before now → IsLeft role before now
left-of role other (inl e) = absurd (other e)
left-of role other (inr left) = left

module _ {tells : Role → Bool} {before now : Meanings} {row : Row} where
  no-saved : {status : Status} (stage : Stage) → EndsAt tells before now row stage status → IsFalse (reaches Saving stage) → IsLeft Saved before now
  no-saved stage at none = left-of Saved (λ e. cc) (at.unused Saved none)

  no-display : {status : Status} (stage : Stage) → EndsAt tells before now row stage status → IsFalse (reaches Drawing stage) → IsLeft Display before now
  no-display stage at none = left-of Display (λ e. cc) (at.unused Display none)

  both : {status : Status} (stage : Stage) → EndsAt tells before now row stage status → IsFalse (reaches Saving stage) → IsFalse (reaches Drawing stage) → IsLeft Saved before now × IsLeft Display before now
  both stage at first second = (no-saved stage at first, no-display stage at second)

  leaves : (stage : Stage) (status : Status) → Ends stage status → EndsAt tells before now row stage status → LeavesFiles status before now
  leaves Opening (answer.WorkFault count) h at = no-display Opening at refl
  leaves Opening _ h at = absurd h
  leaves Reading (answer.ImageBad rule place) h at = both Reading at refl refl
  leaves Reading (answer.ReadFault Image count) h at = both Reading at refl refl
  leaves Reading (answer.WorkFull live room) h at = both Reading at refl refl
  leaves Reading (answer.WorkFault count) h at = no-display Reading at refl
  leaves Reading (answer.Damaged place name) h at = no-display Reading at refl
  leaves Reading answer.OutOfMemory h at = no-display Reading at refl
  leaves Reading _ h at = absurd h
  leaves Listening (answer.EventsBad line) h at = both Listening at refl refl
  leaves Listening (answer.ReadFault Events count) h at = both Listening at refl refl
  leaves Listening answer.OutOfMemory h at = no-display Listening at refl
  leaves Listening _ h at = absurd h
  leaves Making answer.OutOfMemory h at = no-display Making at refl
  leaves Making _ h at = absurd h
  leaves Running (answer.Stuck cause ran) h at = both Running at refl refl
  leaves Running (answer.CoreFull ran need) h at = both Running at refl refl
  leaves Running (answer.NamesSpent ran) h at = both Running at refl refl
  leaves Running (answer.WorkFull live room) h at = both Running at refl refl
  leaves Running (answer.WorkFault count) h at = no-display Running at refl
  leaves Running (answer.WriteFault Transcript count) h at = both Running at refl refl
  leaves Running (answer.Damaged place name) h at = no-display Running at refl
  leaves Running answer.OutOfMemory h at = no-display Running at refl
  leaves Running _ h at = absurd h
  leaves Finishing (answer.WorkFault count) h at = no-display Finishing at refl
  leaves Finishing (answer.Damaged place name) h at = no-display Finishing at refl
  leaves Finishing _ h at = absurd h
  leaves Saving (answer.WriteFault Saved count) h at = no-display Saving at refl
  leaves Saving (answer.WorkFault count) h at = no-display Saving at refl
  leaves Saving (answer.Damaged place name) h at = no-display Saving at refl
  leaves Saving answer.OutOfMemory h at = no-display Saving at refl
  leaves Saving _ h at = absurd h
  leaves Drawing (answer.WriteFault Display count) h at = tt
  leaves Drawing _ h at = absurd h
  leaves Telling (answer.Done ran) h at = tt
  leaves Telling (answer.Quit ran) h at = tt
  leaves Telling (answer.WriteFault Notes count) h at = tt
  leaves Telling _ h at = absurd h

-- a making leaves Display
made-leaves : (tells : Role → Bool) (before now : Meanings) (row : MakeRow) (status : Status) → Makes tells before now row status → LeavesFiles status before now
made-leaves tells before now row (answer.Made objects) m = m.others.others Display (λ e. cc, (λ e. cc, tt))
made-leaves tells before now row (answer.WriteFault Saved count) m = m.others.others Display (λ e. cc, (λ e. cc, tt))
made-leaves tells before now row (answer.WriteFault Notes count) m = tt
made-leaves tells before now row answer.OutOfMemory m = m.others.others Display (λ e. cc, tt)
made-leaves tells before now row _ m = absurd m.answer

-- a listing and an assembling leave Display, and Saved where they read none
module _ {tells : Role → Bool} {before now : Meanings} {way : Way} {paths : Paths} where
  undrawn : {status : Status} (stage : Stage) → ConvertsAt tells before now way paths stage status → IsLeft Display before now
  undrawn stage at = at.unused Display refl

  unwritten : {status : Status} (stage : Stage) → ConvertsAt tells before now way paths stage status → IsTrue (is_unused Saved stage) → IsLeft Saved before now × IsLeft Display before now
  unwritten stage at none = (at.unused Saved none, at.unused Display refl)

  source-leaves : (w : Way) (status : Status) → EndsSource w status → ConvertsAt tells before now way paths Reading status → LeavesFiles status before now
  source-leaves Listing (answer.ImageBad rule place) h at = unwritten Reading at refl
  source-leaves Listing (answer.ReadFault Image count) h at = unwritten Reading at refl
  source-leaves Listing (answer.WorkFull live room) h at = unwritten Reading at refl
  source-leaves Listing (answer.WorkFault count) h at = undrawn Reading at
  source-leaves Listing (answer.Damaged place name) h at = undrawn Reading at
  source-leaves Listing answer.OutOfMemory h at = undrawn Reading at
  source-leaves Listing _ h at = absurd h
  source-leaves Assembling (answer.TextBad line rule) h at = unwritten Reading at refl
  source-leaves Assembling (answer.ReadFault Image count) h at = unwritten Reading at refl
  source-leaves Assembling (answer.WorkFault count) h at = undrawn Reading at
  source-leaves Assembling (answer.Damaged place name) h at = undrawn Reading at
  source-leaves Assembling answer.OutOfMemory h at = undrawn Reading at
  source-leaves Assembling _ h at = absurd h

  whole-leaves : (w : Way) (status : Status) → EndsWhole w status → ConvertsAt tells before now way paths Telling status → LeavesFiles status before now
  whole-leaves Listing (answer.Listed objects) h at = undrawn Telling at
  whole-leaves Listing (answer.WriteFault Notes count) h at = tt
  whole-leaves Listing _ h at = absurd h
  whole-leaves Assembling (answer.Assembled objects) h at = undrawn Telling at
  whole-leaves Assembling (answer.WriteFault Notes count) h at = tt
  whole-leaves Assembling _ h at = absurd h

  conversion-leaves : (stage : Stage) (status : Status) → EndsConversion stage way status → ConvertsAt tells before now way paths stage status → LeavesFiles status before now
  conversion-leaves Opening (answer.WorkFault count) h at = undrawn Opening at
  conversion-leaves Opening _ h at = absurd h
  conversion-leaves Reading status h at = source-leaves way status h at
  conversion-leaves Saving (answer.WriteFault Saved count) h at = undrawn Saving at
  conversion-leaves Saving (answer.WorkFault count) h at = undrawn Saving at
  conversion-leaves Saving (answer.Damaged place name) h at = undrawn Saving at
  conversion-leaves Saving answer.OutOfMemory h at = undrawn Saving at
  conversion-leaves Saving _ h at = absurd h
  conversion-leaves Telling status h at = whole-leaves way status h at
  conversion-leaves Listening status h at = absurd h
  conversion-leaves Making status h at = absurd h
  conversion-leaves Running status h at = absurd h
  conversion-leaves Finishing status h at = absurd h
  conversion-leaves Drawing status h at = absurd h

-- a trace leaves Display, and Saved where it came before the lines
module _ {tells : Role → Bool} {before now : Meanings} {row : Row} where
  undrawn-trace : {status : Status} (stage : Stage) → TracesAt tells before now row stage status → IsLeft Display before now
  undrawn-trace stage at = at.unused Display refl

  untraced : {status : Status} (stage : Stage) → TracesAt tells before now row stage status → IsTrue (is_untraced Saved stage) → IsLeft Saved before now × IsLeft Display before now
  untraced stage at none = (at.unused Saved none, at.unused Display refl)

  trace-leaves : (stage : Stage) (status : Status) → EndsTrace stage status → TracesAt tells before now row stage status → LeavesTraced status before now
  trace-leaves Opening (answer.WorkFault count) h at = undrawn-trace Opening at
  trace-leaves Opening _ h at = absurd h
  trace-leaves Reading (answer.ImageBad rule place) h at = untraced Reading at refl
  trace-leaves Reading (answer.ReadFault Image count) h at = untraced Reading at refl
  trace-leaves Reading (answer.WorkFull live room) h at = undrawn-trace Reading at
  trace-leaves Reading (answer.WorkFault count) h at = undrawn-trace Reading at
  trace-leaves Reading (answer.Damaged place name) h at = undrawn-trace Reading at
  trace-leaves Reading answer.OutOfMemory h at = undrawn-trace Reading at
  trace-leaves Reading _ h at = absurd h
  trace-leaves Listening (answer.EventsBad line) h at = untraced Listening at refl
  trace-leaves Listening (answer.ReadFault Events count) h at = untraced Listening at refl
  trace-leaves Listening answer.OutOfMemory h at = undrawn-trace Listening at
  trace-leaves Listening _ h at = absurd h
  trace-leaves Making (answer.WriteFault Saved count) h at = undrawn-trace Making at
  trace-leaves Making answer.OutOfMemory h at = undrawn-trace Making at
  trace-leaves Making _ h at = absurd h
  trace-leaves Running (answer.Stuck cause ran) h at = undrawn-trace Running at
  trace-leaves Running (answer.CoreFull ran need) h at = undrawn-trace Running at
  trace-leaves Running (answer.NamesSpent ran) h at = undrawn-trace Running at
  trace-leaves Running (answer.WorkFull live room) h at = undrawn-trace Running at
  trace-leaves Running (answer.WorkFault count) h at = undrawn-trace Running at
  trace-leaves Running (answer.WriteFault Transcript count) h at = undrawn-trace Running at
  trace-leaves Running (answer.WriteFault Saved count) h at = undrawn-trace Running at
  trace-leaves Running (answer.Damaged place name) h at = undrawn-trace Running at
  trace-leaves Running _ h at = absurd h
  trace-leaves Telling (answer.Done ran) h at = undrawn-trace Telling at
  trace-leaves Telling (answer.Quit ran) h at = undrawn-trace Telling at
  trace-leaves Telling (answer.WriteFault Notes count) h at = undrawn-trace Telling at
  trace-leaves Telling _ h at = absurd h
  trace-leaves Finishing status h at = absurd h
  trace-leaves Saving status h at = absurd h
  trace-leaves Drawing status h at = absurd h

-- words that are no command leave all but Notes
unasked : {before now : Meanings} (status : Status) → IsSome (usage_of status) → LeavesBut (Notes ∷ []) before now → LeavesFiles status before now × LeavesTraced status before now
unasked (answer.Usage word) is l = ((l.others Saved (λ e. cc, tt), l.others Display (λ e. cc, tt)), (l.others Saved (λ e. cc, tt), l.others Display (λ e. cc, tt)))
unasked _ is l = never is

unasked-leaves : (tells : Role → Bool) (before now : Meanings) (words : List (List ℕ)) (result : Status) (word : ℕ) → Promise tells before now words result → bad_word words ≡ Some word → LeavesFiles result before now × LeavesTraced result before now
unasked-leaves tells before now words result word p is = unasked result (subst IsSome (sym (p.usage ∙ is)) refl) (p.unasked (subst IsSome (sym is) refl))

pub leaves_from : (tells : Role → Bool) (before now : Meanings) (words : List (List ℕ)) (result : Status) → Promise tells before now words result → verb_of words ≢ ToTrace → LeavesFiles result before now
leaves_from tells before now words result p other = go (bad_word words) refl
  where
    right : (verb : Verb) → verb_of words ≡ verb → bad_word words ≡ None → LeavesFiles result before now
    right ToRun asks e = let end = p.ends asks e in leaves end.0 result end.1.answer end.1
    right ToMake asks e = made-leaves tells before now (make_of words) result (p.makes asks e)
    right ToList asks e = let end = p.converts Listing asks e in conversion-leaves end.0 result end.1.answer end.1
    right ToAssemble asks e = let end = p.converts Assembling asks e in conversion-leaves end.0 result end.1.answer end.1
    right ToTrace asks e = absurd (other asks)

    go : (o : Option ℕ) → bad_word words ≡ o → LeavesFiles result before now
    go None e = right (verb_of words) refl e
    go (Some word) e = (unasked-leaves tells before now words result word p e).0

pub traced_leaves_from : (tells : Role → Bool) (before now : Meanings) (words : List (List ℕ)) (result : Status) → Promise tells before now words result → verb_of words ≡ ToTrace → LeavesTraced result before now
traced_leaves_from tells before now words result p asks = go (bad_word words) refl
  where
    go : (o : Option ℕ) → bad_word words ≡ o → LeavesTraced result before now
    go None e = let end = p.traces asks e in trace-leaves end.0 result end.1.answer end.1
    go (Some word) e = (unasked-leaves tells before now words result word p e).1
