-- Right words of a trace, a right image, right events, room, and no fault give the model's own end.
use Rattle.std.proofs.Common.{◌≡◌, ℕ, Bool, List, None, IsTrue, inl, refl, subst, arith}
use Rattle.loom_host.specs.declared.outside.Role.{Role}
use Rattle.loom_host.specs.declared.outside.Role.TheVariants.{Image, Events, Work, Saved, Transcript, Notes}
use Rattle.image_format.specs.Rules.{first_break, break}
use Rattle.image_reader.specs.Loaded.{full_of}
use Rattle.event_file.specs.Text.{IsBadAt}
use Rattle.event_file.proofs.OneReading.{none-bad}
use Rattle.loom_run.specs.Completes.{CanEnd, IsOwnEnd}
use Rattle.loom_run.specs.Ends.{bytes_of}
use Rattle.loom_run.specs.Meanings.{Meanings}
use Rattle.loom_run.specs.Promise.{Promise}
use Rattle.loom_run.specs.Stages.{Stage, Opening, Reading, Listening, Making, Running, Finishing, Saving, Drawing, Telling}
use Rattle.loom_run.specs.Traced.{EndsTrace, TracesAt}
use Rattle.loom_words.specs.Words.{Row, ToTrace, bad_word, trace_row_of, verb_of}
use Rattle.loom_words.specs.declared.status.Status.{Status}
use Rattle.loom_words.specs.declared.status.Status.TheVariants as answer
use Rattle.loom_run.proofs.CompletesLaws.{none-some, roomy, unbroken}

module _ (tells : Role → Bool) (before now : Meanings) (row : Row) (image : IsTrue (tells Image)) (events : IsTrue (tells Events)) (work : IsTrue (tells Work)) (can : CanEnd (bytes_of (now.roles Image)) (bytes_of (now.roles Events)) row before.faults now.faults) where
  no-core : (ran : ℕ) (need : _) → TracesAt tells before now row Running (answer.CoreFull ran need) → ⊥
  no-core ran need at =
      let r = at.trace image events work refl in
      let stops = r.trace.stops refl in
      stops.1 ((can.roomy r.head r.heap r.lines r.is r.list).rows ran need stops.0)

  no-full : (live room : ℕ) → TracesAt tells before now row Running (answer.WorkFull live room) → ⊥
  no-full live room at =
      let r = at.trace image events work refl in
      let stops = r.trace.stops refl in
      let most = (can.roomy r.head r.heap r.lines r.is r.list).lives stops.2.0 live stops.2.2 in
      let more = stops.1 in
      omega (arith, most, more)

  traced : (stage : Stage) (status : Status) → EndsTrace stage status → TracesAt tells before now row stage status → IsOwnEnd status
  traced Opening (answer.WorkFault count) h at = absurd (can.still Work at.answered.cause.1)
  traced Opening _ h at = absurd h
  traced Reading (answer.ImageBad rule place) h at = none-some (first_break (bytes_of (now.roles Image))) (break rule place) (unbroken row.room _ can.right_image) (at.reads.judges_image image refl (λ whole. inl work)).1
  traced Reading (answer.ReadFault Image count) h at = absurd (can.still Image at.answered.cause.1)
  traced Reading (answer.WorkFull live room) h at = none-some (full_of row.room (bytes_of (now.roles Image))) live (roomy row.room _ can.right_image) (at.reads.judges_image image refl).2
  traced Reading (answer.WorkFault count) h at = absurd (can.still Work at.answered.cause.1)
  traced Reading (answer.Damaged place name) h at = absurd (at.answered.whole work tt)
  traced Reading answer.OutOfMemory h at = tt
  traced Reading _ h at = absurd h
  traced Listening (answer.EventsBad line) h at = absurd (none-bad can.right_events.0 line can.right_events.1.0 (subst (IsBadAt line) can.right_events.1.1 (at.reads.judges_events events refl)))
  traced Listening (answer.ReadFault Events count) h at = absurd (can.still Events at.answered.cause.1)
  traced Listening answer.OutOfMemory h at = tt
  traced Listening _ h at = absurd h
  traced Making (answer.WriteFault Saved count) h at = absurd (can.still Saved at.answered.cause.1)
  traced Making answer.OutOfMemory h at = tt
  traced Making _ h at = absurd h
  traced Running (answer.Stuck cause ran) h at = tt
  traced Running (answer.CoreFull ran need) h at = absurd (no-core ran need at)
  traced Running (answer.NamesSpent ran) h at = tt
  traced Running (answer.WorkFull live room) h at = absurd (no-full live room at)
  traced Running (answer.WorkFault count) h at = absurd (can.still Work at.answered.cause.1)
  traced Running (answer.WriteFault Transcript count) h at = absurd (can.still Transcript at.answered.cause.1)
  traced Running (answer.WriteFault Saved count) h at = absurd (can.still Saved at.answered.cause.1)
  traced Running (answer.Damaged place name) h at = absurd (at.answered.whole work tt)
  traced Running _ h at = absurd h
  traced Telling (answer.Done ran) h at = tt
  traced Telling (answer.Quit ran) h at = tt
  traced Telling (answer.WriteFault Notes count) h at = absurd (can.still Notes at.answered.cause.1)
  traced Telling _ h at = absurd h
  traced Finishing status h at = absurd h
  traced Saving status h at = absurd h
  traced Drawing status h at = absurd h

pub traced_from : (tells : Role → Bool) (before now : Meanings) (words : List (List ℕ)) (result : Status) → IsTrue (tells Image) → IsTrue (tells Events) → IsTrue (tells Work) → verb_of words ≡ ToTrace → bad_word words ≡ None → Promise tells before now words result
    → CanEnd (bytes_of (now.roles Image)) (bytes_of (now.roles Events)) (trace_row_of words) before.faults now.faults → IsOwnEnd result
traced_from tells before now words result image events work asks right p can = let e = p.traces asks right in traced tells before now (trace_row_of words) image events work can e.0 result e.1.answer e.1
