-- Right words, a right image, right events, room, and no fault give the model's own end; and right words of a making and no fault its image.
use Rattle.std.proofs.Common.{◌≡◌, ℕ, ◌≤◌, ◌++◌, Bool, false, List, Option, None, Some, nat_lt, IsTrue, inl, refl, sym, ◌∙◌, ap, subst, append_assoc, arith}
use Rattle.std.proofs.lemmas.Bool.Decides.{nat_tests}
use Rattle.long_names.specs.Counting.{Rose}
use Rattle.loom_host.specs.declared.outside.Role.{Role}
use Rattle.loom_host.specs.declared.outside.Role.TheVariants.{Image, Events, Work, Saved, Notes}
use Rattle.image_format.specs.Heads.{opening_at, opening_text, stated_text}
use Rattle.image_format.specs.Rules.{first_break, break}
use Rattle.image_format.specs.Text.{records_below}
use Rattle.image_format.proofs.ImageLaws.{image_read, unbroken_from}
use Rattle.image_format.proofs.Openings.{opening_again}
use Rattle.image_reader.specs.Loaded.{full_of, too_many}
use Rattle.event_file.specs.Text.{IsBadAt}
use Rattle.event_file.proofs.OneReading.{none-bad}
use Rattle.loom_run.specs.Completes.{CanEnd, IsMadeOf, IsOwnEnd}
use Rattle.loom_run.specs.Makes.{Makes}
use Rattle.loom_run.specs.Ends.{IsRightImage, bytes_of}
use Rattle.loom_run.specs.Meanings.{Meanings}
use Rattle.loom_run.specs.Promise.{EndsAt, Promise}
use Rattle.loom_run.specs.Stages.{Stage, Opening, Reading, Listening, Making, Running, Finishing, Saving, Drawing, Telling, Ends}
use Rattle.loom_words.specs.Words.{MakeRow, Row, ToMake, ToRun, bad_word, make_of, row_of, verb_of}
use Rattle.loom_words.specs.declared.status.Status.{Status}
use Rattle.loom_words.specs.declared.status.Status.TheVariants as answer
use Rattle.loom_run.proofs.HeadlineLaws.{assembled-never, listed-never, made-never}

-- ---- a right image

pub unbroken : (room : ℕ) (bytes : List ℕ) → IsRightImage room bytes → first_break bytes ≡ None
unbroken room bytes r = unbroken_from bytes (record { heap = r.heap; head = r.head; is = r.image.is; of_heap = r.image.of_heap; text = r.image.text })

few : (room objects : ℕ) → objects ≤ room → nat_lt room objects ≡ false
few room objects le = grind (arith, nat_tests)

pub roomy : (room : ℕ) (bytes : List ℕ) → IsRightImage room bytes → full_of room bytes ≡ None
roomy room bytes r =
    let opening = (image_read bytes r.heap r.head r.image.is r.image.of_heap r.image.text).head.opening in
    let text : bytes ≡ opening_text r.head.opening ++ (stated_text r.head ++ records_below r.heap r.heap.next) = r.image.text ∙ append_assoc (opening_text r.head.opening) (stated_text r.head) (records_below r.heap r.heap.next) in
    ap (too_many room) (ap opening_at text ∙ opening_again r.head.opening _ opening) ∙ rw (few room r.head.opening.objects r.roomy) refl

pub none-some : {A : Type 0} {P : Type 0} (o : Option A) (x : A) → o ≡ None → o ≡ Some x → P
none-some {A} {P} o x none some = let no : ◌≡◌ {A = Option A} None (Some x) = sym none ∙ some in absurd (cc)

-- ---- the ends

module _ (tells : Role → Bool) (before now : Meanings) (row : Row) (image : IsTrue (tells Image)) (events : IsTrue (tells Events)) (work : IsTrue (tells Work)) (can : CanEnd (bytes_of (now.roles Image)) (bytes_of (now.roles Events)) row before.faults now.faults) where
  never-usage : (stage : Stage) (word : ℕ) → Ends stage (answer.Usage word) → ⊥
  never-usage Opening word h = h
  never-usage Reading word h = h
  never-usage Listening word h = h
  never-usage Making word h = h
  never-usage Running word h = h
  never-usage Finishing word h = h
  never-usage Saving word h = h
  never-usage Drawing word h = h
  never-usage Telling word h = h

  never-text : (stage : Stage) (line rule : ℕ) → Ends stage (answer.TextBad line rule) → ⊥
  never-text Opening line rule h = h
  never-text Reading line rule h = h
  never-text Listening line rule h = h
  never-text Making line rule h = h
  never-text Running line rule h = h
  never-text Finishing line rule h = h
  never-text Saving line rule h = h
  never-text Drawing line rule h = h
  never-text Telling line rule h = h

  never-vault : (stage : Stage) (count : ℕ) → Ends stage (answer.VaultFault count) → ⊥
  never-vault Opening count h = h
  never-vault Reading count h = h
  never-vault Listening count h = h
  never-vault Making count h = h
  never-vault Running count h = h
  never-vault Finishing count h = h
  never-vault Saving count h = h
  never-vault Drawing count h = h
  never-vault Telling count h = h

  never-point : (stage : Stage) → Ends stage answer.NoCheckpoint → ⊥
  never-point Opening h = h
  never-point Reading h = h
  never-point Listening h = h
  never-point Making h = h
  never-point Running h = h
  never-point Finishing h = h
  never-point Saving h = h
  never-point Drawing h = h
  never-point Telling h = h

  never-gate : (stage : Stage) (place : ℕ) → Ends stage (answer.VaultBad place) → ⊥
  never-gate Opening place h = h
  never-gate Reading place h = h
  never-gate Listening place h = h
  never-gate Making place h = h
  never-gate Running place h = h
  never-gate Finishing place h = h
  never-gate Saving place h = h
  never-gate Drawing place h = h
  never-gate Telling place h = h

  never-bad : (stage : Stage) (rule place : ℕ) → EndsAt tells before now row stage (answer.ImageBad rule place) → ⊥
  never-bad Opening rule place at = at.answer
  never-bad Reading rule place at = none-some (first_break (bytes_of (now.roles Image))) (break rule place) (unbroken row.room _ can.right_image) (at.reads.judges_image image refl (λ whole. inl work)).1
  never-bad Listening rule place at = at.answer
  never-bad Making rule place at = at.answer
  never-bad Running rule place at = at.answer
  never-bad Finishing rule place at = at.answer
  never-bad Saving rule place at = at.answer
  never-bad Drawing rule place at = at.answer
  never-bad Telling rule place at = at.answer

  never-line : (stage : Stage) (line : ℕ) → EndsAt tells before now row stage (answer.EventsBad line) → ⊥
  never-line Opening line at = at.answer
  never-line Reading line at = at.answer
  never-line Listening line at = none-bad can.right_events.0 line can.right_events.1.0 (subst (IsBadAt line) can.right_events.1.1 (at.reads.judges_events events refl))
  never-line Making line at = at.answer
  never-line Running line at = at.answer
  never-line Finishing line at = at.answer
  never-line Saving line at = at.answer
  never-line Drawing line at = at.answer
  never-line Telling line at = at.answer

  never-core : (stage : Stage) (ran : ℕ) (need : _) → EndsAt tells before now row stage (answer.CoreFull ran need) → ⊥
  never-core Opening ran need at = at.answer
  never-core Reading ran need at = at.answer
  never-core Listening ran need at = at.answer
  never-core Making ran need at = at.answer
  never-core Running ran need at =
      let r = at.run image events work refl in
      let stops = r.run.stops refl in
      stops.1 ((can.roomy r.head r.heap r.lines r.is r.list).rows ran need stops.0)
  never-core Finishing ran need at = at.answer
  never-core Saving ran need at = at.answer
  never-core Drawing ran need at = at.answer
  never-core Telling ran need at = at.answer

  never-full : (stage : Stage) (live room : ℕ) → EndsAt tells before now row stage (answer.WorkFull live room) → ⊥
  never-full Opening live room at = at.answer
  never-full Reading live room at = none-some (full_of row.room (bytes_of (now.roles Image))) live (roomy row.room _ can.right_image) (at.reads.judges_image image refl).2
  never-full Listening live room at = at.answer
  never-full Making live room at = at.answer
  never-full Running live room at =
      let r = at.run image events work refl in
      let stops = r.run.stops refl in
      let most = (can.roomy r.head r.heap r.lines r.is r.list).lives stops.2.0 live stops.2.2 in
      let more = stops.1 in
      omega (arith, most, more)
  never-full Finishing live room at = at.answer
  never-full Saving live room at = at.answer
  never-full Drawing live room at = at.answer
  never-full Telling live room at = at.answer

  pub completes : (stage : Stage) (result : Status) → EndsAt tells before now row stage result → IsOwnEnd result
  completes stage (answer.Done ran) at = tt
  completes stage (answer.Quit ran) at = tt
  completes stage (answer.Made objects) at = made-never stage objects at.answer
  completes stage (answer.Listed objects) at = listed-never stage objects at.answer
  completes stage (answer.Assembled objects) at = assembled-never stage objects at.answer
  completes stage (answer.Usage word) at = never-usage stage word at.answer
  completes stage (answer.ImageBad rule place) at = never-bad stage rule place at
  completes stage (answer.EventsBad line) at = never-line stage line at
  completes stage (answer.TextBad line rule) at = never-text stage line rule at.answer
  completes stage (answer.Stuck cause ran) at = tt
  completes stage (answer.CoreFull ran need) at = never-core stage ran need at
  completes stage (answer.NamesSpent ran) at = tt
  completes stage (answer.WorkFull live room) at = never-full stage live room at
  completes stage (answer.ReadFault role count) at = can.still role at.answered.cause.1
  completes stage (answer.WorkFault count) at = can.still Work at.answered.cause.1
  completes stage (answer.WriteFault role count) at = can.still role at.answered.cause.1
  completes stage answer.OutOfMemory at = tt
  completes stage (answer.Damaged place name) at = at.answered.whole work tt
  completes stage (answer.VaultFault count) at = never-vault stage count at.answer
  completes stage answer.NoCheckpoint at = never-point stage at.answer
  completes stage (answer.VaultBad place) at = never-gate stage place at.answer

pub completes_from : (tells : Role → Bool) (before now : Meanings) (words : List (List ℕ)) (result : Status) → IsTrue (tells Image) → IsTrue (tells Events) → IsTrue (tells Work) → verb_of words ≡ ToRun → bad_word words ≡ None → Promise tells before now words result
    → CanEnd (bytes_of (now.roles Image)) (bytes_of (now.roles Events)) (row_of words) before.faults now.faults → IsOwnEnd result
completes_from tells before now words result image events work run right p can = let e = p.ends run right in completes tells before now (row_of words) image events work can e.0 result e.1

-- ---- a making

made : (tells : Role → Bool) (before now : Meanings) (row : MakeRow) (result : Status) → Makes tells before now row result → ((role : Role) → Rose (before.faults role) (now.faults role) → ⊥) → IsMadeOf row.number result
made tells before now row (answer.Made objects) m still = m.answer
made tells before now row (answer.WriteFault Saved count) m still = absurd (still Saved m.cause.1)
made tells before now row (answer.WriteFault Notes count) m still = absurd (still Notes m.cause.1)
made tells before now row answer.OutOfMemory m still = tt
made tells before now row _ m still = absurd m.answer

pub made_from : (tells : Role → Bool) (before now : Meanings) (words : List (List ℕ)) (result : Status) → verb_of words ≡ ToMake → bad_word words ≡ None → Promise tells before now words result → ((role : Role) → Rose (before.faults role) (now.faults role) → ⊥)
    → IsMadeOf (make_of words).number result
made_from tells before now words result asks right p still = made tells before now (make_of words) result (p.makes asks right) still
