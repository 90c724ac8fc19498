-- What was put to Notes, by the answer.
use Rattle.std.proofs.Common.{◌≡◌, inl, inr, ℕ, Bool, List, IsTrue, length, arith, refl, sym, ◌∙◌}
use Rattle.std.proofs.Math.Seq.{take-length}
use Rattle.loom_host.specs.Outside.{PutPrefix, puts}
use Rattle.loom_host.specs.declared.outside.Role.TheVariants.{Image, Events, Work, Saved, Display, Transcript, Notes}
use Rattle.loom_run.specs.Meanings.{Meanings, IsLeft}
use Rattle.loom_words.specs.Status.{line_of}
use Rattle.loom_run.specs.Ends.{HasBegun, HasRun, Noted, NotedBy}
use Rattle.long_names.specs.Counting.{Rose}
use Rattle.loom_run.specs.Parts.{IsTold, unsaid}
use Rattle.loom_run.specs.Steps.{IsOfRun}
use Rattle.loom_words.specs.declared.status.Status.{Status}
use Rattle.loom_words.specs.declared.status.Status.TheVariants.{Done, Quit, Made, Listed, Assembled, Usage, ImageBad, EventsBad, TextBad, Stuck, CoreFull, NamesSpent, WorkFull, ReadFault, WorkFault, WriteFault, OutOfMemory, Damaged, VaultFault, NoCheckpoint, VaultBad}

-- a whole line, and a cut one
noted-whole : (line : List ℕ) (before now : Meanings) → now.roles Notes ≡ puts line (before.roles Notes) → Noted line before now
noted-whole line before now whole = record {
  prefix = (length line, omega arith, rw take-length whole);
  whole = λ still. whole;
}

noted-cut : (line : List ℕ) (before now : Meanings) → Rose (before.faults Notes) (now.faults Notes) → PutPrefix line (before.roles Notes) (now.roles Notes) → Noted line before now
noted-cut line before now rose cut = record { prefix = cut; whole = λ still. absurd (still rose) }

-- an answer that stays has its own line there
pub noted-own : {told : Bool} (status result : Status) (before now : Meanings) → unsaid status (now.faults Notes) ≡ status → IsTold told status result before now → IsTrue told → (result ≡ status) × Noted (line_of status) before now
noted-own status result before now stays (inl whole) p = (whole.answer, noted-whole (line_of status) before now (whole.put p))
noted-own status result before now stays (inr cut) p = (cut.answer ∙ stays, noted-cut (line_of status) before now cut.rose (cut.put p))

-- the line is the same where nothing was done with Notes before it
pub told-since : {told : Bool} (status result : Status) (before mid now : Meanings) → IsLeft Notes before mid → IsTold told status result mid now → IsTold told status result before now
told-since status result before mid now left (inl whole) = inl record { answer = whole.answer; put = λ p. rw left.state at (whole.put p) }
told-since status result before mid now left (inr cut) = inr record { answer = cut.answer; rose = rw left.faults at cut.rose; put = λ p. rw left.state at (cut.put p) }

noted-told : {told : Bool} (status result : Status) (steps : ℕ) (before now : Meanings) → IsOfRun status → HasRun status steps → IsTold told status result before now → IsTrue told → NotedBy result (HasBegun steps) before now
noted-told (Done ran) result steps before now of_run run (inl whole) p = rw whole.answer (whole.put p)
noted-told (Done ran) result steps before now of_run run (inr cut) p = rw (cut.answer, sym run) (inl (cut.put p))
noted-told (Quit ran) result steps before now of_run run (inl whole) p = rw whole.answer (whole.put p)
noted-told (Quit ran) result steps before now of_run run (inr cut) p = rw cut.answer (inr (ran, run, cut.put p))
noted-told (Made objects) result steps before now of_run run told p = absurd of_run
noted-told (Listed objects) result steps before now of_run run told p = absurd of_run
noted-told (Assembled objects) result steps before now of_run run told p = absurd of_run
noted-told (Usage word) result steps before now of_run run told p = absurd of_run
noted-told (ImageBad rule place) result steps before now of_run run told p = let own = noted-own _ _ _ _ refl told p in rw own.0 own.1
noted-told (EventsBad line) result steps before now of_run run told p = let own = noted-own _ _ _ _ refl told p in rw own.0 own.1
noted-told (TextBad line rule) result steps before now of_run run told p = let own = noted-own _ _ _ _ refl told p in rw own.0 own.1
noted-told (Stuck cause ran) result steps before now of_run run told p = let own = noted-own _ _ _ _ refl told p in rw own.0 own.1
noted-told (CoreFull ran need) result steps before now of_run run told p = let own = noted-own _ _ _ _ refl told p in rw own.0 own.1
noted-told (NamesSpent ran) result steps before now of_run run told p = let own = noted-own _ _ _ _ refl told p in rw own.0 own.1
noted-told (WorkFull live room) result steps before now of_run run told p = let own = noted-own _ _ _ _ refl told p in rw own.0 own.1
noted-told (WorkFault count) result steps before now of_run run told p = let own = noted-own _ _ _ _ refl told p in rw own.0 own.1
noted-told (ReadFault role count) result steps before now of_run run told p = let own = noted-own _ _ _ _ refl told p in rw own.0 own.1
noted-told (WriteFault Image count) result steps before now of_run run told p = let own = noted-own _ _ _ _ refl told p in rw own.0 own.1
noted-told (WriteFault Events count) result steps before now of_run run told p = let own = noted-own _ _ _ _ refl told p in rw own.0 own.1
noted-told (WriteFault Work count) result steps before now of_run run told p = let own = noted-own _ _ _ _ refl told p in rw own.0 own.1
noted-told (WriteFault Saved count) result steps before now of_run run told p = let own = noted-own _ _ _ _ refl told p in rw own.0 own.1
noted-told (WriteFault Display count) result steps before now of_run run told p = let own = noted-own _ _ _ _ refl told p in rw own.0 own.1
noted-told (WriteFault Transcript count) result steps before now of_run run told p = let own = noted-own _ _ _ _ refl told p in rw own.0 own.1
noted-told (WriteFault Notes count) result steps before now of_run run told p = absurd (of_run refl)
noted-told (Damaged place name) result steps before now of_run run told p = let own = noted-own _ _ _ _ refl told p in rw own.0 own.1
noted-told OutOfMemory result steps before now of_run run told p = let own = noted-own _ _ _ _ refl told p in rw own.0 own.1
noted-told (VaultFault count) result steps before now of_run run told p = let own = noted-own _ _ _ _ refl told p in rw own.0 own.1
noted-told NoCheckpoint result steps before now of_run run told p = let own = noted-own _ _ _ _ refl told p in rw own.0 own.1
noted-told (VaultBad place) result steps before now of_run run told p = let own = noted-own _ _ _ _ refl told p in rw own.0 own.1

-- what a run promises of Notes, where it answered this status before its line
pub noted-run : {told : Bool} (status result : Status) (steps : ℕ) (before mid now : Meanings) → IsOfRun status → HasRun status steps → IsLeft Notes before mid → IsTold told status result mid now → IsTrue told → NotedBy result (HasBegun steps) before now
noted-run status result steps before mid now of_run run left told = noted-told status result steps before now of_run run (told-since status result before mid now left told)
