-- What `make` leaves of the roles of its host, by its answer. The image of a number is the text of the heap `generated` of `loom_gen`.
use Rattle.std.specs.Prelude.{◌≡◌, ℕ, Bool, true, false, List, [], ◌∷◌, IsTrue}
use Rattle.long_names.specs.Heap.{object_count}
use Rattle.image_format.specs.Text.{image_text}
use Rattle.loom_gen.specs.Generated.{generated}
use Rattle.loom_host.specs.Outside.{RoleState, PutPrefix}
use Rattle.loom_host.specs.declared.outside.Role.{Role}
use Rattle.loom_host.specs.declared.outside.Role.TheVariants.{Saved, Notes}
use Rattle.loom_run.specs.Converts.{HasBegunCount}
use Rattle.loom_run.specs.declared.converting.Way.TheVariants.{Listing, Assembling}
use Rattle.loom_run.specs.Ends.{HasBegun, IsCaused, MadeBy}
use Rattle.loom_run.specs.Meanings.{Meanings, LeavesBut}
use Rattle.loom_words.specs.Status.{line_of}
use Rattle.loom_words.specs.Words.{MakeRow, ToAssemble, ToList, ToMake, ToRun, ToTrace, Verb, make_of, row_of, trace_row_of}
use Rattle.loom_words.specs.declared.status.Status.{Status}
use Rattle.loom_words.specs.declared.status.Status.TheVariants.{Made, WriteFault, OutOfMemory}

-- The answers: how many objects the image has, a fault of a role that is written, or want of memory.
abbrev pub EndsMaking : ℕ → Status → Type 0
EndsMaking number (Made objects) = objects ≡ object_count (generated number)
EndsMaking number (WriteFault Saved count) = Unit {0}
EndsMaking number (WriteFault Notes count) = Unit {0}
EndsMaking number OutOfMemory = Unit {0}
EndsMaking number _ = ⊥

-- The roles with which something was done. The image is made before Saved is attached, so without memory for it only the line is written.
abbrev pub roles_of : Status → List Role
roles_of OutOfMemory = Notes ∷ []
roles_of _ = Saved ∷ Notes ∷ []

-- Saved was attached once, by the file's name, has the image and is ended. Where that failed it isn't ended, and has a prefix at most.
abbrev pub SavesImage : Status → MakeRow → RoleState → RoleState → Type 0
SavesImage OutOfMemory row old new = new ≡ old
SavesImage (WriteFault Saved count) row old new = MadeBy false row.file (image_text (generated row.number)) old new
SavesImage _ row old new = MadeBy true row.file (image_text (generated row.number)) old new

-- The words of a making gave this answer.
pub record Makes (tells : Role → Bool) (before now : Meanings) (row : MakeRow) (result : Status) : Type 0 where
  pub answer : EndsMaking row.number result
  -- A fault is answered only where it rose, and with its count.
  pub cause : IsCaused result before.faults now.faults
  pub saves : IsTrue (tells Saved) → SavesImage result row (before.roles Saved) (now.roles Saved)
  pub others : LeavesBut (roles_of result) before now

-- the line of an image that was made was begun
abbrev pub HasBegunImage : ℕ → RoleState → RoleState → Type 0
HasBegunImage number old new = PutPrefix (line_of (Made (object_count (generated number)))) old new

-- the line that is begun where Notes failed: that of a run, or of another command
abbrev pub HasBegunFor : Verb → List (List ℕ) → RoleState → RoleState → Type 0
HasBegunFor ToRun words = HasBegun (row_of words).steps
HasBegunFor ToMake words = HasBegunImage (make_of words).number
HasBegunFor ToList words = HasBegunCount Listing
HasBegunFor ToAssemble words = HasBegunCount Assembling
HasBegunFor ToTrace words = HasBegun (trace_row_of words).steps
