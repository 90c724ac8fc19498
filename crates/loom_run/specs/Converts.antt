-- What a listing or an assembling leaves of the roles of its host, by the stage at which it ended and its answer. A listing reads an image
-- and writes its text; an assembling reads a text and writes its image.
use Rattle.std.specs.Prelude.{◌≡◌, ◌⊎◌, ℕ, ◌<◌, Bool, true, false, not, List, Option, None, Some, IfSome, IsTrue}
use Rattle.long_names.specs.Heap.{Heap, object_count}
use Rattle.image_format.specs.declared.opening.ImageHead.{ImageHead}
use Rattle.image_format.specs.declared.opening.State.{State as Words}
use Rattle.image_format.specs.declared.opening.TheConstants.{STATE_VERSION}
use Rattle.image_format.specs.Rules.{break, text_under}
use Rattle.image_reader.specs.Loaded.{is_of_whole}
use Rattle.image_text.specs.Assembled.{IsUnreadText}
use Rattle.image_writer.specs.Saved.{saved_text}
use Rattle.text_lines.specs.Breaks.{text_break}
use Rattle.text_lines.specs.Spelling.{heap_text}
use Rattle.text_lines.specs.Texts.{IsTextOf}
use Rattle.loom_host.specs.Outside.{RoleState, PutPrefix}
use Rattle.loom_host.specs.declared.outside.Role.{Role}
use Rattle.loom_host.specs.declared.outside.Role.TheVariants.{Image, Events, Work, Saved, Display, Transcript, Notes}
use Rattle.loom_words.specs.Status.{line_of}
use Rattle.loom_words.specs.Words.{Paths, ToAssemble, ToList, Verb}
use Rattle.loom_words.specs.declared.words.TheConstants.{MOST_ROOM}
use Rattle.loom_words.specs.declared.status.Status.{Status}
use Rattle.loom_words.specs.declared.status.Status.TheVariants.{Listed, Assembled, TextBad, WorkFull, ReadFault, WorkFault, WriteFault, OutOfMemory, Damaged}
use Rattle.loom_run.specs.Ends.{AttachedOnce, IsCaused, IsDamaged, IsImageOf, JudgesImage, MadeBy, WasRead, bytes_of}
use Rattle.loom_run.specs.Meanings.{Meanings, IsLeft}
use Rattle.loom_run.specs.Stages.{Stage, Opening, Reading, Listening, Making, Running, Finishing, Saving, Drawing, Telling, EndsOpening, EndsReading, EndsSaving, passes, reaches, stage_of}
use Rattle.loom_run.specs.declared.converting.Way.{Way}
use Rattle.loom_run.specs.declared.converting.Way.TheVariants.{Listing, Assembling}

-- ---- the two ways

abbrev pub verb_for : Way → Verb
verb_for Listing = ToList
verb_for Assembling = ToAssemble

-- the answer where all was written
abbrev pub done_by : Way → ℕ → Status
done_by Listing objects = Listed objects
done_by Assembling objects = Assembled objects

-- the bytes that are read are those of this heap, with this state: of an image of either version, or of a text
abbrev pub Reads : Way → List ℕ → Heap → Words → Type 0
Reads Listing bytes heap state = (head : ImageHead) × IsImageOf bytes head heap × (head.state ≡ state)
Reads Assembling bytes heap state = IsTextOf bytes heap state

-- the head of version 2
abbrev pub head_under : Heap → Words → ImageHead
head_under heap state = record { opening = record { version = STATE_VERSION; objects = object_count heap; next = heap.next }; state = state }

-- the bytes that are written: the text, or the image of version 2
abbrev pub bytes_by : Way → Heap → Words → List ℕ
bytes_by Listing heap state = heap_text heap state
bytes_by Assembling heap state = text_under (head_under heap state) heap

-- and the same as it is put: of the state what the heap has
abbrev pub spelled_by : Way → Heap → Words → List ℕ
spelled_by Listing heap state = heap_text heap state
spelled_by Assembling heap state = saved_text heap state

-- ---- the roles

-- the word by which a role is attached; the others aren't used, but Notes
abbrev pub path_for : Paths → Role → Option (List ℕ)
path_for paths Image = Some paths.source
path_for paths Events = None
path_for paths Work = Some paths.work
path_for paths Saved = Some paths.target
path_for paths Display = None
path_for paths Transcript = None
path_for paths Notes = None

-- nothing is done with a role by this stage
abbrev pub is_unused : Role → Stage → Bool
is_unused Image stage = not (reaches Reading stage)
is_unused Events stage = true
is_unused Work stage = not (reaches Opening stage)
is_unused Saved stage = not (reaches Saving stage)
is_unused Display stage = true
is_unused Transcript stage = true
is_unused Notes stage = false

-- ---- the answers of a stage

abbrev pub EndsText : Status → Type 0
EndsText (TextBad line rule) = Unit {0}
EndsText (ReadFault Image count) = Unit {0}
EndsText (WorkFault count) = Unit {0}
EndsText (Damaged place name) = Unit {0}
EndsText OutOfMemory = Unit {0}
EndsText _ = ⊥

abbrev pub EndsSource : Way → Status → Type 0
EndsSource Listing status = EndsReading status
EndsSource Assembling status = EndsText status

abbrev pub EndsListed : Status → Type 0
EndsListed (Listed objects) = Unit {0}
EndsListed (WriteFault Notes count) = Unit {0}
EndsListed _ = ⊥

abbrev pub EndsAssembled : Status → Type 0
EndsAssembled (Assembled objects) = Unit {0}
EndsAssembled (WriteFault Notes count) = Unit {0}
EndsAssembled _ = ⊥

abbrev pub EndsWhole : Way → Status → Type 0
EndsWhole Listing status = EndsListed status
EndsWhole Assembling status = EndsAssembled status

abbrev pub EndsConversion : Stage → Way → Status → Type 0
EndsConversion Opening way status = EndsOpening status
EndsConversion Reading way status = EndsSource way status
EndsConversion Listening way status = ⊥
EndsConversion Making way status = ⊥
EndsConversion Running way status = ⊥
EndsConversion Finishing way status = ⊥
EndsConversion Saving way status = EndsSaving status
EndsConversion Drawing way status = ⊥
EndsConversion Telling way status = EndsWhole way status

-- What an answer that came in reading a text says of it: the first line that breaks, and the rule. Of a rule that is judged of the whole text, while
-- its objects lie in Work, it is said where the host tells of Work too, or no image can be read of the text.
abbrev pub JudgesText : Bool → Status → List ℕ → Type 0
JudgesText work (TextBad line rule) text = (IsTrue (is_of_whole rule) → IsTrue work ⊎ IsUnreadText text) → text_break text ≡ Some (break rule line)
JudgesText work _ text = Unit {0}

abbrev pub JudgesSource : Way → Bool → Status → List ℕ → Type 0
JudgesSource Listing work status bytes = JudgesImage work status MOST_ROOM bytes
JudgesSource Assembling work status bytes = JudgesText work status bytes

-- there is room for the most objects that an image has, so this comes of no host that tells Image
abbrev pub IsAboveRoom : Status → Type 0
IsAboveRoom (WorkFull live room) = (room ≡ MOST_ROOM) × (MOST_ROOM < live)
IsAboveRoom _ = Unit {0}

-- ---- what was written

-- an answer that counts says how many objects the heap has
abbrev pub CountsObjects : Heap → Status → Type 0
CountsObjects heap (Listed objects) = objects ≡ object_count heap
CountsObjects heap (Assembled objects) = objects ≡ object_count heap
CountsObjects heap _ = Unit {0}

-- where its line couldn't be written, it was begun
abbrev pub CutsCount : Way → Heap → Status → RoleState → RoleState → Type 0
CutsCount way heap (WriteFault Notes count) old new = PutPrefix (line_of (done_by way (object_count heap))) old new
CutsCount way heap _ old new = Unit {0}

-- A heap and a state were read, and their bytes written and ended; or a prefix where that failed.
pub record Converted (tells : Role → Bool) (before now : Meanings) (way : Way) (paths : Paths) (stage : Stage) (result : Status) : Type 0 where
  pub heap : Heap
  pub state : Words
  pub reads : Reads way (bytes_of (now.roles Image)) heap state
  pub counts : CountsObjects heap result
  pub writes : IsTrue (tells Saved) → IsTrue (reaches Saving stage) → MadeBy (passes Saving stage) paths.target (bytes_by way heap state) (before.roles Saved) (now.roles Saved)
  pub cuts : IsTrue (tells Notes) → CutsCount way heap result (before.roles Notes) (now.roles Notes)

-- A listing or an assembling of right words ended at this stage, with this answer.
pub record ConvertsAt (tells : Role → Bool) (before now : Meanings) (way : Way) (paths : Paths) (stage : Stage) (result : Status) : Type 0 where
  -- The answer is one of those that come at this stage.
  pub answer : EndsConversion stage way result
  -- A fault is answered only where it rose, and with its count. Over a host that tells Work nothing is damaged.
  pub cause : IsCaused result before.faults now.faults
  pub whole : IsTrue (tells Work) → IsDamaged result → ⊥
  pub room : IsAboveRoom result
  -- Each role is attached at most once, by its own word, when its stage comes; before that nothing is done with it, and never with the others.
  pub attached : (role : Role) → IsTrue (tells role) → IsTrue (reaches (stage_of role) stage) → IfSome (path_for paths role) (λ text. AttachedOnce text (before.roles role) (now.roles role))
  pub unused : (role : Role) → IsTrue (is_unused role stage) → IsLeft role before now
  -- What is read is refused exactly with the first rule that it breaks and its place; all later answers come only where it is right, and was read
  -- to its end.
  pub judges : IsTrue (tells Image) → stage ≡ Reading → JudgesSource way (tells Work) result (bytes_of (now.roles Image))
  pub whole_source : IsTrue (tells Image) → IsTrue (passes Reading stage) → WasRead paths.source (now.roles Image)
  pub named_work : IsTrue (tells Work) → IsTrue (passes Opening stage) → (now.roles Work).name ≡ Some paths.work
  -- And then what is written is the other spelling of the same heap and state.
  pub converts : IsTrue (tells Image) → IsTrue (tells Work) → IsTrue (passes Reading stage) → Converted tells before now way paths stage result

-- the line of a conversion that went through was begun
abbrev pub HasBegunCount : Way → RoleState → RoleState → Type 0
HasBegunCount way old new = (objects : ℕ) × PutPrefix (line_of (done_by way objects)) old new
