-- What a run leaves of the roles of its host, by the stage at which it ended and its answer.
use Rattle.std.specs.Prelude.{◌≡◌, ◌≢◌, ℕ, ◌+◌, ◌≤◌, ◌<◌, List, [], ◌++◌, take, length, Bool, true, false, ◌⊎◌, Err, None, Some, IfSome, IsTrue, Option}
use Rattle.loom_host.specs.Outside.{RoleState, Attached, ends, puts, PutPrefix}
use Rattle.long_names.specs.Counting.{counted, Rose}
use Rattle.long_names.specs.Need.{Fits}
use Rattle.loom_host.specs.declared.outside.Failed.{Failed}
use Rattle.loom_host.specs.declared.outside.Role.{Role}
use Rattle.loom_host.specs.declared.outside.Role.TheVariants.{Image, Events, Work, Saved, Display, Transcript, Notes}
use Rattle.long_names.specs.Heap.{Heap, object_count}
use Rattle.long_names.specs.Kept.{kept, no_roots}
use Rattle.image_format.specs.declared.opening.ImageHead.{ImageHead}
use Rattle.image_format.specs.declared.opening.State.{State as Words}
use Rattle.image_format.specs.declared.opening.TheConstants.{STATE_VERSION}
use Rattle.image_format.specs.Rules.{IsHeadOf, break, first_break, text_under}
use Rattle.image_format.specs.Valid.{IsImageHeap}
use Rattle.image_reader.specs.Loaded.{IsUnread, full_of, is_of_whole}
use Rattle.blue_model.specs.declared.event.Line.{Line}
use Rattle.blue_model.specs.declared.step.Step.TheVariants as step
use Rattle.blue_model.specs.Machine.{Machine}
use Rattle.blue_model.specs.State.{State, state_of}
use Rattle.blue_model.specs.Cycle.{BySpentNames}
use Rattle.blue_model.specs.Logs.{Course, IsLive, course}
use Rattle.blue_model.specs.Endings.{OnParked, OnDrawn, IsParked, IsParkedBy, IsStuck, IsStuckBy, said_in}
use Rattle.contexts.specs.Serves.{IsLogged}
use Rattle.machine_run.specs.States.{model_state}
use Rattle.event_file.specs.Text.{AreRight, events_text, IsBadAt}
use Rattle.loom_run.specs.Meanings.{Meanings}
use Rattle.loom_run.specs.Stages.{Stage, Opening, Reading, Listening, Running, Saving, Drawing, Telling, passes, reaches}
use Rattle.loom_words.specs.Status.{line_of}
use Rattle.loom_words.specs.Words.{Row}
use Rattle.loom_words.specs.declared.status.Status.{Status}
use Rattle.loom_words.specs.declared.status.Status.TheVariants.{Done, Quit, Made, Listed, Assembled, ImageBad, EventsBad, Stuck, CoreFull, NamesSpent, WorkFull, ReadFault, WorkFault, WriteFault, OutOfMemory, Damaged}

-- ---- faults

-- a fault that is answered has risen, and comes with its count
abbrev pub IsCaused : Status → (Role → ℕ) → (Role → ℕ) → Type 0
IsCaused (ReadFault role count) before now = (count ≡ now role) × Rose (before role) (now role)
IsCaused (WriteFault role count) before now = (count ≡ now role) × Rose (before role) (now role)
IsCaused (WorkFault count) before now = (count ≡ now Work) × Rose (before Work) (now Work)
IsCaused _ before now = Unit {0}

-- The numbers of an answer for want of room are past a limit of the words, over any host: a need that doesn't fit the core and the entries, a
-- count above the room.
abbrev pub IsPastLimits : Row → Status → Type 0
IsPastLimits row (CoreFull ran need) = Fits row.core row.entries need.words need.entries → ⊥
IsPastLimits row (WorkFull live room) = (room ≡ row.room) × (row.room < live)
IsPastLimits row _ = Unit {0}

abbrev pub IsDamaged : Status → Type 0
IsDamaged (Damaged place name) = Unit {0}
IsDamaged _ = ⊥

-- ---- attaches

-- the role was attached once more, and to no other name
pub record AttachedOnce (text : List ℕ) (old new : RoleState) : Type 0 where
  pub attaches : new.attaches ≡ counted old.attaches
  pub name : IfSome new.name (λ t. t ≡ text)

-- the word by which a role is attached; Transcript and Notes are there from the start
abbrev pub word_for : Row → Role → Option (List ℕ)
word_for row Image = Some row.image
word_for row Events = Some row.events
word_for row Work = Some row.work
word_for row Saved = Some row.saved
word_for row Display = Some row.display
word_for row Transcript = None
word_for row Notes = None

-- ---- what was read

-- all bytes of a role that is read
abbrev pub bytes_of : RoleState → List ℕ
bytes_of s = s.taken ++ s.left

-- the role was read to its end, and is the one of this name
pub record WasRead (text : List ℕ) (s : RoleState) : Type 0 where
  pub end : s.left ≡ []
  pub name : s.name ≡ Some text

-- the bytes are those of an image of this heap under this head, of either version
pub record IsImageOf (bytes : List ℕ) (head : ImageHead) (heap : Heap) : Type 0 where
  pub is : IsImageHeap heap
  pub of_heap : IsHeadOf heap head
  pub text : bytes ≡ text_under head heap

-- they are an image, whose objects have room
pub record IsRightImage (room : ℕ) (bytes : List ℕ) : Type 0 where
  pub head : ImageHead
  pub heap : Heap
  pub image : IsImageOf bytes head heap
  pub roomy : head.opening.objects ≤ room

-- the bytes are the text of these lines, which are an event file's
abbrev pub AreEvents : List ℕ → List Line → Type 0
AreEvents bytes lines = AreRight lines × (bytes ≡ events_text lines)

-- What an answer says of the bytes of Image that came in reading them: the first rule that they break, where the objects that they state have
-- room; or how many they state, which is more than there is room for. Of a rule that is judged of the whole image, while its objects lie in Work,
-- it is said where the host tells of Work too, or no image can be read of the bytes.
abbrev pub JudgesImage : Bool → Status → ℕ → List ℕ → Type 0
JudgesImage work (ImageBad rule place) room image = (IsTrue (is_of_whole rule) → IsTrue work ⊎ IsUnread image) → (full_of room image ≡ None) × (first_break image ≡ Some (break rule place))
JudgesImage work (WorkFull live most) room image = (most ≡ room) × (room < live) × (full_of room image ≡ Some live)
JudgesImage work _ room image = Unit {0}

-- and of those of Events, that came in reading them: this is their first bad line
abbrev pub JudgesEvents : Status → List ℕ → Type 0
JudgesEvents (EventsBad line) events = IsBadAt line events
JudgesEvents _ events = Unit {0}

-- ---- the machine's run

-- The bytes are an image and an event list, and P holds of what becomes of the image's heap and state under these events, in at most so many
-- bytecodes.
pub record RunOf (image events : List ℕ) (steps : ℕ) (P : Course → Type 0) : Type 0 where
  pub head : ImageHead
  pub heap : Heap
  pub is : IsImageOf image head heap
  pub lines : List Line
  pub list : AreEvents events lines
  pub run : P (course lines steps (model_state head.state) heap)

-- so many bytecodes were asked for
abbrev pub HasRun : Status → ℕ → Type 0
HasRun (Done ran) steps = ran ≡ steps
HasRun (Quit ran) steps = ran ≤ steps
HasRun (Stuck cause ran) steps = ran ≤ steps
HasRun (CoreFull ran need) steps = ran ≤ steps
HasRun (NamesSpent ran) steps = ran ≤ steps
HasRun _ steps = Unit {0}

-- What an answer says of the run that it ended: after so many bytecodes the machine is stuck by this cause, or no name is left; or a row of the
-- next bytecode doesn't fit the core, or as many objects live at one of its makings as there is no room for. Memory is wanted for the picture alone,
-- of a machine that went through and was parked.
abbrev pub Stops : Status → Row → Course → Type 0
Stops (Stuck cause ran) row c = IsStuck cause ran c.ending
Stops (NamesSpent ran) row c = IsStuckBy BySpentNames ran c.ending
Stops (CoreFull ran need) row c = IsLogged need (c.rows ran) × (Fits row.core row.entries need.words need.entries → ⊥)
Stops (WorkFull live room) row c = (room ≡ row.room) × (row.room < live) × ((ran : ℕ) × (ran ≤ row.steps) × IsLive live (c.lives ran))
Stops OutOfMemory row c = IsParked c.ending
Stops _ row c = Unit {0}

-- And what it says of the bytes put to Transcript: what the machine said in so many bytecodes. A fault of Work may come after any number of
-- them. A fault of Transcript comes only where the next one says something, and leaves a part of that. Where there is no memory for the picture
-- all was said.
abbrev pub SaysStopped : Status → Row → Course → List ℕ → List ℕ → Type 0
SaysStopped (Stuck cause ran) row c old new = new ≡ old ++ c.said ran
SaysStopped (NamesSpent ran) row c old new = new ≡ old ++ c.said ran
SaysStopped (CoreFull ran need) row c old new = new ≡ old ++ c.said ran
SaysStopped (WorkFull live room) row c old new = (ran : ℕ) × (ran ≤ row.steps) × IsLive live (c.lives ran) × (new ≡ old ++ c.said ran)
SaysStopped (WriteFault role count) row c old new = (ran : ℕ) × (part : List ℕ) × (rest : List ℕ) × (ran < row.steps) × (new ≡ old ++ (c.said ran ++ part)) × (c.said (ran + 1) ≡ (c.said ran ++ part) ++ rest) × (c.said (ran + 1) ≢ c.said ran)
SaysStopped OutOfMemory row c old new = new ≡ old ++ said_in c.ending
SaysStopped _ row c old new = (ran : ℕ) × (ran ≤ row.steps) × (new ≡ old ++ c.said ran)

-- The run went through: to its last bytecode with Done, to the one that ended the machine with Quit.
abbrev pub GoesThrough : Status → Course → Type 0
GoesThrough (Done ran) c = IsParkedBy step.Next ran c.ending
GoesThrough (Quit ran) c = IsParkedBy step.Quit ran c.ending
GoesThrough _ c = IsParked c.ending

-- ---- what was written

abbrev pub failed : Failed
failed = record {}

-- the role was attached once more, by this name, and then these bytes were put to it; nothing has ended it
pub record WasWritten (text bytes : List ℕ) (old new : RoleState) : Type 0 where
  pub attaches : new.attaches ≡ counted old.attaches
  pub name : new.name ≡ Some text
  pub put : new.put ≡ bytes
  pub unended : new.ended ≡ None

-- and likewise a prefix of these bytes
abbrev pub WasBegun : List ℕ → List ℕ → RoleState → RoleState → Type 0
WasBegun text bytes old new = (n : ℕ) × (n ≤ length bytes) × WasWritten text (take n bytes) old new

-- it is as an attach to this name that failed may leave it
abbrev pub WasRefused : List ℕ → RoleState → RoleState → Type 0
WasRefused text old new = Attached {T = Unit {0}} text (Err failed) old new

-- whole where the run passed the stage, else refused or begun
abbrev pub WrittenBy : Bool → List ℕ → List ℕ → RoleState → RoleState → Type 0
WrittenBy true text bytes old new = WasWritten text bytes old new
WrittenBy false text bytes old new = WasRefused text old new ⊎ WasBegun text bytes old new

-- The role was attached once, by this name; then these bytes were put to it, and behind all of them a piece of no bytes, which ends it. Or
-- that failed: it is as a refused attach leaves it, or has a prefix of them and isn't ended. So a role that wasn't ended before is ended
-- exactly where all of that went through.
abbrev pub MadeBy : Bool → List ℕ → List ℕ → RoleState → RoleState → Type 0
MadeBy true text bytes old new = (put : RoleState) × WasWritten text bytes old put × (new ≡ ends put)
MadeBy false text bytes old new = WrittenBy false text bytes old new

-- These bytes were put to the role since it was attached, and a piece of no bytes behind all of them ended it.
pub record IsWhole (bytes : List ℕ) (s : RoleState) : Type 0 where
  pub put : s.put ≡ bytes
  pub ended : s.ended ≡ Some (length bytes)

-- a state of the model in the words of an image
abbrev pub words_of : State → Words
words_of s = record { clock = s.clock; display = s.display; input = s.input; timer = s.timer; tick = s.tick }

-- The head of version 2 for what is kept of a parked machine's heap, with the machine's state.
abbrev pub head_of : Machine → ImageHead
head_of m = record { opening = record { version = STATE_VERSION; objects = object_count (kept m.heap no_roots); next = (kept m.heap no_roots).next }; state = words_of (state_of m) }

-- and the image of what is kept under it, with exact counts
abbrev pub image_of : Machine → List ℕ
image_of m = text_under (head_of m) (kept m.heap no_roots)

-- the line of the run's own end was begun, with the count at which the model's run ended
abbrev pub BeginsEnd : Course → RoleState → RoleState → Type 0
BeginsEnd c old new = ((ran : ℕ) × IsParkedBy step.Next ran c.ending × PutPrefix (line_of (Done ran)) old new) ⊎ ((ran : ℕ) × IsParkedBy step.Quit ran c.ending × PutPrefix (line_of (Quit ran)) old new)

-- which is so where a fault of Notes is answered
abbrev pub CutsLine : Status → Course → RoleState → RoleState → Type 0
CutsLine (WriteFault Notes count) c old new = BeginsEnd c old new
CutsLine _ c old new = Unit {0}

-- What a run came to, as far as it came: that is the model's.
pub record RunsTo (tells : Role → Bool) (before now : Meanings) (row : Row) (stage : Stage) (status : Status) (c : Course) : Type 0 where
  -- It stopped for the reason that the answer says, or went through.
  pub stops : stage ≡ Running → Stops status row c
  pub goes : IsTrue (passes Running stage) → GoesThrough status c
  -- Where it went through, no object that it made takes more words than the core has.
  pub fits : IsTrue (passes Running stage) → OnParked c.ending (λ m. m.largest ≤ row.core)
  -- The bytes put to Transcript are what the machine said until then.
  pub says : IsTrue (tells Transcript) → stage ≡ Running → SaysStopped status row c (before.roles Transcript).put (now.roles Transcript).put
  pub said : IsTrue (tells Transcript) → IsTrue (passes Running stage) → (now.roles Transcript).put ≡ (before.roles Transcript).put ++ said_in c.ending
  -- Saved has the image of what is kept of the parked machine's heap, and is ended behind it; or a prefix, and no end, where writing or ending it
  -- failed. Display has its picture, or a prefix where writing it failed; nothing ends it.
  pub saves : IsTrue (tells Saved) → IsTrue (reaches Saving stage) → OnParked c.ending (λ m. MadeBy (passes Saving stage) row.saved (image_of m) (before.roles Saved) (now.roles Saved))
  pub draws : IsTrue (tells Display) → IsTrue (reaches Drawing stage) → OnDrawn c.ending (λ picture. WrittenBy (passes Drawing stage) row.display picture (before.roles Display) (now.roles Display))
  -- The last line, where it couldn't be written, is that of this end.
  pub cuts : IsTrue (tells Notes) → stage ≡ Telling → CutsLine status c (before.roles Notes) (now.roles Notes)
  -- And that image is one: a next run may read it, as `a_run_goes_on_from_what_was_saved` says.
  pub image : IsTrue (reaches Saving stage) → OnParked c.ending (λ m. IsImageOf (image_of m) (head_of m) (kept m.heap no_roots))

-- ---- what is said alike of a run and of a trace

-- The words of a row gave this answer.
pub record IsAnswered (tells : Role → Bool) (before now : Meanings) (row : Row) (result : Status) : Type 0 where
  -- Done says that as many bytecodes were run as the words ask for, and the others that no more were.
  pub ran : HasRun result row.steps
  -- A fault is answered only where it rose in this run, and with its count. Over a host that tells Work nothing is damaged.
  pub cause : IsCaused result before.faults now.faults
  pub whole : IsTrue (tells Work) → IsDamaged result → ⊥
  -- The numbers of an answer for want of room are past a limit that the words state.
  pub limits : IsPastLimits row result

-- What an end at this stage, with this answer, says of Work, Image and Events.
pub record ReadsAt (tells : Role → Bool) (now : Meanings) (row : Row) (stage : Stage) (result : Status) : Type 0 where
  -- The bytes of Image are refused exactly with the first rule that they break and its place, or where they state more objects than there is
  -- room for; those of Events exactly at their first bad line. All later answers come only where both are right.
  pub judges_image : IsTrue (tells Image) → stage ≡ Reading → JudgesImage (tells Work) result row.room (bytes_of (now.roles Image))
  pub right_image : IsTrue (tells Image) → IsTrue (tells Work) → IsTrue (passes Reading stage) → IsRightImage row.room (bytes_of (now.roles Image))
  pub judges_events : IsTrue (tells Events) → stage ≡ Listening → JudgesEvents result (bytes_of (now.roles Events))
  pub right_events : IsTrue (tells Events) → IsTrue (passes Listening stage) → (lines : List Line) × AreEvents (bytes_of (now.roles Events)) lines
  -- Each of the two was read to its end by then. An attach that went through leaves the role its word, that of Work too; Saved and Display have
  -- theirs by `WasWritten`.
  pub whole_image : IsTrue (tells Image) → IsTrue (passes Reading stage) → WasRead row.image (now.roles Image)
  pub whole_events : IsTrue (tells Events) → IsTrue (passes Listening stage) → WasRead row.events (now.roles Events)
  pub named_work : IsTrue (tells Work) → IsTrue (passes Opening stage) → (now.roles Work).name ≡ Some row.work

-- ---- Notes

-- a prefix of this line was put, and the whole line unless the count of faults rose
pub record Noted (line : List ℕ) (before now : Meanings) : Type 0 where
  pub prefix : PutPrefix line (before.roles Notes) (now.roles Notes)
  pub whole : (Rose (before.faults Notes) (now.faults Notes) → ⊥) → now.roles Notes ≡ puts line (before.roles Notes)

-- the line of a run that went through, or of one that ended itself after no more bytecodes, was begun
abbrev pub HasBegun : ℕ → RoleState → RoleState → Type 0
HasBegun steps old new = PutPrefix (line_of (Done steps)) old new ⊎ ((ran : ℕ) × (ran ≤ steps) × PutPrefix (line_of (Quit ran)) old new)

-- What was put to Notes. Done, Quit, Made, Listed and Assembled have their whole line there. Where that couldn't be written, the answer is a fault of Notes and no
-- second line is begun: `Begun` says which line was. Any other answer has its own line there, or as much of it as could be written.
abbrev pub NotedFor : Role → ℕ → (RoleState → RoleState → Type 0) → Meanings → Meanings → Type 0
NotedFor Notes count Begun before now = Begun (before.roles Notes) (now.roles Notes)
NotedFor role count Begun before now = Noted (line_of (WriteFault role count)) before now

abbrev pub NotedBy : Status → (RoleState → RoleState → Type 0) → Meanings → Meanings → Type 0
NotedBy (Done ran) Begun before now = now.roles Notes ≡ puts (line_of (Done ran)) (before.roles Notes)
NotedBy (Quit ran) Begun before now = now.roles Notes ≡ puts (line_of (Quit ran)) (before.roles Notes)
NotedBy (Made objects) Begun before now = now.roles Notes ≡ puts (line_of (Made objects)) (before.roles Notes)
NotedBy (Listed objects) Begun before now = now.roles Notes ≡ puts (line_of (Listed objects)) (before.roles Notes)
NotedBy (Assembled objects) Begun before now = now.roles Notes ≡ puts (line_of (Assembled objects)) (before.roles Notes)
NotedBy (WriteFault role count) Begun before now = NotedFor role count Begun before now
NotedBy status Begun before now = Noted (line_of status) before now
