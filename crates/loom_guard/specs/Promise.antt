-- What the program promises, over any host and any vault: read this first. The words of a run, and what it leaves of the roles of its host, are those of
-- loom_run; what a vault tells and what a stop may leave of it, of checkpoint; the course of a guarded run, of guarded_run.
use Rattle.std.specs.Prelude.{◌≡◌, ◌⊎◌, ℕ, ◌≤◌, Bool, List, [], ◌∷◌, Option, None, IfSome, IsTrue, IsFalse, IsSome}
use Rattle.long_names.specs.Heap.{Heap}
use Rattle.loom_host.specs.declared.outside.Role.{Role}
use Rattle.loom_host.specs.declared.outside.Role.TheVariants.{Image, Events, Work, Transcript, Notes}
use Rattle.image_format.specs.declared.opening.ImageHead.{ImageHead}
use Rattle.blue_model.specs.declared.event.Line.{Line}
use Rattle.blue_model.specs.Guarded.{Guarded, guarded_on}
use Rattle.blue_model.specs.Logs.{Course}
use Rattle.machine_run.specs.States.{model_state}
use Rattle.checkpoint.specs.declared.point.Point.{Point}
use Rattle.checkpoint.specs.History.{Keeps}
use Rattle.checkpoint.specs.Keeping.{IsLast, serial_of}
use Rattle.checkpoint.specs.Vault.{VaultState}
use Rattle.guarded_run.specs.Course.{guarded_course, serial_at}
use Rattle.guarded_run.specs.Legs.{guarded_first}
use Rattle.loom_words.specs.Kept.{Else, bad_kept, kept_verb_of, vault_of}
use Rattle.loom_words.specs.Status.{usage_of}
use Rattle.loom_words.specs.Words.{Row}
use Rattle.loom_words.specs.declared.status.Status.{Status}
use Rattle.loom_words.specs.declared.status.Status.TheVariants.{ReadFault, VaultFault}
use Rattle.loom_run.specs.Ends.{AreEvents, AttachedOnce, HasBegun, IsAnswered, IsImageOf, IsRightImage, JudgesImage, NotedBy, ReadsAt, RunsTo, bytes_of, word_for}
use Rattle.loom_run.specs.Meanings.{Meanings, IsLeft, LeavesBut}
use Rattle.loom_run.specs.Promise.{Promise}
use Rattle.loom_run.specs.Stages.{Stage, Reading, Running, Ends, passes, reaches, stage_of}
use Rattle.loom_guard.specs.Checkpoints.{IsCheckpointOf}
use Rattle.loom_guard.specs.Legs.{WantsMemory}
use Rattle.loom_guard.specs.Moments.{StopsAt}
use Rattle.loom_guard.specs.Vaults.{Finds, IsFrom, IsVaultCaused, IsVaultFault, IsVaultRefusal, KeepsLast, LeavesVault, OpenedOnce, VaultMeanings}
use Rattle.loom_guard.specs.Ways.{Way, Guarding, Resuming, image_by, is_told, row_by, tells_by, verb_by}

-- ---- the run

-- the answers of a stage: those of a run, and while it runs a fault of the vault
abbrev pub EndsKept : Stage → Status → Type 0
EndsKept Running (VaultFault count) = Unit {0}
EndsKept stage status = Ends stage status

-- What a run came to, as far as it came: that is the model's. Or there was no memory for a checkpoint or behind it, or for the
-- first memory.
abbrev pub ComesTo : (Role → Bool) → Meanings → Meanings → Row → List Line → Guarded → Stage → Status → Course → Type 0
ComesTo tells before now row lines g stage status c = RunsTo tells before now row stage status c ⊎ ((stage ≡ Running) × WantsMemory tells before now row lines g status c)

-- Where the run g stopped while its machine ran, the checkpoint that was answered last, which has this serial, and what was put to Transcript belong to one
-- bytecode. Where it went through, that is the last checkpoint that it came to.
pub record HasMoment (tells : Role → Bool) (before now : Meanings) (row : Row) (lines : List Line) (g : Guarded) (c : Course) (stage : Stage) (last : ℕ) (status : Status) : Type 0 where
  pub stopped : stage ≡ Running → StopsAt (tells Transcript) row.steps lines g c (before.roles Transcript).put (now.roles Transcript).put last status
  pub through : IsTrue (passes Running stage) → serial_at (guarded_on lines row.steps g) ≡ last

-- both, where the checkpoint of this serial was answered last
abbrev pub GuardComes : (Role → Bool) → Meanings → Meanings → Row → Stage → ℕ → Status → List Line → Guarded → Course → Type 0
GuardComes tells before now row stage last status lines g c = ComesTo tells before now row lines g stage status c × HasMoment tells before now row lines g c stage last status

-- The bytes are an image and an event list, and P holds of the guarded run that they begin and of its course.
pub record GuardedOf (image events : List ℕ) (steps first : ℕ) (P : List Line → Guarded → Course → Type 0) : Type 0 where
  pub head : ImageHead
  pub heap : Heap
  pub is : IsImageOf image head heap
  pub lines : List Line
  pub list : AreEvents events lines
  pub run : P lines (guarded_first first [] (model_state head.state) heap) (guarded_course lines steps first (model_state head.state) heap)

-- The checkpoint that a run begins with, and the vault as it was when that was found.
pub record Starts (way : Way) (old : VaultState) (point : Option Point) (start : VaultState) : Type 0 where
  -- A guarded run begins with none, and its vault is empty when it was opened. A resumed one begins with that of the vault, which holds what it held.
  pub from : IsFrom way old point
  pub finds : Finds way old start
  pub last : IsLast start point

-- A guarded or resumed run of right words, whose vault was opened, ended at this stage, with this answer. What it says is what `EndsAt` says of a run.
pub record KeptAt (way : Way) (tells : Role → Bool) (told : Bool) (before now : Meanings) (old new : VaultMeanings) (row : Row) (stage : Stage) (result : Status) : Type 0 where
  pub answer : EndsKept stage result
  pub answered : IsAnswered tells before now row result
  pub vault_cause : IsVaultCaused result old.faults new.faults
  pub attached : (role : Role) → IsTrue (tells_by way tells role) → IsTrue (reaches (stage_of role) stage)
      → IfSome (word_for row role) (λ text. AttachedOnce text (before.roles role) (now.roles role))
  pub unused : (role : Role) → IsFalse (reaches (stage_of role) stage) → (role ≡ Notes) ⊎ IsLeft role before now
  pub reads : ReadsAt (tells_by way tells) now row stage result
  -- A resumed run does nothing with Image: its image is in the vault. A fault of Image never comes.
  pub imageless : way ≡ Resuming → IsLeft Image before now
  pub never : way ≡ Resuming → (count : ℕ) → result ≡ ReadFault Image count → ⊥
  -- A guarded run begins with no checkpoint, over any vault.
  pub point : Option Point
  pub none : way ≡ Guarding → point ≡ None
  pub start : VaultState
  pub starts : IsTrue told → Starts way old.state point start
  -- The bytes that it begins with are refused as those of an image are: exactly with the first rule that they break, or for the objects that they state.
  pub judges : IsTrue (is_told way tells told) → stage ≡ Reading → JudgesImage (tells Work) result row.room (image_by way now start point)
  pub right : IsTrue (is_told way tells told) → IsTrue (tells Work) → IsTrue (passes Reading stage) → IsRightImage row.room (image_by way now start point)
  -- The serial of the checkpoint that was answered last, which is that of the one that it begins with before its machine ran. At each end but a failure of the vault
  -- the vault has that checkpoint, and a stop leaves it.
  pub last : ℕ
  pub early : IsTrue (passes stage Running) → last ≡ serial_of point
  pub stays : IsTrue told → KeepsLast new.state last result
  -- What comes of the machine's run is the model's guarded run over one unbounded memory of long names, and so are the bytes of Transcript, Saved and Display. The
  -- checkpoint that was answered last and what was said belong to the same bytecode.
  pub run : IsTrue (is_told way tells told) → IsTrue (tells Events) → IsTrue (tells Work) → IsTrue (reaches Running stage)
      → GuardedOf (image_by way now start point) (bytes_of (now.roles Events)) row.steps (serial_of point) (GuardComes tells before now row stage last result)
  -- The theorem on stops. From when that checkpoint was found, a stop at any moment leaves the checkpoint that was answered last, or the one that was under
  -- way, whole, and no other; the serial of the one that was answered last never falls. Each that this run kept is the model's guarded run's, at a bytecode that did 97.
  pub stops : IsTrue told → Keeps start new.state last (λ serial kept.
      IsTrue (is_told way tells told) → IsTrue (tells Events) → IsTrue (tells Work) → IsCheckpointOf (image_by way now start point) (bytes_of (now.roles Events)) row.steps (serial_of point) serial kept)

-- A guarded or resumed run of right words ended: the vault was refused, and nothing else was done but the line on Notes, and the vault is left so; or the run
-- ended at one of its stages.
abbrev pub KeptEnds : Way → (Role → Bool) → Bool → Meanings → Meanings → VaultMeanings → VaultMeanings → Row → Status → Type 0
KeptEnds way tells told before now old new row result =
    (IsVaultRefusal way told old new result × LeavesBut (Notes ∷ []) before now × (IsTrue told → LeavesVault way old.state new.state)) ⊎ ((stage : Stage) × KeptAt way tells told before now old new row stage result)

-- The program gave this answer to these words. The host tells what some roles hold, and the vault may tell what it holds; this is what they meant before, and mean
-- now.
pub record KeptPromise (tells : Role → Bool) (told : Bool) (before now : Meanings) (old new : VaultMeanings) (words : List (List ℕ)) (result : Status) : Type 0 where
  -- Words of other commands: the promise of `loom`, and nothing is done with the vault.
  pub others : kept_verb_of words ≡ Else → Promise tells before now words result × (new ≡ old)
  -- Usage comes exactly where a word is bad, missing or extra, and names the first such word; then nothing is done but the line on Notes.
  pub usage : (kept_verb_of words ≡ Else → ⊥) → usage_of result ≡ bad_kept words
  pub unasked : IsSome (bad_kept words) → LeavesBut (Notes ∷ []) before now × (new ≡ old)
  -- Where the words are right, the vault is opened once, before anything else is done, and the run ends so.
  pub opened : (way : Way) → kept_verb_of words ≡ verb_by way → bad_kept words ≡ None → IsTrue told → OpenedOnce (vault_of words) old.state new.state
  pub ends : (way : Way) → kept_verb_of words ≡ verb_by way → bad_kept words ≡ None → KeptEnds way tells told before now old new (row_by way words) result
  -- Notes has the answer's line, or a prefix of it where Notes failed. Only Done and Quit become another answer then.
  pub noted : (way : Way) → kept_verb_of words ≡ verb_by way → IsTrue (tells Notes) → NotedBy result (HasBegun (row_by way words).steps) before now
  -- No count of faults falls.
  pub later : (role : Role) → before.faults role ≤ now.faults role
  pub vault_later : old.faults ≤ new.faults
  -- Unless the answer is a fault of the vault, no call on the vault failed, from its opening to the end: the count of its faults is as it was.
  pub vault_calm : (IsVaultFault result → ⊥) → new.faults ≡ old.faults
