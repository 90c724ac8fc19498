-- What the program promises, over any host: read this first. Its words stand in `Stages` (the order of a run, and which answer comes
-- where), `Ends` (what it leaves of each role), `Makes` (the same of a making), `Converts` (of a listing and an assembling), `Traced` (of a
-- trace), `Words` (the rows of words), `Status` (the answers and their lines) and `Meanings`. The machine's rules are those of `blue_model`,
-- event lists those of `event_file`, images those of `image_format`.
use Rattle.std.specs.Prelude.{◌≡◌, ◌⊎◌, ℕ, ◌≤◌, Bool, List, [], ◌∷◌, None, IfSome, IsTrue, IsFalse, IsSome}
use Rattle.loom_host.specs.declared.outside.Role.{Role}
use Rattle.loom_host.specs.declared.outside.Role.TheVariants.{Image, Events, Work, Notes}
use Rattle.loom_run.specs.Ends.{AttachedOnce, IsAnswered, NotedBy, ReadsAt, RunOf, RunsTo, bytes_of, word_for}
use Rattle.loom_run.specs.Converts.{ConvertsAt, verb_for}
use Rattle.loom_run.specs.Makes.{HasBegunFor, Makes}
use Rattle.loom_run.specs.Meanings.{Meanings, IsLeft, LeavesBut}
use Rattle.loom_run.specs.declared.converting.Way.{Way}
use Rattle.loom_run.specs.Stages.{Stage, Running, Ends, reaches, stage_of}
use Rattle.loom_run.specs.Traced.{TracesAt}
use Rattle.loom_words.specs.Status.{usage_of}
use Rattle.loom_words.specs.Words.{Row, ToMake, ToRun, ToTrace, bad_word, make_of, paths_of, row_of, trace_row_of, verb_of}
use Rattle.loom_words.specs.declared.status.Status.{Status}

-- A run of right words ended at this stage, with this answer.
pub record EndsAt (tells : Role → Bool) (before now : Meanings) (row : Row) (stage : Stage) (result : Status) : Type 0 where
  -- The answer is one of those that come at this stage.
  pub answer : Ends stage result
  -- It comes with its cause, and within the limits that the words state.
  pub answered : IsAnswered tells before now row result
  -- Each role is attached at most once, by its own word, when its stage comes; before that nothing is done with it.
  pub attached : (role : Role) → IsTrue (tells role) → IsTrue (reaches (stage_of role) stage)
      → IfSome (word_for row role) (λ text. AttachedOnce text (before.roles role) (now.roles role))
  pub unused : (role : Role) → IsFalse (reaches (stage_of role) stage) → (role ≡ Notes) ⊎ IsLeft role before now
  -- The bytes of Image and of Events are judged, and read to their end.
  pub reads : ReadsAt tells now row stage result
  -- And then what comes of the machine's run is the model's over one unbounded memory of long names, and so are the bytes of Transcript, Saved
  -- and Display: `RunsTo` says how.
  pub run : IsTrue (tells Image) → IsTrue (tells Events) → IsTrue (tells Work) → IsTrue (reaches Running stage)
      → RunOf (bytes_of (now.roles Image)) (bytes_of (now.roles Events)) row.steps (RunsTo tells before now row stage result)

-- The program gave this answer to these words. The host tells what some roles hold; this is what it meant before, and means now.
pub record Promise (tells : Role → Bool) (before now : Meanings) (words : List (List ℕ)) (result : Status) : Type 0 where
  -- Usage comes exactly where a word is bad, missing or extra, and names the first such word; then nothing is done but the line on Notes.
  -- `right_words` of loom_words says which words are right: `run IMAGE EVENTS WORK SAVED DISPLAY CORE ENTRIES ROOM STEPS`, `make NUMBER FILE`,
  -- `list IMAGE WORK TEXT`, `asm TEXT WORK IMAGE`, and `trace IMAGE EVENTS WORK TEXT CORE ENTRIES ROOM STEPS`.
  pub usage : usage_of result ≡ bad_word words
  pub unasked : IsSome (bad_word words) → LeavesBut (Notes ∷ []) before now
  -- Where the words are right, a run ends at one of its stages,
  pub ends : verb_of words ≡ ToRun → bad_word words ≡ None → (stage : Stage) × EndsAt tells before now (row_of words) stage result
  -- a making as `Makes` says,
  pub makes : verb_of words ≡ ToMake → bad_word words ≡ None → Makes tells before now (make_of words) result
  -- a listing or an assembling at one of its stages, as `Converts` says,
  pub converts : (way : Way) → verb_of words ≡ verb_for way → bad_word words ≡ None → (stage : Stage) × ConvertsAt tells before now way (paths_of words) stage result
  -- and a trace at one of its stages, as `Traced` says.
  pub traces : verb_of words ≡ ToTrace → bad_word words ≡ None → (stage : Stage) × TracesAt tells before now (trace_row_of words) stage result
  -- Notes has the answer's line, or a prefix of it where Notes failed. Only Done, Quit, Made, Listed and Assembled become another answer then.
  pub noted : IsTrue (tells Notes) → NotedBy result (HasBegunFor (verb_of words) words) before now
  -- No count of faults falls.
  pub later : (role : Role) → before.faults role ≤ now.faults role
