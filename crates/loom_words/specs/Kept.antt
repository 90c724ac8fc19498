-- The words of the two commands that keep checkpoints in a vault. Those of a guarded run are `guard`, the words of a run, and the vault; those of a
-- resumed one are `resume`, the vault, and the words of a run behind its image. The vault is none of the other files.
use Rattle.std.specs.Prelude.{◌≡◌, ◌≢◌, ℕ, ◌≤◌, decimal, List, [], ◌∷◌, ◌++◌, codes, Option, Some, None, if◌then◌else◌}
use Rattle.std.specs.Str.{bytes_eq}
use Rattle.loom_words.specs.Command.{HasLimits, row_for}
use Rattle.loom_words.specs.Words.{Check, Row, anything, bad_in, begins_with, is_none_at, number_at, number_checks, row_of, run_checks, word_at}
use Rattle.loom_words.specs.declared.kept.Kept.{Kept}
use Rattle.loom_words.specs.declared.kept.Kept.TheVariants.{Guard, Resume}
use Rattle.loom_words.specs.declared.words.TheConstants.{LEAST_CORE, MOST_CORE, LEAST_ENTRIES, MOST_ENTRIES, LEAST_ROOM, MOST_ROOM, MOST_STEPS}

-- ---- the rows of words

abbrev pub is_guard : Check
is_guard earlier word = bytes_eq word (codes "guard")

abbrev pub is_resume : Check
is_resume earlier word = bytes_eq word (codes "resume")

-- `guard IMAGE EVENTS WORK SAVED DISPLAY CORE ENTRIES ROOM STEPS VAULT`
abbrev pub guard_checks : List Check
guard_checks = run_checks ++ (is_none_at (1 ∷ 2 ∷ 3 ∷ 4 ∷ 5 ∷ []) ∷ [])

abbrev pub guard_row : List Check
guard_row = is_guard ∷ guard_checks

-- `VAULT EVENTS WORK SAVED DISPLAY`, behind the word of the command: as for a run, and none of the others is the vault.
abbrev pub vault_checks : List Check
vault_checks = anything ∷ is_none_at (1 ∷ []) ∷ is_none_at (1 ∷ 2 ∷ []) ∷ is_none_at (1 ∷ 3 ∷ []) ∷ is_none_at (1 ∷ 2 ∷ 3 ∷ 4 ∷ []) ∷ []

-- `resume VAULT EVENTS WORK SAVED DISPLAY CORE ENTRIES ROOM STEPS`
abbrev pub resume_checks : List Check
resume_checks = vault_checks ++ number_checks

abbrev pub resume_row : List Check
resume_row = is_resume ∷ resume_checks

-- What words ask for, of these two.
pub data KeptVerb : Type 0 where
  ToGuard : KeptVerb
  ToResume : KeptVerb
  Else : KeptVerb

-- the first word decides
abbrev pub kept_verb_of : List (List ℕ) → KeptVerb
kept_verb_of words = if begins_with (codes "guard") words then ToGuard else (if begins_with (codes "resume") words then ToResume else Else)

-- the position, from 1, of the first bad, missing or extra word of such a command; none where the words are right, or another command's
abbrev pub bad_kept_as : KeptVerb → List (List ℕ) → Option ℕ
bad_kept_as ToGuard words = bad_in guard_row words
bad_kept_as ToResume words = bad_in resume_row words
bad_kept_as Else words = None

abbrev pub bad_kept : List (List ℕ) → Option ℕ
bad_kept words = bad_kept_as (kept_verb_of words) words

-- ---- what the words ask for

-- the words of a guarded run stand as those of a run
abbrev pub guard_row_of : List (List ℕ) → Row
guard_row_of words = row_of words

-- a resumed run has no image but the one in the vault
abbrev pub resume_row_of : List (List ℕ) → Row
resume_row_of words = record {
  image = [];
  events = word_at words 2;
  work = word_at words 3;
  saved = word_at words 4;
  display = word_at words 5;
  core = number_at words 6;
  entries = number_at words 7;
  room = number_at words 8;
  steps = number_at words 9;
}

-- the vault stands last in a guarded run, and behind the word of the command in a resumed one
abbrev pub vault_of : List (List ℕ) → List ℕ
vault_of words = if begins_with (codes "guard") words then word_at words 10 else word_at words 1

-- these are the words of a guarded run
pub record IsGuard (words : List (List ℕ)) (row : Row) (vault : List ℕ) : Type 0 where
  pub words_are : words ≡ codes "guard" ∷ row.image ∷ row.events ∷ row.work ∷ row.saved ∷ row.display
      ∷ decimal row.core ∷ decimal row.entries ∷ decimal row.room ∷ decimal row.steps ∷ vault ∷ []
  pub core : (LEAST_CORE ≤ row.core) × (row.core ≤ MOST_CORE)
  pub entries : (LEAST_ENTRIES ≤ row.entries) × (row.entries ≤ MOST_ENTRIES)
  pub room : (LEAST_ROOM ≤ row.room) × (row.room ≤ MOST_ROOM)
  pub steps : row.steps ≤ MOST_STEPS
  pub work_apart : (row.work ≢ row.image) × (row.work ≢ row.events) × (row.work ≢ row.saved) × (row.work ≢ row.display)
  pub display_apart : (row.display ≢ row.image) × (row.display ≢ row.events) × (row.display ≢ row.saved)
  pub vault_apart : (vault ≢ row.image) × (vault ≢ row.events) × (vault ≢ row.work) × (vault ≢ row.saved) × (vault ≢ row.display)

-- these are the words of a resumed run
pub record IsResume (words : List (List ℕ)) (row : Row) (vault : List ℕ) : Type 0 where
  pub words_are : words ≡ codes "resume" ∷ vault ∷ row.events ∷ row.work ∷ row.saved ∷ row.display
      ∷ decimal row.core ∷ decimal row.entries ∷ decimal row.room ∷ decimal row.steps ∷ []
  pub imageless : row.image ≡ []
  pub core : (LEAST_CORE ≤ row.core) × (row.core ≤ MOST_CORE)
  pub entries : (LEAST_ENTRIES ≤ row.entries) × (row.entries ≤ MOST_ENTRIES)
  pub room : (LEAST_ROOM ≤ row.room) × (row.room ≤ MOST_ROOM)
  pub steps : row.steps ≤ MOST_STEPS
  pub work_apart : (row.work ≢ row.events) × (row.work ≢ row.saved) × (row.work ≢ row.display)
  pub display_apart : (row.display ≢ row.events) × (row.display ≢ row.saved)
  pub vault_apart : (vault ≢ row.events) × (vault ≢ row.work) × (vault ≢ row.saved) × (vault ≢ row.display)

-- what was read is what these words ask for, within its limits; nothing was read where they ask for neither
abbrev pub IsKept : List (List ℕ) → Option Kept → Type 0
IsKept words None = kept_verb_of words ≡ Else
IsKept words (Some (Guard g)) = (kept_verb_of words ≡ ToGuard) × (row_for g.command ≡ guard_row_of words) × (g.vault.now ≡ vault_of words) × HasLimits g.command
IsKept words (Some (Resume g)) = (kept_verb_of words ≡ ToResume) × (row_for g.command ≡ resume_row_of words) × (g.vault.now ≡ vault_of words) × HasLimits g.command
