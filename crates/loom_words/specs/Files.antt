-- The files of each command: at which of its words each stands, and which two of them may be one file. Two words that differ may lead to one
-- file, by a path, a link or another name of it. So the host and the vault are told of the files before any is opened: a role is compared with
-- those that were attached before it, and what comes later has to be told.
use Rattle.std.specs.Prelude.{◌≢◌, ℕ, Bool, true, false, List, [], ◌∷◌, ◌++◌, map, codes, Option, Some, None, if◌then◌else◌, not, option_map, ⊤}
use Rattle.std.specs.List.{filter_map, slice_get}
use Rattle.std.specs.Str.{bytes_eq}
use Rattle.loom_host.specs.declared.outside.Role.{Role}
use Rattle.loom_host.specs.declared.outside.Role.TheVariants.{Image, Events, Work, Saved, Display}
use Rattle.loom_words.specs.declared.files.Listener.{Listener}
use Rattle.loom_words.specs.declared.files.Listener.TheVariants.{Host, Vault}

-- ---- the table

-- The files that the words of a command name: those of the roles, in the order in which they are attached, and the vault's, each with the place of
-- its word. The word of the command has place 0.
pub record Files : Type 0 where
  pub roles : List (Role × ℕ)
  pub vault : Option ℕ
  -- whether Saved keeps off what Image and Events read
  pub keeps_inputs : Bool

-- `run IMAGE EVENTS WORK SAVED DISPLAY ..`. The saved image may take the place of what was read.
abbrev pub run_files : Files
run_files = record { roles = (Work, 3) ∷ (Image, 1) ∷ (Events, 2) ∷ (Saved, 4) ∷ (Display, 5) ∷ []; vault = None; keeps_inputs = false }

-- `guard IMAGE EVENTS WORK SAVED DISPLAY CORE ENTRIES ROOM STEPS VAULT`
abbrev pub guard_files : Files
guard_files = record { roles = (Work, 3) ∷ (Image, 1) ∷ (Events, 2) ∷ (Saved, 4) ∷ (Display, 5) ∷ []; vault = Some 10; keeps_inputs = false }

-- `resume VAULT EVENTS WORK SAVED DISPLAY ..`
abbrev pub resume_files : Files
resume_files = record { roles = (Work, 3) ∷ (Events, 2) ∷ (Saved, 4) ∷ (Display, 5) ∷ []; vault = Some 1; keeps_inputs = false }

-- `trace IMAGE EVENTS WORK TEXT ..`. The lines go to none of the files that are read.
abbrev pub trace_files : Files
trace_files = record { roles = (Work, 3) ∷ (Image, 1) ∷ (Events, 2) ∷ (Saved, 4) ∷ []; vault = None; keeps_inputs = true }

-- `list IMAGE WORK TEXT`, `asm TEXT WORK IMAGE`. What is written may take the place of what was read.
abbrev pub conversion_files : Files
conversion_files = record { roles = (Work, 2) ∷ (Image, 1) ∷ (Saved, 3) ∷ []; vault = None; keeps_inputs = false }

-- `make NUMBER FILE`
abbrev pub make_files : Files
make_files = record { roles = (Saved, 2) ∷ []; vault = None; keeps_inputs = false }

abbrev pub no_files : Files
no_files = record { roles = []; vault = None; keeps_inputs = false }

-- by the word of the command
abbrev pub files_named : List ℕ → Files
files_named word =
    if bytes_eq word (codes "run") then run_files
    else (if bytes_eq word (codes "guard") then guard_files
    else (if bytes_eq word (codes "resume") then resume_files
    else (if bytes_eq word (codes "trace") then trace_files
    else (if bytes_eq word (codes "list") then conversion_files
    else (if bytes_eq word (codes "asm") then conversion_files
    else (if bytes_eq word (codes "make") then make_files
    else no_files))))))

abbrev pub files_of_command : List (List ℕ) → Files
files_of_command [] = no_files
files_of_command (word ∷ words) = files_named word

-- ---- the files that words name

abbrev pub with_word : List (List ℕ) → Role × ℕ → Option (Role × List ℕ)
with_word words file = option_map (λ word. (file.0, word)) (slice_get words file.1)

-- those whose words are there
abbrev pub named_among : List (List ℕ) → List (Role × ℕ) → List (Role × List ℕ)
named_among words files = filter_map (with_word words) files

abbrev pub word_there : List (List ℕ) → Option ℕ → Option (List ℕ)
word_there words None = None
word_there words (Some place) = slice_get words place

abbrev pub roles_named : List (List ℕ) → List (Role × List ℕ)
roles_named words = named_among words (files_of_command words).roles

abbrev pub vault_named : List (List ℕ) → Option (List ℕ)
vault_named words = word_there words (files_of_command words).vault

-- ---- which of them may be one

-- Whose a file is.
pub data Holder : Type 0 where
  Of : Role → Holder
  OfVault : Holder

-- Whether the files of two roles may be one. What is only read may be read twice, and Saved may take the place of what was read, unless it keeps off
-- that. Every other file is that of its role alone. The standard streams are no words: the host keeps their files from all roles.
abbrev pub may_be_one : Bool → Role → Role → Bool
may_be_one keeps_inputs Image Events = true
may_be_one keeps_inputs Events Image = true
may_be_one keeps_inputs Image Saved = not keeps_inputs
may_be_one keeps_inputs Saved Image = not keeps_inputs
may_be_one keeps_inputs Events Saved = not keeps_inputs
may_be_one keeps_inputs Saved Events = not keeps_inputs
may_be_one keeps_inputs a b = false

-- The vault's file is that of no role.
abbrev pub may_share : Bool → Holder → Holder → Bool
may_share keeps_inputs (Of a) (Of b) = may_be_one keeps_inputs a b
may_share keeps_inputs a b = false

abbrev pub of_role : Role × List ℕ → Holder × List ℕ
of_role file = (Of file.0, file.1)

abbrev pub of_vault : Option (List ℕ) → List (Holder × List ℕ)
of_vault None = []
of_vault (Some vault) = (OfVault, vault) ∷ []

-- all files that words name, the vault's last
abbrev pub holders_named : List (List ℕ) → List (Holder × List ℕ)
holders_named words = map of_role (roles_named words) ++ of_vault (vault_named words)

abbrev pub IsApart : Bool → List ℕ → List ℕ → Type 0
IsApart true a b = ⊤
IsApart false a b = a ≢ b

abbrev pub IsApartFrom : Bool → Holder × List ℕ → List (Holder × List ℕ) → Type 0
IsApartFrom keeps_inputs file [] = ⊤
IsApartFrom keeps_inputs file (other ∷ others) = IsApart (may_share keeps_inputs file.0 other.0) file.1 other.1 × IsApartFrom keeps_inputs file others

abbrev pub AreApart : Bool → List (Holder × List ℕ) → Type 0
AreApart keeps_inputs [] = ⊤
AreApart keeps_inputs (file ∷ files) = IsApartFrom keeps_inputs file files × AreApart keeps_inputs files

-- no two words are the same whose files may not be one
abbrev pub HasFilesApart : List (List ℕ) → Type 0
HasFilesApart words = AreApart (files_of_command words).keeps_inputs (holders_named words)

-- ---- what is told of them

pub data Telling : Type 0 where
  -- the role will be attached by this name
  Expects : Listener → Role → List ℕ → Telling
  -- the host: Saved takes the file of neither Image nor Events
  KeepsInputs : Telling
  -- the host: no role takes the file of this name
  Protects : List ℕ → Telling

abbrev pub expects : Listener → Role × List ℕ → Telling
expects listener file = Expects listener file.0 file.1

-- What is attached after Work, which is attached first, so that the host has to be told of these; nothing where a command has no work file.
abbrev pub behind_work : List (Role × ℕ) → List (Role × ℕ)
behind_work ((Work, place) ∷ files) = files
behind_work files = []

abbrev pub told_of_roles : List (List ℕ) → Files → List Telling
told_of_roles words files = map (expects Host) (named_among words (behind_work files.roles))

abbrev pub told_of_inputs : Files → List Telling
told_of_inputs files = if files.keeps_inputs then KeepsInputs ∷ [] else []

-- The vault is opened before any role is attached, and is told of all; and no role takes it.
abbrev pub told_by_vault : List (List ℕ) → List (Role × ℕ) → Option (List ℕ) → List Telling
told_by_vault words roles None = []
told_by_vault words roles (Some vault) = map (expects Vault) (named_among words roles) ++ Protects vault ∷ []

abbrev pub told_of_vault : List (List ℕ) → Files → List Telling
told_of_vault words files = told_by_vault words files.roles (word_there words files.vault)

-- what the host and the vault are told of these words, in this order
abbrev pub tellings : List (List ℕ) → List Telling
tellings words = told_of_roles words (files_of_command words) ++ told_of_inputs (files_of_command words) ++ told_of_vault words (files_of_command words)
