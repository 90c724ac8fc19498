-- The two commands that keep checkpoints: how a run begins, and what its host tells of the roles that it has.
use Rattle.std.specs.Prelude.{ℕ, Bool, false, List, [], Option, None, Some}
use Rattle.loom_host.specs.declared.outside.Role.{Role}
use Rattle.loom_host.specs.declared.outside.Role.TheVariants.{Image}
use Rattle.checkpoint.specs.Layout.{image_in}
use Rattle.checkpoint.specs.Vault.{VaultState, contents_of}
use Rattle.checkpoint.specs.declared.point.Point.{Point}
use Rattle.loom_words.specs.Kept.{KeptVerb, ToGuard, ToResume, guard_row_of, resume_row_of}
use Rattle.loom_words.specs.Words.{Row}
use Rattle.loom_run.specs.Ends.{bytes_of}
use Rattle.loom_run.specs.Meanings.{Meanings}

pub data Way : Type 0 where
  -- from an image, into a vault that is new
  Guarding : Way
  -- from the last checkpoint of a vault
  Resuming : Way

abbrev pub verb_by : Way → KeptVerb
verb_by Guarding = ToGuard
verb_by Resuming = ToResume

abbrev pub row_by : Way → List (List ℕ) → Row
row_by Guarding words = guard_row_of words
row_by Resuming words = resume_row_of words

-- what a host tells, but for Image
abbrev pub imageless : (Role → Bool) → Role → Bool
imageless tells Image = false
imageless tells role = tells role

-- what it tells of the roles that the command has: a resumed run has no Image
abbrev pub tells_by : Way → (Role → Bool) → Role → Bool
tells_by Guarding tells = tells
tells_by Resuming tells = imageless tells

-- whether it is told which image the run begins with
abbrev pub is_told : Way → (Role → Bool) → Bool → Bool
is_told Guarding tells told = tells Image
is_told Resuming tells told = told

-- the bytes of that image: those of the role, or what the vault holds for its checkpoint
abbrev pub image_by : Way → Meanings → VaultState → Option Point → List ℕ
image_by Guarding now vault point = bytes_of (now.roles Image)
image_by Resuming now vault None = []
image_by Resuming now vault (Some point) = image_in (contents_of vault) point
