-- The files of what was read, each with its role, in the order in which they are attached.
use Rattle.std.specs.Prelude.{ℕ, List, [], ◌∷◌}
use Rattle.loom_host.specs.declared.outside.Role.{Role}
use Rattle.loom_host.specs.declared.outside.Role.TheVariants.{Image, Events, Work, Saved, Display}
use Rattle.loom_words.specs.declared.kept.Kept.{Kept}
use Rattle.loom_words.specs.declared.kept.Kept.TheVariants.{Guard, Resume}
use Rattle.loom_words.specs.declared.words.Asked.{Asked}
use Rattle.loom_words.specs.declared.words.Asked.TheVariants.{Assemble, List as Listing, Make, Run, Trace}
use Rattle.loom_words.specs.declared.words.Command.{Command}
use Rattle.loom_words.specs.declared.words.Conversion.{Conversion}

abbrev pub files_of_run : Command → List (Role × List ℕ)
files_of_run c = (Work, c.work.now) ∷ (Image, c.image.now) ∷ (Events, c.events.now) ∷ (Saved, c.saved.now) ∷ (Display, c.display.now) ∷ []

abbrev pub files_of_conversion : Conversion → List (Role × List ℕ)
files_of_conversion c = (Work, c.work.now) ∷ (Image, c.source.now) ∷ (Saved, c.target.now) ∷ []

-- a trace has no picture
abbrev pub files_asked : Asked → List (Role × List ℕ)
files_asked (Run c) = files_of_run c
files_asked (Make m) = (Saved, m.file.now) ∷ []
files_asked (Listing c) = files_of_conversion c
files_asked (Assemble c) = files_of_conversion c
files_asked (Trace c) = (Work, c.work.now) ∷ (Image, c.image.now) ∷ (Events, c.events.now) ∷ (Saved, c.saved.now) ∷ []

-- a resumed run has no image but the one in the vault
abbrev pub files_kept : Kept → List (Role × List ℕ)
files_kept (Guard g) = files_of_run g.command
files_kept (Resume g) = (Work, g.command.work.now) ∷ (Events, g.command.events.now) ∷ (Saved, g.command.saved.now) ∷ (Display, g.command.display.now) ∷ []

abbrev pub vault_kept : Kept → List ℕ
vault_kept (Guard g) = g.vault.now
vault_kept (Resume g) = g.vault.now
