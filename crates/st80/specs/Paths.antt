-- Where the files of a run are, by the words that ask for them. The word `-` is a standard stream, for which a file of the temporary folder stands.
use Rattle.std.specs.Prelude.{◌≡◌, ◌≢◌, ◌⊎◌, ◌++◌, [], List, None, Option, Some, codes, string_bytes, ℕ}
use Rattle.std.specs.Borrow.{Bor}
use Rattle.st80_files.specs.Inside.{file_in}
use Rattle.st80_looks.specs.declared.drawing.Drawing.{Drawing}
use Rattle.st80_looks.specs.declared.drawing.Drawing.TheVariants.{Nowhere as NotDrawn, Out, Pbm, Png, Terminal}
use Rattle.st80_words.specs.Rows.{null_text}
use Rattle.st80_words.specs.declared.request.Running.{Running}
use Rattle.st80_words.specs.declared.request.Saving.{Saving}
use Rattle.st80_words.specs.declared.request.Saving.TheVariants.{Beside, Nowhere, Over, To}
use Rattle.st80_words.specs.declared.rows.Unused.TheVariants as unused
use Rattle.st80.specs.declared.paths.Paths.{Paths}
use Rattle.st80.specs.declared.rows.Source.{Source}
use Rattle.st80.specs.declared.rows.Source.TheVariants.{Guarded, Image, Kept}

-- the paths of the five roles that have files
pub record Files : Type 0 where
  pub image : List ℕ
  pub events : List ℕ
  pub work : List ℕ
  pub saved : List ℕ
  pub display : List ℕ

abbrev pub files_at : Paths → Files
files_at paths = record {
  image = string_bytes paths.image;
  events = string_bytes paths.events;
  work = string_bytes paths.work;
  saved = string_bytes paths.saved;
  display = string_bytes paths.display;
}

-- a file that is read: that of the word, or a copy of it in the folder, as of a stream
pub record IsReadBy (folder name word path : List ℕ) : Type 0 where
  pub one : (path ≡ word) ⊎ (path ≡ file_in folder name)
  pub stream : word ≡ codes "-" → path ≡ file_in folder name

-- a file that is written: that of the word, or one in the folder that is copied to standard output
pub record IsWrittenBy (folder name word path : List ℕ) : Type 0 where
  pub file : word ≢ codes "-" → path ≡ word
  pub stream : word ≡ codes "-" → path ≡ file_in folder name

-- the word that an image comes from, or the vault
abbrev pub first_word : Source → List ℕ
first_word (Image image) = image.now
first_word (Guarded image vault) = image.now
first_word (Kept vault) = vault.now

-- what a vault keeps has no image but the one in it
abbrev pub IsImage : List ℕ → Source → List ℕ → Type 0
IsImage folder (Image image) path = IsReadBy folder (codes "image") image.now path
IsImage folder (Guarded image vault) path = IsReadBy folder (codes "image") image.now path
IsImage folder (Kept vault) path = path ≡ []

abbrev pub IsEvents : List ℕ → Option (Bor (List ℕ)) → List ℕ → Type 0
IsEvents folder None path = path ≡ null_text unused.Events
IsEvents folder (Some word) path = IsReadBy folder (codes "events") word.now path

abbrev pub IsWork : List ℕ → Option (Bor (List ℕ)) → List ℕ → Type 0
IsWork folder None path = path ≡ file_in folder (codes "work")
IsWork folder (Some word) path = path ≡ word.now

-- what is saved beside the first word has its name with an end; beside a stream nothing is saved
pub record IsBeside (word path : List ℕ) : Type 0 where
  pub file : word ≢ codes "-" → path ≡ word ++ codes ".saved"
  pub stream : word ≡ codes "-" → path ≡ null_text unused.Saved

abbrev pub IsSaved : List ℕ → Saving → List ℕ → List ℕ → Type 0
IsSaved folder Beside word path = IsBeside word path
IsSaved folder Over word path = path ≡ word
IsSaved folder Nowhere word path = path ≡ null_text unused.Saved
IsSaved folder (To file) word path = IsWrittenBy folder (codes "saved") file.now path

abbrev pub IsDisplay : List ℕ → Drawing → List ℕ → Type 0
IsDisplay folder NotDrawn path = path ≡ null_text unused.Display
IsDisplay folder (Pbm file) path = path ≡ file.now
IsDisplay folder (Png file) path = path ≡ file_in folder (codes "picture")
IsDisplay folder Out path = path ≡ file_in folder (codes "picture")
IsDisplay folder Terminal path = path ≡ file_in folder (codes "picture")

-- each role has the file that was asked for
pub record AreFiles (folder : List ℕ) (source : Source) (running : Running) (drawing : Drawing) (files : Files) : Type 0 where
  pub image : IsImage folder source files.image
  pub events : IsEvents folder running.events files.events
  pub work : IsWork folder running.work files.work
  pub saved : IsSaved folder running.saving (first_word source) files.saved
  pub display : IsDisplay folder drawing files.display
