-- Files in the temporary folder.
use Rattle.std.specs.Prelude.{◌++◌, ◌∷◌, List, string_bytes, ℕ}
use Rattle.st80_files.specs.declared.temporary.Temporary.{Temporary}

-- where the folder is
unfoldable pub folder_at : Temporary → List ℕ
folder_at t = string_bytes t.path

-- the path of a file of this name in a folder, behind a `/`
abbrev pub file_in : List ℕ → List ℕ → List ℕ
file_in folder name = folder ++ 47 ∷ name
