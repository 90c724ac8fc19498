-- Which texts sources ask for: the files of the kernel, one that says what the end of the run does, the files that are named, in their order, and
-- behind them the statements whose value is asked for, where there are any.
use Rattle.std.specs.Prelude.{◌≡◌, ℕ, Bool, true, false, List, [], ◌∷◌, ◌++◌, map, codes, string_bytes, Option, Some, None, IfSome}
use Rattle.std.specs.Borrow.{Bor}
use Rattle.st80_files.specs.Inside.{file_in}
use Rattle.st80_words.specs.declared.request.Sources.{Sources}
use Rattle.st80_make.specs.declared.texts.Text.{Text}

-- the words by which the texts were asked for
abbrev pub words_in : List Text → List (List ℕ)
words_in = map (λ text. string_bytes text.word)

abbrev pub words_at : List (Bor (List ℕ)) → List (List ℕ)
words_at = map (λ word. word.now)

-- files of these names in a folder
abbrev pub files_in : List ℕ → List (List ℕ) → List (List ℕ)
files_in folder = map (file_in folder)

-- the files of the kernel
abbrev pub kernel_names : List (List ℕ)
kernel_names = codes "object.st" ∷ codes "boolean.st" ∷ codes "number.st" ∷ codes "collection.st" ∷ codes "process.st" ∷ codes "graphics.st" ∷ []

-- the one behind them: it ends the run, or prints the value of the statements before
abbrev pub end_name : Option (Bor (List ℕ)) → List ℕ
end_name None = codes "end.st"
end_name (Some statements) = codes "eval.st"

-- the word of the statements
abbrev pub statements_word : Option (Bor (List ℕ)) → List (List ℕ)
statements_word None = []
statements_word (Some statements) = codes "statements" ∷ []

abbrev pub kernel_words : Bool → List ℕ → List ℕ → List (List ℕ)
kernel_words false folder end = []
kernel_words true folder end = files_in folder kernel_names ++ files_in folder (end ∷ [])

-- these are the files of the kernel that sources ask for, in the folder that is named, where one is
pub record AreKernel (sources : Sources) (end : List ℕ) (texts : List Text) : Type 0 where
  pub folder : List ℕ
  pub named : IfSome sources.kernel (λ name. folder ≡ name.now)
  pub words : words_in texts ≡ kernel_words sources.on_kernel folder end

-- these are the texts that sources and statements ask for
pub record AreAsked (sources : Sources) (statements : Option (Bor (List ℕ))) (texts : List Text) : Type 0 where
  pub folder : List ℕ
  pub named : IfSome sources.kernel (λ name. folder ≡ name.now)
  pub words : words_in texts ≡ (kernel_words sources.on_kernel folder (end_name statements) ++ words_at sources.files.items) ++ statements_word statements
