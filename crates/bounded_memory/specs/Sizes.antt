-- The size of an object, by its kind, its length and the number of its literals.
use Rattle.std.specs.Prelude.{ℕ, ◌+◌, ◌/◌}
use Rattle.long_names.specs.declared.object.Kind.{Kind}
use Rattle.long_names.specs.declared.object.Kind.TheVariants as kind

-- its words, with the four that a body takes more
abbrev pub words_for : Kind → ℕ → ℕ → ℕ
words_for kind.Pointers len literals = 4 + len
words_for kind.Words len literals = 4 + len
words_for kind.Bytes len literals = 4 + (len + 1) / 2
words_for kind.Method len literals = 4 + (1 + literals + (len + 1) / 2)

-- two entries, and one for each field
abbrev pub entries_for : Kind → ℕ → ℕ → ℕ
entries_for kind.Pointers len literals = 2 + len
entries_for kind.Words len literals = 2
entries_for kind.Bytes len literals = 2
entries_for kind.Method len literals = 2 + literals
