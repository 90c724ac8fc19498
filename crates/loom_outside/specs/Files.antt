-- Files by their places and their names.
use Rattle.std.specs.Prelude.{ℕ, ◌+◌, List, [], ◌∷◌, map, slice_index_or, Bool, true, false, Option, None, Some, vec_capacity}
use Rattle.std.specs.Option.{option_map}
use Rattle.std.specs.Str.{bytes_eq}
use Rattle.loom_outside.specs.declared.files.File.{File}

-- the name of a file, or None for one that has none
abbrev pub name_of : File → Option (List ℕ)
name_of f = option_map (λ v. v.items) f.name

abbrev pub names : List File → List (Option (List ℕ))
names fs = map name_of fs

abbrev pub contents : List File → List (List ℕ)
contents fs = map (λ f. f.bytes.items) fs

-- how many bytes each can hold with no growth
abbrev pub rooms : List File → List ℕ
rooms fs = map (λ f. vec_capacity f.bytes) fs

-- the bytes of the file at a place
abbrev pub bytes_at : List (List ℕ) → ℕ → List ℕ
bytes_at all place = slice_index_or all place []

-- a file has this name
abbrev pub is_named : Option (List ℕ) → List ℕ → Bool
is_named None name = false
is_named (Some own) name = bytes_eq own name

abbrev pub place_after : Option ℕ → Bool → Option ℕ
place_after (Some place) here = Some (place + 1)
place_after None true = Some 0
place_after None false = None

-- the place of the last file of this name
abbrev pub newest : List (Option (List ℕ)) → List ℕ → Option ℕ
newest [] name = None
newest (own ∷ rest) name = place_after (newest rest name) (is_named own name)

-- how many places are kept
abbrev pub kept : Bool → ℕ
kept true = 1
kept false = 0
