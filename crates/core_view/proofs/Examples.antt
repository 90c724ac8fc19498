-- Worked values of the definitions.
use Rattle.std.proofs.Common.{◌≡◌, ℕ, pos, negsuc, [], ◌∷◌, refl}
use Rattle.long_names.specs.declared.value.Value.TheVariants.{Int, Ref}
use Rattle.long_names.specs.declared.object.Kind.TheVariants as kind
use Rattle.long_names.specs.declared.object.Body.TheVariants as body
use Rattle.object_table.specs.declared.entry.Entry.{Entry}
use Rattle.object_table.specs.Entries.{put, leaf_entry, free_entry}
use Rattle.core_view.specs.Words.{int_of_short, body_in, words_for}

-- the entry 6 has the name 80
abbrev entries : ℕ → Entry
entries = put (λ s. free_entry) 6 (leaf_entry 80)

-- 7 is the number 3, 65535 is -1, 6 names an entry, 0 is the record's field
pointers_mean : body_in entries (Int (pos 9) ∷ Int (pos 9) ∷ Int (pos 9) ∷ Ref 16 ∷ []) (7 ∷ 65535 ∷ 6 ∷ 0 ∷ []) kind.Pointers 4 ≡ body.Pointers (Int (pos 3) ∷ Int (negsuc 0) ∷ Ref 80 ∷ Ref 16 ∷ [])
unfolding body_in
pointers_mean = refl

-- two bytes to a word, the high one first; of the last word of three bytes only the high one
bytes_mean : body_in entries [] (16706 ∷ 17152 ∷ []) kind.Bytes 3 ≡ body.Bytes (65 ∷ 66 ∷ 67 ∷ [])
unfolding body_in
bytes_mean = refl

-- the header 2 states two literals: a short name and a lambda; then three bytes of code
method_means : body_in entries (Ref 40 ∷ Ref 42 ∷ []) (5 ∷ 6 ∷ 0 ∷ 28793 ∷ 30720 ∷ []) kind.Method 3 ≡ body.Method (pos 2) (Ref 80 ∷ Ref 42 ∷ []) (112 ∷ 121 ∷ 120 ∷ [])
unfolding body_in
method_means = refl

method_words : words_for kind.Method 3 2 ≡ 5
method_words = refl

-- the lowest and the highest SmallInteger
lowest : int_of_short 32769 ≡ negsuc 16383
lowest = refl

highest : int_of_short 32767 ≡ pos 16383
highest = refl
