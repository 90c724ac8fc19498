-- The files that words name, one after the other.
use Rattle.std.specs.Prelude.{String, option_map, string_bytes}
use Rattle.std.specs.List.{cons_option, slice_get}
use Rattle.std.proofs.Common.{◌≡◌, ℕ, ◌+◌, ◌<◌, ◌≤◌, List, [], ◌∷◌, ◌++◌, None, length, map, take, get_or, sym, ap, ◌∙◌, append_assoc, arith}
use Rattle.std.proofs.lemmas.List.{append-nil, length-map, map-append, take_more}
use Rattle.std.proofs.lemmas.Option.{slice_get_past}
use Rattle.std.proofs.lemmas.List.Elements.{filter_map-append}
use Rattle.loom_host.specs.declared.outside.Role.{Role}
use Rattle.loom_words.specs.Files.{Telling, expects, named_among, with_word}
use Rattle.loom_words.specs.Words.{texts_of}
use Rattle.loom_words.specs.declared.files.Listener.{Listener}

abbrev pub told_of : Listener → List (List ℕ) → List (Role × ℕ) → List Telling
told_of listener words roles = map (expects listener) (named_among words roles)

told-append : (listener : Listener) (words : List (List ℕ)) (xs ys : List (Role × ℕ)) → told_of listener words (xs ++ ys) ≡ told_of listener words xs ++ told_of listener words ys
told-append listener words xs ys =
    ap (λ fs. map (expects listener) fs) (filter_map-append (with_word words) xs ys) ∙ map-append (expects listener) (named_among words xs) (named_among words ys)

-- one more of the roles is told
pub one-told : (listener : Listener) (words : List (List ℕ)) (roles : List (Role × ℕ)) (i : ℕ) (d : Role × ℕ) (start old new : List Telling) → i < length roles
    → old ≡ start ++ told_of listener words (take i roles) → new ≡ old ++ told_of listener words (get_or roles i d ∷ []) → new ≡ start ++ told_of listener words (take (i + 1) roles)
one-told listener words roles i d start old new low so_far then' =
    then' ∙ ap (λ ts. ts ++ told_of listener words (get_or roles i d ∷ [])) so_far
    ∙ append_assoc start (told_of listener words (take i roles)) (told_of listener words (get_or roles i d ∷ []))
    ∙ ap (λ ts. start ++ ts) (sym (told-append listener words (take i roles) (get_or roles i d ∷ [])))
    ∙ ap (λ fs. start ++ told_of listener words fs) (sym (take_more roles i d low))

-- nothing is told of a word that isn't there
pub none-told : {Z : Type 0} (listener : Listener) (words : List (String Z)) (role : Role) (place : ℕ) (start : List Telling) → length words ≤ place
    → start ≡ start ++ told_of listener (texts_of words) ((role, place) ∷ [])
none-told listener words role place start past =
    let none : slice_get (texts_of words) place ≡ None = slice_get_past (texts_of words) place (omega (arith, past, length-map words string_bytes)) in
    sym (ap (λ found. start ++ map (expects listener) (cons_option (option_map (λ (word : List ℕ). (role, word)) found) [])) none ∙ append-nil start)
