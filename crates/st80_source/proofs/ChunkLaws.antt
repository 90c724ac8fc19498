-- What one more byte does to a chunk.
use Rattle.std.proofs.Common.{◌≡◌, ℕ, List, [], ◌∷◌, ◌++◌, map, refl, sym, ap, ◌∙◌, append_assoc, append-nil}
use Rattle.std.proofs.lemmas.List.{map-append}
use Rattle.st80_source.specs.Chunks.{doubled, written}

pub doubled_append : (xs ys : List ℕ) → doubled (xs ++ ys) ≡ doubled xs ++ doubled ys
unfolding doubled
doubled_append [] ys = refl
doubled_append (x ∷ xs) ys = ap (λ (zs : List ℕ). written x ++ zs) (doubled_append xs ys) ∙ sym (append_assoc (written x) (doubled xs) (doubled ys))

pub doubled_one : (b : ℕ) → doubled (b ∷ []) ≡ written b
unfolding doubled
doubled_one b = append-nil (written b)

-- one more byte behind those that were read
pub one_more : (front old more : List ℕ) (bytes : List ℕ) (b : ℕ) → old ≡ front ++ doubled bytes → more ≡ old ++ written b → more ≡ front ++ doubled (bytes ++ b ∷ [])
one_more front old more bytes b e f =
    f ∙ ap (λ (zs : List ℕ). zs ++ written b) e ∙ append_assoc front (doubled bytes) (written b)
    ∙ ap (λ (zs : List ℕ). front ++ zs) (ap (λ (zs : List ℕ). doubled bytes ++ zs) (sym (doubled_one b)) ∙ sym (doubled_append bytes (b ∷ [])))

pub none_read : (f : ℕ → ℕ) (front bytes places : List ℕ) → bytes ≡ [] → places ≡ [] → (front ≡ front ++ doubled bytes) × (map f places ≡ bytes)
unfolding doubled
none_read f front bytes places e g = (sym (append-nil front) ∙ ap (λ (zs : List ℕ). front ++ zs) (sym (ap doubled e)), ap (map f) g ∙ sym e)

-- one more byte is read, at its place
pub more_read : (f : ℕ → ℕ) (front old more bytes longer places further : List ℕ) (b at : ℕ)
    → old ≡ front ++ doubled bytes → more ≡ old ++ written b → longer ≡ bytes ++ b ∷ [] → further ≡ places ++ at ∷ [] → map f places ≡ bytes → f at ≡ b
    → (more ≡ front ++ doubled longer) × (map f further ≡ longer)
more_read f front old more bytes longer places further b at e g h k m same = (
  one_more front old more bytes b e g ∙ ap (λ (zs : List ℕ). front ++ doubled zs) (sym h),
  ap (map f) k ∙ map-append f places (at ∷ []) ∙ ap (λ (zs : List ℕ). zs ++ f at ∷ []) m ∙ ap (λ (n : ℕ). bytes ++ n ∷ []) same ∙ sym h,
)
