-- Words that are written one after another into a chunk of its own.
use Rattle.std.proofs.Common.{zero, suc, ◌≡◌, ◌≢◌, ℕ, ◌<◌, List, [], ◌∷◌, length, refl, sym, ◌∙◌, ap, subst, arith, ⊎_elim, Some}
use Rattle.std.proofs.lemmas.Bool.{cases_eq}
use Rattle.std.proofs.Math.Path.{fun_ext}
use Rattle.std.specs.List.{slice_get, slice_set}
use Rattle.object_table.specs.Entries.{put}
use Rattle.core_segment.specs.Chunks.{Chunk, with_word}
use Rattle.core_view.proofs.Lists.{put-here, put-there}

pub fill-chunk : (first f g : ℕ → Chunk) (p i w : ℕ) → f ≡ put first p (record { owner = (first p).owner; words = (f p).words }) → g ≡ with_word f p i w → g ≡ put first p (record { owner = (first p).owner; words = (g p).words })
fill-chunk first f g p i w was step = fun_ext (λ q. ⊎_elim (λ (h : q ≡ p). subst (λ (z : ℕ). g z ≡ put first p (record { owner = (first p).owner; words = (g p).words }) z) (sym h) here) (λ (h : q ≢ p). there q h) (cases_eq q p))
  where
    owner : (g p).owner ≡ (first p).owner
    owner = ap (λ (k : ℕ → Chunk). (k p).owner) step ∙ ap (λ (x : Chunk). x.owner) (put-here f p (record { owner = (f p).owner; words = slice_set (f p).words i w })) ∙ ap (λ (k : ℕ → Chunk). (k p).owner) was ∙ ap (λ (x : Chunk). x.owner) (put-here first p (record { owner = (first p).owner; words = (f p).words }))

    here : g p ≡ put first p (record { owner = (first p).owner; words = (g p).words }) p
    here = (λ j. record { owner = owner j; words = (g p).words }) ∙ sym (put-here first p (record { owner = (first p).owner; words = (g p).words }))

    there : (q : ℕ) → q ≢ p → g q ≡ put first p (record { owner = (first p).owner; words = (g p).words }) q
    there q away =
        ap (λ (k : ℕ → Chunk). k q) step ∙ put-there f p (record { owner = (f p).owner; words = slice_set (f p).words i w }) q away ∙ ap (λ (k : ℕ → Chunk). k q) was
        ∙ put-there first p (record { owner = (first p).owner; words = (f p).words }) q away ∙ sym (put-there first p (record { owner = (first p).owner; words = (g p).words }) q away)

pub written-words : (f : ℕ → Chunk) (p i w : ℕ) → (with_word f p i w p).words ≡ slice_set (f p).words i w
written-words f p i w = ap (λ (x : Chunk). x.words) (put-here f p (record { owner = (f p).owner; words = slice_set (f p).words i w }))

pub get-set : (ws : List ℕ) (i w : ℕ) → i < length ws → slice_get (slice_set ws i w) i ≡ Some w
get-set [] i w low = absurd (omega arith)
get-set (x ∷ xs) zero w low = refl
get-set (x ∷ xs) (suc i) w low = get-set xs i w (omega arith)

pub get-set-other : (ws : List ℕ) (i w k : ℕ) → k ≢ i → slice_get (slice_set ws i w) k ≡ slice_get ws k
get-set-other [] i w k away = refl
get-set-other (x ∷ xs) zero w zero away = absurd (away refl)
get-set-other (x ∷ xs) zero w (suc k) away = refl
get-set-other (x ∷ xs) (suc i) w zero away = refl
get-set-other (x ∷ xs) (suc i) w (suc k) away = get-set-other xs i w k (λ e. away (ap suc e))

-- two lists of one length with the same elements
pub all-same : {A : Type 0} (xs ys : List A) → length xs ≡ length ys → ((k : ℕ) → k < length xs → slice_get xs k ≡ slice_get ys k) → xs ≡ ys
all-same [] [] l h = refl
all-same [] (y ∷ ys) l h = cc
all-same (x ∷ xs) [] l h = cc
all-same (x ∷ xs) (y ∷ ys) l h = ap (λ z. z ∷ xs) (some (h 0 (omega arith))) ∙ ap (λ t. y ∷ t) (all-same xs ys (omega arith) (λ k low. h (suc k) (omega arith)))
  where
    some : Some x ≡ Some y → x ≡ y
    some e = cc

-- what is put last is there
pub put-twice : {A : Type 0} (f : ℕ → A) (k : ℕ) (a b : A) → put (put f k a) k b ≡ put f k b
put-twice {A} f k a b = fun_ext (λ q. ⊎_elim
    (λ (h : q ≡ k). subst (λ (z : ℕ). put (put f k a) k b z ≡ put f k b z) (sym h) (put-here (put f k a) k b ∙ sym (put-here f k b)))
    (λ (h : q ≢ k). put-there (put f k a) k b q h ∙ put-there f k a q h ∙ sym (put-there f k b q h)) (cases_eq q k))
