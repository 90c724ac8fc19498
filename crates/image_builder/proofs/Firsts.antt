-- The first that breaks a rule, from the left.
-- A rule is a function that answers which rule an object breaks, and `first_of` is the first answer along the entries of the
-- map. So each loop keeps one equation, that the first of what is left is the first of all (`goes-on`, `ends-at`), and an early
-- return needs nothing else. Rules over the whole map take the look-up, not the heap, so that no clause is over all next names.
use Rattle.std.proofs.Common.{◌≡◌, ℕ, ◌+◌, Bool, true, false, ◌&&◌, List, [], ◌∷◌, take, get_or, Option, Some, None, refl, sym, ◌∙◌, ap}
use Rattle.std.proofs.lemmas.List.Elements.{All-head, All-tail, All-nil, All-cons}
use Rattle.std.proofs.lemmas.List.Folds.{list_all_at, list_all_more}
use Rattle.std.proofs.lemmas.Option.{slice_get_within, get_or_from_slice_get}
use Rattle.std.specs.List.{All, list_all, slice_get}
use Rattle.long_names.specs.declared.object.Object.{Object}
use Rattle.image_builder.specs.Rules.{◌or◌, named, first_of}

-- ---- tests of all

pub all-fails : {X : Type 0} (p : X → Bool) (xs : List X) (i : ℕ) (x : X) → slice_get xs i ≡ Some x → p x ≡ false → list_all p xs ≡ false
all-fails p xs i x at fails = list_all_at p xs i x (slice_get_within xs i x at) (ap p (get_or_from_slice_get xs i x x at) ∙ fails)

pub all-more : {X : Type 0} (p : X → Bool) (xs : List X) (i : ℕ) (x : X) → slice_get xs i ≡ Some x → list_all p (take i xs) ≡ true → p x ≡ true → list_all p (take (i + 1) xs) ≡ true
all-more p xs i x at before passes =
    list_all_more p xs i x (slice_get_within xs i x at)
    ∙ ap (λ b. b && p (get_or xs i x)) before
    ∙ ap p (get_or_from_slice_get xs i x x at)
    ∙ passes

-- ---- the first of objects

pub first-step : (f : ℕ → Object → Option ℕ) (e : ℕ × Object) (es : List (ℕ × Object)) → f e.0 e.1 ≡ None → first_of f (e ∷ es) ≡ first_of f es
first-step f e es none = ap (λ (o : Option ℕ). named e.0 o or first_of f es) none

pub first-hit : (f : ℕ → Object → Option ℕ) (e : ℕ × Object) (es : List (ℕ × Object)) (rule : ℕ) → f e.0 e.1 ≡ Some rule → first_of f (e ∷ es) ≡ Some (rule, e.0)
first-hit f e es rule some = ap (λ (o : Option ℕ). named e.0 o or first_of f es) some

-- one turn of a loop over them
pub goes-on : (f : ℕ → Object → Option ℕ) (all left rest : List (ℕ × Object)) (e : ℕ × Object) → first_of f left ≡ first_of f all → left ≡ e ∷ rest → f e.0 e.1 ≡ None → first_of f rest ≡ first_of f all
goes-on f all left rest e so_far turn none = sym (first-step f e rest none) ∙ sym (ap (first_of f) turn) ∙ so_far

pub ends-at : (f : ℕ → Object → Option ℕ) (all left rest : List (ℕ × Object)) (e : ℕ × Object) (rule : ℕ) → first_of f left ≡ first_of f all → left ≡ e ∷ rest → f e.0 e.1 ≡ Some rule → Some (rule, e.0) ≡ first_of f all
ends-at f all left rest e rule so_far turn some = sym (first-hit f e rest rule some) ∙ sym (ap (first_of f) turn) ∙ so_far

pub ends-with : (f : ℕ → Object → Option ℕ) (all left : List (ℕ × Object)) → first_of f left ≡ first_of f all → left ≡ [] → None ≡ first_of f all
ends-with f all left so_far none = sym (ap (first_of f) none) ∙ so_far

-- where nothing breaks, neither does
pub both-none : {X : Type 0} (a b : Option X) → (a or b) ≡ None → (a ≡ None) × (b ≡ None)
both-none None b e = (refl, e)
both-none {X} (Some x) b e = let no : ◌≡◌ {A = Option X} (Some x) None = e in absurd (cc)

named-none : (n : ℕ) (o : Option ℕ) → named n o ≡ None → o ≡ None
named-none n None e = refl
named-none n (Some r) e = let no : ◌≡◌ {A = Option (ℕ × ℕ)} (Some (r, n)) None = e in absurd (cc)

pub first-none : (f : ℕ → Object → Option ℕ) (es : List (ℕ × Object)) → first_of f es ≡ None → All (λ (e : ℕ × Object). f e.0 e.1 ≡ None) es
first-none f [] e = All-nil (λ (e : ℕ × Object). f e.0 e.1 ≡ None)
first-none f (x ∷ xs) e =
    let two = both-none (named x.0 (f x.0 x.1)) (first_of f xs) e in
    All-cons (λ (e : ℕ × Object). f e.0 e.1 ≡ None) x xs (named-none x.0 (f x.0 x.1) two.0) (first-none f xs two.1)

pub none-first : (f : ℕ → Object → Option ℕ) (es : List (ℕ × Object)) → All (λ (e : ℕ × Object). f e.0 e.1 ≡ None) es → first_of f es ≡ None
none-first f [] all = refl
none-first f (x ∷ xs) all = first-step f x xs (All-head (λ (e : ℕ × Object). f e.0 e.1 ≡ None) x xs all) ∙ none-first f xs (All-tail (λ (e : ℕ × Object). f e.0 e.1 ≡ None) x xs all)
