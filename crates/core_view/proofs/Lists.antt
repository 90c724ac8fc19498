-- Lists of values, and tallies.
use Rattle.std.proofs.lemmas.List.Sums.{count_by-le-length}
use Rattle.std.proofs.Common.{zero, suc, ◌≡◌, ◌≢◌, ℕ, ◌+◌, ◌<◌, ◌≤◌, Bool, true, false, cond, List, [], ◌∷◌, length, refl, sym, ◌∙◌, ap, subst, arith, ⊎_elim, Some, count_by}
use Rattle.std.proofs.lemmas.Grind.{common_steps}
use Rattle.std.proofs.lemmas.Bool.{cases_eq}
use Rattle.std.specs.List.{slice_get, slice_set}
use Rattle.long_names.specs.declared.value.Value.{Value}
use Rattle.std.specs.Prelude.{take, drop}
use Rattle.long_names.specs.Words.{literal_count}
use Rattle.long_names.specs.declared.object.Kind.{Kind}
use Rattle.long_names.specs.declared.object.Kind.TheVariants as kind
use Rattle.object_table.specs.Entries.{put, is_short}
use Rattle.core_view.specs.Words.{values_by, header_in, literals_in, code_in, pointers, spot, int_of_short}
use Rattle.core_view.specs.Counts.{tally, names, one}

-- ---- functions with another value at one place

pub put-here : {A : Type 0} (f : ℕ → A) (k : ℕ) (a : A) → put f k a k ≡ a
put-here f k a = grind (arith, common_steps)

pub put-there : {A : Type 0} (f : ℕ → A) (k : ℕ) (a : A) (q : ℕ) → q ≢ k → put f k a q ≡ f q
put-there f k a q away = grind (arith, common_steps)

-- ---- values

-- one word changed: one value
pub values-set : (f : ℕ → ℕ → Value) (ws : List ℕ) (i w : ℕ) → values_by f (slice_set ws i w) ≡ slice_set (values_by f ws) i (f i w)
values-set f [] i w = refl
values-set f (x ∷ xs) zero w = refl
values-set f (x ∷ xs) (suc i) w = ap (λ t. f 0 x ∷ t) (values-set (λ k. f (suc k)) xs i w)

-- words that mean the same
pub values-same : (f g : ℕ → ℕ → Value) (ws : List ℕ) → ((i w : ℕ) → slice_get ws i ≡ Some w → f i w ≡ g i w) → values_by f ws ≡ values_by g ws
values-same f g [] h = refl
values-same f g (x ∷ xs) h = ap (λ v. v ∷ values_by (λ k. f (suc k)) xs) (h 0 x refl) ∙ ap (λ t. g 0 x ∷ t) (values-same (λ k. f (suc k)) (λ k. g (suc k)) xs (λ i w e. h (suc i) w e))

pub length-values : (f : ℕ → ℕ → Value) (ws : List ℕ) → length (values_by f ws) ≡ length ws
length-values f [] = refl
length-values f (x ∷ xs) = ap suc (length-values (λ k. f (suc k)) xs)

pub some-same : {X : Type 0} (x y : X) → Some x ≡ Some y → x ≡ y
some-same x y e = cc

pub values-get : (f : ℕ → ℕ → Value) (ws : List ℕ) (i w : ℕ) → slice_get ws i ≡ Some w → slice_get (values_by f ws) i ≡ Some (f i w)
values-get f [] i w e = cc
values-get f (x ∷ xs) zero w e = ap (λ z. Some (f 0 z)) (some-same x w e)
values-get f (x ∷ xs) (suc i) w e = values-get (λ k. f (suc k)) xs i w e

-- ---- counts

pub count-cons : (s x : ℕ) (xs : List ℕ) → count_by (names s) (x ∷ xs) ≡ one s x + count_by (names s) xs
count-cons s x xs = go (names s x) refl
  where
    go : (b : Bool) → names s x ≡ b → count_by (names s) (x ∷ xs) ≡ cond (names s x) 1 0 + count_by (names s) xs
    go true e = grind (arith, common_steps)
    go false e = grind (arith, common_steps)

-- one word changed
pub count-set : (s : ℕ) (ws : List ℕ) (i w old : ℕ) → slice_get ws i ≡ Some old → count_by (names s) (slice_set ws i w) + one s old ≡ count_by (names s) ws + one s w
count-set s [] i w old e = cc
count-set s (x ∷ xs) zero w old e = let same : x ≡ old = some-same x old e in subst (λ (z : ℕ). count_by (names s) (w ∷ xs) + one s z ≡ count_by (names s) (x ∷ xs) + one s w) same (omega (arith, count-cons s w xs, count-cons s x xs))
count-set s (x ∷ xs) (suc i) w old e = omega (arith, count-cons s x (slice_set xs i w), count-cons s x xs, count-set s xs i w old e)

pub count-some : (s : ℕ) (ws : List ℕ) (i w : ℕ) → slice_get ws i ≡ Some w → one s w ≤ count_by (names s) ws
count-some s [] i w e = cc
count-some s (x ∷ xs) zero w e = let same : x ≡ w = some-same x w e in subst (λ (z : ℕ). one s z ≤ count_by (names s) (x ∷ xs)) same (omega (arith, count-cons s x xs))
count-some s (x ∷ xs) (suc i) w e = omega (arith, count-cons s x xs, count-some s xs i w e)

-- a short word names itself, and no other word does
pub one-here : (s : ℕ) → is_short s ≡ true → one s s ≡ 1
one-here s e = grind (arith, common_steps)

pub one-other : (s w : ℕ) → w ≢ s → one s w ≡ 0
one-other s w away = grind (arith, common_steps)

-- ---- tallies

pub tally-same : (n : ℕ) (f g : ℕ → List ℕ) (s : ℕ) → ((q : ℕ) → q < n → count_by (names s) (g q) ≡ count_by (names s) (f q)) → tally n g s ≡ tally n f s
tally-same zero f g s h = refl
tally-same (suc n) f g s h = let here : count_by (names s) (g n) ≡ count_by (names s) (f n) = h n (omega arith) in let rest : tally n g s ≡ tally n f s = tally-same n f g s (λ q low. h q (omega arith)) in omega arith

-- one list changed
pub tally-put : (n : ℕ) (f g : ℕ → List ℕ) (k s : ℕ) → k < n → ((q : ℕ) → q ≢ k → g q ≡ f q) → tally n g s + count_by (names s) (f k) ≡ tally n f s + count_by (names s) (g k)
tally-put zero f g k s low h = absurd (omega arith)
tally-put (suc n) f g k s low h = ⊎_elim here (λ (e : k ≢ n). there e (tally-put n f g k s (omega arith) h)) (cases_eq k n)
  where
    here : k ≡ n → tally (suc n) g s + count_by (names s) (f k) ≡ tally (suc n) f s + count_by (names s) (g k)
    here e =
        let rest : tally n g s ≡ tally n f s = tally-same n f g s (λ q low. ap (λ xs. count_by (names s) xs) (h q (omega arith))) in
        let f' : count_by (names s) (f k) ≡ count_by (names s) (f n) = ap (λ (z : ℕ). count_by (names s) (f z)) e in
        let g' : count_by (names s) (g k) ≡ count_by (names s) (g n) = ap (λ (z : ℕ). count_by (names s) (g z)) e in
        omega arith

    there : k ≢ n → tally n g s + count_by (names s) (f k) ≡ tally n f s + count_by (names s) (g k) → tally (suc n) g s + count_by (names s) (f k) ≡ tally (suc n) f s + count_by (names s) (g k)
    there e rest =
        let last : count_by (names s) (g n) ≡ count_by (names s) (f n) = ap (λ xs. count_by (names s) xs) (h n (λ z. e (sym z))) in
        omega arith

pub tally-one : (n : ℕ) (f : ℕ → List ℕ) (k s : ℕ) → k < n → count_by (names s) (f k) ≤ tally n f s
tally-one zero f k s low = absurd (omega arith)
tally-one (suc n) f k s low = ⊎_elim here (λ (e : k ≢ n). let rest : count_by (names s) (f k) ≤ tally n f s = tally-one n f k s (omega arith) in omega arith) (cases_eq k n)
  where
    here : k ≡ n → count_by (names s) (f k) ≤ tally (suc n) f s
    here e = let f' : count_by (names s) (f k) ≡ count_by (names s) (f n) = ap (λ (z : ℕ). count_by (names s) (f z)) e in omega arith

-- how many words the lists below n have
abbrev pub words_below : ℕ → (ℕ → List ℕ) → ℕ
words_below zero f = 0
words_below (suc n) f = words_below n f + length (f n)

-- no word is counted more often than there are words
pub tally-words : (n : ℕ) (f : ℕ → List ℕ) (s : ℕ) → tally n f s ≤ words_below n f
tally-words zero f s = omega arith
tally-words (suc n) f s = let here = count_by-le-length (names s) (f n) in let rest = tally-words n f s in omega arith

-- ---- the words of a body, with one field's word changed

take-set : (n : ℕ) (xs : List ℕ) (i w : ℕ) → take n (slice_set xs i w) ≡ slice_set (take n xs) i w
take-set zero xs i w = refl
take-set (suc n) [] i w = refl
take-set (suc n) (x ∷ xs) zero w = refl
take-set (suc n) (x ∷ xs) (suc i) w = ap (λ t. x ∷ t) (take-set n xs i w)

drop-set : (n : ℕ) (xs : List ℕ) (i w old : ℕ) → slice_get (take n xs) i ≡ Some old → drop n (slice_set xs i w) ≡ drop n xs
drop-set zero xs i w old e = cc
drop-set (suc n) [] i w old e = refl
drop-set (suc n) (x ∷ xs) zero w old e = refl
drop-set (suc n) (x ∷ xs) (suc i) w old e = drop-set n xs i w old e

pub header-set : (ws : List ℕ) (i w : ℕ) → header_in (slice_set ws (suc i) w) ≡ header_in ws
header-set [] i w = refl
header-set (h ∷ rest) i w = refl

pub literals-set : (ws : List ℕ) (i w : ℕ) → literals_in (slice_set ws (suc i) w) ≡ slice_set (literals_in ws) i w
literals-set [] i w = refl
literals-set (h ∷ rest) i w = take-set (literal_count (int_of_short h)) rest i w

pub code-set : (ws : List ℕ) (i w old : ℕ) → slice_get (literals_in ws) i ≡ Some old → code_in (slice_set ws (suc i) w) ≡ code_in ws
code-set [] i w old e = refl
code-set (h ∷ rest) i w old e = drop-set (literal_count (int_of_short h)) rest i w old e

pub pointers-set : (k : Kind) (ws : List ℕ) (i w old : ℕ) → slice_get (pointers k ws) i ≡ Some old → pointers k (slice_set ws (spot k i) w) ≡ slice_set (pointers k ws) i w
pointers-set kind.Pointers ws i w old e = refl
pointers-set kind.Words ws i w old e = cc
pointers-set kind.Bytes ws i w old e = cc
pointers-set kind.Method ws i w old e = literals-set ws i w
