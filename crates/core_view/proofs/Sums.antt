-- Sums over the numbers below another.
use Rattle.std.proofs.Common.{zero, suc, ◌≡◌, ◌≢◌, ℕ, ◌+◌, ◌<◌, ◌≤◌, ◌||◌, eqb, Bool, true, false, cond, List, [], ◌∷◌, length, refl, sym, ◌∙◌, ap, arith, ⊎_elim, count_by}
use Rattle.std.proofs.lemmas.Grind.{common_steps}
use Rattle.std.proofs.lemmas.Bool.{cases_eq}
use Rattle.object_table.specs.Entries.{put, sum_below}
use Rattle.core_view.specs.Counts.{names, one, tally}
use Rattle.core_view.proofs.Lists.{put-here, put-there, count-cons, one-other, words_below}
use Rattle.core_view.specs.Room.{over_three, is_among}

pub sum-same : (n : ℕ) (f g : ℕ → ℕ) → ((q : ℕ) → q < n → g q ≡ f q) → sum_below n g ≡ sum_below n f
sum-same zero f g h = refl
sum-same (suc n) f g h = let here : g n ≡ f n = h n (omega arith) in let rest : sum_below n g ≡ sum_below n f = sum-same n f g (λ q low. h q (omega arith)) in omega arith

pub sum-less : (n : ℕ) (f g : ℕ → ℕ) → ((q : ℕ) → q < n → g q ≤ f q) → sum_below n g ≤ sum_below n f
sum-less zero f g h = omega arith
sum-less (suc n) f g h = let here : g n ≤ f n = h n (omega arith) in let rest : sum_below n g ≤ sum_below n f = sum-less n f g (λ q low. h q (omega arith)) in omega arith

pub sum-plus : (n : ℕ) (f g : ℕ → ℕ) → sum_below n (λ q. f q + g q) ≡ sum_below n f + sum_below n g
sum-plus zero f g = refl
sum-plus (suc n) f g = let rest = sum-plus n f g in omega arith

pub sum-none : (n : ℕ) (f : ℕ → ℕ) → ((q : ℕ) → f q ≡ 0) → sum_below n f ≡ 0
sum-none zero f h = refl
sum-none (suc n) f h = let here = h n in let rest = sum-none n f h in omega arith

-- one number taken out
pub sum-out : (n : ℕ) (f : ℕ → ℕ) (k : ℕ) → k < n → sum_below n f ≡ f k + sum_below n (put f k 0)
sum-out zero f k low = absurd (omega arith)
sum-out (suc n) f k low = ⊎_elim here (λ (e : k ≢ n). there e (sum-out n f k (omega arith))) (cases_eq k n)
  where
    here : k ≡ n → sum_below n f + f n ≡ f k + (sum_below n (put f k 0) + put f k 0 n)
    here e =
        let same : sum_below n (put f k 0) ≡ sum_below n f = sum-same n f (put f k 0) (λ q below. put-there f k 0 q (λ is. absurd (omega arith))) in
        let gone : put f k 0 n ≡ 0 = ap (put f k 0) (sym e) ∙ put-here f k 0 in
        let it : f k ≡ f n = ap f e in
        omega arith

    there : k ≢ n → sum_below n f ≡ f k + sum_below n (put f k 0) → sum_below n f + f n ≡ f k + (sum_below n (put f k 0) + put f k 0 n)
    there e rest = let same : put f k 0 n ≡ f n = put-there f k 0 n (λ is. e (sym is)) in omega arith

pub sum-most : (n : ℕ) (f : ℕ → ℕ) (k : ℕ) → sum_below n f ≤ f k + sum_below n (put f k 0)
sum-most zero f k = omega arith
sum-most (suc n) f k = ⊎_elim here (λ (e : k ≢ n). there e (sum-most n f k)) (cases_eq k n)
  where
    here : k ≡ n → sum_below n f + f n ≤ f k + (sum_below n (put f k 0) + put f k 0 n)
    here e =
        let same : sum_below n (put f k 0) ≡ sum_below n f = sum-same n f (put f k 0) (λ q below. put-there f k 0 q (λ is. absurd (omega arith))) in
        let it : f k ≡ f n = ap f e in
        omega arith

    there : k ≢ n → sum_below n f ≤ f k + sum_below n (put f k 0) → sum_below n f + f n ≤ f k + (sum_below n (put f k 0) + put f k 0 n)
    there e rest = let same : put f k 0 n ≡ f n = put-there f k 0 n (λ is. e (sym is)) in omega arith

not-among : (a b d q : ℕ) → q ≢ a → q ≢ b → q ≢ d → is_among a b d q ≡ false
not-among a b d q x y z = grind (arith, common_steps)

-- what is 0 but at three numbers
pub sum-three : (n a b d : ℕ) (f : ℕ → ℕ) → ((q : ℕ) → is_among a b d q ≡ false → f q ≡ 0) → sum_below n f ≤ over_three f a b d
sum-three n a b d f none =
    let first = sum-most n f a in
    let second = sum-most n (put f a 0) b in
    let third = sum-most n (put (put f a 0) b 0) d in
    let rest : sum_below n (put (put (put f a 0) b 0) d 0) ≡ 0 = sum-none n (put (put (put f a 0) b 0) d 0) (λ q. all q) in
    let at-b : put f a 0 b ≡ cond (eqb b a) 0 (f b) = refl in
    let at-d : put (put f a 0) b 0 d ≡ cond (eqb d b) 0 (cond (eqb d a) 0 (f d)) = refl in
    let last : cond (eqb d b) 0 (cond (eqb d a) 0 (f d)) ≡ cond (eqb d a || eqb d b) 0 (f d) = turned (eqb d a) (eqb d b) (f d) in
    omega arith
  where
    turned : (x y : Bool) (z : ℕ) → cond y 0 (cond x 0 z) ≡ cond (x || y) 0 z
    turned true true z = refl
    turned true false z = refl
    turned false true z = refl
    turned false false z = refl

    all : (q : ℕ) → put (put (put f a 0) b 0) d 0 q ≡ 0
    all q = ⊎_elim (λ (e : q ≡ d). ap (put (put (put f a 0) b 0) d 0) e ∙ put-here (put (put f a 0) b 0) d 0)
        (λ (e : q ≢ d). put-there (put (put f a 0) b 0) d 0 q e ∙ ⊎_elim (λ (g : q ≡ b). ap (put (put f a 0) b 0) g ∙ put-here (put f a 0) b 0)
        (λ (g : q ≢ b). put-there (put f a 0) b 0 q g ∙ ⊎_elim (λ (h : q ≡ a). ap (put f a 0) h ∙ put-here f a 0)
        (λ (h : q ≢ a). put-there f a 0 q h ∙ none q (not-among a b d q h g e)) (cases_eq q a)) (cases_eq q b)) (cases_eq q d)

-- ---- words and what they name

-- a word names at most one
pub ones-few : (n w : ℕ) → sum_below n (λ t. one t w) ≤ 1
ones-few n w =
    let most = sum-most n (λ t. one t w) w in
    let rest : sum_below n (put (λ t. one t w) w 0) ≡ 0 = sum-none n (put (λ t. one t w) w 0) (λ q. all q) in
    let here : one w w ≤ 1 = small (names w w) in
    omega arith
  where
    small : (b : Bool) → cond b 1 0 ≤ 1
    small true = omega arith
    small false = omega arith

    all : (q : ℕ) → put (λ t. one t w) w 0 q ≡ 0
    all q = ⊎_elim (λ (e : q ≡ w). ap (put (λ t. one t w) w 0) e ∙ put-here (λ t. one t w) w 0) (λ (e : q ≢ w). put-there (λ t. one t w) w 0 q e ∙ one-other q w (λ is. e (sym is))) (cases_eq q w)

pub counts-few : (n : ℕ) (ws : List ℕ) → sum_below n (λ t. count_by (names t) ws) ≤ length ws
counts-few n [] = let none = sum-none n (λ t. count_by (names t) []) (λ q. refl) in omega arith
counts-few n (w ∷ ws) =
    let first = ones-few n w in
    let rest = counts-few n ws in
    let both = sum-plus n (λ t. one t w) (λ t. count_by (names t) ws) in
    let same : sum_below n (λ t. count_by (names t) (w ∷ ws)) ≡ sum_below n (λ t. one t w + count_by (names t) ws) = sum-same n (λ t. one t w + count_by (names t) ws) (λ t. count_by (names t) (w ∷ ws)) (λ q low. count-cons q w ws) in
    omega arith

pub tallies-few : (n m : ℕ) (f : ℕ → List ℕ) → sum_below n (λ t. tally m f t) ≤ words_below m f
tallies-few n zero f = let none = sum-none n (λ t. 0) (λ q. refl) in omega arith
tallies-few n (suc m) f =
    let first = tallies-few n m f in
    let rest = counts-few n (f m) in
    let both = sum-plus n (λ t. tally m f t) (λ t. count_by (names t) (f m)) in
    omega arith
