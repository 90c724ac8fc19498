-- The words of all chunks are those of the bodies, where each chunk is one.
use Rattle.std.proofs.Common.{suc, ◌≡◌, ◌≢◌, ℕ, ◌+◌, ◌<◌, ◌≤◌, cond, List, [], ◌∷◌, length, sym, ◌∙◌, ap, subst, arith, Some, eqb}
use Rattle.std.proofs.lemmas.Grind.{common_steps}
use Rattle.std.specs.Prelude.{All, AllPairs, sum_by}
use Rattle.std.proofs.lemmas.List.Sums.{sum_by-cons}
use Rattle.object_table.specs.Entries.{put, place_of, sum_below}
use Rattle.core_segment.specs.Chunks.{Chunk, Placed, room_of, at_place, IsLaidOut}
use Rattle.core_view.specs.Core.{Core}
use Rattle.core_view.specs.Kept.{IsCore, IsTight}
use Rattle.core_view.proofs.Core.{placed-used}
use Rattle.core_view.proofs.Lists.{put-there}
use Rattle.core_view.specs.Room.{room_by, room_for, over_three, IsBare}
use Rattle.core_view.proofs.Sums.{sum-out, sum-three}
use Rattle.core_view.proofs.Bare.{no-place}

-- each chunk has an owner below n, to whom at least its words are given
abbrev AreGiven : (ℕ → ℕ) → ℕ → List Placed → Type 0
AreGiven w n [] = Unit {0}
AreGiven w n (x ∷ xs) = (x.chunk.owner < n) × (room_of x ≤ w x.chunk.owner) × AreGiven w n xs

-- none is of this owner
abbrev AreAway : ℕ → List Placed → Type 0
AreAway k [] = Unit {0}
AreAway k (x ∷ xs) = (x.chunk.owner ≢ k) × AreAway k xs

abbrev AreDistinct : List Placed → Type 0
AreDistinct [] = Unit {0}
AreDistinct (x ∷ xs) = AreAway x.chunk.owner xs × AreDistinct xs

given-without : (w : ℕ → ℕ) (n k : ℕ) (xs : List Placed) → AreGiven w n xs → AreAway k xs → AreGiven (put w k 0) n xs
given-without w n k [] given away = tt
given-without w n k (x ∷ xs) given away =
    let same = put-there w k 0 x.chunk.owner away.0 in
    let fits = given.1 in
    (given.0, omega arith, given-without w n k xs given.2 away.1)

sum-given : (w : ℕ → ℕ) (n : ℕ) (xs : List Placed) → AreGiven w n xs → AreDistinct xs → sum_by room_of xs ≤ sum_below n w
sum-given w n [] given distinct = omega arith
sum-given w n (x ∷ xs) given distinct =
    let out = sum-out n w x.chunk.owner given.0 in
    let split = sum_by-cons room_of x xs in
    let rest = sum-given (put w x.chunk.owner 0) n xs (given-without w n x.chunk.owner xs given.2 distinct.0) distinct.1 in
    let fits = given.1 in
    omega arith

-- ---- from the function of places

head-of : (P : Placed → Type 0) (x : Placed) (xs : List Placed) → All P (x ∷ xs) → P x
head-of P x xs all = all 0 x (omega arith)

tail-of : (P : Placed → Type 0) (x : Placed) (xs : List Placed) → All P (x ∷ xs) → All P xs
tail-of P x xs all = λ k d low. all (suc k) d (omega arith)

pairs-tail : (R : Placed → Placed → Type 0) (x : Placed) (xs : List Placed) → AllPairs R (x ∷ xs) → AllPairs R xs
pairs-tail R x xs all = λ i j d low high. all (suc i) (suc j) d (omega arith) (omega arith)

pairs-head : (R : Placed → Placed → Type 0) (x : Placed) (xs : List Placed) → AllPairs R (x ∷ xs) → All (R x) xs
pairs-head R x xs all = λ j d low. all 0 (suc j) d (omega arith) (omega arith)

-- each stands at its place
abbrev AreAt : (ℕ → Chunk) → List Placed → Type 0
AreAt f [] = Unit {0}
AreAt f (x ∷ xs) = (f x.place ≡ x.chunk) × AreAt f xs

abbrev AreBehind : ℕ → List Placed → Type 0
AreBehind p [] = Unit {0}
AreBehind p (x ∷ xs) = (p ≢ x.place) × AreBehind p xs

behind : (x : Placed) (xs : List Placed) → All (λ y. x.place + room_of x ≤ y.place) xs → AreBehind x.place xs
behind x [] all = tt
behind x (y ∷ ys) all = (λ e. let far = head-of (λ y. x.place + room_of x ≤ y.place) y ys all in absurd (omega arith), behind x ys (tail-of (λ y. x.place + room_of x ≤ y.place) y ys all))

at-rest : (x : Placed) (f : ℕ → Chunk) (xs : List Placed) → AreBehind x.place xs → AreAt f xs → AreAt (λ p. cond (eqb x.place p) x.chunk (f p)) xs
at-rest x f [] away at = tt
at-rest x f (y ∷ ys) away at = (skipped (x.place) (y.place) x.chunk (f y.place) away.0 ∙ at.0, at-rest x f ys away.1 at.1)
  where
    skipped : (p q : ℕ) (a b : Chunk) → p ≢ q → cond (eqb p q) a b ≡ b
    skipped p q a b differ = grind (arith, common_steps)

laid-at : (xs : List Placed) → AllPairs (λ a b. a.place + room_of a ≤ b.place) xs → AreAt (at_place xs) xs
laid-at [] pairs = tt
laid-at (x ∷ xs) pairs = (here x.place x.chunk (at_place xs x.place), at-rest x (at_place xs) xs (behind x xs (pairs-head (λ a b. a.place + room_of a ≤ b.place) x xs pairs)) (laid-at xs (pairs-tail (λ a b. a.place + room_of a ≤ b.place) x xs pairs)))
  where
    here : (p : ℕ) (a b : Chunk) → cond (eqb p p) a b ≡ a
    here p a b = grind (arith, common_steps)

-- ---- over a core

placed-owner : (c : Core) (x : Placed) → IsTight c → c.chunks x.place ≡ x.chunk → 0 < x.chunk.owner → place_of (c.entries x.chunk.owner).state ≡ Some x.place
placed-owner c x tight at owned = subst (λ (k : Chunk). place_of (c.entries k.owner).state ≡ Some x.place) at (tight.bodies x.place (subst (λ (k : Chunk). 0 < k.owner) (sym at) owned))

given : (c : Core) (xs : List Placed) → IsCore c → IsTight c → AreAt c.chunks xs → All (λ x. 0 < x.chunk.owner) xs → AreGiven (room_for c) c.bound xs
given c [] core tight at owned = tt
given c (x ∷ xs) core tight at owned =
    let there = placed-owner c x tight at.0 (head-of (λ x. 0 < x.chunk.owner) x xs owned) in
    let words : room_for c x.chunk.owner ≡ room_of x = ap (room_by c.chunks) there ∙ ap (λ (k : Chunk). 4 + length k.words) at.0 in
    (core.within x.chunk.owner (placed-used (c.entries x.chunk.owner).state x.place there), omega arith, given c xs core tight at.1 (tail-of (λ x. 0 < x.chunk.owner) x xs owned))

away : (c : Core) (x : Placed) (xs : List Placed) → IsTight c → c.chunks x.place ≡ x.chunk → 0 < x.chunk.owner → AreAt c.chunks xs → All (λ x. 0 < x.chunk.owner) xs → AreBehind x.place xs → AreAway x.chunk.owner xs
away c x [] tight here some at owned far = tt
away c x (y ∷ ys) tight here some at owned far =
    let mine = placed-owner c x tight here some in
    let its = placed-owner c y tight at.0 (head-of (λ x. 0 < x.chunk.owner) y ys owned) in
    (λ e. far.0 (same x.place y.place (sym mine ∙ ap (λ (q : ℕ). place_of (c.entries q).state) (sym e) ∙ its)), away c x ys tight here some at.1 (tail-of (λ x. 0 < x.chunk.owner) y ys owned) far.1)
  where
    same : (p q : ℕ) → Some p ≡ Some q → p ≡ q
    same p q e = cc

distinct : (c : Core) (xs : List Placed) → IsTight c → AreAt c.chunks xs → All (λ x. 0 < x.chunk.owner) xs → AllPairs (λ a b. a.place + room_of a ≤ b.place) xs → AreDistinct xs
distinct c [] tight at owned pairs = tt
distinct c (x ∷ xs) tight at owned pairs = (
  away c x xs tight at.0 (head-of (λ x. 0 < x.chunk.owner) x xs owned) at.1 (tail-of (λ x. 0 < x.chunk.owner) x xs owned) (behind x xs (pairs-head (λ a b. a.place + room_of a ≤ b.place) x xs pairs)),
  distinct c xs tight at.1 (tail-of (λ x. 0 < x.chunk.owner) x xs owned) (pairs-tail (λ a b. a.place + room_of a ≤ b.place) x xs pairs),
)

-- The words of a region are those that are free and those of the bodies.
pub words-most : (c : Core) (xs : List Placed) (free size : ℕ) → IsCore c → IsTight c → c.chunks ≡ at_place xs → IsLaidOut xs free size → size ≤ free + sum_below c.bound (room_for c)
words-most c xs free size core tight is laid =
    let at : AreAt c.chunks xs = subst (λ (f : ℕ → Chunk). AreAt f xs) (sym is) (laid-at xs laid.apart) in
    let most = sum-given (room_for c) c.bound xs (given c xs core tight at laid.owned) (distinct c xs tight at laid.owned laid.apart) in
    let all = laid.all in
    omega arith

-- Where nothing but three pinned objects is left, what isn't free is theirs.
pub words-few : (c : Core) (xs : List Placed) (free size a b d : ℕ) → IsCore c → IsTight c → IsBare a b d c → c.chunks ≡ at_place xs → IsLaidOut xs free size → size ≤ free + over_three (room_for c) a b d
words-few c xs free size a b d core tight bare is laid =
    let most = words-most c xs free size core tight is laid in
    let three = sum-three c.bound a b d (room_for c) (λ q not. ap (room_by c.chunks) (no-place a b d q c bare not)) in
    omega arith
