-- When nothing more can go, what is in use is what the pinned objects and the registers need.
use Rattle.std.proofs.Common.{zero, suc, ◌≡◌, ℕ, ◌+◌, ◌≤◌, ◌++◌, Bool, true, false, cond, List, [], ◌∷◌, length, refl, sym, ◌∙◌, ap, arith, Option, Some, None, count_by}
use Rattle.std.proofs.lemmas.Grind.{common_steps}
use Rattle.object_table.specs.Entries.{is_short, is_used, place_of, sum_below, used_by}
use Rattle.core_view.specs.Core.{Core}
use Rattle.core_view.specs.Counts.{names, one, holders_in, holders, tally, uses, outside}
use Rattle.core_view.specs.Kept.{IsCore}
use Rattle.core_view.proofs.Lists.{count-cons, words_below}
use Rattle.core_view.specs.Room.{entries_by, entries_for, over_three, is_among, in_hand, IsPin, IsBare}
use Rattle.core_view.proofs.Sums.{sum-same, sum-less, sum-plus, sum-three, counts-few, tallies-few}

-- 1 where there is a body
abbrev has_place : Option ℕ → ℕ
has_place None = 0
has_place (Some p) = 1

-- a leaf isn't one of the pinned
no-pin : (c : Core) (t w : ℕ) → IsPin c w → place_of (c.entries t).state ≡ None → one t w ≡ 0
no-pin c t w pin leaf = go (names t w) refl
  where
    go : (b : Bool) → names t w ≡ b → one t w ≡ 0
    go false e = ap (λ b. cond b 1 0) e
    go true e =
        let same : w ≡ t = grind (arith, common_steps) in
        let is : is_short t ≡ true = grind (arith, common_steps) in
        let there = pin (ap is_short same ∙ is) in
        let both : None ≡ Some there.0 = sym leaf ∙ ap (λ (z : ℕ). place_of (c.entries z).state) (sym same) ∙ there.1 in
        absurd (cc)

count-append : (t : ℕ) (xs ys : List ℕ) → count_by (names t) (xs ++ ys) ≡ count_by (names t) xs + count_by (names t) ys
count-append t [] ys = let none : count_by (names t) [] ≡ 0 = refl in omega arith
count-append t (x ∷ xs) ys = let rest = count-append t xs ys in let one_ = count-cons t x xs in let both = count-cons t x (xs ++ ys) in let it : count_by (names t) ((x ∷ xs) ++ ys) ≡ count_by (names t) (x ∷ (xs ++ ys)) = refl in omega arith

used-at : (c : Core) (regs : List ℕ) (a b d t : ℕ) → IsCore c → IsBare a b d c → ((t : ℕ) → outside c t ≡ count_by (names t) (in_hand regs a b d)) → IsPin c a → IsPin c b → IsPin c d
    → used_by (c.entries t) ≤ has_place (place_of (c.entries t).state) + (uses c t + count_by (names t) regs)
unfolding outside
used-at c regs a b d t core bare rooted pin-a pin-b pin-d = go (is_used (c.entries t).state) refl (place_of (c.entries t).state) refl
  where
    go : (u : Bool) → is_used (c.entries t).state ≡ u → (o : Option ℕ) → place_of (c.entries t).state ≡ o → cond u 1 0 ≤ has_place o + (uses c t + count_by (names t) regs)
    go false e o f = omega arith
    go true e (Some p) f = omega arith
    go true e None f =
        let some = bare.named t e f in
        let counted = core.counted t in
        let held = rooted t in
        let split = count-append t regs (a ∷ (b ∷ (d ∷ []))) in
        let x = no-pin c t a pin-a f in
        let y = no-pin c t b pin-b f in
        let z = no-pin c t d pin-d f in
        let one-a = count-cons t a (b ∷ (d ∷ [])) in
        let one-b = count-cons t b (d ∷ []) in
        let one-d = count-cons t d [] in
        let end : count_by (names t) [] ≡ 0 = refl in
        omega arith

-- the leaves of a body are its own entry, and its words
holders-length : (c : Core) (q : ℕ) → has_place (place_of (c.entries q).state) + length (holders c q) ≡ entries_for c q
unfolding holders
holders-length c q = go (place_of (c.entries q).state)
  where
    go : (o : Option ℕ) → has_place o + length (holders_in c.chunks (c.entries q) o) ≡ entries_by c.chunks (c.entries q) o
    go None = refl
    go (Some p) = omega arith

words-sum : (n : ℕ) (f : ℕ → List ℕ) → words_below n f ≡ sum_below n (λ q. length (f q))
words-sum zero f = refl
words-sum (suc n) f = let rest = words-sum n f in omega arith

pub no-place : (a b d s : ℕ) (c : Core) → IsBare a b d c → is_among a b d s ≡ false → place_of (c.entries s).state ≡ None
no-place a b d s c bare not = go (place_of (c.entries s).state) refl
  where
    go : (o : Option ℕ) → place_of (c.entries s).state ≡ o → place_of (c.entries s).state ≡ None
    go None e = e
    go (Some p) e = let yes = bare.pinned s p e in absurd (let no : true ≡ false = sym yes ∙ not in cc)

-- The entries in use are no more than the registers and the pinned objects need.
pub entries-few : (c : Core) (regs : List ℕ) (a b d : ℕ) → IsCore c → IsBare a b d c → ((t : ℕ) → outside c t ≡ count_by (names t) (in_hand regs a b d)) → IsPin c a → IsPin c b → IsPin c d
    → sum_below c.bound (λ t. used_by (c.entries t)) ≤ length regs + over_three (entries_for c) a b d
unfolding uses
entries-few c regs a b d core bare rooted pin-a pin-b pin-d =
    let body = (λ (t : ℕ). has_place (place_of (c.entries t).state)) in
    let named = (λ (t : ℕ). tally c.bound (holders c) t) in
    let count = (λ (t : ℕ). count_by (names t) regs) in
    let one_ : sum_below c.bound (λ t. used_by (c.entries t)) ≤ sum_below c.bound (λ t. has_place (place_of (c.entries t).state) + (tally c.bound (holders c) t + count_by (names t) regs)) = sum-less c.bound (λ t. has_place (place_of (c.entries t).state) + (tally c.bound (holders c) t + count_by (names t) regs)) (λ t. used_by (c.entries t)) (λ t low. used-at c regs a b d t core bare rooted pin-a pin-b pin-d) in
    let two : sum_below c.bound (λ t. has_place (place_of (c.entries t).state) + (tally c.bound (holders c) t + count_by (names t) regs)) ≡ sum_below c.bound (λ t. has_place (place_of (c.entries t).state)) + sum_below c.bound (λ t. tally c.bound (holders c) t + count_by (names t) regs) = sum-plus c.bound (λ t. has_place (place_of (c.entries t).state)) (λ t. tally c.bound (holders c) t + count_by (names t) regs) in
    let three : sum_below c.bound (λ t. tally c.bound (holders c) t + count_by (names t) regs) ≡ sum_below c.bound (λ t. tally c.bound (holders c) t) + sum_below c.bound (λ t. count_by (names t) regs) = sum-plus c.bound (λ t. tally c.bound (holders c) t) (λ t. count_by (names t) regs) in
    let four = tallies-few c.bound c.bound (holders c) in
    let five = counts-few c.bound regs in
    let six = words-sum c.bound (holders c) in
    let seven : sum_below c.bound (λ q. has_place (place_of (c.entries q).state) + length (holders c q)) ≡ sum_below c.bound (λ q. has_place (place_of (c.entries q).state)) + sum_below c.bound (λ q. length (holders c q)) = sum-plus c.bound (λ q. has_place (place_of (c.entries q).state)) (λ q. length (holders c q)) in
    let eight : sum_below c.bound (entries_for c) ≡ sum_below c.bound (λ q. has_place (place_of (c.entries q).state) + length (holders c q)) = sum-same c.bound (λ q. has_place (place_of (c.entries q).state) + length (holders c q)) (entries_for c) (λ q low. sym (holders-length c q)) in
    let nine : sum_below c.bound (entries_for c) ≤ over_three (entries_for c) a b d = sum-three c.bound a b d (entries_for c) (λ q not. ap (entries_by c.chunks (c.entries q)) (no-place a b d q c bare not)) in
    omega arith
