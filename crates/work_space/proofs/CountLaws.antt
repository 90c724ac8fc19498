-- How many blocks there are.
-- Blocks are a list of size classes, the newest first, so a new block is one `put` of `laid_at`. That few blocks end soon is a
-- sum by classes, and "no more blocks than places" a pigeonhole.
use Rattle.std.proofs.Common.{zero, suc, ◌≡◌, ◌≢◌, ⊎_elim, ℕ, ◌+◌, ◌*◌, ◌^◌, ◌<◌, ◌≤◌, ◌==◌, cond, List, [], ◌∷◌, length, get_or, Some, refl, sym, ◌∙◌, ap, subst, arith}
use Rattle.std.proofs.lemmas.Grind.{common_steps}
use Rattle.std.proofs.lemmas.Bool.{cases_eq}
use Rattle.std.proofs.Math.Nat.{pow-suc, mul-le-mul_right}
use Rattle.std.specs.List.{All, Contains}
use Rattle.work_space.specs.Blocks.{block_size, end_behind, laid_at, times, AreFew}
use Rattle.work_space.proofs.BlockLaws.{put-at, put-there, size-least, size-same, laid-within}
use Rattle.work_space.proofs.FreeLaws.{times-cons, times-at, times-there, times-more}

-- ---- their sizes

-- the bytes of the blocks of the first n SIZE_CLASSES
abbrev weight : ℕ → List ℕ → ℕ
weight zero laid = 0
weight (suc n) laid = weight n laid + times n laid * block_size n

weight-off : (n d : ℕ) (laid : List ℕ) → n ≤ d → weight n (d ∷ laid) ≡ weight n laid
weight-off zero d laid h = refl
weight-off (suc n) d laid h =
    let rest = weight-off n d laid (omega arith) in
    let this = ap (λ (t : ℕ). t * block_size n) (times-there d n laid (omega arith)) in
    omega arith

weight-on : (n d : ℕ) (laid : List ℕ) → d < n → weight n (d ∷ laid) ≡ weight n laid + block_size d
weight-on zero d laid h = absurd (omega arith)
weight-on (suc n) d laid h = ⊎_elim
    (λ (e : n ≡ d).
    let rest = weight-off n d laid (omega arith) in
    let this = ap (λ (t : ℕ). t * block_size n) (times-at d n laid e) in
    let same = size-same n d e in
    omega arith)
    (λ (e : n ≢ d).
    let rest = weight-on n d laid (omega arith) in
    let this = ap (λ (t : ℕ). t * block_size n) (times-there d n laid e) in
    omega arith)
    (cases_eq n d)

end-weight : (from : ℕ) (laid : List ℕ) → All (λ c. c < 15) laid → end_behind from laid ≡ from + weight 15 laid
end-weight from [] all = omega arith
end-weight from (c ∷ older) all =
    let rest = end-weight from older (λ k x low. all (suc k) x (omega arith)) in
    let this = weight-on 15 c older (all 0 0 (omega arith)) in
    rest-more rest this
  where
    rest-more : end_behind from older ≡ from + weight 15 older → weight 15 (c ∷ older) ≡ weight 15 older + block_size c
        → end_behind from older + block_size c ≡ from + weight 15 (c ∷ older)
    rest-more a b = ap (λ (z : ℕ). z + block_size c) a ∙ add (weight 15 older) (block_size c) ∙ ap (λ (z : ℕ). from + z) (sym b)
      where
        add : (x y : ℕ) → from + x + y ≡ from + (x + y)
        add x y = omega arith

weight-most : (n m : ℕ) (laid : List ℕ) → ((c : ℕ) → c < n → times c laid ≤ m) → weight n laid + 32 * m ≤ 32 * (m * 2 ^ n)
weight-most zero m laid few = omega arith
weight-most (suc n) m laid few =
    let rest = weight-most n m laid (λ c low. few c (omega arith)) in
    let this : times n laid * 2 ^ n ≤ m * 2 ^ n = mul-le-mul_right (2 ^ n) (few n (omega arith)) in
    let grown = pow-suc 2 n in
    let all = ap (λ (z : ℕ). m * z) (pow-suc 2 n) in
    omega arith

-- few blocks end soon
pub end-most : (from : ℕ) (laid : List ℕ) → All (λ c. c < 15) laid → AreFew laid → end_behind from laid ≤ from + 2 ^ 52
end-most from laid all few = most (weight 15 laid) (end-weight from laid all) (weight-most 15 (2 ^ 32) laid few)
  where
    most : (w : ℕ) → end_behind from laid ≡ from + w → w + 32 * 2 ^ 32 ≤ 32 * (2 ^ 32 * 2 ^ 15) → end_behind from laid ≤ from + 2 ^ 52
    most w e h = omega arith

-- ---- those that are out

-- without its first p
abbrev without : ℕ → List ℕ → List ℕ
without p [] = []
without p (x ∷ xs) = cond (x == p) xs (x ∷ without p xs)

without-at : (p x : ℕ) (xs : List ℕ) → x ≡ p → without p (x ∷ xs) ≡ xs
without-at p x xs same = grind (arith, common_steps)

without-there : (p x : ℕ) (xs : List ℕ) → x ≢ p → without p (x ∷ xs) ≡ x ∷ without p xs
without-there p x xs away = grind (arith, common_steps)

without-length : (p : ℕ) (xs : List ℕ) → 0 < times p xs → length xs ≡ 1 + length (without p xs)
without-length p [] some = absurd (omega arith)
without-length p (x ∷ xs) some = ⊎_elim
    (λ (h : x ≡ p). let e = ap (λ (l : List ℕ). length l) (without-at p x xs h) in omega arith)
    (λ (h : x ≢ p).
    let e = ap (λ (l : List ℕ). length l) (without-there p x xs h) in
    let less = times-there x p xs (λ same. h (sym same)) in
    let rest = without-length p xs (omega arith) in
    omega arith)
    (cases_eq x p)

without-others : (p q : ℕ) (xs : List ℕ) → q ≢ p → times q (without p xs) ≡ times q xs
without-others p q [] away = refl
without-others p q (x ∷ xs) away = ⊎_elim
    (λ (h : x ≡ p). ap (λ (l : List ℕ). times q l) (without-at p x xs h) ∙ sym (times-there x q xs (λ same. away (same ∙ h))))
    (λ (h : x ≢ p).
    ap (λ (l : List ℕ). times q l) (without-there p x xs h)
    ∙ times-cons x q (without p xs)
    ∙ ap (λ (n : ℕ). cond (x == q) 1 0 + n) (without-others p q xs away)
    ∙ sym (times-cons x q xs))
    (cases_eq x p)

contains-times : (xs : List ℕ) (k p : ℕ) → k < length xs → get_or xs k p ≡ p → 0 < times p xs
contains-times [] k p low here = absurd (omega arith)
contains-times (x ∷ xs) zero p low here = let one = times-at x p xs (sym here) in omega arith
contains-times (x ∷ xs) (suc k) p low here = let rest = contains-times xs k p (omega arith) here in let more = times-more x p xs in omega
    arith

-- blocks of one class whose places are all among these are no more than these
among : (from : ℕ) (laid : List ℕ) (c : ℕ) (places : List ℕ) → ((p : ℕ) → laid_at from laid p ≡ Some c → 0 < times p places)
    → times c laid ≤ length places
among from [] c places all = omega arith
among from (d ∷ older) c places all = ⊎_elim
    (λ (h : c ≡ d).
    let last = all (end_behind from older)
    (put-at (laid_at from older) (end_behind from older) (Some d) (end_behind from older) refl ∙ ap (λ (z : ℕ). Some z) (sym h)) in
    let rest = among from older c (without (end_behind from older) places) (λ p e.
    subst (λ (n : ℕ). 0 < n) (sym (without-others (end_behind from older) p places (before p e)))
    (all p (put-there (laid_at from older) (end_behind from older) (Some d) p (before p e) ∙ e))) in
    let size = without-length (end_behind from older) places last in
    let one = times-at d c older h in
    omega arith)
    (λ (h : c ≢ d).
    let rest = among from older c places
    (λ p e. all p (put-there (laid_at from older) (end_behind from older) (Some d) p (before p e) ∙ e)) in
    let none = times-there d c older h in
    omega arith)
    (cases_eq c d)
  where
    before : (p : ℕ) → laid_at from older p ≡ Some c → p ≢ end_behind from older
    before p e same = let here = laid-within from older p c e in let least = size-least c in (let bad : ⊥ = omega arith in bad)

pub blocks-among : (from : ℕ) (laid : List ℕ) (c : ℕ) (places : List ℕ) → ((p : ℕ) → laid_at from laid p ≡ Some c → Contains places p)
    → times c laid ≤ length places
blocks-among from laid c places all = among from laid c places (λ p e. let here = all p e in contains-times places here.0 p here.1 here.2)
