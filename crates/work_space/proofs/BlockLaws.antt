-- Where blocks lie.
use Rattle.std.proofs.Common.{suc, ◌≡◌, ◌≢◌, inl, inr, ⊎_elim, ℕ, ◌+◌, ◌*◌, ◌^◌, ◌%◌, ◌<◌, ◌≤◌, List, [], ◌∷◌, replicate, get_or, Option, Some, None, refl, sym, ◌∙◌, ap, arith}
use Rattle.std.proofs.lemmas.Grind.{common_steps}
use Rattle.std.proofs.lemmas.Bool.{cases_eq, cases_lt}
use Rattle.std.proofs.lemmas.List.{get_or-replicate, get_or_past}
use Rattle.std.proofs.lemmas.Nat.{pow_pos}
use Rattle.std.proofs.Math.Nat.{pow-le-pow_right}
use Rattle.std.specs.List.{All}
use Rattle.work_space.specs.Blocks.{block_size, put, end_behind, laid_at, AreApart}

pub put-at : {A : Type 0} (f : ℕ → A) (k : ℕ) (a : A) (q : ℕ) → q ≡ k → put f k a q ≡ a
put-at f k a q same = grind (arith, common_steps)

pub put-there : {A : Type 0} (f : ℕ → A) (k : ℕ) (a : A) (q : ℕ) → q ≢ k → put f k a q ≡ f q
put-there f k a q away = grind (arith, common_steps)

pub some-inside : {A : Type 0} {a b : A} → Some a ≡ Some b → a ≡ b
some-inside e = cc

pub none-some : {A : Type 0} {a : A} → None ≡ Some a → ⊥
none-some e = cc

-- no block is empty
pub size-least : (c : ℕ) → 32 ≤ block_size c
size-least c = let some = pow_pos c in omega arith

pub size-same : (c d : ℕ) → c ≡ d → block_size c ≡ block_size d
size-same c d e = ap (λ x. block_size x) e

pub end-least : (from : ℕ) (laid : List ℕ) → from ≤ end_behind from laid
end-least from [] = omega arith
end-least from (c ∷ older) = let rest = end-least from older in omega arith

-- a block lies between the first place and the end
pub laid-within : (from : ℕ) (laid : List ℕ) (p c : ℕ) → laid_at from laid p ≡ Some c
    → (from ≤ p) × (p + block_size c ≤ end_behind from laid)
laid-within from [] p c e = absurd (none-some e)
laid-within from (d ∷ older) p c e = ⊎_elim
    (λ (h : p ≡ end_behind from older).
    let same = size-same d c (some-inside (sym (put-at (laid_at from older) (end_behind from older) (Some d) p h) ∙ e)) in
    let least = end-least from older in
    (omega arith, omega arith))
    (λ (h : p ≢ end_behind from older).
    let rest = laid-within from older p c (sym (put-there (laid_at from older) (end_behind from older) (Some d) p h) ∙ e) in
    (rest.0, omega arith))
    (cases_eq p (end_behind from older))

-- two blocks have no byte in common
pub laid-apart : (from : ℕ) (laid : List ℕ) (p c q d : ℕ) → laid_at from laid p ≡ Some c → laid_at from laid q ≡ Some d → p ≢ q
    → AreApart p c q d
laid-apart from [] p c q d e e' away = absurd (none-some e)
laid-apart from (b ∷ older) p c q d e e' away = ⊎_elim
    (λ (h : p ≡ end_behind from older). inr (
    let last : q ≢ end_behind from older = omega arith in
    let rest = laid-within from older q d (sym (put-there (laid_at from older) (end_behind from older) (Some b) q last) ∙ e') in
    omega arith))
    (λ (h : p ≢ end_behind from older).
    let this = sym (put-there (laid_at from older) (end_behind from older) (Some b) p h) ∙ e in
    ⊎_elim
    (λ (l : q ≡ end_behind from older). inl (let rest = laid-within from older p c this in omega arith))
    (λ (l : q ≢ end_behind from older).
    laid-apart from older p c q d this (sym (put-there (laid_at from older) (end_behind from older) (Some b) q l) ∙ e') away)
    (cases_eq q (end_behind from older)))
    (cases_eq p (end_behind from older))

-- ends and places are a multiple of 32 from the first place
pub end-step : (from : ℕ) (laid : List ℕ) → (k : ℕ) × (end_behind from laid ≡ from + 32 * k)
end-step from [] = (0, omega arith)
end-step from (c ∷ older) = let rest = end-step from older in (rest.0 + 2 ^ c, omega arith)

pub laid-step : (from : ℕ) (laid : List ℕ) (p c : ℕ) → laid_at from laid p ≡ Some c → (k : ℕ) × (p ≡ from + 32 * k)
laid-step from [] p c e = absurd (none-some e)
laid-step from (d ∷ older) p c e = ⊎_elim
    (λ (h : p ≡ end_behind from older). let all = end-step from older in (all.0, h ∙ all.1))
    (λ (h : p ≢ end_behind from older). laid-step from older p c
    (sym (put-there (laid_at from older) (end_behind from older) (Some d) p h) ∙ e))
    (cases_eq p (end_behind from older))

-- no block begins at the end
pub laid-end : (from : ℕ) (laid : List ℕ) (p : ℕ) → end_behind from laid ≤ p → laid_at from laid p ≡ None
laid-end from laid p past = go (laid_at from laid p) refl
  where
    go : (o : Option ℕ) → laid_at from laid p ≡ o → laid_at from laid p ≡ None
    go None e = e
    go (Some c) e = let rest = laid-within from laid p c e in let least = size-least c in absurd (omega arith)

-- each block is of a class
pub laid-class : (from : ℕ) (laid : List ℕ) (p c : ℕ) → All (λ x. x < 15) laid → laid_at from laid p ≡ Some c → c < 15
laid-class from [] p c all e = absurd (none-some e)
laid-class from (d ∷ older) p c all e = ⊎_elim
    (λ (h : p ≡ end_behind from older).
    let same = some-inside (sym (put-at (laid_at from older) (end_behind from older) (Some d) p h) ∙ e) in
    let first : d < 15 = all 0 0 (omega arith) in
    omega arith)
    (λ (h : p ≢ end_behind from older).
    laid-class from older p c (λ k x low. all (suc k) x (omega arith))
    (sym (put-there (laid_at from older) (end_behind from older) (Some d) p h) ∙ e))
    (cases_eq p (end_behind from older))

-- fifteen lists that have no first block
pub no-heads : (c : ℕ) → get_or {A = ℕ} (replicate 15 0) c 0 ≡ 0
no-heads c = ⊎_elim (λ (h : c < 15). get_or-replicate 15 c 0 0 h) (λ (h : 15 ≤ c). get_or_past (replicate 15 0) c 0 h) (cases_lt c 15)

-- a block of a class is small
pub size-most : (c : ℕ) → c < 15 → block_size c ≤ 2 ^ 19
size-most c low = let most : 2 ^ c ≤ 2 ^ 14 = pow-le-pow_right {n = 2} (omega arith) {i = c} {j = 14} (omega arith) in omega arith

pub small-size : (c : ℕ) → c < 15 → (32 * 2 ^ c % 18446744073709551616 ≡ block_size c) × (32 * 2 ^ c % 18446744073709551616 ≤ 2 ^ 19)
small-size c low = let most = size-most c low in (omega arith, omega arith)
