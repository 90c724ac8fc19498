-- Bytes that are read from the last one down.
use Rattle.std.proofs.Common.{zero, suc, ◌≡◌, ℕ, ◌+◌, ◌*◌, ◌^◌, ◌<◌, ◌≤◌, List, [], ◌∷◌, length, drop, get_or, All, sym, subst, arith}
use mir.Syntax.{w8}
use mir.Val.{Fits}
use Rattle.std.proofs.lemmas.Grind.{get_or_default_zero}
use Rattle.blue_model.specs.LargeInts.{magnitude}

-- bytes as the code has them
pub bytes_low : (xs : List ℕ) → ((i : ℕ) → Fits w8 (get_or xs i 0)) → All (λ b. b < 256) xs
bytes_low xs fits = λ k d low. subst (λ b. b < 256) (sym (get_or_default_zero xs k d low)) (fits k).fits

above : (k : ℕ) → 0 < 256 ^ k
above zero = omega arith
above (suc k) = (let grows : 256 ^ suc k ≡ 256 * 256 ^ k = omega arith in let more = above k in omega arith)

-- so many bytes are less than this
pub low_from : (xs : List ℕ) (i k : ℕ) → All (λ b. b < 256) xs → length xs ≤ i + k → magnitude (drop i xs) < 256 ^ k
low_from [] zero k all few = above k
low_from [] (suc i) k all few = above k
low_from (x ∷ xs) (suc i) k all few = low_from xs i k (λ n d low. all (suc n) d (omega arith)) (omega arith)
low_from (x ∷ xs) zero zero all few = absurd (omega arith)
low_from (x ∷ xs) zero (suc k) all few =
    let rest = low_from xs zero k (λ n d low. all (suc n) d (omega arith)) (omega arith) in
    let first : x < 256 = all 0 0 (omega arith) in
    let grows : 256 ^ suc k ≡ 256 * 256 ^ k = omega arith in
    omega arith
