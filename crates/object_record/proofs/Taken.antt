-- The first elements past a place, one by one.
use Rattle.std.proofs.Common.{suc, ◌≡◌, ℕ, ◌+◌, ◌<◌, ◌≤◌, List, [], ◌∷◌, length, take, drop, get_or, sym, ◌∙◌, ap, arith, drop-cons}

four-at : (bytes : List ℕ) (a b c d : ℕ) → b ≡ suc a → c ≡ suc b → d ≡ suc c → d < length bytes → take 4 (drop a bytes) ≡ get_or bytes a 0 ∷ get_or bytes b 0 ∷ get_or bytes c 0 ∷ get_or bytes d 0 ∷ []
four-at bytes a b c d eb ec ed low =
    let la : a < length bytes = omega arith in
    let lb : b < length bytes = omega arith in
    let lc : c < length bytes = omega arith in
    let first = drop-cons bytes a 0 la ∙ ap (λ n. get_or bytes a 0 ∷ drop n bytes) (sym eb) in
    let second = drop-cons bytes b 0 lb ∙ ap (λ n. get_or bytes b 0 ∷ drop n bytes) (sym ec) in
    let third = drop-cons bytes c 0 lc ∙ ap (λ n. get_or bytes c 0 ∷ drop n bytes) (sym ed) in
    let fourth = drop-cons bytes d 0 low in
    ap (λ s. take 4 s) (first ∙ ap (λ s. get_or bytes a 0 ∷ s) (second ∙ ap (λ s. get_or bytes b 0 ∷ s) (third ∙ ap (λ s. get_or bytes c 0 ∷ s) fourth)))

pub four-taken : (bytes : List ℕ) (at : ℕ) → at + 4 ≤ length bytes → take 4 (drop at bytes) ≡ get_or bytes at 0 ∷ get_or bytes (at + 1) 0 ∷ get_or bytes (at + 2) 0 ∷ get_or bytes (at + 3) 0 ∷ []
four-taken bytes at long = four-at bytes at (at + 1) (at + 2) (at + 3) (omega arith) (omega arith) (omega arith) (omega (arith, long))

two-at : (bytes : List ℕ) (a b : ℕ) → b ≡ suc a → b < length bytes → take 2 (drop a bytes) ≡ get_or bytes a 0 ∷ get_or bytes b 0 ∷ []
two-at bytes a b eb low =
    let la : a < length bytes = omega arith in
    let first = drop-cons bytes a 0 la ∙ ap (λ n. get_or bytes a 0 ∷ drop n bytes) (sym eb) in
    let second = drop-cons bytes b 0 low in
    ap (λ s. take 2 s) (first ∙ ap (λ s. get_or bytes a 0 ∷ s) second)

pub two-taken : (bytes : List ℕ) (at : ℕ) → at + 2 ≤ length bytes → take 2 (drop at bytes) ≡ get_or bytes at 0 ∷ get_or bytes (at + 1) 0 ∷ []
two-taken bytes at long = two-at bytes at (at + 1) (omega arith) (omega (arith, long))
