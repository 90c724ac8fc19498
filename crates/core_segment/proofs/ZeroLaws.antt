-- Words with zeros behind them.
use Rattle.std.proofs.Common.{◌≡◌, ℕ, zero, suc, ◌+◌, ◌-◌, ◌<◌, ◌≤◌, List, [], ◌∷◌, ◌++◌, length, replicate, get_or, slice_set, refl, ◌∙◌, ap, arith}
use Rattle.std.proofs.Math.ListN.{length-replicate, length-append}
use Rattle.std.proofs.lemmas.List.{get_or_append_left, get_or-append_right, get_or-replicate}
use Rattle.core_segment.specs.Memory.{with_zeros}

pub zeros-length : (ws : List ℕ) (n : ℕ) → length (with_zeros ws n) ≡ length ws + n
unfolding with_zeros
zeros-length ws n = length-append ws (replicate n 0) ∙ ap (λ (k : ℕ). length ws + k) (length-replicate n 0)

pub zeros-none : (n : ℕ) → with_zeros [] n ≡ replicate n 0
unfolding with_zeros
zeros-none n = refl

-- a word that was written, and one that wasn't
pub zeros-first : (ws : List ℕ) (n i : ℕ) → i < length ws → get_or (with_zeros ws n) i 0 ≡ get_or ws i 0
unfolding with_zeros
zeros-first ws n i low = get_or_append_left ws (replicate n 0) 0 i low

pub zeros-rest : (ws : List ℕ) (n i : ℕ) → length ws ≤ i → i < length ws + n → get_or (with_zeros ws n) i 0 ≡ 0
unfolding with_zeros
zeros-rest ws n i past low = get_or-append_right ws (replicate n 0) (length ws) i 0 refl past ∙ get_or-replicate n (i - length ws) 0 0 (omega arith)

-- one more is written
pub zeros-add : (ws : List ℕ) (n m : ℕ) → m + 1 ≡ n → with_zeros (ws ++ 0 ∷ []) m ≡ with_zeros ws n
unfolding with_zeros
zeros-add ws n m e = grow ws m ∙ ap (λ (k : ℕ). ws ++ replicate k 0) (let f : suc m ≡ n = omega arith in f)
  where
    grow : (ws : List ℕ) (m : ℕ) → (ws ++ 0 ∷ []) ++ replicate m 0 ≡ ws ++ replicate (suc m) 0
    grow [] m = refl
    grow (w ∷ ws) m = ap (λ (l : List ℕ). w ∷ l) (grow ws m)

pub zeros-set : (ws : List ℕ) (n i w : ℕ) → i < length ws → with_zeros (slice_set ws i w) n ≡ slice_set (with_zeros ws n) i w
unfolding with_zeros
zeros-set [] n i w low = absurd (omega arith)
zeros-set (v ∷ ws) n zero w low = refl
zeros-set (v ∷ ws) n (suc i) w low = ap (λ (l : List ℕ). v ∷ l) (zeros-set ws n i w (omega arith))

-- a word that was written is another one
pub changed : (ws new : List ℕ) (n m i w : ℕ) → i < length ws → new ≡ slice_set ws i w → m ≡ n → with_zeros new m ≡ slice_set (with_zeros ws n) i w
changed ws new n m i w low e f = ap (λ (l : List ℕ). with_zeros l m) e ∙ ap (λ (k : ℕ). with_zeros (slice_set ws i w) k) f ∙ zeros-set ws n i w low
