-- What copies of whole pieces leave, in the words of windows.
use Rattle.std.proofs.Common.{◌≡◌, ◌⊎◌, inl, inr, ℕ, ◌+◌, ◌-◌, ◌<◌, ◌≤◌, List, ◌++◌, length, get_or, take, drop, replicate, subst, sym, ◌∙◌, arith}
use Rattle.std.proofs.lemmas.Grind.{elements, common_steps}
use Rattle.std.proofs.lemmas.List.{get_or_past}
use Rattle.loom_host.specs.Bytes.{window, overwritten}
use Rattle.loom_host.proofs.Windows.{window-by_bytes, overwritten-by_bytes, byte_after_inside, byte_after_outside}

-- what stands there, and then zeros
pub window-copied : (w : List ℕ) (at n : ℕ) → take n (drop at w) ++ replicate (n - (length w - at)) 0 ≡ window w at n
window-copied w at n =
    window-by_bytes w at (take n (drop at w) ++ replicate (n - (length w - at)) 0) n (grind (arith, common_steps)) (λ k lt. grind (arith, elements, get_or_past {X = ℕ}))

padded_byte : (w : List ℕ) (end k : ℕ) → get_or (w ++ replicate (end - length w) 0) k 0 ≡ get_or w k 0
padded_byte w end k = grind (arith, elements, get_or_past {X = ℕ})

pasted_inside : (room : List ℕ) (at : ℕ) (b : List ℕ) (k : ℕ) → at + length b ≤ length room → at ≤ k → k < at + length b → get_or (take at room ++ (b ++ drop (at + length b) room)) k 0 ≡ get_or b (k - at) 0
pasted_inside room at b k fits low high = grind (arith, elements)

pasted_outside : (room : List ℕ) (at : ℕ) (b : List ℕ) (k : ℕ) → at + length b ≤ length room → (k < at) ⊎ (at + length b ≤ k) → get_or (take at room ++ (b ++ drop (at + length b) room)) k 0 ≡ get_or room k 0
pasted_outside room at b k fits out = grind (arith, elements, get_or_past {X = ℕ})

inside_or_out : (at b k : ℕ) → ((at ≤ k) × (k < at + b)) ⊎ ((k < at) ⊎ (at + b ≤ k))
inside_or_out at b k = grind arith

-- zeros up to the end of the piece, and then the piece over what stands there
pub overwritten-pasted : (w room : List ℕ) (at : ℕ) (b : List ℕ) → room ≡ w ++ replicate (at + length b - length w) 0 → take at room ++ (b ++ drop (at + length b) room) ≡ overwritten w at b
overwritten-pasted w room at b is = subst (λ r. take at r ++ (b ++ drop (at + length b) r) ≡ overwritten w at b) (sym is) (go at b w) where
  go : (at : ℕ) (b w : List ℕ) → take at (w ++ replicate (at + length b - length w) 0) ++ (b ++ drop (at + length b) (w ++ replicate (at + length b - length w) 0)) ≡ overwritten w at b
  go at b w =
      let room = w ++ replicate (at + length b - length w) 0 in
      let fits : at + length b ≤ length room = grind (arith, common_steps) in
      overwritten-by_bytes w (take at room ++ (b ++ drop (at + length b) room)) at b (grind (arith, common_steps)) (λ k. elim (inside_or_out at (length b) k) [
        | inl within ↦ pasted_inside room at b k fits within.0 within.1 ∙ sym (byte_after_inside w at b k within.0 within.1)
        | inr out ↦ pasted_outside room at b k fits out ∙ padded_byte w (at + length b) k ∙ sym (byte_after_outside w at b k out)
      ])
