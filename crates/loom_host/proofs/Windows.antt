-- What a window shows after a write.
-- A loop over pieces, as in `read_full` and `write_full`, keeps that what was done and the rest are the text; the laws of one
-- piece after another stand in `Pieces`. The crates of the work file cite the windows here.
use Rattle.std.proofs.Common.{◌≡◌, ℕ, ◌+◌, ◌-◌, ◌<◌, ◌≤◌, ◌⊎◌, ◌&&◌, List, [], replicate, length, length-append, ◌++◌, map, take, drop, get_or, nat_le, nat_lt, true, false, cond, max, refl, sym, ap, ◌∙◌, arith, inl, inr}
use Rattle.std.specs.List.{range_with_len}
use Rattle.std.proofs.lemmas.List.{ext_get_or, get_or_past, get_or_append_left, get_or-append_right, get_or-replicate, get_or-take, get_or-drop, length-replicate, length-take, length-drop}
use Rattle.std.proofs.lemmas.List.FromFn.{length-map-range_with_len, get_or-map-range_with_len}
use Rattle.std.proofs.lemmas.Bool.Decides.{nat_tests}
use Rattle.loom_host.specs.Bytes.{window, overwritten, byte_after}

pub length-window : (w : List ℕ) (at n : ℕ) → length (window w at n) ≡ n
unfolding window
length-window w at n = length-map-range_with_len (λ k. get_or w k 0) at n

pub get_or-window : (w : List ℕ) (at n k : ℕ) → k < n → get_or (window w at n) k 0 ≡ get_or w (at + k) 0
unfolding window
get_or-window w at n k h = get_or-map-range_with_len (λ j. get_or w j 0) at n k (at + k) 0 h refl

-- a part of a window
pub window-taken : (w : List ℕ) (p m at n : ℕ) → at + n ≤ m → take n (drop at (window w p m)) ≡ window w (p + at) n
window-taken w p m at n h =
    let long : length (take n (drop at (window w p m))) ≡ n =
    omega (arith, length-take n (drop at (window w p m)), length-drop at (window w p m), length-window w p m, h) in
    ext_get_or 0 _ _ (long ∙ sym (length-window w (p + at) n)) (λ k l.
    let below : k < n = rw long at l in
    let same : p + (at + k) ≡ p + at + k = omega arith in
    get_or-take n (drop at (window w p m)) k 0 below
    ∙ get_or-drop at (window w p m) k 0
    ∙ get_or-window w p m (at + k) (omega arith)
    ∙ ap (λ j. get_or w j 0) same
    ∙ sym (get_or-window w (p + at) n k below))

pub length-overwritten : (w : List ℕ) (at : ℕ) (bytes : List ℕ) → length (overwritten w at bytes) ≡ max (length w) (at + length bytes)
unfolding overwritten
length-overwritten w at bytes = length-map-range_with_len (byte_after w at bytes) 0 (max (length w) (at + length bytes))

in_range : (at n k : ℕ) → at ≤ k → k < n → (nat_le at k && nat_lt k n) ≡ true
in_range at n k low high = grind (arith, nat_tests)

out_of_range : (at n k : ℕ) → (k < at) ⊎ (n ≤ k) → (nat_le at k && nat_lt k n) ≡ false
out_of_range at n k h = grind (arith, nat_tests)

pub below_or_past : (k n : ℕ) → (k < n) ⊎ (n ≤ k)
below_or_past k n = grind arith

pub byte_after_inside : (w : List ℕ) (at : ℕ) (bytes : List ℕ) (k : ℕ) → at ≤ k → k < at + length bytes → byte_after w at bytes k ≡ get_or bytes (k - at) 0
byte_after_inside w at bytes k low high = ap (λ b. cond b (get_or bytes (k - at) 0) (get_or w k 0)) (in_range at (at + length bytes) k low high)

pub byte_after_outside : (w : List ℕ) (at : ℕ) (bytes : List ℕ) (k : ℕ) → (k < at) ⊎ (at + length bytes ≤ k) → byte_after w at bytes k ≡ get_or w k 0
byte_after_outside w at bytes k h = ap (λ b. cond b (get_or bytes (k - at) 0) (get_or w k 0)) (out_of_range at (at + length bytes) k h)

-- a write leaves this byte there, also past the end
pub get_or-overwritten : (w : List ℕ) (at : ℕ) (bytes : List ℕ) (k : ℕ) → get_or (overwritten w at bytes) k 0 ≡ byte_after w at bytes k
unfolding overwritten
get_or-overwritten w at bytes k = elim (below_or_past k (max (length w) (at + length bytes))) [
  | inl below ↦ get_or-map-range_with_len (byte_after w at bytes) 0 (max (length w) (at + length bytes)) k k 0 below (omega arith)
  | inr past ↦
      get_or_past (map (byte_after w at bytes) (range_with_len 0 (max (length w) (at + length bytes)))) k 0 (rw (length-map-range_with_len (byte_after w at bytes) 0 (max (length w) (at + length bytes))) past)
      ∙ sym (byte_after_outside w at bytes k (inr (omega arith)) ∙ get_or_past w k 0 (omega arith))
]

-- what was written shows
pub window-overwritten_same : (w : List ℕ) (at : ℕ) (bytes : List ℕ) → window (overwritten w at bytes) at (length bytes) ≡ bytes
window-overwritten_same w at bytes =
    ext_get_or 0 _ _ (length-window (overwritten w at bytes) at (length bytes)) (λ k h.
    let below : k < length bytes = rw (length-window (overwritten w at bytes) at (length bytes)) at h in
    get_or-window (overwritten w at bytes) at (length bytes) k below
    ∙ get_or-overwritten w at bytes (at + k)
    ∙ byte_after_inside w at bytes (at + k) (omega arith) (omega arith)
    ∙ ap (λ j. get_or bytes j 0) (let e : at + k - at ≡ k = omega arith in e))

-- the rest stays
pub window-overwritten_apart : (w : List ℕ) (at : ℕ) (bytes : List ℕ) (from n : ℕ) → (from + n ≤ at) ⊎ (at + length bytes ≤ from) → window (overwritten w at bytes) from n ≡ window w from n
window-overwritten_apart w at bytes from n apart =
    ext_get_or 0 _ _ (length-window (overwritten w at bytes) from n ∙ sym (length-window w from n)) (λ k h.
    let below : k < n = rw (length-window (overwritten w at bytes) from n) at h in
    get_or-window (overwritten w at bytes) from n k below
    ∙ get_or-overwritten w at bytes (from + k)
    ∙ byte_after_outside w at bytes (from + k) (elim apart [ inl before ↦ inl (omega arith) | inr behind ↦ inr (omega arith) ])
    ∙ sym (get_or-window w from n k below))

-- a window of an empty file
pub window-nil : (at n : ℕ) → window [] at n ≡ replicate n 0
window-nil at n =
    ext_get_or 0 _ _ (length-window [] at n ∙ sym (length-replicate n 0)) (λ k h.
    let below : k < n = rw (length-window [] at n) at h in get_or-window [] at n k below ∙ sym (get_or-replicate n k 0 0 below))

-- a window of a window
pub window-window : (w : List ℕ) (at n from m : ℕ) → from + m ≤ n → window (window w at n) from m ≡ window w (at + from) m
window-window w at n from m h =
    ext_get_or 0 _ _ (length-window (window w at n) from m ∙ sym (length-window w (at + from) m)) (λ k l.
    let below : k < m = rw (length-window (window w at n) from m) at l in
    get_or-window (window w at n) from m k below
    ∙ get_or-window w at n (from + k) (omega arith)
    ∙ ap (λ j. get_or w j 0) (add_assoc' at from k)
    ∙ sym (get_or-window w (at + from) m k below)) where
      add_assoc' : (a b c : ℕ) → a + (b + c) ≡ a + b + c
      add_assoc' a b c = omega arith

-- a window grows by what is written behind it
pub window-overwritten_behind : (w : List ℕ) (from n : ℕ) (bytes : List ℕ) → window (overwritten w (from + n) bytes) from (n + length bytes) ≡ window w from n ++ bytes
window-overwritten_behind w from n bytes =
    ext_get_or 0 _ _ (length-window (overwritten w (from + n) bytes) from (n + length bytes) ∙ sym (length-append (window w from n) bytes ∙ ap (λ m. m + length bytes) (length-window w from n))) (λ k l.
    let below : k < n + length bytes = rw (length-window (overwritten w (from + n) bytes) from (n + length bytes)) at l in
    get_or-window (overwritten w (from + n) bytes) from (n + length bytes) k below
    ∙ get_or-overwritten w (from + n) bytes (from + k)
    ∙ elim (below_or_past k n) [
      | inl low ↦ byte_after_outside w (from + n) bytes (from + k) (inl (omega arith)) ∙ sym (get_or_append_left (window w from n) bytes 0 k (rw (length-window w from n) low) ∙ get_or-window w from n k low)
      | inr high ↦ byte_after_inside w (from + n) bytes (from + k) (omega arith) (omega arith)
          ∙ ap (λ j. get_or bytes j 0) (let e : from + k - (from + n) ≡ k - n = omega arith in e)
          ∙ sym (get_or-append_right (window w from n) bytes n k 0 (length-window w from n) high)
    ])

-- ---- for who implements a host
-- a piece that was read byte by byte
pub window-by_bytes : (w : List ℕ) (at : ℕ) (piece : List ℕ) (n : ℕ) → length piece ≡ n → ((k : ℕ) → k < n → get_or piece k 0 ≡ get_or w (at + k) 0) → piece ≡ window w at n
window-by_bytes w at piece n sized each =
    ext_get_or 0 _ _ (sized ∙ sym (length-window w at n)) (λ k l.
    let below : k < n = rw sized at l in
    each k below ∙ sym (get_or-window w at n k below))

-- a file that was written byte by byte
pub overwritten-by_bytes : (w v : List ℕ) (at : ℕ) (bytes : List ℕ) → length v ≡ max (length w) (at + length bytes) → ((k : ℕ) → get_or v k 0 ≡ byte_after w at bytes k) → v ≡ overwritten w at bytes
overwritten-by_bytes w v at bytes sized each =
    ext_get_or 0 _ _ (sized ∙ sym (length-overwritten w at bytes)) (λ k _. each k ∙ sym (get_or-overwritten w at bytes k))

-- what stands outside the piece is all that matters of the old file
pub byte_after-same : (v w : List ℕ) (at : ℕ) (bytes : List ℕ) (k : ℕ) → get_or v k 0 ≡ get_or w k 0 → byte_after v at bytes k ≡ byte_after w at bytes k
byte_after-same v w at bytes k same = ap (λ x. cond (nat_le at k && nat_lt k (at + length bytes)) (get_or bytes (k - at) 0) x) same
