-- Windows within windows, and contents of Work of which only some bytes changed.
use Rattle.std.proofs.Common.{◌≡◌, ℕ, ◌+◌, ◌≤◌, List, length, take, drop, get_or, sym, ap, ◌∙◌, arith}
use Rattle.loom_host.specs.Bytes.{window, overwritten}
use Rattle.loom_host.proofs.Windows.{get_or-window, length-overwritten, window-overwritten_apart, window-overwritten_same, window-taken}
use Rattle.disk_objects.specs.Inside.{Touches}

-- a shorter window
pub window-shorter : (v w : List ℕ) (p m at n : ℕ) → at + n ≤ m → window w p m ≡ window v p m → window w (p + at) n ≡ window v (p + at) n
window-shorter v w p m at n h same =
    sym (window-taken w p m at n h) ∙ ap (λ (t : List ℕ). take n (drop at t)) same ∙ window-taken v p m at n h

-- one byte
pub byte-in_window : (w : List ℕ) (k : ℕ) → get_or (window w k 1) 0 0 ≡ get_or w k 0
byte-in_window w k =
    let same : k + 0 ≡ k = omega arith in
    get_or-window w k 1 0 (omega arith) ∙ ap (λ j. get_or w j 0) same

pub touches-written : (v w : List ℕ) (at : ℕ) (bytes : List ℕ) → w ≡ overwritten v at bytes → Touches v w at (length bytes)
touches-written v w at bytes is = record {
  rest = λ from n apart. ap (λ (t : List ℕ). window t from n) is ∙ window-overwritten_apart v at bytes from n apart;
  end = let all = ap length is in omega (arith, all, length-overwritten v at bytes);
}

pub here-written : (v w : List ℕ) (at : ℕ) (bytes : List ℕ) → w ≡ overwritten v at bytes → window w at (length bytes) ≡ bytes
here-written v w at bytes is = ap (λ (t : List ℕ). window t at (length bytes)) is ∙ window-overwritten_same v at bytes
