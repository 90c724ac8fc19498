-- Contents of Work that are the same up to a place, or from one on.
use Rattle.std.proofs.Common.{◌≡◌, ℕ, ◌+◌, ◌<◌, ◌≤◌, List, get_or, refl, sym, ◌∙◌, arith, inl}
use Rattle.std.proofs.lemmas.List.{ext_get_or}
use Rattle.loom_host.specs.Bytes.{window, overwritten}
use Rattle.loom_host.proofs.Windows.{length-window, get_or-window, get_or-overwritten, byte_after_outside}
use Rattle.work_directory.specs.Work.{SameFrom, SameBefore}

pub same-again : (place : ℕ) (u v w : List ℕ) → SameFrom place u v → SameFrom place v w → SameFrom place u w
same-again place u v w a b = record {
  bytes = λ k past. b.bytes k past ∙ a.bytes k past;
  end = let x = a.end in let y = b.end in omega arith;
}

pub same-itself : (place : ℕ) (w : List ℕ) → SameFrom place w w
same-itself place w = record { bytes = λ k past. refl; end = omega arith }

pub window-same : (v w : List ℕ) (at n : ℕ) → ((k : ℕ) → k < n → get_or w (at + k) 0 ≡ get_or v (at + k) 0) → window w at n ≡ window v at n
window-same v w at n same =
    ext_get_or 0 _ _ (length-window w at n ∙ sym (length-window v at n)) (λ k l.
    let below : k < n = rw (length-window w at n) at l in
    get_or-window w at n k below ∙ same k below ∙ sym (get_or-window v at n k below))

-- behind a place where the bytes are the same so are the windows
pub window-same_from : (place : ℕ) (v w : List ℕ) (at n : ℕ) → SameFrom place v w → place ≤ at → window w at n ≡ window v at n
window-same_from place v w at n same past = window-same v w at n (λ k l. same.bytes (at + k) (omega arith))

pub window-same_before : (place : ℕ) (v w : List ℕ) (at n : ℕ) → SameBefore place v w → at + n ≤ place → window w at n ≡ window v at n
window-same_before place v w at n same end = window-same v w at n (λ k l. same (at + k) (omega arith))

-- what is written from a place on
pub before-written : (w : List ℕ) (place at : ℕ) (bytes : List ℕ) → place ≤ at → SameBefore place w (overwritten w at bytes)
before-written w place at bytes past = λ k l. get_or-overwritten w at bytes k ∙ byte_after_outside w at bytes k (inl (omega arith))
