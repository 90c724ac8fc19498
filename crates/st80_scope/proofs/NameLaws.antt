-- Names that are looked for, from the first on.
use Rattle.std.proofs.Common.{◌≡◌, ◌≢◌, ℕ, ◌+◌, ◌<◌, ◌≤◌, List, length, get_or, Some, sym, ap, ◌∙◌, ◌⊎◌, inl, inr, arith}
use Rattle.std.proofs.lemmas.Bool.{cases_lt}
use Rattle.std.proofs.lemmas.Option.{slice_get_within, slice_get-get_or}
use Rattle.std.specs.Global.{Vec}
use Rattle.st80_scope.specs.Names.{HasName}

-- the name at a place, read
pub has_name : (names : List (Vec ℕ)) (name : List ℕ) (at : ℕ) (one : Vec ℕ) → one ≡ get_or names at one → at < length names → one.items ≡ name → HasName names name at
has_name names name at one read low is = record { one = one; there = slice_get-get_or names at one low ∙ ap Some (sym read); is = is }

-- another name stands at a place
pub not_there : (names : List (Vec ℕ)) (name : List ℕ) (at : ℕ) (one : Vec ℕ) → one ≡ get_or names at one → at < length names → one.items ≢ name → HasName names name at → ⊥
not_there names name at one read low other h =
    let there : Some h.one ≡ Some one = sym h.there ∙ slice_get-get_or names at one low ∙ ap Some (sym read) in
    other (cc (there, h.is))

-- none behind the last
pub none_behind : (names : List (Vec ℕ)) (name : List ℕ) (k : ℕ) → HasName names name k → k < length names
none_behind names name k h = slice_get_within names k h.one h.there

-- none before a place, and none there
pub more_absent : (names : List (Vec ℕ)) (name : List ℕ) (at : ℕ) → ((k : ℕ) → k < at → HasName names name k → ⊥) → (HasName names name at → ⊥) → (k : ℕ) → k < at + 1 → HasName names name k → ⊥
more_absent names name at before there k low h = go (cases_lt k at)
  where
    go : (k < at) ⊎ (at ≤ k) → ⊥
    go (inl low') = before k low' h
    go (inr high) = let same : k ≡ at = omega (arith, low, high) in there (rw same at h)
