-- Objects by rising name.
use Rattle.std.specs.Prelude.{◌≡◌, ℕ, ◌<◌, List, [], ◌∷◌, length, slice_index_or}
use Rattle.long_names.specs.declared.object.Rec.{Rec}

-- the name of the object at a place
abbrev pub name_at : List Rec → ℕ → Rec → ℕ
name_at recs i d = let r = slice_index_or recs i d in r.name

-- names rise, so no two objects have the same
abbrev pub IsRising : List Rec → Type 0
IsRising recs = (i j : ℕ) (d : Rec) → i < j → j < length recs → name_at recs i d < name_at recs j d

-- a name is above all of them
abbrev pub IsAbove : List Rec → ℕ → Type 0
IsAbove recs n = (i : ℕ) (d : Rec) → i < length recs → name_at recs i d < n

-- the object at place i has the name
pub record IsAt (recs : List Rec) (name i : ℕ) : Type 0 where
  pub in_range : i < length recs
  pub has_name : (d : Rec) → name_at recs i d ≡ name

-- the name of the last; 0, which no object has, where there is none
abbrev pub last_name : List Rec → ℕ
last_name [] = 0
last_name (r ∷ []) = r.name
last_name (r ∷ s ∷ rs) = last_name (s ∷ rs)
