-- The bytes of Image as they come.
use Rattle.std.specs.Prelude.{◌≡◌, ◌<◌, ◌^◌, All, ◌+◌, ◌++◌, List, [], ℕ, Bool, IsTrue, length}
use Rattle.loom_host.specs.Outside.{RoleState}

-- bytes that were read and not yet used, whether the file's end was met behind them, and how many bytes of the file stand before them
pub record Ahead : Type 0 where
  pub bytes : List ℕ
  pub ended : Bool
  pub place : ℕ

-- what is still to be used: these bytes, and those that are left of the file
abbrev pub unused : Ahead → RoleState → List ℕ
unused w s = w.bytes ++ s.left

-- nothing is left of the file behind its end
abbrev pub EndsTruly : Ahead → RoleState → Type 0
EndsTruly w s = IsTrue w.ended → s.left ≡ []

-- these are bytes
abbrev pub AreBytes : List ℕ → Type 0
AreBytes bytes = All (λ b. b < 2 ^ 8) bytes

-- where the file ends
abbrev pub file_end : Ahead → List ℕ → ℕ
file_end w left = w.place + length (w.bytes ++ left)

-- bytes were taken, and nothing else was done
pub record OnlyRead (old new : RoleState) : Type 0 where
  pub attaches : new.attaches ≡ old.attaches
  pub name : new.name ≡ old.name
  pub put : new.put ≡ old.put
  pub contents : new.contents ≡ old.contents
  pub whole : new.taken ++ new.left ≡ old.taken ++ old.left
