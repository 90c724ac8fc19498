-- What was put into an area of a vault, so far as it is known.
use Rattle.std.specs.Prelude.{◌≡◌, ℕ, ◌+◌, ◌*◌, List, ◌++◌, take}
use Rattle.checkpoint.specs.Layout.{area_in}
use Rattle.checkpoint.specs.declared.area.Area.{Area}
use Rattle.checkpoint.specs.declared.layout.TheConstants.{BLOCK}

-- how many bytes
abbrev pub len_of : Area → ℕ
len_of a = a.blocks * BLOCK + a.filled

-- the bytes: those that are written, in a vault of these contents, and those that are gathered
abbrev pub text_of : Area → List ℕ → List ℕ
text_of a bytes = area_in bytes a.parity (a.blocks * BLOCK) ++ take a.filled a.block.items

-- none yet
abbrev pub IsBegun : Area → Type 0
IsBegun a = len_of a ≡ 0
