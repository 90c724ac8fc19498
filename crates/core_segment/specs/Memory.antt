-- What words of raw memory own and lend.
use Rattle.std.specs.Prelude.{ℕ, ◌+◌, ◌*◌, ◌^◌, ◌<◌, List, ◌++◌, length, replicate}
use base.Fraction.{full_share}
use base.Fml.{Lft, Fml, ffalse, froom, fsep}
use mir.Syntax.{Ty, ty_array, ty_int, w16}
use denote.Builtin.{u16}
use denote.Index.{row}
use denote.RawPtr.{Ptr, block_ptr, null_ptr}
use denote.Sharing.{said}
use denote.Slice.{elements_shared}

-- so many words have fewer bytes than half of the addresses
abbrev pub IsSize : ℕ → Type 0
IsSize n = n * 2 < 2 ^ 63

abbrev pub words_type : ℕ → Ty
words_type n = ty_array (ty_int w16) n

-- room for n words behind so many from p on, whatever it holds
abbrev pub room_past : Ptr → ℕ → ℕ → Fml
room_past (block_ptr b o) past n = froom (words_type n) b (past * 2 + o)
room_past null_ptr past n = ffalse

-- these words, side by side from p on
abbrev pub words_at : Ptr → List ℕ → Fml
words_at (block_ptr b o) ws = row u16 full_share ws b o
words_at null_ptr ws = ffalse

-- the same words behind a `&`
abbrev pub words_lent : Ptr → List ℕ → Lft → Fml
words_lent (block_ptr b o) ws κ = elements_shared u16 ws b o κ
words_lent null_ptr ws κ = said ffalse κ

-- these words, and room for n more behind them
abbrev pub words_and_room : Ptr → List ℕ → ℕ → Fml
words_and_room p ws n = fsep (words_at p ws) (room_past p (length ws) n)

-- these words, and so many zeros behind them
unfoldable pub with_zeros : List ℕ → ℕ → List ℕ
with_zeros ws n = ws ++ replicate n 0
