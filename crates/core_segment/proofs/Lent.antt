-- A `&` to words is made where one to each word is. Assumes `Logic`.
use Rattle.std.proofs.Common.{ℕ, List}
use seplogic.Ra.Ura.{Ura}
use base.Fraction.{full_share}
use base.Fml.{Lft, ffalse}
use mir.Syntax.{w16}
use types.Logic.{Logic}
use denote.Builtin.{u16}
use denote.Copied.{uint_Copied}
use denote.Memory.{shared_of}
use denote.Plain.{uint_row_laws}
use denote.RawPtr.{Ptr, block_ptr, null_ptr}
use denote.Shares.{shares_each}
use denote.Sharing.{ShrLaws, said}
use denote.SharingLaws.{said_shr_laws}
use denote.Slice.{elements_shr_laws}
use denote.Struct.Lending.{Lends, Lends-false}
use Rattle.core_segment.specs.Memory.{words_at, words_lent}

pub lent_laws : (p : Ptr) (ws : List ℕ) → ShrLaws (words_lent p ws)
lent_laws (block_ptr b o) ws = elements_shr_laws u16 (uint_row_laws w16) ws b o
lent_laws null_ptr ws = said_shr_laws ffalse tt

module _ {M : Type 1} {𝓤 : Ura M} (𝓛 : Logic 𝓤) (l : Lft) where
  pub Lends-words : (p : Ptr) (ws : List ℕ) → Lends 𝓛 (words_at p ws) (words_lent p ws) l
  Lends-words (block_ptr b o) ws κ ts inc sp = shares_each 𝓛 u16 (shared_of u16) l ((uint_Copied 𝓛 w16).shares full_share l) ws κ ts b o inc sp
  Lends-words null_ptr ws κ ts inc sp = Lends-false 𝓛 (said ffalse) l κ ts inc sp
