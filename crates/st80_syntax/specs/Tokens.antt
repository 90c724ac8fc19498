-- The tokens of a text: those of its pieces, in order, without blanks and remarks.
use Rattle.std.specs.Prelude.{◌≡◌, ◌≢◌, ◌⊎◌, ◌<◌, ℕ, ◌+◌, List, [], ◌∷◌, ◌++◌, length, drop, Ok, Err}
use Rattle.st80_syntax.specs.declared.token.Kind.TheVariants.{Space}
use Rattle.st80_syntax.specs.declared.token.Token.{Token}
use Rattle.st80_syntax.specs.declared.token.Fault.{Fault}
use Rattle.st80_syntax.specs.declared.scanner.Scanned.{Scanned}
use Rattle.st80_syntax.specs.declared.scanner.Scanned.TheVariants.{Tokens, Refused}
use Rattle.st80_syntax.specs.Pieces.{piece}

-- a piece is added to tokens where it is no blank and no remark
abbrev pub Adds : Token → List Token → List Token → Type 0
Adds t old new = ((t.kind ≡ Space) × (new ≡ old)) ⊎ ((t.kind ≢ Space) × (new ≡ old ++ t ∷ []))

-- the tokens of a text up to a place, at which a piece ends
pub data Covers (text : List ℕ) : List Token → ℕ → Type 0 where
  Front : Covers text [] 0
  Behind : (old : List Token) → (new : List Token) → (t : Token) → Covers text old t.at → piece (drop t.at text) ≡ Ok (t.kind, t.len) → Adds t old new → Covers text new (t.at + t.len)

-- no rule takes what stands at a place at which a piece ends
pub record IsRefused (text : List ℕ) (at : ℕ) (fault : Fault) : Type 0 where
  pub tokens : List Token
  pub covers : Covers text tokens at
  pub within : at < length text
  pub refused : piece (drop at text) ≡ Err fault

abbrev pub IsScanned : List ℕ → Scanned → Type 0
IsScanned text (Tokens tokens) = Covers text tokens.items (length text)
IsScanned text (Refused refusal) = IsRefused text refusal.at refusal.fault
