-- Places on one axis: those of a rectangle, of the clipping rectangle, of the destination and of the source.
use Rattle.std.specs.Prelude.{ℕ, ℤ, pos, Bool, false, ◌≡◌, ◌<◌, ◌≤◌, ◌+◌, ◌-◌, ◌+ℤ◌, ◌-ℤ◌, ◌&&◌, Option, Some, None, int_lt, int_le}
use Rattle.bit_rows.specs.Rows.{within}
use Rattle.bitblt.specs.declared.clip.Range.{Range}
use Rattle.bitblt.specs.declared.clip.Span.{Span}

-- whether the range has the place
abbrev pub covers : Range → ℕ → Bool
covers r x = int_le r.low (pos x) && int_lt (pos x) r.high

-- What clipping answers on an axis: none where no place is changed, and otherwise the places changed, from one up to another, and
-- the source place of the first.
pub record IsSpan (at source_at : ℤ) (form : ℕ) (source : Option ℕ) (changed : ℕ → Bool) (s : Span) : Type 0 where
  pub some : s.low < s.high
  pub within_form : s.high ≤ form
  pub places : (x : ℕ) → changed x ≡ within s.low s.high x
  pub start : (n : ℕ) → source ≡ Some n → pos s.source ≡ pos s.low -ℤ at +ℤ source_at
  pub within_source : (n : ℕ) → source ≡ Some n → s.source + (s.high - s.low) ≤ n

abbrev pub IsClipped : ℤ → ℤ → ℕ → Option ℕ → (ℕ → Bool) → Option Span → Type 0
IsClipped at source_at form source changed None = (x : ℕ) → changed x ≡ false
IsClipped at source_at form source changed (Some s) = IsSpan at source_at form source changed s

-- a range as a span, if it has a place
pub record IsRange (r : Range) (start : ℤ) (s : Span) : Type 0 where
  pub some : s.low < s.high
  pub low : pos s.low ≡ r.low
  pub high : pos s.high ≡ r.high
  pub source : pos s.source ≡ r.low -ℤ start
  pub places : (x : ℕ) → covers r x ≡ within s.low s.high x

abbrev pub IsSpanOf : Range → ℤ → Option Span → Type 0
IsSpanOf r start None = (x : ℕ) → covers r x ≡ false
IsSpanOf r start (Some s) = IsRange r start s
