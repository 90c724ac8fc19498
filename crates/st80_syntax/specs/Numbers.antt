-- What an integer comes to: digits, or a radix, r (114) and digits below the radix.
use Rattle.std.specs.Prelude.{ℕ, ◌+◌, ◌-◌, ◌*◌, ◌==◌, ◌&&◌, nat_le, nat_lt, List, [], ◌∷◌, Option, Some, None, if◌then◌else◌}
use Rattle.st80_syntax.specs.declared.numbers.TheConstants.{LARGEST}
use Rattle.st80_syntax.specs.Bytes.{is_capital, is_digit}

-- what a digit or a capital letter stands for; 36 is no digit of any radix
unfoldable pub figure_of : ℕ → ℕ
figure_of b = if is_digit b then b - 48 else (if is_capital b then b - 55 else 36)

-- one more figure behind a number
unfoldable pub with_figure : ℕ → ℕ → ℕ → Option ℕ
with_figure radix n b = if nat_lt (figure_of b) radix && nat_le (n * radix + figure_of b) LARGEST then Some (n * radix + figure_of b) else None

abbrev pub go_on : Option ℕ → (ℕ → Option ℕ) → Option ℕ
go_on None next = None
go_on (Some n) next = next n

-- figures behind a number
unfoldable pub figures_behind : ℕ → ℕ → List ℕ → Option ℕ
figures_behind radix n [] = Some n
figures_behind radix n (b ∷ bs) = go_on (with_figure radix n b) (λ m. figures_behind radix m bs)
