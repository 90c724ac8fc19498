-- What characters begin, and in what they go on. A character is its code.
use Rattle.std.specs.Prelude.{ℕ, ◌+◌, ◌==◌, ◌||◌, ◌&&◌, nat_le, not, Bool, true, false, List, [], ◌∷◌, Option, Some, None, option_map, if◌then◌else◌}
use Rattle.st80_syntax.specs.declared.bytes.Class.{Class}
use Rattle.st80_syntax.specs.declared.bytes.Class.TheVariants as class
use Rattle.st80_syntax.specs.declared.bytes.Start.{Start}
use Rattle.st80_syntax.specs.declared.bytes.Start.TheVariants as start
use Rattle.st80_syntax.specs.declared.token.Kind.{Kind}
use Rattle.st80_syntax.specs.declared.token.Kind.TheVariants as kind

-- a space, or one of tab, newline, vertical tab, form feed and return
unfoldable pub is_blank : ℕ → Bool
is_blank b = b == 32 || (nat_le 9 b && nat_le b 13)

unfoldable pub is_digit : ℕ → Bool
is_digit b = nat_le 48 b && nat_le b 57

unfoldable pub is_capital : ℕ → Bool
is_capital b = nat_le 65 b && nat_le b 90

unfoldable pub is_letter : ℕ → Bool
is_letter b = is_capital b || (nat_le 97 b && nat_le b 122)

-- < = > ? @ and \ and ~
unfoldable pub is_high_special : ℕ → Bool
is_high_special b = (nat_le 60 b && nat_le b 64) || b == 92 || b == 126

-- of these characters binary selectors are: those above, and ! % & * + , - /
unfoldable pub is_special : ℕ → Bool
is_special b = is_high_special b || b == 33 || b == 37 || b == 38 || (nat_le 42 b && nat_le b 45) || b == 47

unfoldable pub is_in : Class → ℕ → Bool
is_in class.Blank b = is_blank b
is_in class.Remark b = not (b == 34)
is_in class.Word b = is_letter b || is_digit b
is_in class.Digit b = is_digit b
is_in class.Figure b = is_digit b || is_capital b
is_in class.Path b = is_letter b || is_digit b || b == 58

-- ---- what begins with a character

-- ( ) . ; [ ] ^ _ |
unfoldable pub single_of : ℕ → Option Kind
single_of b =
    if b == 40 then Some kind.Open else (if b == 41 then Some kind.Close else (if b == 46 then Some kind.Period else (
    if b == 59 then Some kind.Semicolon else (if b == 91 then Some kind.OpenBlock else (if b == 93 then Some kind.CloseBlock else (
    if b == 94 then Some kind.Return else (if b == 95 then Some kind.Assign else (if b == 124 then Some kind.Bar else None))))))))

-- " # $ ' :
unfoldable pub mark_of : ℕ → Start
mark_of b =
    if b == 34 then start.Remark else (if b == 35 then start.Hash else (if b == 36 then start.Dollar else (
    if b == 39 then start.Quote else (if b == 58 then start.Colon else start.Foreign))))

abbrev pub marked : ℕ → Option Kind → Start
marked b (Some kind) = start.Single kind
marked b None = mark_of b

unfoldable pub start_of : ℕ → Start
start_of b =
    if is_blank b then start.Blank else (if is_letter b then start.Letter else (if is_digit b then start.Digit else (
    if is_special b then start.Special else marked b (single_of b))))

-- ---- runs

-- how many characters of a class a text begins with
unfoldable pub run_of : Class → List ℕ → ℕ
run_of c [] = 0
run_of c (b ∷ bs) = if is_in c b then 1 + run_of c bs else 0

-- a number more, where there is one
abbrev pub more : ℕ → Option ℕ → Option ℕ
more n = option_map (λ m. n + m)

-- How many characters a string has behind its first quote (39), with the last quote; the test says whether a quote was just read. Two together stand for one.
unfoldable pub quoted_by : Bool → List ℕ → Option ℕ
quoted_by ended [] = if ended then Some 0 else None
quoted_by ended (b ∷ bs) = if b == 39 then more 1 (quoted_by (not ended) bs) else (if ended then Some 0 else more 1 (quoted_by false bs))
