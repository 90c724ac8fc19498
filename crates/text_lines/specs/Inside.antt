-- What reading a line speaks of.
use Rattle.std.specs.Prelude.{ℕ, ◌^◌, ◌++◌, min, List, Option, Some, None, option_map}
use Rattle.long_names.specs.declared.value.Value.{Value}
use Rattle.long_names.specs.declared.object.Rec.{Rec}
use Rattle.text_lines.specs.declared.line.Stated.{Stated}
use Rattle.text_lines.specs.declared.line.Head.{Head as HeadRead}
use Rattle.text_lines.specs.Grammar.{Head}

-- these come before the others, if there are others
abbrev pub in_front : {X : Type 0} → List X → Option (List X) → Option (List X)
in_front xs None = None
in_front xs (Some ys) = Some (xs ++ ys)

-- literals, and code behind them
abbrev pub with_code : List Value → Option (List ℕ) → Option (List Value × List ℕ)
with_code literals code = option_map (λ (bytes : List ℕ). (literals, bytes)) code

-- and literals come before those of a method
abbrev pub code_in_front : List Value → Option (List Value × List ℕ) → Option (List Value × List ℕ)
code_in_front literals None = None
code_in_front literals (Some x) = Some (literals ++ x.0, x.1)

-- as a line states it: a name that is too large stands as 2 ^ 32
abbrev pub stated_as : Rec → Stated
stated_as r = record { name = min r.name (2 ^ 32); class = r.class; body = r.body }

abbrev pub head_as : Head → HeadRead
head_as h = record { next = h.next; state = h.state }
