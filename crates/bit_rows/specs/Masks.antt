-- What masks make of the bits of two words.
use Rattle.std.specs.Prelude.{◌≡◌, ℕ, ◌+◌, ◌%◌, ◌<◌, min}
use Rattle.blue_model.specs.Forms.{left_bit}
use Rattle.blue_model.specs.BitBlt.{rule_bit}
use Rattle.bit_rows.specs.declared.word.Masks.{Masks}

-- what they make of bit j of the source, s, and of the destination, d
abbrev pub made_bit : Masks → ℕ → ℕ → ℕ → ℕ
made_bit m j s d = ((min d (left_bit m.keep j) + left_bit m.flip j) % 2 + min s ((min d (left_bit m.source_keep j) + left_bit m.source_flip j) % 2)) % 2

-- they make of all bits what the rule makes
abbrev pub AreOf : ℕ → Masks → Type 0
AreOf rule m = (j s d : ℕ) → j < 16 → s < 2 → d < 2 → made_bit m j s d ≡ rule_bit rule s d
