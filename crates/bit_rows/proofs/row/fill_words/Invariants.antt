use Rattle.std.proofs.Common.{◌≡◌, ℕ, ◌<◌, ◌≤◌, ◌⊎◌, get_or}
use Rattle.blue_model.specs.Forms.{left_bit}
use Rattle.blue_model.specs.BitBlt.{rule_bit}
use Rattle.bit_rows.specs.Masks.{AreOf}
use Rattle.bit_rows.proofs.row.fill_words.Given as goal

-- the words up to one were made, the others are as they were
abbrev pub invariant-loop-i : goal.invariant-loop-i
invariant-loop-i l = record {
  from : l.first ≤ l.i;
  made : (rule : ℕ) → AreOf rule l.fn.masks → (k j : ℕ) → l.first ≤ k → k < l.i → j < 16
      → left_bit (get_or l.row k 0) j ≡ rule_bit rule (left_bit l.halftone j) (left_bit (get_or l.fn.row k 0) j);
  rest : (k : ℕ) → ((k < l.first) ⊎ (l.i ≤ k)) → get_or l.row k 0 ≡ get_or l.fn.row k 0;
  fits : (k : ℕ) → get_or l.row k 0 < 65536;
}
