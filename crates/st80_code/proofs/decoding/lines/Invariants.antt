use Rattle.std.proofs.Common.{length, ◌-◌, ◌≡◌, ◌≤◌, All}
use Rattle.st80_code.specs.Decoding.{line_at, Covers}
use Rattle.st80_code.proofs.decoding.lines.Given as goal

-- the lines so far cover the code up to here
abbrev pub invariant-loop-at : goal.invariant-loop-at
invariant-loop-at l = (l.at ≤ length l.code) × Covers 0 l.lines.items l.at × All (λ line. line ≡ line_at l.code line.at) l.lines.items

abbrev pub decreases-loop-at : goal.decreases-loop-at
decreases-loop-at l = length l.code - l.at
