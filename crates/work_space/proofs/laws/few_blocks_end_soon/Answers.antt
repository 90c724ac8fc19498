use Rattle.std.proofs.Common.{ℕ, ◌≤◌, ◌+◌, ◌^◌, sym, subst}
use Rattle.work_space.specs.Space.{from_of}
use Rattle.work_space.proofs.CountLaws.{end-most}
use Rattle.work_space.proofs.laws.few_blocks_end_soon.Goals as goal

pub returns : goal.returns
returns c s work laid out b few =
    (b.within, subst (λ (z : ℕ). z ≤ from_of s + 2 ^ 52) (sym b.tiled) (end-most (from_of s) laid b.each_class few))
