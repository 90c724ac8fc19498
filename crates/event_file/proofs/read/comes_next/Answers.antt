use Rattle.std.proofs.Common.{◌-◌, ◌≤◌, arith}
use Rattle.std.proofs.lemmas.Bool.Decides.{nat_tests}
use Rattle.event_file.proofs.ReadLaws.{right-next, right-was}
use Rattle.event_file.proofs.read.comes_next.Goals as goal

pub returns-in_default : goal.returns-in_default
returns-in_default c =
    let lines = c.args.lines.now in
    let last = c.item.result.now in
    let value = c.len.ensures.value in
    let few = c.len.ensures.few in (
      λ test.
          let above : last.count ≤ c.args.line.count = grind (arith, nat_tests) in
          right-next lines (c.len.result - 1) last c.args.line (omega arith) c.item.ensures (grind arith) c.requires.right c.requires.line above,
      λ right.
          let above = right-was lines (c.len.result - 1) last c.args.line (omega arith) c.item.ensures right in
          grind (arith, nat_tests),
    )
