use Rattle.std.proofs.Common.{◌≡◌, [], ◌∷◌, ◌++◌, ◌<◌, length, ap, arith}
use Rattle.std.proofs.lemmas.Grind.{common_steps}
use Rattle.event_file.proofs.ListLaws.{list-last}
use Rattle.event_file.specs.declared.limits.TheConstants.{MOST_LINES}
use Rattle.event_file.proofs.list.EventList.push.Goals as goal

pub invariant_of-self-else-is_err : goal.invariant_of-self-else-is_err
invariant_of-self-else-is_err c =
    let lines : c.push.new.self.items ≡ c.self.inside.lines.items ++ c.args.line ∷ [] = grind (arith, common_steps) in
    let room : length c.self.inside.lines.items < MOST_LINES = let view = ap length c.self.view_is in omega arith in
    rw (lines, c.in_ok-push_word.ensures.ok) (list-last c.self.inside.lines.items c.self.inside.words.items c.args.line c.self.invariant room)
