use Rattle.std.proofs.Common.{◌≡◌, ◌+◌, length, refl, ap, arith, rules}
use Rattle.checkpoint.specs.Journal.{state_in}
use Rattle.checkpoint.proofs.NotedLaws.{held-more, ranges-more, state-more}
use Rattle.checkpoint.proofs.PieceLaws.{within-push}
use Rattle.checkpoint.proofs.journal.Journal.open.Goals as goal

pub invariant_of-self : goal.invariant_of-self
invariant_of-self c =
    let kept = c.in_ok-make_room.ensures.began in
    let held = c.make_room.new.self.held in
    record {
      held = held-more _ _ _ _ _ _ _ kept held c.push_reserved.ensures.items c.clear.ensures.items;
      within = within-push _ _ _ _ c.make_room.new.self.within c.push_reserved.ensures.items (omega arith);
      ranges = rw c.clear-2.ensures.items (ranges-more _ _ _ _ _ _ _ _ kept held c.push_reserved.ensures.items c.make_room.new.self.ranges refl);
    }

pub returns-clause-ok : goal.returns-clause-ok
unfolding state_in
returns-clause-ok c =
    state-more _ _ _ _ _ _ _ _ _ c.in_ok-make_room.ensures.began c.make_room.new.self.held c.push_reserved.ensures.items c.in_ok-make_room.ensures.state refl

pub returns-clause-room : goal.returns-clause-room
returns-clause-room c = λ calls bytes end room.
    let wide = c.in_ok-make_room.ensures.widens (calls + 1) bytes end room in
    let none : length c.clear.new.self.items ≡ 0 = ap length c.clear.ensures.items in
    record {
      calls = search rules;
      ranges = search rules;
      pieces = wide.pieces;
      contents = search rules;
      began = wide.began;
      copied = omega arith;
    }
