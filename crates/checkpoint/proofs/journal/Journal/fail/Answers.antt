use Rattle.std.proofs.Common.{ℕ, ◌+◌, false, List, [], ap, ◌∙◌, arith}
use Rattle.loom_host.specs.Bytes.{overwritten}
use Rattle.checkpoint.specs.Journal.{state_in}
use Rattle.checkpoint.specs.Vault.{Written}
use Rattle.checkpoint.proofs.NotedLaws.{contents-told, held-more, ranges-more, spans-push, state-more}
use Rattle.checkpoint.proofs.PieceLaws.{within-push}
use Rattle.checkpoint.proofs.journal.Journal.fail.Goals as goal

pub invariant_of-self-2 : goal.invariant_of-self-2
invariant_of-self-2 c =
    let kept = c.in_ok-make_room.ensures.began in
    let held = c.make_room.new.self.held in
    record {
      held = held-more _ _ _ _ _ _ _ kept held c.push_reserved.ensures.items
          (c.in_ok-write_bytes_at.ensures.ok ∙ ap (λ (at : ℕ). overwritten c.make_room.new.self.bytes.items at []) c.in-Some.ensures.1);
      within = within-push _ _ _ _ c.make_room.new.self.within c.push_reserved.ensures.items (omega arith);
      ranges = ranges-more _ _ _ _ _ _ _ _ kept held c.push_reserved.ensures.items c.make_room.new.self.ranges (spans-push _ _ _ c.push_reserved-2.ensures.items);
    }

pub returns-clause-ok : goal.returns-clause-ok
unfolding state_in
returns-clause-ok c =
    let kept = c.in_ok-make_room.ensures.began in
    let held = c.make_room.new.self.held in
    state-more _ _ _ _ _ _ _ _ _ kept held c.push_reserved.ensures.items c.in_ok-make_room.ensures.state
    (ap (λ (l : List ℕ). Written false c.args.place c.args.len (overwritten l (c.args.place + c.args.len) [])) (contents-told _ _ _ _ _ held c.in_ok-make_room.ensures.state))
