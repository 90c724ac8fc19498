use Rattle.std.proofs.Common.{true, List, ℕ, ◌+◌, refl, ap, arith, rules}
use Rattle.checkpoint.specs.Journal.{state_in}
use Rattle.checkpoint.specs.Vault.{Synced}
use Rattle.checkpoint.proofs.NotedLaws.{contents-told, held-more, ranges-more, state-more}
use Rattle.checkpoint.proofs.PieceLaws.{within-push}
use Rattle.checkpoint.proofs.journal.Journal.sync.Goals as goal

pub invariant_of-self : goal.invariant_of-self
invariant_of-self c =
    let kept = c.in_ok-make_room.ensures.began in
    let held = c.make_room.new.self.held in
    record {
      held = held-more _ _ _ _ _ _ _ kept held c.push_reserved.ensures.items refl;
      within = within-push _ _ _ _ c.make_room.new.self.within c.push_reserved.ensures.items (omega arith);
      ranges = rw c.clear.ensures.items (ranges-more _ _ _ _ _ _ _ _ kept held c.push_reserved.ensures.items c.make_room.new.self.ranges refl);
    }

pub returns-clause-ok : goal.returns-clause-ok
unfolding state_in
returns-clause-ok c =
    let held = c.make_room.new.self.held in
    state-more _ _ _ _ _ _ _ _ _ c.in_ok-make_room.ensures.began held c.push_reserved.ensures.items c.in_ok-make_room.ensures.state
    (ap (λ (l : List ℕ). Synced true l) (contents-told _ _ _ _ _ held c.in_ok-make_room.ensures.state))

pub returns-clause-room : goal.returns-clause-room
returns-clause-room c = λ calls bytes end room.
    let wide = c.in_ok-make_room.ensures.widens (calls + 1) bytes end room in
    record {
      calls = search rules;
      ranges = search rules;
      pieces = wide.pieces;
      contents = wide.contents;
      began = wide.began;
      copied = wide.copied;
    }
