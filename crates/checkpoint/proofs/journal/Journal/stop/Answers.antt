use Rattle.std.proofs.Common.{◌≡◌, length, rules}
use Rattle.std.proofs.lemmas.List.{with_items_is}
use Rattle.checkpoint.specs.Journal.{state_in}
use Rattle.checkpoint.proofs.NotedLaws.{stop-state}
use Rattle.checkpoint.proofs.journal.Journal.stop.Goals as goal

pub returns-clause-state : goal.returns-clause-state
unfolding state_in
returns-clause-state c =
    let sized : length c.lose.new.bytes ≡ c.args.self.now.bytes.len = search rules in
    stop-state _ c.clear-2.new.self.items _ _ _ _ _ c.args.self.now.noted.items _ _ _ c.args.kept c.min-first.result _ c.clear.ensures.items (with_items_is c.args.self.now.bytes c.lose.new.bytes sized) c.lose.ensures
    c.deref_mut.ensures.value c.deref.ensures.value (search rules) c.args.self.now.held c.args.self.now.ranges
