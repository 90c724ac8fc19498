use Rattle.std.proofs.Common.{[], sym, ap, ◌∙◌}
use Rattle.checkpoint.specs.Noted.{began_of}
use Rattle.checkpoint.specs.Vault.{contents_after, unsynced_after}
use Rattle.checkpoint.specs.Journal.{state_in}
use Rattle.checkpoint.proofs.NotedLaws.{state-told}
use Rattle.checkpoint.proofs.PieceLaws.{calls-joined, reach-joined}
use Rattle.checkpoint.proofs.journal.Journal.keep_piece.Goals as goal

pub invariant_of-self : goal.invariant_of-self
invariant_of-self c =
    let v = c.args.self.now in
    let told = calls-joined _ _ v.began.items v.noted.items _ _ v.within c.extend_from_slice.ensures.items in
    record {
      held = v.held ∙ ap (contents_after (began_of v.bytes.items v.began.items v.noted.items)) (sym told);
      ranges = ap (unsynced_after []) told ∙ v.ranges;
      within = reach-joined _ _ v.noted.items _ _ v.within c.extend_from_slice.ensures.items;
    }

pub returns-clause-state : goal.returns-clause-state
unfolding state_in
returns-clause-state c =
    let v = c.args.self.now in
    state-told _ _ v.bytes.items v.began.items v.noted.items (calls-joined _ _ v.began.items v.noted.items _ _ v.within c.extend_from_slice.ensures.items)
