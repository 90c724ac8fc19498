use Rattle.std.proofs.Common.{◌≡◌, ◌+◌, length, vec_capacity, sym, ap, ◌∙◌, arith, rules}
use Rattle.loom_host.specs.Bytes.{overwritten}
use Rattle.loom_host.proofs.Windows.{length-overwritten}
use Rattle.checkpoint.specs.Journal.{state_in}
use Rattle.checkpoint.proofs.NotedLaws.{contents-told, held-more, ranges-more, spans-push, state-more, written-told}
use Rattle.checkpoint.proofs.PieceLaws.{within-push}
use Rattle.checkpoint.proofs.journal.Journal.write.Goals as goal

pub invariant_of-self-2 : goal.invariant_of-self-2
invariant_of-self-2 c =
    let kept = c.in_ok-from.ensures.kept c.in_ok-make_room.ensures.began in
    let held = c.keep_piece.new.self.held in
    record {
      held = held-more _ _ _ _ _ _ _ kept held c.push_reserved.ensures.items (c.in_ok-write_bytes_at.ensures.ok ∙ ap (overwritten c.keep_piece.new.self.bytes.items c.args.place) (sym c.in_ok-from.ensures.piece));
      ranges = ranges-more _ _ _ _ _ _ _ _ kept held c.push_reserved.ensures.items c.keep_piece.new.self.ranges (spans-push _ _ _ c.push_reserved-2.ensures.items);
      within = within-push _ _ _ _ c.keep_piece.new.self.within c.push_reserved.ensures.items c.in_ok-from.ensures.within;
    }

pub returns-clause-ok : goal.returns-clause-ok
unfolding state_in
returns-clause-ok c =
    let kept = c.in_ok-from.ensures.kept c.in_ok-make_room.ensures.began in
    let held = c.keep_piece.new.self.held in
    state-more _ _ _ _ _ _ _ _ _ kept held c.push_reserved.ensures.items (c.in_ok-from.ensures.state ∙ c.in_ok-make_room.ensures.state)
    (written-told _ _ _ _ c.args.place _ c.in_ok-from.ensures.piece (contents-told _ _ _ _ _ held (c.in_ok-from.ensures.state ∙ c.in_ok-make_room.ensures.state)))

pub returns-clause-room : goal.returns-clause-room
returns-clause-room c = λ calls bytes end room fits.
    let wide = c.in_ok-make_room.ensures.widens (calls + 1) (bytes + length c.args.piece.now) end room in
    let all : c.keep_piece.new.self.bytes.items ≡ c.make_room.new.self.bytes.items = ap (λ v. v.items) c.in_ok-from.ensures.bytes in
    let long : length c.write_bytes_at.new.bytes.items ≡ length (overwritten c.keep_piece.new.self.bytes.items c.args.place c.args.piece.now) = ap length c.in_ok-write_bytes_at.ensures.ok in
    record {
      calls = search rules;
      ranges = search rules;
      pieces = search rules;
      contents = search rules;
      began = search rules;
      copied = omega (arith, long, length-overwritten c.keep_piece.new.self.bytes.items c.args.place c.args.piece.now, ap length all, wide.copied, wide.began, fits, ap (λ v. vec_capacity v) c.in_ok-from.ensures.began);
    }
