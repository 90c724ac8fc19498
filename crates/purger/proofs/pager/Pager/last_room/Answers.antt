use Rattle.std.proofs.Common.{arith, ⊎_elim}
use Rattle.purger.specs.Pager.{core_in}
use Rattle.purger.proofs.OnlyLaws.{keeps-trans}
use Rattle.purger.proofs.PagerLaws.{clears-disk, clears-moved, clears-short, moves-bodies}
use Rattle.purger.proofs.RoomLaws.{pinned-later}
use Rattle.purger.proofs.pager.Pager.last_room.Goals as goal

pub returns-in-Err-clause-clears : goal.returns-in-Err-clause-clears
returns-in-Err-clause-clears g c = clears-disk c.args.self.now c.free_idle.new.self _ c.in-Err.ensures.purges

pub returns-then-has_room-clause-clears : goal.returns-then-has_room-clause-clears
returns-then-has_room-clause-clears g c = clears-moved c.args.self.now c.free_idle.new.self c.gather.new.self tt c.free_idle.ensures.purges.leaves c.in-Ok.ensures.purges.keeps c.gather.ensures.moves

pub returns-then-has_room-clause-bodies : goal.returns-then-has_room-clause-bodies
returns-then-has_room-clause-bodies g c = keeps-trans (core_in c.args.self.now) (core_in c.free_idle.new.self) (core_in c.gather.new.self) c.free_idle.ensures.bodies (moves-bodies c.free_idle.new.self c.gather.new.self c.gather.ensures.moves)

pub returns-else-has_room-clause-clears : goal.returns-else-has_room-clause-clears
returns-else-has_room-clause-clears g c = clears-short c.args.self.now c.free_idle.new.self c.free_idle.ensures.purges.leaves c.in-Ok.ensures.purges.keeps

pub returns-else-has_room-clause-makes : goal.returns-else-has_room-clause-makes
returns-else-has_room-clause-makes g c =
    let a = c.args.self.now in
    let b = c.free_idle.new.self in
    record {
      room = tt;
      short = record {
        bare = record {
          pinned = rw c.free_idle.ensures.purges.leaves.pinned (pinned-later a.pinned.a a.pinned.b a.pinned.d (core_in a) (core_in b) c.free_idle.ensures.purges.leaves.purged
              (λ s p at. ⊎_elim (λ has. absurd (c.has_room.ensures.lacks c.if-has_room.false (let less = c.in-Ok.ensures.purges.keeps.less in let w = less.words in let e = less.entries in let first = has.0 in let then = has.1 in (omega arith, omega arith)))) (λ gone. gone s p at) c.requires.gone));
          named = c.in-Ok.ensures.idle;
        };
        wanting = c.has_room.ensures.lacks c.if-has_room.false;
      };
    }
