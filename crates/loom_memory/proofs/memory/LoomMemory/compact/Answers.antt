use Rattle.std.proofs.Common.{refl}
use Rattle.loom_memory.specs.Memory.{loom_told}
use Rattle.loom_memory.proofs.AccessLaws.{quiet-ready}
use Rattle.loom_memory.proofs.EndLaws.{quiet-thins, quiet-later}
use Rattle.loom_memory.proofs.OverLaws.{over_pager}
use Rattle.loom_memory.proofs.PagerLaws.{moves-outside, moves-peek, moves-quiet, moves-rests, moves-sound}
use Rattle.loom_memory.proofs.memory.LoomMemory.compact.Goals as goal

pub returns-clause-later : goal.returns-clause-later
returns-clause-later g c = let m = c.args.self.now in quiet-later (loom_told g.H.Host m) (loom_told g.H.Host (over_pager m c.compact.new.self)) (moves-quiet g.H.Host m c.compact.new.self c.requires.fit.sound c.compact.ensures.moves)

pub returns-clause-follows : goal.returns-clause-follows
returns-clause-follows g c = let m = c.args.self.now in quiet-thins (loom_told g.H.Host m) (loom_told g.H.Host (over_pager m c.compact.new.self)) (moves-quiet g.H.Host m c.compact.new.self c.requires.fit.sound c.compact.ensures.moves)

pub returns-clause-fit : goal.returns-clause-fit
returns-clause-fit g c =
    let m = c.args.self.now in
    let p = c.compact.new.self in
    let moves = c.compact.ensures.moves in
    record {
      sound = moves-sound g.H.Host m p c.requires.fit.sound moves;
      ready = quiet-ready (loom_told g.H.Host m) (loom_told g.H.Host (over_pager m p)) (moves-quiet g.H.Host m p c.requires.fit.sound moves) c.requires.fit.ready;
      lender = rw moves.disk refl;
      outside = moves-outside g.H.Host m p moves;
    }

pub returns-clause-peek : goal.returns-clause-peek
returns-clause-peek g c = moves-peek g.H.Host c.args.self.now c.compact.new.self c.requires.fit.sound c.compact.ensures.moves

pub returns-clause-resting : goal.returns-clause-resting
returns-clause-resting g c = moves-rests g.H.Host c.args.self.now c.compact.new.self c.compact.ensures.moves
