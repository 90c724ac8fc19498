use Rattle.std.proofs.Common.{sym, subst}
use Rattle.leaf_lambda.specs.Parts.{core_of}
use Rattle.loom_memory.specs.Known.{IsNeedBeside}
use Rattle.loom_memory.specs.Memory.{loom_told}
use Rattle.loom_memory.proofs.AddLaws.{full-making, next-absent}
use Rattle.loom_memory.proofs.memory.LoomMemory.full_new.Goals as goal

pub returns-clause-err : goal.returns-clause-err
returns-clause-err g c =
    let m = c.args.self.now in
    full-making g.H.Host m (loom_told g.H.Host c.refuse.new.self) c.args.words c.need_beside-need.result c.refuse.result c.requires.fit.sound c.requires.fit.ready
    (λ told. (next-absent g.H.Host m.pager.levels.parts m.pager.levels.disk.host.now m.pager.levels.disk.rest m.ledger.next c.requires.fit.sound.exact told).0)
    (subst (λ n. IsNeedBeside (core_of m.pager.levels.parts) m.pager.pinned n c.args.words c.need_beside-need.result) (sym c.requires.next) c.need_beside-need.ensures)
    (c.requires.unfit c.need_beside-need.result c.need_beside-need.ensures) c.refuse.ensures.told c.refuse.ensures.result c.refuse.ensures.later

pub returns-clause-kept : goal.returns-clause-kept
returns-clause-kept g c = c.refuse.ensures.kept

pub returns-clause-spared : goal.returns-clause-spared
returns-clause-spared g c = c.refuse.ensures.spared
