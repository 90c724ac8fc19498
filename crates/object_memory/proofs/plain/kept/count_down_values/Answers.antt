use Rattle.std.proofs.Common.{arith}
use Rattle.object_memory.proofs.CountDownLaws.{down-name, down-number, down-all, counted-yet}
use Rattle.object_memory.proofs.plain.kept.count_down_values.Goals as goal
use Rattle.object_memory.proofs.plain.kept.count_down_values.Goals.{in-Ref+in_ok-count_down, in_default}

pub count_down-requires : goal.count_down-requires
count_down-requires c = counted-yet c.args.counts.now c.loop-i.counts c.args.dead.now.items c.loop-i.dead.items c.args.values.now c.loop-i.i c.in-Ref.name c.item.result.now (c.requires c.in-Ref.name) c.item.ensures c.in-Ref.is c.loop-i.invariant

pub loop-i-preserved : goal.loop-i-preserved
loop-i-preserved c =
    elim c.match-item.branch [
      | in-Ref+in_ok-count_down w ↦ rw (w.counts-is, w.dead-is) (down-name c.args.counts.now c.loop-i.counts w.count_down.new.counts c.args.dead.now.items c.loop-i.dead.items w.count_down.new.dead.items c.args.values.now c.loop-i.i w.in-Ref.name c.item.result.now c.item.ensures w.in-Ref.is c.loop-i.invariant w.in_ok-count_down.ensures)
      | in_default w ↦ rw (w.counts-is, w.dead-is) (down-number c.args.counts.now c.loop-i.counts c.args.dead.now.items c.loop-i.dead.items c.args.values.now c.loop-i.i _ c.item.result.now c.item.ensures w.in_default.is c.loop-i.invariant)
    ]

pub returns : goal.returns
returns c = down-all c.args.counts.now c.loop-i.counts c.args.dead.now.items c.loop-i.dead.items c.args.values.now c.loop-i.i (omega arith) (omega arith) c.loop-i.invariant
