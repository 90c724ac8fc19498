use Rattle.std.proofs.Common.{arith}
use Rattle.std.proofs.lemmas.Grind.{common_steps}
use Rattle.object_memory.proofs.WordLaws.{count_by-more}
use Rattle.image_builder.proofs.counts.Counts.add_values.Goals as goal
use Rattle.image_builder.proofs.counts.Counts.add_values.Goals.{in-Ref+in_ok-add, in_default}

pub loop-i-preserved : goal.loop-i-preserved
loop-i-preserved c = λ q.
    let more = count_by-more q c.args.values.now c.loop-i.i c.item.result.now c.item.ensures in
    let so_far = c.loop-i.invariant q in
    elim c.match-item.branch [
      | in-Ref+in_ok-add w ↦ (let is = w.in-Ref.is in let added = w.in_ok-add.ensures q in let new = w.self-is in let this = rw is at more in rw new (grind (arith, common_steps)))
      | in_default w ↦ (let is = w.in_default.is in let new = w.self-is in let this = rw is at more in rw new (grind (arith, common_steps)))
    ]
