use Rattle.std.proofs.Common.{sym, ap, ◌∙◌}
use Rattle.image_builder.specs.Rules.{is_there}
use Rattle.image_builder.specs.Builder.{object_at}
use Rattle.image_builder.proofs.Firsts.{all-fails, all-more}
use Rattle.image_builder.proofs.builder.Builder.has_values.Goals as goal
use Rattle.image_builder.proofs.builder.Builder.has_values.Goals.{in-Ref+else-not-has, in_default}

pub returns-then-not-has : goal.returns-then-not-has
returns-then-not-has c =
    let there = is_there (object_at c.args.self.now) in
    sym (all-fails there c.args.values.now c.loop-i.i c.item.result.now c.item.ensures (ap there c.in-Ref.is ∙ sym c.has.ensures ∙ c.if-not-has.true))

pub loop-i-preserved : goal.loop-i-preserved
loop-i-preserved c =
    let there = is_there (object_at c.args.self.now) in
    elim c.match-item.branch [
      | in-Ref+else-not-has w ↦ all-more there c.args.values.now c.loop-i.i c.item.result.now c.item.ensures c.loop-i.invariant (ap there w.in-Ref.is ∙ sym w.has.ensures ∙ w.if-not-has.false)
      | in_default w ↦ all-more there c.args.values.now c.loop-i.i c.item.result.now c.item.ensures c.loop-i.invariant (ap there w.in_default.is)
    ]
