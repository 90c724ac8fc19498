use Rattle.std.proofs.Common.{ℕ, Bool, Option, Some, None, cond, ap, ◌∙◌}
use Rattle.image_builder.specs.Rules.{held_breaks}
use Rattle.image_builder.specs.Builder.{object_at}
use Rattle.image_builder.proofs.Firsts.{goes-on, ends-at}
use Rattle.image_builder.proofs.builder.Builder.judge_held.Goals as goal

pub returns-then-not-has_held : goal.returns-then-not-has_held
returns-then-not-has_held c =
    rw c.get.ensures.value
    (ends-at (held_breaks (object_at c.args.self.now)) c.args.self.now.objects.entries c.loop-name.name-iterator c.next.new.self (c.in-Some.name.now, c.in-Some.object.now) 10 c.loop-name.invariant c.in-Some.ensures.steps
    (c.has_held.ensures c.in-Some.name.now ∙ ap (λ (b : Bool). let o : Option ℕ = cond b None (Some 10) in o) c.if-not-has_held.true))

pub loop-name-preserved : goal.loop-name-preserved
loop-name-preserved c =
    goes-on (held_breaks (object_at c.args.self.now)) c.args.self.now.objects.entries c.loop-name.name-iterator c.next.new.self (c.in-Some.name.now, c.in-Some.object.now) c.loop-name.invariant c.in-Some.ensures.steps
    (c.has_held.ensures c.in-Some.name.now ∙ ap (λ (b : Bool). let o : Option ℕ = cond b None (Some 10) in o) c.if-not-has_held.false)
