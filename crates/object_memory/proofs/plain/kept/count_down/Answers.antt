use Rattle.std.proofs.Common.{◌≡◌, Bool, true, false, sym, ◌∙◌}
use Rattle.object_memory.proofs.CountDownLaws.{down-dead, down-alive}
use Rattle.object_memory.proofs.plain.kept.count_down.Goals as goal
use Rattle.object_memory.proofs.plain.kept.count_down.Goals.{else-lower-eq0-via-then-lower-eq0+else-not-is_known, else-lower-eq0-via-else-lower-eq0}

pub returns-in_ok-push : goal.returns-in_ok-push
returns-in_ok-push c = down-dead c.args.counts.now c.lower.new.self c.args.name c.args.dead.now.items c.push.new.self.items c.lower.ensures.lower (sym c.lower.ensures.value ∙ c.if-lower-eq0.true, sym c.if-not-is_known.ensures) c.in_ok-push.ensures.items

pub returns-else-lower-eq0 : goal.returns-else-lower-eq0
returns-else-lower-eq0 c = down-alive c.args.counts.now c.lower.new.self c.args.name c.args.dead.now.items c.lower.ensures.lower (λ dead. elim c.else-lower-eq0.branch [
  | else-lower-eq0-via-then-lower-eq0+else-not-is_known w ↦ (let both : ◌≡◌ {A = Bool} true false = w.if-not-is_known.ensures ∙ dead.1 in absurd (cc))
  | else-lower-eq0-via-else-lower-eq0 w ↦ w.if-lower-eq0.false (c.lower.ensures.value ∙ dead.0)
])
