use Rattle.std.proofs.Common.{None, Some, refl, sym, ◌∙◌}
use Rattle.image_text.specs.Lines.{head_read}
use Rattle.image_text.proofs.StatedLaws.{head_next, head_state, head_whole, is_head, no_head}
use Rattle.image_text.proofs.reading.judge_head.Goals as goal

pub returns-in_default-clause-bad : goal.returns-in_default-clause-bad
returns-in_default-clause-bad c = no_head c.args.line.now None c.in_default.ensures refl

pub returns-then-not-is_next-clause-bad : goal.returns-then-not-is_next-clause-bad
returns-then-not-is_next-clause-bad c =
    let h = c.in-Some.head in
    is_head c.args.line.now (Some h) h c.in-Some.ensures refl ∙ head_next (head_read h) (sym c.is_next.ensures ∙ c.if-not-is_next.true)

pub returns-then-not-keeps_state-clause-bad : goal.returns-then-not-keeps_state-clause-bad
returns-then-not-keeps_state-clause-bad c =
    let h = c.in-Some.head in
    is_head c.args.line.now (Some h) h c.in-Some.ensures refl ∙ head_state (head_read h) (sym c.is_next.ensures ∙ c.if-not-is_next.false) (sym c.keeps_state.ensures ∙ c.if-not-keeps_state.true)

pub returns-clause-read : goal.returns-clause-read
returns-clause-read c =
    let h = c.in-Some.head in
    is_head c.args.line.now (Some h) h c.in-Some.ensures refl ∙ head_whole (head_read h) (sym c.is_next.ensures ∙ c.if-not-is_next.false) (sym c.keeps_state.ensures ∙ c.if-not-keeps_state.false)
