use Rattle.std.proofs.Common.{sym, ◌∙◌}
use Rattle.image_text.specs.Judged.{words_of}
use Rattle.image_text.proofs.CountLaws.{unheld_found, unheld_next}
use Rattle.image_text.proofs.judging.first_unheld.Goals as goal

pub returns-then-not-is_held : goal.returns-then-not-is_held
returns-then-not-is_held c = sym (c.loop-i.invariant ∙ unheld_found (words_of c.args.tally.now) c.args.tally.now.names c.loop-i.i c.name-name.result c.name-name.ensures (sym c.is_held.ensures ∙ c.if-not-is_held.true))

pub loop-i-preserved : goal.loop-i-preserved
loop-i-preserved c = c.loop-i.invariant ∙ unheld_next (words_of c.args.tally.now) c.args.tally.now.names c.loop-i.i c.name-name.result c.name-name.ensures (sym c.is_held.ensures ∙ c.if-not-is_held.false)
