use Rattle.std.proofs.Common.{◌≡◌, sym, ◌∙◌, arith}
use Rattle.image_text.proofs.CountLaws.{line_found, line_next}
use Rattle.image_text.proofs.judging.line_of.Goals as goal

pub returns-then-get : goal.returns-then-get
returns-then-get c =
    let same : c.name.result ≡ c.args.name = sym c.get.ensures.value ∙ c.if-get.true ∙ c.get-in-loop-i.ensures.value in
    let found = line_found c.args.tally.now.names c.loop-i.i c.name.result c.args.name c.name.ensures same in
    omega (arith, c.loop-i.invariant, found)

pub loop-i-preserved : goal.loop-i-preserved
loop-i-preserved c =
    let next = line_next c.args.tally.now.names c.loop-i.i c.name.result c.args.name c.name.ensures (λ same. c.if-get.false (c.get.ensures.value ∙ same ∙ sym c.get-in-loop-i.ensures.value)) in
    omega (arith, c.loop-i.invariant, next)
