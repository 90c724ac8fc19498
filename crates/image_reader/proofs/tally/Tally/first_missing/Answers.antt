use Rattle.std.proofs.Common.{◌≡◌, ◌<◌, ℕ, List, true, get_or, length, is_some, sym, ap, ◌∙◌, arith}
use Rattle.std.proofs.lemmas.List.{get_or_default}
use Rattle.long_names.specs.Names.{known_names}
use Rattle.image_reader.specs.Tally.{counted}
use Rattle.image_reader.proofs.TallyLaws.{missing-next}
use Rattle.image_reader.proofs.tally.Tally.first_missing.Goals as goal

pub loop-i-preserved : goal.loop-i-preserved
loop-i-preserved c =
    let f = counted c.args.self.now in
    let i = c.loop-i.i in
    let low : i < length known_names = omega arith in
    let name : get_or known_names i 0 ≡ c.get.result = sym (c.get.ensures.value ∙ ap (λ (l : List ℕ). get_or l i c.index-known-i.result) c.known-known.ensures ∙ get_or_default known_names i c.index-known-i.result 0 low) in
    let there : is_some (f (get_or known_names i 0)) ≡ true = ap (λ (n : ℕ). is_some (f n)) name ∙ sym c.has.ensures ∙ c.if-not-has.false in
    c.loop-i.invariant ∙ missing-next f known_names i low there
