use Rattle.std.proofs.Common.{◌≡◌, ℕ, ◌-◌, List, length, take, drop, ap, subst, sym, ◌∙◌, arith, length-drop}
use Rattle.std.proofs.Math.Seq.{take-length}
use Rattle.st80_syntax.specs.declared.token.Token.{Token}
use Rattle.st80_syntax.specs.Pieces.{piece}
use Rattle.st80_syntax.specs.Tokens.{Behind, Covers, Front}
use Rattle.st80_syntax.proofs.scanner.scan.Goals as goal

-- what is left of a text, as a slice up to its end
all_left : (text : List ℕ) (at : ℕ) → take (length text - at) (drop at text) ≡ drop at text
all_left text at = ap (λ (n : ℕ). take n (drop at text)) (sym (length-drop at text)) ∙ take-length (drop at text)

pub each-init : goal.each-init
each-init c = (subst (λ (tokens : List Token). Covers c.args.text.now tokens 0) (sym c.new-tokens.ensures.items) Front, omega arith)

pub each-preserved : goal.each-preserved
each-preserved c = (
  Behind _ _ (record { kind = c.in-Ok.piece.0; at = c.each.at; len = c.in-Ok.piece.1 }) c.each.invariant.0
      (ap piece (sym (all_left c.args.text.now c.each.at)) ∙ sym c.in-Ok.ensures.is) c.in_ok-add.ensures,
  omega (arith, c.in-Ok.ensures.within.1, ap length (all_left c.args.text.now c.each.at), length-drop c.each.at c.args.text.now),
)
