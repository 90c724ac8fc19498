use Rattle.std.proofs.Common.{◌≡◌, ℕ, true, false, List, Option, rules, sym, ap, subst, ◌∙◌}
use Rattle.std.specs.Prelude.{IfOk}
use Rattle.long_names.specs.declared.value.Value.{Value}
use Rattle.text_lines.specs.Grammar.{code_of}
use Rattle.text_lines.specs.Inside.{code_in_front}
use Rattle.text_lines.specs.Parts.{parts_behind, is_code}
use Rattle.text_lines.proofs.EachLaws.{code_end, code_here, code_more, code_stop}
use Rattle.text_lines.proofs.contents.code_in.Goals as goal

pub returns-then-eq : goal.returns-then-eq
returns-then-eq c =
    let here : is_code c.in-Some.part.now ≡ true = search rules in
    let whole = sym (c.each.invariant ∙ code_here c.each.literals _ _ c.in-Some.part.now c.in-Some.ensures.some here) in
    subst (λ (o : Option (List Value × List ℕ)). IfOk c.code_behind.result (λ found. found ≡ o)) whole c.code_behind.ensures

pub each-preserved : goal.each-preserved
each-preserved c =
    let other : is_code c.in-Some.part.now ≡ false = search rules in
    c.each.invariant
    ∙ code_more c.each.literals c.in-Some-value_in.literal _ _ c.in-Some.part.now c.in-Some.ensures.some other (sym c.in-Some-value_in.ensures)
    ∙ ap (λ (xs : List Value). code_in_front xs (code_of (parts_behind c.next.new.self.tail.now))) (sym c.in_ok-push-in-Some-value_in.ensures.ok)

pub returns-in-None : goal.returns-in-None
returns-in-None c =
    let other : is_code c.in-Some.part.now ≡ false = search rules in
    sym (c.each.invariant ∙ code_stop c.each.literals _ _ c.in-Some.part.now c.in-Some.ensures.some other (sym c.in-None.ensures))

pub returns : goal.returns
returns c = sym (c.each.invariant ∙ code_end c.each.literals _ c.in_default.ensures.none)
