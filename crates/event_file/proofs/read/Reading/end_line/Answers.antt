use Rattle.std.proofs.Common.{◌++◌, [], ◌∷◌, ◌∙◌, subst, sym, ap, arith, refl}
use Rattle.std.proofs.lemmas.Bool.Decides.{nat_tests}
use Rattle.event_file.specs.Text.{AreRight}
use Rattle.event_file.specs.Reading.{Begun, IsBegun}
use Rattle.event_file.proofs.ReadLaws.{bad-none, bad-next, named}
use Rattle.event_file.proofs.read.Reading.end_line.Goals as goal

pub returns-in_default-clause-bad : goal.returns-in_default-clause-bad
returns-in_default-clause-bad c = λ line rest was.
    let b = c.args.self.now in
    let is : IsBegun b = subst IsBegun c.self.view_is c.self.invariant in
    named b c.bad.result line _ c.bad.ensures was (bad-none b rest is (λ l is_line same.
    c.in_default.ensures.none refl l is_line (c.as_slice.ensures.value ∙ ap (λ (x : Begun). x.line) c.self.view_is ∙ same)))

pub returns-then-not-comes_next-clause-bad : goal.returns-then-not-comes_next-clause-bad
returns-then-not-comes_next-clause-bad c = λ line rest was.
    let b = c.args.self.now in
    let is : IsBegun b = subst IsBegun c.self.view_is c.self.invariant in
    let found = c.in-Some.ensures.some in
    named b c.bad-then-not-comes_next.result line _ c.bad-then-not-comes_next.ensures was (bad-next b c.in-Some.line rest is found.0
    (ap (λ (x : Begun). x.line) (sym c.self.view_is) ∙ sym c.as_slice.ensures.value ∙ found.1)
    (λ right.
    let never = c.if-not-comes_next.ensures.1 (subst (λ (x : Begun). AreRight (x.lines ++ c.in-Some.line ∷ [])) (sym c.self.view_is) right) in
    absurd (grind (arith, nat_tests))))
