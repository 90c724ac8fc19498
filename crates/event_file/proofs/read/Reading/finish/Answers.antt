use Rattle.std.proofs.Common.{◌≡◌, length, subst, ap, ◌∙◌, arith}
use Rattle.std.proofs.lemmas.Bool.Decides.{nat_tests}
use Rattle.event_file.specs.Reading.{Begun, IsBegun}
use Rattle.event_file.proofs.ReadLaws.{bad-end, named}
use Rattle.event_file.proofs.read.Reading.finish.Goals as goal

pub returns-then-not-is_empty-clause-bad : goal.returns-then-not-is_empty-clause-bad
returns-then-not-is_empty-clause-bad c = λ line was.
    let b = c.args.self in
    let is : IsBegun b = subst IsBegun c.self.view_is c.self.invariant in
    named b c.bad.result line _ c.bad.ensures was (bad-end b is (λ none.
    let size : length c.self.inside.line.items ≡ 0 = ap (λ (x : Begun). length x.line) c.self.view_is ∙ ap length none in
    absurd (grind (arith, nat_tests, c.if-not-is_empty.ensures))))
