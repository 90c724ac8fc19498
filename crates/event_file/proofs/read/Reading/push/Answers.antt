use Rattle.std.proofs.Common.{◌≡◌, ◌∙◌, length, subst, sym, ap, arith}
use Rattle.std.proofs.lemmas.Bool.Decides.{nat_tests}
use Rattle.event_file.specs.Reading.{IsBegun, Begun}
use Rattle.event_file.proofs.ReadLaws.{bad-full, bad-long, named}
use Rattle.event_file.proofs.read.Reading.push.Goals as goal
use Rattle.event_file.specs.declared.limits.TheConstants.{LONGEST}
use Rattle.event_file.proofs.read.Reading.push.Goals.{then-len-eq-MOST_LINES-via-then-len-eq-MOST_LINES, then-len-eq-MOST_LINES-via-else-len-eq-MOST_LINES+then-is_full}

pub returns-then-len-eq-MOST_LINES-clause-bad : goal.returns-then-len-eq-MOST_LINES-clause-bad
returns-then-len-eq-MOST_LINES-clause-bad c = λ line rest was.
    let b = c.args.self.now in
    let is : IsBegun b = subst IsBegun c.self.view_is c.self.invariant in
    named b c.bad.result line _ c.bad.ensures was (elim c.then-len-eq-MOST_LINES.branch [
      | then-len-eq-MOST_LINES-via-then-len-eq-MOST_LINES w ↦
          bad-full b c.args.byte rest is (ap (λ (x : Begun). length x.lines) (sym c.self.view_is) ∙ sym c.len.ensures.value ∙ w.if-len-eq-MOST_LINES.true)
      | then-len-eq-MOST_LINES-via-else-len-eq-MOST_LINES+then-is_full w ↦
          let full : length c.self.inside.line.items ≡ LONGEST = grind (arith, nat_tests, w.if-is_full.ensures.value) in
          bad-long b c.args.byte rest is (ap (λ (x : Begun). length x.line) (sym c.self.view_is) ∙ full) c.requires
    ])
