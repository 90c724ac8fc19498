use Rattle.std.proofs.Common.{◌≡◌, ◌+◌, Bool, true, false, cond, option_map, refl, sym, ap, ◌∙◌}
use Rattle.image_reader.specs.Tally.{counted}
use Rattle.image_reader.proofs.TallyLaws.{long-more, long-there, number-long, plus-none}
use Rattle.image_reader.proofs.tally.Tally.count_long.Goals as goal

pub returns-then-is_number-clause-there : goal.returns-then-is_number-clause-there
returns-then-is_number-clause-there c = (λ yes q is. let clash : ◌≡◌ {A = Bool} false true = sym (number-long c.args.long c.if-is_number.true q) ∙ is in absurd (cc), λ all. refl)

pub returns-then-is_number-clause-more : goal.returns-then-is_number-clause-more
returns-then-is_number-clause-more c = record {
  more = λ q.
      plus-none (counted c.args.self.now q)
      ∙ ap (λ (b : Bool). option_map (λ n. n + cond b 1 0) (counted c.args.self.now q)) (sym (number-long c.args.long c.if-is_number.true q));
}

pub returns-clause-there : goal.returns-clause-there
returns-clause-there c = long-there c.args.long c.args.self.now c.raise.result c.if-is_number.false c.raise.ensures.there

pub returns-clause-more : goal.returns-clause-more
returns-clause-more c = long-more c.args.long c.args.self.now c.raise.new.self c.if-is_number.false c.raise.ensures.more
