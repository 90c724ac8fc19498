-- What parse refuses, and what it reads otherwise than it is written or outside the bounds, is no number.
use Rattle.std.proofs.Common.{◌≢◌, ◌<◌, ◌≤◌, ◌^◌, arith, decimal}
use Rattle.loom_words.proofs.Numbers.{number-other, number-refused}
use Rattle.loom_words.proofs.words.number_in.Goals as goal
use Rattle.loom_words.proofs.words.number_in.Goals.{else-least-number-via-then-least-number+then-number-most+else-is_decimal, else-least-number-via-then-least-number+else-number-most, else-least-number-via-else-least-number}

pub returns-in_default-clause-none : goal.returns-in_default-clause-none
returns-in_default-clause-none c = λ none.
    let fits : c.args.most < 2 ^ 32 = omega arith
    in number-refused c.args.least c.args.most c.args.word.now c.in_default.field-0 c.parse.result fits c.parse.ensures.value.0 c.in_default.is

pub returns-else-least-number-clause-none : goal.returns-else-least-number-clause-none
returns-else-least-number-clause-none c = λ none.
    let fits : c.args.most < 2 ^ 32 = omega arith
    in let other = λ (differs : c.args.least ≤ c.in-Ok.number → c.in-Ok.number ≤ c.args.most → c.args.word.now ≢ decimal c.in-Ok.number).
    number-other c.args.least c.args.most c.args.word.now c.in-Ok.number c.parse.result fits c.parse.ensures.value.0 c.in-Ok.is differs
    in elim c.else-least-number.branch [
      | else-least-number-via-then-least-number+then-number-most+else-is_decimal w ↦
          other (λ low high same. let written = w.is_decimal.ensures.1 same in grind arith)
      | else-least-number-via-then-least-number+else-number-most w ↦ other (λ low high same. omega arith)
      | else-least-number-via-else-least-number w ↦ other (λ low high same. omega arith)
    ]
