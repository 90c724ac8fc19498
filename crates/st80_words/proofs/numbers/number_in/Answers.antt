-- A word that `parse` refuses is no number, and neither is one that isn't the decimal of what it reads or is beyond the limits.
use Rattle.std.proofs.Common.{rules, ◌≡◌, ◌↔◌, ◌≤◌, IfSome, IsNone, IsTrue, decimal, false, ℕ, ◌+◌, ◌-◌, ◌*◌, ◌<◌, length, ◌/◌, ◌%◌, Bool, true, nat_eq, nat_lt, List, [], ◌∷◌, ◌++◌}
use Rattle.loom_words.specs.Words.{is_number}
use Rattle.loom_words.proofs.Numbers.{number_rules}
use Rattle.st80_words.proofs.numbers.number_in.Goals as goal

pub returns-in_default-clause-none : goal.returns-in_default-clause-none
returns-in_default-clause-none c = search (rules, number_rules)

pub returns-else-least-number-clause-none : goal.returns-else-least-number-clause-none
returns-else-least-number-clause-none c = search (rules, number_rules)
