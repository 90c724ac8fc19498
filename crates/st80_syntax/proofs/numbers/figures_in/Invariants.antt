use Rattle.std.proofs.Common.{◌≡◌, drop}
use Rattle.st80_syntax.specs.Numbers.{figures_behind}
use Rattle.st80_syntax.proofs.numbers.figures_in.Given as goal

abbrev pub invariant-each : goal.invariant-each
invariant-each l = figures_behind l.radix 0 l.figures ≡ figures_behind l.radix l.n (drop l.b-index l.figures)
