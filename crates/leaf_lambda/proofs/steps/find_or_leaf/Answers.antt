use Rattle.std.proofs.Common.{sym, arith}
use Rattle.leaf_lambda.specs.Parts.{core_of}
use Rattle.leaf_lambda.proofs.StepLaws.{same-only, only-leaf}
use Rattle.leaf_lambda.proofs.steps.find_or_leaf.Goals as goal

pub leaf-requires-clause-absent : goal.leaf-requires-clause-absent
unfolding core_of
leaf-requires-clause-absent c = sym c.in-None.ensures

pub returns-in-Some-clause-found : goal.returns-in-Some-clause-found
unfolding core_of
returns-in-Some-clause-found c = (c.requires.parts.core.used c.args.name c.in-Some.s.0 (sym c.in-Some.ensures), c.requires.parts.core.named c.args.name c.in-Some.s.0 (sym c.in-Some.ensures))

pub returns-else-free-spare-clause-none : goal.returns-else-free-spare-clause-none
unfolding core_of
returns-else-free-spare-clause-none c = (sym c.in-None.ensures, omega (arith, c.free.ensures))

pub returns-in-Some-clause-only : goal.returns-in-Some-clause-only
returns-in-Some-clause-only c = same-only (core_of c.args.p.now) c.in-Some.s.0

pub returns-then-free-spare-clause-only : goal.returns-then-free-spare-clause-only
returns-then-free-spare-clause-only c = only-leaf (core_of c.args.p.now) (core_of c.leaf.new.p) c.args.name c.leaf.result c.leaf.ensures.leaf
