use Rattle.std.proofs.Common.{sym, ◌∙◌, ap, subst, arith}
use Rattle.long_names.specs.Names.{NIL}
use Rattle.core_view.specs.Core.{Core, with_leaf}
use Rattle.core_view.specs.Steps.{IsSpare}
use Rattle.leaf_lambda.specs.Parts.{core_of}
use Rattle.core_view.specs.Counted.{IsSound}
use Rattle.core_view.specs.LevelSteps.{with_core}
use Rattle.loom_memory.proofs.NewLaws.{leaf-nil, leaf-readied, nil-named, readied-refl}
use Rattle.loom_memory.proofs.new_object.entry_of_nil.Goals as goal

pub returns-in-Some-clause-nil : goal.returns-in-Some-clause-nil
unfolding core_of
returns-in-Some-clause-nil c = (c.requires.parts.core.used NIL c.in-Some.s.0 (sym c.in-Some.ensures), c.requires.parts.core.named NIL c.in-Some.s.0 (sym c.in-Some.ensures))

pub returns-in-Some-clause-readied : goal.returns-in-Some-clause-readied
returns-in-Some-clause-readied c = readied-refl (core_of c.args.p.now)

pub returns-in-Some-clause-sound : goal.returns-in-Some-clause-sound
returns-in-Some-clause-sound c = λ t owed is x. subst (λ (k : Core). IsSound (with_core t k) owed) (sym is) x

pub new_leaf-requires-clause-absent : goal.new_leaf-requires-clause-absent
unfolding core_of
new_leaf-requires-clause-absent c = sym c.in-None.ensures

pub returns-in-None-clause-nil : goal.returns-in-None-clause-nil
returns-in-None-clause-nil c = nil-named (core_of c.args.p.now) (core_of c.new_leaf.new.p) c.new_leaf.result.0 c.new_leaf.ensures.leaf.1

pub returns-in-None-clause-readied : goal.returns-in-None-clause-readied
returns-in-None-clause-readied c = leaf-readied (core_of c.args.p.now) (core_of c.new_leaf.new.p) c.new_leaf.result.0 c.requires.parts.core c.new_leaf.ensures.parts.core c.new_leaf.ensures.step c.new_leaf.ensures.leaf.1

pub returns-in-None-clause-sound : goal.returns-in-None-clause-sound
returns-in-None-clause-sound c = λ t owed is x.
    let s = c.new_leaf.result.0 in
    leaf-nil t (core_of c.new_leaf.new.p) c.new_leaf.result.0 owed (subst (λ (k : Core). IsSpare k c.new_leaf.result.0 NIL) is c.new_leaf.ensures.leaf.0)
    (c.new_leaf.ensures.leaf.1 ∙ ap (λ (k : Core). with_leaf k c.new_leaf.result.0 NIL) is) x

pub returns-in-None-clause-spare : goal.returns-in-None-clause-spare
returns-in-None-clause-spare c = let less = c.new_leaf.ensures.spare in omega (arith, less)
