use Rattle.std.proofs.Common.{List, subst, sym}
use Rattle.st80_view.specs.Homes.{IsOwn}
use Rattle.st80_view.specs.declared.classes.MethodHome.{MethodHome}
use Rattle.st80_view.proofs.view.View.own_method.Goals as goal

pub returns-clause-none : goal.returns-clause-none
returns-clause-none c = λ none home own. c.own_of.ensures.none none home (subst (λ (homes : List MethodHome). IsOwn homes c.args.class c.args.selector home) (sym c.methods.ensures) own)
