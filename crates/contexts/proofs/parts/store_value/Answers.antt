use Rattle.std.proofs.Common.{[], refl, sym, subst}
use Rattle.long_names.specs.Access.{SetField}
use Rattle.object_memory.specs.Contract.{MayDo}
use Rattle.object_memory.proofs.Callers.{may_store, may_store_literal}
use Rattle.object_memory.proofs.LooksLaws.{Looks-read, Looks-trans}
use Rattle.object_memory.proofs.ShapeLaws.{has_passed}
use Rattle.contexts.proofs.ServesLaws.{exits}
use Rattle.contexts.proofs.Steps.{stuck_last}
use Rattle.contexts.proofs.ReadLaws.{quiet}
use Rattle.contexts.proofs.PartLaws.{value_none}
use Rattle.contexts.proofs.StoreLaws.{IsStorable, store_serves, store_refused, store_later, store_unread, store_stuck}
use Rattle.contexts.proofs.parts.store_value.Goals as goal
use Rattle.contexts.proofs.parts.store_value.Goals.{After-set_field, else-not-branch-via-then-not-branch+in_ok-has_literal+else-not-branch-2, else-not-branch-via-else-not-branch}
use Rattle.contexts.proofs.parts.store_value.Given.{Over}

pub returns-in_err-has_field-clause-serves : goal.returns-in_err-has_field-clause-serves
returns-in_err-has_field-clause-serves g c = λ cpu. exits _ c.from_residual.ensures.1 (store_unread c.args.of c.args.i c.args.from c.requires.fit.ready c.in_err-has_field.ensures.read)

pub returns-in_err-has_literal-clause-serves : goal.returns-in_err-has_literal-clause-serves
returns-in_err-has_literal-clause-serves g c = λ cpu.
    let field = c.in_ok-has_field.ensures in
    exits _ c.from_residual-in_err-has_literal.ensures.1 (store_later c.args.of c.args.i c.args.from c.requires.fit.ready field.fit.ready (Looks-read _ _ c.args.of field.read)
    (store_unread c.args.of c.args.i c.args.from field.fit.ready c.in_err-has_literal.ensures.read))

pub returns-then-not-branch-2-clause-serves : goal.returns-then-not-branch-2-clause-serves
returns-then-not-branch-2-clause-serves g c = λ cpu.
    let field = c.in_ok-has_field.ensures in
    let literal = c.in_ok-has_literal.ensures in
    store_later c.args.of c.args.i c.args.from c.requires.fit.ready field.fit.ready (Looks-read _ _ c.args.of field.read)
    (stuck_last (store_stuck c.args.of c.args.i c.args.from field.fit.ready (value_none c.args.i field.field.after c.if-not-branch.true literal.literal.before c.if-not-branch-2.true))
    (quiet [] _ _ refl field.fit.ready literal.fit.ready (Looks-read _ _ c.args.of literal.read)))

-- one of the tests was passed
storable : (g : Over) (c : After-set_field g) → IsStorable (g.M.ObjectMemory.told c.args.m.now) (g.M.ObjectMemory.told c.else-not-branch.m) c.args.of c.args.i c.args.from
storable g c =
    let t = g.M.ObjectMemory.told c.args.m.now in
    let field = c.in_ok-has_field.ensures in
    let first = Looks-read t _ c.args.of field.read in
    elim c.else-not-branch.branch [
      | else-not-branch-via-then-not-branch+in_ok-has_literal+else-not-branch-2 w ↦
          let literal = w.in_ok-has_literal.ensures in
          subst (λ m. IsStorable t (g.M.ObjectMemory.told m) c.args.of c.args.i c.args.from) (sym w.m-is) record {
            ready = literal.fit.ready;
            looks = Looks-trans [] [] t _ _ field.fit.ready first (Looks-read _ _ c.args.of literal.read);
            may = may_store_literal _ c.args.of c.args.i c.args.from (has_passed literal.literal.after w.if-not-branch-2.false);
          }
      | else-not-branch-via-else-not-branch w ↦
          subst (λ m. IsStorable t (g.M.ObjectMemory.told m) c.args.of c.args.i c.args.from) (sym w.m-is) record {
            ready = field.fit.ready;
            looks = first;
            may = may_store _ c.args.of c.args.i c.args.from (has_passed field.field.after w.if-not-branch.false);
          }
    ]

pub set_field-requires-clause-may : goal.set_field-requires-clause-may
set_field-requires-clause-may g c =
    elim c.else-not-branch.branch [
      | else-not-branch-via-then-not-branch+in_ok-has_literal+else-not-branch-2 w ↦ subst (λ m. MayDo (g.M.ObjectMemory.told m) (SetField c.args.of c.args.i c.args.from)) (sym w.m-is) (may_store_literal _ c.args.of c.args.i c.args.from (has_passed w.in_ok-has_literal.ensures.literal.after w.if-not-branch-2.false))
      | else-not-branch-via-else-not-branch w ↦ subst (λ m. MayDo (g.M.ObjectMemory.told m) (SetField c.args.of c.args.i c.args.from)) (sym w.m-is) (may_store _ c.args.of c.args.i c.args.from (has_passed c.in_ok-has_field.ensures.field.after w.if-not-branch.false))
    ]

pub returns-in_err-set_field-clause-serves : goal.returns-in_err-set_field-clause-serves
returns-in_err-set_field-clause-serves g c = λ cpu.
    let can = storable g (goal.at.returns-in_err-set_field-clause-serves g c).After-set_field in
    exits _ c.from_residual-in_err-set_field.ensures.1 (store_later c.args.of c.args.i c.args.from c.requires.fit.ready can.ready can.looks
    (store_refused c.args.of c.args.i c.args.from can.ready can.may.names c.in_err-set_field.ensures.access.called))

pub returns-clause-serves : goal.returns-clause-serves
returns-clause-serves g c = λ cpu.
    let can = storable g (goal.at.returns-clause-serves g c).After-set_field in
    store_later c.args.of c.args.i c.args.from c.requires.fit.ready can.ready can.looks
    (store_serves c.args.of c.args.i c.args.from can.ready c.in_ok-set_field.ensures.fit.ready can.may c.in_ok-set_field.ensures.access.called)
