use Rattle.contexts.proofs.Steps.{halt_serves}
use Rattle.bytecodes.proofs.VariableLaws.{kind_stored, kind_tops}
use Rattle.bytecodes.proofs.stacks.extended_store_of.Goals as goal

pub returns-in-Literal-clause-serves : goal.returns-in-Literal-clause-serves
returns-in-Literal-clause-serves g c = kind_stored _ (rw (← c.in-Literal.ensures) halt_serves)

pub returns-in_default : goal.returns-in_default
returns-in_default g c =
    let stored = c.store_top.ensures in
    record {
      serves = kind_stored _ (rw (← c.extended.ensures) (kind_tops _ _ c.in_default.not-Literal (rw c.from.ensures at stored.serves)));
      fit = stored.fit;
    }
