use Rattle.st80_outside.specs.Right.{Assembles, Lists}
use Rattle.st80.proofs.converting.row_of.Goals as goal

pub returns-in_ok-list_row-in-ToText-clause-right : goal.returns-in_ok-list_row-in-ToText-clause-right
returns-in_ok-list_row-in-ToText-clause-right c = Lists _ c.in_ok-list_row-in-ToText.ensures

pub returns-in_ok-asm_row-in-ToImage-clause-right : goal.returns-in_ok-asm_row-in-ToImage-clause-right
returns-in_ok-asm_row-in-ToImage-clause-right c = Assembles _ c.in_ok-asm_row-in-ToImage.ensures
