use Rattle.std.proofs.Common.{refl}
use Rattle.blue_model.specs.Machine.{pick}
use Rattle.blue_model.specs.Storage.{row}
use Rattle.blue_model.specs.BitBlt.{copy_bits, blit_primitives}
use Rattle.contexts.proofs.TableLaws.{row_serves, row_fails, none_serves}
use Rattle.bitblt.proofs.table.run.Goals as goal

pub returns-in-96-eq0-clause-serves : goal.returns-in-96-eq0-clause-serves
unfolding pick blit_primitives
returns-in-96-eq0-clause-serves g c = row_serves blit_primitives (row 96 0 copy_bits) _ 96 c.in-96-eq0.is-0 refl c.in-96-eq0.is-1 c.copy_bits.ensures.serves

pub returns-in_default-clause-serves : goal.returns-in_default-clause-serves
unfolding pick blit_primitives
returns-in_default-clause-serves g c = row_fails blit_primitives (row 96 0 copy_bits) _ 96 c.in_default.is-0 refl c.in_default.is-1.1 c.requires.fit.ready

pub returns-in_default-2-clause-serves : goal.returns-in_default-2-clause-serves
unfolding pick blit_primitives
returns-in_default-2-clause-serves g c = none_serves blit_primitives _ c.requires.fit.ready c.in_default.is-0
