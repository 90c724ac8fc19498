use Rattle.std.proofs.Common.{refl}
use Rattle.blue_model.specs.Machine.{pick}
use Rattle.blue_model.specs.Storage.{row}
use Rattle.blue_model.specs.Control.{control_primitives, control_primitive, flush_cache, quit}
use Rattle.blue_model.specs.Control as model
use Rattle.contexts.proofs.Steps.{done_serves}
use Rattle.prims_control.proofs.TableLaws.{any_serves, row_serves, row_fails, none_serves}
use Rattle.prims_control.proofs.table.run.Goals as goal

pub returns-in-80-eq1-clause-serves : goal.returns-in-80-eq1-clause-serves
unfolding pick control_primitive control_primitives
returns-in-80-eq1-clause-serves g c = row_serves (row 80 1 model.block_copy) _ 80 c.in-80-eq1.is-0 refl c.in-80-eq1.is-1 c.block_copy.ensures.serves

pub returns-in-82-eq1-clause-serves : goal.returns-in-82-eq1-clause-serves
unfolding pick control_primitive control_primitives
returns-in-82-eq1-clause-serves g c = row_serves (row 82 1 model.value_with_arguments) _ 82 c.in-82-eq1.is-0 refl c.in-82-eq1.is-1 c.value_with_arguments.ensures.serves

pub returns-in-84-eq2-clause-serves : goal.returns-in-84-eq2-clause-serves
unfolding pick control_primitive control_primitives
returns-in-84-eq2-clause-serves g c = row_serves (row 84 2 model.perform_with_arguments) _ 84 c.in-84-eq2.is-0 refl c.in-84-eq2.is-1 c.perform_with_arguments.ensures.serves

pub returns-in-89-eq0-clause-serves : goal.returns-in-89-eq0-clause-serves
unfolding pick control_primitive control_primitives flush_cache
returns-in-89-eq0-clause-serves g c = row_serves (row 89 0 model.flush_cache) _ 89 c.in-89-eq0.is-0 refl c.in-89-eq0.is-1 (done_serves c.requires.fit.ready)

pub returns-in-113-eq0-clause-serves : goal.returns-in-113-eq0-clause-serves
unfolding pick control_primitive control_primitives quit
returns-in-113-eq0-clause-serves g c = row_serves (row 113 0 model.quit) _ 113 c.in-113-eq0.is-0 refl c.in-113-eq0.is-1 (done_serves c.requires.fit.ready)

pub returns-in-81-default-clause-serves : goal.returns-in-81-default-clause-serves
unfolding pick control_primitive control_primitives
returns-in-81-default-clause-serves g c = any_serves model.value _ 81 c.in-81-default.is-0 refl c.value.ensures.serves

pub returns-in-83-default-clause-serves : goal.returns-in-83-default-clause-serves
unfolding pick control_primitive control_primitives
returns-in-83-default-clause-serves g c = any_serves model.perform _ 83 c.in-83-default.is-0 refl c.perform.ensures.serves

pub returns-in_default-clause-serves : goal.returns-in_default-clause-serves
unfolding pick control_primitive control_primitives
returns-in_default-clause-serves g c = row_fails (row 80 1 model.block_copy) _ 80 c.in_default.is-0 refl c.in_default.is-1.1 c.requires.fit.ready

pub returns-in_default-2-clause-serves : goal.returns-in_default-2-clause-serves
unfolding pick control_primitive control_primitives
returns-in_default-2-clause-serves g c = row_fails (row 82 1 model.value_with_arguments) _ 82 c.in_default.is-0 refl c.in_default.is-1.1 c.requires.fit.ready

pub returns-in_default-3-clause-serves : goal.returns-in_default-3-clause-serves
unfolding pick control_primitive control_primitives
returns-in_default-3-clause-serves g c = row_fails (row 84 2 model.perform_with_arguments) _ 84 c.in_default.is-0 refl c.in_default.is-1.1 c.requires.fit.ready

pub returns-in_default-4-clause-serves : goal.returns-in_default-4-clause-serves
unfolding pick control_primitive control_primitives
returns-in_default-4-clause-serves g c = row_fails (row 89 0 model.flush_cache) _ 89 c.in_default.is-0 refl c.in_default.is-1.1 c.requires.fit.ready

pub returns-in_default-5-clause-serves : goal.returns-in_default-5-clause-serves
unfolding pick control_primitive control_primitives
returns-in_default-5-clause-serves g c = row_fails (row 113 0 model.quit) _ 113 c.in_default.is-0 refl c.in_default.is-1.1 c.requires.fit.ready

pub returns-in_default-6-clause-serves : goal.returns-in_default-6-clause-serves
returns-in_default-6-clause-serves g c = let no = c.in_default.is-0 in none_serves _ c.requires.fit.ready no.0.0.0.0.0.0.1 no.0.0.0.0.0.1 no.0.0.0.0.1 no.0.0.0.1 no.0.0.1 no.0.1 no.1
