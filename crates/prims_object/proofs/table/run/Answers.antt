use Rattle.std.proofs.Common.{refl}
use Rattle.blue_model.specs.Machine.{pick}
use Rattle.blue_model.specs.Storage.{object_primitives, row}
use Rattle.blue_model.specs.Storage as model
use Rattle.contexts.proofs.TableLaws.{row_serves, row_fails, none_serves}
use Rattle.prims_object.proofs.table.run.Goals as goal

pub returns-in-60-eq1-clause-serves : goal.returns-in-60-eq1-clause-serves
unfolding pick object_primitives
returns-in-60-eq1-clause-serves g c = row_serves object_primitives (row 60 1 model.at) _ 60 c.in-60-eq1.is-0 refl c.in-60-eq1.is-1 c.at.ensures.serves

pub returns-in-61-eq2-clause-serves : goal.returns-in-61-eq2-clause-serves
unfolding pick object_primitives
returns-in-61-eq2-clause-serves g c = row_serves object_primitives (row 61 2 model.at_put) _ 61 c.in-61-eq2.is-0 refl c.in-61-eq2.is-1 c.at_put.ensures.serves

pub returns-in-62-eq0-clause-serves : goal.returns-in-62-eq0-clause-serves
unfolding pick object_primitives
returns-in-62-eq0-clause-serves g c = row_serves object_primitives (row 62 0 model.size_of) _ 62 c.in-62-eq0.is-0 refl c.in-62-eq0.is-1 c.size.ensures.serves

pub returns-in-63-eq1-clause-serves : goal.returns-in-63-eq1-clause-serves
unfolding pick object_primitives
returns-in-63-eq1-clause-serves g c = row_serves object_primitives (row 63 1 model.string_at) _ 63 c.in-63-eq1.is-0 refl c.in-63-eq1.is-1 c.string_at.ensures.serves

pub returns-in-64-eq2-clause-serves : goal.returns-in-64-eq2-clause-serves
unfolding pick object_primitives
returns-in-64-eq2-clause-serves g c = row_serves object_primitives (row 64 2 model.string_at_put) _ 64 c.in-64-eq2.is-0 refl c.in-64-eq2.is-1 c.string_at_put.ensures.serves

pub returns-in-65-eq0-clause-serves : goal.returns-in-65-eq0-clause-serves
unfolding pick object_primitives
returns-in-65-eq0-clause-serves g c = row_serves object_primitives (row 65 0 model.next) _ 65 c.in-65-eq0.is-0 refl c.in-65-eq0.is-1 c.next.ensures.serves

pub returns-in-66-eq1-clause-serves : goal.returns-in-66-eq1-clause-serves
unfolding pick object_primitives
returns-in-66-eq1-clause-serves g c = row_serves object_primitives (row 66 1 model.next_put) _ 66 c.in-66-eq1.is-0 refl c.in-66-eq1.is-1 c.next_put.ensures.serves

pub returns-in-67-eq0-clause-serves : goal.returns-in-67-eq0-clause-serves
unfolding pick object_primitives
returns-in-67-eq0-clause-serves g c = row_serves object_primitives (row 67 0 model.at_end) _ 67 c.in-67-eq0.is-0 refl c.in-67-eq0.is-1 c.at_end.ensures.serves

pub returns-in-68-eq1-clause-serves : goal.returns-in-68-eq1-clause-serves
unfolding pick object_primitives
returns-in-68-eq1-clause-serves g c = row_serves object_primitives (row 68 1 model.object_at_index) _ 68 c.in-68-eq1.is-0 refl c.in-68-eq1.is-1 c.object_at.ensures.serves

pub returns-in-69-eq2-clause-serves : goal.returns-in-69-eq2-clause-serves
unfolding pick object_primitives
returns-in-69-eq2-clause-serves g c = row_serves object_primitives (row 69 2 model.object_at_put) _ 69 c.in-69-eq2.is-0 refl c.in-69-eq2.is-1 c.object_at_put.ensures.serves

pub returns-in-70-eq0-clause-serves : goal.returns-in-70-eq0-clause-serves
unfolding pick object_primitives
returns-in-70-eq0-clause-serves g c = row_serves object_primitives (row 70 0 model.new) _ 70 c.in-70-eq0.is-0 refl c.in-70-eq0.is-1 c.new.ensures.serves

pub returns-in-71-eq1-clause-serves : goal.returns-in-71-eq1-clause-serves
unfolding pick object_primitives
returns-in-71-eq1-clause-serves g c = row_serves object_primitives (row 71 1 model.new_with_size) _ 71 c.in-71-eq1.is-0 refl c.in-71-eq1.is-1 c.new_with_size.ensures.serves

pub returns-in-72-eq1-clause-serves : goal.returns-in-72-eq1-clause-serves
unfolding pick object_primitives
returns-in-72-eq1-clause-serves g c = row_serves object_primitives (row 72 1 model.become) _ 72 c.in-72-eq1.is-0 refl c.in-72-eq1.is-1 c.change_places.ensures.serves

pub returns-in-73-eq1-clause-serves : goal.returns-in-73-eq1-clause-serves
unfolding pick object_primitives
returns-in-73-eq1-clause-serves g c = row_serves object_primitives (row 73 1 model.instance_variable_at) _ 73 c.in-73-eq1.is-0 refl c.in-73-eq1.is-1 c.instance_variable_at.ensures.serves

pub returns-in-74-eq2-clause-serves : goal.returns-in-74-eq2-clause-serves
unfolding pick object_primitives
returns-in-74-eq2-clause-serves g c = row_serves object_primitives (row 74 2 model.instance_variable_at_put) _ 74 c.in-74-eq2.is-0 refl c.in-74-eq2.is-1 c.instance_variable_at_put.ensures.serves

pub returns-in-75-eq0-clause-serves : goal.returns-in-75-eq0-clause-serves
unfolding pick object_primitives
returns-in-75-eq0-clause-serves g c = row_serves object_primitives (row 75 0 model.hash) _ 75 c.in-75-eq0.is-0 refl c.in-75-eq0.is-1 c.hash.ensures.serves

pub returns-in-79-eq2-clause-serves : goal.returns-in-79-eq2-clause-serves
unfolding pick object_primitives
returns-in-79-eq2-clause-serves g c = row_serves object_primitives (row 79 2 model.new_method) _ 79 c.in-79-eq2.is-0 refl c.in-79-eq2.is-1 c.new_method.ensures.serves

pub returns-in-110-eq1-clause-serves : goal.returns-in-110-eq1-clause-serves
unfolding pick object_primitives
returns-in-110-eq1-clause-serves g c = row_serves object_primitives (row 110 1 model.equivalent) _ 110 c.in-110-eq1.is-0 refl c.in-110-eq1.is-1 c.equivalent.ensures.serves

pub returns-in-111-eq0-clause-serves : goal.returns-in-111-eq0-clause-serves
unfolding pick object_primitives
returns-in-111-eq0-clause-serves g c = row_serves object_primitives (row 111 0 model.class) _ 111 c.in-111-eq0.is-0 refl c.in-111-eq0.is-1 c.class.ensures.serves

pub returns-in_default-clause-serves : goal.returns-in_default-clause-serves
unfolding pick object_primitives
returns-in_default-clause-serves g c = row_fails object_primitives (row 60 1 model.at) _ 60 c.in_default.is-0 refl c.in_default.is-1.1 c.requires.fit.ready

pub returns-in_default-2-clause-serves : goal.returns-in_default-2-clause-serves
unfolding pick object_primitives
returns-in_default-2-clause-serves g c = row_fails object_primitives (row 61 2 model.at_put) _ 61 c.in_default.is-0 refl c.in_default.is-1.1 c.requires.fit.ready

pub returns-in_default-3-clause-serves : goal.returns-in_default-3-clause-serves
unfolding pick object_primitives
returns-in_default-3-clause-serves g c = row_fails object_primitives (row 62 0 model.size_of) _ 62 c.in_default.is-0 refl c.in_default.is-1.1 c.requires.fit.ready

pub returns-in_default-4-clause-serves : goal.returns-in_default-4-clause-serves
unfolding pick object_primitives
returns-in_default-4-clause-serves g c = row_fails object_primitives (row 63 1 model.string_at) _ 63 c.in_default.is-0 refl c.in_default.is-1.1 c.requires.fit.ready

pub returns-in_default-5-clause-serves : goal.returns-in_default-5-clause-serves
unfolding pick object_primitives
returns-in_default-5-clause-serves g c = row_fails object_primitives (row 64 2 model.string_at_put) _ 64 c.in_default.is-0 refl c.in_default.is-1.1 c.requires.fit.ready

pub returns-in_default-6-clause-serves : goal.returns-in_default-6-clause-serves
unfolding pick object_primitives
returns-in_default-6-clause-serves g c = row_fails object_primitives (row 65 0 model.next) _ 65 c.in_default.is-0 refl c.in_default.is-1.1 c.requires.fit.ready

pub returns-in_default-7-clause-serves : goal.returns-in_default-7-clause-serves
unfolding pick object_primitives
returns-in_default-7-clause-serves g c = row_fails object_primitives (row 66 1 model.next_put) _ 66 c.in_default.is-0 refl c.in_default.is-1.1 c.requires.fit.ready

pub returns-in_default-8-clause-serves : goal.returns-in_default-8-clause-serves
unfolding pick object_primitives
returns-in_default-8-clause-serves g c = row_fails object_primitives (row 67 0 model.at_end) _ 67 c.in_default.is-0 refl c.in_default.is-1.1 c.requires.fit.ready

pub returns-in_default-9-clause-serves : goal.returns-in_default-9-clause-serves
unfolding pick object_primitives
returns-in_default-9-clause-serves g c = row_fails object_primitives (row 68 1 model.object_at_index) _ 68 c.in_default.is-0 refl c.in_default.is-1.1 c.requires.fit.ready

pub returns-in_default-10-clause-serves : goal.returns-in_default-10-clause-serves
unfolding pick object_primitives
returns-in_default-10-clause-serves g c = row_fails object_primitives (row 69 2 model.object_at_put) _ 69 c.in_default.is-0 refl c.in_default.is-1.1 c.requires.fit.ready

pub returns-in_default-11-clause-serves : goal.returns-in_default-11-clause-serves
unfolding pick object_primitives
returns-in_default-11-clause-serves g c = row_fails object_primitives (row 70 0 model.new) _ 70 c.in_default.is-0 refl c.in_default.is-1.1 c.requires.fit.ready

pub returns-in_default-12-clause-serves : goal.returns-in_default-12-clause-serves
unfolding pick object_primitives
returns-in_default-12-clause-serves g c = row_fails object_primitives (row 71 1 model.new_with_size) _ 71 c.in_default.is-0 refl c.in_default.is-1.1 c.requires.fit.ready

pub returns-in_default-13-clause-serves : goal.returns-in_default-13-clause-serves
unfolding pick object_primitives
returns-in_default-13-clause-serves g c = row_fails object_primitives (row 72 1 model.become) _ 72 c.in_default.is-0 refl c.in_default.is-1.1 c.requires.fit.ready

pub returns-in_default-14-clause-serves : goal.returns-in_default-14-clause-serves
unfolding pick object_primitives
returns-in_default-14-clause-serves g c = row_fails object_primitives (row 73 1 model.instance_variable_at) _ 73 c.in_default.is-0 refl c.in_default.is-1.1 c.requires.fit.ready

pub returns-in_default-15-clause-serves : goal.returns-in_default-15-clause-serves
unfolding pick object_primitives
returns-in_default-15-clause-serves g c = row_fails object_primitives (row 74 2 model.instance_variable_at_put) _ 74 c.in_default.is-0 refl c.in_default.is-1.1 c.requires.fit.ready

pub returns-in_default-16-clause-serves : goal.returns-in_default-16-clause-serves
unfolding pick object_primitives
returns-in_default-16-clause-serves g c = row_fails object_primitives (row 75 0 model.hash) _ 75 c.in_default.is-0 refl c.in_default.is-1.1 c.requires.fit.ready

pub returns-in_default-17-clause-serves : goal.returns-in_default-17-clause-serves
unfolding pick object_primitives
returns-in_default-17-clause-serves g c = row_fails object_primitives (row 79 2 model.new_method) _ 79 c.in_default.is-0 refl c.in_default.is-1.1 c.requires.fit.ready

pub returns-in_default-18-clause-serves : goal.returns-in_default-18-clause-serves
unfolding pick object_primitives
returns-in_default-18-clause-serves g c = row_fails object_primitives (row 110 1 model.equivalent) _ 110 c.in_default.is-0 refl c.in_default.is-1.1 c.requires.fit.ready

pub returns-in_default-19-clause-serves : goal.returns-in_default-19-clause-serves
unfolding pick object_primitives
returns-in_default-19-clause-serves g c = row_fails object_primitives (row 111 0 model.class) _ 111 c.in_default.is-0 refl c.in_default.is-1.1 c.requires.fit.ready

pub returns-in_default-20-clause-serves : goal.returns-in_default-20-clause-serves
unfolding object_primitives
returns-in_default-20-clause-serves g c = none_serves object_primitives _ c.requires.fit.ready c.in_default.is-0
