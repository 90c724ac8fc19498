use Rattle.std.proofs.Common.{refl}
use Rattle.blue_model.specs.Machine.{pick}
use Rattle.blue_model.specs.Storage.{row}
use Rattle.blue_model.specs.Devices.{device_primitives}
use Rattle.blue_model.specs.Devices as model
use Rattle.contexts.proofs.ServesLaws.{speaks_quiet}
use Rattle.contexts.proofs.TableLaws.{row_serves, row_fails, none_serves}
use Rattle.devices.proofs.KeepLaws.{keeps_never}
use Rattle.devices.proofs.table.run.Goals as goal

pub returns-in-93-eq1-clause-speaks : goal.returns-in-93-eq1-clause-speaks
unfolding pick device_primitives
returns-in-93-eq1-clause-speaks g c = row_serves (device_primitives c.args.events.now) (row 93 1 model.input_semaphore) _ 93 c.in-93-eq1.is-0 refl c.in-93-eq1.is-1 (speaks_quiet c.input_semaphore.ensures.serves)

pub returns-in-95-eq0-clause-speaks : goal.returns-in-95-eq0-clause-speaks
unfolding pick device_primitives
returns-in-95-eq0-clause-speaks g c = row_serves (device_primitives c.args.events.now) (row 95 0 (model.input_word c.args.events.now)) _ 95 c.in-95-eq0.is-0 refl c.in-95-eq0.is-1 (speaks_quiet c.input_word.ensures.serves)

pub returns-in-97-eq0-clause-speaks : goal.returns-in-97-eq0-clause-speaks
unfolding pick device_primitives
returns-in-97-eq0-clause-speaks g c = row_serves (device_primitives c.args.events.now) (row 97 0 model.keep_machine) _ 97 c.in-97-eq0.is-0 refl c.in-97-eq0.is-1 (speaks_quiet c.keep_machine.ensures.serves)

pub returns-in-99-eq1-clause-speaks : goal.returns-in-99-eq1-clause-speaks
unfolding pick device_primitives
returns-in-99-eq1-clause-speaks g c = row_serves (device_primitives c.args.events.now) (row 99 1 model.tick_words) _ 99 c.in-99-eq1.is-0 refl c.in-99-eq1.is-1 (speaks_quiet c.tick_words.ensures.serves)

pub returns-in-100-eq2-clause-speaks : goal.returns-in-100-eq2-clause-speaks
unfolding pick device_primitives
returns-in-100-eq2-clause-speaks g c = row_serves (device_primitives c.args.events.now) (row 100 2 model.signal_at_tick) _ 100 c.in-100-eq2.is-0 refl c.in-100-eq2.is-1 (speaks_quiet c.signal_at_tick.ensures.serves)

pub returns-in-102-eq0-clause-speaks : goal.returns-in-102-eq0-clause-speaks
unfolding pick device_primitives
returns-in-102-eq0-clause-speaks g c = row_serves (device_primitives c.args.events.now) (row 102 0 model.be_display) _ 102 c.in-102-eq0.is-0 refl c.in-102-eq0.is-1 (speaks_quiet c.be_display.ensures.serves)

pub returns-in-128-eq1-clause-speaks : goal.returns-in-128-eq1-clause-speaks
unfolding pick device_primitives
returns-in-128-eq1-clause-speaks g c = row_serves (device_primitives c.args.events.now) (row 128 1 model.say_string) _ 128 c.in-128-eq1.is-0 refl c.in-128-eq1.is-1 c.say_string.ensures.speaks

pub returns-in_default-clause-speaks : goal.returns-in_default-clause-speaks
unfolding pick device_primitives
returns-in_default-clause-speaks g c = row_fails (device_primitives c.args.events.now) (row 93 1 model.input_semaphore) _ 93 c.in_default.is-0 refl c.in_default.is-1.1 c.requires.fit.ready

pub returns-in_default-2-clause-speaks : goal.returns-in_default-2-clause-speaks
unfolding pick device_primitives
returns-in_default-2-clause-speaks g c = row_fails (device_primitives c.args.events.now) (row 95 0 (model.input_word c.args.events.now)) _ 95 c.in_default.is-0 refl c.in_default.is-1.1 c.requires.fit.ready

pub returns-in_default-3-clause-speaks : goal.returns-in_default-3-clause-speaks
unfolding pick device_primitives
returns-in_default-3-clause-speaks g c = row_fails (device_primitives c.args.events.now) (row 97 0 model.keep_machine) _ 97 c.in_default.is-0 refl c.in_default.is-1.1 c.requires.fit.ready

pub returns-in_default-4-clause-speaks : goal.returns-in_default-4-clause-speaks
unfolding pick device_primitives
returns-in_default-4-clause-speaks g c = row_fails (device_primitives c.args.events.now) (row 99 1 model.tick_words) _ 99 c.in_default.is-0 refl c.in_default.is-1.1 c.requires.fit.ready

pub returns-in_default-5-clause-speaks : goal.returns-in_default-5-clause-speaks
unfolding pick device_primitives
returns-in_default-5-clause-speaks g c = row_fails (device_primitives c.args.events.now) (row 100 2 model.signal_at_tick) _ 100 c.in_default.is-0 refl c.in_default.is-1.1 c.requires.fit.ready

pub returns-in_default-6-clause-speaks : goal.returns-in_default-6-clause-speaks
unfolding pick device_primitives
returns-in_default-6-clause-speaks g c = row_fails (device_primitives c.args.events.now) (row 102 0 model.be_display) _ 102 c.in_default.is-0 refl c.in_default.is-1.1 c.requires.fit.ready

pub returns-in_default-7-clause-speaks : goal.returns-in_default-7-clause-speaks
unfolding pick device_primitives
returns-in_default-7-clause-speaks g c = row_fails (device_primitives c.args.events.now) (row 128 1 model.say_string) _ 128 c.in_default.is-0 refl c.in_default.is-1.1 c.requires.fit.ready

pub returns-in_default-8-clause-speaks : goal.returns-in_default-8-clause-speaks
unfolding pick device_primitives
returns-in_default-8-clause-speaks g c = none_serves (device_primitives c.args.events.now) _ c.requires.fit.ready c.in_default.is-0

pub returns-in-93-eq1-clause-keeps : goal.returns-in-93-eq1-clause-keeps
returns-in-93-eq1-clause-keeps g c = keeps_never _ _ c.input_semaphore.ensures.never_keeps

pub returns-in-95-eq0-clause-keeps : goal.returns-in-95-eq0-clause-keeps
returns-in-95-eq0-clause-keeps g c = keeps_never _ _ c.input_word.ensures.never_keeps

pub returns-in-99-eq1-clause-keeps : goal.returns-in-99-eq1-clause-keeps
returns-in-99-eq1-clause-keeps g c = keeps_never _ _ c.tick_words.ensures.never_keeps

pub returns-in-100-eq2-clause-keeps : goal.returns-in-100-eq2-clause-keeps
returns-in-100-eq2-clause-keeps g c = keeps_never _ _ c.signal_at_tick.ensures.never_keeps

pub returns-in-102-eq0-clause-keeps : goal.returns-in-102-eq0-clause-keeps
returns-in-102-eq0-clause-keeps g c = keeps_never _ _ c.be_display.ensures.never_keeps

pub returns-in-128-eq1-clause-keeps : goal.returns-in-128-eq1-clause-keeps
returns-in-128-eq1-clause-keeps g c = keeps_never _ _ c.say_string.ensures.never_keeps
