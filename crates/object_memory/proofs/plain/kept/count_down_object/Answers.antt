use Rattle.std.proofs.Common.{ap}
use Rattle.std.proofs.lemmas.Result.{on_ok_weaker}
use Rattle.long_names.specs.Objects.{fields_of}
use Rattle.object_memory.proofs.CountDownLaws.{down-object}
use Rattle.object_memory.proofs.plain.kept.count_down_object.Goals as goal

pub returns-in-Pointers : goal.returns-in-Pointers
returns-in-Pointers c = on_ok_weaker c.count_down_values.result (down-object c.args.counts.now c.count_down.new.counts c.count_down_values.new.counts c.args.dead.now.items c.count_down.new.dead.items c.count_down_values.new.dead.items c.args.object.now c.in-Pointers.values c.requires.object (ap fields_of c.in-Pointers.is) c.in_ok-count_down.ensures) c.count_down_values.ensures

pub returns-in-Method : goal.returns-in-Method
returns-in-Method c = on_ok_weaker c.count_down_values-in-Method.result (down-object c.args.counts.now c.count_down.new.counts c.count_down_values-in-Method.new.counts c.args.dead.now.items c.count_down.new.dead.items c.count_down_values-in-Method.new.dead.items c.args.object.now c.in-Method.literals c.requires.object (ap fields_of c.in-Method.is) c.in_ok-count_down.ensures) c.count_down_values-in-Method.ensures
