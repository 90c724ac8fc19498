use Rattle.std.proofs.Common.{Some, arith, refl}
use Rattle.object_memory.specs.Plain.{heap_of}
use Rattle.long_names.specs.Names.{IsLongName}
use Rattle.long_names.specs.Objects.{IsObject}
use Rattle.object_memory.proofs.MapLaws.{heap-put, stored-insert, updated}
use Rattle.object_memory.proofs.plain.objects.Objects.put.Goals as goal

pub invariant_of-self : goal.invariant_of-self
invariant_of-self c =
    let m = c.args.self.now in
    let name : IsLongName c.args.name = (c.get.ensures.name, omega arith) in
    let class : IsLongName c.args.object.class = (c.get-2.ensures.name, omega arith) in
    let object : IsObject c.args.object = record { class = class; body = c.requires.body; range = c.requires.range } in
    record { stored = stored-insert c.insert.result m.objects c.insert.new.self m.next c.args.name c.args.object c.insert.ensures.updates c.insert.ensures.err c.insert.ensures.ordered m.stored object name c.requires.below }

pub returns-clause-ok : goal.returns-clause-ok
returns-clause-ok c =
    let m = c.args.self.now in
    heap-put _ (heap_of m) _ c.args.name c.args.object refl (updated m.objects c.insert.new.self c.args.name (Some c.args.object) c.in_ok-insert.ensures.updates)
