use Rattle.std.proofs.Common.{◌≡◌, sym, ◌∙◌, ap, subst}
use Rattle.object_table.specs.declared.entry.Entry.{Entry}
use Rattle.loom_host.specs.declared.outside.Role.TheVariants.{Work}
use Rattle.leaf_lambda.specs.Parts.{core_of}
use Rattle.disk_objects.specs.Function.{disk_of}
use Rattle.loom_memory.specs.Memory.{loom_told}
use Rattle.loom_memory.proofs.CallLaws.{leaf-there}
use Rattle.loom_memory.proofs.BringLaws.{read-name, sized-name}
use Rattle.core_view.specs.Held.{Disk}
use Rattle.loom_memory.proofs.BelowLaws.{leaf-own, tested-name}
use Rattle.loom_memory.proofs.DamageLaws.{damage-name}
use Rattle.delta_counts.proofs.LowerLaws.{ok-map}
use Rattle.loom_memory.specs.Effects.{Reads}
use Rattle.loom_memory.proofs.memory.LoomMemory.look.Goals as goal

pub used_entry-name-requires : goal.used_entry-name-requires
unfolding core_of
used_entry-name-requires g c = c.requires.leaf.0

pub look_up-requires-clause-there : goal.look_up-requires-clause-there
unfolding loom_told core_of
look_up-requires-clause-there g c = λ told none.
    let m = c.args.self.now in
    leaf-there (g.H.Host.tells Work) (core_of m.pager.levels.parts) (disk_of g.H.Host m.pager.levels.disk.host.now m.pager.levels.disk.rest) m.ledger.next c.args.s.0 told c.args.self.now.pager.levels.whole.parts.core c.requires.leaf.0 c.requires.leaf.1 (c.requires.has told)
    (ap (λ (e : Entry). disk_of g.H.Host m.pager.levels.disk.host.now m.pager.levels.disk.rest e.name) (sym c.used_entry-name.ensures) ∙ none)

pub returns-clause-sized : goal.returns-clause-sized
unfolding core_of
returns-clause-sized g c =
    let m = c.args.self.now in
    let n = c.look_up.new.self in
    sized-name c.look_up.result (g.H.Host.tells Work) (disk_of g.H.Host n.pager.levels.disk.host.now n.pager.levels.disk.rest) m.pager.levels.parts n.pager.levels.parts c.args.s.0 c.used_entry-name.result.name (ap (λ (e : Entry). e.name) c.used_entry-name.ensures) (ok-map c.look_up.result (λ (x : Reads g.H.Host c.args.self.now c.look_up.new.self). x.parts) c.look_up.ensures.reads) c.look_up.ensures.sized

pub returns-clause-record : goal.returns-clause-record
unfolding core_of
returns-clause-record g c =
    let m = c.args.self.now in
    let n = c.look_up.new.self in
    read-name c.look_up.result (g.H.Host.tells Work) n.buf (disk_of g.H.Host n.pager.levels.disk.host.now n.pager.levels.disk.rest) m.pager.levels.parts n.pager.levels.parts c.args.s.0 c.used_entry-name.result.name (ap (λ (e : Entry). e.name) c.used_entry-name.ensures) (ok-map c.look_up.result (λ (x : Reads g.H.Host c.args.self.now c.look_up.new.self). x.parts) c.look_up.ensures.reads) c.look_up.ensures.record

pub look_up-requires-clause-own : goal.look_up-requires-clause-own
unfolding loom_told core_of
look_up-requires-clause-own g c = λ told.
    let m = c.args.self.now in
    let disk : Disk = disk_of g.H.Host m.pager.levels.disk.host.now m.pager.levels.disk.rest in
    subst (λ (e : Entry). (loom_told g.H.Host m).heap.at e.name ≡ disk e.name) (sym c.used_entry-name.ensures)
    (leaf-own (g.H.Host.tells Work) (core_of m.pager.levels.parts) disk m.ledger.next c.args.s.0 told c.args.self.now.pager.levels.whole.parts.core c.requires.leaf.0 c.requires.leaf.1)

pub returns-clause-tested : goal.returns-clause-tested
unfolding core_of
returns-clause-tested g c = tested-name c.look_up.result c.look_up.new.self c.used_entry-name.result.name ((core_of c.args.self.now.pager.levels.parts).entries c.args.s.0).name (ap (λ (e : Entry). e.name) c.used_entry-name.ensures) c.look_up.ensures.tested

pub returns-clause-damage : goal.returns-clause-damage
unfolding core_of
returns-clause-damage g c = damage-name c.look_up.result c.look_up.new.self.pager.levels.disk.rest c.used_entry-name.result.name ((core_of c.args.self.now.pager.levels.parts).entries c.args.s.0).name (ap (λ (e : Entry). e.name) c.used_entry-name.ensures) c.look_up.ensures.damage
