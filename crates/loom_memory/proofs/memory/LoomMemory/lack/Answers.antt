use Rattle.std.proofs.Common.{◌≡◌, ◌+◌, None, sym, ◌∙◌, ap, subst}
use Rattle.loom_host.specs.declared.outside.Role.TheVariants.{Work}
use Rattle.object_table.specs.Entries.{sum_below, used_by}
use Rattle.object_table.specs.Table.{entry_at, entries_of, bound_of, free_of}
use Rattle.disk_objects.specs.Function.{disk_of}
use Rattle.leaf_lambda.specs.declared.parts.Parts.{Parts}
use Rattle.leaf_lambda.specs.Parts.{core_of, spare_of}
use Rattle.loom_memory.specs.Memory.{loom_told}
use Rattle.loom_memory.proofs.AccessLaws.{quiet-ready}
use Rattle.loom_memory.proofs.KnownLaws.{absent-there, absent-words, full-beside, unfit-beside, bare-then, refused-of}
use Rattle.loom_memory.proofs.BelowLaws.{absent-own}
use Rattle.loom_memory.proofs.memory.LoomMemory.lack.Goals as goal
use Rattle.loom_memory.proofs.memory.LoomMemory.lack.Given as given

pub look_up-requires-clause-there : goal.look_up-requires-clause-there
unfolding loom_told
look_up-requires-clause-there g c = λ told none.
    let m = c.args.self.now in
    absent-there (g.H.Host.tells Work) (core_of m.pager.levels.parts) (disk_of g.H.Host m.pager.levels.disk.host.now m.pager.levels.disk.rest) m.ledger.next c.args.name told c.requires.spent.away (c.requires.has told) none

pub look_up-requires-clause-own : goal.look_up-requires-clause-own
unfolding loom_told
look_up-requires-clause-own g c = λ told.
    let m = c.args.self.now in
    absent-own (g.H.Host.tells Work) (core_of m.pager.levels.parts) (disk_of g.H.Host m.pager.levels.disk.host.now m.pager.levels.disk.rest) m.ledger.next c.args.name told c.requires.spent.away

away-still : (g : given.Over) (c : goal.After-refuse g) → (core_of c.look_up.new.self.pager.levels.parts).find c.args.name ≡ None
away-still g c = ap (λ (p : Parts). (core_of p).find c.args.name) c.in-Ok.ensures.reads.parts ∙ c.requires.spent.away

pub returns-in-Ok-clause-err : goal.returns-in-Ok-clause-err
unfolding loom_told
returns-in-Ok-clause-err g c =
    let m = c.args.self.now in
    let n = c.look_up.new.self in
    refused-of (loom_told g.H.Host m) (loom_told g.H.Host n) (loom_told g.H.Host c.refuse.new.self) c.args.name c.refuse.result c.in-Ok.ensures.reads.quiet
    (full-beside g.H.Host n (loom_told g.H.Host c.refuse.new.self) c.args.name c.in-Ok.words c.need_beside-need.result c.refuse.result c.in-Ok.ensures.leaves.sound (quiet-ready (loom_told g.H.Host m) (loom_told g.H.Host n) c.in-Ok.ensures.reads.quiet c.requires.fit.ready) (away-still g c)
    (λ told. absent-words (g.H.Host.tells Work) (core_of n.pager.levels.parts) (disk_of g.H.Host n.pager.levels.disk.host.now n.pager.levels.disk.rest) n.ledger.next c.args.name c.in-Ok.words told (away-still g c) c.in-Ok.ensures.sized)
    c.need_beside-need.ensures
    (unfit-beside n.pager.levels.parts n.regs n.pager.pinned n.ledger c.args.name c.in-Ok.words c.need_beside-need.result n.pager.levels.whole c.in-Ok.ensures.leaves.sound.kept
    (bare-then (core_of m.pager.levels.parts) (core_of n.pager.levels.parts) m.pager.pinned n.pager.pinned c.requires.bare (ap core_of c.in-Ok.ensures.reads.parts) c.in-Ok.ensures.reads.pins)
    (ap spare_of c.in-Ok.ensures.reads.parts ∙ c.requires.spent.none)
    (subst (λ (p : Parts). entries_of p.names.table ≡ free_of p.names.table + sum_below (bound_of p.names.table) (λ t. used_by (entry_at p.names.table t))) (sym c.in-Ok.ensures.reads.parts) c.entries_are_counted.ensures)
    c.need_beside-need.ensures)
    c.refuse.ensures.told c.refuse.ensures.result c.refuse.ensures.later)

pub returns-in-Err-clause-err : goal.returns-in-Err-clause-err
returns-in-Err-clause-err g c = λ a row silent none. c.in-Err.ensures.err a silent none
