use Rattle.std.proofs.Common.{ap, arith}
use Rattle.loom_memory.specs.declared.ledger.Ledger.{Ledger}
use Rattle.loom_memory.proofs.ResidentLaws.{only-pinned}
use Rattle.loom_memory.proofs.EffectLaws.{bare-in}
use Rattle.loom_memory.proofs.memory.LoomMemory.put_out.Goals as goal

pub returns-in-Ok-clause-pinned : goal.returns-in-Ok-clause-pinned
returns-in-Ok-clause-pinned g c = λ n.
    let all = c.entries_are_counted.ensures in
    let now = c.in-Ok.ensures.leaves.sound.kept.entries in
    let was = c.requires.fit.sound.kept.entries in
    let same = ap (λ (k : Ledger). k.entries) c.in-Ok.ensures.pages.ledger in
    let past = c.too_many-entries.ensures in
    only-pinned g.H.Host c.page.new.self n c.in-Ok.ensures.leaves.sound (bare-in c.in-Ok._enough c.page.new.self.pager.levels.parts c.page.new.self.pager.pinned 0 c.too_many-entries.result c.in-Ok.ensures.room c.in-Ok.ensures.short (λ asked. let more = asked in omega (arith, all, now, was, same, past, more)))
