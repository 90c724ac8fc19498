use Rattle.loom_memory.specs.Memory.{loom_told}
use Rattle.memory_size.proofs.SizeLaws.{core-small}
use Rattle.memory_size.proofs.laws.a_memory_is_small.Goals as goal

-- src/laws.rt:12:1
pub returns : goal.returns
unfolding loom_told
returns g c =
    let m = c.args.memory.now in
    let kept = c.requires.sound.kept in
    record { small = core-small m.pager.levels.parts m.ledger.core m.ledger.entries kept.size kept.entries }
