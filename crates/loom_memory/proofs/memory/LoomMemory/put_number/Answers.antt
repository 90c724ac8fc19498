use Rattle.std.proofs.Common.{◌≡◌, ℕ, [], sym, subst}
use Rattle.long_names.specs.State.{set_register}
use Rattle.core_view.specs.Words.{meant}
use Rattle.leaf_lambda.specs.Parts.{core_of}
use Rattle.loom_memory.specs.Memory.{loom_told}
use Rattle.loom_memory.proofs.WordLaws.{odd-apart}
use Rattle.loom_memory.proofs.memory.LoomMemory.put_number.Goals as goal

pub put_word-requires-clause-used : goal.put_word-requires-clause-used
put_word-requires-clause-used g c = λ is. absurd (odd-apart c.args.w c.requires.odd is)

pub returns-then-w-eq1-clause-told : goal.returns-then-w-eq1-clause-told
returns-then-w-eq1-clause-told g c =
    let m = c.args.self.now in
    subst (λ (w : ℕ). loom_told g.H.Host c.put_apart.new.self ≡ (record (loom_told g.H.Host m) { regs = set_register (loom_told g.H.Host m).regs c.args.to (meant (core_of m.pager.levels.parts).entries [] 0 w) }))
    (sym c.if-w-eq1.true) c.put_apart.ensures.told
