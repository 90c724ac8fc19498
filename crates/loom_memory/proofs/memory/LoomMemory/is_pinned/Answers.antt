use Rattle.std.proofs.Common.{◌≡◌, [], true, sym, ◌∙◌, ap}
use Rattle.long_names.specs.State.{name_at}
use Rattle.core_view.specs.Words.{meant}
use Rattle.core_view.proofs.Words.{meant-short}
use Rattle.leaf_lambda.specs.Parts.{core_of}
use Rattle.object_table.specs.Entries.{is_short}
use Rattle.loom_memory.specs.Memory.{loom_told}
use Rattle.loom_memory.proofs.WordLaws.{named-short, slots-have}
use Rattle.loom_memory.proofs.memory.LoomMemory.is_pinned.Goals as goal

pub returns : goal.returns
unfolding loom_told
returns g c =
    let m = c.args.self.now in
    let w = c.word_of-w.result in
    let is : meant (core_of m.pager.levels.parts).entries [] 0 c.word_of-w.result ≡ (loom_told g.H.Host m).regs c.args.r = ap (meant (core_of m.pager.levels.parts).entries [] 0) c.word_of-w.ensures.word in
    let short : is_short c.word_of-w.result ≡ true = named-short (core_of m.pager.levels.parts).entries c.word_of-w.result ((loom_told g.H.Host m).regs c.args.r) c.word_of-w.ensures.some (sym is) c.requires.name in
    c.has.ensures ∙ slots-have (core_of m.pager.levels.parts) m.pager.pinned c.word_of-w.result (name_at ((loom_told g.H.Host m).regs c.args.r)) c.args.self.now.pager.levels.whole.parts.core c.requires.sound.kept.pinned (c.word_of-w.ensures.used short) c.word_of-w.ensures.some
    (ap name_at (sym is ∙ meant-short (core_of m.pager.levels.parts).entries [] 0 c.word_of-w.result short))
