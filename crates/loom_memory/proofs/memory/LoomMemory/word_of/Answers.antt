use Rattle.std.proofs.Common.{refl, sym, ◌∙◌}
use Rattle.std.specs.List.{slice_index_or}
use Rattle.core_view.proofs.Steps.{outside-used}
use Rattle.leaf_lambda.specs.Parts.{core_of}
use Rattle.loom_memory.proofs.RegLaws.{register-held, old-there, word-is, kept-rooted}
use Rattle.loom_memory.proofs.memory.LoomMemory.word_of.Goals as goal

pub returns-clause-word : goal.returns-clause-word
returns-clause-word g c = word-is c.args.self.now.regs c.index.result c.args.r c.index.ensures.same c.index.ensures.within c.requires.kept.many

pub returns-clause-some : goal.returns-clause-some
returns-clause-some g c = λ e. c.requires.kept.filled c.args.r (sym (word-is c.args.self.now.regs c.index.result c.args.r c.index.ensures.same c.index.ensures.within c.requires.kept.many) ∙ e)

pub returns-clause-used : goal.returns-clause-used
returns-clause-used g c = λ is.
    let m = c.args.self.now in
    outside-used (core_of m.pager.levels.parts) (slice_index_or m.regs c.index.result 0) c.args.self.now.pager.levels.whole.parts.core
    (register-held (core_of m.pager.levels.parts) m.regs m.pager.pinned c.index.result (slice_index_or m.regs c.index.result 0) (kept-rooted m.pager.levels.parts m.regs m.pager.pinned m.ledger m.pager.levels.whole c.requires.kept) (old-there m.regs c.index.result c.index.result c.index.result refl refl c.index.ensures.within c.requires.kept.many) is)
