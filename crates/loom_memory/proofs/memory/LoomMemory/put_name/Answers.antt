use Rattle.loom_memory.specs.Memory.{word_in}
use Rattle.loom_memory.proofs.TimeLaws.{keeps-same, stays-on, word-same}
use Rattle.std.proofs.Common.{[], ◌∙◌, ap}
use Rattle.long_names.specs.State.{set_register}
use Rattle.long_names.specs.declared.value.Value.{Value}
use Rattle.long_names.specs.declared.value.Value.TheVariants.{Ref}
use Rattle.core_view.proofs.Words.{meant-short}
use Rattle.leaf_lambda.specs.Parts.{core_of}
use Rattle.loom_memory.specs.Memory.{loom_told}
use Rattle.loom_memory.proofs.ClassLaws.{short-some}
use Rattle.loom_memory.proofs.KnownLaws.{naming-is}
use Rattle.loom_memory.proofs.GentleLaws.{steady-trans}
use Rattle.loom_memory.proofs.MindLaws.{minds-step}
use Rattle.loom_memory.proofs.memory.LoomMemory.put_name.Goals as goal

pub put_word-requires-clause-used : goal.put_word-requires-clause-used
put_word-requires-clause-used g c = λ short. c.in-Ok.ensures.found.used

pub put_word-requires-clause-some : goal.put_word-requires-clause-some
put_word-requires-clause-some g c = short-some c.in-Ok.s.0 c.in-Ok.ensures.found.short

pub returns-in-Ok-clause-naming : goal.returns-in-Ok-clause-naming
returns-in-Ok-clause-naming g c =
    let n = c.entry_of.new.self in
    naming-is (loom_told g.H.Host c.args.self.now) (loom_told g.H.Host n) (loom_told g.H.Host c.put_word.new.self) c.args.to c.args.name c.in-Ok.ensures.quiet
    (c.put_word.ensures.told ∙ ap (λ (v : Value). record (loom_told g.H.Host n) { regs = set_register (loom_told g.H.Host n).regs c.args.to v }) (meant-short (core_of n.pager.levels.parts).entries [] 0 c.in-Ok.s.0 c.in-Ok.ensures.found.short ∙ ap Ref c.in-Ok.ensures.found.named))

pub returns-in-Ok-clause-steady : goal.returns-in-Ok-clause-steady
returns-in-Ok-clause-steady g c = λ room. steady-trans g.H.Host c.args.self.now c.entry_of.new.self c.put_word.new.self (c.in-Ok.ensures.steady room) c.put_word.ensures.steady

pub returns-in-Ok-clause-unspent : goal.returns-in-Ok-clause-unspent
returns-in-Ok-clause-unspent g c = λ unspent. steady-trans g.H.Host c.args.self.now c.entry_of.new.self c.put_word.new.self (c.in-Ok.ensures.unspent unspent) c.put_word.ensures.steady

pub returns-in-Ok-clause-minds : goal.returns-in-Ok-clause-minds
returns-in-Ok-clause-minds g c =
    let s = c.put_word.ensures.steady in
    minds-step g.H.Host c.args.self.now c.entry_of.new.self c.put_word.new.self (λ k. ⊥) c.in-Ok.ensures.minds c.entry_of.new.self.pager.levels.whole.parts.core c.put_word.new.self.pager.levels.whole.parts.core s.gentle.remains s.none s.gentle.cache

pub returns-in-Ok-clause-leaves : goal.returns-in-Ok-clause-leaves
returns-in-Ok-clause-leaves g c = record {
  sound = c.put_word.ensures.leaves.sound;
  fetches = c.put_word.ensures.steady.idle.fetches ∙ c.entry_of.ensures.leaves.fetches;
  lender = c.put_word.ensures.leaves.lender ∙ c.entry_of.ensures.leaves.lender;
  outside = c.put_word.ensures.leaves.outside ∙ c.entry_of.ensures.leaves.outside;
}

pub returns-in-Ok-clause-due : goal.returns-in-Ok-clause-due
returns-in-Ok-clause-due g c = c.put_word.ensures.due ∙ c.in-Ok.ensures.due

pub returns-in-Ok-clause-stays : goal.returns-in-Ok-clause-stays
returns-in-Ok-clause-stays g c = stays-on c.args.self.now c.entry_of.new.self c.put_word.new.self (word_in c.args.self.now.regs c.args.to) (word_in c.entry_of.new.self.regs c.args.to) (keeps-same c.args.self.now c.entry_of.new.self c.in-Ok.ensures.flag) (word-same c.args.self.now c.entry_of.new.self c.args.to c.in-Ok.ensures.regs) c.put_word.ensures.stays
