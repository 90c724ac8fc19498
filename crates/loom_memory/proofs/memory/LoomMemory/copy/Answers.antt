use Rattle.std.proofs.Common.{◌≡◌, [], sym, ◌∙◌, ap, subst}
use Rattle.long_names.specs.State.{set_register}
use Rattle.long_names.specs.declared.value.Value.{Value}
use Rattle.object_memory.specs.Told.{Told, IsReady}
use Rattle.core_view.specs.Words.{meant}
use Rattle.leaf_lambda.specs.Parts.{core_of}
use Rattle.loom_memory.specs.Memory.{loom_told}
use Rattle.loom_memory.proofs.RegLaws.{ready-put}
use Rattle.loom_memory.proofs.memory.LoomMemory.copy.Goals as goal
use Rattle.loom_memory.proofs.memory.LoomMemory.copy.Given as given

value-is : (g : given.Over) (c : goal.After-put_word g) → meant (core_of c.args.self.now.pager.levels.parts).entries [] 0 c.word_of-w.result ≡ (loom_told g.H.Host c.args.self.now).regs c.args.from
unfolding loom_told
value-is g c = ap (meant (core_of c.args.self.now.pager.levels.parts).entries [] 0) c.word_of-w.ensures.word

pub returns-clause-told : goal.returns-clause-told
returns-clause-told g c = c.put_word.ensures.told ∙ ap (λ (v : Value). record (loom_told g.H.Host c.args.self.now) { regs = set_register (loom_told g.H.Host c.args.self.now).regs c.args.to v }) (value-is g c)

pub returns-clause-fit : goal.returns-clause-fit
returns-clause-fit g c = record {
  sound = c.put_word.ensures.leaves.sound;
  ready = λ ready. subst (λ (t : Told). IsReady t) (sym (returns-clause-told g c))
      (ready-put (loom_told g.H.Host c.args.self.now) c.args.to ((loom_told g.H.Host c.args.self.now).regs c.args.from) (λ k e told. (ready.whole told).rooted c.args.from k e) ready);
  lender = c.put_word.ensures.leaves.lender;
  outside = c.put_word.ensures.leaves.outside;
}

pub returns-clause-steady : goal.returns-clause-steady
returns-clause-steady g c = c.put_word.ensures.steady
