use Rattle.std.proofs.Common.{refl, ◌∙◌, sym}
use Rattle.object_memory.specs.Plain.{plain_told}
use Rattle.object_memory.proofs.PlainLaws.{ready-set}
use Rattle.object_memory.proofs.plain.PlainMemoryObjectMemory.copy.Goals as goal

pub returns-clause-fit : goal.returns-clause-fit
returns-clause-fit c = record {
  sound = tt;
  ready = (λ ready. ready-set (plain_told c.args.self.now) _ c.args.to _ c.set.ensures (λ k e told. (ready.whole told).rooted c.args.from k (sym c.get-value.ensures.value ∙ e)) ready);
  lender = refl;
  outside = refl;
}
