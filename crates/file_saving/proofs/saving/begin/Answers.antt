use Rattle.std.proofs.Common.{refl, ◌∙◌}
use Rattle.file_saving.proofs.SavingLaws.{entry-apart, keeps-same, keeps-then}
use Rattle.file_saving.proofs.PutLaws.{same-apart}
use Rattle.file_saving.proofs.saving.begin.Goals as goal

pub returns-in_default-clause-keeps : goal.returns-in_default-clause-keeps
returns-in_default-clause-keeps g c told = keeps-same _ _ _ refl

pub returns-in_default-part_of-clause-keeps : goal.returns-in_default-part_of-clause-keeps
returns-in_default-part_of-clause-keeps g c told = keeps-same _ _ _ refl

pub returns-in_err-saving-clause-keeps : goal.returns-in_err-saving-clause-keeps
returns-in_err-saving-clause-keeps g c told =
    keeps-then _ _ _ _ (c.in_ok-clear.ensures.keeps told _ (entry-apart g.S.System.entry g.met.S.System.beside _ _ (c.as_str.ensures.value ∙ c.in-Ok-part_of.ensures)))
    (c.in_err-saving.ensures.keeps told _ (entry-apart g.S.System.entry g.met.S.System.beside _ _ c.in-Ok-part_of.ensures))

pub returns-clause-keeps : goal.returns-clause-keeps
returns-clause-keeps g c told =
    keeps-then _ _ _ _ (c.in_ok-clear.ensures.keeps told _ (entry-apart g.S.System.entry g.met.S.System.beside _ _ (c.as_str.ensures.value ∙ c.in-Ok-part_of.ensures)))
    (keeps-then _ _ _ _ (c.in_ok-saving.ensures.keeps told _ (entry-apart g.S.System.entry g.met.S.System.beside _ _ c.in-Ok-part_of.ensures))
    (c.permitted.ensures.keeps told _ (λ named. entry-apart g.S.System.entry g.met.S.System.beside _ _ (c.in_ok-saving.ensures.part ∙ c.in-Ok-part_of.ensures))))

pub returns-clause-fresh : goal.returns-clause-fresh
returns-clause-fresh g c told d u is = same-apart _ d c.permitted.result c.permitted.ensures.same (c.in_ok-saving.ensures.fresh told d u ((c.in_ok-clear.ensures.puts told).uses d u is))
