use Rattle.std.proofs.Common.{refl, sym, ◌∙◌}
use Rattle.file_saving.proofs.SavingLaws.{keeps-same, keeps-untouched}
use Rattle.file_host.proofs.RoleLaws.{stands-back, stands-none}
use Rattle.file_host.proofs.host.FileHost.give_up.Goals as goal

pub invariant_of-self : goal.invariant_of-self
invariant_of-self g c = record { stands = λ told. stands-none _ _ _ _ _ _ _ _ (g.S.System.moments c.args.self.now.system) (g.S.System.moments c.args.self.now.system) refl c.take.ensures.after (λ d u is. is) (c.args.self.now.stands told) }

pub invariant_of-self-in-Ok : goal.invariant_of-self-in-Ok
invariant_of-self-in-Ok g c = record { stands = λ told. stands-none _ _ _ _ _ _ _ _ (g.S.System.moments c.args.self.now.system) (g.S.System.moments c.give_up_for.new.system) refl c.take.ensures.after (c.give_up_for.ensures.puts told).uses (c.args.self.now.stands told) }

pub invariant_of-self-in-Err : goal.invariant_of-self-in-Err
invariant_of-self-in-Err g c = record { stands = λ told. stands-back _ _ _ _ _ _ (g.S.System.moments c.args.self.now.system) (g.S.System.moments c.give_up_for.new.system) (sym c.take.ensures.value ∙ c.in-Some.is) (c.in-Err.ensures.failed told) (c.args.self.now.stands told) }

pub returns-in_default-clause-keeps : goal.returns-in_default-clause-keeps
returns-in_default-clause-keeps g c told = keeps-same _ _ _ refl

pub returns-in-Ok-clause-keeps : goal.returns-in-Ok-clause-keeps
returns-in-Ok-clause-keeps g c told = keeps-untouched _ _ _ (c.give_up_for.ensures.untouched told)

pub returns-in-Err-clause-keeps : goal.returns-in-Err-clause-keeps
returns-in-Err-clause-keeps g c told = keeps-untouched _ _ _ (c.give_up_for.ensures.untouched told)
