use Rattle.std.proofs.Common.{ap, ◌∙◌}
use Rattle.long_names.specs.Counting.{counted}
use Rattle.file_saving.proofs.SavingLaws.{from-ok, keeps-then}
use Rattle.file_host.specs.declared.told.Told.{Told}
use Rattle.file_host.proofs.HostLaws.{attach-failed, fresh-state, own-put, stands-begun}
use Rattle.file_host.proofs.RoleLaws.{stands-none, stands-told}
use Rattle.file_host.proofs.host.FileHost.attach_at.Goals as goal

pub invariant_of-self : goal.invariant_of-self
invariant_of-self g c = record { stands = λ told. stands-told _ _ _ _ _ _ _ _ c.attaching.ensures.descriptor c.attaching.ensures.ended (c.give_up-given.new.self.stands told) }

pub invariant_of-self-in_default : goal.invariant_of-self-in_default
invariant_of-self-in_default g c = record { stands = λ told. stands-told _ _ _ _ _ _ _ _ c.attaching.ensures.descriptor c.attaching.ensures.ended (c.give_up-given.new.self.stands told) }

pub invariant_of-self-in-Ok-begin_saved : goal.invariant_of-self-in-Ok-begin_saved
invariant_of-self-in-Ok-begin_saved g c = record {
  stands = λ told.
      stands-begun _ _ _ _ c.in-Ok-begin_saved.saving (g.S.System.moments c.give_up-given.new.self.system) (g.S.System.moments c.begin_saved.new.system) (c.give_up-given.new.self.stands told).open_files (c.begin_saved.ensures.puts told).uses (c.in-Ok-begin_saved.ensures.fresh told) (c.in-Ok-begin_saved.ensures.begun told) c.in-Ok-begin_saved.ensures.apart c.attached.ensures.descriptor c.attached.ensures.ended;
}

pub invariant_of-self-in-Err-begin_saved : goal.invariant_of-self-in-Err-begin_saved
invariant_of-self-in-Err-begin_saved g c = record {
  stands = λ told.
      stands-none _ _ _ _ _ _ _ _ (g.S.System.moments c.give_up-given.new.self.system) (g.S.System.moments c.begin_saved.new.system) c.attaching.ensures.descriptor (from-ok c.give_up-given.result _ c.is_err.ensures.value c.if-is_err.false c.give_up-given.ensures.none) (c.begin_saved.ensures.puts told).uses (c.give_up-given.new.self.stands told);
}

pub returns-then-is_err-clause-keeps : goal.returns-then-is_err-clause-keeps
returns-then-is_err-clause-keeps g c told = c.give_up-given.ensures.keeps told

pub returns-in_default-clause-keeps : goal.returns-in_default-clause-keeps
returns-in_default-clause-keeps g c told = c.give_up-given.ensures.keeps told

pub returns-in-Ok-begin_saved-clause-keeps : goal.returns-in-Ok-begin_saved-clause-keeps
returns-in-Ok-begin_saved-clause-keeps g c told = keeps-then _ _ _ _ (c.give_up-given.ensures.keeps told) (c.begin_saved.ensures.keeps told)

pub returns-in-Err-clause-keeps : goal.returns-in-Err-clause-keeps
returns-in-Err-clause-keeps g c told = keeps-then _ _ _ _ (c.give_up-given.ensures.keeps told) (c.begin_saved.ensures.keeps told)

pub returns-in-Ok-begin_saved-clause-fresh : goal.returns-in-Ok-begin_saved-clause-fresh
returns-in-Ok-begin_saved-clause-fresh g c told = fresh-state _ _ c.in-Ok-begin_saved.saving.descriptor c.attached.ensures.descriptor (own-put _ _ _ _ _ (c.in-Ok-begin_saved.ensures.begun told)) c.attached.ensures.ended

pub returns-then-is_err-clause-attached : goal.returns-then-is_err-clause-attached
returns-then-is_err-clause-attached g c told = attach-failed _ _ _ _ _ c.fail.result (c.attaching.ensures.attaches ∙ ap (λ (t : Told). counted t.attaches) c.give_up-given.ensures.told) c.attaching.ensures.name (c.attaching.ensures.descriptor ∙ ap (λ (t : Told). t.descriptor) c.give_up-given.ensures.told) (c.attaching.ensures.ended ∙ ap (λ (t : Told). t.ended) c.give_up-given.ensures.told) (c.give_up-given.ensures.put told) c.fail.ensures.err

pub returns-in_default-clause-attached : goal.returns-in_default-clause-attached
returns-in_default-clause-attached g c told = attach-failed _ _ _ _ _ c.fail-in_default.result (c.attaching.ensures.attaches ∙ ap (λ (t : Told). counted t.attaches) c.give_up-given.ensures.told) c.attaching.ensures.name (c.attaching.ensures.descriptor ∙ ap (λ (t : Told). t.descriptor) c.give_up-given.ensures.told) (c.attaching.ensures.ended ∙ ap (λ (t : Told). t.ended) c.give_up-given.ensures.told) (c.give_up-given.ensures.put told) c.fail-in_default.ensures.err

pub returns-in-Err-clause-attached : goal.returns-in-Err-clause-attached
returns-in-Err-clause-attached g c told = attach-failed _ _ _ _ _ c.fail-in-Err.result (c.attaching.ensures.attaches ∙ ap (λ (t : Told). counted t.attaches) c.give_up-given.ensures.told) c.attaching.ensures.name (c.attaching.ensures.descriptor ∙ ap (λ (t : Told). t.descriptor) c.give_up-given.ensures.told) (c.attaching.ensures.ended ∙ ap (λ (t : Told). t.ended) c.give_up-given.ensures.told) (λ d. (c.begin_saved.ensures.puts told).is d ∙ c.give_up-given.ensures.put told d) c.fail-in-Err.ensures.err
