use Rattle.std.proofs.Common.{refl, ◌∙◌}
use Rattle.std.proofs.lemmas.Result.{err_from_is_err_and}
use Rattle.checkpoint.proofs.RecoverLaws.{contents-still, first-fault, found-by, none-bad, second-fault, sure-bad, synced-leaves}
use Rattle.checkpoint.proofs.SureLaws.{unsynced-synced}
use Rattle.checkpoint.proofs.recovering.recover.Goals as goal

pub returns-in_err-sync-clause-contents : goal.returns-in_err-sync-clause-contents
returns-in_err-sync-clause-contents g c told = contents-still _ _ _ _ (c.in_err-sync.ensures.synced told) refl

pub returns-in_err-sync-clause-stops : goal.returns-in_err-sync-clause-stops
returns-in_err-sync-clause-stops g c told = synced-leaves _ _ _ _ (c.in_err-sync.ensures.synced told) refl

pub returns-in_err-first-clause-contents : goal.returns-in_err-first-clause-contents
returns-in_err-first-clause-contents g c told = contents-still _ _ _ _ (c.in_ok-sync.ensures.synced told) c.in_err-first.ensures.still

pub returns-in_err-first-clause-stops : goal.returns-in_err-first-clause-stops
returns-in_err-first-clause-stops g c told = synced-leaves _ _ _ _ (c.in_ok-sync.ensures.synced told) c.in_err-first.ensures.still

pub returns-in_err-first-clause-fault : goal.returns-in_err-first-clause-fault
returns-in_err-first-clause-fault g c =
    let p = err_from_is_err_and c.from_residual-in_err-first.result c.from_residual-in_err-first.ensures.1 in
    rw (p.1, p.2) (first-fault _ _ _ _ _ _ _ c.in_ok-sync.ensures.calm (λ told. contents-still _ _ _ _ (c.in_ok-sync.ensures.synced told) refl) c.in_err-first.ensures.fault)

pub returns-in_err-first-clause-bad_synced : goal.returns-in_err-first-clause-bad_synced
returns-in_err-first-clause-bad_synced g c told =
    let p = err_from_is_err_and c.from_residual-in_err-first.result c.from_residual-in_err-first.ensures.1 in
    rw (p.1, p.2) (sure-bad (g.V.Vault.state c.read_point.new.vault) (rw c.in_err-first.ensures.still (unsynced-synced _ _ _ (c.in_ok-sync.ensures.synced told))) _)

pub returns-in_err-second-clause-bad_synced : goal.returns-in_err-second-clause-bad_synced
returns-in_err-second-clause-bad_synced g c told =
    let p = err_from_is_err_and c.from_residual-in_err-second.result c.from_residual-in_err-second.ensures.1 in
    rw (p.1, p.2) (sure-bad (g.V.Vault.state c.read_point-2.new.vault) (rw (c.in_err-second.ensures.still, c.in_ok-first.ensures.still) (unsynced-synced _ _ _ (c.in_ok-sync.ensures.synced told))) _)

pub returns-in_err-second-clause-contents : goal.returns-in_err-second-clause-contents
returns-in_err-second-clause-contents g c told =
    contents-still _ _ _ _ (c.in_ok-sync.ensures.synced told) (c.in_err-second.ensures.still ∙ c.in_ok-first.ensures.still)

pub returns-in_err-second-clause-stops : goal.returns-in_err-second-clause-stops
returns-in_err-second-clause-stops g c told =
    synced-leaves _ _ _ _ (c.in_ok-sync.ensures.synced told) (c.in_err-second.ensures.still ∙ c.in_ok-first.ensures.still)

pub returns-in_err-second-clause-fault : goal.returns-in_err-second-clause-fault
returns-in_err-second-clause-fault g c =
    let p = err_from_is_err_and c.from_residual-in_err-second.result c.from_residual-in_err-second.ensures.1 in
    rw (p.1, p.2) (second-fault _ _ _ _ _ _ _ _ (c.in_ok-first.ensures.calm ∙ c.in_ok-sync.ensures.calm)
    (λ told. contents-still _ _ _ _ (c.in_ok-sync.ensures.synced told) refl) (λ told. contents-still _ _ _ _ (c.in_ok-sync.ensures.synced told) c.in_ok-first.ensures.still)
    c.in_ok-first.ensures.whole c.in_err-second.ensures.fault)

pub returns-clause-found : goal.returns-clause-found
returns-clause-found g c told =
    found-by _ _ _ _ _ _ (contents-still _ _ _ _ (c.in_ok-sync.ensures.synced told) refl) (contents-still _ _ _ _ (c.in_ok-sync.ensures.synced told) c.in_ok-first.ensures.still)
    (c.in_ok-first.ensures.point told) (c.in_ok-second.ensures.point told) c.later.ensures

pub returns-clause-whole : goal.returns-clause-whole
returns-clause-whole g c told =
    none-bad _ _ _ (contents-still _ _ _ _ (c.in_ok-sync.ensures.synced told) refl) (contents-still _ _ _ _ (c.in_ok-sync.ensures.synced told) c.in_ok-first.ensures.still)
    (c.in_ok-first.ensures.whole told) (c.in_ok-second.ensures.whole told)

pub returns-clause-synced : goal.returns-clause-synced
returns-clause-synced g c told =
    rw (c.in_ok-second.ensures.still, c.in_ok-first.ensures.still) (unsynced-synced _ _ _ (c.in_ok-sync.ensures.synced told))

pub returns-clause-contents : goal.returns-clause-contents
returns-clause-contents g c told =
    contents-still _ _ _ _ (c.in_ok-sync.ensures.synced told) (c.in_ok-second.ensures.still ∙ c.in_ok-first.ensures.still)

pub returns-clause-stops : goal.returns-clause-stops
returns-clause-stops g c told =
    synced-leaves _ _ _ _ (c.in_ok-sync.ensures.synced told) (c.in_ok-second.ensures.still ∙ c.in_ok-first.ensures.still)
