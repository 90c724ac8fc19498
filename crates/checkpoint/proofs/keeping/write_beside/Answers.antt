use Rattle.std.proofs.Common.{ℕ, ◌%◌, List, sym, ap, subst, ◌∙◌}
use Rattle.std.proofs.lemmas.Result.{err_from_is_err_and}
use Rattle.checkpoint.specs.Inside.{HasHead}
use Rattle.checkpoint.specs.Layout.{area_in}
use Rattle.checkpoint.specs.Vault.{contents_of}
use Rattle.checkpoint.proofs.GateLaws.{apart-in, spares-sync}
use Rattle.checkpoint.proofs.SparesLaws.{spares-then}
use Rattle.checkpoint.proofs.SureLaws.{contents-synced, unsynced-synced}
use Rattle.checkpoint.proofs.keeping.write_beside.Goals as goal

pub returns-in_err-len-clause-fault : goal.returns-in_err-len-clause-fault
returns-in_err-len-clause-fault g c h named =
    let p = err_from_is_err_and c.from_residual.result c.from_residual.ensures.1 in
    rw (p.1, p.2) (c.in_err-len.ensures.fault h named)

pub returns-in_err-write_head-clause-spares : goal.returns-in_err-write_head-clause-spares
returns-in_err-write_head-clause-spares g c told =
    spares-then _ _ _ _ (apart-in _ _ _ _ c.requires.parity (c.in_ok-len.ensures.spares told)) (c.in_err-write_head.ensures.spares told)

pub returns-in_err-sync-clause-spares : goal.returns-in_err-sync-clause-spares
returns-in_err-sync-clause-spares g c told =
    spares-sync _ _ _ _ _
    (spares-then _ _ _ _ (apart-in _ _ _ _ c.requires.parity (c.in_ok-len.ensures.spares told)) (c.in_ok-write_head.ensures.spares told))
    (c.in_err-sync.ensures.synced told)

pub returns-clause-text : goal.returns-clause-text
returns-clause-text g c h named told work =
    ap (λ (l : List ℕ). area_in l (c.args.serial % 2) c.in_ok-len.len) (contents-synced _ _ _ (c.in_ok-sync.ensures.synced told))
    ∙ c.in_ok-write_head.ensures.image told c.in_ok-len.len
    ∙ ap (λ (s : ℕ). area_in (contents_of (g.V.Vault.state c.write_image.new.vault)) s c.in_ok-len.len) (sym c.requires.parity)
    ∙ c.in_ok-len.ensures.text h named told work

pub returns-clause-head : goal.returns-clause-head
returns-clause-head g c told =
    subst (λ (l : List ℕ). HasHead l (c.args.serial % 2) (record { serial = c.args.serial; len = c.in_ok-len.len }))
    (sym (contents-synced _ _ _ (c.in_ok-sync.ensures.synced told)))
    (c.in_ok-write_head.ensures.head told)

pub returns-clause-synced : goal.returns-clause-synced
returns-clause-synced g c told = unsynced-synced _ _ _ (c.in_ok-sync.ensures.synced told)

pub returns-clause-spares : goal.returns-clause-spares
returns-clause-spares g c told =
    spares-sync _ _ _ _ _
    (spares-then _ _ _ _ (apart-in _ _ _ _ c.requires.parity (c.in_ok-len.ensures.spares told)) (c.in_ok-write_head.ensures.spares told))
    (c.in_ok-sync.ensures.synced told)
