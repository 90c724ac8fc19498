use Rattle.loom_guard.proofs.VaultLaws.{kept-recovered, kept-read}
use Rattle.loom_guard.proofs.vaults.open_kept.Goals as goal

pub returns-in-Ok-clause-found : goal.returns-in-Ok-clause-found
returns-in-Ok-clause-found g c = λ told.
    kept-read c.args.name.now c.open_named.result _ (g.V.Vault.state c.open_named.new.self) (g.V.Vault.state c.recover.new.vault) _ (c.open_named.ensures.opened told) (c.recover.ensures.contents told) (c.recover.ensures.stops told) c.read_telling.ensures.still

pub returns-in-Ok-None-clause-left : goal.returns-in-Ok-None-clause-left
returns-in-Ok-None-clause-left g c = λ told.
    kept-recovered c.args.name.now c.open_named.result _ (g.V.Vault.state c.open_named.new.self) _ (c.open_named.ensures.opened told) (c.recover.ensures.contents told) (c.recover.ensures.stops told)

pub returns-in-Err-Bad-clause-left : goal.returns-in-Err-Bad-clause-left
returns-in-Err-Bad-clause-left g c = λ told.
    kept-recovered c.args.name.now c.open_named.result _ (g.V.Vault.state c.open_named.new.self) _ (c.open_named.ensures.opened told) (c.recover.ensures.contents told) (c.recover.ensures.stops told)

pub returns-in-Err-clause-left : goal.returns-in-Err-clause-left
returns-in-Err-clause-left g c = λ told.
    kept-recovered c.args.name.now c.open_named.result _ (g.V.Vault.state c.open_named.new.self) _ (c.open_named.ensures.opened told) (c.recover.ensures.contents told) (c.recover.ensures.stops told)

pub returns-in-Err-Memory-clause-left : goal.returns-in-Err-Memory-clause-left
returns-in-Err-Memory-clause-left g c = λ told.
    kept-read c.args.name.now c.open_named.result _ (g.V.Vault.state c.open_named.new.self) (g.V.Vault.state c.recover.new.vault) _ (c.open_named.ensures.opened told) (c.recover.ensures.contents told) (c.recover.ensures.stops told) c.read_telling.ensures.still

pub returns-in-Err-read_telling-clause-left : goal.returns-in-Err-read_telling-clause-left
returns-in-Err-read_telling-clause-left g c = λ told.
    kept-read c.args.name.now c.open_named.result _ (g.V.Vault.state c.open_named.new.self) (g.V.Vault.state c.recover.new.vault) _ (c.open_named.ensures.opened told) (c.recover.ensures.contents told) (c.recover.ensures.stops told) c.read_telling.ensures.still
