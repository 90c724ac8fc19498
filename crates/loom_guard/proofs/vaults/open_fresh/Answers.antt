use Rattle.std.proofs.Common.{rules}
use Rattle.loom_guard.proofs.VaultLaws.{new-left, new-opened}
use Rattle.loom_guard.proofs.vaults.open_fresh.Goals as goal

pub returns-in-Ok-clause-found : goal.returns-in-Ok-clause-found
returns-in-Ok-clause-found g c = λ told. new-opened c.args.name.now c.open_named.result _ (g.V.Vault.state c.open_named.new.self) _ (search rules) (c.open_named.ensures.opened told) (c.fresh.ensures.extends told) (c.fresh.ensures.stops told) (c.in-Ok.ensures.written told)

pub returns-in-Err-clause-left : goal.returns-in-Err-clause-left
returns-in-Err-clause-left g c = λ told. new-left c.args.name.now c.open_named.result _ (g.V.Vault.state c.open_named.new.self) _ (search rules) (c.open_named.ensures.opened told) (c.fresh.ensures.extends told) (c.fresh.ensures.stops told)
