use Rattle.std.proofs.Common.{◌≡◌, ◌+◌, ◌++◌, length, IsTrue}
use Rattle.checkpoint.specs.Area.{len_of, text_of}
use Rattle.checkpoint.specs.Sparing.{IsApart, Spares}
use Rattle.checkpoint.specs.Vault.{contents_of}
use Rattle.checkpoint.proofs.area.Area.put.Given as goal

abbrev pub invariant-loop-rest : goal.invariant-loop-rest
invariant-loop-rest g l = record {
  text : IsTrue g.V.Vault.tells → text_of l.self (contents_of (g.V.Vault.state l.vault)) ++ l.rest ≡ text_of l.fn.self (contents_of (g.V.Vault.state l.fn.vault)) ++ l.fn.bytes;
  len : len_of l.self + length l.rest ≡ len_of l.fn.self + length l.fn.bytes;
  parity : l.self.parity ≡ l.fn.self.parity;
  spares : IsTrue g.V.Vault.tells → Spares (IsApart l.fn.self.parity) (g.V.Vault.state l.fn.vault) (g.V.Vault.state l.vault);
  calm : g.V.Vault.faults l.vault ≡ g.V.Vault.faults l.fn.vault;
}

abbrev pub decreases-loop-rest : goal.decreases-loop-rest
decreases-loop-rest g l = length l.rest
