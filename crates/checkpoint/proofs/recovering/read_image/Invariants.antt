use Rattle.std.proofs.Common.{◌≡◌, ◌*◌, IsTrue, min, vec_len}
use Rattle.checkpoint.specs.Layout.{area_in}
use Rattle.checkpoint.specs.Vault.{contents_of}
use Rattle.checkpoint.specs.declared.layout.TheConstants.{BLOCK}
use Rattle.checkpoint.proofs.recovering.read_image.Given as goal

abbrev pub invariant-loop-b : goal.invariant-loop-b
invariant-loop-b g l = record {
  sized : vec_len l.block ≡ BLOCK;
  image : IsTrue g.V.Vault.tells → l.image ≡ area_in (contents_of (g.V.Vault.state l.initial.vault)) l.parity (min l.point.len (l.b * BLOCK));
  still : g.V.Vault.state l.vault ≡ g.V.Vault.state l.initial.vault;
  calm : g.V.Vault.faults l.vault ≡ g.V.Vault.faults l.initial.vault;
}
