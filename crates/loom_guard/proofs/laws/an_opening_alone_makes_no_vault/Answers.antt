use Rattle.std.proofs.Common.{◌≡◌, ◌<◌, ℕ, List, [], length, true, ◌∙◌, ap, subst, arith}
use Rattle.checkpoint.specs.Vault.{Opened, contents_after, contents_of}
use Rattle.checkpoint.proofs.MomentLaws.{contents-push}
use Rattle.loom_guard.specs.Vaults.{SECOND_GATE}
use Rattle.loom_guard.proofs.laws.an_opening_alone_makes_no_vault.Goals as goal

pub returns : goal.returns
returns c = λ old start new same.
    let none : contents_of start ≡ [] = ap (contents_after start.began) same ∙ contents-push start.began old.calls (Opened true []) in
    let long : SECOND_GATE < 0 = subst (λ (bytes : List ℕ). SECOND_GATE < length bytes) none new.gates in
    omega (arith, long)
