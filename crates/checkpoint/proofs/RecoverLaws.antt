-- What `recover` finds, and what a stop within it may leave.
use Rattle.std.proofs.Common.{◌≡◌, ℕ, Bool, true, false, cond, IsTrue, List, [], Option, None, Some, Result, refl, sym, ap, ◌∙◌, subst}
use Rattle.checkpoint.specs.Faults.{IsRecoverFault, IsSureBad}
use Rattle.checkpoint.specs.Inside.{IsGateFault}
use Rattle.checkpoint.specs.Layout.{bad_place, found, gate_in, is_bad, later_of, point_of}
use Rattle.checkpoint.specs.Vault.{VaultState, IsSynced, MayLeave, Throughout, contents_of, is_synced, unsynced_of}
use Rattle.checkpoint.specs.declared.fault.VaultFault.{VaultFault}
use Rattle.checkpoint.specs.declared.fault.VaultFault.TheVariants as fault
use Rattle.checkpoint.specs.declared.layout.TheConstants.{GATE_GAP}
use Rattle.checkpoint.specs.declared.point.Point.{Point}
use Rattle.checkpoint.proofs.MomentLaws.{throughout-synced}
use Rattle.checkpoint.proofs.SureLaws.{contents-synced, sure-left, sure-own, sure-synced}

-- a sync leaves what could be left before it, and no more
pub synced-leaves : {T E : Type 0} (r : Result T E) (old mid new : VaultState) → IsSynced r old mid → new ≡ mid → Throughout old new (MayLeave old)
synced-leaves {T = T} {E = E} r old mid new s same =
    subst (λ (v : VaultState). Throughout old v (MayLeave old)) (sym same) (throughout-synced {T = T} {E = E} r old mid (MayLeave old) s (λ bytes may. may)
    (λ bytes may. sure-left mid (λ i. is_synced (unsynced_of old) i ≡ true) _ bytes (sure-synced {T = T} {E = E} r old mid _ _ s (sure-own old)) may))

pub contents-still : {T E : Type 0} (r : Result T E) (old mid new : VaultState) → IsSynced r old mid → new ≡ mid → contents_of new ≡ contents_of old
contents-still {T = T} {E = E} r old mid new s same = ap contents_of same ∙ contents-synced {T = T} {E = E} r old mid s

-- the gates, one after the other
pub found-by : (w v u : List ℕ) (p q r : Option Point) → v ≡ w → u ≡ w → p ≡ point_of (gate_in v 0) → q ≡ point_of (gate_in u 1) → r ≡ later_of p q → r ≡ found w
found-by w v u p q r first second one two is =
    is ∙ ap (λ (x : Option Point). later_of x q) (one ∙ ap (λ (l : List ℕ). point_of (gate_in l 0)) first)
    ∙ ap (λ (x : Option Point). later_of (point_of (gate_in w 0)) x) (two ∙ ap (λ (l : List ℕ). point_of (gate_in l 1)) second)

pub none-bad : (w v u : List ℕ) → v ≡ w → u ≡ w → is_bad 0 (gate_in v 0) ≡ false → is_bad 1 (gate_in u 1) ≡ false → bad_place w ≡ None
none-bad w v u first second one two = go (is_bad 0 (gate_in w 0)) (is_bad 1 (gate_in w 1)) (ap (λ (l : List ℕ). is_bad 0 (gate_in l 0)) (sym first) ∙ one) (ap (λ (l : List ℕ). is_bad 1 (gate_in l 1)) (sym second) ∙ two) where
  go : (a b : Bool) → a ≡ false → b ≡ false → cond a (Some 0) (cond b (Some GATE_GAP) None) ≡ None
  go a b p q = rw (p, q) refl

-- ---- refusals

pub first-fault : (tells : Bool) (w v : List ℕ) (before mid now : ℕ) (f : VaultFault) → mid ≡ before → (IsTrue tells → v ≡ w) → IsGateFault tells 0 v mid now f → IsRecoverFault tells w before now f
first-fault tells w v before mid now f calm same is = subst (λ (b : ℕ). IsRecoverFault tells w b now f) calm (go f is) where
  go : (f : VaultFault) → IsGateFault tells 0 v mid now f → IsRecoverFault tells w mid now f
  go (fault.Failed count) is = is
  go (fault.Bad place) is = (
    is.0,
    λ told.
        ap (λ (b : Bool). cond b (Some 0) (cond (is_bad 1 (gate_in w 1)) (Some GATE_GAP) None)) (ap (λ (l : List ℕ). is_bad 0 (gate_in l 0)) (sym (same told)) ∙ is.2 told) ∙ ap Some (sym is.1),
  )
  go (fault.Disk f) is = is
  go fault.Memory is = is

pub second-fault : (tells : Bool) (w v u : List ℕ) (before mid now : ℕ) (f : VaultFault) → mid ≡ before → (IsTrue tells → v ≡ w) → (IsTrue tells → u ≡ w) → (IsTrue tells → is_bad 0 (gate_in v 0) ≡ false)
    → IsGateFault tells 1 u mid now f → IsRecoverFault tells w before now f
second-fault tells w v u before mid now f calm same also good is = subst (λ (b : ℕ). IsRecoverFault tells w b now f) calm (go f is) where
  go : (f : VaultFault) → IsGateFault tells 1 u mid now f → IsRecoverFault tells w mid now f
  go (fault.Failed count) is = is
  go (fault.Bad place) is = (
    is.0,
    λ told.
        ap (λ (b : Bool). cond b (Some 0) (cond (is_bad 1 (gate_in w 1)) (Some GATE_GAP) None)) (ap (λ (l : List ℕ). is_bad 0 (gate_in l 0)) (sym (same told)) ∙ good told)
        ∙ ap (λ (b : Bool). cond b (Some GATE_GAP) None) (ap (λ (l : List ℕ). is_bad 1 (gate_in l 1)) (sym (also told)) ∙ is.2 told) ∙ ap Some (sym is.1),
  )
  go (fault.Disk f) is = is
  go fault.Memory is = is

-- whatever the fault is, where all is synced
pub sure-bad : (s : VaultState) → unsynced_of s ≡ [] → (f : VaultFault) → IsSureBad s f
sure-bad s sure (fault.Failed count) = _
sure-bad s sure (fault.Bad place) = sure
sure-bad s sure (fault.Disk f) = _
sure-bad s sure fault.Memory = _
