-- What calls that do nothing leave as it was, and whether two roles are one.
use Rattle.std.proofs.Common.{◌≡◌, ◌≢◌, ◌⊎◌, inl, inr, List, refl, arith}
use Rattle.loom_host.specs.declared.outside.Role.{Role}
use Rattle.loom_host.specs.declared.outside.Role.TheVariants.{Image, Events, Work, Saved, Display, Transcript, Notes}
use Rattle.loom_run.specs.Meanings.{Meanings, LeavesBut}

pub leaves-all : (roles : List Role) (w : Meanings) → LeavesBut roles w w
leaves-all roles w = record { others = λ r n. record { state = refl; faults = refl }; writes = λ n. refl; later = λ r. omega arith }

pub is-role : (a b : Role) → (a ≡ b) ⊎ (a ≢ b)
is-role Image Image = inl refl
is-role Events Events = inl refl
is-role Work Work = inl refl
is-role Saved Saved = inl refl
is-role Display Display = inl refl
is-role Transcript Transcript = inl refl
is-role Notes Notes = inl refl
is-role _ _ = inr (λ e. cc)
