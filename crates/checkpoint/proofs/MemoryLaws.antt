-- What the calls of a vault in memory did, by what its journal says.
use Rattle.std.proofs.Common.{◌≡◌, ◌⊎◌, inl, inr, ℕ, ◌+◌, ◌-◌, ◌<◌, ◌≤◌, None, Bool, true, false, is_err, IsOk, List, [], ◌∷◌, length, Option, Result, Ok, Err, OnOk, OnErr, IsErr, sym, ap, ◌∙◌, subst, arith}
use Rattle.std.specs.Option.{option_map}
use Rattle.std.proofs.lemmas.Bool.{false≢true}
use Rattle.loom_host.specs.Bytes.{overwritten}
use Rattle.loom_host.proofs.Windows.{get_or-overwritten, byte_after_outside}
use Rattle.loom_host.specs.Outside.{HasCause}
use Rattle.loom_host.specs.declared.outside.Failed.{Failed}
use Rattle.checkpoint.specs.Journal.{HasRoomIn}
use Rattle.checkpoint.specs.Memory.{opened_as, with_opening}
use Rattle.checkpoint.specs.Vault.{VaultState, Written, IsSameOutside, IsWritten, behind, contents_of}
use Rattle.checkpoint.specs.declared.journal.Journal.{Journal}

around : (at i : ℕ) → (i < at) ⊎ (at + 0 ≤ i)
around at i = grind arith

-- an empty piece leaves all as it was
none-outside : (w : List ℕ) (place len at : ℕ) → IsSameOutside place len w (overwritten w at [])
none-outside w place len at i out = get_or-overwritten w at [] i ∙ byte_after_outside w at [] i (around at i)

-- a write that fails, by what its journal answered
pub failed-written : {A B T E : Type 0} (r : Result A B) (result : Result T E) (place : ℕ) (bytes : List ℕ) (openings : ℕ) (name : Option (List ℕ)) (before after old new : VaultState) → IsErr result
    → OnOk r (after ≡ behind before (Written false place (length bytes) (overwritten (contents_of before) (place + length bytes) []) ∷ [])) → OnErr r (after ≡ before)
    → opened_as openings name before ≡ old → new ≡ opened_as openings name after → IsWritten place bytes result old new
failed-written r (Ok x) place bytes openings name before after old new err joined still first last = absurd (false≢true err)
failed-written (Ok y) (Err e) place bytes openings name before after old new err joined still first last = inl (record {
  left = overwritten (contents_of old) (place + length bytes) [];
  is = last ∙ ap (opened_as openings name) joined ∙ ap (λ (s : VaultState). behind s (Written false place (length bytes) (overwritten (contents_of s) (place + length bytes) []) ∷ [])) first;
  written = tt;
  outside = none-outside (contents_of old) place (length bytes) (place + length bytes);
})
failed-written (Err y) (Err e) place bytes openings name before after old new err joined still first last = inr (err, last ∙ ap (opened_as openings name) still ∙ first)

-- a failure that is counted
pub fail-cause : {T : Type 0} (result : Result T Failed) (old mid new : ℕ) → mid ≡ old → HasCause mid new result → HasCause old new result
fail-cause result old mid new same cause = subst (λ (n : ℕ). HasCause n new result) same cause

-- ---- room

pub fresh-room : (fresh : Bool) (calls bytes end : ℕ) (j : Journal) → fresh ≡ true → HasRoomIn (with_opening fresh calls) bytes end j → HasRoomIn (calls + 1) bytes end j
fresh-room fresh calls bytes end j is room = subst (λ (b : Bool). HasRoomIn (with_opening b calls) bytes end j) is room

-- what holds of an answer that is Ok
pub when-ok : {A B P : Type 0} (r : Result A B) (tested : Bool) → tested ≡ is_err r → tested ≡ false → OnOk r P → P
when-ok (Ok x) tested value passed holds = holds
when-ok (Err e) tested value passed holds = absurd (false≢true (sym passed ∙ value))

-- an answer that is Ok isn't refused
pub no-refusal : {A B P : Type 0} (r : Result A B) (tested : Bool) → IsOk r → tested ≡ is_err r → tested ≡ true → P
no-refusal (Ok x) tested ok value refused = absurd (false≢true (sym value ∙ refused))
no-refusal (Err e) tested ok value refused = absurd (false≢true ok)

-- a call that isn't due isn't failed
pub not-due : {P : Type 0} (due : Bool) → due ≡ false → due ≡ true → P
not-due due passes is = absurd (false≢true (sym passes ∙ is))

-- a fuse that isn't set stays so
pub fuse-unset : (old new : Option ℕ) → old ≡ None → new ≡ option_map (λ calls. calls - 1) old → new ≡ None
fuse-unset old new unset next = next ∙ ap (option_map (λ calls. calls - 1)) unset
