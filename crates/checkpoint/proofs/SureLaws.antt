-- Places of which it is known what any stop leaves there, as calls go on.
use Rattle.std.proofs.Common.{◌≡◌, ◌⊎◌, inl, inr, ⊎_elim, ℕ, ◌+◌, ◌<◌, ◌≤◌, ◌&&◌, Bool, true, not, List, [], ◌∷◌, length, get_or, Result, Ok, Err, OnOk, OnErr, refl, sym, ap, ◌∙◌, subst, arith}
use Rattle.std.proofs.lemmas.Bool.{false≢true}
use Rattle.std.proofs.lemmas.Bool.Decides.{nat_tests}
use Rattle.loom_host.specs.Bytes.{overwritten}
use Rattle.loom_host.proofs.Windows.{get_or-overwritten, byte_after_outside}
use Rattle.checkpoint.specs.Sparing.{Sure}
use Rattle.checkpoint.specs.Vault.{Span, VaultState, Run, DoesNothing, IsEmpty, IsSynced, IsWritten, MayLeave, Writes, contents_of, is_in, is_synced, unsynced_of}
use Rattle.checkpoint.proofs.MomentLaws.{contents-behind, unsynced-behind}

-- any stop leaves it there
pub sure-left : (s : VaultState) (At : ℕ → Type 0) (byte : ℕ → ℕ) (bytes : List ℕ) → Sure s At byte → MayLeave s bytes → (i : ℕ) → At i → get_or bytes i 0 ≡ byte i
sure-left s At byte bytes sure may i at = may i (sure.synced i at) ∙ sure.held i at

-- of an empty vault all is known, and of any what is synced
pub sure-empty : (s : VaultState) → IsEmpty s → Sure s (λ i. Unit {0}) (λ i. 0)
sure-empty s empty = record {
  synced = λ i at. ap (λ (spans : List Span). is_synced spans i) empty.synced;
  held = λ i at. ap (λ (l : List ℕ). get_or l i 0) empty.contents;
}

pub sure-own : (s : VaultState) → Sure s (λ i. is_synced (unsynced_of s) i ≡ true) (λ i. get_or (contents_of s) i 0)
sure-own s = record { synced = λ i at. at; held = λ i at. refl }

pub sure-part : (s : VaultState) (All Some : ℕ → Type 0) (byte : ℕ → ℕ) → ((i : ℕ) → Some i → All i) → Sure s All byte → Sure s Some byte
sure-part s All Some byte part sure = record { synced = λ i at. sure.synced i (part i at); held = λ i at. sure.held i (part i at) }

pub sure-same : (s t : VaultState) (At : ℕ → Type 0) (byte : ℕ → ℕ) → t ≡ s → Sure s At byte → Sure t At byte
sure-same s t At byte same sure = subst (λ (v : VaultState). Sure v At byte) (sym same) sure

-- where a sync that answered Ok just was, all is known
pub sure-synced_all : (s : VaultState) → unsynced_of s ≡ [] → Sure s (λ i. Unit {0}) (λ i. get_or (contents_of s) i 0)
sure-synced_all s none = record {
  synced = λ i at. ap (λ (spans : List Span). is_synced spans i) none;
  held = λ i at. refl;
}

-- ---- a write elsewhere

out_of_run : (i place len : ℕ) → (i < place) ⊎ (place + len ≤ i) → not (is_in i (Run place len)) ≡ true
out_of_run i place len out = grind (arith, nat_tests)

still_synced : (spans : List Span) (i place len : ℕ) → (i < place) ⊎ (place + len ≤ i) → is_synced spans i ≡ true → is_synced (Run place len ∷ spans) i ≡ true
still_synced spans i place len out synced =
    ap (λ (b : Bool). b && is_synced spans i) (out_of_run i place len out) ∙ synced

not_within : (i place len : ℕ) → (i < place) ⊎ (place + len ≤ i) → place ≤ i → i < place + len → ⊥
not_within i place len out low high = ⊎_elim (λ (h : i < place). omega arith) (λ (h : place + len ≤ i). omega arith) out

-- where a call failed and did nothing
sure-nothing : {T E : Type 0} (r : Result T E) (old new : VaultState) (At : ℕ → Type 0) (byte : ℕ → ℕ) → DoesNothing r old new → Sure old At byte → Sure new At byte
sure-nothing r old new At byte nothing sure = subst (λ (s : VaultState). Sure s At byte) (sym nothing.1) sure

pub outside-written : {T E : Type 0} (r : Result T E) (place : ℕ) (bytes : List ℕ) (old new : VaultState) → IsWritten place bytes r old new → (i : ℕ) → (i < place) ⊎ (place + length bytes ≤ i)
    → get_or (contents_of new) i 0 ≡ get_or (contents_of old) i 0
outside-written r place bytes old new (inl w) i out = ap (λ (l : List ℕ). get_or l i 0) (ap contents_of w.is ∙ contents-behind old _) ∙ left r place bytes old new w i out where
  left : {T E : Type 0} (r : Result T E) (place : ℕ) (bytes : List ℕ) (old new : VaultState) (w : Writes place bytes r old new) (i : ℕ) → (i < place) ⊎ (place + length bytes ≤ i)
      → get_or w.left i 0 ≡ get_or (contents_of old) i 0
  left (Ok x) place bytes old new w i out =
      ap (λ (l : List ℕ). get_or l i 0) w.written ∙ get_or-overwritten (contents_of old) place bytes i ∙ byte_after_outside (contents_of old) place bytes i out
  left (Err e) place bytes old new w i out = w.outside i (not_within i place (length bytes) out)
outside-written r place bytes old new (inr nothing) i out = ap (λ (s : VaultState). get_or (contents_of s) i 0) nothing.1

-- what was written stands there, where it answered Ok
pub contents-written : {T E : Type 0} (r : Result T E) (place : ℕ) (bytes : List ℕ) (old new : VaultState) → IsWritten place bytes r old new → OnOk r (contents_of new ≡ overwritten (contents_of old) place bytes)
contents-written (Ok x) place bytes old new (inl w) = ap contents_of w.is ∙ contents-behind old _ ∙ w.written
contents-written (Ok x) place bytes old new (inr nothing) = absurd (false≢true nothing.0)
contents-written (Err e) place bytes old new w = tt

pub sure-written : {T E : Type 0} (r : Result T E) (place : ℕ) (bytes : List ℕ) (old new : VaultState) (At : ℕ → Type 0) (byte : ℕ → ℕ) → IsWritten place bytes r old new
    → ((i : ℕ) → At i → (i < place) ⊎ (place + length bytes ≤ i)) → Sure old At byte → Sure new At byte
sure-written {T = T} {E = E} r place bytes old new At byte (inl w) out sure = record {
  synced = λ i at. ap (λ (spans : List Span). is_synced spans i) (ap unsynced_of w.is ∙ unsynced-behind old _)
      ∙ still_synced (unsynced_of old) i place (length bytes) (out i at) (sure.synced i at);
  held = λ i at. outside-written {T = T} {E = E} r place bytes old new (inl w) i (out i at) ∙ sure.held i at;
}
sure-written r place bytes old new At byte (inr nothing) out sure = sure-nothing r old new At byte nothing sure

-- ---- a sync

pub contents-synced : {T E : Type 0} (r : Result T E) (old new : VaultState) → IsSynced r old new → contents_of new ≡ contents_of old
contents-synced r old new (inl s) = ap contents_of s.is ∙ contents-behind old _
contents-synced r old new (inr nothing) = ap contents_of nothing.1

pub unsynced-synced : {T E : Type 0} (r : Result T E) (old new : VaultState) → IsSynced r old new → OnOk r (unsynced_of new ≡ [])
unsynced-synced (Ok x) old new (inl s) = ap unsynced_of s.is ∙ unsynced-behind old _
unsynced-synced (Ok x) old new (inr nothing) = absurd (false≢true nothing.0)
unsynced-synced (Err e) old new s = tt

unsynced-failed : {T E : Type 0} (r : Result T E) (old new : VaultState) → IsSynced r old new → OnErr r (unsynced_of new ≡ unsynced_of old)
unsynced-failed (Ok x) old new s = tt
unsynced-failed (Err e) old new (inl s) = ap unsynced_of s.is ∙ unsynced-behind old _
unsynced-failed (Err e) old new (inr nothing) = ap unsynced_of nothing.1

pub sure-synced : {T E : Type 0} (r : Result T E) (old new : VaultState) (At : ℕ → Type 0) (byte : ℕ → ℕ) → IsSynced r old new → Sure old At byte → Sure new At byte
sure-synced {T = T} {E = E} (Ok x) old new At byte s sure = record {
  synced = λ i at. ap (λ (spans : List Span). is_synced spans i) (unsynced-synced {T = T} {E = E} (Ok x) old new s);
  held = λ i at. ap (λ (l : List ℕ). get_or l i 0) (contents-synced {T = T} {E = E} (Ok x) old new s) ∙ sure.held i at;
}
sure-synced {T = T} {E = E} (Err e) old new At byte s sure = record {
  synced = λ i at. ap (λ (spans : List Span). is_synced spans i) (unsynced-failed {T = T} {E = E} (Err e) old new s) ∙ sure.synced i at;
  held = λ i at. ap (λ (l : List ℕ). get_or l i 0) (contents-synced {T = T} {E = E} (Err e) old new s) ∙ sure.held i at;
}
