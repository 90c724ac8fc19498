-- What `keep` reads of the disk before it writes to the vault, and why it was refused.
use Rattle.std.proofs.Common.{◌≡◌, ℕ, ◌≤◌, List, length, Option, IsTrue, inl, inr, refl, sym, ap, subst, ◌∙◌, arith}
use Rattle.std.specs.Prelude.{All}
use Rattle.std.specs.FinMap as map
use Rattle.std.proofs.lemmas.List.{length-map}
use Rattle.long_names.specs.Heap.{Has}
use Rattle.long_names.specs.declared.object.Object.{Object}
use Rattle.loom_host.specs.Work.{IsWorkRead, work_of}
use Rattle.loom_host.specs.declared.outside.DiskFault.TheVariants as disk
use Rattle.loom_host.specs.declared.outside.Host.{Ghosts}
use Rattle.loom_host.specs.declared.outside.Role.TheVariants.{Work}
use Rattle.work_directory.specs.Directory.{held_of}
use Rattle.work_directory.specs.declared.limits.TheConstants.{MOST_NAMES}
use Rattle.disk_objects.specs.Calls.{HoldsObjects, IsNamesFault}
use Rattle.disk_objects.specs.Disk.{Objects, IsDisk, disk_held}
use Rattle.disk_objects.specs.Function.{disk_of}
use Rattle.disk_objects.specs.declared.names.NamesFault.{NamesFault}
use Rattle.disk_objects.specs.declared.names.NamesFault.TheVariants as names
use Rattle.disk_objects.specs.declared.rest.DiskRest.{DiskRest}
use Rattle.disk_objects.proofs.KeyLaws.{disk-len}
use Rattle.image_format.specs.declared.opening.State.{State}
use Rattle.image_writer.specs.Saved.{IsExact, disk_heap, kept_state, saved_text}
use Rattle.image_writer.proofs.DiskFacts.{same_disk, same_heap, still_holds}
use Rattle.image_writer.proofs.SaveLaws.{exact_heap, names_there, text_is}
use Rattle.checkpoint.specs.Faults.{IsKeepFault, fault_of_names}
use Rattle.checkpoint.specs.Inside.{HoldsNamed, image_text}
use Rattle.checkpoint.specs.Keeping.{HasEither}
use Rattle.checkpoint.specs.Vault.{VaultState, Throughout}
use Rattle.checkpoint.proofs.MomentLaws.{throughout-gives}

-- ---- names, state and text

held-most : (rest : DiskRest) → disk_held rest ≤ MOST_NAMES
unfolding held_of
held-most rest = let fits = rest.directory.fits in let most = rest.directory.most in omega arith

keys-most : (rest : DiskRest) (work : List ℕ) (objects : Objects) (pending : List ℕ) → IsDisk rest work objects pending → length (map.keys objects) ≤ MOST_NAMES
keys-most rest work objects pending is =
    let all = length-map (map.entries objects) (λ e. e.0) ∙ sym (map.len-entries objects) ∙ disk-len rest work objects pending is in
    let most = held-most rest in
    omega arith

-- the names were read, and then what is kept of the state
module _ {H : Type 0} (host : Ghosts H) (a b c : H) (rest rest_b rest_c : DiskRest) (next : ℕ) (state kept : State) (names : List ℕ)
    (stands : HoldsObjects host a rest) (exact : IsTrue (host.tells Work) → IsExact host a rest next)
    (first : IsWorkRead host a b) (second : IsWorkRead host b c) (same : rest_b ≡ rest) (also : rest_c ≡ rest_b)
    (keys : IsTrue (host.tells Work) → (objects : Objects) (pending : List ℕ) → IsDisk rest (work_of host a) objects pending → names ≡ map.keys objects)
    (state_is : IsTrue (host.tells Work) → kept ≡ kept_state (disk_of host b rest_b) state) where
  pub read-stands : HoldsObjects host c rest_c
  read-stands = still_holds host a c rest rest_c (second.roles Work ∙ first.roles Work) (also ∙ same) stands

  pub read-few : IsTrue (host.tells Work) → length names ≤ MOST_NAMES
  read-few told =
      let s = stands told in
      subst (λ (ns : List ℕ). length ns ≤ MOST_NAMES) (sym (keys told s.0 s.1 s.2)) (keys-most rest (work_of host a) s.0 s.1 s.2)

  pub read-named : HoldsNamed host c rest_c names (disk_heap host a rest next)
  read-named told =
      let s = stands told in (
        same_heap host a c rest rest_c (disk_heap host a rest next) (second.roles Work ∙ first.roles Work) (also ∙ same) (exact_heap host a rest next (exact told)),
        subst (λ (ns : List ℕ). All (Has (disk_heap host a rest next)) ns) (sym (keys told s.0 s.1 s.2)) (names_there host a rest next s.0 s.1 s.2),
      )

  pub read-text : IsTrue (host.tells Work) → image_text (disk_held rest_c) next kept names (disk_heap host a rest next) ≡ saved_text (disk_heap host a rest next) state
  read-text told =
      let s = stands told in
      text_is host a rest next s.0 s.1 s.2 state kept names (disk_held rest_c) (exact told) (keys told s.0 s.1 s.2)
      (state_is told ∙ ap (λ (at : ℕ → Option Object). kept_state at state) (same_disk host a b rest rest_b (first.roles Work) same))
      (ap (λ (r : DiskRest). disk_held r) (also ∙ same))

-- ---- the same text in other words

either-gives : (old : List ℕ) (n : ℕ) (P Q : List ℕ → Type 0) → ((text : List ℕ) → P text → Q text) → (w : List ℕ) → HasEither old n P w → HasEither old n Q w
either-gives old n P Q gives w (inl same) = inl same
either-gives old n P Q gives w (inr next) = inr (record {
  whole = next.whole;
  point = next.point;
  found_is = next.found_is;
  serial_is = next.serial_is;
  text = gives _ next.text;
})

pub stops-text : (tells : Type 0) (a b : VaultState) (old : List ℕ) (n : ℕ) (v w : List ℕ) → (tells → v ≡ w) → Throughout a b (HasEither old n (λ text. tells → text ≡ v))
    → Throughout a b (HasEither old n (λ text. tells → text ≡ w))
stops-text tells a b old n v w same all =
    throughout-gives a b (HasEither old n (λ text. tells → text ≡ v)) (HasEither old n (λ text. tells → text ≡ w))
    (either-gives old n (λ text. tells → text ≡ v) (λ text. tells → text ≡ w) (λ text is told. is told ∙ same told)) all

-- ---- refusals

module _ {H : Type 0} (host : Ghosts H) where
  -- before any call on the vault
  pub names-fault : (old new : H) (rest : DiskRest) (vault : ℕ) (f : NamesFault)
      → IsNamesFault (host.tells Work) (host.faults old Work) (host.faults new Work) rest f → IsKeepFault host old new vault vault (fault_of_names f)
  names-fault old new rest vault (names.Disk (disk.Work count)) is = (refl, is)
  names-fault old new rest vault (names.Disk (disk.Full held room)) is = (refl, is)
  names-fault old new rest vault (names.Disk (disk.Damaged place name)) is = (refl, is.0)
  names-fault old new rest vault names.Memory is = refl
