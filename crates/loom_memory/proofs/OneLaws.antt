-- At most one object comes in with a call: what this is made of.
use Rattle.std.specs.Option.{is_some}
use Rattle.std.proofs.Common.{◌≡◌, ◌⊎◌, inl, inr, ℕ, false, refl, Option, None, Some, Result, Ok, Err, sym, ◌∙◌, ap, ⊎_elim}
use Rattle.std.specs.Result.{OnOk, OnErr}
use Rattle.long_names.specs.Counting.{counted}
use Rattle.long_names.specs.State.{name_at, IsRef}
use Rattle.loom_host.specs.declared.outside.Host.{Ghosts}
use Rattle.object_table.specs.Entries.{place_of}
use Rattle.leaf_lambda.specs.Parts.{core_of}
use Rattle.purger.specs.Purge.{HasRoom}
use Rattle.loom_memory.specs.declared.memory.LoomMemory.{LoomMemory}
use Rattle.loom_memory.specs.Own.{BringsOne}
use Rattle.loom_memory.specs.Memory.{loom_told, word_in, IsSound}
use Rattle.loom_memory.specs.Residents.{fetched, is_resident}
use Rattle.loom_memory.proofs.GentleLaws.{resident-at}

pub brings-none : {H : Type 0} {host : Ghosts H} (m n : LoomMemory H host) (P : Type 0) → fetched n ≡ fetched m → BringsOne m n P
brings-none {H} {host} m n P same = inl same

pub brings-then : {H : Type 0} {host : Ghosts H} (a b c : LoomMemory H host) (P : Type 0) → BringsOne a b P → fetched c ≡ fetched b → BringsOne a c P
brings-then {H} {host} a b c P x same = ⊎_elim (λ (is : fetched b ≡ fetched a). inl (same ∙ is)) (λ one. inr (one.0, same ∙ one.1)) x

pub brings-where : {H : Type 0} {host : Ghosts H} (a b : LoomMemory H host) (P Q : Type 0) → (P → Q) → BringsOne a b P → BringsOne a b Q
brings-where {H} {host} a b P Q f x = ⊎_elim (λ (is : fetched b ≡ fetched a). inl is) (λ one. inr (f one.0, one.1)) x

-- a leaf came in, unless the call was refused
pub brings-leaf : {T E H : Type 0} {host : Ghosts H} (r : Result T E) (a b c : LoomMemory H host) (P : Type 0) → fetched b ≡ fetched a → P → OnOk r (fetched c ≡ counted (fetched b)) → OnErr r (fetched c ≡ fetched b) → BringsOne a c P
brings-leaf {T} {E} {H} {host} (Ok x) a b c P same is one none = inr (is, one ∙ ap counted same)
brings-leaf {T} {E} {H} {host} (Err f) a b c P same is one none = inl (none ∙ same)

-- room was made first, by which the object may have been let go
pub brings-later : {H : Type 0} {host : Ghosts H} (m u n : LoomMemory H host) (s : ℕ) → fetched u ≡ fetched m → (HasRoom m.pager.levels.parts 0 27 → u ≡ m) → BringsOne u n (place_of ((core_of u.pager.levels.parts).entries s).state ≡ None)
    → BringsOne m n ((place_of ((core_of m.pager.levels.parts).entries s).state ≡ None) ⊎ (HasRoom m.pager.levels.parts 0 27 → ⊥))
brings-later {H} {host} m u n s same idle x = ⊎_elim (λ (is : fetched n ≡ fetched u). inl (is ∙ same)) (λ one. inr (go (place_of ((core_of m.pager.levels.parts).entries s).state) refl one.0, one.1 ∙ ap counted same)) x
  where
    go : (o : Option ℕ) → place_of ((core_of m.pager.levels.parts).entries s).state ≡ o → place_of ((core_of u.pager.levels.parts).entries s).state ≡ None → (place_of ((core_of m.pager.levels.parts).entries s).state ≡ None) ⊎ (HasRoom m.pager.levels.parts 0 27 → ⊥)
    go None e leaf = inl e
    go (Some p) e leaf = inr (λ room. let both : Some p ≡ None = sym e ∙ ap (λ (k : LoomMemory H host). place_of ((core_of k.pager.levels.parts).entries s).state) (sym (idle room)) ∙ leaf in cc)

-- a leaf isn't in the core
pub leaf-away : {H : Type 0} (host : Ghosts H) (m : LoomMemory H host) (of s : ℕ) (R : Type 0) → IsSound host m → IsRef ((loom_told host m).regs of) → s ≡ word_in m.regs of
    → (place_of ((core_of m.pager.levels.parts).entries s).state ≡ None) ⊎ R → (is_resident m (name_at ((loom_told host m).regs of)) ≡ false) ⊎ R
leaf-away {H} host m of s R sound name here x = ⊎_elim (λ (leaf : place_of ((core_of m.pager.levels.parts).entries s).state ≡ None). inl (resident-at host m of s sound name here ∙ ap (λ (o : Option ℕ). is_some o) leaf)) (λ (r : R). inr r) x
