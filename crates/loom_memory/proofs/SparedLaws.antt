-- A refused making that had neither to free dead objects nor to make room touched nothing.
use Rattle.std.proofs.Common.{◌≡◌, ℕ, ◌+◌, ◌<◌, IsTrue, Ok, Err, Result, sym, ◌∙◌, subst, ⊎_elim}
use Rattle.std.specs.Prelude.{IfErr, OnOk}
use Rattle.long_names.specs.Objects.{Making, body_made, body_words}
use Rattle.loom_host.specs.declared.outside.Host.{Ghosts}
use Rattle.loom_host.specs.declared.outside.Role.TheVariants.{Work}
use Rattle.object_memory.specs.declared.fault.MemFault.{MemFault}
use Rattle.disk_objects.specs.Disk.{disk_room}
use Rattle.leaf_lambda.specs.Parts.{core_of}
use Rattle.purger.specs.Purge.{HasRoom}
use Rattle.loom_memory.specs.declared.memory.LoomMemory.{LoomMemory}
use Rattle.loom_memory.specs.Gentle.{IsResting, IsSpared}
use Rattle.loom_memory.specs.Own.{HasAllFor, HasSpaceFor}
use Rattle.loom_memory.specs.Gentle.{KeepsCache}
use Rattle.loom_memory.proofs.GentleLaws.{remains-trans}

pub spared-trans : {H : Type 0} (host : Ghosts H) (a b c : LoomMemory H host) → IsSpared host a b → IsSpared host b c → IsSpared host a c
spared-trans {H} host a b c x y = record {
  idle = record { host = y.idle.host ∙ x.idle.host; rest = y.idle.rest ∙ x.idle.rest; fetches = y.idle.fetches ∙ x.idle.fetches };
  remains = λ told. remains-trans (core_of a.pager.levels.parts) (core_of b.pager.levels.parts) (core_of c.pager.levels.parts) (x.remains told) (y.remains told);
  cached = λ told. y.cached told ∙ x.cached told;
}

pub rest-spared : {H : Type 0} (host : Ghosts H) (m u : LoomMemory H host) → IsResting m u → KeepsCache host m u → IsSpared host m u
rest-spared {H} host m u rest keeps = record { idle = rest.idle; remains = λ told. rest.remains; cached = λ told. keeps }

-- room was made before
pub spared-then : {T H P : Type 0} (r : Result T MemFault) (host : Ghosts H) (m u v : LoomMemory H host) → (P → IsResting m u) → (P → KeepsCache host m u) → IfErr r (λ f. IsSpared host u v) → IfErr r (λ f. P → IsSpared host m v)
spared-then {T} {H} {P} (Ok x) host m u v rest keeps last = tt
spared-then {T} {H} {P} (Err f) host m u v rest keeps last = λ p. spared-trans host m u v (rest-spared host m u (rest p) (keeps p)) last

-- this can't be
pub spared-never : {T P : Type 0} (Q : Type 0) (r : Result T MemFault) → (P → ⊥) → IfErr r (λ f. P → Q)
spared-never {T} {P} Q (Ok x) none = tt
spared-never {T} {P} Q (Err f) none = λ p. absurd (none p)

-- nothing was freed before
pub spared-making : {T H : Type 0} (r : Result T MemFault) (host : Ghosts H) (m u v : LoomMemory H host) (what : Making) (words : ℕ) → words ≡ 4 + body_words (body_made what) → (m.ledger.held < disk_room m.pager.levels.disk.rest → HasRoom m.pager.levels.parts words 27 → u ≡ m) → (m.ledger.made < 8 → HasRoom m.pager.levels.parts words 27 → u ≡ m)
    → IfErr r (λ f. HasRoom u.pager.levels.parts words 27 → IsSpared host u v) → IfErr r (λ f. HasSpaceFor m what → IsSpared host m v)
spared-making {T} {H} (Ok x) host m u v what words size roomy early last = tt
spared-making {T} {H} (Err f) host m u v what words size roomy early last = λ space.
    let has = subst (λ (k : ℕ). HasRoom m.pager.levels.parts k 27) (sym size) space.1 in
    ⊎_elim (λ (h : m.ledger.held < disk_room m.pager.levels.disk.rest). from (roomy h has) has) (λ (h : m.ledger.made < 8). from (early h has) has) space.0
  where
    from : u ≡ m → HasRoom m.pager.levels.parts words 27 → IsSpared host m v
    from same has = subst (λ (z : LoomMemory H host). IsSpared host z v) same (last (subst (λ (z : LoomMemory H host). HasRoom z.pager.levels.parts words 27) (sym same) has))

pub ok-never : {T P : Type 0} (Q : Type 0) (r : Result T MemFault) → (P → ⊥) → OnOk r (P → Q)
ok-never {T} {P} Q (Ok x) none = λ p. absurd (none p)
ok-never {T} {P} Q (Err f) none = tt

pub unspent-never : {T P : Type 0} (Q : Type 0) (r : Result T MemFault) → (P → ⊥) → OnOk r (P → Q)
unspent-never {T} {P} Q (Ok x) none = λ p. absurd (none p)
unspent-never {T} {P} Q (Err f) none = tt

-- ---- a making that has all that it asks for

pub err-each : {T P : Type 0} (r : Result T MemFault) → P → IfErr r (λ f. P)
err-each {T} {P} (Ok x) p = tt
err-each {T} {P} (Err f) p = p

pub sure-then : {T : Type 0} (P Q : Type 0) (r : Result T MemFault) → IfErr r (λ f. P → ⊥) → IfErr r (λ f. P → Q → ⊥)
sure-then {T} P Q (Ok x) none = tt
sure-then {T} P Q (Err f) none = λ p q. none p

pub sure-making : {T H : Type 0} (r : Result T MemFault) (host : Ghosts H) (m u : LoomMemory H host) (what : Making) (words : ℕ) → words ≡ 4 + body_words (body_made what) → (m.ledger.held < disk_room m.pager.levels.disk.rest → HasRoom m.pager.levels.parts words 27 → u ≡ m)
    → IfErr r (λ f. IsTrue (host.tells Work) → HasRoom u.pager.levels.parts words 27 → ⊥) → IfErr r (λ f. HasAllFor host m what → ⊥)
sure-making {T} {H} (Ok x) host m u what words size roomy last = tt
sure-making {T} {H} (Err f) host m u what words size roomy last = λ all.
    let has = subst (λ (k : ℕ). HasRoom m.pager.levels.parts k 27) (sym size) all.space in
    last all.told (subst (λ (z : LoomMemory H host). HasRoom z.pager.levels.parts words 27) (sym (roomy all.room has)) has)
