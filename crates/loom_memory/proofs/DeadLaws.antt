-- Nothing is dead: what leaves it so, and what follows of it.
use Rattle.std.proofs.Common.{◌≡◌, ◌⊎◌, ⊎_elim, ℕ, ◌<◌, Bool, true, false, Option, IsTrue, refl, sym, ◌∙◌, ap, subst, arith}
use Rattle.long_names.specs.Names.{is_known}
use Rattle.long_names.specs.Heap.{count_of}
use Rattle.long_names.specs.Kept.{kept}
use Rattle.long_names.proofs.CountLaws.{kept-rooted}
use Rattle.loom_host.specs.declared.outside.Host.{Ghosts}
use Rattle.object_memory.specs.Told.{Told, is_root}
use Rattle.object_memory.specs.declared.fault.MemFault.{MemFault}
use Rattle.loom_memory.specs.declared.ledger.Ledger.{Ledger}
use Rattle.loom_memory.specs.declared.memory.LoomMemory.{LoomMemory}
use Rattle.loom_memory.specs.Memory.{loom_told, IsSound, IsStillNamed, IsThin, NothingDead}
use Rattle.loom_memory.specs.Gentle.{IsQuiet}

-- ---- what is told

-- the same heap, registers and slots
dead-same : (t u : Told) → u.tells ≡ t.tells → u.heap ≡ t.heap → u.regs ≡ t.regs → u.slots ≡ t.slots → NothingDead t → NothingDead u
dead-same t u tells heap regs slots none = subst NothingDead path none where
  path : t ≡ record u { transcript = t.transcript; speaks = t.speaks; cache = t.cache; refusals = t.refusals; last = t.last; bounds = t.bounds }
  path = λ i. record t { tells = sym tells i; heap = sym heap i; regs = sym regs i; slots = sym slots i }

-- where nothing is dead, all is kept
pub nothing-kept : (t : Told) → IsTrue t.tells → NothingDead t → kept t.heap (is_root t) ≡ t.heap
nothing-kept t told none = kept-rooted t.heap (is_root t) (λ q there unknown out zero_count. go q unknown out zero_count (none told q there)) where
  no-both : (b : Bool) → b ≡ false → b ≡ true → ⊥
  no-both b off on = let both : true ≡ false = sym on ∙ off in cc

  go : (q : ℕ) → is_known q ≡ false → is_root t q ≡ false → count_of t.heap q ≡ 0 → IsStillNamed t q → ⊥
  go q unknown out zero_count named =
      ⊎_elim (λ known. no-both (is_known q) unknown known)
      (λ (rest : (is_root t q ≡ true) ⊎ (0 < count_of t.heap q)).
      ⊎_elim (λ root. no-both (is_root t q) out root) (λ (some : 0 < count_of t.heap q). let no_ : ⊥ = omega (arith, some, zero_count) in no_) rest) named

-- ---- a memory

pub thin-none : {H : Type 0} (host : Ghosts H) (m : LoomMemory H host) → IsThin host m → m.thinned ≡ true → NothingDead (loom_told host m)
unfolding IsThin
thin-none host m thin on = thin on

pub thin-is : {H : Type 0} (host : Ghosts H) (m : LoomMemory H host) → (m.thinned ≡ true → NothingDead (loom_told host m)) → IsThin host m
unfolding IsThin
thin-is host m none = none

pub thin-of : {H : Type 0} (host : Ghosts H) (m n : LoomMemory H host) → IsThin host m → (n.thinned ≡ true → m.thinned ≡ true) → (loom_told host n).heap ≡ (loom_told host m).heap → (loom_told host n).regs ≡ (loom_told host m).regs → (loom_told host n).slots ≡ (loom_told host m).slots → IsThin host n
unfolding loom_told IsThin
thin-of host m n thin was heap regs slots = λ on. dead-same (loom_told host m) (loom_told host n) refl heap regs slots (thin (was on))

-- all that is told is the same
pub thin-told : {H : Type 0} (host : Ghosts H) (m n : LoomMemory H host) → IsThin host m → (n.thinned ≡ true → m.thinned ≡ true) → loom_told host n ≡ loom_told host m → IsThin host n
thin-told host m n thin was same = thin-of host m n thin was (ap (λ (t : Told). t.heap) same) (ap (λ (t : Told). t.regs) same) (ap (λ (t : Told). t.slots) same)

-- or nothing but counts of faults and marks changed
pub thin-quiet : {H : Type 0} (host : Ghosts H) (m n : LoomMemory H host) → IsThin host m → (n.thinned ≡ true → m.thinned ≡ true) → IsQuiet (loom_told host m) (loom_told host n) → IsThin host n
thin-quiet host m n thin was quiet = thin-of host m n thin was (ap (λ (t : Told). t.heap) quiet.same) (ap (λ (t : Told). t.regs) quiet.same) (ap (λ (t : Told). t.slots) quiet.same)

-- it says nothing
pub thin-off : {H : Type 0} (host : Ghosts H) (n : LoomMemory H host) → n.thinned ≡ false → IsThin host n
unfolding IsThin
thin-off host n off = λ on. absurd (let both : true ≡ false = sym on ∙ off in cc)

-- a call was refused
pub refused-sound : {H : Type 0} (host : Ghosts H) (m : LoomMemory H host) (l : Ledger) (n : ℕ) (f : Option MemFault) → l ≡ record m.ledger { refusals = n; last = f } → IsSound host m → IsSound host (record m { ledger = l })
unfolding loom_told IsThin
refused-sound host m l n f is sound =
    let kept = sound.kept in
    let over = sound.over in
    subst (λ (k : Ledger). IsSound host (record m { ledger = k })) (sym is) (record {
      kept = record { size = kept.size; entries = kept.entries; rooted = kept.rooted; filled = kept.filled; many = kept.many; pinned = kept.pinned; cached = kept.cached };
      over = record { stands = over.stands; backed = over.backed; counted = over.counted; roomy = over.roomy; based = over.based; valued = over.valued };
      exact = sound.exact;
      thin = sound.thin;
      soon = sound.soon;
    })
