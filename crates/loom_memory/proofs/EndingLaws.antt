-- A memory ends: registers have numbers, slots are empty, so nothing is named from outside.
use Rattle.std.proofs.Common.{zero, suc, ◌≡◌, ℕ, ℤ, ◌+◌, ◌<◌, Bool, true, false, cond, eqb, eqb-true, List, [], ◌∷◌, length, count_by, Option, Some, None, IsTrue, refl, sym, ◌∙◌, ap, subst, arith}
use Rattle.std.proofs.lemmas.Grind.{common_steps}
use Rattle.long_names.specs.declared.value.Value.{Value}
use Rattle.long_names.specs.declared.value.Value.TheVariants.{Int, Ref}
use Rattle.long_names.specs.Heap.{Heap}
use Rattle.long_names.specs.Counting.{Rose}
use Rattle.long_names.specs.State.{set_register, set_slot}
use Rattle.loom_host.specs.declared.outside.Host.{Ghosts}
use Rattle.loom_host.specs.Outside.{RoleState}
use Rattle.loom_host.specs.declared.outside.Role.TheVariants.{Work, Transcript}
use Rattle.loom_host.specs.declared.outside.DiskFault.{DiskFault}
use Rattle.loom_host.specs.declared.outside.DiskFault.TheVariants as fault
use Rattle.loom_host.specs.Work.{IsWorkOnly}
use Rattle.object_table.specs.Entries.{is_short}
use Rattle.disk_objects.specs.declared.rest.DiskRest.{DiskRest}
use Rattle.disk_objects.specs.Disk.{disk_room}
use Rattle.core_view.specs.Core.{Core}
use Rattle.core_view.specs.Counts.{names, outside}
use Rattle.core_view.specs.Words.{meant}
use Rattle.core_view.proofs.Words.{meant-short}
use Rattle.leaf_lambda.specs.Parts.{core_of}
use Rattle.purger.specs.Closing.{HasKept, LeavesKept}
use Rattle.purger.specs.Purge.{IsPurgeFault}
use Rattle.object_memory.specs.declared.fault.MemFault.{MemFault}
use Rattle.object_memory.specs.Told.{Told, Bounds}
use Rattle.object_memory.specs.Contract.{HasCause, SameBounds, Thins, work_faults}
use Rattle.object_memory.specs.Plain.{refused}
use Rattle.loom_memory.specs.declared.ledger.Ledger.{Ledger}
use Rattle.loom_memory.specs.declared.memory.LoomMemory.{LoomMemory}
use Rattle.loom_memory.specs.Ending.{AreNumbers, AreNumbersBelow}
use Rattle.loom_memory.specs.Memory.{word_in, name_if, loom_told, IsExact, IsKept, IsRefusalOf}
use Rattle.loom_memory.proofs.CacheLaws.{and-both}
use Rattle.loom_memory.proofs.CallLaws.{transcript-away}
use Rattle.loom_memory.proofs.ExactLaws.{levels-told}
use Rattle.loom_memory.proofs.FirstLaws.{not-one, zero-names}
use Rattle.loom_memory.proofs.RegLaws.{count-append}

-- ---- what is told

pub regs-then : (t u v : Told) (s : ℕ → Value) → u ≡ (record t { regs = u.regs }) → v ≡ (record u { regs = s }) → v ≡ (record t { regs = v.regs })
regs-then t u v s x y = y ∙ ap (λ (z : Told). record z { regs = s }) x ∙ ap (λ (f : ℕ → Value). record t { regs = f }) (sym (ap (λ (z : Told). z.regs) y))

pub numbers-then : (n to : ℕ) (z : ℤ) (f g : ℕ → Value) → to ≡ n → AreNumbersBelow n f → g ≡ set_register f to (Int z) → AreNumbersBelow (n + 1) g
numbers-then n to z f g same all is r low = go (eqb r n) refl
  where
    at : g r ≡ set_register f n (Int z) r
    at = ap (λ (h : ℕ → Value). h r) is ∙ ap (λ (k : ℕ). set_register f k (Int z) r) same

    go : (b : Bool) → eqb r n ≡ b → (z : ℤ) × (g r ≡ Int z)
    go true e = (z, at ∙ ap (λ (b : Bool). cond b (Int z) (f r)) e)
    go false e =
        let less : r < n = grind (arith, common_steps, e, low) in
        let was = all r less in
        (was.0, at ∙ ap (λ (b : Bool). cond b (Int z) (f r)) e ∙ was.1)

pub regs-slots : (t u : Told) → u ≡ (record t { regs = u.regs }) → u ≡ (record t { regs = u.regs; slots = u.slots })
regs-slots t u x = x ∙ ap (λ (s : ℕ → Option ℕ). record t { regs = u.regs; slots = s }) (sym (ap (λ (z : Told). z.slots) x))

pub slots-then : (t u v : Told) (s : ℕ → Option ℕ) → u ≡ (record t { regs = u.regs; slots = u.slots }) → v ≡ (record u { slots = s }) → v ≡ (record t { regs = v.regs; slots = v.slots })
slots-then t u v s x y =
    y ∙ ap (λ (z : Told). record z { slots = s }) x ∙ ap (λ (f : ℕ → Option ℕ). record t { regs = u.regs; slots = f }) (sym (ap (λ (z : Told). z.slots) y))
    ∙ ap (λ (f : ℕ → Value). record t { regs = f; slots = v.slots }) (sym (ap (λ (z : Told). z.regs) y))

pub slots-none : (f g h k : ℕ → Option ℕ) → g ≡ set_slot f 0 None → h ≡ set_slot g 1 None → k ≡ set_slot h 2 None → (i : ℕ) → i < 3 → k i ≡ None
slots-none f g h k x y z zero low = ap (λ (s : ℕ → Option ℕ). s 0) z ∙ ap (λ (s : ℕ → Option ℕ). s 0) y ∙ ap (λ (s : ℕ → Option ℕ). s 0) x
slots-none f g h k x y z (suc zero) low = ap (λ (s : ℕ → Option ℕ). s 1) z ∙ ap (λ (s : ℕ → Option ℕ). s 1) y
slots-none f g h k x y z (suc (suc zero)) low = ap (λ (s : ℕ → Option ℕ). s 2) z
slots-none f g h k x y z (suc (suc (suc i))) low = absurd (omega (arith, low))

-- ---- nothing is named from outside

-- a number's word names nothing
number-odd : (c : Core) (w : ℕ) (z : ℤ) → meant c.entries [] 0 w ≡ Int z → is_short w ≡ false
number-odd c w z is = go (is_short w) refl
  where
    go : (b : Bool) → is_short w ≡ b → is_short w ≡ false
    go false e = e
    go true e = absurd (let bad : Ref (c.entries w).name ≡ Int z = sym (meant-short c.entries [] 0 w e) ∙ is in cc)

no-name : (t w : ℕ) → is_short w ≡ false → names t w ≡ false
no-name t w odd = go (names t w) refl
  where
    go : (b : Bool) → names t w ≡ b → names t w ≡ false
    go false e = e
    go true e =
        let both = and-both (is_short t) (eqb w t) e in
        let same : w ≡ t = eqb-true w t both.1 in
        absurd (let bad : true ≡ false = sym (ap is_short same ∙ both.0) ∙ odd in cc)

none-named : (t : ℕ) (ws : List ℕ) → ((r : ℕ) → r < length ws → is_short (word_in ws r) ≡ false) → count_by (names t) ws ≡ 0
none-named t [] none = refl
none-named t (w ∷ ws) none = not-one t w (no-name t w (none 0 (omega arith))) ws (none-named t ws (λ r low. none (suc r) (omega (arith, low))))

empty-pin : (c : Core) (w : ℕ) → name_if c.entries w ≡ None → w ≡ 0
empty-pin c w is = go (eqb w 0) refl is
  where
    go : (b : Bool) → eqb w 0 ≡ b → cond b None (Some (c.entries w).name) ≡ None → w ≡ 0
    go true e f = eqb-true w 0 e
    go false e f = absurd (let bad : Some (c.entries w).name ≡ None = f in cc)

pub loose-told : {H : Type 0} (host : Ghosts H) (m : LoomMemory H host) → IsKept m.pager.levels.parts m.regs m.pager.pinned m.ledger → AreNumbers (loom_told host m).regs → ((i : ℕ) → i < 3 → (loom_told host m).slots i ≡ None) → (t : ℕ) → outside (core_of m.pager.levels.parts) t ≡ 0
unfolding loom_told
loose-told host m kept numbers none t =
    let regs = none-named t m.regs (λ r low. let number = numbers r (let many = kept.many in omega (arith, low, many)) in number-odd (core_of m.pager.levels.parts) (word_in m.regs r) number.0 number.1) in
    let split = count-append t m.regs (m.pager.pinned.a ∷ (m.pager.pinned.b ∷ (m.pager.pinned.d ∷ []))) in
    let is = kept.rooted t in
    omega (arith, regs, split, is, pins)
  where
    zero-pin : (w : ℕ) → w ≡ 0 → names t w ≡ false
    zero-pin w e = ap (names t) e ∙ zero-names t

    pins : count_by (names t) (m.pager.pinned.a ∷ (m.pager.pinned.b ∷ (m.pager.pinned.d ∷ []))) ≡ 0
    pins = not-one t m.pager.pinned.a (zero-pin m.pager.pinned.a (empty-pin (core_of m.pager.levels.parts) m.pager.pinned.a (none 0 (omega arith)))) (m.pager.pinned.b ∷ (m.pager.pinned.d ∷ []))
        (not-one t m.pager.pinned.b (zero-pin m.pager.pinned.b (empty-pin (core_of m.pager.levels.parts) m.pager.pinned.b (none 1 (omega arith)))) (m.pager.pinned.d ∷ [])
        (not-one t m.pager.pinned.d (zero-pin m.pager.pinned.d (empty-pin (core_of m.pager.levels.parts) m.pager.pinned.d (none 2 (omega arith)))) [] refl))

-- ---- what is left on disk

pub kept-left : {H : Type 0} (host : Ghosts H) (m : LoomMemory H host) (now : H) (rest : DiskRest) (h : Heap) → IsExact host m.pager.levels.parts m.pager.levels.disk.host.now m.pager.levels.disk.rest m.ledger.next [] → (loom_told host m).heap ≡ h → IsTrue (host.tells Work)
    → LeavesKept host m.pager.levels.parts m.pager.levels.disk.host.now m.pager.levels.disk.rest now rest → HasKept host now rest h
unfolding loom_told
kept-left host m now rest h x is told kept =
    let e = x told in
    subst (λ (g : Heap). HasKept host now rest g) (sym (levels-told host m.pager.levels.parts m.pager.levels.disk.host.now m.pager.levels.disk.rest e.0 m.ledger.next e.1 e.3 told) ∙ is) (kept e.0 e.1 e.2)

-- ---- why it failed, and what was said

-- registers and slots are no cause
pub let-cause : {H : Type 0} (host : Ghosts H) (m n : LoomMemory H host) (t w : Told) (f : DiskFault) (r x : MemFault) → (loom_told host m).tells ≡ t.tells → (loom_told host m).bounds ≡ t.bounds
    → IsPurgeFault host m.pager.levels.disk.host.now n.pager.levels.disk.host.now f → IsRefusalOf f r → w ≡ refused (loom_told host n) r → x ≡ r → HasCause t w Thins x
unfolding loom_told
let-cause {H} host m n t w f r x tells bounds cause why refuses same =
    subst (λ (y : MemFault). HasCause t w Thins y) (sym same) (subst (λ (z : Told). HasCause t z Thins r) (sym refuses) (because f r cause why))
  where
    because : (f : DiskFault) (r : MemFault) → IsPurgeFault host m.pager.levels.disk.host.now n.pager.levels.disk.host.now f → IsRefusalOf f r → HasCause t (refused (loom_told host n) r) Thins r
    because (fault.Work count) r cause is =
        subst (λ (y : MemFault). HasCause t (refused (loom_told host n) r) Thins y) (sym is)
        (sym cause.0, subst (λ (b : Option Bounds). Rose (work_faults b) (host.faults n.pager.levels.disk.host.now Work)) bounds cause.1)
    because (fault.Full held room) r cause is = subst (λ (y : MemFault). HasCause t (refused (loom_told host n) r) Thins y) (sym is) (subst (λ (b : Bool). IsTrue b → ⊥) tells cause)
    because (fault.Damaged place about) r cause is = subst (λ (y : MemFault). HasCause t (refused (loom_told host n) r) Thins y) (sym is) (subst (λ (b : Bool). IsTrue b → ⊥) tells cause)

-- a call on Work says nothing
pub work-silent : {H : Type 0} (host : Ghosts H) (m n : LoomMemory H host) → IsWorkOnly host m.pager.levels.disk.host.now n.pager.levels.disk.host.now → (loom_told host n).transcript ≡ (loom_told host m).transcript
unfolding loom_told
work-silent host m n work = ap (λ (s : RoleState). s.put) (work.others Transcript transcript-away)

-- and leaves the bounds
pub work-bounds : {H : Type 0} (host : Ghosts H) (m n : LoomMemory H host) → IsWorkOnly host m.pager.levels.disk.host.now n.pager.levels.disk.host.now → disk_room n.pager.levels.disk.rest ≡ disk_room m.pager.levels.disk.rest → n.ledger ≡ m.ledger → SameBounds (loom_told host m).bounds (loom_told host n).bounds
unfolding loom_told
work-bounds host m n work room same = (ap (λ (k : Ledger). k.core) same, ap (λ (k : Ledger). k.entries) same, room, work.later, let said = work.other_faults Transcript transcript-away in omega (arith, said))
