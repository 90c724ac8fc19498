-- A new object is in the core, none comes in for it, and before the eighth making nothing goes.
use Rattle.std.proofs.Common.{◌≡◌, ◌≢◌, ℕ, ◌+◌, ◌<◌, Bool, true, false, cond, ⊎_elim, sym, ◌∙◌, ap, subst, Option, Some, Ok, Err, Result, IsTrue, is_some}
use Rattle.std.proofs.lemmas.Bool.{ne_eqb}
use Rattle.std.specs.Prelude.{OnOk, IfErr}
use Rattle.long_names.specs.declared.value.Value.{Value}
use Rattle.long_names.specs.declared.value.Value.TheVariants.{Ref}
use Rattle.long_names.specs.Access.{Make, heap_after}
use Rattle.long_names.specs.declared.limits.TheConstants.{LAST_NAME}
use Rattle.long_names.specs.Heap.{Heap, Has}
use Rattle.long_names.specs.Objects.{Making, body_made, body_words}
use Rattle.long_names.specs.State.{name_at, set_register}
use Rattle.loom_host.specs.declared.outside.Host.{Ghosts}
use Rattle.loom_host.specs.declared.outside.Role.TheVariants.{Work}
use Rattle.object_memory.specs.declared.fault.MemFault.{MemFault}
use Rattle.object_memory.specs.declared.fault.MemFault.TheVariants.{CoreFull, WorkFull, WorkFault, Damaged, NamesSpent, Said, Memory}
use Rattle.object_memory.specs.Told.{Told}
use Rattle.object_memory.specs.Contract.{IfBounds, KeepsSound}
use Rattle.object_table.specs.Entries.{place_of}
use Rattle.disk_objects.specs.Disk.{disk_room}
use Rattle.core_view.specs.Kept.{IsCore}
use Rattle.leaf_lambda.specs.Parts.{core_of}
use Rattle.purger.specs.Draining.{KeepsHeld}
use Rattle.purger.specs.Purge.{HasRoom}
use Rattle.loom_memory.specs.declared.memory.LoomMemory.{LoomMemory}
use Rattle.loom_memory.specs.Gentle.{Remains, IsResting, IsSteady}
use Rattle.loom_memory.specs.Known.{IsEntryOf}
use Rattle.loom_memory.specs.Makings.{HasMade, IsLost, OnCoreFull}
use Rattle.loom_memory.specs.Memory.{loom_told, IsSound}
use Rattle.loom_memory.specs.Own.{HasSpaceFor, IsAskedLast, IsSparingMaking}
use Rattle.loom_memory.specs.Gentle.{KeepsCache}
use Rattle.loom_memory.specs.Residents.{has_body, is_resident}
use Rattle.loom_memory.proofs.AddLaws.{next-absent, told-next}
use Rattle.loom_memory.proofs.GentleLaws.{resident-is, rest-trans}
use Rattle.loom_memory.proofs.MindLaws.{remains-residents}
use Rattle.loom_memory.proofs.MakingLaws.{set_here}
use Rattle.loom_memory.proofs.SettleLaws.{held-residents}

pub entry-resident : {H : Type 0} {host : Ghosts H} (m : LoomMemory H host) (s name : ℕ) → IsCore (core_of m.pager.levels.parts) → IsEntryOf (core_of m.pager.levels.parts) s name → IsTrue (is_some (place_of ((core_of m.pager.levels.parts).entries s).state)) → IsTrue (is_resident m name)
entry-resident {H} {host} m s name core entry body = ap (λ (k : ℕ). is_resident m k) (sym entry.named) ∙ resident-is m s core entry.used ∙ body

-- its name comes into a register
pub put-resident : {H : Type 0} (host : Ghosts H) (m n : LoomMemory H host) (to name : ℕ) → IsCore (core_of m.pager.levels.parts) → IsCore (core_of n.pager.levels.parts) → IsSteady host m n
    → loom_told host n ≡ record (loom_told host m) { regs = set_register (loom_told host m).regs to (Ref name) } → IsTrue (is_resident m name) → IsTrue (is_resident n (name_at ((loom_told host n).regs to)))
put-resident {H} host m n to name core now steady told there =
    let is : (loom_told host n).regs to ≡ Ref name = ap (λ (z : Told). z.regs to) told ∙ set_here (loom_told host m).regs to (Ref name) in
    ap (λ (v : Value). is_resident n (name_at v)) is ∙ remains-residents m n core now steady.gentle.remains name there

pub fetched-then : {T : Type 0} (r : Result T MemFault) (a b d : ℕ) → b ≡ a → OnOk r (d ≡ b) → OnOk r (d ≡ a)
fetched-then {T} (Ok x) a b d same is = is ∙ same
fetched-then {T} (Err f) a b d same is = tt

-- nothing went before an object was made
pub made-early : {T H : Type 0} (r : Result T MemFault) (host : Ghosts H) (m u v : LoomMemory H host) (to class : ℕ) (what : Making) (words : ℕ) → words ≡ 4 + body_words (body_made what) → (m.ledger.made < 8 → HasRoom m.pager.levels.parts words 27 → u ≡ m) → OnOk r (HasMade (loom_told host u) (loom_told host v) to class what)
    → IsTrue (host.tells Work) → IfBounds (loom_told host m).bounds (λ b. b.made < 8 → HasRoom m.pager.levels.parts (4 + body_words (body_made what)) 27 → OnOk r ((loom_told host v).heap ≡ heap_after (loom_told host m).heap (loom_told host m).regs (Make to class what)))
unfolding loom_told
made-early {T} {H} (Ok x) host m u v to class what words size same made = λ told low has. subst (λ (z : LoomMemory H host). (loom_told host v).heap ≡ heap_after (loom_told host z).heap (loom_told host z).regs (Make to class what)) (same low (subst (λ (k : ℕ). HasRoom m.pager.levels.parts k 27) (sym size) has)) (made.heap told)
made-early {T} {H} (Err f) host m u v to class what words size same made = λ told low has. tt

-- ---- what a making left in the core

-- it was made, and room was made before
pub made-rest : {T H : Type 0} {host : Ghosts H} {P : Type 0} (r : Result T MemFault) (m u v : LoomMemory H host) → (P → IsResting m u) → OnOk r (IsResting u v) → OnOk r (P → IsResting m v)
made-rest {T} {H} {host} {P} (Ok x) m u v first last = λ p. rest-trans m u v (first p) last
made-rest {T} {H} {host} {P} (Err f) m u v first last = tt

-- the next name has no object in the core
next-away : {H : Type 0} (host : Ghosts H) (m : LoomMemory H host) → IsSound host m → IsTrue (host.tells Work) → is_resident m m.ledger.next ≡ false
unfolding is_resident
next-away {H} host m sound told = ap (λ (o : Option ℕ). has_body (core_of m.pager.levels.parts) o) (next-absent host m.pager.levels.parts m.pager.levels.disk.host.now m.pager.levels.disk.rest m.ledger.next sound.exact told).0

-- what the heap has after a making, but for the new object, it had before
made-had : (h : Heap) (regs : ℕ → Value) (to class : ℕ) (what : Making) (k : ℕ) → k ≢ h.next → Has (heap_after h regs (Make to class what)) k → Has h k
made-had h regs to class what k away has = sym (ap (λ (b : Bool). is_some (cond b (Some (record { class = name_at (regs class); body = body_made what })) (h.at k))) (ne_eqb k h.next away)) ∙ has

-- each object in the core that is still there stays
made-kept : {H : Type 0} (host : Ghosts H) (m u v : LoomMemory H host) (to class : ℕ) (what : Making) → IsSound host m → IsSound host u → IsCore (core_of v.pager.levels.parts) → u.ledger.next ≡ m.ledger.next → HasMade (loom_told host u) (loom_told host v) to class what
    → (IsTrue (host.tells Work) → KeepsHeld (core_of m.pager.levels.parts) (core_of u.pager.levels.parts) (loom_told host u).heap) → Remains (core_of u.pager.levels.parts) (core_of v.pager.levels.parts) → IsTrue (host.tells Work) → (k : ℕ) → IsTrue (is_resident m k) → Has (loom_told host v).heap k → IsTrue (is_resident v k)
unfolding loom_told
made-kept {H} host m u v to class what sound there core next made bodies remains told k here has =
    let away : k ≢ (loom_told host u).heap.next = (λ e.
    let same : k ≡ m.ledger.next = e ∙ told-next host u told ∙ next in
    let both : true ≡ false = sym here ∙ ap (is_resident m) same ∙ next-away host m sound told in
    cc) in
    let before = made-had (loom_told host u).heap (loom_told host u).regs to class what k away (subst (λ (h : Heap). Has h k) (made.heap told) has) in
    remains-residents u v u.pager.levels.whole.parts.core core remains k (held-residents m u (loom_told host u).heap m.pager.levels.whole.parts.core u.pager.levels.whole.parts.core (bodies told) k here before)

pub made-sparing : {T H : Type 0} (r : Result T MemFault) (host : Ghosts H) (m u v : LoomMemory H host) (to class : ℕ) (what : Making) (words : ℕ) → words ≡ 4 + body_words (body_made what) → IsSound host m → IsSound host u → KeepsSound r (IsSound host v)
    → (m.ledger.held < disk_room m.pager.levels.disk.rest → HasRoom m.pager.levels.parts words 27 → u ≡ m) → (m.ledger.made < 8 → HasRoom m.pager.levels.parts words 27 → u ≡ m) → u.ledger.next ≡ m.ledger.next → ((k : ℕ) → HasRoom m.pager.levels.parts k 27 → HasRoom u.pager.levels.parts k 27) → (IsTrue (host.tells Work) → KeepsHeld (core_of m.pager.levels.parts) (core_of u.pager.levels.parts) (loom_told host u).heap)
    → OnOk r (HasMade (loom_told host u) (loom_told host v) to class what) → OnOk r (HasRoom u.pager.levels.parts words 27 → IsResting u v) → OnOk r (HasRoom u.pager.levels.parts words 27 → KeepsCache host u v) → OnOk r (IsSparingMaking host m v what)
made-sparing {T} {H} (Ok x) host m u v to class what words size sound there now roomy early next room bodies made rests keeps = record {
  stays = λ space. remains-residents m v m.pager.levels.whole.parts.core v.pager.levels.whole.parts.core (rest space).remains;
  idle = λ space. (rest space).idle;
  cached = λ space. each (λ z. KeepsCache host z v) keeps space;
  kept = λ told has. made-kept host m u v to class what sound there v.pager.levels.whole.parts.core next made bodies (rests (subst (λ (k : ℕ). HasRoom u.pager.levels.parts k 27) (sym size) (room (4 + body_words (body_made what)) has))).remains told;
}
  where
    from : (P : LoomMemory H host → Type 0) → (HasRoom u.pager.levels.parts words 27 → P u) → u ≡ m → HasRoom m.pager.levels.parts words 27 → P m
    from P go same has = subst P same (go (subst (λ (z : LoomMemory H host). HasRoom z.pager.levels.parts words 27) (sym same) has))

    each : (P : LoomMemory H host → Type 0) → (HasRoom u.pager.levels.parts words 27 → P u) → HasSpaceFor m what → P m
    each P go space =
        let has = subst (λ (k : ℕ). HasRoom m.pager.levels.parts k 27) (sym size) space.1 in
        ⊎_elim (λ (h : m.ledger.held < disk_room m.pager.levels.disk.rest). from P go (roomy h has) has) (λ (h : m.ledger.made < 8). from P go (early h has) has) space.0

    rest : HasSpaceFor m what → IsResting m v
    rest space = each (λ z. IsResting z v) rests space
made-sparing {T} {H} (Err f) host m u v to class what words size sound there now roomy early next room bodies made rests keeps = tt

-- ---- why it was refused

pub core-any : (f : MemFault) (P : Type 0) → P → OnCoreFull f P
core-any (CoreFull need) P p = p
core-any (WorkFull live room) P p = tt
core-any (WorkFault count) P p = tt
core-any (Damaged place name) P p = tt
core-any NamesSpent P p = tt
core-any (Said count) P p = tt
core-any Memory P p = tt

pub core-none : (f : MemFault) (P : Type 0) → OnCoreFull f ⊥ → OnCoreFull f P
core-none (CoreFull need) P none = absurd none
core-none (WorkFull live room) P none = tt
core-none (WorkFault count) P none = tt
core-none (Damaged place name) P none = tt
core-none NamesSpent P none = tt
core-none (Said count) P none = tt
core-none Memory P none = tt

pub core-lost : (f : MemFault) (P : Type 0) → IsLost f → OnCoreFull f P
core-lost (CoreFull need) P lost = absurd lost
core-lost (WorkFull live room) P lost = tt
core-lost (WorkFault count) P lost = tt
core-lost (Damaged place name) P lost = tt
core-lost NamesSpent P lost = tt
core-lost (Said count) P lost = tt
core-lost Memory P lost = tt

pub lost-core : {T : Type 0} (r : Result T MemFault) (P : Type 0) → IfErr r IsLost → IfErr r (λ f. OnCoreFull f P)
lost-core {T} (Ok x) P lost = tt
lost-core {T} (Err f) P lost = core-lost f P lost

core-map : (f : MemFault) (P Q : Type 0) → (P → Q) → OnCoreFull f P → OnCoreFull f Q
core-map (CoreFull need) P Q go p = go p
core-map (WorkFull live room) P Q go p = tt
core-map (WorkFault count) P Q go p = tt
core-map (Damaged place name) P Q go p = tt
core-map NamesSpent P Q go p = tt
core-map (Said count) P Q go p = tt
core-map Memory P Q go p = tt

pub asked-last : {T H : Type 0} (r : Result T MemFault) (host : Ghosts H) (m v : LoomMemory H host) → (IsTrue (host.tells Work) → (loom_told host m).heap.next < LAST_NAME) → IfErr r (λ f. OnCoreFull f (v.ledger.held < disk_room v.pager.levels.disk.rest)) → IfErr r (λ f. OnCoreFull f (IsAskedLast host m v))
asked-last {T} {H} (Ok x) host m v low full = tt
asked-last {T} {H} (Err f) host m v low full = core-map f (v.ledger.held < disk_room v.pager.levels.disk.rest) (IsAskedLast host m v) (λ room. record { name = low; room = room }) full
