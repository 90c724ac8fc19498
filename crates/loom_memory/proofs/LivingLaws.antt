-- What the core names lives: where a word goes, and its object is still named, nothing is dead if nothing was.
use Rattle.std.proofs.Common.{is_some, ◌&&◌, ◌-◌, ◌≡◌, ◌≢◌, ◌⊎◌, inl, inr, ⊎_elim, ℕ, ◌+◌, ◌<◌, ◌≤◌, ◌||◌, Bool, true, false, cond, eqb, eqb-true, Option, Some, None, List, [], IsTrue, refl, sym, ◌∙◌, ap, subst, zero, suc, arith, Result, Ok, Err, OnOk, IfErr}
use Rattle.std.proofs.lemmas.Bool.{cases_eq}
use Rattle.std.proofs.lemmas.Grind.{common_steps}
use Rattle.long_names.specs.declared.value.Value.{Value}
use Rattle.long_names.specs.declared.value.Value.TheVariants.{Int, Ref}
use Rattle.long_names.specs.declared.limits.TheConstants.{REGISTERS, SLOTS}
use Rattle.long_names.specs.Names.{is_known}
use Rattle.long_names.specs.Objects.{is_ref, field_of, with_field}
use Rattle.long_names.specs.Heap.{Heap, Has, IsBounded, count_of, object_count, put_object}
use Rattle.long_names.specs.Kept.{any_below}
use Rattle.long_names.specs.Need.{is_pinned}
use Rattle.long_names.specs.declared.object.Body.{Body}
use Rattle.long_names.specs.declared.object.Object.{Object}
use Rattle.long_names.proofs.CountLaws.{word_is, count-store, count-same_fields}
use Rattle.long_names.proofs.KeptLaws.{any_below-at}
use Rattle.loom_host.specs.declared.outside.Host.{Ghosts}
use Rattle.loom_host.specs.declared.outside.Role.TheVariants.{Work}
use Rattle.loom_host.specs.Work.{work_of}
use Rattle.object_table.specs.Entries.{is_short, is_used}
use Rattle.core_view.specs.Core.{Core}
use Rattle.core_view.specs.Counts.{one, outside, uses}
use Rattle.core_view.specs.Held.{Disk, held, object_at}
use Rattle.core_view.specs.Kept.{IsCore}
use Rattle.disk_objects.specs.Function.{disk_of}
use Rattle.core_view.specs.Purge.{fresh_of}
use Rattle.core_view.specs.Words.{meant}
use Rattle.disk_objects.specs.Disk.{disk_held}
use Rattle.core_view.proofs.Core.{held-at, placed-used}
use Rattle.core_view.proofs.Steps.{outside-used}
use Rattle.core_view.proofs.Words.{meant-short}
use Rattle.core_view.specs.Levels.{heap_of}
use Rattle.core_view.specs.Dead.{outside_by}
use Rattle.core_view.proofs.DeadLaws.{bounded, used-counted}
use Rattle.delta_counts.proofs.NumberLaws.{held-on_disk}
use Rattle.leaf_lambda.specs.declared.parts.Parts.{Parts}
use Rattle.leaf_lambda.specs.Whole.{IsWhole}
use Rattle.loom_memory.proofs.OverLaws.{over_parts}
use Rattle.leaf_lambda.specs.Parts.{core_of, spare_of}
use Rattle.object_memory.specs.Told.{Told, is_root, has_slot}
use Rattle.purger.specs.declared.room.Pinned.{Pinned}
use Rattle.purger.proofs.SoundLaws.{core-at}
use Rattle.object_memory.specs.declared.fault.MemFault.{MemFault}
use Rattle.loom_memory.specs.declared.memory.LoomMemory.{LoomMemory}
use Rattle.loom_memory.specs.Thinned.{HasLasted}
use Rattle.loom_memory.specs.Memory.{loom_told, name_if, pin_in, word_in, IsExact, IsKept, IsNamedIn, IsSound, IsStillNamed, IsThin}
use Rattle.loom_memory.proofs.ExactLaws.{heap-told, levels-told}
use Rattle.loom_memory.proofs.RegLaws.{IsRooted, IsSwap, kept-rooted, register-held, word-there}
use Rattle.loom_memory.proofs.RootLaws.{free-told}
use Rattle.loom_memory.proofs.SlotLaws.{pin-held}
use Rattle.loom_memory.proofs.OwingLaws.{number-meant, IsExchange, IsRewritten}
use Rattle.loom_memory.proofs.DeadLaws.{thin-is, thin-none}

-- ---- what registers and slots name

is-ref : (n : ℕ) (v : Value) → is_ref n v ≡ true → v ≡ Ref n
is-ref n (Int z) e = absurd (let f : false ≡ true = e in cc)
is-ref n (Ref m) e = let same : m ≡ n = grind (arith, common_steps, e) in ap Ref same

is-pin : (n : ℕ) (o : Option ℕ) → is_pinned n o ≡ true → o ≡ Some n
is-pin n None e = absurd (let f : false ≡ true = e in cc)
is-pin n (Some m) e = let same : m ≡ n = grind (arith, common_steps, e) in ap Some same

-- a word that means a name
word-names : (c : Core) (w n : ℕ) → meant c.entries [] 0 w ≡ Ref n → (is_short w ≡ true) × ((c.entries w).name ≡ n)
word-names c w n e = go (is_short w) refl where
  go : (b : Bool) → is_short w ≡ b → (is_short w ≡ true) × ((c.entries w).name ≡ n)
  go true f = let same : Ref (c.entries w).name ≡ Ref n = sym (meant-short c.entries [] 0 w f) ∙ e in (f, cc)
  go false f = let number = number-meant c.entries w f in absurd (let no_ : Int number.0 ≡ Ref n = sym number.1 ∙ e in cc)

record IsRootWord (c : Core) (n s : ℕ) : Type 0 where
  name : (c.entries s).name ≡ n
  short : is_short s ≡ true
  held : 1 ≤ outside c s

pin-past : (pins : Pinned) (i : ℕ) → pin_in pins (suc (suc (suc i))) ≡ 0
pin-past pins i = go (eqb (suc (suc (suc i))) 0) refl (eqb (suc (suc (suc i))) 1) refl (eqb (suc (suc (suc i))) 2) refl where
  apart : (k j : ℕ) → k ≢ j → eqb k j ≡ true → ⊥
  apart k j away e = away (eqb-true k j e)

  go : (a : Bool) → eqb (suc (suc (suc i))) 0 ≡ a → (b : Bool) → eqb (suc (suc (suc i))) 1 ≡ b → (d : Bool) → eqb (suc (suc (suc i))) 2 ≡ d → cond a pins.a (cond b pins.b (cond d pins.d 0)) ≡ 0
  go true e b f d g = absurd (apart (suc (suc (suc i))) 0 (λ h. omega (arith, h)) e)
  go false e true f d g = absurd (apart (suc (suc (suc i))) 1 (λ h. omega (arith, h)) f)
  go false e false f true g = absurd (apart (suc (suc (suc i))) 2 (λ h. omega (arith, h)) g)
  go false e false f false g = refl

-- a slot that has a name has one of the first three places
slot-low : (pins : Pinned) (i : ℕ) → is_short (pin_in pins i) ≡ true → i < 3
slot-low pins zero e = omega arith
slot-low pins (suc zero) e = omega arith
slot-low pins (suc (suc zero)) e = omega arith
slot-low pins (suc (suc (suc i))) e =
    let past : pin_in pins (suc (suc (suc i))) ≡ 0 = pin-past pins i in
    absurd (let off : is_short 0 ≡ true = sym (ap is_short past) ∙ e in cc)

-- a root has an entry with its name, which a word of a register or a slot names
root-word : (c : Core) (regs : List ℕ) (pins : Pinned) (n : ℕ) → IsRooted c regs pins
    → any_below REGISTERS (λ r. is_ref n (meant c.entries [] 0 (word_in regs r))) || has_slot (λ i. name_if c.entries (pin_in pins i)) n ≡ true → (s : ℕ) × IsRootWord c n s
root-word c regs pins n root is = go (any_below REGISTERS (λ r. is_ref n (meant c.entries [] 0 (word_in regs r)))) refl where
  register : any_below REGISTERS (λ r. is_ref n (meant c.entries [] 0 (word_in regs r))) ≡ true → (s : ℕ) × IsRootWord c n s
  register e =
      let at = any_below-at REGISTERS (λ r. is_ref n (meant c.entries [] 0 (word_in regs r))) e in
      let of = word-names c (word_in regs at.0) n (is-ref n (meant c.entries [] 0 (word_in regs at.0)) at.1) in
      (word_in regs at.0, record { name = of.1; short = of.0; held = register-held c regs pins at.0 (word_in regs at.0) root (word-there regs at.0 of.0) of.0 })

  by_word : (i : ℕ) (b : Bool) → eqb (pin_in pins i) 0 ≡ b → name_if c.entries (pin_in pins i) ≡ Some n → (s : ℕ) × IsRootWord c n s
  by_word i true f g = absurd (let no_ : ◌≡◌ {A = Option ℕ} None (Some n) = sym (ap (λ (x : Bool). cond x None (Some (c.entries (pin_in pins i)).name)) f) ∙ g in cc)
  by_word i false f g =
      let some : pin_in pins i ≢ 0 = (λ h. let there : eqb (pin_in pins i) 0 ≡ true = grind (arith, common_steps) in absurd (let no_ : true ≡ false = sym there ∙ f in cc)) in
      let named : Some (c.entries (pin_in pins i)).name ≡ Some n = sym (ap (λ (x : Bool). cond x None (Some (c.entries (pin_in pins i)).name)) f) ∙ g in
      let short = (root.pinned i some).0 in
      (pin_in pins i, record { name = cc; short = short; held = pin-held c regs pins i root (slot-low pins i short) short })

  slot : has_slot (λ i. name_if c.entries (pin_in pins i)) n ≡ true → (s : ℕ) × IsRootWord c n s
  slot e =
      let at = any_below-at SLOTS (λ i. is_pinned n (name_if c.entries (pin_in pins i))) e in
      by_word at.0 (eqb (pin_in pins at.0) 0) refl (is-pin n (name_if c.entries (pin_in pins at.0)) at.1)

  go : (b : Bool) → any_below REGISTERS (λ r. is_ref n (meant c.entries [] 0 (word_in regs r))) ≡ b → (s : ℕ) × IsRootWord c n s
  go true e = register e
  go false e = slot (sym (ap (λ (b : Bool). b || has_slot (λ i. name_if c.entries (pin_in pins i)) n) e) ∙ is)

-- ---- what the core names

-- what some word of the core names is a root, or counted
pub living : {H : Type 0} (host : Ghosts H) (n : LoomMemory H host) (s k : ℕ) → IsKept n.pager.levels.parts n.regs n.pager.pinned n.ledger → IsExact host n.pager.levels.parts n.pager.levels.disk.host.now n.pager.levels.disk.rest n.ledger.next [] → IsTrue (host.tells Work) → is_used ((core_of n.pager.levels.parts).entries s).state ≡ true → ((core_of n.pager.levels.parts).entries s).name ≡ k
    → IsNamedIn (core_of n.pager.levels.parts) s → IsStillNamed (loom_told host n) k
unfolding loom_told outside
living host n s k kept exact told used name named = ⊎_elim (λ (known : is_known (c.entries s).name ≡ true). inl (subst (λ (q : ℕ). is_known q ≡ true) name known)) (λ (some : 1 ≤ (c.entries s).refs). inr (by_use some (uses c s) refl)) named where
  c : Core
  c = core_of n.pager.levels.parts

  t : Told
  t = loom_told host n

  found : c.find k ≡ Some s
  found = subst (λ (q : ℕ). c.find q ≡ Some s) name (n.pager.levels.whole.parts.core.found s used)

  counted : 1 ≤ uses c s → 0 < count_of t.heap k
  counted some =
      let e = exact told in
      let is : c ≡ e.0.core = core-at host n.pager.levels.parts n.pager.levels.disk.host.now n.pager.levels.disk.rest e.0 e.1 in
      let heap : t.heap ≡ heap_of e.0 = levels-told host n.pager.levels.parts n.pager.levels.disk.host.now n.pager.levels.disk.rest e.0 n.ledger.next e.1 e.3 told in
      let there = used-counted e.0 s e.2.core e.2.heap (subst (λ (d : Core). 1 ≤ uses d s) is some) in
      let same : (e.0.core.entries s).name ≡ k = ap (λ (d : Core). (d.entries s).name) (sym is) ∙ name in
      subst (λ (h : Heap). 0 < count_of h k) (sym heap) (subst (λ (q : ℕ). 0 < count_of (heap_of e.0) q) same there)

  out : outside c s ≡ (c.entries s).refs - uses c s
  out = refl

  by_root : 1 ≤ outside c s → (b : Bool) → is_root t k ≡ b → (is_root t k ≡ true) ⊎ (0 < count_of t.heap k)
  by_root some true e = inl e
  by_root some false e =
      let none : outside_by c (c.find k) ≡ 0 = free-told c n.regs n.pager.pinned k (kept-rooted n.pager.levels.parts n.regs n.pager.pinned n.ledger n.pager.levels.whole kept) kept.many e in
      let here : outside c s ≡ 0 = ap (outside_by c) (sym found) ∙ none in
      absurd (let no_ : ⊥ = omega (arith, some, here) in no_)

  by_use : 1 ≤ (c.entries s).refs → (u : ℕ) → uses c s ≡ u → (is_root t k ≡ true) ⊎ (0 < count_of t.heap k)
  by_use some zero e = by_root (let is = out in omega (arith, some, e, is)) (is_root t k) refl
  by_use some (suc u) e = inr (counted (omega (arith, e)))

-- ---- a word comes, and another goes

and-false : (b : Bool) → (b && false) ≡ false
and-false true = refl
and-false false = refl

-- a word went, and nothing else of the heap changed
pub thin-swapped : {H : Type 0} (host : Ghosts H) (m n : LoomMemory H host) (w old : ℕ) → IsSound host m → IsKept n.pager.levels.parts n.regs n.pager.pinned n.ledger → IsExact host n.pager.levels.parts n.pager.levels.disk.host.now n.pager.levels.disk.rest n.ledger.next [] → (loom_told host n).heap ≡ (loom_told host m).heap
    → IsSwap (core_of m.pager.levels.parts) (core_of n.pager.levels.parts) w old → (n.thinned ≡ true → m.thinned ≡ true) → (n.thinned ≡ true → is_short old ≡ true → IsNamedIn (core_of n.pager.levels.parts) old) → IsThin host n
unfolding loom_told outside
thin-swapped host m n w old sound kept exact heap swap was named = thin-is host _ (λ on told k has. ⊎_elim (λ known. inl known)
    (λ (rest : (is_root (loom_told host m) k ≡ true) ⊎ (0 < count_of (loom_told host m).heap k)).
    ⊎_elim (λ root. rooted on told k root) (λ (some : 0 < count_of (loom_told host m).heap k). inr (inr (subst (λ (h : Heap). 0 < count_of h k) (sym heap) some))) rest)
    (thin-none host m sound.thin (was on) told k (subst (λ (h : Heap). Has h k) heap has))) where
      x : Core
      x = core_of m.pager.levels.parts

      y : Core
      y = core_of n.pager.levels.parts

      out : (s : ℕ) → outside y s ≡ (y.entries s).refs - uses y s
      out s = refl

      refs-of : (s : ℕ) → n.thinned ≡ true → is_short s ≡ true → 1 ≤ outside x s → IsNamedIn y s
      refs-of s on short some = ⊎_elim (λ (same : s ≡ old). subst (λ (q : ℕ). IsNamedIn y q) (sym same) (named on (subst (λ (q : ℕ). is_short q ≡ true) same short)))
          (λ (away : s ≢ old).
          let here : one s old ≡ 0 = apart s away in
          let more = swap.swap s in
          let is = out s in
          inr (omega (arith, here, more, is, some))) (cases_eq s old)
        where
          apart : (s : ℕ) → s ≢ old → one s old ≡ 0
          apart s away = go (eqb old s) refl where
            go : (b : Bool) → eqb old s ≡ b → one s old ≡ 0
            go true e = absurd (away (sym (eqb-true old s e)))
            go false e = ap (λ (b : Bool). let k : ℕ = cond b 1 0 in k) (ap (λ (b : Bool). is_short s && b) e ∙ and-false (is_short s))

      rooted : n.thinned ≡ true → IsTrue (host.tells Work) → (k : ℕ) → is_root (loom_told host m) k ≡ true → IsStillNamed (loom_told host n) k
      rooted on told k root =
          let at = root-word x m.regs m.pager.pinned k (kept-rooted m.pager.levels.parts m.regs m.pager.pinned m.ledger m.pager.levels.whole sound.kept) root in
          let used = outside-used x at.0 m.pager.levels.whole.parts.core at.1.held in
          let live = swap.live at.0 used in
          living host n at.0 k kept exact told live.0 (live.1 ∙ at.1.name) (refs-of at.0 on at.1.short at.1.held)

-- ---- an object is stored into

-- what is there once an object was put was there before
put-had : (h : Heap) (n k : ℕ) (o p : Object) → h.at n ≡ Some o → Has (put_object h n p) k → Has h k
put-had h n k o p there has = go (eqb k n) refl where
  go : (b : Bool) → eqb k n ≡ b → Has h k
  go true e = let same : k ≡ n = grind (arith, common_steps) in ap (λ (q : ℕ). is_some (h.at q)) same ∙ ap is_some there
  go false e = sym (ap (λ (b : Bool). is_some (cond b (Some p) (h.at k))) e) ∙ has

-- a field gets another value: what was counted still is, or it was the value
field-counted : (h : Heap) (n i k : ℕ) (o : Object) (v w : Value) → IsBounded h → h.at n ≡ Some o → field_of o.body i ≡ Some v → 0 < count_of h k
    → (0 < count_of (put_object h n (record { class = o.class; body = with_field o.body i w })) k) ⊎ (is_ref k v ≡ true)
field-counted h n i k o v w bound there field some = go (is_ref k v) refl where
  go : (b : Bool) → is_ref k v ≡ b → (0 < count_of (put_object h n (record { class = o.class; body = with_field o.body i w })) k) ⊎ (is_ref k v ≡ true)
  go true e = inr e
  go false e =
      let all = count-store h n o i k v w bound there field in
      let none : word_is k v ≡ 0 = ap (λ (b : Bool). let x : ℕ = cond b 1 0 in x) e in
      inl (omega (arith, all, none, some))

-- what a disk and a core hold, where it is told
told-heap : {H : Type 0} (host : Ghosts H) (m : LoomMemory H host) → IsTrue (host.tells Work) → (loom_told host m).heap ≡ record { at = held (core_of m.pager.levels.parts) (disk_of host m.pager.levels.disk.host.now m.pager.levels.disk.rest); next = m.ledger.next }
unfolding loom_told
told-heap host m told = heap-told (host.tells Work) (held (core_of m.pager.levels.parts) (disk_of host m.pager.levels.disk.host.now m.pager.levels.disk.rest)) m.ledger.next (record { at = held (core_of m.pager.levels.parts) (disk_of host m.pager.levels.disk.host.now m.pager.levels.disk.rest); next = m.ledger.next }) told refl refl

told-bounded : {H : Type 0} (host : Ghosts H) (m : LoomMemory H host) → IsExact host m.pager.levels.parts m.pager.levels.disk.host.now m.pager.levels.disk.rest m.ledger.next [] → IsTrue (host.tells Work) → IsBounded (loom_told host m).heap
unfolding loom_told
told-bounded host m exact told =
    let e = exact told in
    subst (λ (h : Heap). IsBounded h) (sym (levels-told host m.pager.levels.parts m.pager.levels.disk.host.now m.pager.levels.disk.rest e.0 m.ledger.next e.1 e.3 told)) (bounded (heap_of e.0) e.2.heap)

-- a root stays one while registers and slots do
root-same : (t u : Told) (k : ℕ) → u.regs ≡ t.regs → u.slots ≡ t.slots → is_root t k ≡ true → is_root u k ≡ true
root-same t u k regs slots root = subst (λ (f : ℕ → Value). any_below REGISTERS (λ r. is_ref k (f r)) || has_slot u.slots k ≡ true) (sym regs)
    (subst (λ (g : ℕ → Option ℕ). any_below REGISTERS (λ r. is_ref k (t.regs r)) || has_slot g k ≡ true) (sym slots) root)

-- an object was put in place of one
record IsPutIn {H : Type 0} (host : Ghosts H) (m n : LoomMemory H host) (o p : Object) (name : ℕ) : Type 0 where
  there : (loom_told host m).heap.at name ≡ Some o
  put : (loom_told host n).heap ≡ put_object (loom_told host m).heap name p

-- the heap with a body in place of another
put-in : {H : Type 0} (host : Ghosts H) (m n : LoomMemory H host) (o p : Object) (name : ℕ) → n.ledger.next ≡ m.ledger.next → IsTrue (host.tells Work)
    → held (core_of m.pager.levels.parts) (disk_of host m.pager.levels.disk.host.now m.pager.levels.disk.rest) name ≡ Some o
    → held (core_of n.pager.levels.parts) (disk_of host n.pager.levels.disk.host.now n.pager.levels.disk.rest) ≡ (λ q. cond (eqb q name) (Some p) (held (core_of m.pager.levels.parts) (disk_of host m.pager.levels.disk.host.now m.pager.levels.disk.rest) q))
    → IsPutIn host m n o p name
put-in host m n o p name next told there put = record {
  there = ap (λ (h : Heap). h.at name) (told-heap host m told) ∙ there;
  put = told-heap host n told
      ∙ (λ i. record { at = put i; next = next i })
      ∙ ap (λ (h : Heap). put_object h name p) (sym (told-heap host m told));
}

-- fields stay as they were
pub thin-rewritten : {H : Type 0} (host : Ghosts H) (m : LoomMemory H host) (q : Parts) (whole : IsWhole q) (s p : ℕ) (body : Body) → IsSound host m → (loom_told host (over_parts m q whole)).regs ≡ (loom_told host m).regs → (loom_told host (over_parts m q whole)).slots ≡ (loom_told host m).slots
    → (IsTrue (host.tells Work) → IsRewritten (core_of m.pager.levels.parts) (core_of q) (disk_of host m.pager.levels.disk.host.now m.pager.levels.disk.rest) s p body) → IsThin host (over_parts m q whole)
unfolding loom_told
thin-rewritten host m q whole s p body sound regs slots changed = thin-is host _ (λ on told k has.
    let disk : Disk = disk_of host m.pager.levels.disk.host.now m.pager.levels.disk.rest in
    let x = core_of m.pager.levels.parts in
    let o : Object = object_at x disk (x.entries s) p in
    let c = changed told in
    let name = (x.entries s).name in
    let there = held-at x disk name s p (m.pager.levels.whole.parts.core.found s (placed-used (x.entries s).state p c.place)) c.place in
    let in_ = put-in host m (over_parts m q whole) o (record { class = o.class; body = body }) name refl told there c.stored in
    let had = put-had (loom_told host m).heap name k o (record { class = o.class; body = body }) in_.there (subst (λ (h : Heap). Has h k) in_.put has) in
    let count = ap (λ (h : Heap). count_of h k) in_.put ∙ count-same_fields (loom_told host m).heap name o body k (told-bounded host m sound.exact told) in_.there c.fields in
    ⊎_elim (λ known. inl known)
    (λ (rest : (is_root (loom_told host m) k ≡ true) ⊎ (0 < count_of (loom_told host m).heap k)).
    ⊎_elim (λ root. inr (inl (root-same (loom_told host m) (loom_told host (over_parts m q whole)) k regs slots root))) (λ (some : 0 < count_of (loom_told host m).heap k). inr (inr (omega (arith, some, count)))) rest)
    (thin-none host m sound.thin on told k had))

-- a field gets another value: the one before is named still, or it says no more that nothing is dead
pub thin-exchanged : {H : Type 0} (host : Ghosts H) (m : LoomMemory H host) (a b q : Parts) (whole : IsWhole q) (thinned : Bool) (s p i old : ℕ) (v w : Value) → IsSound host m → IsKept q m.regs m.pager.pinned m.ledger → IsExact host q m.pager.levels.disk.host.now m.pager.levels.disk.rest m.ledger.next []
    → (loom_told host (record (over_parts m q whole) { thinned = thinned })).regs ≡ (loom_told host m).regs → (loom_told host (record (over_parts m q whole) { thinned = thinned })).slots ≡ (loom_told host m).slots
    → IsCore (core_of a) → (IsTrue (host.tells Work) → held (core_of a) (disk_of host m.pager.levels.disk.host.now m.pager.levels.disk.rest) ≡ held (core_of m.pager.levels.parts) (disk_of host m.pager.levels.disk.host.now m.pager.levels.disk.rest))
    → (IsTrue (host.tells Work) → IsExchange (core_of a) (core_of b) (disk_of host m.pager.levels.disk.host.now m.pager.levels.disk.rest) s p i v w)
    → (IsTrue (host.tells Work) → held (core_of q) (disk_of host m.pager.levels.disk.host.now m.pager.levels.disk.rest) ≡ held (core_of b) (disk_of host m.pager.levels.disk.host.now m.pager.levels.disk.rest))
    → v ≡ meant (core_of m.pager.levels.parts).entries [] 0 old → (is_short old ≡ true → (is_used ((core_of q).entries old).state ≡ true) × (((core_of q).entries old).name ≡ ((core_of m.pager.levels.parts).entries old).name))
    → (thinned ≡ true → m.thinned ≡ true) → (thinned ≡ true → is_short old ≡ true → IsNamedIn (core_of q) old) → IsThin host (record (over_parts m q whole) { thinned = thinned })
unfolding loom_told
thin-exchanged host m a b q whole thinned s p i old v w sound kept exact regs slots core before changed after value live was named = thin-is host _ (λ on told k has.
    let n = record (over_parts m q whole) { thinned = thinned } in
    let disk : Disk = disk_of host m.pager.levels.disk.host.now m.pager.levels.disk.rest in
    let x = core_of a in
    let o : Object = object_at x disk (x.entries s) p in
    let c = changed told in
    let name = (x.entries s).name in
    let now : Object = record { class = o.class; body = with_field o.body i w } in
    let there = ap (λ (f : Disk). f name) (sym (before told)) ∙ held-at x disk name s p (core.found s (placed-used (x.entries s).state p c.place)) c.place in
    let in_ = put-in host m n o now name refl told there (after told ∙ c.stored ∙ ap (λ (f : Disk). (λ q. cond (eqb q name) (Some now) (f q))) (before told)) in
    let had = put-had (loom_told host m).heap name k o now in_.there (subst (λ (h : Heap). Has h k) in_.put has) in
    ⊎_elim (λ known. inl known)
    (λ (rest : (is_root (loom_told host m) k ≡ true) ⊎ (0 < count_of (loom_told host m).heap k)).
    ⊎_elim (λ root. inr (inl (root-same (loom_told host m) (loom_told host n) k regs slots root)))
    (λ (some : 0 < count_of (loom_told host m).heap k).
    ⊎_elim (λ (still : 0 < count_of (put_object (loom_told host m).heap name now) k). inr (inr (subst (λ (h : Heap). 0 < count_of h k) (sym in_.put) still)))
    (λ (ref : is_ref k v ≡ true).
    let of = word-names (core_of m.pager.levels.parts) old k (sym value ∙ is-ref k v ref) in
    let alive = live of.0 in
    living host n old k kept exact told alive.0 (alive.1 ∙ of.1) (named on of.0))
    (field-counted (loom_told host m).heap name i k o v w (told-bounded host m sound.exact told) in_.there c.field some)) rest)
    (thin-none host m sound.thin (was on) told k had))

-- ---- as many are held as are counted

pub held-counted : {H : Type 0} (host : Ghosts H) (m : LoomMemory H host) → IsSound host m → IsTrue (host.tells Work) → object_count (loom_told host m).heap ≡ m.ledger.held
unfolding loom_told
held-counted host m sound told =
    let e = sound.exact told in
    let is : core_of m.pager.levels.parts ≡ e.0.core = core-at host m.pager.levels.parts m.pager.levels.disk.host.now m.pager.levels.disk.rest e.0 e.1 in
    ap object_count (levels-told host m.pager.levels.parts m.pager.levels.disk.host.now m.pager.levels.disk.rest e.0 m.ledger.next e.1 e.3 told) ∙ held-on_disk m.pager.levels.disk.rest (work_of host m.pager.levels.disk.host.now) e.0 [] e.1.disk e.2
    ∙ ap (λ (c : Core). disk_held m.pager.levels.disk.rest + fresh_of c) (sym is) ∙ sound.over.counted told

-- ---- where nothing was dead

pub never-ok : {E : Type 0} (f : E) → ◌≡◌ {A = Result (Unit {0}) E} (Err f) (Ok tt) → ⊥
never-ok f e = cc

pub lasted-anew : {H : Type 0} {host : Ghosts H} (m u v : LoomMemory H host) → u ≡ m → v ≡ record u { ledger = record u.ledger { base = Some u.ledger.held; made = 0 } } → HasLasted m v (Ok tt)
lasted-anew {H} {host} m u v same anew = record { ok = refl; same = anew ∙ ap (λ (z : LoomMemory H host). record z { ledger = record z.ledger { base = Some z.ledger.held; made = 0 } }) same }

pub lasted-last : {H : Type 0} {host : Ghosts H} (r : Result (Unit {0}) MemFault) (m u v : LoomMemory H host) → 128 ≤ spare_of m.pager.levels.parts → u ≡ record m { ledger = record m.ledger { base = Some m.ledger.held; made = 0 } } → OnOk r (128 ≤ spare_of u.pager.levels.parts → v ≡ u) → IfErr r (λ f. 128 ≤ spare_of u.pager.levels.parts → ⊥) → HasLasted m v r
lasted-last {H} {host} (Ok x) m u v enough same stays sure =
    let there : 128 ≤ spare_of u.pager.levels.parts = subst (λ (z : LoomMemory H host). 128 ≤ spare_of z.pager.levels.parts) (sym same) enough in
    record { ok = refl; same = stays there ∙ same }
lasted-last {H} {host} (Err f) m u v enough same stays sure = absurd (sure (subst (λ (z : LoomMemory H host). 128 ≤ spare_of z.pager.levels.parts) (sym same) enough))

pub ok-of : {A : Type 0} (r : Result (Unit {0}) MemFault) → A → OnOk r A
ok-of (Ok x) a = a
ok-of (Err f) a = tt
