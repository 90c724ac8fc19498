-- A word comes into a slot, and the one before is let go.
use Rattle.std.proofs.Common.{zero, suc, ◌≡◌, ◌≢◌, ℕ, ◌+◌, ◌<◌, ◌≤◌, Bool, true, false, cond, eqb, List, [], ◌∷◌, refl, sym, ◌∙◌, ap, subst, arith, Option, Some, None, Ok, IsTrue, count_by}
use Rattle.std.proofs.lemmas.Grind.{common_steps}
use Rattle.std.proofs.Math.Path.{fun_ext}
use Rattle.long_names.specs.declared.value.Value.{Value}
use Rattle.long_names.specs.declared.value.Value.TheVariants.{Ref}
use Rattle.long_names.specs.Heap.{Has}
use Rattle.long_names.specs.State.{set_slot, name_at}
use Rattle.long_names.specs.Access.{Pin, Nothing}
use Rattle.long_names.proofs.ThinLemmas.{IsWhole-pin, IsThinner-refl}
use Rattle.loom_host.specs.declared.outside.Host.{Ghosts}
use Rattle.loom_host.specs.declared.outside.Role.TheVariants.{Work}
use Rattle.object_memory.specs.Told.{Told, Cache, Bounds, IsReady}
use Rattle.object_memory.specs.Contract.{SameBounds, Raised, IfBounds, HasCore, Accessed, LeavesCache, no_names}
use Rattle.object_table.specs.Entries.{is_short, is_used}
use Rattle.core_segment.specs.Segment.{size_of}
use Rattle.disk_objects.specs.declared.rest.DiskRest.{DiskRest}
use Rattle.disk_objects.specs.Function.{disk_of}
use Rattle.core_view.specs.Core.{Core}
use Rattle.core_view.specs.Words.{meant}
use Rattle.core_view.specs.Held.{held}
use Rattle.core_view.specs.Counts.{names, one, outside}
use Rattle.core_view.specs.Kept.{IsCore, IsBacked}
use Rattle.core_view.specs.Room.{in_hand}
use Rattle.core_view.proofs.Core.{placed-used}
use Rattle.core_view.proofs.Words.{meant-short}
use Rattle.core_view.proofs.Lists.{count-cons, one-here}
use Rattle.leaf_lambda.specs.declared.parts.Parts.{Parts}
use Rattle.leaf_lambda.specs.Parts.{core_of, IsParts}
use Rattle.method_cache.specs.Found.{found}
use Rattle.purger.specs.declared.room.Pinned.{Pinned}
use Rattle.leaf_lambda.specs.Whole.{IsWhole}
use Rattle.loom_memory.specs.declared.ledger.Ledger.{Ledger}
use Rattle.loom_memory.specs.Cache.{IsCached}
use Rattle.loom_memory.specs.Memory.{told_of, pin_in, with_pin, name_if, word_in, IsPinned, IsKept}
use Rattle.loom_memory.specs.Gentle.{IsQuiet}
use Rattle.loom_memory.proofs.CacheLaws.{cache-same, cached-same}
use Rattle.loom_memory.proofs.RegLaws.{IsRooted, IsSwap, count-append, ref-pinned, heap-same, register-means, kept-rooted}

-- ---- three words

count-three : (t a b d : ℕ) → count_by (names t) (a ∷ (b ∷ (d ∷ []))) ≡ one t a + one t b + one t d
count-three t a b d =
    let first = count-cons t a (b ∷ (d ∷ [])) in
    let second = count-cons t b (d ∷ []) in
    let third = count-cons t d [] in
    let none : count_by (names t) [] ≡ 0 = refl in
    omega arith

pub hand-count : (t : ℕ) (regs : List ℕ) (pins : Pinned) → count_by (names t) (in_hand regs pins.a pins.b pins.d) ≡ count_by (names t) regs + one t pins.a + one t pins.b + one t pins.d
hand-count t regs pins = let split = count-append t regs (pins.a ∷ (pins.b ∷ (pins.d ∷ []))) in let three = count-three t pins.a pins.b pins.d in omega arith

-- one slot filled, and what it had let go
pub pin-count : (t : ℕ) (regs : List ℕ) (pins : Pinned) (slot w : ℕ) → slot < 3
    → count_by (names t) (in_hand regs (with_pin pins slot w).a (with_pin pins slot w).b (with_pin pins slot w).d) + one t (pin_in pins slot) ≡ count_by (names t) (in_hand regs pins.a pins.b pins.d) + one t w
pin-count t regs pins zero w low = let was = hand-count t regs pins in let now = hand-count t regs (record pins { a = w }) in omega arith
pin-count t regs pins (suc zero) w low = let was = hand-count t regs pins in let now = hand-count t regs (record pins { b = w }) in omega arith
pin-count t regs pins (suc (suc zero)) w low = let was = hand-count t regs pins in let now = hand-count t regs (record pins { d = w }) in omega arith
pin-count t regs pins (suc (suc (suc n))) w low = absurd (omega arith)

not-two : (i n k : ℕ) {A : Type 0} → n ≢ k → eqb i n ≡ true → eqb i k ≡ true → A
not-two i n k {A} away e f = let one_ : i ≡ n = grind (arith, common_steps) in let two : i ≡ k = grind (arith, common_steps) in absurd (away (sym one_ ∙ two))

pub pin-set : (pins : Pinned) (slot w i : ℕ) → slot < 3 → pin_in (with_pin pins slot w) i ≡ cond (eqb i slot) w (pin_in pins i)
pin-set pins zero w i low = go (eqb i 0)
  where
    go : (x : Bool) → cond x w (cond (eqb i 1) pins.b (cond (eqb i 2) pins.d 0)) ≡ cond x w (cond x pins.a (cond (eqb i 1) pins.b (cond (eqb i 2) pins.d 0)))
    go true = refl
    go false = refl
pin-set pins (suc zero) w i low = go (eqb i 0) (eqb i 1) refl refl
  where
    go : (x y : Bool) → eqb i 0 ≡ x → eqb i 1 ≡ y → cond x pins.a (cond y w (cond (eqb i 2) pins.d 0)) ≡ cond y w (cond x pins.a (cond y pins.b (cond (eqb i 2) pins.d 0)))
    go true true e f = not-two i 0 1 (λ h. cc) e f
    go true false e f = refl
    go false true e f = refl
    go false false e f = refl
pin-set pins (suc (suc zero)) w i low = go (eqb i 0) (eqb i 1) (eqb i 2) refl refl refl
  where
    go : (x y z : Bool) → eqb i 0 ≡ x → eqb i 1 ≡ y → eqb i 2 ≡ z → cond x pins.a (cond y pins.b (cond z w 0)) ≡ cond z w (cond x pins.a (cond y pins.b (cond z pins.d 0)))
    go true y true e f h = not-two i 0 2 (λ h. cc) e h
    go true y false e f h = refl
    go false true true e f h = not-two i 1 2 (λ h. cc) f h
    go false true false e f h = refl
    go false false true e f h = refl
    go false false false e f h = refl
pin-set pins (suc (suc (suc n))) w i low = absurd (omega arith)

pub pin-held : (c : Core) (regs : List ℕ) (pins : Pinned) (slot : ℕ) → IsRooted c regs pins → slot < 3 → is_short (pin_in pins slot) ≡ true → 1 ≤ outside c (pin_in pins slot)
pin-held c regs pins slot root low is =
    let out = root.outside (pin_in pins slot) in
    let taken = pin-count (pin_in pins slot) regs pins slot 0 low in
    let one_ = one-here (pin_in pins slot) is in
    let none : one (pin_in pins slot) 0 ≡ 0 = not-none (pin_in pins slot) is in
    omega arith
  where
    not-none : (s : ℕ) → is_short s ≡ true → one s 0 ≡ 0
    not-none s is = grind (arith, common_steps)

-- ---- what is told, and what is kept

pub slot-rooted : (a d : Core) (regs : List ℕ) (pins : Pinned) (slot w : ℕ) → IsRooted a regs pins → IsSwap a d w (pin_in pins slot) → slot < 3 → IsPinned a w → IsCore d → IsRooted d regs (with_pin pins slot w)
slot-rooted a d regs pins slot w root swap low body core = record {
  core = core;
  outside = λ t.
      let out = root.outside t in
      let count = pin-count t regs pins slot w low in
      let four = swap.swap t in
      omega arith;
  pinned = λ i. subst (λ (k : ℕ). IsPinned d k) (sym (pin-set pins slot w i low)) (go i (eqb i slot));
}
  where
    go : (i : ℕ) (b : Bool) → IsPinned d (cond b w (pin_in pins i))
    go i true = ref-pinned a d w swap.step body
    go i false = ref-pinned a d (pin_in pins i) swap.step (root.pinned i)

name-then : (a d : Core) (w old v : ℕ) → IsSwap a d w old → IsPinned a v → name_if d.entries v ≡ name_if a.entries v
name-then a d w old v swap pin = go (eqb v 0) refl
  where
    go : (b : Bool) → eqb v 0 ≡ b → cond b None (Some (d.entries v).name) ≡ cond b None (Some (a.entries v).name)
    go true e = refl
    go false e =
        let some : v ≢ 0 = (λ h. let there : eqb v 0 ≡ true = grind (arith, common_steps) in absurd (let no_ : true ≡ false = sym there ∙ e in cc)) in
        ap Some (swap.live v (placed-used (a.entries v).state (pin some).1.0 (pin some).1.1)).1

slots-now : (a d : Core) (regs : List ℕ) (pins : Pinned) (slot w : ℕ) → IsRooted a regs pins → IsSwap a d w (pin_in pins slot) → slot < 3 → IsPinned a w
    → ◌≡◌ {A = ℕ → Option ℕ} (λ i. name_if d.entries (pin_in (with_pin pins slot w) i)) (set_slot (λ i. name_if a.entries (pin_in pins i)) slot (name_if a.entries w))
slots-now a d regs pins slot w root swap low body = fun_ext (λ i. ap (name_if d.entries) (pin-set pins slot w i low) ∙ go i (eqb i slot))
  where
    go : (i : ℕ) (b : Bool) → name_if d.entries (cond b w (pin_in pins i)) ≡ cond b (name_if a.entries w) (name_if a.entries (pin_in pins i))
    go i true = name-then a d w (pin_in pins slot) w swap body
    go i false = name-then a d w (pin_in pins slot) (pin_in pins i) swap (root.pinned i)

pub slot-told : {H : Type 0} (host : Ghosts H) (now : H) (rest : DiskRest) (a d : Core) (regs : List ℕ) (pins : Pinned) (k : Ledger) (slot w : ℕ) → IsRooted a regs pins → IsCore d → IsCached a (found k.rows) k.mark → IsSwap a d w (pin_in pins slot) → slot < 3 → IsPinned a w
    → (IsTrue (host.tells Work) → IsBacked a (disk_of host now rest))
    → told_of host now rest d regs (with_pin pins slot w) k ≡ record (told_of host now rest a regs pins k) { slots = set_slot (told_of host now rest a regs pins k).slots slot (name_if a.entries w) }
slot-told {H} host now rest a d regs pins k slot w root core cached swap low body backed =
    let heap = heap-same (host.tells Work) (held a (disk_of host now rest)) (held d (disk_of host now rest)) k.next (λ told. (swap.stays (disk_of host now rest) (backed told)).held) in
    let regs' : ◌≡◌ {A = ℕ → Value} (λ r. meant d.entries [] 0 (word_in regs r)) (λ r. meant a.entries [] 0 (word_in regs r)) = fun_ext (λ r. register-means a d regs pins r w (pin_in pins slot) root swap) in
    let slots' = slots-now a d regs pins slot w root swap low body in
    let cache' = cache-same a d (found k.rows) k.mark k.begun root.core core swap.marks cached in
    λ i. record (told_of host now rest a regs pins k) { heap = heap i; regs = regs' i; slots = slots' i; cache = cache' i }

pub slot-kept : (p q : Parts) (regs : List ℕ) (pins : Pinned) (k : Ledger) (slot w : ℕ) → IsWhole p → IsKept p regs pins k → IsParts q → IsSwap (core_of p) (core_of q) w (pin_in pins slot) → slot < 3 → IsPinned (core_of p) w → q.segment ≡ p.segment → IsKept q regs (with_pin pins slot w) k
unfolding core_of
slot-kept p q regs pins k slot w whole kept parts swap low body segment =
    let root = slot-rooted (core_of p) (core_of q) regs pins slot w (kept-rooted p regs pins k whole kept) swap low body parts.core in
    let bound = swap.step.bound in
    record {
      size = ap size_of segment ∙ kept.size;
      entries = let was = kept.entries in omega arith;
      rooted = root.outside;
      filled = kept.filled;
      many = kept.many;
      pinned = root.pinned;
      cached = cached-same (core_of p) (core_of q) (found k.rows) k.mark whole.parts.core parts.core swap.marks kept.cached;
    }

-- ---- the access

pub pin-name : (c : Core) (s : ℕ) (v : Value) → is_short s ≡ true → v ≡ meant c.entries [] 0 s → name_if c.entries s ≡ Some (name_at v)
pin-name c s v short is =
    let some : eqb s 0 ≡ false = grind (arith, common_steps) in
    ap (λ (b : Bool). cond b None (Some (c.entries s).name)) some ∙ ap Some (sym (ap name_at (is ∙ meant-short c.entries [] 0 s short)))

pin-answered : (t : Told) (b : Option Bounds) (c : Cache) (slot of : ℕ) → SameBounds t.bounds b → Raised 0 t.bounds b → LeavesCache no_names None t.cache t.cache c → IfBounds t.bounds (HasCore t (Pin slot of))
    → Accessed {A = Unit {0}} t (record t { bounds = b; cache = c; slots = set_slot t.slots slot (Some (name_at (t.regs of))) }) (Pin slot of) (λ _. Nothing) (Ok tt)
pin-answered t b c slot of same counts left core = record {
  called = record {
    later = record { tells = refl; speaks = refl; bounds = same; refusals = omega arith };
    ok = record { regs = refl; brings = λ told. refl; slots = refl; transcript = λ told. refl; heap = λ told. IsThinner-refl t.heap; cache = left; counts = counts; base = tt; refusals = refl; last = refl };
    err = tt;
  };
  answer = λ told. refl;
  named = λ make told. absurd (omega arith);
  core = core;
}

-- an object came, and its name into a slot
pub pin-access : (t u v : Told) (slot of : ℕ) (x : Option ℕ) → IsQuiet t u → x ≡ Some (name_at (u.regs of)) → v ≡ record u { slots = set_slot u.slots slot x } → IfBounds t.bounds (HasCore t (Pin slot of)) → Accessed {A = Unit {0}} t v (Pin slot of) (λ _. Nothing) (Ok tt)
pin-access t u v slot of x quiet name is core =
    let whole : v ≡ record t { bounds = u.bounds; cache = u.cache; slots = set_slot t.slots slot (Some (name_at (t.regs of))) } =
    is ∙ ap (λ y. record u { slots = set_slot u.slots slot y }) name ∙ ap (λ (z : Told). record z { slots = set_slot z.slots slot (Some (name_at (z.regs of))) }) quiet.same in
    subst (λ (z : Told). Accessed {A = Unit {0}} t z (Pin slot of) (λ _. Nothing) (Ok tt)) (sym whole) (pin-answered t u.bounds u.cache slot of quiet.bounds quiet.counts quiet.cache core)

pub ready-pin : (t : Told) (slot : ℕ) (x : Option ℕ) → ((k : ℕ) → x ≡ Some k → IsTrue t.tells → Has t.heap k) → IsReady t → IsReady (record t { slots = set_slot t.slots slot x })
ready-pin t slot x has ready = record {
  whole = λ told. IsWhole-pin t.heap t.regs t.slots (set_slot t.slots slot x) slot x (ready.whole told) refl (λ k e. has k e told);
  marked = ready.marked;
  cached = ready.cached;
}

-- a register's name is there
pub pin-has : (t : Told) (c : Core) (of s k : ℕ) → IsReady t → is_short s ≡ true → t.regs of ≡ meant c.entries [] 0 s → name_if c.entries s ≡ Some k → IsTrue t.tells → Has t.heap k
pin-has t c of s k ready short is e told = (ready.whole told).rooted of k (ref ∙ ap Ref (same (sym (pin-name c s (t.regs of) short is) ∙ e)))
  where
    ref : t.regs of ≡ Ref (name_at (t.regs of))
    ref = is ∙ meant-short c.entries [] 0 s short ∙ ap Ref (sym (ap name_at (is ∙ meant-short c.entries [] 0 s short)))

    same : Some (name_at (t.regs of)) ≡ Some k → name_at (t.regs of) ≡ k
    same e = cc

-- the entry of a slot's word is in use
pub pinned-used : (c : Core) (w : ℕ) → IsPinned c w → is_short w ≡ true → is_used (c.entries w).state ≡ true
pinned-used c w pin is = let at = pin (λ e. absurd (let none : is_short 0 ≡ true = subst (λ (k : ℕ). is_short k ≡ true) e is in cc)) in placed-used (c.entries w).state at.1.0 at.1.1
