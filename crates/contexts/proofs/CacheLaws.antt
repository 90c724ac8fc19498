-- A sound cache stays sound: what its rows looked at is marked, and marked objects stay as they are or the cache is emptied.
use Rattle.std.proofs.Common.{◌≡◌, ℕ, ◌<◌, Bool, true, false, cond, eqb, List, Option, Some, None, inl, inr, IsTrue, refl, sym, ◌∙◌, ap, ap₂, subst₂, arith}
use Rattle.std.proofs.lemmas.Grind.{common_steps}
use Rattle.std.specs.Option.{option_map_or}
use Rattle.long_names.specs.declared.value.Value.{Value}
use Rattle.long_names.specs.declared.value.Value.TheVariants.{Int, Ref}
use Rattle.long_names.specs.declared.object.Body.{Body}
use Rattle.long_names.specs.declared.object.Object.{Object}
use Rattle.long_names.specs.Objects.{is_ref}
use Rattle.long_names.specs.Heap.{Heap, put_object}
use Rattle.long_names.specs.Access.{Access, SetField, SetWord, SetByte, WriteWords, Swap, made_by, with_body, with_made, with_swapped, heap_after}
use Rattle.long_names.specs.Thin.{IsThinner}
use Rattle.long_names.proofs.ThinLemmas.{has, or_first, or_second, swap_at}
use Rattle.long_names.proofs.AccessLaws.{another}
use Rattle.object_memory.specs.Told.{Told, Cache, IsReady}
use Rattle.object_memory.specs.Contract.{Call, Does, Settles, Thins, IsKeptCache, LeavesCache, with_mark, touched_by, marked_by, no_names, Follows, IsLeft}
use Rattle.object_memory.specs.Shape.{Looks}
use Rattle.object_memory.proofs.LaterLaws.{rows_left}
use Rattle.blue_model.specs.Machine.{Machine, Outcome, Go, log_of}
use Rattle.blue_model.specs.Lookup.{lookup}
use Rattle.contexts.specs.Cache.{IsRead, Finds, IsLookup, IsSound}
use Rattle.contexts.proofs.LookupLaws.{SameLook, looks_lookup}

-- ---- what a lookup found

-- what it looked at is marked
read_marked : (marks : ℕ → Bool) (method : ℕ) (o : Outcome (Option Value)) → Finds marks method o → (n : ℕ) → IsRead n (log_of o) → marks n ≡ true
read_marked marks method (Go (Some v) x log) f n r = f.1 n r
read_marked marks method (Go None x log) f n r = absurd f
read_marked marks method _ f n r = absurd f

-- with more marks it finds the method, too,
Finds-up : (before after : ℕ → Bool) (method : ℕ) (o : Outcome (Option Value)) → ((n : ℕ) → before n ≡ true → after n ≡ true) → Finds before method o → Finds after method o
Finds-up before after method (Go (Some v) x log) up f = (f.0, λ n r. up n (f.1 n r))
Finds-up before after method (Go None x log) up f = f
Finds-up before after method _ up f = f

-- and so does one that ends like it
Finds-same : (m s : Machine) (marks : ℕ → Bool) (method : ℕ) (a b : Outcome (Option Value)) → SameLook m s a b → Finds marks method a → Finds marks method b
Finds-same m s marks method (Go (Some v) x log) (Go (Some w) y rows) h f = (let same : v ≡ w = cc in sym same ∙ f.0, λ n r. f.1 n (h.3 n r))
Finds-same m s marks method (Go (Some v) x log) (Go None y rows) h f = let no : ◌≡◌ {A = Option Value} (Some v) None = h.0 in absurd (cc)
Finds-same m s marks method (Go (Some v) x log) _ h f = absurd h
Finds-same m s marks method _ b h f = absurd f

-- A lookup is the same in a heap that has the marked objects.
pub lookup_same : (h : Heap) (marks : ℕ → Bool) (class selector method : ℕ) → IsLookup h marks class selector method → (m : Machine) → ((n : ℕ) → marks n ≡ true → m.heap.at n ≡ h.at n) → Finds marks method (lookup (Ref selector) (Ref class) m)
lookup_same h marks class selector method row m same =
    let before : Machine = record m { heap = h } in
    let found : Finds marks method (lookup (Ref selector) (Ref class) before) = row.finds before refl in
    let alike : SameLook before m (lookup (Ref selector) (Ref class) before) (lookup (Ref selector) (Ref class) m) = (looks_lookup (Ref selector) (Ref class)).looks before m (λ n r. same n (read_marked marks method (lookup (Ref selector) (Ref class) before) found n r)) in
    Finds-same before m marks method (lookup (Ref selector) (Ref class) before) (lookup (Ref selector) (Ref class) m) alike found

-- ---- a cache and a heap after it

-- A sound cache stays sound where rows only leave, marks stay, and marked objects are as they were.
pub sound_frame : (h g : Heap) (before after : Cache) → ((c s m : ℕ) → after.rows c s m ≡ true → before.rows c s m ≡ true) → ((n : ℕ) → before.marks n ≡ true → after.marks n ≡ true) → ((n : ℕ) → before.marks n ≡ true → g.at n ≡ h.at n) → IsSound h before → IsSound g after
sound_frame h g before after rows up same sound = record {
  sound = λ c s m e.
      let row = sound.sound c s m (rows c s m e) in
      record {
        class_marked = up c row.class_marked;
        selector_marked = up s row.selector_marked;
        method_marked = up m row.method_marked;
        finds = λ x f. Finds-up before.marks after.marks m (lookup (Ref s) (Ref c) x) up (lookup_same h before.marks c s m row x (λ n k. ap (λ (z : Heap). z.at n) f ∙ same n k));
      };
}

marks_kept : (touched : ℕ → Bool) (marked : Option ℕ) (a c : Cache) → IsKeptCache touched a (with_mark a marked) c → (n : ℕ) → a.marks n ≡ true → c.marks n ≡ true
marks_kept touched None a c k n is = ap (λ (f : ℕ → Bool). f n) k.marks ∙ is
marks_kept touched (Some q) a c k n is = ap (λ (f : ℕ → Bool). f n) k.marks ∙ or_second (eqb n q) (a.marks n) is

-- A sound cache stays sound after a call of any kind: what it leaves is thinner than what it made of the heap, and there each object
-- from before the call is as it was, but the one that it stored into.
pub sound_left : (old new : Told) (made : Heap) (touched : ℕ → Bool) (marked : Option ℕ) → IsReady old → IsReady new → IsThinner made new.heap → LeavesCache touched marked old.cache (with_mark old.cache marked) new.cache → ((n : ℕ) → n < old.heap.next → (touched n ≡ true → ⊥) → made.at n ≡ old.heap.at n) → IsTrue old.tells → IsTrue new.tells → IsSound old.heap old.cache → IsSound new.heap new.cache
sound_left old new made touched marked before after thinner (inr e) apart told now sound = record { sound = λ c s m is. (let none = e.rows c s m in absurd (cc)) }
sound_left old new made touched marked before after thinner (inl k) apart told now sound = sound_frame old.heap new.heap old.cache new.cache (rows_left touched marked old.cache new.cache (inl k)) (marks_kept touched marked old.cache new.cache k) as_before sound
  where
    other : (n : ℕ) → old.cache.marks n ≡ true → touched n ≡ true → ⊥
    other n is e = let not = k.untouched n e in absurd (cc)

    as_before : (n : ℕ) → old.cache.marks n ≡ true → new.heap.at n ≡ old.heap.at n
    as_before n is =
        let there = has new.heap n (after.marked now n (marks_kept touched marked old.cache new.cache k n is)) in
        there.1 ∙ sym (thinner.same n there.0 there.1) ∙ apart n ((before.whole told).below n (before.marked told n is)) (other n is)

-- ---- what a call makes of an object that it does not store into

-- the number of another name
not_named : (n k : ℕ) → (is_ref n (Ref k) ≡ true → ⊥) → eqb n k ≡ false
not_named n k other = go (eqb n k) refl
  where
    go : (b : Bool) → eqb n k ≡ b → eqb n k ≡ false
    go true e = absurd (other (grind (arith, common_steps, e)))
    go false e = e

body_apart : (h : Heap) (v : Value) (change : Body → Body) (n : ℕ) → (is_ref n v ≡ true → ⊥) → (with_body h v change).at n ≡ h.at n
body_apart h (Int z) change n other = refl
body_apart h (Ref k) change n other = go (h.at k)
  where
    go : (x : Option Object) → (option_map_or (λ (o : Object). put_object h k (another change o)) x h).at n ≡ h.at n
    go None = refl
    go (Some o) = ap (λ b. cond b (Some (another change o)) (h.at n)) (not_named n k other)

swapped_apart : (h : Heap) (v w : Value) (n : ℕ) → (is_ref n v ≡ true → ⊥) → (is_ref n w ≡ true → ⊥) → (with_swapped h v w).at n ≡ h.at n
swapped_apart h (Int z) w n first second = refl
swapped_apart h (Ref p) (Int z) n first second = refl
swapped_apart h (Ref p) (Ref q) n first second = go (h.at p) (h.at q)
  where
    go : (x y : Option Object) → (swap_at h p q x y).at n ≡ h.at n
    go None y = refl
    go (Some o) None = refl
    go (Some o) (Some r) = ap₂ (λ b c. cond b (Some o) (cond c (Some r) (h.at n))) (not_named n q second) (not_named n p first)

made_apart : (h : Heap) (x : Option Object) (n : ℕ) → n < h.next → (with_made h x).at n ≡ h.at n
made_apart h None n low = refl
made_apart h (Some o) n low = let apart : eqb n h.next ≡ false = grind (arith, common_steps) in ap (λ b. cond b (Some o) (h.at n)) apart

after_apart : (h : Heap) (regs : ℕ → Value) (a : Access) (n : ℕ) → n < h.next → (touched_by regs a n ≡ true → ⊥) → (heap_after h regs a).at n ≡ h.at n
after_apart h regs (SetField of i from) n low other = body_apart h (regs of) _ n other
after_apart h regs (SetWord of i word) n low other = body_apart h (regs of) _ n other
after_apart h regs (SetByte of i byte) n low other = body_apart h (regs of) _ n other
after_apart h regs (WriteWords of at run) n low other = body_apart h (regs of) _ n other
after_apart h regs (Swap p q) n low other =
    swapped_apart h (regs p) (regs q) n (λ e. other (or_first (is_ref n (regs p)) (is_ref n (regs q)) e)) (λ e. other (or_second (is_ref n (regs p)) (is_ref n (regs q)) e))
after_apart h regs a n low other = made_apart h (made_by regs a) n low

-- ---- the law

-- A sound cache is sound after each call that a memory answered,
pub sound_follows : (old new : Told) (call : Call) → IsReady old → IsReady new → Follows old new call → IsTrue old.tells → IsTrue new.tells → IsSound old.heap old.cache → IsSound new.heap new.cache
sound_follows old new (Does a) before after x told now sound = sound_left old new (heap_after old.heap old.regs a) (touched_by old.regs a) (marked_by old.regs a) before after (x.heap told) x.cache (after_apart old.heap old.regs a) told now sound
sound_follows old new Settles before after x told now sound = sound_left old new old.heap no_names None before after (x.heap told) x.cache (λ n low other. refl) told now sound
sound_follows old new Thins before after x told now sound = sound_left old new old.heap no_names None before after (x.heap told) x.cache (λ n low other. refl) told now sound

-- after one that was refused,
pub sound_refused : (old new : Told) → IsReady old → IsLeft old new → IsTrue old.tells → IsTrue new.tells → IsSound old.heap old.cache → IsSound new.heap new.cache
sound_refused old new before x told now sound = sound_left old new old.heap no_names None before x.ready (x.heap told) x.cache (λ n low other. refl) told now sound

-- after reads,
pub sound_looked : (xs : List ℕ) (old new : Told) → IsReady old → IsReady new → Looks xs old new → IsTrue old.tells → IsTrue new.tells → IsSound old.heap old.cache → IsSound new.heap new.cache
sound_looked xs old new before after x told now sound = sound_left old new old.heap no_names None before after (x.heap told) x.cache (λ n low other. refl) told now sound

-- and after a call that leaves heap and cache.
pub sound_put : (old new : Told) → new.heap ≡ old.heap → new.cache ≡ old.cache → IsSound old.heap old.cache → IsSound new.heap new.cache
sound_put old new heap cache sound = subst₂ (λ h c. IsSound h c) (sym heap) (sym cache) sound
