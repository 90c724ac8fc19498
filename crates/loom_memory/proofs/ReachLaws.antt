-- Accesses whose object was reached after dead objects went: each law is that of a quiet step, of the heap that is left, seen from before.
use Rattle.std.proofs.Common.{◌≡◌, inl, inr, ⊎_elim, ℕ, ◌≤◌, List, true, false, Option, None, Some, is_some, length, Result, Ok, Err, IsTrue, refl, sym, ◌∙◌, ap, add-zero, arith}
use Rattle.std.specs.Prelude.{OnOk, IfErr}
use Rattle.long_names.specs.declared.object.Body.{Body}
use Rattle.long_names.specs.declared.object.Object.{Object}
use Rattle.long_names.specs.declared.value.Value.TheVariants.{Ref}
use Rattle.long_names.specs.State.{class_at, name_at, object_at, part_at, set_register, set_slot}
use Rattle.long_names.specs.Access.{Access, Answer, Class, Field, Mark, Nothing, Pin, Say, answer_of, said_by, target_of}
use Rattle.object_memory.specs.declared.fault.MemFault.{MemFault}
use Rattle.object_memory.specs.Told.{Told, Bounds, IsReady}
use Rattle.object_memory.specs.Contract.{Accessed, HasCore, IfBounds, Raised, SameBounds, makes, stores}
use Rattle.long_names.specs.Kept.{kept}
use Rattle.long_names.specs.Need.{words_at}
use Rattle.loom_host.specs.declared.outside.Host.{Ghosts}
use Rattle.loom_host.specs.declared.outside.Role.TheVariants.{Work}
use Rattle.object_memory.specs.Told.{is_root}
use Rattle.object_table.specs.Entries.{place_of}
use Rattle.leaf_lambda.specs.Parts.{core_of}
use Rattle.loom_memory.specs.declared.memory.LoomMemory.{LoomMemory}
use Rattle.loom_memory.specs.Freed.{IsAlive, IsDoneOfLiving, IsFreed, IsFreedBy, IsFreedFor, IsFreedShort, IsOnTime, StaysBy}
use Rattle.loom_memory.specs.Thinned.{KeepsThinned}
use Rattle.loom_memory.specs.Memory.{loom_told, word_in, IsSound}
use Rattle.loom_memory.specs.Residents.{is_resident}
use Rattle.loom_memory.proofs.FirstRoomLaws.{alive-quiet}
use Rattle.loom_memory.proofs.GentleLaws.{resident-at}
use Rattle.loom_memory.proofs.SayLaws.{said-none}
use Rattle.long_names.specs.Access.{heap_after}
use Rattle.long_names.specs.State.{IsRef}
use Rattle.loom_memory.specs.Calls.{is_read}
use Rattle.loom_memory.specs.Makings.{HasThinned}
use Rattle.loom_memory.specs.Memory.{IsMarking, IsRefused, IsSilent, IsTaken}
use Rattle.loom_memory.specs.Gentle.{IsQuiet}
use Rattle.loom_memory.specs.Says.{IsSaid}
use Rattle.loom_memory.specs.Stores.{IsStored}
use Rattle.loom_memory.proofs.BodyLaws.{part-still, part-told}
use Rattle.loom_memory.proofs.CacheLaws.{left-refl}
use Rattle.loom_memory.proofs.ClassLaws.{class-access}
use Rattle.loom_memory.proofs.FreedLaws.{accessed-freed, core-there, part-freed, refused-freed}
use Rattle.loom_memory.proofs.LastLaws.{field-last}
use Rattle.loom_memory.proofs.MakingLaws.{thinned-ready, thinned-tells}
use Rattle.loom_memory.proofs.MarkingLaws.{mark-access}
use Rattle.loom_memory.proofs.ReadLaws.{read-answered}
use Rattle.loom_memory.proofs.SlotLaws.{pin-access}
use Rattle.loom_memory.proofs.StoreLaws.{store-last}
use Rattle.loom_memory.proofs.TimeLaws.{time-quiet}
use Rattle.loom_memory.proofs.TextLaws.{all-said, failed-from, said-from, say-last}

pub quiet-refl : (u : Told) → IsQuiet u u
quiet-refl u = record { same = refl; cache = left-refl u.cache; bounds = same u.bounds; counts = raised u.bounds }
  where
    same : (b : Option Bounds) → SameBounds b b
    same None = tt
    same (Some b) = (refl, refl, refl, omega arith, omega arith)

    raised : (b : Option Bounds) → Raised 0 b b
    raised None = tt
    raised (Some b) = (refl, sym (add-zero b.made))

before : (t u : Told) → HasThinned t u → IsTrue u.tells → IsTrue t.tells
before t u thin told = sym (thinned-tells t u thin) ∙ told

-- ---- parts of the object

pub part-left : {A : Type 0} (t u : Told) (of : ℕ) (o : Object) (f : Body → Option A) (x : Option A) → HasThinned t u → IsTrue t.tells → object_at u.heap (u.regs of) ≡ Some o → part_at t.heap (t.regs of) f ≡ x → f o.body ≡ x
part-left {A} t u of o f x thin told there was = part-still u u of o f x (quiet-refl u) there (sym (part-freed t u of f thin told) ∙ was)

pub part-first : {A : Type 0} (t u : Told) (of : ℕ) (o : Object) (f : Body → Option A) (x : Option A) → HasThinned t u → IsTrue t.tells → object_at u.heap (u.regs of) ≡ Some o → f o.body ≡ x → part_at t.heap (t.regs of) f ≡ x
part-first {A} t u of o f x thin told there is = part-freed t u of f thin told ∙ part-told u u of o f x (quiet-refl u) there is

-- ---- the accesses

pub read-freed : {A : Type 0} (t u : Told) (a : Access) (of : ℕ) (spell : A → Answer) (x : A) → is_read a ≡ true → target_of a ≡ Some of → makes a ≡ 0 → HasThinned t u → (IsTrue t.tells → answer_of u.heap u.regs a ≡ Some (spell x)) → IfBounds t.bounds (HasCore t a) → Accessed {A = A} t u a spell (Ok x)
read-freed {A} t u a of spell x is target none thin answer core =
    accessed-freed {A = A} (Ok x) t u u a of spell target none thin (read-answered {A = A} u u a spell x is (quiet-refl u) (λ told. answer (before t u thin told)) (core-there t u a of target thin core))

pub class-freed : (t u v : Told) (to of class : ℕ) → HasThinned t u → v ≡ record u { regs = set_register u.regs to (Ref class) } → (IsTrue t.tells → class_at u.heap (u.regs of) ≡ Some class) → IfBounds t.bounds (HasCore t (Class to of)) → Accessed {A = Unit {0}} t v (Class to of) (λ _. Nothing) (Ok tt)
class-freed t u v to of class thin is there core =
    accessed-freed {A = Unit {0}} (Ok tt) t u v (Class to of) of (λ _. Nothing) refl refl thin (class-access u u v to of class (quiet-refl u) is (λ told. there (before t u thin told)) (core-there t u (Class to of) of refl thin core))

pub pin-freed : (t u v : Told) (slot of : ℕ) (x : Option ℕ) → HasThinned t u → x ≡ Some (name_at (u.regs of)) → v ≡ record u { slots = set_slot u.slots slot x } → IfBounds t.bounds (HasCore t (Pin slot of)) → Accessed {A = Unit {0}} t v (Pin slot of) (λ _. Nothing) (Ok tt)
pin-freed t u v slot of x thin name is core =
    accessed-freed {A = Unit {0}} (Ok tt) t u v (Pin slot of) of (λ _. Nothing) refl refl thin (pin-access u u v slot of x (quiet-refl u) name is (core-there t u (Pin slot of) of refl thin core))

pub mark-freed : (t u v : Told) (of n : ℕ) → HasThinned t u → IsMarking u v n → u.regs of ≡ Ref n → IfBounds t.bounds (HasCore t (Mark of)) → Accessed {A = Unit {0}} t v (Mark of) (λ _. Nothing) (Ok tt)
mark-freed t u v of n thin marking name core =
    accessed-freed {A = Unit {0}} (Ok tt) t u v (Mark of) of (λ _. Nothing) refl refl thin (mark-access u u v of n (quiet-refl u) marking name (core-there t u (Mark of) of refl thin core))

pub field-freed : (r : Result (Unit {0}) MemFault) (t u v : Told) (to of i : ℕ) → HasThinned t u → OnOk r (IsTaken u v to of i) → IfErr r (IsRefused u v (Field to of i)) → IfBounds t.bounds (HasCore t (Field to of i)) → Accessed {A = Unit {0}} t v (Field to of i) (λ _. Nothing) r
field-freed r t u v to of i thin taken err core =
    accessed-freed {A = Unit {0}} r t u v (Field to of i) of (λ _. Nothing) refl refl thin (field-last r u u v to of i (quiet-refl u) taken err (core-there t u (Field to of i) of refl thin core))

pub store-freed : (r : Result (Unit {0}) MemFault) (t u v : Told) (a : Access) (of : ℕ) → stores a ≡ true → IsSilent a → makes a ≡ 0 → target_of a ≡ Some of → HasThinned t u → OnOk r (IsStored u v a) → IfErr r (IsRefused u v a) → IfBounds t.bounds (HasCore t a) → Accessed {A = Unit {0}} t v a (λ _. Nothing) r
store-freed r t u v a of is silent none target thin stored err core =
    accessed-freed {A = Unit {0}} r t u v a of (λ _. Nothing) target none thin (store-last r u u v a is silent none (quiet-refl u) stored err (core-there t u a of target thin core))

pub said-freed : (r : Result (Unit {0}) MemFault) (t u v : Told) (of k : ℕ) (all : List ℕ) → HasThinned t u → IsReady t → OnOk r ((t : Told) → IsSaid t u of 0 → IsSaid t v of k) → IfErr r (λ f. (t : Told) → IsReady t → IsSaid t u of 0 → IsRefused t v (Say of) f)
    → (IsTrue t.tells → said_by u.heap u.regs (Say of) ≡ Some all) → length all ≡ k → IfBounds t.bounds (HasCore t (Say of)) → Accessed {A = Unit {0}} t v (Say of) (λ _. Nothing) r
said-freed r t u v of k all thin ready said err says long core =
    accessed-freed {A = Unit {0}} r t u v (Say of) of (λ _. Nothing) refl refl thin
    (say-last r u v of k (said-from r u u v of k said (quiet-refl u)) (failed-from r u u v of err (thinned-ready t u thin ready) (quiet-refl u))
    (λ told. all-said u u of k all (quiet-refl u) (says (before t u thin told)) long) (core-there t u (Say of) of refl thin core))

-- ---- what is amiss then

pub amiss-freed : (t u w : Told) (a : Access) (of : ℕ) (f : MemFault) → target_of a ≡ Some of → makes a ≡ 0 → IsSilent a → HasThinned t u → IsReady t → ((t : Told) (a : Access) → IsQuiet t u → IsReady t → IsSilent a → makes a ≡ 0 → (IsTrue t.tells → ⊥) → IsRefused t w a f) → (IsTrue t.tells → ⊥) → IsRefused t w a f
amiss-freed t u w a of f target none silent thin ready err untold =
    refused-freed t u w a of f target none thin (err u a (quiet-refl u) (thinned-ready t u thin ready) silent none (λ told. untold (before t u thin told)))

-- ---- that it was done of what lives

-- the object was reached, and the heap is as it was left then, but for what the access stores
done-alive : {H : Type 0} (host : Ghosts H) (m u v : LoomMemory H host) (a : Access) → HasThinned (loom_told host m) (loom_told host u) → (IsTrue (host.tells Work) → (loom_told host v).heap ≡ heap_after (loom_told host u).heap (loom_told host u).regs a) → IsTrue (host.tells Work) → IsAlive (loom_told host u) → IsDoneOfLiving (loom_told host m) (loom_told host v) a
unfolding loom_told
done-alive {H} host m u v a thin heap told alive = record {
  heap = (loom_told host u).heap;
  thinning = thin.thinning told;
  alive = ap (λ (z : Told). kept (loom_told host u).heap (is_root z)) (sym thin.same) ∙ alive told;
  left = heap told ∙ ap (λ (z : Told). heap_after (loom_told host u).heap z.regs a) thin.same;
}

pub done-then : {H : Type 0} (host : Ghosts H) (m u v : LoomMemory H host) (n : ℕ) (a : Access) → HasThinned (loom_told host m) (loom_told host u) → IsFreedFor host m u n → (IsTrue (host.tells Work) → (loom_told host v).heap ≡ heap_after (loom_told host u).heap (loom_told host u).regs a) → v.due ≡ u.due → StaysBy m v a → IsFreedBy host m v n a
done-then {H} host m u v n a thin gone heap same stays = record {
  gone = λ told away lacks due. done-alive host m u v a thin heap told (gone.gone told away lacks due);
  due = λ told. ⊎_elim (λ (low : u.due ≤ m.due). inl (omega arith)) (λ (alive : IsAlive (loom_told host u)). inr (done-alive host m u v a thin heap told alive)) gone.due;
  stays = stays;
}

pub done-by : {T H : Type 0} (r : Result T MemFault) (host : Ghosts H) (m u v : LoomMemory H host) (n : ℕ) (a : Access) → HasThinned (loom_told host m) (loom_told host u) → IsFreedFor host m u n → OnOk r (IsTrue (host.tells Work) → (loom_told host v).heap ≡ heap_after (loom_told host u).heap (loom_told host u).regs a) → OnOk r (v.due ≡ u.due) → OnOk r (StaysBy m v a) → OnOk r (IsFreedBy host m v n a)
done-by {T} {H} (Ok x) host m u v n a thin gone heap same stays = done-then host m u v n a thin gone heap same stays
done-by {T} {H} (Err f) host m u v n a thin gone heap same stays = tt

-- an object that is here didn't come in
pub done-here : {T H : Type 0} (r : Result T MemFault) (host : Ghosts H) (m v : LoomMemory H host) (n : ℕ) (a : Access) → IsTrue (is_resident m n) → v.due ≡ m.due → StaysBy m v a → OnOk r (IsFreedBy host m v n a)
done-here {T} {H} (Ok x) host m v n a here same stays = record {
  gone = λ told away lacks due. absurd (let both : true ≡ false = sym here ∙ away in cc);
  due = λ told. inl (omega arith);
  stays = stays;
}
done-here {T} {H} (Err f) host m v n a here same stays = tt

-- entries were asked for
pub done-short : {T H : Type 0} (r : Result T MemFault) (host : Ghosts H) (m u v : LoomMemory H host) (a : Access) → HasThinned (loom_told host m) (loom_told host u) → IsFreed host m u 0 27 → OnOk r (IsTrue (host.tells Work) → (loom_told host v).heap ≡ heap_after (loom_told host u).heap (loom_told host u).regs a) → OnOk r (IsFreedShort host m v a)
done-short {T} {H} (Ok x) host m u v a thin gone heap = λ told lacks due. done-alive host m u v a thin heap told (gone lacks due)
done-short {T} {H} (Err f) host m u v a thin gone heap = tt

pub short-off : {T : Type 0} (P Q : Type 0) (r : Result T MemFault) → OnOk r Q → OnOk r (P → Q)
short-off {T} P Q (Ok x) q = λ p. q
short-off {T} P Q (Err f) q = tt

pub stored-heap : {H : Type 0} (r : Result (Unit {0}) MemFault) (host : Ghosts H) (u v : LoomMemory H host) (a : Access) → OnOk r (IsStored (loom_told host u) (loom_told host v) a) → OnOk r (IsTrue (host.tells Work) → (loom_told host v).heap ≡ heap_after (loom_told host u).heap (loom_told host u).regs a)
unfolding loom_told
stored-heap {H} (Ok x) host u v a stored = λ told. ap (λ (z : Told). z.heap) stored.same ∙ stored.stored told
stored-heap {H} (Err f) host u v a stored = tt

pub taken-heap : {H : Type 0} (r : Result (Unit {0}) MemFault) (host : Ghosts H) (u v : LoomMemory H host) (to of i : ℕ) → OnOk r (IsTaken (loom_told host u) (loom_told host v) to of i) → OnOk r (IsTrue (host.tells Work) → (loom_told host v).heap ≡ (loom_told host u).heap)
taken-heap {H} (Ok x) host u v to of i taken = λ told. ap (λ (z : Told). z.heap) taken.same
taken-heap {H} (Err f) host u v to of i taken = tt

pub said-heap : {H : Type 0} (r : Result (Unit {0}) MemFault) (host : Ghosts H) (u v : LoomMemory H host) (of k : ℕ) → OnOk r ((t : Told) → IsSaid t (loom_told host u) of 0 → IsSaid t (loom_told host v) of k) → OnOk r (IsTrue (host.tells Work) → (loom_told host v).heap ≡ (loom_told host u).heap)
said-heap {H} (Ok x) host u v of k said = λ told. ap (λ (z : Told). z.heap) (said (loom_told host u) (said-none (loom_told host u) (loom_told host u) of (quiet-refl (loom_told host u)))).same
said-heap {H} (Err f) host u v of k said = tt

-- it was opened to be stored into
pub freed-open : {H : Type 0} (host : Ghosts H) (m u v : LoomMemory H host) (n : ℕ) → IsFreedFor host m u n → IsQuiet (loom_told host u) (loom_told host v) → v.due ≡ u.due → v.thinned ≡ u.thinned → IsFreedFor host m v n
freed-open {H} host m u v n gone quiet due thinned = record {
  gone = λ told away lacks late. alive-quiet (loom_told host u) (loom_told host v) quiet (gone.gone told away lacks late);
  due = time-quiet host m u v gone.due due quiet;
  stays = λ on. thinned ∙ gone.stays on;
}

pub freed-here : {H : Type 0} (host : Ghosts H) (m : LoomMemory H host) (n : ℕ) → IsTrue (is_resident m n) → IsFreedFor host m m n
freed-here {H} host m n here = record {
  gone = λ told away. absurd (let both : true ≡ false = sym here ∙ away in cc);
  due = inl (omega arith);
  stays = λ on. on;
}

pub freed-came : {T H : Type 0} (r : Result T MemFault) (host : Ghosts H) (m u : LoomMemory H host) (of n : ℕ) → place_of ((core_of m.pager.levels.parts).entries (word_in m.regs of)).state ≡ None → OnOk r (IsTrue (host.tells Work) → place_of ((core_of m.pager.levels.parts).entries (word_in m.regs of)).state ≡ None → IsFreed host m u (words_at (loom_told host m).heap n) 27)
    → OnOk r (IsOnTime host m u) → OnOk r (KeepsThinned m u) → OnOk r (IsFreedFor host m u n)
freed-came {T} {H} (Ok x) host m u of n leaf gone due stays = record { gone = λ told away. gone told leaf; due = due; stays = stays }
freed-came {T} {H} (Err f) host m u of n leaf gone due stays = tt

-- as its entry has it
pub freed-away : {H : Type 0} (host : Ghosts H) (m u : LoomMemory H host) (of : ℕ) → IsSound host m → IsRef ((loom_told host m).regs of)
    → (IsTrue (host.tells Work) → place_of ((core_of m.pager.levels.parts).entries (word_in m.regs of)).state ≡ None → IsFreed host m u (words_at (loom_told host m).heap (name_at ((loom_told host m).regs of))) 27) → IsOnTime host m u → KeepsThinned m u → IsFreedFor host m u (name_at ((loom_told host m).regs of))
freed-away {H} host m u of sound ref gone due stays = record {
  gone = λ told away. gone told (go (place_of ((core_of m.pager.levels.parts).entries (word_in m.regs of)).state) refl (sym (resident-at host m of (word_in m.regs of) sound ref refl) ∙ away));
  due = due;
  stays = stays;
}
  where
    go : (x : Option ℕ) → place_of ((core_of m.pager.levels.parts).entries (word_in m.regs of)).state ≡ x → is_some (place_of ((core_of m.pager.levels.parts).entries (word_in m.regs of)).state) ≡ false → place_of ((core_of m.pager.levels.parts).entries (word_in m.regs of)).state ≡ None
    go None e off = e
    go (Some p) e off = absurd (let both : true ≡ false = sym (ap (λ (o : Option ℕ). is_some o) e) ∙ off in cc)

-- of a field it is said elsewhere
pub stored-stays : {T : Type 0} (r : Result T MemFault) → OnOk r (Unit {0})
stored-stays {T} (Ok x) = tt
stored-stays {T} (Err f) = tt
