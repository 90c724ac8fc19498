-- What an access leaves of registers, slots and objects, and what stores and makings are of the heap before the reads before them.
use Rattle.std.proofs.Common.{zero, suc, ◌≡◌, ℕ, ◌+◌, ◌≤◌, Bool, true, false, cond, eqb, List, [], ◌∷◌, length, Option, Some, None, Ok, IsTrue, refl, sym, ◌∙◌, ap, subst, arith, length-take, length-drop, length-append}
use Rattle.std.proofs.lemmas.Grind.{common_steps}
use Rattle.std.proofs.lemmas.List.{length-set}
use Rattle.std.specs.Option.{option_and_then, option_map, option_map_or}
use Rattle.std.specs.List.{slice_get, slice_set}
use Rattle.long_names.specs.declared.value.Value.{Value}
use Rattle.long_names.specs.declared.value.Value.TheVariants.{Int, Ref}
use Rattle.long_names.specs.declared.object.Kind.{Kind}
use Rattle.long_names.specs.declared.object.Body.{Body}
use Rattle.long_names.specs.declared.object.Body.TheVariants.{Pointers, Words, Bytes, Method}
use Rattle.long_names.specs.declared.object.Object.{Object}
use Rattle.long_names.specs.declared.object.Kind.TheVariants as kind
use Rattle.long_names.specs.Objects.{kind_of, len_of, fields_of, field_of, pointers_of, literals_of, words_of, bytes_of, put_run, with_field, with_words, with_bytes}
use Rattle.long_names.specs.Heap.{Heap, put_object}
use Rattle.long_names.specs.State.{IsRef, name_at, set_register, object_at, part_at}
use Rattle.long_names.specs.Access.{Access, SetField, SetWord, SetByte, WriteWords, Pin, Swap, CanDo, target_of, filled_by, heap_after, with_body, brought}
use Rattle.long_names.specs.Thin.{IsThinner, IsThinning}
use Rattle.long_names.proofs.ThinLemmas.{has, IsThinner-trans}
use Rattle.long_names.proofs.AccessLaws.{part-same, heap-thinner, whole-heap}
use Rattle.object_memory.specs.Told.{Told, IsReady}
use Rattle.object_memory.specs.Contract.{Does, Follows, Called, MayDo, stores}
use Rattle.object_memory.specs.Shape.{HasPartAt, Looks, is_among, field_count, word_count, byte_count, literals_count, fields_by, words_by, bytes_by}
use Rattle.object_memory.proofs.LooksLaws.{registers_of, neither, set_other}
use Rattle.object_memory.proofs.ShapeLaws.{has_counted}

-- ---- registers and slots

-- a register that an access does not fill
pub regs_left : {Z : Type 0} {z : Z} (old new : Told) (a : Access) (r : ℕ) → Called old new (Does a) (Ok z) → is_among (registers_of a) r ≡ false → new.regs r ≡ old.regs r
regs_left old new a r f apart = go (filled_by a) f.ok.regs apart
  where
    go : (x : Option ℕ) → new.regs ≡ option_map_or (λ v. option_map_or (λ to. set_register old.regs to v) x old.regs) (option_and_then (λ to. Some (new.regs to)) x) old.regs → is_among (option_map_or (λ to. to ∷ []) x []) r ≡ false → new.regs r ≡ old.regs r
    go None e apart = ap (λ (g : ℕ → Value). g r) e
    go (Some to) e apart = ap (λ (g : ℕ → Value). g r) e ∙ set_other old.regs to (new.regs to) r (neither (eqb r to) false apart).0

-- the register that it fills has the value that it brings
pub reg_filled : {Z : Type 0} {z : Z} (old new : Told) (a : Access) (to : ℕ) → Called old new (Does a) (Ok z) → filled_by a ≡ Some to → IsTrue old.tells → brought old.heap old.regs a ≡ Some (new.regs to)
reg_filled old new a to f e told = f.ok.brings told ∙ ap (option_and_then (λ k. Some (new.regs k))) e

-- the slot that a pin fills, and the others
pub slot_pinned : {Z : Type 0} {z : Z} (old new : Told) (slot of : ℕ) → Called old new (Does (Pin slot of)) (Ok z) → new.slots slot ≡ Some (name_at (old.regs of))
slot_pinned old new slot of f = let same : eqb slot slot ≡ true = grind (arith, common_steps) in ap (λ (g : ℕ → Option ℕ). g slot) f.ok.slots ∙ ap (λ b. cond b (Some (name_at (old.regs of))) (old.slots slot)) same

pub slot_left : {Z : Type 0} {z : Z} (old new : Told) (slot of i : ℕ) → Called old new (Does (Pin slot of)) (Ok z) → eqb i slot ≡ false → new.slots i ≡ old.slots i
slot_left old new slot of i f apart = ap (λ (g : ℕ → Option ℕ). g i) f.ok.slots ∙ ap (λ b. cond b (Some (name_at (old.regs of))) (old.slots i)) apart

-- ---- another body for an object

another : Object → (Body → Body) → Object
another o change = record { class = o.class; body = change o.body }

-- a part of an object, once the object that a value names has another body: of this object itself,
part_changed : {A : Type 0} (h : Heap) (v : Value) (change : Body → Body) (f : Body → Option A) → part_at (with_body h v change) v f ≡ part_at h v (λ b. f (change b))
unfolding another
part_changed {A} h (Int z) change f = refl
part_changed {A} h (Ref n) change f = go (h.at n) refl
  where
    go : (x : Option Object) → h.at n ≡ x → part_at (option_map_or (λ (o : Object). put_object h n (another o change)) x h) (Ref n) f ≡ option_and_then (λ (o : Object). f (change o.body)) x
    go None e = ap (option_and_then (λ (o : Object). f o.body)) e
    go (Some o) e = let same : eqb n n ≡ true = grind (arith, common_steps) in ap (λ b. option_and_then (λ (p : Object). f p.body) (cond b (Some (another o change)) (h.at n))) same

-- of an object that another value names,
part_apart : {A : Type 0} (h : Heap) (v w : Value) (change : Body → Body) (f : Body → Option A) → (v ≡ w → ⊥) → part_at (with_body h v change) w f ≡ part_at h w f
unfolding another
part_apart {A} h (Int z) w change f apart = refl
part_apart {A} h (Ref n) (Int z) change f apart = refl
part_apart {A} h (Ref n) (Ref k) change f apart = go (h.at n)
  where
    other : (b : Bool) → eqb k n ≡ b → b ≡ false
    other true e = let same : n ≡ k = grind (arith, common_steps, e) in absurd (apart (ap (λ q. Ref q) same))
    other false e = refl

    go : (x : Option Object) → part_at (option_map_or (λ (o : Object). put_object h n (another o change)) x h) (Ref k) f ≡ part_at h (Ref k) f
    go None = refl
    go (Some o) = ap (λ b. option_and_then (λ (p : Object). f p.body) (cond b (Some (another o change)) (h.at k))) (other (eqb k n) refl)

-- and of any object, where the part stays with the other body.
part_kept : {A : Type 0} (h : Heap) (v w : Value) (change : Body → Body) (f : Body → Option A) → ((o : Object) → object_at h v ≡ Some o → f (change o.body) ≡ f o.body) → part_at (with_body h v change) w f ≡ part_at h w f
unfolding another
part_kept {A} h (Int z) w change f stays = refl
part_kept {A} h (Ref n) (Int z) change f stays = refl
part_kept {A} h (Ref n) (Ref k) change f stays = go (h.at n) refl
  where
    at : (o : Object) → h.at n ≡ Some o → (b : Bool) → eqb k n ≡ b → option_and_then (λ (p : Object). f p.body) (cond b (Some (another o change)) (h.at k)) ≡ option_and_then (λ (p : Object). f p.body) (h.at k)
    at o e true same = let is : n ≡ k = grind (arith, common_steps, same) in stays o e ∙ sym (ap (option_and_then (λ (p : Object). f p.body)) (ap h.at (sym is) ∙ e))
    at o e false same = refl

    go : (x : Option Object) → h.at n ≡ x → part_at (option_map_or (λ (o : Object). put_object h n (another o change)) x h) (Ref k) f ≡ part_at h (Ref k) f
    go None e = refl
    go (Some o) e = at o e (eqb k n) refl

-- ---- stores

-- what a store makes of the body of its object
abbrev pub change_of : (ℕ → Value) → Access → Body → Body
change_of regs (SetField of i from) b = with_field b i (regs from)
change_of regs (SetWord of i word) b = with_words b i (word ∷ [])
change_of regs (SetByte of i byte) b = with_bytes b i (byte ∷ [])
change_of regs (WriteWords of at run) b = with_words b at run
change_of regs _ b = b

inside : {p q : ℕ} → Some p ≡ Some q → p ≡ q
inside e = cc

stored_heap : (h : Heap) (regs : ℕ → Value) (a : Access) (of : ℕ) → stores a ≡ true → target_of a ≡ Some of → heap_after h regs a ≡ with_body h (regs of) (change_of regs a)
stored_heap h regs (SetField r i from) of s e = ap (λ q. with_body h (regs q) (λ b. with_field b i (regs from))) (inside e)
stored_heap h regs (SetWord r i word) of s e = ap (λ q. with_body h (regs q) (λ b. with_words b i (word ∷ []))) (inside e)
stored_heap h regs (SetByte r i byte) of s e = ap (λ q. with_body h (regs q) (λ b. with_bytes b i (byte ∷ []))) (inside e)
stored_heap h regs (WriteWords r at run) of s e = ap (λ q. with_body h (regs q) (λ b. with_words b at run)) (inside e)
stored_heap h regs (Swap p q) of s e = let no : ◌≡◌ {A = Option ℕ} None (Some of) = e in absurd (cc)
stored_heap h regs _ of s e = let no : ◌≡◌ {A = Bool} false true = s in absurd (cc)

-- the parts after any access, whose heap is thinner than what it makes
pub part_after : {A Z : Type 0} {z : Z} (old new : Told) (a : Access) (r : ℕ) (f : Body → Option A) → IsReady new → Called old new (Does a) (Ok z) → IsTrue old.tells → part_at new.heap (new.regs r) f ≡ part_at (heap_after old.heap old.regs a) (new.regs r) f
part_after {A} old new a r f ready x told =
    let thin : IsThinning (heap_after old.heap old.regs a) new.heap new.regs new.slots = record { thinner = x.ok.heap told; whole = ready.whole (x.later.tells ∙ told) } in
    sym (part-same (heap_after old.heap old.regs a) new.heap new.regs new.slots thin r f)

-- a store fills no register
stored_regs : {Z : Type 0} {z : Z} (old new : Told) (a : Access) → stores a ≡ true → Called old new (Does a) (Ok z) → new.regs ≡ old.regs
stored_regs old new (SetField r i from) s x = x.ok.regs
stored_regs old new (SetWord r i word) s x = x.ok.regs
stored_regs old new (SetByte r i byte) s x = x.ok.regs
stored_regs old new (WriteWords r at run) s x = x.ok.regs
stored_regs old new (Swap p q) s x = x.ok.regs
stored_regs old new _ s x = let no : ◌≡◌ {A = Bool} false true = s in absurd (cc)

part_stored : {A Z : Type 0} {z : Z} (old new : Told) (a : Access) (of r : ℕ) (f : Body → Option A) → stores a ≡ true → target_of a ≡ Some of → IsReady new → Called old new (Does a) (Ok z) → IsTrue old.tells → part_at new.heap (new.regs r) f ≡ part_at (with_body old.heap (old.regs of) (change_of old.regs a)) (old.regs r) f
part_stored {A} old new a of r f s e ready x told =
    part_after old new a r f ready x told
    ∙ ap (λ (h : Heap). part_at h (new.regs r) f) (stored_heap old.heap old.regs a of s e)
    ∙ ap (λ (g : ℕ → Value). part_at (with_body old.heap (old.regs of) (change_of old.regs a)) (g r) f) (stored_regs old new a s x)

-- After a store: a part of its own object,
pub stored_here : {A Z : Type 0} {z : Z} (old new : Told) (a : Access) (of : ℕ) (f : Body → Option A) → stores a ≡ true → target_of a ≡ Some of → IsReady new → Called old new (Does a) (Ok z) → IsTrue old.tells → part_at new.heap (new.regs of) f ≡ part_at old.heap (old.regs of) (λ b. f (change_of old.regs a b))
stored_here {A} old new a of f s e ready x told = part_stored old new a of of f s e ready x told ∙ part_changed old.heap (old.regs of) (change_of old.regs a) f

-- every part of another object,
pub stored_apart : {A Z : Type 0} {z : Z} (old new : Told) (a : Access) (of r : ℕ) (f : Body → Option A) → (old.regs of ≡ old.regs r → ⊥) → stores a ≡ true → target_of a ≡ Some of → IsReady new → Called old new (Does a) (Ok z) → IsTrue old.tells → part_at new.heap (new.regs r) f ≡ part_at old.heap (old.regs r) f
stored_apart {A} old new a of r f apart s e ready x told = part_stored old new a of r f s e ready x told ∙ part_apart old.heap (old.regs of) (old.regs r) (change_of old.regs a) f apart

-- and a part of any object that it does not change.
pub stored_kept : {A Z : Type 0} {z : Z} (old new : Told) (a : Access) (of r : ℕ) (f : Body → Option A) → ((o : Object) → object_at old.heap (old.regs of) ≡ Some o → f (change_of old.regs a o.body) ≡ f o.body) → stores a ≡ true → target_of a ≡ Some of → IsReady new → Called old new (Does a) (Ok z) → IsTrue old.tells → part_at new.heap (new.regs r) f ≡ part_at old.heap (old.regs r) f
stored_kept {A} old new a of r f stays s e ready x told = part_stored old new a of r f s e ready x told ∙ part_kept old.heap (old.regs of) (old.regs r) (change_of old.regs a) f stays

-- ---- fields

slice_get-set_other : (xs : List Value) (i j : ℕ) (v : Value) → (j ≡ i → ⊥) → slice_get (slice_set xs i v) j ≡ slice_get xs j
slice_get-set_other [] i j v apart = refl
slice_get-set_other (x ∷ xs) zero zero v apart = absurd (apart refl)
slice_get-set_other (x ∷ xs) zero (suc j) v apart = refl
slice_get-set_other (x ∷ xs) (suc i) zero v apart = refl
slice_get-set_other (x ∷ xs) (suc i) (suc j) v apart = slice_get-set_other xs i j v (λ e. apart (ap suc e))

slice_get-set_same : (xs : List Value) (i : ℕ) (v w : Value) → slice_get xs i ≡ Some w → slice_get (slice_set xs i v) i ≡ Some v
slice_get-set_same [] i v w e = let no : ◌≡◌ {A = Option Value} None (Some w) = e in cc
slice_get-set_same (x ∷ xs) zero v w e = refl
slice_get-set_same (x ∷ xs) (suc i) v w e = slice_get-set_same xs i v w e

-- field j of any object, after a store into field i
pub field_left : {Z : Type 0} {z : Z} (old new : Told) (of i from r j : ℕ) → (j ≡ i → ⊥) → IsReady new → Called old new (Does (SetField of i from)) (Ok z) → IsTrue old.tells → part_at new.heap (new.regs r) (λ b. field_of b j) ≡ part_at old.heap (old.regs r) (λ b. field_of b j)
field_left old new of i from r j apart ready x told = stored_kept old new (SetField of i from) of r (λ b. field_of b j) (λ o e. each o.body) refl refl ready x told
  where
    each : (b : Body) → field_of (with_field b i (old.regs from)) j ≡ field_of b j
    each (Pointers values) = slice_get-set_other values i j (old.regs from) apart
    each (Words words) = refl
    each (Bytes bytes) = refl
    each (Method header literals code) = slice_get-set_other literals i j (old.regs from) apart

-- and the field that was stored into
pub field_stored : {Z : Type 0} {z : Z} (old new : Told) (of i from : ℕ) → CanDo old.heap old.regs (SetField of i from) → IsReady new → Called old new (Does (SetField of i from)) (Ok z) → IsTrue old.tells → part_at new.heap (new.regs of) (λ b. field_of b i) ≡ Some (old.regs from)
field_stored old new of i from can ready x told = stored_here old new (SetField of i from) of (λ b. field_of b i) refl refl ready x told ∙ go (object_at old.heap (old.regs of)) can.1
  where
    each : (b : Body) → field_of b i ≡ Some can.0 → field_of (with_field b i (old.regs from)) i ≡ Some (old.regs from)
    each (Pointers values) e = slice_get-set_same values i (old.regs from) can.0 e
    each (Words words) e = let no : ◌≡◌ {A = Option Value} None (Some can.0) = e in cc
    each (Bytes bytes) e = let no : ◌≡◌ {A = Option Value} None (Some can.0) = e in cc
    each (Method header literals code) e = slice_get-set_same literals i (old.regs from) can.0 e

    go : (o : Option Object) → option_and_then (λ (o : Object). field_of o.body i) o ≡ Some can.0 → option_and_then (λ (o : Object). field_of (with_field o.body i (old.regs from)) i) o ≡ Some (old.regs from)
    go None e = let no : ◌≡◌ {A = Option Value} None (Some can.0) = e in cc
    go (Some o) e = each o.body e

-- ---- kinds and lengths

-- the kind of a body, its length, and its number of fields
pub record Sizes : Type 0 where
  pub kind : Kind
  pub len : ℕ
  pub fields : ℕ

abbrev pub sizes_of : Body → Sizes
sizes_of b = record { kind = kind_of b; len = len_of b; fields = length (fields_of b) }

length-put_run : (xs : List ℕ) (at : ℕ) (run : List ℕ) → at + length run ≤ length xs → length (put_run xs at run) ≡ length xs
length-put_run xs at run low = simp (length-append, length-take, length-drop) (omega arith)

sizes : (kind : Kind) (a b c d : ℕ) → a ≡ b → c ≡ d → (let x : Sizes = record { kind = kind; len = a; fields = c } in x) ≡ (record { kind = kind; len = b; fields = d })
sizes kind a b c d e f = cc

sizes-with_field : (b : Body) (i : ℕ) (v : Value) → sizes_of (with_field b i v) ≡ sizes_of b
sizes-with_field (Pointers values) i v = sizes _ _ _ _ _ (length-set values i v) (length-set values i v)
sizes-with_field (Words words) i v = refl
sizes-with_field (Bytes bytes) i v = refl
sizes-with_field (Method header literals code) i v = sizes _ _ _ _ _ refl (length-set literals i v)

sizes-with_words : (b : Body) (at : ℕ) (run xs : List ℕ) → words_of b ≡ Some xs → at + length run ≤ length xs → sizes_of (with_words b at run) ≡ sizes_of b
sizes-with_words (Pointers values) at run xs e low = refl
sizes-with_words (Words words) at run xs e low = sizes _ _ _ _ _ (length-put_run words at run (let same : words ≡ xs = cc in subst (λ ys. at + length run ≤ length ys) (sym same) low)) refl
sizes-with_words (Bytes bytes) at run xs e low = refl
sizes-with_words (Method header literals code) at run xs e low = refl

sizes-with_bytes : (b : Body) (at : ℕ) (run xs : List ℕ) → bytes_of b ≡ Some xs → at + length run ≤ length xs → sizes_of (with_bytes b at run) ≡ sizes_of b
sizes-with_bytes (Pointers values) at run xs e low = refl
sizes-with_bytes (Words words) at run xs e low = refl
sizes-with_bytes (Bytes bytes) at run xs e low = sizes _ _ _ _ _ (length-put_run bytes at run (let same : bytes ≡ xs = cc in subst (λ ys. at + length run ≤ length ys) (sym same) low)) refl
sizes-with_bytes (Method header literals code) at run xs e low = sizes _ _ _ _ _ (length-put_run code at run (let same : code ≡ xs = cc in subst (λ ys. at + length run ≤ length ys) (sym same) low)) refl

-- a part of an object that a value names
of_object : {A : Type 0} (h : Heap) (v : Value) (f : Body → Option A) (x : A) (o : Object) → part_at h v f ≡ Some x → object_at h v ≡ Some o → f o.body ≡ Some x
of_object h v f x o e at = sym (ap (option_and_then (λ (p : Object). f p.body)) at) ∙ e

-- a store leaves kinds, lengths and numbers of fields
pub sizes_changed : (h : Heap) (regs : ℕ → Value) (a : Access) (of : ℕ) → stores a ≡ true → target_of a ≡ Some of → CanDo h regs a → (o : Object) → object_at h (regs of) ≡ Some o → sizes_of (change_of regs a o.body) ≡ sizes_of o.body
sizes_changed h regs (SetField r i from) of s e can o at = sizes-with_field o.body i (regs from)
sizes_changed h regs (SetWord r i word) of s e can o at = sizes-with_words o.body i (word ∷ []) can.0 (of_object h (regs r) words_of can.0 o can.1 (ap (λ q. object_at h (regs q)) (inside e) ∙ at)) (let low = can.2 in omega arith)
sizes_changed h regs (SetByte r i byte) of s e can o at = sizes-with_bytes o.body i (byte ∷ []) can.0 (of_object h (regs r) bytes_of can.0 o can.1 (ap (λ q. object_at h (regs q)) (inside e) ∙ at)) (let low = can.2 in omega arith)
sizes_changed h regs (WriteWords r at run) of s e can o is = sizes-with_words o.body at run can.0 (of_object h (regs r) words_of can.0 o can.1 (ap (λ q. object_at h (regs q)) (inside e) ∙ is)) can.2
sizes_changed h regs (Swap p q) of s e can o at = let no : ◌≡◌ {A = Option ℕ} None (Some of) = e in absurd (cc)
sizes_changed h regs _ of s e can o at = let no : ◌≡◌ {A = Bool} false true = s in absurd (cc)

-- so a part that these tell stays in every object,
pub sized_stored : {A Z : Type 0} {z : Z} (old new : Told) (a : Access) (of r : ℕ) (f : Body → Option A) (g : Sizes → Option A) → ((b : Body) → f b ≡ g (sizes_of b)) → stores a ≡ true → target_of a ≡ Some of → CanDo old.heap old.regs a → IsReady new → Called old new (Does a) (Ok z) → IsTrue old.tells → part_at new.heap (new.regs r) f ≡ part_at old.heap (old.regs r) f
sized_stored {A} old new a of r f g each s e can ready x told = stored_kept old new a of r f (λ o at. each (change_of old.regs a o.body) ∙ ap g (sizes_changed old.heap old.regs a of s e can o at) ∙ sym (each o.body)) s e ready x told

listed_stored : {X Z : Type 0} {z : Z} (old new : Told) (a : Access) (of r : ℕ) (part : Body → Option (List X)) (g : Sizes → Option ℕ) (P : ℕ → Type 0) → ((b : Body) → option_map length (part b) ≡ g (sizes_of b)) → stores a ≡ true → target_of a ≡ Some of → MayDo old a → IsReady new → Called old new (Does a) (Ok z) → HasPartAt old r part (λ xs. P (length xs)) → HasPartAt new r part (λ xs. P (length xs))
listed_stored {X} old new a of r part g P each s e may ready x has = record {
  name = subst (λ (regs : ℕ → Value). IsRef (regs r)) (sym (stored_regs old new a s x)) has.name;
  there = λ told.
      let before : IsTrue old.tells = sym x.later.tells ∙ told in
      let it = has.there before in
      let count : Body → Option ℕ = λ b. option_map length (part b) in
      let old_count = counted_part old.heap (old.regs r) part it.0 it.1 in
      has_counted new.heap (new.regs r) part (length it.0) P (sized_stored old new a of r count g each s e (may.heap before) ready x before ∙ old_count) it.2;
}
  where
    counted_part : (h : Heap) (v : Value) (part : Body → Option (List X)) (xs : List X) → part_at h v part ≡ Some xs → part_at h v (λ b. option_map length (part b)) ≡ Some (length xs)
    counted_part h v part xs e = go (object_at h v) e
      where
        go : (o : Option Object) → option_and_then (λ (o : Object). part o.body) o ≡ Some xs → option_and_then (λ (o : Object). option_map length (part o.body)) o ≡ Some (length xs)
        go None e = let no : ◌≡◌ {A = Option (List X)} None (Some xs) = e in cc
        go (Some o) e = ap (option_map length) e

fields-sized : (b : Body) → field_count b ≡ fields_by (kind_of b) (len_of b)
fields-sized (Pointers values) = refl
fields-sized (Words words) = refl
fields-sized (Bytes bytes) = refl
fields-sized (Method header literals code) = refl

words-sized : (b : Body) → word_count b ≡ words_by (kind_of b) (len_of b)
words-sized (Pointers values) = refl
words-sized (Words words) = refl
words-sized (Bytes bytes) = refl
words-sized (Method header literals code) = refl

bytes-sized : (b : Body) → byte_count b ≡ bytes_by (kind_of b) (len_of b)
bytes-sized (Pointers values) = refl
bytes-sized (Words words) = refl
bytes-sized (Bytes bytes) = refl
bytes-sized (Method header literals code) = refl

literals_by : Kind → ℕ → Option ℕ
literals_by kind.Pointers n = None
literals_by kind.Words n = None
literals_by kind.Bytes n = None
literals_by kind.Method n = Some n

literals-sized : (b : Body) → literals_count b ≡ literals_by (kind_of b) (length (fields_of b))
unfolding literals_by
literals-sized (Pointers values) = refl
literals-sized (Words words) = refl
literals-sized (Bytes bytes) = refl
literals-sized (Method header literals code) = refl

-- the number of fields of an object of pointers, of words, of bytes or of a method's code, and of literals, after a store
pub fields_stored : {Z : Type 0} {z : Z} (old new : Told) (a : Access) (of r : ℕ) (P : ℕ → Type 0) → stores a ≡ true → target_of a ≡ Some of → MayDo old a → IsReady new → Called old new (Does a) (Ok z) → HasPartAt old r pointers_of (λ xs. P (length xs)) → HasPartAt new r pointers_of (λ xs. P (length xs))
fields_stored old new a of r P s e may ready x has = listed_stored old new a of r pointers_of (λ z. fields_by z.kind z.len) P fields-sized s e may ready x has

pub words_stored : {Z : Type 0} {z : Z} (old new : Told) (a : Access) (of r : ℕ) (P : ℕ → Type 0) → stores a ≡ true → target_of a ≡ Some of → MayDo old a → IsReady new → Called old new (Does a) (Ok z) → HasPartAt old r words_of (λ xs. P (length xs)) → HasPartAt new r words_of (λ xs. P (length xs))
words_stored old new a of r P s e may ready x has = listed_stored old new a of r words_of (λ z. words_by z.kind z.len) P words-sized s e may ready x has

pub bytes_stored : {Z : Type 0} {z : Z} (old new : Told) (a : Access) (of r : ℕ) (P : ℕ → Type 0) → stores a ≡ true → target_of a ≡ Some of → MayDo old a → IsReady new → Called old new (Does a) (Ok z) → HasPartAt old r bytes_of (λ xs. P (length xs)) → HasPartAt new r bytes_of (λ xs. P (length xs))
bytes_stored old new a of r P s e may ready x has = listed_stored old new a of r bytes_of (λ z. bytes_by z.kind z.len) P bytes-sized s e may ready x has

pub literals_stored : {Z : Type 0} {z : Z} (old new : Told) (a : Access) (of r : ℕ) (P : ℕ → Type 0) → stores a ≡ true → target_of a ≡ Some of → MayDo old a → IsReady new → Called old new (Does a) (Ok z) → HasPartAt old r literals_of (λ xs. P (length xs)) → HasPartAt new r literals_of (λ xs. P (length xs))
literals_stored old new a of r P s e may ready x has = listed_stored old new a of r literals_of (λ z. literals_by z.kind z.fields) P literals-sized s e may ready x has

-- ---- over a thinning

-- What an access leaves is thinner than what it makes of a heap that was thinned before it, as by reads.
pub heap_over : (h : Heap) (old new : Told) (a : Access) → IsThinner h old.heap → IsReady old → Follows old new (Does a) → IsTrue old.tells → IsThinner (heap_after h old.regs a) new.heap
heap_over h old new a thinner ready x told =
    let whole = ready.whole told in
    IsThinner-trans (heap_after h old.regs a) (heap_after old.heap old.regs a) new.heap (heap-thinner h old.heap old.regs old.slots (record { thinner = thinner; whole = whole }) a) (x.heap told) (whole-heap old.heap old.regs old.slots whole a).closed

-- A store after reads, as a store into the heap before them.
pub store_over : {Z : Type 0} {z : Z} (xs : List ℕ) (first old new : Told) (of i from : ℕ) (v : Value) → Looks xs first old → is_among xs of ≡ false → old.regs from ≡ v → IsReady old → Called old new (Does (SetField of i from)) (Ok z) → IsTrue first.tells → IsThinner (with_body first.heap (first.regs of) (λ b. with_field b i v)) new.heap
store_over xs first old new of i from v looks apart is ready x told =
    let now = looks.later.tells ∙ told in
    subst (λ (w : Value). IsThinner (with_body first.heap (first.regs of) (λ b. with_field b i w)) new.heap) is
    (subst (λ (w : Value). IsThinner (with_body first.heap w (λ b. with_field b i (old.regs from))) new.heap) (looks.regs of apart)
    (heap_over first.heap old new (SetField of i from) (looks.heap told) ready x.ok now))
