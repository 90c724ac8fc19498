-- What is told of an object whose body is in the core.
use Rattle.std.proofs.Common.{zero, suc, ◌≡◌, ◌≢◌, ℕ, pos, ◌+◌, ◌%◌, ◌<◌, ◌≤◌, get_or, Bool, true, false, cond, eqb, List, [], ◌∷◌, length, refl, sym, ◌∙◌, ap, subst, arith, Option, Some, IsTrue}
use Rattle.std.proofs.lemmas.Grind.{common_steps}
use Rattle.std.proofs.lemmas.List.Sums.{sum_by-cons}
use Rattle.std.specs.Prelude.{sum_by}
use Rattle.std.specs.List.{slice_get}
use Rattle.std.specs.Option.{option_and_then, option_map_or}
use Rattle.long_names.specs.declared.value.Value.{Value}
use Rattle.long_names.specs.declared.value.Value.TheVariants.{Int, Ref}
use Rattle.long_names.specs.declared.object.Kind.{Kind}
use Rattle.long_names.specs.declared.object.Kind.TheVariants as kind
use Rattle.long_names.specs.declared.object.Object.{Object}
use Rattle.long_names.specs.Objects.{kind_of, fields_of, field_of, with_field}
use Rattle.long_names.specs.Heap.{Heap, put_object, add_object}
use Rattle.long_names.specs.State.{object_at as object_of_value}
use Rattle.long_names.specs.Need.{words_named, words_alone}
use Rattle.long_names.specs.Access.{KindOf, Field, SetField, OfKind, CanDo, answer_of, brought, with_body, heap_after}
use Rattle.object_table.specs.declared.entry.Entry.{Entry}
use Rattle.object_table.specs.Entries.{put, is_short, place_of}
use Rattle.core_segment.specs.Chunks.{Chunk, Placed, room_of, at_place, IsLaidOut}
use Rattle.core_view.specs.Core.{Core}
use Rattle.core_view.specs.Words.{meant, body_in, pointers, int_of_short}
use Rattle.core_view.specs.Steps.{IsAt}
use Rattle.core_view.specs.Held.{Disk, fields_there, object_at, held}
use Rattle.core_view.specs.Kept.{IsCore}
use Rattle.core_view.proofs.Core.{placed-used, held-at}
use Rattle.core_view.proofs.Words.{meant-short, field-meant, body-fields}
use Rattle.core_view.proofs.Lists.{length-values}
use Rattle.core_view.specs.Room.{room_by, room_for}
use Rattle.loom_memory.specs.Memory.{heap_if}
use Rattle.loom_memory.proofs.NeedLaws.{words-at}

-- a chunk with an owner is no larger than the region
chunk-fits : (xs : List Placed) (p : ℕ) → 0 < (at_place xs p).owner → 4 + length (at_place xs p).words ≤ sum_by room_of xs
chunk-fits [] p some = absurd (omega arith)
chunk-fits (x ∷ xs) p some = go (eqb x.place p) some (λ h. chunk-fits xs p h)
  where
    go : (b : Bool) → 0 < (cond b x.chunk (at_place xs p)).owner → (0 < (at_place xs p).owner → 4 + length (at_place xs p).words ≤ sum_by room_of xs) → 4 + length (cond b x.chunk (at_place xs p)).words ≤ sum_by room_of (x ∷ xs)
    go true h rest = let split = sum_by-cons room_of x xs in omega arith
    go false h rest = let split = sum_by-cons room_of x xs in let fits = rest h in omega arith

pub body-fits : (c : Core) (xs : List Placed) (free size s p : ℕ) → IsCore c → c.chunks ≡ at_place xs → IsLaidOut xs free size → place_of (c.entries s).state ≡ Some p → room_for c s ≤ size
body-fits c xs free size s p core is laid at =
    let short : is_short s ≡ true = core.short s (placed-used (c.entries s).state p at) in
    let above : 0 < s = grind (arith, common_steps) in
    let own : (at_place xs p).owner ≡ s = ap (λ (f : ℕ → Chunk). (f p).owner) (sym is) ∙ core.owned s p at in
    let fits = chunk-fits xs p (subst (λ (n : ℕ). 0 < n) (sym own) above) in
    let room : room_for c s ≡ 4 + length (at_place xs p).words = ap (room_by c.chunks) at ∙ ap (λ (f : ℕ → Chunk). 4 + length (f p).words) is in
    let all = laid.all in
    omega arith

pub kind-is : (entries : ℕ → Entry) (old : List Value) (ws : List ℕ) (k : Kind) (len : ℕ) → kind_of (body_in entries old ws k len) ≡ k
unfolding body_in
kind-is entries old ws kind.Pointers len = refl
kind-is entries old ws kind.Words len = refl
kind-is entries old ws kind.Bytes len = refl
kind-is entries old ws kind.Method len = refl

-- the object of a register
pub object-told : (c : Core) (disk : Disk) (next s p : ℕ) (v : Value) → IsCore c → place_of (c.entries s).state ≡ Some p → v ≡ meant c.entries [] 0 s → object_of_value (record { at = held c disk; next = next }) v ≡ Some (object_at c disk (c.entries s) p)
object-told c disk next s p v core at is =
    let short : is_short s ≡ true = core.short s (placed-used (c.entries s).state p at) in
    let name : v ≡ Ref (c.entries s).name = is ∙ meant-short c.entries [] 0 s short in
    ap (object_of_value (record { at = held c disk; next = next })) name ∙ held-at c disk (c.entries s).name s p (core.found s (placed-used (c.entries s).state p at)) at

pub kind-told : (b : Bool) (c : Core) (disk : Disk) (next s p of : ℕ) (regs : ℕ → Value) → IsTrue b → IsCore c → place_of (c.entries s).state ≡ Some p → regs of ≡ meant c.entries [] 0 s → answer_of (heap_if b (held c disk) next) regs (KindOf of) ≡ Some (OfKind (c.entries s).kind)
kind-told false c disk next s p of regs told core at is = absurd (cc)
kind-told true c disk next s p of regs told core at is =
    ap (λ (o : Option Object). option_and_then (λ k. Some (OfKind k)) (option_and_then (λ (o : Object). Some (kind_of o.body)) o)) (object-told c disk next s p (regs of) core at is)
    ∙ ap (λ (k : Kind). Some (OfKind k)) (kind-is c.entries (fields_there (disk (c.entries s).name)) (c.chunks p).words (c.entries s).kind (c.entries s).len)

pub words-told : (b : Bool) (c : Core) (disk : Disk) (next s p of : ℕ) (regs : ℕ → Value) → IsTrue b → IsCore c → place_of (c.entries s).state ≡ Some p → regs of ≡ meant c.entries [] 0 s → words_alone (heap_if b (held c disk) next) regs (KindOf of) ≡ room_for c s
words-told false c disk next s p of regs told core at is = absurd (cc)
words-told true c disk next s p of regs told core at is =
    let short : is_short s ≡ true = core.short s (placed-used (c.entries s).state p at) in
    let name : regs of ≡ Ref (c.entries s).name = is ∙ meant-short c.entries [] 0 s short in
    ap (words_named (record { at = held c disk; next = next })) name ∙ words-at c disk next s p core at

-- a stored field, as the access says it
pub stored-told : (b : Bool) (x y : Core) (disk now : Disk) (next of i from n : ℕ) (regs : ℕ → Value) (o : Object) (v : Value) → IsTrue b → regs of ≡ Ref n → held x disk n ≡ Some o → regs from ≡ v
    → held y now ≡ put (held x disk) n (Some (record { class = o.class; body = with_field o.body i v })) → heap_if b (held y now) next ≡ heap_after (heap_if b (held x disk) next) regs (SetField of i from)
stored-told false x y disk now next of i from n regs o v told name there value is = absurd (cc)
stored-told true x y disk now next of i from n regs o v told name there value is =
    let h : Heap = record { at = held x disk; next = next } in
    ap (λ (f : Disk). heap_if true f next) is
    ∙ ap (λ (w : Value). put_object (record { at = held x disk; next = next }) n (record { class = o.class; body = with_field o.body i w })) (sym value)
    ∙ sym (ap (λ (w : Value). with_body (record { at = held x disk; next = next }) w (λ b. with_field b i (regs from))) name
    ∙ ap (λ (z : Option Object). option_map_or (λ (o : Object). put_object (record { at = held x disk; next = next }) n (record { class = o.class; body = with_field o.body i (regs from) })) z (record { at = held x disk; next = next })) there)

-- an object made, as the access says it
pub made-told : (b : Bool) (x y : Core) (disk now : Disk) (next : ℕ) (o : Object) → IsTrue b → held y now ≡ put (held x disk) next (Some o) → heap_if b (held y now) (next + 2) ≡ add_object (heap_if b (held x disk) next) o
made-told false x y disk now next o told is = absurd (cc)
made-told true x y disk now next o told is = ap (λ (f : Disk). heap_if true f (next + 2)) is

-- a word that is no lambda means the same in a body and in a register
meant-fixed : (entries : ℕ → Entry) (old : List Value) (i w : ℕ) → w ≢ 0 → meant entries old i w ≡ meant entries [] 0 w
meant-fixed entries old i w some = go (eqb w 0) refl
  where
    go : (b : Bool) → eqb w 0 ≡ b → cond (eqb (w % 2) 1) (Int (int_of_short w)) (cond b (get_or old i (Int (pos 0))) (Ref (entries w).name)) ≡ cond (eqb (w % 2) 1) (Int (int_of_short w)) (cond b (get_or [] 0 (Int (pos 0))) (Ref (entries w).name))
    go true e = absurd (some (grind (arith, common_steps)))
    go false e = refl

-- the field of an object in the core, as the access brings it
pub field-told : (b : Bool) (c : Core) (disk : Disk) (next s p to of i w : ℕ) (regs : ℕ → Value) → IsTrue b → IsCore c → IsAt c s p i w → w ≢ 0 → regs of ≡ meant c.entries [] 0 s → brought (heap_if b (held c disk) next) regs (Field to of i) ≡ Some (meant c.entries [] 0 w)
field-told false c disk next s p to of i w regs told core at some is = absurd (cc)
field-told true c disk next s p to of i w regs told core at some is =
    ap (λ (o : Option Object). option_and_then (λ (o : Object). field_of o.body i) o) (object-told c disk next s p (regs of) core at.place is)
    ∙ field-meant c disk s p i w at ∙ ap Some (meant-fixed c.entries (fields_there (disk (c.entries s).name)) i w some)

-- or what the access would bring is its field
pub field-before : (b : Bool) (c : Core) (disk : Disk) (next s p of i : ℕ) (v : Value) (regs : ℕ → Value) → IsTrue b → IsCore c → place_of (c.entries s).state ≡ Some p → regs of ≡ meant c.entries [] 0 s → brought (heap_if b (held c disk) next) regs (Field 0 of i) ≡ Some v → field_of (object_at c disk (c.entries s) p).body i ≡ Some v
field-before false c disk next s p of i v regs told core at is e = absurd (cc)
field-before true c disk next s p of i v regs told core at is e = sym (ap (λ (o : Option Object). option_and_then (λ (o : Object). field_of o.body i) o) (object-told c disk next s p (regs of) core at is)) ∙ e

-- and there is none past its end
pub field-none : (b : Bool) (c : Core) (disk : Disk) (next s p to of i : ℕ) (regs : ℕ → Value) → IsTrue b → IsCore c → place_of (c.entries s).state ≡ Some p → length (pointers (c.entries s).kind (c.chunks p).words) ≤ i → regs of ≡ meant c.entries [] 0 s → CanDo (heap_if b (held c disk) next) regs (Field to of i) → ⊥
field-none false c disk next s p to of i regs told core at past is can = cc
field-none true c disk next s p to of i regs told core at past is can =
    let there : option_and_then (λ (o : Object). field_of o.body i) (Some (object_at c disk (c.entries s) p)) ≡ Some can.0 = ap (λ (o : Option Object). option_and_then (λ (o : Object). field_of o.body i) o) (sym (object-told c disk next s p (regs of) core at is)) ∙ can.1 in
    let fields = body-fields c.entries (fields_there (disk (c.entries s).name)) (c.chunks p).words (c.entries s).kind (c.entries s).len in
    let long : length (fields_of (object_at c disk (c.entries s) p).body) ≡ length (pointers (c.entries s).kind (c.chunks p).words) = ap length fields ∙ length-values (meant c.entries (fields_there (disk (c.entries s).name))) (pointers (c.entries s).kind (c.chunks p).words) in
    past-none (fields_of (object_at c disk (c.entries s) p).body) i can.0 (omega arith) there
  where
    past-none : (vs : List Value) (i : ℕ) (v : Value) → length vs ≤ i → slice_get vs i ≡ Some v → ⊥
    past-none [] i v low e = cc
    past-none (x ∷ xs) zero v low e = absurd (omega arith)
    past-none (x ∷ xs) (suc i) v low e = past-none xs i v (omega arith) e

-- the object of a register, and its words, where the heap is told
pub object-loaded : (b : Bool) (c : Core) (disk : Disk) (next s p : ℕ) (v : Value) → IsTrue b → IsCore c → place_of (c.entries s).state ≡ Some p → v ≡ meant c.entries [] 0 s → object_of_value (heap_if b (held c disk) next) v ≡ Some (object_at c disk (c.entries s) p)
object-loaded false c disk next s p v told core at is = absurd (cc)
object-loaded true c disk next s p v told core at is = object-told c disk next s p v core at is

pub named-words : (b : Bool) (c : Core) (disk : Disk) (next s p : ℕ) (v : Value) → IsTrue b → IsCore c → place_of (c.entries s).state ≡ Some p → v ≡ meant c.entries [] 0 s → words_named (heap_if b (held c disk) next) v ≡ room_for c s
named-words false c disk next s p v told core at is = absurd (cc)
named-words true c disk next s p v told core at is =
    let short : is_short s ≡ true = core.short s (placed-used (c.entries s).state p at) in
    ap (words_named (record { at = held c disk; next = next })) (is ∙ meant-short c.entries [] 0 s short) ∙ words-at c disk next s p core at
