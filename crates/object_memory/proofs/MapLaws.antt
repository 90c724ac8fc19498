-- Maps of objects, and what changes in them.
use Rattle.std.proofs.Common.{zero, suc, ap₂, ◌∷◌, [], ◌≡◌, ◌≢◌, ℕ, ◌+◌, ◌<◌, ◌≤◌, ◌%◌, Bool, true, false, cond, eqb, ◌^◌, List, ◌++◌, length, Option, Some, None, is_some, Result, Ok, Err, OnOk, OnErr, refl, sym, ◌∙◌, ap, subst, arith, ◌⊎◌, inl, inr, ⊎_elim, Bor, get_or, take, drop, length-append, length-take, length-drop}
use Rattle.std.proofs.lemmas.Grind.{common_steps}
use Rattle.std.proofs.lemmas.Bool.{cases_eq}
use Rattle.std.proofs.lemmas.List.{get_or_default}
use Rattle.std.proofs.lemmas.List.Elements.{All-set, All-append, All-take, All-drop}
use Rattle.std.proofs.Math.ListN.{length-set}
use mathlib.Core.Path.{fun_ext}
use Rattle.std.specs.Option.{option_copied, option_map_or, option_and_then, unwrap_or, IfSome, IsSomeAnd}
use Rattle.std.specs.List.{All}
use Rattle.std.specs.List.Sorted.{IsStrictlySortedBy}
use Rattle.std.specs.Ordering.{nat_cmp}
use Rattle.std.specs.Map.{lookup, keys_of, count_at}
use Rattle.std.specs.BTreeMap.{BTreeMap, is_at, get, IsOrdered, IsUnchanged, Updates, WritesThrough}
use Rattle.long_names.specs.Words.{IsValue}
use Rattle.long_names.specs.Objects.{IsBody, HasRange, with_field, with_words, with_bytes, words_of, bytes_of, put_run, IsObject}
use Rattle.long_names.specs.Heap.{Heap, IsBounded, put_object, swap_objects, objects_below, object_count}
use Rattle.long_names.proofs.ThinLemmas.{swap_at}
use Rattle.long_names.specs.Access.{with_body}
use Rattle.long_names.specs.declared.value.Value.{Value}
use Rattle.long_names.specs.declared.value.Value.TheVariants.{Ref}
use Rattle.long_names.specs.declared.object.Body.{Body}
use Rattle.long_names.specs.declared.object.Body.TheVariants.{Pointers, Words, Bytes, Method}
use Rattle.long_names.specs.declared.object.Object.{Object}
use Rattle.object_memory.specs.declared.plain.objects.Objects.{Objects}
use Rattle.object_memory.specs.Plain.{heap_of}
use Rattle.object_memory.specs.Stored.{IsStored}
use Rattle.long_names.specs.Names.{IsLongName}
use Rattle.object_memory.proofs.Entries.{entries, entries_below, entry_at, entries-found, length-le, map-rises, map-below}
use Rattle.long_names.proofs.FreeLaws.{without-part}

-- the entries of a map's heap are the map's
pub heap-entries : (m : Objects) → entries (heap_of m) ≡ m.objects.entries
heap-entries m = entries-found m.next 0 m.objects.entries (map-rises m.objects m.stored.ordered) (map-below m.objects m.next m.stored.ordered m.stored.below)

-- what is lent of what was found
pub lent : {X : Type 0} (P : X → Type 0) (r : Option (Bor X)) (x : Option X) → option_copied r ≡ x → ((o : X) → x ≡ Some o → P o) → IfSome r (λ o. P o.now)
lent P None x e h = tt
lent P (Some o) x e h = h o.now (sym e)

same-at : {X : Type 0} (f g : ℕ → Option X) (name q : ℕ) (x : X) → g q ≡ cond (eqb q name) (Some x) (f q) → (o : X) → g q ≡ Some o → (q ≡ name × (o ≡ x)) ⊎ (f q ≡ Some o)
same-at f g name q x e o is = ⊎_elim (λ (h : q ≡ name). inl (h, grind (arith, common_steps))) (λ (h : q ≢ name). inr (grind (arith, common_steps))) (cases_eq q name)

-- a heap that has an object put
pub heap-put : (f : ℕ → Option Object) (h : Heap) (next name : ℕ) (o : Object) → next ≡ h.next → ((q : ℕ) → f q ≡ cond (eqb q name) (Some o) (h.at q)) → (record { at = f; next = next }) ≡ put_object h name o
heap-put f h next name o e put =
    ap (λ (g : ℕ → Option Object). let x : Heap = record { at = g; next = next } in x) (fun_ext put)
    ∙ ap (λ (n : ℕ). let x : Heap = record { at = λ q. cond (eqb q name) (Some o) (h.at q); next = n } in x) e

-- what is kept where an object is put below a next name
pub stored-put : (m n : BTreeMap ℕ Object) (next now name : ℕ) (x : Object) → IsStored m next → next ≤ now → now % 2 ≡ 0 → now < 2 ^ 32 → IsOrdered nat_cmp n → IsObject x → IsLongName name → name < now → ((q : ℕ) → get nat_cmp n q ≡ cond (eqb q name) (Some x) (get nat_cmp m q)) → IsStored n now
stored-put m n next now name x s up even fits ordered object named below put = record {
  object = λ q o is. ⊎_elim (λ (h : q ≡ name × (o ≡ x)). subst IsObject (sym h.1) object) (s.object q o) (same q o is);
  named = λ q o is. ⊎_elim (λ (h : q ≡ name × (o ≡ x)). subst IsLongName (sym h.0) named) (s.named q o) (same q o is);
  below = λ q o is. ⊎_elim (λ (h : q ≡ name × (o ≡ x)). let e = h.0 in omega arith) (λ (h : get nat_cmp m q ≡ Some o). let low = s.below q o h in omega arith) (same q o is);
  even = even;
  fits = fits;
  ordered = ordered;
}
  where
    same : (q : ℕ) (o : Object) → get nat_cmp n q ≡ Some o → (q ≡ name × (o ≡ x)) ⊎ (get nat_cmp m q ≡ Some o)
    same q o is = same-at (get nat_cmp m) (get nat_cmp n) name q x (put q) o is

-- a key by the order is the key
at-key : (name q : ℕ) → is_at (nat_cmp name) q ≡ eqb q name
at-key name q = grind (arith, common_steps)

-- what was inserted or taken out, by name
pub updated : {X : Type 0} (m n : BTreeMap ℕ X) (name : ℕ) (x : Option X) → Updates nat_cmp m n name x → (q : ℕ) → get nat_cmp n q ≡ cond (eqb q name) x (get nat_cmp m q)
updated m n name x u q = u.0 q ∙ ap (λ b. cond b x (get nat_cmp m q)) (at-key name q)

-- what is kept of a part of the objects
stored-part : (m n : BTreeMap ℕ Object) (next : ℕ) → IsStored m next → IsOrdered nat_cmp n → ((q : ℕ) (o : Object) → get nat_cmp n q ≡ Some o → get nat_cmp m q ≡ Some o) → IsStored n next
stored-part m n next s ordered same = record {
  object = λ q o is. s.object q o (same q o is);
  named = λ q o is. s.named q o (same q o is);
  below = λ q o is. s.below q o (same q o is);
  even = s.even;
  fits = s.fits;
  ordered = ordered;
}

pub same-entries : (m n : BTreeMap ℕ Object) (next : ℕ) → IsStored m next → n.entries ≡ m.entries → IsStored n next
same-entries m n next s e = stored-part m n next s (subst (λ es. IsStrictlySortedBy nat_cmp (keys_of es)) (sym e) s.ordered) (λ q o is. ap (λ es. lookup (is_at (nat_cmp q)) es) (sym e) ∙ is)

-- and where an object is taken out
pub stored-removed : (m n : BTreeMap ℕ Object) (next name : ℕ) → IsStored m next → IsOrdered nat_cmp n → Updates nat_cmp m n name None → IsStored n next
stored-removed m n next name s ordered u = stored-part m n next s ordered (λ q o is. (without-part (record { at = get nat_cmp m; next = next }) name).same q o (sym (updated m n name None u q) ∙ is))

-- whatever an insert answered
pub stored-insert : {T E : Type 0} (r : Result T E) (m n : BTreeMap ℕ Object) (next name : ℕ) (x : Object) → OnOk r (Updates nat_cmp m n name (Some x)) → OnErr r (IsUnchanged m n) → IsOrdered nat_cmp n → IsStored m next → IsObject x → IsLongName name → name < next → IsStored n next
stored-insert (Ok a) m n next name x ok err ordered s object named below = stored-put m n next next name x s (omega arith) s.even s.fits ordered object named below (updated m n name (Some x) ok)
stored-insert (Err e) m n next name x ok err ordered s object named below = same-entries m n next s err

-- ---- objects that were written

-- an object with another body
abbrev pub with : Object → (Body → Body) → Object
with o change = record { class = o.class; body = change o.body }

IsBody-with_field : (b : Body) (i : ℕ) (v : Value) → IsValue v → IsBody b → IsBody (with_field b i v)
IsBody-with_field (Pointers values) i v is x = record { size = rw length-set x.size; fields = All-set IsValue values i v is x.fields }
IsBody-with_field (Words words) i v is x = x
IsBody-with_field (Bytes bytes) i v is x = x
IsBody-with_field (Method header literals code) i v is x = record { size = (x.size.0, rw length-set x.size.1, x.size.2); fields = All-set IsValue literals i v is x.fields }

HasRange-with_field : (b : Body) (i : ℕ) (v : Value) → HasRange b → HasRange (with_field b i v)
HasRange-with_field (Pointers values) i v x = x
HasRange-with_field (Words words) i v x = x
HasRange-with_field (Bytes bytes) i v x = x
HasRange-with_field (Method header literals code) i v x = x

-- with another value as a field
pub IsObject-with_field : (o : Object) (i : ℕ) (v : Value) → IsValue v → IsObject o → IsObject (with o (λ b. with_field b i v))
IsObject-with_field o i v is x = record { class = x.class; body = IsBody-with_field o.body i v is x.body; range = HasRange-with_field o.body i v x.range }

-- numbers that fit, as the elements of a list
pub all-fit : (high : ℕ) (xs : List ℕ) → ((k : ℕ) → get_or xs k 0 < high) → All (λ x. x < high) xs
all-fit high xs fit k d low = subst (λ x. x < high) (get_or_default xs k 0 d low) (fit k)

-- a run put into a list leaves its length
length-put_run : (xs : List ℕ) (at : ℕ) (run : List ℕ) → at + length run ≤ length xs → length (put_run xs at run) ≡ length xs
length-put_run xs at run low = omega (arith, length-append (take at xs ++ run) (drop (at + length run) xs), length-append (take at xs) run, length-take at xs, length-drop (at + length run) xs)

All-put_run : (P : ℕ → Type 0) (xs : List ℕ) (at : ℕ) (run : List ℕ) → All P run → All P xs → All P (put_run xs at run)
All-put_run P xs at run new old = All-append P (take at xs ++ run) (drop (at + length run) xs) (All-append P (take at xs) run (All-take P at xs old) new) (All-drop P (at + length run) xs old)

-- with other words
pub IsObject-with_words : (o : Object) (at : ℕ) (run : List ℕ) → IsSomeAnd (words_of o.body) (λ words. at + length run ≤ length words) → All (λ w. w < 2 ^ 16) run → IsObject o → IsObject (with o (λ b. with_words b at run))
IsObject-with_words o at run low all x = record { class = x.class; body = body o.body low x.body; range = range o.body x.range }
  where
    body : (b : Body) → IsSomeAnd (words_of b) (λ words. at + length run ≤ length words) → IsBody b → IsBody (with_words b at run)
    body (Pointers values) low x = x
    body (Words words) low x = record { size = rw (length-put_run words at run low) x.size; fields = x.fields }
    body (Bytes bytes) low x = x
    body (Method header literals code) low x = x

    range : (b : Body) → HasRange b → HasRange (with_words b at run)
    range (Pointers values) x = x
    range (Words words) x = All-put_run (λ w. w < 2 ^ 16) words at run all x
    range (Bytes bytes) x = x
    range (Method header literals code) x = x

-- with other bytes
pub IsObject-with_bytes : (o : Object) (at : ℕ) (run : List ℕ) → IsSomeAnd (bytes_of o.body) (λ bytes. at + length run ≤ length bytes) → All (λ b. b < 2 ^ 8) run → IsObject o → IsObject (with o (λ b. with_bytes b at run))
IsObject-with_bytes o at run low all x = record { class = x.class; body = body o.body low x.body; range = range o.body x.range }
  where
    body : (b : Body) → IsSomeAnd (bytes_of b) (λ bytes. at + length run ≤ length bytes) → IsBody b → IsBody (with_bytes b at run)
    body (Pointers values) low x = x
    body (Words words) low x = x
    body (Bytes bytes) low x = record { size = rw (length-put_run bytes at run low) x.size; fields = x.fields }
    body (Method header literals code) low x = record { size = (x.size.0, x.size.1, rw (length-put_run code at run low) x.size.2); fields = x.fields }

    range : (b : Body) → HasRange b → HasRange (with_bytes b at run)
    range (Pointers values) x = x
    range (Words words) x = x
    range (Bytes bytes) x = All-put_run (λ b. b < 2 ^ 8) bytes at run all x
    range (Method header literals code) x = All-put_run (λ b. b < 2 ^ 8) code at run all x

-- the part that a call asks for is one of the object that was found
pub found-part : {A : Type 0} (x : Option Object) (o : Object) (f : Body → Option A) (P : A → Type 0) → ((a : A) × (option_and_then (λ (o : Object). f o.body) x ≡ Some a) × P a) → x ≡ Some o → IsSomeAnd (f o.body) P
found-part x o f P part e = subst (λ y. IsSomeAnd y P) (sym (ap (option_and_then (λ (o : Object). f o.body)) (sym e) ∙ part.1)) part.2

-- what is kept where an object was written through a loan
pub stored-written : (m n : BTreeMap ℕ Object) (next name : ℕ) (o new : Object) → IsStored m next → IsOrdered nat_cmp n → get nat_cmp m name ≡ Some o → IsObject new → ((q : ℕ) → get nat_cmp n q ≡ cond (eqb q name) (Some new) (get nat_cmp m q)) → IsStored n next
stored-written m n next name o new s ordered there object put = stored-put m n next next name new s (omega arith) s.even s.fits ordered object (s.named name o there) (s.below name o there) put

-- a heap where an object has another body
pub heap-written : (f : ℕ → Option Object) (h : Heap) (name : ℕ) (change : Body → Body) (o new : Object) → h.at name ≡ Some o → new ≡ with o change → ((q : ℕ) → f q ≡ cond (eqb q name) (Some new) (h.at q)) → (record { at = f; next = h.next }) ≡ with_body h (Ref name) change
heap-written f h name change o new there e put =
    heap-put f h h.next name new refl put
    ∙ ap (λ (x : Object). put_object h name x) e
    ∙ sym (ap (λ (x : Option Object). option_map_or (λ (p : Object). put_object h name (with p change)) x h) there)

-- what was written through a loan
pub written : {X : Type 0} (m n : BTreeMap ℕ X) (name : ℕ) (old new : X) → WritesThrough nat_cmp (nat_cmp name) m new n → get nat_cmp m name ≡ Some old → (q : ℕ) → get nat_cmp n q ≡ cond (eqb q name) (Some new) (get nat_cmp m q)
written m n name old new w there = updated m n name (Some new) (w.3 (ap is_some there))

-- a map's heap is bounded
pub map-bounded : (m : Objects) → IsBounded (heap_of m)
map-bounded m = record { bounded = λ n high. go n high (get nat_cmp m.objects n) refl }
  where
    go : (n : ℕ) → m.next ≤ n → (x : Option Object) → get nat_cmp m.objects n ≡ x → get nat_cmp m.objects n ≡ None
    go n high None e = e
    go n high (Some o) e = let low = m.stored.below n o e in absurd (omega arith)

-- counts stay small where one that fits is put
pub small-put : (m n : BTreeMap ℕ ℕ) (name count : ℕ) → ((q : ℕ) → get nat_cmp n q ≡ cond (eqb q name) (Some count) (get nat_cmp m q)) → ((q : ℕ) → count_at (get nat_cmp m) q < 2 ^ 64) → count < 2 ^ 64 → (q : ℕ) → count_at (get nat_cmp n) q < 2 ^ 64
small-put m n name count put small fits q = go (eqb q name) (put q)
  where
    go : (b : Bool) → get nat_cmp n q ≡ cond b (Some count) (get nat_cmp m q) → count_at (get nat_cmp n) q < 2 ^ 64
    go true e = let is = ap (λ o. unwrap_or o 0) e in omega arith
    go false e = let is = ap (λ o. unwrap_or o 0) e in let old = small q in omega arith

-- whatever an insert answered
pub small-insert : {T E : Type 0} (r : Result T E) (m n : BTreeMap ℕ ℕ) (name count : ℕ) → OnOk r (Updates nat_cmp m n name (Some count)) → OnErr r (IsUnchanged m n) → ((q : ℕ) → count_at (get nat_cmp m) q < 2 ^ 64) → count < 2 ^ 64 → (q : ℕ) → count_at (get nat_cmp n) q < 2 ^ 64
small-insert (Ok a) m n name count ok err small fits q = small-put m n name count (updated m n name (Some count) ok) small fits q
small-insert (Err e) m n name count ok err small fits q =
    let is = ap (λ es. unwrap_or (lookup (is_at (nat_cmp q)) es) 0) err in
    let old = small q in
    omega arith

-- ---- two objects in each other's place

-- two objects that were put one after the other, with a blank in the first's place meanwhile
pub exchanged : (h : Heap) (a b : ℕ) (blank o p : Object) → a ≢ b → h.at a ≡ Some o → (put_object h a blank).at b ≡ Some p → put_object (put_object (put_object h a blank) b o) a p ≡ swap_objects h a b
exchanged h a b blank o p apart e f =
    ap (λ (g : ℕ → Option Object). let x : Heap = record { at = g; next = h.next } in x) (fun_ext (λ q. at q (eqb q a) (eqb q b) refl refl))
    ∙ ap₂ (λ x y. swap_at h a b x y) (sym e) (sym there)
  where
    there : h.at b ≡ Some p
    there = let other : eqb b a ≡ false = grind (arith, common_steps) in sym (ap (λ x. cond x (Some blank) (h.at b)) other) ∙ f

    at : (q : ℕ) (x y : Bool) → eqb q a ≡ x → eqb q b ≡ y → cond x (Some p) (cond y (Some o) (cond x (Some blank) (h.at q))) ≡ cond y (Some o) (cond x (Some p) (h.at q))
    at q true true i j = let one : q ≡ a = grind (arith, common_steps, i) in let two : q ≡ b = grind (arith, common_steps, j) in absurd (apart (sym one ∙ two))
    at q true false i j = refl
    at q false y i j = refl

-- ---- how many objects

entries-counted : (h : Heap) (n : ℕ) → length (entries_below h.at n) ≡ objects_below h n
entries-counted h zero = refl
entries-counted h (suc n) = length-append (entries_below h.at n) (entry_at h.at n) ∙ ap₂ (λ i k. i + k) (entries-counted h n) (one (h.at n))
  where
    one : (x : Option Object) → length (option_map_or (λ o. let e : ℕ × Object = (n, o) in e ∷ []) x []) ≡ cond (is_some x) 1 0
    one None = refl
    one (Some o) = refl

-- a map has as many entries as its heap has objects,
pub map-counted : (m : Objects) → length m.objects.entries ≡ object_count (heap_of m)
unfolding object_count
map-counted m = ap length (sym (heap-entries m)) ∙ entries-counted (heap_of m) m.next

-- at most as many as there are names
pub map-few : (m : Objects) → length m.objects.entries ≤ m.next
map-few m = length-le m.next 0 m.objects.entries (map-rises m.objects m.stored.ordered) (map-below m.objects m.next m.stored.ordered m.stored.below)
