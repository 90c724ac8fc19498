-- What a making leaves: the object that was made, and every part of the others; and what any access that stores nothing leaves.
use Rattle.std.proofs.Common.{◌≡◌, ℕ, ◌<◌, Bool, true, false, cond, eqb, length, replicate, Option, Some, Ok, IsTrue, refl, sym, ◌∙◌, ap, subst, arith}
use Rattle.std.proofs.lemmas.Grind.{common_steps}
use Rattle.std.proofs.lemmas.List.{length-replicate}
use Rattle.std.specs.Option.{option_and_then}
use Rattle.long_names.specs.declared.value.Value.{Value}
use Rattle.long_names.specs.declared.value.Value.TheVariants.{Int, Ref}
use Rattle.long_names.specs.declared.object.Body.{Body}
use Rattle.long_names.specs.declared.object.Body.TheVariants.{Pointers, Words, Bytes}
use Rattle.long_names.specs.declared.object.Object.{Object}
use Rattle.long_names.specs.Names.{NIL}
use Rattle.long_names.specs.Objects.{pointers_of, words_of, bytes_of, Making, OfPointers, OfWords, OfBytes, body_made}
use Rattle.long_names.specs.Heap.{add_object}
use Rattle.long_names.specs.State.{IsRef, name_at, part_at}
use Rattle.long_names.specs.Access.{Access, SetField, SetWord, SetByte, WriteWords, Make, Swap, heap_after}
use Rattle.long_names.proofs.ThinLemmas.{has}
use Rattle.object_memory.specs.Told.{Told, IsReady}
use Rattle.object_memory.specs.Contract.{Does, Called, MayDo, stores}
use Rattle.object_memory.specs.Shape.{HasPartAt, is_among}
use Rattle.object_memory.proofs.Callers.{has_other, may_store}
use Rattle.object_memory.proofs.LooksLaws.{registers_of, neither, set_other}
use Rattle.object_memory.proofs.LeftLaws.{regs_left, part_after}

-- ---- makings

made_name : (v : Value) (n : ℕ) → Some (Ref n) ≡ Some v → v ≡ Ref n
made_name v n e = cc

-- the object that was made
pub made_there : {Z : Type 0} {z : Z} (old new : Told) (to class : ℕ) (what : Making) → IsReady new → Called old new (Does (Make to class what)) (Ok z) → IsRef (new.regs to) → HasPartAt new to (λ b. Some b) (λ b. b ≡ body_made what)
made_there old new to class what ready x ref = record {
  name = ref;
  there = λ told.
      let before : IsTrue old.tells = sym x.later.tells ∙ told in
      let is : new.regs to ≡ Ref old.heap.next = made_name (new.regs to) old.heap.next (x.ok.brings before) in
      let found = has new.heap old.heap.next ((ready.whole told).rooted to old.heap.next is) in
      let o : Object = record { class = name_at (old.regs class); body = body_made what } in
      let made : (add_object old.heap o).at old.heap.next ≡ Some found.0 = (x.ok.heap before).same old.heap.next found.0 found.1 in
      let same : o ≡ found.0 = grind (arith, common_steps, made) in
      (body_made what, ap (λ (v : Value). part_at new.heap v (λ b. Some b)) is ∙ ap (option_and_then (λ (p : Object). Some p.body)) found.1 ∙ ap (λ (p : Object). Some p.body) (sym same), refl);
}

-- and every part of another object
pub made_apart : {A Z : Type 0} {z : Z} (old new : Told) (to class : ℕ) (what : Making) (r : ℕ) (f : Body → Option A) → eqb r to ≡ false → IsReady old → IsReady new → Called old new (Does (Make to class what)) (Ok z) → IsTrue old.tells → part_at new.heap (new.regs r) f ≡ part_at old.heap (old.regs r) f
made_apart {A} old new to class what r f apart before ready x told =
    part_after old new (Make to class what) r f ready x told
    ∙ ap (λ (v : Value). part_at (heap_after old.heap old.regs (Make to class what)) v f) (ap (λ (g : ℕ → Value). g r) x.ok.regs ∙ set_other old.regs to (new.regs to) r apart)
    ∙ go (old.regs r) refl
  where
    o : Object
    o = record { class = name_at (old.regs class); body = body_made what }

    low : (k : ℕ) → old.regs r ≡ Ref k → eqb k old.heap.next ≡ false
    low k e = let whole = before.whole told in let lt = whole.below k (whole.rooted r k e) in grind (arith, common_steps)

    go : (v : Value) → old.regs r ≡ v → part_at (heap_after old.heap old.regs (Make to class what)) v f ≡ part_at old.heap v f
    go (Int z) e = refl
    go (Ref k) e = ap (λ b. option_and_then (λ (p : Object). f p.body) (cond b (Some (record { class = name_at (old.regs class); body = body_made what })) (old.heap.at k))) (low k e)

-- the size of an object that was made
pub made_fields : (t : Told) (r size : ℕ) → HasPartAt t r (λ b. Some b) (λ b. b ≡ body_made (OfPointers size)) → HasPartAt t r pointers_of (λ xs. length xs ≡ size)
made_fields t r size made = has_other t r (λ b. Some b) (λ b. b ≡ body_made (OfPointers size)) pointers_of (λ xs. length xs ≡ size) (λ b x e is. (let body : b ≡ Pointers (replicate size (Ref NIL)) = cc in (replicate size (Ref NIL), ap pointers_of body, length-replicate size (Ref NIL)))) made

pub made_words : (t : Told) (r size : ℕ) → HasPartAt t r (λ b. Some b) (λ b. b ≡ body_made (OfWords size)) → HasPartAt t r words_of (λ xs. length xs ≡ size)
made_words t r size made = has_other t r (λ b. Some b) (λ b. b ≡ body_made (OfWords size)) words_of (λ xs. length xs ≡ size) (λ b x e is. (let body : b ≡ Words (replicate size 0) = cc in (replicate size 0, ap words_of body, length-replicate size 0))) made

pub made_bytes : (t : Told) (r size : ℕ) → HasPartAt t r (λ b. Some b) (λ b. b ≡ body_made (OfBytes size)) → HasPartAt t r bytes_of (λ xs. length xs ≡ size)
made_bytes t r size made = has_other t r (λ b. Some b) (λ b. b ≡ body_made (OfBytes size)) bytes_of (λ xs. length xs ≡ size) (λ b x e is. (let body : b ≡ Bytes (replicate size 0) = cc in (replicate size 0, ap bytes_of body, length-replicate size 0))) made

-- a store into an object of pointers that was made
pub may_store_new : (t : Told) (of i from size : ℕ) → HasPartAt t of (λ b. Some b) (λ b. b ≡ body_made (OfPointers size)) → i < size → MayDo t (SetField of i from)
may_store_new t of i from size made low = may_store t of i from (has_other t of pointers_of (λ xs. length xs ≡ size) pointers_of (λ xs. i < length xs) (λ b xs e is. (xs, e, (let long = is in omega arith))) (made_fields t of size made))

-- ---- any access that stores nothing

-- a name in a register that an access does not fill
pub ref_left : {Z : Type 0} {z : Z} (old new : Told) (a : Access) (r : ℕ) → is_among (registers_of a) r ≡ false → Called old new (Does a) (Ok z) → IsRef (old.regs r) → IsRef (new.regs r)
ref_left old new a r apart x ref = subst IsRef (sym (regs_left old new a r x apart)) ref

-- the part of an object whose register the access does not fill
pub part_left : {A Z : Type 0} {z : Z} (old new : Told) (a : Access) (r : ℕ) (f : Body → Option A) → stores a ≡ false → is_among (registers_of a) r ≡ false → IsReady old → IsReady new → Called old new (Does a) (Ok z) → IsTrue old.tells → part_at new.heap (new.regs r) f ≡ part_at old.heap (old.regs r) f
part_left {A} old new (Make to class what) r f s apart before ready x told = made_apart old new to class what r f (neither (eqb r to) false apart).0 before ready x told
part_left {A} old new (SetField of i from) r f s apart before ready x told = let no : ◌≡◌ {A = Bool} true false = s in cc
part_left {A} old new (SetWord of i word) r f s apart before ready x told = let no : ◌≡◌ {A = Bool} true false = s in cc
part_left {A} old new (SetByte of i byte) r f s apart before ready x told = let no : ◌≡◌ {A = Bool} true false = s in cc
part_left {A} old new (WriteWords of at run) r f s apart before ready x told = let no : ◌≡◌ {A = Bool} true false = s in cc
part_left {A} old new (Swap p q) r f s apart before ready x told = let no : ◌≡◌ {A = Bool} true false = s in cc
part_left {A} old new a r f s apart before ready x told = part_after old new a r f ready x told ∙ ap (λ (v : Value). part_at old.heap v f) (regs_left old new a r x apart)

pub has_left : {A Z : Type 0} {z : Z} (old new : Told) (a : Access) (r : ℕ) (f : Body → Option A) (P : A → Type 0) → stores a ≡ false → is_among (registers_of a) r ≡ false → IsReady old → IsReady new → Called old new (Does a) (Ok z) → HasPartAt old r f P → HasPartAt new r f P
has_left {A} old new a r f P s apart before ready x known = record {
  name = ref_left old new a r apart x known.name;
  there = λ told. (let was : IsTrue old.tells = sym x.later.tells ∙ told in let it = known.there was in (it.0, part_left old new a r f s apart before ready x was ∙ it.1, it.2));
}
