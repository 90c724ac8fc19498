-- What reads leave, put together, and what stays known of objects meanwhile.
use Rattle.std.proofs.Common.{◌≡◌, ℕ, ◌<◌, nat_le, Bool, true, false, ◌||◌, cond, eqb, List, [], ◌∷◌, ◌++◌, Option, Ok, IsTrue, refl, sym, ◌∙◌, ap, subst, arith}
use Rattle.std.proofs.Math.Path.{fun_ext}
use Rattle.std.proofs.lemmas.Grind.{common_steps}
use Rattle.std.proofs.lemmas.List.Folds.{list_any-append}
use borrow.Author.Tests.{leb-true}
use Rattle.std.specs.Option.{option_and_then, option_map_or}
use Rattle.std.specs.List.{list_all}
use Rattle.long_names.specs.declared.value.Value.{Value}
use Rattle.long_names.specs.declared.object.Body.{Body}
use Rattle.long_names.specs.declared.object.Object.{Object}
use Rattle.long_names.specs.Heap.{Heap}
use Rattle.long_names.specs.State.{IsRef, set_register, object_at, part_at, HasPart}
use Rattle.long_names.specs.Access.{Access, Known, Class, KindOf, Field, SetField, SetWord, SetByte, WriteWords, Make, Pin, Mark, Say, Swap, filled_by}
use Rattle.long_names.specs.Thin.{IsThinning}
use Rattle.long_names.proofs.ThinLemmas.{both, IsThinner-refl, IsThinner-trans}
use Rattle.long_names.proofs.AccessLaws.{object-same}
use Rattle.object_memory.specs.Told.{Told, IsReady}
use Rattle.object_memory.specs.Contract.{Does, Called, no_names}
use Rattle.object_memory.proofs.LaterLaws.{SameBounds-refl, IsLater-refl, IsLater-trans, Raised-refl, Raised-then, LeavesCache-refl, store_then}
use Rattle.object_memory.specs.Shape.{HasPartAt, IsPartAt, IsTestAt, is_among, Looks, ReadsObject}

-- ---- accesses

-- whether an access stores, makes, pins, marks and says nothing
abbrev pub only_looks : Access → Bool
only_looks (SetField of i from) = false
only_looks (SetWord of i word) = false
only_looks (SetByte of i byte) = false
only_looks (WriteWords of at run) = false
only_looks (Make to class what) = false
only_looks (Pin slot of) = false
only_looks (Mark of) = false
only_looks (Say of) = false
only_looks (Swap a b) = false
only_looks _ = true

-- the registers that it fills
abbrev pub registers_of : Access → List ℕ
registers_of a = option_map_or (λ to. to ∷ []) (filled_by a) []

-- ---- put together

pub neither : (x y : Bool) → (x || y) ≡ false → (x ≡ false) × (y ≡ false)
neither true y e = cc
neither false y e = (refl, e)

-- a register other than the one that was set
pub set_other : (regs : ℕ → Value) (to : ℕ) (v : Value) (r : ℕ) → eqb r to ≡ false → set_register regs to v r ≡ regs r
set_other regs to v r apart = ap (λ b. cond b v (regs r)) apart

pub set_same : (regs : ℕ → Value) (to : ℕ) (v : Value) → set_register regs to v to ≡ v
set_same regs to v = grind (arith, common_steps)

-- a register that is not this one
pub not_among : (k r : ℕ) → (r ≡ k → ⊥) → is_among (k ∷ []) r ≡ false
not_among k r apart = go (eqb r k) refl
  where
    go : (b : Bool) → eqb r k ≡ b → (b || false) ≡ false
    go true e = let same : r ≡ k = grind (arith, common_steps, e) in absurd (apart same)
    go false e = refl

-- a register below all of these
pub below_among : (n : ℕ) (xs : List ℕ) (r : ℕ) → r < n → list_all (λ k. nat_le n k) xs ≡ true → is_among xs r ≡ false
below_among n [] r low above = refl
below_among n (k ∷ xs) r low above = let parts = both (nat_le n k) (list_all (λ k. nat_le n k) xs) above in go (eqb r k) refl parts.0 (below_among n xs r low parts.1)
  where
    go : (b : Bool) → eqb r k ≡ b → nat_le n k ≡ true → is_among xs r ≡ false → (b || is_among xs r) ≡ false
    go true e first rest = let same : r ≡ k = grind (arith, common_steps, e) in let up = leb-true n k first in absurd (omega arith)
    go false e first rest = rest

filled : (old new : Told) (to : ℕ) → new.regs ≡ set_register old.regs to (new.regs to) → (r : ℕ) → is_among (to ∷ []) r ≡ false → new.regs r ≡ old.regs r
filled old new to e r apart = ap (λ (g : ℕ → Value). g r) e ∙ set_other old.regs to (new.regs to) r (neither (eqb r to) false apart).0

pub Looks-refl : (t : Told) → Looks [] t t
Looks-refl t = record {
  later = IsLater-refl t;
  regs = λ r e. refl;
  slots = refl;
  transcript = λ speaks. refl;
  heap = λ told. IsThinner-refl t.heap;
  cache = LeavesCache-refl t.cache;
  counts = Raised-refl t.bounds;
  refusals = refl;
  last = refl;
}

-- reads after reads, where the memory was ready between them
pub Looks-trans : (xs ys : List ℕ) (a b c : Told) → IsReady b → Looks xs a b → Looks ys b c → Looks (xs ++ ys) a c
Looks-trans xs ys a b c ready x y = record {
  later = IsLater-trans a b c x.later y.later;
  regs = λ r e. (let both = neither (is_among xs r) (is_among ys r) (sym (list_any-append (λ k. eqb r k) xs ys) ∙ e) in y.regs r both.1 ∙ x.regs r both.0);
  slots = y.slots ∙ x.slots;
  transcript = λ speaks. y.transcript (x.later.speaks ∙ speaks) ∙ x.transcript speaks;
  heap = λ told. (let now = x.later.tells ∙ told in IsThinner-trans a.heap b.heap c.heap (x.heap told) (y.heap now) (ready.whole now).closed);
  cache = store_then no_names a.cache b.cache c.cache x.cache y.cache;
  counts = Raised-then 0 0 a.bounds b.bounds c.bounds x.counts y.counts;
  refusals = y.refusals ∙ x.refusals;
  last = y.last ∙ x.last;
}

-- reads that filled fewer registers
pub Looks-weaker : (xs ys : List ℕ) (a b : Told) → ((r : ℕ) → is_among ys r ≡ false → is_among xs r ≡ false) → Looks xs a b → Looks ys a b
Looks-weaker xs ys a b fewer x = record { later = x.later; regs = λ r e. x.regs r (fewer r e); slots = x.slots; transcript = x.transcript; heap = x.heap; cache = x.cache; counts = x.counts; refusals = x.refusals; last = x.last }

-- an access that was answered
pub Looks-access : {Z : Type 0} {z : Z} (old new : Told) (a : Access) → only_looks a ≡ true → Called old new (Does a) (Ok z) → Looks (registers_of a) old new
Looks-access old new (Known to name) e f = record { later = f.later; regs = filled old new to f.ok.regs; slots = f.ok.slots; transcript = f.ok.transcript; heap = f.ok.heap; cache = f.ok.cache; counts = f.ok.counts; refusals = f.ok.refusals; last = f.ok.last }
Looks-access old new (Class to of) e f = record { later = f.later; regs = filled old new to f.ok.regs; slots = f.ok.slots; transcript = f.ok.transcript; heap = f.ok.heap; cache = f.ok.cache; counts = f.ok.counts; refusals = f.ok.refusals; last = f.ok.last }
Looks-access old new (Field to of i) e f = record { later = f.later; regs = filled old new to f.ok.regs; slots = f.ok.slots; transcript = f.ok.transcript; heap = f.ok.heap; cache = f.ok.cache; counts = f.ok.counts; refusals = f.ok.refusals; last = f.ok.last }
Looks-access old new (SetField of i from) e f = let no : ◌≡◌ {A = Bool} false true = e in cc
Looks-access old new (SetWord of i word) e f = let no : ◌≡◌ {A = Bool} false true = e in cc
Looks-access old new (SetByte of i byte) e f = let no : ◌≡◌ {A = Bool} false true = e in cc
Looks-access old new (WriteWords of at run) e f = let no : ◌≡◌ {A = Bool} false true = e in cc
Looks-access old new (Make to class what) e f = let no : ◌≡◌ {A = Bool} false true = e in cc
Looks-access old new (Pin slot of) e f = let no : ◌≡◌ {A = Bool} false true = e in cc
Looks-access old new (Mark of) e f = let no : ◌≡◌ {A = Bool} false true = e in cc
Looks-access old new (Say of) e f = let no : ◌≡◌ {A = Bool} false true = e in cc
Looks-access old new (Swap a b) e f = let no : ◌≡◌ {A = Bool} false true = e in cc
Looks-access old new _ e f = record { later = f.later; regs = λ r e. ap (λ (g : ℕ → Value). g r) f.ok.regs; slots = f.ok.slots; transcript = f.ok.transcript; heap = f.ok.heap; cache = f.ok.cache; counts = f.ok.counts; refusals = f.ok.refusals; last = f.ok.last }

-- calls that asked what an object is, and were answered
pub Looks-read : {Z : Type 0} {z : Z} (old new : Told) (of : ℕ) → ReadsObject old new of (Ok z) → Looks [] old new
Looks-read old new of read = Looks-access old new (KindOf of) refl read.called

-- a value that was put into a register
pub Looks-put : (old new : Told) (to : ℕ) (v : Value) → new ≡ (record old { regs = set_register old.regs to v }) → Looks (to ∷ []) old new
Looks-put old new to v e = subst (λ (t : Told). Looks (to ∷ []) old t) (sym e) (record {
  later = record { tells = refl; speaks = refl; bounds = SameBounds-refl old.bounds; refusals = omega arith };
  regs = λ r e. set_other old.regs to v r (neither (eqb r to) false e).0;
  slots = refl;
  transcript = λ speaks. refl;
  heap = λ told. IsThinner-refl old.heap;
  cache = LeavesCache-refl old.cache;
  counts = Raised-refl old.bounds;
  refusals = refl;
  last = refl;
})

pub put_value : (old new : Told) (to : ℕ) (v : Value) → new ≡ (record old { regs = set_register old.regs to v }) → new.regs to ≡ v
put_value old new to v e = ap (λ (t : Told). t.regs to) e ∙ set_same old.regs to v

-- all registers, where none was filled
pub regs_looked : (old new : Told) → Looks [] old new → new.regs ≡ old.regs
regs_looked old new x = fun_ext (λ r. x.regs r refl)

-- ---- what stays known

-- the object in a register that was not filled
pub object_looked : (xs : List ℕ) (old new : Told) (r : ℕ) → IsReady new → Looks xs old new → is_among xs r ≡ false → IsTrue old.tells → object_at new.heap (new.regs r) ≡ object_at old.heap (old.regs r)
object_looked xs old new r ready x e told =
    let thin : IsThinning old.heap new.heap new.regs new.slots = record { thinner = x.heap told; whole = ready.whole (x.later.tells ∙ told) } in
    sym (object-same old.heap new.heap new.regs new.slots thin r) ∙ ap (λ (v : Value). object_at old.heap v) (x.regs r e)

-- a part of it
pub part_looked : {A : Type 0} (xs : List ℕ) (old new : Told) (r : ℕ) (f : Body → Option A) → IsReady new → Looks xs old new → is_among xs r ≡ false → IsTrue old.tells → part_at new.heap (new.regs r) f ≡ part_at old.heap (old.regs r) f
part_looked {A} xs old new r f ready x e told = ap (option_and_then (λ (o : Object). f o.body)) (object_looked xs old new r ready x e told)

-- a name in it
pub ref_looked : (xs : List ℕ) (old new : Told) (r : ℕ) → Looks xs old new → is_among xs r ≡ false → IsRef (old.regs r) → IsRef (new.regs r)
ref_looked xs old new r x e ref = subst IsRef (sym (x.regs r e)) ref

has_by : {A : Type 0} (h k : Heap) (v w : Value) (f : Body → Option A) (P : A → Type 0) → part_at h v f ≡ part_at k w f → HasPart k w f P → HasPart h v f P
has_by h k v w f P e has = (has.0, e ∙ has.1, has.2)

pub has_looked : {A : Type 0} (xs : List ℕ) (old new : Told) (r : ℕ) (f : Body → Option A) (P : A → Type 0) → IsReady new → Looks xs old new → is_among xs r ≡ false → HasPartAt old r f P → HasPartAt new r f P
has_looked {A} xs old new r f P ready x e has = record {
  name = subst IsRef (sym (x.regs r e)) has.name;
  there = λ told. (let before = sym x.later.tells ∙ told in has_by new.heap old.heap (new.regs r) (old.regs r) f P (part_looked xs old new r f ready x e before) (has.there before));
}

pub found_looked : {A : Type 0} (xs : List ℕ) (old new : Told) (r : ℕ) (f : Body → Option A) (found : Option A) → IsReady new → Looks xs old new → is_among xs r ≡ false → IsPartAt old r f found → IsPartAt new r f found
found_looked {A} xs old new r f found ready x e part = record {
  name = λ some. subst IsRef (sym (x.regs r e)) (part.name some);
  there = λ told. (let before = sym x.later.tells ∙ told in part_looked xs old new r f ready x e before ∙ part.there before);
}

pub tested_looked : {A : Type 0} (xs : List ℕ) (old new : Told) (r : ℕ) (f : Body → Option A) (P : A → Type 0) (answer : Bool) → IsReady new → Looks xs old new → is_among xs r ≡ false → IsTestAt old r f P answer → IsTestAt new r f P answer
tested_looked {A} xs old new r f P answer ready x e test = record {
  name = λ yes. subst IsRef (sym (x.regs r e)) (test.name yes);
  there = λ told.
      let before = sym x.later.tells ∙ told in
      let same = part_looked xs old new r f ready x e before in
      (λ yes. has_by new.heap old.heap (new.regs r) (old.regs r) f P same ((test.there before).0 yes), λ has. (test.there before).1 (has_by old.heap new.heap (old.regs r) (new.regs r) f P (sym same) has));
}
