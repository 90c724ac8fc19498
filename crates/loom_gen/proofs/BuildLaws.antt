-- What a builder has while its names are gone through, and the heap that it is in the end.
use Rattle.std.proofs.Common.{◌≡◌, ℕ, ◌+◌, ◌*◌, ◌%◌, ◌<◌, ◌≤◌, nat_lt, eqb, Bool, true, false, cond, Option, Some, None, refl, sym, ◌∙◌, ap, arith}
use Rattle.std.proofs.lemmas.Bool.{eqb-true, eqb-false, ltb-true, ltb-false, lt-ltb, le-ltb}
use mathlib.Core.Path.{fun_ext}
use Rattle.long_names.specs.Objects.{HasSize}
use Rattle.long_names.specs.Heap.{Heap}
use Rattle.long_names.specs.declared.object.Body.{Body}
use Rattle.long_names.specs.declared.object.Body.TheVariants.{Pointers, Words, Bytes, Method}
use Rattle.long_names.specs.declared.object.Object.{Object}
use Rattle.image_builder.specs.Builder.{object_at, built_heap}
use Rattle.image_builder.specs.Sizes.{Fits}
use Rattle.image_builder.specs.declared.builder.Builder.{Builder}
use Rattle.loom_gen.specs.Generated.{next_name, object_named, generated}
use Rattle.loom_gen.proofs.NameLaws.{never, bounded-at}
use Rattle.loom_gen.proofs.NumberLaws.{odd-at}
use Rattle.loom_gen.proofs.ImageLaws.{name-at, object-named}

-- ---- one object

size-fits : (body : Body) → HasSize body → Fits body
size-fits (Pointers values) size = size
size-fits (Words words) size = size
size-fits (Bytes bytes) size = size
size-fits (Method header literals code) size = tt

pub object-fits : (number n : ℕ) (o : Object) → number ≤ 19 → Some o ≡ object_named number n → Fits o.body
object-fits number n o small e = size-fits o.body (object-named number n o small (sym e)).body.size

-- it was added under its name
pub added : (number name : ℕ) (o : Object) (old new : ℕ → Option Object) → Some o ≡ object_named number name → ((n : ℕ) → new n ≡ cond (eqb n name) (Some o) (old n)) → (n : ℕ) → new n ≡ cond (eqb n name) (object_named number n) (old n)
added number name o old new is put n = put n ∙ go (eqb n name) refl
  where
    go : (b : Bool) → eqb n name ≡ b → cond b (Some o) (old n) ≡ cond b (object_named number n) (old n)
    go true same = is ∙ ap (object_named number) (sym (eqb-true n name same))
    go false other = refl

-- there is none, and there was none
pub skipped : (number name : ℕ) (old : ℕ → Option Object) → None ≡ object_named number name → old name ≡ None → (n : ℕ) → old n ≡ cond (eqb n name) (object_named number n) (old n)
skipped number name old none absent n = go (eqb n name) refl
  where
    go : (b : Bool) → eqb n name ≡ b → old n ≡ cond b (object_named number n) (old n)
    go true same = let e = eqb-true n name same in ap old e ∙ absent ∙ none ∙ ap (object_named number) (sym e)
    go false other = refl

-- ---- the objects below a name

abbrev pub HasBelow : ℕ → ℕ → (ℕ → Option Object) → Type 0
HasBelow number low at = (n : ℕ) → at n ≡ cond (nat_lt n low) (object_named number n) None

lowest-at : (number n : ℕ) → n < 2 → object_named number n ≡ None
lowest-at number n low = never (object_named number n) (λ o e. let is = name-at number n o e in let above = is.above in let even = is.even in omega arith)

pub starts : (number : ℕ) (at : ℕ → Option Object) → ((n : ℕ) → at n ≡ None) → HasBelow number 2 at
starts number at none n = none n ∙ go (nat_lt n 2) refl
  where
    go : (b : Bool) → nat_lt n 2 ≡ b → None ≡ cond b (object_named number n) None
    go true low = sym (lowest-at number n (ltb-true n 2 low))
    go false high = refl

pub absent-at : (number low name : ℕ) (at : ℕ → Option Object) → name ≡ low → HasBelow number low at → at name ≡ None
absent-at number low name at same below = below name ∙ ap (λ (b : Bool). cond b (object_named number name) None) (le-ltb name low (omega arith))

pub goes-on : (number index name : ℕ) (old new : ℕ → Option Object) → name ≡ 2 * index → HasBelow number (2 * index) old → ((n : ℕ) → new n ≡ cond (eqb n name) (object_named number n) (old n)) → HasBelow number (2 * (index + 1)) new
goes-on number index name old new named below put n = put n ∙ go (eqb n name) refl
  where
    last : (b : Bool) → nat_lt n (2 * (index + 1)) ≡ b → (n ≡ 2 * index → ⊥) → 2 * index ≤ n → None ≡ cond b (object_named number n) None
    last true low other high = let under = ltb-true n (2 * (index + 1)) low in sym (odd-at number n (odd n index under other high))
      where
        odd : (n i : ℕ) → n < 2 * (i + 1) → (n ≡ 2 * i → ⊥) → 2 * i ≤ n → n % 2 ≡ 1
        odd n i under other high = omega arith
    last false low other high = refl

    next : (b : Bool) → nat_lt n (2 * index) ≡ b → (n ≡ 2 * index → ⊥) → cond b (object_named number n) None ≡ cond (nat_lt n (2 * (index + 1))) (object_named number n) None
    next true low other = let under = ltb-true n (2 * index) low in sym (ap (λ (b : Bool). cond b (object_named number n) None) (lt-ltb n (2 * (index + 1)) (omega arith)))
    next false high other = last (nat_lt n (2 * (index + 1))) refl other (ltb-false n (2 * index) high)

    go : (b : Bool) → eqb n name ≡ b → cond b (object_named number n) (old n) ≡ cond (nat_lt n (2 * (index + 1))) (object_named number n) None
    go true same = let e = eqb-true n name same in sym (ap (λ (b : Bool). cond b (object_named number n) None) (lt-ltb n (2 * (index + 1)) (omega arith)))
    go false other = below n ∙ next (nat_lt n (2 * index)) refl (λ same. eqb-false n name other (same ∙ sym named))

pub ends : (number low : ℕ) (at : ℕ → Option Object) → next_name number ≤ low → HasBelow number low at → (n : ℕ) → at n ≡ object_named number n
ends number low at all below n = below n ∙ go (nat_lt n low) refl
  where
    go : (b : Bool) → nat_lt n low ≡ b → cond b (object_named number n) None ≡ object_named number n
    go true is = refl
    go false is = let high = ltb-false n low is in sym (bounded-at number n (omega arith))

-- ---- the heap

pub built-is : (b : Builder) (number next : ℕ) → next ≡ next_name number → ((n : ℕ) → object_at b n ≡ object_named number n) → built_heap b next ≡ generated number
built-is b number next same each =
    ap (λ (n : ℕ). built_heap b n) same
    ∙ ap (λ (f : ℕ → Option Object). let h : Heap = record { at = f; next = next_name number } in h) (fun_ext each)
