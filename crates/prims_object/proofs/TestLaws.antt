-- What tests of registers and of values say.
use Rattle.std.proofs.Common.{◌≡◌, ℕ, ◌↔◌, Bool, true, false, ◌||◌, List, [], ◌∷◌, eqb, Option, Some, None, Result, Ok, Err, OnOk, IsTrue, IfSome, is_some, refl, ap, subst, arith}
use Rattle.std.proofs.lemmas.Grind.{common_steps}
use Rattle.long_names.specs.declared.value.Value.{Value}
use Rattle.long_names.specs.declared.value.Value.TheVariants.{Int, Ref}
use Rattle.long_names.specs.declared.object.Object.{Object}
use Rattle.long_names.specs.Objects.{int_of}
use Rattle.long_names.specs.State.{IsRef}
use Rattle.object_memory.specs.Told.{Told, IsReady}
use Rattle.object_memory.specs.Shape.{is_among, Looks}
use Rattle.object_memory.proofs.LooksLaws.{neither, not_among, Looks-weaker, Looks-trans}
use Rattle.blue_model.specs.declared.cpu.Cpu.{Cpu}
use Rattle.blue_model.specs.Machine.{done}
use Rattle.blue_model.specs.Trials.{peek}
use Rattle.contexts.specs.Serves.{Serves}
use Rattle.contexts.proofs.Steps.{done_serves}

-- a test that wasn't passed
pub differs : (b : Bool) (P : Type 0) → (IsTrue b ↔ P) → b ≡ false → P → ⊥
differs true P test e p = let no : ◌≡◌ {A = Bool} true false = e in absurd (cc)
differs false P test e p = let no : ◌≡◌ {A = Bool} false true = test.1 p in absurd (cc)

-- what was found has what all that may be found has
pub of_some : {A : Type 0} {o : Option A} (P : A → Type 0) (a : A) → o ≡ Some a → IfSome o P → P a
of_some {A} {o} P a e p = subst (λ x. IfSome x P) e p

-- what holds of an answer, by what held of it before
pub on_ok : {A E P Q : Type 0} (r : Result A E) → (P → Q) → OnOk r P → OnOk r Q
on_ok (Ok a) f p = f p
on_ok (Err e) f p = p

-- reads that filled two registers, in the other order
pub looks_swapped : (j k : ℕ) (a b : Told) → Looks (k ∷ j ∷ []) a b → Looks (j ∷ k ∷ []) a b
looks_swapped j k a b x = Looks-weaker (k ∷ j ∷ []) (j ∷ k ∷ []) a b (λ r e. other (eqb r j) (eqb r k) e) x
  where
    other : (p q : Bool) → (p || (q || false)) ≡ false → (q || (p || false)) ≡ false
    other true q e = let no : ◌≡◌ {A = Bool} true false = e in absurd (cc)
    other false true e = let no : ◌≡◌ {A = Bool} true false = e in absurd (cc)
    other false false e = refl

-- reads that filled two registers, and reads that filled the second again
pub looks_more : (j k : ℕ) (a b c : Told) → IsReady b → Looks (j ∷ k ∷ []) a b → Looks (k ∷ []) b c → Looks (j ∷ k ∷ []) a c
looks_more j k a b c ready x y = Looks-weaker (j ∷ k ∷ k ∷ []) (j ∷ k ∷ []) a c (λ r e. again (eqb r j) (eqb r k) e) (Looks-trans (j ∷ k ∷ []) (k ∷ []) a b c ready x y)
  where
    again : (p q : Bool) → (p || (q || false)) ≡ false → (p || (q || (q || false))) ≡ false
    again true q e = let no : ◌≡◌ {A = Bool} true false = e in absurd (cc)
    again false true e = let no : ◌≡◌ {A = Bool} true false = e in absurd (cc)
    again false false e = refl

-- reads that filled the first of these registers
pub looks_first : (k : ℕ) (xs : List ℕ) (a b : Told) → Looks (k ∷ []) a b → Looks (k ∷ xs) a b
looks_first k xs a b x = Looks-weaker (k ∷ []) (k ∷ xs) a b (λ r e. ap (λ b. b || false) (neither (eqb r k) (is_among xs r) e).0) x

-- a register that is neither of two
pub not_both : (j k r : ℕ) → (r ≡ j → ⊥) → (r ≡ k → ⊥) → is_among (j ∷ k ∷ []) r ≡ false
not_both j k r apart other = go (eqb r j) refl
  where
    go : (b : Bool) → eqb r j ≡ b → (b || is_among (k ∷ []) r) ≡ false
    go true e = let same : r ≡ j = grind (arith, common_steps, e) in absurd (apart same)
    go false e = not_among k r other

-- two registers that a test tells apart
pub unequal : (a b : ℕ) → eqb a b ≡ false → a ≡ b → ⊥
unequal a b is e = grind (arith, common_steps)

-- an answer that was found in other words
pub done_as : {A : Type 0} {t : Told} {cpu : Cpu} (a b : A) → a ≡ b → IsReady t → Serves t cpu t cpu (done a) (Ok b)
done_as {A} {t} {cpu} a b e ready = subst (λ x. Serves t cpu t cpu (done a) (Ok x)) e (done_serves ready)

-- ---- numbers and names

pub is_number : (v : Value) → (IsRef v → ⊥) → is_some (int_of v) ≡ true
is_number (Int z) unnamed = refl
is_number (Ref n) unnamed = absurd (unnamed tt)

pub is_name : (v : Value) → IsRef v → is_some (int_of v) ≡ false
is_name (Int z) named = absurd named
is_name (Ref n) named = refl

-- a number has no parts, and isn't looked at
pub unnamed_serves : {A : Type 0} {t : Told} {cpu : Cpu} (f : Object → Option A) (v : Value) → (IsRef v → ⊥) → IsReady t → Serves t cpu t cpu (peek f v) (Ok None)
unfolding peek
unnamed_serves f (Int z) unnamed ready = done_serves ready
unnamed_serves f (Ref n) unnamed ready = absurd (unnamed tt)
